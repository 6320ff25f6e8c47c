use Rattle.std.proofs.Common.{◌≡◌, ℕ, [], Option, Some, get_or, sym, subst}
use Rattle.std.specs.Prelude.{IfOk}
use Rattle.report_text.specs.declared.report.Answer.{Answer}
use Rattle.script_text.specs.declared.script.Kind.{Kind}
use Rattle.script_text.specs.declared.script.Kind.TheVariants as kinds
use Rattle.world_code.specs.WorldView.{world_of}
use Rattle.world_laws.specs.Worlds.{home_of}
use Rattle.lawful_run.proofs.CallerLemmas.{get_within}
use Rattle.script_meaning.specs.States.{kind_in}
use Rattle.script_meaning.specs.Gets.{got}
use Rattle.script_in_order.specs.Doing.{DoneBy}
use Rattle.script_in_order.proofs.CausalKept.{kind_at}
use Rattle.script_in_order.proofs.ObjectHomes.{map_home}
use Rattle.script_in_order.proofs.ObjectSteps.{has_kind, map_kinds}
use Rattle.script_in_order.proofs.CommandKinds.{all_do}
use Rattle.script_in_order.proofs.gets.get.Goals as goal

-- a get is of a map or a causal map
pub unreachable-requires : goal.unreachable-requires
unreachable-requires c =
    map_kinds (get_or c.args.objects.now c.args.object c.index-objects-object.result).kind
    (has_kind c.args.objects.now c.args.object c.index-objects-object.result c.requires.uses.0)
    c.in_default.not-Map c.in_default.not-Causal

pub returns-in-Map-clause-ok : goal.returns-in-Map-clause-ok
returns-in-Map-clause-ok c =
    let uses = c.requires.uses.0 in
    let is : kind_in c.args.objects.now c.args.object ≡ Some (kinds.Map c.in-Map.home c.in-Map.colours) =
    kind_at c.args.objects.now c.args.object c.index-objects-object.result _
    (get_within c.args.objects.now c.args.object uses.found uses.there) c.in-Map.is in
    let own : ℕ = home_of (world_of c.args.world.now) c.args.command.now.client in
    let kind : kind_in c.args.objects.now c.args.object ≡ Some (kinds.Map own c.in-Map.colours) =
    map_home own c.args.objects.now c.args.object c.requires.near c.in-Map.home c.in-Map.colours is in
    all_do c.args.objects.now c.args.command.now c.requires.asks c.get_value.result (world_of c.args.world.now) (world_of c.get_value.new.world) []
    (subst (λ (k : Option Kind). IfOk c.get_value.result (λ (answer : Answer). DoneBy
    (λ grants state. got grants state c.args.command.now k c.args.key.now) c.args.command.now (world_of c.args.world.now)
    (world_of c.get_value.new.world) answer [])) (sym kind) (c.get_value.ensures.ok c.in-Map.colours kind))

pub returns-in-Causal-clause-ok : goal.returns-in-Causal-clause-ok
returns-in-Causal-clause-ok c =
    let uses = c.requires.uses.0 in
    let kind : kind_in c.args.objects.now c.args.object ≡ Some (kinds.Causal c.in-Causal.colour) =
    kind_at c.args.objects.now c.args.object c.index-objects-object.result _
    (get_within c.args.objects.now c.args.object uses.found uses.there) c.in-Causal.is in
    all_do c.args.objects.now c.args.command.now c.requires.asks c.get_values.result (world_of c.args.world.now) (world_of c.get_values.new.world) []
    (subst (λ (k : Option Kind). IfOk c.get_values.result (λ (answer : Answer). DoneBy
    (λ grants state. got grants state c.args.command.now k c.args.key.now) c.args.command.now (world_of c.args.world.now)
    (world_of c.get_values.new.world) answer [])) (sym kind) c.get_values.ensures.ok)
