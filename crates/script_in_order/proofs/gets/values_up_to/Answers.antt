use Rattle.std.proofs.Common.{◌≡◌, ◌≤◌, ◌∙◌, ℕ, Option, Some, length, ap, sym, subst, arith}
use Rattle.col_core.specs.History.{line}
use Rattle.playback.specs.Merging.{up_to}
use Rattle.object_fold.specs.Maps.{shard_value}
use Rattle.world_laws.specs.Worlds.{home_of, home_history}
use Rattle.script_text.specs.declared.script.Kind.{Kind}
use Rattle.script_text.specs.declared.script.Kind.TheVariants as kinds
use Rattle.lawful_run.specs.Asks.{object_colours, shards}
use Rattle.world_code.specs.WorldView.{world_of}
use Rattle.script_meaning.specs.States.{kind_in}
use Rattle.script_meaning.specs.Gets.{value_up_to}
use Rattle.script_in_order.specs.Folds.{nodes_at}
use Rattle.script_in_order.proofs.GetSteps.{place_low, shard_is, shard_low, shard_in, one_behind, value_there, answers_more}
use Rattle.script_in_order.proofs.gets.values_up_to.Goals as goal

pub bounds-objects-object : goal.bounds-objects-object
bounds-objects-object c =
    let at = c.requires.at_home in
    place_low c.args.objects.now c.args.object (home_of (world_of c.args.world.now) c.args.client) at.0 at.1

pub nodes_up_to-first-requires-clause-colour : goal.nodes_up_to-first-requires-clause-colour
nodes_up_to-first-requires-clause-colour c =
    let at = c.requires.at_home in
    let own = home_of (world_of c.args.world.now) c.args.client in
    shard_low c.args.objects.now c.args.object own at.0 at.1 c.args.world.now.shape.regions
    c.args.world.now.shape.colours c.requires.kinds c.shard-colour.result c.key-item.result
    (shard_is c.args.objects.now c.args.object own at.0 at.1 c.index-objects-object.result c.shard-colour.result
    c.as_bytes.result.now c.key-item.result c.shard-colour.ensures c.as_bytes.ensures)

pub value-requires-clause-behind : goal.value-requires-clause-behind
value-requires-clause-behind c =
    let w = world_of c.args.world.now in
    let at = c.requires.at_home in
    let own = home_of w c.args.client in
    one_behind c.loop-key.folds c.args.object
    (λ colour. length (up_to c.args.stamp (line (home_history w c.args.client colour))))
    (shards (object_colours (kind_in c.args.objects.now c.args.object)) c.args.keys.now)
    c.nodes_up_to-first.result c.shard-colour.result c.loop-key.invariant.behind
    (shard_in c.args.objects.now c.args.object own at.0 at.1 c.args.world.now.shape.regions
    c.args.world.now.shape.colours c.requires.kinds c.requires.few c.args.keys.now c.loop-key.key-index
    c.key-item.result c.shard-colour.result c.loop-key-test.true c.key-item.is
    (shard_is c.args.objects.now c.args.object own at.0 at.1 c.index-objects-object.result c.shard-colour.result
    c.as_bytes.result.now c.key-item.result c.shard-colour.ensures c.as_bytes.ensures))
    c.nodes_up_to-first.ensures.colour c.nodes_up_to-first.ensures.count

pub loop-key-preserved : goal.loop-key-preserved
loop-key-preserved c =
    let w = world_of c.args.world.now in
    let client = c.args.client in
    let at = c.requires.at_home in
    let own = home_of w client in
    let first = c.nodes_up_to-first.result in
    let first_is = c.nodes_up_to-first.ensures in
    let shard = c.shard-colour.result in
    let is = shard_is c.args.objects.now c.args.object own at.0 at.1 c.index-objects-object.result shard
    c.as_bytes.result.now c.key-item.result c.shard-colour.ensures c.as_bytes.ensures in
    let kind : kind_in c.args.objects.now c.args.object ≡ Some (kinds.Map first.region at.0) =
    at.1 ∙ ap (λ (h : ℕ). Some (kinds.Map h at.0)) (sym first_is.region) in
    let found : c.in_ok-value.value ≡ shard_value at.0 shard (nodes_at w first) c.key-item.result =
    c.in_ok-value.ensures.value c.args.objects.now at.0 kind c.loop-key.invariant.folded
    ∙ (ap (λ (x : ℕ). shard_value at.0 x (nodes_at w first) c.as_bytes-in-loop-key.result.now) first_is.colour
    ∙ ap (shard_value at.0 shard (nodes_at w first)) c.as_bytes-in-loop-key.ensures) in
    let value_is : c.in_ok-value.value
    ≡ value_up_to w client (object_colours (kind_in c.args.objects.now c.args.object)) c.args.stamp c.key-item.result =
    subst (λ (k : Option Kind). c.in_ok-value.value
    ≡ value_up_to w client (object_colours k) c.args.stamp c.key-item.result) (sym at.1)
    (value_there w client at.0 c.args.stamp c.key-item.result shard first c.in_ok-value.value is first_is.nodes found) in
    let low : first.count ≤ length (up_to c.args.stamp (line (home_history w client first.colour))) =
    subst (λ (x : ℕ). first.count ≤ length (up_to c.args.stamp (line (home_history w client x)))) (sym first_is.colour)
    (let e = first_is.count in omega (arith, e)) in record {
      values = c.in_ok-push.ensures.ok
          ∙ answers_more
          (value_up_to w client (object_colours (kind_in c.args.objects.now c.args.object)) c.args.stamp)
          c.args.keys.now c.loop-key.key-index c.key-item.result c.in_ok-key.key c.in_ok-value.value
          c.loop-key.answers c.loop-key-test.true c.key-item.is
          (c.in_ok-key.ensures ∙ c.as_bytes-in-loop-key-2.ensures) value_is c.loop-key.invariant.values;
      folded = c.in_ok-value.ensures.folded c.args.objects.now at.0 kind c.loop-key.invariant.folded;
      behind = c.in_ok-value.ensures.within
          (shards (object_colours (kind_in c.args.objects.now c.args.object)) c.args.keys.now)
          (λ colour. length (up_to c.args.stamp (line (home_history w client colour)))) c.loop-key.invariant.behind low;
    }
