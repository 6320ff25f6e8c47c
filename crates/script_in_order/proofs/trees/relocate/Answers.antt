use Rattle.std.proofs.Common.{◌∙◌, List, ℕ, [], ap}
use Rattle.tree_fold.proofs.CallerLemmas.{move_fits}
use Rattle.tree_fold.specs.Readings.{below_root_of, move_of}
use Rattle.world_code.specs.WorldView.{world_of}
use Rattle.script_in_order.proofs.CommandKinds.{all_do}
use Rattle.script_in_order.proofs.TreeSteps.{may_be, said_so}
use Rattle.script_in_order.proofs.trees.relocate.Goals as goal

pub change-requires-clause-may : goal.change-requires-clause-may
change-requires-clause-may c =
    may_be c.in_ok-said.said (move_of (below_root_of c.args.source.now) (below_root_of c.args.target.now))
    (c.in_ok-said.ensures ∙ (ap (λ (p : List ℕ). move_of (below_root_of p) (below_root_of c.as_bytes-2.result.now)) c.as_bytes.ensures
    ∙ ap (λ (p : List ℕ). move_of (below_root_of c.args.source.now) (below_root_of p)) c.as_bytes-2.ensures))
    (move_fits c.args.source.now c.args.target.now)

pub returns-clause-ok : goal.returns-clause-ok
returns-clause-ok c =
    let w = world_of c.args.world.now in
    let new = world_of c.change.new.world in
    all_do c.args.objects.now c.args.command.now c.requires.asks c.change.result w new []
    (said_so c.args.objects.now c.args.command.now c.args.object c.in_ok-said.said
    (move_of (below_root_of c.args.source.now) (below_root_of c.args.target.now)) w new c.change.result
    (c.in_ok-said.ensures ∙ (ap (λ (p : List ℕ). move_of (below_root_of p) (below_root_of c.as_bytes-2.result.now)) c.as_bytes.ensures
    ∙ ap (λ (p : List ℕ). move_of (below_root_of c.args.source.now) (below_root_of p)) c.as_bytes-2.ensures))
    c.change.ensures.ok)
