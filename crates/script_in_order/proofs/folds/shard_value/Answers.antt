use Rattle.std.proofs.Common.{◌∙◌, ℕ, List, Some, None, ap}
use Rattle.world_code.specs.WorldView.{world_of}
use Rattle.script_in_order.proofs.FoldsKept.{shard_answer, shard_on}
use Rattle.script_in_order.proofs.folds.shard_value.Goals as goal

pub returns-in-None-clause-value : goal.returns-in-None-clause-value
returns-in-None-clause-value c = λ colours old.
    shard_answer (world_of c.args.world.now) c.args.first colours c.args.key.now c.fold_to.new.kept None
    c.in_ok-fold_to.ensures.ok
    (shard_on (world_of c.args.world.now) c.args.first.region c.args.first.colour colours c.args.kept.now
    c.fold_to.new.kept c.fold_to.ensures.opened c.fold_to.ensures.folded old) (λ nodes i. c.in-None.ensures nodes i)

pub returns-in_ok-copied-in-Some-clause-value : goal.returns-in_ok-copied-in-Some-clause-value
returns-in_ok-copied-in-Some-clause-value c = λ colours old.
    shard_answer (world_of c.args.world.now) c.args.first colours c.args.key.now c.fold_to.new.kept
    (Some c.in_ok-copied-in-Some.field-0) c.in_ok-fold_to.ensures.ok
    (shard_on (world_of c.args.world.now) c.args.first.region c.args.first.colour colours c.args.kept.now
    c.fold_to.new.kept c.fold_to.ensures.opened c.fold_to.ensures.folded old)
    (λ nodes i. ap (λ (v : List ℕ). Some v) (c.in_ok-copied-in-Some.ensures ∙ c.as_bytes.ensures)
    ∙ c.in-Some.ensures nodes i)
