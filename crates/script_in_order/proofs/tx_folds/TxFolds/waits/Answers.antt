use Rattle.std.proofs.Common.{◌≡◌, ℕ, IfOk, Option, arith}
use Rattle.log_node.specs.declared.ids.Key.{Key}
use Rattle.part_fold.specs.Parts.{Part, undecided_after}
use Rattle.report_text.specs.declared.report.SyncPiece.{SyncPiece}
use Rattle.world_code.specs.WorldView.{world_of}
use Rattle.script_meaning.specs.Parts.{nodes_now}
use Rattle.script_in_order.proofs.PartSteps.{kept_line, kept_on, place_within, told_by}
use Rattle.script_in_order.proofs.tx_folds.TxFolds.waits.Goals as goal

pub index_mut-requires : goal.index_mut-requires
index_mut-requires c =
    let low = place_within c.args.world.now.shape.colours c.args.colours.now c.args.key.now c.args.self.now.parts.items
    c.place_of-place.result c.requires.colours c.requires.folded.parts.all c.place_of-place.ensures in
    let long = c.args.self.now.parts.ok.0 in
    omega (arith, low, long)

pub part_waits-requires-clause-folded : goal.part_waits-requires-clause-folded
part_waits-requires-clause-folded c =
    kept_line (world_of c.args.world.now) c.args.client c.args.world.now.shape.colours c.args.colours.now c.args.key.now
    c.requires.colours c.args.self.now c.requires.folded c.place_of-place.result c.shard_of-colour.result
    c.index_mut.result.now c.place_of-place.ensures c.shard_of-colour.ensures c.index_mut.ensures.value

pub returns-clause-waits : goal.returns-clause-waits
returns-clause-waits c =
    let w = world_of c.args.world.now in
    told_by w c.args.client c.args.world.now.shape.colours c.args.colours.now c.args.key.now c.requires.colours
    c.args.self.now c.requires.folded c.place_of-place.result c.shard_of-colour.result c.index_mut.result.now
    c.place_of-place.ensures c.shard_of-colour.ensures c.index_mut.ensures.value
    (λ (part : Part) (colour : ℕ). IfOk c.part_waits.result (λ (r : Option Key × SyncPiece).
    r.0 ≡ undecided_after part (nodes_now w c.args.client colour))) c.part_waits.ensures.waits

pub returns-clause-folded : goal.returns-clause-folded
returns-clause-folded c =
    kept_on (world_of c.args.world.now) c.args.client c.args.world.now.shape.colours c.args.colours.now c.args.key.now
    c.requires.colours c.args.self.now c.requires.folded c.place_of-place.result c.shard_of-colour.result
    c.index_mut.result.now c.place_of-place.ensures c.shard_of-colour.ensures c.index_mut.ensures.value
    c.part_waits.new.kept c.part_waits.ensures.part c.part_waits.ensures.folded
