use Rattle.std.proofs.Common.{◌≡◌, ℕ, IfOk, arith}
use Rattle.part_fold.specs.Parts.{Part, part_value, undecided_after}
use Rattle.report_text.specs.declared.report.Answer.{Answer}
use Rattle.world_code.specs.WorldView.{world_of}
use Rattle.script_meaning.specs.Dequeues.{sync_now}
use Rattle.script_meaning.specs.Parts.{nodes_now, peek_answer}
use Rattle.script_in_order.proofs.PartSteps.{kept_line, kept_on, place_within, told_by}
use Rattle.script_in_order.proofs.tx_folds.TxFolds.peek.Goals as goal

pub index_mut-requires : goal.index_mut-requires
index_mut-requires c =
    let low = place_within c.args.world.now.shape.colours c.args.colours.now c.args.key.now c.args.self.now.parts.items
    c.place_of-place.result c.requires.colours c.requires.folded.parts.all c.place_of-place.ensures in
    let long = c.args.self.now.parts.ok.0 in
    omega (arith, low, long)

pub peek_part-requires-clause-folded : goal.peek_part-requires-clause-folded
peek_part-requires-clause-folded c =
    kept_line (world_of c.args.world.now) c.args.client c.args.world.now.shape.colours c.args.colours.now c.args.key.now
    c.requires.colours c.args.self.now c.requires.folded c.place_of-place.result c.shard_of-colour.result
    c.index_mut.result.now c.place_of-place.ensures c.shard_of-colour.ensures c.index_mut.ensures.value

pub returns-clause-answer : goal.returns-clause-answer
returns-clause-answer c =
    let w = world_of c.args.world.now in
    let client = c.args.client in
    let key = c.args.key.now in
    told_by w client c.args.world.now.shape.colours c.args.colours.now key c.requires.colours c.args.self.now
    c.requires.folded c.place_of-place.result c.shard_of-colour.result c.index_mut.result.now c.place_of-place.ensures
    c.shard_of-colour.ensures c.index_mut.ensures.value
    (λ (part : Part) (colour : ℕ). IfOk c.peek_part.result (λ (answer : Answer). answer
    ≡ peek_answer (undecided_after part (nodes_now w client colour)) (part_value part (nodes_now w client colour) key)
    (sync_now w client colour))) c.peek_part.ensures.answer

pub returns-clause-folded : goal.returns-clause-folded
returns-clause-folded c =
    kept_on (world_of c.args.world.now) c.args.client c.args.world.now.shape.colours c.args.colours.now c.args.key.now
    c.requires.colours c.args.self.now c.requires.folded c.place_of-place.result c.shard_of-colour.result
    c.index_mut.result.now c.place_of-place.ensures c.shard_of-colour.ensures c.index_mut.ensures.value
    c.peek_part.new.kept c.peek_part.ensures.part c.peek_part.ensures.folded
