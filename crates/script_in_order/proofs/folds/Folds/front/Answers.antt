use Rattle.std.proofs.Common.{◌≡◌, ℕ, List, Some, get_or, set, refl, ap, sym, subst, ◌∙◌}
use Rattle.world_laws.specs.Worlds.{World}
use Rattle.world_code.specs.WorldView.{world_of}
use Rattle.script_text.specs.declared.script.Object.{Object}
use Rattle.script_text.specs.declared.script.Kind.TheVariants as kinds
use Rattle.script_meaning.specs.States.{kind_in}
use Rattle.object_fold.specs.declared.kept_line.KeptLine.{KeptLine}
use Rattle.object_fold.specs.declared.queue.ValueQueue.{ValueQueue}
use Rattle.script_in_order.specs.declared.folds.Fold.{Fold}
use Rattle.script_in_order.specs.declared.folds.Fold.TheVariants as folds
use Rattle.script_in_order.specs.Folds.{IsQueueFold, IsFoldOf, AreFolded}
use Rattle.script_in_order.proofs.FoldsKept.{object_low, fold_there, fold_put, there_at, queue_fold, only_queue}
use Rattle.script_in_order.proofs.folds.Folds.front.Goals as goal

-- the fold of the object's queue
queue_of : (w : World) (objects : List Object) (all : List Fold) (object home colour : ℕ) (fold : Fold)
    (queue : KeptLine ValueQueue) → AreFolded w objects all → kind_in objects object ≡ Some (kinds.Queue home colour)
    → fold ≡ get_or all object fold → fold ≡ folds.Queue queue → IsQueueFold w home colour queue
queue_of w objects all object home colour fold queue f is there same =
    queue_fold w home colour queue
    (subst (IsFoldOf w (kinds.Queue home colour)) same
    (fold_there w objects all object (kinds.Queue home colour) f is fold there))

pub queue_front-requires-clause-there : goal.queue_front-requires-clause-there
queue_front-requires-clause-there c = c.requires.may.1.there

pub queue_front-requires-clause-behind : goal.queue_front-requires-clause-behind
queue_front-requires-clause-behind c =
    let w = world_of c.args.world.now in
    let m = c.requires.may in
    let there = subst (λ (l : List Fold). c.index_mut.result.now ≡ get_or l c.args.object c.index_mut.result.now)
    c.self.view_is c.index_mut.ensures.value in
    c.requires.behind c.in-Queue.kept
    (there_at c.args.self.now c.args.object c.index_mut.result.now
    (object_low w m.0 c.args.self.now c.args.object (kinds.Queue c.args.first.region c.args.first.colour) m.1.folded
    m.1.is_kind) there
    ∙ ap (λ (x : Fold). Some x) c.in-Queue.is)

pub queue_front-requires-clause-folded : goal.queue_front-requires-clause-folded
queue_front-requires-clause-folded c =
    let w = world_of c.args.world.now in
    let m = c.requires.may in
    let there = subst (λ (l : List Fold). c.index_mut.result.now ≡ get_or l c.args.object c.index_mut.result.now)
    c.self.view_is c.index_mut.ensures.value in
    queue_of w m.0 c.args.self.now c.args.object c.args.first.region c.args.first.colour c.index_mut.result.now
    c.in-Queue.kept m.1.folded m.1.is_kind there c.in-Queue.is

pub unreachable-requires : goal.unreachable-requires
unreachable-requires c =
    let w = world_of c.args.world.now in
    let m = c.requires.may in
    let there = subst (λ (l : List Fold). c.index_mut.result.now ≡ get_or l c.args.object c.index_mut.result.now)
    c.self.view_is c.index_mut.ensures.value in
    only_queue w c.args.first.region c.args.first.colour c.index_mut.result.now
    (fold_there w m.0 c.args.self.now c.args.object (kinds.Queue c.args.first.region c.args.first.colour) m.1.folded
    m.1.is_kind c.index_mut.result.now there) c.in_default.not-Queue

pub returns-clause-folded : goal.returns-clause-folded
returns-clause-folded c = λ objects is folded.
    let w = world_of c.args.world.now in
    let new : Fold = folds.Queue c.queue_front.new.kept in
    subst (λ (l : List Fold). AreFolded w objects (set l c.args.object new)) (sym c.self.view_is)
    (fold_put w objects c.args.self.now c.args.object (kinds.Queue c.args.first.region c.args.first.colour) folded is new
    (c.args.first.region, c.args.first.colour, refl, c.queue_front.ensures.folded))
