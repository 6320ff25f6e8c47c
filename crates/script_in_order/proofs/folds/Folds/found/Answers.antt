use Rattle.std.proofs.Common.{◌≡◌, List, get_or, set, sym, subst}
use Rattle.world_code.specs.WorldView.{world_of}
use Rattle.script_in_order.specs.declared.folds.Fold.{Fold}
use Rattle.script_in_order.specs.declared.folds.Fold.TheVariants as folds
use Rattle.script_in_order.specs.Folds.{AreFolded}
use Rattle.script_in_order.specs.declared.tx_folds.TxFolds.{TxFolds}
use Rattle.script_in_order.proofs.FoldsKept.{map_with, tx_of, none_else, tx_put}
use Rattle.script_in_order.proofs.folds.Folds.found.Goals as goal

pub found-requires-clause-folded : goal.found-requires-clause-folded
found-requires-clause-folded c =
    let m = c.requires.may in
    let there = subst (λ (l : List Fold). c.index_mut.result.now ≡ get_or l c.args.object c.index_mut.result.now)
    c.self.view_is c.index_mut.ensures.value in
    (tx_of (world_of c.args.world.now) m.0 c.args.self.now c.args.object m.2 m.1 c.index_mut.result.now c.in-Tx.fold there
    c.in-Tx.is).map

pub unreachable-requires : goal.unreachable-requires
unreachable-requires c =
    let m = c.requires.may in
    let there = subst (λ (l : List Fold). c.index_mut.result.now ≡ get_or l c.args.object c.index_mut.result.now)
    c.self.view_is c.index_mut.ensures.value in
    none_else (world_of c.args.world.now) m.0 c.args.self.now c.args.object m.2 m.1 c.index_mut.result.now there
    c.in_default.not-Tx

pub returns-clause-folded : goal.returns-clause-folded
returns-clause-folded c = λ objects is folded.
    let w = world_of c.args.world.now in
    let there = subst (λ (l : List Fold). c.index_mut.result.now ≡ get_or l c.args.object c.index_mut.result.now)
    c.self.view_is c.index_mut.ensures.value in
    let old = tx_of w objects c.args.self.now c.args.object folded is c.index_mut.result.now c.in-Tx.fold there c.in-Tx.is in
    let new : TxFolds = record c.in-Tx.fold { map = c.found.new.self } in
    subst (λ (l : List Fold). AreFolded w objects (set l c.args.object (folds.Tx new))) (sym c.self.view_is)
    (tx_put w objects c.args.self.now c.args.object folded is new
    (map_with w is.found.kind c.in-Tx.fold c.found.new.self old c.found.ensures.folded))
