use Rattle.std.proofs.Common.{◌≡◌, List, get_or, set, sym, subst, arith}
use Rattle.world_code.specs.WorldView.{world_of}
use Rattle.std.specs.Vec.{with_item}
use Rattle.script_in_order.specs.declared.folds.Fold.{Fold}
use Rattle.script_in_order.specs.declared.folds.Fold.TheVariants as folds
use Rattle.script_in_order.specs.Folds.{AreFolded}
use Rattle.script_in_order.proofs.CausalKept.{IsCausalOf, causal_of, causal_put, no_other, there_in}
use Rattle.script_in_order.proofs.FoldsKept.{causal_with}
use Rattle.script_in_order.proofs.folds.Folds.values.Goals as goal

pub index_mut-map-requires : goal.index_mut-map-requires
index_mut-map-requires c =
    let w = world_of c.args.world.now in
    let m = c.requires.may in
    let there = subst (λ (l : List Fold). c.index_mut.result.now ≡ get_or l c.args.object c.index_mut.result.now) c.self.view_is
    c.index_mut.ensures.value in
    let f = subst (IsCausalOf w c.args.colour) c.in-Causal.is
    (causal_of w m.0 c.args.self.now c.args.object c.args.colour c.index_mut.result.now m.1 m.2 there) in
    let e = f.all in let lt = c.requires.region in omega (arith, e, lt)

pub values-requires-clause-fold : goal.values-requires-clause-fold
values-requires-clause-fold c =
    let w = world_of c.args.world.now in
    let m = c.requires.may in
    let there = subst (λ (l : List Fold). c.index_mut.result.now ≡ get_or l c.args.object c.index_mut.result.now) c.self.view_is
    c.index_mut.ensures.value in
    let f = subst (IsCausalOf w c.args.colour) c.in-Causal.is
    (causal_of w m.0 c.args.self.now c.args.object c.args.colour c.index_mut.result.now m.1 m.2 there) in
    f.each c.args.region c.index_mut-map.result.now
    (there_in c.in-Causal.folds.items c.args.region c.index_mut-map.result.now
    (let e = f.all in let lt = c.requires.region in omega (arith, e, lt)) c.index_mut-map.ensures.value)

pub unreachable-requires : goal.unreachable-requires
unreachable-requires c =
    let w = world_of c.args.world.now in
    let m = c.requires.may in
    let there = subst (λ (l : List Fold). c.index_mut.result.now ≡ get_or l c.args.object c.index_mut.result.now) c.self.view_is
    c.index_mut.ensures.value in
    no_other w c.args.colour c.index_mut.result.now
    (causal_of w m.0 c.args.self.now c.args.object c.args.colour c.index_mut.result.now m.1 m.2 there)
    c.in_default.not-Causal

pub returns-clause-folded : goal.returns-clause-folded
returns-clause-folded c = λ objects is folded.
    let w = world_of c.args.world.now in
    let new : Fold = folds.Causal (with_item c.in-Causal.folds c.args.region c.values.new.map) in
    let there = subst (λ (l : List Fold). c.index_mut.result.now ≡ get_or l c.args.object c.index_mut.result.now) c.self.view_is
    c.index_mut.ensures.value in
    let f = subst (IsCausalOf w c.args.colour) c.in-Causal.is
    (causal_of w objects c.args.self.now c.args.object c.args.colour c.index_mut.result.now folded is there) in
    subst (λ (l : List Fold). AreFolded w objects (set l c.args.object new)) (sym c.self.view_is)
    (causal_put w objects c.args.self.now c.args.object c.args.colour new folded is
    (causal_with w c.args.colour c.in-Causal.folds.items c.args.region c.values.new.map f c.values.ensures.fold))
