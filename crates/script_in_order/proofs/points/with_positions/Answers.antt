use Rattle.std.proofs.Common.{◌≡◌, ◌∙◌, ap, sym, subst, ◌<◌, ◌≤◌, arith, ℕ, length, List, get_or, set}
use Rattle.log_node.specs.declared.node.At.TheVariants.{Event}
use Rattle.report_text.specs.declared.report.PointPiece.{PointPiece}
use Rattle.world_laws.specs.Laws.{IsFinal}
use Rattle.world_laws.specs.Worlds.{home_history}
use Rattle.world_code.specs.WorldView.{world_of}
use Rattle.script_in_order.specs.Points.{standing_in}
use Rattle.script_in_order.proofs.ListsChanged.{changed, changed_at, changed_more, changed_all, take_front}
use Rattle.script_in_order.proofs.points.with_positions.Goals as goal

abbrev none : PointPiece
none = record { colour = 0; at = Event 0; position = 0 }

within : (index : ℕ) (items all : List PointPiece) → index < length items → items ≡ all → index < length all
within index items all low is = subst (λ (l : List PointPiece). index < length l) is low

there : (f : PointPiece → PointPiece) (index : ℕ) (now all : List PointPiece) → now ≡ changed f index all
    → index < length all
    → get_or now index none ≡ get_or all index none
there f index now all is low = ap (λ (l : List PointPiece). get_or l index none) is ∙ changed_at f index all none low

pub position-point-requires-clause-colour : goal.position-point-requires-clause-colour
position-point-requires-clause-colour c =
    let low = within c.loop-point.point-index c.deref_mut-point-items.result.now c.args.points.items
    c.loop-point-test.true
    c.deref_mut-point-items.ensures.value in
    subst (λ (p : PointPiece). p.colour < c.args.world.now.shape.colours)
    (sym (there (standing_in (world_of c.args.world.now) c.args.client c.args.key.id) c.loop-point.point-index
    c.loop-point.point-items c.args.points.items c.loop-point.invariant low))
    (c.requires.within c.loop-point.point-index none low)

pub position-point-requires-clause-stamped : goal.position-point-requires-clause-stamped
position-point-requires-clause-stamped c =
    let low = within c.loop-point.point-index c.deref_mut-point-items.result.now c.args.points.items
    c.loop-point-test.true
    c.deref_mut-point-items.ensures.value in
    subst (λ (p : PointPiece). IsFinal (home_history (world_of c.args.world.now) c.args.client p.colour) c.args.key.id
    c.args.key.stamp)
    (sym (there (standing_in (world_of c.args.world.now) c.args.client c.args.key.id) c.loop-point.point-index
    c.loop-point.point-items c.args.points.items c.loop-point.invariant low))
    (c.requires.stamped c.loop-point.point-index none low)

pub loop-point-preserved : goal.loop-point-preserved
loop-point-preserved c =
    let low = within c.loop-point.point-index c.deref_mut-point-items.result.now c.args.points.items
    c.loop-point-test.true
    c.deref_mut-point-items.ensures.value in
    let f = standing_in (world_of c.args.world.now) c.args.client c.args.key.id in
    let p = get_or c.loop-point.point-items c.loop-point.point-index none in
    let at = there f c.loop-point.point-index c.loop-point.point-items c.args.points.items c.loop-point.invariant low in
    let x : PointPiece = record { colour = p.colour; at = p.at; position = c.position-point.result } in
    let is : x ≡ f p =
    ap (λ (n : ℕ). let y : PointPiece = record { colour = p.colour; at = p.at; position = n } in y)
    c.position-point.ensures in
    ap (λ (l : List PointPiece). set l c.loop-point.point-index x) c.loop-point.invariant
    ∙ changed_more f c.loop-point.point-index c.args.points.items x none low (is ∙ ap f at)

beyond : (index : ℕ) (items all : List PointPiece) → length items ≤ index → items ≡ all → length all ≤ index
beyond index items all low is = subst (λ (l : List PointPiece). length l ≤ index) is low

pub returns : goal.returns
returns c =
    let ok = c.args.points.ok in
    let same = ap length c.deref_mut-point-items.ensures.value in
    let long = c.loop-point.auto.point-items in
    c.many.ensures ∙ (c.from.ensures ∙ (take_front c.loop-point.point-items _ c.args.points.len (omega (arith, ok, same, long))
    ∙ (c.loop-point.invariant
    ∙ changed_all (standing_in (world_of c.args.world.now) c.args.client c.args.key.id) c.loop-point.point-index
    c.args.points.items (beyond c.loop-point.point-index c.deref_mut-point-items.result.now c.args.points.items
    c.loop-point-test.false c.deref_mut-point-items.ensures.value))))
