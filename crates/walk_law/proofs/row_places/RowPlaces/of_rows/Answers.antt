use Rattle.std.proofs.Common.{◌≡◌, ◌∙◌, ◌+◌, ◌-◌, ◌<◌, length, ℕ, sym, subst, refl, arith}
use Rattle.walk_law.proofs.RowPlaceLemmas.{AreFrom, place_more, place_none}
use Rattle.walk_law.proofs.row_places.RowPlaces.of_rows.Goals as goal

pub loop-at-init : goal.loop-at-init
loop-at-init c = (omega arith, place_none c.args.rows.now (length c.args.rows.now) c.new-places.result refl c.new-places.ensures)

pub loop-at-preserved : goal.loop-at-preserved
loop-at-preserved c =
    let rows = c.args.rows.now in
    let at = c.loop-at.at - 1 in
    let low = c.loop-at.invariant.0 in
    let more = c.loop-at-test.true in
    let here : at + 1 ≡ c.loop-at.at = omega (arith, more) in (
      omega (arith, low),
      place_more rows at c.index-rows-at.result c.loop-at.places c.put.new.self (omega (arith, low, more)) c.index-rows-at.is
          c.in_ok-put.ensures (subst (λ (n : ℕ). AreFrom rows n c.loop-at.places) (sym here) c.loop-at.invariant.1),
    )

pub returns : goal.returns
returns c =
    let none = c.loop-at-test.false in
    subst (λ (n : ℕ). AreFrom c.args.rows.now n c.loop-at.places) (let e : c.loop-at.at ≡ 0 = omega (arith, none) in e)
    c.loop-at.invariant.1
