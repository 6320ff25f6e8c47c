-- What follows from what an append's answer says.
use Rattle.std.proofs.Common.{◌≡◌, ℕ, suc, ◌+◌, ◌<◌, ◌≤◌, max, List, [], ◌∷◌, length, refl, sym, subst, arith, take_all}
use Rattle.std.specs.List.{All}
use Rattle.std.proofs.lemmas.List.Elements.{All-map, All-weaker}
use Rattle.log_node.specs.declared.node.At.{At}
use Rattle.log_node.specs.declared.node.At.TheVariants.{Event, Look}
use Rattle.log_node.specs.declared.node.Node.{Node}
use Rattle.col_core.specs.declared.Entry.{Entry}
use Rattle.col_core.specs.Appending.{EntersBehind, StandsUnder, IsClosedFor}
use Rattle.col_core.specs.Log.{Log}
use Rattle.col_core.specs.Keeping.{Kept, kept_after_point, seen_after, seen_past, with_made, with_floor, with_row}
use Rattle.report_text.specs.declared.report.PointPiece.{PointPiece}
use Rattle.lawful_run.specs.Callers.{Caller}
use Rattle.lawful_run.specs.Appends.{StandsAt, AppendsSeveral, AppendsUnshown, several_unshown, kept_after_points, IsSettledIn}
use Rattle.lawful_run.proofs.Prefixes.{get_within}

module _ (unseen : ℕ) (history : List Entry) (client : ℕ) (node : Node) (colour : ℕ) where
  -- what a point sees of its column is behind what was seen
  pub enters_after : (at : At) → EntersBehind unseen history client node colour at → unseen ≤ seen_after at
  enters_after (Event place) e = let l = e.0 in omega (arith, l)
  enters_after (Look seen) e = e.0

  -- and is there
  pub enters_within : (at : At) → EntersBehind unseen history client node colour at → seen_after at ≤ length history
  enters_within (Event place) e = let l = get_within history place e.1 e.2 in omega (arith, l)
  enters_within (Look seen) e = e.1

  -- what entered behind so many events entered behind fewer
  pub enters_lower : (fewer : ℕ) → fewer ≤ unseen → (at : At) → EntersBehind unseen history client node colour at
      → EntersBehind fewer history client node colour at
  enters_lower fewer le (Event place) e = let l = e.0 in (omega (arith, l, le), e.1, e.2, e.3, e.4)
  enters_lower fewer le (Look seen) e = let l = e.0 in (omega (arith, l, le), e.1, e.2, e.3, e.4, e.5, e.6, e.7)

-- what points leave as it was
pub record PointsLeave (kept after : Kept) : Type 0 where
  pub floor : after.floor ≡ kept.floor
  pub starts : after.starts ≡ kept.starts
  pub made : after.made ≡ kept.made
  pub ids : after.ids ≡ kept.ids
  pub rows : after.rows ≡ kept.rows
  pub reads : after.reads ≡ kept.reads

pub points_leave : (own : ℕ) (kept : Kept) (points : List PointPiece) → PointsLeave kept (kept_after_points kept own points)
points_leave own kept [] = record { floor = refl; starts = refl; made = refl; ids = refl; rows = refl; reads = refl }
points_leave own kept (p ∷ points) =
    let l = points_leave own (kept_after_point kept own p.colour p.at p.position) points in
    record { floor = l.floor; starts = l.starts; made = l.made; ids = l.ids; rows = l.rows; reads = l.reads }

-- what is seen of events at places within a history is within it
pub past_within : (n seen : ℕ) (places : List ℕ) → seen ≤ n → All (λ place. place < n) places → seen_past seen places ≤ n
past_within n seen [] le all = le
past_within n seen (place ∷ places) le all =
    let lt = all 0 place (omega arith) in
    past_within n (max seen (place + 1)) places (omega (arith, le, lt))
    (λ k d within. all (suc k) d (omega (arith, within)))

module _ (log : Log) (caller : Caller) (node : Node) where
  -- what is closed after all events is settled
  pub settled_by_now : (colour : ℕ) → IsClosedFor log (log.histories caller.own colour) node colour
      → IsSettledIn log caller node colour
  settled_by_now colour closed =
      let history = log.histories caller.own colour in (
        length history,
        omega arith,
        subst (λ (h : List Entry). IsClosedFor log h node colour)
            (sym (take_all (length history) history (omega arith))) closed,
      )

  -- what stands in several colours does so also where the answer does not show where
  pub unshown_too : (kept : Kept) (stamp : ℕ) (points : List PointPiece) (places : ℕ → List ℕ)
      → AppendsSeveral log caller kept node stamp points places
      → AppendsUnshown log caller kept node stamp (with_made (with_row (with_floor kept stamp)) caller.own places)
  unshown_too kept stamp points places s =
      let Stands : ℕ → Type 0 = λ colour.
      (position : ℕ) × StandsUnder (log.histories caller.own colour) node stamp position in
      several_unshown places s.begins s.outcome
      (subst (All Stands) s.colours
      (All-map Stands (λ (p : PointPiece). p.colour) points
      (All-weaker (StandsAt log caller kept node stamp) (λ (p : PointPiece). Stands p.colour)
      (λ p t. (p.position, t.stands)) points s.each)))
      s.above
