-- An append to several colours that stands in all of them.
use Rattle.std.proofs.Common.{◌≡◌, ℕ, ◌+◌, ◌<◌, ◌≤◌, max, List, [], ◌∷◌, ◌++◌, length, ap, sym, subst, ◌∙◌, arith}
use Rattle.std.specs.List.{All}
use Rattle.std.proofs.lemmas.List.{length-map}
use Rattle.std.proofs.lemmas.List.Elements.{All-weaker, All-head, All-tail}
use Rattle.log_node.specs.declared.node.At.{At}
use Rattle.log_node.specs.declared.node.At.TheVariants.{Event, Look}
use Rattle.log_node.specs.declared.node.Node.{Node}
use Rattle.col_core.specs.History.{line, entry_key}
use Rattle.col_core.specs.Rows.{node_wants}
use Rattle.col_core.specs.Appending.{EntersBehind, StandsUnder}
use Rattle.col_core.specs.Keeping.{Kept, updated, seen_after, kept_after_point, with_made, with_floor, with_row}
use Rattle.report_text.specs.declared.report.PointPiece.{PointPiece}
use Rattle.lawful_run.specs.Callers.{Caller}
use Rattle.lawful_run.specs.Appends.{StandsAt, kept_after_points}
use Rattle.lawful_run.proofs.CallerLemmas.{enters_lower, enters_within, get_within, points_leave}
use Rattle.client_law.specs.Knowing.{Seen, Rest, log_seen, SeesOn}
use Rattle.client_law.specs.Kept.{AreUnder, IsKeptBy}
use Rattle.client_law.specs.Appends.{steps_since, SeesPoint, SeveralStand, KeptAfterSeveral}
use Rattle.client_law.proofs.Lists.{at_new, at_new_at}
use Rattle.client_law.proofs.Keeping.{keeps_on, under_node, seen_on, known_on, under_on}
use Rattle.client_law.proofs.Events.{at_column}
use Rattle.client_law.proofs.AppendOne.{stands_behind}
use Rattle.client_law.proofs.Above.{final_is_above}
use Rattle.client_law.proofs.Rows.{rows_begin, steps_seen, steps_made}

module _ (old new : Seen) (rest : Rest) (caller : Caller) (kept : Kept) (node : Node) (stamp : ℕ)
    (on : SeesOn caller old new) (k : IsKeptBy old caller kept) (floor_is : node.floor ≡ kept.floor) where
  -- the stamp is above the floor, by any point
  above_floor : (colour position : ℕ) (at : At)
      → EntersBehind (length (old caller.own colour)) (new caller.own colour) caller.client node colour at
      → StandsUnder (new caller.own colour) node stamp position → kept.floor < stamp
  above_floor colour position (Event place) e stands =
      let lt = final_is_above caller.own caller.regions (new caller.own colour) node (node_wants node colour) e.1 place
      position stamp (on.lawful caller.own colour) e.2 e.4 stands in
      omega (arith, lt, floor_is)
  above_floor colour position (Look seen) e stands =
      let lt = final_is_above caller.own caller.regions (new caller.own colour) node (node_wants node colour) e.4 e.2
      position stamp (on.lawful caller.own colour) e.5 e.7 stands in
      omega (arith, lt, floor_is)

  stands_at : (point : PointPiece) → SeesPoint old new caller node stamp point
      → StandsAt (log_seen new rest) caller kept node stamp point
  stands_at point s = record {
    entered = enters_lower (length (old caller.own point.colour)) (new caller.own point.colour) caller.client node
        point.colour (kept.seen caller.own point.colour) (k.seen_within caller.own point.colour) point.at s.entered;
    stands = s.stands;
    behind = stands_behind caller old new kept on k point.colour point.position (entry_key stamp node.id) s.stands
        (above_floor point.colour point.position point.at s.entered s.stands);
  }

  above_in : (points : List PointPiece) → All (SeesPoint old new caller node stamp) points → 0 < length points
      → kept.floor < stamp
  above_in [] all lt = absurd (let f : ⊥ = omega (arith, lt) in f)
  above_in (p ∷ ps) all lt =
      let s = All-head (SeesPoint old new caller node stamp) p ps all in
      above_floor p.colour p.position p.at s.entered s.stands

pub several_stand : SeveralStand
several_stand old new rest caller kept node stamp points on k s =
    let many = ap length s.colours in
    let as_many = length-map points (λ (p : PointPiece). p.colour) in
    let two = s.begun.several in
    record {
      begins = rows_begin old new rest caller kept node on s.begun;
      outcome = s.outcome;
      colours = s.colours;
      each = All-weaker (SeesPoint old new caller node stamp) (StandsAt (log_seen new rest) caller kept node stamp)
          (stands_at old new rest caller kept node stamp on k s.floor) points s.each;
      above = above_in old new rest caller kept node stamp on k s.floor points s.each (omega (arith, many, as_many, two));
    }

-- POINTS

-- after some points, within what is seen, where the known nodes have no stamp above this one
record Within (new : Seen) (caller : Caller) (stamp : ℕ) (kept : Kept) : Type 0 where
  seen_in : (r c : ℕ) → kept.seen r c ≤ length (new r c)
  known_in : (c : ℕ) → kept.known c ≤ length (line (new caller.own c))
  known_low : (c : ℕ) → AreUnder (new caller.own c) (kept.known c) stamp

module _ (old new : Seen) (caller : Caller) (node : Node) (stamp greater : ℕ) (on : SeesOn caller old new)
    (le : stamp ≤ greater) where
  after_point : (kept : Kept) (p : PointPiece) → SeesPoint old new caller node stamp p → Within new caller greater kept
      → Within new caller greater (kept_after_point kept caller.own p.colour p.at p.position)
  after_point kept p s w = record {
    seen_in = λ r c. at_new_at (λ (n : ℕ). n ≤ length (new r c)) kept.seen caller.own p.colour (seen_after p.at) r c
        (λ er ec. at_column (λ a b. seen_after p.at ≤ length (new a b)) r c caller.own p.colour er ec
        (enters_within (length (old caller.own p.colour)) (new caller.own p.colour) caller.client node p.colour p.at
        s.entered)) (λ _. w.seen_in r c);
    known_in = λ c. at_new (λ (n : ℕ). n ≤ length (line (new caller.own c))) kept.known p.colour (p.position + 1) c
        (λ e. subst (λ (d : ℕ). p.position + 1 ≤ length (line (new caller.own d))) (sym e)
        (let a = get_within (line (new caller.own p.colour)) p.position (entry_key stamp node.id) s.stands in
        omega (arith, a))) (λ _. w.known_in c);
    known_low = λ c. at_new (λ (n : ℕ). AreUnder (new caller.own c) n greater) kept.known p.colour (p.position + 1) c
        (λ e. subst (λ (d : ℕ). AreUnder (new caller.own d) (p.position + 1) greater) (sym e)
        (under_node caller.own caller.regions (new caller.own p.colour) (on.lawful caller.own p.colour) p.position
        (entry_key stamp node.id) greater s.stands le)) (λ _. w.known_low c);
  }

  after_points : (kept : Kept) (points : List PointPiece) → All (SeesPoint old new caller node stamp) points
      → Within new caller greater kept
      → Within new caller greater (kept_after_points kept caller.own points)
  after_points kept [] all w = w
  after_points kept (p ∷ ps) all w =
      after_points (kept_after_point kept caller.own p.colour p.at p.position) ps
      (All-tail (SeesPoint old new caller node stamp) p ps all)
      (after_point kept p (All-head (SeesPoint old new caller node stamp) p ps all) w)

pub kept_after_several : KeptAfterSeveral
kept_after_several old new rest caller kept node stamp points on home k s =
    let own = caller.own in
    let there = kept_after_points kept own points in
    let l = points_leave own kept points in
    let greater = max kept.floor stamp in
    let floor_is : max there.floor stamp ≡ greater = ap (λ (n : ℕ). max n stamp) l.floor in
    let w = after_points old new caller node stamp greater on (omega arith) kept points s.each (record {
      seen_in = seen_on caller old new kept on k;
      known_in = known_on caller old new kept on k;
      known_low = λ c. under_on caller old new kept on k greater c (omega arith);
    }) in
    keeps_on caller old new kept
    (with_made (with_row (with_floor there stamp)) own (steps_since caller old new)) on k l.starts
    (omega (arith, floor_is))
    (steps_seen caller old new kept on (with_row (with_floor there stamp)) w.seen_in)
    w.known_in
    (λ c. subst (λ (n : ℕ). AreUnder (new own c) (there.known c) n) (sym floor_is) (w.known_low c))
    (λ r c. steps_made caller old new kept on k home r c
    ∙ ap (λ (f : ℕ → ℕ → List ℕ). updated f own (λ d. f own d ++ steps_since caller old new d) r c) (sym l.made))
