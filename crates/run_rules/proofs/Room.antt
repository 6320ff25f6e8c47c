-- What an append says of a client it says of one who may begin another number of rows, where that is enough.
use Rattle.std.proofs.Common.{ℕ, ◌<◌, ◌≤◌, List, [], ◌∷◌, length, Option, Some, None, refl, arith}
use Rattle.std.specs.Prelude.{IsTrue}
use Rattle.std.proofs.lemmas.List.Elements.{All-weaker}
use Rattle.log_node.specs.declared.node.Node.{Node}
use Rattle.log_node.specs.Sets.{members}
use Rattle.col_core.specs.Log.{Log}
use Rattle.col_core.specs.Keeping.{Kept}
use Rattle.report_text.specs.declared.report.PointPiece.{PointPiece}
use Rattle.lawful_run.specs.Callers.{Caller}
use Rattle.lawful_run.specs.Appends.{AppendsOne, BeginsRow, StandsAt, AppendsSeveral, Appends, HasNoStamp, none_for_one, none_for_several}
use Rattle.lawful_run.specs.Stops.{Stops, stopped_at_once, stopped_after}
use Rattle.run_rules.specs.Rules.{with_rows}
use Rattle.run_rules.specs.Shown.{is_row}

module _ (log : Log) (caller : Caller) (kept : Kept) (node : Node) (rows : ℕ) where
  one_with : (colour stamp place position : ℕ) → AppendsOne log caller kept node colour stamp place position
      → AppendsOne log (with_rows caller rows) kept node colour stamp place position
  one_with colour stamp place position a = record {
    next = a.next;
    entered = a.entered;
    unseen = a.unseen;
    stands = a.stands;
    behind = a.behind;
    above = a.above;
  }

  begins_with : (places : ℕ → List ℕ) → kept.rows < rows → BeginsRow log caller kept node places
      → BeginsRow log (with_rows caller rows) kept node places
  begins_with places lt b = record {
    several = b.several;
    next = b.next;
    room = lt;
    row = b.row;
    begun = b.begun;
    steps = b.steps;
  }

  several_with : (stamp : ℕ) (points : List PointPiece) (places : ℕ → List ℕ) → kept.rows < rows
      → AppendsSeveral log caller kept node stamp points places
      → AppendsSeveral log (with_rows caller rows) kept node stamp points places
  several_with stamp points places lt a = record {
    begins = begins_with places lt a.begins;
    outcome = a.outcome;
    colours = a.colours;
    each = All-weaker (StandsAt log caller kept node stamp) (StandsAt log (with_rows caller rows) kept node stamp)
        (λ p s. record { entered = s.entered; stands = s.stands; behind = s.behind }) points a.each;
    above = a.above;
  }

  pub appends_with : (stamp : ℕ) (row : Option ℕ) (points : List PointPiece) (after : Kept)
      → (IsTrue (is_row row) → kept.rows < rows)
      → Appends log caller kept node stamp row points after
      → Appends log (with_rows caller rows) kept node stamp row points after
  appends_with stamp None [] after lt a = a
  appends_with stamp None (p ∷ []) after lt a = (a.0, a.1, a.2, one_with p.colour stamp a.1 p.position a.3, a.4)
  appends_with stamp None (p ∷ q ∷ ps) after lt a = a
  appends_with stamp (Some n) points after lt a = (a.0, a.1, several_with stamp points a.1 (lt refl) a.2, a.3)

  pub stops_with : (steps : ℕ) (after : Kept) → (0 < steps → kept.rows < rows)
      → Stops log caller kept node steps after → Stops log (with_rows caller rows) kept node steps after
  stops_with _ _ lt stopped_at_once = stopped_at_once
  stops_with _ _ lt (stopped_after steps places s) = stopped_after steps places (record {
    begins = begins_with places (lt (omega arith)) s.begins;
    marked = s.marked;
    decided = s.decided;
    settled = s.settled;
    no_later = s.no_later;
  })

  pub no_stamp_with : (colour : ℕ) (after : Kept) → (2 ≤ length (members node.colours) → kept.rows < rows)
      → HasNoStamp log caller kept node colour after → HasNoStamp log (with_rows caller rows) kept node colour after
  no_stamp_with colour _ lt (none_for_one m h) =
      none_for_one m (record { events = h.events; unseen = h.unseen; there = h.there; ended = h.ended })
  no_stamp_with colour _ lt (none_for_several places g) = none_for_several places (record {
    begins = begins_with places (lt g.begins.several) g.begins;
    ends = g.ends;
    settled = g.settled;
  })
