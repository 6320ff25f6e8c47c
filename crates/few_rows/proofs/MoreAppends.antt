-- What an append or a stop says of a log to a client, it says too where the client may begin more rows.
use Rattle.std.proofs.Common.{ℕ, ◌≤◌, List, [], ◌∷◌, Option, Some, None, inl, inr, arith}
use Rattle.log_node.specs.declared.node.Node.{Node}
use Rattle.col_core.specs.Log.{Log}
use Rattle.col_core.specs.Keeping.{Kept}
use Rattle.script_text.specs.declared.commands.What.{What}
use Rattle.report_text.specs.declared.report.PointPiece.{PointPiece}
use Rattle.lawful_run.specs.Callers.{Caller}
use Rattle.lawful_run.specs.Appends.{AppendsOne, HadNoStamp, BeginsRow, StandsAt, AppendsSeveral, Appends, AppendsUnshown, one_unshown, several_unshown, IsGoneAtEnd, HasNoStamp, none_for_one, none_for_several, IsGoneForMemory, IsSoLong, WasNext}
use Rattle.lawful_run.specs.Explains.{MayStand}
use Rattle.lawful_run.specs.Stops.{Stops, stopped_at_once, stopped_after}
use Rattle.few_rows.proofs.MoreFacts.{limited}

module _ (log : Log) (caller : Caller) (rows : ℕ) (few : rows ≤ caller.rows) (kept : Kept) where
  appends_one_more : (node : Node) (colour stamp place position : ℕ)
      → AppendsOne log (limited caller rows) kept node colour stamp place position
      → AppendsOne log caller kept node colour stamp place position
  appends_one_more node colour stamp place position a = record {
    next = a.next;
    entered = a.entered;
    unseen = a.unseen;
    stands = a.stands;
    behind = a.behind;
    above = a.above;
  }

  had_no_stamp_more : (colour : ℕ) → HadNoStamp log (limited caller rows) kept colour
      → HadNoStamp log caller kept colour
  had_no_stamp_more colour h = record {
    events = h.events;
    unseen = h.unseen;
    there = h.there;
    ended = h.ended;
  }

  -- a row that was left of the fewer is left of the more
  begins_more : (node : Node) (places : ℕ → List ℕ) → BeginsRow log (limited caller rows) kept node places
      → BeginsRow log caller kept node places
  begins_more node places b = let r = b.room in record {
    several = b.several;
    next = b.next;
    room = omega (arith, r, few);
    row = b.row;
    begun = b.begun;
    steps = b.steps;
  }

  stands_more : (node : Node) (stamp : ℕ) (point : PointPiece)
      → StandsAt log (limited caller rows) kept node stamp point → StandsAt log caller kept node stamp point
  stands_more node stamp point s = record {
    entered = s.entered;
    stands = s.stands;
    behind = s.behind;
  }

  several_more : (node : Node) (stamp : ℕ) (points : List PointPiece) (places : ℕ → List ℕ)
      → AppendsSeveral log (limited caller rows) kept node stamp points places
      → AppendsSeveral log caller kept node stamp points places
  several_more node stamp points places s = record {
    begins = begins_more node places s.begins;
    outcome = s.outcome;
    colours = s.colours;
    each = λ k d lt. stands_more node stamp _ (s.each k d lt);
    above = s.above;
  }

  pub append_more : (node : Node) (stamp : ℕ) (row : Option ℕ) (points : List PointPiece) (after : Kept)
      → Appends log (limited caller rows) kept node stamp row points after
      → Appends log caller kept node stamp row points after
  append_more node stamp None [] after a = absurd a
  append_more node stamp None (point ∷ []) after a =
      (a.0, a.1, a.2, appends_one_more node point.colour stamp a.1 point.position a.3, a.4)
  append_more node stamp None (point ∷ other ∷ points) after a = absurd a
  append_more node stamp (Some number) points after a = (a.0, a.1, several_more node stamp points a.1 a.2, a.3)

  pub unshown_more : (node : Node) (stamp : ℕ) (after : Kept)
      → AppendsUnshown log (limited caller rows) kept node stamp after
      → AppendsUnshown log caller kept node stamp after
  unshown_more node stamp after (one_unshown colour place position only a) =
      one_unshown colour place position only (appends_one_more node colour stamp place position a)
  unshown_more node stamp after (several_unshown places begins outcome stand above) =
      several_unshown places (begins_more node places begins) outcome stand above

  at_end_more : (node : Node) (colour : ℕ) (places : ℕ → List ℕ)
      → IsGoneAtEnd log (limited caller rows) kept node colour places
      → IsGoneAtEnd log caller kept node colour places
  at_end_more node colour places g = record {
    begins = begins_more node places g.begins;
    ends = g.ends;
    settled = g.settled;
  }

  pub has_no_stamp_more : (node : Node) (colour : ℕ) (after : Kept)
      → HasNoStamp log (limited caller rows) kept node colour after → HasNoStamp log caller kept node colour after
  has_no_stamp_more node colour after (none_for_one only h) = none_for_one only (had_no_stamp_more colour h)
  has_no_stamp_more node colour after (none_for_several places g) =
      none_for_several places (at_end_more node colour places g)

  pub stops_more : (node : Node) (steps : ℕ) (after : Kept) → Stops log (limited caller rows) kept node steps after
      → Stops log caller kept node steps after
  stops_more node steps after stopped_at_once = stopped_at_once
  stops_more node steps after (stopped_after n places s) = stopped_after n places (record {
    begins = begins_more node places s.begins;
    marked = s.marked;
    decided = s.decided;
    settled = s.settled;
    no_later = s.no_later;
  })

  pub for_memory_more : (node : Node) (places : ℕ → List ℕ)
      → IsGoneForMemory log (limited caller rows) kept node places → IsGoneForMemory log caller kept node places
  for_memory_more node places g = record {
    begins = begins_more node places g.begins;
    outcome = g.outcome;
    settled = g.settled;
  }

  pub so_long_more : (colour events lined waiting : ℕ)
      → IsSoLong log (limited caller rows) kept colour events lined waiting
      → IsSoLong log caller kept colour events lined waiting
  so_long_more colour events lined waiting s = record {
    unseen = s.unseen;
    there = s.there;
    lined_is = s.lined_is;
    waiting_is = s.waiting_is;
  }

  was_next_more : (point : PointPiece) → WasNext log (limited caller rows) kept point → WasNext log caller kept point
  was_next_more point w = (w.0, w.1, so_long_more point.colour w.0 point.position 0 w.2, w.3)

  pub may_stand_more : (what : What) (points : List PointPiece) → MayStand log (limited caller rows) kept what points
      → MayStand log caller kept what points
  may_stand_more what points (inl appending) = inl appending
  may_stand_more what points (inr guarded) = inr (guarded.0, λ k d lt. was_next_more _ (guarded.1 k d lt))
