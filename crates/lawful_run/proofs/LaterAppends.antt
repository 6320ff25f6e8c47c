-- What an append or a stop says of a log, a later log says as well.
use Rattle.std.proofs.Common.{ℕ, List, [], ◌∷◌, length, take, Option, Some, None, ap, sym, subst, ◌∙◌, inl, inr, ◌⊎◌}
use Rattle.std.specs.Prelude.{IsTrue}
use Rattle.log_node.specs.declared.node.At.{At}
use Rattle.log_node.specs.declared.node.At.TheVariants.{Event, Look}
use Rattle.log_node.specs.declared.node.Node.{Node}
use Rattle.log_node.specs.Sets.{members}
use Rattle.log_node.specs.declared.marks.Why.{Why}
use Rattle.log_node.specs.declared.marks.Why.TheVariants.{Memory, StampEnd}
use Rattle.log_node.specs.declared.marks.Mark.TheVariants as marks
use Rattle.log_node.specs.declared.marks.Outcome.TheVariants.{Gone}
use Rattle.col_core.specs.declared.Entry.{Entry}
use Rattle.col_core.specs.History.{entries, open_count, line, IsAtEnd, has_entered}
use Rattle.col_core.specs.Log.{Log, IsLater, HasMark}
use Rattle.col_core.specs.Appending.{EntersBehind, IsClosedFor}
use Rattle.col_core.specs.Keeping.{Kept}
use Rattle.script_text.specs.declared.commands.What.{What}
use Rattle.report_text.specs.declared.report.PointPiece.{PointPiece}
use Rattle.col_core.proofs.CallerLemmas.{mark_stays, outcome_stays}
use Rattle.lawful_run.specs.Callers.{Caller}
use Rattle.lawful_run.specs.Appends.{AppendsOne, HadNoStamp, AreSteps, BeginsRow, StandsAt, AppendsSeveral, Appends, AppendsUnshown, one_unshown, several_unshown, IsGoneAtEnd, HasNoStamp, none_for_one, none_for_several, IsSettledIn, IsSettled, IsGoneForMemory, IsSoLong, WasNext}
use Rattle.lawful_run.specs.Explains.{MayStand}
use Rattle.lawful_run.specs.Stops.{Stops, stopped_at_once, stopped_after}
use Rattle.lawful_run.proofs.Prefixes.{prefix_get}
use Rattle.lawful_run.proofs.LaterFacts.{all_of, taken_same, still_there, entry_later, line_later, final_later}

module _ (old new : Log) (later : IsLater old new) (caller : Caller) (kept : Kept) where
  pub appends_later : (node : Node) (colour stamp place position : ℕ)
      → AppendsOne old caller kept node colour stamp place position
      → AppendsOne new caller kept node colour stamp place position
  appends_later node colour stamp place position a = record {
    next = prefix_get _ _ _ _ (later.nodes caller.client) a.next;
    entered = entry_later old new later caller.own colour place _ a.entered;
    unseen = a.unseen;
    stands = line_later old new later caller.own colour position _ a.stands;
    behind = a.behind;
    above = a.above;
  }

  pub no_stamp_later : (colour : ℕ) → HadNoStamp old caller kept colour → HadNoStamp new caller kept colour
  no_stamp_later colour h = record {
    events = h.events;
    unseen = h.unseen;
    there = still_there old new later caller.own colour h.events h.there;
    ended = subst (λ (events : List Entry). IsAtEnd events kept.floor)
        (sym (taken_same old new later caller.own colour h.events h.there)) h.ended;
  }

  pub steps_later : (node : Node) (places : ℕ → List ℕ) → AreSteps old caller kept node places
      → AreSteps new caller kept node places
  steps_later node places a colour k d lt =
      let s = a colour k d lt in
      (s.0, s.1, entry_later old new later caller.own colour _ s.1 s.2, s.3, s.4)

  pub begins_later : (node : Node) (places : ℕ → List ℕ) → BeginsRow old caller kept node places
      → BeginsRow new caller kept node places
  begins_later node places b = let r = later.rows node.region b.row b.begun.begun in record {
    several = b.several;
    next = prefix_get _ _ _ _ (later.nodes caller.client) b.next;
    room = b.room;
    row = r.0;
    begun = record { begun = r.1; of_node = r.2.node ∙ b.begun.of_node };
    steps = steps_later node places b.steps;
  }

  pub enters_later : (unseen : ℕ) (node : Node) (colour : ℕ) (at : At)
      → EntersBehind unseen (old.histories caller.own colour) caller.client node colour at
      → EntersBehind unseen (new.histories caller.own colour) caller.client node colour at
  enters_later unseen node colour (Event place) e =
      (e.0, e.1, entry_later old new later caller.own colour place e.1 e.2, e.3, e.4)
  enters_later unseen node colour (Look events) e =
      (e.0, still_there old new later caller.own colour events e.1, e.2, e.3, e.4, entry_later old new later caller.own colour e.2 e.4 e.5, e.6, e.7)

  pub stands_later : (node : Node) (stamp : ℕ) (point : PointPiece) → StandsAt old caller kept node stamp point
      → StandsAt new caller kept node stamp point
  stands_later node stamp point s = record {
    entered = enters_later (kept.seen caller.own point.colour) node point.colour point.at s.entered;
    stands = line_later old new later caller.own point.colour point.position _ s.stands;
    behind = s.behind;
  }

  pub several_later : (node : Node) (stamp : ℕ) (points : List PointPiece) (places : ℕ → List ℕ)
      → AppendsSeveral old caller kept node stamp points places
      → AppendsSeveral new caller kept node stamp points places
  several_later node stamp points places s = record {
    begins = begins_later node places s.begins;
    outcome = final_later old new later node stamp s.outcome;
    colours = s.colours;
    each = all_of (StandsAt old caller kept node stamp) (StandsAt new caller kept node stamp)
        (stands_later node stamp) points s.each;
    above = s.above;
  }

  pub append_later : (node : Node) (stamp : ℕ) (row : Option ℕ) (points : List PointPiece) (after : Kept)
      → Appends old caller kept node stamp row points after → Appends new caller kept node stamp row points after
  append_later node stamp None [] after a = absurd a
  append_later node stamp None (point ∷ []) after a =
      (a.0, a.1, a.2, appends_later node point.colour stamp a.1 point.position a.3, a.4)
  append_later node stamp None (point ∷ other ∷ points) after a = absurd a
  append_later node stamp (Some number) points after a = (a.0, a.1, several_later node stamp points a.1 a.2, a.3)

  pub unshown_later : (node : Node) (stamp : ℕ) (after : Kept) → AppendsUnshown old caller kept node stamp after
      → AppendsUnshown new caller kept node stamp after
  unshown_later node stamp after (one_unshown colour place position only a) =
      one_unshown colour place position only (appends_later node colour stamp place position a)
  unshown_later node stamp after (several_unshown places begins outcome stand above) =
      several_unshown places (begins_later node places begins) (final_later old new later node stamp outcome)
      (λ k d lt. let s = stand k d lt in (s.0, line_later old new later caller.own _ s.0 _ s.1)) above

  pub settled_later : (node : Node) (colour : ℕ) → IsSettledIn old caller node colour
      → IsSettledIn new caller node colour
  settled_later node colour s = (
    s.0,
    still_there old new later caller.own colour s.0 s.1,
    subst (λ (history : List Entry). IsClosedFor new history node colour)
        (sym (taken_same old new later caller.own colour s.0 s.1))
        (record { not_open = s.2.not_open; for_good = good s.2.for_good }),
  ) where
    good : ((why : Why) × HasMark old node colour (marks.Fenced why))
        ⊎ IsTrue (has_entered node.id (take s.0 (old.histories caller.own colour)))
        → ((why : Why) × HasMark new node colour (marks.Fenced why))
        ⊎ IsTrue (has_entered node.id (take s.0 (old.histories caller.own colour)))
    good (inl m) = inl (m.0, mark_stays old new later node colour (marks.Fenced m.0) (λ e. absurd cc) m.1)
    good (inr e) = inr e

  pub all_settled_later : (node : Node) → IsSettled old caller node → IsSettled new caller node
  all_settled_later node s = all_of (IsSettledIn old caller node) (IsSettledIn new caller node) (settled_later node)
      (members node.colours) s

  pub at_end_later : (node : Node) (colour : ℕ) (places : ℕ → List ℕ)
      → IsGoneAtEnd old caller kept node colour places → IsGoneAtEnd new caller kept node colour places
  at_end_later node colour places g = record {
    begins = begins_later node places g.begins;
    ends = record {
      outcome = outcome_stays old new later node (Gone StampEnd) (λ e. absurd cc) g.ends.outcome;
      fence = mark_stays old new later node colour (marks.Fenced StampEnd) (λ e. absurd cc) g.ends.fence;
      least = λ k d lt below. let l = g.ends.least k d lt below in
          (l.0, l.1, l.2, mark_stays old new later node _ l.0 l.1 l.3);
    };
    settled = all_settled_later node g.settled;
  }

  pub has_no_stamp_later : (node : Node) (colour : ℕ) (after : Kept) → HasNoStamp old caller kept node colour after
      → HasNoStamp new caller kept node colour after
  has_no_stamp_later node colour after (none_for_one only h) = none_for_one only (no_stamp_later colour h)
  has_no_stamp_later node colour after (none_for_several places g) =
      none_for_several places (at_end_later node colour places g)

  pub stops_later : (node : Node) (steps : ℕ) (after : Kept) → Stops old caller kept node steps after
      → Stops new caller kept node steps after
  stops_later node steps after stopped_at_once = stopped_at_once
  stops_later node steps after (stopped_after n places s) = stopped_after n places (record {
    begins = begins_later node places s.begins;
    marked = λ k colour at within. let m = s.marked k colour at within in
        (m.0, m.1, mark_stays old new later node colour m.0 m.1 m.2);
    decided = λ enough. let d = s.decided enough in (d.0, d.1, outcome_stays old new later node d.0 d.1 d.2);
    settled = λ k colour at within. settled_later node colour (s.settled k colour at within);
    no_later = λ n colour at k d lt. let t = s.no_later n colour at k d lt in
        (t.0, entry_later old new later caller.own colour _ t.0 t.1, t.2);
  })

  pub for_memory_later : (node : Node) (places : ℕ → List ℕ) → IsGoneForMemory old caller kept node places
      → IsGoneForMemory new caller kept node places
  for_memory_later node places g = record {
    begins = begins_later node places g.begins;
    outcome = outcome_stays old new later node (Gone Memory) (λ e. absurd cc) g.outcome;
    settled = all_settled_later node g.settled;
  }

  -- after so many events a line is as long, and as many entries are open
  pub so_long_later : (colour events lined waiting : ℕ) → IsSoLong old caller kept colour events lined waiting
      → IsSoLong new caller kept colour events lined waiting
  so_long_later colour events lined waiting s =
      let same = sym (taken_same old new later caller.own colour events s.there) in record {
        unseen = s.unseen;
        there = still_there old new later caller.own colour events s.there;
        lined_is = s.lined_is ∙ ap (λ (h : List Entry). length (line h)) same;
        waiting_is = s.waiting_is ∙ ap (λ (h : List Entry). open_count (entries h)) same;
      }

  pub was_next_later : (point : PointPiece) → WasNext old caller kept point → WasNext new caller kept point
  was_next_later point w = (w.0, w.1, so_long_later point.colour w.0 point.position 0 w.2, w.3)

  pub may_stand_later : (what : What) (points : List PointPiece) → MayStand old caller kept what points
      → MayStand new caller kept what points
  may_stand_later what points (inl appending) = inl appending
  may_stand_later what points (inr guarded) =
      inr (guarded.0, all_of (WasNext old caller kept) (WasNext new caller kept) was_next_later points guarded.1)
