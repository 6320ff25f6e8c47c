-- The stages of an append one after another.
use Rattle.std.proofs.Common.{◌≡◌, ◌≢◌, ℕ, ◌+◌, ◌<◌, List, length, map, Option, None, true, sym, subst, arith}
use Rattle.std.proofs.lemmas.Option.{slice_get_within}
use Rattle.log_node.specs.declared.limits.TheConstants.{MAX_COLOURS}
use Rattle.log_node.specs.declared.node.Node.{Node}
use Rattle.log_node.specs.declared.marks.Mark.{Mark}
use Rattle.log_node.specs.declared.marks.Outcome.{Outcome}
use Rattle.log_node.specs.declared.marks.Outcome.TheVariants.{Open}
use Rattle.log_node.specs.Outcomes.{outcome_of}
use Rattle.log_node.specs.Seen.{BegunAppend}
use Rattle.log_node.specs.Sets.{has, members}
use Rattle.stamp_board.specs.Seats.{IsLater}
use Rattle.stamp_board.specs.Views.{KnowsBegun, KnowsOutcome}
use Rattle.chain_store.specs.declared.hold.Hold.{Hold}
use Rattle.chain_store.specs.declared.region.Region.{Region}
use Rattle.chain_store.specs.Beginning.{KnowsMarks}
use Rattle.chain_store.specs.Going.{GoesOn}
use Rattle.chain_store.specs.Holds.{KnowsAppend, view_of}
use Rattle.chain_store.proofs.CallerLemmas.{goes_weaken, member_at, member_has}
use Rattle.append_core.specs.declared.stood.Point.{Point}
use Rattle.append_core.specs.Helping.{IsStepIn}
use Rattle.append_core.specs.Settled.{HoldKnowsMarked}
use Rattle.append_core.specs.Several.{IsStepBefore, HoldStopsAfter, own_append, own_row}
use Rattle.append_core.specs.Inside.{ArePointsOf, AreProposed, HasDecided, HasProposed, HasSettled, IsAhead, IsDecidedSo, TakesAll}
use Rattle.append_core.proofs.Decided.{decided_so, steps_decided}
use Rattle.append_core.proofs.Keeping.{decided_later}
use Rattle.append_core.proofs.Marked.{below_all}
use Rattle.append_core.proofs.Pointing.{point_member}
use Rattle.append_core.proofs.Staging.{steps_at}

-- no colour is proposed yet
pub proposes_none : (r : Region) (g h : Hold) (x : Node) (points : List Point) → HoldStopsAfter r g h x 1
    → AreProposed r g h x points 0 None
proposes_none r g h x points s = record {
  steps = s;
  each = λ i p lt e. absurd (let f : ⊥ = omega (arith, lt) in f);
  ends = λ i c lt e. absurd (let f : ⊥ = omega (arith, lt) in f);
}

-- the colours of an append that is known are few
pub low_colours : (r : Region) (h : Hold) (b : BegunAppend) (g : Hold) (x : Node) → KnowsAppend r h b
    → b ≡ own_append g x → (c : ℕ) → has x.colours c ≡ true → c < MAX_COLOURS
low_colours r h b g x knows is c it =
    below_all r h b knows c (subst (λ (a : BegunAppend). has a.colours c ≡ true) (sym is) it)

module _ (r : Region) (g h : Hold) (x : Node) (points : List Point) (ended stop : Option ℕ)
    (was : HasProposed r g h x points ended stop) (low : (c : ℕ) → has x.colours c ≡ true → c < MAX_COLOURS) where
  -- it is marked in all colours
  pub all_marked : (b : BegunAppend) → b ≡ own_append g x → (c : ℕ) → has b.colours c ≡ true → HoldKnowsMarked h b c
  all_marked b is =
      subst (λ (a : BegunAppend). (c : ℕ) → has a.colours c ≡ true → HoldKnowsMarked h a c) (sym is)
      (λ c it.
      let i = member_at x.colours c (low c it) it in
      let lt = slice_get_within (members x.colours) i.0 c i.1 in
      was.all.steps.marked i.0 c i.1 (omega (arith, lt)))

  module _ (k : Hold) (b : BegunAppend) (is : b ≡ own_append g x) (o : Outcome) (of : ArePointsOf points b.colours)
      (passes : k.passes ≡ h.passes) (later : IsLater h.seat k.seat) (next : k.next ≡ h.next) (shut : o ≢ Open)
      (known : KnowsOutcome (view_of k) b.row o)
      (marks : (y : Node) (mark : ℕ → Mark) → KnowsBegun (view_of h) b.row y → KnowsMarks (view_of h) b.row y mark
      → o ≡ outcome_of (map mark (members y.colours))) where
    points_of_node : ArePointsOf points x.colours
    points_of_node = subst (λ (a : BegunAppend). ArePointsOf points a.colours) is of

    known_so : KnowsOutcome (view_of k) (own_row g) o
    known_so = subst (λ (a : BegunAppend). KnowsOutcome (view_of k) a.row o) is known

    pub decided_steps : HoldStopsAfter r g k x (length (members x.colours) + 2)
    decided_steps =
        steps_decided r g h k x points ended o points_of_node passes later next shut known_so was.all.steps

    pub decided_now : IsDecidedSo g k x points ended o
    decided_now =
        decided_so r g h k x points ended o points_of_node passes later next shut known_so low was.all
        (λ mark knows.
        subst (λ (a : BegunAppend). (y : Node) (m : ℕ → Mark) → KnowsBegun (view_of h) a.row y
        → KnowsMarks (view_of h) a.row y m → o ≡ outcome_of (map m (members y.colours))) is marks x mark
        was.all.steps.begun.knows knows)

    pub settles_none : (places : List (Option ℕ)) → IsAhead stop (length (members x.colours) + 2)
        → HasDecided r g k x o places stop
    settles_none places ahead = record {
      none = record {
        steps = steps_at r g k x (length (members x.colours) + 2) (0 + length (members x.colours) + 2) (omega arith)
            decided_steps;
        settled = λ i c lt e. absurd (let f : ⊥ = omega (arith, lt) in f);
        placed = λ i c q f lt e there final. absurd (let z : ⊥ = omega (arith, lt) in z);
      };
      ahead = ahead;
    }

    -- and after the settlings
    pub takes_all : (m : Hold) (places : List (Option ℕ)) → GoesOn (IsStepIn b) k m → IsLater k.seat m.seat
        → KnowsOutcome (view_of m) (own_row g) o → HasSettled r g m x o places stop
        → TakesAll r g m x points places ended o stop
    takes_all m places goes seat outcome s = record {
      done = record {
        decided = decided_later g k m x goes.more seat.grows points ended o decided_now;
        all = record {
          begun = s.all.steps.begun;
          outcome = outcome;
          settled = λ c it.
              let i = member_at x.colours c (low c it) it in
              s.all.settled i.0 c (slice_get_within (members x.colours) i.0 c i.1) i.1;
          goes = goes_weaken (IsStepBefore x (length (members x.colours) + length (members x.colours) + 2)) g m
              (IsStepIn (own_append g x)) (λ c e step. (member_has x.colours step.0 c step.1, step.2)) s.all.steps.goes;
        };
        placed = λ n q f p there known final.
            let at = point_member points x.colours points_of_node n p there in
            s.all.placed n p.colour q f (slice_get_within (members x.colours) n p.colour at) at known final;
      };
      ahead = s.ahead;
    }
