-- An append whose colours are all proposed is decided.
use Rattle.std.proofs.Common.{◌≡◌, ◌≢◌, ℕ, ◌+◌, ◌<◌, List, length, map, Option, Some, None, slice_get, true, refl, ap, sym, subst, ◌∙◌, arith}
use Rattle.std.proofs.lemmas.Option.{slice_get_within}
use Rattle.std.proofs.lemmas.List.{length-map}
use Rattle.log_node.specs.declared.limits.TheConstants.{MAX_COLOURS}
use Rattle.log_node.specs.declared.node.Node.{Node}
use Rattle.log_node.specs.declared.marks.Why.TheVariants.{StampEnd}
use Rattle.log_node.specs.declared.marks.Mark.{Mark}
use Rattle.log_node.specs.declared.marks.Mark.TheVariants as marks
use Rattle.log_node.specs.declared.marks.Outcome.{Outcome}
use Rattle.log_node.specs.declared.marks.Outcome.TheVariants.{Open, Gone, Final}
use Rattle.log_node.specs.Outcomes.{outcome_of}
use Rattle.log_node.specs.Sets.{has, members}
use Rattle.stamp_board.specs.Seats.{IsLater}
use Rattle.stamp_board.specs.Views.{KnowsMark, KnowsOutcome}
use Rattle.chain_store.specs.declared.hold.Hold.{Hold}
use Rattle.chain_store.specs.declared.region.Region.{Region}
use Rattle.chain_store.specs.Beginning.{KnowsMarks}
use Rattle.chain_store.specs.Holds.{view_of}
use Rattle.chain_store.proofs.CallerLemmas.{final_number, no_end, goes_same, goes_then, goes_weaken, got, member_at, member_has}
use Rattle.append_core.specs.declared.stood.Point.{Point}
use Rattle.append_core.specs.Several.{HoldEnters, IsFirstEnd, IsStepBefore, HoldStopsAfter, own_append, own_row}
use Rattle.append_core.specs.Inside.{ArePointsOf, AreProposed, EndsAmong, IsDecidedSo}
use Rattle.append_core.proofs.Keeping.{step_more, begun_on, end_later, enters_later}
use Rattle.append_core.proofs.Marked.{marked_later}
use Rattle.append_core.proofs.Members.{members_once, mark_for, mark_fits}
use Rattle.append_core.proofs.Pointing.{point_member}

module _ (r : Region) (g h k : Hold) (x : Node) (points : List Point) (ended : Option ℕ) (o : Outcome)
    (of : ArePointsOf points x.colours) (passes : k.passes ≡ h.passes) (later : IsLater h.seat k.seat)
    (next : k.next ≡ h.next) (shut : o ≢ Open) (known : KnowsOutcome (view_of k) (own_row g) o) where
  -- so many steps are taken then
  pub steps_decided : HoldStopsAfter r g h x (length (members x.colours) + 1)
      → HoldStopsAfter r g k x (length (members x.colours) + 2)
  steps_decided was =
      let n = length (members x.colours) in
      let goes = goes_same (IsStepBefore x (n + 2)) h k passes in record {
        begun = begun_on r g h k x later next was.begun;
        marked = λ i c e lt.
            let inside = slice_get_within (members x.colours) i c e in
            marked_later (IsStepBefore x (n + 2)) h k (own_append g x) goes later.grows c
            (was.marked i c e (omega (arith, inside)));
        decided = λ le. (o, shut, known);
        settled = λ i c e lt. absurd (let f : ⊥ = omega (arith, lt) in f);
        goes = goes_then (IsStepBefore x (n + 2)) g h k
            (goes_weaken (IsStepBefore x (n + 1)) g h (IsStepBefore x (n + 2))
            (λ d e s. step_more x (n + 1) (n + 2) d e (omega arith) s) was.goes) goes;
      }

  module _ (low : (c : ℕ) → has x.colours c ≡ true → c < MAX_COLOURS)
      (was : AreProposed r g h x points (length (members x.colours)) ended)
      (marked : (mark : ℕ → Mark) → KnowsMarks (view_of h) (own_row g) x mark
      → o ≡ outcome_of (map mark (members x.colours))) where
    count : length points ≡ length (members x.colours)
    count = sym (length-map points (λ (p : Point). p.colour)) ∙ ap (λ (l : List ℕ). length l) of.same

    abbrev Fact : ℕ → Mark → Type 0
    Fact c m =
        (n : ℕ) × (p : Point) × (slice_get points n ≡ Some p) × (p.colour ≡ c) × KnowsMark (view_of h) (own_row g) c m
        × ((s : ℕ) → m ≡ marks.Number s → HoldEnters g h x p.colour p.at)

    fact : (c : ℕ) → has x.colours c ≡ true → (m : Mark) × Fact c m
    fact c it =
        let i = member_at x.colours c (low c it) it in
        let inside = slice_get_within (members x.colours) i.0 c i.1 in
        let long = count in
        let p = got points i.0 (omega (arith, inside, long)) in
        let colour : p.0.colour ≡ c =
        (let f : Some p.0.colour ≡ Some c = sym (point_member points x.colours of i.0 p.0 p.1) ∙ i.1 in
        let g : p.0.colour ≡ c = cc f in g) in
        let t = was.each i.0 p.0 inside p.1 in (
          t.mark,
          (
            i.0,
            p.0,
            p.1,
            colour,
            subst (λ (d : ℕ). KnowsMark (view_of h) (own_row g) d t.mark) colour t.known,
            t.entered,
          ),
        )

    entered : (f n : ℕ) (p : Point) → o ≡ Final f → slice_get points n ≡ Some p → HoldEnters g h x p.colour p.at
    entered f n p is at =
        let mark = mark_for x.colours Fact fact in
        let fits = mark_fits x.colours Fact fact in
        let kept = marked mark (λ c it. (fits c it).4) in
        let it = member_has x.colours n p.colour (point_member points x.colours of n p at) in
        let m = final_number mark x.colours p.colour f it (low p.colour it) (sym kept ∙ is) in
        let q = fits p.colour it in
        let once : q.0 ≡ n = members_once x.colours q.0 n q.1.colour p.colour
        (point_member points x.colours of q.0 q.1 q.2) (point_member points x.colours of n p at) q.3 in
        let one : q.1 ≡ p =
        (let f : Some q.1 ≡ Some p = sym q.2 ∙ subst (λ (j : ℕ). slice_get points j ≡ Some p) (sym once) at in
        let g : q.1 ≡ p = cc f in g) in
        subst (λ (z : Point). HoldEnters g h x z.colour z.at) one (q.5 m.0 m.1)

    abbrev IsElse : ℕ → Mark → Type 0
    IsElse c m = (m ≢ marks.Fenced StampEnd) × KnowsMark (view_of h) (own_row g) c m

    ends : (e : Option ℕ) → EndsAmong h x (own_row g) (length (members x.colours)) e → o ≡ Gone StampEnd
        → (c : ℕ) × (e ≡ Some c) × IsFirstEnd h x (own_row g) c
    ends (Some c) first is = (c, refl, first)
    ends None none is =
        let each : (c : ℕ) → has x.colours c ≡ true → (m : Mark) × IsElse c m =
        λ c it.
        let i = member_at x.colours c (low c it) it in
        let m = none i.0 c (slice_get_within (members x.colours) i.0 c i.1) i.1 in (m.0, (m.2, m.3)) in
        let mark = mark_for x.colours IsElse each in
        let fits = mark_fits x.colours IsElse each in
        let kept = marked mark (λ c it. (fits c it).1) in
        absurd (no_end mark x.colours (λ c it. (fits c it).0) (sym kept ∙ is))

    pub decided_so : IsDecidedSo g k x points ended o
    decided_so =
        let goes = goes_same (IsStepBefore x 0) h k passes in record {
          shut = shut;
          outcome = known;
          entered = λ f n p is at. enters_later g h k x goes.more later.grows p.colour p.at (entered f n p is at);
          ends = λ is. let e = ends ended was.ends is in (e.0, e.1, end_later g h k x goes.more later.grows (own_row g) e.0 e.2);
        }
