-- One more colour of an append is proposed.
use Rattle.std.proofs.Common.{◌≡◌, ◌≢◌, ℕ, ◌+◌, ◌<◌, List, [], ◌∷◌, ◌++◌, length, Option, Some, None, slice_get, true, refl, ap, sym, subst, ◌∙◌, arith, inl, inr, append-nil}
use Rattle.std.specs.List.{All}
use Rattle.std.proofs.lemmas.Bool.{cases_eq}
use Rattle.std.proofs.lemmas.Option.{slice_get_within}
use mathlib.Core.List.{IsPrefix}
use Rattle.log_node.specs.declared.limits.TheConstants.{MAX_COLOURS}
use Rattle.log_node.specs.declared.ids.Id.{Id}
use Rattle.log_node.specs.declared.ids.Row.{Row}
use Rattle.log_node.specs.declared.node.At.{At}
use Rattle.log_node.specs.declared.node.At.TheVariants.{Event, Look}
use Rattle.log_node.specs.declared.node.Node.{Node}
use Rattle.log_node.specs.declared.marks.Why.TheVariants.{Memory, StampEnd}
use Rattle.log_node.specs.declared.marks.Mark.{Mark}
use Rattle.log_node.specs.declared.marks.Mark.TheVariants as marks
use Rattle.log_node.specs.Sets.{has, members}
use Rattle.col_core.specs.declared.Event as events
use Rattle.col_core.specs.Appending.{IsStepWithin}
use Rattle.col_core.proofs.CallerLemmas.{in_contains, in_slice}
use Rattle.stamp_board.specs.Seats.{IsLater}
use Rattle.stamp_board.specs.Views.{Grows, KnowsMark}
use Rattle.chain_store.specs.declared.told.Told.{Told}
use Rattle.chain_store.specs.declared.hold.Hold.{Hold}
use Rattle.chain_store.specs.declared.region.Region.{Region}
use Rattle.chain_store.specs.Columns.{told_propose}
use Rattle.chain_store.specs.Going.{GoesOn}
use Rattle.chain_store.specs.Proposals.{HasProposal}
use Rattle.chain_store.specs.Rows.{IsBegunRow}
use Rattle.chain_store.specs.Steps.{MatchAt}
use Rattle.chain_store.specs.Holds.{SameBut, MakesOneIn, LooksIn, seen_in, made_in, view_of}
use Rattle.chain_store.proofs.CallerLemmas.{goes_then, goes_weaken, looks_on, makes_on, made_place, member_at, member_has}
use Rattle.append_core.specs.declared.stood.Point.{Point}
use Rattle.append_core.specs.Settled.{HoldKnowsMarked}
use Rattle.append_core.specs.Several.{HoldEnters, IsStepBefore, HoldStopsAfter, own_append, own_row}
use Rattle.append_core.specs.Inside.{AreProposed, EndsAmong, IsNextOf, IsProposedThere, end_after}
use Rattle.append_core.proofs.Keeping.{step_more, else_later, end_later, proposed_later, begun_on}
use Rattle.append_core.proofs.Marked.{marked_at, marked_later}
use Rattle.append_core.proofs.Members.{members_before, members_once}
use Rattle.append_core.proofs.Places.{prefix_length, at_end}

-- the event is none of a colour whose turn has not come
not_within : (i n k : ℕ) (e : events.Event) → i ≡ n → n < k → IsStepWithin i k (n + 1) e → ⊥
not_within i n k (events.TheVariants.Single id floor wants) is lt s = s
not_within i n k (events.TheVariants.Propose id floor wants) is lt s = omega (arith, is, s)
not_within i n k (events.TheVariants.Settle id outcome) is lt s = omega (arith, is, lt, s)
not_within i n k (events.TheVariants.Raise to) is lt s = s
not_within i n k (events.TheVariants.Give region from) is lt s = s
not_within i n k (events.TheVariants.Carry region start heads) is lt s = s
not_within i n k (events.TheVariants.Trim counts) is lt s = s

-- so nothing was made there
unmade : (g h : Hold) (x : Node) (n c : ℕ) → slice_get (members x.colours) n ≡ Some c
    → GoesOn (IsStepBefore x (n + 1)) g h → made_in h c ≡ made_in g c
unmade g h x n c here goes = by (goes.made c).0 (goes.made c).1 (goes.made c).2 where
  by : (ts : List Told) → made_in h c ≡ made_in g c ++ ts
      → All (λ (t : Told). IsStepBefore x (n + 1) c t.entry.event) ts → made_in h c ≡ made_in g c
  by [] is all = is ∙ append-nil (made_in g c)
  by (t ∷ ts) is all =
      let s = all 0 t (omega arith) in
      let same = members_once x.colours s.0 n c c s.1 here refl in
      absurd (not_within s.0 n (length (members x.colours)) t.entry.event same
      (slice_get_within (members x.colours) n c here) s.3)

module _ (r : Region) (g h k : Hold) (x : Node) (c n : ℕ) (mark : Mark) (fresh : IsNextOf r g x)
    (here : slice_get (members x.colours) n ≡ Some c) (goes : GoesOn (IsStepBefore x (n + 1)) g h)
    (but : SameBut c h k) where
  is_node : (y : Node) → IsBegunRow r.board.size r.number (view_of k) (own_append g x) y → y ≡ x
  is_node y b = elim b.of.node_is [
    | inl none ↦ absurd (let f : ⊥ = cc (none) in f)
    | inr some ↦ (let f : x ≡ y = cc (some) in sym f)
  ]

  -- a proposal of the node that stands before a look is another client's
  not_own : (at : At) (by place s : ℕ) → LooksIn c h k at
      → slice_get (seen_in k c) place ≡ Some (told_propose c by x s) → by ≢ g.passes.number
  not_own at by place s look there own =
      let t = told_propose c by x s in
      let number : h.passes.number ≡ g.passes.number = goes.number in
      let i = made_place h.passes.number (seen_in k c) place t there (own ∙ sym number) in
      let e : slice_get (made_in g c) i.0 ≡ Some t =
      subst (λ (l : List Told). slice_get l i.0 ≡ Some t) (look.0.none ∙ unmade g h x n c here goes) i.1 in
      let o = fresh.rests.owns in
      let a = o.entries c i.0 t e fresh.client in
      let low = o.below a.0 a.1 in
      let same = ap (λ (d : Id). d.count) a.2 in
      let high = fresh.fresh in
      omega (arith, low, same, high)

  enters_now : (at : At)
      → MatchAt at
      (λ _. (y : Node) × (s : ℕ) × IsBegunRow r.board.size r.number (view_of k) (own_append g x) y
      × (mark ≡ marks.Number s) × MakesOneIn c h k (told_propose c h.passes.number y s) at)
      (λ _. LooksIn c h k at)
      → ((s : ℕ) → mark ≡ marks.Number s
      → HasProposal r.board.size r.number c (view_of k) (own_append g x) (seen_in k c) s)
      → (s : ℕ) → mark ≡ marks.Number s → HoldEnters g k x c at
  enters_now (Event place) m entered s is =
      let one = m.4 in
      let at_place : place ≡ length one.before = (let f = one.place in let g : place ≡ length one.before = cc f in g) in
      let t = told_propose c h.passes.number m.0 m.1 in
      let there : slice_get (seen_in k c) (length one.before) ≡ Some t =
      subst (λ (l : List Told). slice_get l (length one.before) ≡ Some t) (sym one.adds) (at_end one.before t) in
      let low = prefix_length (seen_in g c) (seen_in h c) (goes.more c) in
      let high = prefix_length (seen_in h c) one.before one.more in (
        omega (arith, low, high, at_place),
        m.1,
        ap (slice_get (seen_in k c)) at_place ∙ there
            ∙ (λ i. Some (told_propose c (goes.number i) (is_node m.0 m.2 i) m.1)),
      )
  enters_now (Look seen) look entered s is =
      let p = entered s is in
      let events_are : seen ≡ length (seen_in k c) =
      (let f = look.1 in let g : seen ≡ length (seen_in k c) = cc f in g) in
      let i = in_slice (seen_in k c) (told_propose c p.0 p.1 s)
      (in_contains (seen_in k c) (told_propose c p.0 p.1 s) p.3) in
      let there : slice_get (seen_in k c) i.0 ≡ Some (told_propose c p.0 x s) =
      i.1 ∙ (λ j. Some (told_propose c p.0 (is_node p.1 p.2 j) s)) in
      let within = slice_get_within (seen_in k c) i.0 (told_propose c p.0 x s) there in
      let low = prefix_length (seen_in g c) (seen_in h c) (goes.more c) in
      let high = prefix_length (seen_in h c) (seen_in k c) look.0.more in (
        omega (arith, low, high, events_are),
        omega (arith, events_are),
        i.0,
        omega (arith, within, events_are),
        p.0,
        not_own (Look seen) p.0 i.0 s look there,
        s,
        there,
      )

  goes_now : (at : At)
      → MatchAt at
      (λ _. (y : Node) × (s : ℕ) × IsBegunRow r.board.size r.number (view_of k) (own_append g x) y
      × (mark ≡ marks.Number s) × MakesOneIn c h k (told_propose c h.passes.number y s) at)
      (λ _. LooksIn c h k at)
      → GoesOn (IsStepBefore x (n + 1 + 1)) h k
  goes_now (Event place) m =
      makes_on (IsStepBefore x (n + 1 + 1)) c h k but (told_propose c h.passes.number m.0 m.1) (Event place) m.4 refl
      (n, here, sym m.2.of.id, omega arith)
  goes_now (Look seen) look = looks_on (IsStepBefore x (n + 1 + 1)) c h k but look.0

-- the first end, with one mark more
ends_next : (h k : Hold) (x : Node) (row : Row) (n c : ℕ) (mark : Mark) (ended : Option ℕ)
    → ((d : ℕ) → IsPrefix (seen_in h d) (seen_in k d)) → Grows (view_of h) (view_of k)
    → slice_get (members x.colours) n ≡ Some c → mark ≢ marks.None → KnowsMark (view_of k) row c mark
    → ((d : ℕ) → has x.colours d ≡ true → d < MAX_COLOURS) → EndsAmong h x row n ended
    → EndsAmong k x row (n + 1) (end_after ended c mark)
ends_next h k x row n c mark (Some first) more grows here set known low ends = end_later h h k x more grows row first ends
ends_next h k x row n c marks.None None more grows here set known low ends = absurd (set refl)
ends_next h k x row n c (marks.Number s) None more grows here set known low ends = λ i d lt at.
    elim (cases_eq i n) [
      | inl is ↦ (
        marks.Number s,
        set,
        (λ e. let f : ⊥ = cc (e) in f),
        subst (λ (e : ℕ). KnowsMark (view_of k) row e (marks.Number s))
            (let f : Some c ≡ Some d = sym here ∙ subst (λ (j : ℕ). slice_get (members x.colours) j ≡ Some d) is at in
            let g : c ≡ d = cc f in g) known,
      )
      | inr ne ↦ else_later h h k x more grows row d (ends i d (omega (arith, lt, ne)) at)
    ]
ends_next h k x row n c (marks.Fenced Memory) None more grows here set known low ends = λ i d lt at.
    elim (cases_eq i n) [
      | inl is ↦ (
        marks.Fenced Memory,
        set,
        (λ e. let f : ⊥ = cc (e) in f),
        subst (λ (e : ℕ). KnowsMark (view_of k) row e (marks.Fenced Memory))
            (let f : Some c ≡ Some d = sym here ∙ subst (λ (j : ℕ). slice_get (members x.colours) j ≡ Some d) is at in
            let g : c ≡ d = cc f in g) known,
      )
      | inr ne ↦ else_later h h k x more grows row d (ends i d (omega (arith, lt, ne)) at)
    ]
ends_next h k x row n c (marks.Fenced StampEnd) None more grows here set known low ends = record {
  coloured = member_has x.colours n c here;
  fence = known;
  least = λ d it lt.
      let i = member_at x.colours d (low d it) it in
      else_later h h k x more grows row d (ends i.0 d (members_before x.colours i.0 n d c i.1 here lt) i.1);
}

-- one colour more is proposed
module _ (r : Region) (g h k : Hold) (x : Node) (c n : ℕ) (mark : Mark) (at : At) (fresh : IsNextOf r g x)
    (here : slice_get (members x.colours) n ≡ Some c) (but : SameBut c h k) (later : IsLater h.seat k.seat)
    (next : k.next ≡ h.next) (set : mark ≢ marks.None) (known : KnowsMark (view_of k) (own_row g) c mark)
    (low : (d : ℕ) → has x.colours d ≡ true → d < MAX_COLOURS)
    (entered : (s : ℕ) → mark ≡ marks.Number s
    → HasProposal r.board.size r.number c (view_of k) (own_append g x) (seen_in k c) s)
    (answers : MatchAt at
    (λ _. (y : Node) × (s : ℕ) × IsBegunRow r.board.size r.number (view_of k) (own_append g x) y
    × (mark ≡ marks.Number s) × MakesOneIn c h k (told_propose c h.passes.number y s) at)
    (λ _. LooksIn c h k at)) where
  steps_next : HoldStopsAfter r g h x (n + 1) → HoldStopsAfter r g k x (n + 1 + 1)
  steps_next was =
      let goes = goes_now r g h k x c n mark fresh here was.goes but at answers in
      let inside = slice_get_within (members x.colours) n c here in record {
        begun = begun_on r g h k x later next was.begun;
        marked = λ i d e lt. elim (cases_eq i n) [
          | inl is ↦ subst (λ (j : ℕ). HoldKnowsMarked k (own_append g x) j)
              (let f : Some c ≡ Some d = sym here ∙ subst (λ (j : ℕ). slice_get (members x.colours) j ≡ Some d) is e in
              let g : c ≡ d = cc f in g)
              (marked_at r k (own_append g x) c mark set known entered)
          | inr ne ↦ marked_later (IsStepBefore x (n + 1 + 1)) h k (own_append g x) goes later.grows d
              (was.marked i d e (omega (arith, lt, ne)))
        ];
        decided = λ le. absurd (let f : ⊥ = omega (arith, le, inside) in f);
        settled = λ i d e lt. absurd (let f : ⊥ = omega (arith, lt, inside) in f);
        goes = goes_then (IsStepBefore x (n + 1 + 1)) g h k
            (goes_weaken (IsStepBefore x (n + 1)) g h (IsStepBefore x (n + 1 + 1))
            (λ d e s. step_more x (n + 1) (n + 1 + 1) d e (omega arith) s) was.goes) goes;
      }

  pub proposed_next : (points new : List Point) (ended : Option ℕ)
      → ((i : ℕ) → i ≢ n → slice_get new i ≡ slice_get points i)
      → ((p : Point) → slice_get new n ≡ Some p → (p.colour ≡ c) × (p.at ≡ at))
      → AreProposed r g h x points n ended → AreProposed r g k x new (n + 1) (end_after ended c mark)
  proposed_next points new ended others is_new was =
      let goes = goes_now r g h k x c n mark fresh here was.steps.goes but at answers in record {
        steps = steps_next was.steps;
        each = λ i p lt e. elim (cases_eq i n) [
          | inl is ↦
              let q = is_new p (subst (λ (j : ℕ). slice_get new j ≡ Some p) is e) in
              subst (λ (j : ℕ). IsProposedThere g k x j p.at) (sym q.0)
              (subst (λ (a : At). IsProposedThere g k x c a) (sym q.1) (record {
                mark = mark;
                set = set;
                known = known;
                entered = enters_now r g h k x c n mark fresh here was.steps.goes but at answers entered;
              }))
          | inr ne ↦ proposed_later g h k x goes.more later.grows p.colour p.at
              (was.each i p (omega (arith, lt, ne)) (sym (others i ne) ∙ e))
        ];
        ends = ends_next h k x (own_row g) n c mark ended goes.more later.grows here set known low was.ends;
      }
