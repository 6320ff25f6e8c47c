-- The rows of each region are lawful beside the histories of its columns.
use Rattle.std.proofs.Common.{◌≡◌, ℕ, ◌<◌, List, [], ◌∷◌, length, map, refl, subst, ap, sym, ◌∙◌, inl, inr, ◌⊎◌}
use Rattle.std.specs.Prelude.{◌≢◌, reverse}
use Rattle.std.specs.List.{All}
use Rattle.std.proofs.lemmas.Bool.{lt-ltb}
use Rattle.log_node.specs.declared.ids.Id.{Id}
use Rattle.log_node.specs.declared.ids.Counts.{Counts}
use Rattle.log_node.specs.Order.{same_id}
use Rattle.log_node.specs.Sets.{members}
use Rattle.log_node.specs.declared.marks.Why.TheVariants.{Memory, StampEnd}
use Rattle.log_node.specs.declared.marks.Mark.{Mark}
use Rattle.log_node.specs.declared.marks.Mark.TheVariants as marks
use Rattle.log_node.specs.declared.marks.ColourMark.{ColourMark}
use Rattle.log_node.specs.declared.marks.Outcome.{Outcome}
use Rattle.log_node.specs.declared.marks.Outcome.TheVariants.{Open, Gone, Final}
use Rattle.log_node.specs.Outcomes.{outcome_of}
use Rattle.col_core.specs.declared.Event.TheVariants as events
use Rattle.col_core.specs.declared.Event.{Event}
use Rattle.col_core.specs.declared.Entry.{Entry}
use Rattle.col_core.specs.Rows.{BegunRow, FitsRow, FitsRows, IsMarkOf, FitsMarks, Proposes}
use Rattle.col_core.proofs.CallerLemmas.{choice, if_true, same_id-refl, same_id-true, In, Status, Alone, Waits}
use Rattle.col_core.proofs.CallerLemmas.{Settled, status, after_event, IsLawfulPast, IsLawfulNext}
use Rattle.world_laws.specs.Worlds.{World, RowState, home_of, marks_of}
use Rattle.world_laws.specs.Laws.{rows_of_region, HaveLawfulHistories, HaveLawfulRows, IsBounded}
use Rattle.world_laws.proofs.Basics.{in_slice, slice_in, in_reverse}
use Rattle.world_laws.proofs.Held.{status_in, Agrees, Held}
use Rattle.world_laws.proofs.Marks.{colour_in}
use Rattle.world_laws.proofs.Histories.{lawful_past_in, clock_within}
use Rattle.world_laws.proofs.Keeps.{row_agrees}
use Rattle.world_laws.proofs.Agreement.{colour_of_mark}
use Rattle.world_laws.proofs.Told.{FitsEvent, FitsPropose, FitsSettle, Told}
use Rattle.world_laws.proofs.RegionRows.{Differ, all_in, counted, in_map, of_region, pairs_all, region_pairs, row_at, row_in, row_stands, same_number}

-- Marks

abbrev mark_with : RowState → ℕ → ColourMark
mark_with r c = record { colour = c; mark = r.marks c }

colours_are : (r : RowState) (cs : List ℕ) → map (λ (m : ColourMark). m.colour) (map (mark_with r) cs) ≡ cs
colours_are r [] = refl
colours_are r (c ∷ cs) = ap (λ (l : List ℕ). c ∷ l) (colours_are r cs)

marks_are : (r : RowState) (cs : List ℕ) → map (λ (m : ColourMark). m.mark) (map (mark_with r) cs) ≡ map r.marks cs
marks_are r [] = refl
marks_are r (c ∷ cs) = ap (λ (l : List Mark). r.marks c ∷ l) (marks_are r cs)

-- a proposal of a row's id is its mark
proposed_mark : (w : World) → Held w → Told w → (a k : ℕ) → k < (w.clients a).used → (c s : ℕ)
    → Proposes (w.histories (home_of w a) c) (w.rows a k).node.id s → (w.rows a k).marks c ≡ marks.Number s
proposed_mark w h t a k lt c s (n, e, floor, wants, at, is, stamped) =
    let f : FitsPropose w (home_of w a) c (w.rows a k).node.id floor wants e.stamp = subst
    (λ (ev : Event). FitsEvent w (home_of w a) c ev e.stamp) is (t.events (home_of w a) c e (slice_in _ n e at)) in
    let same = same_number w h (w.rows a k).node.id.client f.number a k f.begun lt f.is in
    subst (λ (x : ℕ). (w.rows a k).marks c ≡ marks.Number x) stamped
    (subst (λ (x : ℕ). (w.rows x k).marks c ≡ marks.Number e.stamp) same.0
    (subst (λ (x : ℕ). (w.rows (w.rows a k).node.id.client x).marks c ≡ marks.Number e.stamp) same.1 f.mark))

mark_is : (w : World) → Held w → Told w → (a k : ℕ) → k < (w.clients a).used → (c : ℕ) (m : Mark)
    → (w.rows a k).marks c ≡ m → IsMarkOf (w.histories (home_of w a) c) (w.rows a k).node m
mark_is w h t a k lt c marks.None e = λ s p. let x = proposed_mark w h t a k lt c s p in cc
mark_is w h t a k lt c (marks.Number s) e = (t.rows a k lt).numbers c s e
mark_is w h t a k lt c (marks.Fenced Memory) e = λ s p. let x = proposed_mark w h t a k lt c s p in cc
mark_is w h t a k lt c (marks.Fenced StampEnd) e =
    (λ s p. let x = proposed_mark w h t a k lt c s p in cc, (t.rows a k lt).at_end c e)

fits_is : (all : List Mark) (last o : Outcome) → last ≡ o → ((last ≡ Open) ⊎ (last ≡ outcome_of all)) → FitsMarks all o
fits_is all last Open e k = tt
fits_is all last (Gone why) e (inl k) = absurd (let x : ⊥ = cc in x)
fits_is all last (Gone why) e (inr k) = sym k ∙ e
fits_is all last (Final f) e (inl k) = absurd (let x : ⊥ = cc in x)
fits_is all last (Final f) e (inr k) = sym k ∙ e

-- A single's id is that of no row

alone_next : (past : List Entry) (ev : Event) (stamp : ℕ) (id : Id) (s : ℕ) → IsLawfulNext past ev stamp
    → status id past ≡ Alone s → after_event id ev stamp (status id past) ≡ Alone s
alone_next past (events.Single other floor wants) stamp id o l e =
    choice (λ (st : Status). st ≡ Alone o) (same_id id other) (Alone stamp) (status id past)
    (λ t. let f = l.fresh in let g : status other past ≡ Alone o = subst (λ (i : Id). status i past ≡ Alone o)
    (same_id-true id other t) e in absurd (let x : ⊥ = cc in x)) (λ _. e)
alone_next past (events.Propose other floor wants) stamp id o l e =
    choice (λ (st : Status). st ≡ Alone o) (same_id id other) (Waits stamp) (status id past)
    (λ t. let f = l.fresh in let g : status other past ≡ Alone o = subst (λ (i : Id). status i past ≡ Alone o)
    (same_id-true id other t) e in absurd (let x : ⊥ = cc in x)) (λ _. e)
alone_next past (events.Settle other p) stamp id o l e =
    choice (λ (st : Status). st ≡ Alone o) (same_id id other) (Settled p) (status id past)
    (λ t. let f = l.waits in let g : status other past ≡ Alone o = subst (λ (i : Id). status i past ≡ Alone o)
    (same_id-true id other t) e in absurd (let x : ⊥ = cc in x)) (λ _. e)
alone_next past (events.Raise _) stamp id o l e = e
alone_next past (events.Give _ _) stamp id o l e = e
alone_next past (events.Carry _ _ _) stamp id o l e = e
alone_next past (events.Trim _) stamp id o l e = e

alone_status : (past : List Entry) → IsLawfulPast past → (e : Entry) → In e past
    → (id : Id) (floor : ℕ) (wants : Counts) → e.event ≡ events.Single id floor wants → status id past ≡ Alone e.stamp
alone_status [] l e i id floor wants is = absurd i
alone_status (d ∷ past) l e (inl same) id floor wants is =
    subst (λ (x : Entry). after_event id x.event x.stamp (status id past) ≡ Alone e.stamp) (sym same)
    (subst (λ (x : Event). after_event id x e.stamp (status id past) ≡ Alone e.stamp) (sym is)
    (if_true (same_id id id) (Alone e.stamp) (status id past) (same_id-refl id)))
alone_status (d ∷ past) l e (inr j) id floor wants is =
    alone_next past d.event d.stamp id e.stamp l.0 (alone_status past l.1 e j id floor wants is)

never_alone : (m : Mark) (last : Outcome) (st : Status) (s : ℕ) → Agrees m last st → st ≡ Alone s → ⊥
never_alone marks.None last st s h e = cc
never_alone (marks.Fenced why) last st s h e = cc
never_alone (marks.Number n) last st s (inl h) e = cc
never_alone (marks.Number n) last st s (inr p) e = let q = p.1 in cc

-- What an event asks for

event_fits : (w : World) → Held w → Told w → (region c : ℕ) (e : Entry) → In e (w.histories region c) → (ev : Event)
    → e.event ≡ ev → FitsRows (rows_of_region w region) c ev
event_fits w h t region c e i (events.Single id floor wants) is =
    all_in (λ (r : BegunRow). r.node.id ≢ id) (rows_of_region w region) (λ r j same.
    let x = of_region w region r j in
    let alone = alone_status (reverse (w.histories region c)) (lawful_past_in w h region c) e
    (in_reverse e (w.histories region c) i) id floor wants is in
    let of_row : (w.rows x.0 x.1.number).node.id ≡ id = ap (λ (s : BegunRow). s.node.id) x.1.is ∙ same in
    never_alone _ (w.rows x.0 x.1.number).last _ e.stamp (row_agrees w h x.0 x.1.number x.1.begun region c)
    (subst (λ (k : Id). status_in (w.histories region c) k ≡ Alone e.stamp) (sym of_row) alone))
event_fits w h t region c e i (events.Propose id floor wants) is =
    let f : FitsPropose w region c id floor wants e.stamp = subst (λ (ev : Event). FitsEvent w region c ev e.stamp) is
    (t.events region c e i) in
    let at = in_slice (rows_of_region w region) (row_in w id.client f.number)
    (row_stands w t region id.client f.number f.begun (sym f.home)) in
    let has = colour_of_mark w h (row_at id.client f.number) c (lt-ltb f.number (w.clients id.client).used f.begun)
    (λ none. set _ e.stamp f.mark none) in
    let member = in_slice (members (w.rows id.client f.number).node.colours) c
    (colour_in (members (w.rows id.client f.number).node.colours) c has) in
    (at.0, row_in w id.client f.number, at.1, f.is, f.wants_is, f.floor_is, member.0, member.1) where
      set : (m : Mark) (s : ℕ) → m ≡ marks.Number s → m ≡ marks.None → ⊥
      set m s e n = cc
event_fits w h t region c e i (events.Settle id o) is =
    let f : FitsSettle w region id o = subst (λ (ev : Event). FitsEvent w region c ev e.stamp) is
    (t.events region c e i) in
    let at = in_slice (rows_of_region w region) (row_in w id.client f.number)
    (row_stands w t region id.client f.number f.begun (sym f.home)) in
    (at.0, row_in w id.client f.number, at.1, f.is, f.last)
event_fits w h t region c e i (events.Raise _) is = tt
event_fits w h t region c e i (events.Give _ _) is = tt
event_fits w h t region c e i (events.Carry _ _ _) is = tt
event_fits w h t region c e i (events.Trim _) is = tt

-- The laws

row_fits : (w : World) → Held w → Told w → (region a n : ℕ) → n < (w.clients a).used → home_of w a ≡ region
    → FitsRow region (row_in w a n)
row_fits w h t region a n lt home =
    let s = h.rows a n lt in
    let o = t.rows a n lt in
    record {
      client = s.of_client;
      row = o.row;
      in_region = o.region ∙ home;
      several = o.several;
      a_mark_each = colours_are (w.rows a n) (members (w.rows a n).node.colours);
    }

row_marks : (w : World) → Held w → Told w → (region a n : ℕ) → n < (w.clients a).used → home_of w a ≡ region
    → All (λ (m : ColourMark). IsMarkOf (w.histories region m.colour) (w.rows a n).node m.mark) (row_in w a n).marks
row_marks w h t region a n lt home =
    all_in (λ (m : ColourMark). IsMarkOf (w.histories region m.colour) (w.rows a n).node m.mark) (row_in w a n).marks
    (λ m i.
    let r = in_map (mark_with (w.rows a n)) (members (w.rows a n).node.colours) m i in
    subst (λ (x : ColourMark). IsMarkOf (w.histories region x.colour) (w.rows a n).node x.mark) r.2
    (subst (λ (x : ℕ). IsMarkOf (w.histories x r.0) (w.rows a n).node ((w.rows a n).marks r.0)) home
    (mark_is w h t a n lt r.0 ((w.rows a n).marks r.0) refl)))

pub have_lawful_rows : (w : World) → Held w → Told w → HaveLawfulRows w
have_lawful_rows w h t region = record {
  in_order = λ client. counted w region client 0 (length w.shape.homes);
  fit = all_in (FitsRow region) rows
      (λ r i. let x = of_region w region r i in subst (FitsRow region) x.1.is
      (row_fits w h t region x.0 x.1.number x.1.begun x.1.home));
  ids_differ = pairs_all Differ rows (region_pairs w h region 0 (length w.shape.homes));
  marks = all_in
      (λ (r : BegunRow). All (λ (m : ColourMark). IsMarkOf (w.histories region m.colour) r.node m.mark) r.marks) rows
      (λ r i. let x = of_region w region r i in
      subst (λ (s : BegunRow). All
      (λ (m : ColourMark). IsMarkOf (w.histories region m.colour) s.node m.mark) s.marks) x.1.is
      (row_marks w h t region x.0 x.1.number x.1.begun x.1.home));
  outcomes = all_in (λ (r : BegunRow). FitsMarks (map (λ (m : ColourMark). m.mark) r.marks) r.last) rows
      (λ r i. let x = of_region w region r i in
      subst (λ (s : BegunRow). FitsMarks (map (λ (m : ColourMark). m.mark) s.marks) s.last) x.1.is
      (fits_row x.0 x.1.number x.1.begun));
  events = λ colour lt. all_in (λ (e : Entry). FitsRows rows colour e.event) (w.histories region colour)
      (λ e i. event_fits w h t region colour e i e.event refl);
} where
  rows : List BegunRow
  rows = rows_of_region w region

  fits_row : (a n : ℕ) → n < (w.clients a).used
      → FitsMarks (map (λ (m : ColourMark). m.mark) (row_in w a n).marks) (row_in w a n).last
  fits_row a n lt =
      subst (λ (ms : List Mark). FitsMarks ms (w.rows a n).last)
      (sym (marks_are (w.rows a n) (members (w.rows a n).node.colours)))
      (fits_is (marks_of (w.rows a n)) (w.rows a n).last (w.rows a n).last refl (h.rows a n lt).kept)

pub have_lawful_histories : (w : World) → Held w → HaveLawfulHistories w
have_lawful_histories w h = h.lawful

pub is_bounded : (w : World) → Held w → Told w → IsBounded w
is_bounded w h t = record {
  clocks = λ r c. clock_within (w.histories r c) (lawful_past_in w h r c);
  floors = h.floors;
  counts = t.counts;
  used = t.used;
}
