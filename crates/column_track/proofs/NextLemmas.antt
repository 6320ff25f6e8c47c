-- The next entry of a journal: what places say of it, and what its column makes of the history.
use Rattle.std.proofs.Common.{◌≡◌, ◌⊎◌, ℕ, ◌+◌, ◌<◌, ◌≤◌, true, false, List, [], ◌∷◌, ◌++◌, length, take, drop, Option, Some, None, refl, ap, sym, subst, ◌∙◌, arith, inl, inr, zero, suc, get_or}
use Rattle.std.specs.Prelude.{slice_get}
use Rattle.std.proofs.lemmas.Bool.{true≢false, cases_order}
use Rattle.std.proofs.lemmas.List.{take_at, take_all, take-append-drop}
use Rattle.std.proofs.lemmas.List.FromFn.{map-range_with_len_more}
use Rattle.std.proofs.lemmas.Option.{slice_get_read}
use Rattle.log_node.specs.declared.ids.Id.{Id}
use Rattle.log_node.specs.Standings.{Standing, open_entry}
use Rattle.log_node.proofs.CallerLemmas.{get_last, get_longer, same_some}
use Rattle.col_core.specs.declared.Event.{Event}
use Rattle.col_core.specs.declared.Entry.{Entry}
use Rattle.col_core.specs.History.{entries, enters, has_entered}
use Rattle.col_core.specs.Cuts.{Dated}
use Rattle.col_core.specs.Computed.{cut, dated}
use Rattle.col_core.specs.Ids.{Proposes}
use Rattle.col_core.specs.Legal.{IsColumnHistory, IsLawfulEvent}
use Rattle.col_core.proofs.CallerLemmas.{dated-append, lawful_beginning, open_is_proposed, same_id-refl}
use Rattle.column_track.specs.declared.places.Places.{Places}
use Rattle.column_track.specs.Doing.{ArePlaces, EntersOnce, GoesThrough, HasGone, IsNextOf, IsStampOf, marks_of}
use Rattle.column_track.specs.Tracks.{mark_after}
use Rattle.column_track.specs.declared.marks.Mark.{Mark}
use Rattle.column.specs.Columns.{ColumnState, history_of}
use Rattle.column_track.proofs.PlaceLemmas.{next_is, was_entered}

module _ (journal before : List Entry) (e : Entry) (places : Places) (are : ArePlaces journal places) (next : IsNextOf journal before e) where
  -- an id that enters next has not entered
  pub fresh_next : (id : Id) → enters id e.event ≡ true → has_entered id before ≡ false
  fresh_next id t = ap (has_entered id) next.1 ∙ are.once next.0 e id next.2 t

  pub fresh_as : (id : Id) (event : Event) → e.event ≡ event → enters id event ≡ true → has_entered id before ≡ false
  fresh_as id event is t = fresh_next id (ap (enters id) is ∙ t)

-- an id enters at one place
one_place : (journal : List Entry) → EntersOnce journal → (id : Id) (m n : ℕ) (d e : Entry) → slice_get journal m ≡ Some d
    → slice_get journal n ≡ Some e → enters id d.event ≡ true → enters id e.event ≡ true → d ≡ e
one_place journal once id m n d e at_m at_n enters_m enters_n = by (cases_order m n) where
  earlier : (i j : ℕ) (x y : Entry) → i < j → slice_get journal i ≡ Some x → slice_get journal j ≡ Some y → enters id x.event ≡ true
      → enters id y.event ≡ true → ⊥
  earlier i j x y lt at_i at_j enters_i enters_j =
      true≢false (sym (was_entered (take j journal) id i x (get_taken journal i j x lt at_i) enters_i) ∙ once j y id at_j enters_j) where
        get_taken : (xs : List Entry) (i j : ℕ) (x : Entry) → i < j → slice_get xs i ≡ Some x → slice_get (take j xs) i ≡ Some x
        get_taken [] i j x lt there = absurd (let f : ⊥ = cc (there) in f)
        get_taken (y ∷ xs) i zero x lt there = absurd (let f : ⊥ = omega (arith, lt) in f)
        get_taken (y ∷ xs) zero (suc j) x lt there = there
        get_taken (y ∷ xs) (suc i) (suc j) x lt there = get_taken xs i j x (omega (arith, lt)) there

  by : (m ≡ n) ⊎ ((m < n) ⊎ (n < m)) → d ≡ e
  by (inl same) = same_some (sym at_m ∙ (ap (slice_get journal) same ∙ at_n))
  by (inr (inl lt)) = absurd (earlier m n d e lt at_m at_n enters_m enters_n)
  by (inr (inr lt)) = absurd (earlier n m e d lt at_n at_m enters_n enters_m)

-- an open id was proposed under the stamp that is known of it
pub proposed_under : (own regions : ℕ) (journal before : List Entry) (e : Entry) (places : Places) → ArePlaces journal places
    → IsNextOf journal before e → IsColumnHistory own regions (dated own before) → (id : Id) (o : Option ℕ) → IsStampOf journal id o
    → (s : Standing) → open_entry id (entries before) ≡ Some s → o ≡ Some s.key.stamp
proposed_under own regions journal before e places are next lawful id o stamp s is = by o stamp where
  p : Proposes before id s.key.stamp
  p = (open_is_proposed own regions before id s lawful is).proposed

  there : slice_get journal p.0 ≡ Some p.1
  there =
      ap (λ (l : List Entry). slice_get l p.0) (sym (take-append-drop next.0 journal))
      ∙ get_longer (take next.0 journal) (drop next.0 journal) p.0 p.1
      (ap (λ (l : List Entry). slice_get l p.0) (sym next.1) ∙ p.4)

  enters_it : enters id p.1.event ≡ true
  enters_it = ap (enters id) p.5 ∙ same_id-refl id

  by : (o : Option ℕ) → IsStampOf journal id o → o ≡ Some s.key.stamp
  by None none = absurd (true≢false (sym (was_entered journal id p.0 p.1 there enters_it) ∙ none))
  by (Some stamp) known =
      ap (λ (n : ℕ). Some n)
      (sym known.4 ∙ (ap (λ (x : Entry). x.stamp) (one_place journal are.once id known.0 p.0 known.1 p.1 known.2 there known.3 enters_it) ∙ p.6))

-- the last event of a lawful history is lawful
pub last_lawful : (own regions : ℕ) (before : List Entry) (e : Entry) → IsColumnHistory own regions (dated own (before ++ e ∷ []))
    → IsLawfulEvent own regions (dated own before) e.event e.stamp
last_lawful own regions before e lawful =
    let ds = dated own before in
    let d : Dated = record { entry = e; cut_before = cut own (dated own before) } in
    subst (λ (l : List Dated). IsLawfulEvent own regions l e.event e.stamp) (take_at ds (d ∷ []) (length ds) refl)
    (subst (IsColumnHistory own regions) (dated-append own before e) lawful (length ds) d (get_last ds d))

-- SO FAR

-- the column has the first events of a journal, and the marks are those after each number of them
pub record IsSoFar (old column : ColumnState) (journal : List Entry) (n : ℕ) (marks : List Mark) : Type 0 where
  pub region : column.region ≡ old.region
  pub colour : column.colour ≡ 0
  pub regions : column.regions ≡ old.regions
  pub before : column.journal ≡ take n journal
  pub marks_are : marks ≡ marks_of old.region old.regions journal (n + 1)

module _ (old column : ColumnState) (journal : List Entry) (n : ℕ) (marks : List Mark) (so : IsSoFar old column journal n marks)
    (e : Entry) (lt : n < length journal) (is : e ≡ get_or journal n e) where
  pub so_far_next : (new : ColumnState) (more : List Mark) → HasGone column new e.by e.event e.stamp
      → more ≡ marks ++ mark_after new.region new.regions new.journal ∷ [] → IsSoFar old new journal (n + 1) more
  so_far_next new more gone pushed = record {
    region = region;
    colour = gone.colour ∙ so.colour;
    regions = regions;
    before = before;
    marks_are =
        pushed
        ∙ (ap (λ (m : Mark). marks ++ m ∷ [])
        (ap (λ (r : ℕ). mark_after r new.regions new.journal) region
        ∙ (ap (λ (r : ℕ). mark_after old.region r new.journal) regions ∙ ap (mark_after old.region old.regions) before))
        ∙ (ap (λ (l : List Mark). l ++ mark_after old.region old.regions (take (n + 1) journal) ∷ []) so.marks_are
        ∙ sym (map-range_with_len_more (λ i. mark_after old.region old.regions (take i journal)) 0 (n + 1) (n + 1) (omega arith))));
  } where
    region : new.region ≡ old.region
    region = gone.region ∙ so.region

    regions : new.regions ≡ old.regions
    regions = gone.regions ∙ so.regions

    before : new.journal ≡ take (n + 1) journal
    before = gone.journal ∙ (ap (λ (l : List Entry). l ++ e ∷ []) so.before ∙ sym (next_is journal n e lt is))

  pub so_far_stops : (IsLawfulEvent column.region column.regions (history_of column) e.event e.stamp → ⊥)
      → IsColumnHistory old.region old.regions (dated old.region journal) → ⊥
  so_far_stops refuses lawful =
      refuses (subst (λ (r : ℕ). IsLawfulEvent r column.regions (dated r column.journal) e.event e.stamp) (sym so.region)
      (subst (λ (r : ℕ). IsLawfulEvent old.region r (dated old.region column.journal) e.event e.stamp) (sym so.regions)
      (subst (λ (h : List Entry). IsLawfulEvent old.region old.regions (dated old.region h) e.event e.stamp) (sym so.before)
      (last_lawful old.region old.regions (take n journal) e
      (subst (λ (h : List Entry). IsColumnHistory old.region old.regions (dated old.region h)) (next_is journal n e lt is)
      (lawful_beginning old.region old.regions (take (n + 1) journal) (drop (n + 1) journal)
      (subst (λ (h : List Entry). IsColumnHistory old.region old.regions (dated old.region h))
      (sym (take-append-drop (n + 1) journal)) lawful)))))))

-- what places ask of the next entry
pub so_far_at : (old column : ColumnState) (journal : List Entry) (n : ℕ) (marks : List Mark) → IsSoFar old column journal n marks
    → (e : Entry) → n < length journal → e ≡ get_or journal n e → IsNextOf journal column.journal e
so_far_at old column journal n marks so e lt is = (n, so.before, slice_get_read journal (length journal) n e refl lt is)

pub so_far_ends : (old column : ColumnState) (journal : List Entry) (n : ℕ) (marks : List Mark) → IsSoFar old column journal n marks
    → length journal ≤ n → n ≤ length journal → GoesThrough old column journal marks true
so_far_ends old column journal n marks so all within =
    let same : n ≡ length journal = omega (arith, all, within) in (
      so.region,
      so.regions,
      so.before ∙ take_all n journal all,
      so.marks_are ∙ ap (λ (k : ℕ). marks_of old.region old.regions journal (k + 1)) same,
    )
