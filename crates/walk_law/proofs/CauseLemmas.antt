-- What is told of the cause of a refusal, by what is looked up.
use Rattle.std.proofs.Common.{◌≡◌, ◌⊎◌, ◌∙◌, refl, ap, sym, subst, Bool, true, false, ℕ, ◌+◌, ◌<◌, ◌≤◌, List, [], ◌∷◌, ◌++◌, length, take, drop, Option, Some, None, inl, inr, arith}
use Rattle.std.specs.Prelude.{is_some, not, slice_get}
use Rattle.std.proofs.lemmas.Bool.{true≢false}
use Rattle.std.proofs.lemmas.List.{length-append, take-append-drop, take_all}
use Rattle.log_node.specs.declared.forms.Pair.{Pair}
use Rattle.log_node.specs.declared.forms.Version.{Version}
use Rattle.log_node.specs.declared.ids.Counts.{Counts}
use Rattle.log_node.specs.declared.ids.Id.{Id}
use Rattle.log_node.specs.Vectors.{is_within}
use Rattle.log_node.proofs.CallerLemmas.{get_push}
use Rattle.col_core.specs.declared.Entry.{Entry}
use Rattle.col_core.specs.Computed.{dated}
use Rattle.col_core.specs.Cuts.{base}
use Rattle.col_core.specs.History.{IsAtEnd}
use Rattle.col_core.specs.Legal.{IsColumnHistory}
use Rattle.col_core.specs.Log.{Log}
use Rattle.col_core.specs.Keeping.{Kept}
use Rattle.col_core.proofs.CallerLemmas.{clocks_rise}
use Rattle.script_text.specs.declared.commands.What.{What}
use Rattle.script_text.specs.declared.commands.What.TheVariants as whats
use Rattle.script_text.specs.declared.script.Script.{Script}
use Rattle.script_text.specs.Fitting.{IsFitting}
use Rattle.script_text.proofs.CallerLemmas.{colours_few}
use Rattle.report_text.specs.declared.report.ColumnReport.{ColumnReport}
use Rattle.report_text.specs.declared.report.ReplyLine.{ReplyLine}
use Rattle.lawful_run.specs.Callers.{Caller, caller_of}
use Rattle.lawful_run.specs.Appends.{HadNoStamp}
use Rattle.lawful_run.specs.Asks.{home_asked, home_of_object}
use Rattle.lawful_run.specs.Reads.{IsTrimmed}
use Rattle.column_track.specs.Tracks.{Tells, Tracked}
use Rattle.run_rules.specs.Telling.{replies_to}
use Rattle.walk_law.specs.declared.row_table.RowTable.{RowTable}
use Rattle.walk_law.specs.Bases.{WasBase, base_after}
use Rattle.walk_law.specs.Eleventh.{AreOpenIds, HasEnd, HasEndedRow, HasNoTx, Lookups}
use Rattle.walk_law.specs.Fifth.{next_id}
use Rattle.walk_law.specs.Keepings.{Counted, IsCell, IsCounted, IsFoundAt, seen_at}
use Rattle.walk_law.specs.LeftOpen.{has_id, is_open_among}
use Rattle.walk_law.specs.Walking.{Walked, journal_walked, log_walked}
use Rattle.walk_law.proofs.SubjectLemmas.{few_regions}

-- two facts, of which the first is known
pub both_told : {P : Type 0} (Q : Type 0) → P → (b : Bool) → Tells b Q → Tells b (P × Q)
both_told Q p true q = (p, q)
both_told Q p false fails = λ two. fails two.1

-- a column of the shape is one that a log can have
pub cell_of : (script : Script) → IsFitting script → (region colour : ℕ) → region < script.shape.regions
    → colour < script.shape.colours → IsCell region colour
cell_of script fits region colour lt low =
    let r = few_regions script fits in
    let c = colours_few script.version script.shape fits.shape in
    (omega (arith, lt, r), omega (arith, low, c))

-- COLUMNS

module _ (walked : Walked) (n own : ℕ) (is_own : own ≡ (caller_of walked.script n).own) (kept : Kept) (counted : Counted)
    (is : IsCounted (replies_to walked.report n) kept counted) (colour : ℕ) (cell : IsCell own colour) (track : Tracked)
    (region : track.region ≡ own) (journal : track.journal ≡ journal_walked walked own colour) where
  abbrev who : Caller
  who = caller_of walked.script n

  abbrev log : Log
  log = log_walked walked

  history_is : track.journal ≡ log.histories who.own colour
  history_is = journal ∙ ap (λ (o : ℕ). journal_walked walked o colour) is_own

  seen_is : seen_at counted own colour ≡ kept.seen who.own colour
  seen_is = is.seen own colour cell ∙ ap (λ (o : ℕ). kept.seen o colour) is_own

  pub had_told : (h : List Entry) → h ≡ journal_walked walked own colour
      → IsColumnHistory track.region track.regions (dated track.region track.journal)
      → (seen : ℕ) → seen ≡ seen_at counted own colour → seen ≤ length h → (floor : ℕ) → floor ≡ counted.floor → (b : Bool)
      → Tells b (IsAtEnd h floor) → Tells b (HadNoStamp log who kept colour)
  had_told h shown lawful seen seen_so le floor floor_so b told = by b (subst (λ (f : ℕ). Tells b (IsAtEnd H f)) (floor_so ∙ is.floor)
      (subst (λ (x : List Entry). Tells b (IsAtEnd x floor)) same told)) where
        H : List Entry
        H = log.histories who.own colour

        same : h ≡ log.histories who.own colour
        same = shown ∙ ap (λ (o : ℕ). journal_walked walked o colour) is_own

        by : (t : Bool) → Tells t (IsAtEnd H kept.floor) → Tells t (HadNoStamp log who kept colour)
        by true ended =
            let s = seen_so ∙ seen_is in
            let long = ap length same in record {
              events = length H;
              unseen = omega (arith, s, le, long);
              there = omega arith;
              ended = subst (λ (x : List Entry). IsAtEnd x kept.floor) (sym (take_all (length H) H (omega arith))) ended;
            }
        by false fails = λ had.
            let whole = take-append-drop had.events H in
            let longer : IsColumnHistory track.region track.regions
            (dated track.region (take had.events H ++ drop had.events H)) =
            subst (λ (x : List Entry). IsColumnHistory track.region track.regions (dated track.region x))
            (history_is ∙ sym whole) lawful in
            fails (subst (λ (x : List Entry). IsAtEnd x kept.floor) whole
            ((clocks_rise track.region track.regions (take had.events H) (drop had.events H) longer).ended kept.floor had.ended))

  module _ (regions : track.regions ≡ who.regions) (shown : Counts) where
    base_same : (events : ℕ) → base_after track events ≡ base who.own who.regions (dated who.own (take events (log.histories who.own colour)))
    base_same events =
        ap (λ (h : List Entry). base track.region track.regions (dated track.region (take events h))) history_is
        ∙ (ap (λ (r : ℕ). base track.region r (dated track.region (take events (log.histories who.own colour)))) regions
        ∙ ap (λ (o : ℕ). base o who.regions (dated o (take events (log.histories who.own colour)))) (region ∙ is_own))

    -- no event is left that was not seen, or the start is no less
    pub not_trimmed_seen : (long : ℕ) → long ≡ length track.journal → (seen : ℕ) → seen ≡ seen_at counted own colour → long < seen
        → IsTrimmed log who kept colour shown → ⊥
    not_trimmed_seen long long_is seen seen_so lt x =
        let s = seen_so ∙ seen_is in
        let h = ap length history_is in
        let u = x.unseen in
        let t = x.there in
        omega (arith, s, h, u, t, lt, long_is)

    pub not_trimmed_start : (start : Counts) → start ≡ kept.starts colour → is_within shown start ≡ true
        → IsTrimmed log who kept colour shown → ⊥
    not_trimmed_start start same t x = true≢false (sym t ∙ (ap (is_within shown) same ∙ x.below))

    pub trimmed_told : (long : ℕ) → long ≡ length track.journal → (seen : ℕ) → seen ≡ seen_at counted own colour
        → (start : Counts) → start ≡ kept.starts colour → is_within shown start ≡ false → (b : Bool)
        → Tells b (WasBase track seen long shown) → Tells b (IsTrimmed log who kept colour shown)
    trimmed_told long long_is seen seen_so start same below true was =
        let s = seen_so ∙ seen_is in
        let h = ap length history_is in
        let u = was.1 in
        let t = was.2 in record {
          events = was.0;
          unseen = omega (arith, s, u);
          there = omega (arith, t, h, long_is);
          is_base = sym was.3 ∙ base_same was.0;
          below = ap (is_within shown) (sym same) ∙ below;
        }
    trimmed_told long long_is seen seen_so start same below false fails = λ x.
        let s = seen_so ∙ seen_is in
        let h = ap length history_is in
        let u = x.unseen in
        let t = x.there in
        fails (x.events, omega (arith, s, u), omega (arith, t, h, long_is), base_same x.events ∙ sym x.is_base)

-- COMMITS

module _ (caller : Caller) (kept : Kept) (object : ℕ) (pairs : List Pair) (what : What) (asks : what ≡ whats.Commit object pairs) where
  home_is : home_asked caller what ≡ home_of_object caller object
  home_is = ap (home_asked caller) asks

  pub no_tx_away : (home : Option ℕ) → home ≡ home_asked caller what → (own : ℕ) → own ≡ caller.own → (home ≡ Some own → ⊥)
      → HasNoTx caller kept what → ⊥
  no_tx_away home same own own_is away x =
      away (same ∙ (ap (home_asked caller) x.2 ∙ (x.3 ∙ ap (λ (o : ℕ). let s : Option ℕ = Some o in s) (sym own_is))))

  pub no_tx_told : (home : Option ℕ) → home ≡ home_asked caller what → (own : ℕ) → own ≡ caller.own → home ≡ Some own
      → (b : Bool) → Tells b (kept.reads object ≡ None) → Tells b (HasNoTx caller kept what)
  no_tx_told home same own own_is here true none = (
    object,
    pairs,
    asks,
    sym home_is ∙ (sym same ∙ (here ∙ ap (λ (o : ℕ). let s : Option ℕ = Some o in s) own_is)),
    none,
  )
  no_tx_told home same own own_is here false some = λ x.
      let c : whats.Commit object pairs ≡ whats.Commit x.0 x.1 = sym asks ∙ x.2 in
      let one : object ≡ x.0 = cc (c) in
      some (ap kept.reads one ∙ x.4)

-- a read is kept where its place is
pub unread_told : (replies : List ReplyLine) (found : Option (List Version)) (place : Option ℕ) → IsFoundAt replies found place
    → (b : Bool) → is_some place ≡ not b → Tells b (found ≡ None)
unread_told replies found place is true e = by found place e is where
  by : (r : Option (List Version)) (p : Option ℕ) → is_some p ≡ false → IsFoundAt replies r p → r ≡ None
  by None p f i = refl
  by (Some v) None f i = absurd i
  by (Some v) (Some k) f i = absurd (true≢false f)
unread_told replies found place is false e = by found place e is where
  by : (r : Option (List Version)) (p : Option ℕ) → is_some p ≡ true → IsFoundAt replies r p → r ≡ None → ⊥
  by r None t i none = true≢false (sym t)
  by None (Some k) t i none = i
  by (Some v) (Some k) t i none = let f : ⊥ = cc (none) in f

-- NODES OF SOME COLOURS

module _ (looks : Lookups) (walked : Walked) (caller : Caller) (kept : Kept) (colour : ℕ) (colours : List ℕ) where
  pub row_end : 1 < length colours → (b : Bool)
      → Tells b (HasEndedRow looks.is_open colour (looks.row caller.own (next_id caller kept)))
      → Tells b (HasEnd looks walked caller kept colour colours)
  row_end many b told = by colours many where
    by : (cs : List ℕ) → 1 < length cs → Tells b (HasEnd looks walked caller kept colour cs)
    by [] lt = absurd (let f : ⊥ = omega (arith, lt) in f)
    by (one ∷ []) lt = absurd (let f : ⊥ = omega (arith, lt) in f)
    by (one ∷ other ∷ more) lt = told

  pub only_end : colours ≡ colour ∷ [] → (b : Bool) → Tells b (HadNoStamp (log_walked walked) caller kept colour)
      → Tells b (HasEnd looks walked caller kept colour colours)
  only_end is b told =
      subst (λ (cs : List ℕ). Tells b (HasEnd looks walked caller kept colour cs)) (sym is) (both_told _ refl b told)

  pub no_end : length colours ≤ 1 → (colours ≡ colour ∷ [] → ⊥) → HasEnd looks walked caller kept colour colours → ⊥
  no_end few other = by colours few other where
    by : (cs : List ℕ) → length cs ≤ 1 → (cs ≡ colour ∷ [] → ⊥) → HasEnd looks walked caller kept colour cs → ⊥
    by [] le ne h = h
    by (one ∷ []) le ne h = ne (ap (λ (c : ℕ). c ∷ []) h.0)
    by (one ∷ two ∷ more) le ne h = absurd (let f : ⊥ = omega (arith, le) in f)

-- IDS BY REGION

pub no_ids : (columns : List ColumnReport) (tables : List RowTable) → tables ≡ [] → AreOpenIds 0 columns tables
no_ids columns tables none = record {
  many = ap length none;
  each = λ region table at. absurd (let e = ap (λ (l : List RowTable). slice_get l region) none in let f : ⊥ = cc (e, at) in f);
}

pub ids_more : (region : ℕ) (columns : List ColumnReport) (old new : List RowTable) (table : RowTable) → new ≡ old ++ table ∷ []
    → ((id : Id) → has_id table id ≡ is_open_among region columns id) → AreOpenIds region columns old
    → AreOpenIds (region + 1) columns new
ids_more region columns old new table more ids are = record {
  many =
      let long = length-append old (table ∷ []) in
      let count = ap length more in
      let before = are.many in
      omega (arith, long, count, before);
  each = λ r t at. by r t (get_push old table r t (ap (λ (l : List RowTable). slice_get l r) (sym more) ∙ at));
} where
  by : (r : ℕ) (t : RowTable) → (slice_get old r ≡ Some t) ⊎ ((r ≡ length old) × (table ≡ t))
      → (id : Id) → has_id t id ≡ is_open_among r columns id
  by r t (inl before) id = are.each r t before id
  by r t (inr last) id =
      ap (λ (x : RowTable). has_id x id) (sym last.1)
      ∙ (ids id ∙ ap (λ (k : ℕ). is_open_among k columns id) (sym (last.0 ∙ are.many)))
