-- What is found of an append that stopped.
use Rattle.std.proofs.Common.{◌≡◌, ◌⊎◌, ◌∙◌, refl, ap, sym, subst, Bool, true, false, ℕ, zero, suc, ◌+◌, ◌*◌, ◌<◌, ◌≤◌, List, [], ◌∷◌, ◌++◌, length, map, take, get_or, Option, Some, None, inl, inr, arith}
use Rattle.std.specs.Prelude.{◌≢◌, is_some, slice_get}
use Rattle.std.specs.List.{All}
use Rattle.std.proofs.lemmas.Bool.{cases_lt, true≢false}
use Rattle.std.proofs.lemmas.List.{length-append, take_more}
use Rattle.std.proofs.lemmas.Option.{get_or_from_slice_get, slice_get_within}
use Rattle.log_node.specs.declared.ids.Id.{Id}
use Rattle.log_node.specs.declared.marks.Mark.{Mark}
use Rattle.log_node.specs.declared.marks.Mark.TheVariants as marks
use Rattle.log_node.specs.declared.marks.ColourMark.{ColourMark}
use Rattle.log_node.specs.declared.marks.Outcome.TheVariants.{Open}
use Rattle.log_node.specs.Standings.{open_entry, queue_of}
use Rattle.log_node.proofs.CallerLemmas.{get_within, same_some}
use Rattle.col_core.specs.declared.Entry.{Entry}
use Rattle.col_core.specs.History.{entries}
use Rattle.col_core.specs.Log.{Log}
use Rattle.col_core.specs.Keeping.{Kept}
use Rattle.col_core.proofs.CallerLemmas.{contains_in, slice_in}
use Rattle.std.proofs.lemmas.List.Elements.{All-contains}
use Rattle.script_text.specs.declared.commands.What.{What}
use Rattle.report_text.specs.declared.report.Answer.{Answer}
use Rattle.report_text.specs.declared.report.Answer.TheVariants as answers
use Rattle.report_text.specs.declared.report.ColumnReport.{ColumnReport}
use Rattle.report_text.specs.declared.report.RowReport.{RowReport}
use Rattle.lawful_run.specs.Callers.{Caller}
use Rattle.column_track.specs.Tracks.{Tells, Tracked}
use Rattle.run_rules.specs.Keeping.{RulesTo}
use Rattle.run_rules.specs.Nodes.{nodes_told}
use Rattle.run_rules.specs.Rules.{IsLawfulColumn, Rule7}
use Rattle.run_rules.specs.Told.{Untold}
use Rattle.run_rules.specs.Telling.{account_of, journal_among}
use Rattle.walk_law.specs.declared.row_places.RowPlaces.{RowPlaces}
use Rattle.walk_law.specs.declared.row_table.RowTable.{RowTable}
use Rattle.walk_law.specs.Fifth.{Finding, finding_in, next_id}
use Rattle.walk_law.specs.LeftOpen.{has_id, is_open_in}
use Rattle.walk_law.specs.Journals.{standing_shown}
use Rattle.walk_law.specs.RowPlaces.{AreRowPlaces}
use Rattle.walk_law.specs.Seventh.{AreOpenTables, AsksToStop, FindsOpen, IsClosed, IsEarlyAt, IsFence, Opening, SeventhIsStopping, StopsBeside, StopsBy, StopsIn, StopsOn, StopsOnRow, StopsSo, is_in_table, opening_in}
use Rattle.walk_law.specs.Sixth.{EntersOnlyAt}
use Rattle.walk_law.specs.Walking.{DecidesEachStep, MayWalk, Walked}
use Rattle.walk_law.proofs.LeftLemmas.{none_open, open_there}
use Rattle.walk_law.proofs.Lists.{told_not, told_so}
use Rattle.walk_law.proofs.Once.{was_entered}
use Rattle.walk_law.proofs.SubjectLemmas.{column_at, longer_cases}

-- WHAT COLUMNS LEAVE OPEN

pub table_more : (columns : List ColumnReport) (tables : List RowTable) (c : ColumnReport) (t : RowTable)
    → ((id : Id) → has_id t id ≡ is_open_in id c) → AreOpenTables columns tables
    → AreOpenTables (columns ++ c ∷ []) (tables ++ t ∷ [])
table_more columns tables c t is so = record {
  many = length-append tables (t ∷ []) ∙ (ap (λ (n : ℕ). n + 1) so.many ∙ sym (length-append columns (c ∷ [])));
  each = λ n d u at_d at_u. by n d u (longer_cases columns c d n at_d) (longer_cases tables t u n at_u);
} where
  by : (n : ℕ) (d : ColumnReport) (u : RowTable) → (slice_get columns n ≡ Some d) ⊎ ((n ≡ length columns) × (d ≡ c))
      → (slice_get tables n ≡ Some u) ⊎ ((n ≡ length tables) × (u ≡ t)) → (id : Id) → has_id u id ≡ is_open_in id d
  by n d u (inl a) (inl b) = so.each n d u a b
  by n d u (inr a) (inr b) = λ id.
      ap (λ (x : RowTable). has_id x id) b.1 ∙ (is id ∙ sym (ap (is_open_in id) a.1))
  by n d u (inl a) (inr b) =
      let low = slice_get_within columns n d a in
      let long = so.many in
      let last = b.0 in absurd (let f : ⊥ = omega (arith, low, long, last) in f)
  by n d u (inr a) (inl b) =
      let low = slice_get_within tables n u b in
      let long = so.many in
      let last = a.0 in absurd (let f : ⊥ = omega (arith, low, long, last) in f)

pub tables_more : (columns : List ColumnReport) (i : ℕ) (tables : List RowTable) (c : ColumnReport) (t : RowTable)
    → i < length columns → c ≡ get_or columns i c → ((id : Id) → has_id t id ≡ is_open_in id c)
    → AreOpenTables (take i columns) tables → AreOpenTables (take (i + 1) columns) (tables ++ t ∷ [])
tables_more columns i tables c t lt at is so =
    subst (λ (l : List ColumnReport). AreOpenTables l (tables ++ t ∷ []))
    (sym (take_more columns i c lt ∙ ap (λ (x : ColumnReport). take i columns ++ x ∷ []) (sym at)))
    (table_more (take i columns) tables c t is so)

-- so what is open is found by them
pub tables_find : (walked : Walked) (tracks : List Tracked) → MayWalk walked.script walked.report tracks → (tables : List RowTable)
    → AreOpenTables walked.report.columns tables
    → FindsOpen walked.script walked.report (opening_in tables walked.script.shape.colours)
tables_find walked tracks may tables are region colour lt low id = (
  λ f. subst (λ (h : List Entry). open_entry id (entries h) ≡ None) c.2 (none_open c.0 c.0.journal shown id (sym same ∙ f)),
  λ none. same ∙ open_there c.0 c.0.journal shown id
      (subst (λ (h : List Entry). open_entry id (entries h) ≡ None) (sym c.2) none),
) where
  c : (c : ColumnReport) × (slice_get walked.report.columns (region * walked.script.shape.colours + colour) ≡ Some c)
      × (c.journal ≡ journal_among walked.report.columns region colour)
  c = column_at walked.script walked.report tracks may region colour (region * walked.script.shape.colours + colour) lt low refl

  shown : map standing_shown c.0.queue ≡ queue_of (entries c.0.journal)
  shown = (All-contains (IsLawfulColumn walked.script) walked.report.columns c.0 may.second.each
      (contains_in walked.report.columns c.0
      (slice_in walked.report.columns (region * walked.script.shape.colours + colour) c.0 c.1))).closing.queue_shown

  t : (t : RowTable) × (slice_get tables (region * walked.script.shape.colours + colour) ≡ Some t)
  t =
      let long = are.many in
      let within = slice_get_within walked.report.columns (region * walked.script.shape.colours + colour) c.0 c.1 in
      get_within tables (region * walked.script.shape.colours + colour) (omega (arith, long, within))

  same : opening_in tables walked.script.shape.colours region colour id ≡ is_open_in id c.0
  same = ap (is_in_table id) t.1
      ∙ are.each (region * walked.script.shape.colours + colour) c.0 t.0 c.1 t.1 id

-- CLOSED FOR GOOD

pub closed_fence : (opens : Bool) (history : List Entry) (id : Id) (mark : Mark) → opens ≡ false → IsFence mark
    → IsClosed opens history id mark
closed_fence opens history id mark none fence = record { not_open = none; for_good = inl fence }

pub closed_told : (opens : Bool) (history : List Entry) (id : Id) (mark : Mark) → opens ≡ false → (IsFence mark → ⊥)
    → (o : Option ℕ) → EntersOnlyAt history id o → Tells (is_some o) (IsClosed opens history id mark)
closed_told opens history id mark none fence (Some place) enters_at = record {
  not_open = none;
  for_good = inr (was_entered history id place enters_at.there.0 enters_at.there.1 enters_at.there.2);
}
closed_told opens history id mark none fence None enters_at = λ is. elim is.for_good [
  | inl f ↦ fence f
  | inr entered ↦ true≢false (sym entered ∙ enters_at.there)
]

-- OF A ROW

pub read_mark : (ms : List ColourMark) (i : ℕ) (d : ColourMark) → i < length ms → slice_get ms i ≡ Some (get_or ms i d)
read_mark ms i d lt =
    let w = get_within ms i lt in
    w.1 ∙ ap (λ (x : ColourMark). Some x) (sym (get_or_from_slice_get ms i w.0 d w.1))

module _ (opens : Opening) (log : Log) (caller : Caller) (kept : Kept) (places : ℕ → List ℕ) (k steps : ℕ) where
  pub in_told : (n : ℕ) (m : ColourMark) → (n + 1 < steps → m.mark ≢ marks.None)
      → (n + k + 2 < steps → IsClosed (opens caller.own m.colour (next_id caller kept)) (log.histories caller.own m.colour)
      (next_id caller kept) m.mark)
      → (b : Bool) → Tells b (All (IsEarlyAt (log.histories caller.own m.colour) n k steps) (places m.colour))
      → Tells b (StopsIn opens log caller kept places k steps n m)
  in_told n m marked settled true no_later = record { marked = marked; settled = settled; no_later = no_later }
  in_told n m marked settled false fails = λ is. fails is.no_later

  -- of the colours so far
  abbrev pub StopSo : List ColourMark → ℕ → Type 0
  StopSo ms i = (n : ℕ) (m : ColourMark) → n < i → slice_get ms n ≡ Some m → StopsIn opens log caller kept places k steps n m

  module _ (ms : List ColourMark) (i : ℕ) (m : ColourMark) (at : slice_get ms i ≡ Some m) where
    pub stop_more : StopSo ms i → (b : Bool) → Tells b (StopsIn opens log caller kept places k steps i m) → b ≡ true → StopSo ms (i + 1)
    stop_more so b told is n d lt there = elim (cases_lt n i) [
      | inl less ↦ so n d less there
      | inr ge ↦
          let e : i ≡ n = omega (arith, lt, ge) in
          let same : m ≡ d = same_some (sym at ∙ (ap (slice_get ms) e ∙ there)) in
          subst (λ (x : ℕ). StopsIn opens log caller kept places k steps x d) e
          (subst (StopsIn opens log caller kept places k steps i) same (told_so b told is))
    ]

    pub stop_not : (b : Bool) → Tells b (StopsIn opens log caller kept places k steps i m) → b ≡ false
        → ((n : ℕ) (d : ColourMark) → slice_get ms n ≡ Some d → StopsIn opens log caller kept places k steps n d) → ⊥
    stop_not b told is all = told_not b told is (all i m at)

  pub stop_all : (ms : List ColourMark) (i : ℕ) → length ms ≤ i → StopSo ms i
      → (n : ℕ) (m : ColourMark) → slice_get ms n ≡ Some m → StopsIn opens log caller kept places k steps n m
  stop_all ms i ge so n m at = let lt = slice_get_within ms n m at in so n m (omega (arith, lt, ge)) at

module _ (opens : Opening) (log : Log) (caller : Caller) (kept : Kept) (places : ℕ → List ℕ) where
  on_own : (steps : ℕ) (r : RowReport) → (length r.marks + 2 ≤ steps → r.last ≢ Open) → (b : Bool)
      → Tells b ((n : ℕ) (m : ColourMark) → slice_get r.marks n ≡ Some m
      → StopsIn opens log caller kept places (length r.marks) steps n m)
      → Tells b (StopsOn opens log caller kept places steps r)
  on_own steps r decided true each = record { decided = decided; each = each }
  on_own steps r decided false fails = λ is. fails is.each

  pub on_told : (steps : ℕ) (r : RowReport) (ms : List ColourMark) → ms ≡ r.marks → (length ms + 2 ≤ steps → r.last ≢ Open)
      → (b : Bool)
      → Tells b ((n : ℕ) (m : ColourMark) → slice_get ms n ≡ Some m → StopsIn opens log caller kept places (length ms) steps n m)
      → Tells b (StopsOn opens log caller kept places steps r)
  on_told steps r ms same decided b told =
      on_own steps r (subst (λ (l : List ColourMark). length l + 2 ≤ steps → r.last ≢ Open) same decided) b
      (subst (λ (l : List ColourMark). Tells b ((n : ℕ) (m : ColourMark) → slice_get l n ≡ Some m
      → StopsIn opens log caller kept places (length l) steps n m)) same told)

  pub on_not : (steps : ℕ) (r : RowReport) (ms : List ColourMark) → ms ≡ r.marks
      → ((length ms + 2 ≤ steps → r.last ≢ Open) → ⊥) → StopsOn opens log caller kept places steps r → ⊥
  on_not steps r ms same fails is =
      fails (subst (λ (l : List ColourMark). length l + 2 ≤ steps → r.last ≢ Open) (sym same) is.decided)

  -- of some step or more
  pub row_told : (find : Finding) (steps : ℕ) → (steps ≡ 0 → ⊥) → (o : Option RowReport)
      → o ≡ find caller.own (next_id caller kept) → (b : Bool) → Tells b (StopsOnRow opens log caller kept places steps o)
      → Tells b (StopsSo find opens log caller kept places steps)
  row_told find zero some o found b told = absurd (some refl)
  row_told find (suc n) some o found b told =
      subst (λ (x : Option RowReport). Tells b (StopsOnRow opens log caller kept places (suc n) x)) found told

  pub none_done : (find : Finding) (steps : ℕ) → steps ≡ 0 → StopsSo find opens log caller kept places steps
  none_done find steps is = subst (StopsSo find opens log caller kept places) (sym is) tt

-- of the answer of a stop
pub stop_told : (find : Finding) (opens : Opening) (log : Log) (untold : Untold) (caller : Caller) (kept : Kept) (what : What)
    (steps : ℕ) (answer : Answer) (places : ℕ → List ℕ) → answer ≡ answers.Stopped steps → untold.places ≡ places
    → AsksToStop what steps → (b : Bool) → Tells b (StopsSo find opens log caller kept places steps)
    → Tells b (StopsBy find opens log untold caller kept what answer)
stop_told find opens log untold caller kept what steps answer places is same asks b told =
    subst (λ (a : Answer). Tells b (StopsBy find opens log untold caller kept what a)) (sym is)
    (by b (subst (λ (p : ℕ → List ℕ). Tells b (StopsSo find opens log caller kept p steps)) (sym same) told)) where
      by : (b : Bool) → Tells b (StopsSo find opens log caller kept untold.places steps)
          → Tells b (StopsBy find opens log untold caller kept what (answers.Stopped steps))
      by true so = (asks, so)
      by false fails = λ both. fails both.1

-- the rule, as it is decided of each step
pub seventh_told : SeventhIsStopping → (walked : Walked) (tracks : List Tracked) → MayWalk walked.script walked.report tracks
    → (table : RowPlaces) → AreRowPlaces walked.report.rows table → (tables : List RowTable)
    → AreOpenTables walked.report.columns tables
    → RulesTo walked.script walked.report (account_of walked.script walked.report (nodes_told walked.script walked.report)) 6
    → (b : Bool)
    → DecidesEachStep walked (λ caller step. StopsBeside (finding_in table walked.report.rows)
    (opening_in tables walked.script.shape.colours) walked caller step) b
    → Tells b (Rule7 walked.script walked.report (account_of walked.script walked.report (nodes_told walked.script walked.report)))
seventh_told law walked tracks may table are tables of rules true told =
    (law walked.script walked.report (finding_in table walked.report.rows) (opening_in tables walked.script.shape.colours) may.fitting
    may.formed are (tables_find walked tracks may tables of) rules).0
    (told (nodes_told walked.script walked.report))
seventh_told law walked tracks may table are tables of rules false told = λ rule.
    told (nodes_told walked.script walked.report)
    ((law walked.script walked.report (finding_in table walked.report.rows) (opening_in tables walked.script.shape.colours) may.fitting
    may.formed are (tables_find walked tracks may tables of) rules).1 rule)
