-- What is looked up of all columns, and of one of them.
use Rattle.std.proofs.Common.{◌≡◌, ◌⊎◌, ℕ, zero, suc, ◌+◌, ◌*◌, ◌^◌, ◌<◌, ◌≤◌, Bool, true, false, ◌&&◌, ◌==◌, cond, List, [], ◌∷◌, ◌++◌, length, take, Some, None, inl, inr, refl, ap, sym, subst, ◌∙◌, arith, get_or}
use Rattle.std.specs.Prelude.{nat_lt, slice_get, slice_index_or}
use Rattle.std.specs.List.{filter}
use Rattle.std.proofs.lemmas.Bool.{and_parts, cases_Bool, eqb-true, le-ltb, ltb-false, ltb-true}
use Rattle.std.proofs.lemmas.List.{length-append, length-map, take_more}
use Rattle.std.proofs.lemmas.Option.{get_or_from_slice_get, slice_get_within}
use Rattle.log_node.proofs.CallerLemmas.{get_within, same_some}
use Rattle.col_core.specs.declared.Entry.{Entry}
use Rattle.col_core.proofs.CallerLemmas.{In}
use Rattle.script_text.specs.Fitting.{IsFitting}
use Rattle.script_text.specs.declared.limits.TheConstants.{VERSION_1, VERSION_2}
use Rattle.script_text.specs.declared.script.Command.{Command}
use Rattle.script_text.specs.declared.script.Script.{Script}
use Rattle.report_text.specs.declared.report.ClientReport.{ClientReport}
use Rattle.report_text.specs.declared.report.ColumnReport.{ColumnReport}
use Rattle.report_text.specs.declared.report.Report.{Report}
use Rattle.lawful_run.specs.Callers.{commands_of}
use Rattle.column_track.specs.Tracks.{Tracked}
use Rattle.run_rules.specs.Telling.{journal_among}
use Rattle.walk_law.specs.declared.column_places.ColumnPlaces.{ColumnPlaces}
use Rattle.walk_law.specs.declared.printed.Printed.{Printed}
use Rattle.walk_law.specs.declared.row_places.RowPlaces.{RowPlaces}
use Rattle.walk_law.specs.Behind.{HasColumn}
use Rattle.walk_law.specs.Columns.{AreTracked}
use Rattle.walk_law.specs.PlaceTables.{AreOfClients, is_asked_by, numbers_where, places_at}
use Rattle.walk_law.specs.RowsBeside.{history_or}
use Rattle.walk_law.specs.Subjects.{AreAllPlaces, ArePlacesOf, AtColumn, IsSubject}
use Rattle.walk_law.specs.Walking.{MayWalk, Walked}
use Rattle.walk_law.proofs.ColumnPlaces.{column_there, column_within, region_is, there_within, track_is}
use Rattle.walk_law.proofs.PrintLemmas.{where_item, where_length}
use Rattle.walk_law.proofs.ThirdLemmas.{few_colours, journal_there}

-- an item of a list with one more
pub longer_cases : {A : Type 0} (xs : List A) (x y : A) (n : ℕ) → slice_get (xs ++ x ∷ []) n ≡ Some y
    → (slice_get xs n ≡ Some y) ⊎ ((n ≡ length xs) × (y ≡ x))
longer_cases [] x y zero at = inr (refl, sym (same_some at))
longer_cases [] x y (suc n) at = absurd (let f : ⊥ = cc (at) in f)
longer_cases (z ∷ zs) x y zero at = inl at
longer_cases (z ∷ zs) x y (suc n) at = elim (longer_cases zs x y n at) [
  | inl here ↦ inl here
  | inr last ↦ inr (ap suc last.0, last.1)
]

pub places_more : (clients : ℕ) (columns : List ColumnReport) (places : List ColumnPlaces) (c : ColumnReport) (p : ColumnPlaces)
    → ArePlacesOf clients c.journal p → AreAllPlaces clients columns places → AreAllPlaces clients (columns ++ c ∷ []) (places ++ p ∷ [])
places_more clients columns places c p is so = record {
  many =
      length-append places (p ∷ []) ∙ (ap (λ (n : ℕ). n + 1) so.many ∙ sym (length-append columns (c ∷ [])));
  each = λ n d q at_c at_p. by n d q (longer_cases columns c d n at_c) (longer_cases places p q n at_p);
} where
  by : (n : ℕ) (d : ColumnReport) (q : ColumnPlaces) → (slice_get columns n ≡ Some d) ⊎ ((n ≡ length columns) × (d ≡ c))
      → (slice_get places n ≡ Some q) ⊎ ((n ≡ length places) × (q ≡ p)) → ArePlacesOf clients d.journal q
  by n d q (inl a) (inl b) = so.each n d q a b
  by n d q (inr a) (inr b) =
      subst (λ (e : ColumnReport). ArePlacesOf clients e.journal q) (sym a.1) (subst (ArePlacesOf clients c.journal) (sym b.1) is)
  by n d q (inl a) (inr b) =
      let low = slice_get_within columns n d a in
      let long = so.many in
      let last = b.0 in absurd (let f : ⊥ = omega (arith, low, long, last) in f)
  by n d q (inr a) (inl b) =
      let low = slice_get_within places n q b in
      let long = so.many in
      let last = a.0 in absurd (let f : ⊥ = omega (arith, low, long, last) in f)

pub column_more : (clients : ℕ) (columns : List ColumnReport) (at : ℕ) (places : List ColumnPlaces) (c : ColumnReport) (p : ColumnPlaces)
    → at < length columns → c ≡ get_or columns at c → ArePlacesOf clients c.journal p
    → AreAllPlaces clients (take at columns) places → AreAllPlaces clients (take (at + 1) columns) (places ++ p ∷ [])
column_more clients columns at places c p lt is made so =
    subst (λ (l : List ColumnReport). AreAllPlaces clients l (places ++ p ∷ []))
    (sym (take_more columns at c lt ∙ ap (λ (x : ColumnReport). take at columns ++ x ∷ []) (sym is)))
    (places_more clients (take at columns) places c p made so)

no_journal : (cs : List ColumnReport) (region colour : ℕ) → ((c : ColumnReport) → In c cs → c.region ≡ region → c.colour ≡ colour → ⊥)
    → journal_among cs region colour ≡ []
no_journal [] region colour none = refl
no_journal (c ∷ cs) region colour none =
    by (cases_Bool ((c.region == region) && (c.colour == colour))) (no_journal cs region colour (λ d i. none d (inr i))) where
      by : (((c.region == region) && (c.colour == colour)) ≡ true) ⊎ (((c.region == region) && (c.colour == colour)) ≡ false)
          → journal_among cs region colour ≡ [] → journal_among (c ∷ cs) region colour ≡ []
      by (inl t) rest =
          let two = and_parts (c.region == region) (c.colour == colour) t in
          absurd (none c (inl refl) (eqb-true c.region region two.0) (eqb-true c.colour colour two.1))
      by (inr f) rest = ap (λ (b : Bool). cond b c.journal (journal_among cs region colour)) f ∙ rest

filter_few : {A : Type 0} (test : A → Bool) (xs : List A) → length (filter test xs) ≤ length xs
filter_few test [] = omega arith
filter_few test (x ∷ xs) = by (test x) (filter_few test xs) where
  by : (b : Bool) → length (filter test xs) ≤ length xs → length (cond b (x ∷ filter test xs) (filter test xs)) ≤ length (x ∷ xs)
  by true h = omega (arith, h)
  by false h = omega (arith, h)

pub few_clients : (script : Script) → IsFitting script → length script.shape.homes ≤ 64
few_clients script fits = by (script.version == 2) fits.shape.few_clients where
  by : (b : Bool) → length script.shape.homes ≤ (cond b VERSION_2 VERSION_1).clients → length script.shape.homes ≤ 64
  by true few = omega (arith, few)
  by false few = omega (arith, few)

pub few_regions : (script : Script) → IsFitting script → script.shape.regions ≤ 4
few_regions script fits = by (script.version == 2) fits.shape.few_regions where
  by : (b : Bool) → script.shape.regions ≤ (cond b VERSION_2 VERSION_1).regions → script.shape.regions ≤ 4
  by true few = omega (arith, few)
  by false few = omega (arith, few)

-- what is kept true, of what contracts see
pub seen : (walked : Walked) (script : Script) (report : Report) (tracks : List Tracked) (commands : List (List ℕ))
    (places : List ColumnPlaces) (printed : Printed) (rows : RowPlaces) → record { script = script; report = report } ≡ walked
    → IsSubject script report tracks commands places printed rows
    → IsSubject walked.script walked.report tracks commands places printed rows
seen walked script report tracks commands places printed rows is kept =
    subst (λ (w : Walked). IsSubject w.script w.report tracks commands places printed rows) is kept

module _ (script : Script) (report : Report) (tracks : List Tracked) (may : MayWalk script report tracks) where
  abbrev Clients : ℕ
  Clients = length script.shape.homes

  -- the report's clients are the script's
  pub clients_many : length report.clients ≡ length script.shape.homes
  clients_many =
      sym (length-map report.clients (λ (c : ClientReport). c.name)) ∙ (ap length may.first.names ∙ may.fitting.clients)

  -- A CLIENT'S COMMANDS

  module _ (lists : List (List ℕ)) (of : AreOfClients (length script.shape.homes) script.commands lists) (client : ℕ)
      (walker : client < length report.clients) (numbers : List ℕ) (is : numbers ≡ places_at lists client) where
    numbers_are : numbers ≡ numbers_where (is_asked_by client) 0 script.commands
    numbers_are = let many = clients_many in is ∙ of.each client (omega (arith, walker, many))

    pub commands_count : length numbers ≡ length (commands_of script client)
    commands_count = ap length numbers_are ∙ where_length (is_asked_by client) 0 script.commands

    pub commands_few : length numbers < 2 ^ 15
    commands_few =
        let count = commands_count in
        let less = filter_few (is_asked_by client) script.commands in
        let few = may.fitting.few in omega (arith, count, less, few)

    module _ (place : ℕ) (there : place < length (commands_of script client)) where
      at_place : (n : ℕ) × (slice_get numbers place ≡ Some n)
      at_place = let count = commands_count in get_within numbers place (omega (arith, count, there))

      pub command_at : (d : ℕ) → (c : Command) × (slice_get script.commands (slice_index_or numbers place d) ≡ Some c)
          × (slice_get (commands_of script client) place ≡ Some c)
      command_at d =
          let n = at_place in
          let item = where_item (is_asked_by client) 0 script.commands place n.0
          (ap (λ (l : List ℕ). slice_get l place) (sym numbers_are) ∙ n.1) in
          let c = get_within (commands_of script client) place there in
          let e = item.1 in
          let m : slice_index_or numbers place d ≡ item.0 =
          get_or_from_slice_get numbers place n.0 d n.1 ∙ (let f : n.0 ≡ item.0 = omega (arith, e) in f) in
          (c.0, ap (slice_get script.commands) m ∙ (item.2 ∙ c.1), c.1)

  -- A COLUMN

  are_tracked : AreTracked script.shape.regions script.shape.colours report.columns tracks
  are_tracked = record { numbers = may.first.columns; tracks_are = may.tracks_are }

  pub column_at : (region colour n : ℕ) → region < script.shape.regions → colour < script.shape.colours
      → n ≡ region * script.shape.colours + colour → AtColumn script report region colour (Some n)
  column_at region colour n lt low is =
      let there = column_there script.shape.regions script.shape.colours report.columns may.first.columns region colour lt low in (
        there.0,
        ap (slice_get report.columns) is ∙ there.1,
        sym (ap history_or there.1) ∙ journal_there script report tracks are_tracked may.formed region colour lt low,
      )

  -- no column has other numbers
  pub column_none : (region colour : ℕ) → (script.shape.regions ≤ region) ⊎ (script.shape.colours ≤ colour)
      → AtColumn script report region colour None
  column_none region colour beyond =
      no_journal report.columns region colour (λ c i.
      let h = column_within script.shape.regions script.shape.colours report.columns may.first.columns c i in
      outside beyond h.0 h.1) where
        outside : (script.shape.regions ≤ region) ⊎ (script.shape.colours ≤ colour) → {r k : ℕ} → r < script.shape.regions
            → k < script.shape.colours → r ≡ region → k ≡ colour → ⊥
        outside (inl ge) lt low r k = let f : ⊥ = omega (arith, ge, lt, r) in f
        outside (inr ge) lt low r k = let f : ⊥ = omega (arith, ge, low, k) in f

  -- whether the column is one of the shape
  pub column_told : (region colour : ℕ) → region < script.shape.regions
      → HasColumn (record { script = script; report = report }) region colour (nat_lt colour script.shape.colours)
  column_told region colour lt = by (cases_Bool (nat_lt colour script.shape.colours)) where
    by : (nat_lt colour script.shape.colours ≡ true) ⊎ (nat_lt colour script.shape.colours ≡ false)
        → HasColumn (record { script = script; report = report }) region colour (nat_lt colour script.shape.colours)
    by (inl t) =
        let low = ltb-true colour script.shape.colours t in
        let four = few_regions script may.fitting in
        let few = few_colours script may.fitting in
        subst (HasColumn (record { script = script; report = report }) region colour) (sym t)
        (lt, low, (omega (arith, lt, four), omega (arith, low, few)))
    by (inr f) =
        subst (HasColumn (record { script = script; report = report }) region colour) (sym f)
        (column_none region colour (inr (ltb-false colour script.shape.colours f)))

  pub column_off : (region colour : ℕ) → script.shape.regions ≤ region
      → HasColumn (record { script = script; report = report }) region colour (nat_lt region script.shape.regions)
  column_off region colour ge =
      subst (HasColumn (record { script = script; report = report }) region colour)
      (sym (le-ltb region script.shape.regions ge)) (column_none region colour (inl ge))

  pub track_at : (region colour n : ℕ) (t : Tracked) → region < script.shape.regions → colour < script.shape.colours
      → n ≡ region * script.shape.colours + colour → t ≡ get_or tracks n t
      → t ≡ record { region = region; regions = script.shape.regions; journal = journal_among report.columns region colour }
  track_at region colour n t lt low place is =
      let at = column_at region colour n lt low place in
      let c = at.0 in
      let within = there_within script.shape.regions script.shape.colours report.columns tracks are_tracked region colour lt low n place in
      let here : c ≡ get_or report.columns n c = sym (get_or_from_slice_get report.columns n c c at.1) in
      track_is script.shape.regions script.shape.colours report.columns tracks are_tracked region colour lt low n place c here t is
      ∙ (ap (λ (r : ℕ). let x : Tracked = record { region = r; regions = script.shape.regions; journal = c.journal } in x)
      (region_is script.shape.regions script.shape.colours report.columns tracks are_tracked region colour lt low n place c here)
      ∙ ap (λ (j : List Entry). let x : Tracked = record { region = region; regions = script.shape.regions; journal = j } in x) at.2)

  pub track_within : (region colour n : ℕ) → region < script.shape.regions → colour < script.shape.colours
      → n ≡ region * script.shape.colours + colour → n < length tracks
  track_within region colour n lt low place =
      (there_within script.shape.regions script.shape.colours report.columns tracks are_tracked region colour lt low n place).1
