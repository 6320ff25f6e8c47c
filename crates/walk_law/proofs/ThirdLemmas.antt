-- The third rule of the account that is computed, region by region.
use Rattle.std.proofs.Common.{◌≡◌, ◌⊎◌, ℕ, zero, suc, ◌+◌, ◌-◌, ◌*◌, ◌<◌, ◌≤◌, Bool, true, false, List, [], ◌∷◌, ◌++◌, length, take, drop, map, get_or, Some, ap, sym, subst, ◌∙◌, inl, inr, refl, arith, flat_map, append_assoc, cond}
use Rattle.std.specs.Prelude.{slice_get, ◌==◌, ◌&&◌}
use Rattle.std.specs.List.{All, filter, range_with_len}
use Rattle.std.proofs.Math.Nat.{mul-le-mul_left}
use Rattle.std.proofs.lemmas.Bool.{cases_lt, eqb-true}
use Rattle.std.proofs.lemmas.List.{append-nil, length-append, length-map, length-take, length-drop, drop_at, take_at, take-map, drop-map}
use Rattle.std.proofs.lemmas.List.Elements.{All-map, All-weaker}
use Rattle.std.proofs.lemmas.Option.{get_or_from_slice_get, slice_get_within, slice_get_past}
use mathlib.Core.Path.{fun_ext}
use Rattle.log_node.specs.declared.limits.TheConstants.{MAX_COLOURS}
use Rattle.log_node.specs.declared.marks.ColourMark.{ColourMark}
use Rattle.log_node.proofs.CallerLemmas.{get_map, same_some}
use Rattle.col_core.specs.declared.Entry.{Entry}
use Rattle.col_core.specs.Computed.{dated}
use Rattle.col_core.specs.Copies.{IsTrueCopy}
use Rattle.col_core.specs.Rows.{BegunRow, AreLawfulRows, FitsRow}
use Rattle.col_core.proofs.CallerLemmas.{In, both, by_test, if_false, in_filter}
use Rattle.script_text.specs.declared.script.Script.{Script}
use Rattle.script_text.specs.Fitting.{IsFitting}
use Rattle.script_text.specs.declared.limits.TheConstants.{VERSION_1, VERSION_2}
use Rattle.report_text.specs.declared.report.ColumnReport.{ColumnReport}
use Rattle.report_text.specs.declared.report.RowReport.{RowReport}
use Rattle.report_text.specs.declared.report.Report.{Report}
use Rattle.lawful_run.specs.Columns.{IsClientIn}
use Rattle.column_track.specs.Tracks.{Tells, Tracked}
use Rattle.run_rules.specs.Rules.{Rule3}
use Rattle.run_rules.specs.Telling.{IsWellFormed, account_of, is_in, journal_among, no_nodes, row_of}
use Rattle.run_rules.proofs.CallerLemmas.{reports_tell}
use Rattle.walk_law.specs.Columns.{AreCopies, AreTracked, journal_at}
use Rattle.walk_law.specs.Journals.{track_shown}
use Rattle.walk_law.specs.RowsBeside.{AreBeside, AreRowsBeside, IsRowAlone, bare_row, histories_in, history_or}
use Rattle.walk_law.specs.Third.{AreRows, AreRowsIn, of_region, rows_in}
use Rattle.walk_law.proofs.ColumnPlaces.{column_there, column_within, columns_many}
use Rattle.walk_law.proofs.RowLemmas.{mapped_back}

-- ROWS BY REGION

flat_joined : {A B : Type 0} (f : A → List B) (xs ys : List A) → flat_map f (xs ++ ys) ≡ flat_map f xs ++ flat_map f ys
flat_joined f [] ys = refl
flat_joined f (x ∷ xs) ys = ap (λ l. f x ++ l) (flat_joined f xs ys) ∙ sym (append_assoc (f x) (flat_map f xs) (flat_map f ys))

range_joined : (a k m : ℕ) → range_with_len a (k + m) ≡ range_with_len a k ++ range_with_len (a + k) m
range_joined a zero m =
    ap (range_with_len a) (let e : zero + m ≡ m = omega arith in e)
    ∙ ap (λ (b : ℕ). range_with_len b m) (let e : a ≡ a + zero = omega arith in e)
range_joined a (suc k) m =
    ap (range_with_len a) (let e : suc k + m ≡ suc (k + m) = omega arith in e)
    ∙ (ap (λ (l : List ℕ). a ∷ l) (range_joined (a + 1) k m)
    ∙ ap (λ (b : ℕ). a ∷ (range_with_len (a + 1) k ++ range_with_len b m)) (let e : a + 1 + k ≡ a + suc k = omega arith in e))

-- the rows of the regions before one
abbrev pub before : List RowReport → ℕ → List RowReport
before rows region = flat_map (λ r. filter (is_in r) rows) (range_with_len 0 region)

-- the first row of a region is at the place
abbrev pub IsFirst : List RowReport → ℕ → ℕ → Type 0
IsFirst rows region from = from ≡ length (before rows region)

module _ (rows : List RowReport) (regions : ℕ)
    (formed : rows ≡ flat_map (λ region. filter (is_in region) rows) (range_with_len 0 regions)) where
  rest : ℕ → List RowReport
  rest region = flat_map (λ r. filter (is_in r) rows) (range_with_len (region + 1) (regions - region - 1))

  split : (region : ℕ) → region < regions → rows ≡ before rows region ++ (rows_in region rows ++ rest region)
  unfolding rest
  split region lt =
      formed
      ∙ (ap (λ (n : ℕ). flat_map (λ r. filter (is_in r) rows) (range_with_len 0 n))
      (let e : regions ≡ region + suc (regions - region - 1) = omega (arith, lt) in e)
      ∙ (ap (flat_map (λ r. filter (is_in r) rows)) (range_joined 0 region (suc (regions - region - 1)))
      ∙ (flat_joined (λ r. filter (is_in r) rows) (range_with_len 0 region) (range_with_len (0 + region) (suc (regions - region - 1)))
      ∙ ap (λ (n : ℕ). before rows region ++ flat_map (λ r. filter (is_in r) rows) (range_with_len n (suc (regions - region - 1))))
      (let e : 0 + region ≡ region = omega arith in e))))

  pub first_within : (region from : ℕ) → region < regions → IsFirst rows region from → from + length (rows_in region rows) ≤ length rows
  first_within region from lt is =
      let a = ap length (split region lt) in
      let b = length-append (before rows region) (rows_in region rows ++ rest region) in
      let c = length-append (rows_in region rows) (rest region) in
      omega (arith, a, b, c, is)

  pub region_stretch : (region from : ℕ) → region < regions → IsFirst rows region from
      → take (length (rows_in region rows)) (drop from rows) ≡ rows_in region rows
  region_stretch region from lt is =
      ap (λ (l : List RowReport). take (length (rows_in region rows)) (drop from l)) (split region lt)
      ∙ (ap (take (length (rows_in region rows))) (drop_at (before rows region) (rows_in region rows ++ rest region) from (sym is))
      ∙ take_at (rows_in region rows) (rest region) (length (rows_in region rows)) refl)

  pub first_next : (region from : ℕ) → IsFirst rows region from → IsFirst rows (region + 1) (from + length (rows_in region rows))
  first_next region from is =
      let f : ℕ → List RowReport = λ r. filter (is_in r) rows in
      let whole : before rows (region + 1) ≡ before rows region ++ rows_in region rows =
      ap (flat_map f) (range_joined 0 region 1)
      ∙ (flat_joined f (range_with_len 0 region) (range_with_len (0 + region) 1)
      ∙ (ap (λ (n : ℕ). before rows region ++ flat_map f (range_with_len n 1)) (let e : 0 + region ≡ region = omega arith in e)
      ∙ ap (λ (l : List RowReport). before rows region ++ l) (append-nil (rows_in region rows)))) in
      let long = ap length whole in
      let two = length-append (before rows region) (rows_in region rows) in
      omega (arith, is, long, two)

-- COLUMNS BY REGION

get_stretch : {A : Type 0} (xs : List A) (n m k : ℕ) → k < m → slice_get (take m (drop n xs)) k ≡ slice_get xs (n + k)
get_stretch xs zero m k lt = get_front xs m k lt ∙ ap (slice_get xs) (let e : k ≡ zero + k = omega arith in e) where
  get_front : {A : Type 0} (ys : List A) (i j : ℕ) → j < i → slice_get (take i ys) j ≡ slice_get ys j
  get_front [] zero j less = refl
  get_front [] (suc i) j less = refl
  get_front (y ∷ ys) zero j less = absurd (let f : ⊥ = omega (arith, less) in f)
  get_front (y ∷ ys) (suc i) zero less = refl
  get_front (y ∷ ys) (suc i) (suc j) less = get_front ys i j (omega (arith, less))
get_stretch [] (suc n) zero k lt = absurd (let f : ⊥ = omega (arith, lt) in f)
get_stretch [] (suc n) (suc m) k lt = refl
get_stretch (x ∷ xs) (suc n) m k lt =
    get_stretch xs n m k lt ∙ ap (slice_get (x ∷ xs)) (let e : suc (n + k) ≡ suc n + k = omega arith in e)

stretch_few : {A : Type 0} (xs : List A) (m : ℕ) → length (take m xs) ≤ m
stretch_few [] zero = omega arith
stretch_few [] (suc m) = omega arith
stretch_few (x ∷ xs) zero = omega arith
stretch_few (x ∷ xs) (suc m) = let h = stretch_few xs m in omega (arith, h)

module _ (regions colours : ℕ) (columns : List ColumnReport) (tracks : List Tracked) (are : AreTracked regions colours columns tracks) where
  -- and its track at the same
  pub track_there : (i : ℕ) (c : ColumnReport) (t : Tracked) → slice_get columns i ≡ Some c → slice_get tracks i ≡ Some t
      → t ≡ track_shown regions c
  track_there i c t at_c at_t =
      same_some (sym at_t
      ∙ (ap (λ (l : List Tracked). slice_get l i) are.tracks_are ∙ get_map (track_shown regions) columns i c at_c))

  map_same : (cs : List ColumnReport)
      → map (λ (t : Tracked). t.journal) (map (track_shown regions) cs) ≡ map (λ (c : ColumnReport). c.journal) cs
  map_same [] = refl
  map_same (c ∷ cs) = ap (λ (l : List (List Entry)). c.journal ∷ l) (map_same cs)

  -- those of a region are beside one another
  pub region_beside : (region : ℕ) → AreBeside (of_region colours region columns) (of_region colours region tracks)
  region_beside region =
      ap (λ (l : List Tracked). map (λ (t : Tracked). t.journal) (of_region colours region l)) are.tracks_are
      ∙ (ap (λ (l : List Tracked). map (λ (t : Tracked). t.journal) (take colours l)) (drop-map (track_shown regions) (region * colours) columns)
      ∙ (ap (map (λ (t : Tracked). t.journal)) (take-map (track_shown regions) colours (drop (region * colours) columns))
      ∙ map_same (of_region colours region columns)))

  pub region_many : (region : ℕ) → region < regions → length (of_region colours region columns) ≡ colours
  region_many region lt =
      let many = columns_many regions colours columns are.numbers in
      let h = mul-le-mul_left colours (let l : suc region ≤ regions = omega (arith, lt) in l) in
      let few = stretch_few (drop (region * colours) columns) colours in
      let long = length-take colours (drop (region * colours) columns) in
      let left = length-drop (region * colours) columns in
      omega (arith, long, left, many, h)

-- a column that is not there has no journal
pub journal_none : (cs : List ColumnReport) (region colour : ℕ) → ((d : ColumnReport) → In d cs → d.colour ≡ colour → ⊥)
    → journal_among cs region colour ≡ []
journal_none [] region colour none = refl
journal_none (d ∷ ds) region colour none =
    by_test _ ((d.region == region) && (d.colour == colour))
    (λ t. absurd (none d (inl refl) (eqb-true d.colour colour (both (d.region == region) (d.colour == colour) t).1)))
    (λ f. if_false ((d.region == region) && (d.colour == colour)) d.journal (journal_among ds region colour) f
    ∙ journal_none ds region colour (λ x i. none x (inr i)))

module _ (script : Script) (report : Report) (tracks : List Tracked)
    (are : AreTracked script.shape.regions script.shape.colours report.columns tracks) (formed : IsWellFormed script report) where
  abbrev R : ℕ
  R = script.shape.regions

  abbrev C : ℕ
  C = script.shape.colours

  -- the journal at a column's place is that of the account
  pub journal_there : (region colour : ℕ) → region < script.shape.regions → colour < script.shape.colours
      → journal_at script.shape.colours report.columns region colour ≡ journal_among report.columns region colour
  journal_there region colour lt low =
      let c = column_there R C report.columns are.numbers region colour lt low in
      let tells = (reports_tell script report no_nodes formed).histories in
      let within = slice_get_within report.columns (region * C + colour) c.0 c.1 in
      let same : c.0.journal ≡ journal_among report.columns c.0.region c.0.colour =
      subst (λ (d : ColumnReport). d.journal ≡ journal_among report.columns d.region d.colour)
      (get_or_from_slice_get report.columns (region * C + colour) c.0 c.0 c.1) (tells (region * C + colour) c.0 within) in
      ap history_or c.1
      ∙ (same ∙ (ap (λ (r : ℕ). journal_among report.columns r c.0.colour) c.2 ∙ ap (journal_among report.columns region) c.3))

  -- the journals of a region's columns are those of the account
  pub histories_same : (region : ℕ) → region < script.shape.regions
      → histories_in (of_region script.shape.colours region report.columns) ≡ journal_among report.columns region
  histories_same region lt = fun_ext (λ colour. at colour (cases_lt colour C)) where
    at : (colour : ℕ) → (colour < C) ⊎ (C ≤ colour)
        → histories_in (of_region C region report.columns) colour ≡ journal_among report.columns region colour
    at colour (inl low) =
        ap history_or (get_stretch report.columns (region * C) C colour low) ∙ journal_there region colour lt low
    at colour (inr high) =
        let few = stretch_few (drop (region * C) report.columns) C in
        ap history_or (slice_get_past (of_region C region report.columns) colour (omega (arith, few, high)))
        ∙ sym (journal_none report.columns region colour (λ d i e. let low = (column_within R C report.columns are.numbers d i).1 in omega (arith, low, high, e)))

  row_same : (region : ℕ) → region < script.shape.regions → (r : RowReport) → r.region ≡ region
      → row_of (journal_among report.columns) no_nodes r ≡ bare_row (of_region script.shape.colours region report.columns) r
  row_same region lt r is =
      ap (λ (h : ℕ → List Entry). row_of (λ (k : ℕ). h) no_nodes r) (ap (journal_among report.columns) is ∙ sym (histories_same region lt))

  rows_same : (region : ℕ) → region < script.shape.regions → (rs : List RowReport) → ((r : RowReport) → In r rs → r.region ≡ region)
      → map (row_of (journal_among report.columns) no_nodes) rs
      ≡ map (bare_row (of_region script.shape.colours region report.columns)) rs
  rows_same region lt [] all = refl
  rows_same region lt (r ∷ rs) all =
      ap (λ (x : BegunRow). x ∷ map (row_of (journal_among report.columns) no_nodes) rs) (row_same region lt r (all r (inl refl)))
      ∙ ap (λ (l : List BegunRow). bare_row (of_region C region report.columns) r ∷ l) (rows_same region lt rs (λ x i. all x (inr i)))

  in_its_region : (region : ℕ) (r : RowReport) → In r (rows_in region report.rows) → r.region ≡ region
  in_its_region region r i = eqb-true r.region region (in_filter (is_in region) r report.rows i).1

  -- the rows of the account are those with bare nodes
  pub region_rows : (region : ℕ) → region < script.shape.regions
      → map (row_of (journal_among report.columns) no_nodes) (rows_in region report.rows)
      ≡ map (bare_row (of_region script.shape.colours region report.columns)) (rows_in region report.rows)
  region_rows region lt = rows_same region lt (rows_in region report.rows) (in_its_region region)

  -- FROM THE RULE AND TO IT

  abbrev bare : ℕ → List BegunRow
  bare region = map (row_of (journal_among report.columns) no_nodes) (rows_in region report.rows)

  lawful_same : (region : ℕ) → region < script.shape.regions
      → AreLawfulRows region script.shape.colours (histories_in (of_region script.shape.colours region report.columns))
      (map (bare_row (of_region script.shape.colours region report.columns)) (rows_in region report.rows))
      → AreLawfulRows region script.shape.colours (journal_among report.columns region) (bare region)
  lawful_same region lt are_lawful =
      subst (AreLawfulRows region C (journal_among report.columns region)) (sym (region_rows region lt))
      (subst (λ (h : ℕ → List Entry). AreLawfulRows region C h
      (map (bare_row (of_region C region report.columns)) (rows_in region report.rows))) (histories_same region lt) are_lawful)

  lawful_back : (region : ℕ) → region < script.shape.regions
      → AreLawfulRows region script.shape.colours (journal_among report.columns region) (bare region)
      → AreLawfulRows region script.shape.colours (histories_in (of_region script.shape.colours region report.columns))
      (map (bare_row (of_region script.shape.colours region report.columns)) (rows_in region report.rows))
  lawful_back region lt are_lawful =
      subst (λ (h : ℕ → List Entry). AreLawfulRows region C h
      (map (bare_row (of_region C region report.columns)) (rows_in region report.rows))) (sym (histories_same region lt))
      (subst (AreLawfulRows region C (journal_among report.columns region)) (region_rows region lt) are_lawful)

  pub third_from : AreRows script report → AreCopies script.shape.regions script.shape.colours report.columns
      → Rule3 script (account_of script report no_nodes)
  third_from rows copies = record {
    of_clients = λ region lt.
        All-map (λ (r : BegunRow). IsClientIn script region r.row.client) (row_of (journal_among report.columns) no_nodes)
        (rows_in region report.rows)
        (All-weaker (IsRowAlone script region) (λ (r : RowReport). IsClientIn script region r.row.client) (λ r is. is.of_client)
        (rows_in region report.rows) (rows region lt).alone);
    lawful = λ region lt. lawful_same region lt (rows region lt).lawful;
    marked = λ region lt.
        All-map (λ (r : BegunRow). All (λ (m : ColourMark). m.colour < C) r.marks) (row_of (journal_among report.columns) no_nodes)
        (rows_in region report.rows)
        (All-weaker (IsRowAlone script region) (λ (r : RowReport). All (λ (m : ColourMark). m.colour < C) r.marks) (λ r is. is.below)
        (rows_in region report.rows) (rows region lt).alone);
    copies = λ colour low origin copier lt less apart.
        subst (λ (h : List Entry). IsTrueCopy origin copier (dated origin h) (dated copier (journal_among report.columns copier colour)))
        (journal_there origin colour lt low)
        (subst (λ (h : List Entry). IsTrueCopy origin copier (dated origin (journal_at C report.columns origin colour)) (dated copier h))
        (journal_there copier colour less low) (copies colour low origin lt copier less apart));
  }

  pub copies_of : Rule3 script (account_of script report no_nodes) → AreCopies script.shape.regions script.shape.colours report.columns
  copies_of rule colour low origin lt copier less apart =
      subst (λ (h : List Entry). IsTrueCopy origin copier (dated origin h) (dated copier (journal_at C report.columns copier colour)))
      (sym (journal_there origin colour lt low))
      (subst (λ (h : List Entry). IsTrueCopy origin copier (dated origin (journal_among report.columns origin colour)) (dated copier h))
      (sym (journal_there copier colour less low)) (rule.copies colour low origin copier lt less apart))

  pub rows_of : Rule3 script (account_of script report no_nodes) → AreRows script report
  rows_of rule region lt = record {
    alone = λ k d less. alone (get_or (rows_in region report.rows) k d) k d less refl;
    lawful = lawful_back region lt (rule.lawful region lt);
  } where
    of : (P : BegunRow → Type 0) → All P (bare region) → All (λ (r : RowReport). P (row_of (journal_among report.columns) no_nodes r)) (rows_in region report.rows)
    of P all = mapped_back P (row_of (journal_among report.columns) no_nodes) (rows_in region report.rows) all

    alone : (r : RowReport) (k : ℕ) (d : RowReport) → k < length (rows_in region report.rows)
        → get_or (rows_in region report.rows) k d ≡ r → IsRowAlone script region (get_or (rows_in region report.rows) k d)
    alone r k d less is =
        let x = get_or (rows_in region report.rows) k d in
        let fit = of (FitsRow region) (rule.lawful region lt).fit k d less in
        record {
          in_region = fit.in_region;
          of_client = of (λ (r : BegunRow). IsClientIn script region r.row.client) (rule.of_clients region lt) k d less;
          own_id = fit.client;
          several =
              let long : length (map (λ (m : ColourMark). m.colour) x.marks) ≡ length x.marks = length-map x.marks (λ (m : ColourMark). m.colour) in
              let same = ap length fit.a_mark_each in
              let two = fit.several in
              omega (arith, long, same, two);
          below = of (λ (r : BegunRow). All (λ (m : ColourMark). m.colour < C) r.marks) (rule.marked region lt) k d less;
          rising = fit.a_mark_each;
        }

  pub third_told : AreRows script report → (b : Bool) → Tells b (AreCopies script.shape.regions script.shape.colours report.columns)
      → Tells b (Rule3 script (account_of script report no_nodes))
  third_told rows true copies = third_from rows copies
  third_told rows false fails = λ rule. fails (copies_of rule)

-- a slice of a region's columns
pub slice_of : {A : Type 0} (xs : List A) (colours region from to : ℕ) → from ≡ region * colours + 0 → to ≡ from + colours
    → take (to - from) (drop from xs) ≡ of_region colours region xs
slice_of xs colours region from to first last =
    ap (λ (n : ℕ). take n (drop from xs)) (let e : to - from ≡ colours = omega (arith, last) in e)
    ∙ ap (λ (n : ℕ). take colours (drop n xs)) (let e : from ≡ region * colours = omega (arith, first) in e)

pub few_colours : (script : Script) → IsFitting script → script.shape.colours ≤ MAX_COLOURS
few_colours script fits = by (script.version == 2) fits.shape.few_colours where
  by : (b : Bool) → script.shape.colours ≤ (cond b VERSION_2 VERSION_1).colours → script.shape.colours ≤ MAX_COLOURS
  by true few = omega (arith, few)
  by false few = omega (arith, few)

-- one region more
pub rows_more : (script : Script) (report : Report) (region : ℕ) → ((k : ℕ) → k < region → AreRowsIn script report k)
    → AreRowsIn script report region → (k : ℕ) → k < region + 1 → AreRowsIn script report k
rows_more script report region so here k lt = by (cases_lt k region) where
  by : (k < region) ⊎ (region ≤ k) → AreRowsIn script report k
  by (inl less) = so k less
  by (inr ge) = subst (AreRowsIn script report) (let e : region ≡ k = omega (arith, lt, ge) in e) here

-- the slices of a region
module _ (regions colours : ℕ) (columns : List ColumnReport) (tracks : List Tracked) (are : AreTracked regions colours columns tracks)
    (all : List ColumnReport) (same : all ≡ columns) (region from to : ℕ) (first : from ≡ region * colours + 0)
    (last : to ≡ from + colours) where
  slice_is : take (to - from) (drop from all) ≡ of_region colours region columns
  slice_is = slice_of all colours region from to first last ∙ ap (of_region colours region) same

  pub slice_beside : AreBeside (take (to - from) (drop from all)) (take (to - from) (drop from tracks))
  slice_beside =
      subst (λ (l : List ColumnReport). AreBeside l (take (to - from) (drop from tracks))) (sym slice_is)
      (subst (AreBeside (of_region colours region columns)) (sym (slice_of tracks colours region from to first last))
      (region_beside regions colours columns tracks are region))

  pub slice_many : region < regions → length (take (to - from) (drop from all)) ≡ colours
  slice_many lt = ap length slice_is ∙ region_many regions colours columns tracks are region lt

  pub slice_told : (script : Script) → (rows shown : List RowReport) → rows ≡ shown → (b : Bool)
      → Tells b (AreRowsBeside script region (take (to - from) (drop from all)) rows)
      → Tells b (AreRowsBeside script region (of_region colours region columns) shown)
  slice_told script rows shown is b told =
      subst (λ (l : List ColumnReport). Tells b (AreRowsBeside script region l shown)) slice_is
      (subst (λ (rs : List RowReport). Tells b (AreRowsBeside script region (take (to - from) (drop from all)) rs)) is told)
