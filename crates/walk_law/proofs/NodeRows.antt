-- The rows of a region, with whatever nodes clients appended.
use Rattle.std.proofs.Common.{◌≡◌, ◌⊎◌, ◌∙◌, refl, ap, sym, subst, Bool, true, false, ℕ, suc, ◌<◌, List, [], ◌∷◌, length, map, get_or, Option, Some, None, inl, inr, arith}
use Rattle.std.specs.Prelude.{◌≢◌, ◌==◌, ◌&&◌, slice_get}
use Rattle.std.specs.List.{All, AllPairs, filter, range_with_len}
use Rattle.std.proofs.lemmas.Bool.{and_from, and_parts, cases_Bool, eqb-true, eq-eqb, true≢false}
use Rattle.std.proofs.lemmas.List.{get_or-map, length-map}
use Rattle.std.proofs.lemmas.Option.{get_or_from_slice_get}
use Rattle.std.proofs.lemmas.List.Elements.{All-contains}
use Rattle.log_node.specs.declared.ids.Id.{Id}
use Rattle.log_node.specs.declared.ids.Row.{Row}
use Rattle.log_node.specs.declared.ids.Counts.{Counts}
use Rattle.log_node.specs.declared.node.Node.{Node}
use Rattle.log_node.specs.declared.marks.ColourMark.{ColourMark}
use Rattle.log_node.specs.Order.{same_id}
use Rattle.log_node.specs.Sets.{members}
use Rattle.log_node.proofs.CallerLemmas.{get_map, get_map_back, get_within, same_id-is, same_id-refl, same_some}
use Rattle.col_core.specs.declared.Event.TheVariants.{Propose}
use Rattle.col_core.specs.declared.Entry.{Entry}
use Rattle.col_core.specs.Rows.{BegunRow, AreLawfulRows, FitsRow, FitsRows, is_of, node_wants}
use Rattle.col_core.proofs.CallerLemmas.{In, choice, contains_in, if_true, if_false, in_filter, in_filter-back, in_map, in_map-back, in_slice, slice_in}
use Rattle.script_text.specs.declared.script.Script.{Script}
use Rattle.report_text.specs.declared.report.Report.{Report}
use Rattle.report_text.specs.declared.report.RowReport.{RowReport}
use Rattle.lawful_run.specs.Columns.{IsClientIn}
use Rattle.run_rules.specs.Rules.{Rule3}
use Rattle.run_rules.specs.Telling.{account_of, bare_node, is_in, journal_among, node_or, row_of}
use Rattle.walk_law.specs.PlaceTables.{row_with, same_row}
use Rattle.walk_law.specs.RowsBeside.{HaveOwnIds, rows_by}
use Rattle.walk_law.specs.Third.{rows_in}
use Rattle.walk_law.proofs.Lists.{Finds, find_cases}
use Rattle.walk_law.proofs.RowLemmas.{same_row as one_place}

-- LISTS

-- what holds of each two images, the one behind the other, holds of what they are of
pub pairs_of : {X Y : Type 0} (f : X → Y) (R : X → X → Type 0) (S : Y → Y → Type 0) → ((x y : X) → S (f x) (f y) → R x y)
    → (xs : List X) → AllPairs S (map f xs) → AllPairs R xs
pairs_of {X} {Y} f R S g xs apart i j d lt low =
    let long = length-map xs f in
    let one = get_or-map f xs i d (f d) (omega (arith, lt, low)) in
    let two = get_or-map f xs j d (f d) low in
    g (get_or xs i d) (get_or xs j d)
    (subst (S (f (get_or xs i d))) two
    (subst (λ (y : Y). S y (get_or (map f xs) j (f d))) one (apart i j (f d) lt (omega (arith, low, long)))))

-- and the other way round
pub pairs_onto : {X Y : Type 0} (f : X → Y) (R : X → X → Type 0) (S : Y → Y → Type 0) → ((x y : X) → R x y → S (f x) (f y))
    → (xs : List X) → AllPairs R xs → AllPairs S (map f xs)
pairs_onto {X} {Y} f R S g xs apart i j d lt less =
    let long = length-map xs f in
    let low : j < length xs = omega (arith, less, long) in
    let x = get_within xs i (omega (arith, lt, low)) in
    let y = get_within xs j low in
    let one = get_or_from_slice_get (map f xs) i (f x.0) d (get_map f xs i x.0 x.1) in
    let two = get_or_from_slice_get (map f xs) j (f y.0) d (get_map f xs j y.0 y.1) in
    let r : R x.0 y.0 =
    subst (R x.0) (get_or_from_slice_get xs j y.0 x.0 y.1)
    (subst (λ (z : X). R z (get_or xs j x.0)) (get_or_from_slice_get xs i x.0 x.0 x.1) (apart i j x.0 lt low)) in
    subst (S (get_or (map f xs) i d)) (sym two) (subst (λ (z : Y). S z (f y.0)) (sym one) (g x.0 y.0 r))

-- ROWS OF A REPORT

module _ (rows : List RowReport) (region : ℕ) where
  abbrev is_row : Id → RowReport → Bool
  is_row id r = same_row region id r.region r.id

  here : (r : RowReport) → (region == r.region) ≡ true → is_in region r ≡ true
  here r t = eq-eqb r.region region (sym (eqb-true region r.region t))

  -- a row that is found is one of the region with the id
  pub found_row : (id : Id) (r : RowReport) → row_with region id rows ≡ Some r → In r (rows_in region rows) × (r.id ≡ id)
  found_row id r found = by (find_cases (is_row id) rows) where
    by : Finds (is_row id) rows → In r (rows_in region rows) × (r.id ≡ id)
    by (inl none) = absurd (let f : ⊥ = cc (none.0, found) in f)
    by (inr some) =
        let same : some.0 ≡ r = same_some (sym some.3 ∙ found) in
        let tests = and_parts (region == some.0.region) (same_id id some.0.id) some.2 in (
          subst (λ (x : RowReport). In x (rows_in region rows)) same
              (in_filter-back (is_in region) some.0 rows some.1 (here some.0 tests.0)),
          ap (λ (x : RowReport). x.id) (sym same) ∙ sym (same_id-is id some.0.id tests.1),
        )

  -- and one of the region is found, where ids differ
  pub row_found : HaveOwnIds (rows_in region rows) → (id : Id) (r : RowReport) → In r (rows_in region rows) → r.id ≡ id
      → row_with region id rows ≡ Some r
  row_found apart id r i is = by (find_cases (is_row id) rows) where
    own : (is_in region r ≡ true) × In r rows
    own = let f = in_filter (is_in region) r rows i in (f.1, f.0)

    by : Finds (is_row id) rows → row_with region id rows ≡ Some r
    by (inl none) =
        absurd (true≢false (sym (and_from (region == r.region) (same_id id r.id)
        (eq-eqb region r.region (sym (eqb-true r.region region own.0)))
        (ap (same_id id) is ∙ same_id-refl id)) ∙ none.1 r own.1))
    by (inr some) =
        let tests = and_parts (region == some.0.region) (same_id id some.0.id) some.2 in
        let j = in_slice (rows_in region rows) some.0 (in_filter-back (is_in region) some.0 rows some.1 (here some.0 tests.0)) in
        let k = in_slice (rows_in region rows) r i in
        let place = one_place (rows_in region rows) apart j.0 k.0 some.0 r j.1 k.1
        (sym (same_id-is id some.0.id tests.1) ∙ sym is) in
        some.3 ∙ (sym j.1 ∙ (ap (slice_get (rows_in region rows)) place ∙ k.1))

-- WITH NODES

-- rows of a client
pub rows_mapped : (f : RowReport → BegunRow) → ((r : RowReport) → (f r).row ≡ r.row) → (client : ℕ) (rows : List RowReport)
    → filter (is_of client) (map f rows) ≡ map f (rows_by client rows)
rows_mapped f same client [] = refl
rows_mapped f same client (r ∷ rows) = elim (cases_Bool (r.row.client == client)) [
  | inl t ↦
      if_true ((f r).row.client == client) (f r ∷ filter (is_of client) (map f rows)) (filter (is_of client) (map f rows))
      (ap (λ (w : Row). w.client == client) (same r) ∙ t)
      ∙ (ap (λ (l : List BegunRow). f r ∷ l) (rows_mapped f same client rows)
      ∙ ap (map f) (sym (if_true (r.row.client == client) (r ∷ rows_by client rows) (rows_by client rows) t)))
  | inr n ↦
      if_false ((f r).row.client == client) (f r ∷ filter (is_of client) (map f rows)) (filter (is_of client) (map f rows))
      (ap (λ (w : Row). w.client == client) (same r) ∙ n)
      ∙ (rows_mapped f same client rows
      ∙ ap (map f) (sym (if_false (r.row.client == client) (r ∷ rows_by client rows) (rows_by client rows) n)))
]

module _ (script : Script) (report : Report) (nodes : ℕ → List Node) where
  abbrev pub journals : ℕ → ℕ → List Entry
  journals = journal_among report.columns

  -- a row with its node
  abbrev pub full : RowReport → BegunRow
  full r = row_of journals nodes r

  pub full_id : (r : RowReport) → (full r).node.id ≡ r.id
  full_id r = by (slice_get (nodes r.id.client) r.id.count) where
    by : (o : Option Node) → (node_or journals r o).id ≡ r.id
    by None = refl
    by (Some node) =
        choice (λ (n : Node). n.id ≡ r.id) (same_id node.id r.id) node (bare_node journals r) (same_id-is node.id r.id) (λ f. refl)

  -- it is the one that stands at its id's number
  pub full_node : (r : RowReport) (node : Node) → slice_get (nodes r.id.client) r.id.count ≡ Some node → node.id ≡ r.id
      → (full r).node ≡ node
  full_node r node at is =
      ap (node_or journals r) at
      ∙ if_true (same_id node.id r.id) node (bare_node journals r) (ap (λ (i : Id). same_id i r.id) is ∙ same_id-refl r.id)

  module _ (third : Rule3 script (account_of script report nodes)) (region : ℕ) (lt : region < script.shape.regions) where
    abbrev pub rows : List RowReport
    rows = rows_in region report.rows

    abbrev pub begun : List BegunRow
    begun = map full rows

    pub lawful : AreLawfulRows region script.shape.colours (journals region) begun
    lawful = third.lawful region lt

    -- what is so of all
    pub of_row : (P : BegunRow → Type 0) → All P begun → (r : RowReport) → In r rows → P (full r)
    of_row P all r i = All-contains P begun (full r) all (contains_in begun (full r) (in_map-back full rows r i))

    pub its_region : (r : RowReport) → In r rows → r.region ≡ region
    its_region r i = eqb-true r.region region (in_filter (is_in region) r report.rows i).1

    pub fit_of : (r : RowReport) → In r rows → FitsRow region (full r)
    fit_of r i = of_row (FitsRow region) lawful.fit r i

    pub own_id : (r : RowReport) → In r rows → r.id.client ≡ r.row.client
    own_id r i = ap (λ (d : Id). d.client) (sym (full_id r)) ∙ (fit_of r i).client

    pub client_of : (r : RowReport) → In r rows → IsClientIn script region r.row.client
    client_of r i = of_row (λ (b : BegunRow). IsClientIn script region b.row.client) (third.of_clients region lt) r i

    pub ids_apart : HaveOwnIds rows
    ids_apart = pairs_of full (λ (r s : RowReport). r.id ≢ s.id) (λ (b d : BegunRow). b.node.id ≢ d.node.id)
        (λ x y ne e. ne (full_id x ∙ (e ∙ sym (full_id y)))) rows lawful.ids_differ

    pub one_row : (r s : RowReport) → In r rows → In s rows → r.id ≡ s.id → r ≡ s
    one_row r s i j e =
        let a = in_slice rows r i in
        let b = in_slice rows s j in
        let place = one_place rows ids_apart a.0 b.0 r s a.1 b.1 e in
        same_some (sym a.1 ∙ (ap (slice_get rows) place ∙ b.1))

    -- what an event that proposes a row's id says of the row's node
    pub record IsProposedAs (r : RowReport) (colour floor : ℕ) (wants : Counts) : Type 0 where
      pub floor_is : (full r).node.floor ≡ floor
      pub wants_are : node_wants (full r).node colour ≡ wants
      pub among : In colour (members (full r).node.colours)

    pub proposed_as : (r : RowReport) → In r rows → (colour : ℕ) → colour < script.shape.colours → (e : Entry) (floor : ℕ)
        (wants : Counts) → In e (journals region colour) → e.event ≡ Propose r.id floor wants
        → IsProposedAs r colour floor wants
    proposed_as r i colour less e floor wants among is =
        let fits = subst (FitsRows begun colour) is
        (All-contains (λ (d : Entry). FitsRows begun colour d.event) (journals region colour) e (lawful.events colour less)
        (contains_in (journals region colour) e among)) in
        let back = get_map_back full rows fits.0 fits.1 fits.2 in
        let same : back.0 ≡ r =
        one_row back.0 r (slice_in rows fits.0 back.0 back.1) i
        (sym (full_id back.0) ∙ (ap (λ (b : BegunRow). b.node.id) back.2 ∙ fits.3)) in
        let whole : fits.1 ≡ full r = sym back.2 ∙ ap full same in record {
          floor_is = ap (λ (b : BegunRow). b.node.floor) (sym whole) ∙ fits.5;
          wants_are = ap (λ (b : BegunRow). node_wants b.node colour) (sym whole) ∙ fits.4;
          among = subst (λ (b : BegunRow). In colour (members b.node.colours)) whole
              (slice_in (members fits.1.node.colours) fits.6 colour fits.7);
        }
