-- At which place a column stands among all.
use Rattle.std.proofs.Common.{◌≡◌, ℕ, suc, get_or, refl, ◌+◌, ◌*◌, ◌<◌, ◌≤◌, List, length, map, Some, ap, sym, subst, ◌∙◌, arith}
use Rattle.std.specs.Prelude.{slice_get}
use Rattle.std.specs.List.{range_with_len}
use Rattle.std.proofs.Math.Nat.{mul-le-mul_left}
use Rattle.std.proofs.lemmas.List.{get_or-map, length-map}
use Rattle.std.proofs.lemmas.Option.{slice_get_read}
use Rattle.log_node.proofs.CallerLemmas.{get_map_back, same_some}
use Rattle.col_core.proofs.CallerLemmas.{In, in_flat_map, in_map, in_map-back, in_range}
use Rattle.report_text.specs.declared.report.ColumnReport.{ColumnReport}
use Rattle.lawful_run.specs.Columns.{column_numbers}
use Rattle.column_track.specs.Tracks.{Tracked}
use Rattle.walk_law.specs.Columns.{AreAllColumns, AreTracked, journal_at}
use Rattle.walk_law.specs.Journals.{track_shown}
use Rattle.walk_law.specs.RowsBeside.{history_or}
use Rattle.walk_law.proofs.Lists.{number_at, number_count}

-- a column's place is within all
pub place_within : (regions colours region colour : ℕ) → region < regions → colour < colours
    → region * colours + colour < regions * colours
place_within regions colours region colour lt low =
    let h = mul-le-mul_left colours (let l : suc region ≤ regions = omega (arith, lt) in l) in
    omega (arith, low, h)

-- a region's columns stand before those of the next one
pub region_within : (regions colours region : ℕ) → region < regions → region * colours + colours ≤ regions * colours
region_within regions colours region lt =
    let h = mul-le-mul_left colours (let l : suc region ≤ regions = omega (arith, lt) in l) in
    omega (arith, h)

module _ (regions colours : ℕ) (columns : List ColumnReport) (all : AreAllColumns regions colours columns) where
  pub columns_many : length columns ≡ regions * colours
  columns_many =
      sym (length-map columns (λ (c : ColumnReport). (c.region, c.colour))) ∙ (ap length all ∙ number_count colours 0 regions)

  -- each column of the shape stands at its place
  pub column_there : (region colour : ℕ) → region < regions → colour < colours → (c : ColumnReport)
      × (slice_get columns (region * colours + colour) ≡ Some c) × (c.region ≡ region) × (c.colour ≡ colour)
  column_there region colour lt low =
      let place = region * colours + colour in
      let at : slice_get {X = ℕ × ℕ} (map (λ (c : ColumnReport). (c.region, c.colour)) columns) place ≡ Some (0 + region, colour) =
      ap (λ (l : List (ℕ × ℕ)). slice_get l place) all ∙ number_at colours 0 regions region colour lt low in
      let back = get_map_back (λ (c : ColumnReport). (c.region, c.colour)) columns place (0 + region, colour) at in
      let first : back.0.region ≡ 0 + region = ap (λ (p : ℕ × ℕ). p.0) back.2 in
      (back.0, back.1, (let e : back.0.region ≡ region = omega (arith, first) in e), ap (λ (p : ℕ × ℕ). p.1) back.2)

  -- and each column is of the shape
  pub column_within : (c : ColumnReport) → In c columns → (c.region < regions) × (c.colour < colours)
  column_within c i =
      let there : In {A = ℕ × ℕ} (c.region, c.colour) (column_numbers regions colours) =
      subst (λ (l : List (ℕ × ℕ)). In (c.region, c.colour) l) all
      (in_map-back (λ (d : ColumnReport). (d.region, d.colour)) columns c i) in
      let f = in_flat_map (λ (r : ℕ). map (λ (k : ℕ). (r, k)) (range_with_len 0 colours)) (range_with_len 0 regions) (c.region, c.colour) there in
      let m = in_map (λ (k : ℕ). (f.0, k)) (range_with_len 0 colours) (c.region, c.colour) f.2 in
      let low = (in_range 0 colours m.0 m.1).1 in
      let less = (in_range 0 regions f.0 f.1).1 in
      let one : f.0 ≡ c.region = ap (λ (p : ℕ × ℕ). p.0) m.2 in
      let two : m.0 ≡ c.colour = ap (λ (p : ℕ × ℕ). p.1) m.2 in
      (omega (arith, less, one), omega (arith, low, two))

module _ (regions colours : ℕ) (columns : List ColumnReport) (tracks : List Tracked) (are : AreTracked regions colours columns tracks) where
  pub tracks_many : length tracks ≡ regions * colours
  tracks_many = ap length are.tracks_are ∙ (length-map columns (track_shown regions) ∙ columns_many regions colours columns are.numbers)

  module _ (region colour : ℕ) (lt : region < regions) (low : colour < colours) (n : ℕ) (place : n ≡ region * colours + colour) where
    pub there_within : (n < length columns) × (n < length tracks)
    there_within =
        let many = columns_many regions colours columns are.numbers in
        let also = tracks_many in
        let within = place_within regions colours region colour lt low in
        (omega (arith, many, within, place), omega (arith, also, within, place))

    -- the column and its track at the place
    module _ (c : ColumnReport) (is : c ≡ get_or columns n c) where
      pub journal_is : journal_at colours columns region colour ≡ c.journal
      journal_is =
          ap history_or
          (ap (slice_get columns) (sym place) ∙ slice_get_read columns (length columns) n c refl there_within.0 is)

      same_column : (column_there regions colours columns are.numbers region colour lt low).0 ≡ c
      same_column =
          let there = column_there regions colours columns are.numbers region colour lt low in
          same_some (sym there.1
          ∙ (ap (slice_get columns) (sym place) ∙ slice_get_read columns (length columns) n c refl there_within.0 is))

      pub track_is : (t : Tracked) → t ≡ get_or tracks n t → t ≡ track_shown regions c
      track_is t is_t =
          is_t
          ∙ (ap (λ (l : List Tracked). get_or l n t) are.tracks_are
          ∙ (get_or-map (track_shown regions) columns n c t there_within.0 ∙ ap (track_shown regions) (sym is)))

      pub region_is : c.region ≡ region
      region_is =
          ap (λ (d : ColumnReport). d.region) (sym same_column) ∙ (column_there regions colours columns are.numbers region colour lt low).2
