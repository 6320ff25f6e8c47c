-- Whether a stretch may be carried, as the code tests it.
use Rattle.std.proofs.Common.{◌≡◌, ℕ, ◌+◌, ◌<◌, ◌≤◌, true, false, List, length}
use Rattle.std.proofs.Common.{refl, ap, sym, subst, ◌∙◌, arith}
use Rattle.std.specs.Prelude.{Bool, ◌&&◌, nat_le, nat_lt}
use Rattle.std.proofs.lemmas.Bool.{le-leb, false_from_ne_true}
use Rattle.log_node.specs.declared.ids.Counts.{Counts}
use Rattle.log_node.specs.declared.ids.Key.{Key}
use Rattle.log_node.specs.Seen.{PlacedNode}
use Rattle.log_node.specs.Vectors.{at}
use Rattle.col_core.specs.History.{line}
use Rattle.col_core.specs.Cuts.{base}
use Rattle.col_core.specs.Computed.{dated}
use Rattle.column.specs.Columns.{ColumnState, AreItems, base_of}
use Rattle.world_laws.specs.Worlds.{are_two_columns, held_of, may_carry}
use Rattle.world_laws.specs.Worlds.{base_after}
use Rattle.world_laws.proofs.CallerLemmas.{AreTwo, are_two, MayCarry, may_carry_is}
use Rattle.world_code.specs.WorldView.{WorldView, column_at, world_of, IsWhole}
use Rattle.world_code.proofs.MoveCalls.{places}

-- the guard of a carry, test by test
module _ (code : WorldView) (w : IsWhole code) (origin region colour start count : ℕ)
    (are_two_is : are_two_columns (world_of code) origin region colour ≡ true) where
  abbrev origin_column : ColumnState
  origin_column = column_at code.columns origin colour

  t : AreTwo (world_of code) origin region colour
  t = are_two (world_of code) origin region colour are_two_is

  pub base_here : base_of origin_column ≡ base_after code.shape.regions origin origin_column.journal
  base_here =
      let p = places code w origin colour t.origin_is t.colour_is in
      ap (λ (r : ℕ). base r origin_column.regions (dated r origin_column.journal)) p.in_region
      ∙ ap (λ (n : ℕ). base origin n (dated origin origin_column.journal)) p.of_regions

  abbrev guard : Bool
  guard = may_carry (world_of code) origin region colour start count

  refused : (MayCarry (world_of code) origin region colour start count → ⊥) → false ≡ guard
  refused no_way = sym (false_from_ne_true guard (λ ok. no_way (may_carry_is (world_of code) origin region colour start
      count ok)))

  pub below_base : (b : Counts) → b ≡ base_of origin_column → start < at b origin → false ≡ guard
  below_base b is lt = refused (λ m.
      let le = m.above_base in
      let e = ap (λ (v : Counts). at v origin) (is ∙ base_here) in
      let f : ⊥ = omega (arith, lt, le, e) in f)

  pub past_end : (keys : List Key) → keys ≡ line origin_column.journal → length keys < start + count → false ≡ guard
  past_end keys is lt = refused (λ m.
      let le = m.within in
      let e = ap (length {A = Key}) is in
      let f : ⊥ = omega (arith, lt, le, e) in f)

  pub there : (b : Counts) (keys : List Key) → b ≡ base_of origin_column → at b origin ≤ start
      → keys ≡ line origin_column.journal → start + count ≤ length keys
      → (nat_le start (held_of (world_of code) origin region colour)
      && nat_lt (held_of (world_of code) origin region colour) (start + count)) ≡ guard
  there b keys b_is above keys_are within =
      let e = ap (λ (v : Counts). at v origin) (b_is ∙ base_here) in
      let n = ap (length {A = Key}) keys_are in
      all_true _ _ _ _ are_two_is (le-leb (at (base_after code.shape.regions origin origin_column.journal) origin) start
      (omega (arith, e, above)))
      (le-leb (start + count) (length (line origin_column.journal)) (omega (arith, n, within))) where
        all_true : (x y z u : Bool) → x ≡ true → y ≡ true → z ≡ true → u ≡ (x && (y && (z && u)))
        all_true x y z u p q r = rw (p, q, r) refl

  pub items_here : (start' end' : ℕ) (items : List PlacedNode) (column : ColumnState) → column ≡ origin_column
      → AreItems column column.region start' end' items → AreItems origin_column origin start' end' items
  items_here start' end' items column is a =
      let p = places code w origin colour t.origin_is t.colour_is in
      subst (λ (r : ℕ). AreItems origin_column r start' end' items) p.in_region
      (subst (λ (q : ColumnState). AreItems q q.region start' end' items) is a)

  pub base_below : (column : ColumnState) → column ≡ origin_column
      → at (base_after code.shape.regions origin origin_column.journal) origin ≤ start
      → at (base_of column) column.region ≤ start
  base_below column is le =
      let p = places code w origin colour t.origin_is t.colour_is in
      let e = ap (λ (q : ColumnState). at (base_of q) q.region) is
      ∙ (ap (at (base_of origin_column)) p.in_region ∙ ap (λ (v : Counts). at v origin) base_here) in
      omega (arith, e, le)
