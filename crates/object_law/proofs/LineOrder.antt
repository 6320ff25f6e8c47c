-- Lines of a region, and their order.
use Rattle.std.proofs.Common.{◌≡◌, ◌∙◌, ℕ, zero, suc, ◌+◌, ◌-◌, ◌^◌, ◌<◌, List, [], ◌∷◌, length, take, get_or, Some, ap, refl, sym, arith, map}
use Rattle.std.specs.Prelude.{slice_get, slice_index_or}
use Rattle.std.proofs.lemmas.List.{take_more, map-append, flat_map_more}
use Rattle.log_node.specs.declared.ids.Key.{Key}
use Rattle.col_core.specs.declared.Entry.{Entry}
use Rattle.col_core.specs.Computed.{dated}
use Rattle.col_core.specs.History.{line}
use Rattle.col_core.specs.Legal.{IsColumnHistory}
use Rattle.col_core.specs.Cuts.{entries_of}
use Rattle.col_core.specs.Log.{Log}
use Rattle.col_core.proofs.CallerLemmas.{entries_dated, line_rises}
use Rattle.playback.specs.Merging.{AreRising, merged, region_order, up_to}
use Rattle.object_law.specs.KeysRead.{whole_lines, whole_order}

-- the line of a lawful history rises
pub line_rising : (own regions : ℕ) (h : List Entry) → IsColumnHistory own regions (dated own h) → AreRising (line h)
line_rising own regions h lawful i j d lt there =
    line_rises own regions (dated own h) lawful i j (slice_index_or (line h) i d) (slice_index_or (line h) j d) lt
    (at_index i (omega (arith, lt, there))) (at_index j there) where
      found : (xs : List Key) (n : ℕ) → n < length xs → slice_get xs n ≡ Some (slice_index_or xs n d)
      found [] n low = absurd (let f : ⊥ = omega (arith, low) in f)
      found (x ∷ xs) zero low = refl
      found (x ∷ xs) (suc n) low = found xs n (omega (arith, low))

      at_index : (n : ℕ) → n < length (line h) → slice_get (line (entries_of (dated own h))) n ≡ Some (slice_index_or (line h) n d)
      at_index n low = ap (λ (x : List Entry). slice_get (line x) n) (entries_dated own h) ∙ found (line h) n low
