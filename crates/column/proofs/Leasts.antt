-- The least of a bound and the numbers of every other region, one region after another.
use Rattle.std.proofs.Common.{◌≡◌, ℕ, zero, suc, ◌+◌, min, List, [], ◌∷◌, ◌++◌, ap, ◌∙◌, arith}
use Rattle.std.specs.Prelude.{◌==◌, if◌then◌else◌}
use Rattle.std.specs.List.{fold, range_with_len}
use Rattle.log_node.specs.declared.ids.Counts.{Counts}
use Rattle.log_node.specs.Vectors.{at}
use Rattle.col_core.proofs.CallerLemmas.{fold-append}
use Rattle.column.specs.Inside.{least_noted}

range_more : (a n b : ℕ) → a + n ≡ b → range_with_len a (suc n) ≡ range_with_len a n ++ b ∷ []
range_more a zero b is = ap (λ (k : ℕ). k ∷ []) (let e : a ≡ b = omega (arith, is) in e)
range_more a (suc n) b is = ap (λ (ks : List ℕ). a ∷ ks) (range_more (a + 1) n b (omega (arith, is)))

pub least_more : (notes : Counts) (own n bound : ℕ)
    → least_noted notes own (n + 1) bound
    ≡ (if n == own then least_noted notes own n bound else min (least_noted notes own n bound) (at notes n))
least_more notes own n bound =
    ap (λ (k : ℕ). least_noted notes own k bound) (let e : n + 1 ≡ suc n = omega arith in e)
    ∙ (ap (fold (λ m region. if region == own then m else min m (at notes region)) bound)
    (range_more 0 n n (omega arith))
    ∙ fold-append (λ (m : ℕ) (region : ℕ). if region == own then m else min m (at notes region)) bound
    (range_with_len 0 n) n)
