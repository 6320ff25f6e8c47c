-- What was taken of a source piece by piece.
use Rattle.std.proofs.Common.{ℕ, ◌+◌, ◌≤◌, List, ◌++◌, length, take, Option, Some, None, ap, sym, ◌∙◌, arith, append_assoc, length-append, length-take}
use Rattle.std.specs.Io.KnownBytes.{Consumes}

pub consumes_more : (a b c : Option (List ℕ)) (xs ys : List ℕ) → Consumes a b xs → Consumes b c ys → Consumes a c (xs ++ ys)
consumes_more None b c xs ys p q = tt
consumes_more (Some x) None c xs ys p q = absurd p
consumes_more (Some x) (Some y) None xs ys p q = absurd q
consumes_more (Some x) (Some y) (Some z) xs ys p q = p ∙ ap (λ w. xs ++ w) q ∙ sym (append_assoc xs ys z)

-- a piece that was asked for within a limit
pub within_limit : (most count room : ℕ) (bytes new : List ℕ) → count ≤ length new → length new ≤ room
    → length bytes + room ≤ most + 1 → length (bytes ++ take count new) ≤ most + 1
within_limit most count room bytes new a b d = omega (arith, length-append bytes (take count new), length-take count new)
