-- Reading a list item by item, as a loop does.
use Rattle.std.proofs.Common.{◌≡◌, ℕ, suc, ◌-◌, ◌+◌, ◌≤◌, ◌<◌, Bool, true, false, List, [], ◌∷◌, ◌++◌, Option, Some, None, refl, sym, ap, ◌∙◌, append_assoc, arith}
use Rattle.std.proofs.lemmas.List.{append-nil}
use Rattle.report_reading.specs.declared.fault.ReadFault.{ReadFault}
use Rattle.report_reading.specs.declared.fault.ReadFault.TheVariants.{Memory, Form}
use Rattle.report_reading.specs.Lists.{◌>>=◌, Lacks, list_at}

-- what was read before, and what is still read
abbrev pub with_front : {X : Type 0} → List X → Option (List X × List ℕ) → Option (List X × List ℕ)
with_front front read = read >>= λ x. Some (front ++ x.0, x.1)

regroup : {X : Type 0} (front : List X) (x : X) (read : Option (List X × List ℕ)) → with_front front (read >>= λ y. Some (x ∷ y.0, y.1)) ≡ with_front (front ++ x ∷ []) read
regroup front x (Some y) = ap (λ xs. Some (xs, y.1)) (simp append_assoc)
regroup front x None = refl

pub goes_on : {X : Type 0} (begins : ℕ → List ℕ → Bool) (item_at : ℕ → List ℕ → Option (X × List ℕ)) (front : List X) (most place : ℕ) (bytes : List ℕ) (x : X) (after : List ℕ) (total : Option (List X × List ℕ))
    → place < most → begins place bytes ≡ true → item_at place bytes ≡ Some (x, after)
    → with_front front (list_at begins item_at (most - place) place bytes) ≡ total → with_front (front ++ x ∷ []) (list_at begins item_at (most - (place + 1)) (place + 1) after) ≡ total
unfolding list_at
goes_on begins item_at front most place bytes x after total lt here h so_far =
    let k : most - place ≡ suc (most - (place + 1)) = omega arith in
    let next : suc place ≡ place + 1 = omega arith in
    let one : with_front front (list_at begins item_at (most - place) place bytes) ≡ with_front (front ++ x ∷ []) (list_at begins item_at (most - (place + 1)) (place + 1) after) =
    rw (k, here, h, next) (regroup front x (list_at begins item_at (most - (place + 1)) (place + 1) after)) in
    sym one ∙ so_far

pub ends : {X : Type 0} (begins : ℕ → List ℕ → Bool) (item_at : ℕ → List ℕ → Option (X × List ℕ)) (e : ReadFault) (front : List X) (most place : ℕ) (bytes : List ℕ) (total : Option (List X × List ℕ))
    → place < most → begins place bytes ≡ true → Lacks e (item_at place bytes) → with_front front (list_at begins item_at (most - place) place bytes) ≡ total → Lacks e total
unfolding list_at
ends begins item_at Memory front most place bytes total lt here h so_far = tt
ends begins item_at Form front most place bytes total lt here h so_far =
    let k : most - place ≡ suc (most - (place + 1)) = omega arith in
    let one : with_front front (list_at begins item_at (most - place) place bytes) ≡ None = rw (k, here, h) refl in
    sym so_far ∙ one

-- no more items, or none begins
pub is_full : {X : Type 0} (begins : ℕ → List ℕ → Bool) (item_at : ℕ → List ℕ → Option (X × List ℕ)) (front : List X) (most place : ℕ) (bytes : List ℕ) (total : Option (List X × List ℕ))
    → most ≤ place → with_front front (list_at begins item_at (most - place) place bytes) ≡ total → total ≡ Some (front, bytes)
unfolding list_at
is_full begins item_at front most place bytes total le so_far =
    let k : most - place ≡ 0 = omega arith in
    let one : with_front front (list_at begins item_at (most - place) place bytes) ≡ Some (front, bytes) = rw k (ap (λ xs. Some (xs, bytes)) (append-nil front)) in
    sym so_far ∙ one

pub is_over : {X : Type 0} (begins : ℕ → List ℕ → Bool) (item_at : ℕ → List ℕ → Option (X × List ℕ)) (front : List X) (most place : ℕ) (bytes : List ℕ) (total : Option (List X × List ℕ))
    → place < most → begins place bytes ≡ false → with_front front (list_at begins item_at (most - place) place bytes) ≡ total → total ≡ Some (front, bytes)
unfolding list_at
is_over begins item_at front most place bytes total lt none so_far =
    let k : most - place ≡ suc (most - (place + 1)) = omega arith in
    let one : with_front front (list_at begins item_at (most - place) place bytes) ≡ Some (front, bytes) = rw (k, none) (ap (λ xs. Some (xs, bytes)) (append-nil front)) in
    sym so_far ∙ one
