-- Reading from the front: a value and the bytes behind it, or nothing where none stands there.
use Rattle.std.specs.Prelude.{◌≡◌, Bool, ℕ, zero, suc, List, [], ◌∷◌, length, Option, Some, None, Result, Ok, Err, if◌then◌else◌}
use Rattle.report_reading.specs.declared.fault.ReadFault.{ReadFault}
use Rattle.report_reading.specs.declared.fault.ReadFault.TheVariants.{Memory, Form}

infixl 10 ◌>>=◌
abbrev pub ◌>>=◌ : {A B : Type 0} → Option A → (A → Option B) → Option B
(Some x) >>= f = f x
None >>= f = None

-- no value stands there, unless memory ran out
abbrev pub Lacks : {Y : Type 0} → ReadFault → Option Y → Type 0
Lacks Memory read = Unit {0}
Lacks Form read = read ≡ None

-- what a function returned, seen by view, is what is read, unless memory ran out
abbrev pub Gives : {X Y : Type 0} → (X → Y) → Result X ReadFault → Option Y → Type 0
Gives view (Ok x) read = read ≡ Some (view x)
Gives view (Err e) read = Lacks e read

-- Items one after another, as long as one begins in its place; no more than so many.
unfoldable pub list_at : {X : Type 0} → (ℕ → List ℕ → Bool) → (ℕ → List ℕ → Option (X × List ℕ)) → ℕ → ℕ → List ℕ → Option (List X × List ℕ)
list_at begins item_at zero place bytes = Some ([], bytes)
list_at begins item_at (suc most) place bytes =
    if begins place bytes then (do
      first ← item_at place bytes
      others ← list_at begins item_at most (suc place) first.1
      Some (first.0 ∷ others.0, others.1))
    else Some ([], bytes)

-- all items that begin one after another
abbrev pub each_at : {X : Type 0} → (ℕ → List ℕ → Bool) → (ℕ → List ℕ → Option (X × List ℕ)) → List ℕ → Option (List X × List ℕ)
each_at begins item_at bytes = list_at begins item_at (length bytes) 0 bytes
