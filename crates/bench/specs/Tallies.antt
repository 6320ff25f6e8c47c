-- The histories for which a tally stands. An entry is the number of the pass that made it.
use Rattle.std.specs.Prelude.{◌≡◌, ℕ, ◌-◌, ◌^◌, ◌<◌, List, [], ◌∷◌, ◌++◌, length, Some, slice_get}
use Rattle.bench.specs.declared.turns.tally.Tally.{Tally}

-- it has as many entries, and its last one was made by that pass
abbrev pub Stands : {P : Type 0} → Tally P → List ℕ → Type 0
Stands t log = (t.count ≡ length log) × (t.last ≡ slice_get log (length log - 1))

-- the new tally has this entry beside those of the old one
abbrev pub Gains : {P : Type 0} → Tally P → Tally P → ℕ → Type 0
Gains old new by =
    (new.last ≡ Some by) × (new.count < 2 ^ 64) × ((log : List ℕ) → Stands old log → Stands new (log ++ by ∷ []))
