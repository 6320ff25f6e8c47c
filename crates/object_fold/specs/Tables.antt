-- A table of values by keys, as contracts see it.
use Rattle.std.specs.Prelude.{ℕ, List, Option}
use Rattle.std.specs.List.{find}
use Rattle.std.specs.Option.{option_map}
use Rattle.std.specs.Str.{bytes_eq}

-- the entries, each a key with its value, and for how many more keys there is room
pub record Table (V : Type 0) : Type 0 where
  pub entries : List (List ℕ × V)
  pub spare : ℕ

-- the value that stands at a key
abbrev pub value_at : {V : Type 0} → List (List ℕ × V) → List ℕ → Option V
value_at entries key = option_map (λ entry. entry.1) (find (λ entry. bytes_eq entry.0 key) entries)
