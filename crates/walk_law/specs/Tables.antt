-- What a keeping keeps true of its tables.
use Rattle.std.specs.Prelude.{◌≡◌, ℕ, List, length, Option}
use Rattle.log_node.specs.declared.ids.Counts.{Counts}

-- each table has a place for each number
pub record IsKeeping (starts : List Counts) (seen known : List ℕ) (made : List (List ℕ)) (reads : List (Option ℕ)) : Type 0 where
  pub starts_len : length starts ≡ 256
  pub seen_len : length seen ≡ 256
  pub known_len : length known ≡ 256
  pub made_len : length made ≡ 256
  pub reads_len : length reads ≡ 256
