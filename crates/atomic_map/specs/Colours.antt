-- The colours of a map.
use Rattle.std.specs.Prelude.{IsTrue, ℕ, nat_lt, List}
use Rattle.std.specs.List.{list_all}
use Rattle.log_node.specs.declared.limits.TheConstants.{MAX_COLOURS}

-- no colour is beyond those that a set can have
abbrev pub AreFew : List ℕ → Type 0
AreFew colours = IsTrue (list_all (λ colour. nat_lt colour MAX_COLOURS) colours)
