-- How what a client has played goes on.
use Rattle.std.specs.Prelude.{ℕ}
use mathlib.Core.List.{IsPrefix}
use Rattle.log_client.specs.declared.client.Client.{Client}
use Rattle.log_client.specs.Clients.{played_of, own_line}

-- what it has played of each colour, and of this the own line, goes on
abbrev pub HasGrown : Client → Client → Type 0
HasGrown c d =
    (colour : ℕ) → IsPrefix (played_of c colour) (played_of d colour) × IsPrefix (own_line c colour) (own_line d colour)
