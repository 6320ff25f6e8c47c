-- The versions of a script's text, and what differs between them.
use Rattle.std.specs.Prelude.{Bool, ◌≤◌, ℕ, ◌==◌, ◌||◌, List, codes, if◌then◌else◌}
use Rattle.std.specs.Str.{bytes_eq}
use Rattle.log_node.specs.declared.limits.TheConstants.{MAX_REGIONS, MAX_COLOURS, MAX_CLIENTS, MAX_ROWS}
use Rattle.script_text.specs.declared.limits.Limits.{Limits}
use Rattle.script_text.specs.declared.limits.TheConstants.{VERSION_1, VERSION_2}

-- there is this version
abbrev pub is_version : ℕ → Bool
is_version version = (version == 1) || (version == 2)

-- the lines that name a version
abbrev pub is_version_line : List ℕ → Bool
is_version_line line = bytes_eq line (codes "fuzzylog 1") || bytes_eq line (codes "fuzzylog 2")

-- the limits of a version
abbrev pub limits_in : ℕ → Limits
limits_in version = if version == 2 then VERSION_2 else VERSION_1

-- what may be named, the log has room for, and objects can be numbered by a byte; a row is there where none is said
pub record AreWithin (limits : Limits) : Type 0 where
  pub regions : limits.regions ≤ MAX_REGIONS
  pub colours : limits.colours ≤ MAX_COLOURS
  pub clients : limits.clients ≤ MAX_CLIENTS
  pub objects : limits.objects ≤ 256
  pub rows : limits.rows ≤ MAX_ROWS
  pub a_row : 1 ≤ limits.unsaid_rows
  pub unsaid_rows : limits.unsaid_rows ≤ limits.rows
