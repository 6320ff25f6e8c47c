-- Names of one kind that are told from one another.
use Rattle.std.specs.Prelude.{◌≡◌, IsTrue, ℕ, ◌<◌, ◌≤◌, ◌^◌, List, length}
use Rattle.log_node.specs.declared.limits.TheConstants.{MAX_REGIONS, MAX_COLOURS, MAX_CLIENTS}
use Rattle.script_text.specs.declared.script.Script.{Script}
use Rattle.script_text.specs.Pieces.{is_name, name_of}

-- one name or more, no more than so many, no two alike
pub record AreNames (most : ℕ) (names : List (List ℕ)) : Type 0 where
  pub some : 0 < length names
  pub few : length names ≤ most
  pub lawful : (n : ℕ) → n < length names → IsTrue (is_name (name_of names n))
  pub apart : (m n : ℕ) → m < length names → n < length names → name_of names m ≡ name_of names n → m ≡ n

-- the names of regions, of colours and of clients; the version is a byte
pub record AreApart (script : Script) : Type 0 where
  pub regions : AreNames MAX_REGIONS script.regions
  pub colours : AreNames MAX_COLOURS script.colours
  pub clients : AreNames MAX_CLIENTS script.clients
  pub version : script.version < 2 ^ 8
