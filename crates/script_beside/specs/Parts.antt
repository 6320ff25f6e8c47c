-- A script's bytes in parts, each of which is read behind the header.
use Rattle.std.specs.Prelude.{◌≡◌, false, ℕ, ◌≤◌, ◌==◌, List, ◌++◌, length, map, take, Option, Some, slice_get}
use Rattle.std.specs.List.{count_by, flat_map}
use Rattle.script_text.specs.declared.script.Script.{Script}
use Rattle.script_text.specs.declared.limits.TheConstants.{MAX_BYTES, MAX_LINES}
use Rattle.script_text.specs.Pieces.{lines_of}
use Rattle.script_text.specs.Grammar.{IsScript}
use Rattle.script_beside.specs.declared.cuts.Cut.{Cut}
use Rattle.script_beside.specs.declared.cuts.Parted.{Parted}
use Rattle.script_beside.specs.declared.part.ReadPart.{ReadPart}
use Rattle.script_beside.specs.Begins.{AreBegun}
use Rattle.script_beside.specs.Joining.{later, EndsALine, IsHeader, NoneStops}
use Rattle.script_beside.specs.Lists.{AreOwn}

-- how many of the bytes are line feeds
abbrev pub line_feeds : List ℕ → ℕ
line_feeds bytes = count_by (λ b. b == 10) bytes

-- the bytes of the parts, one after another
abbrev pub bytes_of : List Cut → List ℕ
bytes_of cuts = flat_map (λ (cut : Cut). cut.bytes.now) cuts

-- the part stands behind these bytes, which end a line, and says how many lines they have
pub record IsBehind (before : List ℕ) (cut : Cut) : Type 0 where
  pub ends : EndsALine before
  pub lines : cut.before ≡ length (lines_of before)

-- each part stands behind those before it
abbrev pub AreCuts : List Cut → Type 0
AreCuts cuts = (n : ℕ) (cut : Cut) → slice_get cuts n ≡ Some cut → IsBehind (bytes_of (take n cuts)) cut

-- all bytes of a script in parts
abbrev pub all_bytes : Parted → List ℕ
all_bytes p = p.header.now ++ bytes_of p.cuts.items

-- a header with its script, and parts behind it, which are within a script's limits
pub record IsParted (p : Parted) : Type 0 where
  pub header : IsHeader p.header.now p.script
  pub first : IsScript p.header.now p.script
  pub cuts : AreCuts p.cuts.items
  pub short : length (all_bytes p) ≤ MAX_BYTES
  pub few : length (lines_of (all_bytes p)) ≤ MAX_LINES

-- The part is a script behind the header, whose commands, each at its line of the whole, are in the lists of their clients, and
-- counted by client where they may begin a row.
pub record IsRead (header : List ℕ) (cut : Cut) (part : ReadPart) : Type 0 where
  pub script : Script
  pub is : IsScript (header ++ cut.bytes.now) script
  pub lists : AreOwn (length script.clients) (map (later cut.before) script.commands) part.lists.items
  pub stops : part.stops ≡ false → NoneStops script.commands
  pub begins : AreBegun (length script.clients) (map (later cut.before) script.commands) part.begins.items

-- as many as there are parts, each read or not
pub record ArePartsRead (header : List ℕ) (cuts : List Cut) (parts : List (Option ReadPart)) : Type 0 where
  pub many : length parts ≡ length cuts
  pub each : (n : ℕ) (cut : Cut) (part : ReadPart) → slice_get cuts n ≡ Some cut → slice_get parts n ≡ Some (Some part) → IsRead header cut part
