use Rattle.std.proofs.Common.{◌≡◌, ◌≤◌, ◌+◌, ℕ, List, [], length}
use Rattle.script_text.specs.declared.item.Item.{Item}
use Rattle.script_text.specs.declared.known.Known.{Known}
use Rattle.script_text.specs.Pieces.{lines_of}
use Rattle.script_text.specs.Known.{known_of}
use Rattle.script_text.specs.LineReadings.{lines_at}
use Rattle.script_text.proofs.KnownLaws.{IsLawful}
use Rattle.script_text.proofs.reading.script.Given as goal

-- the lines before the rest say lawful items, and the rest is read on
pub record Reads (known : Known) (number : ℕ) (rest bytes : List ℕ) : Type 0 where
  pub before : List Item
  pub known-is : known ≡ known_of before
  pub lawful : IsLawful (known_of before)
  pub few : number ≤ 20000
  pub count : number + length (lines_of rest) ≡ length (lines_of bytes)
  pub same : lines_at (known_of before) number (lines_of rest) ≡ lines_at (known_of []) 0 (lines_of bytes)

abbrev pub invariant-loop-rest : goal.invariant-loop-rest
invariant-loop-rest l = Reads l.known l.number l.rest l.bytes

abbrev pub decreases-loop-rest : goal.decreases-loop-rest
decreases-loop-rest l = length l.rest
