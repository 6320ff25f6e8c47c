-- Names in what is read as a script.
use Rattle.std.specs.Prelude.{ℕ, List}
use Rattle.script_text.specs.declared.script.Script.{Script}
use Rattle.script_text.specs.Grammar.{IsScript}
use Rattle.report_reading.specs.Apart.{AreApart}

-- What is read as a script has names of regions, of colours and of clients that are told from one another.
abbrev pub ScriptsNameApart : Type 0
ScriptsNameApart = (bytes : List ℕ) (script : Script) → IsScript bytes script → AreApart script
