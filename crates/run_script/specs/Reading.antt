-- What a reader takes from the report of a run.
use Rattle.std.specs.Prelude.{ℕ, List}
use Rattle.lawful_run.specs.Readings.{ReturnedAppendsStand, ClosingLinesRise, OneKey, OneCommand, OneOrder, NothingElseStands, ShownAsAppended, ShownOnce}
use Rattle.lawful_run.specs.ObjectReadings.{ScansAreWhole, GetsAreFolds, CausalGetsAreFolds, DequeuesAreFolds, ReadsAreFolds, VerdictsAreFolds, ChangesAreFolds, ListsAreFolds, UndecidedAreFolds, DecisionsAreFolds}
use Rattle.script_text.specs.declared.script.Script.{Script}
use Rattle.script_text.specs.Grammar.{IsScript}
use Rattle.script_text.specs.Fitting.{IsFitting}

-- What holds of the report of each lawful run of a script.
pub record LawsForReaders : Type 0 where
  -- what is read as a script has just the numbers of which these laws speak
  pub fitting : (bytes : List ℕ) (script : Script) → IsScript bytes script → IsFitting script
  pub returned : ReturnedAppendsStand
  pub rising : ClosingLinesRise
  pub one_key : OneKey
  pub one_command : OneCommand
  pub one_order : OneOrder
  pub nothing_else : NothingElseStands
  pub as_appended : ShownAsAppended
  pub once : ShownOnce
  -- scans, and the answers of objects, are those over the nodes of closing lines
  pub scans : ScansAreWhole
  pub gets : GetsAreFolds
  pub causal_gets : CausalGetsAreFolds
  pub dequeues : DequeuesAreFolds
  pub reads : ReadsAreFolds
  pub verdicts : VerdictsAreFolds
  pub changes : ChangesAreFolds
  pub lists : ListsAreFolds
  pub undecided : UndecidedAreFolds
  pub decisions : DecisionsAreFolds
