-- What the words of a command line ask for.
use Rattle.std.specs.Prelude.{ℕ, List, [], ◌∷◌, Option, Some, None, codes, nat_le, ◌&&◌, if◌then◌else◌}
use Rattle.std.specs.List.{list_all}
use Rattle.std.specs.Option.{option_map}
use Rattle.std.specs.Str.{bytes_eq}
use Rattle.script_text.specs.Pieces.{is_between, is_digit, number_value}
use Rattle.load_script.specs.declared.script.TheConstants.{MAX_LOAD}
use Rattle.run_script.specs.declared.asked.Asked.{Asked}
use Rattle.run_script.specs.declared.asked.Asked.TheVariants.{Step, Run}
use Rattle.run_script.specs.declared.asked.Task.{Task}
use Rattle.run_script.specs.declared.asked.Task.TheVariants as tasks

-- how a script is done at the word `step` and at the word `run`
abbrev pub asked_by : List ℕ → Option Asked
asked_by word =
    if bytes_eq word (codes "step") then Some Step else if bytes_eq word (codes "run") then Some Run else None

-- a number from 1 to the most rounds of a load, in digits of which the first is no 0
abbrev pub rounds_asked : List ℕ → Option ℕ
rounds_asked [] = None
rounds_asked (b ∷ bs) =
    let n = number_value (b ∷ bs) in
    if is_between 49 57 b && list_all is_digit bs && nat_le n MAX_LOAD then Some n else None

-- a word `check`, `step` or `run` alone, or the word `load` and a number of rounds after it
abbrev pub task_by : List ℕ × Option (List ℕ) → Option Task
task_by (word, None) =
    if bytes_eq word (codes "check") then Some tasks.Check else option_map tasks.Script (asked_by word)
task_by (word, Some number) =
    if bytes_eq word (codes "load") then option_map tasks.Load (rounds_asked number) else None

-- one word, or two, that ask for something
abbrev pub task_of : List (List ℕ) → Option Task
task_of [] = None
task_of (word ∷ []) = task_by (word, None)
task_of (word ∷ number ∷ []) = task_by (word, Some number)
task_of (word ∷ number ∷ other ∷ words) = None
