-- The exit codes, and what is said on standard error.
use Rattle.std.specs.Prelude.{ℕ, List, Option, Some, None, codes}
use Rattle.run_script.specs.declared.status.Status.{Status}
use Rattle.run_script.specs.declared.status.Status.TheVariants.{Done, BadWords, Refused, ReadFault, WriteFault, NoMemory, Unlawful}

-- the exit code
abbrev pub code_of : Status → ℕ
code_of Done = 0
code_of BadWords = 1
code_of Refused = 2
code_of ReadFault = 3
code_of WriteFault = 4
code_of NoMemory = 5
code_of Unlawful = 6

-- what is said on standard error; what was done, refused or found unlawful was said to the sink
abbrev pub complaint_of : Status → Option (List ℕ)
complaint_of Done = None
complaint_of BadWords = Some (codes "usage: fuzzy_run step, run, check or load N")
complaint_of Refused = None
complaint_of ReadFault = Some (codes "fuzzy_run: the input failed")
complaint_of WriteFault = Some (codes "fuzzy_run: the output failed")
complaint_of NoMemory = Some (codes "fuzzy_run: out of memory")
complaint_of Unlawful = None
