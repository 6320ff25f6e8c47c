-- Why a report is not read.
use Rattle.std.specs.Prelude.{◌≡◌, ℕ, Result, Ok, Err, ⊤}
use Rattle.report_reading.specs.declared.fault.ReportFault.{ReportFault}
use Rattle.report_reading.specs.declared.fault.ReportFault.TheVariants.{BadForm, NoMemory}

-- the bytes are said to be no report
abbrev pub IsBadForm : {T : Type 0} → Result T ReportFault → Type 0
IsBadForm (Ok x) = ⊥
IsBadForm (Err (BadForm len)) = ⊤
IsBadForm (Err NoMemory) = ⊥

-- where they are, this is how many there are
abbrev pub TellsLength : {T : Type 0} → ℕ → Result T ReportFault → Type 0
TellsLength count (Ok x) = ⊤
TellsLength count (Err (BadForm len)) = len ≡ count
TellsLength count (Err NoMemory) = ⊤
