-- What callers may cite of this crate's proofs; all else there is private.
pub use Rattle.script_text.proofs.ScriptFits.{script_fits}
pub use Rattle.script_text.proofs.ScriptLaws.{one_script}
pub use Rattle.script_text.proofs.RowLaws.{some_rows}
pub use Rattle.script_text.proofs.SetLaws.{bits_few}
pub use Rattle.script_text.proofs.VersionLemmas.{which_version, which_limits, limits_within, regions_few, colours_few, clients_few, rows_few}
