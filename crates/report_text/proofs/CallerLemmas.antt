-- What callers may cite of this crate's proofs; all else there is private.
pub use Rattle.report_text.proofs.Outputs.{adds_then, whole, whole_ok, whole_front, whole_cause}
