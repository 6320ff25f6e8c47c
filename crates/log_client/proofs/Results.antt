-- What holds of a result holds of it by what follows.
use Rattle.std.proofs.Common.{Result, Ok, Err, IfOk, IfErr, OnErr}
pub use Rattle.log_node.proofs.CallerLemmas.{on_err}
pub use Rattle.log_node.proofs.CallerLemmas.{ok_then}
