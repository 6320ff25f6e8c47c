-- How the answers to an append that may only stand next are explained.
use Rattle.std.proofs.Common.{ℕ, List, [], map, refl, inr}
use Rattle.col_core.specs.Log.{Log}
use Rattle.col_core.specs.Keeping.{Kept}
use Rattle.script_text.specs.declared.commands.What.TheVariants as whats
use Rattle.report_text.specs.declared.report.Answer.TheVariants as answers
use Rattle.lawful_run.specs.Callers.{Caller}
use Rattle.lawful_run.specs.Explains.{Explains}
use Rattle.log_client.specs.declared.answers.Appended.{Appended}
use Rattle.log_client.specs.Appends.{piece_of}
use Rattle.log_client.specs.Guarded.{OnlyAs, FindsMoved, FindsNoStamp}

module _ (log : Log) (caller : Caller) (kept after : Kept) (colour : ℕ) (text : List ℕ) where
  pub only_stood : (a : Appended) → OnlyAs colour text a log caller kept after
      → Explains log caller kept (whats.Only colour text)
      (answers.Stood a.stood.key.stamp a.row (map piece_of a.stood.points)) [] after
  only_stood a is = (refl, inr (refl, is.3), (is.0, text, (is.1, refl), is.2.2))

  pub only_moved : (lined waiting events : ℕ) → FindsMoved colour lined waiting events log caller kept after
      → Explains log caller kept (whats.Only colour text) (answers.Moved lined waiting colour events) [] after
  only_moved lined waiting events is = (refl, text, refl, is.0, is.1, is.2)

  pub only_ended : FindsNoStamp colour text log caller kept after
      → Explains log caller kept (whats.Only colour text) (answers.StampEnd colour) [] after
  only_ended is = (refl, refl, (is.0, text, (is.1, refl), is.2))
