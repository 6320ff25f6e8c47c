use Rattle.std.proofs.Common.{ℕ, List, ap}
use Rattle.report_reading.proofs.WordLemmas.{word_letters}
use Rattle.report_reading.proofs.reads.key_text.Goals as goal

pub is_key-requires : goal.is_key-requires
is_key-requires c = rw (← ap (λ (p : List ℕ × List ℕ). p.0) c.word.ensures) (word_letters c.args.bytes.now)
