use Rattle.std.proofs.lemmas.Bool.Decides.{Decides-eqb}
use Rattle.std.proofs.lemmas.Slice.Eq.{strip_prefix_is}
use Rattle.script_text.specs.Words.{word_text}
use Rattle.script_text.proofs.FrequentLemmas.{stripped}
use Rattle.script_text.proofs.frequent.behind_word.Goals as goal

pub returns : goal.returns
returns c =
    let word = word_text c.args.word in
    let bytes = c.args.bytes.now in
    stripped bytes word c.strip_prefix.result (strip_prefix_is Decides-eqb bytes word c.strip_prefix.result (rw c.as_bytes.ensures at c.strip_prefix.ensures.cases))
