use Rattle.std.proofs.Common.{◌∙◌, arith, sym}
use Rattle.walk_law.proofs.WriterLemmas.{before_short, no_sign, no_writer, writer_there}
use Rattle.walk_law.proofs.writers.behind_writer.Goals as goal

pub returns-then-writer-bytes : goal.returns-then-writer-bytes
returns-then-writer-bytes c =
    let same = c.if-writer-bytes.true in
    no_sign c.args.sign c.args.bytes.now c.cut.result.0.now c.requires c.cut.ensures.front (λ lt. omega (arith, lt, same))

pub returns-then-names_writer : goal.returns-then-names_writer
returns-then-names_writer c =
    writer_there c.args.sign c.args.bytes.now c.cut.result.0.now c.cut.result.1.now c.requires c.cut.ensures.front c.cut.ensures.rest
    (before_short c.args.sign c.args.bytes.now c.cut.result.0.now c.cut.ensures.front c.if-writer-bytes.false)
    (sym c.names_writer.ensures ∙ c.if-names_writer.true)

pub returns-else-names_writer : goal.returns-else-names_writer
returns-else-names_writer c =
    no_writer c.args.sign c.args.bytes.now c.cut.result.0.now c.requires c.cut.ensures.front
    (sym c.names_writer.ensures ∙ c.if-names_writer.false)
