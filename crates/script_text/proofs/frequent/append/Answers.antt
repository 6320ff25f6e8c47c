use Rattle.std.proofs.Common.{sym}
use Rattle.script_text.proofs.FrequentLemmas.{append_full, append_read}
use Rattle.script_text.proofs.frequent.append.Goals as goal

pub returns-clause-full : goal.returns-clause-full
returns-clause-full c =
    let cut = c.in-Some.ensures in
    append_full c.args.args.now c.in-Some.cols.now c.in-Some.text.now cut.fields cut.ascii cut.full (sym c.if-not-is_text.ensures)

pub returns-clause-what : goal.returns-clause-what
returns-clause-what c =
    let cut = c.in-Some.ensures in
    rw c.in_ok-text.ensures (append_read c.args.known.now c.args.args.now c.in-Some.cols.now c.in-Some.text.now _ cut.fields (sym c.if-not-is_text.ensures) (sym c.if-is_transactional.ensures) c.in-Ok.ensures.value)
