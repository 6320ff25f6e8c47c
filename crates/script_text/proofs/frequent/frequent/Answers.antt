use Rattle.std.proofs.Common.{sym}
use Rattle.std.proofs.lemmas.Bool.{ne_eqb}
use Rattle.script_text.proofs.FrequentLemmas.{line_asked}
use Rattle.script_text.proofs.frequent.frequent.Goals as goal

pub returns-in-Some-2-clause-said : goal.returns-in-Some-2-clause-said
returns-in-Some-2-clause-said c =
    let cut = c.in-Some.ensures in
    let asked = rw c.in-Some-2.is at c.in_ok-what.ensures.asked in
    line_asked c.args.known.now c.args.number c.args.line.now c.in-Some.name.now c.in-Some.bytes.now c.in-Ok.client c.in-Some-2.what (sym c.if-not-is_begun.ensures) (sym c.if-is_passed_over.ensures) (ne_eqb c.args.number 1 c.if-number-eq1.false) cut.fields cut.ascii cut.full c.in-Ok.ensures asked
