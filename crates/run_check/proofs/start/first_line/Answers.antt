use Rattle.std.proofs.Common.{arith}
use Rattle.std.proofs.lemmas.Bool.{eq-eqb, eqb-true}
use Rattle.std.proofs.lemmas.List.{take_rest}
use Rattle.run_check.proofs.StartLemmas.{lines_first, lines_all}
use Rattle.run_check.proofs.start.first_line.Goals as goal

pub returns-in-Some-clause-line : goal.returns-in-Some-clause-line
returns-in-Some-clause-line c =
    let h = c.in-Some.ensures in
    rw take_rest (lines_first c.args.bytes.now c.in-Some.end h.0.high (λ k lt e. h.0.before k (omega arith) lt (eq-eqb _ 10 e)) (eqb-true _ 10 h.1))

pub returns-in-None-clause-line : goal.returns-in-None-clause-line
returns-in-None-clause-line c = lines_all c.args.bytes.now c.requires (λ k lt e. c.in-None.ensures k (omega arith) lt (eq-eqb _ 10 e))
