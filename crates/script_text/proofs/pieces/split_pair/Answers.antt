use Rattle.std.proofs.Common.{◌≡◌, ℕ, eqb, ◌+◌, refl, arith}
use Rattle.std.specs.List.{position_or_len}
use Rattle.std.proofs.lemmas.Bool.{ne_eqb, eq-eqb}
use Rattle.std.proofs.lemmas.List.{take_rest}
use Rattle.std.proofs.lemmas.List.Sums.{position_or_len_is}
use Rattle.script_text.proofs.PieceLemmas.{no_equals}
use Rattle.script_text.proofs.pieces.split_pair.Goals as goal

pub returns-in-Some-clause-parts : goal.returns-in-Some-clause-parts
returns-in-Some-clause-parts c =
    let field = c.args.field.now in
    let i = c.in-Some.end in
    let h = c.in-Some.ensures in
    let place : position_or_len (λ (b : ℕ). eqb b 61) field ≡ i = position_or_len_is (λ b. eqb b 61) field i 0 (let lt = h.0.high in omega (arith, lt))
    (λ k lt. ne_eqb _ 61 (λ e. h.0.before k (omega arith) lt (eq-eqb _ 61 e))) (λ _. h.1) in
    rw place (refl, take_rest field (i + 1))

pub returns-in-None-clause-none : goal.returns-in-None-clause-none
returns-in-None-clause-none c = (λ _. no_equals c.args.field.now (λ k lt e. c.in-None.ensures k (omega arith) lt (eq-eqb _ 61 e)), λ _. refl)
