use Rattle.std.proofs.Common.{◌≡◌, ℕ, true, refl, ap, sym, subst, ◌∙◌}
use Rattle.column.specs.Columns.{moved_from}
use Rattle.chain_store.specs.Guarded.{wanted, IsNext, HasNextCause}
use Rattle.chain_store.proofs.Nexts.{is_next, not_next}
use Rattle.chain_store.proofs.seated.Seated.only.Goals as goal

pub returns-in-Some-clause-cause : goal.returns-in-Some-clause-cause
returns-in-Some-clause-cause c =
    let s = c.args.self.now.column in
    let x = c.args.node.now.value in
    let moved : moved_from s x ≡ true = ap (moved_from s) (sym c.deref.ensures) ∙ c.in-Some.ensures.some.0 in
    subst (HasNextCause s.region s.colour s.journal x) (sym c.in-Some.ensures.some.1) (refl, refl, refl, not_next s x moved)

pub returns-in-Ok-clause-next : goal.returns-in-Ok-clause-next
returns-in-Ok-clause-next c =
    let s = c.args.self.now.column in
    let x = c.args.node.now.value in
    is_next s x (ap (moved_from s) (sym c.deref.ensures) ∙ c.in_default.ensures.none refl)

pub returns-in-Err-clause-cause : goal.returns-in-Err-clause-cause
returns-in-Err-clause-cause c =
    let s = c.args.self.now.column in
    let x = c.args.node.now.value in
    let next = is_next s x (ap (moved_from s) (sym c.deref.ensures) ∙ c.in_default.ensures.none refl) in
    subst (λ (k : ℕ). HasNextCause s.region k s.journal x c.fault_of.result) c.colour-colour.ensures
    (c.fault_of.ensures s.region s.journal x
    (subst (λ (k : ℕ). IsNext s.journal (wanted s.region k x)) (sym c.colour-colour.ensures) next) c.in-Err.ensures.cause)
