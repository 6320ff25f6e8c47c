use Rattle.std.proofs.Common.{sym, ◌∙◌, ◌++◌, ◌∷◌, []}
use Rattle.std.specs.List.{cons_option}
use Rattle.part_fold.specs.Parts.{decisions, transactions, transaction_by}
use Rattle.part_fold.specs.PartStates.{StopsAtFront, IsPart}
use Rattle.part_fold.proofs.RestLemmas.{fed_decision, fed_form, on_ok}
use Rattle.part_fold.proofs.part_fold.PartFold.feed.Goals as goal

pub returns-in-Some-clause-ok : goal.returns-in-Some-clause-ok
returns-in-Some-clause-ok c = λ nodes node key text stands.
    let d = c.in-Some.decision in
    let new = c.decide.new.self in
    on_ok c.decide.result (StopsAtFront new (decisions nodes ++ d ∷ []) (transactions nodes)) (IsPart new (nodes ++ node ∷ []))
    (c.decide.ensures.ok (decisions nodes) (transactions nodes) stands)
    (fed_decision new nodes node c.args.text.now d text (sym c.read_decision.ensures ∙ c.in-Some.is))

pub returns-in_ok-form-in-None-clause-ok : goal.returns-in_ok-form-in-None-clause-ok
returns-in_ok-form-in-None-clause-ok c = λ nodes node key text stands.
    let form = c.in_ok-form-in-None.form in
    let new = c.take.new.self in
    on_ok c.take.result (StopsAtFront new (decisions nodes) (transactions nodes ++ cons_option (transaction_by c.args.key form) [])) (IsPart new (nodes ++ node ∷ []))
    (c.take.ensures.ok (decisions nodes) (transactions nodes) stands)
    (fed_form new nodes node c.args.key c.args.text.now form key text (sym c.read_decision.ensures ∙ c.in-None.is) c.in_ok-form-in-None.ensures.form)
