use Rattle.std.proofs.Common.{◌≡◌, Some, refl, sym, ap, ◌∙◌, true}
use Rattle.std.specs.List.{position, list_any}
use Rattle.std.proofs.lemmas.Bool.{and_left, and_from}
use Rattle.skeen_core.specs.Queues.{is_decided}
use Rattle.skeen_core.proofs.Settling.{opens, gone-is, final-is, found-any, none-any, any-found}
use Rattle.skeen_core.proofs.waiting.settle_entry.Goals as goal

pub returns-in_default-clause-answer : goal.returns-in_default-clause-answer
returns-in_default-clause-answer g c =
    let ws = c.args.waiting.now.items in
    let p = opens {T = g.row.T.Denot} c.args.id in
    sym (and_left (list_any p ws) (is_decided c.args.outcome)
    (none-any p ws (λ n e. c.in_default.not-Some n
    (c.open_place.ensures ∙ ap (position p) c.as_slice.ensures.value ∙ e))))

pub returns-in-Gone-clause-answer : goal.returns-in-Gone-clause-answer
returns-in-Gone-clause-answer g c =
    let ws = c.args.waiting.now.items in
    let p = opens {T = g.row.T.Denot} c.args.id in
    let at : position p ws ≡ Some c.in-Some.at = ap (position p) (sym c.as_slice.ensures.value)
    ∙ sym c.in-Some.ensures in
    sym (rw c.in-Gone.is (and_from _ true (found-any c.args.id ws c.in-Some.at (any-found p ws c.in-Some.at at) at)
    refl))

pub returns-in-Gone-clause-items : goal.returns-in-Gone-clause-items
returns-in-Gone-clause-items g c =
    let ws = c.args.waiting.now.items in
    let p = opens {T = g.row.T.Denot} c.args.id in
    let at : position p ws ≡ Some c.in-Some.at = ap (position p) (sym c.as_slice.ensures.value)
    ∙ sym c.in-Some.ensures in
    rw c.in-Gone.is (c.remove-gone.ensures.items ∙ gone-is c.args.id ws c.in-Some.at (any-found p ws c.in-Some.at at)
    c.requires.apart at)

pub returns-in-Final-clause-answer : goal.returns-in-Final-clause-answer
returns-in-Final-clause-answer g c =
    let ws = c.args.waiting.now.items in
    let p = opens {T = g.row.T.Denot} c.args.id in
    let at : position p ws ≡ Some c.in-Some.at = ap (position p) (sym c.as_slice.ensures.value)
    ∙ sym c.in-Some.ensures in
    sym (rw c.in-Final.is (and_from _ true (found-any c.args.id ws c.in-Some.at (any-found p ws c.in-Some.at at) at)
    refl))

pub returns-in-Final-clause-items : goal.returns-in-Final-clause-items
returns-in-Final-clause-items g c =
    let ws = c.args.waiting.now.items in
    let p = opens {T = g.row.T.Denot} c.args.id in
    let at : position p ws ≡ Some c.in-Some.at = ap (position p) (sym c.as_slice.ensures.value)
    ∙ sym c.in-Some.ensures in
    let d = any-found p ws c.in-Some.at at in
    rw c.in-Final.is (c.final_under.ensures.items d
    ∙ final-is c.args.id c.in-Final.stamp ws c.in-Some.at d c.requires.apart at)
