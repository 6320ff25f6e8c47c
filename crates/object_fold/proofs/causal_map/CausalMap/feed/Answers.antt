use Rattle.std.proofs.Common.{◌≡◌, ◌++◌, ◌∷◌, [], ℕ, List, length, set, Option, sym, ap, ◌∙◌}
use Rattle.object_form.specs.Readings.{form_of}
use Rattle.object_fold.specs.declared.causal_map.LatestWrite.{LatestWrite}
use Rattle.object_fold.specs.Pasts.{past_chain, at_once, past_of}
use Rattle.object_fold.specs.CausalStates.{IsCausalMap, latest_at, change_by, latest_with}
use Rattle.object_fold.proofs.PastLemmas.{own_position}
use Rattle.object_fold.proofs.CausalLemmas.{one_more_node, both_ok}
use Rattle.object_fold.proofs.causal_map.CausalMap.feed.Goals as goal

pub returns-clause-ok : goal.returns-clause-ok
returns-clause-ok c = λ played node region needs text next stands.
    let old = c.args.self.now in
    let new = c.take.new.self in
    let entries = old.latest.entries in
    let taken = c.past_of-past.result in
    let position : node.position ≡ c.fed-position.result =
    own_position old.pasts played node stands.pasts next ∙ ap (λ (r : ℕ). length (past_chain old.pasts r)) region ∙ sym c.fed-position.ensures in
    let past_is : past_of old.pasts (at_once node.region node.position node.needs) ≡ taken =
    rw (region, position, needs) (sym (c.past_of-past.ensures ∙ ap (past_of old.pasts) c.at_once.ensures)) in
    let change_is : c.in_ok-change.change ≡ change_by entries node.region node.position (past_of old.pasts (at_once node.region node.position node.needs)) (form_of node.text) =
    rw (past_is, region, position, text) (c.in_ok-change.ensures ∙ ap (change_by entries c.args.region c.fed-position.result taken) c.in_ok-form.ensures.form) in
    let Q : List ℕ → Type 0 = λ key. latest_at new.latest.entries key ≡ latest_with entries c.in_ok-change.change key in
    both_ok c.take.result (new.pasts ≡ set old.pasts c.args.region (past_chain old.pasts c.args.region ++ taken ∷ [])) Q (IsCausalMap new (played ++ node ∷ []))
    c.take.ensures.pasts c.take.ensures.latest
    (λ pasts each. one_more_node old new played node stands next (rw (past_is, region) pasts)
    (λ key. each key ∙ ap (λ (ch : Option (List ℕ × List LatestWrite)). latest_with entries ch key) change_is))
