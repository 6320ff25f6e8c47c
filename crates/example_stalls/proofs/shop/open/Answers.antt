use Rattle.std.proofs.Common.{List, ◌∷◌, ◌++◌, [], sym, subst, ◌∙◌}
use Rattle.std.specs.List.{AllZip}
use Rattle.std.proofs.lemmas.List.{map-id}
use Rattle.std.proofs.lemmas.Iterator.Adapters.{YieldsList-from_vec}
use Rattle.std.proofs.lemmas.Iterator.Consumers.{YieldsList-end}
use Rattle.log_client.specs.declared.client.Client.{Client}
use Rattle.example_stalls.specs.Stalls.{IsNewStall}
use Rattle.example_stalls.proofs.Opening.{all_stalls, stall_more}
use Rattle.example_stalls.proofs.shop.open.Goals as goal

pub loop-client-preserved : goal.loop-client-preserved
loop-client-preserved c =
    let so_far = c.loop-client in
    subst (AllZip IsNewStall (so_far.yielded ++ c.in-Some.client ∷ [])) (sym c.in_ok-push-3.ensures.items)
    (stall_more so_far.yielded so_far.stalls.items c.in-Some.client c.in_ok-open.field-0 so_far.invariant c.in_ok-open.ensures)

pub returns-clause-stalls : goal.returns-clause-stalls
returns-clause-stalls c =
    let so_far = c.loop-client in
    let items = c.into_vec-client-items.result in
    let gives = c.into_iter-client-iterator.ensures.into_iter_gives in
    let all = YieldsList-from_vec {s = c.into_iter-client-iterator.result} items.items gives.0 (gives.1 ∙ items.ok.0) in
    let end = YieldsList-end all so_far.yielded _ so_far.yielded_by _ c.next.new.self c.in-None.is c.next.ensures.steps in
    let whole = sym (map-id so_far.yielded) ∙ (end.0 ∙ c.into_vec-client-items.ensures) in
    let new = c.in_ok-store.ensures.clients in
    all_stalls c.in_ok-store.store c.in_ok-store.clients so_far.stalls.items (λ n client there. (new.1 n client there).rests)
    (subst (λ (clients : List Client). AllZip IsNewStall clients so_far.stalls.items) whole so_far.invariant)
