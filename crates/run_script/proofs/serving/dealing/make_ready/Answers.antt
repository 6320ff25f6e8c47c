use Rattle.std.proofs.Common.{List, zip, ◌∙◌, ap, sym}
use Rattle.std.proofs.lemmas.List.{map-id}
use Rattle.std.proofs.lemmas.Iterator.{YieldsList-from_zip}
use Rattle.std.proofs.lemmas.Iterator.Adapters.{YieldsList-from_vec}
use Rattle.std.proofs.lemmas.Iterator.Consumers.{YieldsList-end}
use Rattle.log_client.specs.declared.client.Client.{Client}
use Rattle.run_script.proofs.Dealing.{idle_more, idle_zip}
use Rattle.run_script.proofs.serving.dealing.make_ready.Goals as goal

pub loop-client-preserved : goal.loop-client-preserved
loop-client-preserved c =
    idle_more c.args.objects.now c.loop-client.yielded c.loop-client.served.items c.push.new.self.items _
    c.loop-client.invariant
    (record { unopened = c.in_ok-slots.ensures; replies = c.new.ensures.items }) c.in_ok-push.ensures.items

pub returns : goal.returns
returns c =
    let clients = c.into_vec.result in
    let shares = c.args.shares in
    let s = c.into_iter-client-iterator.result in
    let gives = c.into_iter-client-iterator.ensures.into_iter_gives in
    let first = c.zip-client-items.ensures.first in
    let second = c.zip-client-items.ensures.second in
    let all = YieldsList-from_zip {s = s}
    (YieldsList-from_vec {s = s.a} clients.items
    (ap (λ z. z.a.rest.items) gives ∙ (ap (λ z. z.rest.items) first ∙ c.into_iter.ensures.rest))
    (ap (λ z. z.a.rest.len) gives ∙ (ap (λ z. z.rest.len) first ∙ (c.into_iter.ensures.len ∙ clients.ok.0))))
    (YieldsList-from_vec {s = s.b} shares.items (ap (λ z. z.b.rest.items) gives ∙ second.0)
    (ap (λ z. z.b.rest.len) gives ∙ (second.1 ∙ shares.ok.0))) in
    let t = YieldsList-end all c.loop-client.yielded _ c.loop-client.yielded_by _ c.next.new.self c.in-None.is c.next.ensures.steps in
    idle_zip c.args.objects.now c.args.clients shares.items c.loop-client.yielded c.loop-client.served.items c.requires
    (sym (map-id c.loop-client.yielded) ∙ (t.0 ∙ ap (λ (l : List Client). zip l shares.items) c.into_vec.ensures)) c.loop-client.invariant
