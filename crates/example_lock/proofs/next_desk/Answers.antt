use Rattle.std.proofs.Common.{Option, IfSome, subst}
use Rattle.std.proofs.lemmas.List.Elements.{All-pop}
use Rattle.log_client.specs.declared.client.Client.{Client}
use Rattle.log_client.specs.Clients.{IsClient}
use Rattle.example_lock.proofs.next_desk.Goals as goal

pub returns-clause-desk : goal.returns-clause-desk
returns-clause-desk c =
    let s = c.args.store.now in
    let both = All-pop (IsClient s) c.args.clients.now.items c.pop.new.self.items c.pop.result c.pop.ensures.items c.requires.clients in
    c.open.ensures.desk s (subst (λ (r : Option Client). IfSome r (IsClient s)) c.in_ok-pop.was both.1) c.requires.colour
