use Rattle.std.proofs.Common.{◌≡◌, ◌<◌, true, List, length, ap, sym, subst, ◌∙◌}
use Rattle.world_laws.specs.Worlds.{may_see, after_seen}
use Rattle.world_code.specs.Clients.{ClientView}
use Rattle.world_code.specs.WorldView.{WorldView, world_of, IsWhole}
use Rattle.world_code.proofs.ClientSteps.{client_there, seen_world, seen_whole, seen_list}
use Rattle.world_code.proofs.Views.{view_of}
use Rattle.world_code.proofs.world.World.add_seen.Goals.{After-see}
use Rattle.world_code.proofs.world.World.add_seen.Goals as goal

may : (c : After-see) → may_see (world_of (view_of c.self.inside)) c.args.client c.args.to ≡ true
may c = subst (λ (k : WorldView). may_see (world_of k) c.args.client c.args.to ≡ true) (sym c.self.view_is) c.requires

there : (c : After-see) → c.args.client < length (view_of c.self.inside).clients
there c = client_there (view_of c.self.inside) c.args.client c.args.to c.self.invariant (may c)

pub invariant_of-self : goal.invariant_of-self
invariant_of-self c =
    let at = (goal.at.invariant_of-self c).After-see in
    subst (λ (cs : List ClientView). IsWhole (record (view_of c.self.inside) { clients = cs }))
    (sym (seen_list (view_of c.self.inside).clients c.args.client c.args.to c.index_mut.result.now c.see.new.self (there at)
    c.index_mut.ensures.value c.see.ensures))
    (seen_whole (view_of c.self.inside) c.args.client c.args.to c.self.invariant (may at))

pub returns : goal.returns
returns c =
    let at = (goal.at.returns c).After-see in
    ap (λ (cs : List ClientView). world_of (record (view_of c.self.inside) { clients = cs }))
    (seen_list (view_of c.self.inside).clients c.args.client c.args.to c.index_mut.result.now c.see.new.self (there at)
    c.index_mut.ensures.value c.see.ensures)
    ∙ (seen_world (view_of c.self.inside) c.args.client c.args.to (there at)
    ∙ ap (λ (k : WorldView). after_seen (world_of k) c.args.client c.args.to) c.self.view_is)
