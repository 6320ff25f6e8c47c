use Rattle.std.proofs.Common.{◌<◌, length, ap, sym, subst, ◌∙◌}
use Rattle.std.proofs.lemmas.Bool.{cond-true}
use Rattle.log_node.specs.declared.limits.TheConstants.{MAX_COLOURS}
use Rattle.log_node.specs.declared.node.Node.{Node}
use Rattle.world_laws.specs.Worlds.{World, may_single, after_single}
use Rattle.world_code.specs.Clients.{ClientView}
use Rattle.world_code.specs.WorldView.{WorldView, client_at, world_of, IsWhole}
use Rattle.world_code.proofs.SingleSteps.{may_single_is}
use Rattle.world_code.proofs.SingleCalls.{played_of, room_world, room_there}
use Rattle.world_code.proofs.world.World.single.Goals.{In-Some}
use Rattle.world_code.proofs.world.World.single.Goals as goal

whole : (c : In-Some) → IsWhole c.args.self.now
whole c = subst IsWhole c.self.view_is c.self.invariant

-- the client is there, and has something played of the colour
there : (c : In-Some) → (c.args.client < length c.args.self.now.clients) × (c.args.colour < MAX_COLOURS)
    × (c.args.colour < length (client_at c.args.self.now c.args.client).played)
there c = played_of c.args.self.now c.args.client c.args.colour (whole c)
    (may_single_is c.args.self.now c.args.client c.args.colour c.in-Some.ensures.some.0)

pub single_node-requires-clause-client : goal.single_node-requires-clause-client
single_node-requires-clause-client c =
    subst (λ (k : ClientView). c.args.colour < length k.played) (sym c.client.ensures)
    (there (goal.at.single_node-requires-clause-client c).In-Some).2

pub single_node-requires-clause-colour : goal.single_node-requires-clause-colour
single_node-requires-clause-colour c = (there (goal.at.single_node-requires-clause-colour c).In-Some).1

pub add_single-requires-clause-room : goal.add_single-requires-clause-room
add_single-requires-clause-room c =
    subst (λ (k : WorldView). 0 < (client_at k c.args.client).spare) (sym c.in_ok-client_room.ensures.ok)
    (room_there c.args.self.now c.args.client (there (goal.at.add_single-requires-clause-room c).In-Some).0)

pub returns-in-Ok-clause-ok : goal.returns-in-Ok-clause-ok
returns-in-Ok-clause-ok c =
    let some = (goal.at.returns-in-Ok-clause-ok c).In-Some in
    let now = c.args.self.now in
    let room = ap world_of c.in_ok-client_room.ensures.ok ∙ room_world now c.args.client (whole some) (there some).0 in
    let text = ap (λ (n : Node). n.text) (c.in_ok-node-2.ensures.ok ∙ c.in_ok-node.ensures) in
    c.in-Ok.ensures.ok
    ∙ (ap (λ (x : World). after_single x c.args.client c.args.colour c.in_ok-node-2.node.value.text) room
    ∙ (ap (after_single (world_of now) c.args.client c.args.colour) text
    ∙ sym (cond-true (may_single (world_of now) c.args.client c.args.colour) _ _ c.in-Some.ensures.some.0)))

pub returns-in-Err-clause-err : goal.returns-in-Err-clause-err
returns-in-Err-clause-err c =
    let some = (goal.at.returns-in-Err-clause-err c).In-Some in
    ap world_of (c.in-Err.ensures.err ∙ c.in_ok-client_room.ensures.ok)
    ∙ room_world c.args.self.now c.args.client (whole some) (there some).0
