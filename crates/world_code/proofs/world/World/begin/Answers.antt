use Rattle.std.proofs.Common.{◌≡◌, ◌<◌, [], true, length, ap, sym, subst, ◌∙◌}
use Rattle.std.proofs.lemmas.Bool.{cond-true}
use Rattle.world_laws.specs.declared.steps.Reply.TheVariants as replies
use Rattle.world_laws.specs.Worlds.{World, may_begin, after_begin, next_row, next_id}
use Rattle.world_code.specs.WorldView.{WorldView, client_at, world_of, IsWhole}
use Rattle.world_code.proofs.BeginSteps.{may_begin_is, in_clients}
use Rattle.world_code.proofs.SingleCalls.{room_world, room_there}
use Rattle.world_code.proofs.world.World.begin.Goals.{In_ok-client_room}
use Rattle.world_code.proofs.world.World.begin.Goals as goal

whole : (c : In_ok-client_room) → IsWhole c.args.self.now
whole c = subst IsWhole c.self.view_is c.self.invariant

there : (c : In_ok-client_room) → c.args.client < length c.args.self.now.clients
there c = in_clients c.args.self.now (whole c) c.args.client c.args.colours []
    (may_begin_is c.args.self.now c.args.client c.args.colours (sym c.if-not-may_begin.ensures))

-- the room shows nowhere in the world
room : (c : In_ok-client_room) → world_of c.client_room.new.self ≡ world_of c.args.self.now
room c = ap world_of c.in_ok-client_room.ensures.ok ∙ room_world c.args.self.now c.args.client (whole c) (there c)

pub begin_node-requires-clause-may : goal.begin_node-requires-clause-may
begin_node-requires-clause-may c =
    subst (λ (x : World). may_begin x c.args.client c.args.colours ≡ true)
    (sym (room (goal.at.begin_node-requires-clause-may c).In_ok-client_room)) (sym c.if-not-may_begin.ensures)

pub begin_node-requires-clause-room : goal.begin_node-requires-clause-room
begin_node-requires-clause-room c =
    subst (λ (k : WorldView). 0 < (client_at k c.args.client).spare) (sym c.in_ok-client_room.ensures.ok)
    (room_there c.args.self.now c.args.client (there (goal.at.begin_node-requires-clause-room c).In_ok-client_room))

pub returns-in-Ok-clause-ok : goal.returns-in-Ok-clause-ok
returns-in-Ok-clause-ok c =
    c.in-Ok.ensures.ok
    ∙ (ap (λ (x : World). after_begin x c.args.client c.args.colours c.args.text)
    (room (goal.at.returns-in-Ok-clause-ok c).In_ok-client_room)
    ∙ sym (cond-true (may_begin (world_of c.args.self.now) c.args.client c.args.colours) _ _
    (sym c.if-not-may_begin.ensures)))

pub returns-in-Ok-clause-reply : goal.returns-in-Ok-clause-reply
returns-in-Ok-clause-reply c =
    c.in-Ok.ensures.begun
    ∙ (ap (λ (x : World). replies.Begun (next_row x c.args.client) (next_id x c.args.client))
    (room (goal.at.returns-in-Ok-clause-reply c).In_ok-client_room)
    ∙ sym (cond-true (may_begin (world_of c.args.self.now) c.args.client c.args.colours) _ _
    (sym c.if-not-may_begin.ensures)))

pub returns-in-Err-clause-err : goal.returns-in-Err-clause-err
returns-in-Err-clause-err c =
    ap world_of c.in-Err.ensures.err ∙ room (goal.at.returns-in-Err-clause-err c).In_ok-client_room
