use Rattle.std.proofs.Common.{List, length, ap, sym, subst, arith, ◌<◌}
use Rattle.world_code.specs.Clients.{ClientView}
use Rattle.world_code.specs.WorldView.{WorldView, IsWhole}
use Rattle.world_code.proofs.SingleCalls.{room_list, room_whole}
use Rattle.world_code.proofs.world.World.client_room.Goals as goal

pub invariant_of-self-2 : goal.invariant_of-self-2
invariant_of-self-2 c =
    let i = c.self.inside in
    let old : WorldView =
    record { shape = i.shape; clients = i.clients.items; board = i.board; columns = i.regions.items } in
    let w = c.self.invariant in
    let n = w.clients in
    let homes = ap (λ (k : WorldView). length k.shape.homes) c.self.view_is in
    let lt = c.requires in
    let there : c.args.client < length old.clients = omega (arith, n, homes, lt) in
    subst (λ (cs : List ClientView). IsWhole (record old { clients = cs }))
    (sym (room_list old c.args.client there c.index_mut.result.now c.room.new.self c.index_mut.ensures.value
    c.in_ok-room.ensures.ok))
    (room_whole old c.args.client w there)
