use Rattle.std.proofs.Common.{◌≡◌, ◌<◌, ℕ, [], true, length, ap, sym, subst, ◌∙◌}
use Rattle.log_node.specs.declared.ids.Row.{Row}
use Rattle.log_node.specs.declared.node.Node.{Node}
use Rattle.world_laws.specs.Worlds.{may_begin, home_of, next_row}
use Rattle.world_code.specs.Clients.{ClientView, fresh_client, next_begun}
use Rattle.world_code.specs.WorldView.{client_at, world_of, IsWhole}
use Rattle.world_code.proofs.BeginSteps.{may_begin_is, in_clients}
use Rattle.world_code.proofs.world.World.begin_node.Goals as goal

pub home-home-requires : goal.home-home-requires
home-home-requires c = (may_begin_is c.args.self.now c.args.client c.args.colours c.requires.may).is_client

pub row_to_begin-row-requires-clause-client : goal.row_to_begin-row-requires-clause-client
row_to_begin-row-requires-clause-client c =
    (may_begin_is c.args.self.now c.args.client c.args.colours c.requires.may).is_client

pub row_to_begin-row-requires-clause-row : goal.row_to_begin-row-requires-clause-row
row_to_begin-row-requires-clause-row c =
    (may_begin_is c.args.self.now c.args.client c.args.colours c.requires.may).has_row

pub client-requires : goal.client-requires
client-requires c = (may_begin_is c.args.self.now c.args.client c.args.colours c.requires.may).is_client

pub begun_node-requires-clause-played : goal.begun_node-requires-clause-played
begun_node-requires-clause-played c =
    let w = subst IsWhole c.self.view_is c.self.invariant in
    ap (λ (k : ClientView). length k.played) c.client.ensures
    ∙ w.colours c.args.client fresh_client (in_clients c.args.self.now w c.args.client c.args.colours []
    (may_begin_is c.args.self.now c.args.client c.args.colours c.requires.may))

pub begun_node-requires-clause-row : goal.begun_node-requires-clause-row
begun_node-requires-clause-row c =
    ap (λ (r : Row). r.number) c.row_to_begin-row.ensures
    ∙ sym (ap (λ (k : ClientView). length k.begun) c.client.ensures)

pub add_begin-requires-clause-may : goal.add_begin-requires-clause-may
add_begin-requires-clause-may c =
    subst (λ (r : Row). may_begin (world_of c.args.self.now) r.client c.args.colours ≡ true)
    (sym c.row_to_begin-row.ensures) c.requires.may

pub add_begin-requires-clause-row : goal.add_begin-requires-clause-row
add_begin-requires-clause-row c =
    c.row_to_begin-row.ensures
    ∙ ap (λ (r : Row). next_row (world_of c.args.self.now) r.client) (sym c.row_to_begin-row.ensures)

pub add_begin-requires-clause-node : goal.add_begin-requires-clause-node
add_begin-requires-clause-node c =
    let now = c.args.self.now in
    let row = c.row_to_begin-row.result in
    let mine = sym (ap (λ (r : Row). r.client) c.row_to_begin-row.ensures) in
    let text = ap (λ (n : Node). n.text) (c.in_ok-node-2.ensures.ok ∙ c.in_ok-node.ensures) in
    c.in_ok-node-2.ensures.ok
    ∙ (c.in_ok-node.ensures
    ∙ (ap (λ (k : ClientView). next_begun k row.client c.home-home.result c.args.colours c.args.text) c.client.ensures
    ∙ (ap (λ (a : ℕ). next_begun (client_at now a) row.client c.home-home.result c.args.colours c.args.text) mine
    ∙ (ap (λ (h : ℕ). next_begun (client_at now row.client) row.client h c.args.colours c.args.text)
    (c.home-home.ensures ∙ ap (home_of (world_of now)) mine)
    ∙ ap (next_begun (client_at now row.client) row.client (home_of (world_of now) row.client) c.args.colours)
    (sym text)))))

pub add_begin-requires-clause-room : goal.add_begin-requires-clause-room
add_begin-requires-clause-room c =
    subst (λ (r : Row). 0 < (client_at c.args.self.now r.client).spare) (sym c.row_to_begin-row.ensures) c.requires.room
