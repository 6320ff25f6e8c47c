use Rattle.std.proofs.Common.{◌≡◌, ℕ, List, replicate, ap, sym, subst, ◌∙◌}
use Rattle.skeen_core.specs.Boards.{Board, empty_board}
use Rattle.column.specs.Columns.{ColumnState}
use Rattle.world_code.specs.Clients.{ClientView, fresh_client}
use Rattle.world_code.specs.WorldView.{WorldView, world_of, IsWhole}
use Rattle.world_code.proofs.FirstWorld.{fresh_world, fresh_is_opened, fresh_whole}
use Rattle.world_code.proofs.world.World.open.Goals as goal

abbrev made : goal.In_ok-board → WorldView
made c = record {
  shape = c.args.shape;
  clients = c.in_ok-clients.clients.items;
  board = c.in_ok-board.board;
  columns = c.in_ok-regions.regions.items;
}

is_fresh : (c : goal.In_ok-board) → made c ≡ fresh_world c.args.shape
is_fresh c =
    ap (λ (l : List ClientView). let k : WorldView =
    record {
      shape = c.args.shape;
      clients = l;
      board = c.in_ok-board.board;
      columns = c.in_ok-regions.regions.items;
    } in k)
    (c.in_ok-clients.ensures ∙ ap (λ (n : ℕ). replicate n fresh_client) c.len-count.ensures)
    ∙ (ap (λ (b : Board). record (fresh_world c.args.shape) { board = b; columns = c.in_ok-regions.regions.items })
    (c.in_ok-board.ensures
    ∙ ap (λ (n : ℕ). empty_board n c.args.shape.colours c.args.shape.rows) c.len-count.ensures)
    ∙ ap (λ (l : List (List ColumnState)). record (fresh_world c.args.shape) { columns = l }) c.in_ok-regions.ensures)

pub invariant_of-result : goal.invariant_of-result
invariant_of-result c =
    subst IsWhole (sym (is_fresh c)) (fresh_whole c.args.shape c.requires.regions c.requires.colours c.requires.homes)

pub returns : goal.returns
returns c = ap world_of (is_fresh c) ∙ fresh_is_opened c.args.shape
