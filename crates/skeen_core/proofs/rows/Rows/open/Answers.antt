use Rattle.std.proofs.Common.{◌≡◌, [], List, ap, ◌∙◌, arith}
use Rattle.std.specs.Prelude.{replicate}
use Rattle.skeen_core.specs.Boards.{BoardRow}
use Rattle.skeen_core.specs.Boards.{Board, RowsOfClient}
use Rattle.skeen_core.proofs.Clients.{board_of, map-replicate}
use Rattle.skeen_core.proofs.rows.Rows.open.Goals as goal

pub returns : goal.returns
returns c =
    let client : RowsOfClient = record { begun = []; colours = c.args.colours; rows = c.args.rows } in
    let all : c.loop.counter ≡ c.args.clients = omega arith in
    ap (board_of c.args.colours c.args.rows) (c.loop.invariant ∙ ap (λ n. replicate n client) all)
    ∙ ap (λ (bs : List (List BoardRow)). let b : Board = record
    { colours = c.args.colours; rows = c.args.rows; begun = bs } in b) (map-replicate c.args.clients client)
