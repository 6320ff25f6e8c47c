use Rattle.std.proofs.Common.{◌∙◌, ap, sym, ℕ, length}
use Rattle.col_core.specs.History.{line}
use Rattle.column.specs.Columns.{ColumnState}
use Rattle.world_laws.specs.Laws.{OneFinalStamp}
use Rattle.world_laws.specs.Worlds.{home_of}
use Rattle.world_laws.proofs.CallerLemmas.{of_reached}
use Rattle.world_code.specs.WorldView.{world_of, column_at}
use Rattle.std.specs.List.{position}
use Rattle.log_node.specs.Order.{same_key}
use Rattle.script_in_order.proofs.FinalPlaces.{found_at, none_at}
use Rattle.script_in_order.proofs.points.position.Goals as goal

pub returns-in-Some : goal.returns-in-Some
returns-in-Some c =
    let w = world_of c.args.world.now in
    let home = home_of w c.args.client in
    let is = c.column-column.ensures ∙ ap (λ (r : ℕ). column_at c.args.world.now.columns r c.args.colour)
    c.home.ensures.home in
    found_at w (of_reached OneFinalStamp c.one_outcome.ensures.stamps w c.agrees.ensures) home c.args.colour c.args.key
    c.requires.stamped
    c.in-Some.position
    (ap (λ (x : ColumnState). position (λ k. same_key k c.args.key) (line x.journal)) (sym is) ∙ sym c.in-Some.ensures)

pub returns-in-None : goal.returns-in-None
returns-in-None c =
    let w = world_of c.args.world.now in
    let home = home_of w c.args.client in
    let is = c.column-column.ensures ∙ ap (λ (r : ℕ). column_at c.args.world.now.columns r c.args.colour)
    c.home.ensures.home in
    ap length (c.line.ensures ∙ ap (λ (x : ColumnState). line x.journal) is)
    ∙ none_at w (of_reached OneFinalStamp c.one_outcome.ensures.stamps w c.agrees.ensures) home c.args.colour c.args.key
    c.requires.stamped
    (ap (λ (x : ColumnState). position (λ k. same_key k c.args.key) (line x.journal)) (sym is) ∙ sym c.in-None.ensures)
