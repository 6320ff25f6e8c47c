use Rattle.std.proofs.Common.{◌<◌, ℕ, ap, sym, subst, ◌∙◌, max}
use Rattle.std.specs.Prelude.{◌==◌}
use Rattle.log_node.specs.declared.node.Node.{Node}
use Rattle.col_core.specs.History.{clock, last_stamp}
use Rattle.column.specs.Columns.{ColumnState}
use Rattle.world_laws.specs.Worlds.{row_history}
use Rattle.world_code.specs.WorldView.{WorldView, column_at, world_of, IsWhole}
use Rattle.world_code.proofs.MayMark.{its_node}
use Rattle.world_code.proofs.MarkSteps.{client_there, home_there, colour_there, its_row}
use Rattle.world_code.proofs.world.World.is_row_at_end.Goals as goal

pub home-home-requires : goal.home-home-requires
home-home-requires c =
    let now : WorldView = c.args.self.now in
    let w = subst IsWhole c.self.view_is c.self.invariant in
    let row = c.args.row in
    let colour = c.args.colour in
    let may = c.requires in
    let b = its_row now w row colour may in
    client_there now w row b

pub column-requires-clause-region : goal.column-requires-clause-region
column-requires-clause-region c =
    let now : WorldView = c.args.self.now in
    let w = subst IsWhole c.self.view_is c.self.invariant in
    let row = c.args.row in
    let colour = c.args.colour in
    let may = c.requires in
    let b = its_row now w row colour may in
    subst (λ (h : ℕ). h < now.shape.regions) (sym c.home-home.ensures) (home_there now w row b)

pub column-requires-clause-colour : goal.column-requires-clause-colour
column-requires-clause-colour c =
    let now : WorldView = c.args.self.now in
    let w = subst IsWhole c.self.view_is c.self.invariant in
    let row = c.args.row in
    let colour = c.args.colour in
    let may = c.requires in
    let b = its_row now w row colour may in
    colour_there now w row colour may

pub returns : goal.returns
returns c =
    let now : WorldView = c.args.self.now in
    let w = subst IsWhole c.self.view_is c.self.invariant in
    let row = c.args.row in
    let colour = c.args.colour in
    let may = c.requires in
    let b = its_row now w row colour may in
    let some = c.in-Some.ensures.some in
    let clock_is = c.clock-clock.ensures
    ∙ (ap (λ (q : ColumnState). clock q.journal) c.column.ensures
    ∙ ap (λ (h : ℕ). clock (column_at now.columns h colour).journal) c.home-home.ensures) in
    let floor_is = ap (λ (n : Node). n.floor)
    (c.deref.ensures ∙ sym (its_node now w row colour c.in-Some.node.now.value some.0 some.1)) in
    c.is_at_end.ensures
    ∙ (ap (λ (k : ℕ). max k c.deref.result.now.floor == last_stamp) clock_is
    ∙ ap (λ (f : ℕ). max (clock (row_history (world_of now) row colour)) f == last_stamp) floor_is)
