use Rattle.std.proofs.Common.{ℕ, ◌<◌, length, sym, subst, ap, ◌∙◌}
use Rattle.std.specs.Prelude.{slice_index_or}
use Rattle.log_node.specs.Vectors.{zeros}
use Rattle.log_node.specs.declared.ids.Counts.{Counts}
use Rattle.column.specs.Columns.{ColumnState}
use Rattle.column.specs.Views.{IsView}
use Rattle.world_laws.specs.Worlds.{home_of}
use Rattle.world_code.specs.Clients.{ClientView}
use Rattle.world_code.specs.WorldView.{IsWhole, world_of, column_at}
use Rattle.world_code.proofs.LooksShown.{looked, home_there, played_there}
use Rattle.world_code.proofs.world.World.look.Goals as goal

pub played-played-requires : goal.played-played-requires
played-played-requires c =
    let w = subst IsWhole c.self.view_is c.self.invariant in
    subst (λ (k : ClientView). c.args.colour < length k.played) (sym c.client.ensures)
    (played_there c.args.self.now w c.args.client c.args.colour c.requires.client c.requires.colour)

pub column-requires-clause-region : goal.column-requires-clause-region
column-requires-clause-region c =
    let w = subst IsWhole c.self.view_is c.self.invariant in
    subst (λ (h : ℕ). h < c.args.self.now.shape.regions) (sym c.home-home.ensures)
    (home_there c.args.self.now w c.args.client c.requires.client)

pub returns : goal.returns
returns c =
    let now = c.args.self.now in
    let w = subst IsWhole c.self.view_is c.self.invariant in
    let column_is = c.column.ensures ∙ ap (λ (h : ℕ). column_at now.columns h c.args.colour) c.home-home.ensures in
    let played_is = c.played-played.ensures
    ∙ ap (λ (k : ClientView). slice_index_or k.played c.args.colour zeros) c.client.ensures in
    looked now w c.args.client c.args.colour (home_there now w c.args.client c.requires.client) c.requires.colour
    c.in_ok-view.view
    (subst (λ (v : Counts). IsView (column_at now.columns (home_of (world_of now) c.args.client) c.args.colour) v
    c.in_ok-view.view) played_is
    (subst (λ (q : ColumnState). IsView q c.played-played.result c.in_ok-view.view) column_is c.in_ok-view.ensures))
