use Rattle.std.proofs.Common.{◌<◌, ℕ, List, [], length, ap, sym, subst, ◌∙◌, arith}
use Rattle.std.specs.Prelude.{nat_le}
use Rattle.std.specs.List.{list_any}
use Rattle.std.proofs.lemmas.Option.{get_or_from_slice_get}
use Rattle.col_core.specs.History.{clock}
use Rattle.column.specs.Columns.{ColumnState}
use Rattle.world_laws.specs.Worlds.{may_see}
use Rattle.world_code.specs.Clients.{ClientView}
use Rattle.world_code.specs.WorldView.{WorldView, client_at, world_of}
use Rattle.world_code.proofs.RaiseSteps.{default_free}
use Rattle.world_code.proofs.ClientSteps.{home_is, may_see_is}
use Rattle.world_code.proofs.world.World.may_see.Goals as goal

pub returns-then-floor-to : goal.returns-then-floor-to
returns-then-floor-to c =
    let i = c.self.inside in
    let client = c.args.client in
    let to = c.args.to in
    let old : WorldView = record {
      shape = i.shape;
      clients = i.clients.items;
      board = i.board;
      columns = i.regions.items;
    } in
    let w = c.self.invariant in
    let home = c.in-Some.home.now in
    let is = sym c.in-Some.ensures in
    let lt = (home_is old client home is).1 in
    let in_range = subst (λ (n : ℕ). n < old.shape.regions) (get_or_from_slice_get old.shape.homes client home 0 is)
    (w.homes client 0 lt) in
    let floor = c.floor.ensures
    ∙ ap (λ (x : ClientView). x.floor)
    (c.client.ensures ∙ sym (ap (λ (k : WorldView). client_at k client) c.self.view_is)) in
    let above = subst (λ (n : ℕ). n < to) floor c.if-floor-to.true in
    let n = w.regions in
    let there : home < length old.columns = omega (arith, n, in_range) in
    let row = c.index.ensures ∙ default_free old.columns home c.index.result.now [] there in
    c.reaches.ensures
    ∙ (ap (λ (l : List ColumnState). list_any (λ (column : ColumnState). nat_le to (clock column.journal)) l) row
    ∙ (sym (may_see_is old client home to w is in_range above)
    ∙ ap (λ (k : WorldView). may_see (world_of k) client to) c.self.view_is))
