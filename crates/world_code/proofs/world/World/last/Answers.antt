use Rattle.std.proofs.Common.{◌≡◌, true, sym, subst}
use Rattle.world_laws.specs.Laws.{IsBounded}
use Rattle.world_laws.specs.Worlds.{is_begun}
use Rattle.world_laws.proofs.CallerLemmas.{of_reached}
use Rattle.world_code.specs.WorldView.{WorldView, world_of}
use Rattle.world_code.proofs.ChangedRows.{begun_is}
use Rattle.world_code.proofs.DecideSteps.{row_is}
use Rattle.world_code.proofs.world.World.last.Goals as goal

pub last-requires : goal.last-requires
last-requires c =
    let i = c.self.inside in
    let old : WorldView =
    record { shape = i.shape; clients = i.clients.items; board = i.board; columns = i.regions.items } in
    let w = c.self.invariant in
    let row = c.args.row in
    let begun = begun_is old w row
    (subst (λ (k : WorldView). is_begun (world_of k) row ≡ true) (sym c.self.view_is) c.requires) in
    row_is old w row begun (of_reached IsBounded c.is_lawful.ensures.bounds (world_of old) w.reached)
