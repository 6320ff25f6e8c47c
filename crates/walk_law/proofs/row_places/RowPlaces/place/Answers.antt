use Rattle.std.proofs.Common.{◌∙◌}
use Rattle.walk_law.proofs.RowPlaceLemmas.{place_found}
use Rattle.walk_law.proofs.row_places.RowPlaces.place.Goals as goal

pub returns : goal.returns
returns c =
    c.copied.ensures
    ∙ (c.get.ensures.value
    ∙ place_found (record { region = c.args.region; id = c.args.id }) c.args.self.now.by_row.entries)
