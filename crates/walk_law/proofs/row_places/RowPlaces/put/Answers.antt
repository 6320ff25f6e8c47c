use Rattle.walk_law.proofs.RowPlaceLemmas.{one_place}
use Rattle.walk_law.proofs.row_places.RowPlaces.put.Goals as goal

pub returns : goal.returns
returns c = one_place c.args.self.now (record { by_row = c.insert.new.self }) (record { region = c.args.region; id = c.args.id })
    c.args.place c.in_ok-insert.ensures.updates.0
