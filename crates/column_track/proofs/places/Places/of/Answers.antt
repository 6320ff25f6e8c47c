use Rattle.std.proofs.Common.{◌∙◌}
use Rattle.column_track.proofs.PlaceLemmas.{found}
use Rattle.column_track.proofs.places.Places.of.Goals as goal

pub returns : goal.returns
returns c = c.copied.ensures ∙ c.get.ensures.value ∙ found c.args.id c.args.self.now.by_id.entries
