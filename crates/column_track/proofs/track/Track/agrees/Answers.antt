use Rattle.std.proofs.Common.{subst}
use Rattle.col_core.specs.Computed.{dated}
use Rattle.col_core.specs.Legal.{IsColumnHistory}
use Rattle.column_track.specs.Tracks.{Tracked}
use Rattle.column_track.proofs.track.Track.agrees.Goals as goal

pub returns : goal.returns
returns c = subst (λ (t : Tracked). IsColumnHistory t.region t.regions (dated t.region t.journal)) c.self.view_is c.agrees.ensures.lawful
