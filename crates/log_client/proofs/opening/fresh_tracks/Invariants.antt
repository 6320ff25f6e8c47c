use Rattle.log_client.specs.Opening.{AreFreshTracks}
use Rattle.log_client.proofs.opening.fresh_tracks.Given as goal

-- so many fresh tracks
abbrev pub invariant-loop-colour : goal.invariant-loop-colour
invariant-loop-colour l = AreFreshTracks l.region l.colour l.tracks.items
