use Rattle.std.proofs.Common.{◌≡◌, ℕ, ◌<◌, length, Some}
use Rattle.std.specs.Prelude.{slice_get}
use Rattle.log_client.specs.declared.track.Track.{Track}
use Rattle.log_client.specs.Clients.{tracks_of}
use Rattle.log_client.specs.Opening.{fresh_track}
use Rattle.log_client.proofs.client.Client.forget_played.Given as goal

-- the first tracks are fresh, and all else is as it was
abbrev pub invariant-loop-colour : goal.invariant-loop-colour
invariant-loop-colour l = record {
  rest : l.self ≡ record l.initial.self { tracks = l.self.tracks };
  many : length (tracks_of l.self) ≡ length (tracks_of l.initial.self);
  fresh : (k : ℕ) (track : Track) → k < l.colour → slice_get (tracks_of l.self) k ≡ Some track
      → track ≡ fresh_track l.initial.self.region k;
}
