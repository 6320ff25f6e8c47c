-- A client that has forgotten what it played.
use Rattle.std.specs.Prelude.{◌≡◌, length}
use Rattle.log_client.specs.declared.client.Client.{Client}
use Rattle.log_client.specs.Clients.{tracks_of}
use Rattle.log_client.specs.Opening.{AreFreshTracks}

-- d is c, but that nothing is played on any of its tracks
pub record HasForgotten (c d : Client) : Type 0 where
  pub rest : d ≡ record c { tracks = d.tracks }
  pub tracks : AreFreshTracks c.region (length (tracks_of c)) (tracks_of d)
