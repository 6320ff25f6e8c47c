use Rattle.std.proofs.Common.{◌≡◌, ◌≤◌}
use Rattle.log_node.specs.declared.limits.TheConstants.{MAX_STAMP}
use Rattle.log_node.specs.Sets.{members}
use Rattle.log_client.specs.Clients.{tracks_of}
use Rattle.log_client.specs.Reading.{RestsOn, KeepsAll}
use Rattle.log_client.proofs.Read.ReadStamps.{LookedFirst}
use Rattle.log_client.proofs.client.Client.read_stamp.Given as goal

-- the stamp over the first colours
abbrev pub invariant-loop-colour : goal.invariant-loop-colour
invariant-loop-colour g l = record {
  rests : RestsOn l.store l.fn.self l.self;
  tracks : tracks_of l.self ≡ tracks_of l.fn.self;
  keeps : KeepsAll l.store l.fn.self l.self;
  floor : l.fn.self.floor ≤ l.stamp;
  in_range : l.stamp ≤ MAX_STAMP;
  first : LookedFirst l.fn.self l.self l.colour-iterator (members l.fn.colours) l.stamp;
}
