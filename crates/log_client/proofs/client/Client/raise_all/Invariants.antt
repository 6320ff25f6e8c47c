use Rattle.std.proofs.Common.{◌≡◌, ◌++◌}
use Rattle.log_node.specs.Sets.{members}
use Rattle.log_client.specs.Clients.{tracks_of}
use Rattle.log_client.specs.Reading.{RestsOn, RaisesAll, raised_colours}
use Rattle.log_client.proofs.client.Client.raise_all.Given as goal

-- the first colours are raised
abbrev pub invariant-loop-colour : goal.invariant-loop-colour
invariant-loop-colour g l = record {
  rests : RestsOn l.store l.fn.self l.self;
  tracks : tracks_of l.self ≡ tracks_of l.fn.self;
  apart : raised_colours l.raises.items ++ l.colour-iterator ≡ members l.fn.colours;
  all : RaisesAll l.store l.fn.self l.self l.stamp l.raises.items;
}
