use Rattle.log_node.specs.Sets.{members}
use Rattle.log_client.specs.Reading.{RestsOn}
use Rattle.log_client.proofs.Sync.SyncAnswers.{AnsweredFirst}
use Rattle.log_client.proofs.Sync.SyncingAll.{SyncedFirst}
use Rattle.log_client.proofs.client.Client.sync_all.Given as goal

-- the first colours are synced
abbrev pub invariant-loop-colour : goal.invariant-loop-colour
invariant-loop-colour g l = record {
  rests : RestsOn l.store l.fn.self l.self;
  answered : AnsweredFirst l.fn.self l.self l.syncs.items;
  first : SyncedFirst l.store l.fn.self l.self l.colour-iterator (members l.fn.colours) l.syncs.items;
}
