use Rattle.std.proofs.Common.{◌≡◌, take}
use Rattle.lawful_run.specs.Reads.{greatest_stamp}
use Rattle.log_client.proofs.syncs.greatest_stamp.Given as goal

-- the greatest stamp so far
abbrev pub invariant-loop-node : goal.invariant-loop-node
invariant-loop-node l = l.most ≡ greatest_stamp (take l.node-index l.nodes)
