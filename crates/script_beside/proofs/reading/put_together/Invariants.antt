use Rattle.std.proofs.Common.{length, take}
use Rattle.script_beside.specs.Parts.{bytes_of}
use Rattle.script_beside.proofs.PartLemmas.{Gathers}
use Rattle.script_beside.proofs.reading.put_together.Given as goal

-- the parts so far are in the shares
abbrev pub invariant-loop-part : goal.invariant-loop-part
invariant-loop-part l =
    Gathers l.parted.header.now l.parted.script (bytes_of (take (length l.yielded) l.parted.cuts.items)) l.stops l.begins.items l.shares.items
