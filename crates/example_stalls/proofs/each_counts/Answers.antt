use Rattle.std.proofs.lemmas.List.Elements.{All-set}
use Rattle.example_stalls.specs.Stalls.{IsStall}
use Rattle.example_stalls.proofs.each_counts.Goals as goal

pub returns-in_err-one_counts : goal.returns-in_err-one_counts
returns-in_err-one_counts g c =
    All-set (IsStall c.args.store.now) c.loop-place.stalls c.loop-place.place c.one_counts.new.stall c.one_counts.ensures
    c.loop-place.invariant

pub loop-place-preserved : goal.loop-place-preserved
loop-place-preserved g c =
    All-set (IsStall c.args.store.now) c.loop-place.stalls c.loop-place.place c.one_counts.new.stall c.one_counts.ensures
    c.loop-place.invariant
