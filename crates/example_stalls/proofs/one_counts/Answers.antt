use Rattle.std.proofs.Common.{subst, sym}
use Rattle.example_stalls.specs.Stalls.{IsStall}
use Rattle.example_stalls.proofs.one_counts.Goals.{then-fetches+in_ok-fetch, else-fetches}
use Rattle.example_stalls.proofs.one_counts.Goals as goal

pub say_totals-requires-clause-stall : goal.say_totals-requires-clause-stall
say_totals-requires-clause-stall g c =
    elim c.if-fetches.branch [
      | then-fetches+in_ok-fetch w ↦ subst (IsStall c.args.store.now) (sym w.stall-is) w.fetch.ensures
      | else-fetches w ↦ subst (IsStall c.args.store.now) (sym w.stall-is) c.requires.stall
    ]
