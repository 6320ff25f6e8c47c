use Rattle.std.proofs.Common.{◌≡◌, map}
use Rattle.chain_store.specs.declared.hold.Hold.{Hold}
use Rattle.chain_store.proofs.closing.split_holds.Given as goal

-- the passes and the seats so far
abbrev pub invariant-loop-hold : goal.invariant-loop-hold
invariant-loop-hold l = record {
  passes : l.passes.items ≡ map (λ (h : Hold). h.passes) l.yielded;
  seats : l.seats.items ≡ map (λ (h : Hold). h.seat) l.yielded;
}
