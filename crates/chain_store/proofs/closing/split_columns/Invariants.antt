use Rattle.std.proofs.Common.{◌≡◌, map}
use Rattle.chain_store.specs.declared.seated.Seated.{Seated}
use Rattle.chain_store.proofs.closing.split_columns.Given as goal

-- the columns, their rings and the seats so far
abbrev pub invariant-loop-seated : goal.invariant-loop-seated
invariant-loop-seated l = record {
  columns : l.columns.items ≡ map (λ (s : Seated). s.column) l.yielded;
  rings : l.ends.items ≡ map (λ (s : Seated). s.rings) l.yielded;
  seats : l.seats.items ≡ map (λ (s : Seated). s.seat) l.yielded;
}
