use Rattle.std.proofs.Common.{◌≡◌, ◌≤◌, drop}
use Rattle.std.specs.VecDeque.{deque_len, deque_capacity}
use Rattle.chain_store.proofs.read_view.shown.Chain.drop_front.Given as goal

-- so many are dropped, and the room grows
abbrev pub invariant-loop : goal.invariant-loop
invariant-loop l =
    (l.self-inside.items.items ≡ drop l.counter l.initial.self-inside.items.items)
    × (deque_len l.self-inside.items ≤ deque_len l.initial.self-inside.items)
    × (deque_capacity l.self-inside.items ≡ deque_capacity l.initial.self-inside.items)
