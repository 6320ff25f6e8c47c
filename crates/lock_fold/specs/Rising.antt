-- Fencing tokens: they rise as stamps do.
use Rattle.std.specs.Prelude.{ℕ, ◌<◌, List, [], ◌∷◌, map}
use Rattle.object_fold.specs.Nodes.{ObjectNode}
use Rattle.lock_fold.specs.declared.lock.Ticket.{Ticket}
use Rattle.lock_fold.specs.Tickets.{tickets_after}

-- the number is below each of these
abbrev pub IsBelowAll : ℕ → List ℕ → Type 0
IsBelowAll x [] = Unit {0}
IsBelowAll x (y ∷ ys) = (x < y) × IsBelowAll x ys

-- each number is below those behind it
abbrev pub Rise : List ℕ → Type 0
Rise [] = Unit {0}
Rise (x ∷ xs) = IsBelowAll x xs × Rise xs

-- the stamps of nodes
abbrev pub stamps : List ObjectNode → List ℕ
stamps nodes = map (λ (n : ObjectNode). n.key.stamp) nodes

-- the tokens of those who wait
abbrev pub tokens : List Ticket → List ℕ
tokens waiting = map (λ (t : Ticket). t.token) waiting

-- where the stamps of nodes rise, the tokens of those who wait rise, so each later holder has a greater one
abbrev pub TokensRise : Type 0
TokensRise = (nodes : List ObjectNode) → Rise (stamps nodes) → Rise (tokens (tickets_after nodes))
