-- The lock: which tickets wait after nodes in order, and what an ask is told.
use Rattle.std.specs.Prelude.{◌≡◌, ◌==◌, ◌++◌, ◌∷◌, ℕ, List, [], Option, Some, None, not, filter, if◌then◌else◌, length, codes}
use Rattle.std.specs.List.{fold}
use Rattle.std.specs.Str.{bytes_eq}
use Rattle.object_fold.specs.Nodes.{ObjectNode}
use Rattle.lock_fold.specs.declared.lock.Lock.{Lock}
use Rattle.lock_fold.specs.declared.lock.Ticket.{Ticket}

-- the ticket of a node that asks
abbrev pub ticket_of : ObjectNode → Ticket
ticket_of node = record { client = node.key.id.client; token = node.key.stamp }

-- the tickets of others than this client
abbrev pub without : ℕ → List Ticket → List Ticket
without client waiting = filter (λ (t : Ticket). not (t.client == client)) waiting

-- the tickets after one node more
abbrev pub tickets_with : List Ticket → ObjectNode → List Ticket
tickets_with waiting node =
    if bytes_eq node.text (codes "ask") then waiting ++ ticket_of node ∷ []
    else if bytes_eq node.text (codes "leave") then without node.key.id.client waiting
    else waiting

-- the tickets after nodes, the first of them first: its first one holds the lock
abbrev pub tickets_after : List ObjectNode → List Ticket
tickets_after nodes = fold tickets_with [] nodes

-- what a node behind these is told: one that asks, how many tickets are before its own
abbrev pub told_behind : List ObjectNode → ObjectNode → Option ℕ
told_behind nodes node = if bytes_eq node.text (codes "ask") then Some (length (tickets_after nodes)) else None

-- the lock has the tickets that these nodes leave
abbrev pub HasTickets : Lock → List ObjectNode → Type 0
HasTickets lock nodes = lock.waiting.items ≡ tickets_after nodes
