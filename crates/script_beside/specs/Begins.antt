-- Which commands may begin a row, and how many of each client's may.
use Rattle.std.specs.Prelude.{◌≡◌, ◌⊎◌, Bool, true, false, ℕ, ◌+◌, ◌<◌, ◌≤◌, ◌==◌, nat_lt, List, length, slice_index}
use Rattle.std.specs.List.{All, Contains, count_by, filter}
use Rattle.log_node.specs.Sets.{members}
use Rattle.script_text.specs.declared.commands.What.{What}
use Rattle.script_text.specs.declared.script.Command.{Command}
use Rattle.script_text.specs.declared.uses.NodeOf.{NodeOf}
use Rattle.script_text.specs.declared.uses.NodeOf.TheVariants.{NoNode, OneColour, Named, Several}
use Rattle.script_text.specs.Commands.{node_of}

-- Whether the append of a node may begin a row: an append to several colours does. A node that may have several is taken to
-- be among them, since only its object's colours tell.
abbrev pub node_begins : NodeOf → Bool
node_begins NoNode = false
node_begins OneColour = false
node_begins (Named colours) = nat_lt 1 (length (members colours))
node_begins Several = true

-- whether a command may begin a row
abbrev pub may_take_row : What → Bool
may_take_row what = node_begins (node_of what)

-- how many of the commands may begin a row
abbrev pub begins_in : List Command → ℕ
begins_in commands = count_by (λ (c : Command). may_take_row c.what) commands

-- the client's own of the commands, in their order
abbrev pub own : ℕ → List Command → List Command
own n commands = filter (λ (c : Command). c.client == n) commands

-- of each of so many clients, how many of its commands may begin a row
pub record AreBegun (clients : ℕ) (commands : List Command) (counts : List ℕ) : Type 0 where
  pub many : length counts ≡ clients
  pub each : (n : ℕ) → n < length counts → slice_index counts n ≡ begins_in (own n commands)

-- each count has the one of its number added to it, for as many as there are
pub record AreAdded (more before after : List ℕ) : Type 0 where
  pub many : length after ≡ length before
  pub each : (n : ℕ) → n < length more → slice_index after n ≡ slice_index before n + slice_index more n
  pub others : (n : ℕ) → length more ≤ n → slice_index after n ≡ slice_index before n

-- none of the counts is greater, and it is one of them, or 0
pub record IsGreatest (counts : List ℕ) (most : ℕ) : Type 0 where
  pub none_more : All (λ n. n ≤ most) counts
  pub one : (most ≡ 0) ⊎ Contains counts most

-- The most rows that a client may begin: none of so many clients has more commands that may begin one, and one of them has
-- so many.
pub record IsMost (clients : ℕ) (commands : List Command) (most : ℕ) : Type 0 where
  pub none_more : (n : ℕ) → n < clients → begins_in (own n commands) ≤ most
  pub one : (most ≡ 0) ⊎ ((n : ℕ) × (n < clients) × (begins_in (own n commands) ≡ most))
