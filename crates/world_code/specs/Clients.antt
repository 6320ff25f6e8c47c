-- What contracts see of a client.
use Rattle.std.specs.Prelude.{ℕ, ◌+◌, ◌-◌, max, List, [], ◌∷◌, ◌++◌, None, Some, replicate, map, length}
use Rattle.std.specs.Prelude.{slice_index_or}
use Rattle.log_node.specs.declared.ids.Colours.{Colours}
use Rattle.log_node.specs.declared.ids.Counts.{Counts}
use Rattle.log_node.specs.declared.limits.TheConstants.{MAX_COLOURS}
use Rattle.log_node.specs.Sets.{members, set_of}
use Rattle.log_node.specs.declared.node.Node.{Node}
use Rattle.log_node.specs.Vectors.{zeros}

-- how many ids it has used, the greatest stamp that it has seen, by colour the cut of its last play, its nodes, those
-- among them that it began rows for, and for how many more there is memory
pub record ClientView : Type 0 where
  pub count : ℕ
  pub floor : ℕ
  pub played : List Counts
  pub nodes : List Node
  pub begun : List Node
  pub spare : ℕ

-- nothing used, seen or played
abbrev pub fresh_client : ClientView
fresh_client = record { count = 0; floor = 0; played = replicate MAX_COLOURS zeros; nodes = []; begun = []; spare = 0 }

-- with memory for one node more
abbrev pub with_spare : ClientView → ClientView
with_spare c = record c { spare = max 1 c.spare }

-- its next node entered under a stamp
abbrev pub with_next_node : ClientView → Node → ℕ → ClientView
with_next_node c node stamp = record c {
  count = c.count + 1;
  floor = stamp;
  nodes = c.nodes ++ node ∷ [];
  spare = c.spare - 1;
}

-- it began its next row, for its next node
abbrev pub with_next_row : ClientView → Node → ClientView
with_next_row c node = record c {
  count = c.count + 1;
  nodes = c.nodes ++ node ∷ [];
  begun = c.begun ++ node ∷ [];
  spare = c.spare - 1;
}

-- what it has played of these colours
abbrev pub played_of : ClientView → List ℕ → List Counts
played_of c colours = map (λ colour. slice_index_or c.played colour zeros) colours

-- the node of its next append to several colours
abbrev pub next_begun : ClientView → ℕ → ℕ → Colours → List ℕ → Node
next_begun c client home colours text = record {
  id = record { client = client; count = c.count };
  region = home;
  colours = colours;
  text = text;
  floor = c.floor;
  wants = played_of c (members colours);
  row = Some (record { client = client; number = length c.begun });
}

-- the node of its next append to one colour
abbrev pub next_single : ClientView → ℕ → ℕ → ℕ → List ℕ → Node
next_single c client home colour text = record {
  id = record { client = client; count = c.count };
  region = home;
  colours = set_of (colour ∷ []);
  text = text;
  floor = c.floor;
  wants = slice_index_or c.played colour zeros ∷ [];
  row = None;
}
