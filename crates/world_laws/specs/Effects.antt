-- What each step makes of the world, where it may be done.
use Rattle.std.specs.Prelude.{ℕ, ◌+◌, max, List, [], ◌∷◌, ◌++◌, Some, None, map, take, drop}
use Rattle.log_node.specs.declared.ids.Row.{Row}
use Rattle.log_node.specs.declared.ids.Colours.{Colours}
use Rattle.log_node.specs.declared.ids.Counts.{Counts}
use Rattle.log_node.specs.declared.node.Head.{Head}
use Rattle.log_node.specs.declared.node.Node.{Node}
use Rattle.log_node.specs.Sets.{members, set_of}
use Rattle.log_node.specs.declared.marks.Mark.{Mark}
use Rattle.log_node.specs.declared.marks.Mark.TheVariants as marks
use Rattle.log_node.specs.declared.marks.Outcome.TheVariants.{Open}
use Rattle.log_node.specs.Outcomes.{outcome_of}
use Rattle.col_core.specs.declared.Event.TheVariants as events
use Rattle.col_core.specs.declared.Entry.{Entry}
use Rattle.col_core.specs.History.{next_stamp}
use Rattle.col_core.specs.PlayOrder.{greatest_between}
use Rattle.col_core.specs.Rows.{node_wants}
use Rattle.col_core.specs.Keeping.{updated, updated_at}
use Rattle.world_laws.specs.States.{ClientState, RowState, World, home_of, home_history, row_of, row_history}
use Rattle.world_laws.specs.States.{marks_of, chains_after, cut_after, held_of, next_id, next_row}

-- with this in the place of a client
abbrev pub with_client : World → ℕ → ClientState → World
with_client w client c = record w { clients = updated w.clients client c }

-- with this in the place of a row
abbrev pub with_row : World → Row → RowState → World
with_row w row r = record w { rows = updated_at w.rows row.client row.number r }

-- with one entry more at the end of a column's history
abbrev pub with_last : World → ℕ → ℕ → Entry → World
with_last w region colour e =
    record w { histories = updated_at w.histories region colour (w.histories region colour ++ e ∷ []) }

-- with one node more of a client
abbrev pub with_node : World → ℕ → Node → World
with_node w client node = record w { nodes = updated w.nodes client (w.nodes client ++ node ∷ []) }

-- the row with a colour's mark set
abbrev pub with_mark : World → Row → ℕ → Mark → World
with_mark w row colour mark =
    with_row w row (record (row_of w row) { marks = updated (row_of w row).marks colour mark })

-- the node of an append to several colours
abbrev pub begun_node : World → ℕ → Colours → List ℕ → Node
begun_node w client colours text = record {
  id = next_id w client;
  region = home_of w client;
  colours = colours;
  text = text;
  floor = (w.clients client).floor;
  wants = map (w.clients client).played (members colours);
  row = Some (next_row w client);
}

-- one more id is used, and one more row is begun, for the node
abbrev pub after_begin : World → ℕ → Colours → List ℕ → World
after_begin w client colours text =
    let node = begun_node w client colours text in
    with_node
    (with_row
    (with_client w client (record (w.clients client) {
      count = (w.clients client).count + 1;
      used = (w.clients client).used + 1;
    }))
    (next_row w client) (record { node = node; marks = λ _. marks.None; last = Open }))
    client node

-- the stamp that a column proposes for a row's node: the next one of its clock that is above the node's floor
abbrev pub proposed_stamp : World → Row → ℕ → ℕ
proposed_stamp w row colour = next_stamp (row_history w row colour) (row_of w row).node.floor

-- the event that proposes it
abbrev pub proposed_entry : World → ℕ → Row → ℕ → Entry
proposed_entry w by row colour = record {
  by = by;
  event = events.Propose (row_of w row).node.id (row_of w row).node.floor (node_wants (row_of w row).node colour);
  stamp = proposed_stamp w row colour;
}

-- the node enters its column as open under the next stamp, which is the mark
abbrev pub after_propose : World → ℕ → Row → ℕ → World
after_propose w by row colour =
    with_last (with_mark w row colour (marks.Number (proposed_stamp w row colour))) (home_of w row.client) colour
    (proposed_entry w by row colour)

-- the row is decided with the outcome of its marks
abbrev pub after_decide : World → Row → World
after_decide w row = with_row w row (record (row_of w row) { last = outcome_of (marks_of (row_of w row)) })

-- the event that settles a row's node with the row's outcome
abbrev pub settled_entry : World → ℕ → Row → Entry
settled_entry w by row = record { by = by; event = events.Settle (row_of w row).node.id (row_of w row).last; stamp = 0 }

-- the node is settled in its column with the row's outcome
abbrev pub after_settle : World → ℕ → Row → ℕ → World
after_settle w by row colour = with_last w (home_of w row.client) colour (settled_entry w by row)

-- the node of an append to one colour
abbrev pub single_node : World → ℕ → ℕ → List ℕ → Node
single_node w client colour text = record {
  id = next_id w client;
  region = home_of w client;
  colours = set_of (colour ∷ []);
  text = text;
  floor = (w.clients client).floor;
  wants = (w.clients client).played colour ∷ [];
  row = None;
}

-- the stamp of an append to one colour: the next one of the clock that is above the client's floor
abbrev pub single_stamp : World → ℕ → ℕ → ℕ
single_stamp w client colour = next_stamp (home_history w client colour) (w.clients client).floor

-- the event that enters it
abbrev pub single_entry : World → ℕ → ℕ → Entry
single_entry w client colour = record {
  by = client;
  event = events.Single (next_id w client) (w.clients client).floor ((w.clients client).played colour);
  stamp = single_stamp w client colour;
}

-- one more id is used, and its node enters the column as final under the next stamp, which is then the floor
abbrev pub after_single : World → ℕ → ℕ → List ℕ → World
after_single w client colour text =
    with_node
    (with_last
    (with_client w client (record (w.clients client) {
      count = (w.clients client).count + 1;
      floor = single_stamp w client colour;
    }))
    (home_of w client) colour (single_entry w client colour))
    client (single_node w client colour text)

-- the column's clock is raised
abbrev pub after_raise : World → ℕ → ℕ → ℕ → ℕ → World
after_raise w by region colour to = with_last w region colour (record { by = by; event = events.Raise to; stamp = 0 })

-- the origin's column notes that the region holds all below the number
abbrev pub after_give : World → ℕ → ℕ → ℕ → ℕ → ℕ → World
after_give w by origin region colour from =
    with_last w origin colour (record { by = by; event = events.Give region from; stamp = 0 })

-- the heads of the origin's own chain, up to a position, that the region's column does not hold yet
abbrev pub heads_lacking : World → ℕ → ℕ → ℕ → ℕ → List Head
heads_lacking w origin region colour end =
    drop (held_of w origin region colour) (take end (chains_after origin (w.histories origin colour) origin))

-- the event by which the region's column carries what it lacks of the origin's chain, up to a position
abbrev pub carried_entry : World → ℕ → ℕ → ℕ → ℕ → ℕ → Entry
carried_entry w by origin region colour end = record {
  by = by;
  event = events.Carry origin (held_of w origin region colour) (heads_lacking w origin region colour end);
  stamp = 0;
}

-- the region's column carries the part of the stretch that it does not hold yet
abbrev pub after_carry : World → ℕ → ℕ → ℕ → ℕ → ℕ → ℕ → World
after_carry w by origin region colour start count =
    with_last w region colour (carried_entry w by origin region colour (start + count))

-- the column's trim up to these counts
abbrev pub after_trim : World → ℕ → ℕ → ℕ → Counts → World
after_trim w by region colour counts =
    with_last w region colour (record { by = by; event = events.Trim counts; stamp = 0 })

-- the cut up to which a client plays, and the greatest stamp of the nodes that it plays
abbrev pub played_cut : World → ℕ → ℕ → Counts
played_cut w client colour = cut_after (home_of w client) (home_history w client colour)

abbrev pub played_stamp : World → ℕ → ℕ → ℕ
played_stamp w client colour =
    greatest_between (chains_after (home_of w client) (home_history w client colour)) ((w.clients client).played colour)
    (played_cut w client colour)

-- what the client has played is the cut, and its floor is no less than the stamps of the nodes that it plays
abbrev pub after_play : World → ℕ → ℕ → World
after_play w client colour = with_client w client (record (w.clients client) {
  floor = max (w.clients client).floor (played_stamp w client colour);
  played = updated (w.clients client).played colour (played_cut w client colour);
})

-- the client has seen the stamp
abbrev pub after_seen : World → ℕ → ℕ → World
after_seen w client to = with_client w client (record (w.clients client) { floor = to })
