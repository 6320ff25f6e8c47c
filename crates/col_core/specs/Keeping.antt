-- What a client keeps of its region's colours, and what it has seen of all columns.
use Rattle.std.specs.Prelude.{ℕ, ◌+◌, ◌==◌, max, List, [], ◌∷◌, ◌++◌, Option, None, if◌then◌else◌}
use Rattle.log_node.specs.declared.ids.Counts.{Counts}
use Rattle.log_node.specs.declared.node.At.{At}
use Rattle.log_node.specs.declared.node.At.TheVariants as ats
use Rattle.log_node.specs.declared.forms.Version.{Version}
use Rattle.log_node.specs.Vectors.{at, zeros}

-- what a client keeps after some of its commands
pub record Kept : Type 0 where
  -- the greatest stamp on its own nodes, on the nodes that it played and of its stamped reads
  pub floor : ℕ
  -- for each colour the snapshot of its last sync
  pub starts : ℕ → Counts
  -- for each region and colour how many events it has seen
  pub seen : ℕ → ℕ → ℕ
  -- for each colour how many nodes it knows to stand in the own line
  pub known : ℕ → ℕ
  -- for each region and colour the places of the events that its commands made, in order
  pub made : ℕ → ℕ → List ℕ
  -- how many ids it has used
  pub ids : ℕ
  -- how many rows it has begun
  pub rows : ℕ
  -- for each object what its last read found, until a commit uses it up: for each key the last committed writer
  pub reads : ℕ → Option (List Version)

-- what each client keeps before its first command
abbrev pub nothing_kept : Kept
nothing_kept = record {
  floor = 0;
  starts = λ _. zeros;
  seen = λ _ _. 0;
  known = λ _. 0;
  made = λ _ _. [];
  ids = 0;
  rows = 0;
  reads = λ _. None;
}

-- the function, with another value at one number
abbrev pub updated : {A : Type 0} → (ℕ → A) → ℕ → A → ℕ → A
updated f k value n = if n == k then value else f n

-- the function of region and colour, with another value at one column
abbrev pub updated_at : {A : Type 0} → (ℕ → ℕ → A) → ℕ → ℕ → A → ℕ → ℕ → A
updated_at f region colour value = updated f region (updated (f region) colour value)

-- after an event of its own, which the reply names
abbrev pub kept_after_event : Kept → ℕ → ℕ → ℕ → Kept
kept_after_event kept region colour place = record kept {
  seen = updated_at kept.seen region colour (place + 1);
  made = updated_at kept.made region colour (kept.made region colour ++ place ∷ []);
}

-- after a look at a number of events
abbrev pub kept_after_look : Kept → ℕ → ℕ → ℕ → Kept
kept_after_look kept region colour events = record kept { seen = updated_at kept.seen region colour events }

-- after an append to one colour: the event at the place entered the node, which stands under the stamp at the position
abbrev pub kept_after_single : Kept → ℕ → ℕ → ℕ → ℕ → ℕ → Kept
kept_after_single kept own colour place stamp position = record (kept_after_event kept own colour place) {
  floor = max kept.floor stamp;
  known = updated kept.known colour (position + 1);
  ids = kept.ids + 1;
}

-- after a sync that looked at so many events, with its snapshot and the greatest stamp that it played
abbrev pub kept_after_sync : Kept → ℕ → ℕ → ℕ → Counts → ℕ → Kept
kept_after_sync kept own colour events snapshot stamp = record (kept_after_look kept own colour events) {
  floor = max kept.floor stamp;
  starts = updated kept.starts colour snapshot;
  known = updated kept.known colour (at snapshot own);
}

-- how many events are seen where a reply names this place
abbrev pub seen_after : At → ℕ
seen_after (ats.Event place) = place + 1
seen_after (ats.Look events) = events

-- after a point of an append to several colours: where its entry was seen, and at which position its node stands
abbrev pub kept_after_point : Kept → ℕ → ℕ → At → ℕ → Kept
kept_after_point kept own colour at position = record kept {
  seen = updated_at kept.seen own colour (seen_after at);
  known = updated kept.known colour (position + 1);
}

-- how many events are seen by one who saw so many, and made events at these places
abbrev pub seen_past : ℕ → List ℕ → ℕ
seen_past seen [] = seen
seen_past seen (place ∷ places) = seen_past (max seen (place + 1)) places

-- with events made, and so seen, at these places of its region's columns, by colour
abbrev pub with_made : Kept → ℕ → (ℕ → List ℕ) → Kept
with_made kept own places = record kept {
  seen = updated kept.seen own (λ colour. seen_past (kept.seen own colour) (places colour));
  made = updated kept.made own (λ colour. kept.made own colour ++ places colour);
}

-- with the floor at this stamp or above
abbrev pub with_floor : Kept → ℕ → Kept
with_floor kept stamp = record kept { floor = max kept.floor stamp }

-- with one more node of its own
abbrev pub with_node : Kept → Kept
with_node kept = record kept { ids = kept.ids + 1 }

-- with one more node of its own, on a row
abbrev pub with_row : Kept → Kept
with_row kept = record kept { ids = kept.ids + 1; rows = kept.rows + 1 }

-- with what a read of an object found, or with none
abbrev pub with_read : Kept → ℕ → Option (List Version) → Kept
with_read kept object found = record kept { reads = updated kept.reads object found }
