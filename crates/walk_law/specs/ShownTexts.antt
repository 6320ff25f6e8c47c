-- The texts that a report's node lines show, in a table by the ids of nodes.
use Rattle.std.specs.Prelude.{◌≡◌, ℕ, List, Option}
use Rattle.std.specs.List.{find}
use Rattle.std.specs.Option.{option_map}
use denote.Ref.{Bor}
use Rattle.log_node.specs.declared.ids.Id.{Id}
use Rattle.log_node.specs.Order.{same_id}
use Rattle.log_node.specs.Seen.{PlacedNode}
use Rattle.run_rules.specs.Said.{is_line_of}
use Rattle.walk_law.specs.declared.shown_texts.TextTable.{TextTable}

-- the text that the first of these lines of an id shows, if there is one
abbrev pub first_text : List PlacedNode → Id → Option (List ℕ)
first_text lines id = option_map (λ (item : PlacedNode). item.node.text) (find (is_line_of id) lines)

-- the text that is kept for an id, if there is one
abbrev pub text_in : TextTable → Id → Option (List ℕ)
text_in table id =
    option_map (λ (e : Id × Bor (List ℕ)). e.1.now) (find (λ (e : Id × Bor (List ℕ)). same_id e.0 id) table.by_id.entries)

-- those of the first line of each id
abbrev pub AreFirstTexts : List PlacedNode → TextTable → Type 0
AreFirstTexts lines table = (id : Id) → text_in table id ≡ first_text lines id
