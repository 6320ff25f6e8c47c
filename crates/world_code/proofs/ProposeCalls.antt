-- What the code asks of a column for a proposal, and what it makes of the world in code.
use Rattle.std.proofs.Common.{◌≡◌, ℕ, ◌<◌, ◌≤◌, true, false, List, [], length, get_or, set, Some, None, Option, ap, sym}
use Rattle.std.proofs.Common.{subst, ◌∙◌, arith}
use Rattle.std.specs.Prelude.{slice_get, not}
use Rattle.std.proofs.lemmas.Bool.{and_from}
use Rattle.std.proofs.lemmas.Option.{get_or_from_slice_get}
use Rattle.log_node.specs.declared.ids.Row.{Row}
use Rattle.log_node.specs.declared.node.Node.{Node}
use Rattle.log_node.specs.Sets.{has}
use Rattle.log_node.specs.declared.marks.Mark.TheVariants as marks
use Rattle.skeen_core.specs.Boards.{Board, with_changed}
use Rattle.skeen_core.specs.Boards as boards
use Rattle.log_node.specs.Marks.{IsStamp}
use Rattle.col_core.specs.History.{last_stamp, has_entered}
use Rattle.column.specs.Columns.{ColumnState, with_room, stamp_for}
use Rattle.column.specs.Columns as columns
use Rattle.world_laws.specs.declared.steps.Reply.TheVariants as replies
use Rattle.world_laws.specs.Worlds.{home_of, row_of, is_row_at_end, may_mark, proposed_stamp}
use Rattle.world_laws.specs.Worlds.{after_propose, event_reply}
use Rattle.world_laws.proofs.CallerLemmas.{not_entered, lawful_past_in, stamp_within, MayMark, may_mark_is}
use Rattle.world_laws.proofs.CallerLemmas.{marked_absent}
use Rattle.world_code.specs.declared.replies.Placed.{Placed}
use Rattle.world_code.specs.Replies.{placed_reply}
use Rattle.world_code.specs.WorldView.{WorldView, no_column, column_at, client_at, world_of, IsWhole}
use Rattle.world_code.proofs.SingleCalls.{is_held}
use Rattle.world_code.proofs.ChangedRows.{Begun, node_here}
use Rattle.world_code.proofs.RaiseSteps.{default_free}
use Rattle.world_code.proofs.MarkSteps.{home_there, columns_there, row_node, its_row, colour_there, has_it, in_columns}
use Rattle.world_code.proofs.MarkSteps.{proposed_code, propose_world, propose_whole}

-- A column is called for a proposal, which may be done, with what the code has read: the row's region, its columns and
-- the row's node.
pub record ProposeCall (code : WorldView) (row : Row) (colour home : ℕ) (cs : List ColumnState) (node : Node) : Type 0
  where
    pub whole : IsWhole code
    pub may : may_mark (world_of code) row colour ≡ true
    pub left : is_row_at_end (world_of code) row colour ≡ false
    pub home_is : home_of (world_of code) row.client ≡ home
    pub columns_are : cs ≡ get_or code.columns home cs
    pub node_is : slice_get (client_at code row.client).begun row.number ≡ Some node

-- the region's columns are there
pub propose_home : (code : WorldView) (row : Row) (colour home : ℕ) → IsWhole code
    → may_mark (world_of code) row colour ≡ true → home_of (world_of code) row.client ≡ home
    → home < length code.columns
propose_home code row colour home w may home_is =
    let lt = columns_there code w row (its_row code w row colour may) in omega (arith, home_is, lt)

module _ {code : WorldView} {row : Row} {colour home : ℕ} {cs : List ColumnState} {node : Node}
    (call : ProposeCall code row colour home cs node) where
  abbrev w : IsWhole code
  w = call.whole

  g : MayMark (world_of code) row colour
  g = may_mark_is (world_of code) row colour call.may

  b : Begun code row
  b = its_row code w row colour call.may

  abbrev region : ℕ
  region = home_of (world_of code) row.client

  abbrev its_node : Node
  its_node = (row_of (world_of code) row).node

  abbrev old : ColumnState
  old = column_at code.columns region colour

  columns_same : cs ≡ get_or code.columns region []
  columns_same =
      call.columns_are
      ∙ (ap (λ (h : ℕ). get_or code.columns h cs) (sym call.home_is)
      ∙ default_free code.columns region cs [] (columns_there code w row b))

  column_same : get_or cs colour no_column ≡ old
  column_same = ap (λ (l : List ColumnState). get_or l colour no_column) columns_same

  node_same : node ≡ its_node
  node_same = sym (get_or_from_slice_get (client_at code row.client).begun row.number node _ call.node_is)

  pub call_colour : colour < length cs
  call_colour = let n = ap length columns_same in let lt = in_columns code w row colour call.may in omega (arith, n, lt)

  pub call_fresh : has_entered node.id (get_or cs colour no_column).journal ≡ false
  call_fresh =
      ap (λ (n : Node). has_entered n.id (get_or cs colour no_column).journal) node_same
      ∙ (ap (λ (c : ColumnState). has_entered its_node.id c.journal) column_same
      ∙ not_entered old.journal its_node.id (marked_absent (world_of code) (is_held code w) row colour g))

  pub call_region : node.region ≡ (get_or cs colour no_column).region
  call_region =
      ap (λ (n : Node). n.region) (node_same ∙ node_here code w row b)
      ∙ ((row_node code w row b).in_region
      ∙ sym (ap (λ (c : ColumnState). c.region) column_same
      ∙ (w.placed region colour (home_there code w row b) (colour_there code w row colour call.may)).in_region))

  pub call_of_colour : has node.colours (get_or cs colour no_column).colour ≡ true
  call_of_colour =
      ap (λ (n : Node). has n.colours (get_or cs colour no_column).colour) node_same
      ∙ (ap (λ (c : ColumnState). has its_node.colours c.colour) column_same
      ∙ (ap (has its_node.colours)
      (w.placed region colour (home_there code w row b) (colour_there code w row colour call.may)).of_colour
      ∙ has_it code w row colour call.may))

  pub call_floor : node.floor ≤ last_stamp
  call_floor =
      subst (λ (n : Node). n.floor ≤ last_stamp) (sym node_same)
      ((is_held code w).rows row.client row.number g.begun).floor

  pub call_row : node.row ≡ None → ⊥
  call_row none =
      let some = ap (λ (n : Node). n.row) (node_same ∙ node_here code w row b) ∙ (row_node code w row b).row in
      let two : ◌≡◌ {A = Option Row} None (Some (record { client = row.client; number = row.number })) = sym none
      ∙ some in
      cc

  -- what it answers
  abbrev pub its_place : Placed
  its_place = record {
    place = length (get_or cs colour no_column).journal;
    stamp = stamp_for (get_or cs colour no_column) node;
  }

  stamp_same : stamp_for (get_or cs colour no_column) node ≡ proposed_stamp (world_of code) row colour
  stamp_same =
      ap (λ (n : Node). stamp_for (get_or cs colour no_column) n) node_same
      ∙ ap (λ (c : ColumnState). stamp_for c its_node) column_same

  pub call_stamp : {placed : Placed} → placed ≡ its_place → IsStamp placed.stamp
  call_stamp is =
      let h = is_held code w in
      let same = ap (λ (p : Placed). p.stamp) is ∙ stamp_same in
      let le = stamp_within old.journal its_node.floor (lawful_past_in (world_of code) h region colour)
      (h.rows row.client row.number g.begun).floor call.left in
      (omega (arith, same), omega (arith, same, le))

  pub call_reply : {placed : Placed} → placed ≡ its_place → placed_reply (Some placed)
      ≡ event_reply (world_of code) region colour (proposed_stamp (world_of code) row colour)
  call_reply is =
      ap (λ (p : Placed). placed_reply (Some p)) is
      ∙ (ap (λ (n : ℕ). replies.Event n (stamp_for (get_or cs colour no_column) node))
      (ap (λ (c : ColumnState). length c.journal) column_same)
      ∙ ap (λ (n : ℕ). replies.Event (length old.journal) n) stamp_same)

  -- the world in code then
  module _ (by : ℕ) where
    pub code_after : {placed : Placed} {new : List ColumnState} {board : Board} → placed ≡ its_place
        → new ≡ set cs colour (columns.after_propose (with_room (get_or cs colour no_column)) by node)
        → board ≡ with_changed code.board row (boards.with_mark colour (marks.Number placed.stamp))
        → ◌≡◌ {A = WorldView} (record code { board = board; columns = set code.columns home new })
        (proposed_code code w row colour call.may by)
    code_after {placed} {new} {board} placed_is new_is board_is =
        ap (λ (bd : Board). let k : WorldView = record code { board = bd; columns = set code.columns home new } in k)
        (board_is ∙ ap (λ (s : ℕ). with_changed code.board row (boards.with_mark colour (marks.Number s)))
        (ap (λ (p : Placed). p.stamp) placed_is ∙ stamp_same))
        ∙ ap (λ (l : List (List ColumnState)). let k : WorldView =
        record code { board = (proposed_code code w row colour call.may by).board; columns = l } in k)
        (ap (λ (h : ℕ). set code.columns h new) (sym call.home_is)
        ∙ ap (λ (l : List ColumnState). set code.columns region l)
        (new_is
        ∙ (ap (λ (l : List ColumnState). set l colour
        (columns.after_propose (with_room (get_or l colour no_column)) by node)) columns_same
        ∙ ap (λ (n : Node). set (get_or code.columns region []) colour (columns.after_propose (with_room old) by n))
        node_same)))

    pub whole_after : IsWhole (proposed_code code w row colour call.may by)
    whole_after = propose_whole code w row colour call.may by
        (and_from (may_mark (world_of code) row colour) _ call.may (ap not call.left))

    pub world_after : world_of (proposed_code code w row colour call.may by) ≡ after_propose (world_of code) by row colour
    world_after = propose_world code w row colour call.may by
