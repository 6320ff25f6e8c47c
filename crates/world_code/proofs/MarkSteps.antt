-- A colour's mark is set, by a proposal or by a fence: what the code reads, and what it makes of the world.
use Rattle.std.proofs.Common.{◌≡◌, ℕ, ◌<◌, true, false, List, [], ◌∷◌, ◌++◌, length, get_or}
use Rattle.std.proofs.Common.{Option, refl, ap, sym, subst, ◌∙◌, arith}
use Rattle.std.proofs.lemmas.Bool.{cond-true}
use Rattle.log_node.specs.declared.ids.Row.{Row}
use Rattle.log_node.specs.declared.ids.Colours.{Colours}
use Rattle.log_node.specs.declared.ids.Counts.{Counts}
use Rattle.log_node.specs.declared.node.Node.{Node}
use Rattle.log_node.specs.declared.limits.TheConstants.{MAX_COLOURS}
use Rattle.log_node.specs.Sets.{has}
use Rattle.skeen_core.specs.Boards.{BoardRow}
use Rattle.log_node.specs.declared.marks.Why.{Why}
use Rattle.log_node.specs.declared.marks.Mark.TheVariants as marks
use Rattle.skeen_core.specs.Boards.{begun_at, with_changed, has_in}
use Rattle.skeen_core.specs.Boards as boards
use Rattle.col_core.specs.declared.Event.TheVariants as events
use Rattle.col_core.specs.declared.Entry.{Entry}
use Rattle.col_core.specs.Keeping.{updated_at}
use Rattle.col_core.specs.Rows.{node_wants}
use Rattle.column.specs.Columns.{ColumnState, with_room}
use Rattle.column.specs.Columns as columns
use Rattle.world_laws.specs.declared.steps.Step.TheVariants as steps
use Rattle.world_laws.specs.Worlds.{RowState, home_of, row_of, row_history, is_member}
use Rattle.world_laws.specs.Worlds.{may_mark, may_propose, may_fence, with_mark, proposed_stamp, proposed_entry}
use Rattle.world_laws.specs.Worlds.{after_propose}
use Rattle.world_laws.proofs.CallerLemmas.{MayMark, may_mark_is}
use Rattle.world_code.specs.WorldView.{WorldView, column_at, world_of, IsRowNode, IsWhole}
use Rattle.world_code.proofs.EqualWorlds.{worlds}
use Rattle.world_code.proofs.ChangedParts.{with_column, histories_changed, columns_placed, placed_of, whole_after}
use Rattle.world_code.proofs.ChangedParts.{reached_step, columns_appended}
use Rattle.world_code.proofs.AppendedNodes.{appended_entered, row_appended}
use Rattle.world_code.proofs.SingleCalls.{is_held}
use Rattle.world_code.proofs.Sets.{member_is}
use Rattle.world_code.proofs.ChangedRows.{Begun, begun_from, node_here, colours_here, rows_changed, marked_row}
use Rattle.world_code.proofs.ChangedRows.{marked_clients, board_world}

-- where a begun row is
module _ (code : WorldView) (w : IsWhole code) (row : Row) (b : Begun code row) where
  pub client_there : row.client < length code.shape.homes
  client_there = let n = w.board_clients in let lt = b.in_board in omega (arith, n, lt)

  pub home_there : home_of (world_of code) row.client < code.shape.regions
  home_there = w.homes row.client 0 client_there

  pub columns_there : home_of (world_of code) row.client < length code.columns
  columns_there = let n = w.regions in let lt = home_there in omega (arith, n, lt)

  pub its_columns : length (get_or code.columns (home_of (world_of code) row.client) []) ≡ code.shape.colours
  its_columns = w.wide (home_of (world_of code) row.client) [] columns_there

  pub row_node : IsRowNode (home_of (world_of code) row.client) row.client row.number code.shape.colours b.node
  row_node = w.begun row.client row.number b.node b.node_is

module _ (code : WorldView) (w : IsWhole code) (row : Row) (colour : ℕ)
    (may : may_mark (world_of code) row colour ≡ true) where
  g : MayMark (world_of code) row colour
  g = may_mark_is (world_of code) row colour may

  pub its_row : Begun code row
  its_row = begun_from code w row g.begun

  abbrev home : ℕ
  home = home_of (world_of code) row.client

  abbrev its_node : Node
  its_node = (row_of (world_of code) row).node

  abbrev old : ColumnState
  old = column_at code.columns home colour

  pub colour_there : colour < code.shape.colours
  colour_there =
      (row_node code w row its_row).within colour
      (subst (λ (n : Node). is_member n.colours colour ≡ true) (node_here code w row its_row) g.has)

  pub small : colour < MAX_COLOURS
  small = let n = w.few_colours in let lt = colour_there in omega (arith, n, lt)

  pub has_it : has its_node.colours colour ≡ true
  has_it = sym (member_is its_node.colours colour small) ∙ g.has

  pub in_columns : colour < length (get_or code.columns home [])
  in_columns = let n = its_columns code w row its_row in let lt = colour_there in omega (arith, n, lt)

  -- what the board asks for
  pub board_colour : colour < code.board.colours
  board_colour = let n = w.board_colours in let lt = colour_there in omega (arith, n, lt)

  pub board_row : has_in (begun_at code.board row) colour ≡ true
  board_row =
      ap (λ (o : Option BoardRow). has_in o colour) its_row.board_is
      ∙ (ap (λ (cs : Colours). has cs colour) (colours_here code w row its_row) ∙ has_it)

  -- a fence
  abbrev pub fenced_code : Why → WorldView
  fenced_code why = record code { board = with_changed code.board row (boards.with_mark colour (marks.Fenced why)) }

  pub fence_world : (why : Why) → world_of (fenced_code why) ≡ with_mark (world_of code) row colour (marks.Fenced why)
  fence_world why =
      board_world code w row its_row (boards.with_mark colour (marks.Fenced why)) _
      (marked_row code w row its_row colour (marks.Fenced why) small g.missing)

  pub fence_whole : (why : Why) → may_fence (world_of code) row colour why ≡ true → IsWhole (fenced_code why)
  fence_whole why t =
      whole_after code code.clients (fenced_code why).board code.columns w
      (marked_clients code w row its_row colour (marks.Fenced why)) (placed_of code w) w.appended
      (reached_step code (world_of (fenced_code why)) (steps.Fence row colour why) w
      (fence_world why ∙ sym (cond-true (may_fence (world_of code) row colour why) _ _ t)))

  -- a proposal
  module _ (by : ℕ) where
    abbrev stamp : ℕ
    stamp = proposed_stamp (world_of code) row colour

    abbrev new_column : ColumnState
    new_column = columns.after_propose (with_room old) by its_node

    abbrev pub proposed_code : WorldView
    proposed_code = record code {
      board = with_changed code.board row (boards.with_mark colour (marks.Number stamp));
      columns = with_column code.columns home colour new_column;
    }

    entry_is : ◌≡◌ {A = List Entry} new_column.journal
        (row_history (world_of code) row colour ++ proposed_entry (world_of code) by row colour ∷ [])
    entry_is =
        ap (λ (v : Counts). old.journal
        ++ record { by = by; event = events.Propose its_node.id its_node.floor v; stamp = stamp } ∷ [])
        (ap (node_wants its_node) (w.placed home colour (home_there code w row its_row) colour_there).of_colour)

    pub propose_world : world_of proposed_code ≡ after_propose (world_of code) by row colour
    propose_world =
        worlds code.shape (world_of proposed_code).histories (after_propose (world_of code) by row colour).histories
        refl
        (rows_changed code w row its_row (boards.with_mark colour (marks.Number stamp))
        ∙ ap with_row_of (marked_row code w row its_row colour (marks.Number stamp) small g.missing))
        (histories_changed code.columns home colour new_column (columns_there code w row its_row) in_columns _ entry_is)
        refl where
          with_row_of : RowState → ℕ → ℕ → RowState
          with_row_of r = updated_at (world_of code).rows row.client row.number r

    pub propose_whole : may_propose (world_of code) row colour ≡ true → IsWhole proposed_code
    propose_whole t =
        let p = w.placed home colour (home_there code w row its_row) colour_there in
        whole_after code code.clients proposed_code.board proposed_code.columns w
        (marked_clients code w row its_row colour (marks.Number stamp))
        (columns_placed code home colour new_column w (home_there code w row its_row) colour_there
        (record { in_region = p.in_region; of_colour = p.of_colour; of_regions = p.of_regions }))
        (columns_appended code code.clients home colour new_column w (home_there code w row its_row) colour_there
        w.appended
        (appended_entered code.clients old new_column _ its_node.id false _ refl refl (w.appended home colour)
        (row_appended code w row g.begun ((is_held code w).rows row.client row.number g.begun).of_client)))
        (reached_step code (world_of proposed_code) (steps.Propose by row colour) w
        (propose_world ∙ sym (cond-true (may_propose (world_of code) row colour) _ _ t)))
