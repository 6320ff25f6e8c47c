-- What the code asks of a column and of a client for a single, and what the two make of the world in code.
use Rattle.std.proofs.Common.{◌≡◌, ℕ, ◌<◌, ◌≤◌, true, false, List, [], length, get_or, set, refl, ap}
use Rattle.std.proofs.Common.{sym, subst, ◌∙◌, arith, get_or-set_same}
use Rattle.std.specs.Prelude.{Some}
use Rattle.log_node.specs.declared.node.Node.{Node}
use Rattle.log_node.specs.declared.limits.TheConstants.{MAX_COLOURS}
use Rattle.log_node.specs.Sets.{has}
use Rattle.col_core.specs.History.{last_stamp, has_entered}
use Rattle.column.specs.Columns.{ColumnState, with_room, stamp_for}
use Rattle.column.specs.Columns as columns
use Rattle.world_laws.specs.declared.steps.Reply.TheVariants as replies
use Rattle.world_laws.specs.Worlds.{home_of, next_id, may_single, after_single, event_reply, single_stamp}
use Rattle.world_laws.proofs.CallerLemmas.{Held, not_entered, next_absent, held, of_reached}
use Rattle.world_code.specs.Clients.{ClientView, fresh_client, with_spare, with_next_node, next_single}
use Rattle.world_code.specs.WorldView.{WorldView, no_column, column_at, client_at, world_of, with_client_room, IsWhole}
use Rattle.world_code.proofs.ChangedParts.{client_shown, whole_same}
use Rattle.world_code.proofs.RaiseSteps.{default_free}
use Rattle.world_code.proofs.SingleSteps as singles
use Rattle.world_code.proofs.SingleSteps.{MaySingle, may_single_is, has_alone, client_in, home_in, colour_in}
use Rattle.world_code.proofs.SingleSteps.{single_world, single_whole}
use Rattle.world_code.specs.declared.replies.Placed.{Placed}
use Rattle.world_code.specs.Replies.{placed_reply}

pub is_held : (code : WorldView) → IsWhole code → Held (world_of code)
is_held code w = of_reached Held held (world_of code) w.reached

-- A column is called for a single, which may be done, with what the code has read: the region, its columns and the node.
pub record SingleCall (code : WorldView) (client colour home : ℕ) (row : List ColumnState) (node : Node) : Type 0 where
  pub whole : IsWhole code
  pub guard : may_single (world_of code) client colour ≡ true
  pub home_is : home_of (world_of code) client ≡ home
  pub row_is : row ≡ get_or code.columns home row
  pub node_is : node ≡ next_single (client_at code client) client home colour node.text

module _ {code : WorldView} {client colour home : ℕ} {row : List ColumnState} {node : Node}
    (call : SingleCall code client colour home row node) where
  abbrev w : IsWhole code
  w = call.whole

  abbrev may : MaySingle code client colour
  may = may_single_is code client colour call.guard

  abbrev region : ℕ
  region = home_of (world_of code) client

  abbrev old : ColumnState
  old = column_at code.columns region colour

  abbrev its : Node
  its = next_single (client_at code client) client region colour node.text

  node_same : node ≡ its
  node_same = call.node_is ∙ ap (λ (h : ℕ). next_single (client_at code client) client h colour node.text) (sym call.home_is)

  row_same : row ≡ get_or code.columns region []
  row_same =
      call.row_is ∙ (ap (λ (h : ℕ). get_or code.columns h row) (sym call.home_is)
      ∙ default_free code.columns region row [] (home_in code w client colour node.text may))

  column_same : get_or row colour no_column ≡ old
  column_same = ap (λ (l : List ColumnState). get_or l colour no_column) row_same

  pub call_colour : colour < length row
  call_colour = let n = ap length row_same in let lt = colour_in code w client colour node.text may in
      omega (arith, n, lt)

  pub call_client : client < length code.clients
  call_client = client_in code w client colour node.text may

  pub call_fresh : has_entered node.id (get_or row colour no_column).journal ≡ false
  call_fresh =
      ap (λ (n : Node). has_entered n.id (get_or row colour no_column).journal) node_same
      ∙ (ap (λ (c : ColumnState). has_entered its.id c.journal) column_same
      ∙ not_entered old.journal (next_id (world_of code) client)
      (next_absent (world_of code) (is_held code w) client region colour))

  pub call_region : node.region ≡ (get_or row colour no_column).region
  call_region =
      ap (λ (n : Node). n.region) node_same
      ∙ sym (ap (λ (c : ColumnState). c.region) column_same
      ∙ (w.placed region colour may.in_regions may.in_colours).in_region)

  pub call_of_colour : has node.colours (get_or row colour no_column).colour ≡ true
  call_of_colour =
      ap (λ (n : Node). has n.colours (get_or row colour no_column).colour) node_same
      ∙ (ap (λ (c : ColumnState). has its.colours c.colour) column_same
      ∙ (ap (has its.colours) (w.placed region colour may.in_regions may.in_colours).of_colour
      ∙ has_alone colour))

  pub call_floor : node.floor ≤ last_stamp
  call_floor = subst (λ (n : Node). n.floor ≤ last_stamp) (sym node_same) ((is_held code w).floors client)

  -- the stamp that it gets is the one that is meant
  pub stamp_same : stamp_for (get_or row colour no_column) node ≡ stamp_for old its
  stamp_same = ap (λ (n : Node). stamp_for (get_or row colour no_column) n) node_same
      ∙ ap (λ (c : ColumnState). stamp_for c its) column_same

  -- both together
  pub code_after : {new_row : List ColumnState} {old_client new_client : ClientView} {stamp : ℕ} {shared : Node}
      → new_row ≡ set row colour (columns.after_single (with_room (get_or row colour no_column)) client node)
      → old_client ≡ get_or code.clients client old_client → shared ≡ node
      → stamp ≡ stamp_for (get_or row colour no_column) node → new_client ≡ with_next_node old_client shared stamp
      → ◌≡◌ {A = WorldView}
      (record code { clients = set code.clients client new_client; columns = set code.columns home new_row })
      (singles.new_code code w client colour node.text may)
  code_after {new_row} {old_client} {new_client} {stamp} {shared} row_new client_is shared_is stamp_is client_new =
      ap (λ (c : ClientView). let k : WorldView =
      record code { clients = set code.clients client c; columns = set code.columns home new_row } in k)
      (client_new
      ∙ (ap (λ (c : ClientView). with_next_node c shared stamp)
      (client_is ∙ default_free code.clients client old_client fresh_client call_client)
      ∙ (ap (λ (n : Node). with_next_node (client_at code client) n stamp) (shared_is ∙ node_same)
      ∙ ap (λ (s : ℕ). with_next_node (client_at code client) its s) (stamp_is ∙ stamp_same))))
      ∙ ap (λ (cs : List (List ColumnState)). let k : WorldView =
      record code {
        clients =
            set code.clients client (with_next_node (client_at code client) its (stamp_for old its));
        columns = cs;
      } in k)
      (ap (λ (h : ℕ). set code.columns h new_row) (sym call.home_is)
      ∙ ap (λ (l : List ColumnState). set code.columns region l)
      (row_new
      ∙ (ap (λ (l : List ColumnState). set l colour
      (columns.after_single (with_room (get_or l colour no_column)) client node)) row_same
      ∙ ap (λ (n : Node). set (get_or code.columns region []) colour (columns.after_single (with_room old) client n))
      node_same)))

  pub code_whole : IsWhole (singles.new_code code w client colour node.text may)
  code_whole = single_whole code w client colour node.text may call.guard

  pub code_world : world_of (singles.new_code code w client colour node.text may)
      ≡ after_single (world_of code) client colour node.text
  code_world = single_world code w client colour node.text may

  -- and so is what is answered
  pub placed_same : {placed : Placed} → placed ≡ record {
    place = length (get_or row colour no_column).journal;
    stamp = stamp_for (get_or row colour no_column) node;
  } → placed_reply (Some placed) ≡ event_reply (world_of code) home colour (single_stamp (world_of code) client colour)
  placed_same is =
      ap (λ (p : Placed). placed_reply (Some p)) is
      ∙ (ap (λ (n : ℕ). replies.Event n (stamp_for (get_or row colour no_column) node))
      (ap (λ (c : ColumnState). length c.journal) column_same
      ∙ ap (λ (h : ℕ). length (column_at code.columns h colour).journal) call.home_is)
      ∙ ap (λ (n : ℕ). replies.Event (length (column_at code.columns home colour).journal) n) stamp_same)

-- the room that a client took shows nowhere in the world
pub room_world : (code : WorldView) (client : ℕ) → IsWhole code → client < length code.clients
    → world_of (with_client_room code client) ≡ world_of code
room_world code client w lt = client_shown code client (with_spare (client_at code client)) lt refl refl refl

pub room_there : (code : WorldView) (client : ℕ) → client < length code.clients
    → 0 < (client_at (with_client_room code client) client).spare
room_there code client lt =
    subst (λ (c : ClientView). 0 < c.spare)
    (sym (get_or-set_same code.clients client (with_spare (client_at code client)) fresh_client lt)) (omega arith)

-- a client has something played of each colour
pub played_of : (code : WorldView) (client colour : ℕ) → IsWhole code → MaySingle code client colour
    → (client < length code.clients) × (colour < MAX_COLOURS) × (colour < length (client_at code client).played)
played_of code client colour w may =
    let n = w.clients in
    let lt = may.is_client in
    let there : client < length code.clients = omega (arith, n, lt) in
    let all = w.colours client fresh_client there in
    let few = w.few_colours in
    let small = may.in_colours in
    (there, omega (arith, few, small), omega (arith, few, small, all))

-- the clients with room for one, as the code changes them
pub room_list : (code : WorldView) (client : ℕ) → client < length code.clients → (old new : ClientView)
    → old ≡ get_or code.clients client old → new ≡ with_spare old
    → set code.clients client new ≡ set code.clients client (with_spare (client_at code client))
room_list code client lt old new old_is new_is =
    ap (λ (x : ClientView). set code.clients client x)
    (new_is ∙ ap with_spare (old_is ∙ default_free code.clients client old fresh_client lt))

pub room_whole : (code : WorldView) (client : ℕ) → IsWhole code → client < length code.clients
    → IsWhole (with_client_room code client)
room_whole code client w lt =
    whole_same code client (with_spare (client_at code client)) w lt (w.colours client fresh_client lt) refl refl
    (room_world code client w lt)
