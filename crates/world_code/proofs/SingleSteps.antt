-- A client's node enters its region's column: what that makes of the world.
use Rattle.std.proofs.Common.{◌≡◌, ℕ, ◌<◌, true, false, List, [], ◌∷◌, ◌++◌, length, get_or, set, refl, ap}
use Rattle.std.proofs.Common.{sym, ◌∙◌, arith, eq-eqb}
use Rattle.std.specs.Prelude.{◌==◌, nat_lt}
use Rattle.std.proofs.lemmas.Bool.{and_parts, ltb-true, cond-true, not-true, or_left}
use Rattle.log_node.specs.declared.ids.Counts.{Counts}
use Rattle.log_node.specs.declared.node.Node.{Node}
use Rattle.log_node.specs.declared.limits.TheConstants.{MAX_COLOURS}
use Rattle.log_node.specs.Sets.{has, set_of}
use Rattle.log_node.proofs.CallerLemmas.{has-set_of, members-one}
use Rattle.log_node.specs.Vectors.{zeros}
use Rattle.col_core.specs.declared.Event.TheVariants as events
use Rattle.col_core.specs.declared.Entry.{Entry}
use Rattle.col_core.specs.Rows.{wants_of, node_wants}
use Rattle.column.specs.Columns.{ColumnState, with_room, stamp_for}
use Rattle.column.specs.Columns as columns
use Rattle.world_laws.specs.declared.steps.Step.TheVariants as steps
use Rattle.world_laws.specs.Worlds.{home_of, home_history, is_client, is_column, is_at_end}
use Rattle.world_laws.specs.Worlds.{may_single, single_entry, after_single}
use Rattle.world_code.specs.Clients.{ClientView, fresh_client, with_next_node, next_single}
use Rattle.world_code.specs.WorldView.{WorldView, column_at, client_at, world_of, IsAppended, IsWhole}
use Rattle.world_code.proofs.EqualWorlds.{worlds}
use Rattle.world_code.proofs.ChangedParts.{with_column, clients_changed, nodes_changed, histories_changed, rows_same}
use Rattle.world_code.proofs.ChangedParts.{columns_placed, clients_set, whole_after, reached_step, columns_appended}
use Rattle.world_code.proofs.ChangedParts.{clients_appended}
use Rattle.world_code.proofs.AppendedNodes.{appended_entered, is_listed}
use Rattle.world_laws.proofs.CallerLemmas.{slice_last}
use Rattle.std.specs.Prelude.{slice_get}
use Rattle.std.proofs.Common.{get_or-set_same}

-- a set of one colour has it
pub has_alone : (colour : ℕ) → has (set_of (colour ∷ [])) colour ≡ true
has_alone colour = has-set_of (colour ∷ []) colour ∙ or_left (colour == colour) false (eq-eqb colour colour refl)

-- the node wants of its colour what the client has played of it
wants_alone : (c : ClientView) (client home colour : ℕ) (text : List ℕ) → colour < MAX_COLOURS
    → node_wants (next_single c client home colour text) colour ≡ get_or c.played colour zeros
wants_alone c client home colour text lt =
    ap (λ (cs : List ℕ). wants_of cs (get_or c.played colour zeros ∷ []) colour) (members-one colour lt)
    ∙ cond-true (colour == colour) _ _ (eq-eqb colour colour refl)

-- what a single asks for
pub record MaySingle (code : WorldView) (client colour : ℕ) : Type 0 where
  pub is_client : client < length code.shape.homes
  pub in_regions : home_of (world_of code) client < code.shape.regions
  pub in_colours : colour < code.shape.colours
  pub not_at_end : is_at_end (home_history (world_of code) client colour) (client_at code client).floor ≡ false

pub may_single_is : (code : WorldView) (client colour : ℕ) → may_single (world_of code) client colour ≡ true
    → MaySingle code client colour
may_single_is code client colour t =
    let p = and_parts (is_client (world_of code) client) _ t in
    let q = and_parts (is_column (world_of code) (home_of (world_of code) client) colour) _ p.1 in
    let r = and_parts (nat_lt (home_of (world_of code) client) code.shape.regions) _ q.0 in
    record {
      is_client = ltb-true client (length code.shape.homes) p.0;
      in_regions = ltb-true (home_of (world_of code) client) code.shape.regions r.0;
      in_colours = ltb-true colour code.shape.colours r.1;
      not_at_end = not-true _ q.1;
    }

module _ (code : WorldView) (w : IsWhole code) (client colour : ℕ) (text : List ℕ)
    (may : MaySingle code client colour) where
  abbrev home : ℕ
  home = home_of (world_of code) client

  abbrev old : ColumnState
  old = column_at code.columns home colour

  abbrev node : Node
  node = next_single (client_at code client) client home colour text

  abbrev new_column : ColumnState
  new_column = columns.after_single (with_room old) client node

  abbrev new_client : ClientView
  new_client = with_next_node (client_at code client) node (stamp_for old node)

  abbrev pub new_code : WorldView
  new_code = record code {
    clients = set code.clients client new_client;
    columns = with_column code.columns home colour new_column;
  }

  pub client_in : client < length code.clients
  client_in = let n = w.clients in let lt = may.is_client in omega (arith, n, lt)

  pub home_in : home < length code.columns
  home_in = let n = w.regions in let lt = may.in_regions in omega (arith, n, lt)

  pub colour_in : colour < length (get_or code.columns home [])
  colour_in = let n = w.wide home [] home_in in let lt = may.in_colours in omega (arith, n, lt)

  small : colour < MAX_COLOURS
  small = let n = w.few_colours in let lt = may.in_colours in omega (arith, n, lt)

  entry_is : ◌≡◌ {A = List Entry} new_column.journal
      (home_history (world_of code) client colour ++ single_entry (world_of code) client colour ∷ [])
  entry_is =
      ap (λ (v : Counts). old.journal
      ++ record { by = client; event = events.Single node.id node.floor v; stamp = stamp_for old node } ∷ [])
      (ap (node_wants node) (w.placed home colour may.in_regions may.in_colours).of_colour
      ∙ wants_alone (client_at code client) client home colour text small)

  pub single_world : world_of new_code ≡ after_single (world_of code) client colour text
  single_world =
      worlds code.shape (world_of new_code).histories (after_single (world_of code) client colour text).histories
      (clients_changed code.clients client new_client client_in)
      (rows_same code.clients code.board client new_client client_in refl)
      (histories_changed code.columns home colour new_column home_in colour_in _ entry_is)
      (nodes_changed code.clients client new_client client_in)

  node_appended : IsAppended (set code.clients client new_client) node.id node
  node_appended =
      ap (λ (c : ClientView). slice_get c.nodes node.id.count)
      (get_or-set_same code.clients client new_client fresh_client client_in)
      ∙ (ap (slice_get new_client.nodes) (sym ((is_listed code w).counts client))
      ∙ slice_last (client_at code client).nodes node)

  pub single_whole : may_single (world_of code) client colour ≡ true → IsWhole new_code
  single_whole t =
      let p = w.placed home colour may.in_regions may.in_colours in
      whole_after code (set code.clients client new_client) code.board (with_column code.columns home colour new_column)
      w
      (clients_set code client new_client w client_in (w.colours client fresh_client client_in) refl)
      (columns_placed code home colour new_column w may.in_regions may.in_colours
      (record { in_region = p.in_region; of_colour = p.of_colour; of_regions = p.of_regions }))
      (columns_appended code (set code.clients client new_client) home colour new_column w may.in_regions may.in_colours
      (clients_appended code client new_client (node ∷ []) client_in refl w.appended)
      (appended_entered (set code.clients client new_client) old new_column _ node.id true _ refl refl
      (clients_appended code client new_client (node ∷ []) client_in refl w.appended home colour) node_appended))
      (reached_step code (world_of new_code) (steps.Single client colour text) w
      (single_world ∙ sym (cond-true (may_single (world_of code) client colour) _ _ t)))
