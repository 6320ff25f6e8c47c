-- The node that a client appends next, beside the client's hold of its region and what the client keeps.
use Rattle.std.proofs.Common.{◌≡◌, ℕ, zero, suc, ◌+◌, ◌<◌, ◌≤◌, List, [], ◌∷◌, length, map, Some, None, true, refl, ap, sym, subst, ◌∙◌, arith}
use Rattle.std.specs.Prelude.{nat_lt, slice_get, slice_index_or}
use Rattle.std.specs.List.{Contains}
use Rattle.std.proofs.lemmas.Bool.{lt-ltb}
use Rattle.std.proofs.lemmas.Option.{slice_get_read}
use Rattle.log_node.specs.declared.ids.Id.{Id}
use Rattle.log_node.specs.declared.ids.Colours.{Colours}
use Rattle.log_node.specs.declared.limits.TheConstants.{MAX_STAMP}
use Rattle.log_node.specs.declared.node.Node.{Node}
use Rattle.log_node.specs.Sets.{has, members}
use Rattle.col_core.specs.Rows.{node_wants}
use Rattle.col_core.specs.Keeping.{Kept}
use Rattle.col_core.proofs.CallerLemmas.{if_true}
use Rattle.script_text.specs.declared.script.Object.{Object}
use Rattle.stamp_board.specs.declared.view.Size.{Size}
use Rattle.stamp_board.specs.Rows.{AreColours}
use Rattle.chain_store.specs.declared.hold.Hold.{Hold}
use Rattle.chain_store.specs.declared.region.Region.{Region}
use Rattle.chain_store.specs.Histories.{FitsColumn}
use Rattle.chain_store.specs.Owning.{row_of}
use Rattle.chain_store.specs.Holds.{IsHold}
use Rattle.lawful_run.specs.Callers.{Caller, node_of}
use Rattle.lawful_run.specs.Callers.{row_taken as row_on}
use Rattle.client_law.proofs.CallerLemmas.{wants_are_starts}
use Rattle.log_client.specs.declared.store.Store.{Store}
use Rattle.log_client.specs.declared.client.Client.{Client}
use Rattle.log_client.specs.Clients.{holds_of, nodes_of_rows, starts_of, caller_of, IsClient, Keeps}
use Rattle.log_client.specs.Appends.{next_node}
use Rattle.log_client.proofs.Going.AtHome.{are_regions}

-- the hold that the code reads is the client's of its region
pub hold_read : (s : Store) (c : Client) (g : Hold) → IsClient s c → g ≡ slice_index_or c.holds.items c.region g
    → slice_get (holds_of c) c.region ≡ Some g
hold_read s c g is read =
    let many = is.holds.0 in
    let within = is.region in
    slice_get_read (holds_of c) (length (holds_of c)) c.region g refl (omega (arith, many, within)) read

map_alike : {A B : Type 0} (f g : A → B) → ((x : A) → f x ≡ g x) → (xs : List A) → map f xs ≡ map g xs
map_alike f g same [] = refl
map_alike f g same (x ∷ xs) = λ i. same x i ∷ map_alike f g same xs i

-- several colours take a row
pub row_on_several : (client rows : ℕ) (colours : List ℕ) → 2 ≤ length colours
    → row_on client rows colours ≡ Some (row_of client rows)
row_on_several client rows colours two =
    if_true (nat_lt 1 (length colours)) (Some (row_of client rows)) None (lt-ltb 1 (length colours) (omega (arith, two)))

module _ (s : Store) (c : Client) (r : Region) (g : Hold) (colours : Colours) (text : List ℕ) (x : Node)
    (is : IsClient s c) (there : slice_get s.regions c.region ≡ Some r)
    (at_g : slice_get (holds_of c) c.region ≡ Some g) (x_is : x ≡ next_node c colours text) where
  pub number_is : g.passes.number ≡ c.number
  number_is = is.numbers c.region g at_g

  pub rests_there : IsHold r g
  rests_there = is.holds.1 c.region r g there at_g

  pub used_is : length (nodes_of_rows c) ≡ g.seat.used
  used_is = (is.home g at_g).rows.many

  few_rows : g.seat.used ≤ 4096
  few_rows = by_used g.seat.used refl where
    by_used : (u : ℕ) → g.seat.used ≡ u → g.seat.used ≤ 4096
    by_used zero e = omega (arith, e)
    by_used (suc u) e =
        let on = (rests_there.owns.fit u (omega (arith, e))).on_board.1 in
        let most = r.board.is_size.few_rows in
        omega (arith, e, on, most)

  pub counts_on : c.count + 1 < 9223372036854775808
  counts_on =
      let counted = (is.home g at_g).counted in
      let low = is.floored in
      let few = few_rows in
      omega (arith, counted, low, few)

  pub appends_next : (x.id.client ≡ g.passes.number) × (g.next ≤ x.id.count)
  appends_next =
      let id = ap (λ (y : Node). y.id) x_is in
      let low = (is.home g at_g).next in
      let at = ap (λ (i : Id). i.count) id in
      (ap (λ (i : Id). i.client) id ∙ sym number_is, omega (arith, low, at))

  pub id_counted : x.id.count < 9223372036854775808
  id_counted =
      let few = counts_on in
      let at = ap (λ (y : Node). y.id.count) x_is in
      omega (arith, few, at)

  pub floor_in_range : x.floor ≤ MAX_STAMP
  floor_in_range = subst (λ (y : Node). y.floor ≤ MAX_STAMP) (sym x_is) is.floored

  pub of_region : x.region ≡ r.number
  of_region = ap (λ (y : Node). y.region) x_is ∙ sym (are_regions s c.region r there).0

  pub id_listed : x.id ≡ record { client = c.number; count = length is.nodes }
  id_listed = ap (λ (y : Node). y.id) x_is ∙ (λ i. record { client = c.number; count = sym is.nodes_count i })

  -- it fits the column of one of its colours
  pub fits_column : (k : ℕ) → has colours k ≡ true → FitsColumn r.number k x
  fits_column k of = record {
    in_region = of_region;
    coloured = subst (λ (y : Node). has y.colours k ≡ true) (sym x_is) of;
    counted = id_counted;
    floored = floor_in_range;
  }

  -- several colours
  pub on_row : 2 ≤ length (members colours) → x.row ≡ Some (row_of g.passes.number g.seat.used)
  on_row two =
      ap (λ (y : Node). y.row) x_is ∙ row_on_several c.number (length (nodes_of_rows c)) (members colours) two
      ∙ (λ i. Some (record { client = sym number_is i; number = used_is i }))

  pub on_board : AreColours s.size colours → AreColours r.board.size x.colours
  on_board are =
      subst (λ (z : Size). AreColours z x.colours) (sym (s.fit.each c.region r there).size)
      (subst (λ (y : Node). AreColours s.size y.colours) (sym x_is) are)

  -- WHAT IS KEPT

  module _ (objects : List Object) (kept : Kept) (keeps : Keeps s c objects kept) where
    abbrev caller : Caller
    caller = caller_of s c objects

    starts_are : map kept.starts (members colours) ≡ map (starts_of c) (members colours)
    starts_are = map_alike kept.starts (starts_of c) keeps.starts (members colours)

    -- it is the node of the client's command
    pub node_is : node_of caller kept colours text ≡ x
    node_is = (λ i. record {
      id = record { client = c.number; count = keeps.ids i };
      region = c.region;
      colours = colours;
      text = text;
      floor = keeps.floor i;
      wants = starts_are i;
      row = row_on c.number (keeps.rows i) (members colours);
    }) ∙ sym x_is

    pub wants_kept : (k : ℕ) → Contains (members colours) k → node_wants x k ≡ kept.starts k
    wants_kept k in_colours =
        ap (λ (y : Node). node_wants y k) (sym node_is) ∙ wants_are_starts caller kept colours text k in_colours

    pub id_kept : x.id ≡ record { client = c.number; count = kept.ids }
    id_kept = ap (λ (y : Node). y.id) x_is ∙ (λ i. record { client = c.number; count = sym keeps.ids i })

    pub floor_kept : x.floor ≡ kept.floor
    floor_kept = ap (λ (y : Node). y.floor) x_is ∙ sym keeps.floor

    pub rows_kept : kept.rows ≡ g.seat.used
    rows_kept = keeps.rows ∙ used_is
