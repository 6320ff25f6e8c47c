-- What a play makes of the world.
use Rattle.std.proofs.Common.{◌≡◌, ℕ, ◌<◌, Bool, true, length, get_or, set, max, refl, ap, sym, subst, ◌∙◌}
use Rattle.std.proofs.Common.{arith, length-set}
use Rattle.std.specs.Prelude.{◌&&◌, nat_lt}
use Rattle.std.proofs.lemmas.Bool.{and_parts, and_from, ltb-true, lt-ltb, cond-true}
use Rattle.log_node.specs.declared.ids.Counts.{Counts}
use Rattle.log_node.specs.Vectors.{zeros, is_within, IsWithin}
use Rattle.col_core.specs.Cuts.{chain, base}
use Rattle.col_core.specs.Computed.{dated}
use Rattle.col_core.specs.PlayOrder.{greatest_between}
use Rattle.column.specs.Columns.{ColumnState, cut_of, base_of, history_of}
use Rattle.world_laws.specs.declared.steps.Step.TheVariants as steps
use Rattle.world_laws.specs.Worlds.{home_of, home_history, is_client, is_column, base_after, may_play, after_play}
use Rattle.world_laws.specs.Worlds.{played_cut, played_stamp, with_client}
use Rattle.world_code.specs.Clients.{ClientView, fresh_client}
use Rattle.world_code.specs.WorldView.{WorldView, column_at, client_at, world_of, IsWhole}
use Rattle.world_code.proofs.ChangedParts.{client_world, whole_client}
use Rattle.world_code.proofs.RaiseSteps.{default_free}
use Rattle.world_code.proofs.ChangedRows.{set_updated}

home_there : (code : WorldView) → IsWhole code → (client : ℕ) → client < length code.shape.homes
    → home_of (world_of code) client < code.shape.regions
home_there code w client lt = w.homes client 0 lt

-- the base of the column that a client plays
pub base_is : (code : WorldView) → IsWhole code → (client colour : ℕ) → client < length code.shape.homes
    → colour < code.shape.colours
    → base_of (column_at code.columns (home_of (world_of code) client) colour)
    ≡ base_after code.shape.regions (home_of (world_of code) client) (home_history (world_of code) client colour)
base_is code w client colour lt in_colours =
    let home = home_of (world_of code) client in
    let q = column_at code.columns home colour in
    let p = w.placed home colour (home_there code w client lt) in_colours in
    ap (λ (r : ℕ). base r q.regions (dated r q.journal)) p.in_region
    ∙ ap (λ (n : ℕ). base home n (dated home q.journal)) p.of_regions

-- a client may play exactly where no number of the base is above what it has played
pub may_play_there : (code : WorldView) → IsWhole code → (client colour : ℕ) → client < length code.shape.homes
    → colour < code.shape.colours
    → may_play (world_of code) client colour
    ≡ is_within (base_of (column_at code.columns (home_of (world_of code) client) colour))
    (get_or (client_at code client).played colour zeros)
may_play_there code w client colour lt in_colours =
    let home = home_of (world_of code) client in
    lead (is_client (world_of code) client) _ (lt-ltb client (length code.shape.homes) lt)
    ∙ (lead (is_column (world_of code) home colour) _
    (and_from (nat_lt home code.shape.regions) _ (lt-ltb home code.shape.regions (home_there code w client lt))
    (lt-ltb colour code.shape.colours in_colours))
    ∙ ap (λ (v : Counts). is_within v (get_or (client_at code client).played colour zeros))
    (sym (base_is code w client colour lt in_colours))) where
      lead : (a b : Bool) → a ≡ true → (a && b) ≡ b
      lead a b t = rw t refl

pub record MayPlay (code : WorldView) (client colour : ℕ) : Type 0 where
  pub is_client : client < length code.shape.homes
  pub in_regions : home_of (world_of code) client < code.shape.regions
  pub in_colours : colour < code.shape.colours

pub may_play_is : (code : WorldView) (client colour : ℕ) → may_play (world_of code) client colour ≡ true
    → MayPlay code client colour
may_play_is code client colour t =
    let p = and_parts (is_client (world_of code) client) _ t in
    let q = and_parts (is_column (world_of code) (home_of (world_of code) client) colour) _ p.1 in
    let r = and_parts (nat_lt (home_of (world_of code) client) code.shape.regions) _ q.0 in
    record {
      is_client = ltb-true client (length code.shape.homes) p.0;
      in_regions = ltb-true (home_of (world_of code) client) code.shape.regions r.0;
      in_colours = ltb-true colour code.shape.colours r.1;
    }

abbrev pub played_client : ClientView → ℕ → Counts → ℕ → ClientView
played_client c colour cut stamp = record c { floor = max c.floor stamp; played = set c.played colour cut }

module _ (code : WorldView) (w : IsWhole code) (client colour : ℕ) (may : MayPlay code client colour) where
  abbrev home : ℕ
  home = home_of (world_of code) client

  abbrev pub its_column : ColumnState
  its_column = column_at code.columns home colour

  pub in_clients : client < length code.clients
  in_clients = let n = w.clients in let lt = may.is_client in omega (arith, n, lt)

  pub in_played : colour < length (client_at code client).played
  in_played =
      let all = w.colours client fresh_client in_clients in
      let few = w.few_colours in
      let lt = may.in_colours in
      omega (arith, all, few, lt)

  its_region : its_column.region ≡ home
  its_region = (w.placed home colour may.in_regions may.in_colours).in_region

  pub cut_is : cut_of its_column ≡ played_cut (world_of code) client colour
  cut_is = ap (λ (r : ℕ). cut_of (record its_column { region = r })) its_region

  pub stamp_is : greatest_between (chain its_column.region (history_of its_column))
      (get_or (client_at code client).played colour zeros) (cut_of its_column)
      ≡ played_stamp (world_of code) client colour
  stamp_is =
      ap (λ (r : ℕ). let q : ColumnState = record its_column { region = r } in
      greatest_between (chain r (history_of q)) (get_or (client_at code client).played colour zeros) (cut_of q))
      its_region

  abbrev pub new_client : ClientView
  new_client = played_client (client_at code client) colour (played_cut (world_of code) client colour)
      (played_stamp (world_of code) client colour)

  pub play_world : world_of (record code { clients = set code.clients client new_client })
      ≡ after_play (world_of code) client colour
  play_world =
      client_world code client new_client in_clients refl refl
      ∙ ap (λ (f : ℕ → Counts). with_client (world_of code) client (record ((world_of code).clients client) {
        floor = new_client.floor;
        played = f;
      })) (set_updated (client_at code client).played colour (played_cut (world_of code) client colour) zeros in_played)

  pub play_whole : may_play (world_of code) client colour ≡ true
      → IsWhole (record code { clients = set code.clients client new_client })
  play_whole t =
      whole_client code client new_client (steps.Play client colour) w in_clients
      (length-set (client_at code client).played colour (played_cut (world_of code) client colour)
      ∙ w.colours client fresh_client in_clients) refl refl
      (play_world ∙ sym (cond-true (may_play (world_of code) client colour) _ _ t))

  -- as the code changes the clients
  pub play_list : (old new : ClientView) (cut : Counts) (stamp : ℕ) → old ≡ get_or code.clients client old
      → new ≡ played_client old colour cut stamp → cut ≡ played_cut (world_of code) client colour
      → stamp ≡ played_stamp (world_of code) client colour
      → set code.clients client new ≡ set code.clients client new_client
  play_list old new cut stamp old_is new_is is_cut is_stamp =
      ap (λ (x : ClientView). set code.clients client x)
      (new_is
      ∙ (ap (λ (x : ClientView). played_client x colour cut stamp)
      (old_is ∙ default_free code.clients client old fresh_client in_clients)
      ∙ (ap (λ (v : Counts). played_client (client_at code client) colour v stamp) is_cut
      ∙ ap (λ (s : ℕ). played_client (client_at code client) colour (played_cut (world_of code) client colour) s)
      is_stamp)))

  -- what the code reads of the column
  module _ (at_home : ℕ) (home_is : home ≡ at_home) (now : WorldView) (view : code ≡ now) (column : ColumnState)
      (column_is : column ≡ column_at now.columns at_home colour) where
    column_same : column ≡ its_column
    column_same =
        column_is
        ∙ (ap (λ (k : WorldView). column_at k.columns at_home colour) (sym view)
        ∙ ap (λ (h : ℕ). column_at code.columns h colour) (sym home_is))

    pub code_base : (played : Counts) → (reader : ClientView) → reader ≡ client_at now client
        → played ≡ get_or reader.played colour zeros → may_play (world_of code) client colour ≡ true
        → IsWithin (base_of column) played
    code_base played reader reader_is played_is t =
        let mine = played_is
        ∙ (ap (λ (x : ClientView). get_or x.played colour zeros) reader_is
        ∙ ap (λ (k : WorldView). get_or (client_at k client).played colour zeros) (sym view)) in
        subst (λ (q : ColumnState). IsWithin (base_of q) played) (sym column_same)
        (subst (λ (v : Counts). IsWithin (base_of its_column) v) (sym mine)
        (sym (may_play_there code w client colour may.is_client may.in_colours) ∙ t))

    pub code_region : column.region ≡ at_home
    code_region = ap (λ (q : ColumnState). q.region) column_same ∙ (its_region ∙ home_is)

    pub code_cut : (cut : Counts) → cut ≡ cut_of column → cut ≡ played_cut (world_of code) client colour
    code_cut cut is = is ∙ (ap cut_of column_same ∙ cut_is)

    pub code_list : (reader old new : ClientView) (played cut : Counts) (stamp : ℕ) → reader ≡ client_at now client
        → played ≡ get_or reader.played colour zeros → cut ≡ cut_of column
        → stamp ≡ greatest_between (chain column.region (history_of column)) played (cut_of column)
        → old ≡ get_or code.clients client old → new ≡ played_client old colour cut stamp
        → set code.clients client new ≡ set code.clients client new_client
    code_list reader old new played cut stamp reader_is played_is is_cut is_stamp old_is new_is =
        play_list old new cut stamp old_is new_is (code_cut cut is_cut)
        (is_stamp
        ∙ (ap (λ (q : ColumnState). greatest_between (chain q.region (history_of q)) played (cut_of q)) column_same
        ∙ (ap (λ (v : Counts). greatest_between (chain its_column.region (history_of its_column)) v (cut_of its_column))
        (played_is
        ∙ (ap (λ (x : ClientView). get_or x.played colour zeros) reader_is
        ∙ ap (λ (k : WorldView). get_or (client_at k client).played colour zeros) (sym view)))
        ∙ stamp_is)))
