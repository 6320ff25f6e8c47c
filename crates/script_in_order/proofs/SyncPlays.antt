-- What a sync plays.
use Rattle.std.proofs.Common.{◌≡◌, ℕ, zero, suc, ◌-◌, ◌<◌, ◌≤◌, max, Bool, true, false, List, [], ◌∷◌, length, map}
use Rattle.std.proofs.Common.{Option, Some, None, refl, ap, sym, subst, ◌∙◌, arith}
use Rattle.std.specs.Prelude.{slice_get, unwrap_or, slice_index_or, nat_lt, ◌&&◌, if◌then◌else◌}
use Rattle.std.specs.Option.{option_map}
use Rattle.std.proofs.lemmas.Bool.{lt-ltb}
use Rattle.log_node.specs.declared.ids.Counts.{Counts}
use Rattle.log_node.specs.declared.node.Head.{Head}
use Rattle.log_node.specs.declared.node.Node.{Node}
use Rattle.log_node.specs.Seen.{PlacedNode}
use Rattle.log_node.specs.Vectors.{at, vector, is_within, IsWithin}
use Rattle.col_core.specs.declared.view.View.{View}
use Rattle.log_node.specs.Reach.{Chains, Reachable}
use Rattle.col_core.specs.Computed.{dated}
use Rattle.col_core.specs.PlayOrder.{Place}
use Rattle.col_core.proofs.CallerLemmas.{cut-is_greatest, reached_within, within-at}
use Rattle.world_laws.specs.Worlds.{World, no_row, home_of, home_history, base_after, played_cut, may_play, after}
use Rattle.world_laws.specs.declared.steps.Step.TheVariants.{Play}
use Rattle.world_code.specs.Looks.{IsLook}
use Rattle.playback.specs.Orders.{play_order}
use Rattle.playback.specs.Playing.{ShowsChains, ArePlayed, item_at}
use Rattle.playback.proofs.CallerLemmas.{shown_at, IsAhead, shows_chains, played_items}
use Rattle.script_text.specs.declared.script.Command.{Command}
use Rattle.report_text.specs.declared.report.Answer.TheVariants as answers
use Rattle.script_meaning.specs.States.{State, all_granted, answered}
use Rattle.script_meaning.specs.Moves.{synced, node_placed, placed_at, no_head, home_chains, nodes_unplayed}
use Rattle.script_in_order.specs.Doing.{DoneBy, with_replies}

as_placed : (w : World) (i : PlacedNode) → slice_get (w.nodes i.head.key.id.client) i.head.key.id.count ≡ Some i.node
    → i ≡ node_placed w i.head
as_placed w i is =
    ap (λ (o : Option Node). let p : PlacedNode = record { head = i.head; node = unwrap_or o no_row.node } in p)
    (sym is)

found_at : {A : Type 0} (xs : List A) (n : ℕ) (d : A) → n < length xs → slice_get xs n ≡ Some (slice_index_or xs n d)
found_at [] n d lt = absurd (let f : ⊥ = omega (arith, lt) in f)
found_at (x ∷ xs) zero d lt = refl
found_at (x ∷ xs) (suc n) d lt = found_at xs n d (omega (arith, lt))

-- the number in a vector of four
vector_at : (f : ℕ → ℕ) (region : ℕ) → region < 4 → at (vector f) region ≡ f region
vector_at f zero lt = refl
vector_at f (suc zero) lt = refl
vector_at f (suc (suc zero)) lt = refl
vector_at f (suc (suc (suc zero))) lt = refl
vector_at f (suc (suc (suc (suc n)))) lt = absurd (let f : ⊥ = omega (arith, lt) in f)

-- an item with the head of a chain is that node
item_is : (w : World) (o : Option PlacedNode) (head : Head) → option_map (λ (i : PlacedNode). i.head) o ≡ Some head
    → ((i : PlacedNode) → o ≡ Some i → slice_get (w.nodes i.head.key.id.client) i.head.key.id.count ≡ Some i.node)
    → o ≡ Some (node_placed w head)
item_is w None head is each = absurd (let f : ⊥ = cc in f)
item_is w (Some i) head is each =
    let same : i.head ≡ head = cc in
    ap (λ (p : PlacedNode). Some p) (as_placed w i (each i refl) ∙ ap (node_placed w) same)

module _ (w : World) (client colour : ℕ) (view : View) (look : IsLook w client colour view) where
  abbrev home : ℕ
  home = home_of w client

  abbrev from : Counts
  from = (w.clients client).played colour

  abbrev chains : Chains
  chains = home_chains w client colour

  shows : ShowsChains view chains
  shows = shows_chains view chains (λ r lt. (look.items r lt).heads)

  reach : Reachable chains view.cut
  reach = subst (Reachable chains) (sym look.cut)
      (cut-is_greatest home (dated home (home_history w client colour))).reached

  -- where none of them is trimmed, the view starts no later than these counts
  starts : IsWithin view.base from → (region : ℕ) → region < 4 → at view.from region ≤ at from region
  starts inside region lt =
      let is : at view.from region ≡ max (at from region) (at view.base region) =
      ap (λ (v : Counts). at v region) look.start
      ∙ vector_at (λ r. max (at from r) (at view.base r)) region lt in
      let low = within-at view.base from inside region lt in
      omega (arith, is, low)

  -- the view shows the node at each place that is played
  each : IsWithin view.base from → (place : Place) → IsAhead from view.cut place
      → item_at view place ≡ Some (placed_at w chains place)
  each inside place ahead =
      let region = place.region in
      let begin = starts inside region ahead.0 in
      let here : at from region ≤ place.position = ahead.1 in
      let past : at view.from region ≤ place.position = omega (arith, begin, here) in
      let reaches = reached_within chains reach region ahead.0 in
      let there : place.position < at view.cut region = ahead.2 in
      let short : place.position < length (chains region) = omega (arith, there, reaches) in
      item_is w (item_at view place) (slice_index_or (chains region) place.position no_head)
      (shown_at view chains shows place ahead.0 past ahead.2 ∙ found_at (chains region) place.position no_head short)
      (λ i is. (look.items region ahead.0).nodes (place.position - at view.from region) i is)

  -- what a play of the view gives are the nodes that the client plays
  pub are_played : IsWithin view.base from → (items : List PlacedNode)
      → ((chains : Chains) → ShowsChains view chains → Reachable chains view.cut → ArePlayed view chains from items)
      → items ≡ nodes_unplayed w client colour
  are_played inside items played =
      played_items view chains from items (played chains shows reach) (placed_at w chains) (each inside)
      ∙ ap (λ (v : Counts). map (placed_at w chains) (play_order chains from v)) look.cut

-- a client may play where its column is there, and no node that it has not played is trimmed
pub plays_just : (w : World) (client colour : ℕ) (base : Counts) → client < length w.shape.homes
    → home_of w client < w.shape.regions → colour < w.shape.colours
    → base ≡ base_after w.shape.regions (home_of w client) (home_history w client colour)
    → may_play w client colour ≡ is_within base ((w.clients client).played colour)
plays_just w client colour base caller home within is =
    ap (λ (b : Bool). b && (nat_lt (home_of w client) w.shape.regions && nat_lt colour w.shape.colours && is_within
    (base_after w.shape.regions (home_of w client) (home_history w client colour)) ((w.clients client).played colour)))
    (lt-ltb client (length w.shape.homes) caller)
    ∙ (ap (λ (b : Bool). (b && nat_lt colour w.shape.colours) && is_within
    (base_after w.shape.regions (home_of w client) (home_history w client colour)) ((w.clients client).played colour))
    (lt-ltb (home_of w client) w.shape.regions home)
    ∙ (ap (λ (b : Bool). b && is_within
    (base_after w.shape.regions (home_of w client) (home_history w client colour)) ((w.clients client).played colour))
    (lt-ltb colour w.shape.colours within)
    ∙ ap (λ (v : Counts). is_within v ((w.clients client).played colour)) (sym is)))

-- a sync that plays
pub plays : (command : Command) (w new : World) (colour events count : ℕ) (counts : Counts) (nodes : List PlacedNode)
    → may_play w command.client colour ≡ true → nodes ≡ nodes_unplayed w command.client colour → count ≡ length nodes
    → events ≡ length (home_history w command.client colour) → counts ≡ played_cut w command.client colour
    → new ≡ after w (Play command.client colour)
    → DoneBy (λ _ state. synced state command colour) command w new
    (answers.Synced (record { colour = colour; events = events; counts = counts }) count) nodes
plays command w new colour events count counts nodes may are many looked upto played = record {
  grants = all_granted;
  begun = refl;
  is = λ replies.
      let state = with_replies w replies in
      let client = command.client in
      let all = nodes_unplayed w client colour in
      let shown : ℕ → Counts → ℕ → List PlacedNode → World → State =
      λ e v n items x.
      answered state command x (answers.Synced (record { colour = colour; events = e; counts = v }) n) items in
      let last = length (home_history w client colour) in
      let cut = played_cut w client colour in
      let refused = answered state command w
      (answers.Trimmed colour (base_after w.shape.regions (home_of w client) (home_history w client colour))) [] in
      ap (λ (b : Bool). if b then shown last cut (length all) all (after w (Play client colour)) else refused) may
      ∙ (ap (λ (x : World). shown last cut (length all) all x) (sym played)
      ∙ (ap (λ (l : List PlacedNode). shown last cut (length l) l new) (sym are)
      ∙ (ap (λ (n : ℕ). shown last cut n nodes new) (sym many)
      ∙ (ap (λ (v : Counts). shown last v count nodes new) (sym upto)
      ∙ ap (λ (e : ℕ). shown e counts count nodes new) (sym looked)))));
}

-- a sync that is refused, since a node that is not played is trimmed
pub refuses : (command : Command) (w : World) (colour : ℕ) (base : Counts)
    → may_play w command.client colour ≡ false
    → base ≡ base_after w.shape.regions (home_of w command.client) (home_history w command.client colour)
    → DoneBy (λ _ state. synced state command colour) command w w (answers.Trimmed colour base) []
refuses command w colour base may is = record {
  grants = all_granted;
  begun = refl;
  is = λ replies.
      let state = with_replies w replies in
      let client = command.client in
      let all = nodes_unplayed w client colour in
      let now = base_after w.shape.regions (home_of w client) (home_history w client colour) in
      let done = answered state command (after w (Play client colour)) (answers.Synced (record {
        colour = colour;
        events = length (home_history w client colour);
        counts = played_cut w client colour;
      }) (length all)) all in
      ap (λ (b : Bool). if b then done else answered state command w (answers.Trimmed colour now) []) may
      ∙ ap (λ (v : Counts). answered state command w (answers.Trimmed colour v) []) (sym is);
}
