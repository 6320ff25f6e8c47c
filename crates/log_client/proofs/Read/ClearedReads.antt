-- Columns that a client clears up to a stamp: it makes nothing of its own.
use Rattle.std.proofs.Common.{◌≡◌, ℕ, ◌≤◌, List, [], length, Some, refl, sym, subst, ◌∙◌, inl, inr, arith, eqb-true}
use Rattle.std.specs.Prelude.{IsTrue, slice_get, slice_index_or, ◌==◌}
use Rattle.std.specs.List.{All}
use Rattle.std.specs.Vec.{with_item}
use Rattle.std.proofs.lemmas.Bool.{cases_eq}
use Rattle.std.proofs.lemmas.List.Elements.{All-weaker}
use Rattle.std.proofs.lemmas.Option.{slice_get_read}
use Rattle.log_node.specs.declared.ids.Id.{Id}
use Rattle.log_node.specs.declared.ids.Row.{Row}
use Rattle.col_core.specs.declared.Event as event_types
use Rattle.col_core.specs.declared.Event.TheVariants as events
use Rattle.col_core.specs.declared.Entry.{Entry}
use Rattle.col_core.specs.History.{clock}
use Rattle.col_core.specs.Ids.{IsStepOf}
use Rattle.col_core.specs.Log.{is_own}
use Rattle.col_core.proofs.CallerLemmas.{both}
use Rattle.stamp_board.specs.Seats.{IsLater}
use Rattle.chain_store.specs.declared.hold.Hold.{Hold}
use Rattle.chain_store.specs.declared.region.Region.{Region}
use Rattle.chain_store.specs.Going.{GoesOn}
use Rattle.chain_store.specs.Rows.{OneNode}
use Rattle.chain_store.specs.Holds.{IsHold, entries_seen, view_of}
use Rattle.chain_store.proofs.CallerLemmas.{goes_weaken}
use Rattle.append_core.specs.Helping.{HelpsOpen}
use Rattle.append_core.proofs.CallerLemmas.{helped_complete}
use Rattle.client_law.specs.Making.{MakesNone, own_steps}
use Rattle.client_law.proofs.CallerLemmas.{kept_stays}
use Rattle.log_client.specs.declared.store.Store.{Store}
use Rattle.log_client.specs.declared.client.Client.{Client}
use Rattle.log_client.specs.Clients.{holds_of, seen_of, nodes_of_rows, caller_of, IsClient, AreBegunRows, Finished}
use Rattle.log_client.specs.Reading.{RestsOn, KeepsAll, IsCleared, AreCleared, home_seen}
use Rattle.log_client.proofs.Known.Seeing.{seen_there}
use Rattle.log_client.proofs.Known.Steps.{none_since, same_there, steps_of_goes}
use Rattle.log_client.proofs.Going.Helping.{helps_at_home}
use Rattle.log_client.proofs.Known.Foreign.{Accounted, goes_accounted, foreign}
use Rattle.log_client.proofs.Going.AtHome.{ChangesHome, have_gone_on, home_after, others_after, sees_after}
use Rattle.log_client.proofs.Going.Growing.{grown_same}
use Rattle.log_client.proofs.Going.Looked.{IsPlain, finished_stays, client_looked, tracks_stay}

step_plain : (id : Id) (e : event_types.Event) → IsStepOf id e → IsPlain e
step_plain id (events.Single other floor wants) s = absurd s
step_plain id (events.Propose other floor wants) s = tt
step_plain id (events.Settle other outcome) s = tt
step_plain id (events.Raise to) s = absurd s
step_plain id (events.Give region from) s = absurd s
step_plain id (events.Carry region start heads) s = absurd s
step_plain id (events.Trim counts) s = absurd s

-- the hold of its region
pub clear_there : (s : Store) (c : Client) (g : Hold) → IsClient s c → g ≡ slice_index_or c.holds.items c.region g
    → slice_get (holds_of c) c.region ≡ Some g
clear_there s c g is hold =
    let many = is.holds.0 in
    let within = is.region in
    slice_get_read (holds_of c) (length (holds_of c)) c.region g refl (omega (arith, many, within)) hold

-- the clocks that it has seen
pub clear_reached : (c : Client) (g : Hold) (stamp : ℕ) (colours : List ℕ) → slice_get (holds_of c) c.region ≡ Some g
    → All (λ k. stamp ≤ clock (home_seen c k)) colours → All (λ k. stamp ≤ clock (entries_seen g k)) colours
clear_reached c g stamp colours at all =
    All-weaker (λ k. stamp ≤ clock (home_seen c k)) (λ k. stamp ≤ clock (entries_seen g k))
    (λ k x. subst (λ (l : List Entry). stamp ≤ clock l) (seen_there (holds_of c) c.region g at k) x) colours all

module _ (s : Store) (c : Client) (r : Region) (g h : Hold) (is : IsClient s c)
    (there : slice_get s.regions c.region ≡ Some r) (hold : g ≡ slice_index_or c.holds.items c.region g)
    (rests : IsHold r h) (later : IsLater g.seat h.seat) (next : h.next ≡ g.next)
    (goes : GoesOn (λ i e. HelpsOpen g h e) g h) (one : (row : Row) → OneNode (view_of h) row) where
  abbrev d : Client
  d = record c { holds = with_item c.holds c.region h }

  at_g : slice_get (holds_of c) c.region ≡ Some g
  at_g =
      let many = is.holds.0 in
      let within = is.region in
      slice_get_read (holds_of c) (length (holds_of c)) c.region g refl (omega (arith, many, within)) hold

  number : g.passes.number ≡ c.number
  number = is.numbers c.region g at_g

  changed : ChangesHome s c d r g h
  changed = record {
    number = refl;
    region = refl;
    there = there;
    before = at_g;
    changed = refl;
    rests = rests;
    on = record {
      number = goes.number;
      more = goes.more;
      size = later.grows.size;
      learns = record { known = later.grows.known; begun = later.grows.begun };
    };
  }

  at_h : slice_get (holds_of d) c.region ≡ Some h
  at_h = home_after s c d r g h is changed

  plain : GoesOn (λ i e. IsPlain e) g h
  plain = goes_weaken (λ i e. HelpsOpen g h e) g h (λ i e. IsPlain e) (λ i e m. step_plain m.0 e m.1) goes

  pub clear_rests : RestsOn s c d
  clear_rests = record {
    client = client_looked s c d r g h is changed plain later.used next (omega arith) is.floored refl refl refl
        (tracks_stay s c d r g h is changed refl)
        (helps_at_home s c d r g h is changed (λ i e. HelpsOpen g h e) goes
        (λ i e m help id step. helped_complete g h e m id step));
    same = (refl, refl);
    goes = have_gone_on s c d r g h is changed;
    grows = grown_same c d refl;
    finished = finished_stays s c d r g h is changed refl;
  }

  -- what it made is not its own
  abbrev Others : event_types.Event → Type 0
  Others e = HelpsOpen g h e × Accounted r g h rests e

  none_own : Finished c → (e : event_types.Event) → Others e → IsTrue (is_own c.number e) → ⊥
  none_own finished e made own =
      foreign r g h rests changed.on one (nodes_of_rows c)
      (subst (λ (z : ℕ). AreBegunRows z g (nodes_of_rows c)) (sym (goes.number ∙ number)) (is.home g at_g).rows)
      (finished g at_g) later.used e made.0 made.1
      (subst (λ (z : ℕ). IsTrue (is_own z e)) (sym (goes.number ∙ number)) own)

  none_made : Finished c → MakesNone c.number (seen_of c) (seen_of d)
  none_made finished region colour = elim (cases_eq region c.region) [
    | inl home ↦
        subst (λ (n : ℕ). own_steps c.number (seen_of d n colour) ≡ own_steps c.number (seen_of c n colour)) (sym home)
        (none_since c.number (seen_of c c.region colour) (seen_of d c.region colour)
        ((sees_after s c d r g h is changed []).more c.region colour)
        (λ place e new at own.
        let p = both (e.by == c.number) (is_own c.number e.event) own in
        steps_of_goes (holds_of c) (holds_of d) (caller_of s d []) g h at_g at_h number (λ i f. Others f)
        (sees_after s c d r g h is changed []) (goes_accounted r g h rests (λ i f. HelpsOpen g h f) goes) (λ f. ⊥) colour
        (λ f made mine. none_own finished f made mine) place e new at (eqb-true e.by c.number p.0) p.1))
    | inr away ↦
        same_there (holds_of c) (holds_of d) c.number region colour (others_after s c d r g h is changed region away)
  ]

  pub clear_keeps : KeepsAll s c d
  clear_keeps objects kept finished keeps = (
    record {
      by = kept_stays (caller_of s d objects) (seen_of c) (seen_of d) kept (sees_after s c d r g h is changed objects)
          (none_made finished) keeps.by;
      floor = keeps.floor;
      ids = keeps.ids;
      rows = keeps.rows;
      starts = keeps.starts;
    },
    λ rest fits. tt,
  )

  pub clear_clears : (stamp : ℕ) (colours : List ℕ) → All (λ k. IsCleared stamp (entries_seen h k)) colours
      → AreCleared d stamp colours
  clear_clears stamp colours all =
      All-weaker (λ k. IsCleared stamp (entries_seen h k)) (λ k. IsCleared stamp (home_seen d k))
      (λ k x. subst (IsCleared stamp) (sym (seen_there (holds_of d) c.region h at_h k)) x) colours all
