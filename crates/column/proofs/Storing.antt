-- Stored entries: what one more event of the journal, one more entry and a settling leave true of them.
use Rattle.std.proofs.Common.{◌≡◌, ℕ, Bool, true, false, List, [], ◌∷◌, ◌++◌, length, Some, None, refl, ap, subst, ◌∙◌}
use Rattle.std.specs.Prelude.{not, slice_get, Option}
use Rattle.std.specs.List.{AllByRecursion, find}
use Rattle.std.proofs.lemmas.Bool.{or_left, or_right, cond_both}
use Rattle.std.proofs.lemmas.List.Folds.{list_any-append}
use Rattle.std.proofs.lemmas.Option.{same_Some, none-some}
use Rattle.log_node.specs.declared.ids.Id.{Id}
use Rattle.log_node.specs.Order.{same_id, key_below}
use Rattle.log_node.specs.Sets.{has}
use Rattle.log_node.specs.declared.marks.Outcome.{Outcome}
use Rattle.log_node.specs.declared.marks.Outcome.TheVariants.{Open, Gone, Final}
use Rattle.skeen_core.specs.declared.waiting.Waiting.{Waiting}
use Rattle.log_node.specs.Standings.{is_open_id}
use Rattle.skeen_core.specs.Queues.{standing_of, final_entry, with_stored, stored_without, with_found, settled_stored}
use Rattle.skeen_core.proofs.CallerLemmas.{each-weaker, each-filter}
use Rattle.col_core.specs.declared.Entry.{Entry}
use Rattle.col_core.specs.History.{enters, has_entered}
use Rattle.col_core.specs.Cuts.{Dated, needs_in, needs_of}
use Rattle.col_core.specs.Computed.{cut, dated}
use Rattle.col_core.proofs.CallerLemmas.{dated-append, slice_longer}
use Rattle.column.specs.Entering.{EnteredNode}
use Rattle.column.specs.Inside.{IsEntered, EntersNode}
use Rattle.column.specs.Columns.{HasRow}
use Rattle.column.proofs.Histories.{same_entries, needs_stay, needs_first}
pub use Rattle.log_node.proofs.CallerLemmas.{get_last as got_last}

module _ (region colour : ℕ) (journal : List Entry) (e : Entry) where
  abbrev date : Dated
  date = record { entry = e; cut_before = cut region (dated region journal) }

  -- a stored entry stays one
  pub entered-more : (w : Waiting EnteredNode) → IsEntered region colour journal w
      → IsEntered region colour (journal ++ e ∷ []) w
  entered-more w h = record {
    id = h.id;
    in_region = h.in_region;
    in_colour = h.in_colour;
    entered =
        list_any-append (λ (d : Entry). enters w.key.id d.event) journal (e ∷ [])
        ∙ or_left (has_entered w.key.id journal) _ h.entered;
    by_event =
        let b = h.by_event in (b.0, b.1, slice_longer journal (e ∷ []) b.0 b.1 b.2, b.3);
    needs =
        ap (λ (ds : List Dated). needs_of ds w.key.id) (dated-append region journal e)
        ∙ (needs_stay (dated region journal) date w.key.id
        (ap (has_entered w.key.id) (same_entries region journal) ∙ h.entered) ∙ h.needs);
    row = h.row;
  }

  -- the entry of a node that enters by the event
  pub entered-new : (w : Waiting EnteredNode) → has_entered w.key.id journal ≡ false → enters w.key.id e.event ≡ true
      → w.thing.node.id ≡ w.key.id → w.thing.node.region ≡ region → has w.thing.node.colours colour ≡ true
      → EntersNode colour w.thing.node e.event → needs_in e.event (cut region (dated region journal)) ≡ w.thing.needs
      → HasRow w.settled w.thing.node → IsEntered region colour (journal ++ e ∷ []) w
  entered-new w fresh now its_id in_region in_colour by_event needs row = record {
    id = its_id;
    in_region = in_region;
    in_colour = in_colour;
    entered =
        list_any-append (λ (d : Entry). enters w.key.id d.event) journal (e ∷ [])
        ∙ or_right (has_entered w.key.id journal) _ (or_left (enters w.key.id e.event) false now);
    by_event = (length journal, e, got_last journal e, by_event);
    needs =
        ap (λ (ds : List Dated). needs_of ds w.key.id) (dated-append region journal e)
        ∙ (needs_first (dated region journal) date w.key.id
        (ap (has_entered w.key.id) (same_entries region journal) ∙ fresh) now ∙ needs);
    row = row;
  }

  pub all-more : (ws : List (Waiting EnteredNode)) → AllByRecursion (IsEntered region colour journal) ws
      → AllByRecursion (IsEntered region colour (journal ++ e ∷ [])) ws
  all-more ws h = each-weaker (IsEntered region colour journal) (IsEntered region colour (journal ++ e ∷ []))
      entered-more ws h

module _ (region colour : ℕ) (journal : List Entry) where
  abbrev IsIn : Waiting EnteredNode → Type 0
  IsIn = IsEntered region colour journal

  -- an entry that became final
  entered-final : (f : ℕ) (w : Waiting EnteredNode) → IsIn w → IsIn (final_entry f w)
  entered-final f w h = record {
    id = h.id;
    in_region = h.in_region;
    in_colour = h.in_colour;
    entered = h.entered;
    by_event = h.by_event;
    needs = h.needs;
    row = tt;
  }

  all-with : (w : Waiting EnteredNode) (ws : List (Waiting EnteredNode)) → IsIn w → AllByRecursion IsIn ws
      → AllByRecursion IsIn (with_stored w ws)
  all-with w [] here h = (here, tt)
  all-with w (v ∷ vs) here h =
      cond_both (key_below w.key v.key) (w ∷ v ∷ vs) (v ∷ with_stored w vs) (λ us. AllByRecursion IsIn us)
      (λ _. (here, h)) (λ _. (h.0, all-with w vs here h.1))

  found-in : (test : Waiting EnteredNode → Bool) (ws : List (Waiting EnteredNode)) (w : Waiting EnteredNode)
      → AllByRecursion IsIn ws → find test ws ≡ Some w → IsIn w
  found-in test [] w h is = absurd (none-some w is)
  found-in test (v ∷ vs) w h is =
      cond_both (test v) (Some v) (find test vs) (λ o. o ≡ Some w → IsIn w)
      (λ _ e. subst IsIn (same_Some v w e) h.0) (λ _ e. found-in test vs w h.1 e) is

  all-found : (f : ℕ) (o : Option (Waiting EnteredNode)) (ws : List (Waiting EnteredNode))
      → ((w : Waiting EnteredNode) → o ≡ Some w → IsIn w) → AllByRecursion IsIn ws
      → AllByRecursion IsIn (with_found f o ws)
  all-found f None ws found h = h
  all-found f (Some w) ws found h = all-with (final_entry f w) ws (entered-final f w (found w refl)) h

  -- after a settling
  pub all-settled : (id : Id) (outcome : Outcome) (ws : List (Waiting EnteredNode)) → AllByRecursion IsIn ws
      → AllByRecursion IsIn (settled_stored id outcome ws)
  all-settled id Open ws h = h
  all-settled id (Gone why) ws h = each-filter IsIn (λ w. not (same_id w.key.id id)) ws h
  all-settled id (Final f) ws h =
      all-found f (find (λ (w : Waiting EnteredNode). is_open_id id (standing_of w)) ws) (stored_without id ws)
      (λ w is. found-in (λ (v : Waiting EnteredNode). is_open_id id (standing_of v)) ws w h is)
      (each-filter IsIn (λ w. not (same_id w.key.id id)) ws h)
