-- What a client keeps after events of its own and after looks.
use Rattle.std.proofs.Common.{◌≡◌, ℕ, ◌+◌, ◌≤◌, List, [], ◌∷◌, ◌++◌, length, true, Some, refl, ap, sym, subst, ◌∙◌, arith, eq-eqb}
use Rattle.std.specs.Prelude.{◌&&◌, slice_get}
use Rattle.std.specs.List.{All}
use Rattle.std.proofs.lemmas.List.Elements.{All-nil, All-cons}
use Rattle.col_core.specs.declared.Event.{Event}
use Rattle.col_core.specs.declared.Entry.{Entry}
use Rattle.col_core.specs.Log.{is_own, places_of}
use Rattle.col_core.specs.Keeping.{Kept, updated_at, kept_after_event, kept_after_look}
use Rattle.lawful_run.specs.Callers.{Caller}
use Rattle.lawful_run.proofs.CallerLemmas.{get_within}
use Rattle.client_law.specs.Knowing.{Seen, SeesOn}
use Rattle.client_law.specs.Making.{own_steps, is_own_step, places_since, IsOwnStepAt, RiseFrom}
use Rattle.client_law.specs.Kept.{IsKeptBy, KeptAfterEvent, KeptAfterLook}
use Rattle.client_law.proofs.Lists.{at_new_at}
use Rattle.client_law.proofs.Counting.{places_grow, places_counted}
use Rattle.client_law.proofs.Keeping.{keeps_on, seen_on, known_on, under_on, made_on}

-- an event of the client's own kind that it made is an own step
pub own_step : (client : ℕ) (ev : Event) (stamp : ℕ) → is_own client ev ≡ true
    → is_own_step client (record { by = client; event = ev; stamp = stamp }) ≡ true
own_step client ev stamp own = ap (λ b. b && is_own client ev) (eq-eqb client client refl) ∙ own

-- a fact of a column is one of the same column by other names
pub at_column : (P : ℕ → ℕ → Type 0) (r c region colour : ℕ) → r ≡ region → c ≡ colour → P region colour → P r c
at_column P r c region colour er ec h = subst (λ (x : ℕ). P x c) (sym er) (subst (λ (x : ℕ). P region x) (sym ec) h)

module _ (caller : Caller) (old new : Seen) (kept : Kept) (on : SeesOn caller old new)
    (k : IsKeptBy old caller kept) where
  -- its places in a column where it made steps at these places
  pub made_here : (region colour : ℕ) (places : List ℕ)
      → length (own_steps caller.client (new region colour))
      ≡ length (own_steps caller.client (old region colour)) + length places
      → RiseFrom (length (old region colour)) places
      → All (IsOwnStepAt caller.client (old region colour) (new region colour)) places
      → places_of caller.client (new region colour) ≡ kept.made region colour ++ places
  made_here region colour places many rise all =
      places_grow caller.client (old region colour) (new region colour) (on.more region colour)
      ∙ (ap (λ (l : List ℕ). l ++ places_since caller.client (old region colour) (new region colour))
      (k.steps_made region colour)
      ∙ ap (λ (l : List ℕ). kept.made region colour ++ l)
      (places_counted caller.client (old region colour) (new region colour) places (on.more region colour) many rise all))

  -- one place
  pub made_one : (region colour place : ℕ)
      → length (own_steps caller.client (new region colour))
      ≡ length (own_steps caller.client (old region colour)) + 1
      → IsOwnStepAt caller.client (old region colour) (new region colour) place
      → places_of caller.client (new region colour) ≡ kept.made region colour ++ place ∷ []
  made_one region colour place one step =
      made_here region colour (place ∷ []) one (step.0, tt)
      (All-cons (IsOwnStepAt caller.client (old region colour) (new region colour)) place [] step
      (All-nil (IsOwnStepAt caller.client (old region colour) (new region colour))))

  -- what has been seen of a column, and of the others what was seen
  pub seen_here : (region colour events : ℕ) → events ≤ length (new region colour) → (r c : ℕ)
      → updated_at kept.seen region colour events r c ≤ length (new r c)
  seen_here region colour events there r c =
      at_new_at (λ (n : ℕ). n ≤ length (new r c)) kept.seen region colour events r c
      (λ er ec. at_column (λ a b. events ≤ length (new a b)) r c region colour er ec there)
      (λ _. seen_on caller old new kept on k r c)

-- a place that holds an entry is seen
pub place_seen : (history : List Entry) (place : ℕ) (e : Entry) → slice_get history place ≡ Some e
    → place + 1 ≤ length history
place_seen history place e there = let a = get_within history place e there in omega (arith, a)

pub kept_after : KeptAfterEvent
kept_after caller old new kept region colour place on m k step =
    keeps_on caller old new kept (kept_after_event kept region colour place) on k refl (omega arith)
    (seen_here caller old new kept on k region colour (place + 1)
    (place_seen (new region colour) place step.1 step.2))
    (known_on caller old new kept on k) (λ c. under_on caller old new kept on k kept.floor c (omega arith))
    (λ r c. at_new_at (λ (l : List ℕ). places_of caller.client (new r c) ≡ l) kept.made region colour
    (kept.made region colour ++ place ∷ []) r c
    (λ er ec. at_column (λ a b. places_of caller.client (new a b) ≡ kept.made region colour ++ place ∷ []) r c
    region colour er ec (made_one caller old new kept on k region colour place m.here step))
    (λ ne. made_on caller old new kept on k r c (m.others r c ne)))

pub kept_after_looking : KeptAfterLook
kept_after_looking caller old new kept region colour seen on none k there =
    keeps_on caller old new kept (kept_after_look kept region colour seen) on k refl (omega arith)
    (seen_here caller old new kept on k region colour seen there)
    (known_on caller old new kept on k) (λ c. under_on caller old new kept on k kept.floor c (omega arith))
    (λ r c. made_on caller old new kept on k r c (none r c))
