-- One event of a client's own command: what the client then keeps.
use Rattle.std.proofs.Common.{◌≡◌, ℕ, ◌+◌, ◌≤◌, List, [], ◌∷◌, ◌++◌, length, true, false, refl, subst, ap, sym, ◌∙◌, inl, inr, ◌⊎◌, arith, length-append}
use Rattle.std.specs.Prelude.{nat_lt, ◌==◌, ◌&&◌}
use Rattle.std.proofs.lemmas.Bool.{and_from, eq-eqb}
use Rattle.log_node.specs.declared.ids.Id.{Id}
use Rattle.log_node.specs.declared.ids.Row.{Row}
use Rattle.col_core.specs.declared.Entry.{Entry}
use Rattle.col_core.specs.History.{line}
use Rattle.col_core.specs.Log.{IsLater, is_own, places_from, places_of}
use Rattle.col_core.specs.Keeping.{Kept, updated_at}
use Rattle.col_core.proofs.CallerLemmas.{if_true, apart, Status, after_event}
use Rattle.world_laws.specs.Worlds.{World, ClientState, home_of, is_begun, with_last, with_client}
use Rattle.world_laws.specs.Laws.{log_of}
use Rattle.world_laws.proofs.CallerLemmas.{at_updated, at_updated_at, updated_at-here, updated_at-not, at_last}
use Rattle.lawful_run.proofs.CallerLemmas.{prefix_length}
use Rattle.script_meaning.proofs.World.Clearing.{Finished}
use Rattle.script_meaning.proofs.Client.Kept.{IsKeptBy}
use Rattle.script_meaning.proofs.World.Additions.{places_more}
use Rattle.script_meaning.proofs.World.Rows.{IsDone, event_still, done_still}

module _ (w : World) (u region colour : ℕ) (e : Entry) (by : e.by ≡ u) (own : is_own u e.event ≡ true) where
  abbrev h : List Entry
  h = w.histories region colour

  abbrev w' : World
  w' = with_last w region colour e

  pub history_is : w'.histories region colour ≡ h ++ e ∷ []
  history_is = updated_at-here w.histories region colour (h ++ e ∷ [])

  pub other_history : (r c : ℕ) → (r ≡ region → c ≡ colour → ⊥) → w'.histories r c ≡ w.histories r c
  other_history r c ne = updated_at-not w.histories region colour (h ++ e ∷ []) r c ne

  -- it has one place more
  pub places_last : (r c : ℕ) → places_of u (w'.histories r c)
      ≡ updated_at (λ r c. places_of u (w.histories r c)) region colour (places_of u h ++ length h ∷ []) r c
  places_last r c =
      at_updated_at (λ (l : List ℕ). places_of u (w'.histories r c) ≡ l)
      (λ r c. places_of u (w.histories r c)) region colour (places_of u h ++ length h ∷ []) r c
      (λ er ec. ap (λ (n : ℕ). places_of u (w'.histories n c)) er
      ∙ (ap (λ (n : ℕ). places_of u (w'.histories region n)) ec
      ∙ (ap (places_of u) history_is
      ∙ (places_more u h (e ∷ []) ∙ ap (λ (l : List ℕ). places_of u h ++ l) one_place))))
      (λ f. ap (places_of u) (at_last (λ (x : List Entry). x ≡ w.histories r c) w region colour e r c
      (λ er ec. absurd (differ f er ec)) (λ _. refl))) where
        one_place : places_from (length h) u (e ∷ []) ≡ length h ∷ []
        one_place = if_true ((e.by == u) && is_own u e.event) (length h ∷ []) []
            (and_from (e.by == u) (is_own u e.event) (eq-eqb e.by u by) own)

        differ : ((r == region) && (c == colour)) ≡ false → r ≡ region → c ≡ colour → ⊥
        differ f er ec = apart _ (and_from _ _ (eq-eqb r region er) (eq-eqb c colour ec)) f

  -- no column has fewer events
  pub longer : (r c : ℕ) → length (w.histories r c) ≤ length (w'.histories r c)
  longer r c =
      at_last (λ (x : List Entry). length (w.histories r c) ≤ length x) w region colour e r c
      (λ er ec. subst (λ (n : ℕ). length (w.histories n c) ≤ length (h ++ e ∷ [])) (sym er)
      (subst (λ (n : ℕ). length (w.histories region n) ≤ length (h ++ e ∷ [])) (sym ec) more))
      (λ _. omega arith) where
        more : length h ≤ length (h ++ e ∷ [])
        more = let a = length-append h (e ∷ []) in omega (arith, a)

  -- its place is within its column
  pub within : length h + 1 ≤ length (w'.histories region colour)
  within = let a = length-append h (e ∷ []) in let b = ap length history_is in omega (arith, a, b)

  -- what the client keeps, with its event at the next place, and what it has then seen
  pub own_kept : (later : IsLater (log_of w) (log_of w')) (kept : Kept) → IsKeptBy w u kept → (seen : ℕ → ℕ → ℕ)
      → ((r c : ℕ) → seen r c ≤ length (w'.histories r c))
      → IsKeptBy w' u (record kept {
        seen = seen;
        made = updated_at kept.made region colour (kept.made region colour ++ length h ∷ []);
      })
  own_kept later kept k seen within_all = record {
    floor = k.floor;
    starts = k.starts;
    seen = within_all;
    known = λ c. let a = k.known c in
        let b = prefix_length (line (w.histories (home_of w u) c)) (line (w'.histories (home_of w u) c))
        (later.lines (home_of w u) c) in
        omega (arith, a, b);
    made = λ r c. places_last r c
        ∙ at_updated_at (λ (l : List ℕ). l
        ≡ updated_at kept.made region colour (kept.made region colour ++ length h ∷ []) r c)
        (λ r c. places_of u (w.histories r c)) region colour (places_of u h ++ length h ∷ []) r c
        (λ er ec. ap (λ (l : List ℕ). l ++ length h ∷ []) (k.made region colour)
        ∙ sym (ap (λ (n : ℕ). updated_at kept.made region colour (kept.made region colour ++ length h ∷ []) n c) er
        ∙ (ap (λ (n : ℕ). updated_at kept.made region colour (kept.made region colour ++ length h ∷ []) region n) ec
        ∙ updated_at-here kept.made region colour (kept.made region colour ++ length h ∷ []))))
        (λ f. k.made r c ∙ sym (at_updated_at (λ (l : List ℕ). l ≡ kept.made r c) kept.made region colour
        (kept.made region colour ++ length h ∷ []) r c (λ er ec. absurd (apart _
        (and_from _ _ (eq-eqb r region er) (eq-eqb c colour ec)) f)) (λ _. refl)));
    ids = k.ids;
    rows = k.rows;
  }

  -- it has seen its event
  pub seen_here : (kept : Kept) → IsKeptBy w u kept → (r c : ℕ)
      → updated_at kept.seen region colour (length h + 1) r c ≤ length (w'.histories r c)
  seen_here kept k r c =
      at_updated_at (λ (n : ℕ). n ≤ length (w'.histories r c)) kept.seen region colour (length h + 1) r c
      (λ er ec. subst (λ (n : ℕ). length h + 1 ≤ length (w'.histories n c)) (sym er)
      (subst (λ (n : ℕ). length h + 1 ≤ length (w'.histories region n)) (sym ec) within))
      (λ _. let a = k.seen r c in let b = longer r c in omega (arith, a, b))

-- an event that concerns no id leaves each row done that was
pub finished_last : (S : ℕ → Type 0) (w : World) (region c : ℕ) (e : Entry)
    → ((id : Id) (st : Status) → after_event id e.event e.stamp st ≡ st) → Finished S w
    → Finished S (with_last w region c e)
finished_last S w region c e none fin row b = turn (fin row b) where
  turn : S row.client ⊎ IsDone w row → S row.client ⊎ IsDone (with_last w region c e) row
  turn (inl s) = inl s
  turn (inr d) = inr (done_still w (with_last w region c e) row (event_still w region c e row none) d)

-- so does a change of a client that begins no row
pub finished_client : (S : ℕ → Type 0) (w : World) (u : ℕ) (s : ClientState) → s.used ≡ (w.clients u).used
    → Finished S w → Finished S (with_client w u s)
finished_client S w u s same fin row b = turn (fin row (begun row b)) where
  begun : (other : Row) → is_begun (with_client w u s) other ≡ true → is_begun w other ≡ true
  begun other = at_updated (λ (x : ClientState). nat_lt other.number x.used ≡ true → is_begun w other ≡ true)
      w.clients u s other.client
      (λ is t. ap (λ (n : ℕ). nat_lt other.number n) (ap (λ (k : ℕ). (w.clients k).used) is ∙ sym same) ∙ t) (λ _ t. t)

  turn : S row.client ⊎ IsDone w row → S row.client ⊎ IsDone (with_client w u s) row
  turn (inl x) = inl x
  turn (inr d) = inr (record { decided = d.decided; waits = d.waits })
