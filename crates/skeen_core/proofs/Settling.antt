-- Settling an open id among those that wait settles it among all entries.
use Rattle.std.proofs.Common.{◌≡◌, ℕ, zero, suc, ◌+◌, ◌<◌, ◌≤◌, Bool, true, false, List, [], ◌∷◌}
use Rattle.std.proofs.Common.{length, get_or, refl, sym, ap, subst, ◌∙◌, arith, inl, inr}
use Rattle.std.specs.Prelude.{map, not, ◌||◌, Some, None, nat_lt}
use Rattle.std.specs.List.{AllByRecursion, list_any, position, position_or_len, remove}
use Rattle.std.proofs.lemmas.Bool.{cond_both, cond-true, cond-false, cases_Bool, and_parts, not-true}
use Rattle.std.proofs.lemmas.Bool.{ltb-false, not_from_true, not_from_false}
use Rattle.std.proofs.lemmas.List.Quantifiers.{position-Some}
use Rattle.std.proofs.lemmas.List.Folds.{list_any_at, list_any-append}
use Rattle.log_node.specs.declared.ids.Id.{Id}
use Rattle.log_node.specs.declared.ids.Key.{Key}
use Rattle.log_node.specs.Order.{same_id}
use Rattle.log_node.specs.declared.marks.Outcome.TheVariants.{Final}
use Rattle.skeen_core.specs.declared.waiting.Waiting.{Waiting}
use Rattle.log_node.specs.Standings.{is_open_id}
use Rattle.skeen_core.specs.Queues.{standing_of, has_open, final_entry, with_stored, stored_without}
use Rattle.skeen_core.specs.Queues.{with_found, settled_stored}
use Rattle.skeen_core.specs.Inside.{final_at, all_entries, AreApart}
use Rattle.skeen_core.proofs.Lists.{each-weaker, each-at, each-map, filter-all}
use Rattle.skeen_core.proofs.Lists.{find-at, list_any-none}
use Rattle.skeen_core.proofs.Lists.{list_any-map}
use Rattle.log_node.proofs.CallerLemmas.{same_id-is, same_id-refl, same_id-sym}

module _ {T : Type 0} where
  -- the entry is open, and has this id
  abbrev pub opens : Id → Waiting T → Bool
  opens id w = is_open_id id (standing_of w)

  pub opens-parts : (id : Id) (w : Waiting T) → opens id w ≡ true → (w.settled ≡ false) × (w.key.id ≡ id)
  opens-parts id w e = let p = and_parts (not w.settled) (same_id w.key.id id) e in
      (not-true _ p.0, same_id-is w.key.id id p.1)

  -- where the ids differ, the entries without the id at a place are those without that place
  pub without-is : (id : Id) (ws : List (Waiting T)) (n : ℕ) (d : Waiting T) → AreApart (map standing_of ws) →
      n < length ws → (get_or ws n d).key.id ≡ id → stored_without id ws ≡ remove ws n
  without-is id [] n d apart lt same = absurd (omega arith)
  without-is id (w ∷ ws) zero d apart lt same =
      cond-false (not (same_id w.key.id id)) (w ∷ stored_without id ws) (stored_without id ws)
      (not_from_true _ (subst (λ (i : Id). same_id w.key.id i ≡ true) same (same_id-refl w.key.id)))
      ∙ filter-all (λ v. not (same_id v.key.id id)) ws
      (each-weaker (λ v. same_id v.key.id w.key.id ≡ false) (λ v. not (same_id v.key.id id) ≡ true)
      (λ v h. not_from_false _ (subst (λ (i : Id). same_id v.key.id i ≡ false) same h)) ws
      (each-map standing_of (λ f. same_id f.key.id w.key.id ≡ false) ws apart.0))
  without-is id (w ∷ ws) (suc n) d apart lt same =
      let other : same_id (get_or ws n d).key.id w.key.id ≡ false =
      each-at (λ v. same_id v.key.id w.key.id ≡ false) ws n d
      (each-map standing_of (λ f. same_id f.key.id w.key.id ≡ false) ws apart.0) (omega arith) in
      let differs : same_id id w.key.id ≡ false = subst (λ (i : Id). same_id i w.key.id ≡ false) same other in
      cond-true (not (same_id w.key.id id)) (w ∷ stored_without id ws) (stored_without id ws)
      (not_from_false _ (same_id-sym id w.key.id differs))
      ∙ ap (λ vs. w ∷ vs) (without-is id ws n d apart.1 (omega arith) same)

  -- what a search for the open entry has found
  pub gone-is : (id : Id) (ws : List (Waiting T)) (n : ℕ) (d : Waiting T) → AreApart (map standing_of ws) →
      position (opens id) ws ≡ Some n → remove ws n ≡ stored_without id ws
  gone-is id ws n d apart at =
      let p = position-Some (opens id) ws n d at in
      sym (without-is id ws n d apart p.0 (opens-parts id (get_or ws n d) p.1).1)

  pub final-is : (id : Id) (f : ℕ) (ws : List (Waiting T)) (n : ℕ) (d : Waiting T) → AreApart (map standing_of ws) →
      position (opens id) ws ≡ Some n → with_stored (final_entry f (get_or ws n d)) (remove ws n) ≡ settled_stored id
      (Final f) ws
  final-is id f ws n d apart at =
      let p = position-Some (opens id) ws n d at in
      ap (λ vs. with_stored (final_entry f (get_or ws n d)) vs) (gone-is id ws n d apart at)
      ∙ ap (λ o. with_found f o (stored_without id ws)) (sym (find-at (opens id) ws n d p.0 p.1 p.2))

  pub found-any : (id : Id) (ws : List (Waiting T)) (n : ℕ) (d : Waiting T) → position (opens id) ws ≡ Some n →
      list_any (opens id) ws ≡ true
  found-any id ws n d at = let p = position-Some (opens id) ws n d at in list_any_at (opens id) ws n d p.0 p.1

  -- the open entries are among those that wait
  pub open-waits : (id : Id) (line : List Key) (waiting : List (Waiting T)) →
      has_open id (all_entries line waiting) ≡ list_any (opens id) waiting
  open-waits id line waiting =
      list_any-append (is_open_id id) (map final_at line) (map standing_of waiting)
      ∙ front (list_any-none (is_open_id id) (map final_at line) (none line)) where
        none : (ks : List Key) → AllByRecursion (λ e. is_open_id id e ≡ false) (map final_at ks)
        none [] = tt
        none (k ∷ ks) = (refl, none ks)

        front : list_any (is_open_id id) (map final_at line) ≡ false →
            (list_any (is_open_id id) (map final_at line) || list_any (is_open_id id) (map standing_of waiting)) ≡
            list_any (opens id) waiting
        front e = rw e (list_any-map (is_open_id id) standing_of waiting)

  -- where a search finds nothing, nothing is open
  pub none-any : (p : Waiting T → Bool) (ws : List (Waiting T)) → ((n : ℕ) → position p ws ≡ Some n → ⊥) →
      list_any p ws ≡ false
  none-any p ws none = list_any-none p ws (all-fail ws (elim (cases_Bool (nat_lt (position_or_len p ws) (length ws))) [
    | inl t ↦ absurd (none (position_or_len p ws) (cond-true (nat_lt (position_or_len p ws) (length ws))
        (Some (position_or_len p ws)) None t))
    | inr f ↦ ltb-false (position_or_len p ws) (length ws) f
  ])) where
    all-fail : (vs : List (Waiting T)) → length vs ≤ position_or_len p vs → AllByRecursion (λ v. p v ≡ false) vs
    all-fail [] le = tt
    all-fail (v ∷ vs) le =
        cond_both (not (p v)) (1 + position_or_len p vs) 0
        (λ n. suc (length vs) ≤ n → AllByRecursion (λ u. p u ≡ false) (v ∷ vs))
        (λ t l. (not-true (p v) t, all-fail vs (omega arith)))
        (λ f l. absurd (omega arith))
        le

  -- an entry of a list in which something was found
  pub any-found : (p : Waiting T → Bool) (ws : List (Waiting T)) (n : ℕ) → position p ws ≡ Some n → Waiting T
  any-found p [] n e = absurd (let h : ⊥ = cc in h)
  any-found p (w ∷ ws) n e = w
