-- No open entry has a stamp up to another one, where the least of them has none.
use Rattle.std.proofs.Common.{◌≡◌, ◌⊎◌, ℕ, ◌<◌, ◌≤◌, Bool, true, false, List, [], ◌∷◌, Option, Some, None, get_or, refl, ap, sym, subst, ◌∙◌, arith, inl, inr}
use Rattle.std.specs.Prelude.{not, nat_lt}
use Rattle.std.specs.List.{find}
use Rattle.std.specs.Option.{option_map}
use Rattle.std.proofs.lemmas.Bool.{true≢false, cases_Bool, ltb-true, ltb-false}
use Rattle.std.proofs.lemmas.Option.{slice_get-get_or}
use Rattle.log_node.proofs.CallerLemmas.{same_some}
use Rattle.log_node.specs.Standings.{Standing}
use Rattle.col_core.specs.declared.Entry.{Entry}
use Rattle.col_core.specs.History.{entries}
use Rattle.col_core.specs.RegionOrder.{IsClearUpTo}
use Rattle.col_core.proofs.CallerLemmas.{In, Rises, if_true, if_false, contains_in, key-stamps, not_true, slice_in}
use Rattle.column_track.specs.Tracks.{Tells, least_open}

-- what is found is there and passes
found_in : (p : Standing → Bool) (es : List Standing) (s : Standing) → find p es ≡ Some s → In s es × (p s ≡ true)
found_in p [] s is = absurd (let f : ⊥ = cc (is) in f)
found_in p (x ∷ xs) s is = by (cases_Bool (p x)) (found_in p xs s) where
  by : (p x ≡ true) ⊎ (p x ≡ false) → (find p xs ≡ Some s → In s xs × (p s ≡ true)) → In s (x ∷ xs) × (p s ≡ true)
  by (inl t) rest =
      let same = same_some (sym (if_true (p x) (Some x) (find p xs) t) ∙ is) in
      (inl same, ap p (sym same) ∙ t)
  by (inr f) rest = let r = rest (sym (if_false (p x) (Some x) (find p xs) f) ∙ is) in (inr r.0, r.1)

-- where none is found none passes
none_passes : (p : Standing → Bool) (es : List Standing) → find p es ≡ None → (e : Standing) → In e es → p e ≡ true → ⊥
none_passes p [] is e i t = i
none_passes p (x ∷ xs) is e i t = by (cases_Bool (p x)) i (none_passes p xs) where
  by : (p x ≡ true) ⊎ (p x ≡ false) → (x ≡ e) ⊎ In e xs
      → (find p xs ≡ None → (d : Standing) → In d xs → p d ≡ true → ⊥) → ⊥
  by (inl u) i rest = let f : Some x ≡ None = sym (if_true (p x) (Some x) (find p xs) u) ∙ is in let g : ⊥ = cc (f) in g
  by (inr f) (inl same) rest = true≢false (sym t ∙ (ap p (sym same) ∙ f))
  by (inr f) (inr later) rest = rest (sym (if_false (p x) (Some x) (find p xs) f) ∙ is) e later t

-- the first open entry has the least stamp of all that are open
first_is_least : (es : List Standing) → Rises es → (s : Standing) → find (λ e. not e.settled) es ≡ Some s
    → (e : Standing) → In e es → e.settled ≡ false → s.key.stamp ≤ e.key.stamp
unfolding Rises
first_is_least [] rising s is e i waits = absurd i
first_is_least (x ∷ xs) rising s is e i waits = by (cases_Bool x.settled) i (first_is_least xs rising.1 s) where
  by : (x.settled ≡ true) ⊎ (x.settled ≡ false) → (x ≡ e) ⊎ In e xs
      → (find (λ e. not e.settled) xs ≡ Some s → (d : Standing) → In d xs → d.settled ≡ false → s.key.stamp ≤ d.key.stamp)
      → s.key.stamp ≤ e.key.stamp
  by (inl settled) (inl same) rest = absurd (true≢false (sym settled ∙ (ap (λ (d : Standing). d.settled) same ∙ waits)))
  by (inl settled) (inr later) rest =
      rest (sym (if_false (not x.settled) (Some x) (find (λ e. not e.settled) xs) (ap not settled)) ∙ is) e later waits
  by (inr opens) here rest =
      let first = ap (λ (d : Standing). d.key.stamp) (same_some (sym (if_true (not x.settled) (Some x) (find (λ e. not e.settled) xs) (ap not opens)) ∙ is)) in
      at here first where
        at : (x ≡ e) ⊎ In e xs → x.key.stamp ≡ s.key.stamp → s.key.stamp ≤ e.key.stamp
        at (inl same) first = let b = ap (λ (d : Standing). d.key.stamp) same in omega (arith, first, b)
        at (inr later) first = let b = key-stamps x.key e.key (rising.0 e later) in omega (arith, first, b)

module _ (history : List Entry) (stamp : ℕ) (rising : Rises (entries history)) where
  -- of entries of which none up to the stamp is open
  of_all : ((e : Standing) → In e (entries history) → e.settled ≡ false → stamp < e.key.stamp) → IsClearUpTo stamp history
  of_all each k d lt waits =
      each (get_or (entries history) k d)
      (slice_in (entries history) k (get_or (entries history) k d) (slice_get-get_or (entries history) k d lt)) waits

  to_each : IsClearUpTo stamp history → (e : Standing) → In e (entries history) → e.settled ≡ false → stamp < e.key.stamp
  to_each all e i waits =
      let at = contains_in (entries history) e i in
      subst (λ (d : Standing). d.settled ≡ false → stamp < d.key.stamp) at.2 (all at.0 e at.1) waits

  pub clear_none : least_open (entries history) ≡ None → IsClearUpTo stamp history
  clear_none none = by (find (λ e. not e.settled) (entries history)) refl none where
    by : (o : Option Standing) → find (λ e. not e.settled) (entries history) ≡ o
        → option_map (λ (e : Standing). e.key.stamp) o ≡ None → IsClearUpTo stamp history
    by None is none = of_all (λ e i waits. absurd (none_passes (λ d. not d.settled) (entries history) is e i (ap not waits)))
    by (Some s) is none = absurd (let f : ⊥ = cc (none) in f)

  pub clear_some : (least : ℕ) → least_open (entries history) ≡ Some least → (b : Bool) → nat_lt stamp least ≡ b
      → Tells b (IsClearUpTo stamp history)
  clear_some least is b test = by (find (λ e. not e.settled) (entries history)) refl is b test where
    by : (o : Option Standing) → find (λ e. not e.settled) (entries history) ≡ o
        → option_map (λ (e : Standing). e.key.stamp) o ≡ Some least → (b : Bool) → nat_lt stamp least ≡ b
        → Tells b (IsClearUpTo stamp history)
    by None found is b test = absurd (let f : ⊥ = cc (is) in f)
    by (Some s) found is true test =
        let low = ltb-true stamp least test in
        let value = same_some is in
        of_all (λ e i waits. let more = first_is_least (entries history) rising s found e i waits in omega (arith, low, value, more))
    by (Some s) found is false test =
        let high = ltb-false stamp least test in
        let value = same_some is in
        let at = found_in (λ e. not e.settled) (entries history) s found in
        λ all. let low = to_each all s at.0 (not_true s.settled at.1) in omega (arith, high, value, low)
