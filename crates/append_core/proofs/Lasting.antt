-- What is final or settled in what a hold has seen of a column stays so.
use Rattle.std.proofs.Common.{◌≡◌, ℕ, ◌<◌, List, [], ◌∷◌, ◌++◌, Option, Some, None, Bool, true, false, cond, refl, ap, sym, subst}
use Rattle.std.proofs.Common.{◌∙◌, inl, inr, ◌⊎◌, append-nil}
use Rattle.std.specs.Prelude.{reverse}
use Rattle.std.specs.List.{Contains, find}
use Rattle.std.proofs.lemmas.Bool.{true≢false}
use Rattle.std.proofs.lemmas.List.{reverse-reverse}
use mathlib.Core.List.{IsPrefix}
use Rattle.log_node.specs.declared.ids.Id.{Id}
use Rattle.log_node.specs.declared.marks.Outcome.{Outcome}
use Rattle.log_node.specs.declared.marks.Outcome.TheVariants.{Open, Gone, Final}
use Rattle.log_node.specs.Standings.{Standing, open_entry, is_open_id}
use Rattle.col_core.specs.declared.Entry.{Entry}
use Rattle.col_core.specs.History.{entries, entry_key, has_entered}
use Rattle.col_core.specs.Computed.{dated}
use Rattle.col_core.specs.Legal.{IsColumnHistory}
use Rattle.col_core.specs.Ids.{IsFinal, HasEntry, Settles, Singles, IsOver, alone, settled}
use Rattle.col_core.proofs.CallerLemmas.{In, in_contains, contains_in, lawful_beginning, past_is_lawful, entries-of, shown}
use Rattle.col_core.proofs.CallerLemmas.{shown_entered, open_is_proposed, entered_is_over, singles_stay, settled_stays}
use Rattle.col_core.proofs.CallerLemmas.{IsLawfulPast, status, standing_of, entries as past_entries}
use Rattle.chain_store.specs.declared.hold.Hold.{Hold}
use Rattle.chain_store.specs.declared.region.Region.{Region}
use Rattle.chain_store.specs.Histories.{entries_in}
use Rattle.chain_store.specs.Holds.{IsHold, seen_in, entries_seen}
use Rattle.chain_store.proofs.CallerLemmas.{lawful_seen}
use Rattle.append_core.proofs.Taking.{entries_split}

-- what a search finds, and that it finds something

pub found : {A : Type 0} (test : A → Bool) (xs : List A) (x : A) → find test xs ≡ Some x → In x xs × (test x ≡ true)
found test [] x e = absurd cc
found {A} test (y ∷ ys) x e = by_case (test y) refl e (λ f. found test ys x f) where
  by_case : (b : Bool) → test y ≡ b → cond b (Some y) (find test ys) ≡ Some x
      → (find test ys ≡ Some x → In x ys × (test x ≡ true)) → ((y ≡ x) ⊎ In x ys) × (test x ≡ true)
  by_case true is f rest = let same : y ≡ x = cc f in (inl same, sym (ap test same) ∙ is)
  by_case false is f rest = let r = rest f in (inr r.0, r.1)

pub finds : {A : Type 0} (test : A → Bool) (xs : List A) (x : A) → In x xs → test x ≡ true → find test xs ≡ None → ⊥
finds test [] x i t e = i
finds {A} test (y ∷ ys) x i t e = by_case (test y) refl e i (λ j f. finds test ys x j t f) where
  by_case : (b : Bool) → test y ≡ b → cond b (Some y) (find test ys) ≡ None → (y ≡ x) ⊎ In x ys
      → (In x ys → find test ys ≡ None → ⊥) → ⊥
  by_case true is f j rest = let g : ⊥ = cc f in g
  by_case false is f (inl same) rest = true≢false (sym t ∙ (ap test (sym same) ∙ is))
  by_case false is f (inr j) rest = rest j f

-- one id, in a history that is lawful with more

module _ (own regions : ℕ) (history more : List Entry) (id : Id)
    (h : IsColumnHistory own regions (dated own (history ++ more))) where
  start : IsColumnHistory own regions (dated own history)
  start = lawful_beginning own regions history more h

  -- what has entered and is not open is never open again
  pub closed_longer : has_entered id history ≡ true → open_entry id (entries history) ≡ None
      → open_entry id (entries (history ++ more)) ≡ None
  closed_longer entered none = go (entered_is_over own regions history id start entered none) where
    go : IsOver history id → open_entry id (entries (history ++ more)) ≡ None
    go (alone s one) = (singles_stay own regions history more id s h one).closed
    go (settled o one) = (settled_stays own regions history more id o h one).closed

  module _ (f : ℕ) (final : IsFinal history id f) where
    lawful : IsLawfulPast (reverse history)
    lawful = past_is_lawful own regions history start

    in_past : (x : Standing) → Contains (entries history) x → In x (past_entries (reverse history))
    in_past x c = subst (λ (es : List Standing). In x es) (entries-of history) (in_contains (entries history) x c)

    shows : (x : Standing) → Contains (entries history) x
        → standing_of x.key.id (status x.key.id (reverse history)) ≡ Some x
    shows x c = shown (reverse history) lawful x (in_past x c)

    has_come : has_entered id history ≡ true
    has_come = sym (ap (has_entered id) (reverse-reverse history))
        ∙ shown_entered (reverse history) lawful (record { key = entry_key f id; settled = true })
        (in_past (record { key = entry_key f id; settled = true }) final)

    -- it is the only entry of the id
    same : (x : Standing) → Contains (entries history) x → x.key.id ≡ id
        → x ≡ record { key = entry_key f id; settled = true }
    same x c is =
        let a : Some x ≡ Some (record { key = entry_key f id; settled = true }) =
        sym (subst (λ (i : Id). standing_of i (status i (reverse history)) ≡ Some x) is (shows x c))
        ∙ shows (record { key = entry_key f id; settled = true }) final in
        let g : x ≡ record { key = entry_key f id; settled = true } = cc in
        g

    pub not_open : (o : Option Standing) → open_entry id (entries history) ≡ o → open_entry id (entries history) ≡ None
    not_open None is = is
    not_open (Some x) is =
        let p = open_is_proposed own regions history id x start is in
        let c = contains_in (entries history) x (found (is_open_id id) (entries history) x is).0 in
        absurd (true≢false (sym (ap (λ (y : Standing). y.settled) (same x c p.of_id)) ∙ p.unsettled))

    one_stamp : (s : ℕ) → IsFinal history id s → s ≡ f
    one_stamp s c = ap (λ (x : Standing). x.key.stamp) (same (record { key = entry_key s id; settled = true }) c refl)

    whole : IsColumnHistory own regions (dated own (history ++ []))
    whole = subst (λ (l : List Entry). IsColumnHistory own regions (dated own l)) (sym (append-nil history)) start

    by_single : (s : ℕ) → Singles history id s → IsFinal (history ++ more) id f
    by_single s one =
        subst (λ (n : ℕ). IsFinal (history ++ more) id n)
        (one_stamp s (subst (λ (l : List Entry). IsFinal l id s) (append-nil history)
        (singles_stay own regions history [] id s whole one).final))
        (singles_stay own regions history more id s h one).final

    by_outcome : (o : Outcome) → Settles history id o → IsFinal (history ++ more) id f
    by_outcome Open one = absurd (settled_stays own regions history [] id Open whole one).come
    by_outcome (Gone why) one = absurd ((settled_stays own regions history [] id (Gone why) whole one).come
        (subst (λ (l : List Entry). HasEntry l id) (sym (append-nil history))
        (record { key = entry_key f id; settled = true }, final, refl)))
    by_outcome (Final n) one =
        subst (λ (m : ℕ). IsFinal (history ++ more) id m)
        (one_stamp n (subst (λ (l : List Entry). IsFinal l id n) (append-nil history)
        (settled_stays own regions history [] id (Final n) whole one).come))
        (settled_stays own regions history more id (Final n) h one).come

    by_over : IsOver history id → IsFinal (history ++ more) id f
    by_over (alone s one) = by_single s one
    by_over (settled o one) = by_outcome o one

    -- what is final stays final
    pub final_longer : IsFinal (history ++ more) id f
    final_longer = by_over (entered_is_over own regions history id start has_come
        (not_open (open_entry id (entries history)) refl))

-- what a hold has seen of a column, where it has seen more
module _ (r : Region) (g h : Hold) (k : ℕ) (is : IsHold r h) (lt : k < r.board.size.colours)
    (more : IsPrefix (seen_in g k) (seen_in h k)) where
  pub longer : entries_seen g k ++ entries_in more.0 ≡ entries_seen h k
  longer = sym (entries_split (seen_in g k) more.0) ∙ ap entries_in more.1

  pub lawful_longer : IsColumnHistory r.number r.regions (dated r.number (entries_seen g k ++ entries_in more.0))
  lawful_longer = subst (λ (l : List Entry). IsColumnHistory r.number r.regions (dated r.number l)) (sym longer)
      (lawful_seen r h k is lt)

  pub final_later : (id : Id) (f : ℕ) → IsFinal (entries_seen g k) id f → IsFinal (entries_seen h k) id f
  final_later id f final = subst (λ (l : List Entry). IsFinal l id f) longer
      (final_longer r.number r.regions (entries_seen g k) (entries_in more.0) id lawful_longer f final)
