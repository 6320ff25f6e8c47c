-- Columns of a hold that are cleared up to a stamp, one after another.
use Rattle.std.proofs.Common.{◌≡◌, ℕ, ◌<◌, ◌≤◌, List, [], ◌∷◌, ◌++◌, Bool, true, false, refl, ap, sym, subst, ◌∙◌, inl, inr, arith, append_assoc, append-nil}
use Rattle.std.specs.Prelude.{not}
use Rattle.std.specs.List.{All}
use Rattle.std.proofs.lemmas.Bool.{cases_lt, true≢false}
use Rattle.std.proofs.lemmas.List.Elements.{All-contains}
use mathlib.Core.List.{IsPrefix}
use Rattle.col_core.specs.declared.Entry.{Entry}
use Rattle.col_core.specs.Computed.{dated}
use Rattle.col_core.specs.History.{clock, entries}
use Rattle.col_core.specs.Ids.{is_open_below, open_below}
use Rattle.col_core.specs.Legal.{IsColumnHistory}
use Rattle.log_node.specs.Order.{key_below}
use Rattle.log_node.specs.Standings.{Standing}
use Rattle.col_core.proofs.CallerLemmas.{In, both, clocks_rise, contains_in, in_append, in_contains, in_filter, in_filter-back, in_left, in_right, opens_above}
use Rattle.chain_store.specs.declared.hold.Hold.{Hold}
use Rattle.chain_store.specs.declared.region.Region.{Region}
use Rattle.chain_store.specs.Holds.{IsHold, seen_in, entries_seen}
use Rattle.chain_store.proofs.CallerLemmas.{lawful_seen}
use Rattle.append_core.proofs.CallerLemmas.{under_least}
use Rattle.log_client.specs.Reading.{IsCleared, key_above}
use Rattle.chain_store.specs.declared.told.Told.{Told}
use Rattle.chain_store.specs.Histories.{entries_in}
use Rattle.log_client.proofs.Read.HiddenReads.{all_from}
use Rattle.log_client.proofs.Known.Seeing.{entries_longer}

empty : {A : Type 0} (xs : List A) → ((x : A) → In x xs → ⊥) → xs ≡ []
empty [] none = refl
empty (x ∷ xs) none = absurd (none x (inl refl))

pub clock_grows : (own regions : ℕ) (old new : List Entry) → IsPrefix old new
    → IsColumnHistory own regions (dated own new) → clock old ≤ clock new
clock_grows own regions old new p lawful =
    let r = (clocks_rise own regions old p.0
    (subst (λ (l : List Entry). IsColumnHistory own regions (dated own l)) (sym p.1) lawful)).rises in
    let same = ap clock p.1 in
    omega (arith, r, same)

-- what is cleared stays so
pub cleared_longer : (own regions stamp : ℕ) (old new : List Entry) → IsPrefix old new
    → IsColumnHistory own regions (dated own new) → IsCleared stamp old → IsCleared stamp new
cleared_longer own regions stamp old new p lawful is =
    let grown = clock_grows own regions old new p lawful in
    let low = is.reached in record {
      reached = omega (arith, low, grown);
      clear = empty (open_below (key_above stamp) new) (λ e i. subst (In e) is.clear (was_open e i));
    } where
      unsettled : (b : Bool) → not b ≡ true → b ≡ false
      unsettled true e = absurd (true≢false (sym e))
      unsettled false e = refl

      was_open : (e : Standing) → In e (open_below (key_above stamp) new) → In e (open_below (key_above stamp) old)
      was_open e i =
          let f = in_filter (is_open_below (key_above stamp)) e (entries new) i in
          let parts = both (not e.settled) (key_below e.key (key_above stamp)) f.1 in
          in_filter-back (is_open_below (key_above stamp)) e (entries old)
          (in_contains (entries old) e
          (opens_above own regions old p.0 e (subst (λ (l : List Entry). IsColumnHistory own regions (dated own l)) (sym p.1) lawful)
          (contains_in (entries (old ++ p.0)) e (subst (λ (l : List Entry). In e (entries l)) (sym p.1) f.0))
          (unsettled e.settled parts.0)
          (elim (cases_lt (clock old) e.key.stamp) [
            | inl above ↦ absurd (true≢false (sym parts.1 ∙ under_least stamp old is.reached e.key above))
            | inr under ↦ omega (arith, under)
          ]))) f.1

-- The first of these colours are cleared, and the clocks of all are at the stamp.
pub record ClearedFirst (h : Hold) (stamp : ℕ) (left colours : List ℕ) : Type 0 where
  pub first : List ℕ
  pub apart : first ++ left ≡ colours
  pub cleared : (c : ℕ) → In c first → IsCleared stamp (entries_seen h c)
  pub reached : (c : ℕ) → In c left → stamp ≤ clock (entries_seen h c)

pub none_cleared : (h : Hold) (stamp : ℕ) (colours : List ℕ) → All (λ c. stamp ≤ clock (entries_seen h c)) colours
    → ClearedFirst h stamp colours colours
none_cleared h stamp colours all = record {
  first = [];
  apart = refl;
  cleared = λ c i. absurd i;
  reached = λ c i. All-contains (λ c. stamp ≤ clock (entries_seen h c)) colours c all (contains_in colours c i);
}

-- one more
pub cleared_next : (r : Region) (g h : Hold) (stamp k : ℕ) (left colours : List ℕ) → IsHold r h
    → ((c : ℕ) → In c colours → c < r.board.size.colours)
    → ((c : ℕ) → IsPrefix (seen_in g c) (seen_in h c))
    → open_below (key_above stamp) (entries_seen h k) ≡ [] → ClearedFirst g stamp (k ∷ left) colours
    → ClearedFirst h stamp left colours
cleared_next r g h stamp k left colours is within more none before =
    let split : (before.first ++ k ∷ []) ++ left ≡ colours = append_assoc before.first (k ∷ []) left ∙ before.apart in
    let lawful : (c : ℕ) → In c colours → IsColumnHistory r.number r.regions (dated r.number (entries_seen h c)) =
    λ c i. lawful_seen r h c is (within c i) in
    let last : In k colours = subst (In k) before.apart (in_right k before.first (k ∷ left) (inl refl)) in
    record {
      first = before.first ++ k ∷ [];
      apart = split;
      cleared = λ c i. elim (in_append c before.first (k ∷ []) i) [
        | inl early ↦
            cleared_longer r.number r.regions stamp (entries_seen g c) (entries_seen h c)
            (entries_longer (seen_in g c) (seen_in h c) (more c))
            (lawful c (subst (In c) before.apart (in_left c before.first (k ∷ left) early))) (before.cleared c early)
        | inr late ↦ elim late [
          | inl same ↦ subst (λ (n : ℕ). IsCleared stamp (entries_seen h n)) same (record {
            reached = at_stamp k last (before.reached k (inl refl));
            clear = none;
          })
          | inr none ↦ absurd none
        ]
      ];
      reached = λ c i. at_stamp c (subst (In c) split (in_right c (before.first ++ k ∷ []) left i)) (before.reached c (inr i));
    } where
      at_stamp : (c : ℕ) → In c colours → stamp ≤ clock (entries_seen g c) → stamp ≤ clock (entries_seen h c)
      at_stamp c i low =
          let grown = clock_grows r.number r.regions (entries_seen g c) (entries_seen h c)
          (entries_longer (seen_in g c) (seen_in h c) (more c)) (lawful_seen r h c is (within c i)) in
          omega (arith, grown, low)

-- all of them, also as the board is loaded once more
pub all_cleared : (g h : Hold) (stamp : ℕ) (colours : List ℕ) → ((c : ℕ) → seen_in h c ≡ seen_in g c)
    → ClearedFirst g stamp [] colours → All (λ c. IsCleared stamp (entries_seen h c)) colours
all_cleared g h stamp colours same f =
    all_from (λ c. IsCleared stamp (entries_seen h c)) colours
    (λ c i. subst (λ (l : List Told). IsCleared stamp (entries_in l)) (sym (same c))
    (f.cleared c (subst (In c) (sym f.apart ∙ append-nil f.first) i)))

-- what holds of all colours holds of the next
pub next_of : (P : ℕ → Type 0) (h : Hold) (stamp k : ℕ) (left colours : List ℕ) → ClearedFirst h stamp (k ∷ left) colours
    → All P colours → P k
next_of P h stamp k left colours f all =
    All-contains P colours k all
    (contains_in colours k (subst (In k) f.apart (in_right k f.first (k ∷ left) (inl refl))))
