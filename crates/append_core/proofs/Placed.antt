-- Where a final key stands in the line of what a hold has seen.
use Rattle.std.proofs.Common.{◌≡◌, ℕ, suc, ◌+◌, ◌<◌, ◌≤◌, Bool, true, false, cond, List, [], ◌∷◌, ◌++◌, length, Some, None, slice_get, refl, ap, sym, subst, ◌∙◌, arith, inl, inr, ◌⊎◌, eq-eqb, append-nil}
use Rattle.std.specs.Prelude.{nat_lt, not, ◌==◌}
use Rattle.std.specs.List.{position, position_or_len}
use Rattle.std.proofs.lemmas.Bool.{ltb-true, lt-ltb, and_from, true≢false}
use mathlib.Core.List.{IsPrefix}
use Rattle.log_node.specs.declared.ids.Key.{Key}
use Rattle.log_node.specs.Order.{same_id, same_key}
use Rattle.log_node.proofs.CallerLemmas.{same_key-is, same_id-refl}
use Rattle.col_core.specs.declared.Entry.{Entry}
use Rattle.col_core.specs.History.{clock, entry_key, line}
use Rattle.col_core.specs.Computed.{dated}
use Rattle.col_core.specs.Cuts.{Dated, entries_of}
use Rattle.col_core.specs.Legal.{IsColumnHistory}
use Rattle.col_core.specs.Ids.{IsFinal, open_below}
use Rattle.col_core.proofs.CallerLemmas.{In, by_test, if_true, if_false, in_contains, in_slice, slice_in, line_grows, clear_stands, clocks_rise, entries_dated, dates_longer, later}
use Rattle.chain_store.specs.declared.hold.Hold.{Hold}
use Rattle.chain_store.specs.declared.region.Region.{Region}
use Rattle.chain_store.specs.Histories.{entries_in}
use Rattle.chain_store.specs.Holds.{IsHold, seen_in, entries_seen}
use Rattle.chain_store.proofs.CallerLemmas.{lawful_seen}
use Rattle.append_core.specs.Helping.{IsUnderClock}
use Rattle.append_core.proofs.Lasting.{longer, lawful_longer}
use Rattle.append_core.proofs.Cleared.{under_clock}
use Rattle.append_core.proofs.Places.{prefix_get}

-- the first place at which a test passes
module _ {A : Type 0} (test : A → Bool) where
  len_at : (xs : List A) → position_or_len test xs < length xs
      → (y : A) × (slice_get xs (position_or_len test xs) ≡ Some y) × (test y ≡ true)
  len_at [] lt = absurd (let f : ⊥ = omega (arith, lt) in f)
  len_at (x ∷ xs) lt = by (test x) refl (len_at xs) lt where
    by : (b : Bool) → test x ≡ b
        → (position_or_len test xs < length xs
        → (y : A) × (slice_get xs (position_or_len test xs) ≡ Some y) × (test y ≡ true))
        → cond (not b) (1 + position_or_len test xs) 0 < length (x ∷ xs)
        → (y : A) × (slice_get (x ∷ xs) (cond (not b) (1 + position_or_len test xs) 0) ≡ Some y) × (test y ≡ true)
    by true is rest less = (x, refl, is)
    by false is rest less =
        let r = rest (omega (arith, less)) in
        let e : 1 + position_or_len test xs ≡ suc (position_or_len test xs) = omega arith in
        (r.0, ap (slice_get (x ∷ xs)) e ∙ r.1, r.2)

  pub placed : (xs : List A) (p : ℕ) → position test xs ≡ Some p
      → (y : A) × (slice_get xs p ≡ Some y) × (test y ≡ true)
  placed xs p e = by_test _ (nat_lt (position_or_len test xs) (length xs))
      (λ t.
      let at : Some (position_or_len test xs) ≡ Some p =
      sym (if_true (nat_lt (position_or_len test xs) (length xs)) (Some (position_or_len test xs)) None t) ∙ e in
      let same : position_or_len test xs ≡ p = cc in
      let r = len_at xs (ltb-true _ _ t) in
      (r.0, ap (slice_get xs) (sym same) ∙ r.1, r.2))
      (λ f. absurd (
      let none : None ≡ Some p =
      sym (if_false (nat_lt (position_or_len test xs) (length xs)) (Some (position_or_len test xs)) None f) ∙ e in
      let g : ⊥ = cc in g))

  some_len : (xs : List A) (y : A) → In y xs → test y ≡ true → position_or_len test xs < length xs
  some_len [] y i t = absurd i
  some_len (x ∷ xs) y i t = by (test x) refl i (λ j. some_len xs y j t) where
    by : (b : Bool) → test x ≡ b → (x ≡ y) ⊎ In y xs → (In y xs → position_or_len test xs < length xs)
        → cond (not b) (1 + position_or_len test xs) 0 < length (x ∷ xs)
    by true is j rest = omega arith
    by false is (inl same) rest = absurd (true≢false (sym t ∙ (ap test (sym same) ∙ is)))
    by false is (inr j) rest = let lt = rest j in omega (arith, lt)

  pub some_place : (xs : List A) (y : A) → In y xs → test y ≡ true → position test xs ≡ None → ⊥
  some_place xs y i t none =
      let lt = lt-ltb (position_or_len test xs) (length xs) (some_len xs y i t) in
      let e : Some (position_or_len test xs) ≡ None =
      sym (if_true (nat_lt (position_or_len test xs) (length xs)) (Some (position_or_len test xs)) None lt) ∙ none in
      let g : ⊥ = cc in g

pub same_key-refl : (key : Key) → same_key key key ≡ true
same_key-refl key = and_from (key.stamp == key.stamp) (same_id key.id key.id) (eq-eqb key.stamp key.stamp refl)
    (same_id-refl key.id)

-- the place of a key is its position
pub key_placed : (keys : List Key) (key : Key) (p : ℕ) → position (λ (k : Key). same_key k key) keys ≡ Some p
    → slice_get keys p ≡ Some key
key_placed keys key p e =
    let r = placed (λ (k : Key). same_key k key) keys p e in
    r.1 ∙ ap Some (same_key-is r.0 key r.2)

-- a line only grows at its end
line_longer : (own regions : ℕ) (history more : List Entry) → IsColumnHistory own regions (dated own (history ++ more))
    → IsPrefix (line history) (line (history ++ more))
line_longer own regions history more lawful =
    let rest = later own (dated own history) more in
    let g = line_grows own regions (dated own history) rest
    (subst (λ (ds : List Dated). IsColumnHistory own regions ds) (dates_longer own history more) lawful) in
    let whole : entries_of (dated own history ++ rest) ≡ history ++ more =
    ap entries_of (sym (dates_longer own history more)) ∙ entries_dated own (history ++ more) in
    (g.0, ap (λ (h : List Entry). line h ++ g.0) (sym (entries_dated own history)) ∙ (g.1 ∙ ap line whole))

-- a hold that has seen more
module _ (r : Region) (g h : Hold) (k : ℕ) (is : IsHold r h) (lt : k < r.board.size.colours)
    (more : IsPrefix (seen_in g k) (seen_in h k)) where
  pub line_more : IsPrefix (line (entries_seen g k)) (line (entries_seen h k))
  line_more = subst (λ (l : List Entry). IsPrefix (line (entries_seen g k)) (line l)) (longer r g h k is lt more)
      (line_longer r.number r.regions (entries_seen g k) (entries_in more.0) (lawful_longer r g h k is lt more))

  pub stands_later : (p : ℕ) (key : Key) → slice_get (line (entries_seen g k)) p ≡ Some key
      → slice_get (line (entries_seen h k)) p ≡ Some key
  stands_later p key at = prefix_get (line (entries_seen g k)) (line (entries_seen h k)) p key line_more at

-- a final key is under the clock
pub final_under : (r : Region) (h : Hold) (k : ℕ) (key : Key) → IsHold r h → k < r.board.size.colours
    → IsFinal (entries_seen h k) key.id key.stamp → IsUnderClock key (entries_seen h k)
final_under r h k key is lt final =
    let history = entries_seen h k in
    let lawful = subst (λ (l : List Entry). IsColumnHistory r.number r.regions (dated r.number l)) (sym (append-nil history))
    (lawful_seen r h k is lt) in
    let rise = clocks_rise r.number r.regions history [] lawful in
    under_clock key history
    (subst (λ (l : List Entry). key.stamp ≤ clock l) (append-nil history)
    (rise.stamps (record { key = entry_key key.stamp key.id; settled = true })
    (subst (λ (l : List Entry). IsFinal l key.id key.stamp) (sym (append-nil history)) final)))

-- a final key below which none is open has a place in the line that is seen later
pub has_place : (r : Region) (g h : Hold) (k : ℕ) (key : Key) → IsHold r g → IsHold r h → k < r.board.size.colours
    → IsPrefix (seen_in g k) (seen_in h k) → IsFinal (entries_seen g k) key.id key.stamp
    → open_below key (entries_seen g k) ≡ []
    → position (λ (z : Key). same_key z key) (line (entries_seen h k)) ≡ None → ⊥
has_place r g h k key was is lt more final clear none =
    let stands = in_contains (line (entries_seen g k)) key
    (clear_stands r.number r.regions (entries_seen g k) key.id key.stamp (lawful_seen r g k was lt) final clear) in
    let at = in_slice (line (entries_seen g k)) key stands in
    some_place (λ (z : Key). same_key z key) (line (entries_seen h k)) key
    (slice_in (line (entries_seen h k)) at.0 key (stands_later r g h k is lt more at.0 key at.1)) (same_key-refl key) none
