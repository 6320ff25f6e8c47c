-- Where a final node stands in a line.
use Rattle.std.proofs.Common.{◌≡◌, inl, inr, ℕ, ◌+◌, ◌≤◌, Bool, true, false, cond, List, [], ◌∷◌, length, Some, None}
use Rattle.std.proofs.Common.{refl, ap, sym, subst, ◌∙◌, arith}
use Rattle.std.specs.Prelude.{not, nat_lt, ◌==◌, ◌&&◌}
use Rattle.std.specs.List.{position, position_or_len, Contains}
use Rattle.std.proofs.lemmas.Bool.{eq-eqb, ltb-false}
use Rattle.log_node.specs.declared.ids.Id.{Id}
use Rattle.log_node.specs.declared.ids.Key.{Key}
use Rattle.log_node.specs.Order.{same_id, same_key}
use Rattle.log_node.specs.Standings.{Standing}
use Rattle.col_core.specs.History.{entries, line}
use Rattle.col_core.proofs.CallerLemmas.{by_test, same_id-true, In, in_line}
use Rattle.world_laws.specs.Worlds.{World}
use Rattle.world_laws.specs.Laws.{OneFinalStamp, IsFinal}
use Rattle.world_laws.proofs.CallerLemmas.{contains_in}
use Rattle.script_meaning.specs.States.{position_of}

-- a key of the line with this id is this key
only_key : (w : World) → OneFinalStamp w → (region colour : ℕ) (key : Key)
    → IsFinal (w.histories region colour) key.id key.stamp → (k : Key) → In k (line (w.histories region colour))
    → same_id k.id key.id ≡ true → k ≡ key
only_key w one region colour key final k i same =
    let a = in_line (entries (w.histories region colour)) k i in
    let ids : k.id ≡ key.id = same_id-true k.id key.id same in
    let e : Standing = a.0 in
    let is : e ≡ record { key = k; settled = true } =
    ap (λ (x : Key). let s : Standing = record { key = x; settled = e.settled } in s) a.2
    ∙ ap (λ (x : Bool). let s : Standing = record { key = k; settled = x } in s) a.3 in
    let there : IsFinal (w.histories region colour) k.id k.stamp =
    subst (λ (x : Standing). Contains (entries (w.histories region colour)) x) is
    (contains_in (entries (w.histories region colour)) e a.1) in
    let also : IsFinal (w.histories region colour) key.id k.stamp =
    subst (λ (x : Id). IsFinal (w.histories region colour) x k.stamp) ids there in
    let stamps : k.stamp ≡ key.stamp = one key.id region colour region colour k.stamp key.stamp also final in
    ap (λ (n : ℕ). let x : Key = record { stamp = n; id = k.id } in x) stamps
    ∙ ap (λ (i : Id). let x : Key = record { stamp = key.stamp; id = i } in x) ids

-- keys of the same id are the same
same_tests : (key k : Key) → (same_id k.id key.id ≡ true → k ≡ key) → same_key k key ≡ same_id k.id key.id
same_tests key k one = by_test (same_key k key ≡ same_id k.id key.id) (same_id k.id key.id)
    (λ t. let n : k.stamp ≡ key.stamp = ap (λ (x : Key). x.stamp) (one t) in
    both_true (k.stamp == key.stamp) (same_id k.id key.id) (eq-eqb k.stamp key.stamp n) t)
    (λ f. both_false (k.stamp == key.stamp) (same_id k.id key.id) f) where
      both_true : (a b : Bool) → a ≡ true → b ≡ true → (a && b) ≡ b
      both_true a b p q = ap (λ (x : Bool). x && b) p

      both_false : (a b : Bool) → b ≡ false → (a && b) ≡ b
      both_false true b q = refl
      both_false false b q = sym q

-- the first place that a search by key finds is the position of the id
first_place : (key : Key) (keys : List Key) → ((k : Key) → In k keys → same_id k.id key.id ≡ true → k ≡ key)
    → position_or_len (λ k. same_key k key) keys ≡ position_of key.id keys
first_place key [] one = refl
first_place key (k ∷ keys) one =
    let rest = first_place key keys (λ x i. one x (inr i)) in
    ap (λ (b : Bool). cond (not b) (1 + position_or_len (λ x. same_key x key) keys) 0)
    (same_tests key k (one k (inl refl)))
    ∙ turn (same_id k.id key.id) (position_or_len (λ x. same_key x key) keys) (position_of key.id keys) rest where
      turn : (b : Bool) (m n : ℕ) → m ≡ n → cond (not b) (1 + m) 0 ≡ cond b 0 (n + 1)
      turn true m n e = refl
      turn false m n e = omega (arith, e)

few : (p : Key → Bool) (keys : List Key) → position_or_len p keys ≤ length keys
few p [] = omega arith
few p (k ∷ keys) = let r = few p keys in turn (p k) (position_or_len p keys) r where
  turn : (b : Bool) (n : ℕ) → n ≤ length keys → cond (not b) (1 + n) 0 ≤ length (k ∷ keys)
  turn true n r = omega arith
  turn false n r = omega (arith, r)

some_place : (p : Key → Bool) (keys : List Key) (n : ℕ) → position p keys ≡ Some n → position_or_len p keys ≡ n
some_place p keys n is = turn (nat_lt (position_or_len p keys) (length keys)) is where
  turn : (b : Bool) → cond b (Some (position_or_len p keys)) None ≡ Some n → position_or_len p keys ≡ n
  turn true e = cc
  turn false e = absurd (let f : ⊥ = cc in f)

no_place : (p : Key → Bool) (keys : List Key) → position p keys ≡ None → length keys ≡ position_or_len p keys
no_place p keys is = turn (nat_lt (position_or_len p keys) (length keys)) refl is where
  turn : (b : Bool) → nat_lt (position_or_len p keys) (length keys) ≡ b
      → cond b (Some (position_or_len p keys)) None ≡ None → length keys ≡ position_or_len p keys
  turn true t e = absurd (let f : ⊥ = cc in f)
  turn false t e =
      let low : length keys ≤ position_or_len p keys = ltb-false (position_or_len p keys) (length keys) t in
      let high = few p keys in
      omega (arith, low, high)

-- the position that a search by key finds is that of the id
pub found_at : (w : World) → OneFinalStamp w → (region colour : ℕ) (key : Key)
    → IsFinal (w.histories region colour) key.id key.stamp → (n : ℕ)
    → position (λ k. same_key k key) (line (w.histories region colour)) ≡ Some n
    → n ≡ position_of key.id (line (w.histories region colour))
found_at w one region colour key final n is =
    let keys = line (w.histories region colour) in
    sym (some_place (λ k. same_key k key) keys n is)
    ∙ first_place key keys (only_key w one region colour key final)

pub none_at : (w : World) → OneFinalStamp w → (region colour : ℕ) (key : Key)
    → IsFinal (w.histories region colour) key.id key.stamp
    → position (λ k. same_key k key) (line (w.histories region colour)) ≡ None
    → length (line (w.histories region colour)) ≡ position_of key.id (line (w.histories region colour))
none_at w one region colour key final is =
    let keys = line (w.histories region colour) in
    no_place (λ k. same_key k key) keys is
    ∙ first_place key keys (only_key w one region colour key final)
