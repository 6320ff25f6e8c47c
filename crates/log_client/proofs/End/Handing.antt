-- The clients' holds while the regions are closed, the last one first.
use Rattle.std.proofs.Common.{◌≡◌, ℕ, zero, suc, ◌+◌, ◌<◌, List, [], ◌∷◌, ◌++◌, length, map, set, Some, slice_get, refl, ap}
use Rattle.std.proofs.Common.{sym, subst, ◌∙◌, arith, inl, inr, length-append, length-set}
use Rattle.std.proofs.lemmas.Bool.{cases_eq}
use Rattle.std.proofs.lemmas.List.{length-map}
use Rattle.std.proofs.lemmas.Option.{slice_get_within}
use Rattle.chain_store.specs.declared.hold.Hold.{Hold}
use Rattle.chain_store.specs.declared.region.Region.{Region}
use Rattle.chain_store.specs.Closing.{AreHoldsOf}
use Rattle.lawful_run.proofs.CallerLemmas.{get-append}
use Rattle.log_client.specs.declared.closed.Leaving.{Leaving}
use Rattle.log_client.specs.Closing.{AreHoldsAt}
use Rattle.log_client.specs.Leaving.{left_of, HaveHoldsLeft, GaveHold, GatheredHolds, AreLeaving}
use Rattle.log_client.proofs.Lists.{got, got_last, same_items, set_here, set_there, unmapped}

-- one client more gave its last hold
pub gathered_one : (old now : List Leaving) (ps qs : List Hold) (i : ℕ) (c d : Leaving) (p : Hold)
    → GatheredHolds old now ps i → i < length old → slice_get now i ≡ Some c → GaveHold c d p → qs ≡ ps ++ p ∷ []
    → GatheredHolds old (set now i d) qs (i + 1)
gathered_one old now ps qs i c d p g near here gave e =
    let count = g.count in record {
      same = length-set now i d ∙ g.same;
      count = ap length e ∙ length-append ps (p ∷ [])
          ∙ (let z : length ps + length (p ∷ []) ≡ i + 1 = omega (arith, count) in z);
      gave = λ j b lt at. elim (cases_eq j i) [
        | inl is ↦
            let was : Some c ≡ Some b = sym here ∙ g.later i (omega arith) ∙ ap (slice_get old) (sym is) ∙ at in
            let same : c ≡ b = cc was in (
              d,
              p,
              ap (slice_get (set now i d)) is ∙ set_here now i d c here,
              ap (λ l. slice_get l j) e ∙ ap (slice_get (ps ++ p ∷ [])) (is ∙ sym count) ∙ got_last ps p,
              subst (λ (z : Leaving). GaveHold z d p) same gave,
            )
        | inr other ↦
            let b = g.gave j b (omega (arith, lt, other)) at in
            (b.0, b.1, set_there now i j d other ∙ b.2, ap (λ l. slice_get l j) e ∙ get-append ps (p ∷ []) j b.1 b.3, b.4)
      ];
      later = λ j after. set_there now i j d (λ is. omega (arith, after, is)) ∙ g.later j (omega (arith, after));
    }

-- each client has the first n of its holds left
pub record Shrunk (old now : List Leaving) (n : ℕ) : Type 0 where
  pub same : length now ≡ length old
  pub each : (i : ℕ) (c d : Leaving) → slice_get old i ≡ Some c → slice_get now i ≡ Some d
      → (length (left_of d) ≡ n)
      × ((k : ℕ) (p : Hold) → slice_get (left_of d) k ≡ Some p → slice_get (left_of c) k ≡ Some p)

pub begins : (rs : List Region) (old : List Leaving) → AreLeaving rs old → Shrunk old old (length rs)
begins rs old all = record {
  same = refl;
  each = λ i c d at dat.
      let two : Some c ≡ Some d = sym at ∙ dat in
      let is : c ≡ d = cc two in
      ((all.each i d dat).many, λ k p e. subst (λ (z : Leaving). slice_get (left_of z) k ≡ Some p) (sym is) e);
}

-- the client that is left as this one
began : (old now : List Leaving) (n i : ℕ) (d : Leaving) → Shrunk old now n → slice_get now i ≡ Some d
    → (c : Leaving) × (slice_get old i ≡ Some c)
began old now n i d s at =
    let near = slice_get_within now i d at in
    let same = s.same in
    got old i (omega (arith, near, same))

-- of each client the hold of one region
pub record AreOfRegion (old : List Leaving) (m : ℕ) (ps : List Hold) : Type 0 where
  pub count : length ps ≡ length old
  pub each : (i : ℕ) (c : Leaving) (p : Hold) → slice_get old i ≡ Some c → slice_get ps i ≡ Some p
      → slice_get (left_of c) m ≡ Some p

module _ (old now : List Leaving) (n m : ℕ) (s : Shrunk old now n) (more : n ≡ m + 1) where
  pub one_more : HaveHoldsLeft now
  one_more i d at =
      let b = began old now n i d s at in
      let l = (s.each i b.0 d b.1 at).0 in
      omega (arith, l, more)

  module _ (next : List Leaving) (ps : List Hold) (g : GatheredHolds now next ps (length now)) where
    pub shrinks : Shrunk old next m
    shrinks = record {
      same = g.same ∙ s.same;
      each = λ i c d at dat.
          let near = slice_get_within next i d dat in
          let same = g.same in
          let b = got now i (omega (arith, near, same)) in
          let t = s.each i c b.0 at b.1 in
          let v = g.gave i b.0 (omega (arith, near, same)) b.1 in
          let two : Some v.0 ≡ Some d = sym v.2 ∙ dat in
          let is : v.0 ≡ d = cc two in
          let gave : GaveHold b.0 d v.1 = subst (λ (z : Leaving). GaveHold b.0 z v.1) is v.4 in
          let long = ap length gave ∙ length-append (left_of d) (v.1 ∷ []) in
          let l = t.0 in
          let short : length (left_of d) + length (v.1 ∷ []) ≡ n = sym long ∙ l in (
            omega (arith, short, more),
            λ k p e. t.1 k p (ap (λ z. slice_get z k) gave ∙ get-append (left_of d) (v.1 ∷ []) k p e),
          );
    }

    -- what was given are the holds of the last region
    pub of_last : AreOfRegion old m ps
    of_last = record {
      count = g.count ∙ s.same;
      each = λ i c p at pat.
          let near = slice_get_within old i c at in
          let same = s.same in
          let b = got now i (omega (arith, near, same)) in
          let t = s.each i c b.0 at b.1 in
          let v = g.gave i b.0 (omega (arith, near, same)) b.1 in
          let two : Some v.1 ≡ Some p = sym v.3 ∙ pat in
          let is : v.1 ≡ p = cc two in
          let long = ap length v.4 ∙ length-append (left_of v.0) (v.1 ∷ []) in
          let l = t.0 in
          let all : length (left_of v.0) + length (v.1 ∷ []) ≡ n = sym long ∙ l in
          let short : length (left_of v.0) ≡ m = omega (arith, all, more) in
          t.1 m p (ap (λ z. slice_get z m) v.4 ∙ ap (slice_get (left_of v.0 ++ v.1 ∷ [])) (sym short)
          ∙ got_last (left_of v.0) v.1 ∙ ap Some is);
    }

-- holds of a region are those of all its clients
pub are_holds : (rs : List Region) (old : List Leaving) (m : ℕ) (r : Region) (ps : List Hold)
    → AreLeaving rs old → slice_get rs m ≡ Some r → AreOfRegion old m ps → AreHoldsOf r ps
are_holds rs old m r ps all at of = (
  of.count ∙ all.all m r at,
  λ i p pat.
      let near = slice_get_within ps i p pat in
      let count = of.count in
      let b = got old i (omega (arith, near, count)) in
      (all.each i b.0 b.1).each m r p at (of.each i b.0 p b.1 pat),
)

pub are_at : (old : List Leaving) (m : ℕ) (ps : List Hold) → AreOfRegion old m ps → AreHoldsAt (map left_of old) m ps
are_at old m ps of = (
  of.count ∙ sym (length-map old left_of),
  λ u hs k at kat.
      let c = unmapped left_of old u hs at in
      subst (λ (l : List Hold). slice_get l m ≡ Some k) c.2 (of.each u c.0 k c.1 kat),
)

-- what holds of the items from the place n on, beside those of a list, holds of them from m on with one more before these
pub more_behind : {A B : Type 0} (P : ℕ → A → B → Type 0) (xs : List A) (m n : ℕ) (a : A) (b : B) (bs next : List B)
    → n ≡ m + 1 → next ≡ b ∷ bs → slice_get xs m ≡ Some a → P m a b
    → ((k : ℕ) (d : A) (t : B) → slice_get xs (n + k) ≡ Some d → slice_get bs k ≡ Some t → P (n + k) d t)
    → (k : ℕ) (d : A) (t : B) → slice_get xs (m + k) ≡ Some d → slice_get next k ≡ Some t → P (m + k) d t
more_behind {A} {B} P xs m n a b bs next more is here good rest k d t at nat =
    by k at (sym (ap (λ (l : List B). slice_get l k) is) ∙ nat) where
      by : (k : ℕ) → slice_get xs (m + k) ≡ Some d → slice_get (b ∷ bs) k ≡ Some t → P (m + k) d t
      by zero at tat =
          let z : m + 0 ≡ m = omega arith in
          let same : a ≡ d = same_items xs m a d here (ap (slice_get xs) (sym z) ∙ at) in
          let one : b ≡ t = same_items (b ∷ bs) 0 b t refl tat in
          subst (λ (i : ℕ). P i d t) (sym z) (subst (λ (y : B). P m d y) one (subst (λ (y : A). P m y b) same good))
      by (suc k) at tat =
          let z : n + k ≡ m + suc k = omega (arith, more) in
          subst (λ (i : ℕ). P i d t) z (rest k d t (ap (slice_get xs) z ∙ at) tat)
