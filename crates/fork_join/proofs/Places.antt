-- What may be called at all items may be called at those behind the first, and what calls change of both they change of all.
use Rattle.std.proofs.Common.{ℕ, ◌+◌, ◌-◌, ◌≡◌, refl, sym, subst, ap, ◌∙◌, ⊎_elim, List, ◌++◌, length}
use native.Mathlib.Omega.{arith}
use lib.ListN.{get_or}
use denote.Ref.{MutBor}
use denote.Param.Members.{Shared}
use Rattle.std.proofs.lemmas.List.{length-append, get_or_append_left, get_or-append-add}
use Rattle.std.proofs.lemmas.Bool.{cases_lt}
use Rattle.std.specs.Fork.{ChangesAt, ChangesEach}
use Rattle.fork_join.specs.Places.{AcceptsFrom, ChangesFrom}

moved : {X : Type 0} (R : ℕ → X → X → Type 0) {i j : ℕ} {x x' y y' : X} → i ≡ j → x ≡ x' → y ≡ y' → R i x y → R j x' y'
moved R {i} {j} {x} {x'} {y} {y'} a b c r = subst (λ k. R k x' y') a (subst (λ u. R i u y') b (subst (R i x) c r))

module _ {F T : Type 0} (g : Shared F (ℕ × (MutBor T × Unit {0})) ((Unit {0}) × (MutBor T × Unit {0}))) (f : F) (base : ℕ) where
  pub accepts_others : (all xs ys : List T) (next : ℕ) → all ≡ xs ++ ys → next ≡ base + length xs → AcceptsFrom g f base all → AcceptsFrom g f next ys
  accepts_others all xs ys next e n a k d l p q =
      subst (λ i. g.pre f (i, (p, tt))) {x = base + (length xs + k)} (omega arith)
      (a (length xs + k) d (omega (arith, ap length e, length-append xs ys)) p (q ∙ sym (ap (λ zs. get_or zs (length xs + k) d) e ∙ get_or-append-add xs ys k d)))

  pub changes_both : (all xs ys xs' ys' : List T) (next : ℕ) → all ≡ xs ++ ys → next ≡ base + length xs → ChangesFrom g f base xs xs' → ChangesFrom g f next ys ys' → ChangesFrom g f base all (xs' ++ ys')
  changes_both all xs ys xs' ys' next e n a b =
      record {
        len = omega (arith, ap length e, length-append xs ys, length-append xs' ys', a.len, b.len);
        each = λ k d l. ⊎_elim
            (λ u. moved (ChangesAt g f) refl (sym (ap (λ zs. get_or zs k d) e ∙ get_or_append_left xs ys d k u)) (sym (get_or_append_left xs' ys' d k (omega (arith, a.len)))) (a.each k d u))
            (λ u. let j = k - length xs in
            let at : length xs + j ≡ k = omega arith in
            let at' : length xs' + j ≡ k = omega (arith, a.len) in
            moved (ChangesAt g f) (omega arith)
            (sym (ap (λ zs. get_or zs k d) e ∙ ap (λ i. get_or (xs ++ ys) i d) (sym at) ∙ get_or-append-add xs ys j d))
            (sym (ap (λ i. get_or (xs' ++ ys') i d) (sym at') ∙ get_or-append-add xs' ys' j d))
            (b.each j d (omega (arith, ap length e, length-append xs ys))))
            (cases_lt k (length xs));
      }

pub changes_each : {F T : Type 0} (g : Shared F (ℕ × (MutBor T × Unit {0})) ((Unit {0}) × (MutBor T × Unit {0}))) (f : F) (xs ys : List T) → ChangesFrom g f 0 xs ys → ChangesEach g f xs ys
changes_each g f xs ys c i d l = (refl, moved (ChangesAt g f) {i = 0 + i} (omega arith) refl refl (c.each i d l))
