-- The members of a set of colours rise.
use Rattle.std.proofs.Common.{◌≡◌, ℕ, zero, suc, ◌+◌, ◌<◌, ◌≤◌, Bool, true, false, cond, ◌∷◌, Some, slice_get, refl, sym, subst, ◌∙◌, arith, inl, inr}
use Rattle.std.specs.List.{filter, range_with_len}
use Rattle.std.proofs.lemmas.Bool.{cases_order, true≢false}
use Rattle.log_node.specs.declared.limits.TheConstants.{MAX_COLOURS}
use Rattle.log_node.specs.declared.ids.Colours.{Colours}
use Rattle.log_node.specs.declared.marks.Mark.{Mark}
use Rattle.log_node.specs.declared.marks.Mark.TheVariants as marks
use Rattle.log_node.specs.Sets.{has, members}

module _ (test : ℕ → Bool) where
  at_least : (n a i c : ℕ) → slice_get (filter test (range_with_len a n)) i ≡ Some c → a ≤ c
  at_least zero a i c e = absurd (let f : ⊥ = cc (e) in f)
  at_least (suc n) a i c e = by (test a) i e (λ j. at_least n (a + 1) j c) where
    by : (b : Bool) (j : ℕ)
        → slice_get (cond b (a ∷ filter test (range_with_len (a + 1) n)) (filter test (range_with_len (a + 1) n))) j
        ≡ Some c
        → ((l : ℕ) → slice_get (filter test (range_with_len (a + 1) n)) l ≡ Some c → a + 1 ≤ c) → a ≤ c
    by true zero f more = let same : a ≡ c = cc f in omega (arith, same)
    by true (suc j) f more = let le = more j f in omega (arith, le)
    by false j f more = let le = more j f in omega (arith, le)

  rises : (n a i j c d : ℕ) → i < j → slice_get (filter test (range_with_len a n)) i ≡ Some c
      → slice_get (filter test (range_with_len a n)) j ≡ Some d → c < d
  rises zero a i j c d lt e f = absurd (let g : ⊥ = cc (e) in g)
  rises (suc n) a i j c d lt e f =
      by (test a) i j lt e f (λ k l. rises n (a + 1) k l c d) (λ l. at_least n (a + 1) l d) where
        by : (b : Bool) (k l : ℕ) → k < l
            → slice_get (cond b (a ∷ filter test (range_with_len (a + 1) n)) (filter test (range_with_len (a + 1) n))) k
            ≡ Some c
            → slice_get (cond b (a ∷ filter test (range_with_len (a + 1) n)) (filter test (range_with_len (a + 1) n))) l
            ≡ Some d
            → ((k l : ℕ) → k < l → slice_get (filter test (range_with_len (a + 1) n)) k ≡ Some c
            → slice_get (filter test (range_with_len (a + 1) n)) l ≡ Some d → c < d)
            → ((l : ℕ) → slice_get (filter test (range_with_len (a + 1) n)) l ≡ Some d → a + 1 ≤ d) → c < d
        by true zero zero less p q more low = absurd (let g : ⊥ = omega (arith, less) in g)
        by true zero (suc l) less p q more low =
            let same : a ≡ c = cc p in let le = low l q in omega (arith, same, le)
        by true (suc k) zero less p q more low = absurd (let g : ⊥ = omega (arith, less) in g)
        by true (suc k) (suc l) less p q more low = more k l (omega (arith, less)) p q
        by false k l less p q more low = more k l less p q

module _ (set : Colours) where
  pub members_rise : (i j c d : ℕ) → i < j → slice_get (members set) i ≡ Some c → slice_get (members set) j ≡ Some d
      → c < d
  members_rise = rises (has set) MAX_COLOURS 0

  pub members_once : (i j c d : ℕ) → slice_get (members set) i ≡ Some c → slice_get (members set) j ≡ Some d → c ≡ d
      → i ≡ j
  members_once i j c d e f same = elim (cases_order i j) [
    | inl is ↦ is
    | inr (inl lt) ↦ absurd (let less = members_rise i j c d lt e f in let g : ⊥ = omega (arith, less, same) in g)
    | inr (inr gt) ↦ absurd (let less = members_rise j i d c gt f e in let g : ⊥ = omega (arith, less, same) in g)
  ]

  pub members_before : (i j c d : ℕ) → slice_get (members set) i ≡ Some c → slice_get (members set) j ≡ Some d
      → c < d → i < j
  members_before i j c d e f lt = elim (cases_order i j) [
    | inl is ↦ absurd (
        let g : Some c ≡ Some d = sym e ∙ subst (λ (k : ℕ). slice_get (members set) k ≡ Some d) (sym is) f in
        let same : c ≡ d = cc g in let h : ⊥ = omega (arith, lt, same) in h)
    | inr (inl less) ↦ less
    | inr (inr gt) ↦ absurd (let less = members_rise j i d c gt f e in let g : ⊥ = omega (arith, less, lt) in g)
  ]

-- a mark for each colour of a set, of which some fact is had
module _ (set : Colours) (Fact : ℕ → Mark → Type 0) (fact : (c : ℕ) → has set c ≡ true → (m : Mark) × Fact c m) where
  chosen : (c : ℕ) (b : Bool) → has set c ≡ b → Mark
  chosen c true e = (fact c e).0
  chosen c false e = marks.None

  pub mark_for : ℕ → Mark
  mark_for c = chosen c (has set c) refl

  pub mark_fits : (c : ℕ) → has set c ≡ true → Fact c (mark_for c)
  unfolding chosen mark_for
  mark_fits c h = by (has set c) refl where
    by : (b : Bool) (e : has set c ≡ b) → Fact c (chosen c b e)
    by true e = (fact c e).1
    by false e = absurd (true≢false (sym h ∙ e))
