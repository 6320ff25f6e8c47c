-- Which of two nodes goes first is a strict order.
use Rattle.std.proofs.Common.{◌≡◌, ℕ, ◌<◌, true, false, subst, ap, sym, ◌∙◌, inl, inr, ◌⊎◌, arith}
use Rattle.std.specs.Prelude.{◌==◌, ◌&&◌, nat_lt}
use Rattle.std.proofs.lemmas.Bool.{eqb-true, and_parts, and_from, or_left, or_right, or_cases, lt-ltb, ltb-true}
use Rattle.std.proofs.lemmas.Bool.{false_from_ne_true}
use Rattle.log_node.specs.declared.ids.Id.{Id}
use Rattle.log_node.specs.declared.ids.Key.{Key}
use Rattle.log_node.specs.declared.node.Head.{Head}
use Rattle.log_node.specs.Order.{same_id, same_key, key_below}
use Rattle.col_core.specs.PlayOrder.{Place, goes_first}
use Rattle.col_core.proofs.CallerLemmas.{same_id-true}
use Rattle.log_node.proofs.CallerLemmas.{key-trans, key-irrefl, same_key-is}

-- why the one goes first
abbrev First : Head → Place → Head → Place → Type 0
First a p b q = (key_below a.key b.key ≡ true) ⊎ ((same_key a.key b.key ≡ true) × (p.region < q.region))

first_is : (a : Head) (p : Place) (b : Head) (q : Place) → goes_first a p b q ≡ true → First a p b q
first_is a p b q e = pick (or_cases (key_below a.key b.key) _ e) where
  pick : (key_below a.key b.key ≡ true) ⊎ ((same_key a.key b.key && nat_lt p.region q.region) ≡ true) → First a p b q
  pick (inl t) = inl t
  pick (inr t) = let s = and_parts (same_key a.key b.key) (nat_lt p.region q.region) t in inr (s.0, ltb-true _ _ s.1)

is_first : (a : Head) (p : Place) (b : Head) (q : Place) → First a p b q → goes_first a p b q ≡ true
is_first a p b q (inl t) = or_left (key_below a.key b.key) _ t
is_first a p b q (inr s) = or_right (key_below a.key b.key) _ (and_from (same_key a.key b.key)
    (nat_lt p.region q.region) s.0 (lt-ltb _ _ s.1))

-- what goes before one that goes before a third goes before the third
pub first-trans : (a b c : Head) (p q r : Place) → goes_first a p b q ≡ true → goes_first b q c r ≡ true
    → goes_first a p c r ≡ true
first-trans a b c p q r e f = is_first a p c r (pick (first_is a p b q e) (first_is b q c r f)) where
  pick : First a p b q → First b q c r → First a p c r
  pick (inl s) (inl t) = inl (key-trans a.key b.key c.key s t)
  pick (inl s) (inr t) = inl (subst (λ (k : Key). key_below a.key k ≡ true) (same_key-is b.key c.key t.0) s)
  pick (inr s) (inl t) = inl (subst (λ (k : Key). key_below k c.key ≡ true) (sym (same_key-is a.key b.key s.0)) t)
  pick (inr s) (inr t) =
      let x = s.1 in let y = t.1 in
      inr (subst (λ (k : Key). same_key k c.key ≡ true) (sym (same_key-is a.key b.key s.0)) t.0, omega (arith, x, y))

-- no node goes before itself
pub first-irrefl : (a : Head) (p : Place) → goes_first a p a p ≡ true → ⊥
first-irrefl a p e = pick (first_is a p a p e) where
  pick : First a p a p → ⊥
  pick (inl t) = key-irrefl a.key t
  pick (inr s) = let x = s.1 in omega (arith, x)

-- nor does each of two go before the other
pub first-asym : (a b : Head) (p q : Place) → goes_first a p b q ≡ true → goes_first b q a p ≡ false
first-asym a b p q e = false_from_ne_true (goes_first b q a p) (λ f. first-irrefl a p (first-trans a b a p q p e f))
