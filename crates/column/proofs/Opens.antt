-- How many entries are open after one more, and after a settling.
use Rattle.std.proofs.Common.{◌≡◌, ℕ, ◌+◌, ◌≤◌, Bool, true, false, cond, List, [], ◌∷◌, length, refl, ap, sym, ◌∙◌, arith, inl, inr}
use Rattle.std.specs.Prelude.{not}
use Rattle.std.specs.List.{filter}
use Rattle.std.proofs.lemmas.Bool.{cond_both, cond-false, cases_Bool, and_parts, or_cases, not-true, true≢false}
use Rattle.log_node.specs.declared.ids.Id.{Id}
use Rattle.log_node.specs.Order.{same_id, key_below}
use Rattle.log_node.specs.declared.marks.Outcome.{Outcome}
use Rattle.log_node.specs.declared.marks.Outcome.TheVariants.{Open, Gone, Final}
use Rattle.log_node.specs.Standings.{Standing, is_open_id, with_entry, without_id, settled_entries}
use Rattle.skeen_core.specs.Queues.{has_open, is_decided}
use Rattle.col_core.specs.History.{open_count}

-- one entry more
pub count-with : (e : Standing) (es : List Standing) → open_count (with_entry e es) ≡ cond e.settled 0 1 + open_count es
count-with e [] = refl
count-with e (f ∷ fs) =
    cond_both (key_below e.key f.key) (e ∷ f ∷ fs) (f ∷ with_entry e fs)
    (λ es. open_count es ≡ cond e.settled 0 1 + open_count (f ∷ fs))
    (λ _. refl)
    (λ _. let h = count-with e fs in omega (arith, h))

-- without an id there are no more
count-without : (id : Id) (es : List Standing) → open_count (without_id id es) ≤ open_count es
count-without id [] = omega arith
count-without id (e ∷ es) =
    let h = count-without id es in
    cond_both (not (same_id e.key.id id)) (e ∷ without_id id es) (without_id id es)
    (λ fs. open_count fs ≤ open_count (e ∷ es)) (λ _. omega (arith, h)) (λ _. omega (arith, h))

-- and one less where it was open
count-opened : (id : Id) (es : List Standing) → has_open id es ≡ true
    → open_count (without_id id es) + 1 ≤ open_count es
count-opened id [] some = absurd (true≢false (sym some))
count-opened id (e ∷ es) some = elim (cases_Bool (is_open_id id e)) [
  | inl t ↦
      let p = and_parts (not e.settled) (same_id e.key.id id) t in
      let s : e.settled ≡ false = not-true e.settled p.0 in
      let one : ◌≡◌ {A = ℕ} (cond e.settled 0 1) 1 = cond-false e.settled 0 1 s in
      let gone : open_count (without_id id (e ∷ es)) ≡ open_count (without_id id es) =
      ap open_count (cond-false (not (same_id e.key.id id)) (e ∷ without_id id es) (without_id id es) (ap not p.1)) in
      let h = count-without id es in
      omega (arith, h, one, gone)
  | inr f ↦
      let later : has_open id es ≡ true = elim (or_cases (is_open_id id e) (has_open id es) some)
      [ inl t ↦ absurd (true≢false (sym t ∙ f)) | inr r ↦ r ] in
      let h = count-opened id es later in
      cond_both (not (same_id e.key.id id)) (e ∷ without_id id es) (without_id id es)
      (λ fs. open_count fs + 1 ≤ open_count (e ∷ es)) (λ _. omega (arith, h)) (λ _. omega (arith, h))
]

-- a settling makes one less
pub count-settled : (id : Id) (outcome : Outcome) (es : List Standing) → has_open id es ≡ true → is_decided outcome
    ≡ true
    → open_count (settled_entries id outcome es) + 1 ≤ open_count es
count-settled id Open es some decided = absurd (true≢false (sym decided))
count-settled id (Gone why) es some decided = count-opened id es some
count-settled id (Final f) es some decided =
    let e : Standing = record { key = record { stamp = f; id = id }; settled = true } in
    let a = count-with e (without_id id es) in
    let b = count-opened id es some in
    omega (arith, a, b)

-- counted one by one, the open entries are those that are not final
pub count-is : (es : List Standing) → length (filter (λ e. not e.settled) es) ≡ open_count es
count-is [] = refl
count-is (e ∷ es) = by e.settled (count-is es) where
  by : (b : Bool) → length (filter (λ f. not f.settled) es) ≡ open_count es
      → length (cond (not b) (e ∷ filter (λ f. not f.settled) es) (filter (λ f. not f.settled) es)) ≡ cond b 0 1 + open_count es
  by true same = omega (arith, same)
  by false same = omega (arith, same)
