-- Steps that are taken one after another, as many as are allowed.
use Rattle.std.proofs.Common.{◌≡◌, ℕ, zero, suc, ◌+◌, ◌<◌, ◌≤◌, List, [], ◌∷◌, ◌++◌, length, take, refl, ap, sym, subst}
use Rattle.std.proofs.Common.{◌∙◌, arith, append_assoc}
use Rattle.std.specs.Prelude.{◌-◌}
use Rattle.std.proofs.lemmas.List.{append-nil}
use Rattle.world_laws.specs.declared.steps.Step.TheVariants.{Settle}
use Rattle.log_node.specs.declared.ids.Row.{Row}
use Rattle.world_laws.specs.declared.steps.Step.{Step}
use Rattle.world_laws.specs.Worlds.{World, after, reply, run_steps}
use Rattle.world_laws.specs.Completing.{settle_steps}
use Rattle.world_laws.proofs.CallerLemmas.{run_steps-append}
use Rattle.world_code.specs.declared.completing.Taken.{Taken}
use Rattle.world_code.specs.Completed.{done_count, steps_done, AreTaken}

pub take-append : {A : Type 0} (n : ℕ) (xs ys : List A) → take n (xs ++ ys) ≡ take n xs ++ take (n - length xs) ys
take-append zero xs ys = ap (λ (k : ℕ). take k ys) (let e : 0 ≡ 0 - length xs = omega arith in e)
take-append (suc n) [] ys = ap (λ (k : ℕ). take k ys) (let e : suc n ≡ suc n - 0 = omega arith in e)
take-append {A} (suc n) (x ∷ xs) ys =
    ap (λ (l : List A). x ∷ l)
    (take-append n xs ys
    ∙ ap (λ (k : ℕ). take n xs ++ take k ys) (let e : n - length xs ≡ suc n - suc (length xs) = omega arith in e))

pub take-all : {A : Type 0} (n : ℕ) (xs : List A) → length xs ≤ n → take n xs ≡ xs
take-all zero [] le = refl
take-all (suc n) [] le = refl
take-all zero (x ∷ xs) le = absurd (let f : ⊥ = omega (arith, le) in f)
take-all {A} (suc n) (x ∷ xs) le = ap (λ (l : List A). x ∷ l) (take-all n xs (omega (arith, le)))

take-none : {A : Type 0} (n : ℕ) → ◌≡◌ {A = List A} (take n []) []
take-none zero = refl
take-none (suc n) = refl

steps_done-append : (w : World) (xs ys : List Step)
    → steps_done w (xs ++ ys) ≡ steps_done w xs + steps_done (run_steps w xs) ys
steps_done-append w [] ys = let e : steps_done w ys ≡ 0 + steps_done w ys = omega arith in e
steps_done-append w (x ∷ xs) ys =
    let r = steps_done-append (after w x) xs ys in
    sum (done_count (reply w x)) (steps_done (after w x) xs) (steps_done (run_steps (after w x) xs) ys)
    (steps_done (after w x) (xs ++ ys)) r where
      sum : (a b c d : ℕ) → d ≡ b + c → a + d ≡ a + b + c
      sum a b c d e = omega (arith, e)

-- more steps, taken after the first ones
pub taken_join : (w w1 w2 : World) (xs ys : List Step) (limit : ℕ) (t u : Taken) → AreTaken w xs limit w1 t
    → AreTaken w1 ys t.left w2 u → AreTaken w (xs ++ ys) limit w2 (record { done = t.done + u.done; left = u.left })
taken_join w w1 w2 xs ys limit t u a b = record {
  world = b.world
      ∙ (ap (λ (v : World). run_steps v (take t.left ys)) a.world
      ∙ (sym (run_steps-append w (take limit xs) (take t.left ys))
      ∙ ap (run_steps w) same));
  done = sum t.done u.done a.done (b.done ∙ ap (λ (v : World). steps_done v (take t.left ys)) a.world)
      (ap (steps_done w) (sym same) ∙ steps_done-append w (take limit xs) (take t.left ys));
  left = b.left ∙ (ap (λ (k : ℕ). k - length ys) a.left ∙ (minus limit (length xs) (length ys)
      ∙ ap (λ (k : ℕ). limit - k) (sym (lengths xs))));
} where
  same : take limit xs ++ take t.left ys ≡ take limit (xs ++ ys)
  same = ap (λ (k : ℕ). take limit xs ++ take k ys) a.left ∙ sym (take-append limit xs ys)

  sum : (a b : ℕ) {c d e : ℕ} → a ≡ c → b ≡ d → e ≡ c + d → a + b ≡ e
  sum a b p q r = omega (arith, p, q, r)

  minus : (a b c : ℕ) → a - b - c ≡ a - (b + c)
  minus a b c = omega arith

  lengths : (zs : List Step) → length (zs ++ ys) ≡ length zs + length ys
  lengths [] = let e : length ys ≡ 0 + length ys = omega arith in e
  lengths (z ∷ zs) = let r = lengths zs in omega (arith, r)

pub taken_none : (w : World) (limit : ℕ) → AreTaken w [] limit w (record { done = 0; left = limit })
taken_none w limit = record {
  world = sym (ap (run_steps w) (take-none limit));
  done = sym (ap (steps_done w) (take-none limit));
  left = omega arith;
}

-- where none is allowed, none is taken
pub taken_stop : (w : World) (steps : List Step) → AreTaken w steps 0 w (record { done = 0; left = 0 })
taken_stop w steps = record { world = refl; done = refl; left = omega arith }

take-one : (limit : ℕ) (s : Step) → 0 < limit → take limit (s ∷ []) ≡ s ∷ []
take-one zero s lt = absurd (let f : ⊥ = omega (arith, lt) in f)
take-one (suc n) s lt = ap (λ (l : List Step). s ∷ l) (take-none n)

-- one step
pub taken_one : (w : World) (s : Step) (limit : ℕ) → 0 < limit
    → AreTaken w (s ∷ []) limit (after w s) (record { done = done_count (reply w s); left = limit - 1 })
taken_one w s limit lt = record {
  world = sym (ap (run_steps w) (take-one limit s lt));
  done = (let e : done_count (reply w s) ≡ done_count (reply w s) + 0 = omega arith in e)
      ∙ sym (ap (steps_done w) (take-one limit s lt));
  left = refl;
}

-- The same in the code's words

pub taken_more : (w w1 w2 : World) (xs ys : List Step) (s : Step) (limit done left : ℕ)
    → AreTaken w xs limit w1 (record { done = done; left = left }) → 0 < left → ys ≡ xs ++ s ∷ []
    → w2 ≡ after w1 s → (d : ℕ) → d ≡ done_count (reply w1 s)
    → AreTaken w ys limit w2 (record { done = done + d; left = left - 1 })
taken_more w w1 w2 xs ys s limit done left a lt is e d de =
    subst (λ (l : List Step). AreTaken w l limit w2 (record { done = done + d; left = left - 1 })) (sym is)
    (subst (λ (v : World). AreTaken w (xs ++ s ∷ []) limit v (record { done = done + d; left = left - 1 })) (sym e)
    (subst (λ (k : ℕ). AreTaken w (xs ++ s ∷ []) limit (after w1 s) (record { done = done + k; left = left - 1 }))
    (sym de)
    (taken_join w w1 (after w1 s) xs (s ∷ []) limit (record { done = done; left = left })
    (record { done = done_count (reply w1 s); left = left - 1 }) a (taken_one w1 s left lt))))

pub taken_no_more : (w w1 : World) (xs ys zs : List Step) (limit done left : ℕ)
    → AreTaken w xs limit w1 (record { done = done; left = left }) → left ≡ 0 → zs ≡ xs ++ ys
    → AreTaken w zs limit w1 (record { done = done; left = left })
taken_no_more w w1 xs ys zs limit done left a e is =
    subst (λ (l : List Step). AreTaken w l limit w1 (record { done = done; left = left })) (sym is)
    (subst (λ (k : ℕ). AreTaken w (xs ++ ys) limit w1 (record { done = k; left = left }))
    (let x : done + 0 ≡ done = omega arith in x)
    (subst (λ (k : ℕ). AreTaken w (xs ++ ys) limit w1 (record { done = done + 0; left = k })) (sym e)
    (taken_join w w1 w1 xs ys limit (record { done = done; left = 0 }) (record { done = 0; left = 0 })
    (subst (λ (k : ℕ). AreTaken w xs limit w1 (record { done = done; left = k })) e a) (taken_stop w1 ys))))

-- settlings of one colour more
settle_steps-more : (by : ℕ) (row : Row) (cs : List ℕ) (c : ℕ)
    → settle_steps by row (cs ++ c ∷ []) ≡ settle_steps by row cs ++ settle_steps by row (c ∷ [])
settle_steps-more by row [] c = refl
settle_steps-more by row (d ∷ cs) c = ap (λ (l : List Step). (settle_steps by row (d ∷ []) ++ l))
    (settle_steps-more by row cs c)

-- The node is settled in the first of these colours, as far as steps are allowed; the others are left.
pub record AreSettled (w : World) (by : ℕ) (row : Row) (limit : ℕ) (left colours : List ℕ) (w' : World) (taken : Taken)
    : Type 0 where
  pub first : List ℕ
  pub apart : first ++ left ≡ colours
  pub are_taken : AreTaken w (settle_steps by row first) limit w' taken

pub settled_none : (w : World) (by : ℕ) (row : Row) (limit : ℕ) (left colours : List ℕ) → left ≡ colours
    → AreSettled w by row limit left colours w (record { done = 0; left = limit })
settled_none w by row limit left colours all = record { first = []; apart = all; are_taken = taken_none w limit }

-- the next of them
module _ (w : World) (by : ℕ) (row : Row) (limit n : ℕ) (rest colours : List ℕ) (w1 : World) (done left : ℕ)
    (before : AreSettled w by row limit (n ∷ rest) colours w1 (record { done = done; left = left })) where
  abbrev firsts : List Step
  firsts = settle_steps by row before.first

  now_apart : (before.first ++ n ∷ []) ++ rest ≡ colours
  now_apart = append_assoc before.first (n ∷ []) rest ∙ before.apart

  -- a step is allowed
  pub settled_more : 0 < left → (w2 : World) → w2 ≡ after w1 (Settle by row n) → (d : ℕ)
      → d ≡ done_count (reply w1 (Settle by row n))
      → AreSettled w by row limit rest colours w2 (record { done = done + d; left = left - 1 })
  settled_more lt w2 is d de = record {
    first = before.first ++ n ∷ [];
    apart = now_apart;
    are_taken = taken_more w w1 w2 firsts (settle_steps by row (before.first ++ n ∷ [])) (Settle by row n) limit done left
        before.are_taken lt (settle_steps-more by row before.first n) is d de;
  }

  -- none is allowed
  pub settled_stop : left ≡ 0 → AreSettled w by row limit rest colours w1 (record { done = done; left = left })
  settled_stop e = record {
    first = before.first ++ n ∷ [];
    apart = now_apart;
    are_taken = taken_no_more w w1 firsts (settle_steps by row (n ∷ [])) (settle_steps by row (before.first ++ n ∷ [])) limit
        done left before.are_taken e (settle_steps-more by row before.first n);
  }

-- all of them
pub settled_all : (w : World) (by : ℕ) (row : Row) (limit : ℕ) (left colours : List ℕ) (w' : World) (taken : Taken)
    → left ≡ [] → AreSettled w by row limit left colours w' taken
    → AreTaken w (settle_steps by row colours) limit w' taken
settled_all w by row limit left colours w' taken none s =
    subst (λ (l : List ℕ). AreTaken w (settle_steps by row l) limit w' taken)
    (sym (append-nil s.first) ∙ (ap (λ (l : List ℕ). s.first ++ l) (sym none) ∙ s.apart)) s.are_taken
