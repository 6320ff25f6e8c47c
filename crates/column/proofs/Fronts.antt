-- Of entries whose keys rise those with a key below stand in front.
use Rattle.std.proofs.Common.{◌≡◌, ℕ, zero, suc, ◌<◌, ◌≤◌, Bool, true, false, cond, List, [], ◌∷◌, length, take, get_or}
use Rattle.std.proofs.Common.{Some, refl, ap, sym, ◌∙◌, inl, inr, ◌⊎◌, arith}
use Rattle.std.specs.Prelude.{not, ◌&&◌, map, Option}
use Rattle.std.specs.List.{AllByRecursion, filter, find}
use Rattle.std.specs.List.Sorted.{IsPartitionedBy}
use Rattle.std.proofs.lemmas.Bool.{cond-true, cond-false, cases_Bool, cases_lt}
use Rattle.log_node.specs.declared.ids.Key.{Key}
use Rattle.log_node.specs.Order.{key_below}
use Rattle.skeen_core.specs.declared.waiting.Waiting.{Waiting}
use Rattle.log_node.specs.Standings.{Standing, is_delivered, queue_of}
use Rattle.skeen_core.specs.Queues.{standing_of}
use Rattle.skeen_core.proofs.CallerLemmas.{each-at, each-map}
use Rattle.col_core.specs.declared.Entry.{Entry}
use Rattle.col_core.specs.History.{entries}
use Rattle.col_core.specs.Computed.{dated}
use Rattle.col_core.specs.Legal.{IsColumnHistory}
use Rattle.log_node.proofs.CallerLemmas.{key-trans}
use Rattle.col_core.proofs.CallerLemmas.{In}
use Rattle.col_core.proofs.CallerLemmas as members
use Rattle.column.specs.Entering.{EnteredNode}
use Rattle.column.specs.Inside.{Rises}
use Rattle.column.proofs.Known.{entries_rise}

-- the same, where it is said of all members
each_in : (P : Standing → Type 0) (es : List Standing) → ((e : Standing) → In e es → P e) → AllByRecursion P es
each_in P [] h = tt
each_in P (e ∷ es) h = (h e (inl refl), each_in P es (λ f i. h f (inr i)))

pub rises_is : (es : List Standing) → members.Rises es → Rises es
unfolding members.Rises
rises_is [] h = tt
rises_is (e ∷ es) h = (each_in (λ (f : Standing). key_below e.key f.key ≡ true) es h.0, rises_is es h.1)

-- the entries that wait rise in key
pub waiting_rise : (own regions : ℕ) (journal : List Entry) → IsColumnHistory own regions (dated own journal)
    → Rises (queue_of (entries journal))
waiting_rise own regions journal lawful =
    rises_is (queue_of (entries journal))
    (members.rises-filter (λ e. not (is_delivered (entries journal) e)) (entries journal)
    (entries_rise own regions journal lawful))

-- of two entries the later one has the greater key
rises_at : (ws : List (Waiting EnteredNode)) (i j : ℕ) (d : Waiting EnteredNode) → Rises (map standing_of ws) → i < j
    → j < length ws
    → key_below (get_or ws i d).key (get_or ws j d).key ≡ true
rises_at [] i j d h lt in_range = absurd (let f : ⊥ = omega (arith, in_range) in f)
rises_at (w ∷ ws) i zero d h lt in_range = absurd (let f : ⊥ = omega (arith, lt) in f)
rises_at (w ∷ ws) zero (suc j) d h lt in_range =
    each-at (λ (v : Waiting EnteredNode). key_below w.key v.key ≡ true) ws j d
    (each-map standing_of (λ (f : Standing). key_below w.key f.key ≡ true) ws h.0) (omega (arith, in_range))
rises_at (w ∷ ws) (suc i) (suc j) d h lt in_range = rises_at ws i j d h.1 (omega (arith, lt)) (omega (arith, in_range))

pub parted_below : (key : Key) (ws : List (Waiting EnteredNode)) → Rises (map standing_of ws)
    → IsPartitionedBy (λ (w : Waiting EnteredNode). key_below w.key key) ws
parted_below key ws h i j d le lt t = elim (cases_lt i j) [
  | inl under ↦ key-trans (get_or ws i d).key (get_or ws j d).key key (rises_at ws i j d h under lt) t
  | inr over ↦ let same : i ≡ j = omega (arith, le, over) in rw same t
]

-- what stands before the point at which a test begins to fail is all that passes
pub before_point : {A : Type 0} (p : A → Bool) (xs : List A) (n : ℕ)
    → ((k : ℕ) (d : A) → k < n → k < length xs → p (get_or xs k d) ≡ true)
    → ((k : ℕ) (d : A) → n ≤ k → k < length xs → p (get_or xs k d) ≡ false) → take n xs ≡ filter p xs
before_point {A} p [] n pass fail = none n where
  none : (n : ℕ) → ◌≡◌ {A = List A} (take n []) []
  none zero = refl
  none (suc n) = refl
before_point p (x ∷ xs) zero pass fail =
    before_point p xs zero (λ k d lt. absurd (let f : ⊥ = omega (arith, lt) in f))
    (λ k d le lt. fail (suc k) d (omega arith) (omega (arith, lt)))
    ∙ sym (cond-false (p x) (x ∷ filter p xs) (filter p xs) (fail 0 x (omega arith) (omega arith)))
before_point {A} p (x ∷ xs) (suc n) pass fail =
    ap (λ (l : List A). x ∷ l)
    (before_point p xs n (λ k d lt in_range. pass (suc k) d (omega (arith, lt)) (omega (arith, in_range)))
    (λ k d le lt. fail (suc k) d (omega (arith, le)) (omega (arith, lt))))
    ∙ sym (cond-true (p x) (x ∷ filter p xs) (filter p xs) (pass 0 x (omega arith) (omega arith)))

-- a test after another is a test of both
each_test : (a b : Bool) → (a ≡ true → b ≡ (b && a)) × (a ≡ false → (b && a) ≡ false)
each_test true true = (λ _. refl, λ e. e)
each_test true false = (λ _. refl, λ _. refl)
each_test false true = (λ e. sym e, λ _. refl)
each_test false false = (λ _. refl, λ _. refl)

pub filter_two : {A : Type 0} (p q : A → Bool) (xs : List A) → filter p (filter q xs) ≡ filter (λ x. p x && q x) xs
filter_two p q [] = refl
filter_two {A} p q (x ∷ xs) = each (filter_two p q xs) (cases_Bool (q x)) where
  each : filter p (filter q xs) ≡ filter (λ y. p y && q y) xs → (q x ≡ true) ⊎ (q x ≡ false)
      → filter p (filter q (x ∷ xs)) ≡ filter (λ y. p y && q y) (x ∷ xs)
  each rest (inl t) =
      ap (filter p) (cond-true (q x) (x ∷ filter q xs) (filter q xs) t)
      ∙ (ap (λ (l : List A). cond (p x) (x ∷ l) l) rest
      ∙ ap (λ (b : Bool). cond b (x ∷ filter (λ y. p y && q y) xs) (filter (λ y. p y && q y) xs))
      ((each_test (q x) (p x)).0 t))
  each rest (inr f) =
      ap (filter p) (cond-false (q x) (x ∷ filter q xs) (filter q xs) f)
      ∙ (rest ∙ sym (cond-false (p x && q x) (x ∷ filter (λ y. p y && q y) xs) (filter (λ y. p y && q y) xs)
      ((each_test (q x) (p x)).1 f)))

pub find_two : {A : Type 0} (p q : A → Bool) (xs : List A) → find p (filter q xs) ≡ find (λ x. p x && q x) xs
find_two p q [] = refl
find_two {A} p q (x ∷ xs) = each (find_two p q xs) (cases_Bool (q x)) where
  each : find p (filter q xs) ≡ find (λ y. p y && q y) xs → (q x ≡ true) ⊎ (q x ≡ false) → find p (filter q (x ∷ xs))
      ≡ find (λ y. p y && q y) (x ∷ xs)
  each rest (inl t) =
      ap (find p) (cond-true (q x) (x ∷ filter q xs) (filter q xs) t)
      ∙ (ap (λ (o : Option A). cond (p x) (Some x) o) rest
      ∙ ap (λ (b : Bool). cond b (Some x) (find (λ y. p y && q y) xs)) ((each_test (q x) (p x)).0 t))
  each rest (inr f) =
      ap (find p) (cond-false (q x) (x ∷ filter q xs) (filter q xs) f)
      ∙ (rest ∙ sym (cond-false (p x && q x) (Some x) (find (λ y. p y && q y) xs) ((each_test (q x) (p x)).1 f)))
