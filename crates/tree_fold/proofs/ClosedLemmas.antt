-- Each beginning of a path that is there is there, also after a change.
use Rattle.std.proofs.Common.{◌≡◌, ℕ, ◌+◌, ◌-◌, ◌<◌, ◌≤◌, Bool, true, false, cond, List, [], ◌∷◌, ◌++◌, length, take, drop, None, inl, inr, refl, ap, sym, ◌∙◌, arith, append_assoc, length-append}
use Rattle.std.specs.Option.{is_some}
use Rattle.std.specs.Str.{bytes_eq}
use Rattle.std.specs.List.{list_any, AllByRecursion}
use Rattle.std.proofs.lemmas.Bool.{and_parts, cases_Bool, false_from_ne_true, both_ways, lt-ltb}
use Rattle.std.proofs.lemmas.List.{append-nil, drop-append-le}
use Rattle.std.proofs.Math.Seq.{take-append-add}
use Rattle.tree_fold.specs.declared.entries.Entry.{Entry}
use Rattle.tree_fold.specs.declared.change.Change.{Change}
use Rattle.tree_fold.specs.declared.change.Change.TheVariants.{Make, Remove, Move}
use Rattle.tree_fold.specs.Paths.{Path, begins_with, goes_on_from, is_same, parent_of}
use Rattle.tree_fold.specs.Trees.{Tree, value_in, is_there, why, changed}
use Rattle.tree_fold.specs.TreeStates.{SameTree}
use Rattle.tree_fold.proofs.OrderLemmas.{same_names, begins_is, begins_front, same_is, same_self}
use Rattle.tree_fold.proofs.EntryLemmas.{value_here, value_later, value_behind}
use Rattle.tree_fold.proofs.TreeLemmas.{IsClosed, there_if, value_if, there_same, any_there, there_any, MayMake, may_make, MayRemove, may_remove, MayMove, may_move, value_removed, value_moved, NoneBegins, value_of_moved}

pub closed_same : (a b : Tree) → SameTree a b → IsClosed a → IsClosed b
closed_same a b same closed = λ path rest h. sym (there_same a b same path) ∙ closed path rest (there_same a b same (path ++ rest) ∙ h)

-- a path that goes on from another, and its parent
parent_behind : (path : Path) (name : List ℕ) (rest : Path) → parent_of (path ++ name ∷ rest) ≡ path ++ take (length rest) (name ∷ rest)
parent_behind path name rest =
    let size : length (path ++ name ∷ rest) - 1 ≡ length path + length rest = omega (arith, length-append path (name ∷ rest)) in
    ap (λ n. take n (path ++ name ∷ rest)) size ∙ take-append-add path (name ∷ rest) (length rest)

-- of a path whose parent is there, each shorter beginning is there
above_there : (t : Tree) → IsClosed t → (path : Path) (name : List ℕ) (rest : Path) → is_there t (parent_of (path ++ name ∷ rest)) ≡ true → is_there t path ≡ true
above_there t closed path name rest h = closed path (take (length rest) (name ∷ rest)) (ap (is_there t) (sym (parent_behind path name rest)) ∙ h)

-- ---- what begins with a path that is not there

pub any_false : (p : Entry → Bool) (t : Tree) → list_any p t ≡ false → AllByRecursion (λ e. p e ≡ false) t
any_false p [] h = tt
any_false p (x ∷ t) h = elim (cases_Bool (p x)) [
  | inl here ↦ let no = rw here at h in absurd cc
  | inr other ↦ (other, any_false p t (rw other at h))
]

pub none_begins : (t : Tree) (path : Path) → IsClosed t → is_there t path ≡ false → NoneBegins path t
none_begins t path closed absent =
    any_false (λ e. begins_with path e.path) t (false_from_ne_true (list_any (λ e. begins_with path e.path) t) (λ h.
    let found = any_there (begins_with path) t h in
    let q = found.0 in
    let whole : path ++ drop (length path) q ≡ q = sym (begins_is path q found.1) in
    both_ways (is_there t path) absent (closed path (drop (length path) q) (ap (is_there t) whole ∙ there_if t q found.2))))

-- ---- a path that is made

there_more : (e : Entry) (t : Tree) (q : Path) → is_there t q ≡ true → is_there (e ∷ t) q ≡ true
there_more e t [] h = refl
there_more e t (n ∷ q) h = elim (cases_Bool (is_same (n ∷ q) e.path)) [
  | inl here ↦ ap is_some (value_here (n ∷ q) e t here)
  | inr later ↦ ap is_some (value_later (n ∷ q) e t later) ∙ h
]

closed_made : (t : Tree) (p : Path) (value : List ℕ) → IsClosed t → MayMake t p → IsClosed (changed t (Make p value))
closed_made t p value closed may [] rest h = refl
closed_made t p value closed may (n ∷ q) rest h = elim (cases_Bool (is_same (n ∷ (q ++ rest)) p)) [
  | inl here ↦ by rest (same_is (n ∷ (q ++ rest)) p here)
  | inr later ↦ there_more e t (n ∷ q) (closed (n ∷ q) rest (ap is_some (sym (value_later (n ∷ (q ++ rest)) e t later)) ∙ h))
] where
  e : Entry
  e = record { path = p; value = value }

  by : (r : Path) → n ∷ (q ++ r) ≡ p → is_there (changed t (Make p value)) (n ∷ q) ≡ true
  by [] is =
      let whole : n ∷ q ≡ p = ap (λ l. n ∷ l) (sym (append-nil q)) ∙ is in
      ap is_some (value_here (n ∷ q) e t (ap (λ l. is_same l p) whole ∙ same_self p))
  by (m ∷ r) is = there_more e t (n ∷ q) (above_there t closed (n ∷ q) m r (ap (λ l. is_there t (parent_of l)) is ∙ may.parent))

-- ---- a path that is removed

goes_on : (path : Path) (name : List ℕ) (rest : Path) → goes_on_from path (path ++ name ∷ rest) ≡ true
goes_on path name rest =
    let more : length path < length (path ++ name ∷ rest) = omega (arith, length-append path (name ∷ rest)) in
    rw (begins_front path (name ∷ rest), lt-ltb (length path) (length (path ++ name ∷ rest)) more) refl

closed_removed : (t : Tree) (p : Path) → IsClosed t → MayRemove t p → IsClosed (changed t (Remove p))
closed_removed t p closed may [] rest h = refl
closed_removed t p closed may (n ∷ q) rest h =
    let whole = n ∷ (q ++ rest) in
    let after : is_some (cond (is_same p whole) None (value_in t whole)) ≡ true = ap is_some (sym (value_removed p t whole)) ∙ h in
    elim (cases_Bool (is_same p whole)) [
      | inl gone ↦ let no = rw gone at after in absurd cc
      | inr stays ↦
          let there : is_there t whole ≡ true = rw stays at after in
          let front : is_there t (n ∷ q) ≡ true = closed (n ∷ q) rest there in
          let other : is_same p (n ∷ q) ≡ false = false_from_ne_true (is_same p (n ∷ q)) (λ same. by rest (same_is p (n ∷ q) same) there stays) in
          ap is_some (value_removed p t (n ∷ q)) ∙ rw other front
    ] where
      by : (r : Path) → p ≡ n ∷ q → is_there t (n ∷ (q ++ r)) ≡ true → is_same p (n ∷ (q ++ r)) ≡ false → ⊥
      by [] is there apart =
          let same : is_same p (n ∷ (q ++ [])) ≡ true = ap (λ l. is_same p (n ∷ l)) (append-nil q) ∙ ap (is_same p) (sym is) ∙ same_self p in
          both_ways (is_same p (n ∷ (q ++ []))) apart same
      by (m ∷ r) is there apart =
          let more = there_any (goes_on_from p) t (n ∷ (q ++ m ∷ r)) (ap (λ l. goes_on_from l (n ∷ (q ++ m ∷ r))) is ∙ goes_on (n ∷ q) m r) there in
          both_ways (list_any (λ e. goes_on_from p e.path) t) may.last more

-- ---- a path that is moved

-- a beginning of a path that begins with another: it begins with the other too, or the other goes on from it
begins_longer : (front path rest : Path) → begins_with front (path ++ rest) ≡ true → begins_with front path ≡ false → (m : List ℕ) × (r : Path) × (front ≡ path ++ m ∷ r)
begins_longer [] path rest h k = absurd cc
begins_longer (f ∷ front) [] rest h k = (f, front, refl)
begins_longer (f ∷ front) (g ∷ path) rest h k =
    let both = and_parts (bytes_eq f g) (begins_with front (path ++ rest)) h in
    let later = begins_longer front path rest both.1 (rw both.0 at k) in
    (later.0, later.1, first f g both.0 ∙ ap (λ l. g ∷ l) later.2) where
      first : (a b : List ℕ) → bytes_eq a b ≡ true → a ∷ front ≡ b ∷ front
      first a b e = ap (λ n. n ∷ front) (same_names a b e)

pub begins_on : (front path rest : Path) → begins_with front path ≡ true → begins_with front (path ++ rest) ≡ true
begins_on front path rest h =
    let r = drop (length front) path in
    let whole : path ++ rest ≡ front ++ (r ++ rest) = ap (λ l. l ++ rest) (begins_is front path h) ∙ append_assoc front r rest in
    ap (begins_with front) whole ∙ begins_front front (r ++ rest)

closed_moved : (t : Tree) (source target : Path) → IsClosed t → MayMove t source target → IsClosed (changed t (Move source target))
closed_moved t source target closed may [] rest h = refl
closed_moved t source target closed may (n ∷ q) rest h =
    let whole = n ∷ (q ++ rest) in
    let none = none_begins t target closed may.absent in
    let front_value = value_of_moved source target t (n ∷ q) none in
    let after : is_some (value_moved source target t whole) ≡ true = ap is_some (sym (value_of_moved source target t whole none)) ∙ h in
    elim (cases_Bool (begins_with target (n ∷ q))) [
      | inl begins ↦
          let s = drop (length target) (n ∷ q) in
          let size : length target ≤ length (n ∷ q) = begins_size target (n ∷ q) begins in
          let tail : drop (length target) whole ≡ s ++ rest = drop-append-le (length target) (n ∷ q) rest size in
          let there : is_some (value_in t (source ++ drop (length target) whole)) ≡ true = rw (begins_on target (n ∷ q) rest begins) at after in
          let long : is_there t ((source ++ s) ++ rest) ≡ true =
          ap (is_there t) (append_assoc source s rest ∙ ap (λ l. source ++ l) (sym tail)) ∙ there_if t (source ++ drop (length target) whole) there in
          let some : 1 ≤ length (source ++ s) = source_some source target s may.outside in
          ap is_some front_value ∙ rw begins (value_if t (source ++ s) (closed (source ++ s) rest long) some)
      | inr apart ↦
          let not_source : begins_with source (n ∷ q) ≡ false = stays_apart whole rest apart after refl in
          ap is_some front_value ∙ rw (apart, not_source) (stays_there whole rest apart after refl)
    ] where
      source_some : (a b s : Path) → begins_with a b ≡ false → 1 ≤ length (a ++ s)
      source_some [] b s out = absurd cc
      source_some (x ∷ a) b s out = omega arith

      begins_size : (a b : Path) → begins_with a b ≡ true → length a ≤ length b
      begins_size a b begins = let is = begins_is a b begins in omega (arith, ap length is, length-append a (drop (length a) b))

      -- the target goes on from a beginning of what moved
      upper : (w r : Path) → begins_with target (n ∷ q) ≡ false → w ≡ n ∷ (q ++ r) → begins_with target w ≡ true → (begins_with source (n ∷ q) ≡ false) × (is_there t (n ∷ q) ≡ true)
      upper w r apart is begins =
          let longer = begins_longer target (n ∷ q) r (ap (begins_with target) (sym is) ∙ begins) apart in
          let whole = longer.2 in (
            false_from_ne_true (begins_with source (n ∷ q)) (λ inside.
                both_ways (begins_with source target) may.outside (ap (begins_with source) whole ∙ begins_on source (n ∷ q) (longer.0 ∷ longer.1) inside)),
            above_there t closed (n ∷ q) longer.0 longer.1 (ap (λ l. is_there t (parent_of l)) (sym whole) ∙ may.parent),
          )

      stays_apart : (w r : Path) → begins_with target (n ∷ q) ≡ false → is_some (value_moved source target t w) ≡ true → w ≡ n ∷ (q ++ r) → begins_with source (n ∷ q) ≡ false
      stays_apart w r apart after is = elim (cases_Bool (begins_with target w)) [
        | inl begins ↦ (upper w r apart is begins).0
        | inr other ↦ false_from_ne_true (begins_with source (n ∷ q)) (λ inside.
            let moved : begins_with source w ≡ true = ap (begins_with source) is ∙ begins_on source (n ∷ q) r inside in
            let no = rw (other, moved) at after in
            absurd cc)
      ]

      stays_there : (w r : Path) → begins_with target (n ∷ q) ≡ false → is_some (value_moved source target t w) ≡ true → w ≡ n ∷ (q ++ r) → is_there t (n ∷ q) ≡ true
      stays_there w r apart after is = elim (cases_Bool (begins_with target w)) [
        | inl begins ↦ (upper w r apart is begins).1
        | inr other ↦ elim (cases_Bool (begins_with source w)) [
          | inl moved ↦ let no = rw (other, moved) at after in absurd cc
          | inr stays ↦
              let there : is_some (value_in t w) ≡ true = rw (other, stays) at after in
              closed (n ∷ q) r (ap (is_there t) (sym is) ∙ there_if t w there)
        ]
      ]

-- ---- any change

pub closed_changed : (t : Tree) (change : Change) → IsClosed t → why t change ≡ None → IsClosed (changed t change)
closed_changed t (Make path value) closed done = closed_made t path value closed (may_make t path value done)
closed_changed t (Remove path) closed done = closed_removed t path closed (may_remove t path done)
closed_changed t (Move source target) closed done = closed_moved t source target closed (may_move t source target done)

pub changed_same : (a b : Tree) → SameTree a b → IsClosed a → (change : Change) → why a change ≡ None → SameTree (changed a change) (changed b change)
changed_same a b same closed (Make path value) done q = let e : Entry = record { path = path; value = value } in value_behind q (e ∷ []) a b (same q)
changed_same a b same closed (Remove path) done q = value_removed path a q ∙ ap (cond (is_same path q) None) (same q) ∙ sym (value_removed path b q)
changed_same a b same closed (Move source target) done q =
    let may = may_move a source target done in
    let none = none_begins a target closed may.absent in
    let other = none_begins b target (closed_same a b same closed) (sym (there_same a b same target) ∙ may.absent) in
    value_of_moved source target a q none ∙ rw (same q, same (source ++ drop (length target) q)) (sym (value_of_moved source target b q other))
