-- An id enters a lawful history once.
use Rattle.std.proofs.Common.{◌≡◌, ◌⊎◌, ℕ, zero, suc, ◌<◌, true, false, List, [], ◌∷◌, ◌++◌, length, take, drop, Some, ap, sym, subst, ◌∙◌, arith, inl, inr, refl}
use Rattle.std.specs.Prelude.{slice_get}
use Rattle.std.proofs.lemmas.Bool.{true≢false, cases_order, or_left, or_right}
use Rattle.std.proofs.lemmas.List.{take_at}
use Rattle.log_node.specs.declared.ids.Id.{Id}
use Rattle.log_node.proofs.CallerLemmas.{same_id-is, same_some}
use Rattle.col_core.specs.declared.Event.{Event}
use Rattle.col_core.specs.declared.Event.TheVariants.{Single, Propose, Settle, Raise, Give, Carry, Trim}
use Rattle.col_core.specs.declared.Entry.{Entry}
use Rattle.col_core.specs.History.{enters, has_entered}
use Rattle.col_core.specs.Cuts.{Dated, entries_of}
use Rattle.col_core.specs.Computed.{cut, dated}
use Rattle.col_core.specs.Legal.{IsColumnHistory, IsLawfulEvent}
use Rattle.col_core.proofs.CallerLemmas.{dates_longer, entries_dated, later}

-- what is at a place follows those before
pub split_at : (journal : List Entry) (n : ℕ) (e : Entry) → slice_get journal n ≡ Some e
    → journal ≡ take n journal ++ e ∷ drop (suc n) journal
split_at [] n e at = absurd (let f : ⊥ = cc (at) in f)
split_at (x ∷ xs) zero e at = ap (λ (y : Entry). y ∷ xs) (same_some at)
split_at (x ∷ xs) (suc n) e at = ap (λ (l : List Entry). x ∷ l) (split_at xs n e at)

long_enough : (journal : List Entry) (n : ℕ) (e : Entry) → slice_get journal n ≡ Some e → length (take n journal) ≡ n
long_enough [] n e at = absurd (let f : ⊥ = cc (at) in f)
long_enough (x ∷ xs) zero e at = refl
long_enough (x ∷ xs) (suc n) e at = let h = long_enough xs n e at in omega (arith, h)

dated_long : (own : ℕ) (journal : List Entry) → length (dated own journal) ≡ length journal
dated_long own journal = long (dated own journal) journal (entries_dated own journal) where
  long : (ds : List Dated) (es : List Entry) → entries_of ds ≡ es → length ds ≡ length es
  long [] [] e = refl
  long [] (x ∷ es) e = absurd (let f : ⊥ = cc (e) in f)
  long (d ∷ ds) [] e = absurd (let f : ⊥ = cc (e) in f)
  long (d ∷ ds) (x ∷ es) e =
      let h = long ds es (let t : entries_of ds ≡ es = cc (e) in t) in omega (arith, h)

get_at : {A : Type 0} (xs : List A) (y : A) (ys : List A) → slice_get (xs ++ y ∷ ys) (length xs) ≡ Some y
get_at [] y ys = refl
get_at (x ∷ xs) y ys = get_at xs y ys

-- an entry is dated by the cut of those before
pub dated_at : (own : ℕ) (journal : List Entry) (n : ℕ) (e : Entry) → slice_get journal n ≡ Some e
    → slice_get (dated own journal) n ≡ Some (record { entry = e; cut_before = cut own (dated own (take n journal)) })
dated_at own journal n e at =
    let before = take n journal in
    let d : Dated = record { entry = e; cut_before = cut own (dated own before) } in
    let more = later own (dated own before ++ d ∷ []) (drop (suc n) journal) in
    let long : length (dated own before) ≡ n = dated_long own before ∙ long_enough journal n e at in
    ap (λ (h : List Entry). slice_get (dated own h) n) (split_at journal n e at)
    ∙ (ap (λ (ds : List Dated). slice_get ds n) (dates_longer own before (e ∷ drop (suc n) journal))
    ∙ (ap (slice_get (dated own before ++ d ∷ more)) (sym long) ∙ get_at (dated own before) d more))

-- and lawful after those
pub lawful_at : (own regions : ℕ) (journal : List Entry) (n : ℕ) (e : Entry) → slice_get journal n ≡ Some e
    → IsColumnHistory own regions (dated own journal) → IsLawfulEvent own regions (dated own (take n journal)) e.event e.stamp
lawful_at own regions journal n e at lawful =
    let before = take n journal in
    let d : Dated = record { entry = e; cut_before = cut own (dated own before) } in
    let more = later own (dated own before ++ d ∷ []) (drop (suc n) journal) in
    let long : length (dated own before) ≡ n = dated_long own before ∙ long_enough journal n e at in
    let whole : dated own journal ≡ dated own before ++ d ∷ more =
    ap (dated own) (split_at journal n e at) ∙ dates_longer own before (e ∷ drop (suc n) journal) in
    subst (λ (ds : List Dated). IsLawfulEvent own regions ds e.event e.stamp)
    (ap (take n) whole ∙ take_at (dated own before) (d ∷ more) n long)
    (lawful n d (dated_at own journal n e at))

enters_fresh : (own regions : ℕ) (before : List Entry) (event : Event) (stamp : ℕ) (id : Id)
    → IsLawfulEvent own regions (dated own before) event stamp → enters id event ≡ true → has_entered id before ≡ false
enters_fresh own regions before (Single i floor wants) stamp id may t =
    ap (λ (j : Id). has_entered j before) (same_id-is id i t) ∙ (ap (has_entered i) (sym (entries_dated own before)) ∙ may.fresh)
enters_fresh own regions before (Propose i floor wants) stamp id may t =
    ap (λ (j : Id). has_entered j before) (same_id-is id i t) ∙ (ap (has_entered i) (sym (entries_dated own before)) ∙ may.fresh)
enters_fresh own regions before (Settle i outcome) stamp id may t = absurd (true≢false (sym t))
enters_fresh own regions before (Raise to) stamp id may t = absurd (true≢false (sym t))
enters_fresh own regions before (Give region from) stamp id may t = absurd (true≢false (sym t))
enters_fresh own regions before (Carry region start heads) stamp id may t = absurd (true≢false (sym t))
enters_fresh own regions before (Trim counts) stamp id may t = absurd (true≢false (sym t))

-- an id that an event enters has entered, and not before
pub was_entered : (history : List Entry) (id : Id) (place : ℕ) (e : Entry) → slice_get history place ≡ Some e
    → enters id e.event ≡ true → has_entered id history ≡ true
was_entered [] id place e at t = absurd (let f : ⊥ = cc (at) in f)
was_entered (x ∷ xs) id zero e at t =
    or_left (enters id x.event) (has_entered id xs) (ap (λ (d : Entry). enters id d.event) (same_some at) ∙ t)
was_entered (x ∷ xs) id (suc place) e at t =
    or_right (enters id x.event) (has_entered id xs) (was_entered xs id place e at t)

module _ (own regions : ℕ) (journal : List Entry) (lawful : IsColumnHistory own regions (dated own journal)) (id : Id) where
  pub fresh_at : (n : ℕ) (e : Entry) → slice_get journal n ≡ Some e → enters id e.event ≡ true → has_entered id (take n journal) ≡ false
  fresh_at n e at t = enters_fresh own regions (take n journal) e.event e.stamp id (lawful_at own regions journal n e at lawful) t

  get_taken : (xs : List Entry) (i j : ℕ) (x : Entry) → i < j → slice_get xs i ≡ Some x → slice_get (take j xs) i ≡ Some x
  get_taken [] i j x lt there = absurd (let f : ⊥ = cc (there) in f)
  get_taken (y ∷ xs) i zero x lt there = absurd (let f : ⊥ = omega (arith, lt) in f)
  get_taken (y ∷ xs) zero (suc j) x lt there = there
  get_taken (y ∷ xs) (suc i) (suc j) x lt there = get_taken xs i j x (omega (arith, lt)) there

  earlier : (i j : ℕ) (x y : Entry) → i < j → slice_get journal i ≡ Some x → slice_get journal j ≡ Some y
      → enters id x.event ≡ true → enters id y.event ≡ true → ⊥
  earlier i j x y lt at_i at_j enters_i enters_j =
      true≢false (sym (was_entered (take j journal) id i x (get_taken journal i j x lt at_i) enters_i)
      ∙ fresh_at j y at_j enters_j)

  -- at one place alone
  pub one_place : (m n : ℕ) (d e : Entry) → slice_get journal m ≡ Some d → slice_get journal n ≡ Some e
      → enters id d.event ≡ true → enters id e.event ≡ true → m ≡ n
  one_place m n d e at_m at_n enters_m enters_n = by (cases_order m n) where
    by : (m ≡ n) ⊎ ((m < n) ⊎ (n < m)) → m ≡ n
    by (inl same) = same
    by (inr (inl lt)) = absurd (earlier m n d e lt at_m at_n enters_m enters_n)
    by (inr (inr lt)) = absurd (earlier n m e d lt at_n at_m enters_n enters_m)

  -- by one entry alone
  pub one_entry : (m n : ℕ) (d e : Entry) → slice_get journal m ≡ Some d → slice_get journal n ≡ Some e
      → enters id d.event ≡ true → enters id e.event ≡ true → d ≡ e
  one_entry m n d e at_m at_n enters_m enters_n =
      same_some (sym at_m ∙ (ap (slice_get journal) (one_place m n d e at_m at_n enters_m enters_n) ∙ at_n))
