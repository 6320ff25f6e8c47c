-- The greatest stamp of the nodes that a sync played, region by region.
use Rattle.std.proofs.Common.{◌≡◌, ◌⊎◌, ℕ, zero, suc, ◌+◌, ◌-◌, ◌<◌, ◌≤◌, Bool, true, false, ◌==◌, cond, List, [], ◌∷◌, ◌++◌, length, map, take, drop, min, max, Some, get_or, flat_map, inl, inr, refl, ap, sym, subst, ◌∙◌, arith}
use Rattle.std.specs.Prelude.{slice_get}
use Rattle.std.proofs.lemmas.Bool.{cases_Bool, cases_lt, eq-eqb, eqb-true, true≢false}
use Rattle.std.proofs.lemmas.List.{drop-map, length-append, length-map, map-append, take-map, take-take, take_all, take_at}
use Rattle.std.proofs.lemmas.Option.{get_or_from_slice_get}
use mathlib.Core.List.{IsPrefix}
use Rattle.log_node.specs.declared.ids.Counts.{Counts}
use Rattle.log_node.specs.declared.ids.Key.{Key}
use Rattle.log_node.specs.declared.node.Head.{Head}
use Rattle.log_node.specs.Outcomes.{greatest}
use Rattle.log_node.specs.Vectors.{all_regions, at, least}
use Rattle.log_node.proofs.CallerLemmas.{at-vector, get_within}
use Rattle.col_core.specs.declared.Event.{Event}
use Rattle.col_core.specs.declared.Event.TheVariants.{Single, Propose, Settle, Raise, Give, Carry, Trim}
use Rattle.col_core.specs.declared.Entry.{Entry}
use Rattle.col_core.specs.History.{line}
use Rattle.col_core.specs.Computed.{dated}
use Rattle.col_core.specs.Cuts.{Dated, carried, chain, entries_of, held, needs_of}
use Rattle.col_core.specs.Legal.{IsColumnHistory, IsLawfulEvent}
use Rattle.col_core.specs.PlayOrder.{greatest_between, nodes_between}
use Rattle.col_core.proofs.CallerLemmas.{chains_grow, dates_longer, entries_dated, if_false, if_true, key-stamps, later, lawful_beginning, line_rises}
use Rattle.column_track.specs.Tracks.{Tracked}
use Rattle.walk_law.specs.Behind.{StampsRise}
use Rattle.walk_law.specs.Walking.{MayWalk, Walked, journal_walked}

-- IN A STRETCH OF KEYS

-- the stamps of keys
abbrev pub stamps : List Key → List ℕ
stamps keys = map (λ (k : Key). k.stamp) keys

drop_none : {A : Type 0} (n : ℕ) → drop {A = A} n [] ≡ []
drop_none zero = refl
drop_none (suc n) = refl

-- no stretch that ends where it begins has a node
pub stretch_none : {A : Type 0} (xs : List A) (from to : ℕ) → to ≤ from → drop from (take to xs) ≡ []
stretch_none [] from zero le = drop_none from
stretch_none [] from (suc to) le = drop_none from
stretch_none (x ∷ xs) from zero le = drop_none from
stretch_none (x ∷ xs) zero (suc to) le = absurd (let f : ⊥ = omega (arith, le) in f)
stretch_none (x ∷ xs) (suc from) (suc to) le = stretch_none xs from to (omega (arith, le))

rise_on : (x : Key) (xs : List Key) → StampsRise (x ∷ xs) → StampsRise xs
rise_on x xs rise i j k l lt a b = rise (suc i) (suc j) k l (omega (arith, lt)) a b

-- where stamps do not fall the greatest is the last
stretch_ends : (xs : List Key) → StampsRise xs → (from last : ℕ) (d : Key) → from ≤ last → last < length xs
    → (get_or xs last d).stamp ≡ greatest (stamps (drop from (take (suc last) xs)))
stretch_ends [] rise from last d le lt = absurd (let f : ⊥ = omega (arith, lt) in f)
stretch_ends (x ∷ xs) rise zero zero d le lt = let e : x.stamp ≡ max x.stamp 0 = omega arith in e
stretch_ends (x ∷ xs) rise zero (suc last) d le lt =
    let rest : (get_or xs last d).stamp ≡ greatest (stamps (take (suc last) xs)) =
    stretch_ends xs (rise_on x xs rise) zero last d (omega arith) (omega (arith, lt)) in
    let end = get_within xs last (omega (arith, lt)) in
    let low = rise 0 (suc last) x end.0 (omega arith) refl end.1 in
    let same : (get_or xs last d).stamp ≡ end.0.stamp = ap (λ (k : Key). k.stamp) (get_or_from_slice_get xs last end.0 d end.1) in
    let e : (get_or xs last d).stamp ≡ max x.stamp (greatest (stamps (take (suc last) xs))) = omega (arith, low, same, rest) in e
stretch_ends (x ∷ xs) rise (suc from) zero d le lt = absurd (let f : ⊥ = omega (arith, le) in f)
stretch_ends (x ∷ xs) rise (suc from) (suc last) d le lt =
    stretch_ends xs (rise_on x xs rise) from last d (omega (arith, le)) (omega (arith, lt))

pub stretch_last : (xs : List Key) → StampsRise xs → (from to : ℕ) (d : Key) → from < to → to ≤ length xs
    → (get_or xs (to - 1) d).stamp ≡ greatest (stamps (drop from (take to xs)))
stretch_last xs rise from to d lt le =
    stretch_ends xs rise from (to - 1) d (omega (arith, lt)) (omega (arith, lt, le))
    ∙ ap (λ (n : ℕ). greatest (stamps (drop from (take n xs)))) (let e : suc (to - 1) ≡ to = omega (arith, lt) in e)

-- THE LINE OF A COLUMN

pub line_stamps : (own regions : ℕ) (journal : List Entry) → IsColumnHistory own regions (dated own journal) → StampsRise (line journal)
line_stamps own regions journal lawful i j k l lt a b =
    key-stamps k l (line_rises own regions (dated own journal) lawful i j k l lt
    (ap (λ (h : List Entry). slice_get (line h) i) (entries_dated own journal) ∙ a)
    (ap (λ (h : List Entry). slice_get (line h) j) (entries_dated own journal) ∙ b))

-- CHAINS AFTER SOME EVENTS

-- the stamps of heads
abbrev pub head_stamps : List Head → List ℕ
head_stamps heads = map (λ (h : Head). h.key.stamp) heads

key_stamps_of : (ds : List Dated) (keys : List Key)
    → head_stamps (map (λ (key : Key). let h : Head = record { key = key; needs = needs_of ds key.id } in h) keys) ≡ stamps keys
key_stamps_of ds [] = refl
key_stamps_of ds (k ∷ ks) = ap (λ (l : List ℕ). k.stamp ∷ l) (key_stamps_of ds ks)

-- the own chain has the stamps of the line
pub own_stamps : (own : ℕ) (journal : List Entry) → head_stamps (chain own (dated own journal) own) ≡ stamps (line journal)
own_stamps own journal =
    ap head_stamps (if_true (own == own) _ _ (eq-eqb own own refl))
    ∙ (key_stamps_of (dated own journal) (line (entries_of (dated own journal)))
    ∙ ap (λ (h : List Entry). stamps (line h)) (entries_dated own journal))

split_at : {A : Type 0} (n : ℕ) (xs : List A) → take n xs ++ drop n xs ≡ xs
split_at zero xs = refl
split_at (suc n) [] = refl
split_at (suc n) (x ∷ xs) = ap (λ (l : List _). x ∷ l) (split_at n xs)

-- a chain after some events is a beginning of that after all
pub chain_begins : (own regions : ℕ) (journal : List Entry) (n region : ℕ) → IsColumnHistory own regions (dated own journal)
    → IsPrefix (chain own (dated own (take n journal)) region) (chain own (dated own journal) region)
chain_begins own regions journal n region lawful =
    let whole : dated own journal ≡ dated own (take n journal) ++ later own (dated own (take n journal)) (drop n journal) =
    ap (dated own) (sym (split_at n journal)) ∙ dates_longer own (take n journal) (drop n journal) in
    subst (λ (ds : List Dated). IsPrefix (chain own (dated own (take n journal)) region) (chain own ds region)) (sym whole)
    (chains_grow own regions (dated own (take n journal)) (later own (dated own (take n journal)) (drop n journal))
    (subst (IsColumnHistory own regions) whole lawful) region)

prefix_then : {A : Type 0} (xs ys zs : List A) → IsPrefix xs ys → IsPrefix ys zs → (rest : List A) × (xs ++ rest ≡ zs)
prefix_then xs ys zs a b =
    (a.0 ++ b.0, sym (append_of xs a.0 b.0) ∙ (ap (λ (l : List _). l ++ b.0) a.1 ∙ b.1)) where
      append_of : {A : Type 0} (xs ys zs : List A) → (xs ++ ys) ++ zs ≡ xs ++ (ys ++ zs)
      append_of [] ys zs = refl
      append_of (x ∷ xs) ys zs = ap (λ (l : List _). x ∷ l) (append_of xs ys zs)

-- heads that begin a chain have the stamps with which its line begins
beginning_stamps : (xs ys rest : List Head) (keys : List Key) → xs ++ rest ≡ ys → head_stamps ys ≡ stamps keys
    → head_stamps xs ≡ stamps (take (length xs) keys)
beginning_stamps xs ys rest keys whole same =
    let joined : head_stamps xs ++ head_stamps rest ≡ stamps keys =
    sym (map-append (λ (h : Head). h.key.stamp) xs rest) ∙ (ap head_stamps whole ∙ same) in
    sym (take_at (head_stamps xs) (head_stamps rest) (length xs) (length-map xs (λ (h : Head). h.key.stamp)))
    ∙ (ap (take (length xs)) joined ∙ take-map (λ (k : Key). k.stamp) (length xs) keys)

-- a stretch of heads that begin a chain
stretch_stamps : (heads : List Head) (keys : List Key) (from to bound : ℕ) → head_stamps heads ≡ stamps (take (length heads) keys)
    → bound ≡ min to (length heads)
    → stamps (drop from (take bound keys)) ≡ head_stamps (drop from (take to heads))
stretch_stamps heads keys from to bound same is =
    sym (drop-map (λ (k : Key). k.stamp) from (take bound keys))
    ∙ (ap (drop from) (shorter (cases_lt to (length heads)) ∙ (ap (take to) (sym same) ∙ take-map (λ (h : Head). h.key.stamp) to heads))
    ∙ drop-map (λ (h : Head). h.key.stamp) from (take to heads)) where
      shorter : (to < length heads) ⊎ (length heads ≤ to) → stamps (take bound keys) ≡ take to (stamps (take (length heads) keys))
      shorter (inl lt) =
          ap (λ (n : ℕ). stamps (take n keys)) (let e : bound ≡ to = omega (arith, is, lt) in e)
          ∙ (sym (take-map (λ (k : Key). k.stamp) to keys)
          ∙ (sym (take-take to (length heads) (stamps keys) (omega (arith, lt)))
          ∙ ap (take to) (take-map (λ (k : Key). k.stamp) (length heads) keys)))
      shorter (inr ge) =
          ap (λ (n : ℕ). stamps (take n keys)) (let e : bound ≡ length heads = omega (arith, is, ge) in e)
          ∙ sym (take_all to (stamps (take (length heads) keys))
          (let few = ap length same in let long = length-map heads (λ (h : Head). h.key.stamp) in omega (arith, few, long, ge)))

-- NO CHAIN

flat_none : {A B : Type 0} (f : A → List B) (xs : List A) → ((n : ℕ) (x : A) → slice_get xs n ≡ Some x → f x ≡ [])
    → flat_map f xs ≡ []
flat_none f [] none = refl
flat_none f (x ∷ xs) none =
    ap (λ (l : List _). l ++ flat_map f xs) (none zero x refl) ∙ flat_none f xs (λ n y there. none (suc n) y there)

-- what is carried is of a region that there is
carried_none : (own regions region : ℕ) (before : List Dated) (event : Event) (stamp : ℕ) → regions ≤ region
    → IsLawfulEvent own regions before event stamp → carried region event ≡ []
carried_none own regions region before (Single id floor wants) stamp ge lawful = refl
carried_none own regions region before (Propose id floor wants) stamp ge lawful = refl
carried_none own regions region before (Settle id outcome) stamp ge lawful = refl
carried_none own regions region before (Raise to) stamp ge lawful = refl
carried_none own regions region before (Give other from) stamp ge lawful = refl
carried_none own regions region before (Carry other start heads) stamp ge lawful =
    turn (cases_Bool (other == region)) where
      turn : ((other == region) ≡ true) ⊎ ((other == region) ≡ false) → cond (other == region) heads [] ≡ []
      turn (inl t) =
          let same = eqb-true other region t in
          let low = lawful.2 in absurd (let f : ⊥ = omega (arith, same, low, ge) in f)
      turn (inr f) = ap (λ (b : Bool). cond b heads []) f
carried_none own regions region before (Trim counts) stamp ge lawful = refl

-- of a region that there is not nothing is held
chain_outside : (own regions region : ℕ) (ds : List Dated) → IsColumnHistory own regions ds → own < regions → regions ≤ region
    → chain own ds region ≡ []
chain_outside own regions region ds lawful lt ge =
    if_false (region == own) _ _ (other (cases_Bool (region == own)))
    ∙ flat_none (λ (d : Dated). carried region d.entry.event) ds
    (λ n d there. carried_none own regions region (take n ds) d.entry.event d.entry.stamp ge (lawful n d there)) where
      other : ((region == own) ≡ true) ⊎ ((region == own) ≡ false) → (region == own) ≡ false
      other (inl t) = let same = eqb-true region own t in absurd (let f : ⊥ = omega (arith, same, lt, ge) in f)
      other (inr f) = f

pub chain_none : (own regions region events : ℕ) (journal : List Entry) → IsColumnHistory own regions (dated own journal)
    → own < regions → regions ≤ region → chain own (dated own (take events journal)) region ≡ []
chain_none own regions region events journal lawful lt ge =
    chain_outside own regions region (dated own (take events journal))
    (lawful_beginning own regions (take events journal) (drop events journal)
    (subst (λ (h : List Entry). IsColumnHistory own regions (dated own h)) (sym (split_at events journal)) lawful)) lt ge

-- a column without events holds nothing
pub chain_empty : (own events region : ℕ) (journal : List Entry) → journal ≡ [] → chain own (dated own (take events journal)) region ≡ []
chain_empty own events region journal none =
    ap (λ (h : List Entry). chain own (dated own h) region) (ap (take events) none ∙ few events) ∙ by (region == own) where
      few : (n : ℕ) → take {A = Entry} n [] ≡ []
      few zero = refl
      few (suc n) = refl

      by : (b : Bool) → cond b (map (λ (key : Key). let h : Head = record { key = key; needs = needs_of (dated own []) key.id } in h) (line [])) [] ≡ []
      by true = refl
      by false = refl

-- OF ALL REGIONS

-- the greatest of the numbers of the first so many regions
abbrev pub greatest_first : (ℕ → ℕ) → ℕ → ℕ
greatest_first of zero = 0
greatest_first of (suc n) = max (greatest_first of n) (of n)

pub first_more : (of : ℕ → ℕ) (n : ℕ) → greatest_first of (n + 1) ≡ max (greatest_first of n) (of n)
first_more of n = ap (greatest_first of) (let e : n + 1 ≡ suc n = omega arith in e)

rest_none : (of : ℕ → ℕ) (n k : ℕ) → ((r : ℕ) → n ≤ r → of r ≡ 0) → greatest_first of (k + n) ≡ greatest_first of n
rest_none of n zero none = ap (greatest_first of) (let e : zero + n ≡ n = omega arith in e)
rest_none of n (suc k) none =
    ap (greatest_first of) (let e : suc k + n ≡ suc (k + n) = omega arith in e)
    ∙ (let last = none (k + n) (omega arith) in
    let before = rest_none of n k none in
    let e : max (greatest_first of (k + n)) (of (k + n)) ≡ greatest_first of n = omega (arith, last, before) in e)

greatest_joined : (xs ys : List ℕ) → greatest (xs ++ ys) ≡ max (greatest xs) (greatest ys)
greatest_joined [] ys = let e : greatest ys ≡ max 0 (greatest ys) = omega arith in e
greatest_joined (x ∷ xs) ys =
    let rest = greatest_joined xs ys in
    let e : max x (greatest (xs ++ ys)) ≡ max (max x (greatest xs)) (greatest ys) = omega (arith, rest) in e

pub greatest_four : (of : ℕ → List Head)
    → greatest (head_stamps (flat_map of all_regions)) ≡ greatest_first (λ r. greatest (head_stamps (of r))) 4
greatest_four of =
    let z = split (of 0) (of 1 ++ (of 2 ++ (of 3 ++ []))) in
    let a = split (of 1) (of 2 ++ (of 3 ++ [])) in
    let b = split (of 2) (of 3 ++ []) in
    let c = split (of 3) [] in
    let e : greatest (head_stamps (of 0 ++ (of 1 ++ (of 2 ++ (of 3 ++ [])))))
    ≡ max (max (max (max 0 (greatest (head_stamps (of 0)))) (greatest (head_stamps (of 1)))) (greatest (head_stamps (of 2))))
    (greatest (head_stamps (of 3))) = omega (arith, z, a, b, c) in e where
      split : (xs ys : List Head) → greatest (head_stamps (xs ++ ys)) ≡ max (greatest (head_stamps xs)) (greatest (head_stamps ys))
      split xs ys = ap greatest (map-append (λ (h : Head). h.key.stamp) xs ys) ∙ greatest_joined (head_stamps xs) (head_stamps ys)

-- those of all regions, where the regions that there are are few
module _ (chains : ℕ → List Head) (from to : Counts) where
  abbrev of : ℕ → ℕ
  of r = greatest (head_stamps (nodes_between chains from to r))

  nothing : (a b : ℕ) → drop a (take {A = Head} b []) ≡ []
  nothing a zero = drop_none a
  nothing a (suc b) = drop_none a

  beyond : (r : ℕ) → chains r ≡ [] → of r ≡ 0
  beyond r none =
      ap (λ (l : List Head). greatest (head_stamps (drop (at from r) (take (at to r) l)))) none
      ∙ ap (λ (l : List Head). greatest (head_stamps l)) (nothing (at from r) (at to r))

  upto : (regions m : ℕ) → ((r : ℕ) → regions ≤ r → chains r ≡ []) → regions ≤ m → greatest_first of m ≡ greatest_first of regions
  upto regions m none ge =
      ap (greatest_first of) (let e : m ≡ m - regions + regions = omega (arith, ge) in e)
      ∙ rest_none of regions (m - regions) (λ r le. beyond r (none r le))

  pub greatest_all : (regions n : ℕ) → regions ≤ 4 → regions ≤ n → ((r : ℕ) → regions ≤ r → chains r ≡ [])
      → greatest_first (λ r. greatest (head_stamps (nodes_between chains from to r))) n ≡ greatest_between chains from to
  greatest_all regions n few le none =
      upto regions n none le ∙ (sym (upto regions 4 none few) ∙ sym (greatest_four (nodes_between chains from to)))

-- OF A REGION IN A COLUMN

module _ (walked : Walked) (tracks : List Tracked) (may : MayWalk walked.script walked.report tracks) (own region colour events : ℕ)
    (lt : own < walked.script.shape.regions) (low : region < walked.script.shape.regions)
    (less : colour < walked.script.shape.colours)
    (lawful : IsColumnHistory own walked.script.shape.regions (dated own (journal_walked walked own colour))) where
  -- what was held of the region
  abbrev pub Held : List Head
  Held = chain own (dated own (take events (journal_walked walked own colour))) region

  abbrev Whole : List Head
  Whole = chain region (dated region (journal_walked walked region colour)) region

  begins : (rest : List Head) × (Held ++ rest ≡ Whole)
  begins = turn (cases_Bool (region == own)) where
    turn : ((region == own) ≡ true) ⊎ ((region == own) ≡ false) → (rest : List Head) × (Held ++ rest ≡ Whole)
    turn (inl t) =
        let same : own ≡ region = sym (eqb-true region own t) in
        let p = chain_begins own walked.script.shape.regions (journal_walked walked own colour) events region lawful in
        (p.0, p.1 ∙ ap (λ (o : ℕ). chain o (dated o (journal_walked walked o colour)) region) same)
    turn (inr f) =
        let copy = may.third.copies colour less region own low lt (λ e. true≢false (sym (eq-eqb region own e) ∙ f)) in
        prefix_then Held (chain own (dated own (journal_walked walked own colour)) region) Whole
        (chain_begins own walked.script.shape.regions (journal_walked walked own colour) events region lawful)
        (copy.rest, copy.beginning)

  whole_stamps : head_stamps Whole ≡ stamps (line (journal_walked walked region colour))
  whole_stamps = own_stamps region (journal_walked walked region colour)

  pub held_few : length Held ≤ length (line (journal_walked walked region colour))
  held_few =
      let same = ap length whole_stamps in
      let long = length-map Whole (λ (h : Head). h.key.stamp) in
      let keys = length-map (line (journal_walked walked region colour)) (λ (k : Key). k.stamp) in
      let both = length-append Held begins.0 in
      let whole = ap length begins.1 in
      omega (arith, same, long, keys, both, whole)

  pub held_stamps : (from to bound : ℕ) (keys : List Key) → keys ≡ line (journal_walked walked region colour)
      → bound ≡ min to (length Held) → greatest (stamps (drop from (take bound keys))) ≡ greatest (head_stamps (drop from (take to Held)))
  held_stamps from to bound keys is low =
      ap (λ (ks : List Key). greatest (stamps (drop from (take bound ks)))) is
      ∙ ap greatest (stretch_stamps Held (line (journal_walked walked region colour)) from to bound
      (beginning_stamps Held Whole begins.0 (line (journal_walked walked region colour)) begins.1 whole_stamps) low)

  -- the lesser of what a vector counts and of what was held
  pub bound_is : (four : region < 4) (to now : Counts) → now ≡ held own (dated own (take events (journal_walked walked own colour)))
      → at (least to now) region ≡ min (at to region) (length Held)
  bound_is four to now is =
      at-vector (λ r. min (at to r) (at now r)) region four
      ∙ ap (λ (n : ℕ). min (at to region) n)
      (ap (λ (v : Counts). at v region) is
      ∙ at-vector (λ r. length (chain own (dated own (take events (journal_walked walked own colour))) r)) region four)
