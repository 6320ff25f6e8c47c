-- What one more event makes of needs, chains, the base and the noted numbers.
use Rattle.std.proofs.Common.{◌≡◌, ◌≢◌, ◌⊎◌, inl, inr, ℕ, suc, ◌≤◌, max, List, [], ◌∷◌, ◌++◌, length, Bool, true, false, Some, refl}
use Rattle.std.proofs.Common.{ap, sym, subst, ◌∙◌, arith, append_assoc, append-nil, length-append}
use Rattle.std.specs.Prelude.{◌||◌, map, slice_get}
use Rattle.std.specs.List.{flat_map}
use mathlib.Core.List.{IsPrefix}
use Rattle.std.proofs.lemmas.Bool.{cond-true, cond-false, cases_Bool, or_parts, true≢false}
use Rattle.std.proofs.lemmas.Grind.{flat_map-append}
use Rattle.log_node.specs.declared.ids.Id.{Id}
use Rattle.log_node.specs.declared.ids.Key.{Key}
use Rattle.log_node.specs.declared.node.Head.{Head}
use Rattle.log_node.specs.Vectors.{at, zeros}
use Rattle.col_core.specs.declared.Entry.{Entry}
use Rattle.col_core.specs.History.{line, enters, has_entered}
use Rattle.col_core.specs.Cuts.{Dated, entries_of, needs_in, needs_of, carried, chain, trimmed_to, base_from}
use Rattle.col_core.specs.Cuts.{noted_from, noted}
use Rattle.col_core.specs.Computed.{dated}
use Rattle.col_core.proofs.CallerLemmas.{dated-is_dated}
use Rattle.log_node.proofs.CallerLemmas.{if_own, if_other}

-- the events of a dated history
pub same_entries : (own : ℕ) (journal : List Entry) → entries_of (dated own journal) ≡ journal
same_entries own journal = (dated-is_dated own journal).same

pub length_map : {A B : Type 0} (f : A → B) (xs : List A) → length (map f xs) ≡ length xs
length_map f [] = refl
length_map f (x ∷ xs) = ap (λ (n : ℕ). suc n) (length_map f xs)

-- needs of an id that has entered stay
pub needs_stay : (ds : List Dated) (d : Dated) (id : Id) → has_entered id (entries_of ds) ≡ true
    → needs_of (ds ++ d ∷ []) id ≡ needs_of ds id
needs_stay [] d id h = absurd (true≢false (sym h))
needs_stay (e ∷ es) d id h = by (cases_Bool (enters id e.entry.event)) (needs_stay es d id) where
  by : (enters id e.entry.event ≡ true) ⊎ (enters id e.entry.event ≡ false)
      → (has_entered id (entries_of es) ≡ true → needs_of (es ++ d ∷ []) id ≡ needs_of es id)
      → needs_of ((e ∷ es) ++ d ∷ []) id ≡ needs_of (e ∷ es) id
  by (inl t) rest = cond-true (enters id e.entry.event) _ _ t ∙ sym (cond-true (enters id e.entry.event) _ _ t)
  by (inr f) rest =
      cond-false (enters id e.entry.event) _ _ f
      ∙ (rest (subst (λ (b : Bool). (b || has_entered id (entries_of es)) ≡ true) f h)
      ∙ sym (cond-false (enters id e.entry.event) _ _ f))

-- the needs of an id that enters now
pub needs_first : (ds : List Dated) (d : Dated) (id : Id) → has_entered id (entries_of ds) ≡ false
    → enters id d.entry.event ≡ true
    → needs_of (ds ++ d ∷ []) id ≡ needs_in d.entry.event d.cut_before
needs_first [] d id fresh now = cond-true (enters id d.entry.event) _ _ now
needs_first (e ∷ es) d id fresh now =
    let p = or_parts (enters id e.entry.event) _ fresh in
    cond-false (enters id e.entry.event) _ _ p.0 ∙ needs_first es d id p.1 now

-- the own chain is the line, each node with its needs
abbrev pub own_heads : ℕ → List Entry → List Head
own_heads own journal =
    map (λ (key : Key). let h : Head = record { key = key; needs = needs_of (dated own journal) key.id } in h)
    (line journal)

pub own_chain : (own : ℕ) (journal : List Entry) → chain own (dated own journal) own ≡ own_heads own journal
own_chain own journal =
    if_own own own _ _ refl
    ∙ ap (λ (h : List Entry). map
    (λ (key : Key). let h : Head = record { key = key; needs = needs_of (dated own journal) key.id } in h)
    (line h)) (same_entries own journal)

pub own_chain-length : (own : ℕ) (journal : List Entry)
    → length (chain own (dated own journal) own) ≡ length (line journal)
own_chain-length own journal = ap length (own_chain own journal) ∙ length_map _ (line journal)

-- another region's chain has more behind it
pub other_chain-append : (own : ℕ) (ds : List Dated) (d : Dated) (region : ℕ) → region ≢ own
    → chain own (ds ++ d ∷ []) region ≡ chain own ds region ++ carried region d.entry.event
other_chain-append own ds d region ne =
    if_other region own _ _ ne
    ∙ (flat_map-append (λ (x : Dated). carried region x.entry.event) ds (d ∷ [])
    ∙ (ap (λ (l : List Head). flat_map (λ (x : Dated). carried region x.entry.event) ds ++ l)
    (append-nil (carried region d.entry.event))
    ∙ ap (λ (l : List Head). l ++ carried region d.entry.event) (sym (if_other region own _ _ ne))))

-- a beginning that is as long as the whole is the whole
pub whole_prefix : {A : Type 0} (xs ys : List A) → IsPrefix xs ys → length ys ≤ length xs → xs ≡ ys
whole_prefix {A} xs ys p le =
    sym (append-nil xs) ∙ (ap (λ (l : List A). xs ++ l) (sym (none p.0 (let a = length-append xs p.0 in
    let b = ap length p.1 in omega (arith, a, b, le)))) ∙ p.1) where
      none : {A : Type 0} (l : List A) → length l ≤ 0 → l ≡ []
      none [] le = refl
      none (x ∷ l) le = absurd (let f : ⊥ = omega (arith, le) in f)

-- a base after one more event is the greater of what it was and of that to which the event raises it
pub base_from-append : (own regions region : ℕ) (before ds : List Dated) (d : Dated)
    → base_from own regions region before (ds ++ d ∷ [])
    ≡ max (base_from own regions region before ds)
    (trimmed_to own regions (before ++ ds) d.entry.event d.cut_before region)
base_from-append own regions region before [] d =
    ap (λ (bs : List Dated). max (trimmed_to own regions bs d.entry.event d.cut_before region) 0)
    (sym (append-nil before))
    ∙ swapped (trimmed_to own regions (before ++ []) d.entry.event d.cut_before region) where
      swapped : (n : ℕ) → max n 0 ≡ max 0 n
      swapped n = omega arith
base_from-append own regions region before (x ∷ ds) d =
    ap (λ (n : ℕ). max (trimmed_to own regions before x.entry.event x.cut_before region) n)
    (base_from-append own regions region (before ++ x ∷ []) ds d
    ∙ ap (λ (bs : List Dated). max (base_from own regions region (before ++ x ∷ []) ds)
    (trimmed_to own regions bs d.entry.event d.cut_before region))
    (append_assoc before (x ∷ []) ds))
    ∙ grouped (trimmed_to own regions before x.entry.event x.cut_before region)
    (base_from own regions region (before ++ x ∷ []) ds)
    (trimmed_to own regions (before ++ x ∷ ds) d.entry.event d.cut_before region) where
      grouped : (a b c : ℕ) → max a (max b c) ≡ max (max a b) c
      grouped a b c = omega arith

-- and so is a noted number
pub noted-append : (ds : List Dated) (d : Dated) (region : ℕ)
    → noted (ds ++ d ∷ []) region ≡ max (noted ds region) (noted_from region d.entry.event)
noted-append [] d region = swapped (noted_from region d.entry.event) where
  swapped : (n : ℕ) → max n 0 ≡ max 0 n
  swapped n = omega arith
noted-append (x ∷ ds) d region =
    ap (λ (n : ℕ). max (noted_from region x.entry.event) n) (noted-append ds d region)
    ∙ grouped (noted_from region x.entry.event) (noted ds region) (noted_from region d.entry.event) where
      grouped : (a b c : ℕ) → max a (max b c) ≡ max (max a b) c
      grouped a b c = omega arith
