-- The chains of a lawful history grow at their ends alone, so its cut and its base only grow.
use Rattle.std.proofs.Common.{◌≡◌, ℕ, zero, suc, ◌<◌, ◌≤◌, List, [], ◌∷◌, ◌++◌, length, Some, Bool, true, refl, subst, ap, sym, ◌∙◌, inl, inr, arith}
use Rattle.std.specs.Prelude.{◌==◌, ◌||◌, slice_get, map, reverse}
use mathlib.Core.List.{IsPrefix}
use Rattle.std.specs.List.{filter, flat_map}
use Rattle.std.proofs.lemmas.Grind.{flat_map-append}
use Rattle.std.proofs.lemmas.List.{map-append, reverse-append, reverse-reverse, length-append}
use Rattle.std.proofs.lemmas.Bool.{true≢false}
use Rattle.log_node.specs.declared.ids.Id.{Id}
use Rattle.log_node.specs.declared.ids.Key.{Key}
use Rattle.log_node.specs.declared.ids.Counts.{Counts}
use Rattle.log_node.specs.declared.node.Head.{Head}
use Rattle.log_node.specs.Vectors.{at, vector, IsWithin}
use Rattle.log_node.specs.Order.{key_below}
use Rattle.log_node.specs.Standings.{Standing, is_delivered, line_of}
use Rattle.log_node.proofs.CallerLemmas.{each_region}
use Rattle.col_core.specs.declared.Entry.{Entry}
use Rattle.col_core.specs.History as History
use Rattle.col_core.specs.History.{line, enters, has_entered}
use Rattle.log_node.specs.Reach.{Chains, Reachable, nothing, next}
use Rattle.col_core.specs.Cuts.{Dated, entries_of, needs_of, carried, chain, held, base, base_from}
use Rattle.col_core.specs.Computed.{cut}
use Rattle.col_core.specs.Legal.{IsColumnHistory}
use Rattle.col_core.proofs.CutLaws.{cut-is_greatest, within}
use Rattle.col_core.proofs.Basics.{by_test, if_true, if_false}
use Rattle.col_core.proofs.Pasts.{entries, IsLawfulPast}
use Rattle.col_core.proofs.Members.{In, in_line, Rises, rises, rises-filter}
use Rattle.col_core.proofs.Growth.{line_later}
use Rattle.col_core.proofs.LawfulPasts.{past_of, lawful_past, lawful_front, entries-of, shown_entered}
pub use Rattle.log_node.proofs.CallerLemmas.{get_longer as slice_longer}

-- the past of a longer history begins with the newer events
past_of-append : (before more : List Dated) → past_of (before ++ more) ≡ past_of more ++ past_of before
past_of-append before more = ap reverse (map-append (λ (d : Dated). d.entry) before more) ∙ reverse-append (entries_of before) (entries_of more)

pub lawful_before : (own regions : ℕ) (before more : List Dated) → IsColumnHistory own regions (before ++ more) → IsLawfulPast (past_of before)
lawful_before own regions before more h = lawful_front (past_of more) (past_of before) (subst IsLawfulPast (past_of-append before more) (lawful_past own regions (before ++ more) h))

-- a line only grows at its end
pub line_grows : (own regions : ℕ) (before more : List Dated) → IsColumnHistory own regions (before ++ more) → IsPrefix (line (entries_of before)) (line (entries_of (before ++ more)))
line_grows own regions before more h =
    let l : IsLawfulPast (past_of more ++ past_of before) = subst IsLawfulPast (past_of-append before more) (lawful_past own regions (before ++ more) h) in
    let r = line_later (past_of more) (past_of before) l in (
      r.0,
      ap (λ es. line_of es ++ r.0) (entries-of (entries_of before))
          ∙ (sym r.1 ∙ (ap (λ (p : List Entry). line_of (entries p)) (sym (past_of-append before more)) ∙ sym (ap line_of (entries-of (entries_of (before ++ more)))))),
    )

-- the ids of a line have entered
pub line_entered : (own regions : ℕ) (before more : List Dated) → IsColumnHistory own regions (before ++ more) → (k : Key) → In k (line (entries_of before)) → has_entered k.id (entries_of before) ≡ true
line_entered own regions before more h k i =
    let r = in_line (History.entries (entries_of before)) k i in
    let s = shown_entered (past_of before) (lawful_before own regions before more h) r.0 (subst (λ es. In r.0 es) (entries-of (entries_of before)) r.1) in
    subst (λ (x : Key). has_entered x.id (entries_of before) ≡ true) r.2 (ap (has_entered r.0.key.id) (sym (reverse-reverse (entries_of before))) ∙ s)

-- needs of an id that has entered stay
needs_stay : (ds more : List Dated) (id : Id) → has_entered id (entries_of ds) ≡ true → needs_of (ds ++ more) id ≡ needs_of ds id
needs_stay [] more id h = absurd (true≢false (sym h))
needs_stay (e ∷ es) more id h =
    by_test _ (enters id e.entry.event)
    (λ t. if_true (enters id e.entry.event) _ _ t ∙ sym (if_true (enters id e.entry.event) _ _ t))
    (λ f. if_false (enters id e.entry.event) _ _ f ∙ (needs_stay es more id (subst (λ (b : Bool). (b || has_entered id (entries_of es)) ≡ true) f h) ∙ sym (if_false (enters id e.entry.event) _ _ f)))

heads_of : List Dated → List Key → List Head
heads_of ds ks = map (λ (key : Key). record { key = key; needs = needs_of ds key.id }) ks

heads_stay : (ds more : List Dated) (ks : List Key) → ((k : Key) → In k ks → has_entered k.id (entries_of ds) ≡ true) → heads_of (ds ++ more) ks ≡ heads_of ds ks
unfolding heads_of
heads_stay ds more [] h = refl
heads_stay ds more (k ∷ ks) h =
    ap (λ (n : Counts). head_of k n ∷ map (λ (key : Key). head_of key (needs_of (ds ++ more) key.id)) ks) (needs_stay ds more k.id (h k (inl refl)))
    ∙ ap (λ (l : List Head). head_of k (needs_of ds k.id) ∷ l) (heads_stay ds more ks (λ l i. h l (inr i))) where
      head_of : Key → Counts → Head
      head_of key n = record { key = key; needs = n }

-- each chain of the second begins with that of the first
abbrev pub ChainsGrow : Chains → Chains → Type 0
ChainsGrow chains chains' = (region : ℕ) → IsPrefix (chains region) (chains' region)

pub chains_grow : (own regions : ℕ) (ds more : List Dated) → IsColumnHistory own regions (ds ++ more) → ChainsGrow (chain own ds) (chain own (ds ++ more))
unfolding heads_of
chains_grow own regions ds more h region =
    let g = line_grows own regions ds more h in
    by_test _ (region == own)
    (λ t. (
      heads_of (ds ++ more) g.0,
      ap (λ (l : List Head). l ++ heads_of (ds ++ more) g.0) (if_true (region == own) _ _ t ∙ sym (heads_stay ds more (line (entries_of ds)) (line_entered own regions ds more h)))
          ∙ (sym (map-append (λ (key : Key). record_of key) (line (entries_of ds)) g.0)
          ∙ (ap (heads_of (ds ++ more)) g.1 ∙ sym (if_true (region == own) _ _ t))),
    ))
    (λ f. (
      flat_map (λ (d : Dated). carried region d.entry.event) more,
      ap (λ (l : List Head). l ++ flat_map (λ (d : Dated). carried region d.entry.event) more) (if_false (region == own) _ _ f)
          ∙ (sym (flat_map-append (λ (x : Dated). carried region x.entry.event) ds more) ∙ sym (if_false (region == own) _ _ f)),
    )) where
      record_of : Key → Head
      record_of key = record { key = key; needs = needs_of (ds ++ more) key.id }

pub reachable_grows : (chains chains' : Chains) → ChainsGrow chains chains' → (v : Counts) → Reachable chains v → Reachable chains' v
reachable_grows chains chains' g v r = go r where
  go : {w : Counts} → Reachable chains w → Reachable chains' w
  go nothing = nothing
  go (next {v = u} region head before lt there needs) =
      next region head (go before) lt (subst (λ (l : List Head). slice_get l (at u region) ≡ Some head) (g region).1 (slice_longer (chains region) (g region).0 (at u region) head there)) needs

pub cut_grows : (own regions : ℕ) (ds more : List Dated) → IsColumnHistory own regions (ds ++ more) → IsWithin (cut own ds) (cut own (ds ++ more))
cut_grows own regions ds more h = (cut-is_greatest own (ds ++ more)).greatest (cut own ds) (reachable_grows (chain own ds) (chain own (ds ++ more)) (chains_grow own regions ds more h) (cut own ds) (cut-is_greatest own ds).reached)

vector_grows : (f g : ℕ → ℕ) → ((r : ℕ) → f r ≤ g r) → IsWithin (vector f) (vector g)
vector_grows f g le = within (vector f) (vector g) (each_region (λ r. at (vector f) r ≤ at (vector g) r) (le 0) (le 1) (le 2) (le 3))

prefix_length : {A : Type 0} (xs ys : List A) → IsPrefix xs ys → length xs ≤ length ys
prefix_length xs ys p = let a = length-append xs p.0 in let b = ap length p.1 in omega (arith, a, b)

pub held_grows : (own regions : ℕ) (ds more : List Dated) → IsColumnHistory own regions (ds ++ more) → IsWithin (held own ds) (held own (ds ++ more))
held_grows own regions ds more h =
    let g = chains_grow own regions ds more h in
    vector_grows (λ r. length (chain own ds r)) (λ r. length (chain own (ds ++ more) r)) (λ r. prefix_length (chain own ds r) (chain own (ds ++ more) r) (g r))

base_longer : (own regions region : ℕ) (before ds more : List Dated) → base_from own regions region before ds ≤ base_from own regions region before (ds ++ more)
base_longer own regions region before [] more = omega arith
base_longer own regions region before (d ∷ ds) more = let h = base_longer own regions region (before ++ d ∷ []) ds more in omega (arith, h)

pub base_grows : (own regions : ℕ) (ds more : List Dated) → IsWithin (base own regions ds) (base own regions (ds ++ more))
base_grows own regions ds more = vector_grows (λ r. base_from own regions r [] ds) (λ r. base_from own regions r [] (ds ++ more)) (λ r. base_longer own regions r [] ds more)

-- the keys of rising entries rise
in_keys : (es : List Standing) (j : ℕ) (l : Key) → slice_get (map (λ (e : Standing). e.key) es) j ≡ Some l → (f : Standing) × In f es × (f.key ≡ l)
in_keys [] j l h = absurd (let f : ⊥ = cc in f)
in_keys (e ∷ es) zero l h = (e, inl refl, let s : Some e.key ≡ Some l = h in cc)
in_keys (e ∷ es) (suc j) l h = let r = in_keys es j l h in (r.0, inr r.1, r.2)

keys_rise : (es : List Standing) → Rises es → (i j : ℕ) (k l : Key) → i < j → slice_get (map (λ (e : Standing). e.key) es) i ≡ Some k → slice_get (map (λ (e : Standing). e.key) es) j ≡ Some l → key_below k l ≡ true
unfolding Rises
keys_rise [] h i j k l lt a b = absurd (let f : ⊥ = cc in f)
keys_rise (e ∷ es) h zero zero k l lt a b = absurd (let f : ⊥ = omega (arith, lt) in f)
keys_rise (e ∷ es) h zero (suc j) k l lt a b =
    let r = in_keys es j l b in
    let s : Some e.key ≡ Some k = a in
    let first : e.key ≡ k = cc in
    subst (λ (x : Key). key_below x l ≡ true) first (subst (λ (x : Key). key_below e.key x ≡ true) r.2 (h.0 r.0 r.1))
keys_rise (e ∷ es) h (suc i) zero k l lt a b = absurd (let f : ⊥ = omega (arith, lt) in f)
keys_rise (e ∷ es) h (suc i) (suc j) k l lt a b = keys_rise es h.1 i j k l (omega (arith, lt)) a b

pub line_rises : (own regions : ℕ) (history : List Dated) → IsColumnHistory own regions history → (i j : ℕ) (k l : Key) → i < j
    → slice_get (line (entries_of history)) i ≡ Some k → slice_get (line (entries_of history)) j ≡ Some l → key_below k l ≡ true
line_rises own regions history h i j k l lt a b =
    let es = entries (past_of history) in
    let is : line (entries_of history) ≡ line_of es = ap line_of (entries-of (entries_of history)) in
    keys_rise (filter (is_delivered es) es) (rises-filter (is_delivered es) es (rises (past_of history) (lawful_past own regions history h))) i j k l lt
    (subst (λ (x : List Key). slice_get x i ≡ Some k) is a) (subst (λ (x : List Key). slice_get x j ≡ Some l) is b)
