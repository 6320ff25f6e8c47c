-- Heads that stand in a chain, one after another.
use Rattle.std.proofs.Common.{◌≡◌, ℕ, zero, suc, ◌+◌, ◌<◌, ◌≤◌, false, List, [], ◌∷◌, ◌++◌, length, map, take, drop, get_or, Some, ap, sym, ◌∙◌, refl, arith, flat_map, max, append_assoc}
use Rattle.std.specs.Prelude.{slice_get, ◌==◌}
use Rattle.std.proofs.lemmas.List.{flat_map_more, take_more, length-append}
use Rattle.log_node.specs.declared.node.Head.{Head}
use Rattle.log_node.specs.Outcomes.{greatest}
use Rattle.log_node.proofs.CallerLemmas.{get_longer, same_some}
use Rattle.col_core.specs.declared.Entry.{Entry}
use Rattle.col_core.specs.Cuts.{Dated, carried, chain, entries_of, noted, noted_from}
use Rattle.col_core.specs.Computed.{dated}
use Rattle.col_core.proofs.CallerLemmas.{entries_dated, if_false}
use Rattle.walk_law.specs.Proposals.{StandFrom, carried_by}
use Rattle.walk_law.proofs.Lists.{get_right}

-- heads that stand from the first place on are a beginning
pub stand_beginning : (xs ys : List Head) → StandFrom ys 0 xs → (rest : List Head) × (xs ++ rest ≡ ys)
stand_beginning [] ys s = (ys, refl)
stand_beginning (x ∷ xs) [] s = absurd (let f = s 0 x refl in let g : ⊥ = cc (f) in g)
stand_beginning (x ∷ xs) (y ∷ ys) s =
    let here : y ≡ x = same_some (s 0 x refl) in
    let more = stand_beginning xs ys (λ k h at.
    ap (slice_get ys) (let e : 0 + k ≡ k = omega arith in e)
    ∙ (ap (slice_get (y ∷ ys)) (let e : suc k ≡ 0 + suc k = omega arith in e) ∙ s (suc k) h at)) in
    (more.0, ap (λ (z : Head). z ∷ (xs ++ more.0)) (sym here) ∙ ap (λ (l : List Head). y ∷ l) more.1)

pub beginning_stands : (xs rest ys : List Head) → xs ++ rest ≡ ys → StandFrom ys 0 xs
beginning_stands xs rest ys e = λ k h at.
    ap (slice_get ys) (let z : 0 + k ≡ k = omega arith in z)
    ∙ (ap (λ (l : List Head). slice_get l k) (sym e) ∙ get_longer xs rest k h at)

-- some and then others
pub stand_joined : (ys : List Head) (n : ℕ) (xs zs : List Head) → StandFrom ys n xs → StandFrom ys (n + length xs) zs
    → StandFrom ys n (xs ++ zs)
stand_joined ys n [] zs a b k h at = ap (slice_get ys) (let e : n + k ≡ n + length {A = Head} [] + k = omega arith in e) ∙ b k h at
stand_joined ys n (x ∷ xs) zs a b zero h at = a zero h at
stand_joined ys n (x ∷ xs) zs a b (suc k) h at =
    ap (slice_get ys) (let e : n + suc k ≡ n + 1 + k = omega arith in e)
    ∙ stand_joined ys (n + 1) xs zs
    (λ j g i. ap (slice_get ys) (let e : n + 1 + j ≡ n + suc j = omega arith in e) ∙ a (suc j) g i)
    (λ j g i. ap (slice_get ys) (let e : n + 1 + length xs + j ≡ n + length (x ∷ xs) + j = omega arith in e) ∙ b j g i)
    k h at

pub stand_first : (ys : List Head) (n : ℕ) (xs zs : List Head) → StandFrom ys n (xs ++ zs) → StandFrom ys n xs
stand_first ys n xs zs s k h at = s k h (get_longer xs zs k h at)

pub stand_second : (ys : List Head) (n : ℕ) (xs zs : List Head) → StandFrom ys n (xs ++ zs) → StandFrom ys (n + length xs) zs
stand_second ys n xs zs s k h at =
    ap (slice_get ys) (let e : n + length xs + k ≡ n + (length xs + k) = omega arith in e)
    ∙ s (length xs + k) h (get_right xs zs k ∙ at)

-- one head more
pub stand_one : (ys : List Head) (n : ℕ) (x : Head) → slice_get ys n ≡ Some x → StandFrom ys n (x ∷ [])
stand_one ys n x there zero h at = ap (slice_get ys) (let e : n + 0 ≡ n = omega arith in e) ∙ (there ∙ at)
stand_one ys n x there (suc k) h at = absurd (let f : ⊥ = cc (at) in f)

-- what stands is no longer than the chain
pub stand_within : (xs ys : List Head) → StandFrom ys 0 xs → length xs ≤ length ys
stand_within xs ys s =
    let whole = stand_beginning xs ys s in
    let long = length-append xs whole.0 in
    let same = ap length whole.1 in
    omega (arith, long, same)

-- WHAT IS HELD OF ANOTHER REGION

carried_dated : (origin : ℕ) (ds : List Dated)
    → flat_map (λ (d : Dated). carried origin d.entry.event) ds ≡ carried_by origin (entries_of ds)
carried_dated origin [] = refl
carried_dated origin (d ∷ ds) = ap (λ (l : List Head). carried origin d.entry.event ++ l) (carried_dated origin ds)

pub held_chain : (own origin : ℕ) (journal : List Entry) → (origin == own) ≡ false
    → chain own (dated own journal) origin ≡ carried_by origin journal
held_chain own origin journal other =
    if_false (origin == own) _ _ other
    ∙ (carried_dated origin (dated own journal) ∙ ap (carried_by origin) (entries_dated own journal))

noted_dated : (region : ℕ) (ds : List Dated)
    → noted ds region ≡ greatest (map (λ (e : Entry). noted_from region e.event) (entries_of ds))
noted_dated region [] = refl
noted_dated region (d ∷ ds) =
    ap (λ (n : ℕ). max (noted_from region d.entry.event) n) (noted_dated region ds)

pub noted_by : (own region : ℕ) (journal : List Entry)
    → noted (dated own journal) region ≡ greatest (map (λ (e : Entry). noted_from region e.event) journal)
noted_by own region journal =
    noted_dated region (dated own journal)
    ∙ ap (λ (h : List Entry). greatest (map (λ (e : Entry). noted_from region e.event) h)) (entries_dated own journal)

pub carried_more : (origin : ℕ) (journal : List Entry) (i : ℕ) (e : Entry) → i < length journal → e ≡ get_or journal i e
    → carried_by origin (take (i + 1) journal) ≡ carried_by origin (take i journal) ++ carried origin e.event
carried_more origin journal i e lt is =
    ap (carried_by origin) (take_more journal i e lt)
    ∙ (sym (flat_map_more (λ (d : Entry). carried origin d.event) [] (take i journal) (get_or journal i e))
    ∙ ap (λ (d : Entry). carried_by origin (take i journal) ++ carried origin d.event) (sym is))

-- all that are carried stand where those up to each entry do
pub rest_of : (origin : ℕ) (journal : List Entry) (i : ℕ) → carried_by origin journal
    ≡ carried_by origin (take i journal) ++ carried_by origin (drop i journal)
rest_of origin journal zero = refl
rest_of origin [] (suc i) = refl
rest_of origin (e ∷ es) (suc i) =
    ap (λ (l : List Head). carried origin e.event ++ l) (rest_of origin es i)
    ∙ sym (append_assoc (carried origin e.event) (carried_by origin (take i es)) (carried_by origin (drop i es)))
