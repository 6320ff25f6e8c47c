-- Each own line is within the cut.
use Rattle.std.proofs.Common.{◌≡◌, ℕ, zero, suc, ◌+◌, ◌<◌, ◌≤◌, List, [], ◌∷◌, length, take, drop, map, Some, refl}
use Rattle.std.proofs.Common.{subst, ap, sym, ◌∙◌, inl, inr, ◌⊎◌, arith}
use Rattle.std.specs.Prelude.{◌==◌, slice_get}
use Rattle.std.proofs.lemmas.Bool.{eq-eqb, cases_lt}
use Rattle.std.proofs.lemmas.List.{take-append-drop, length-map}
use mathlib.Core.List.{IsPrefix}
use Rattle.log_node.specs.declared.ids.Id.{Id}
use Rattle.log_node.specs.declared.ids.Key.{Key}
use Rattle.log_node.specs.declared.ids.Counts.{Counts}
use Rattle.log_node.specs.declared.node.Head.{Head}
use Rattle.log_node.specs.Vectors.{at, IsWithin, least, one_more}
use Rattle.log_node.specs.Reach.{Reachable, next}
use Rattle.log_node.proofs.CallerLemmas.{within-at, within-trans, within-zeros, least-within-second, reached_within}
use Rattle.log_node.proofs.CallerLemmas.{at-one_more, if_own}
use Rattle.col_core.specs.declared.Event.TheVariants as events
use Rattle.col_core.specs.declared.Event.{Event}
use Rattle.col_core.specs.declared.Entry.{Entry}
use Rattle.col_core.specs.History.{line, enters}
use Rattle.col_core.specs.Cuts.{Dated, chain, entries_of, needs_in, needs_of}
use Rattle.col_core.specs.Computed.{cut, dated}
use Rattle.col_core.specs.Legal.{IsColumnHistory}
use Rattle.col_core.proofs.Basics.{choice, if_true}
use Rattle.col_core.proofs.ChainGrowth.{chains_grow, reachable_grows}
use Rattle.col_core.proofs.CutLaws.{cut-is_greatest}
use Rattle.col_core.proofs.DatedLaws.{dated-is_dated}
use Rattle.col_core.proofs.Facts.{entries_dated}
use Rattle.col_core.proofs.Members.{In}

-- a key of the own line with its node's needs
abbrev pub head_with : List Dated → Key → Head
head_with ds key = record { key = key; needs = needs_of ds key.id }

pub in_heads : (ds : List Dated) (ks : List Key) (head : Head) → In head (map (head_with ds) ks)
    → (k : Key) × In k ks × (head_with ds k ≡ head)
in_heads ds [] head i = absurd i
in_heads ds (k ∷ ks) head (inl e) = (k, inl refl, e)
in_heads ds (k ∷ ks) head (inr i) = let r = in_heads ds ks head i in (r.0, inr r.1, r.2)

-- the cut before an event is within the cut after all
pub cut_before_within : (own regions : ℕ) (history : List Entry) → IsColumnHistory own regions (dated own history)
    → (n : ℕ) (d : Dated) → slice_get (dated own history) n ≡ Some d
    → IsWithin d.cut_before (cut own (dated own history))
cut_before_within own regions history lawful n d e =
    let ds = dated own history in
    let split = take-append-drop n ds in
    let grow = subst
    (λ (x : List Dated). (region : ℕ) → IsPrefix (chain own (take n ds) region) (chain own x region)) split
    (chains_grow own regions (take n ds) (drop n ds) (subst (IsColumnHistory own regions) (sym split) lawful)) in
    (cut-is_greatest own ds).greatest d.cut_before
    (reachable_grows (chain own (take n ds)) (chain own ds) grow d.cut_before
    ((dated-is_dated own history).each n d e).reached)

needs_in_within : (ev : Event) (cut_before v : Counts) → IsWithin cut_before v → IsWithin (needs_in ev cut_before) v
needs_in_within (events.Single id floor wants) c v h = within-trans (least wants c) c v (least-within-second wants c) h
needs_in_within (events.Propose id floor wants) c v h = within-trans (least wants c) c v (least-within-second wants c) h
needs_in_within (events.Settle _ _) c v h = within-zeros v
needs_in_within (events.Raise _) c v h = within-zeros v
needs_in_within (events.Give _ _) c v h = within-zeros v
needs_in_within (events.Carry _ _ _) c v h = within-zeros v
needs_in_within (events.Trim _) c v h = within-zeros v

needs_within : (ds : List Dated) (id : Id) (v : Counts)
    → ((n : ℕ) (d : Dated) → slice_get ds n ≡ Some d → IsWithin d.cut_before v) → IsWithin (needs_of ds id) v
needs_within [] id v h = within-zeros v
needs_within (d ∷ ds) id v h =
    choice (λ (x : Counts). IsWithin x v) (enters id d.entry.event) (needs_in d.entry.event d.cut_before)
    (needs_of ds id)
    (λ _. needs_in_within d.entry.event d.cut_before v (h 0 d refl))
    (λ _. needs_within ds id v (λ n e at. h (suc n) e at))

slice_at : {A : Type 0} (xs : List A) (i : ℕ) → i < length xs → (x : A) × (slice_get xs i ≡ Some x) × In x xs
slice_at [] i lt = absurd (let f : ⊥ = omega (arith, lt) in f)
slice_at (x ∷ xs) zero lt = (x, refl, inl refl)
slice_at (x ∷ xs) (suc i) lt = let r = slice_at xs i (omega (arith, lt)) in (r.0, r.1, inr r.2)

more_at : (v : Counts) (r : ℕ) → r < 4 → at (one_more v r) r ≡ at v r + 1
more_at v r lt = at-one_more v r r lt ∙ if_own r r (at v r + 1) (at v r) refl

-- where the needs of each own node are within the cut, the whole own chain is
own_chain_within : (own : ℕ) (ds : List Dated) → own < 4
    → ((head : Head) → In head (chain own ds own) → IsWithin head.needs (cut own ds))
    → at (cut own ds) own ≡ length (chain own ds own)
own_chain_within own ds lt needs =
    let g = cut-is_greatest own ds in
    let v = cut own ds in
    let le = reached_within (chain own ds) g.reached own lt in
    by_cases (at v own) (length (chain own ds own)) le (λ less.
    let h = slice_at (chain own ds own) (at v own) less in
    let r : Reachable (chain own ds) (one_more v own) = next own h.0 g.reached lt h.1 (needs h.0 h.2) in
    let w = within-at (one_more v own) v (g.greatest (one_more v own) r) own lt in
    let m = more_at v own lt in
    omega (arith, w, m)) where
      by_cases : (a b : ℕ) → a ≤ b → (a < b → ⊥) → a ≡ b
      by_cases a b le no_less = pick (cases_lt a b) where
        pick : (a < b) ⊎ (b ≤ a) → a ≡ b
        pick (inl x) = absurd (no_less x)
        pick (inr x) = omega (arith, le, x)

pub own_line_within : (own regions : ℕ) (history : List Entry) → own < 4
    → IsColumnHistory own regions (dated own history)
    → at (cut own (dated own history)) own ≡ length (line history)
own_line_within own regions history lt lawful =
    let ds = dated own history in
    let is : chain own ds own ≡ map (head_with ds) (line (entries_of ds)) = if_true (own == own) _ _
    (eq-eqb own own refl) in
    own_chain_within own ds lt
    (λ head i. needs_of_head head
    (in_heads ds (line (entries_of ds)) head (subst (λ (l : List Head). In head l) is i)))
    ∙ (ap length is
    ∙ (length-map (line (entries_of ds)) (head_with ds) ∙ ap (λ (h : List Entry). length (line h))
    (entries_dated own history))) where
      needs_of_head : (head : Head)
          → (k : Key) × In k (line (entries_of (dated own history))) × (head_with (dated own history) k ≡ head)
          → IsWithin head.needs (cut own (dated own history))
      needs_of_head head x =
          subst (λ (y : Head). IsWithin y.needs (cut own (dated own history))) x.2
          (needs_within (dated own history) x.0.id (cut own (dated own history))
          (cut_before_within own regions history lawful))
