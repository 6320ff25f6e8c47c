-- The heads of a column's own line.
use Rattle.std.proofs.Common.{◌≡◌, ℕ, zero, suc, Bool, true, false, List, [], ◌∷◌, map, take, Some, ap, ◌∙◌, refl}
use Rattle.std.specs.Prelude.{slice_get, ◌==◌, ◌||◌}
use Rattle.std.specs.Option.{option_map}
use Rattle.std.proofs.lemmas.Bool.{true≢false, eq-eqb}
use Rattle.std.proofs.lemmas.Option.{slice_get-map}
use Rattle.log_node.specs.declared.ids.Id.{Id}
use Rattle.log_node.specs.declared.node.Head.{Head}
use Rattle.log_node.specs.Vectors.{zeros}
use Rattle.log_node.proofs.CallerLemmas.{same_some}
use Rattle.col_core.specs.declared.Entry.{Entry}
use Rattle.col_core.specs.History.{enters, has_entered, line}
use Rattle.col_core.specs.Cuts.{Dated, chain, entries_of, needs_in, needs_of}
use Rattle.col_core.specs.Computed.{cut, dated}
use Rattle.col_core.specs.Legal.{IsColumnHistory}
use Rattle.col_core.proofs.CallerLemmas.{entries_dated, head_with, if_true, if_false}
use Rattle.walk_law.proofs.Once.{dated_at, fresh_at}

front_false : (a b : Bool) → (a || b) ≡ false → (a ≡ false) × (b ≡ false)
front_false true b f = absurd (true≢false f)
front_false false b f = (refl, f)

-- of an id that has not entered
needs_none : (ds : List Dated) (id : Id) → has_entered id (entries_of ds) ≡ false → needs_of ds id ≡ zeros
needs_none [] id f = refl
needs_none (d ∷ ds) id f =
    let two = front_false (enters id d.entry.event) (has_entered id (entries_of ds)) f in
    if_false (enters id d.entry.event) _ _ two.0 ∙ needs_none ds id two.1

-- of one that enters at a place, and not before
needs_first : (ds : List Dated) (id : Id) (n : ℕ) (d : Dated) → slice_get ds n ≡ Some d → enters id d.entry.event ≡ true
    → has_entered id (take n (entries_of ds)) ≡ false → needs_of ds id ≡ needs_in d.entry.event d.cut_before
needs_first [] id n d at t f = absurd (let g : ⊥ = cc (at) in g)
needs_first (x ∷ ds) id zero d at t f =
    let same : x ≡ d = same_some at in
    if_true (enters id x.entry.event) _ _ (ap (λ (y : Dated). enters id y.entry.event) same ∙ t)
    ∙ ap (λ (y : Dated). needs_in y.entry.event y.cut_before) same
needs_first (x ∷ ds) id (suc n) d at t f =
    let two = front_false (enters id x.entry.event) (has_entered id (take n (entries_of ds))) f in
    if_false (enters id x.entry.event) _ _ two.0 ∙ needs_first ds id n d at t two.1

module _ (own : ℕ) (journal : List Entry) (id : Id) where
  pub needs_fresh : has_entered id journal ≡ false → needs_of (dated own journal) id ≡ zeros
  needs_fresh f = needs_none (dated own journal) id (ap (has_entered id) (entries_dated own journal) ∙ f)

  pub needs_at : (regions : ℕ) → IsColumnHistory own regions (dated own journal) → (n : ℕ) (e : Entry)
      → slice_get journal n ≡ Some e → enters id e.event ≡ true
      → needs_of (dated own journal) id ≡ needs_in e.event (cut own (dated own (take n journal)))
  needs_at regions lawful n e at t =
      needs_first (dated own journal) id n (record { entry = e; cut_before = cut own (dated own (take n journal)) })
      (dated_at own journal n e at) t
      (ap (λ (h : List Entry). has_entered id (take n h)) (entries_dated own journal) ∙ fresh_at own regions journal lawful id n e at t)

-- the own chain, head by head
pub own_chain : (own : ℕ) (journal : List Entry)
    → chain own (dated own journal) own ≡ map (head_with (dated own journal)) (line journal)
own_chain own journal =
    if_true (own == own) _ _ (eq-eqb own own refl)
    ∙ ap (λ (h : List Entry). map (head_with (dated own journal)) (line h)) (entries_dated own journal)

pub own_head : (own : ℕ) (journal : List Entry) (k : ℕ)
    → slice_get (chain own (dated own journal) own) k ≡ option_map (head_with (dated own journal)) (slice_get (line journal) k)
own_head own journal k =
    ap (λ (l : List Head). slice_get l k) (own_chain own journal) ∙ slice_get-map (head_with (dated own journal)) (line journal) k
