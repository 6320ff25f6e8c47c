-- Entries in rising key: what one more, one less and a filter leave true, and where a new one stands.
use Rattle.std.proofs.Common.{◌≡◌, ℕ, ◌≤◌, Bool, true, false, List, [], ◌∷◌, ◌++◌, refl}
use Rattle.std.proofs.Common.{ap, ◌∙◌, arith}
use Rattle.std.specs.Prelude.{not}
use Rattle.std.specs.List.{AllByRecursion, filter}
use Rattle.std.proofs.lemmas.Bool.{cond_both, cond-false, not-true, both_ways}
use Rattle.log_node.specs.declared.ids.Id.{Id}
use Rattle.log_node.specs.Order.{same_id, key_below}
use Rattle.log_node.specs.Standings.{Standing, with_entry, without_id}
use Rattle.skeen_core.specs.Inside.{IsRising, AreApart, AreEntries}
use Rattle.skeen_core.proofs.Lists.{each-weaker, each-right, each-both, each-filter}
use Rattle.skeen_core.proofs.Lists.{each-filtered}
use Rattle.log_node.proofs.CallerLemmas.{key-trans, key-asym, key-total, same_id-sym}

-- every entry of the list has a key below this one
abbrev pub AllBelow : Standing → List Standing → Type 0
AllBelow e es = AllByRecursion (λ f. key_below f.key e.key ≡ true) es

-- no entry of the list has this id
abbrev pub LacksId : Id → List Standing → Type 0
LacksId id es = AllByRecursion (λ f. same_id f.key.id id ≡ false) es

pub with_entry-front : (e : Standing) (fs gs : List Standing) → AllBelow e fs →
    with_entry e (fs ++ gs) ≡ fs ++ with_entry e gs
with_entry-front e [] gs h = refl
with_entry-front e (f ∷ fs) gs h =
    cond-false (key_below e.key f.key) (e ∷ f ∷ fs ++ gs) (f ∷ with_entry e (fs ++ gs)) (key-asym f.key e.key h.0)
    ∙ ap (λ es. f ∷ es) (with_entry-front e fs gs h.1)

pub with_entry-end : (e : Standing) (fs : List Standing) → AllBelow e fs → with_entry e fs ≡ fs ++ e ∷ []
with_entry-end e [] h = refl
with_entry-end e (f ∷ fs) h =
    cond-false (key_below e.key f.key) (e ∷ f ∷ fs) (f ∷ with_entry e fs) (key-asym f.key e.key h.0)
    ∙ ap (λ es. f ∷ es) (with_entry-end e fs h.1)

pub each-with_entry : (P : Standing → Type 0) (e : Standing) (es : List Standing) → P e → AllByRecursion P es →
    AllByRecursion P (with_entry e es)
each-with_entry P e [] p h = (p, tt)
each-with_entry P e (f ∷ fs) p h =
    cond_both (key_below e.key f.key) (e ∷ f ∷ fs) (f ∷ with_entry e fs) (λ es. AllByRecursion P es) (λ _. (p, h))
    (λ _. (h.0, each-with_entry P e fs p h.1))

pub rising-with_entry : (e : Standing) (es : List Standing) → LacksId e.key.id es → IsRising es →
    IsRising (with_entry e es)
rising-with_entry e [] apart h = (tt, tt)
rising-with_entry e (f ∷ fs) apart h =
    cond_both (key_below e.key f.key) (e ∷ f ∷ fs) (f ∷ with_entry e fs) IsRising
    (λ t. (
      (
        t,
        each-weaker (λ g. key_below f.key g.key ≡ true) (λ g. key_below e.key g.key ≡ true)
            (λ g u. key-trans e.key f.key g.key t u) fs h.0,
      ),
      h,
    ))
    (λ n. (
      each-with_entry (λ g. key_below f.key g.key ≡ true) e fs
          (key-total e.key f.key (both_ways _ (same_id-sym f.key.id e.key.id apart.0)) (both_ways _ n)) h.0,
      rising-with_entry e fs apart.1 h.1,
    ))

pub apart-with_entry : (e : Standing) (es : List Standing) → LacksId e.key.id es → AreApart es →
    AreApart (with_entry e es)
apart-with_entry e [] apart h = (tt, tt)
apart-with_entry e (f ∷ fs) apart h =
    cond_both (key_below e.key f.key) (e ∷ f ∷ fs) (f ∷ with_entry e fs) AreApart
    (λ t. (apart, h))
    (λ n. (
      each-with_entry (λ g. same_id g.key.id f.key.id ≡ false) e fs (same_id-sym f.key.id e.key.id apart.0) h.0,
      apart-with_entry e fs apart.1 h.1,
    ))

pub rising-filter : (p : Standing → Bool) (es : List Standing) → IsRising es → IsRising (filter p es)
rising-filter p [] h = tt
rising-filter p (e ∷ es) h = cond_both (p e) (e ∷ filter p es) (filter p es) IsRising
    (λ _. (each-filter (λ f. key_below e.key f.key ≡ true) p es h.0, rising-filter p es h.1))
    (λ _. rising-filter p es h.1)

pub apart-filter : (p : Standing → Bool) (es : List Standing) → AreApart es → AreApart (filter p es)
apart-filter p [] h = tt
apart-filter p (e ∷ es) h = cond_both (p e) (e ∷ filter p es) (filter p es) AreApart
    (λ _. (each-filter (λ f. same_id f.key.id e.key.id ≡ false) p es h.0, apart-filter p es h.1))
    (λ _. apart-filter p es h.1)

-- fewer entries
pub entries-filter : (c : ℕ) (p : Standing → Bool) (es : List Standing) → AreEntries c es → AreEntries c (filter p es)
entries-filter c p es h = record {
  rising = rising-filter p es h.rising;
  apart = apart-filter p es h.apart;
  within = each-filter (λ f. f.key.stamp ≤ c) p es h.within;
}

-- one more entry
pub entries-with : (c : ℕ) (e : Standing) (es : List Standing) → LacksId e.key.id es → e.key.stamp ≤ c →
    AreEntries c es → AreEntries c (with_entry e es)
entries-with c e es apart le h = record {
  rising = rising-with_entry e es apart h.rising;
  apart = apart-with_entry e es apart h.apart;
  within = each-with_entry (λ f. f.key.stamp ≤ c) e es le h.within;
}

-- a later clock
pub entries-clock : (c d : ℕ) (es : List Standing) → c ≤ d → AreEntries c es → AreEntries d es
entries-clock c d es le h = record {
  rising = h.rising;
  apart = h.apart;
  within = each-weaker (λ f. f.key.stamp ≤ c) (λ f. f.key.stamp ≤ d) (λ f x. omega (arith, x)) es h.within;
}

-- without an id its entry is gone
pub lacks-without : (id : Id) (es : List Standing) → LacksId id (without_id id es)
lacks-without id es = each-weaker (λ f. not (same_id f.key.id id) ≡ true) (λ f. same_id f.key.id id ≡ false)
    (λ f x. not-true _ x) (without_id id es) (each-filtered (λ f. not (same_id f.key.id id)) es)

-- of entries in rising key those in front are below those behind
pub rising-across : (fs gs : List Standing) → IsRising (fs ++ gs) →
    AllByRecursion (λ f. AllByRecursion (λ g. key_below f.key g.key ≡ true) gs) fs
rising-across [] gs h = tt
rising-across (f ∷ fs) gs h = (each-right (λ g. key_below f.key g.key ≡ true) fs gs h.0, rising-across fs gs h.1)

pub rising-right : (fs gs : List Standing) → IsRising (fs ++ gs) → IsRising gs
rising-right [] gs h = h
rising-right (f ∷ fs) gs h = rising-right fs gs h.1

pub apart-right : (fs gs : List Standing) → AreApart (fs ++ gs) → AreApart gs
apart-right [] gs h = h
apart-right (f ∷ fs) gs h = apart-right fs gs h.1

-- the same, one behind after the other
pub below-over : (fs gs : List Standing) → IsRising (fs ++ gs) → AllByRecursion (λ g. AllBelow g fs) gs
below-over [] gs h = nothing gs where
  nothing : (gs : List Standing) → AllByRecursion (λ g. AllBelow g []) gs
  nothing [] = tt
  nothing (g ∷ gs) = (tt, nothing gs)
below-over (f ∷ fs) gs h = each-both (λ g. key_below f.key g.key ≡ true) (λ g. AllBelow g fs) gs
    (each-right (λ g. key_below f.key g.key ≡ true) fs gs h.0) (below-over fs gs h.1)

-- no entry of the list has this one's id
abbrev pub HasOwnId : Standing → List Standing → Type 0
HasOwnId g fs = AllByRecursion (λ f. same_id g.key.id f.key.id ≡ false) fs

pub apart-over : (fs gs : List Standing) → AreApart (fs ++ gs) → AllByRecursion (λ g. HasOwnId g fs) gs
apart-over [] gs h = nothing gs where
  nothing : (gs : List Standing) → AllByRecursion (λ g. HasOwnId g []) gs
  nothing [] = tt
  nothing (g ∷ gs) = (tt, nothing gs)
apart-over (f ∷ fs) gs h =
    each-both (λ g. same_id g.key.id f.key.id ≡ false) (λ g. HasOwnId g fs) gs
    (each-right (λ g. same_id g.key.id f.key.id ≡ false) fs gs h.0) (apart-over fs gs h.1)
