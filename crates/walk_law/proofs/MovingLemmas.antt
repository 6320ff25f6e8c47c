-- Pulls: what a column held, and for which number a give asked.
use Rattle.std.proofs.Common.{◌≡◌, ◌∙◌, refl, ap, sym, subst, ℕ, zero, suc, ◌+◌, ◌<◌, ◌≤◌, min, Bool, true, false, List, [], ◌∷◌, length, take, Option, Some, None, ◌⊎◌, inl, inr, arith}
use Rattle.std.specs.Prelude.{nat_eq, nat_lt, slice_get, ◌==◌, ◌&&◌}
use Rattle.std.proofs.lemmas.Bool.{and_from, and_parts, cases_lt, eq-eqb, eqb-true, eqb-false, ltb-false, ltb-true}
use Rattle.std.proofs.lemmas.List.{length-append, take_all}
use Rattle.log_node.specs.declared.node.Node.{Node}
use Rattle.col_core.specs.declared.Entry.{Entry}
use Rattle.col_core.specs.Computed.{dated}
use Rattle.col_core.specs.Cuts.{base, chain}
use Rattle.col_core.specs.declared.Event.{Event}
use Rattle.col_core.specs.declared.Event.TheVariants as events
use Rattle.col_core.specs.Log.{Log, first}
use Rattle.col_core.proofs.CallerLemmas.{by_test, if_false, if_true}
use Rattle.log_node.specs.Vectors.{at}
use Rattle.log_node.proofs.CallerLemmas.{same_some}
use Rattle.col_core.specs.History.{line}
use Rattle.col_core.specs.Legal.{IsColumnHistory}
use Rattle.column_track.specs.Tracks.{Tells}
use Rattle.lawful_run.specs.Callers.{Caller}
use Rattle.lawful_run.specs.Moves.{AsksFor, GivesFrom, GivesTooLow}
use Rattle.run_rules.specs.Telling.{log_of}
use Rattle.walk_law.specs.Looks.{event_by}
use Rattle.walk_law.specs.Moving.{IsFirstHolding, given_by, given_in, held_of}
use Rattle.walk_law.specs.Walking.{Walked, journal_walked}
use Rattle.walk_law.proofs.ChainBeginnings.{beginning_legal, chain_begins}

take_take : {A : Type 0} (xs : List A) (n m : ℕ) → n ≤ m → take n (take m xs) ≡ take n xs
take_take [] zero zero le = refl
take_take [] zero (suc m) le = refl
take_take [] (suc n) zero le = refl
take_take [] (suc n) (suc m) le = refl
take_take (x ∷ xs) zero zero le = refl
take_take (x ∷ xs) zero (suc m) le = refl
take_take (x ∷ xs) (suc n) zero le = absurd (let f : ⊥ = omega (arith, le) in f)
take_take (x ∷ xs) (suc n) (suc m) le = ap (λ l. x ∷ l) (take_take xs n m (omega (arith, le)))

-- between these the first number is sought
pub record Between (walked : Walked) (own colour of from to count low high : ℕ) : Type 0 where
  pub above : from ≤ low
  pub order : low ≤ high
  pub within : high ≤ to
  pub least : (n : ℕ) → from ≤ n → n < low → held_of walked own colour of n < count
  pub enough : (high ≡ to) ⊎ (count ≤ held_of walked own colour of high)

module _ (walked : Walked) (own colour of : ℕ)
    (legal : IsColumnHistory own walked.script.shape.regions (dated own (journal_walked walked own colour))) where
  -- what is held does not fall
  pub held_rises : (n m : ℕ) → n ≤ m → held_of walked own colour of n ≤ held_of walked own colour of m
  held_rises n m le =
      let h = journal_walked walked own colour in
      let g = chain_begins own walked.script.shape.regions (take m h) (beginning_legal own walked.script.shape.regions h m legal) n of in
      let long = length-append (chain own (dated own (take n (take m h))) of) g.0 in
      let whole = ap length g.1 in
      let same = ap (λ (l : List Entry). length (chain own (dated own l) of)) (take_take h n m le) in
      omega (arith, long, whole, same)

  module _ (from to count low high : ℕ) (so : Between walked own colour of from to count low high) (middle : ℕ) (lower : low ≤ middle) (less : middle < high) where
    pub go_up : held_of walked own colour of middle < count → Between walked own colour of from to count (middle + 1) high
    go_up short = record {
      above = let a = so.above in omega (arith, a, lower);
      order = omega (arith, less);
      within = so.within;
      least = λ n le lt. let r = held_rises n middle (omega (arith, lt)) in omega (arith, r, short);
      enough = so.enough;
    }

    pub go_down : count ≤ held_of walked own colour of middle → Between walked own colour of from to count low middle
    go_down long = record {
      above = so.above;
      order = lower;
      within = let w = so.within in omega (arith, w, less);
      least = so.least;
      enough = inr long;
    }

  pub found : (from to count low high : ℕ) → Between walked own colour of from to count low high → high ≤ low → IsFirstHolding walked own colour of from to count low
  found from to count low high so ge =
      let o = so.order in
      let same : high ≡ low = omega (arith, o, ge) in record {
        above = so.above;
        within = let w = so.within in omega (arith, w, o);
        least = so.least;
        enough = subst (λ (k : ℕ). (k ≡ to) ⊎ (count ≤ held_of walked own colour of k)) same so.enough;
      }

  -- FOR WHICH NUMBER A GIVE ASKED
  module _ (told : ℕ → List Node) (caller : Caller) (is : caller.own ≡ own) (seen until place from : ℕ) (order : seen ≤ until)
      (least last : ℕ) (least_is : least ≡ min seen (length (journal_walked walked own colour)))
      (last_is : last ≡ min until (length (journal_walked walked own colour))) (looked : ℕ)
      (first : IsFirstHolding walked own colour of least last from looked) where
    same_held : (k j : ℕ) → take k (journal_walked walked own colour) ≡ take j (journal_walked walked own colour)
        → held_of walked own colour of k ≡ held_of walked own colour of j
    same_held k j e = ap (λ (l : List Entry). length (chain own (dated own l) of)) e

    of_caller : (k : ℕ) → length (chain caller.own (dated caller.own (take k (journal_walked walked caller.own colour))) of)
        ≡ held_of walked own colour of k
    of_caller k = ap (λ (o : ℕ). length (chain o (dated o (take k (journal_walked walked o colour))) of)) is

    both_all : (k j : ℕ) → length (journal_walked walked own colour) ≤ k → length (journal_walked walked own colour) ≤ j
        → take k (journal_walked walked own colour) ≡ take j (journal_walked walked own colour)
    both_all k j a b = take_all k (journal_walked walked own colour) a ∙ sym (take_all j (journal_walked walked own colour) b)

    asked : from ≡ min (length (line (take place (journal_walked walked of colour)))) (held_of walked own colour of looked)
        → AsksFor (log_of walked.report told) caller of colour seen until place from
    asked e = elim (cases_lt looked seen) [
      | inr ge ↦
          (let w = first.within in (
            looked,
            ge,
            omega (arith, w, last_is),
            e ∙ ap (min (length (line (take place (journal_walked walked of colour))))) (sym (of_caller looked)),
          ))
      | inl lt ↦
          (let a = first.above in
          let all_below : length (journal_walked walked own colour) ≤ looked = omega (arith, a, least_is, lt) in (
            seen,
            omega arith,
            order,
            e ∙ ap (min (length (line (take place (journal_walked walked of colour)))))
                (same_held looked seen (both_all looked seen all_below (omega (arith, all_below, lt))) ∙ sym (of_caller seen)),
          ))
    ]

    asked_back : AsksFor (log_of walked.report told) caller of colour seen until place from
        → from ≡ min (length (line (take place (journal_walked walked of colour)))) (held_of walked own colour of looked)
    asked_back x =
        at (min x.0 (length (journal_walked walked own colour))) (let a = x.1 in omega (arith, a, least_is))
        (let a = x.2 in omega (arith, a, last_is))
        (x.3 ∙ ap (min (length (line (take place (journal_walked walked of colour)))))
        (of_caller x.0 ∙ cut (cases_lt x.0 (length (journal_walked walked own colour))))) where
          cut : (x.0 < length (journal_walked walked own colour)) ⊎ (length (journal_walked walked own colour) ≤ x.0)
              → held_of walked own colour of x.0 ≡ held_of walked own colour of (min x.0 (length (journal_walked walked own colour)))
          cut (inl lt) = ap (held_of walked own colour of) (omega (arith, lt))
          cut (inr ge) = same_held x.0 (min x.0 (length (journal_walked walked own colour)))
              (both_all x.0 (min x.0 (length (journal_walked walked own colour))) ge (omega (arith, ge)))

          at : (m : ℕ) → least ≤ m → m ≤ last
              → from ≡ min (length (line (take place (journal_walked walked of colour)))) (held_of walked own colour of m)
              → from ≡ min (length (line (take place (journal_walked walked of colour)))) (held_of walked own colour of looked)
          at m low high e = elim (cases_lt m looked) [
            | inl lt ↦ absurd (let short = first.least m low lt in let f : ⊥ = omega (arith, e, short) in f)
            | inr ge ↦
                (let r = held_rises looked m ge in elim first.enough [
                  | inl end ↦ e ∙ ap (λ (k : ℕ). min (length (line (take place (journal_walked walked of colour))))
                      (held_of walked own colour of k)) (let same : m ≡ looked = omega (arith, high, end, ge) in same)
                  | inr long ↦ omega (arith, e, r, long)
                ])
          ]

    pub asks_told : (bound : ℕ)
        → bound ≡ min (length (line (take place (journal_walked walked of colour)))) (held_of walked own colour of looked)
        → (b : Bool) → nat_eq from bound ≡ b → Tells b (AsksFor (log_of walked.report told) caller of colour seen until place from)
    asks_told bound is_bound true e = asked (eqb-true from bound e ∙ is_bound)
    asks_told bound is_bound false e = λ x. eqb-false from bound e (asked_back x ∙ sym is_bound)

-- EVENTS

given_own : (own from : ℕ) → given_in own (events.Give own from) ≡ Some from
given_own own from = if_true (own == own) (Some from) None (eq-eqb own own refl)

pub given_of : (journal : List Entry) (client own place from : ℕ)
    → slice_get journal place ≡ Some (record { by = client; event = events.Give own from; stamp = 0 })
    → given_by own (event_by client (slice_get journal place)) ≡ Some from
given_of journal client own place from there =
    ap (λ (o : Option Entry). given_by own (event_by client o)) there
    ∙ (ap (given_by own) (if_true ((client == client) && (0 == 0)) (Some (events.Give own from)) None
    (and_from (client == client) (0 == 0) (eq-eqb client client refl) refl)) ∙ given_own own from)

give_is : (own from : ℕ) (event : Event) → given_in own event ≡ Some from → event ≡ events.Give own from
give_is own from (events.Single id floor wants) e = absurd (let f : ⊥ = cc (e) in f)
give_is own from (events.Propose id floor wants) e = absurd (let f : ⊥ = cc (e) in f)
give_is own from (events.Settle id outcome) e = absurd (let f : ⊥ = cc (e) in f)
give_is own from (events.Raise to) e = absurd (let f : ⊥ = cc (e) in f)
give_is own from (events.Give to number) e =
    by_test (events.Give to number ≡ events.Give own from) (to == own)
    (λ t.
    let same : number ≡ from = same_some (sym (if_true (to == own) (Some number) None t) ∙ e) in
    ap (λ (r : ℕ). events.Give r number) (eqb-true to own t) ∙ ap (events.Give own) same)
    (λ f. absurd (let n : Option ℕ = None in let g : n ≡ Some from = sym (if_false (to == own) (Some number) None f) ∙ e in
    let h : ⊥ = cc (g) in h))
give_is own from (events.Carry of start heads) e = absurd (let f : ⊥ = cc (e) in f)
give_is own from (events.Trim counts) e = absurd (let f : ⊥ = cc (e) in f)

pub of_given : (journal : List Entry) (client own place from : ℕ)
    → given_by own (event_by client (slice_get journal place)) ≡ Some from
    → slice_get journal place ≡ Some (record { by = client; event = events.Give own from; stamp = 0 })
of_given journal client own place from e = turn (slice_get journal place) refl where
  turn : (o : Option Entry) → slice_get journal place ≡ o
      → slice_get journal place ≡ Some (record { by = client; event = events.Give own from; stamp = 0 })
  turn None n =
      absurd (let o : Option ℕ = None in let f : o ≡ Some from = sym (ap (λ (x : Option Entry). given_by own (event_by client x)) n) ∙ e in
      let g : ⊥ = cc (f) in g)
  turn (Some entry) n =
      let here = sym (ap (λ (x : Option Entry). given_by own (event_by client x)) n) ∙ e in
      by_test _ ((entry.by == client) && (entry.stamp == 0))
      (λ t.
      let both = and_parts (entry.by == client) (entry.stamp == 0) t in
      let event = give_is own from entry.event
      (sym (ap (given_by own) (if_true ((entry.by == client) && (entry.stamp == 0)) (Some entry.event) None t)) ∙ here) in
      n ∙ (ap (λ (b : ℕ). let o : Option Entry = Some (record { by = b; event = entry.event; stamp = entry.stamp }) in o)
      (eqb-true entry.by client both.0)
      ∙ (ap (λ (v : Event). let o : Option Entry = Some (record { by = client; event = v; stamp = entry.stamp }) in o) event
      ∙ ap (λ (k : ℕ). let o : Option Entry = Some (record { by = client; event = events.Give own from; stamp = k }) in o)
      (eqb-true entry.stamp 0 both.1))))
      (λ f. absurd (let o : Option ℕ = None in let g : o ≡ Some from =
      sym (ap (given_by own) (if_false ((entry.by == client) && (entry.stamp == 0)) (Some entry.event) None f)) ∙ here in
      let h : ⊥ = cc (g) in h))

-- one give at a place
pub one_give : (log : Log) (caller : Caller) (region colour place a b : ℕ) → GivesFrom log caller region colour place a
    → GivesFrom log caller region colour place b → a ≡ b
one_give log caller region colour place a b one other =
    same_some (sym (given_of (log.histories region colour) caller.client caller.own place a one)
    ∙ given_of (log.histories region colour) caller.client caller.own place b other)

pub too_low_told : (log : Log) (caller : Caller) (region colour seen until place from limit : ℕ)
    → GivesFrom log caller region colour place from → AsksFor log caller region colour seen until place from
    → limit ≡ at (base region caller.regions (first log region colour place)) region → (b : Bool) → nat_lt from limit ≡ b
    → Tells b (GivesTooLow log caller region colour seen until place)
too_low_told log caller region colour seen until place from limit gives asks is true t =
    let lt = ltb-true from limit t in (from, gives, asks, omega (arith, lt, is))
too_low_told log caller region colour seen until place from limit gives asks is false f = λ x.
    let same = one_give log caller region colour place x.0 from x.1 gives in
    let ge = ltb-false from limit f in
    let lt = x.3 in
    let g : ⊥ = omega (arith, same, ge, lt, is) in g
