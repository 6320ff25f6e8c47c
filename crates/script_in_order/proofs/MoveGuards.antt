-- When the steps of a pull and of a trim are done, and what they answer then.
use Rattle.std.proofs.Common.{◌≡◌, ◌≢◌, ℕ, ◌-◌, ◌+◌, ◌<◌, ◌≤◌, Bool, true, false, Option, Some, None, List, [], ◌∷◌, ◌++◌, length}
use Rattle.std.proofs.Common.{refl, ap, sym, subst, ◌∙◌, arith, lt-ltb}
use Rattle.std.specs.Prelude.{◌&&◌, not, nat_lt, nat_le}
use Rattle.std.proofs.lemmas.Bool.{and_from, cond-true, cond-false, le-leb, le-ltb, ltb-true, ltb-false, ne_eqb}
use Rattle.col_core.proofs.CallerLemmas.{by_test}
use Rattle.col_core.specs.declared.Entry.{Entry}
use Rattle.col_core.specs.declared.Event.TheVariants as events
use Rattle.col_core.specs.History.{line}
use Rattle.log_node.specs.Vectors.{at}
use Rattle.log_node.specs.declared.ids.Counts.{Counts}
use Rattle.log_node.specs.declared.node.At.TheVariants as ats
use Rattle.world_laws.specs.declared.steps.Reply.TheVariants as replies
use Rattle.world_laws.specs.declared.steps.Step.TheVariants.{Give, Carry, Trim}
use Rattle.world_laws.specs.Laws.{Always, IsReached, TrimmedIsHeld}
use Rattle.world_laws.specs.Worlds.{World, held_of, base_after, chains_after, are_two_columns, is_column, may_give}
use Rattle.world_laws.specs.Worlds.{may_carry, after, after_give, reply}
use Rattle.log_node.specs.declared.ids.Key.{Key}
use Rattle.world_laws.proofs.CallerLemmas.{updated_at-here, updated_at-not, line_stays, of_reached, after_reached}
use Rattle.world_laws.proofs.CallerLemmas.{Held, AreTwo, are_two, held_within, held}
use Rattle.world_code.specs.Replies.{place_reply}
use Rattle.script_in_order.specs.Points.{event_or_look}
use Rattle.script_meaning.specs.Moves.{next_at}

-- what a reply says of the place
is_placed : (place : Option ℕ) (n : ℕ) → place_reply place ≡ replies.Event n 0 → (events : ℕ)
    → event_or_look place events ≡ ats.Event n
is_placed (Some m) n e events = let same : m ≡ n = cc in ap (λ (k : ℕ). ats.Event k) same
is_placed None n e events = absurd (let f : ⊥ = cc in f)

is_none : (place : Option ℕ) → place_reply place ≡ replies.Nothing → (events : ℕ)
    → event_or_look place events ≡ ats.Look events
is_none (Some m) e events = absurd (let f : ⊥ = cc in f)
is_none None e events = refl

-- a column that is there, and two of a colour
pub there : (w : World) (region c : ℕ) → region < w.shape.regions → c < w.shape.colours → is_column w region c ≡ true
there w region c lr lc =
    and_from (nat_lt region w.shape.regions) _ (lt-ltb region w.shape.regions lr) (lt-ltb c w.shape.colours lc)

pub both_there : (w : World) (region own c : ℕ) → region < w.shape.regions → own < w.shape.regions
    → c < w.shape.colours → region ≢ own → are_two_columns w region own c ≡ true
both_there w region own c lr lo lc ne =
    and_from (is_column w region c) _ (there w region c lr lc)
    (and_from (is_column w own c) _ (there w own c lo lc) (ap not (ne_eqb region own ne)))

-- the answer of a trim
pub trim_at : (w : World) (by own c : ℕ) (counts : Counts) (place : Option ℕ) (events : ℕ)
    → is_column w own c ≡ true → place_reply place ≡ reply w (Trim by own c counts)
    → event_or_look place events ≡ ats.Event (length (w.histories own c))
trim_at w by own c counts place events there is =
    is_placed place (length (w.histories own c)) (is ∙ cond-true (is_column w own c) _ _ there) events

module _ (w : World) (reached : IsReached w) (law : Always TrimmedIsHeld) (by region own c have count : ℕ)
    (two : are_two_columns w region own c ≡ true) (has : have ≡ held_of w region own c)
    (lacks : count ≡ length (line (w.histories region c)) - have) where
  abbrev w1 : World
  w1 = after w (Give by region own c have)

  its_two : AreTwo w region own c
  its_two = are_two w region own c two

  may : may_give w region own c have ≡ true
  may = and_from (are_two_columns w region own c) _ two (le-leb have (held_of w region own c) (omega (arith, has)))

  given_is : w1 ≡ after_give w by region own c have
  given_is = cond-true (may_give w region own c have) _ _ may

  reached1 : IsReached w1
  reached1 = after_reached w (Give by region own c have) reached

  -- the answer of the give
  pub give_at : (place : Option ℕ) (events : ℕ) → place_reply place ≡ reply w (Give by region own c have)
      → event_or_look place events ≡ ats.Event (length (w.histories region c))
  give_at place events is =
      is_placed place (length (w.histories region c)) (is ∙ cond-true (may_give w region own c have) _ _ may) events

  two1 : are_two_columns w1 region own c ≡ true
  two1 = subst (λ (x : World). are_two_columns x region own c ≡ true) (sym given_is) two

  ours : w1.histories own c ≡ w.histories own c
  ours = ap (λ (x : World). x.histories own c) given_is
      ∙ updated_at-not w.histories region c _ own c (λ e _. its_two.differ (sym e))

  held1 : held_of w1 region own c ≡ have
  held1 = ap (λ (h : List Entry). length (chains_after own h region)) ours ∙ sym has

  within : have ≤ length (line (w.histories region c))
  within = let a = held_within w (of_reached Held held w reached) region own c its_two in omega (arith, a, has)

  theirs : length (line (w1.histories region c)) ≡ length (line (w.histories region c))
  theirs =
      let give : Entry = record { by = by; event = events.Give own have; stamp = 0 } in
      ap (λ (x : World). length (line (x.histories region c))) given_is
      ∙ (ap (λ (h : List Entry). length (line h))
      (updated_at-here w.histories region c (w.histories region c ++ give ∷ []))
      ∙ ap (λ (l : List Key). length l) (line_stays (w.histories region c) give tt))

  base_held : at (base_after w1.shape.regions region (w1.histories region c)) region ≤ have
  base_held =
      let t = are_two w1 region own c two1 in
      let a = of_reached TrimmedIsHeld law w1 reached1 region own c t.origin_is t.region_is t.differ in
      let b = held1 in
      omega (arith, a, b)

  -- it carries exactly where nodes are lacking
  carries : may_carry w1 region own c have count ≡ nat_lt 0 count
  carries = by_test _ (nat_lt 0 count)
      (λ t. let some = ltb-true 0 count t in let h = held1 in let l = theirs in let m = within in
      and_from (are_two_columns w1 region own c) _ two1
      (and_from (nat_le (at (base_after w1.shape.regions region (w1.histories region c)) region) have) _
      (le-leb _ have base_held)
      (and_from (nat_le (have + count) (length (line (w1.histories region c)))) _
      (le-leb _ _ (omega (arith, l, m, lacks)))
      (and_from (nat_le have (held_of w1 region own c)) _ (le-leb _ _ (omega (arith, h)))
      (lt-ltb (held_of w1 region own c) (have + count) (omega (arith, h, some)))))) ∙ sym t)
      (λ f. let none = ltb-false 0 count f in let h = held1 in
      not_all (are_two_columns w1 region own c)
      (nat_le (at (base_after w1.shape.regions region (w1.histories region c)) region) have)
      (nat_le (have + count) (length (line (w1.histories region c)))) (nat_le have (held_of w1 region own c))
      (nat_lt (held_of w1 region own c) (have + count))
      (le-ltb (held_of w1 region own c) (have + count) (omega (arith, h, none))) ∙ sym f) where
        not_all : (a b d e f : Bool) → f ≡ false → (a && (b && (d && (e && f)))) ≡ false
        not_all true true true true f is = is
        not_all false b d e f is = refl
        not_all true false d e f is = refl
        not_all true true false e f is = refl
        not_all true true true false f is = refl

  -- the answer of the carry
  pub carry_at : (place : Option ℕ) → place_reply place ≡ reply w1 (Carry by region own c have count)
      → event_or_look place (length (w.histories own c)) ≡ next_at (w.histories own c) (nat_lt 0 count)
  carry_at place is = by_test _ (nat_lt 0 count)
      (λ t. is_placed place (length (w1.histories own c))
      (is ∙ cond-true (may_carry w1 region own c have count) _ _ (carries ∙ t)) (length (w.histories own c))
      ∙ (ap (λ (h : List Entry). ats.Event (length h)) ours
      ∙ sym (cond-true (nat_lt 0 count) _ _ t)))
      (λ f. is_none place
      (is ∙ cond-false (may_carry w1 region own c have count) _ _ (carries ∙ f)) (length (w.histories own c))
      ∙ sym (cond-false (nat_lt 0 count) _ _ f))
