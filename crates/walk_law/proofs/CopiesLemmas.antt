-- Copies of a column's line, event by event.
use Rattle.std.proofs.Common.{◌≡◌, ◌≢◌, ℕ, zero, suc, ◌+◌, ◌<◌, ◌≤◌, Bool, true, false, List, [], ◌∷◌, ◌++◌, length, map, take, drop, get_or, Option, Some, None, ap, sym, subst, ◌∙◌, refl, arith}
use Rattle.std.specs.Prelude.{slice_get, ◌==◌}
use Rattle.std.specs.List.{All}
use Rattle.std.specs.Option.{option_map}
use Rattle.std.proofs.lemmas.Bool.{eq-eqb, ne_eqb}
use Rattle.std.proofs.lemmas.List.{take_all, take_more, length-append, length-take-le}
use Rattle.std.proofs.lemmas.Option.{get_or_from_slice_get, slice_get_read, slice_get-map}
use Rattle.log_node.specs.declared.ids.Id.{Id}
use Rattle.log_node.specs.declared.ids.Key.{Key}
use Rattle.log_node.specs.declared.ids.Counts.{Counts}
use Rattle.log_node.specs.declared.node.Head.{Head}
use Rattle.log_node.specs.Outcomes.{greatest}
use Rattle.log_node.specs.Vectors.{least, zeros}
use Rattle.col_core.specs.declared.Event.{Event}
use Rattle.col_core.specs.declared.Event.TheVariants.{Carry}
use Rattle.col_core.proofs.CallerLemmas.{if_true}
use Rattle.log_node.proofs.CallerLemmas.{any_default}
use Rattle.col_core.specs.declared.Entry.{Entry}
use Rattle.col_core.specs.History.{enters, line}
use Rattle.col_core.specs.Cuts.{carried, chain, needs_in, needs_of, noted_from}
use Rattle.col_core.specs.Computed.{cut, dated}
use Rattle.col_core.specs.Copies.{IsTrueCopy}
use Rattle.col_core.specs.Legal.{IsColumnHistory}
use Rattle.column_track.specs.Tracks.{EntersAt, Tells}
use Rattle.walk_law.specs.Proposals.{PassesHeads, StandFrom, carried_by, line_heads}
use Rattle.walk_law.proofs.Lists.{told_so}
use Rattle.walk_law.proofs.CopyLemmas.{beginning_stands, carried_more, held_chain, noted_by, rest_of, stand_beginning, stand_first, stand_joined, stand_one, stand_second}
use Rattle.walk_law.proofs.HeadLemmas.{needs_at, needs_fresh, own_chain}

-- HEADS

pub needs_there : (own regions : ℕ) (journal : List Entry) → IsColumnHistory own regions (dated own journal) → (id : Id) (place : ℕ)
    (e : Entry) → e ≡ get_or journal place e → EntersAt journal id (Some place) → (wants with_cut : Counts)
    → ((i : Id) (v : Counts) → enters i e.event ≡ true → least wants v ≡ needs_in e.event v)
    → with_cut ≡ least wants (cut own (dated own (take place journal))) → with_cut ≡ needs_of (dated own journal) id
needs_there own regions journal lawful id place e is (d, at, t) wants with_cut wanted made =
    let same : d ≡ e = sym (get_or_from_slice_get journal place d e at) ∙ sym is in
    let enters_it : enters id e.event ≡ true = ap (λ (x : Entry). enters id x.event) (sym same) ∙ t in
    made
    ∙ (wanted id (cut own (dated own (take place journal))) enters_it
    ∙ (ap (λ (x : Entry). needs_in x.event (cut own (dated own (take place journal)))) (sym same)
    ∙ sym (needs_at own journal id regions lawful place d at t)))

pub needs_nowhere : (own : ℕ) (journal : List Entry) (id : Id) → EntersAt journal id None → zeros ≡ needs_of (dated own journal) id
needs_nowhere own journal id fresh = sym (needs_fresh own journal id fresh)

pub head_there : (own : ℕ) (journal : List Entry) (at : ℕ) (key : Key) (needs : Counts) → slice_get (line journal) at ≡ Some key
    → needs ≡ needs_of (dated own journal) key.id
    → Some (record { key = key; needs = needs }) ≡ slice_get (line_heads own journal) at
head_there own journal at key needs there are =
    let f : Key → Head = λ k. record { key = k; needs = needs_of (dated own journal) k.id } in
    ap (λ (n : Counts). let o : Option Head = Some (record { key = key; needs = n }) in o) are
    ∙ (sym (ap (option_map f) there) ∙ sym (slice_get-map f (line journal) at))

pub head_none : (own : ℕ) (journal : List Entry) (at : ℕ) → slice_get (line journal) at ≡ None
    → None ≡ slice_get (line_heads own journal) at
head_none own journal at none =
    let f : Key → Head = λ k. record { key = k; needs = needs_of (dated own journal) k.id } in
    sym (ap (option_map f) none) ∙ sym (slice_get-map f (line journal) at)

-- PAST HEADS

module _ (ys : List Head) (from : ℕ) (heads : List Head) (i : ℕ) (h : Head) (lt : i < length heads) (is : h ≡ get_or heads i h)
    (long : length (take i heads) ≡ i) where
  next_heads : take (i + 1) heads ≡ take i heads ++ h ∷ []
  next_heads = take_more heads i h lt ∙ ap (λ (x : Head). take i heads ++ x ∷ []) (sym is)

  pub past_more : (at : ℕ) → at ≡ from + i → slice_get ys at ≡ Some h → StandFrom ys from (take i heads)
      → StandFrom ys from (take (i + 1) heads)
  past_more at place there so =
      subst (StandFrom ys from) (sym next_heads)
      (stand_joined ys from (take i heads) (h ∷ []) so
      (stand_one ys (from + length (take i heads)) h
      (ap (slice_get ys) (let e : from + length (take i heads) ≡ at = omega (arith, long, place) in e) ∙ there)))

  pub past_not : (at : ℕ) → at ≡ from + i → (slice_get ys at ≡ Some h → ⊥) → StandFrom ys from heads → ⊥
  past_not at place fails stands =
      fails (ap (slice_get ys) place ∙ stands i h (slice_get_read heads (length heads) i h refl lt is))

-- PAST EVENTS

module _ (ys : List Head) (origin : ℕ) (journal : List Entry) (i : ℕ) (e : Entry) (lt : i < length journal)
    (is : e ≡ get_or journal i e) (held : ℕ) (long : held ≡ length (carried_by origin (take i journal)))
    (so : StandFrom ys 0 (carried_by origin (take i journal))) where
  pub copied_more : (to : ℕ) → PassesHeads ys held (carried origin e.event) (Some to)
      → (to ≡ length (carried_by origin (take (i + 1) journal))) × StandFrom ys 0 (carried_by origin (take (i + 1) journal))
  copied_more to passes =
      let xs = carried_by origin (take i journal) in
      let more = carried_more origin journal i e lt is in
      let far = length-append xs (carried origin e.event) in
      let whole = ap length more in
      let end = passes.1 in (
        (let t : to ≡ length (carried_by origin (take (i + 1) journal)) = omega (arith, end, long, far, whole) in t),
        subst (StandFrom ys 0) (sym more)
            (stand_joined ys 0 xs (carried origin e.event) so
            (subst (λ (n : ℕ). StandFrom ys n (carried origin e.event)) (let t : held ≡ 0 + length xs = omega (arith, long) in t) passes.0)),
      )

  pub copied_not : PassesHeads ys held (carried origin e.event) None → StandFrom ys 0 (carried_by origin journal) → ⊥
  copied_not fails stands =
      let xs = carried_by origin (take i journal) in
      let whole : carried_by origin journal ≡ carried_by origin (take (i + 1) journal) ++ carried_by origin (drop (i + 1) journal) =
      rest_of origin journal (i + 1) in
      let first = stand_first ys 0 (carried_by origin (take (i + 1) journal)) (carried_by origin (drop (i + 1) journal))
      (subst (StandFrom ys 0) whole stands) in
      let second = stand_second ys 0 xs (carried origin e.event)
      (subst (StandFrom ys 0) (carried_more origin journal i e lt is) first) in
      fails (subst (λ (n : ℕ). StandFrom ys n (carried origin e.event)) (let t : 0 + length xs ≡ held = omega (arith, long) in t) second)

pub copied_end : (ys : List Head) (origin : ℕ) (journal : List Entry) (i held : ℕ) → length journal ≤ i
    → held ≡ length (carried_by origin (take i journal)) → StandFrom ys 0 (carried_by origin (take i journal))
    → PassesHeads ys 0 (carried_by origin journal) (Some held)
copied_end ys origin journal i held ge long so =
    let all : take i journal ≡ journal = take_all i journal ge in (
      subst (λ (l : List Entry). StandFrom ys 0 (carried_by origin l)) all so,
      (let same = ap (λ (l : List Entry). length (carried_by origin l)) all in
          let e : held ≡ 0 + length (carried_by origin journal) = omega (arith, long, same) in e),
    )

-- ONE COPY

greatest_within : (f : Entry → ℕ) (xs : List Entry) (n : ℕ) → All (λ (e : Entry). f e ≤ n) xs → greatest (map f xs) ≤ n
greatest_within f [] n all = omega arith
greatest_within f (x ∷ xs) n all =
    let here = all 0 x (omega arith) in
    let rest = greatest_within f xs n (λ k d lt. all (suc k) d (let l : suc k < length (x ∷ xs) = omega (arith, lt) in l)) in
    omega (arith, here, rest)

within_greatest : (f : Entry → ℕ) (xs : List Entry) (n : ℕ) → greatest (map f xs) ≤ n → All (λ (e : Entry). f e ≤ n) xs
within_greatest f [] n le k d lt = absurd (let g : ⊥ = omega (arith, lt) in g)
within_greatest f (x ∷ xs) n le zero d lt = omega (arith, le)
within_greatest f (x ∷ xs) n le (suc k) d lt = within_greatest f xs n (omega (arith, le)) k d (omega (arith, lt))

module _ (origin copier : ℕ) (journal copies : List Entry) (apart : origin ≢ copier) where
  other : (origin == copier) ≡ false
  other = ne_eqb origin copier apart

  held_is : chain copier (dated copier copies) origin ≡ carried_by origin copies
  held_is = held_chain copier origin copies other

  line_is : chain origin (dated origin journal) origin ≡ line_heads origin journal
  line_is = own_chain origin journal

  pub copy_not : PassesHeads (line_heads origin journal) 0 (carried_by origin copies) None
      → IsTrueCopy origin copier (dated origin journal) (dated copier copies) → ⊥
  copy_not fails copy =
      fails (beginning_stands (carried_by origin copies) copy.rest (line_heads origin journal)
      (ap (λ (l : List Head). l ++ copy.rest) (sym held_is) ∙ (copy.beginning ∙ line_is)))

  pub copy_told : (held : ℕ) → PassesHeads (line_heads origin journal) 0 (carried_by origin copies) (Some held) → (b : Bool)
      → Tells b (All (λ (e : Entry). noted_from copier e.event ≤ held) journal)
      → Tells b (IsTrueCopy origin copier (dated origin journal) (dated copier copies))
  copy_told held passes true notes =
      let whole = stand_beginning (carried_by origin copies) (line_heads origin journal) passes.0 in
      let few = greatest_within (λ (e : Entry). noted_from copier e.event) journal held notes in
      let same = noted_by origin copier journal in
      let long = ap length held_is in
      let far = passes.1 in
      record {
        rest = whole.0;
        beginning = ap (λ (l : List Head). l ++ whole.0) held_is ∙ (whole.1 ∙ sym line_is);
        noted_held = omega (arith, few, same, long, far);
      }
  copy_told held passes false more = λ copy.
      let le = copy.noted_held in
      let same = noted_by origin copier journal in
      let long = ap length held_is in
      let far = passes.1 in
      more (within_greatest (λ (e : Entry). noted_from copier e.event) journal held (omega (arith, le, same, long, far)))

-- as a loop goes
pub past_step : (ys : List Head) (from : ℕ) (heads : List Head) (i : ℕ) (d : Head) (at : ℕ) (b : Bool) → i < length heads
    → at ≡ from + i → StandFrom ys from (take i heads) → Tells b (slice_get ys at ≡ Some (get_or heads i d)) → b ≡ true
    → StandFrom ys from (take (i + 1) heads)
past_step ys from heads i d at b lt place so told is =
    past_more ys from heads i (get_or heads i d) lt (any_default heads i d (get_or heads i d) lt) (length-take-le i heads (omega (arith, lt)))
    at place (told_so b told is) so

pub past_end : (ys : List Head) (from : ℕ) (heads : List Head) (i at : ℕ) → length heads ≤ i → i ≤ length heads → at ≡ from + i
    → StandFrom ys from (take i heads) → PassesHeads ys from heads (Some at)
past_end ys from heads i at ge le place so =
    (subst (StandFrom ys from) (take_all i heads ge) so, (let e : at ≡ from + length heads = omega (arith, ge, le, place) in e))

pub carried_here : (origin region start : ℕ) (heads : List Head) (event : Event) → event ≡ Carry region start heads → region ≡ origin
    → heads ≡ carried origin event
carried_here origin region start heads event is same =
    sym (ap (carried origin) is ∙ if_true (region == origin) heads [] (eq-eqb region origin same))

pub copy_there : (P : Type 0) (origin copier : ℕ) (b : Bool) → origin ≢ copier → Tells b P → Tells b (origin ≢ copier → P)
copy_there P origin copier true apart p = λ n. p
copy_there P origin copier false apart fails = λ f. fails (f apart)
