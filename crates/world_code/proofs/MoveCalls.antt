-- A column has one event more: what that makes of the world, and what gives, carries and trims ask for.
use Rattle.std.proofs.Common.{◌≡◌, ◌≢◌, ℕ, zero, suc, ◌+◌, ◌<◌, ◌≤◌, true, List, [], ◌∷◌, ◌++◌, length, get_or}
use Rattle.std.proofs.Common.{set, take, drop, map, refl, ap, sym, subst, ◌∙◌, arith}
use Rattle.std.specs.Prelude.{if◌then◌else◌, ◌-◌, min, nat_lt, slice_get, Some}
use Rattle.std.specs.List.{AllByRecursion}
use Rattle.std.proofs.lemmas.Bool.{cond-true, cond-false, and_parts, ltb-true, lt-ltb, false_from_ne_true}
use Rattle.log_node.specs.declared.ids.Counts.{Counts}
use Rattle.log_node.specs.declared.node.At.{At}
use Rattle.log_node.specs.declared.node.At.TheVariants as ats
use Rattle.log_node.specs.declared.node.Head.{Head}
use Rattle.log_node.specs.Seen.{PlacedNode}
use Rattle.col_core.specs.declared.Event.TheVariants as events
use Rattle.col_core.specs.declared.Entry.{Entry}
use Rattle.col_core.specs.History.{line}
use Rattle.col_core.specs.Cuts.{chain}
use Rattle.col_core.specs.Computed.{dated}
use Rattle.column.specs.declared.given.Given.{Given}
use Rattle.column.specs.Columns.{ColumnState, AreItems, new_items, with_items, chains_of, base_of}
use Rattle.column.specs.Columns as columns
use Rattle.world_laws.specs.declared.steps.Step.{Step}
use Rattle.world_laws.specs.declared.steps.Step.TheVariants as steps
use Rattle.world_laws.specs.Worlds.{is_column, held_of, may_give, may_carry, heads_lacking}
use Rattle.world_laws.specs.Worlds.{carried_entry, chains_after, with_last, after, reply}
use Rattle.world_laws.proofs.CallerLemmas.{AreTwo, MayGive, MayCarry, may_give_is, may_carry_is, held_within}
use Rattle.world_laws.proofs.CallerLemmas.{lacking_length}
use Rattle.world_code.specs.WorldView.{WorldView, no_column, column_at, world_of, IsPlaced, HasAppended, IsWhole}
use Rattle.world_code.specs.Replies.{place_reply, event_at}
use Rattle.world_code.proofs.AppendedNodes.{IsSent, appended_carried, appended_trimmed}
use Rattle.world_code.proofs.SingleCalls.{is_held}
use Rattle.world_code.proofs.ChangedParts.{with_column, column_world, whole_column}
use Rattle.world_code.proofs.LooksShown.{items_appended}
use Rattle.world_code.proofs.RaiseSteps.{default_free}

-- the world with one column changed as the code changes it
abbrev pub put_columns : WorldView → ℕ → List ColumnState → WorldView
put_columns code region new = record code { columns = set code.columns region new }

pub record Moved (code : WorldView) (step : Step) (now : WorldView) : Type 0 where
  pub world : world_of now ≡ after (world_of code) step
  pub whole : IsWhole now

module _ (code : WorldView) (w : IsWhole code) (region colour : ℕ) (in_regions : region < code.shape.regions)
    (in_colours : colour < code.shape.colours) where
  abbrev pub old : ColumnState
  old = column_at code.columns region colour

  pub row_in : region < length code.columns
  row_in = let n = w.regions in omega (arith, n, in_regions)

  colour_in : colour < length (get_or code.columns region [])
  colour_in = let n = w.wide region [] row_in in omega (arith, n, in_colours)

  pub places : IsPlaced old region colour code.shape.regions
  places = w.placed region colour in_regions in_colours

  module _ (row : List ColumnState) (row_is : row ≡ get_or code.columns region row) where
    row_same : row ≡ get_or code.columns region []
    row_same = row_is ∙ default_free code.columns region row [] row_in

    pub column_same : get_or row colour no_column ≡ old
    column_same = ap (λ (l : List ColumnState). get_or l colour no_column) row_same

    pub call_in : colour < length row
    call_in = let n = ap length row_same in let lt = colour_in in omega (arith, n, lt)

    pub moved : (f : ColumnState → ColumnState) (e : Entry) (step : Step) (new : List ColumnState)
        → new ≡ set row colour (f (get_or row colour no_column)) → IsPlaced (f old) region colour code.shape.regions
        → HasAppended code.clients (f old) → (f old).journal ≡ old.journal ++ e ∷ []
        → with_last (world_of code) region colour e ≡ after (world_of code) step
        → Moved code step (put_columns code region new)
    moved f e step new new_is is_placed appended journal is =
        let columns_are : set code.columns region new ≡ with_column code.columns region colour (f old) =
        ap (set code.columns region)
        (new_is ∙ ap (λ (l : List ColumnState). set l colour (f (get_or l colour no_column))) row_same) in
        let world = column_world code region colour (f old) e row_in colour_in journal ∙ is in
        subst (λ (cs : List (List ColumnState)). Moved code step (record code { columns = cs })) (sym columns_are)
        (record {
          world = world;
          whole = whole_column code region colour (f old) step w in_regions in_colours is_placed appended world;
        })

-- Give

-- A column is called for a give, which may be done, with what the code has read: the columns of the origin.
pub record GiveCall (code : WorldView) (origin region colour from : ℕ) (cs : List ColumnState) : Type 0 where
  pub whole : IsWhole code
  pub guard : may_give (world_of code) origin region colour from ≡ true
  pub columns_are : cs ≡ get_or code.columns origin cs

module _ {code : WorldView} {origin region colour from : ℕ} {cs : List ColumnState}
    (call : GiveCall code origin region colour from cs) where
  asks : MayGive (world_of code) origin region colour from
  asks = may_give_is (world_of code) origin region colour from call.guard

  two : AreTwo (world_of code) origin region colour
  two = asks.two

  its_place : IsPlaced (column_at code.columns origin colour) origin colour code.shape.regions
  its_place = places code call.whole origin colour two.origin_is two.colour_is

  same_giver : get_or cs colour no_column ≡ column_at code.columns origin colour
  same_giver = column_same code call.whole origin colour two.origin_is two.colour_is cs call.columns_are

  from_is : min from (length (line (column_at code.columns origin colour).journal)) ≡ from
  from_is =
      let a = held_within (world_of code) (is_held code call.whole) origin region colour two in
      let b = asks.holds in
      omega (arith, a, b)

  pub give_other : region ≢ (get_or cs colour no_column).region
  give_other e = two.differ (sym (e ∙ (ap (λ (q : ColumnState). q.region) same_giver ∙ its_place.in_region)))

  pub give_region : region < (get_or cs colour no_column).regions
  give_region =
      let n = ap (λ (q : ColumnState). q.regions) same_giver ∙ its_place.of_regions in
      let lt = two.region_is in
      omega (arith, n, lt)

  pub give_place : length (get_or cs colour no_column).journal ≡ length ((world_of code).histories origin colour)
  give_place = ap (λ (q : ColumnState). length q.journal) same_giver

  pub given_moved : (by : ℕ) {new : List ColumnState}
      → new ≡ set cs colour (columns.after_give (get_or cs colour no_column) by region from)
      → Moved code (steps.Give by origin region colour from) (put_columns code origin new)
  given_moved by {new} new_is =
      let p = its_place in
      let q = column_at code.columns origin colour in
      let appended = call.whole.appended origin colour in
      moved code call.whole origin colour two.origin_is two.colour_is cs call.columns_are
      (λ (c : ColumnState). columns.after_give c by region from)
      (record { by = by; event = events.Give region from; stamp = 0 }) (steps.Give by origin region colour from) new
      new_is
      (record { in_region = p.in_region; of_colour = p.of_colour; of_regions = p.of_regions })
      (record { stored = appended.stored; copies = appended.copies })
      (ap (λ (n : ℕ). q.journal ++ record { by = by; event = events.Give region n; stamp = 0 } ∷ []) from_is)
      (sym (cond-true (may_give (world_of code) origin region colour from) _ _ call.guard))

-- Trim

pub is_column_of : (code : WorldView) (region colour : ℕ) → is_column (world_of code) region colour ≡ true
    → (region < code.shape.regions) × (colour < code.shape.colours)
is_column_of code region colour ok =
    let p = and_parts (nat_lt region code.shape.regions) _ ok in
    (ltb-true region code.shape.regions p.0, ltb-true colour code.shape.colours p.1)

pub trim_moved : (code : WorldView) (w : IsWhole code) (by region colour : ℕ) (counts : Counts)
    → is_column (world_of code) region colour ≡ true → (row : List ColumnState) → row ≡ get_or code.columns region row
    → (new : List ColumnState) → new ≡ set row colour (columns.after_trim (get_or row colour no_column) by counts)
    → Moved code (steps.Trim by region colour counts) (put_columns code region new)
trim_moved code w by region colour counts ok row row_is new new_is =
    let there = is_column_of code region colour ok in
    let p = places code w region colour there.0 there.1 in
    let q = column_at code.columns region colour in
    moved code w region colour there.0 there.1 row row_is
    (λ (c : ColumnState). columns.after_trim c by counts)
    (record { by = by; event = events.Trim counts; stamp = 0 }) (steps.Trim by region colour counts) new new_is
    (record { in_region = p.in_region; of_colour = p.of_colour; of_regions = p.of_regions })
    (appended_trimmed code.clients q by counts (w.appended region colour)) refl
    (sym (cond-true (is_column (world_of code) region colour) _ _ ok))

-- Carry

length_map : {A B : Type 0} (f : A → B) (xs : List A) → length (map f xs) ≡ length xs
length_map f [] = refl
length_map f (x ∷ xs) = ap (λ (n : ℕ). suc n) (length_map f xs)

map_drop : {A B : Type 0} (f : A → B) (n : ℕ) (xs : List A) → map f (drop n xs) ≡ drop n (map f xs)
map_drop f zero xs = refl
map_drop f (suc n) [] = refl
map_drop f (suc n) (x ∷ xs) = map_drop f n xs

-- what is left of a stretch behind a number that is not below its beginning
rest_of : {A : Type 0} (start held end : ℕ) (xs : List A) → start ≤ held
    → drop (held - start) (take (end - start) (drop start xs)) ≡ drop held (take end xs)
rest_of zero held end xs le =
    ap (λ (n : ℕ). drop n (take (end - 0) xs)) (let e : held - 0 ≡ held = omega arith in e)
    ∙ ap (λ (n : ℕ). drop held (take n xs)) (let e : end - 0 ≡ end = omega arith in e)
rest_of {A} (suc start) held end [] le = nothing (held - suc start) (end - suc start) ∙ sym (nothing held end) where
  none : (n : ℕ) → ◌≡◌ {A = List A} (take n []) []
  none zero = refl
  none (suc n) = refl

  nothing : (n m : ℕ) → ◌≡◌ {A = List A} (drop n (take m [])) []
  nothing zero m = none m
  nothing (suc n) m = ap (drop (suc n)) (none m)
rest_of (suc start) zero end (x ∷ xs) le = absurd (let f : ⊥ = omega (arith, le) in f)
rest_of {A} (suc start) (suc held) zero (x ∷ xs) le =
    ap (λ (n : ℕ). drop (suc held - suc start) (take n (drop start xs))) (let e : 0 - suc start ≡ 0 = omega arith in e)
    ∙ nothing (suc held - suc start) where
      nothing : (n : ℕ) → ◌≡◌ {A = List A} (drop n []) []
      nothing zero = refl
      nothing (suc n) = refl
rest_of (suc start) (suc held) (suc end) (x ∷ xs) le =
    ap (λ (n : ℕ). drop n (take (suc end - suc start) (drop start xs)))
    (let e : suc held - suc start ≡ held - start = omega arith in e)
    ∙ (ap (λ (n : ℕ). drop (held - start) (take n (drop start xs)))
    (let e : suc end - suc start ≡ end - start = omega arith in e)
    ∙ rest_of start held end xs (omega (arith, le)))

-- items that are not none
with_items_journal : (q : ColumnState) (by origin : ℕ) (items : List PlacedNode) → 0 < length items
    → (with_items q by origin items).journal ≡ q.journal
    ++ record {
      by = by;
      event = events.Carry origin (columns.held_of q origin)
          (map (λ (i : PlacedNode). i.head) items);
      stamp = 0;
    } ∷ []
with_items_journal q by origin [] lt = absurd (let f : ⊥ = omega (arith, lt) in f)
with_items_journal q by origin (i ∷ is) lt = refl

with_items_placed : (q : ColumnState) (by origin : ℕ) (items : List PlacedNode) (region colour regions : ℕ)
    → IsPlaced q region colour regions → IsPlaced (with_items q by origin items) region colour regions
with_items_placed q by origin [] region colour regions p = p
with_items_placed q by origin (i ∷ is) region colour regions p =
    record { in_region = p.in_region; of_colour = p.of_colour; of_regions = p.of_regions }

each_of : {A : Type 0} (P : A → Type 0) (xs : List A) → ((n : ℕ) (x : A) → slice_get xs n ≡ Some x → P x)
    → AllByRecursion P xs
each_of P [] h = tt
each_of P (x ∷ xs) h = (h 0 x refl, each_of P xs (λ n y e. h (suc n) y e))

each_rest : {A : Type 0} (P : A → Type 0) (n : ℕ) (xs : List A) → AllByRecursion P xs → AllByRecursion P (drop n xs)
each_rest P zero xs h = h
each_rest P (suc n) [] h = tt
each_rest P (suc n) (x ∷ xs) h = each_rest P n xs h.1

-- A column is called for a carry, which may be done, with what the code has read: the stretch and the region's columns.
pub record CarryCall (code : WorldView) (origin region colour count : ℕ) (given : Given) (cs : List ColumnState) : Type 0
  where
    pub whole : IsWhole code
    pub guard : may_carry (world_of code) origin region colour given.start count ≡ true
    pub items : AreItems (column_at code.columns origin colour) origin given.start (given.start + count) given.items
    pub columns_are : cs ≡ get_or code.columns region cs

module _ {code : WorldView} {origin region colour count : ℕ} {given : Given} {cs : List ColumnState}
    (call : CarryCall code origin region colour count given cs) where
  abbrev w : IsWhole code
  w = call.whole

  abbrev giving : ColumnState
  giving = column_at code.columns origin colour

  abbrev taking : ColumnState
  taking = column_at code.columns region colour

  pub carry_asks : MayCarry (world_of code) origin region colour given.start count
  carry_asks = may_carry_is (world_of code) origin region colour given.start count call.guard

  both : AreTwo (world_of code) origin region colour
  both = carry_asks.two

  giving_placed : IsPlaced giving origin colour code.shape.regions
  giving_placed = places code w origin colour both.origin_is both.colour_is

  taking_placed : IsPlaced taking region colour code.shape.regions
  taking_placed = places code w region colour both.region_is both.colour_is

  held_same : columns.held_of taking origin ≡ held_of (world_of code) origin region colour
  held_same = ap (λ (r : ℕ). length (chain r (dated r taking.journal) origin)) taking_placed.in_region

  heads_are : map (λ (i : PlacedNode). i.head) given.items
      ≡ take (given.start + count - given.start)
      (drop given.start (chains_after origin giving.journal origin))
  heads_are =
      call.items.heads
      ∙ ap (λ (r : ℕ). take (given.start + count - given.start)
      (drop given.start (chain r (dated r giving.journal) origin)))
      giving_placed.in_region

  abbrev held : ℕ
  held = held_of (world_of code) origin region colour

  -- what is new of it
  new_is : new_items taking origin given ≡ drop (held - given.start) given.items
  new_is =
      cond-false (nat_lt (columns.held_of taking origin) given.start) _ _
      (false_from_ne_true _ (λ t. let lt = ltb-true _ _ t in let le = carry_asks.begins in let e = held_same in
      let f : ⊥ = omega (arith, lt, le, e) in f))
      ∙ ap (λ (n : ℕ). drop (n - given.start) given.items) held_same

  new_heads : map (λ (i : PlacedNode). i.head) (new_items taking origin given)
      ≡ heads_lacking (world_of code) origin region colour (given.start + count)
  new_heads =
      ap (map (λ (i : PlacedNode). i.head)) new_is
      ∙ (map_drop (λ (i : PlacedNode). i.head) (held - given.start) given.items
      ∙ (ap (drop (held - given.start)) heads_are
      ∙ rest_of given.start held (given.start + count) (chains_after origin giving.journal origin) carry_asks.begins))

  pub new_some : 0 < length (new_items taking origin given)
  new_some =
      let a = length_map (λ (i : PlacedNode). i.head) (new_items taking origin given) in
      let b = ap (length {A = Head}) new_heads in
      let c = lacking_length (world_of code) origin region colour given.start count carry_asks in
      let d = carry_asks.ends in
      omega (arith, a, b, c, d)

  same_taker : get_or cs colour no_column ≡ taking
  same_taker = column_same code w region colour both.region_is both.colour_is cs call.columns_are

  pub carry_other : origin ≢ (get_or cs colour no_column).region
  carry_other e = both.differ (e ∙ (ap (λ (q : ColumnState). q.region) same_taker ∙ taking_placed.in_region))

  pub carry_region : origin < (get_or cs colour no_column).regions
  carry_region =
      let n = ap (λ (q : ColumnState). q.regions) same_taker ∙ taking_placed.of_regions in
      let lt = both.origin_is in
      omega (arith, n, lt)

  abbrev answer_of : ColumnState → At
  answer_of q = if nat_lt 0 (length (new_items q origin given)) then ats.Event (length q.journal)
      else ats.Look (length q.journal)

  pub carry_reply : (by : ℕ) {at : At} → at ≡ answer_of (get_or cs colour no_column)
      → place_reply (event_at at) ≡ reply (world_of code) (steps.Carry by origin region colour given.start count)
  carry_reply by is =
      ap (λ (a : At). place_reply (event_at a))
      (is ∙ (ap answer_of same_taker
      ∙ cond-true (nat_lt 0 (length (new_items taking origin given))) _ _ (lt-ltb 0 _ new_some)))
      ∙ sym (cond-true (may_carry (world_of code) origin region colour given.start count) _ _ call.guard)

  pub carry_moved : (by : ℕ) {new : List ColumnState}
      → new ≡ set cs colour (columns.after_carry (get_or cs colour no_column) by origin given)
      → Moved code (steps.Carry by origin region colour given.start count) (put_columns code region new)
  carry_moved by {new} is =
      moved code w region colour both.region_is both.colour_is cs call.columns_are
      (λ (c : ColumnState). columns.after_carry c by origin given)
      (carried_entry (world_of code) by origin region colour (given.start + count))
      (steps.Carry by origin region colour given.start count) new is
      (with_items_placed taking by origin (new_items taking origin given) region colour code.shape.regions
      taking_placed)
      (appended_carried code.clients taking by origin (new_items taking origin given) (w.appended region colour)
      (subst (AllByRecursion (IsSent code.clients)) (sym new_is)
      (each_rest (IsSent code.clients) (held - given.start) given.items
      (each_of (IsSent code.clients) given.items
      (items_appended code.clients giving (w.appended origin colour) origin given.start (given.start + count)
      given.items
      call.items)))))
      (with_items_journal taking by origin (new_items taking origin given) new_some
      ∙ (ap (λ (n : ℕ). taking.journal ++ record {
        by = by;
        event = events.Carry origin n
            (map (λ (i : PlacedNode). i.head) (new_items taking origin given));
        stamp = 0;
      } ∷ []) held_same
      ∙ ap (λ (l : List Head). taking.journal ++ record { by = by; event = events.Carry origin held l; stamp = 0 } ∷ [])
      new_heads))
      (sym (cond-true (may_carry (world_of code) origin region colour given.start count) _ _ call.guard))

-- a trim's place
pub trim_place : (code : WorldView) → IsWhole code → (region colour : ℕ) → is_column (world_of code) region colour ≡ true
    → (cs : List ColumnState) → cs ≡ get_or code.columns region cs
    → length (get_or cs colour no_column).journal ≡ length ((world_of code).histories region colour)
trim_place code w region colour ok cs is =
    let there = is_column_of code region colour ok in
    ap (λ (q : ColumnState). length q.journal) (column_same code w region colour there.0 there.1 cs is)
