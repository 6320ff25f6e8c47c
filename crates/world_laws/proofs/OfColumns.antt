-- Raise, Give, Carry and Trim keep what holds.
use Rattle.std.proofs.Common.{◌≡◌, ℕ, ◌+◌, ◌<◌, ◌≤◌, List, [], ◌++◌, length, take, drop, true, refl, subst, ap, sym, ◌∙◌, arith, append-nil}
use Rattle.std.specs.Prelude.{◌==◌, ◌≢◌, nat_lt, nat_le}
use Rattle.std.proofs.lemmas.Bool.{eqb-true, eq-eqb, ltb-true, leb-true}
use Rattle.std.proofs.lemmas.List.{length-drop, length-take}
use Rattle.log_node.specs.declared.ids.Id.{Id}
use Rattle.log_node.specs.declared.ids.Counts.{Counts}
use Rattle.log_node.specs.declared.node.Head.{Head}
use Rattle.log_node.specs.Vectors.{at}
use Rattle.col_core.specs.declared.Event.TheVariants as events
use Rattle.col_core.specs.declared.Entry.{Entry}
use Rattle.col_core.specs.History.{clock, line, last_stamp}
use Rattle.col_core.specs.Cuts.{carried}
use Rattle.col_core.specs.Computed.{dated}
use Rattle.col_core.specs.Copies.{AreTrueCopies}
use Rattle.col_core.specs.Legal.{IsLawfulEvent}
use Rattle.col_core.proofs.CallerLemmas.{choice, both, apart, not_true, In, Status, after_event}
use Rattle.world_laws.specs.Worlds.{World, is_column, chains_after, base_after, held_of, heads_lacking, are_two_columns, may_raise, may_give, may_carry, with_last, carried_entry, after_raise, after_give, after_carry, after_trim}
use Rattle.world_laws.proofs.Held.{Held}
use Rattle.world_laws.proofs.Histories.{entries_dated}
use Rattle.world_laws.proofs.Keeps.{lawful_last, heads_brought, status_stays, fits_all}
use Rattle.world_laws.proofs.Copies.{own_chain_length, copy_within, next_part, BringsNext, copies_last, brings_nothing, plain_copies_last}
use Rattle.world_laws.proofs.Clients.{in_drop, in_take, chain_within, raise_entry}

-- a lawful event that leaves all statuses, where its heads have stamps and copies stay true
pub keeps_last : (w : World) (h : Held w) (region colour : ℕ) (e : Entry)
    → ((id : Id) (st : Status) → after_event id e.event e.stamp st ≡ st)
    → IsLawfulEvent region w.shape.regions (dated region (w.histories region colour)) e.event e.stamp
    → ((other : ℕ) (head : Head) → In head (carried other e.event) → head.key.stamp ≤ last_stamp)
    → ((c : ℕ) → AreTrueCopies w.shape.regions (λ r. dated r ((with_last w region colour e).histories r c)))
    → Held (with_last w region colour e)
keeps_last w h region colour e stays lawful heads copies = record {
  kind = h.kind;
  fresh = h.fresh;
  fits = fits_all w (with_last w region colour e) h.kind refl
      (λ id r c. status_stays w region colour e id r c (stays id)) (λ a n lt. (lt, refl)) h.fits;
  rows = h.rows;
  lawful = lawful_last w h region colour e lawful;
  heads = heads_brought w h region colour e heads;
  floors = h.floors;
  copies = copies;
}

-- Raise

pub keeps_raise : (w : World) (h : Held w) (by region colour to : ℕ) → may_raise w region colour to ≡ true
    → Held (after_raise w by region colour to)
keeps_raise w h by region colour to ok =
    let p = both (is_column w region colour) _ ok in
    let q = both (nat_lt (clock (w.histories region colour)) to) (nat_le to last_stamp) p.1 in
    let e = raise_entry by to in
    let lawful : IsLawfulEvent region w.shape.regions (dated region (w.histories region colour)) e.event e.stamp = (
      refl,
      subst (λ (x : List Entry). clock x < to) (sym (entries_dated region (w.histories region colour)))
          (ltb-true _ _ q.0),
      leb-true _ _ q.1,
    ) in
    keeps_last w h region colour e (λ id st. refl) lawful (λ other head i. absurd i)
    (plain_copies_last w h region colour e lawful (λ other. refl) (λ other. refl))

-- Give

-- two columns of a colour, of different regions
pub record AreTwo (w : World) (origin region colour : ℕ) : Type 0 where
  pub origin_is : origin < w.shape.regions
  pub region_is : region < w.shape.regions
  pub colour_is : colour < w.shape.colours
  pub differ : origin ≢ region

pub are_two : (w : World) (origin region colour : ℕ) → are_two_columns w origin region colour ≡ true
    → AreTwo w origin region colour
are_two w origin region colour ok =
    let p = both (is_column w origin colour) _ ok in
    let q = both (is_column w region colour) _ p.1 in
    let o = both (nat_lt origin w.shape.regions) (nat_lt colour w.shape.colours) p.0 in
    let r = both (nat_lt region w.shape.regions) (nat_lt colour w.shape.colours) q.0 in
    record {
      origin_is = ltb-true _ _ o.0;
      region_is = ltb-true _ _ r.0;
      colour_is = ltb-true _ _ o.1;
      differ = λ e. apart (origin == region) (eq-eqb origin region e) (not_true _ q.1);
    }

-- what a region holds of the origin's chain is no longer than the origin's line
pub held_within : (w : World) → Held w → (origin region colour : ℕ) → AreTwo w origin region colour
    → held_of w origin region colour ≤ length (line (w.histories origin colour))
held_within w h origin region colour two =
    let a = copy_within origin region (dated origin (w.histories origin colour))
    (dated region (w.histories region colour)) (h.copies colour origin region two.origin_is two.region_is two.differ) in
    let b = ap (λ (x : List Entry). length (line x)) (entries_dated origin (w.histories origin colour)) in
    omega (arith, a, b)

abbrev pub give_entry : ℕ → ℕ → ℕ → Entry
give_entry by region from = record { by = by; event = events.Give region from; stamp = 0 }

-- what the guard of Give says
pub record MayGive (w : World) (origin region colour from : ℕ) : Type 0 where
  pub two : AreTwo w origin region colour
  pub holds : from ≤ held_of w origin region colour

pub may_give_is : (w : World) (origin region colour from : ℕ) → may_give w origin region colour from ≡ true
    → MayGive w origin region colour from
may_give_is w origin region colour from ok =
    let p = both (are_two_columns w origin region colour) _ ok in
    record { two = are_two w origin region colour p.0; holds = leb-true _ _ p.1 }

pub keeps_give : (w : World) (h : Held w) (by origin region colour from : ℕ)
    → may_give w origin region colour from ≡ true → Held (after_give w by origin region colour from)
keeps_give w h by origin region colour from ok =
    let g = may_give_is w origin region colour from ok in
    let holds = g.holds in
    let e = give_entry by region from in
    let within = held_within w h origin region colour g.two in
    let lines = ap (λ (x : List Entry). length (line x)) (entries_dated origin (w.histories origin colour)) in
    let lawful : IsLawfulEvent origin w.shape.regions (dated origin (w.histories origin colour)) e.event e.stamp = (
      refl,
      λ same. g.two.differ (sym same),
      g.two.region_is,
      omega (arith, holds, within, lines),
    ) in
    keeps_last w h origin colour e (λ id st. refl) lawful (λ other head i. absurd i)
    (copies_last w h origin colour e lawful
    (λ copier lc ne. choice (λ (n : ℕ). n ≤ held_of w origin copier colour) (region == copier) from 0
    (λ t. subst (λ (k : ℕ). from ≤ held_of w origin k colour) (eqb-true region copier t) holds)
    (λ _. omega arith))
    (brings_nothing w h origin colour e (λ other. refl)))

-- Carry

-- what the guard of Carry says
pub record MayCarry (w : World) (origin region colour start count : ℕ) : Type 0 where
  pub two : AreTwo w origin region colour
  pub above_base : at (base_after w.shape.regions origin (w.histories origin colour)) origin ≤ start
  pub within : start + count ≤ length (line (w.histories origin colour))
  pub begins : start ≤ held_of w origin region colour
  pub ends : held_of w origin region colour < start + count

pub may_carry_is : (w : World) (origin region colour start count : ℕ)
    → may_carry w origin region colour start count ≡ true → MayCarry w origin region colour start count
may_carry_is w origin region colour start count ok =
    let history = w.histories origin colour in
    let held = held_of w origin region colour in
    let p = both (are_two_columns w origin region colour) _ ok in
    let q = both (nat_le (at (base_after w.shape.regions origin history) origin) start) _ p.1 in
    let r = both (nat_le (start + count) (length (line history))) _ q.1 in
    let s = both (nat_le start held) (nat_lt held (start + count)) r.1 in
    record {
      two = are_two w origin region colour p.0;
      above_base = leb-true _ _ q.0;
      within = leb-true _ _ r.0;
      begins = leb-true _ _ s.0;
      ends = ltb-true _ _ s.1;
    }

-- what a Carry brings is what the region lacks, up to the stretch's end
pub lacking_length : (w : World) (origin region colour start count : ℕ) → MayCarry w origin region colour start count
    → length (heads_lacking w origin region colour (start + count)) + held_of w origin region colour ≡ start + count
lacking_length w origin region colour start count g =
    let history = w.histories origin colour in
    let held = held_of w origin region colour in
    let heads = chains_after origin history origin in
    let a = length-drop held (take (start + count) heads) in
    let b = length-take (start + count) heads in
    let c = own_chain_length origin (dated origin history) in
    let d = ap (λ (x : List Entry). length (line x)) (entries_dated origin history) in
    let within = g.within in
    let ends = g.ends in
    omega (arith, a, b, c, d, within, ends)

pub keeps_carry : (w : World) (h : Held w) (by origin region colour start count : ℕ)
    → may_carry w origin region colour start count ≡ true → Held (after_carry w by origin region colour start count)
keeps_carry w h by origin region colour start count ok =
    let g = may_carry_is w origin region colour start count ok in
    let two = g.two in
    let end = start + count in
    let e = carried_entry w by origin region colour end in
    let heads = chains_after origin (w.histories origin colour) origin in
    let long = lacking_length w origin region colour start count g in
    let ends = g.ends in
    let lawful : IsLawfulEvent region w.shape.regions (dated region (w.histories region colour)) e.event e.stamp = (
      refl,
      two.differ,
      two.origin_is,
      refl,
      omega (arith, long, ends),
    ) in
    keeps_last w h region colour e (λ id st. refl) lawful
    (λ other head. choice (λ (l : List Head). In head l → head.key.stamp ≤ last_stamp) (origin == other)
    (heads_lacking w origin region colour end) []
    (λ _ i. chain_within w h origin colour origin head
    (in_take end heads head (in_drop (held_of w origin region colour) (take end heads) head i)))
    (λ _ i. absurd i))
    (copies_last w h region colour e lawful (λ copier lc ne. omega arith)
    (λ other lo lr ne. brings other lo lr ne)) where
      brings : (other : ℕ) → other < w.shape.regions → region < w.shape.regions → other ≢ region
          → BringsNext w region colour (carried_entry w by origin region colour (start + count)) other
      brings other lo lr ne =
          let t = h.copies colour other region lo lr ne in
          let xs = chains_after region (w.histories region colour) other in
          let heads = chains_after other (w.histories other colour) other in
          let e = carried_entry w by origin region colour (start + count) in
          let ends = (may_carry_is w origin region colour start count ok).ends in
          choice (λ (l : List Head). (rest : List Head) × ((xs ++ l) ++ rest ≡ heads)) (origin == other)
          (heads_lacking w origin region colour (start + count)) []
          (λ same. let is = eqb-true origin other same in (
            drop (start + count) heads,
            subst (λ (o : ℕ). (xs ++ heads_lacking w o region colour (start + count)) ++ drop (start + count) heads
                ≡ heads) (sym is) (next_part xs t.rest heads (start + count) t.beginning
                (subst (λ (o : ℕ). held_of w o region colour ≤ start + count) is (omega (arith, ends)))),
          ))
          (λ _. (t.rest, ap (λ (l : List Head). l ++ t.rest) (append-nil xs) ∙ t.beginning))

-- Trim

abbrev pub trim_entry : ℕ → Counts → Entry
trim_entry by counts = record { by = by; event = events.Trim counts; stamp = 0 }

pub keeps_trim : (w : World) (h : Held w) (by region colour : ℕ) (counts : Counts)
    → Held (after_trim w by region colour counts)
keeps_trim w h by region colour counts =
    let e = trim_entry by counts in
    keeps_last w h region colour e (λ id st. refl) refl (λ other head i. absurd i)
    (plain_copies_last w h region colour e refl (λ other. refl) (λ other. refl))
