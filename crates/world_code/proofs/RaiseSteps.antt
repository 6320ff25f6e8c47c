-- What the code reads of a column in its place, and what a raise makes of the world.
use Rattle.std.proofs.Common.{◌≡◌, ℕ, zero, suc, ◌<◌, ◌≤◌, true, List, [], ◌∷◌, length, get_or, set, refl, ap, sym, ◌∙◌}
use Rattle.std.proofs.Common.{Result, Ok, Err, arith}
use Rattle.std.specs.Prelude.{nat_lt, OnErr}
use Rattle.std.proofs.lemmas.List.{set-get_or}
use Rattle.std.proofs.lemmas.Bool.{and_parts, ltb-true, leb-true, cond-true}
use Rattle.col_core.specs.declared.Event.TheVariants as events
use Rattle.col_core.specs.History.{clock, last_stamp}
use Rattle.column.specs.Columns.{ColumnState}
use Rattle.column.specs.Columns as columns
use Rattle.world_laws.specs.declared.steps.Step.TheVariants as steps
use Rattle.world_laws.specs.Worlds.{may_raise, after_raise, is_column}
use Rattle.world_code.specs.WorldView.{WorldView, column_at, world_of, IsWhole}
use Rattle.world_code.proofs.ChangedParts.{with_column, column_world, whole_column}
pub use Rattle.log_node.proofs.CallerLemmas.{on_err}
pub use Rattle.log_node.proofs.CallerLemmas.{any_default as default_free}

-- a place within a list is one within an equal list
pub list_there : {A : Type 0} (xs ys : List A) (i : ℕ) → xs ≡ ys → i < length ys → i < length xs
list_there xs ys i e lt = let n = ap length e in omega (arith, n, lt)

-- an item is changed in its place, as a function of it says
pub put_there : {A : Type 0} (f : A → A) {items now : List A} (i : ℕ) {old new : A} (d : A) → items ≡ now → i < length now
    → old ≡ get_or items i old → new ≡ f old → set items i new ≡ set now i (f (get_or now i d))
put_there {A} f {items} {now} i {old} {new} d same lt old_is new_is =
    let there = list_there items now i same lt in
    ap (set items i) (new_is ∙ ap f (old_is ∙ default_free items i old d there))
    ∙ ap (λ (l : List A). set l i (f (get_or l i d))) same

-- an item that stayed as it was leaves its list so
pub put_back : {A : Type 0} {items now : List A} (i : ℕ) {old new : A} → items ≡ now → old ≡ get_or items i old
    → new ≡ old → set items i new ≡ now
put_back {A} {items} {now} i {old} same old_is new_is =
    ap (set items i) (new_is ∙ old_is) ∙ (set-get_or items i old ∙ same)

-- what a raise asks for
pub record MayRaise (code : WorldView) (region colour to : ℕ) : Type 0 where
  pub in_regions : region < code.shape.regions
  pub in_colours : colour < code.shape.colours
  pub above : clock (column_at code.columns region colour).journal < to
  pub within : to ≤ last_stamp

pub may_raise_is : (code : WorldView) (region colour to : ℕ) → may_raise (world_of code) region colour to ≡ true
    → MayRaise code region colour to
may_raise_is code region colour to t =
    let p = and_parts (is_column (world_of code) region colour) _ t in
    let q = and_parts (nat_lt region code.shape.regions) _ p.0 in
    let r = and_parts (nat_lt (clock (column_at code.columns region colour).journal) to) _ p.1 in
    record {
      in_regions = ltb-true region code.shape.regions q.0;
      in_colours = ltb-true colour code.shape.colours q.1;
      above = ltb-true (clock (column_at code.columns region colour).journal) to r.0;
      within = leb-true to last_stamp r.1;
    }

module _ (code : WorldView) (w : IsWhole code) (by region colour to : ℕ)
    (may : may_raise (world_of code) region colour to ≡ true) where
  abbrev old : ColumnState
  old = column_at code.columns region colour

  m : MayRaise code region colour to
  m = may_raise_is code region colour to may

  pub row_there : region < length code.columns
  row_there = let n = w.regions in let lt = (may_raise_is code region colour to may).in_regions in omega (arith, n, lt)

  pub colour_there : colour < length (get_or code.columns region [])
  colour_there = let n = w.wide region [] row_there in let lt = (may_raise_is code region colour to may).in_colours in
      omega (arith, n, lt)

  pub raised_world : world_of
      (record code { columns = with_column code.columns region colour (columns.after_raise old by to) })
      ≡ after_raise (world_of code) by region colour to
  raised_world = column_world code region colour (columns.after_raise old by to)
      (record { by = by; event = events.Raise to; stamp = 0 }) row_there colour_there refl

  pub raised_whole : IsWhole
      (record code { columns = with_column code.columns region colour (columns.after_raise old by to) })
  raised_whole =
      let p = w.placed region colour m.in_regions m.in_colours in
      whole_column code region colour (columns.after_raise old by to) (steps.Raise by region colour to) w m.in_regions
      m.in_colours
      (record { in_region = p.in_region; of_colour = p.of_colour; of_regions = p.of_regions })
      (record { stored = (w.appended region colour).stored; copies = (w.appended region colour).copies })
      (raised_world ∙ sym (cond-true (may_raise (world_of code) region colour to) _ _ may))
