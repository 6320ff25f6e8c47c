use Rattle.std.proofs.Common.{◌∙◌, ℕ, List, [], length, refl, subst, sym}
use Rattle.std.specs.List.{All}
use Rattle.std.proofs.lemmas.Iterator.Adapters.{YieldsList-from_vec}
use Rattle.std.proofs.lemmas.Iterator.Consumers.{YieldsList-turn}
use Rattle.closing_report.specs.Columns.{HasNames}
use Rattle.script_in_order.proofs.ColumnsShown.{next_read, region_named}
use Rattle.script_in_order.proofs.reports.column_reports.Goals as goal

pub push_columns-requires : goal.push_columns-requires
push_columns-requires c =
    let items = c.args.regions in
    let script = c.args.script.now in
    let yielded = c.loop-columns.yielded in
    let gives = c.into_iter-columns-iterator.ensures.into_iter_gives in
    let t = YieldsList-turn (YieldsList-from_vec {s = c.into_iter-columns-iterator.result} items.items gives.0
    (gives.1 ∙ items.ok.0)) yielded _
    c.loop-columns.yielded_by _ c.next.new.self c.in-Some.columns c.in-Some.is c.next.ensures.steps in
    let here = next_read items.items items.items _ (length yielded) c.in-Some.columns [] refl refl t in
    let regions_are = sym c.as_list.ensures in
    let colours_are = sym c.as_list-in-loop-columns.ensures in
    subst (λ (names : List (List ℕ)). All (HasNames names c.as_list-in-loop-columns.result.now) c.into_columns.result.items)
    regions_are
    (subst (λ (names : List (List ℕ)). All (HasNames script.regions names) c.into_columns.result.items) colours_are
    (subst (All (HasNames script.regions script.colours)) (sym c.into_columns.ensures)
    (region_named script.regions script.colours items.items (length yielded) script.shape.regions script.shape.colours
    c.in-Some.columns (sym c.requires.fits.regions) (sym c.requires.fits.colours) here.1 here.0 c.requires.regions c.requires.wide c.requires.placed)))
