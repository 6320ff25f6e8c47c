use Rattle.std.proofs.Common.{◌≡◌, ◌∙◌, List, ◌++◌, length, map, take, drop, ap, subst, sym}
use Rattle.std.proofs.lemmas.List.{take_at}
use Rattle.std.proofs.lemmas.Result.{IfOk-weaker}
use Rattle.closing_report.specs.Columns.{column_shown}
use Rattle.closing_report.specs.Places.{ArePlacesShown}
use Rattle.closing_report.specs.declared.beside.Place.{Place}
use Rattle.closing_report.proofs.Shown.{places_named, all_shown}
use Rattle.closing_report.proofs.beside.columns_beside.Goals as goal

pub show_all-requires-clause-names : goal.show_all-requires-clause-names
show_all-requires-clause-names g c κs within =
    places_named c.args.regions.now c.args.colours.now c.args.columns.items _ c.requires
    (c.as_mut_slice.ensures.value ∙ c.in_ok-places.ensures)

pub returns : goal.returns
returns g c =
    let regions = c.args.regions.now in
    let colours = c.args.colours.now in
    let places = c.in_ok-places.places in
    let after : List Place = c.show_all.new.places in
    let same : c.as_mut_slice.result.now ≡ places.items = c.as_mut_slice.ensures.value in
    let whole : take places.len (after ++ drop (length after) places.items) ≡ after =
    take_at after (drop (length after) places.items) places.len (c.show_all.ensures.many ∙ (ap length same ∙ sym places.ok.0)) in
    let are = subst (λ (l : List Place). ArePlacesShown regions colours l after) (same ∙ c.in_ok-places.ensures) c.show_all.ensures in
    IfOk-weaker c.reports_of.result _ (λ reports. reports ≡ map (column_shown regions colours) c.args.columns.items)
    (λ reports given. all_shown regions colours c.args.columns.items reports after are
    (given ∙ ap (map (λ (place : Place). place.shown)) whole)) c.reports_of.ensures
