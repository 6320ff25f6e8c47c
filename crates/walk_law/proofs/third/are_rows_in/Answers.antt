use Rattle.std.proofs.Common.{◌+◌, ap, arith, length, refl}
use Rattle.log_node.proofs.CallerLemmas.{ok_then}
use Rattle.walk_law.proofs.ColumnPlaces.{columns_many, region_within, tracks_many}
use Rattle.walk_law.proofs.ThirdLemmas.{slice_beside, slice_many, slice_told}
use Rattle.walk_law.proofs.third.are_rows_in.Goals as goal

pub slice_bounds-columns-end : goal.slice_bounds-columns-end
slice_bounds-columns-end c =
    let within = region_within c.args.script.now.shape.regions c.args.script.now.shape.colours c.args.region c.requires.region in
    let many = columns_many c.args.script.now.shape.regions c.args.script.now.shape.colours c.args.report.now.columns c.requires.tracked.numbers in
    let first = c.column_place-from.ensures in
    let same = ap length c.as_slice-all.ensures in
    omega (arith, within, many, first, same)

pub slice_bounds-tracked-end : goal.slice_bounds-tracked-end
slice_bounds-tracked-end c =
    let within = region_within c.args.script.now.shape.regions c.args.script.now.shape.colours c.args.region c.requires.region in
    let many = tracks_many c.args.script.now.shape.regions c.args.script.now.shape.colours c.args.report.now.columns c.args.tracks.now c.requires.tracked in
    let first = c.column_place-from.ensures in
    omega (arith, within, many, first)

pub are_rows_beside-requires-clause-colours : goal.are_rows_beside-requires-clause-colours
are_rows_beside-requires-clause-colours c =
    let from = c.column_place-from.result in
    slice_many c.args.script.now.shape.regions c.args.script.now.shape.colours c.args.report.now.columns c.args.tracks.now c.requires.tracked
    c.as_slice-all.result.now c.as_slice-all.ensures c.args.region from (from + c.args.script.now.shape.colours) c.column_place-from.ensures
    refl c.requires.region

pub are_rows_beside-requires-clause-beside : goal.are_rows_beside-requires-clause-beside
are_rows_beside-requires-clause-beside c =
    let from = c.column_place-from.result in
    slice_beside c.args.script.now.shape.regions c.args.script.now.shape.colours c.args.report.now.columns c.args.tracks.now c.requires.tracked
    c.as_slice-all.result.now c.as_slice-all.ensures c.args.region from (from + c.args.script.now.shape.colours) c.column_place-from.ensures
    refl

pub returns : goal.returns
returns c =
    let from = c.column_place-from.result in
    ok_then c.are_rows_beside.result _ _
    (λ b told. slice_told c.args.script.now.shape.regions c.args.script.now.shape.colours c.args.report.now.columns c.args.tracks.now
    c.requires.tracked c.as_slice-all.result.now c.as_slice-all.ensures c.args.region from (from + c.args.script.now.shape.colours)
    c.column_place-from.ensures refl c.args.script.now c.args.rows.now _ c.requires.rows b told)
    c.are_rows_beside.ensures
