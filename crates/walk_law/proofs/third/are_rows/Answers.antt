use Rattle.std.proofs.Common.{◌≡◌, ◌∙◌, ◌+◌, ◌-◌, ℕ, ap, arith, length, subst, take, drop, List}
use Rattle.std.specs.Prelude.{count_by}
use Rattle.std.proofs.lemmas.List.Sums.{length-filter}
use Rattle.report_text.specs.declared.report.RowReport.{RowReport}
use Rattle.column_track.specs.Tracks.{Tells}
use Rattle.run_rules.specs.Telling.{is_in}
use Rattle.walk_law.specs.Third.{AreRowsIn, rows_in}
use Rattle.walk_law.proofs.ThirdLemmas.{IsFirst, first_next, first_within, region_stretch, rows_more}
use Rattle.walk_law.proofs.third.are_rows.Goals as goal

pub overflow_add-to : goal.overflow_add-to
overflow_add-to c =
    let rows = c.args.report.now.rows in
    let region = c.loop-region.region in
    let within = first_within rows c.args.script.now.shape.regions c.requires.formed.rows region c.loop-region.from c.loop-region-test.true
    c.loop-region.invariant.0 in
    let count = c.count_in.ensures ∙ ap (count_by (is_in region)) c.as_slice-rows.ensures in
    let same = length-filter (is_in region) rows in
    let long = ap length c.as_slice-rows.ensures in
    omega (arith, within, count, same, long)

pub offset_bounds-rows-from : goal.offset_bounds-rows-from
offset_bounds-rows-from c =
    let rows = c.args.report.now.rows in
    let region = c.loop-region.region in
    let within = first_within rows c.args.script.now.shape.regions c.requires.formed.rows region c.loop-region.from c.loop-region-test.true
    c.loop-region.invariant.0 in
    let long = ap length c.as_slice-rows.ensures in
    let fits = c.as_slice-rows.type_inv.1 in
    omega (arith, within, long, fits)

pub slice_bounds-here-end : goal.slice_bounds-here-end
slice_bounds-here-end c =
    let rows = c.args.report.now.rows in
    let region = c.loop-region.region in
    let within = first_within rows c.args.script.now.shape.regions c.requires.formed.rows region c.loop-region.from c.loop-region-test.true
    c.loop-region.invariant.0 in
    let count = c.count_in.ensures ∙ ap (count_by (is_in region)) c.as_slice-rows.ensures in
    let same = length-filter (is_in region) rows in
    let long = ap length c.as_slice-rows.ensures in
    omega (arith, within, count, same, long)

pub are_rows_in-requires-clause-rows : goal.are_rows_in-requires-clause-rows
are_rows_in-requires-clause-rows c =
    let rows = c.args.report.now.rows in
    let region = c.loop-region.region in
    let from = c.loop-region.from in
    let count = c.count_in.ensures ∙ ap (count_by (is_in region)) c.as_slice-rows.ensures in
    let same = length-filter (is_in region) rows in
    ap (λ (l : List RowReport). take (from + c.count_in.result - from) (drop from l)) c.as_slice-rows.ensures
    ∙ (ap (λ (n : ℕ). take n (drop from rows))
    (let e : from + c.count_in.result - from ≡ length (rows_in region rows) = omega (arith, count, same) in e)
    ∙ region_stretch rows c.args.script.now.shape.regions c.requires.formed.rows region from c.loop-region-test.true c.loop-region.invariant.0)

pub returns-then-not-branch : goal.returns-then-not-branch
returns-then-not-branch c = λ all.
    subst (λ b. Tells b (AreRowsIn c.args.script.now c.args.report.now c.loop-region.region)) c.if-not-branch.true c.in_ok-are_rows_in.ensures
    (all c.loop-region.region c.loop-region-test.true)

pub loop-region-preserved : goal.loop-region-preserved
loop-region-preserved c =
    let rows = c.args.report.now.rows in
    let region = c.loop-region.region in
    let from = c.loop-region.from in
    let count = c.count_in.ensures ∙ ap (count_by (is_in region)) c.as_slice-rows.ensures in
    let same = length-filter (is_in region) rows in (
      subst (λ (n : ℕ). IsFirst rows (region + 1) (from + n))
          (let e : length (rows_in region rows) ≡ c.count_in.result = omega (arith, count, same) in e)
          (first_next rows c.args.script.now.shape.regions c.requires.formed.rows region from c.loop-region.invariant.0),
      rows_more c.args.script.now c.args.report.now region c.loop-region.invariant.1
          (subst (λ b. Tells b (AreRowsIn c.args.script.now c.args.report.now region)) c.if-not-branch.false c.in_ok-are_rows_in.ensures),
    )
