use Rattle.std.proofs.Common.{◌≡◌, ◌+◌, ◌-◌, ◌<◌, ◌≤◌, length, arith, refl}
use Rattle.report_text.proofs.Indexes.{index_none, index_more, count_yes, count_no, count_none}
use Rattle.report_text.proofs.names.NameIndex.of.Goals as goal

pub loop-at-init : goal.loop-at-init
loop-at-init c = record {
  within = omega arith;
  region = index_none _ _ _ _ refl;
  colour = index_none _ _ _ _ refl;
  count = count_none c.as_slice-columns.result.now;
}

pub loop-at-preserved-then-column-eq0 : goal.loop-at-preserved-then-column-eq0
loop-at-preserved-then-column-eq0 c =
    let within : c.loop-at.at ≤ length c.as_slice-columns.result.now = c.loop-at.invariant.within in
    let next : c.loop-at.at ≡ (c.loop-at.at - 1) + 1 = omega arith in
    let less : c.loop-at.at - 1 < length c.as_slice-columns.result.now = omega arith in
    record {
      within = omega arith;
      region = index_more _ _ _ _ _ _ c.index-columns-at.result _ next less c.index-columns-at.is refl (omega arith) c.loop-at.invariant.region;
      colour = index_more _ _ _ _ _ _ c.index-columns-at.result _ next less c.index-columns-at.is refl (omega arith) c.loop-at.invariant.colour;
      count = count_yes _ _ _ _ c.index-columns-at.result next less c.index-columns-at.is c.if-column-eq0.true c.loop-at.invariant.count;
    }

pub loop-at-preserved : goal.loop-at-preserved
loop-at-preserved c =
    let within : c.loop-at.at ≤ length c.as_slice-columns.result.now = c.loop-at.invariant.within in
    let next : c.loop-at.at ≡ (c.loop-at.at - 1) + 1 = omega arith in
    let less : c.loop-at.at - 1 < length c.as_slice-columns.result.now = omega arith in
    record {
      within = omega arith;
      region = index_more _ _ _ _ _ _ c.index-columns-at.result _ next less c.index-columns-at.is refl (omega arith) c.loop-at.invariant.region;
      colour = index_more _ _ _ _ _ _ c.index-columns-at.result _ next less c.index-columns-at.is refl (omega arith) c.loop-at.invariant.colour;
      count = count_no _ _ _ _ c.index-columns-at.result next less c.index-columns-at.is c.if-column-eq0.false c.loop-at.invariant.count;
    }
