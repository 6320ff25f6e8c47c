use Rattle.std.proofs.Common.{◌≡◌, ℕ, subst, arith}
use Rattle.walk_law.specs.Eleventh.{AreOpenIds}
use Rattle.walk_law.proofs.CauseLemmas.{ids_more, no_ids}
use Rattle.walk_law.proofs.eleventh.open_by_region.Goals as goal

pub loop-region-init : goal.loop-region-init
loop-region-init c = no_ids c.args.columns.now c.new-tables.result.items c.new-tables.ensures.items

pub loop-region-preserved : goal.loop-region-preserved
loop-region-preserved c =
    ids_more c.loop-region.region c.args.columns.now c.loop-region.tables.items c.push.new.self.items c.in_ok-open_ids.field-0
    c.in_ok-push.ensures.items c.in_ok-open_ids.ensures c.loop-region.invariant

pub returns : goal.returns
returns c =
    let ge = c.loop-region-test.false in
    let le = c.loop-region.auto.region-end in
    let e : c.loop-region.region ≡ c.args.regions = omega (arith, ge, le) in
    subst (λ (n : ℕ). AreOpenIds n c.args.columns.now c.loop-region.tables.items) e c.loop-region.invariant
