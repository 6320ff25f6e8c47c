use Rattle.std.proofs.Common.{ℕ, min, ◌∙◌, sym, ap}
use Rattle.std.specs.Prelude.{◌==◌, if◌then◌else◌}
use Rattle.log_node.specs.Vectors.{at}
use Rattle.column.proofs.Leasts.{least_more}
use Rattle.column.proofs.trimming.least_of.Goals as goal

pub loop-region-preserved : goal.loop-region-preserved
loop-region-preserved c =
    let region = c.loop-region.region in
    c.least_with-least.ensures
    ∙ (ap (λ (n : ℕ). if region == c.args.own then n else min n (at c.args.notes region)) c.loop-region.invariant
    ∙ sym (least_more c.args.notes c.args.own region c.args.bound))
