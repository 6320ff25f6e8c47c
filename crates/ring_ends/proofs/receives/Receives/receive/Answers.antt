use Rattle.std.proofs.Common.{◌++◌, [], ◌∷◌, ◌∙◌, ap, append_assoc, rules}
use Rattle.ring_ends.proofs.Givens.{heads_more}
use Rattle.ring_ends.proofs.receives.Receives.receive.Goals as goal

-- src/receives.rt:31:9
pub loop-preserved : goal.loop-preserved
loop-preserved c =
    let inv = c.loop.invariant in
    let more = inv.3.0 in
    let item = c.pop_known-item.result in (
      search rules,
      search rules,
      search rules,
      (
        more ++ item ∷ [],
        c.pop_known-item.ensures.received.0 ∙ (ap (λ z. z ++ item ∷ []) inv.3.1 ∙ append_assoc _ more (item ∷ [])),
        c.push_reserved.ensures.items ∙ (ap (λ z. z ++ item ∷ []) inv.3.2 ∙ append_assoc _ more (item ∷ [])),
        heads_more c.args.region more item inv.3.3 (search rules),
      ),
    )
