use Rattle.log_node.proofs.CallerLemmas.{ok_then}
use Rattle.ring_ends.proofs.Making.{joins}
use Rattle.ring_ends.proofs.make.join.Goals as goal

-- src/make.rt:83:1
pub returns : goal.returns
returns c = ok_then c.lead-2.result _ _ (λ _ two. joins _ _ _ _ _ _ c.in_ok-lead.ensures two) c.lead-2.ensures
