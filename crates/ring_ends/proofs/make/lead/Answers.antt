use Rattle.std.proofs.Common.{refl, rules}
use Rattle.ring_ends.proofs.Making.{leads}
use Rattle.ring_ends.proofs.make.lead.Goals as goal

-- src/make.rt:91:1
pub returns : goal.returns
returns c =
    leads _ _ _ _ _ _ (search rules) (search rules) (search rules) c.in_ok-push.ensures.items refl c.in_ok-push-2.ensures.items refl
