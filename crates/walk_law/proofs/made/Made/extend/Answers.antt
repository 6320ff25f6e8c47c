use Rattle.std.proofs.Common.{◌∙◌, ℕ, ap, sym}
use Rattle.col_core.specs.Keeping.{seen_past}
use Rattle.walk_law.proofs.PastLemmas.{past_joined}
use Rattle.walk_law.proofs.made.Made.extend.Goals as goal

pub invariant_of-self-2 : goal.invariant_of-self-2
invariant_of-self-2 c =
    c.seen_past-self-inside.ensures
    ∙ (ap (λ (n : ℕ). seen_past n c.args.places.now) c.self.invariant
    ∙ (sym (past_joined 0 c.self.inside.places.items c.args.places.now)
    ∙ ap (seen_past 0) (sym c.in_ok-extend_from_slice.ensures.items)))
