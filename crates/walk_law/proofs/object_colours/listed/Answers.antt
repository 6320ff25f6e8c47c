use Rattle.std.proofs.Common.{◌∙◌, ◌++◌, ◌∷◌, [], ℕ, List, ap, sym, append_assoc, append-nil}
use Rattle.walk_law.specs.Asking.{colours_in}
use Rattle.walk_law.proofs.object_colours.listed.Goals as goal

pub loop-colour-init : goal.loop-colour-init
unfolding colours_in
loop-colour-init c =
    ap (λ (l : List ℕ). l ++ c.into_iter-colour-iterator.result) c.new-colours.ensures
    ∙ (c.into_iter-colour-iterator.ensures.into_iter_gives ∙ c.members-colour-items.ensures)

pub loop-colour-preserved : goal.loop-colour-preserved
loop-colour-preserved c =
    ap (λ (l : List ℕ). l ++ c.next.new.self) c.in_ok-push.ensures.ok
    ∙ (append_assoc c.loop-colour.colours (c.in-Some.colour ∷ []) c.next.new.self
    ∙ (ap (λ (l : List ℕ). c.loop-colour.colours ++ l) (sym c.in-Some.ensures.steps)
    ∙ c.loop-colour.invariant))

pub returns : goal.returns
returns c =
    sym (append-nil c.loop-colour.colours)
    ∙ (ap (λ (l : List ℕ). c.loop-colour.colours ++ l) (sym c.in-None.ensures.steps.0) ∙ c.loop-colour.invariant)
