use Rattle.std.proofs.Common.{◌∙◌, ◌++◌, ◌∷◌, [], ℕ, List, map, ap, sym, append_assoc, append-nil}
use Rattle.log_node.specs.declared.ids.Counts.{Counts}
use Rattle.walk_law.specs.Asking.{colours_in}
use Rattle.walk_law.specs.Keepings.{start_at}
use Rattle.object_law.proofs.node_said.wants_in.Goals as goal

pub loop-colour-init : goal.loop-colour-init
unfolding colours_in
loop-colour-init c =
    let wanted = map (start_at c.args.keeping.now) in
    ap (λ (l : List Counts). l ++ wanted c.into_iter-colour-iterator.result) c.new-wants.ensures
    ∙ ap wanted (c.into_iter-colour-iterator.ensures.into_iter_gives ∙ c.members-colour-items.ensures)

pub loop-colour-preserved : goal.loop-colour-preserved
loop-colour-preserved c =
    let wanted = map (start_at c.args.keeping.now) in
    ap (λ (l : List Counts). l ++ wanted c.next.new.self) c.in_ok-push.ensures.ok
    ∙ (append_assoc c.loop-colour.wants (c.start.result ∷ []) (wanted c.next.new.self)
    ∙ (ap (λ (w : Counts). c.loop-colour.wants ++ w ∷ wanted c.next.new.self) c.start.ensures
    ∙ (ap (λ (l : List ℕ). c.loop-colour.wants ++ wanted l) (sym c.in-Some.ensures.steps)
    ∙ c.loop-colour.invariant)))

pub returns : goal.returns
returns c =
    let wanted = map (start_at c.args.keeping.now) in
    sym (append-nil c.loop-colour.wants)
    ∙ (ap (λ (l : List ℕ). c.loop-colour.wants ++ wanted l) (sym c.in-None.ensures.steps.0) ∙ c.loop-colour.invariant)
