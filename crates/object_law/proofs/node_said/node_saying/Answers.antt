use Rattle.std.proofs.Common.{◌∙◌, ◌∷◌, [], List, Option, ℕ, ap, sym}
use Rattle.log_node.specs.declared.ids.Colours.{Colours}
use Rattle.log_node.specs.declared.node.Node.{Node}
use Rattle.lawful_run.specs.Callers.{node_of}
use Rattle.walk_law.specs.Finds.{node_with, set_asked}
use Rattle.object_law.proofs.node_said.node_saying.Goals as goal

pub returns-in_ok-node_of-in-Some : goal.returns-in_ok-node_of-in-Some
returns-in_ok-node_of-in-Some c = λ replies caller kept by home is.
    ap (λ (n : Node). n ∷ []) (c.in_ok-node_of-in-Some.ensures replies caller kept by home is
    ∙ ap (λ (s : Colours). node_of caller kept s c.in-Some.text) c.set_asked-colours.ensures)
    ∙ ap (λ (t : Option (List ℕ)). node_with caller kept (set_asked c.args.what.now c.args.asked.now) t) (sym c.in-Some.is)
