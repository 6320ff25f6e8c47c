use Rattle.std.proofs.Common.{◌≡◌, ◌++◌, ◌∙◌, ap, refl, sym, subst, IfOk, Option, OnOk}
use Rattle.std.specs.Option.{option_copied}
use Rattle.log_node.specs.declared.node.Node.{Node}
use Rattle.run_rules.specs.Computing.{node_read}
use Rattle.object_law.specs.ToldNodes.{told_next}
use Rattle.object_law.proofs.told_nodes.tell.Goals as goal

pub returns-in-Some-clause-told : goal.returns-in-Some-clause-told
returns-in-Some-clause-told g c = λ fed is.
    subst (λ (o : Option Node). IfOk c.feed.result (λ told. told ≡ told_next g.F.NodeFold.told fed (node_read c.args.key o)))
    (ap option_copied (sym c.in-Some.is) ∙ c.node.ensures)
    (c.feed.ensures.told fed
    (record { key = c.args.key; colours = c.in-Some.node.now.colours; text = c.in-Some.node.now.text }) refl refl is)

pub returns-in-Some-clause-fed : goal.returns-in-Some-clause-fed
returns-in-Some-clause-fed g c = λ fed is.
    subst (λ (o : Option Node). OnOk c.feed.result (g.F.NodeFold.Holds c.feed.new.self (fed ++ node_read c.args.key o)))
    (ap option_copied (sym c.in-Some.is) ∙ c.node.ensures)
    (c.feed.ensures.ok fed
    (record { key = c.args.key; colours = c.in-Some.node.now.colours; text = c.in-Some.node.now.text }) refl refl is)
