use Rattle.std.proofs.Common.{◌∙◌}
use Rattle.log_node.specs.Sets.{members}
use Rattle.run_picture.specs.Labels.{name_among, field_label}
use Rattle.run_picture.proofs.Enumerated.{begun, begun_more, begun_whole}
use Rattle.run_picture.proofs.labels.put_colours.Goals as goal

pub loop-colour-init : goal.loop-colour-init
loop-colour-init g c =
    begun (λ colour. field_label (name_among c.args.script.now.colours colour)) (members c.args.colours) _ _
    (c.into_iter-colour-iterator.ensures.into_iter_gives ∙ c.members-colour-items.ensures)

pub loop-colour-preserved : goal.loop-colour-preserved
loop-colour-preserved g c =
    begun_more (λ colour. field_label (name_among c.args.script.now.colours colour)) (members c.args.colours) _ _ c.in-Some.colour _ _ _
    c.loop-colour.invariant c.in-Some.ensures.steps (rw c.name_among.ensures at c.put_field.ensures)

pub returns : goal.returns
returns g c =
    begun_whole (λ colour. field_label (name_among c.args.script.now.colours colour)) (members c.args.colours) _ _ _
    c.loop-colour.invariant c.in-None.ensures.steps.0
