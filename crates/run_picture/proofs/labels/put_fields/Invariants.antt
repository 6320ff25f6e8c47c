use Rattle.std.proofs.Common.{take}
use Rattle.std.specs.List.{flat_map}
use Rattle.run_picture.specs.Labels.{field_label}
use Rattle.report_text.specs.Output.{Adds}
use Rattle.run_picture.proofs.labels.put_fields.Given as goal

-- the fields before this one are put out
abbrev pub invariant-loop-field : goal.invariant-loop-field
invariant-loop-field g l =
    Adds (g.O.Output.state l.fn.out) (g.O.Output.state l.out)
    (flat_map field_label (take l.field-index l.fields))
