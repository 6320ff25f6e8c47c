use Rattle.std.proofs.Common.{◌∙◌, sym, ap, Bool}
use Rattle.std.specs.Option.{option_map}
use Rattle.log_node.specs.declared.ids.Key.{Key}
use Rattle.column_track.proofs.WaitLemmas.{least_waits}
use Rattle.column_track.proofs.marks.least_open.Goals as goal

pub returns-in_err-key : goal.returns-in_err-key
returns-in_err-key c =
    c.from_residual.ensures ∙ (ap (option_map (λ (p : Key × Bool). p.0.stamp)) (sym c.in_err-key.was)
    ∙ least_waits c.args.column.now.region c.args.column.now.regions c.args.column.now.journal c.agrees.ensures.lawful
    c.waiting.result c.waiting.ensures)

pub returns : goal.returns
returns c =
    ap (option_map (λ (p : Key × Bool). p.0.stamp)) (sym c.in_ok-key.was)
    ∙ least_waits c.args.column.now.region c.args.column.now.regions c.args.column.now.journal c.agrees.ensures.lawful
    c.waiting.result c.waiting.ensures
