use Rattle.std.proofs.Common.{◌∙◌, ap, length, take, List, ℕ}
use Rattle.log_node.specs.Vectors.{at}
use Rattle.col_core.specs.declared.Entry.{Entry}
use Rattle.col_core.specs.Computed.{dated}
use Rattle.col_core.specs.Cuts.{held}
use Rattle.col_core.specs.History.{line}
use Rattle.column_track.specs.declared.marks.Mark.{Mark}
use Rattle.walk_law.proofs.FourthLemmas.{cell_within, line_held}
use Rattle.walk_law.proofs.own_seen.line_length.Goals as goal

pub returns : goal.returns
returns c =
    let t = c.track.result.now in
    let region = c.args.region in
    let within = cell_within c.args.subject.now region c.args.colour c.has_column.result c.has_column.ensures
    c.if-not-has_column.false in
    c.of_region.ensures
    ∙ (ap (λ (m : Mark). at m.held region) c.mark.ensures
    ∙ (ap (λ (r : ℕ). at (held r (dated r (take c.args.events t.journal))) region) c.track.ensures.region
    ∙ (line_held region (take c.args.events t.journal) within
    ∙ ap (λ (h : List Entry). length (line (take c.args.events h))) c.track.ensures.journal)))
