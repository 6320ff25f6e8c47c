use Rattle.std.proofs.Common.{rules}
use Rattle.walk_law.specs.Walking.{journal_walked}
use Rattle.walk_law.proofs.ScanLemmas.{line_cut, line_cut_short, line_cut_rises}
use Rattle.walk_law.proofs.subject.Subject.line_until.Goals as goal

pub slice_bounds-result-end-2 : goal.slice_bounds-result-end-2
slice_bounds-result-end-2 c =
    line_cut_short c.args.region c.args.self.now.script.shape.regions (journal_walked c.args.self.now c.args.region c.args.colour)
    (search rules) c.args.events c.min.result (search rules) c.line_length-count.result c.line_length-count.ensures c.line.result.now
    (search rules)

pub returns-clause-line : goal.returns-clause-line
returns-clause-line c =
    line_cut c.args.region c.args.self.now.script.shape.regions (journal_walked c.args.self.now c.args.region c.args.colour)
    (search rules) c.args.events c.min.result (search rules) c.line_length-count.result c.line_length-count.ensures c.line.result.now
    (search rules)

pub returns-clause-rising : goal.returns-clause-rising
returns-clause-rising c =
    line_cut_rises c.args.region c.args.self.now.script.shape.regions (journal_walked c.args.self.now c.args.region c.args.colour)
    (search rules) c.args.events c.min.result (search rules) c.line_length-count.result c.line_length-count.ensures c.line.result.now
    (search rules)
