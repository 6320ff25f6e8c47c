use Rattle.script_text.proofs.CallerLemmas.{script_fits}
use Rattle.run_script.proofs.reading.laws_for_readers.Goals as goal

pub returns : goal.returns
returns g = record {
  fitting = script_fits;
  returned = g.returned_appends_stand.ensures;
  rising = g.closing_lines_rise.ensures;
  one_key = g.one_key.ensures;
  one_command = g.one_command.ensures;
  one_order = g.one_order.ensures;
  nothing_else = g.nothing_else_stands.ensures;
  as_appended = g.shown_as_appended.ensures;
  once = g.shown_once.ensures;
  scans = g.scans_are_whole.ensures;
  gets = g.gets_are_folds.ensures;
  causal_gets = g.causal_gets_are_folds.ensures;
  dequeues = g.dequeues_are_folds.ensures;
  reads = g.reads_are_folds.ensures;
  verdicts = g.verdicts_are_folds.ensures;
  changes = g.changes_are_folds.ensures;
  lists = g.lists_are_folds.ensures;
  undecided = g.undecided_are_folds.ensures;
  decisions = g.decisions_are_folds.ensures;
}
