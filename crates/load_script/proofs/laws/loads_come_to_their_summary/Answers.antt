use Rattle.load_script.proofs.Loads.{each_append_stands, loads_come_to_their_summary}
use Rattle.load_script.proofs.laws.loads_come_to_their_summary.Goals as goal

pub returns : goal.returns
returns g = record {
  stands = each_append_stands g.returned_appends_stand.ensures g.one_command.ensures g.closing_lines_rise.ensures
      g.one_key.ensures g.nothing_else_stands.ensures;
  summary = loads_come_to_their_summary g.returned_appends_stand.ensures g.one_command.ensures g.closing_lines_rise.ensures
      g.one_key.ensures g.nothing_else_stands.ensures;
}
