use Rattle.part_law.proofs.LogReading.{log_reading}
use Rattle.part_law.proofs.Peeks.{peeks_by}
use Rattle.part_law.proofs.Standing.{Cited}
use Rattle.part_law.proofs.laws.peeks_agree.Goals as goal

pub returns : goal.returns
returns g = peeks_by laws log_reading where
  laws : Cited
  laws = record {
    returned = g.returned_appends_stand.ensures;
    one_key = g.one_key.ensures;
    rise = g.closing_lines_rise.ensures;
    back = g.reads_back.ensures;
    reads = g.reads_decisions.ensures;
    differ = g.decisions_differ.ensures;
    plain = g.decisions_are_plain.ensures;
    agree = g.parts_agree.ensures;
    parts = g.parts_are_shards.ensures;
  }
