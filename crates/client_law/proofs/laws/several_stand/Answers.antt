use Rattle.client_law.proofs.Above.{final_is_above}
use Rattle.client_law.proofs.Rows.{closed_stays, gone_at_end, gone_for_memory, kept_after_row, not_open_between, rows_begin, settled_for_good}
use Rattle.client_law.proofs.Several.{kept_after_several, several_stand}
use Rattle.client_law.proofs.laws.several_stand.Goals as goal

pub returns : goal.returns
returns c = record {
  begin = rows_begin;
  above = final_is_above;
  stand = several_stand;
  kept = kept_after_several;
  settled = settled_for_good;
  closed = closed_stays;
  not_open = not_open_between;
  stamp_end = gone_at_end;
  no_memory = gone_for_memory;
  row = kept_after_row;
}
