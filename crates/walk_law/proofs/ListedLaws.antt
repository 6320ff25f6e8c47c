-- A report is listed just where rule 1 and its form ask it.
use Rattle.std.proofs.Common.{refl, sym}
use Rattle.script_text.specs.declared.script.Script.{Script}
use Rattle.report_text.specs.declared.report.Report.{Report}
use Rattle.run_rules.specs.Telling.{journal_among, no_nodes, row_of}
use Rattle.walk_law.specs.Listed.{IsListed}
use Rattle.walk_law.specs.Lists.{HasLists}
use Rattle.walk_law.proofs.RowOrder.{clients_listed, clients_rise, listed_by_region, rises_listed}

pub listed_have_lists : (script : Script) (report : Report) → IsListed script report → HasLists script report
listed_have_lists script report l = record {
  version = l.version;
  names = l.names;
  columns = l.columns;
  named = l.named;
  rows = sym (listed_by_region script.shape.regions report.rows 0 l.by_region);
  by_client = λ region lt.
      clients_listed region report.rows (row_of (journal_among report.columns) no_nodes) (λ r. refl) (l.by_client region lt);
}

pub lists_are_listed : (script : Script) (report : Report) → HasLists script report → IsListed script report
lists_are_listed script report h = record {
  version = h.version;
  names = h.names;
  columns = h.columns;
  named = h.named;
  by_region = rises_listed script.shape.regions report.rows h.rows;
  by_client = λ region lt.
      clients_rise region report.rows (row_of (journal_among report.columns) no_nodes) (λ r. refl) (h.by_client region lt);
}
