-- The keys that replies show, of which nobody is named as the writer.
use Rattle.std.specs.Prelude.{List, map}
use Rattle.log_node.specs.declared.forms.Version.{Version}
use Rattle.report_text.specs.declared.report.ClientReport.{ClientReport}
use Rattle.report_text.specs.declared.report.ReplyLine.{ReplyLine}
use Rattle.report_text.specs.declared.report.Report.{Report}
use Rattle.run_rules.specs.Telling.{unnamed}

-- those of each reply to a client
abbrev pub unnamed_to : ClientReport → List (List Version)
unnamed_to client = map (λ (r : ReplyLine). unnamed r.answer) client.replies

-- those of all clients
abbrev pub unnamed_finds : Report → List (List (List Version))
unnamed_finds report = map unnamed_to report.clients
