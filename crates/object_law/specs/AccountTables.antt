-- The tables of nodes of the accounts by which reports are judged from the tenth rule on.
use Rattle.std.specs.Prelude.{List, map}
use Rattle.log_node.specs.declared.node.Node.{Node}
use Rattle.report_text.specs.declared.report.Report.{Report}
use Rattle.run_rules.specs.Said.{shown_text, with_text}

-- nodes, each with the text that is shown of it, where one is
abbrev pub as_shown : Report → List Node → List Node
as_shown report nodes = map (λ (node : Node). with_text (shown_text report node.id) node) nodes
