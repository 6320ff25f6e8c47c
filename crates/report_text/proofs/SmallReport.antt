-- The text of a small report, computed.
use Rattle.std.proofs.Common.{◌≡◌, [], ◌∷◌, None, refl}
use Rattle.std.specs.Prelude.{codes}
use Rattle.std.specs.Fmt.{digits}
use Rattle.log_node.specs.declared.ids.Id.{Id}
use Rattle.log_node.specs.declared.ids.Key.{Key}
use Rattle.log_node.specs.declared.node.Node.{Node}
use Rattle.log_node.specs.declared.node.At.TheVariants as at_kinds
use Rattle.log_node.specs.Vectors.{zeros}
use Rattle.col_core.specs.declared.Event.TheVariants.{Single}
use Rattle.script_text.specs.declared.commands.Word.TheVariants as words
use Rattle.report_text.specs.declared.report.Answer.TheVariants as answers
use Rattle.report_text.specs.declared.report.Report.{Report}
use Rattle.report_text.specs.ReportText.{report_bytes}

abbrev first_id : Id
first_id = record { client = 0; count = 0 }

abbrev first_key : Key
first_key = record { stamp = 1; id = first_id }

abbrev first_node : Node
first_node = record { id = first_id; region = 0; colours = record { 0 = 1 }; text = codes "hi"; floor = 0; wants = zeros ∷ []; row = None }

abbrev first_report : Report
first_report = record {
  version = 1;
  clients = record {
    name = codes "a";
    replies =
        record { line = 6; word = words.Append; answer = answers.Stood 1 None (record { colour = 0; at = at_kinds.Event 0; position = 0 } ∷ []); nodes = [] }
        ∷ record {
          line = 7;
          word = words.Sync;
          answer = answers.Synced (record { colour = 0; events = 1; counts = record { 0 = 1 ∷ 0 ∷ 0 ∷ 0 ∷ [] } }) 1;
          nodes = record { head = record { key = first_key; needs = zeros }; node = first_node } ∷ [];
        }
        ∷ [];
  } ∷ [];
  rows = [];
  columns = record {
    region = 0;
    colour = 0;
    region_name = codes "r";
    colour_name = codes "x";
    journal = record { by = 0; event = Single first_id 0 zeros; stamp = 1 } ∷ [];
    clock = 1;
    line = first_key ∷ [];
    queue = [];
    cut = record { 0 = 1 ∷ 0 ∷ 0 ∷ 0 ∷ [] };
    base = zeros;
  } ∷ [];
}

first_text : report_bytes first_report ≡ codes "report 1\nclient a\n6 append ok 1 x!0@0\n7 sync ok x?1/1 plays 1\n+ a.0 1 hi\ncolumn r x\n0 a single a.0 floor 0 wants 0 stamp 1\n= clock 1 line a.0:1 queue - cut 1 base 0\n"
unfolding digits
first_text = refl
