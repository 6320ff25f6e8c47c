use Rattle.std.proofs.Common.{◌≡◌, ℕ, List, ◌++◌, ap, sym, subst, ◌∙◌, append_assoc}
use Rattle.std.specs.List.{flat_map}
use Rattle.report_text.specs.declared.report.Report.{Report}
use Rattle.report_text.specs.Output.{Adds}
use Rattle.report_text.specs.Replies.{client_lines}
use Rattle.report_text.specs.Rows.{row_line}
use Rattle.report_text.specs.Columns.{column_lines}
use Rattle.report_text.specs.ReportText.{report_bytes, version_line}
use Rattle.report_beside.specs.Parts.{ArePartsOf}
use Rattle.report_beside.proofs.PartLemmas.{put_all}
use Rattle.report_beside.proofs.printing.put_report.Goals as goal

-- the first line before the clients, the rows and the columns
behind : (first clients rows columns : List ℕ) → first ++ ((clients ++ rows) ++ columns) ≡ ((first ++ clients) ++ rows) ++ columns
behind first clients rows columns =
    sym (ap (λ (l : List ℕ). l ++ columns) (append_assoc first clients rows) ∙ append_assoc first (clients ++ rows) columns)

pub returns : goal.returns
returns g c =
    let state = g.O.Output.state in
    let names = c.requires.names in
    let n = c.args.names.now in
    subst (λ (r : Report). Adds (state c.args.out.now) (state c.put_each.new.out) (report_bytes r)) names
    (subst (λ (l : List ℕ). Adds (state c.args.out.now) (state c.put_each.new.out) l)
    (behind (version_line n.version) (flat_map (client_lines n) n.clients) (flat_map (row_line n) n.rows)
    (flat_map (column_lines n) n.columns))
    (put_all (state c.args.out.now) (state c.put_version.new.out) (state c.put_each.new.out) _ _ _
    (subst (λ (r : Report). Adds (state c.args.out.now) (state c.put_version.new.out) (version_line r.version)) (sym names)
    c.put_version.ensures) c.put_each.ensures
    (subst (λ (r : Report). ArePartsOf r c.args.parts.now) (sym names) c.requires.parts)))
