-- The row of a client's next node, with whatever nodes of which the fifth rule holds.
use Rattle.std.proofs.Common.{◌≡◌, ◌∙◌, ap, sym, ℕ, ◌<◌, List, map, Some}
use Rattle.std.specs.Prelude.{slice_get}
use Rattle.std.specs.List.{All}
use Rattle.std.proofs.lemmas.List.Elements.{All-contains}
use Rattle.log_node.specs.declared.ids.Id.{Id}
use Rattle.log_node.specs.declared.ids.Colours.{Colours}
use Rattle.log_node.specs.declared.node.Node.{Node}
use Rattle.log_node.specs.declared.marks.ColourMark.{ColourMark}
use Rattle.log_node.proofs.CallerLemmas.{same_some}
use Rattle.col_core.specs.Log.{Log, IsBegunFor}
use Rattle.col_core.specs.Keeping.{Kept}
use Rattle.col_core.specs.Rows.{BegunRow, FitsRow, IsMarkOf}
use Rattle.col_core.proofs.CallerLemmas.{contains_in, in_contains, in_map, in_map-back}
use Rattle.script_text.specs.declared.script.Script.{Script}
use Rattle.report_text.specs.declared.report.Report.{Report}
use Rattle.report_text.specs.declared.report.RowReport.{RowReport}
use Rattle.lawful_run.specs.Appends.{AreSteps}
use Rattle.lawful_run.specs.Callers.{Caller, caller_of, node_of}
use Rattle.run_rules.specs.Telling.{account_of, journal_among, log_of}
use Rattle.run_rules.specs.Naming.{NamesSteps}
use Rattle.run_rules.specs.Rules.{HasOwnNodes, Rule3, with_room}
use Rattle.walk_law.specs.Fifth.{Finding, next_id}
use Rattle.walk_law.specs.Sixth.{FindsRows}
use Rattle.walk_law.specs.Third.{rows_in}
use Rattle.walk_law.proofs.NodeRows.{found_row, full, full_id, row_found}
use Rattle.walk_law.proofs.NodeRows as beside

module _ (script : Script) (report : Report) (nodes : ℕ → List Node) (third : Rule3 script (account_of script report nodes))
    (find : Finding) (finds : FindsRows report find) (n : ℕ) (home : (caller_of script n).own < script.shape.regions)
    (own : HasOwnNodes script (account_of script report nodes) n) (kept : Kept) (colours : Colours) (text : List ℕ)
    (next : slice_get (nodes n) kept.ids ≡ Some (node_of (caller_of script n) kept colours text)) where
  abbrev who : Caller
  who = caller_of script n

  abbrev its_rows : List RowReport
  its_rows = rows_in who.own report.rows

  abbrev g : RowReport → BegunRow
  g = full script report nodes

  abbrev node : Node
  node = node_of who kept colours text

  -- the row that is found is begun for the node
  pub begun_row : (r : RowReport) → find who.own (next_id who kept) ≡ Some r → IsBegunFor (log_of report nodes) node (g r)
  begun_row r found =
      let there = found_row report.rows who.own (next_id who kept) r (sym (finds who.own (next_id who kept)) ∙ found) in
      let among = contains_in (map g its_rows) (g r) (in_map-back g its_rows r there.0) in
      let of_it : r.row.client ≡ n =
      sym (beside.own_id script report nodes third who.own home r there.0) ∙ ap (λ (d : Id). d.client) there.1 in
      record {
        begun = among;
        of_node = same_some (sym (own.row_nodes (g r) among of_it)
            ∙ (ap (λ (d : Id). slice_get (nodes n) d.count) (full_id script report nodes r ∙ there.1) ∙ next));
      }

  -- it is lawful beside its columns
  pub row_fits : (r : RowReport) → find who.own (next_id who kept) ≡ Some r → FitsRow who.own (g r)
  row_fits r found =
      All-contains (FitsRow who.own) (map g its_rows) (g r) (third.lawful who.own home).fit (begun_row r found).begun

  pub marks_fit : (r : RowReport) → find who.own (next_id who kept) ≡ Some r
      → All (λ (m : ColourMark). IsMarkOf (journal_among report.columns who.own m.colour) (g r).node m.mark) r.marks
  marks_fit r found =
      All-contains (λ (b : BegunRow). All (λ (m : ColourMark). IsMarkOf (journal_among report.columns who.own m.colour) b.node m.mark) b.marks)
      (map g its_rows) (g r) (third.lawful who.own home).marks (begun_row r found).begun

  pub marks_low : (r : RowReport) → find who.own (next_id who kept) ≡ Some r
      → All (λ (m : ColourMark). m.colour < script.shape.colours) r.marks
  marks_low r found =
      All-contains (λ (b : BegunRow). All (λ (m : ColourMark). m.colour < script.shape.colours) b.marks) (map g its_rows) (g r)
      (third.marked who.own home) (begun_row r found).begun

  -- and a row that is begun for the node is found
  pub row_begun : (b : BegunRow) → IsBegunFor (log_of report nodes) node b
      → (r : RowReport) × (find who.own (next_id who kept) ≡ Some r) × (g r ≡ b)
  row_begun b is =
      let back = in_map g its_rows b (in_contains (map g its_rows) b is.begun) in (
        back.0,
        finds who.own (next_id who kept)
            ∙ row_found report.rows who.own (beside.ids_apart script report nodes third who.own home) (next_id who kept) back.0 back.1
            (sym (full_id script report nodes back.0)
            ∙ (ap (λ (x : BegunRow). x.node.id) back.2 ∙ ap (λ (x : Node). x.id) is.of_node)),
        back.2,
      )

-- what an answer names of own steps are steps of the node
pub steps_named : (log : Log) (caller : Caller) (kept : Kept) (colours : Colours) (text : List ℕ) (places : ℕ → List ℕ)
    → NamesSteps log caller kept places
    → AreSteps log (with_room caller kept) kept (node_of caller kept colours text) places
steps_named log caller kept colours text places names colour k d lt =
    let s = names colour k d lt in (s.0, s.1.0, s.1.1, s.1.2, s.1.3)
