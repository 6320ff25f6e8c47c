-- What is left open, and that what was helped is complete, is so at one account where it is so at one that agrees.
use Rattle.std.proofs.Common.{◌≡◌, ◌∙◌, ap, sym, subst, ℕ, ◌<◌, List, map, ◌⊎◌}
use Rattle.std.specs.Prelude.{IsTrue}
use Rattle.std.specs.List.{All, Contains}
use Rattle.std.proofs.lemmas.List.Elements.{All-contains}
use Rattle.log_node.specs.declared.ids.Id.{Id}
use Rattle.log_node.specs.declared.marks.Outcome.TheVariants.{Open}
use Rattle.log_node.specs.Standings.{Standing, open_entry}
use Rattle.col_core.specs.declared.Entry.{Entry}
use Rattle.col_core.specs.History.{entries}
use Rattle.col_core.specs.Ids.{IsStepOf}
use Rattle.col_core.specs.Rows.{BegunRow}
use Rattle.col_core.proofs.CallerLemmas.{In, in_contains, contains_in, in_map, in_map-back, all_in}
use Rattle.script_text.specs.declared.script.Script.{Script}
use Rattle.report_text.specs.declared.report.RowReport.{RowReport}
use Rattle.report_text.specs.declared.report.Report.{Report}
use Rattle.lawful_run.specs.Columns.{row_report}
use Rattle.lawful_run.specs.Lawful.{IsHelp, HasStopped, IsComplete}
use Rattle.run_rules.specs.Told.{Account}
use Rattle.run_rules.specs.Rules.{Rule8}
use Rattle.run_rules.specs.Agreeing.{Agree}

-- a row that the other log has, told alike
pub row_other : (region : ℕ) (xs ys : List BegunRow) → map (row_report region) xs ≡ map (row_report region) ys
    → (r : BegunRow) → In r xs → (s : BegunRow) × In s ys × (row_report region s ≡ row_report region r)
row_other region xs ys e r i =
    in_map (row_report region) ys (row_report region r)
    (subst (In (row_report region r)) e (in_map-back (row_report region) xs r i))

module _ (script : Script) (report : Report) (a b : Account) (agree : Agree script report a b)
    (eight : Rule8 script report b) where
  abbrev Stopped : BegunRow → Type 0
  Stopped r = r.last ≡ Open → HasStopped report r.row.client

  rows_open : (region : ℕ) → region < script.shape.regions → All Stopped (a.log.rows region)
  rows_open region lt =
      all_in Stopped (a.log.rows region) (λ r i.
      let s = row_other region (a.log.rows region) (b.log.rows region) (agree.rows region lt) r i in
      let known = All-contains Stopped (b.log.rows region) s.0 (eight.left_open.rows region lt)
      (contains_in (b.log.rows region) s.0 s.1) in
      λ open_now. subst (λ (q : ℕ). HasStopped report q) (ap (λ (q : RowReport). q.row.client) s.2)
      (known (ap (λ (q : RowReport). q.last) s.2 ∙ open_now)))

  complete : (region colour : ℕ) (e : Entry) (r : BegunRow) → region < script.shape.regions → colour < script.shape.colours
      → Contains (a.log.histories region colour) e → IsHelp e.by e.event → Contains (a.log.rows region) r
      → IsStepOf r.node.id e.event → IsComplete a.log script region r
  complete region colour e r lr lc there help begun step =
      let s = row_other region (a.log.rows region) (b.log.rows region) (agree.rows region lr) r
      (in_contains (a.log.rows region) r begun) in
      let id : s.0.node.id ≡ r.node.id = ap (λ (q : RowReport). q.id) s.2 in
      let c = eight.helped region colour e s.0 lr lc
      (subst (λ (h : List Entry). Contains h e) (agree.histories region colour (lr, lc)) there) help
      (contains_in (b.log.rows region) s.0 s.1) (subst (λ (i : Id). IsStepOf i e.event) (sym id) step) in record {
        decided = λ o. c.decided (ap (λ (q : RowReport). q.last) s.2 ∙ o);
        open_nowhere = λ k lt. ap (λ (h : List Entry). open_entry r.node.id (entries h)) (agree.histories region k (lr, lt))
            ∙ (ap (λ (i : Id). open_entry i (entries (b.log.histories region k))) (sym id) ∙ c.open_nowhere k lt);
      }

  pub eighth : Rule8 script report a
  eighth = record {
    left_open = record {
      ids = λ region colour lr lc. subst (λ (h : List Entry). All (λ (e : Standing).
          IsTrue e.settled ⊎ HasStopped report e.key.id.client) (entries h))
          (sym (agree.histories region colour (lr, lc))) (eight.left_open.ids region colour lr lc);
      rows = rows_open;
    };
    helped = complete;
  }
