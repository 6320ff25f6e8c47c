-- Which rules a report keeps of an append to two colours that stood, with another row; and an outcome that breaks the third.
use Rattle.std.proofs.Common.{◌≡◌, ℕ, zero, suc, ◌<◌, [], ◌∷◌, length, map, take, Some, inl, refl, ap, subst, arith}
use Rattle.std.specs.Prelude.{◌≢◌, slice_get}
use Rattle.std.specs.List.{AllPairs}
use Rattle.std.specs.List.Sorted.{IsNonDecreasing}
use Rattle.std.proofs.lemmas.List.Elements.{All-nil, All-contains}
use Rattle.log_node.specs.declared.marks.ColourMark.{ColourMark}
use Rattle.log_node.specs.declared.marks.Mark.TheVariants as marks
use Rattle.log_node.specs.declared.marks.Outcome.{Outcome}
use Rattle.log_node.specs.declared.marks.Outcome.TheVariants.{Final}
use Rattle.log_node.specs.Outcomes.{final_number}
use Rattle.col_core.specs.declared.Entry.{Entry}
use Rattle.col_core.specs.Computed.{dated}
use Rattle.col_core.specs.Cuts.{Dated}
use Rattle.col_core.specs.Legal.{IsColumnHistory, IsLawfulEvent}
use Rattle.col_core.specs.Rows.{BegunRow, FitsMarks}
use Rattle.col_core.proofs.CallerLemmas.{cut-is_greatest}
use Rattle.script_text.specs.declared.script.Script.{Script}
use Rattle.report_text.specs.declared.report.ClientReport.{ClientReport}
use Rattle.report_text.specs.declared.report.ColumnReport.{ColumnReport}
use Rattle.report_text.specs.declared.report.Report.{Report}
use Rattle.report_text.specs.declared.report.RowReport.{RowReport}
use Rattle.lawful_run.specs.Callers.{caller_of, commands_of}
use Rattle.run_rules.specs.Told.{Account, IsTold, OfEachStep}
use Rattle.run_rules.specs.Telling.{account_of}
use Rattle.run_rules.specs.Rules.{Rule1, Rule2, IsReplyTo, IsNamed, IsLawfulColumn}
use Rattle.run_rules.specs.Keeping.{Keeps, one, two}
use Rattle.run_rules.proofs.CallerLemmas.{reports_tell, rule3}
use Rattle.wrong_reports.specs.Cases.{a, e, x, y, id}
use Rattle.wrong_reports.specs.Rows.{row, complete, has_rows, an_outcome_of_other_marks}
use Rattle.least_rules.specs.Breaking.{Breaks}
use Rattle.least_rules.proofs.Lists.{some_same}
use Rattle.least_rules.proofs.Tools.{breaks_next}
use Rattle.least_rules.proofs.Alone.{one_of, two_of}
use Rattle.least_rules.proofs.OneRow.{row_there}

-- a column in which the node was proposed and settled is lawful
legal_complete : (colour : ℕ) → IsColumnHistory 0 1 (dated 0 (complete colour).journal)
legal_complete colour zero d there =
    subst (λ (t : Dated). IsLawfulEvent 0 1 [] t.entry.event t.entry.stamp) (some_same _ d there)
    (record { fresh = refl; stamped = refl; in_range = omega arith })
legal_complete colour (suc zero) d there =
    subst (λ (t : Dated). IsLawfulEvent 0 1 (take 1 (dated 0 (complete colour).journal)) t.entry.event t.entry.stamp)
    (some_same _ d there) (refl, (omega arith, omega arith))
legal_complete colour (suc (suc n)) d there = absurd (let f : ⊥ = cc (there) in f)

module _ (last : Outcome) where
  abbrev shown : RowReport
  shown = row e a 0 (id a 0) (marks.Number 1) (marks.Number 1) last

  abbrev s : Script
  s = (has_rows (shown ∷ [])).script

  abbrev r : Report
  r = (has_rows (shown ∷ [])).report

  abbrev its : Account
  its = account_of s r (λ _. [])

  its_told : IsTold s r its
  its_told = reports_tell s r (λ _. []) (record { replied = replied; apart = apart; rows = refl }) where
    replied : (n : ℕ) (c : ClientReport) → slice_get r.clients n ≡ Some c → length (commands_of s n) ≡ length c.replies
    replied zero c there = ap (λ (z : ClientReport). length z.replies) (some_same _ c there)
    replied (suc zero) c there = ap (λ (z : ClientReport). length z.replies) (some_same _ c there)
    replied (suc (suc n)) c there = absurd (let f : ⊥ = cc (there) in f)

    apart : AllPairs (λ (c d : ColumnReport). c.region ≡ d.region → c.colour ≢ d.colour) r.columns
    apart zero zero d lt within = absurd (let f : ⊥ = omega (arith, lt) in f)
    apart zero (suc zero) d lt within = λ same other. let f : ◌≡◌ {A = ℕ} 0 1 = other in omega (arith, f)
    apart zero (suc (suc j)) d lt within = absurd (let f : ⊥ = omega (arith, within) in f)
    apart (suc i) zero d lt within = absurd (let f : ⊥ = omega (arith, lt) in f)
    apart (suc i) (suc j) d lt within = absurd (let f : ⊥ = omega (arith, lt, within) in f)

  rule1_of : Rule1 s r its
  rule1_of = record {
    version = refl;
    names = refl;
    replies = replies;
    columns = refl;
    named = two_of (IsNamed s) (complete x) (complete y) (record { region = refl; colour = refl })
        (record { region = refl; colour = refl });
    by_client = by_client;
  } where
    replies : OfEachStep s r its IsReplyTo
    replies zero c there = one_of (IsReplyTo (caller_of s 0)) _
        (record { line = refl; word = refl; answer = (refl, inl refl, (refl, omega arith)) })
    replies (suc zero) c there = All-nil (IsReplyTo (caller_of s 1))
    replies (suc (suc n)) c there = absurd (let f : ⊥ = cc (there) in f)

    by_client : (region : ℕ) → region < 1
        → IsNonDecreasing (map (λ (z : BegunRow). z.row.client) (its.log.rows region))
    by_client zero lt zero zero d le within = omega arith
    by_client zero lt zero (suc j) d le within = absurd (let f : ⊥ = omega (arith, within) in f)
    by_client zero lt (suc i) j d le within = absurd (let f : ⊥ = omega (arith, le, within) in f)
    by_client (suc region) lt i j d le within = absurd (let f : ⊥ = omega (arith, lt) in f)

  lawful_complete : (colour : ℕ) → IsLawfulColumn s (complete colour)
  lawful_complete colour = record {
    legal = legal_complete colour;
    makers = two_of (λ (z : Entry). z.by < 2) _ _ (omega arith) (omega arith);
    closing = record {
      clock_shown = refl;
      line_shown = refl;
      queue_shown = refl;
      cut_shown = cut-is_greatest 0 (dated 0 (complete colour).journal);
      base_shown = refl;
    };
  }

  rule2_of : Rule2 s r
  rule2_of = record {
    each = two_of (IsLawfulColumn s) (complete x) (complete y) (lawful_complete x) (lawful_complete y);
  }

  keeps_2 : Keeps s r 2
  keeps_2 = (its, its_told, ((tt, one rule1_of), two rule2_of))

pub other_outcome : Breaks an_outcome_of_other_marks 3
other_outcome = breaks_next an_outcome_of_other_marks 2 (omega arith) (omega arith) (keeps_2 (Final 2))
    (λ keeps.
    let z = row_there an_outcome_of_other_marks (shown (Final 2)) refl refl keeps.0 keeps.1 in
    let fits = All-contains (λ (w : BegunRow). FitsMarks (map (λ (m : ColourMark). m.mark) w.marks) w.last)
    (keeps.0.log.rows 0) z.0 ((rule3 keeps.2.1).lawful 0 (omega arith)).outcomes z.1 in
    let is = subst (λ (w : RowReport). FitsMarks (map (λ (m : ColourMark). m.mark) w.marks) w.last) z.2 fits in
    let f : 1 ≡ 2 = ap final_number is in omega (arith, f))
