use Rattle.std.proofs.Common.{◌≡◌, ◌∙◌, ap, sym, ℕ, ◌<◌, ◌++◌, ◌∷◌, [], List, arith, length, length-set, map, take}
use Rattle.std.proofs.Common.{get_or, get_or-set_other, subst}
use Rattle.std.specs.Prelude.{slice_index_or}
use Rattle.std.specs.List.{enumerate_from}
use Rattle.report_text.specs.declared.report.ClientReport.{ClientReport}
use Rattle.run_script.specs.EndReports.{replies_shown}
use Rattle.run_script.proofs.ClientsShown.{any_default, numbered_next, reply_shown}
use Rattle.run_script.proofs.serving.ending.client_reports.Goals as goal

within : (number : ℕ) (items names : List (List ℕ)) → number < length items → items ≡ names → number < length names
within number items names low is = subst (λ (l : List (List ℕ)). number < length l) is low

pub loop-number-preserved : goal.loop-number-preserved
loop-number-preserved c =
    let number = c.loop-number.number in
    let replies = c.loop-number.replies.items in
    let was = c.loop-number.invariant in
    let low = within number _ c.args.names.now c.loop-number-test.true c.as_slice-name-items.ensures in
    let name_is = subst (λ (l : List (List ℕ)). c.name-item.result ≡ get_or l number c.name-item.result)
    c.as_slice-name-items.ensures c.name-item.is in
    let enough = c.requires in
    let many = was.count in
    let lt : number < length replies = omega (arith, low, enough, many) in
    let mine : c.index_mut-mine.result.now ≡ slice_index_or c.args.replies.items number [] = c.index_mut-mine.ensures.value
    ∙ (any_default replies number c.index_mut-mine.result.now [] lt
    ∙ was.others number (omega arith)) in
    let lines = c.replace.ensures.value ∙ mine in
    record {
      reports_are = c.in_ok-push.ensures.ok
          ∙ (ap (λ (l : List ClientReport). l ++ record { name = c.in_ok-copied.field-0; replies = c.replace.result } ∷ [])
          was.reports_are
          ∙ (ap (λ (r : ClientReport). map (replies_shown c.args.replies.items)
          (enumerate_from 0 (take number c.args.names.now)) ++ r ∷ [])
          (reply_shown c.in_ok-copied.field-0 c.name-item.result c.replace.result
          (slice_index_or c.args.replies.items number [])
          (c.in_ok-copied.ensures ∙ c.as_bytes.ensures) lines)
          ∙ sym (numbered_next (replies_shown c.args.replies.items) c.args.names.now number c.name-item.result low
          name_is)));
      count = length-set replies number c.replace.new.dest ∙ was.count;
      others = λ m later. get_or-set_other replies number m c.replace.new.dest []
          (λ e. omega (arith, e, later)) ∙ was.others m (omega (arith, later));
    }
