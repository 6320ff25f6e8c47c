use Rattle.std.proofs.Common.{◌≡◌, ◌∙◌, ap, sym, ℕ, ◌≤◌, ◌<◌, ◌++◌, ◌∷◌, [], List, arith, length, length-set, map, take}
use Rattle.std.proofs.Common.{get_or, get_or-set_other, subst}
use Rattle.std.specs.List.{enumerate_from}
use Rattle.report_text.specs.declared.report.ClientReport.{ClientReport}
use Rattle.report_text.specs.declared.report.ReplyLine.{ReplyLine}
use Rattle.script_in_order.specs.Runs.{RepliesView, replies_at, no_replies}
use Rattle.script_in_order.specs.Reports.{client_shown}
use Rattle.script_in_order.proofs.RunReplies.{any_default}
use Rattle.script_in_order.proofs.ListsShown.{numbered_more}
use Rattle.script_in_order.proofs.reports.client_reports.Goals as goal

below : (number names n m : ℕ) → number < names → names ≤ m → n ≡ m → number < n
below number names n m lt le e = omega (arith, lt, le, e)

shown : (name name' : List ℕ) (replies replies' : List ReplyLine) → name ≡ name' → replies ≡ replies'
    → (let r : ClientReport = record { name = name; replies = replies } in r)
    ≡ record { name = name'; replies = replies' }
shown name name' replies replies' e f = cc

within : (number : ℕ) (items names : List (List ℕ)) → number < length items → items ≡ names → number < length names
within number items names low is = subst (λ (l : List (List ℕ)). number < length l) is low

pub index_mut-mine-requires : goal.index_mut-mine-requires
index_mut-mine-requires c =
    let ok = c.loop-number.replies.ok in
    let lt = below c.loop-number.number (length c.args.names.now) (length c.loop-number.replies.items)
    (length c.args.replies.items)
    (within c.loop-number.number _ c.args.names.now c.loop-number-test.true c.as_slice-name-items.ensures) c.requires
    c.loop-number.invariant.count in
    omega (arith, ok, lt)

pub loop-number-preserved : goal.loop-number-preserved
loop-number-preserved c =
    let number = c.loop-number.number in
    let replies = c.loop-number.replies.items in
    let was = c.loop-number.invariant in
    let low = within number _ c.args.names.now c.loop-number-test.true c.as_slice-name-items.ensures in
    let name_is = subst (λ (l : List (List ℕ)). c.name-item.result ≡ get_or l number c.name-item.result)
    c.as_slice-name-items.ensures c.name-item.is in
    let lt = below number (length c.args.names.now) (length replies) (length c.args.replies.items) low c.requires
    was.count in
    let mine = c.index_mut-mine.ensures.value
    ∙ (any_default replies number c.index_mut-mine.result.now (no_replies 0 0) lt
    ∙ was.others number (omega arith)) in
    let lines = c.take.ensures ∙ ap (λ (x : RepliesView). x.lines) mine in
    record {
      reports_are = c.in_ok-push.ensures.ok
          ∙ (ap (λ (l : List ClientReport). l ++ record { name = c.in_ok-copied.field-0; replies = c.take.result } ∷ [])
          was.reports_are
          ∙ (ap (λ (r : ClientReport). map (client_shown c.args.replies.items)
          (enumerate_from 0 (take number c.args.names.now)) ++ r ∷ [])
          (shown c.in_ok-copied.field-0 c.name-item.result c.take.result (replies_at c.args.replies.items number).lines
          (c.in_ok-copied.ensures ∙ c.as_bytes.ensures) lines)
          ∙ sym (numbered_more (client_shown c.args.replies.items) c.args.names.now number c.name-item.result low
          name_is)));
      count = length-set replies number c.take.new.self ∙ was.count;
      others = λ m later. get_or-set_other replies number m c.take.new.self (no_replies 0 0)
          (λ e. omega (arith, e, later)) ∙ was.others m (omega (arith, later));
    }
