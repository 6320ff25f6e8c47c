use Rattle.std.proofs.Common.{◌≡◌, ◌+◌, ◌-◌, ◌++◌, ℕ, arith, drop, length, refl, subst, sym}
use Rattle.std.specs.List.{flat_map}
use Rattle.report_text.specs.declared.report.ReplyLine.{ReplyLine}
use Rattle.walk_law.specs.ShownTexts.{AreFirstTexts}
use Rattle.walk_law.proofs.ShownTextLemmas.{lines_before, none_before}
use Rattle.walk_law.proofs.shown_texts.TextTable.put_replies.Goals as goal

pub loop-at-init : goal.loop-at-init
loop-at-init c =
    let replies = c.args.replies.now in (
      omega arith,
      λ lines are. none_before (λ (r : ReplyLine). r.nodes) replies lines (length replies) c.args.self.now refl are,
    )

pub loop-at-preserved : goal.loop-at-preserved
loop-at-preserved c =
    let replies = c.args.replies.now in
    let at = c.loop-at.at - 1 in
    let low = c.loop-at.invariant.0 in
    let more = c.loop-at-test.true in
    let here : at + 1 ≡ c.loop-at.at = omega (arith, more) in (
      omega (arith, low),
      λ lines are. lines_before (λ (r : ReplyLine). r.nodes) replies lines at c.index-replies-at.result c.put_reply.new.self
          (omega (arith, low, more)) c.index-replies-at.is
          (c.in_ok-put_reply.ensures (flat_map (λ (r : ReplyLine). r.nodes) (drop (at + 1) replies) ++ lines)
          (subst (λ (n : ℕ). AreFirstTexts (flat_map (λ (r : ReplyLine). r.nodes) (drop n replies) ++ lines) c.loop-at.self) (sym here)
          (c.loop-at.invariant.1 lines are))),
    )

pub returns : goal.returns
returns c = λ lines are.
    let none = c.loop-at-test.false in
    let done : c.loop-at.at ≡ 0 = omega (arith, none) in
    subst (λ (n : ℕ). AreFirstTexts (flat_map (λ (r : ReplyLine). r.nodes) (drop n c.args.replies.now) ++ lines) c.loop-at.self) done
    (c.loop-at.invariant.1 lines are)
