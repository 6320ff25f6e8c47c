use Rattle.std.proofs.Common.{◌≡◌, ◌+◌, ◌-◌, ◌++◌, List, ℕ, arith, drop, length, subst, sym}
use Rattle.std.proofs.lemmas.List.{drop_all}
use Rattle.log_node.specs.Seen.{PlacedNode}
use Rattle.walk_law.specs.ShownTexts.{AreFirstTexts}
use Rattle.walk_law.proofs.ShownTextLemmas.{line_before}
use Rattle.walk_law.proofs.shown_texts.TextTable.put_reply.Goals as goal

pub loop-at-init : goal.loop-at-init
loop-at-init c =
    let items = c.as_slice-items.result.now in (
      omega arith,
      λ lines are. subst (λ (l : List PlacedNode). AreFirstTexts (l ++ lines) c.args.self.now)
          (sym (drop_all (length items) items (omega arith))) are,
    )

pub loop-at-preserved : goal.loop-at-preserved
loop-at-preserved c =
    let items = c.as_slice-items.result.now in
    let at = c.loop-at.at - 1 in
    let low = c.loop-at.invariant.0 in
    let more = c.loop-at-test.true in
    let here : at + 1 ≡ c.loop-at.at = omega (arith, more) in (
      omega (arith, low),
      λ lines are. line_before items lines at c.index-items-at.result c.loop-at.self c.put.new.self (omega (arith, low, more))
          c.index-items-at.is c.in_ok-put.ensures
          (subst (λ (n : ℕ). AreFirstTexts (drop n items ++ lines) c.loop-at.self) (sym here) (c.loop-at.invariant.1 lines are)),
    )

pub returns : goal.returns
returns c = λ lines are.
    let none = c.loop-at-test.false in
    let done : c.loop-at.at ≡ 0 = omega (arith, none) in
    subst (λ (l : List PlacedNode). AreFirstTexts (l ++ lines) c.loop-at.self) c.as_slice-items.ensures
    (subst (λ (n : ℕ). AreFirstTexts (drop n c.as_slice-items.result.now ++ lines) c.loop-at.self) done (c.loop-at.invariant.1 lines are))
