use Rattle.std.proofs.Common.{◌≡◌, ◌∙◌, ◌+◌, ◌-◌, ◌++◌, List, [], ℕ, ap, append-nil, arith, drop, length, refl, subst, sym}
use Rattle.std.specs.List.{flat_map}
use Rattle.log_node.specs.Seen.{PlacedNode}
use Rattle.report_text.specs.declared.report.ClientReport.{ClientReport}
use Rattle.report_text.specs.declared.report.ReplyLine.{ReplyLine}
use Rattle.walk_law.specs.ShownTexts.{AreFirstTexts}
use Rattle.walk_law.proofs.ShownTextLemmas.{lines_before, lines_by_client, none_before}
use Rattle.walk_law.proofs.shown_texts.ShownTexts.of_report.Goals as goal

-- the lines of a client's replies
abbrev pub lines_of : ClientReport → List PlacedNode
lines_of c = flat_map (λ (r : ReplyLine). r.nodes) c.replies

pub loop-at-init : goal.loop-at-init
loop-at-init c =
    let clients = c.as_slice-clients.result.now in (
      omega arith,
      none_before lines_of clients [] (length clients) c.new-table.result refl c.new-table.ensures,
    )

pub loop-at-preserved : goal.loop-at-preserved
loop-at-preserved c =
    let clients = c.as_slice-clients.result.now in
    let at = c.loop-at.at - 1 in
    let low = c.loop-at.invariant.0 in
    let more = c.loop-at-test.true in
    let here : at + 1 ≡ c.loop-at.at = omega (arith, more) in
    let behind = flat_map lines_of (drop (at + 1) clients) ++ [] in (
      omega (arith, low),
      lines_before lines_of clients [] at c.index-clients-at.result c.put_replies.new.self (omega (arith, low, more)) c.index-clients-at.is
          (subst (λ (l : List ReplyLine). AreFirstTexts (flat_map (λ (r : ReplyLine). r.nodes) l ++ behind) c.put_replies.new.self)
          (c.as_slice.ensures ∙ ap (λ (x : ClientReport). x.replies) (sym c.index-clients-at.is))
          (c.in_ok-put_replies.ensures behind
          (subst (λ (n : ℕ). AreFirstTexts (flat_map lines_of (drop n clients) ++ []) c.loop-at.table) (sym here) c.loop-at.invariant.1))),
    )

pub invariant_of-result : goal.invariant_of-result
invariant_of-result c =
    let none = c.loop-at-test.false in
    let done : c.loop-at.at ≡ 0 = omega (arith, none) in
    subst (λ (l : List PlacedNode). AreFirstTexts l c.loop-at.table)
    (append-nil (flat_map lines_of c.as_slice-clients.result.now)
    ∙ (ap (λ (l : List ClientReport). flat_map lines_of l) c.as_slice-clients.ensures
    ∙ sym (lines_by_client (λ (r : ReplyLine). r.nodes) (λ (x : ClientReport). x.replies) c.args.report.now.clients)))
    (subst (λ (n : ℕ). AreFirstTexts (flat_map lines_of (drop n c.as_slice-clients.result.now) ++ []) c.loop-at.table) done
    c.loop-at.invariant.1)
