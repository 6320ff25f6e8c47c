use Rattle.std.proofs.Common.{◌≡◌, ◌∙◌, ◌&&◌, ◌||◌, ◌==◌, ℕ, List, ap, arith, get_or, length, refl, subst}
use Rattle.std.proofs.lemmas.Option.{slice_get_read}
use Rattle.report_text.specs.declared.report.ClientReport.{ClientReport}
use Rattle.report_text.specs.declared.report.ReplyLine.{ReplyLine}
use Rattle.lawful_run.specs.Callers.{caller_of, commands_of}
use Rattle.run_rules.specs.Printed.{printed_all}
use Rattle.run_rules.specs.Telling.{is_among}
use Rattle.walk_law.specs.PlaceTables.{is_printed}
use Rattle.walk_law.proofs.PrintLemmas.{one_client, prints_all, prints_none}
use Rattle.walk_law.proofs.printed.Printed.of_report.Goals as goal

pub loop-client-init : goal.loop-client-init
loop-client-init c = prints_none c.args.script.now c.args.report.now c.new-printed.result c.new-printed.ensures

pub loop-client-preserved : goal.loop-client-preserved
loop-client-preserved c =
    let script = c.args.script.now in
    let clients = c.args.report.now.clients in
    let n = c.loop-client.client in
    let shown = c.index-clients-client.result in
    let less = c.loop-client-test.true in
    let count = c.client_count-client-end.ensures in
    let is = c.index-clients-client.is ∙ ap (λ (l : List ClientReport). get_or l n shown) c.as_slice-clients.ensures in
    one_client script c.args.report.now n shown c.loop-client.printed c.add_client.new.self
    (slice_get_read clients (length clients) n shown refl (omega (arith, less, count)) is)
    (subst (λ (l : List ReplyLine). (k r p q : ℕ) → is_printed c.add_client.new.self k r p q
    ≡ ((n == k) && is_among q (printed_all (caller_of script n).own (commands_of script n) l r p) || is_printed c.loop-client.printed k r p q))
    c.as_slice-replies.ensures c.in_ok-add_client.ensures)
    c.loop-client.invariant

pub returns : goal.returns
returns c =
    let ge = c.loop-client-test.false in
    let count = c.client_count-client-end.ensures in
    let many = c.requires.clients in
    prints_all c.args.script.now c.args.report.now c.loop-client.client c.loop-client.printed (omega (arith, ge, count, many))
    c.loop-client.invariant
