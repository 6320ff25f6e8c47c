use Rattle.std.proofs.Common.{ap, drop, sym}
use Rattle.chain_store.proofs.CopyKept.{logged, at_err, at_ok}
use Rattle.chain_store.proofs.read_view.publish.log_news.Goals as goal

pub returns-then-is_err-clause-kept : goal.returns-then-is_err-clause-kept
returns-then-is_err-clause-kept c =
    let w = c.args.writer.now in
    let v = c.append.new.self in
    at_err c.append.result _ _ (sym c.if-is_err.ensures.value)
    (logged c.append.result w.desk.shown.value v.desk.shown.value (drop w.behind w.log.items) (drop v.behind v.log.items)
    c.args.pass.now c.args.cut c.args.news c.requires.kept c.requires.news (ap (λ d. d.shown.value) c.append.ensures.desk)
    c.append.ensures.pending)

pub returns-clause-kept : goal.returns-clause-kept
returns-clause-kept c =
    let w = c.args.writer.now in
    let v = c.append.new.self in
    at_ok c.append.result _ _ (sym c.if-is_err.ensures.value)
    (logged c.append.result w.desk.shown.value v.desk.shown.value (drop w.behind w.log.items) (drop v.behind v.log.items)
    c.args.pass.now c.args.cut c.args.news c.requires.kept c.requires.news (ap (λ d. d.shown.value) c.append.ensures.desk)
    c.append.ensures.pending)
