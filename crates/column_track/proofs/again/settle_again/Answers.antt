use Rattle.std.proofs.Common.{sym, ◌∙◌}
use Rattle.col_core.proofs.CallerLemmas.{if_true}
use Rattle.column_track.proofs.EventLemmas.{may_not, may_then, settles, settles_now}
use Rattle.column_track.proofs.again.settle_again.Goals as goal

pub settle-requires : goal.settle-requires
settle-requires c = may_then c.args.column.now c.args.id c.args.outcome c.args.proposed c.requires
    (sym c.may_settle.ensures ∙ c.if-not-may_settle.false)

pub returns-then-not-may_settle : goal.returns-then-not-may_settle
returns-then-not-may_settle c = λ lawful. may_not c.args.column.now c.args.id c.args.outcome c.args.proposed c.requires
    (sym c.may_settle.ensures ∙ c.if-not-may_settle.true)
    (settles c.args.column.now c.args.id c.args.outcome lawful.1)

pub returns-in-Look : goal.returns-in-Look
returns-in-Look c = λ lawful. let now = settles_now c.args.column.now c.args.id c.args.outcome
    (settles c.args.column.now c.args.id c.args.outcome lawful.1) in
    let is = sym c.in-Look.is ∙ (c.settle.ensures.answer ∙ if_true _ _ _ now) in let f : ⊥ = cc (is) in f
