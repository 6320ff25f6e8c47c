use Rattle.std.proofs.Common.{Bool, sym, subst}
use Rattle.std.specs.Option.{option_copied}
use Rattle.column_track.specs.Tracks.{Tells}
use Rattle.run_rules.specs.Answering.{CanHave}
use Rattle.walk_law.specs.Answered.{CanBeAnswered, MayShow}
use Rattle.walk_law.proofs.Members.{ok_as}
use Rattle.walk_law.proofs.CanTold.{can_told, may_show}
use Rattle.walk_law.proofs.can_have.can_have.Goals as goal

pub returns-then-not-may_show : goal.returns-then-not-may_show
returns-then-not-may_show c = λ caller kept at is h.
    let none : Tells c.may_show.result (MayShow c.args.nodes.now c.args.answer.now) = c.may_show.ensures in
    (subst (λ (b : Bool). Tells b (MayShow c.args.nodes.now c.args.answer.now)) c.if-not-may_show.true none)
    (may_show caller kept c.args.what.now c.args.nodes.now c.args.answer.now h)

pub returns : goal.returns
returns c = λ caller kept at is.
    let what = c.args.what.now in
    let nodes = c.args.nodes.now in
    let answer = c.args.answer.now in
    let kind = option_copied c.kind_asked.result in
    let may = subst (λ (b : Bool). Tells b (MayShow nodes answer)) c.if-not-may_show.false c.may_show.ensures in
    ok_as c.can_be_answered.result (CanBeAnswered kind what c.args.asked.now answer) (CanHave caller kept what nodes answer)
    (λ b told. can_told caller kept what nodes answer kind c.args.asked.now (sym (c.kind_asked.ensures.kind caller at)) is
    c.kind_asked.ensures.low may b told) c.can_be_answered.ensures
