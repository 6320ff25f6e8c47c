use Rattle.std.proofs.Common.{sym}
use Rattle.walk_law.specs.Finds.{decision_at}
use Rattle.object_law.proofs.DecidedSteps.{all_stand, are, has_parts, has_place, it_says}
use Rattle.object_law.proofs.decided.decision_by.Goals as goal

pub waiting-requires-clause-own : goal.waiting-requires-clause-own
waiting-requires-clause-own c =
    let may = c.agrees.ensures.may in
    let d = c.in-Decided in
    (are c.decisions_stand.ensures c.args.subject.now may.0 may.1 c.requires.keeps c.requires.differ c.args.it c.requires.it
    c.command.result.now c.command.ensures c.reply.result.now c.reply.ensures d.commits d.stamp d.sync d.read_stamp d.raises d.syncs
    d.ended d.is c.in-Some.own.now (sym (c.in-Some.ensures c.args.it.client))).within

pub waiting-requires-clause-stand : goal.waiting-requires-clause-stand
waiting-requires-clause-stand c =
    let may = c.agrees.ensures.may in
    let d = c.in-Decided in
    all_stand c.decisions_stand.ensures c.args.subject.now may.0 may.1 c.requires.keeps c.requires.differ c.args.it c.requires.it
    c.command.result.now c.command.ensures c.reply.result.now c.reply.ensures d.commits d.stamp d.sync d.read_stamp d.raises d.syncs
    d.ended d.is c.in-Some.own.now (sym (c.in-Some.ensures c.args.it.client)) c.own-region.result c.own-region.ensures.own
    (decision_at c.args.decisions.now) c.requires.below

pub returns-in_default-parts_of-clause-says : goal.returns-in_default-parts_of-clause-says
returns-in_default-parts_of-clause-says c =
    let may = c.agrees.ensures.may in
    let d = c.in-Decided in
    absurd (has_parts c.decisions_stand.ensures c.args.subject.now may.0 may.1 c.requires.keeps c.requires.differ c.args.it
    c.requires.it c.command.result.now c.command.ensures c.reply.result.now c.reply.ensures d.commits d.stamp d.sync d.read_stamp
    d.raises d.syncs d.ended d.is (sym (c.in_default-parts_of.ensures c.args.it.client)))

pub returns-in_default-place_of-clause-says : goal.returns-in_default-place_of-clause-says
returns-in_default-place_of-clause-says c =
    let may = c.agrees.ensures.may in
    let d = c.in-Decided in
    absurd (has_place c.decisions_stand.ensures c.args.subject.now may.0 may.1 c.requires.keeps c.requires.differ c.args.it
    c.requires.it c.command.result.now c.command.ensures c.reply.result.now c.reply.ensures d.commits d.stamp d.sync d.read_stamp
    d.raises d.syncs d.ended d.is c.in-Some.own.now (sym (c.in-Some.ensures c.args.it.client)) c.in_default-place_of.ensures)

pub returns-in_ok-key-in-Decided-clause-says : goal.returns-in_ok-key-in-Decided-clause-says
returns-in_ok-key-in-Decided-clause-says c =
    let may = c.agrees.ensures.may in
    let d = c.in-Decided in
    it_says c.decisions_stand.ensures c.args.subject.now may.0 may.1 c.requires.keeps c.requires.differ c.args.it c.requires.it
    c.command.result.now c.command.ensures c.reply.result.now c.reply.ensures d.commits d.stamp d.sync d.read_stamp d.raises d.syncs
    d.ended d.is c.in-Some.own.now (sym (c.in-Some.ensures c.args.it.client)) c.own-region.result c.own-region.ensures.own
    c.in-Some-place_of.place c.in-Some-place_of.ensures c.in_ok-key-in-Decided.key c.in_ok-key-in-Decided.ensures.waits
    c.key_or.result c.key_or.ensures
