use Rattle.walk_law.proofs.CauseLemmas.{cell_of, had_told}
use Rattle.walk_law.proofs.eleventh.had_no_stamp.Goals as goal

pub returns-then-seen-journal : goal.returns-then-seen-journal
returns-then-seen-journal c = λ kept is low.
    had_told c.args.subject.now c.args.client c.own-own.result c.own-own.ensures.own kept c.args.keeping.now is c.args.colour
    (cell_of c.args.subject.now.script c.agrees.ensures.may.1.fitting c.own-own.result c.args.colour c.own-own.ensures.within low)
    c.track-track.result.now c.track-track.ensures.region c.track-track.ensures.journal c.journal-journal.result.now
    c.journal-journal.ensures c.agrees-2.ensures c.seen.result c.seen.ensures c.if-seen-journal.true c.floor.result c.floor.ensures
    c.is_at_end.result c.is_at_end.ensures
