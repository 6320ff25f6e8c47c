use Rattle.std.proofs.Common.{refl}
use Rattle.script_beside.proofs.PartLemmas.{one_cut, last_cut}
use Rattle.script_beside.proofs.cutting.cuts_of.Goals as goal
use Rattle.script_beside.proofs.cutting.cuts_of.Goals.{in-Some+in_ok-push, in_default}

pub loop-preserved : goal.loop-preserved
loop-preserved c = elim c.match-first_part.branch [
  | in-Some+in_ok-push w ↦ rw (w.cuts-is, w.rest-is, w.before-is, w.line_feeds-before.ensures.count)
      (one_cut c.args.lines.now c.loop.cuts.items w.push.new.self.items c.loop.rest.now w.in-Some.after.now c.loop.before _ c.loop.invariant refl
      w.in-Some.ensures.whole w.in-Some.ensures.ends w.in_ok-push.ensures.items)
  | in_default w ↦ rw (w.cuts-is, w.rest-is, w.before-is) c.loop.invariant
]

pub returns-clause-cuts : goal.returns-clause-cuts
returns-clause-cuts c =
    (last_cut c.args.lines.now c.loop.cuts.items c.push-2.new.self.items c.loop.rest.now c.loop.before _ c.loop.invariant refl refl c.in_ok-push-2.ensures.items).1
