use Rattle.std.proofs.Common.{◌∙◌, subst, sym}
use Rattle.lawful_run.specs.Callers.{caller_of}
use Rattle.column_track.specs.Tracks.{Tells}
use Rattle.walk_law.specs.Fifth.{next_id}
use Rattle.walk_law.specs.Seventh.{IsClosed, opening_in}
use Rattle.walk_law.specs.Walking.{journal_walked}
use Rattle.walk_law.proofs.SeventhLemmas.{closed_told}
use Rattle.walk_law.proofs.seventh.Stopping.is_closed.Goals as goal

pub returns : goal.returns
returns c = λ kept is.
    let caller = caller_of c.args.subject.now.script c.args.client in
    let colour = c.args.mark.colour in
    let opens = opening_in c.args.self.now.open.items c.args.subject.now.script.shape.colours caller.own colour (next_id caller kept) in
    let history = journal_walked c.args.subject.now caller.own colour in
    subst (λ b. Tells b (IsClosed opens history (next_id caller kept) c.args.mark.mark)) (sym c.is_some.ensures)
    (closed_told opens history (next_id caller kept) c.args.mark.mark (sym (c.is_open.ensures kept is) ∙ c.if-is_open.false)
    c.if-is_fence.ensures c.next_place.result (c.next_place.ensures kept is))
