use Rattle.std.proofs.Common.{◌∙◌, ℕ, List, ap, subst}
use Rattle.std.specs.List.{All}
use Rattle.column_track.specs.Tracks.{Tells}
use Rattle.walk_law.specs.Behind.{steps_untold}
use Rattle.walk_law.specs.Seventh.{IsEarlyAt}
use Rattle.walk_law.specs.Walking.{journal_walked}
use Rattle.walk_law.proofs.turn.Turn.took_no_later.Goals as goal

pub returns : goal.returns
returns c = λ kept is.
    let walked = c.args.subject.now in
    let turn = c.args.self in
    let colour = c.args.colour in
    subst (λ (r : ℕ). Tells c.are_early_at.result (All (IsEarlyAt (journal_walked walked r colour) turn.n turn.k turn.steps)
    (steps_untold walked c.args.client kept.ids colour))) c.requires.own
    (subst (λ (l : List ℕ). Tells c.are_early_at.result (All (IsEarlyAt (journal_walked walked c.args.own colour) turn.n turn.k turn.steps) l))
    (c.as_slice.ensures ∙ (c.in_ok-places.ensures
    ∙ ap (λ (k : ℕ). steps_untold walked c.args.client k colour) (c.ids.ensures ∙ is.ids)))
    c.are_early_at.ensures)
