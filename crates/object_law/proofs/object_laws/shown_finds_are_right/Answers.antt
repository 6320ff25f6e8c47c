use Rattle.object_law.proofs.ShownFinds.{shown_finds_are_right}
use Rattle.object_law.proofs.object_laws.shown_finds_are_right.Goals as goal

pub returns : goal.returns
returns c =
    shown_finds_are_right c.finds_tell.ensures c.computed_account_agrees.ensures c.showing_is_found.ensures
    c.computed_finds_are_right.ensures c.decisions_are_plain.ensures
