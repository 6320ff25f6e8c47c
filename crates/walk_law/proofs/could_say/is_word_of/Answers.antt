use Rattle.std.proofs.Common.{◌≡◌, ◌++◌, List, ℕ, subst}
use Rattle.column_track.specs.Tracks.{Tells}
use Rattle.walk_law.proofs.FrontLemmas.{behind_told}
use Rattle.walk_law.proofs.could_say.is_word_of.Goals as goal

pub returns-in-Some : goal.returns-in-Some
returns-in-Some c =
    subst (λ (l : List ℕ). Tells c.is_text.result (c.args.text.now ≡ c.args.front.now ++ l)) c.as_bytes.ensures
    (behind_told c.args.front.now c.as_bytes.result.now c.args.text.now c.in-Some.rest.now c.is_text.result c.in-Some.ensures
    c.is_text.ensures)
