use Rattle.std.proofs.Common.{◌≡◌, List, ℕ, refl, subst, sym, ◌∙◌}
use Rattle.log_client.specs.Objects.{HasColoursOf}
use Rattle.run_script.proofs.ObjectFrames.{map_colours}
use Rattle.run_script.proofs.serving.opened.open_parts.Goals as goal

pub returns-clause-unfolded : goal.returns-clause-unfolded
returns-clause-unfolded c = (
  refl,
  λ client regions few within.
      let one = c.open-players.ensures in
      let all = c.open-map.ensures in
      let colours : c.open-players.result.colours ≡ c.open-map.result.colours =
      one.of.1 ∙ (c.in_ok-copied.ensures ∙ (sym c.in_ok-copied-2.ensures ∙ sym all.of.1)) in
      let are = map_colours client regions c.open-map.result.home c.open-map.result.colours few within in (
        all.map client (subst (HasColoursOf client) all.of.1 are),
        tt,
        (
          one.players client (subst (HasColoursOf client) (sym colours ∙ one.of.1) are),
          one.of.0 ∙ sym all.of.0,
          colours,
        ),
      ),
)
