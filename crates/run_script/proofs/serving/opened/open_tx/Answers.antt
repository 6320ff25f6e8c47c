use Rattle.std.proofs.Common.{refl, subst}
use Rattle.log_client.specs.Objects.{HasColoursOf}
use Rattle.run_script.proofs.ObjectFrames.{map_colours}
use Rattle.run_script.proofs.serving.opened.open_tx.Goals as goal

pub returns-clause-unfolded : goal.returns-clause-unfolded
returns-clause-unfolded c = (
  refl,
  λ client regions few within.
      let e = c.open-map.ensures in (
        e.map client (subst (HasColoursOf client) e.of.1
            (map_colours client regions c.open-map.result.home c.open-map.result.colours few within)),
        tt,
        tt,
      ),
)
