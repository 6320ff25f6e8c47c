use Rattle.std.proofs.Common.{◌≡◌, ◌≤◌, ℕ, List, length, refl, subst, sym, ◌∙◌}
use Rattle.log_node.specs.declared.limits.TheConstants.{MAX_COLOURS}
use Rattle.script_text.specs.Apart.{colours_of}
use Rattle.script_text.specs.declared.script.Kind.{Kind}
use Rattle.log_client.specs.Objects.{HasColoursOf}
use Rattle.run_script.proofs.ObjectFrames.{map_colours, one_colour}
use Rattle.run_script.proofs.serving.opened.open.Goals as goal

pub returns-in_ok-again-in-Map-clause-unfolded : goal.returns-in_ok-again-in-Map-clause-unfolded
returns-in_ok-again-in-Map-clause-unfolded c = (
  refl,
  λ client regions few within.
      let one = c.open-single.ensures in
      let all = c.open-several.ensures in
      let copy : c.in_ok-copy-in-Map.copy ≡ c.in-Map.colours = c.in_ok-copy-in-Map.ensures ∙ c.as_slice.ensures in
      let again : c.in_ok-again-in-Map.again ≡ c.in-Map.colours = c.in_ok-again-in-Map.ensures ∙ c.as_slice-in-Map.ensures in
      let home : c.open-single.result.home ≡ c.in-Map.home = one.of.0 in
      let its_home : c.open-several.result.home ≡ c.in-Map.home = all.of.0 in
      let colours : c.open-single.result.colours ≡ c.in-Map.colours = one.of.1 ∙ copy in
      let its_colours : c.open-several.result.colours ≡ c.in-Map.colours = all.of.1 ∙ again in
      let are = map_colours client regions c.open-single.result.home c.open-single.result.colours few within in (
        one.map client (subst (HasColoursOf client) one.of.1 are),
        all.map client (subst (HasColoursOf client) (colours ∙ sym again) are),
        its_home ∙ sym home,
        its_colours ∙ sym colours,
      ),
)

pub returns-in-Causal-clause-unfolded : goal.returns-in-Causal-clause-unfolded
returns-in-Causal-clause-unfolded c = (
  refl,
  λ client regions few within.
      let e = c.open-map.ensures in
      let one = one_colour client c.open-map.result.colour c.in-Causal.colour e.of few within in
      e.map client one.0 one.1,
)

pub returns-in-Queue-clause-unfolded : goal.returns-in-Queue-clause-unfolded
returns-in-Queue-clause-unfolded c = (
  refl,
  λ client regions few within.
      let e = c.open-queue.ensures in
      let one = one_colour client c.open-queue.result.colour c.in-Queue.colour e.of.1 few within.1 in
      e.queue client one.0 one.1,
)

pub returns-in_ok-copy-in-Tree-clause-unfolded : goal.returns-in_ok-copy-in-Tree-clause-unfolded
returns-in_ok-copy-in-Tree-clause-unfolded c = (
  refl,
  λ client regions few within.
      let e = c.open-tree.ensures in
      e.tree client (subst (HasColoursOf client) e.of.1
      (map_colours client regions c.open-tree.result.home c.open-tree.result.colours few within)),
)

pub open_parts-requires : goal.open_parts-requires
open_parts-requires c =
    subst (λ (l : List ℕ). length l ≤ MAX_COLOURS) (sym c.as_slice-in-Parts.ensures)
    (subst (λ (k : Kind). length (colours_of k) ≤ MAX_COLOURS) c.in-Parts.is c.requires)
