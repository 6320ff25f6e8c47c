use Rattle.std.proofs.Common.{◌≡◌, ◌∙◌, ap, List, ℕ, IfOk, subst}
use Rattle.std.specs.Prelude.{slice_get}
use Rattle.std.specs.Option.{option_map}
use Rattle.script_text.specs.declared.script.Object.{Object}
use Rattle.script_text.specs.declared.script.Script.{Script}
use Rattle.lawful_run.specs.Asks.{object_colours}
use Rattle.walk_law.specs.Asking.{HaveLowColours, all_of}
use Rattle.walk_law.proofs.CallerLemmas.{low_objects}
use Rattle.object_law.proofs.TreeKeys.{used_low}
use Rattle.object_law.proofs.tree_play.tree_colours.Goals as goal

pub all_colours-requires : goal.all_colours-requires
all_colours-requires c =
    used_low c.args.subject.now.script c.agrees.ensures.may.1.fitting c.args.object c.colours_used.result.now
    (c.colours_used.ensures ∙ ap (λ (s : Script). object_colours (option_map (λ (o : Object). o.kind) (slice_get s.objects c.args.object))) c.script.ensures)

pub returns : goal.returns
returns c =
    subst (λ (own : List ℕ). IfOk c.all_colours.result (λ colours. colours ≡ all_of own))
    (c.colours_used.ensures ∙ ap (λ (s : Script). object_colours (option_map (λ (o : Object). o.kind) (slice_get s.objects c.args.object))) c.script.ensures)
    c.all_colours.ensures
