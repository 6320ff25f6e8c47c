use Rattle.lawful_run.specs.Callers.{caller_of}
use Rattle.walk_law.proofs.FirstLemmas.{low_objects}
use Rattle.walk_law.proofs.keeping.Keeping.asked.Goals as goal
use Rattle.walk_law.specs.Asking.{HaveLowColours}
use Rattle.std.proofs.Common.{◌∙◌, ap, subst, sym}
use Rattle.script_text.specs.declared.script.Script.{Script}

pub colours_asked-requires : goal.colours_asked-requires
colours_asked-requires c =
    subst HaveLowColours (sym (c.as_slice-objects.ensures ∙ ap (λ (s : Script). s.objects) c.script.ensures))
    (low_objects c.args.subject.now.script c.tracks-may.ensures.fitting)

pub returns : goal.returns
returns c = λ kept is.
    c.colours_asked.ensures (caller_of c.args.subject.now.script c.args.client) kept
    (sym (c.as_slice-objects.ensures ∙ ap (λ (s : Script). s.objects) c.script.ensures))
    (c.found_of-found.ensures kept is)
