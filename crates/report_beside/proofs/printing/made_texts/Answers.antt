use Rattle.std.proofs.Common.{subst}
use Rattle.std.proofs.lemmas.Option.{get_or_from_slice_get, slice_get_within}
use Rattle.std.proofs.lemmas.Result.{IfOk-weaker}
use Rattle.report_beside.specs.Made.{IsMade}
use Rattle.report_beside.specs.Parts.{part_text}
use Rattle.report_beside.proofs.printing.made_texts.Goals as goal

pub returns : goal.returns
returns g c =
    IfOk-weaker c.map_indices.result _ _ (λ texts each n part one at there.
    subst (IsMade (part_text c.args.names.now part)) (get_or_from_slice_get texts.items n one one there)
    ((each n one (slice_get_within c.args.parts.now n part at)).1.met part at)) c.map_indices.ensures.each
