use Rattle.std.proofs.Common.{Some, IfSome, subst}
use Rattle.std.proofs.lemmas.Option.{get_or_from_slice_get, slice_get_within}
use Rattle.std.specs.declared.option.Option.{Option}
use Rattle.script_beside.specs.declared.part.ReadPart.{ReadPart}
use Rattle.script_beside.specs.Parts.{IsRead}
use Rattle.script_beside.proofs.PartLemmas.{all_read}
use Rattle.script_beside.proofs.part.read_parts.Goals as goal

pub returns : goal.returns
returns g c =
    let header = c.args.header.now in
    all_read header c.args.cuts.now c.map_indices.result c.map_indices.ensures.len (λ parts each n cut part at there.
    subst (λ (read : Option ReadPart). IfSome read (IsRead header cut)) (get_or_from_slice_get parts.items n (Some part) (Some part) there)
    ((each n (Some part) (slice_get_within c.args.cuts.now n cut at)).1.met cut at)) c.map_indices.ensures.each
