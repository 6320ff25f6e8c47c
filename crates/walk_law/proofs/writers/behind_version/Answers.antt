use Rattle.std.proofs.Common.{[], ◌∷◌, ◌++◌, Some, None}
use Rattle.std.specs.Option.{option_copied}
use Rattle.walk_law.specs.TextsSaid.{IsWriterThen}
use Rattle.walk_law.proofs.FrontLemmas.{Just, behind_just, gives_no_one, one_both}
use Rattle.walk_law.proofs.WriterLemmas.{version_as}
use Rattle.walk_law.proofs.writers.behind_version.Goals as goal

pub returns-in_err-behind_signed : goal.returns-in_err-behind_signed
returns-in_err-behind_signed c =
    let front = c.args.key.now ++ 64 ∷ [] in
    let bytes = c.args.bytes.now in
    version_as c.args.key.now c.args.sign bytes (option_copied c.from_residual.result)
    (gives_no_one (Just front) (IsWriterThen c.args.sign) bytes c.from_residual.result c.from_residual.ensures
    (behind_just front bytes None c.in_err-behind_signed.ensures))

pub returns : goal.returns
returns c =
    let front = c.args.key.now ++ 64 ∷ [] in
    let bytes = c.args.bytes.now in
    let rest = c.in_ok-behind_signed.field-0.now in
    version_as c.args.key.now c.args.sign bytes (option_copied c.behind_writer.result)
    (one_both (Just front) (IsWriterThen c.args.sign) bytes rest (option_copied c.behind_writer.result)
    (behind_just front bytes (Some rest) c.in_ok-behind_signed.ensures) c.behind_writer.ensures)
