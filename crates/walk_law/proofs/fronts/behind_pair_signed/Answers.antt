use Rattle.std.proofs.Common.{[], ◌∷◌}
use Rattle.std.specs.Option.{option_copied}
use Rattle.object_form.specs.Forms.{comma, pair_text}
use Rattle.walk_law.proofs.FrontLemmas.{behind_both, gives_none}
use Rattle.walk_law.proofs.fronts.behind_pair_signed.Goals as goal

pub returns-in_err-behind_pair : goal.returns-in_err-behind_pair
returns-in_err-behind_pair c =
    gives_none (pair_text c.args.pair.now) (comma ∷ []) c.args.bytes.now c.from_residual.result c.from_residual.ensures
    c.in_err-behind_pair.ensures

pub returns : goal.returns
returns c =
    behind_both (pair_text c.args.pair.now) (comma ∷ []) c.args.bytes.now c.in_ok-behind_pair.field-0.now
    (option_copied c.behind.result) c.in_ok-behind_pair.ensures c.behind.ensures
