use Rattle.std.proofs.Common.{◌≡◌, Some, None, refl, sym}
use Rattle.tree_fold.specs.Readings.{path_of}
use Rattle.tree_fold.proofs.PathLaws.{path_back, paths_read_as_one}
use Rattle.tree_fold.proofs.path.Path.make.Goals as goal

pub returns-in-Ok-Some-clause-ok : goal.returns-in-Ok-Some-clause-ok
returns-in-Ok-Some-clause-ok c =
    path_back c.args.bytes.now c.in-Ok-Some.path (sym (rw c.in-Ok-Some.field-0-is at c.in-Ok-Some.ensures))

pub returns-in-Ok-None-clause-cause : goal.returns-in-Ok-None-clause-cause
returns-in-Ok-None-clause-cause c = (
  refl,
  λ path has.
      let none : None ≡ path_of c.args.bytes.now = rw c.in-Ok-None.field-0-is at c.in-Ok-None.ensures in
      let some : path_of c.args.bytes.now ≡ Some path = (paths_read_as_one c.args.bytes.now path).0 has in
      absurd cc,
)
