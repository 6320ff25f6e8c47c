use Rattle.object_law.proofs.TreeKeys.{none_commits, synced_whole}
use Rattle.object_law.proofs.thirteenth.synced_object.Goals as goal

pub returns-in_default : goal.returns-in_default
returns-in_default c =
    none_commits c.args.what.now c.in_default.not-Commit c.in_default.not-Mk c.in_default.not-Rm c.in_default.not-Mv

pub returns-in-Read : goal.returns-in-Read
returns-in-Read c = synced_whole c.args.what.now c.in-Read.object c.in-Read.is
