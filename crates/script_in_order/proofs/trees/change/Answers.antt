use Rattle.std.proofs.Common.{Option, subst}
use Rattle.std.specs.Prelude.{IfSome}
use Rattle.tree_fold.specs.declared.change.Change.{Change}
use Rattle.tree_fold.specs.Changes.{IsChange}
use Rattle.world_code.specs.WorldView.{world_of}
use Rattle.script_in_order.proofs.TreeSteps.{changed_by, none_changed}
use Rattle.script_in_order.proofs.trees.change.Goals as goal

pub change_so-requires-clause-may : goal.change_so-requires-clause-may
change_so-requires-clause-may c = subst (λ (o : Option Change). IfSome o IsChange) c.in-Some.is c.requires.may

pub returns-in-None-clause-ok : goal.returns-in-None-clause-ok
returns-in-None-clause-ok c =
    none_changed c.args.objects.now c.args.command.now c.args.object c.args.said (world_of c.args.world.now) c.in-None.is

pub returns-in-Some-clause-ok : goal.returns-in-Some-clause-ok
returns-in-Some-clause-ok c =
    changed_by c.args.objects.now c.args.command.now c.args.object c.args.said c.in-Some.said (world_of c.args.world.now)
    (world_of c.change_so.new.world) c.change_so.result c.in-Some.is c.change_so.ensures.ok
