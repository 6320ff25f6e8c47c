use Rattle.std.proofs.Common.{◌≡◌, IfOk, [], Option, Some, sym, subst}
use Rattle.world_laws.specs.Worlds.{home_of}
use Rattle.script_text.specs.declared.script.Kind.{Kind}
use Rattle.script_text.specs.declared.script.Kind.TheVariants as kinds
use Rattle.script_text.specs.declared.commands.What.TheVariants as whats
use Rattle.script_meaning.specs.States.{kind_in}
use Rattle.world_code.specs.WorldView.{world_of}
use Rattle.script_in_order.proofs.CommandKinds.{all_do}
use Rattle.script_in_order.proofs.PartSteps.{no_other}
use Rattle.script_in_order.proofs.PartsHere.{fold_now, its_kind, its_fold, its_put}
use Rattle.script_in_order.specs.Doing.{DoneBy}
use Rattle.script_meaning.specs.Gets.{got}
use Rattle.report_text.specs.declared.report.Answer.{Answer}
use Rattle.script_in_order.proofs.parts.peek.Goals as goal

pub peek_in-requires-clause-folded : goal.peek_in-requires-clause-folded
peek_in-requires-clause-folded c =
    its_fold (world_of c.args.world.now) c.args.objects.now c.args.command.now c.args.object c.requires.uses.0
    c.requires.near c.index-objects-object.result c.in-Parts._home c.in-Parts.colours c.as_slice.result.now c.in-Parts.is
    c.as_slice.ensures _ c.args.folds.now c.folds.view_is c.requires.folded c.index_mut.result.now c.in-Tx.fold
    c.index_mut.ensures.value c.in-Tx.is

pub unreachable-requires-in_default-index_mut : goal.unreachable-requires-in_default-index_mut
unreachable-requires-in_default-index_mut c =
    no_other (world_of c.args.world.now) c.args.objects.now c.args.folds.now c.args.object c.requires.folded
    c.requires.uses.0 c.index_mut.result.now
    (fold_now _ c.args.folds.now c.args.object c.index_mut.result.now c.folds.view_is c.index_mut.ensures.value)
    c.in_default-index_mut.not-Tx

pub returns : goal.returns
returns c =
    let w = world_of c.args.world.now in
    let v = world_of c.peek_in.new.world in
    let command = c.args.command.now in
    let objects = c.args.objects.now in
    let object = c.args.object in
    let has = c.requires.uses.0 in
    let slice = c.as_slice.result.now in
    let is : kind_in objects object ≡ Some (kinds.Parts (home_of w command.client) slice) =
    its_kind w objects command object has c.requires.near c.index-objects-object.result c.in-Parts._home
    c.in-Parts.colours slice c.in-Parts.is c.as_slice.ensures in
    let done = all_do objects command c.requires.asks c.peek_in.result w v []
    (subst (λ (k : Option Kind). IfOk c.peek_in.result (λ (answer : Answer). DoneBy
    (λ grants state. got grants state command k c.args.key.now) command w v answer [])) (sym is) c.peek_in.ensures.ok) in
    record {
      ok = done;
      err = c.peek_in.ensures.err;
      folded = its_put w objects command object has c.requires.near c.index-objects-object.result c.in-Parts._home
          c.in-Parts.colours slice c.in-Parts.is c.as_slice.ensures _ c.args.folds.now c.folds.view_is c.requires.folded v
          (whats.Peek object c.args.key.now) c.peek_in.result c.peek_in.new.fold c.is_whole.ensures.reached
          c.requires.asks c.requires.near done c.peek_in.ensures.err c.peek_in.ensures.folded;
    }
