use Rattle.std.proofs.Common.{◌≡◌, ◌∙◌, sym, subst, ap, get_or, length, List}
use Rattle.script_text.specs.declared.script.Command.{Command}
use Rattle.script_text.specs.declared.script.Object.{Object}
use Rattle.world_code.specs.WorldView.{world_of}
use Rattle.script_in_order.specs.Doing.{IsFit}
use Rattle.script_in_order.specs.Folds.{AreFolded}
use Rattle.script_in_order.specs.Runs.{RunView, IsDone, replies_at}
use Rattle.script_in_order.proofs.RunSteps.{next_fits, next_client, next_room, next_reads, next_rests, next_run}
use Rattle.script_in_order.proofs.run.do_next.Goals as goal

pub do_command-requires : goal.do_command-requires
do_command-requires c =
    let script = c.args.script.now in
    let code : RunView = record { world = c.args.world.now; replies = c.args.replies.now.items } in
    let command = c.index-as_slice-place.result in
    let is = c.index-as_slice-place.is ∙ ap (λ (l : List Command). get_or l c.args.place command) c.as_slice.ensures in
    record {
      fits = subst (λ (os : List Object). IsFit (world_of c.args.world.now) os command.client command.what)
          (sym c.as_slice-2.ensures) (next_fits script c.requires.fits c.args.place code c.requires.place c.requires.run command is);
      folded = subst (λ (os : List Object). AreFolded (world_of c.args.world.now) os c.args.folds.now)
          (sym c.as_slice-2.ensures) c.requires.folded;
      client = next_client script c.requires.fits c.args.place code c.requires.place c.requires.run command is;
      room = next_room script c.requires.fits c.args.place code c.requires.place c.requires.run command is;
      reads = subst (λ (os : List Object). length (replies_at c.args.replies.now.items command.client).reads ≡ length os)
          (sym c.as_slice-2.ensures)
          (next_reads script c.requires.fits c.args.place code c.requires.place c.requires.run command is);
      rests = next_rests script c.requires.fits c.args.place code c.requires.place c.requires.run command is
          c.reads_back.ensures (c.reads_back-2.ensures, c.names_are_answered.ensures) c.requires.stops;
    }

pub returns : goal.returns
returns c =
    let script = c.args.script.now in
    let code : RunView = record { world = c.args.world.now; replies = c.args.replies.now.items } in
    let command = c.index-as_slice-place.result in
    let is = c.index-as_slice-place.is ∙ ap (λ (l : List Command). get_or l c.args.place command) c.as_slice.ensures in
    let new : RunView = record { world = c.do_command.new.world; replies = c.do_command.new.replies.items } in
    record {
      run = next_run script c.requires.fits c.args.place code c.requires.place c.requires.run command is new
          (subst (λ (os : List Object). IsDone os command code new) c.as_slice-2.ensures c.do_command.ensures.done);
      folded = subst (λ (os : List Object). AreFolded (world_of c.do_command.new.world) os c.do_command.new.folds)
          c.as_slice-2.ensures c.do_command.ensures.folded;
    }
