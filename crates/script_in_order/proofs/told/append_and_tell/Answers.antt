use Rattle.std.proofs.Common.{sym, subst}
use Rattle.log_node.specs.Sets.{members}
use Rattle.world_laws.specs.Worlds.{World}
use Rattle.world_code.specs.WorldView.{world_of}
use Rattle.script_in_order.specs.Folds.{IsLinesFold}
use Rattle.script_in_order.specs.Telling.{tells_by}
use Rattle.script_in_order.proofs.LinesFolds.{lines_stay}
use Rattle.script_in_order.proofs.TellSteps.{appended_to, client_after, below_after, stood_told, not_stood}
use Rattle.script_in_order.proofs.told.append_and_tell.Goals as goal

pub tell-requires : goal.tell-requires
tell-requires g c =
    let w = world_of c.args.world.now in
    let v = world_of c.append.new.world in
    let command = c.args.command.now in
    let did = c.in_ok-other.ensures.ok in record {
      caller = client_after command w v c.in_ok-other.other c.args.set c.args.text.now did c.requires.caller;
      within = below_after command w v c.in_ok-other.other c.args.set c.args.text.now did c.args.colours c.requires.within;
      some = c.requires.some;
      folded = lines_stay w v c.is_whole.ensures.reached
          (appended_to command w v c.in_ok-other.other c.args.set c.args.text.now did) g.F.NodeFold.Holds c.args.fold.now
          c.requires.folded;
    }

pub returns-in-Stood-clause-ok : goal.returns-in-Stood-clause-ok
returns-in-Stood-clause-ok g c = λ objects object is.
    stood_told c.args.command.now (world_of c.args.world.now) (world_of c.append.new.world) c.in_ok-other.other c.args.set
    c.args.text.now c.in_ok-other.ensures.ok (tells_by g.F.NodeFold.told g.F.Shown.shown g.F.Shown.untold) objects object
    (world_of c.tell.new.world) c.tell.result c.in-Stood.stamp c.in-Stood.row c.in-Stood.points (members c.args.colours)
    c.next_id-id.result c.in-Stood.is is c.next_id-id.ensures c.tell.ensures.is_told

-- an answer that names no place
pub returns-in_default-clause-ok : goal.returns-in_default-clause-ok
returns-in_default-clause-ok g c = λ objects object is.
    not_stood c.args.command.now (world_of c.args.world.now) (world_of c.append.new.world) c.in_ok-other.other c.args.set
    c.args.text.now c.in_ok-other.ensures.ok (tells_by g.F.NodeFold.told g.F.Shown.shown g.F.Shown.untold) objects object
    c.in_default.not-Stood

pub returns-in_default-clause-folded : goal.returns-in_default-clause-folded
returns-in_default-clause-folded g c =
    let w = world_of c.args.world.now in
    let v = world_of c.append.new.world in
    lines_stay w v c.is_whole.ensures.reached
    (appended_to c.args.command.now w v c.in_ok-other.other c.args.set c.args.text.now c.in_ok-other.ensures.ok)
    g.F.NodeFold.Holds c.args.fold.now c.requires.folded

-- no memory, and nothing done
pub returns-in_err-other-clause-folded : goal.returns-in_err-other-clause-folded
returns-in_err-other-clause-folded g c =
    subst (λ (x : World). IsLinesFold g.F.NodeFold.Holds x c.args.fold.now) (sym c.in_err-other.ensures.err) c.requires.folded
