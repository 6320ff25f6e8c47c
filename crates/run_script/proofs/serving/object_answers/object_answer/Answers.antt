use Rattle.std.proofs.Common.{subst}
use Rattle.lawful_run.proofs.CallerLemmas.{list_said, pairs_are}
use Rattle.run_script.specs.Opened.{HasCommand, kind_opened}
use Rattle.run_script.proofs.GivingTrees.{asks_make, asks_move, asks_remove}
use Rattle.run_script.proofs.serving.object_answers.object_answer.Goals as goal

pub put_all-requires-clause-pairs : goal.put_all-requires-clause-pairs
put_all-requires-clause-pairs g c κs within =
    pairs_are 4 c.in-PutAll.pairs (subst (HasCommand (kind_opened c.args.opened.now)) c.in-PutAll.is c.requires.has).1

pub commit-requires-clause-pairs : goal.commit-requires-clause-pairs
commit-requires-clause-pairs g c κs within =
    pairs_are 2 c.in-Commit.pairs (subst (HasCommand (kind_opened c.args.opened.now)) c.in-Commit.is c.requires.has).1

pub change-requires-clause-asks : goal.change-requires-clause-asks
change-requires-clause-asks g c κs within =
    let asks = asks_make (kind_opened c.args.opened.now) c.args.what c.in-Mk._object c.in-Mk.path c.in-Mk.value _ _
    c.make_change-said.result c.requires.has c.in-Mk.is c.as_bytes.ensures c.as_bytes-in-Mk.ensures c.make_change-said.ensures in
    (c.args.what, asks.0, asks.1, asks.2)

pub returns-in-Mk-clause-gives : goal.returns-in-Mk-clause-gives
returns-in-Mk-clause-gives g c =
    let asks = asks_make (kind_opened c.args.opened.now) c.args.what c.in-Mk._object c.in-Mk.path c.in-Mk.value _ _
    c.make_change-said.result c.requires.has c.in-Mk.is c.as_bytes.ensures c.as_bytes-in-Mk.ensures c.make_change-said.ensures in
    c.change.ensures.gives c.args.what asks.0 asks.1 asks.2

pub change-requires-in-Rm-clause-asks : goal.change-requires-in-Rm-clause-asks
change-requires-in-Rm-clause-asks g c κs within =
    let asks = asks_remove (kind_opened c.args.opened.now) c.args.what c.in-Rm._object c.in-Rm.path _ c.remove_change-said.result
    c.requires.has c.in-Rm.is c.as_bytes-in-Rm.ensures c.remove_change-said.ensures in
    (c.args.what, asks.0, asks.1, asks.2)

pub returns-in-Rm-clause-gives : goal.returns-in-Rm-clause-gives
returns-in-Rm-clause-gives g c =
    let asks = asks_remove (kind_opened c.args.opened.now) c.args.what c.in-Rm._object c.in-Rm.path _ c.remove_change-said.result
    c.requires.has c.in-Rm.is c.as_bytes-in-Rm.ensures c.remove_change-said.ensures in
    c.change-in-Rm.ensures.gives c.args.what asks.0 asks.1 asks.2

pub change-requires-in-Mv-clause-kind : goal.change-requires-in-Mv-clause-kind
change-requires-in-Mv-clause-kind g c κs within = (subst (HasCommand (kind_opened c.args.opened.now)) c.in-Mv.is c.requires.has).0

pub change-requires-in-Mv-clause-asks : goal.change-requires-in-Mv-clause-asks
change-requires-in-Mv-clause-asks g c κs within =
    let asks = asks_move (kind_opened c.args.opened.now) c.args.what c.in-Mv._object c.in-Mv.source c.in-Mv.target _ _
    c.move_change-said.result c.requires.has c.in-Mv.is c.as_bytes-in-Mv.ensures c.as_bytes-in-Mv-2.ensures
    c.move_change-said.ensures in
    (c.args.what, asks.0, asks.1, asks.2)

pub returns-in-Mv-clause-gives : goal.returns-in-Mv-clause-gives
returns-in-Mv-clause-gives g c =
    let asks = asks_move (kind_opened c.args.opened.now) c.args.what c.in-Mv._object c.in-Mv.source c.in-Mv.target _ _
    c.move_change-said.result c.requires.has c.in-Mv.is c.as_bytes-in-Mv.ensures c.as_bytes-in-Mv-2.ensures
    c.move_change-said.ensures in
    c.change-in-Mv.ensures.gives c.args.what asks.0 asks.1 asks.2

pub list-requires-clause-names : goal.list-requires-clause-names
list-requires-clause-names g c κs within =
    list_said c.in-Ls._object c.in-Ls.path (subst (HasCommand (kind_opened c.args.opened.now)) c.in-Ls.is c.requires.has).1
