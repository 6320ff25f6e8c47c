use Rattle.std.proofs.Common.{◌≡◌, Some, sym, subst}
use Rattle.report_text.specs.declared.report.Answer.TheVariants as answers
use Rattle.tree_fold.specs.Changes.{IsChange}
use Rattle.run_script.specs.Changing.{AsksChange}
use Rattle.run_script.specs.declared.serving.opened.Opened.{Opened}
use Rattle.run_script.specs.declared.serving.opened.Opened.TheVariants as opened
use Rattle.run_script.specs.Opened.{kind_opened}
use Rattle.run_script.specs.Serving.{ServesObject}
use Rattle.script_meaning.specs.States.{kind_in}
use Rattle.run_script.proofs.FewShown.{points_few_changed, shows_few_each}
use Rattle.run_script.proofs.GivingTrees.{gives_change, gives_unchanged, same_change}
use Rattle.run_script.proofs.serving.trees.change.Goals as goal

pub returns-in_default-clause-gives : goal.returns-in_default-clause-gives
returns-in_default-clause-gives g c what asked asks made =
    gives_unchanged c.args.store.now c.args.client.now c.requires.client c.args.opened.now what asked asks

pub returns-in_default-with_capacity-clause-gives : goal.returns-in_default-with_capacity-clause-gives
returns-in_default-with_capacity-clause-gives g c what asked asks made =
    gives_unchanged c.args.store.now c.args.client.now c.requires.client c.args.opened.now what asked asks

pub returns-in_default-room_for-clause-gives : goal.returns-in_default-room_for-clause-gives
returns-in_default-room_for-clause-gives g c what asked asks made objects object of at =
    subst (λ (x : Opened). ServesObject c.args.store.now objects c.args.client.now c.args.client.now object c.args.opened.now x what
    answers.NoMemory) c.in-Tree.is
    (gives_unchanged c.args.store.now c.args.client.now c.requires.client c.args.opened.now what asked asks objects object of at)

pub change-changed-requires-clause-change : goal.change-changed-requires-clause-change
change-changed-requires-clause-change g c κs within =
    let asks = c.requires.asks in
    subst IsChange (same_change c.args.said c.in-Ok.asked c.in-Some.change asks.1 c.in-Ok.is c.in-Some.is asks.3) asks.2.may_be

pub told_shown-requires-clause-points : goal.told_shown-requires-clause-points
told_shown-requires-clause-points g c =
    points_few_changed c.in-Tree.tree.colours c.in-Some.change c.change-changed.result _ c.in-Ok-with_capacity.ensures.capacity
    c.change-changed.ensures.points

pub told_shown-requires-clause-few : goal.told_shown-requires-clause-few
told_shown-requires-clause-few g c =
    shows_few_each c.in-Tree.tree.colours c.in-Ok-room_for.room c.args.client.now c.change-changed.new.client
    c.change-changed.result (λ r. r.2) _ c.colour_count.ensures c.in-Ok-room_for.ensures.places c.change-changed.ensures.shows

pub returns-clause-gives : goal.returns-clause-gives
returns-clause-gives g c what asked asks made objects object of =
    let e = c.change-changed.ensures in
    let same = same_change c.args.said c.in-Ok.asked c.in-Some.change asked c.in-Ok.is c.in-Some.is made in
    subst (λ (x : Opened). kind_in objects object ≡ Some (kind_opened x)
    → ServesObject c.args.store.now objects c.args.client.now c.change-changed.new.client object x
    (opened.Tree c.change-changed.new.self) what c.told_shown.result) (sym c.in-Tree.is)
    (gives_change c.args.store.now c.args.client.now c.change-changed.new.client e.client c.in-Tree.tree
    c.change-changed.new.self what c.in-Some.change (subst (AsksChange what) same asks) c.change-changed.result c.told_shown.result
    c.told_shown.ensures e.away e.ok e.err objects object of)
