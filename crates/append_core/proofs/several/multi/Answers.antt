use Rattle.std.proofs.Common.{length, refl, ap, sym, subst, ◌∙◌}
use Rattle.log_node.specs.declared.ids.Row.{Row}
use Rattle.log_node.specs.declared.node.Node.{Node}
use Rattle.log_node.specs.Seen.{BegunAppend}
use Rattle.chain_store.specs.Beginning.{begun_for}
use Rattle.append_core.specs.Several.{own_append}
use Rattle.append_core.specs.Inside.{ArePointsOf}
use Rattle.append_core.proofs.Finishing.{begins_one, err_as, knows_on, next_is, ok_as, points_few, stop_within}
use Rattle.append_core.proofs.Staging.{count_of}
use Rattle.append_core.proofs.several.multi.Goals as goal

pub perform-requires-clause-few : goal.perform-requires-clause-few
perform-requires-clause-few g c = λ κs met.
    points_few c.args.node.now.value c.in-Ok.points.items
    (subst (λ (y : Node). ArePointsOf c.in-Ok.points.items y.colours) c.deref.ensures c.in-Ok.ensures)

pub perform-requires-clause-points : goal.perform-requires-clause-points
perform-requires-clause-points g c = λ κs met.
    subst (λ (a : BegunAppend). ArePointsOf c.in-Ok.points.items a.colours) (sym c.begun_with-begun.ensures)
    (subst (λ (y : Node). ArePointsOf c.in-Ok.points.items y.colours) c.deref.ensures c.in-Ok.ensures)

pub perform-requires-clause-stop : goal.perform-requires-clause-stop
perform-requires-clause-stop g c = λ κs met.
    let x = c.args.node.now.value in
    let h = c.args.hold.now in
    let points = c.in-Ok.points.items in
    let of = subst (λ (y : Node). ArePointsOf points y.colours) c.deref.ensures c.in-Ok.ensures in
    stop_within x c.args.stop (length points) (count_of points (own_append h x) h x of refl)
    (c.is_at_once.ensures.goes c.if-is_at_once.false) c.requires.stop

pub perform-requires-clause-own : goal.perform-requires-clause-own
perform-requires-clause-own g c = λ κs met.
    let r = c.args.region.now in
    let x = c.args.node.now.value in
    let h = c.args.hold.now in
    let row = c.in-Ok-begin.row in
    let e = c.in-Ok-begin.ensures in (
      h,
      x,
      record { rests = c.requires.hold; client = c.requires.id.0; fresh = c.requires.id.1 },
      c.begun_with-begun.ensures ∙ ap (λ (w : Row). begun_for x w) (next_is r h row c.requires.hold e.row),
      begins_one r h c.begin.new.hold x row c.requires.hold e.row e.begun e.passes c.requires.row,
    )

pub returns-in-Ok-begin-clause-ok : goal.returns-in-Ok-begin-clause-ok
returns-in-Ok-begin-clause-ok g c =
    let r = c.args.region.now in
    let x = c.args.node.now.value in
    let h = c.args.hold.now in
    let row = c.in-Ok-begin.row in
    let e = c.in-Ok-begin.ensures in
    ok_as c.perform.result _ _
    (λ s f. f h x (record { rests = c.requires.hold; client = c.requires.id.0; fresh = c.requires.id.1 })
    (c.begun_with-begun.ensures ∙ ap (λ (w : Row). begun_for x w) (next_is r h row c.requires.hold e.row))
    (begins_one r h c.begin.new.hold x row c.requires.hold e.row e.begun e.passes c.requires.row)) c.perform.ensures.ok

pub returns-in-Ok-begin-clause-err : goal.returns-in-Ok-begin-clause-err
returns-in-Ok-begin-clause-err g c =
    let r = c.args.region.now in
    let x = c.args.node.now.value in
    let h = c.args.hold.now in
    let row = c.in-Ok-begin.row in
    let e = c.in-Ok-begin.ensures in
    err_as c.perform.result _ _
    (λ s f. f h x (record { rests = c.requires.hold; client = c.requires.id.0; fresh = c.requires.id.1 })
    (c.begun_with-begun.ensures ∙ ap (λ (w : Row). begun_for x w) (next_is r h row c.requires.hold e.row))
    (begins_one r h c.begin.new.hold x row c.requires.hold e.row e.begun e.passes c.requires.row)) c.perform.ensures.err

pub returns-in-Ok-begin-clause-seat : goal.returns-in-Ok-begin-clause-seat
returns-in-Ok-begin-clause-seat g c =
    knows_on c.args.region.now c.args.hold.now c.perform.new.hold c.args.node.now.value c.args.stop c.perform.result
    (returns-in-Ok-begin-clause-ok g c) (returns-in-Ok-begin-clause-err g c)
