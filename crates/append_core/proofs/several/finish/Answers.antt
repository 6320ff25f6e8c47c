use Rattle.std.proofs.Common.{◌≡◌, Some, slice_get, refl, ap, sym, subst, ◌∙◌}
use Rattle.log_node.specs.declared.ids.Id.{Id}
use Rattle.log_node.specs.declared.marks.Outcome.{Outcome}
use Rattle.log_node.specs.Seen.{BegunAppend}
use Rattle.col_core.specs.History.{entry_key, line}
use Rattle.col_core.specs.Ids.{IsFinal}
use Rattle.chain_store.specs.Holds.{entries_seen}
use Rattle.append_core.specs.Inside.{ArePointsOf, HasTakenAll, HasPosition}
use Rattle.append_core.proofs.Finishing.{leaves_gone, stamped_there, stands_all}
use Rattle.append_core.proofs.several.finish.Goals as goal

pub stood-requires-clause-stamped : goal.stood-requires-clause-stamped
stood-requires-clause-stamped g c = λ n p at.
    let r = c.args.region.now in
    let h = c.args.hold.now in
    let points = c.args.points.items in
    let places = c.args.places.now in
    let d = c.requires.done in
    let id = ap (λ (a : BegunAppend). a.id) (c.begun.view_is ∙ d.3) in
    let done = subst (λ (o : Outcome). HasTakenAll r d.0 h d.1 points places c.args.ended o) c.in-Final.is d.4 in
    let of = subst (λ (a : BegunAppend). ArePointsOf points a.colours) d.3 c.requires.points in
    subst (λ (i : Id). IsFinal (entries_seen h p.colour) i c.in-Final.stamp) (sym id)
    (stamped_there r d.0 h d.1 points places c.args.ended c.in-Final.stamp n p done of at)

pub stood-requires-clause-known : goal.stood-requires-clause-known
stood-requires-clause-known g c = λ n p q at there.
    let r = c.args.region.now in
    let h = c.args.hold.now in
    let points = c.args.points.items in
    let places = c.args.places.now in
    let d = c.requires.done in
    let id = ap (λ (a : BegunAppend). a.id) (c.begun.view_is ∙ d.3) in
    let done = subst (λ (o : Outcome). HasTakenAll r d.0 h d.1 points places c.args.ended o) c.in-Final.is d.4 in
    subst (λ (i : Id). slice_get (line (entries_seen h p.colour)) q ≡ Some (entry_key c.in-Final.stamp i)) (sym id)
    (done.placed n q c.in-Final.stamp p at there refl)

pub returns-in-Final-clause-ok : goal.returns-in-Final-clause-ok
returns-in-Final-clause-ok g c = λ old x fresh is d.
    let r = c.args.region.now in
    let h = c.args.hold.now in
    let k = c.stood.new.hold in
    let points = c.args.points.items in
    let places = c.args.places.now in
    let stamp = c.in-Final.stamp in
    let e = c.stood.ensures in
    let id = ap (λ (a : BegunAppend). a.id) (c.begun.view_is ∙ is) in
    let done = subst (λ (o : Outcome). HasTakenAll r old h x points places c.args.ended o) c.in-Final.is d in
    let of = subst (λ (a : BegunAppend). ArePointsOf points a.colours) is c.requires.points in
    stands_all r old h k x points places c.args.ended stamp c.stood.result done of e.seat e.next e.goes
    (e.key ∙ ap (λ (i : Id). entry_key stamp i) id) e.colours
    (λ n p at. subst (λ (i : Id). HasPosition k (entry_key stamp i) points n p) id (e.placed n p at))

pub returns-in-Gone-clause-err : goal.returns-in-Gone-clause-err
returns-in-Gone-clause-err g c = λ old x fresh is d.
    let r = c.args.region.now in
    let h = c.args.hold.now in
    let points = c.args.points.items in
    let places = c.args.places.now in (
      leaves_gone r old h x points places c.args.ended c.in-Gone.why c.gone.result
          (subst (λ (o : Outcome). HasTakenAll r old h x points places c.args.ended o) c.in-Gone.is d) c.gone.ensures.memory
          c.gone.ensures.end,
      refl,
    )
