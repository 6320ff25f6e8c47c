use Rattle.std.proofs.Common.{◌≡◌, ℕ, length, Option, None, sym, subst, inr}
use Rattle.append_core.specs.Several.{HoldLeaves}
use Rattle.append_core.proofs.Finishing.{err_as, first_ahead, no_stop, ok_as, on_ok}
use Rattle.append_core.proofs.Pointing.{point_within}
use Rattle.append_core.proofs.Staging.{count_of}
use Rattle.append_core.proofs.several.perform.Goals as goal

pub take_steps-requires-clause-own : goal.take_steps-requires-clause-own
take_steps-requires-clause-own g c = λ κs met.
    let o = c.requires.own in (
      o.0,
      o.1,
      o.2,
      o.3,
      o.4,
      first_ahead c.args.stop (length c.args.points.items) c.requires.stop (c.goes_on.ensures.on c.if-not-goes_on.false),
    )

pub finish-requires-clause-colours : goal.finish-requires-clause-colours
finish-requires-clause-colours g c = λ n p at.
    point_within c.args.region.now c.args.hold.now c.args.begun.now c.take_steps.new.points.items n p c.requires.begun
    c.take_steps.ensures.points at

pub finish-requires-clause-done : goal.finish-requires-clause-done
finish-requires-clause-done g c =
    let o = c.requires.own in
    (o.0, o.1, o.2, o.3, (c.in-Ok.ensures.ok o.0 o.1 o.2 o.3 o.4).done)

pub returns-in-Ok-clause-ok : goal.returns-in-Ok-clause-ok
returns-in-Ok-clause-ok g c =
    ok_as c.finish.result _ _
    (λ s f old x fresh is steps. f old x fresh is (c.in-Ok.ensures.ok old x fresh is steps).done) c.finish.ensures.ok

pub returns-in-Ok-clause-whole : goal.returns-in-Ok-clause-whole
returns-in-Ok-clause-whole g c =
    let o = c.requires.own in
    let stop = c.args.stop in
    let points = c.args.points.items in
    let t = c.in-Ok.ensures.ok o.0 o.1 o.2 o.3 o.4 in
    on_ok c.finish.result (stop ≡ None)
    (no_stop stop (length points) _ c.requires.stop (count_of points c.args.begun.now o.0 o.1 c.requires.points o.3) t.ahead)

pub returns-in-Ok-clause-err : goal.returns-in-Ok-clause-err
returns-in-Ok-clause-err g c =
    let o = c.requires.own in
    let stop = c.args.stop in
    let points = c.args.points.items in
    let t = c.in-Ok.ensures.ok o.0 o.1 o.2 o.3 o.4 in
    let none = no_stop stop (length points) _ c.requires.stop
    (count_of points c.args.begun.now o.0 o.1 c.requires.points o.3) t.ahead in
    err_as c.finish.result _ _
    (λ fault f old x fresh is steps.
    subst (λ (s : Option ℕ). HoldLeaves c.args.region.now old c.finish.new.hold x s fault) (sym none)
    (f old x fresh is (c.in-Ok.ensures.ok old x fresh is steps).done).0) c.finish.ensures.err

pub returns-in-Err-clause-err : goal.returns-in-Err-clause-err
returns-in-Err-clause-err g c = λ old x fresh is steps.
    let s = c.in-Err.ensures.err old x fresh is steps in (s.0, inr (s.1, s.2))
