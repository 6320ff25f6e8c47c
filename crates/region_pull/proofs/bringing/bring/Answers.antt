use Rattle.std.proofs.Common.{◌≡◌, ℕ, Option, Some, None, Result, Ok, Err, refl, ap, subst}
use Rattle.std.specs.Prelude.{IfSome, OnErr}
use Rattle.log_node.specs.declared.node.At.{At}
use Rattle.chain_store.specs.declared.hold.Hold.{Hold}
use Rattle.chain_store.specs.declared.region.Region.{Region}
use Rattle.chain_store.specs.Regions.{tag_at}
use Rattle.chain_store.specs.Holds.{CarriesIn}
use Rattle.region_pull.proofs.Steps.{watched_none, watched_then, carried_since, carried_goes}
use Rattle.region_pull.proofs.bringing.bring.Goals as goal

-- what an answer says where it is there
some_said : {A : Type 0} (P : A → Type 0) (o : Option A) (x : A) → o ≡ Some x → IfSome o P → P x
some_said P (Some y) x e p = subst P (let same : y ≡ x = cc (e) in same) p
some_said P None x e p = absurd (let f : ⊥ = cc (e) in f)

-- what is carried, of the region that was asked
carried_here : (to : Region) (k region least : ℕ) (h i : Hold) (far : ℕ) → region ≡ far → (o : Option (At × ℕ)) (r : At × ℕ)
    → o ≡ Some r → IfSome o (λ q. CarriesIn k h i (tag_at to k) region least q.0 q.1)
    → CarriesIn k h i (tag_at to k) far least r.0 r.1
carried_here to k region least h i far same o r is said =
    subst (λ (n : ℕ). CarriesIn k h i (tag_at to k) n least r.0 r.1) same
    (some_said (λ (q : At × ℕ). CarriesIn k h i (tag_at to k) region least q.0 q.1) o r is said)

-- no answer but one
not_some : {A : Type 0} (o : Option A) → ((x : A) → o ≡ Some x → ⊥) → o ≡ None
not_some (Some x) never = absurd (never x refl)
not_some None never = refl

on_err : {T E : Type 0} (r : Result T E) (P : Type 0) → P → OnErr r P
on_err (Ok x) P p = tt
on_err (Err e) P p = p

pub loop-init : goal.loop-init
loop-init g c = (
  watched_none c.args.from.now c.args.colour c.args.from_hold.now c.requires.from_hold,
  watched_none c.args.to.now c.args.colour c.args.to_hold.now c.requires.to_hold,
)

pub returns-in_err-feed-clause-from_hold : goal.returns-in_err-feed-clause-from_hold
returns-in_err-feed-clause-from_hold g c =
    (watched_then c.args.from.now c.args.colour c.args.from_hold.now c.loop.from_hold c.feed.new.hold c.loop.invariant.0
    c.feed.ensures.hold c.feed.ensures.others c.feed.ensures.same c.feed.ensures.sees)

pub returns-in_err-feed-clause-to_hold : goal.returns-in_err-feed-clause-to_hold
returns-in_err-feed-clause-to_hold g c = c.loop.invariant.1.goes

pub returns-in_err-feed-clause-err : goal.returns-in_err-feed-clause-err
returns-in_err-feed-clause-err g c = on_err c.from_residual.result _ c.loop.invariant.1.sees

pub returns-in_err-there-clause-from_hold : goal.returns-in_err-there-clause-from_hold
returns-in_err-there-clause-from_hold g c =
    (watched_then c.args.from.now c.args.colour c.args.from_hold.now c.loop.from_hold c.feed.new.hold c.loop.invariant.0
    c.feed.ensures.hold c.feed.ensures.others c.feed.ensures.same c.feed.ensures.sees)

pub returns-in_err-there-clause-to_hold : goal.returns-in_err-there-clause-to_hold
returns-in_err-there-clause-to_hold g c =
    (watched_then c.args.to.now c.args.colour c.args.to_hold.now c.loop.to_hold c.drain.new.hold c.loop.invariant.1
    c.drain.ensures.hold c.drain.ensures.others c.drain.ensures.same c.drain.ensures.sees).goes

pub returns-in_err-there-clause-err : goal.returns-in_err-there-clause-err
returns-in_err-there-clause-err g c =
    on_err c.from_residual-in_err-there.result _
    (watched_then c.args.to.now c.args.colour c.args.to_hold.now c.loop.to_hold c.drain.new.hold c.loop.invariant.1
    c.drain.ensures.hold c.drain.ensures.others c.drain.ensures.same c.drain.ensures.sees).sees

pub returns-in_err-carried-clause-from_hold : goal.returns-in_err-carried-clause-from_hold
returns-in_err-carried-clause-from_hold g c =
    (watched_then c.args.from.now c.args.colour c.args.from_hold.now c.loop.from_hold c.feed.new.hold c.loop.invariant.0
    c.feed.ensures.hold c.feed.ensures.others c.feed.ensures.same c.feed.ensures.sees)

pub returns-in_err-carried-clause-to_hold : goal.returns-in_err-carried-clause-to_hold
returns-in_err-carried-clause-to_hold g c =
    let e = c.in_err-carried.ensures in
    let d = (watched_then c.args.to.now c.args.colour c.args.to_hold.now c.loop.to_hold c.drain.new.hold c.loop.invariant.1
    c.drain.ensures.hold c.drain.ensures.others c.drain.ensures.same c.drain.ensures.sees) in
    (watched_then c.args.to.now c.args.colour c.args.to_hold.now c.drain.new.hold c.carry.new.hold d e.hold e.others e.same
    e.err).goes

pub returns-in_err-carried-clause-err : goal.returns-in_err-carried-clause-err
returns-in_err-carried-clause-err g c =
    on_err c.from_residual-in_err-carried.result _
    (
    let e = c.in_err-carried.ensures in
    let d = (watched_then c.args.to.now c.args.colour c.args.to_hold.now c.loop.to_hold c.drain.new.hold c.loop.invariant.1
    c.drain.ensures.hold c.drain.ensures.others c.drain.ensures.same c.drain.ensures.sees) in
    (watched_then c.args.to.now c.args.colour c.args.to_hold.now c.drain.new.hold c.carry.new.hold d e.hold e.others e.same
    e.err).sees)

pub returns-in-Some-2-clause-from_hold : goal.returns-in-Some-2-clause-from_hold
returns-in-Some-2-clause-from_hold g c =
    (watched_then c.args.from.now c.args.colour c.args.from_hold.now c.loop.from_hold c.feed.new.hold c.loop.invariant.0
    c.feed.ensures.hold c.feed.ensures.others c.feed.ensures.same c.feed.ensures.sees)

pub returns-in-Some-2-clause-to_hold : goal.returns-in-Some-2-clause-to_hold
returns-in-Some-2-clause-to_hold g c =
    let e = c.in_ok-carried.ensures in
    let d = (watched_then c.args.to.now c.args.colour c.args.to_hold.now c.loop.to_hold c.drain.new.hold c.loop.invariant.1
    c.drain.ensures.hold c.drain.ensures.others c.drain.ensures.same c.drain.ensures.sees) in
    carried_goes c.args.to.now c.args.colour c.number-then-there-least.result c.args.least c.args.to_hold.now c.drain.new.hold
    c.carry.new.hold c.in-Some-2.carried.0 c.in-Some-2.carried.1 d.goes e.hold e.others e.same
    (some_said (λ (q : At × ℕ). CarriesIn c.args.colour c.drain.new.hold c.carry.new.hold
    (tag_at c.args.to.now c.args.colour) c.number-then-there-least.result c.args.least q.0 q.1) c.in_ok-carried.field-0
    c.in-Some-2.carried c.in-Some-2.is e.ok)

pub returns-in-Some-2-clause-ok : goal.returns-in-Some-2-clause-ok
returns-in-Some-2-clause-ok g c =
    let d = (watched_then c.args.to.now c.args.colour c.args.to_hold.now c.loop.to_hold c.drain.new.hold c.loop.invariant.1
    c.drain.ensures.hold c.drain.ensures.others c.drain.ensures.same c.drain.ensures.sees) in
    carried_since c.args.to.now c.args.colour c.args.from.now.number c.args.least c.args.to_hold.now c.drain.new.hold
    c.carry.new.hold c.in-Some-2.carried.0 c.in-Some-2.carried.1 d
    (carried_here c.args.to.now c.args.colour c.number-then-there-least.result c.args.least c.drain.new.hold c.carry.new.hold
    c.args.from.now.number c.number-then-there-least.ensures c.in_ok-carried.field-0 c.in-Some-2.carried c.in-Some-2.is
    c.in_ok-carried.ensures.ok)

pub loop-preserved-in_default : goal.loop-preserved-in_default
loop-preserved-in_default g c =
    let none = not_some c.in_ok-carried.field-0 c.in_default.not-Some in (
      (watched_then c.args.from.now c.args.colour c.args.from_hold.now c.loop.from_hold c.feed.new.hold c.loop.invariant.0
          c.feed.ensures.hold c.feed.ensures.others c.feed.ensures.same c.feed.ensures.sees),
      let e = c.in_ok-carried.ensures in
          let d = (watched_then c.args.to.now c.args.colour c.args.to_hold.now c.loop.to_hold c.drain.new.hold c.loop.invariant.1
          c.drain.ensures.hold c.drain.ensures.others c.drain.ensures.same c.drain.ensures.sees) in
          (watched_then c.args.to.now c.args.colour c.args.to_hold.now c.drain.new.hold c.carry.new.hold d e.hold e.others e.same
          (e.none (ap (λ (o : Option (At × ℕ)). Ok o) none)).sees),
    )

pub loop-preserved : goal.loop-preserved
loop-preserved g c = (
  (watched_then c.args.from.now c.args.colour c.args.from_hold.now c.loop.from_hold c.feed.new.hold c.loop.invariant.0
      c.feed.ensures.hold c.feed.ensures.others c.feed.ensures.same c.feed.ensures.sees),
  (watched_then c.args.to.now c.args.colour c.args.to_hold.now c.loop.to_hold c.drain.new.hold c.loop.invariant.1
      c.drain.ensures.hold c.drain.ensures.others c.drain.ensures.same c.drain.ensures.sees),
)
