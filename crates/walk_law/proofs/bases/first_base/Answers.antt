use Rattle.std.proofs.Common.{◌≡◌, ◌⊎◌, ◌∙◌, ap, sym, refl, subst, ℕ, inl, inr, arith}
use Rattle.log_node.specs.Vectors.{IsWithin, is_within}
use Rattle.column_track.specs.declared.marks.Mark.{Mark}
use Rattle.std.proofs.lemmas.Bool.{true≢false}
use Rattle.walk_law.specs.Bases.{base_after}
use Rattle.walk_law.proofs.BaseLemmas.{base_below, mark_within}
use Rattle.walk_law.proofs.bases.first_base.Goals as goal

pub loop-low-init : goal.loop-low-init
loop-low-init c = record {
  from_on = omega arith;
  order = c.requires.order;
  up_to = omega arith;
  before = λ n le lt. absurd (omega (arith, le, lt));
  there = inr refl;
}

pub mark-requires : goal.mark-requires
mark-requires c =
    let b = c.halfway-middle.ensures.below in
    let u = c.loop-low.invariant.up_to in
    let w = c.requires.within in
    omega (arith, b, u, w)

pub loop-low-preserved-then-is_within : goal.loop-low-preserved-then-is_within
loop-low-preserved-then-is_within c = record {
  from_on = c.loop-low.invariant.from_on;
  order = c.halfway-middle.ensures.from_on;
  up_to =
      let b = c.halfway-middle.ensures.below in
      let u = c.loop-low.invariant.up_to in
      omega (arith, b, u);
  before = c.loop-low.invariant.before;
  there = inl (mark_within c.args.track.now c.halfway-middle.result c.mark.result c.args.base c.mark.ensures
      (sym c.is_within.ensures ∙ c.if-is_within.true));
}

pub loop-low-preserved : goal.loop-low-preserved
loop-low-preserved c = record {
  from_on =
      let f = c.loop-low.invariant.from_on in
      let m = c.halfway-middle.ensures.from_on in
      omega (arith, f, m);
  order = let b = c.halfway-middle.ensures.below in omega (arith, b);
  up_to = c.loop-low.invariant.up_to;
  before = λ n le lt.
      base_below c.cuts_grow.ensures c.args.track.now c.agrees.ensures c.args.base c.halfway-middle.result
      (λ w. true≢false (sym (ap (λ (m : Mark). is_within c.args.base m.base) c.mark.ensures ∙ w)
      ∙ (sym c.is_within.ensures ∙ c.if-is_within.false))) n lt;
  there = c.loop-low.invariant.there;
}

pub returns : goal.returns
returns c =
    let ge = c.loop-low-test.false in
    let le = c.loop-low.invariant.order in
    let e : c.loop-low.high ≡ c.loop-low.low = omega (arith, ge, le) in record {
      from_on = c.loop-low.invariant.from_on;
      up_to = let u = c.loop-low.invariant.up_to in omega (arith, le, u);
      before = c.loop-low.invariant.before;
      there = subst (λ (n : ℕ). IsWithin c.args.base (base_after c.args.track.now n) ⊎ (n ≡ c.args.to)) e c.loop-low.invariant.there;
    }
