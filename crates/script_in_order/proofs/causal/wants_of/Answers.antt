use Rattle.std.proofs.Common.{◌≡◌, ◌≤◌, ℕ, ◌+◌, List, Option, length, drop, ap, sym, subst, ◌∙◌, arith}
use Rattle.std.specs.Prelude.{unwrap_or}
use Rattle.log_node.specs.declared.ids.Counts.{Counts}
use Rattle.log_node.specs.Sets.{members}
use Rattle.log_node.specs.Vectors.{zeros}
use Rattle.log_node.specs.declared.limits.TheConstants.{MAX_COLOURS}
use Rattle.log_node.proofs.CallerLemmas.{members_few}
use Rattle.col_core.specs.Rows.{wants_of}
use Rattle.script_in_order.proofs.CausalSteps.{wants_here, wants_skip}
use Rattle.script_in_order.proofs.causal.wants_of.Goals as goal

pub loop-other-init : goal.loop-other-init
loop-other-init c =
    let node = c.args.node.now in
    let is : c.into_iter-other-iterator.result ≡ members node.colours =
    c.into_iter-other-iterator.ensures.into_iter_gives ∙ c.members-other-items.ensures in
    record {
      left = ap (λ (l : List ℕ). wants_of l node.wants c.args.colour) is;
      few = let f = members_few node.colours in
          subst (λ (l : List ℕ). 0 + length l ≤ MAX_COLOURS) (sym is) (omega (arith, f));
    }

pub returns-in-Some-get : goal.returns-in-Some-get
returns-in-Some-get c =
    let l = c.loop-other in
    let ws = c.args.node.now.wants in
    sym (sym l.invariant.left
    ∙ (ap (λ (cs : List ℕ). wants_of cs (drop l.place ws) c.args.colour) c.in-Some.ensures.steps
    ∙ (wants_here c.in-Some.other c.args.colour c.next.new.self l.place ws c.if-other-colour.true
    ∙ ap (λ (o : Option Counts). unwrap_or o zeros) (sym c.in-Some-get.ensures))))

pub returns-in-None-get : goal.returns-in-None-get
returns-in-None-get c =
    let l = c.loop-other in
    let ws = c.args.node.now.wants in
    c.zeros.ensures
    ∙ sym (sym l.invariant.left
    ∙ (ap (λ (cs : List ℕ). wants_of cs (drop l.place ws) c.args.colour) c.in-Some.ensures.steps
    ∙ (wants_here c.in-Some.other c.args.colour c.next.new.self l.place ws c.if-other-colour.true
    ∙ ap (λ (o : Option Counts). unwrap_or o zeros) (sym c.in-None-get.ensures))))

pub loop-other-preserved : goal.loop-other-preserved
loop-other-preserved c =
    let l = c.loop-other in
    let ws = c.args.node.now.wants in
    record {
      left = wants_skip c.in-Some.other c.args.colour c.next.new.self l.place ws c.if-other-colour.false
          ∙ (ap (λ (cs : List ℕ). wants_of cs (drop l.place ws) c.args.colour) (sym c.in-Some.ensures.steps)
          ∙ l.invariant.left);
      few = let e = ap length c.in-Some.ensures.steps in let f = l.invariant.few in omega (arith, e, f);
    }
