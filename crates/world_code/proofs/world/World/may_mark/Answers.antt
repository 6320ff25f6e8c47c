use Rattle.std.proofs.Common.{ap, sym, subst, ◌∙◌, arith}
use Rattle.log_node.specs.declared.node.Node.{Node}
use Rattle.log_node.specs.Sets.{has}
use Rattle.log_node.specs.Outcomes.{is_missing}
use Rattle.world_code.specs.WorldView.{WorldView, IsWhole}
use Rattle.world_code.proofs.MayMark.{no_colour, not_has, by_mark}
use Rattle.world_code.proofs.world.World.may_mark.Goals as goal
use Rattle.world_code.proofs.world.World.may_mark.Goals.{then-colour-self-via-then-colour-self}
use Rattle.world_code.proofs.world.World.may_mark.Goals.{then-colour-self-via-else-colour-self+then-not-has}

pub returns-then-colour-self : goal.returns-then-colour-self
returns-then-colour-self c =
    let now : WorldView = c.args.self.now in
    let w = subst IsWhole c.self.view_is c.self.invariant in
    let row = c.args.row in
    let colour = c.args.colour in
    let some = c.in-Some.ensures.some in
    let colours = ap (λ (k : WorldView). k.shape.colours) c.self.view_is in
    elim c.then-colour-self.branch [
      | then-colour-self-via-then-colour-self v ↦
          no_colour now w row colour c.in-Some.node.now.value some.0 some.1
          (let le = v.if-colour-self.true in omega (arith, le, colours))
      | then-colour-self-via-else-colour-self+then-not-has v ↦
          let lt = v.if-colour-self.false in
          let few = c.self.invariant.few_colours in
          not_has now w row colour c.in-Some.node.now.value some.0 some.1 (omega (arith, lt, few))
          (ap (λ (n : Node). has n.colours colour) (sym v.deref.ensures) ∙ (sym v.has.ensures ∙ v.if-not-has.true))
    ]

pub returns : goal.returns
returns c =
    let now : WorldView = c.args.self.now in
    let w = subst IsWhole c.self.view_is c.self.invariant in
    let row = c.args.row in
    let colour = c.args.colour in
    let some = c.in-Some.ensures.some in
    let lt = c.if-colour-self.false in
    let few = c.self.invariant.few_colours in
    c.is_missing.ensures
    ∙ (ap is_missing c.mark.ensures
    ∙ by_mark now w row colour c.in-Some.node.now.value some.0 some.1 (omega (arith, lt, few))
    (ap (λ (n : Node). has n.colours colour) (sym c.deref.ensures) ∙ sym c.if-not-has.ensures))
