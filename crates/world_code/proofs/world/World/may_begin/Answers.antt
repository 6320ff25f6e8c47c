use Rattle.std.proofs.Common.{◌<◌, ◌≤◌, ℕ, length, ap, sym, subst, ◌∙◌, arith}
use Rattle.std.specs.Prelude.{nat_lt}
use Rattle.std.specs.List.{list_all}
use Rattle.log_node.specs.Sets.{members}
use Rattle.world_laws.specs.Worlds.{may_begin}
use Rattle.world_code.specs.WorldView.{WorldView, world_of}
use Rattle.world_code.proofs.BeginSteps.{too_few, by_colours}
use Rattle.world_code.proofs.world.World.may_begin.Goals as goal

pub returns-then-count-lt2 : goal.returns-then-count-lt2
returns-then-count-lt2 c =
    let i = c.self.inside in
    let old : WorldView =
    record { shape = i.shape; clients = i.clients.items; board = i.board; columns = i.regions.items } in
    let client = c.args.client in
    let there : client < length old.shape.homes = omega (arith, c.if-client-len.false, c.len.ensures) in
    too_few old c.self.invariant client c.args.colours there c.in-Ok.ensures.ok.1
    (subst (λ (n : ℕ). n < 2) c.count.ensures c.if-count-lt2.true)
    ∙ ap (λ (k : WorldView). may_begin (world_of k) client c.args.colours) c.self.view_is

pub returns : goal.returns
returns c =
    let i = c.self.inside in
    let old : WorldView =
    record { shape = i.shape; clients = i.clients.items; board = i.board; columns = i.regions.items } in
    let client = c.args.client in
    let there : client < length old.shape.homes = omega (arith, c.if-client-len.false, c.len.ensures) in
    c.has_colours.ensures
    ∙ (ap (λ (k : WorldView). list_all (λ n. nat_lt n k.shape.colours) (members c.args.colours)) (sym c.self.view_is)
    ∙ (by_colours old c.self.invariant client c.args.colours there c.in-Ok.ensures.ok.1
    (subst (λ (n : ℕ). 2 ≤ n) c.count.ensures c.if-count-lt2.false)
    ∙ ap (λ (k : WorldView). may_begin (world_of k) client c.args.colours) c.self.view_is))
