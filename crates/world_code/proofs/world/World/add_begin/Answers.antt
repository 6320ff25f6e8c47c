use Rattle.std.proofs.Common.{◌≡◌, true, ap, sym, subst, ◌∙◌}
use Rattle.world_laws.specs.Worlds.{may_begin, after_begin, home_of}
use Rattle.world_code.specs.Clients.{next_begun}
use Rattle.world_code.specs.WorldView.{WorldView, client_at, world_of, IsWhole}
use Rattle.world_code.proofs.BeginSteps.{may_begin_is, begin_list, begin_world, begin_whole}
use Rattle.world_code.proofs.Views.{view_of}
use Rattle.world_code.proofs.world.World.add_begin.Goals as goal

pub invariant_of-self : goal.invariant_of-self
invariant_of-self c =
    let old = view_of c.self.inside in
    let client = c.args.row.client in
    let text = c.args.node.value.text in
    let back = sym c.self.view_is in
    let t = subst (λ (k : WorldView). may_begin (world_of k) client c.args.colours ≡ true) back c.requires.may in
    let may = may_begin_is old client c.args.colours t in
    let node_is = c.requires.node ∙ ap (λ (k : WorldView).
    next_begun (client_at k client) client (home_of (world_of k) client) c.args.colours text) back in
    subst IsWhole (sym (begin_list old c.self.invariant client c.args.colours text may c.index_mut.result.now
    c.begin-2.new.self c.begin.new.self c.args.node.value c.index_mut.ensures.value c.begin-2.ensures
    c.in-Ok.ensures.rows node_is))
    (begin_whole old c.self.invariant client c.args.colours text may t)

pub returns-clause-world : goal.returns-clause-world
returns-clause-world c =
    let old = view_of c.self.inside in
    let client = c.args.row.client in
    let text = c.args.node.value.text in
    let back = sym c.self.view_is in
    let may = may_begin_is old client c.args.colours
    (subst (λ (k : WorldView). may_begin (world_of k) client c.args.colours ≡ true) back c.requires.may) in
    let node_is = c.requires.node ∙ ap (λ (k : WorldView).
    next_begun (client_at k client) client (home_of (world_of k) client) c.args.colours text) back in
    ap world_of (begin_list old c.self.invariant client c.args.colours text may c.index_mut.result.now
    c.begin-2.new.self c.begin.new.self c.args.node.value c.index_mut.ensures.value c.begin-2.ensures
    c.in-Ok.ensures.rows node_is)
    ∙ (begin_world old c.self.invariant client c.args.colours text may
    ∙ ap (λ (k : WorldView). after_begin (world_of k) client c.args.colours text) c.self.view_is)
