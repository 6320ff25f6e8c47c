use Rattle.std.proofs.Common.{◌≡◌, true, List, refl, ap, sym, subst, ◌∙◌}
use Rattle.column.specs.Columns.{ColumnState}
use Rattle.world_laws.specs.Worlds.{may_single, after_single, event_reply, single_stamp, home_of}
use Rattle.world_code.specs.Clients.{next_single}
use Rattle.world_code.specs.WorldView.{WorldView, client_at, world_of, IsWhole}
use Rattle.world_code.specs.declared.replies.Placed.{Placed}
use Rattle.world_code.proofs.SingleCalls.{SingleCall, call_fresh, call_of_colour, call_floor, code_after, code_whole, code_world}
use Rattle.world_code.proofs.SingleCalls.{placed_same}
use Rattle.world_code.proofs.RaiseSteps.{put_back, on_err}
use Rattle.world_code.proofs.Views.{view_of}
use Rattle.world_code.proofs.world.World.add_single.Goals.{After-index_mut}
use Rattle.world_code.proofs.world.World.add_single.Goals as goal

-- what the code has read
read : (c : After-index_mut) → SingleCall (view_of c.self.inside) c.args.client c.args.colour c.args.home
    c.index_mut.result.now c.args.node.value
read c =
    let client = c.args.client in
    let colour = c.args.colour in
    let home = c.args.home in
    let node = c.args.node.value in
    let back = sym c.self.view_is in
    record {
      whole = c.self.invariant;
      guard = subst (λ (k : WorldView). may_single (world_of k) client colour ≡ true) back c.requires.may;
      home_is = subst (λ (k : WorldView). home_of (world_of k) client ≡ home) back c.requires.home;
      row_is = c.index_mut.ensures.value;
      node_is = subst (λ (k : WorldView). node ≡ next_single (client_at k client) client home colour node.text) back
          c.requires.node;
    }

pub single-requires-clause-fresh : goal.single-requires-clause-fresh
single-requires-clause-fresh c = call_fresh (read c)

pub single-requires-clause-of_colour : goal.single-requires-clause-of_colour
single-requires-clause-of_colour c = call_of_colour (read c)

pub single-requires-clause-floor : goal.single-requires-clause-floor
single-requires-clause-floor c = call_floor (read c)

pub invariant_of-self-2 : goal.invariant_of-self-2
invariant_of-self-2 c =
    let call = read (goal.at.invariant_of-self-2 c).After-index_mut in
    subst IsWhole (sym (code_after call c.in_ok-placed.ensures.ok c.index_mut-2.ensures.value c.requires.shared
    (ap (λ (p : Placed). p.stamp) c.in_ok-placed.ensures.answer) c.append.ensures)) (code_whole call)

pub returns-clause-ok : goal.returns-clause-ok
returns-clause-ok c =
    let call = read (goal.at.returns-clause-ok c).After-index_mut in
    ap world_of (code_after call c.in_ok-placed.ensures.ok c.index_mut-2.ensures.value c.requires.shared
    (ap (λ (p : Placed). p.stamp) c.in_ok-placed.ensures.answer) c.append.ensures)
    ∙ (code_world call
    ∙ ap (λ (k : WorldView). after_single (world_of k) c.args.client c.args.colour c.args.node.value.text)
    c.self.view_is)

pub returns-clause-placed : goal.returns-clause-placed
returns-clause-placed c =
    placed_same (read (goal.at.returns-clause-placed c).After-index_mut) c.in_ok-placed.ensures.answer
    ∙ ap (λ (k : WorldView). event_reply (world_of k) c.args.home c.args.colour
    (single_stamp (world_of k) c.args.client c.args.colour)) c.self.view_is

pub invariant_of-self : goal.invariant_of-self
invariant_of-self c =
    subst (λ (cs : List (List ColumnState)). IsWhole (record (view_of c.self.inside) { columns = cs }))
    (sym (put_back c.args.home refl c.index_mut.ensures.value c.in_err-placed.ensures.err)) c.self.invariant

pub returns-in_err-placed-clause-err : goal.returns-in_err-placed-clause-err
returns-in_err-placed-clause-err c =
    on_err c.from_residual.result _
    (ap (λ (cs : List (List ColumnState)). record (view_of c.self.inside) { columns = cs })
    (put_back c.args.home refl c.index_mut.ensures.value c.in_err-placed.ensures.err) ∙ c.self.view_is)
