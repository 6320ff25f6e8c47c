use Rattle.std.proofs.Common.{◌≡◌, true, false, List, Some, refl, ap, sym, subst, ◌∙◌, arith}
use Rattle.std.specs.Prelude.{slice_get}
use Rattle.column.specs.Columns.{ColumnState}
use Rattle.world_laws.specs.Worlds.{may_mark, is_row_at_end, after_propose, event_reply, proposed_stamp, home_of}
use Rattle.world_code.specs.WorldView.{WorldView, client_at, world_of, IsWhole}
use Rattle.world_code.proofs.RaiseSteps.{put_back, on_err}
use Rattle.world_code.proofs.MarkSteps.{board_colour, board_row}
use Rattle.world_code.proofs.ProposeCalls.{ProposeCall, propose_home, call_colour, call_fresh, call_region, call_of_colour}
use Rattle.world_code.proofs.ProposeCalls.{call_floor, call_row, call_stamp, call_reply, code_after, whole_after, world_after}
use Rattle.world_code.proofs.Views.{view_of}
use Rattle.world_code.proofs.world.World.add_propose.Goals.{After-index_mut}
use Rattle.world_code.proofs.world.World.add_propose.Goals as goal

-- what the code has read
read : (c : After-index_mut) → ProposeCall (view_of c.self.inside) c.args.row c.args.colour c.home-home.result
    c.index_mut.result.now c.args.node.value
read c =
    let row = c.args.row in
    let back = sym c.self.view_is in
    record {
      whole = c.self.invariant;
      may = subst (λ (k : WorldView). may_mark (world_of k) row c.args.colour ≡ true) back c.requires.may;
      left = subst (λ (k : WorldView). is_row_at_end (world_of k) row c.args.colour ≡ false) back c.requires.stamp;
      home_is = ap (λ (k : WorldView). home_of (world_of k) row.client) c.self.view_is ∙ sym c.home-home.ensures;
      columns_are = c.index_mut.ensures.value;
      node_is = subst (λ (k : WorldView). slice_get (client_at k row.client).begun row.number ≡ Some c.args.node.value)
          back c.requires.node;
    }

pub index_mut-requires : goal.index_mut-requires
index_mut-requires c =
    let lt = propose_home (view_of c.self.inside) c.args.row c.args.colour c.home-home.result c.self.invariant
    (subst (λ (k : WorldView). may_mark (world_of k) c.args.row c.args.colour ≡ true) (sym c.self.view_is) c.requires.may)
    (ap (λ (k : WorldView). home_of (world_of k) c.args.row.client) c.self.view_is ∙ sym c.home-home.ensures) in
    omega (arith, lt)

pub propose-requires-clause-colour : goal.propose-requires-clause-colour
propose-requires-clause-colour c = call_colour (read c)

pub propose-requires-clause-fresh : goal.propose-requires-clause-fresh
propose-requires-clause-fresh c = call_fresh (read c)

pub propose-requires-clause-region : goal.propose-requires-clause-region
propose-requires-clause-region c = call_region (read c)

pub propose-requires-clause-of_colour : goal.propose-requires-clause-of_colour
propose-requires-clause-of_colour c = call_of_colour (read c)

pub propose-requires-clause-floor : goal.propose-requires-clause-floor
propose-requires-clause-floor c = call_floor (read c)

pub propose-requires-clause-row : goal.propose-requires-clause-row
propose-requires-clause-row c = call_row (read c)

pub mark-requires-clause-colour : goal.mark-requires-clause-colour
mark-requires-clause-colour c =
    let call = read (goal.at.mark-requires-clause-colour c).After-index_mut in
    board_colour (view_of c.self.inside) c.self.invariant c.args.row c.args.colour call.may

pub mark-requires-clause-row : goal.mark-requires-clause-row
mark-requires-clause-row c =
    let call = read (goal.at.mark-requires-clause-row c).After-index_mut in
    board_row (view_of c.self.inside) c.self.invariant c.args.row c.args.colour call.may

pub mark-requires-clause-number : goal.mark-requires-clause-number
mark-requires-clause-number c =
    call_stamp (read (goal.at.mark-requires-clause-number c).After-index_mut) c.in_ok-placed.ensures.answer

pub invariant_of-self-2 : goal.invariant_of-self-2
invariant_of-self-2 c =
    let call = read (goal.at.invariant_of-self-2 c).After-index_mut in
    subst IsWhole (sym (code_after call c.args.by c.in_ok-placed.ensures.answer c.in_ok-placed.ensures.ok
    c.mark.ensures.rows)) (whole_after call c.args.by)

pub returns-clause-ok : goal.returns-clause-ok
returns-clause-ok c =
    let call = read (goal.at.returns-clause-ok c).After-index_mut in
    ap world_of (code_after call c.args.by c.in_ok-placed.ensures.answer c.in_ok-placed.ensures.ok c.mark.ensures.rows)
    ∙ (world_after call c.args.by
    ∙ ap (λ (k : WorldView). after_propose (world_of k) c.args.by c.args.row c.args.colour) c.self.view_is)

pub returns-clause-placed : goal.returns-clause-placed
returns-clause-placed c =
    call_reply (read (goal.at.returns-clause-placed c).After-index_mut) c.in_ok-placed.ensures.answer
    ∙ ap (λ (k : WorldView). event_reply (world_of k) (home_of (world_of k) c.args.row.client) c.args.colour
    (proposed_stamp (world_of k) c.args.row c.args.colour)) c.self.view_is

pub invariant_of-self : goal.invariant_of-self
invariant_of-self c =
    subst (λ (cs : List (List ColumnState)). IsWhole (record (view_of c.self.inside) { columns = cs }))
    (sym (put_back c.home-home.result refl c.index_mut.ensures.value c.in_err-placed.ensures.err)) c.self.invariant

pub returns-in_err-placed-clause-err : goal.returns-in_err-placed-clause-err
returns-in_err-placed-clause-err c =
    on_err c.from_residual.result _
    (ap (λ (cs : List (List ColumnState)). record (view_of c.self.inside) { columns = cs })
    (put_back c.home-home.result refl c.index_mut.ensures.value c.in_err-placed.ensures.err) ∙ c.self.view_is)
