use Rattle.std.proofs.Common.{◌≡◌, ◌<◌, true, ap, sym, subst, ◌∙◌, arith}
use Rattle.world_laws.specs.declared.steps.Step.TheVariants as steps
use Rattle.world_laws.specs.Worlds.{is_begun, row_of, home_of, after, reply}
use Rattle.world_code.specs.Replies.{place_reply}
use Rattle.world_code.specs.WorldView.{WorldView, world_of}
use Rattle.world_code.proofs.SettleCalls.{SettleCall, settle_home, call_colour, call_settles, settle_moved, settle_reply}
use Rattle.world_code.proofs.MoveCalls.{Moved, put_columns}
use Rattle.world_code.proofs.Views.{view_of}
use Rattle.world_code.proofs.world.World.add_settle.Goals.{After-index_mut, After-settle-at}
use Rattle.world_code.proofs.world.World.add_settle.Goals as goal

-- what the code has read
read : (c : After-index_mut) → SettleCall (view_of c.self.inside) c.args.row c.args.colour c.home-home.result
    c.index_mut.result.now c.args.id c.last-outcome.result
read c =
    let row = c.args.row in
    let back = sym c.self.view_is in
    record {
      whole = c.self.invariant;
      begun = subst (λ (k : WorldView). is_begun (world_of k) row ≡ true) back c.requires.begun;
      in_colours = subst (λ (k : WorldView). c.args.colour < k.shape.colours) back c.requires.colour;
      home_is = ap (λ (k : WorldView). home_of (world_of k) row.client) c.self.view_is ∙ sym c.home-home.ensures;
      columns_are = c.index_mut.ensures.value;
      id_is = c.requires.id ∙ ap (λ (k : WorldView). (row_of (world_of k) row).node.id) back;
      outcome_is = c.last-outcome.ensures ∙ ap (λ (k : WorldView). (row_of (world_of k) row).last) back;
    }

-- what has become of the world
moved : (c : After-settle-at) → Moved (view_of c.self.inside) (steps.Settle c.args.by c.args.row c.args.colour)
    (put_columns (view_of c.self.inside) c.home-home.result c.settle-at.new.self)
moved c = settle_moved (read c.before) c.args.by c.settle-at.ensures.columns

pub index_mut-requires : goal.index_mut-requires
index_mut-requires c =
    let lt = settle_home (view_of c.self.inside) c.args.row c.home-home.result c.self.invariant
    (subst (λ (k : WorldView). is_begun (world_of k) c.args.row ≡ true) (sym c.self.view_is) c.requires.begun)
    (ap (λ (k : WorldView). home_of (world_of k) c.args.row.client) c.self.view_is ∙ sym c.home-home.ensures) in
    omega (arith, lt)

pub settle-at-requires-clause-colour : goal.settle-at-requires-clause-colour
settle-at-requires-clause-colour c = call_colour (read c)

pub settle-at-requires-clause-settles : goal.settle-at-requires-clause-settles
settle-at-requires-clause-settles c = call_settles (read c)

pub invariant_of-self : goal.invariant_of-self
invariant_of-self c = (moved (goal.at.invariant_of-self c).After-settle-at).whole

pub returns-clause-world : goal.returns-clause-world
returns-clause-world c =
    (moved (goal.at.returns-clause-world c).After-settle-at).world
    ∙ ap (λ (k : WorldView). after (world_of k) (steps.Settle c.args.by c.args.row c.args.colour)) c.self.view_is

pub returns-clause-reply : goal.returns-clause-reply
returns-clause-reply c =
    ap place_reply c.event_at.ensures
    ∙ (settle_reply (read (goal.at.returns-clause-reply c).After-index_mut) c.args.by c.settle-at.ensures.answer
    ∙ ap (λ (k : WorldView). reply (world_of k) (steps.Settle c.args.by c.args.row c.args.colour)) c.self.view_is)
