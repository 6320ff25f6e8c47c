use Rattle.std.proofs.Common.{◌≡◌, true, false, ◌∙◌, ◌-◌, ◌+◌, ◌≤◌, ◌<◌, refl, sym, ap, subst}
use Rattle.std.specs.Vec.{vec_capacity}
use Rattle.log_node.specs.declared.node.Node.{Node}
use Rattle.log_node.specs.Sets.{has}
use Rattle.log_node.specs.Standings.{line_of}
use Rattle.skeen_core.specs.Queues.{has_id}
use Rattle.col_core.specs.History.{last_stamp, has_entered}
use Rattle.col_core.specs.Rows.{node_wants}
use Rattle.column.specs.Columns.{ColumnState, cut_of, stamp_for, after_propose}
use Rattle.column.specs.Inside.{IsKept}
use Rattle.column.proofs.Steps.{proposal, propose_is, proposal_next, proposal_quiet, quiet_numbers, still_cut}
use Rattle.column.proofs.Known.{fresh_id}
use Rattle.column.proofs.Entering.{HasRead, propose-state, propose-room}
use Rattle.column.proofs.contents.Contents.add_propose.Goals as goal

abbrev old_of : goal.After-push_reserved → ColumnState
old_of c =
    let i = c.self.inside in
    record {
      region = i.region;
      colour = i.colour;
      regions = i.regions;
      journal = i.journal.items;
      queue = i.queue;
      copies = i.copies;
    }

-- what the code read
read : (c : goal.After-push_reserved) → HasRead (old_of c) c.args.node.value c.deref.result.now c.deref-2.result.now
    c.wants_for-wants.result c.args.cut c.least-needs.result c.propose-stamp.result c.of.result
read c = record {
  id_of = c.deref.ensures;
  floor_of = c.deref-2.ensures;
  wants_is = c.wants_for-wants.ensures ∙ ap (λ (n : Node). node_wants n c.self.inside.colour) c.deref-3.ensures;
  cut_is = c.requires.cut ∙ sym (ap cut_of c.self.view_is);
  needs_is = c.least-needs.ensures;
  thing_is = c.of.ensures;
  clock_is = c.self.invariant.column_is.clock_is;
  stamp_is = c.propose-stamp.ensures.stamp;
}

-- the column then
state : (c : goal.After-push_reserved)
    → ◌≡◌ {A = ColumnState}
    (record (old_of c) { journal = c.push_reserved.new.self.items; queue = c.propose-stamp.new.self })
    (after_propose (old_of c) c.args.by c.args.node.value)
state c = propose-state (read c) c.args.by c.push_reserved.new.self.items c.propose-stamp.new.self
    c.push_reserved.ensures.items c.propose-stamp.ensures.queue

pub propose-stamp-requires-clause-fresh : goal.propose-stamp-requires-clause-fresh
propose-stamp-requires-clause-fresh c =
    let i = c.self.inside in
    let k = c.self.invariant.column_is in
    let node = c.args.node.value in
    let fresh : has_entered node.id i.journal.items ≡ false =
    ap (λ (q : ColumnState). has_entered node.id q.journal) c.self.view_is ∙ c.requires.fresh in
    ap (λ (n : Node). has_id n.id i.queue.entries) c.deref.ensures
    ∙ (ap (has_id node.id) k.entries_are ∙ fresh_id i.region i.regions i.journal.items node.id k.lawful fresh)

pub returns-clause-entry : goal.returns-clause-entry
returns-clause-entry c = state c ∙ ap (λ (q : ColumnState). after_propose q c.args.by c.args.node.value) c.self.view_is

-- the node may enter
fresh : (c : goal.After-push_reserved) → has_entered c.args.node.value.id (old_of c).journal ≡ false
fresh c = subst (λ (q : ColumnState). has_entered c.args.node.value.id q.journal ≡ false) (sym c.self.view_is)
    c.requires.fresh

in_region : (c : goal.After-push_reserved) → c.args.node.value.region ≡ (old_of c).region
in_region c = subst (λ (q : ColumnState). c.args.node.value.region ≡ q.region) (sym c.self.view_is) c.requires.region

in_colour : (c : goal.After-push_reserved) → has c.args.node.value.colours (old_of c).colour ≡ true
in_colour c = subst (λ (q : ColumnState). has c.args.node.value.colours q.colour ≡ true) (sym c.self.view_is)
    c.requires.colour

stamp : (c : goal.After-push_reserved) → stamp_for (old_of c) c.args.node.value ≤ last_stamp
stamp c = subst (λ (q : ColumnState). stamp_for q c.args.node.value ≤ last_stamp) (sym c.self.view_is) c.requires.stamp

pub invariant_of-self : goal.invariant_of-self
invariant_of-self c =
    let i = c.self.inside in
    let node = c.args.node.value in
    let h = c.self.invariant.column_is in
    subst (λ (q : ColumnState). IsKept q i.carried i.notes i.base (i.opens + 1) (i.spare - 1)
    (vec_capacity c.push_reserved.new.self))
    (sym (state c)) (record {
      column_is = propose_is (old_of c) c.args.by node h (fresh c) (in_region c) (in_colour c) (stamp c) c.requires.row;
      numbers_are = quiet_numbers (old_of c) (proposal (old_of c) c.args.by node h (fresh c) (in_region c) (in_colour c)
          (stamp c)) h
          (proposal_next (old_of c) c.args.by node h (fresh c) (in_region c) (in_colour c) (stamp c))
          (proposal_quiet (old_of c) c.args.by node h (fresh c) (in_region c) (in_colour c) (stamp c))
          (λ region. refl) (after_propose (old_of c) c.args.by node).queue i.carried i.notes i.base c.self.invariant.numbers_are;
      room_is = propose-room (old_of c) c.args.by i.opens i.spare _ _ node c.self.invariant.room_is
          (subst (λ (q : ColumnState). 0 < q.queue.spare) (sym c.self.view_is) c.requires.room)
          c.push_reserved.ensures.capacity;
    })

pub returns-clause-cut : goal.returns-clause-cut
returns-clause-cut c =
    let node = c.args.node.value in
    let h = c.self.invariant.column_is in
    ap cut_of (state c)
    ∙ (still_cut (old_of c) (proposal (old_of c) c.args.by node h (fresh c) (in_region c) (in_colour c) (stamp c))
    (after_propose (old_of c) c.args.by node).queue (old_of c).copies h
    (proposal_next (old_of c) c.args.by node h (fresh c) (in_region c) (in_colour c) (stamp c)) (λ region. refl)
    (sym (ap line_of (propose_is (old_of c) c.args.by node h (fresh c) (in_region c) (in_colour c) (stamp c)
    c.requires.row).entries_are)
    ∙ (ap (λ (q : ColumnState). line_of q.queue.entries) (sym (state c))
    ∙ (c.propose-stamp.ensures.line ∙ ap line_of h.entries_are)))
    ∙ ap cut_of c.self.view_is)
