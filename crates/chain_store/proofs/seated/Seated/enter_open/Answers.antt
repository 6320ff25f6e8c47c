use Rattle.std.proofs.Common.{ℕ, refl, ap, sym, subst, ◌∙◌, ◌≡◌, ◌≤◌, ◌<◌, arith, length, false, List, ◌+◌}
use Rattle.std.specs.Prelude.{slice_index}
use Rattle.log_node.specs.declared.limits.TheConstants.{MAX_CLIENTS}
use Rattle.log_node.specs.declared.node.Node.{Node}
use Rattle.col_core.specs.declared.Entry.{Entry}
use Rattle.col_core.specs.History.{has_entered}
use Rattle.col_core.proofs.CallerLemmas.{same_id-true, same_id-refl}
use Rattle.std.proofs.lemmas.List.{length-set}
use Rattle.column.specs.Columns.{ColumnState, HasEnterCause, with_room, after_propose, stamp_for}
use Rattle.ring_ends.specs.Rings.{IsForRegions}
use Rattle.chain_store.specs.Entered.{AreBelow}
use Rattle.chain_store.specs.Columns.{told_propose, Enters}
use Rattle.log_node.specs.Marks.{IsStamp}
use Rattle.col_core.specs.Computed.{dated}
use Rattle.col_core.specs.Legal.{IsColumnHistory}
use Rattle.col_core.specs.Rows.{node_wants}
use Rattle.chain_store.proofs.Entering.{fresh, propose_entered, entered_below, entered_newest, entered_gains, stamp_in_range}
use Rattle.chain_store.proofs.seated.Seated.enter_open.Goals as goal

pub propose-requires-clause-fresh : goal.propose-requires-clause-fresh
propose-requires-clause-fresh c =
    let x = c.args.node.now.value in
    let e = c.args.self.now.entered in
    let h = c.args.self.now.column.journal in
    let le : slice_index e x.id.client ≤ x.id.count =
    subst (λ (y : Node). slice_index e y.id.client ≤ x.id.count) c.deref.ensures
    (subst (λ (y : Node). slice_index e c.deref.result.now.id.client ≤ y.id.count) c.deref-2.ensures
    (c.is_new.ensures c.if-not-is_new.false)) in
    subst (λ (y : Node). has_entered y.id h ≡ false) (sym c.in-Ok.ensures.cases) (fresh h e x.id c.args.self.now.above le)

pub invariant_of-self : goal.invariant_of-self
invariant_of-self c =
    let x = c.args.node.now.value in
    let s = c.args.self.now in
    let t = told_propose s.column.colour c.args.by x (stamp_for s.column x) in
    let same = c.in-Ok-propose.ensures.entry ∙ ap (after_propose (with_room s.column) c.args.by) c.in-Ok.ensures.cases in
    record {
      same = s.same ∙ sym (ap (λ (q : ColumnState). q.colour) same);
      all = length-set s.entered c.deref.result.now.id.client (c.deref-2.result.now.id.count + 1) ∙ s.all;
      above = entered_below s.column c.propose.new.self t x refl (propose_entered s.column c.propose.new.self c.args.by x same)
          s.entered c.deref.result.now.id.client c.deref-2.result.now.id.count s.above
          (let long = s.all in
          let few = subst (λ (y : Node). y.id.client < MAX_CLIENTS) (sym c.deref.ensures) c.requires.maker.1 in omega (arith, long, few))
          (c.is_new.ensures c.if-not-is_new.false) (λ other is. same_id-true other x.id is)
          (ap (λ (y : Node). y.id.client) (sym c.deref.ensures)) (ap (λ (y : Node). y.id.count) (sym c.deref-2.ensures));
      within = subst (λ (q : ColumnState). q.region < q.regions) (sym same) s.within;
      others = subst (λ (q : ColumnState). IsForRegions q.regions s.rings) (sym same) s.others;
    }

pub invariant_of-self-in-Err-propose : goal.invariant_of-self-in-Err-propose
invariant_of-self-in-Err-propose c = record {
  same = c.args.self.now.same ∙ sym (ap (λ (s : ColumnState). s.colour) c.in-Err.ensures.err);
  all = c.args.self.now.all;
  above = subst (λ (s : ColumnState). AreBelow s.journal c.args.self.now.entered) (sym c.in-Err.ensures.err)
      c.args.self.now.above;
  within = subst (λ (s : ColumnState). s.region < s.regions) (sym c.in-Err.ensures.err) c.args.self.now.within;
  others = subst (λ (s : ColumnState). IsForRegions s.regions c.args.self.now.rings) (sym c.in-Err.ensures.err)
      c.args.self.now.others;
}

pub returns-in-Ok-propose-clause-stamp : goal.returns-in-Ok-propose-clause-stamp
returns-in-Ok-propose-clause-stamp c =
    let x = c.args.node.now.value in
    let s = c.args.self.now in
    let t = told_propose s.column.colour c.args.by x (stamp_for s.column x) in
    let same = c.in-Ok-propose.ensures.entry ∙ ap (after_propose (with_room s.column) c.args.by) c.in-Ok.ensures.cases in
    let l = c.agrees.ensures.lawful in
    let stamp = c.in-Ok-propose.ensures.answer.1 ∙ ap (stamp_for s.column) c.in-Ok.ensures.cases in
    subst (λ (n : ℕ). IsStamp n) (sym stamp)
    (stamp_in_range s.column.region s.column.regions s.column.journal t.entry
    (subst (λ (q : ColumnState). IsColumnHistory q.region q.regions (dated q.region q.journal)) same l)
    x.id x.floor (node_wants x s.column.colour) refl)

pub returns-in-Ok-propose-clause-ok : goal.returns-in-Ok-propose-clause-ok
returns-in-Ok-propose-clause-ok c =
    let x = c.args.node.now.value in
    let s = c.args.self.now in
    let same = c.in-Ok-propose.ensures.entry ∙ ap (after_propose (with_room s.column) c.args.by) c.in-Ok.ensures.cases in
    let stamp = c.in-Ok-propose.ensures.answer.1 ∙ ap (stamp_for s.column) c.in-Ok.ensures.cases in
    let t = told_propose s.column.colour c.args.by x (stamp_for s.column x) in
    let h = propose_entered s.column c.propose.new.self c.args.by x same in
    subst (λ (n : ℕ). Enters s.column c.propose.new.self s.seat.inner.me.0.size.clients
    (told_propose s.column.colour c.args.by x n)) (sym stamp) (
      entered_newest s.column c.propose.new.self t x refl h,
      subst (λ (l : List Entry). length l < 18446744073709551616) c.journal-few.ensures c.journal-few.type_inv.0,
      λ log g. entered_gains s.column c.propose.new.self t x refl h s.seat.inner.me.0.size.clients log
          c.requires.maker.0 tt (x, refl, c.requires.row, refl, c.requires.node) (same_id-refl x.id) g,
    )

pub returns-in-Err-clause-cause : goal.returns-in-Err-clause-cause
returns-in-Err-clause-cause c =
    let x = c.args.node.now.value in
    c.why.ensures c.args.self.now.column x.floor
    (subst (λ (y : Node). HasEnterCause c.args.self.now.column y.floor c.in-Err.fault) c.in-Ok.ensures.cases
    c.in-Err.ensures.cause)
