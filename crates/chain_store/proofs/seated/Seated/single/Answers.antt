use Rattle.std.proofs.Common.{ℕ, refl, ap, sym, subst, inl, ◌∙◌, ◌≡◌, ◌≤◌, ◌<◌, arith, length, false, List, ◌+◌}
use Rattle.std.specs.Prelude.{slice_index}
use Rattle.log_node.specs.declared.node.Node.{Node}
use Rattle.col_core.specs.declared.Entry.{Entry}
use Rattle.col_core.specs.History.{has_entered}
use Rattle.std.proofs.lemmas.List.{length-set}
use Rattle.column.specs.Columns.{ColumnState, with_room, after_single}
use Rattle.ring_ends.specs.Rings.{IsForRegions}
use Rattle.stamp_board.specs.Seats.{column_seen}
use Rattle.chain_store.proofs.RingsGrow.{fit_entered}
use Rattle.chain_store.specs.Entered.{AreBelow}
use Rattle.chain_store.proofs.Entering.{fresh, single_entered, entered_below, entered_newest, entered_gains, stamp_small}
use Rattle.col_core.proofs.CallerLemmas.{same_id-true, same_id-refl}
use Rattle.chain_store.specs.Columns.{single_told}
use Rattle.col_core.specs.Computed.{dated}
use Rattle.col_core.specs.Legal.{IsColumnHistory}
use Rattle.col_core.specs.Rows.{node_wants}
use Rattle.chain_store.proofs.Backing.{backed_more}
use Rattle.chain_store.proofs.seated.Seated.single.Goals as goal

pub single-requires-clause-fresh : goal.single-requires-clause-fresh
single-requires-clause-fresh c =
    let x = c.args.node.now.value in
    let e = c.args.self.now.entered in
    let h = c.args.self.now.column.journal in
    let le : slice_index e c.args.by ≤ x.id.count =
    subst (λ (y : Node). slice_index e c.args.by ≤ y.id.count) c.deref.ensures (c.is_new.ensures c.if-not-is_new.false) in
    subst (λ (y : Node). has_entered y.id h ≡ false) (sym c.in-Ok.ensures.cases)
    (fresh h e x.id c.args.self.now.above
    (subst (λ (k : ℕ). slice_index e k ≤ x.id.count) (sym c.requires.maker.2) le))

pub invariant_of-self : goal.invariant_of-self
invariant_of-self c =
    let x = c.args.node.now.value in
    let s = c.args.self.now in
    let same = c.in-Ok-single.ensures.entry ∙ ap (after_single (with_room s.column) c.args.by) c.in-Ok.ensures.cases in
    record {
      same = c.args.self.now.same ∙ sym (ap (λ (s : ColumnState). s.colour) same);
      all = length-set s.entered c.args.by (c.deref.result.now.id.count + 1) ∙ s.all;
      above = entered_below s.column c.single.new.self (single_told s.column c.args.by x) x refl (single_entered s.column c.single.new.self c.args.by x same) s.entered c.args.by c.deref.result.now.id.count s.above
          (let long = s.all in let few = c.requires.maker.0 in omega (arith, long, few)) (c.is_new.ensures c.if-not-is_new.false)
          (λ other is. same_id-true other x.id is) c.requires.maker.2 (ap (λ (y : Node). y.id.count) (sym c.deref.ensures));
      within = subst (λ (q : ColumnState). q.region < q.regions) (sym same) s.within;
      others = subst (λ (q : ColumnState). IsForRegions q.regions s.rings) (sym same) s.others;
    }

pub invariant_of-self-in-Err-single : goal.invariant_of-self-in-Err-single
invariant_of-self-in-Err-single c = record {
  same = c.args.self.now.same ∙ sym (ap (λ (s : ColumnState). s.colour) c.in-Err.ensures.err);
  all = c.args.self.now.all;
  above = subst (λ (s : ColumnState). AreBelow s.journal c.args.self.now.entered) (sym c.in-Err.ensures.err)
      c.args.self.now.above;
  within = subst (λ (s : ColumnState). s.region < s.regions) (sym c.in-Err.ensures.err) c.args.self.now.within;
  others = subst (λ (s : ColumnState). IsForRegions s.regions c.args.self.now.rings) (sym c.in-Err.ensures.err)
      c.args.self.now.others;
}

pub returns-in-Ok-single-clause-ok : goal.returns-in-Ok-single-clause-ok
returns-in-Ok-single-clause-ok c =
    let x = c.args.node.now.value in
    let s = c.args.self.now in
    let same = c.in-Ok-single.ensures.entry ∙ ap (after_single (with_room s.column) c.args.by) c.in-Ok.ensures.cases in (
      entered_newest s.column c.single.new.self (single_told s.column c.args.by x) x refl (single_entered s.column c.single.new.self c.args.by x same),
      subst (λ (l : List Entry). length l < 18446744073709551616) c.journal-few.ensures c.journal-few.type_inv.0,
      λ log h. (
        entered_gains s.column c.single.new.self (single_told s.column c.args.by x) x refl
            (single_entered s.column c.single.new.self c.args.by x same) s.seat.inner.me.0.size.clients log
            c.requires.maker.1 c.requires.maker.2 (x, refl, c.requires.row, refl, c.requires.node) (same_id-refl x.id) h.0,
        (
          backed_more s.seat log (single_told s.column c.args.by x) (λ row. refl)
              (stamp_small s.column.region s.column.regions s.column.journal (single_told s.column c.args.by x).entry
              (subst (λ (q : ColumnState). IsColumnHistory q.region q.regions (dated q.region q.journal)) same
              c.agrees.ensures.lawful)
              x.id x.floor (node_wants x s.column.colour) (inl refl))
              tt h.1.0,
          fit_entered s.column c.single.new.self (column_seen s.seat).size s.seat.inner.table_id s.rings log
              (single_told s.column c.args.by x) (ap (λ (q : ColumnState). q.region) same)
              (ap (λ (q : ColumnState). q.colour) same) (ap (λ (q : ColumnState). q.regions) same) (λ region. refl) h.1.1,
        ),
      ),
    )
