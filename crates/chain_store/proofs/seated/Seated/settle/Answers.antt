use Rattle.std.proofs.Common.{◌≡◌, ◌<◌, ℕ, List, [], None, length, refl, ap, sym, subst, ◌∙◌}
use Rattle.log_node.specs.declared.ids.Id.{Id}
use Rattle.log_node.specs.declared.limits.TheConstants.{MAX_STAMP}
use Rattle.log_node.specs.Seen.{BegunAppend}
use Rattle.log_node.specs.Standings.{open_entry, is_open_id}
use Rattle.skeen_core.specs.Queues.{MaySettle, has_open, is_decided}
use Rattle.std.specs.Prelude.{◌&&◌, if◌then◌else◌}
use Rattle.col_core.proofs.CallerLemmas.{by_test}
use Rattle.stamp_board.specs.declared.view.Size.{Size}
use Rattle.log_node.specs.declared.marks.Outcome.{Outcome}
use Rattle.col_core.specs.declared.Entry.{Entry}
use Rattle.col_core.specs.History.{entries}
use Rattle.column.specs.Columns.{ColumnState, after_settle}
use Rattle.stamp_board.specs.Seats.{column_seen}
use Rattle.col_core.specs.Ids.{IsFinal, HasCome}
use Rattle.ring_ends.specs.Rings.{IsForRegions, names_of}
use Rattle.chain_store.specs.Columns.{told_settle}
use Rattle.chain_store.specs.Tags.{tag}
use Rattle.chain_store.proofs.Backing.{backed_more}
use Rattle.chain_store.proofs.Moving.{StandsIn}
use Rattle.chain_store.proofs.RingsGrow.{fit_entered}
use Rattle.chain_store.proofs.Proposals.{stays_later, same_tag}
use Rattle.chain_store.proofs.Settlings.{may_settle_begun, settle_backed, settles_open, settles_none, settles_keep, settles_below, settled_newest, settled_gains, settled_last, none_found, outcome_small}
use Rattle.chain_store.proofs.seated.Seated.settle.Goals as goal

pub settle-at-requires : goal.settle-at-requires
settle-at-requires c =
    let s = c.args.self.now in
    let l = c.look.ensures in
    let q = c.requires in
    subst (λ (i : Id). MaySettle i c.args.outcome (entries s.column.journal) MAX_STAMP)
    (sym (ap (λ (b : BegunAppend). b.id) c.begun.view_is))
    (may_settle_begun s c.look.new.seat c.args.board.now.size c.args.begun.now c.args.outcome c.begun.inside.row
    c.look.result (ap (λ (b : BegunAppend). b.row) c.begun.view_is) q.board.1 l.seat l.none l.mark l.value q.begun
    q.colour q.outcome.1 c.agrees.ensures.in_colours c.agrees.ensures.lawful q.stands.0 q.stands.1).0

-- what the column became, for the append's id
became : (column new : ColumnState) (by : ℕ) (i j : Id) (o : Outcome) → i ≡ j
    → new ≡ (if has_open i (entries column.journal) && is_decided o then after_settle column by i o else column)
    → new ≡ (if has_open j (entries column.journal) && is_decided o then after_settle column by j o else column)
became column new by i j o same is =
    subst (λ (k : Id). new ≡ (if has_open k (entries column.journal) && is_decided o then after_settle column by k o else column))
    same is

pub returns-clause-tag : goal.returns-clause-tag
returns-clause-tag c =
    let s = c.args.self.now in
    let new = c.settle-at.new.self in
    let t = c.look.new.seat in
    let k = settles_keep s.column new c.args.by c.begun.inside.id c.args.outcome _ c.settle-at.ensures.column in
    (λ i. tag (k.0 i) (k.1 i) (k.2 i) (column_seen t).size t.inner.table_id (names_of s.rings))
    ∙ same_tag s.column.region s.column.colour s.column.regions s.seat t c.look.ensures.seat

pub invariant_of-self : goal.invariant_of-self
invariant_of-self c =
    let s = c.args.self.now in
    let new = c.settle-at.new.self in
    let k = settles_keep s.column new c.args.by c.begun.inside.id c.args.outcome _ c.settle-at.ensures.column in
    record {
      same = c.look.ensures.seat.colour ∙ s.same ∙ sym k.1;
      all = s.all;
      above = settles_below s.column new c.args.by c.begun.inside.id c.args.outcome _ c.settle-at.ensures.column s.entered s.above;
      within = subst (λ (n : ℕ). n < new.regions) (sym k.0) (subst (λ (n : ℕ). s.column.region < n) (sym k.2) s.within);
      others = subst (λ (n : ℕ). IsForRegions n s.rings) (sym k.2) s.others;
    }

pub returns-clause-event : goal.returns-clause-event
returns-clause-event c = λ shown.
    let s = c.args.self.now in
    let q = c.requires in
    let b = c.args.begun.now in
    let o = c.args.outcome in
    let l = c.look.ensures in
    let t = c.look.new.seat in
    let new = c.settle-at.new.self in
    let keep = settles_keep s.column new c.args.by c.begun.inside.id o _ c.settle-at.ensures.column in
    let is = settles_open o q.outcome.0 (has_open b.id (entries s.column.journal)) shown new
    (after_settle s.column c.args.by b.id o) s.column
    (became s.column new c.args.by c.begun.inside.id b.id o (ap (λ (a : BegunAppend). a.id) c.begun.view_is)
    c.settle-at.ensures.column) in
    let may = (may_settle_begun s t c.args.board.now.size b o c.begun.inside.row c.look.result
    (ap (λ (a : BegunAppend). a.row) c.begun.view_is) q.board.1 l.seat l.none l.mark l.value q.begun q.colour q.outcome.1
    c.agrees.ensures.in_colours c.agrees.ensures.lawful q.stands.0 q.stands.1).0 in (
      settled_newest s.column new c.args.by b.id o is,
      subst (λ (es : List Entry). length es < 18446744073709551616) c.journal-few.ensures c.journal-few.type_inv.0,
      λ log h.
          let st = stays_later s t log l.seat l.none h in (
            settled_gains s.column new c.args.by b.id o is (column_seen t).size.clients log
                (subst (λ (k : Size). c.args.by < k.clients) (sym (l.seat.grows.size ∙ q.board.1)) q.maker) st.0,
            (
              backed_more t log (told_settle c.args.by b.id o) (λ row. refl)
                  (outcome_small b.id o (entries s.column.journal) shown may)
                  (settle_backed s t c.args.board.now.size b o [] q.board.1 l.seat q.begun q.outcome.1) st.1.0,
              fit_entered s.column new (column_seen t).size t.inner.table_id s.rings log (told_settle c.args.by b.id o) keep.0
                  keep.1 keep.2 (λ region. refl) st.1.1,
            ),
          ),
    )

pub returns-clause-look : goal.returns-clause-look
returns-clause-look c = λ off log h.
    let s = c.args.self.now in
    let b = c.args.begun.now in
    let o = c.args.outcome in
    let l = c.look.ensures in
    let t = c.look.new.seat in
    let new = c.settle-at.new.self in
    let is = settles_none o (has_open b.id (entries s.column.journal)) off new
    (after_settle s.column c.args.by b.id o) s.column
    (became s.column new c.args.by c.begun.inside.id b.id o (ap (λ (a : BegunAppend). a.id) c.begun.view_is)
    c.settle-at.ensures.column) in
    let st = stays_later s t log l.seat l.none h in
    subst (λ (d : ColumnState). StandsIn d t s.rings log) (sym is) st

pub returns-clause-closed : goal.returns-clause-closed
returns-clause-closed c =
    let s = c.args.self.now in
    let q = c.requires in
    let b = c.args.begun.now in
    let o = c.args.outcome in
    let new = c.settle-at.new.self in
    let is = became s.column new c.args.by c.begun.inside.id b.id o (ap (λ (a : BegunAppend). a.id) c.begun.view_is)
    c.settle-at.ensures.column in
    let test = has_open b.id (entries s.column.journal) in
    by_test (open_entry b.id (entries new.journal) ≡ None) test
    (λ shown.
    let e = settles_open o q.outcome.0 test shown new (after_settle s.column c.args.by b.id o) s.column is in
    (settled_last new.region new.regions new.journal s.column.journal c.args.by b.id o
    (ap (λ (d : ColumnState). d.journal) e) c.agrees-2.ensures.lawful).closed)
    (λ off.
    let e = settles_none o test off new (after_settle s.column c.args.by b.id o) s.column is in
    ap (λ (d : ColumnState). open_entry b.id (entries d.journal)) e
    ∙ none_found (is_open_id b.id) (entries s.column.journal) off)

pub returns-clause-stands : goal.returns-clause-stands
returns-clause-stands c = λ f final.
    let s = c.args.self.now in
    let q = c.requires in
    let b = c.args.begun.now in
    let o = c.args.outcome in
    let l = c.look.ensures in
    let new = c.settle-at.new.self in
    let is = became s.column new c.args.by c.begun.inside.id b.id o (ap (λ (a : BegunAppend). a.id) c.begun.view_is)
    c.settle-at.ensures.column in
    let test = has_open b.id (entries s.column.journal) in
    by_test (IsFinal new.journal b.id f) test
    (λ shown.
    let e = settles_open o q.outcome.0 test shown new (after_settle s.column c.args.by b.id o) s.column is in
    subst (HasCome new.journal b.id) final
    (settled_last new.region new.regions new.journal s.column.journal c.args.by b.id o
    (ap (λ (d : ColumnState). d.journal) e) c.agrees-2.ensures.lawful).come)
    (λ off.
    let e = settles_none o test off new (after_settle s.column c.args.by b.id o) s.column is in
    subst (λ (d : ColumnState). IsFinal d.journal b.id f) (sym e)
    ((may_settle_begun s c.look.new.seat c.args.board.now.size b o c.begun.inside.row c.look.result
    (ap (λ (a : BegunAppend). a.row) c.begun.view_is) q.board.1 l.seat l.none l.mark l.value q.begun q.colour q.outcome.1
    c.agrees.ensures.in_colours c.agrees.ensures.lawful q.stands.0 q.stands.1).1 f final
    (none_found (is_open_id b.id) (entries s.column.journal) off)))
