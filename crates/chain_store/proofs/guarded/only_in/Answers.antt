use Rattle.std.proofs.Common.{ℕ, ◌≡◌, ◌<◌, List, Some, length, refl, ap, sym, subst, ◌∙◌, inl}
use Rattle.log_node.specs.declared.node.Node.{Node}
use Rattle.col_core.specs.declared.Entry.{Entry}
use Rattle.col_core.specs.History.{line}
use Rattle.column.specs.declared.faults.OnlyFault.{OnlyFault}
use Rattle.column.specs.Columns.{stamp_for}
use Rattle.turn_cell.specs.Cells.{seen}
use Rattle.chain_store.specs.declared.told.Tag.{Tag}
use Rattle.chain_store.specs.declared.told.Told.{Told}
use Rattle.chain_store.specs.declared.seated.Seated.{Seated}
use Rattle.chain_store.specs.Histories.{FitsColumn, entries_in}
use Rattle.chain_store.specs.Columns.{told_single, single_told, tag_of, Gains, Stands}
use Rattle.chain_store.specs.Passes.{tag_in}
use Rattle.chain_store.specs.Guarded.{wanted, IsNext, HasNextCause}
use Rattle.chain_store.proofs.Turning.{at_rest, stood, tagged, may, adds, saw, makes_at}
use Rattle.chain_store.proofs.guarded.only_in.Goals as goal

pub only-requires-clause-maker : goal.only-requires-clause-maker
only-requires-clause-maker g c =
    let r = c.requires.client in
    let is = tagged c.begin-turn.result.value.value c.deref_mut.result.now (tag_in c.args.cell.now)
    c.deref_mut.ensures.value c.begin-turn.ensures.tag in
    (r.0, subst (λ (t : Tag). c.args.by < t.size.clients) (sym is) r.1, r.2)

pub only-requires-clause-node : goal.only-requires-clause-node
only-requires-clause-node g c =
    let is = tagged c.begin-turn.result.value.value c.deref_mut.result.now (tag_in c.args.cell.now)
    c.deref_mut.ensures.value c.begin-turn.ensures.tag in
    subst (λ (t : Tag). FitsColumn t.region t.colour c.args.node.now.value) (sym is) c.requires.node

-- the entry that was made, with the colour of the cell's tag and the stamp that was answered
gained : (x y : Seated) (t : Tag) (by : ℕ) (node : Node) (stamp : ℕ) → tag_of x ≡ t → stamp ≡ stamp_for x.column node
    → Gains x y (single_told x.column by node) → Gains x y (told_single t.colour by node stamp)
gained x y t by node stamp tagged stamped g =
    subst (λ (s : ℕ). Gains x y (told_single t.colour by node s)) (sym stamped)
    (subst (λ (u : Tag). Gains x y (told_single u.colour by node (stamp_for x.column node))) tagged g)

pub end-requires-clause-value : goal.end-requires-clause-value
end-requires-clause-value g c =
    let cell = c.args.cell.now in
    let t = c.begin-turn.ensures in
    let x = c.deref_mut.result.now in
    let q = c.begin-turn.new.pass in
    let same = c.deref_mut.ensures.value in
    let z = c.begin-turn.result.value.value in
    let node = c.args.node.now.value in
    let e = told_single (tag_in cell).colour c.args.by node c.in-Ok.stamp in
    may cell c.args.by q t.turn.0 x c.only.new.self e (stood z x (seen q) same t.value)
    (gained x c.only.new.self (tag_in cell) c.args.by node c.in-Ok.stamp (tagged z x (tag_in cell) same t.tag)
    c.in-Ok.ensures.stamp c.in-Ok.ensures.ok) refl

pub returns-in-Ok-clause-pass : goal.returns-in-Ok-clause-pass
returns-in-Ok-clause-pass g c =
    at_rest c.begin-turn.result.cell.now c.args.cell.now c.args.by c.begin-turn.new.pass c.end.new.pass
    c.begin-turn.ensures.turn.1 c.begin-turn.ensures.turn.0 c.end.ensures.holder

-- what the column's journal says is said of the history for which it stands
next_of : (x : Seated) (t : Tag) (log : List Told) (node : Node) → tag_of x ≡ t → Stands x log
    → IsNext x.column.journal (wanted x.column.region x.column.colour node)
    → IsNext (entries_in log) (wanted t.region t.colour node)
next_of x t log node is stands next =
    subst (λ (u : Tag). IsNext (entries_in log) (wanted u.region u.colour node)) is
    (subst (λ (l : List Entry). IsNext l (wanted x.column.region x.column.colour node)) stands.0.same next)

cause_of : (x : Seated) (t : Tag) (log : List Told) (node : Node) (fault : OnlyFault) → tag_of x ≡ t → Stands x log
    → HasNextCause x.column.region x.column.colour x.column.journal node fault
    → HasNextCause t.region t.colour (entries_in log) node fault
cause_of x t log node fault is stands cause =
    subst (λ (u : Tag). HasNextCause u.region u.colour (entries_in log) node fault) is
    (subst (λ (l : List Entry). HasNextCause x.column.region x.column.colour l node fault) stands.0.same cause)

pub returns-in-Ok-clause-ok : goal.returns-in-Ok-clause-ok
returns-in-Ok-clause-ok g c =
    let cell = c.args.cell.now in
    let t = c.begin-turn.ensures in
    let x = c.deref_mut.result.now in
    let q = c.begin-turn.new.pass in
    let same = c.deref_mut.ensures.value in
    let z = c.begin-turn.result.value.value in
    let node = c.args.node.now.value in
    let stands = stood z x (seen q) same t.value in
    let is = tagged z x (tag_in cell) same t.tag in
    let e = told_single (tag_in cell).colour c.args.by node c.in-Ok.stamp in
    let m = makes_at c.args.by e c.args.pass.now q c.end.new.pass c.end.result t.more
    (c.end.ensures.event e
    (adds cell c.args.by q t.turn.0 x c.only.new.self e stands
    (gained x c.only.new.self (tag_in cell) c.args.by node c.in-Ok.stamp is c.in-Ok.ensures.stamp c.in-Ok.ensures.ok)
    refl)) in
    let next = next_of x (tag_in cell) (seen q) node is stands c.in-Ok.ensures.next in
    record {
      made = m.0;
      next = subst (λ (l : List Told). IsNext (entries_in l) (wanted (tag_in cell).region (tag_in cell).colour node))
          (sym m.1) next;
    }

-- the line's length, as it was counted before
counted : (x y z : Seated) (t : Tag) (node : Node) (count : ℕ) → count ≡ length (line y.column.journal) → y ≡ z → x ≡ z
    → tag_of x ≡ t → IsNext x.column.journal (wanted x.column.region x.column.colour node)
    → Some count ≡ Some (wanted t.region t.colour node)
counted x y z t node count long same same' is next =
    ap Some (long ∙ (ap (λ (s : Seated). length (line s.column.journal)) (same ∙ sym same')
    ∙ (next.1 ∙ ap (λ (u : Tag). wanted u.region u.colour node) is)))

pub returns-in-Ok-clause-position : goal.returns-in-Ok-clause-position
returns-in-Ok-clause-position g c =
    let x = c.deref_mut.result.now in
    let z = c.begin-turn.result.value.value in
    counted x c.deref.result.now z (tag_in c.args.cell.now) c.args.node.now.value (length c.line.result.now)
    (ap length c.line.ensures) c.deref.ensures c.deref_mut.ensures.value
    (tagged z x (tag_in c.args.cell.now) c.deref_mut.ensures.value c.begin-turn.ensures.tag) c.in-Ok.ensures.next

pub end-requires-in-Err-clause-value : goal.end-requires-in-Err-clause-value
end-requires-in-Err-clause-value g c =
    inl (c.in-Err.ensures.err (seen c.begin-turn.new.pass)
    (stood c.begin-turn.result.value.value c.deref_mut.result.now (seen c.begin-turn.new.pass)
    c.deref_mut.ensures.value c.begin-turn.ensures.value))

pub returns-in-Err-clause-pass : goal.returns-in-Err-clause-pass
returns-in-Err-clause-pass g c =
    at_rest c.begin-turn.result.cell.now c.args.cell.now c.args.by c.begin-turn.new.pass c.end-in-Err.new.pass
    c.begin-turn.ensures.turn.1 c.begin-turn.ensures.turn.0 c.end-in-Err.ensures.holder

pub returns-in-Err-clause-err : goal.returns-in-Err-clause-err
returns-in-Err-clause-err g c =
    let q = c.begin-turn.new.pass in
    let w = c.end-in-Err.ensures.look
    (c.in-Err.ensures.err (seen q)
    (stood c.begin-turn.result.value.value c.deref_mut.result.now (seen q) c.deref_mut.ensures.value
    c.begin-turn.ensures.value)) in
    saw c.args.by c.args.pass.now q c.end-in-Err.new.pass c.begin-turn.ensures.more w.1.0

pub returns-in-Err-clause-cause : goal.returns-in-Err-clause-cause
returns-in-Err-clause-cause g c =
    let cell = c.args.cell.now in
    let x = c.deref_mut.result.now in
    let z = c.begin-turn.result.value.value in
    let q = c.begin-turn.new.pass in
    let node = c.args.node.now.value in
    let same = c.deref_mut.ensures.value in
    let stands = stood z x (seen q) same c.begin-turn.ensures.value in
    let w = c.end-in-Err.ensures.look (c.in-Err.ensures.err (seen q) stands) in
    subst (λ (l : List Told). HasNextCause (tag_in cell).region (tag_in cell).colour (entries_in l) node c.in-Err.fault)
    (sym w.1.0)
    (cause_of x (tag_in cell) (seen q) node c.in-Err.fault (tagged z x (tag_in cell) same c.begin-turn.ensures.tag) stands
    c.in-Err.ensures.cause)
