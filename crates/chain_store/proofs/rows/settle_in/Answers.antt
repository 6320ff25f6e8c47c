use Rattle.std.proofs.Common.{◌≡◌, refl, ap, sym, subst, ◌∙◌, inl, true, length, List}
use Rattle.log_node.specs.Sets.{has}
use Rattle.stamp_board.specs.Seats.{seen as seat_seen}
use Rattle.turn_cell.specs.Cells.{seen}
use Rattle.chain_store.specs.declared.told.Tag.{Tag}
use Rattle.chain_store.specs.declared.told.Told.{Told}
use Rattle.chain_store.specs.Rows.{KnowsRow}
use Rattle.log_node.specs.Standings.{open_entry}
use Rattle.skeen_core.specs.Queues.{has_open}
use Rattle.col_core.specs.declared.Entry.{Entry}
use Rattle.col_core.specs.History.{entries}
use Rattle.col_core.specs.Ids.{IsFinal}
use Rattle.col_core.proofs.CallerLemmas.{by_test}
use Rattle.chain_store.specs.Rows.{place_after}
use Rattle.chain_store.specs.Columns.{told_settle}
use Rattle.chain_store.specs.Passes.{tag_in}
use Rattle.chain_store.proofs.Turning.{at_rest, stood, tagged, may, adds, saw, makes}
use Rattle.chain_store.proofs.Heard.{at_event, at_look}
use Rattle.chain_store.proofs.rows.settle_in.Goals as goal

pub settle_told-position-requires-clause-seats : goal.settle_told-position-requires-clause-seats
settle_told-position-requires-clause-seats g c =
    let is = tagged c.begin-turn.result.value.value c.deref_mut.result.now (tag_in c.args.cell.now)
    c.deref_mut.ensures.value c.begin-turn.ensures.tag in
    let k = c.requires.cell in
    ((ap (λ (t : Tag). t.board) is ∙ k.1, ap (λ (t : Tag). t.size) is ∙ k.0), c.requires.seat)

pub settle_told-position-requires-clause-begun : goal.settle_told-position-requires-clause-begun
settle_told-position-requires-clause-begun g c =
    let is = tagged c.begin-turn.result.value.value c.deref_mut.result.now (tag_in c.args.cell.now)
    c.deref_mut.ensures.value c.begin-turn.ensures.tag in
    subst (λ (t : Tag). KnowsRow c.args.board.now.size t.region (seat_seen c.args.seat.now) c.args.begun.now) (sym is)
    c.requires.begun

pub settle_told-position-requires-clause-colour : goal.settle_told-position-requires-clause-colour
settle_told-position-requires-clause-colour g c =
    let is = tagged c.begin-turn.result.value.value c.deref_mut.result.now (tag_in c.args.cell.now)
    c.deref_mut.ensures.value c.begin-turn.ensures.tag in
    subst (λ (t : Tag). has c.args.begun.now.colours t.colour ≡ true) (sym is) c.requires.colour

pub settle_told-position-requires-clause-stands : goal.settle_told-position-requires-clause-stands
settle_told-position-requires-clause-stands g c =
    let q = c.begin-turn.new.pass in (
      seen q,
      stood c.begin-turn.result.value.value c.deref_mut.result.now (seen q) c.deref_mut.ensures.value
          c.begin-turn.ensures.value,
    )

pub end-requires-clause-value : goal.end-requires-clause-value
end-requires-clause-value g c =
    let cell = c.args.cell.now in
    let t = c.begin-turn.ensures in
    let x = c.deref_mut.result.now in
    let y = c.settle_told-position.new.self in
    let q = c.begin-turn.new.pass in
    let b = c.args.begun.now in
    let stands = stood c.begin-turn.result.value.value x (seen q) c.deref_mut.ensures.value t.value in
    by_test _ (has_open b.id (entries x.column.journal))
    (λ shown. may cell c.args.by q t.turn.0 x y (told_settle c.args.by b.id c.args.outcome) stands
    (c.settle_told-position.ensures.event shown) refl)
    (λ off. inl (c.settle_told-position.ensures.look off (seen q) stands))

pub returns-clause-pass : goal.returns-clause-pass
returns-clause-pass g c =
    at_rest c.begin-turn.result.cell.now c.args.cell.now c.args.by c.begin-turn.new.pass c.end.new.pass
    c.begin-turn.ensures.turn.1 c.begin-turn.ensures.turn.0 c.end.ensures.holder

pub returns-clause-at : goal.returns-clause-at
returns-clause-at g c =
    let cell = c.args.cell.now in
    let t = c.begin-turn.ensures in
    let x = c.deref_mut.result.now in
    let y = c.settle_told-position.new.self in
    let q = c.begin-turn.new.pass in
    let r = c.end.new.pass in
    let b = c.args.begun.now in
    let e = told_settle c.args.by b.id c.args.outcome in
    let stands = stood c.begin-turn.result.value.value x (seen q) c.deref_mut.ensures.value t.value in
    by_test _ (has_open b.id (entries x.column.journal))
    (λ shown.
    let w = c.end.ensures.event e (adds cell c.args.by q t.turn.0 x y e stands (c.settle_told-position.ensures.event shown) refl) in
    at_event c.end.result (length (seen q)) _ _ w.0 (makes c.args.by e c.args.pass.now q r c.end.result t.more w))
    (λ off.
    let w = c.end.ensures.look (c.settle_told-position.ensures.look off (seen q) stands) in
    at_look c.end.result (length (seen q)) _ _ w.0
    (saw c.args.by c.args.pass.now q r t.more w.1.0, ap (λ (l : List Told). length l) (sym w.1.0)))

pub returns-clause-closed : goal.returns-clause-closed
returns-clause-closed g c =
    ap (λ (l : List Entry). open_entry c.args.begun.now.id (entries l)) (sym c.end.ensures.value.0.same)
    ∙ c.settle_told-position.ensures.closed

pub returns-clause-stands : goal.returns-clause-stands
returns-clause-stands g c = λ f final.
    subst (λ (l : List Entry). IsFinal l c.args.begun.now.id f) c.end.ensures.value.0.same (c.settle_told-position.ensures.stands f final)

pub returns-clause-position : goal.returns-clause-position
returns-clause-position g c =
    c.settle_told-position.ensures.position
    ∙ ap (λ (l : List Entry). place_after l c.args.begun.now.id c.args.outcome) c.end.ensures.value.0.same
