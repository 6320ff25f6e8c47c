use Rattle.std.proofs.Common.{ℕ, ◌≡◌, refl, ap, sym, subst, ◌∙◌, inl, true, length, List}
use Rattle.log_node.specs.Sets.{has}
use Rattle.log_node.specs.declared.marks.Mark.TheVariants as marks
use Rattle.stamp_board.specs.Views.{KnowsMark}
use Rattle.stamp_board.specs.Seats.{seen as seat_seen}
use Rattle.turn_cell.specs.Cells.{seen}
use Rattle.chain_store.specs.declared.told.Tag.{Tag}
use Rattle.chain_store.specs.declared.told.Told.{Told}
use Rattle.chain_store.specs.Rows.{IsBegunRow, KnowsRow}
use Rattle.log_node.specs.declared.node.Node.{Node}
use Rattle.log_node.specs.Seen.{BegunAppend}
use Rattle.stamp_board.specs.declared.view.Size.{Size}
use Rattle.stamp_board.specs.declared.view.View.{View}
use Rattle.chain_store.specs.declared.seated.Seated.{Seated}
use Rattle.chain_store.specs.Columns.{told_propose, tag_of, Gains}
use Rattle.chain_store.specs.Passes.{tag_in}
use Rattle.chain_store.specs.Proposals.{HasProposal}
use Rattle.chain_store.proofs.Turning.{at_rest, stood, tagged, may, adds, saw, makes}
use Rattle.chain_store.proofs.Heard.{at_event, at_look}
use Rattle.chain_store.proofs.rows.propose_in.Goals as goal

pub propose_told-requires-clause-seats : goal.propose_told-requires-clause-seats
propose_told-requires-clause-seats g c =
    let is = tagged c.begin-turn.result.value.value c.deref_mut.result.now (tag_in c.args.cell.now)
    c.deref_mut.ensures.value c.begin-turn.ensures.tag in
    let k = c.requires.cell in
    ((ap (λ (t : Tag). t.board) is ∙ k.1, ap (λ (t : Tag). t.size) is ∙ k.0), c.requires.seat)

pub propose_told-requires-clause-begun : goal.propose_told-requires-clause-begun
propose_told-requires-clause-begun g c =
    let is = tagged c.begin-turn.result.value.value c.deref_mut.result.now (tag_in c.args.cell.now)
    c.deref_mut.ensures.value c.begin-turn.ensures.tag in
    subst (λ (t : Tag). KnowsRow c.args.board.now.size t.region (seat_seen c.args.seat.now) c.args.begun.now) (sym is)
    c.requires.begun

pub propose_told-requires-clause-colour : goal.propose_told-requires-clause-colour
propose_told-requires-clause-colour g c =
    let is = tagged c.begin-turn.result.value.value c.deref_mut.result.now (tag_in c.args.cell.now)
    c.deref_mut.ensures.value c.begin-turn.ensures.tag in
    subst (λ (t : Tag). has c.args.begun.now.colours t.colour ≡ true) (sym is) c.requires.colour

-- the entry that was made, with the colour of the cell's tag
gained : (x y : Seated) (t : Tag) (by : ℕ) (node : Node) (stamp : ℕ) → tag_of x ≡ t
    → Gains x y (told_propose x.column.colour by node stamp) → Gains x y (told_propose t.colour by node stamp)
gained x y t by node stamp is g = subst (λ (u : Tag). Gains x y (told_propose u.colour by node stamp)) is g

-- the proposal that stands, with the region and the colour of the cell's tag
tagged_proposal : (x : Seated) (t : Tag) (size : Size) (v : View) (b : BegunAppend) (log : List Told) (n : ℕ)
    → tag_of x ≡ t → HasProposal size x.column.region x.column.colour v b log n
    → HasProposal size t.region t.colour v b log n
tagged_proposal x t size v b log n is h = subst (λ (u : Tag). HasProposal size u.region u.colour v b log n) is h

pub end-requires-clause-value : goal.end-requires-clause-value
end-requires-clause-value g c =
    let cell = c.args.cell.now in
    let t = c.begin-turn.ensures in
    let x = c.deref_mut.result.now in
    let q = c.begin-turn.new.pass in
    let same = c.deref_mut.ensures.value in
    let z = c.begin-turn.result.value.value in
    let step = c.in-Added.ensures.step in
    let e = told_propose (tag_in cell).colour c.args.by step.0 c.in-Added.number in
    may cell c.args.by q t.turn.0 x c.propose_told.new.self e (stood z x (seen q) same t.value)
    (gained x c.propose_told.new.self (tag_in cell) c.args.by step.0 c.in-Added.number (tagged z x (tag_in cell) same t.tag)
    step.2) refl

pub returns-in-Added-clause-pass : goal.returns-in-Added-clause-pass
returns-in-Added-clause-pass g c =
    at_rest c.begin-turn.result.cell.now c.args.cell.now c.args.by c.begin-turn.new.pass c.end.new.pass
    c.begin-turn.ensures.turn.1 c.begin-turn.ensures.turn.0 c.end.ensures.holder

pub returns-in-Added-clause-at : goal.returns-in-Added-clause-at
returns-in-Added-clause-at g c =
    let cell = c.args.cell.now in
    let t = c.begin-turn.ensures in
    let x = c.deref_mut.result.now in
    let q = c.begin-turn.new.pass in
    let same = c.deref_mut.ensures.value in
    let z = c.begin-turn.result.value.value in
    let step = c.in-Added.ensures.step in
    let is = tagged z x (tag_in cell) same t.tag in
    let e = told_propose (tag_in cell).colour c.args.by step.0 c.in-Added.number in
    let w = c.end.ensures.event e
    (adds cell c.args.by q t.turn.0 x c.propose_told.new.self e (stood z x (seen q) same t.value)
    (gained x c.propose_told.new.self (tag_in cell) c.args.by step.0 c.in-Added.number is step.2) refl) in
    at_event c.end.result (length (seen q)) _ _ w.0 (
      step.0,
      c.in-Added.number,
      subst (λ (u : Tag). IsBegunRow c.args.board.now.size u.region (seat_seen c.propose_told.new.seat) c.args.begun.now step.0)
          is step.1,
      refl,
      makes c.args.by e c.args.pass.now q c.end.new.pass c.end.result t.more w,
    )

pub returns-in-Added-clause-known : goal.returns-in-Added-clause-known
returns-in-Added-clause-known g c =
    let is = tagged c.begin-turn.result.value.value c.deref_mut.result.now (tag_in c.args.cell.now)
    c.deref_mut.ensures.value c.begin-turn.ensures.tag in
    subst (λ (t : Tag). KnowsMark (seat_seen c.propose_told.new.seat) c.args.begun.now.row t.colour
    (marks.Number c.in-Added.number)) is c.in-Added.ensures.known

pub returns-in-Looked-clause-known : goal.returns-in-Looked-clause-known
returns-in-Looked-clause-known g c =
    let is = tagged c.begin-turn.result.value.value c.deref_mut.result.now (tag_in c.args.cell.now)
    c.deref_mut.ensures.value c.begin-turn.ensures.tag in
    subst (λ (t : Tag). KnowsMark (seat_seen c.propose_told.new.seat) c.args.begun.now.row t.colour c.in-Looked.mark) is
    c.in-Looked.ensures.known

pub returns-in-Looked-clause-ended : goal.returns-in-Looked-clause-ended
returns-in-Looked-clause-ended g c = λ fenced.
    let is = tagged c.begin-turn.result.value.value c.deref_mut.result.now (tag_in c.args.cell.now)
    c.deref_mut.ensures.value c.begin-turn.ensures.tag in
    let h = c.in-Looked.ensures.ended (seen c.end-in-Looked.new.pass) c.end-in-Looked.ensures.value fenced in (
      h.0,
      subst (λ (u : Tag). IsBegunRow c.args.board.now.size u.region (seat_seen c.propose_told.new.seat) c.args.begun.now h.0)
          is h.1,
      h.2,
    )

pub end-requires-in-Looked-clause-value : goal.end-requires-in-Looked-clause-value
end-requires-in-Looked-clause-value g c =
    let q = c.begin-turn.new.pass in
    inl (c.in-Looked.ensures.step (seen q)
    (stood c.begin-turn.result.value.value c.deref_mut.result.now (seen q) c.deref_mut.ensures.value
    c.begin-turn.ensures.value))

pub returns-in-Looked-clause-pass : goal.returns-in-Looked-clause-pass
returns-in-Looked-clause-pass g c =
    at_rest c.begin-turn.result.cell.now c.args.cell.now c.args.by c.begin-turn.new.pass c.end-in-Looked.new.pass
    c.begin-turn.ensures.turn.1 c.begin-turn.ensures.turn.0 c.end-in-Looked.ensures.holder

pub returns-in-Looked-clause-at : goal.returns-in-Looked-clause-at
returns-in-Looked-clause-at g c =
    let q = c.begin-turn.new.pass in
    let r = c.end-in-Looked.new.pass in
    let w = c.end-in-Looked.ensures.look
    (c.in-Looked.ensures.step (seen q)
    (stood c.begin-turn.result.value.value c.deref_mut.result.now (seen q) c.deref_mut.ensures.value
    c.begin-turn.ensures.value)) in
    at_look c.end-in-Looked.result (length (seen q)) _ _ w.0
    (saw c.args.by c.args.pass.now q r c.begin-turn.ensures.more w.1.0, ap (λ (l : List Told). length l) (sym w.1.0))

pub returns-in-Added-clause-entered : goal.returns-in-Added-clause-entered
returns-in-Added-clause-entered g c = λ n is.
    tagged_proposal c.deref_mut.result.now (tag_in c.args.cell.now) c.args.board.now.size
    (seat_seen c.propose_told.new.seat) c.args.begun.now (seen c.end.new.pass) n
    (tagged c.begin-turn.result.value.value c.deref_mut.result.now (tag_in c.args.cell.now) c.deref_mut.ensures.value
    c.begin-turn.ensures.tag)
    (c.in-Added.ensures.entered (seen c.end.new.pass) c.end.ensures.value n is)

pub returns-in-Looked-clause-entered : goal.returns-in-Looked-clause-entered
returns-in-Looked-clause-entered g c = λ n is.
    tagged_proposal c.deref_mut.result.now (tag_in c.args.cell.now) c.args.board.now.size
    (seat_seen c.propose_told.new.seat) c.args.begun.now (seen c.end-in-Looked.new.pass) n
    (tagged c.begin-turn.result.value.value c.deref_mut.result.now (tag_in c.args.cell.now) c.deref_mut.ensures.value
    c.begin-turn.ensures.tag)
    (c.in-Looked.ensures.entered (seen c.end-in-Looked.new.pass) c.end-in-Looked.ensures.value n is)
