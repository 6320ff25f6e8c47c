use Rattle.std.proofs.Common.{ap, sym, subst, ◌∙◌, inl, length, List}
use Rattle.std.proofs.lemmas.List.{length-map}
use Rattle.chain_store.specs.Proposals.{IsMarkedOpen}
use Rattle.stamp_board.specs.Seats.{seen as seat_seen}
use Rattle.turn_cell.specs.Cells.{seen}
use Rattle.chain_store.specs.declared.told.Tag.{Tag}
use Rattle.chain_store.specs.declared.told.Told.{Told}
use Rattle.std.specs.Prelude.{IfSome}
use Rattle.chain_store.specs.Rows.{IsKnownBelow}
use Rattle.chain_store.specs.Passes.{tag_in}
use Rattle.chain_store.proofs.Turning.{stood, tagged, saw}
use Rattle.chain_store.proofs.rows.below_in.Goals as goal

pub below_told-below-requires-clause-seats : goal.below_told-below-requires-clause-seats
below_told-below-requires-clause-seats g c =
    let is = tagged c.begin-turn.result.value.value c.deref_mut.result.now (tag_in c.args.cell.now)
    c.deref_mut.ensures.value c.begin-turn.ensures.tag in
    let k = c.requires.cell in
    ((ap (λ (t : Tag). t.board) is ∙ k.1, ap (λ (t : Tag). t.size) is ∙ k.0), c.requires.seat)

pub below_told-below-requires-clause-stands : goal.below_told-below-requires-clause-stands
below_told-below-requires-clause-stands g c =
    let q = c.begin-turn.new.pass in (
      seen q,
      stood c.begin-turn.result.value.value c.deref_mut.result.now (seen q) c.deref_mut.ensures.value
          c.begin-turn.ensures.value,
    )

pub end-requires-clause-value : goal.end-requires-clause-value
end-requires-clause-value g c =
    let q = c.begin-turn.new.pass in
    inl (c.below_told-below.ensures.stays (seen q)
    (stood c.begin-turn.result.value.value c.deref_mut.result.now (seen q) c.deref_mut.ensures.value
    c.begin-turn.ensures.value))

pub returns-clause-known : goal.returns-clause-known
returns-clause-known g c =
    let is = tagged c.begin-turn.result.value.value c.deref_mut.result.now (tag_in c.args.cell.now)
    c.deref_mut.ensures.value c.begin-turn.ensures.tag in
    subst (λ (t : Tag). IfSome c.below_told-below.result.first
    (IsKnownBelow c.args.board.now.size t.region t.colour (seat_seen c.below_told-below.new.seat))) is
    c.below_told-below.ensures.known

pub returns-clause-look : goal.returns-clause-look
returns-clause-look g c =
    let q = c.begin-turn.new.pass in
    let r = c.end.new.pass in
    let st = stood c.begin-turn.result.value.value c.deref_mut.result.now (seen q) c.deref_mut.ensures.value
    c.begin-turn.ensures.value in
    let w = c.end.ensures.look (c.below_told-below.ensures.stays (seen q) st) in (
      saw c.args.by c.args.pass.now q r c.begin-turn.ensures.more w.1.0,
      c.below_told-below.ensures.events ∙ ap length st.0.same ∙ length-map (seen q) (λ (t : Told). t.entry)
          ∙ ap (λ (l : List Told). length l) (sym w.1.0),
    )

pub returns-clause-marked : goal.returns-clause-marked
returns-clause-marked g c =
    let is = tagged c.begin-turn.result.value.value c.deref_mut.result.now (tag_in c.args.cell.now)
    c.deref_mut.ensures.value c.begin-turn.ensures.tag in
    subst (λ (t : Tag). IfSome c.below_told-below.result.first
    (IsMarkedOpen c.args.board.now.size t.colour (seat_seen c.args.seat.now) (seat_seen c.below_told-below.new.seat)
    (seen c.end.new.pass))) is (c.below_told-below.ensures.marked (seen c.end.new.pass) c.end.ensures.value)
