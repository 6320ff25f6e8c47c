use Rattle.std.proofs.Common.{◌≡◌, ◌<◌, ◌≢◌, ◌+◌, ◌∙◌, ℕ, List, length, ap, sym, subst, inl, arith}
use Rattle.turn_cell.specs.Cells.{seen}
use Rattle.chain_store.specs.declared.told.Tag.{Tag}
use Rattle.chain_store.specs.Passes.{tag_in}
use Rattle.chain_store.proofs.Turning.{at_rest, stood, tagged, saw}
use Rattle.chain_store.specs.declared.told.Told.{Told}
use Rattle.chain_store.specs.Moves.{held_in}
use Rattle.column.specs.Columns.{held_of}
use Rattle.chain_store.specs.Columns.{waiting_of}
use Rattle.chain_store.proofs.Passing.{ok_as}
use Rattle.chain_store.proofs.Moved.{held_is}
use Rattle.chain_store.proofs.changes.drain_in.Goals as goal

pub drain-there-requires-clause-other : goal.drain-there-requires-clause-other
drain-there-requires-clause-other g c =
    let is = tagged c.begin-turn.result.value.value c.deref_mut.result.now (tag_in c.args.cell.now)
    c.deref_mut.ensures.value c.begin-turn.ensures.tag in
    subst (λ (t : Tag). c.args.region ≢ t.region) (sym is) c.requires.other

pub drain-there-requires-clause-region : goal.drain-there-requires-clause-region
drain-there-requires-clause-region g c =
    let is = tagged c.begin-turn.result.value.value c.deref_mut.result.now (tag_in c.args.cell.now)
    c.deref_mut.ensures.value c.begin-turn.ensures.tag in
    subst (λ (t : Tag). c.args.region < t.regions) (sym is) c.requires.region

pub end-requires-clause-value : goal.end-requires-clause-value
end-requires-clause-value g c =
    let t = c.begin-turn.ensures in
    let z = c.begin-turn.result.value.value in
    let x = c.deref_mut.result.now in
    let q = c.begin-turn.new.pass in
    let stands = stood z x (seen q) c.deref_mut.ensures.value t.value in
    inl (c.drain-there.ensures.stays (seen q) stands)

pub returns-clause-pass : goal.returns-clause-pass
returns-clause-pass g c =
    at_rest c.begin-turn.result.cell.now c.args.cell.now c.args.by c.begin-turn.new.pass c.end.new.pass
    c.begin-turn.ensures.turn.1 c.begin-turn.ensures.turn.0 c.end.ensures.holder

pub returns-clause-sees : goal.returns-clause-sees
returns-clause-sees g c =
    let t = c.begin-turn.ensures in
    let z = c.begin-turn.result.value.value in
    let x = c.deref_mut.result.now in
    let q = c.begin-turn.new.pass in
    let stands = stood z x (seen q) c.deref_mut.ensures.value t.value in
    saw c.args.by c.args.pass.now q c.end.new.pass t.more (c.end.ensures.look (c.drain-there.ensures.stays (seen q) stands)).1.0

pub returns-clause-count : goal.returns-clause-count
returns-clause-count g c =
    let tag = tag_in c.args.cell.now in
    let y = c.drain-there.new.self in
    let region = c.args.region in
    let t = c.begin-turn.ensures in
    let z = c.begin-turn.result.value.value in
    let x = c.deref_mut.result.now in
    let q = c.begin-turn.new.pass in
    let stands = stood z x (seen q) c.deref_mut.ensures.value t.value in
    let st = c.drain-there.ensures.stays (seen q) stands in
    let is = tagged z x tag c.deref_mut.ensures.value t.tag in
    let held = held_is y tag (seen q) region st (c.drain-there.ensures.tag ∙ is)
    ∙ ap (λ (l : List Told). held_in tag l region) (sym (c.end.ensures.look st).1.0) in
    ok_as c.drain-there.result (λ (n : ℕ). n ≡ held_of y.column region + length (waiting_of y region)) _
    (λ n e. omega (arith, e, held)) c.drain-there.ensures.count
