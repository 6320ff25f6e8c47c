use Rattle.std.proofs.Common.{◌<◌, ◌≢◌, sym, subst, inl}
use Rattle.turn_cell.specs.Cells.{seen}
use Rattle.chain_store.specs.declared.told.Tag.{Tag}
use Rattle.chain_store.specs.Passes.{tag_in}
use Rattle.chain_store.proofs.Turning.{at_rest, stood, tagged, saw}
use Rattle.chain_store.proofs.changes.feed_in.Goals as goal

pub feed-fed-requires-clause-other : goal.feed-fed-requires-clause-other
feed-fed-requires-clause-other g c =
    let is = tagged c.begin-turn.result.value.value c.deref_mut.result.now (tag_in c.args.cell.now)
    c.deref_mut.ensures.value c.begin-turn.ensures.tag in
    subst (λ (t : Tag). c.args.region ≢ t.region) (sym is) c.requires.other

pub feed-fed-requires-clause-region : goal.feed-fed-requires-clause-region
feed-fed-requires-clause-region g c =
    let is = tagged c.begin-turn.result.value.value c.deref_mut.result.now (tag_in c.args.cell.now)
    c.deref_mut.ensures.value c.begin-turn.ensures.tag in
    subst (λ (t : Tag). c.args.region < t.regions) (sym is) c.requires.region

pub end-requires-clause-value : goal.end-requires-clause-value
end-requires-clause-value g c =
    let t = c.begin-turn.ensures in
    let z = c.begin-turn.result.value.value in
    let x = c.deref_mut.result.now in
    let q = c.begin-turn.new.pass in
    let stands = stood z x (seen q) c.deref_mut.ensures.value t.value in
    inl (c.feed-fed.ensures.stays (seen q) stands)

pub returns-clause-pass : goal.returns-clause-pass
returns-clause-pass g c =
    at_rest c.begin-turn.result.cell.now c.args.cell.now c.args.by c.begin-turn.new.pass c.end.new.pass
    c.begin-turn.ensures.turn.1 c.begin-turn.ensures.turn.0 c.end.ensures.holder

pub returns-clause-sees : goal.returns-clause-sees
returns-clause-sees g c =
    let t = c.begin-turn.ensures in
    let z = c.begin-turn.result.value.value in
    let x = c.deref_mut.result.now in
    let q = c.begin-turn.new.pass in
    let stands = stood z x (seen q) c.deref_mut.ensures.value t.value in
    saw c.args.by c.args.pass.now q c.end.new.pass t.more (c.end.ensures.look (c.feed-fed.ensures.stays (seen q) stands)).1.0
