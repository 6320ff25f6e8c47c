use Rattle.std.proofs.Common.{◌<◌, ◌≢◌, refl, sym, subst, inl, min, length}
use Rattle.turn_cell.specs.Cells.{seen}
use Rattle.col_core.specs.declared.Event.TheVariants.{Give}
use Rattle.col_core.specs.History.{line}
use Rattle.chain_store.specs.declared.told.Tag.{Tag}
use Rattle.chain_store.specs.Columns.{told_event}
use Rattle.chain_store.specs.Passes.{tag_in}
use Rattle.chain_store.proofs.Turning.{at_rest, stood, tagged, saw, may}
use Rattle.chain_store.proofs.Moved.{made_at, gives_at}
use Rattle.chain_store.proofs.changes.give_in.Goals as goal

pub give-requires-clause-maker : goal.give-requires-clause-maker
give-requires-clause-maker g c =
    let is = tagged c.begin-turn.result.value.value c.deref_mut.result.now (tag_in c.args.cell.now)
    c.deref_mut.ensures.value c.begin-turn.ensures.tag in
    subst (λ (t : Tag). c.args.by < t.size.clients) (sym is) c.requires.maker

pub give-requires-clause-other : goal.give-requires-clause-other
give-requires-clause-other g c =
    let is = tagged c.begin-turn.result.value.value c.deref_mut.result.now (tag_in c.args.cell.now)
    c.deref_mut.ensures.value c.begin-turn.ensures.tag in
    subst (λ (t : Tag). c.args.region ≢ t.region) (sym is) c.requires.other

pub give-requires-clause-region : goal.give-requires-clause-region
give-requires-clause-region g c =
    let is = tagged c.begin-turn.result.value.value c.deref_mut.result.now (tag_in c.args.cell.now)
    c.deref_mut.ensures.value c.begin-turn.ensures.tag in
    subst (λ (t : Tag). c.args.region < t.regions) (sym is) c.requires.region

pub end-requires-clause-value : goal.end-requires-clause-value
end-requires-clause-value g c =
    let cell = c.args.cell.now in
    let t = c.begin-turn.ensures in
    let z = c.begin-turn.result.value.value in
    let x = c.deref_mut.result.now in
    let y = c.give.new.self in
    let p = c.args.pass.now in
    let q = c.begin-turn.new.pass in
    let stands = stood z x (seen q) c.deref_mut.ensures.value t.value in
    let is = tagged z x (tag_in cell) c.deref_mut.ensures.value t.tag in
    let e = told_event c.args.by (Give c.args.region (min c.args.from (length (line x.column.journal)))) in
    may cell c.args.by q t.turn.0 x y e stands c.in-Ok.ensures.ok refl

pub returns-in-Ok-clause-pass : goal.returns-in-Ok-clause-pass
returns-in-Ok-clause-pass g c =
    at_rest c.begin-turn.result.cell.now c.args.cell.now c.args.by c.begin-turn.new.pass c.end.new.pass
    c.begin-turn.ensures.turn.1 c.begin-turn.ensures.turn.0 c.end.ensures.holder

pub returns-in-Ok-clause-ok : goal.returns-in-Ok-clause-ok
returns-in-Ok-clause-ok g c =
    let cell = c.args.cell.now in
    let t = c.begin-turn.ensures in
    let z = c.begin-turn.result.value.value in
    let x = c.deref_mut.result.now in
    let y = c.give.new.self in
    let p = c.args.pass.now in
    let q = c.begin-turn.new.pass in
    let stands = stood z x (seen q) c.deref_mut.ensures.value t.value in
    let is = tagged z x (tag_in cell) c.deref_mut.ensures.value t.tag in
    let r = c.end.new.pass in
    let e = told_event c.args.by (Give c.args.region (min c.args.from (length (line x.column.journal)))) in
    let m = made_at cell c.args.by p q r c.end.result t.turn.0 t.more x y e stands refl c.end.ensures.look
    c.end.ensures.event c.in-Ok.ensures.ok in
    gives_at x c.args.by c.args.region c.args.from c.in-Ok.lined p q r c.end.result stands c.in-Ok.ensures.lined m.0 m.1

pub end-requires-in-Err-clause-value : goal.end-requires-in-Err-clause-value
end-requires-in-Err-clause-value g c =
    let cell = c.args.cell.now in
    let t = c.begin-turn.ensures in
    let z = c.begin-turn.result.value.value in
    let x = c.deref_mut.result.now in
    let y = c.give.new.self in
    let p = c.args.pass.now in
    let q = c.begin-turn.new.pass in
    let stands = stood z x (seen q) c.deref_mut.ensures.value t.value in
    let is = tagged z x (tag_in cell) c.deref_mut.ensures.value t.tag in
    inl (c.in-Err.ensures.err (seen q) stands)

pub returns-in-Err-clause-pass : goal.returns-in-Err-clause-pass
returns-in-Err-clause-pass g c =
    at_rest c.begin-turn.result.cell.now c.args.cell.now c.args.by c.begin-turn.new.pass c.end-in-Err.new.pass
    c.begin-turn.ensures.turn.1 c.begin-turn.ensures.turn.0 c.end-in-Err.ensures.holder

pub returns-in-Err-clause-err : goal.returns-in-Err-clause-err
returns-in-Err-clause-err g c =
    let cell = c.args.cell.now in
    let t = c.begin-turn.ensures in
    let z = c.begin-turn.result.value.value in
    let x = c.deref_mut.result.now in
    let y = c.give.new.self in
    let p = c.args.pass.now in
    let q = c.begin-turn.new.pass in
    let stands = stood z x (seen q) c.deref_mut.ensures.value t.value in
    let is = tagged z x (tag_in cell) c.deref_mut.ensures.value t.tag in
    saw c.args.by p q c.end-in-Err.new.pass t.more (c.end-in-Err.ensures.look (c.in-Err.ensures.err (seen q) stands)).1.0
