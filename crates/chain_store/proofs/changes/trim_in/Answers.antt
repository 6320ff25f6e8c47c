use Rattle.std.proofs.Common.{◌<◌, refl, ap, sym, subst, ◌∙◌, inl}
use Rattle.turn_cell.specs.Cells.{seen}
use Rattle.col_core.specs.declared.Event.TheVariants.{Trim}
use Rattle.chain_store.specs.declared.told.Tag.{Tag}
use Rattle.chain_store.specs.Histories.{entries_in}
use Rattle.chain_store.specs.Columns.{told_event}
use Rattle.chain_store.specs.Passes.{tag_in}
use Rattle.chain_store.proofs.Turning.{at_rest, stood, tagged, saw, may, adds}
use Rattle.chain_store.proofs.Moved.{made_at, base_at}
use Rattle.chain_store.proofs.changes.trim_in.Goals as goal

pub trim-requires : goal.trim-requires
trim-requires g c =
    let is = tagged c.begin-turn.result.value.value c.deref_mut.result.now (tag_in c.args.cell.now)
    c.deref_mut.ensures.value c.begin-turn.ensures.tag in
    record { maker = subst (λ (t : Tag). c.args.by < t.size.clients) (sym is) c.requires.maker }

pub end-requires-clause-value : goal.end-requires-clause-value
end-requires-clause-value g c =
    let cell = c.args.cell.now in
    let t = c.begin-turn.ensures in
    let z = c.begin-turn.result.value.value in
    let x = c.deref_mut.result.now in
    let y = c.trim.new.self in
    let p = c.args.pass.now in
    let q = c.begin-turn.new.pass in
    let stands = stood z x (seen q) c.deref_mut.ensures.value t.value in
    let is = tagged z x (tag_in cell) c.deref_mut.ensures.value t.tag in
    let e = told_event c.args.by (Trim c.args.counts) in
    may cell c.args.by q t.turn.0 x y e stands c.in-Ok.ensures.ok refl

pub returns-in-Ok-clause-pass : goal.returns-in-Ok-clause-pass
returns-in-Ok-clause-pass g c =
    at_rest c.begin-turn.result.cell.now c.args.cell.now c.args.by c.begin-turn.new.pass c.end.new.pass
    c.begin-turn.ensures.turn.1 c.begin-turn.ensures.turn.0 c.end.ensures.holder

pub returns-in-Ok-clause-ok : goal.returns-in-Ok-clause-ok
returns-in-Ok-clause-ok g c =
    let cell = c.args.cell.now in
    let t = c.begin-turn.ensures in
    let z = c.begin-turn.result.value.value in
    let x = c.deref_mut.result.now in
    let y = c.trim.new.self in
    let p = c.args.pass.now in
    let q = c.begin-turn.new.pass in
    let stands = stood z x (seen q) c.deref_mut.ensures.value t.value in
    let is = tagged z x (tag_in cell) c.deref_mut.ensures.value t.tag in
    let r = c.end.new.pass in
    let e = told_event c.args.by (Trim c.args.counts) in
    let w = c.end.ensures.event e (adds cell c.args.by q t.turn.0 x y e stands c.in-Ok.ensures.ok refl) in (
      (made_at cell c.args.by p q r c.end.result t.turn.0 t.more x y e stands refl c.end.ensures.look
          c.end.ensures.event c.in-Ok.ensures.ok).0,
      c.in-Ok.ensures.base
          ∙ base_at y (tag_in cell) (seen r)
          ((c.in-Ok.ensures.ok.2 (seen q) stands).0.same ∙ ap entries_in (sym w.1.0)) (c.in-Ok.ensures.tag ∙ is),
    )

pub end-requires-in-Err-clause-value : goal.end-requires-in-Err-clause-value
end-requires-in-Err-clause-value g c =
    let cell = c.args.cell.now in
    let t = c.begin-turn.ensures in
    let z = c.begin-turn.result.value.value in
    let x = c.deref_mut.result.now in
    let y = c.trim.new.self in
    let p = c.args.pass.now in
    let q = c.begin-turn.new.pass in
    let stands = stood z x (seen q) c.deref_mut.ensures.value t.value in
    let is = tagged z x (tag_in cell) c.deref_mut.ensures.value t.tag in
    inl (c.in-Err.ensures.err (seen q) stands)

pub returns-in-Err-clause-pass : goal.returns-in-Err-clause-pass
returns-in-Err-clause-pass g c =
    at_rest c.begin-turn.result.cell.now c.args.cell.now c.args.by c.begin-turn.new.pass c.end-in-Err.new.pass
    c.begin-turn.ensures.turn.1 c.begin-turn.ensures.turn.0 c.end-in-Err.ensures.holder

pub returns-in-Err-clause-err : goal.returns-in-Err-clause-err
returns-in-Err-clause-err g c =
    let cell = c.args.cell.now in
    let t = c.begin-turn.ensures in
    let z = c.begin-turn.result.value.value in
    let x = c.deref_mut.result.now in
    let y = c.trim.new.self in
    let p = c.args.pass.now in
    let q = c.begin-turn.new.pass in
    let stands = stood z x (seen q) c.deref_mut.ensures.value t.value in
    let is = tagged z x (tag_in cell) c.deref_mut.ensures.value t.tag in
    saw c.args.by p q c.end-in-Err.new.pass t.more (c.end-in-Err.ensures.look (c.in-Err.ensures.err (seen q) stands)).1.0
