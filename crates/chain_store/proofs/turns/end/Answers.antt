use Rattle.std.proofs.Common.{refl, ◌++◌, ◌∷◌, [], inl, inr}
use Rattle.turn_cell.specs.Cells.{seen}
use Rattle.chain_store.specs.Passes.{tag_in}
use Rattle.chain_store.proofs.Passing.{ids_of}
use Rattle.chain_store.proofs.Turning.{rests, rests_with, maker_is, lawful_at}
use Rattle.chain_store.proofs.turns.end.Goals as goal

pub returns-clause-holder : goal.returns-clause-holder
returns-clause-holder c = λ n turn.
    let cell = c.args.turn.cell.now in
    let q = c.args.pass.now in
    let r = c.put.new.pass in
    let x = c.args.turn.value.value in
    let u = c.put.ensures in
    elim c.requires.value [
      | inl stands ↦
          rests cell cell n q r refl turn u.ready (u.look stands).1
          (lawful_at x c.deref.result.now (tag_in cell) (seen q) c.deref.ensures stands c.requires.tag
          c.agrees.ensures.lawful)
          (ids_of x (seen q) stands)
      | inr more ↦
          rests_with cell cell n q r refl more.0 (maker_is n q x more.0 _ turn.mine more.1) turn u.ready
          (u.event more.0 more.1).1
          (lawful_at x c.deref.result.now (tag_in cell) (seen q ++ more.0 ∷ []) c.deref.ensures more.1.1 c.requires.tag
          c.agrees.ensures.lawful)
          (ids_of x (seen q ++ more.0 ∷ []) more.1.1)
    ]
