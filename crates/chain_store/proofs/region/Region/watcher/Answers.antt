use Rattle.std.proofs.Common.{◌≡◌, Some, [], refl, ap, sym, subst, ◌∙◌, inl, append-nil}
use Rattle.turn_cell.specs.Histories.{made_by}
use Rattle.turn_cell.specs.Cells.{seen, IsReady}
use Rattle.chain_store.specs.Histories.{maker}
use Rattle.chain_store.specs.Columns.{tag_of}
use Rattle.chain_store.specs.Passes.{ColumnCell}
use Rattle.chain_store.specs.Holds.{passes_of}
use Rattle.chain_store.proofs.Holding.{holder, reached, same_seat}
use Rattle.chain_store.proofs.ByColour.{TurnOf, turned_hold}
use Rattle.chain_store.proofs.Notes.{split_holder, alike_set}
use Rattle.chain_store.proofs.region.Region.watcher.Goals as goal

pub split-requires : goal.split-requires
split-requires c =
    (holder c.args.self.now c.args.hold.now c.args.colour c.column.result.now c.index_mut-pass.result.now c.requires.hold
    c.requires.colour c.column.ensures c.index_mut-pass.ensures.value).ready

pub returns-clause-hold : goal.returns-clause-hold
returns-clause-hold c =
    let r = c.args.self.now in
    let h = c.args.hold.now in
    let k = c.args.colour in
    let cell = c.column.result.now in
    let p = c.index_mut-pass.result.now in
    let q = c.split.new.pass in
    let here = c.index_mut-pass.ensures.value in
    let kept = c.split.ensures.pass in
    let same : seen q ≡ seen p = kept.1.0 in
    let turn : TurnOf r h k cell p q = record {
      hold = c.requires.hold;
      inside = c.requires.colour;
      column = c.column.ensures;
      pass = here;
    } in
    turned_hold turn h.desks
    (split_holder cell h.passes.number p q
    (holder r h k cell p c.requires.hold c.requires.colour c.column.ensures here) kept) c.requires.hold.desks
    (inl (record { more = ([], append-nil (seen p) ∙ sym same); none = ap (made_by maker h.passes.number) same }))

pub returns-clause-same : goal.returns-clause-same
returns-clause-same c =
    let r = c.args.self.now in
    let h = c.args.hold.now in
    let k = c.args.colour in
    let p = c.index_mut-pass.result.now in record {
      number = refl;
      seen = alike_set (passes_of h) k p c.split.new.pass
          (reached r h k p c.requires.hold c.requires.colour c.index_mut-pass.ensures.value) c.split.ensures.pass.1.0;
      seat = same_seat h.seat;
      view = refl;
      next = refl;
    }

pub returns-clause-pass : goal.returns-clause-pass
returns-clause-pass c cell at =
    let two : Some c.column.result.now ≡ Some cell = sym c.column.ensures.there ∙ at.there in
    let same : c.column.result.now ≡ cell = cc (two) in
    subst (λ (z : ColumnCell). IsReady tag_of z c.split.result) same c.split.ensures.ready
