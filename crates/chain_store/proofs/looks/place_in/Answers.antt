use Rattle.std.proofs.Common.{inl, ap, ◌∙◌, List}
use Rattle.std.specs.List.{position}
use Rattle.log_node.specs.Order.{same_key}
use Rattle.col_core.specs.declared.Entry.{Entry}
use Rattle.col_core.specs.History.{line}
use Rattle.chain_store.proofs.Turning.{at_rest}
use Rattle.chain_store.proofs.Moved.{looks_at, journal_at}
use Rattle.chain_store.proofs.looks.place_in.Goals as goal

pub end-requires-clause-value : goal.end-requires-clause-value
end-requires-clause-value g c = inl c.begin-turn.ensures.value

pub returns-clause-pass : goal.returns-clause-pass
returns-clause-pass g c =
    at_rest c.begin-turn.result.cell.now c.args.cell.now c.args.by c.begin-turn.new.pass c.end.new.pass
    c.begin-turn.ensures.turn.1 c.begin-turn.ensures.turn.0 c.end.ensures.holder

pub returns-clause-look : goal.returns-clause-look
returns-clause-look g c =
    looks_at c.args.by c.args.pass.now c.begin-turn.new.pass c.end.new.pass c.end.result c.begin-turn.ensures.more
    (c.end.ensures.look c.begin-turn.ensures.value)

pub returns-clause-place : goal.returns-clause-place
returns-clause-place g c =
    let q = c.begin-turn.new.pass in
    let r = c.end.new.pass in
    let x = c.begin-turn.result.value.value in
    let y = c.deref.result.now in
    let j = journal_at x y q r c.deref.ensures c.begin-turn.ensures.value (c.end.ensures.look c.begin-turn.ensures.value).1.0 in
    c.place-place.ensures ∙ ap (λ (l : List Entry). position (λ k. same_key k c.args.key) (line l)) j
