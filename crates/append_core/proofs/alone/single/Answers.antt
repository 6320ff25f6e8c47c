use Rattle.std.proofs.Common.{◌≡◌, ◌∙◌, List, [], ◌∷◌, ◌++◌, Some, slice_get, sym, ap, subst}
use Rattle.std.specs.Prelude.{IfSome}
use Rattle.log_node.specs.declared.node.Node.{Node}
use Rattle.col_core.specs.History.{entry_key, line}
use Rattle.col_core.specs.Ids.{IsFinal}
use Rattle.chain_store.specs.Holds.{entries_seen}
use Rattle.append_core.specs.declared.stood.Point.{Point}
use Rattle.append_core.proofs.Singles.{single_final, stands_alone, known_place}
use Rattle.append_core.proofs.alone.single.Goals as goal

pub line_position-position-requires-clause-stamped : goal.line_position-position-requires-clause-stamped
line_position-position-requires-clause-stamped g c =
    let e = c.in_ok-entered.entered in
    let m = c.single.new.hold in
    subst (λ (y : Node). IsFinal (entries_seen m c.args.colour) y.id e.stamp) (sym c.deref.ensures)
    (single_final c.args.region.now c.args.hold.now m c.args.node.now.value c.args.colour e.stamp e.at
    c.in_ok-entered.ensures.ok c.in_ok-entered.ensures.hold c.requires.colour)

pub line_position-position-requires-clause-known : goal.line_position-position-requires-clause-known
line_position-position-requires-clause-known g c =
    let e = c.in_ok-entered.entered in
    let keys = line (entries_seen c.single.new.hold c.args.colour) in
    subst (λ (y : Node). IfSome e.position (λ p. slice_get keys p ≡ Some (entry_key e.stamp y.id))) (sym c.deref.ensures)
    (known_place keys (entry_key e.stamp c.args.node.now.value.id) e.position c.in_ok-entered.ensures.position)

pub returns-clause-ok : goal.returns-clause-ok
returns-clause-ok g c =
    let e = c.in_ok-entered.entered in
    let h = c.line_position-position.new.hold in
    let keys = line (entries_seen h c.args.colour) in
    let p : Point = record { colour = c.args.colour; at = e.at; position = c.line_position-position.result } in
    stands_alone c.args.region.now c.args.hold.now c.single.new.hold c.args.node.now.value c.args.colour e.stamp e.at
    c.in_ok-entered.ensures.ok h c.line_position-position.result
    (record { key = record { stamp = e.stamp; id = c.deref.result.now.id }; points = c.into.result })
    c.in_ok-entered.ensures.others c.in_ok-entered.ensures.seat c.line_position-position.ensures.goes
    (subst (λ (y : Node). slice_get keys c.line_position-position.result ≡ Some (entry_key e.stamp y.id)) c.deref.ensures
    c.line_position-position.ensures.stands)
    (ap (λ (y : Node). entry_key e.stamp y.id) c.deref.ensures)
    (c.into.ensures ∙ (c.push_reserved.ensures.items ∙ ap (λ (l : List Point). l ++ p ∷ []) c.in-Ok.ensures.items))
