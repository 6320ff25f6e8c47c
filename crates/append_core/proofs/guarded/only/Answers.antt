use Rattle.std.proofs.Common.{◌≡◌, ◌∙◌, ℕ, List, [], ◌∷◌, ◌++◌, Some, sym, ap}
use Rattle.log_node.specs.declared.node.Node.{Node}
use Rattle.col_core.specs.History.{entry_key}
use Rattle.chain_store.specs.Guarded.{wanted}
use Rattle.append_core.specs.declared.stood.Point.{Point}
use Rattle.append_core.proofs.Singles.{next_alone}
use Rattle.append_core.proofs.guarded.only.Goals as goal

pub returns-clause-ok : goal.returns-clause-ok
returns-clause-ok g c =
    let e = c.in_ok-entered.entered in
    let x = c.args.node.now.value in
    let colour = c.args.colour in
    let position = c.in-Some.position in
    let count = wanted c.args.region.now.number colour x in
    let found : Some position ≡ Some count = sym c.in-Some.is ∙ c.in_ok-entered.ensures.position in
    let there : ◌≡◌ {A = ℕ} position count = cc (found) in
    let p : Point = record { colour = colour; at = e.at; position = position } in
    next_alone c.args.region.now c.args.hold.now c.only.new.hold x colour e.stamp e.at c.in_ok-entered.ensures.ok position
    (record { key = record { stamp = e.stamp; id = c.deref.result.now.id }; points = c.into.result })
    c.in_ok-entered.ensures.others c.in_ok-entered.ensures.seat c.in_ok-entered.ensures.stands there
    (ap (λ (y : Node). entry_key e.stamp y.id) c.deref.ensures)
    (c.into.ensures ∙ (c.push_reserved.ensures.items ∙ ap (λ (l : List Point). l ++ p ∷ []) c.in-Ok.ensures.items))
