use Rattle.std.proofs.Common.{sym, ap, ◌∙◌}
use Rattle.log_node.specs.declared.ids.Key.{Key}
use Rattle.log_node.specs.Order.{same_key}
use Rattle.column.proofs.Places.{place-there}
use Rattle.column.proofs.keys.last_place.Goals as goal

pub returns-then-is_same : goal.returns-then-is_same
returns-then-is_same c =
    let key = c.args.key in
    let h = c.in_ok-last.ensures.lookup in
    place-there c.args.keys.now key c.requires c.in_ok-place.place key h.3.0
    (ap (λ (k : Key). same_key k key) (sym (h.3.1 key)) ∙ sym c.if-is_same.ensures)
