use Rattle.std.proofs.Common.{rules, of_calls, get_or, ap, ◌∙◌, arith}
use Rattle.std.specs.Prelude.{not}
use Rattle.std.proofs.lemmas.Bool.{not-true, not-false}
use Rattle.std.proofs.lemmas.Fn.{always_returns_same}
use Rattle.std.proofs.lemmas.List.{get_or_read}
use Rattle.log_node.specs.declared.ids.Key.{Key}
use Rattle.log_node.specs.Order.{key_below}
use Rattle.skeen_core.specs.Inside.{IsRisingStored}
use Rattle.skeen_core.specs.Queues.{with_stored, final_entry}
use Rattle.skeen_core.proofs.Placing.{insert-is, not-above-first, rising-remove}
use Rattle.skeen_core.proofs.waiting.final_under.Goals as goal

pub returns-clause-items : goal.returns-clause-items
returns-clause-items g c d =
    let entry = c.remove-entry.result in
    let ws = c.remove-entry.new.self.items in
    let place = c.partition_point-place.result in
    let key : Key = record { stamp = c.args.stamp; id = entry.key.id } in
    let removed = c.remove-entry.ensures.items in
    let seen = c.deref.ensures.value in
    let rising : IsRisingStored c.deref.result.now = rw (seen, removed)
    (rising-remove c.args.waiting.now.items c.args.at c.requires.rising) in
    let point = c.partition_point-place.ensures.partitioned (λ w. not (key_below key w.key))
    (always_returns_same _ _ _ (λ a r f k. search (rules, of_calls)))
    (not-above-first key c.deref.result.now rising) in
    let at = rw seen at point in
    let bound = rw seen at c.partition_point-place.ensures.bound in
    let read = get_or_read c.args.waiting.now.items c.args.at entry (omega (arith, c.args.waiting.now.ok.0))
    c.remove-entry.ensures.value d in
    c.in-Ok.ensures.items
    ∙ insert-is (final_entry c.args.stamp entry) ws place bound (λ k e l m. not-true _ (at.0 k e l m))
    (λ k e l m. not-false _ (at.1 k e l m))
    ∙ ap (λ w. with_stored (final_entry c.args.stamp w) ws) read
    ∙ ap (λ vs. with_stored (final_entry c.args.stamp (get_or c.args.waiting.now.items c.args.at d)) vs) removed
