use Rattle.std.proofs.Common.{◌≡◌, ◌∙◌, ◌+◌, ◌++◌, ◌∷◌, [], refl, ap, sym, ℕ, List, length, map, take, length-append}
use Rattle.std.specs.Prelude.{slice_get}
use Rattle.std.specs.Option.{option_map}
use Rattle.log_node.specs.Standings.{Standing, queue_of}
use Rattle.col_core.specs.History.{entries}
use Rattle.report_text.specs.declared.report.QueueKey.{QueueKey}
use Rattle.closing_report.specs.Columns.{waiting_shown}
use Rattle.closing_report.proofs.Waiting.{waiting_more, waiting_all}
use Rattle.closing_report.proofs.columns.queue_keys.Goals as goal

pub loop-key-preserved : goal.loop-key-preserved
loop-key-preserved c =
    let q = queue_of (entries c.args.column.now.journal) in
    let keys = c.loop-key.keys in
    let long : length c.push.new.self ≡ length keys + 1 = ap length c.in_ok-push.ensures.ok ∙ simp length-append refl in
    c.in_ok-push.ensures.ok
    ∙ (ap (λ (l : List QueueKey). l ++ record { key = c.in-Some.key; settled = c.in-Some.settled } ∷ [])
    c.loop-key.invariant
    ∙ (sym (waiting_more q (length keys) c.in-Some.key c.in-Some.settled
    (ap (λ (n : ℕ). option_map (λ (e : Standing). (e.key, e.settled)) (slice_get q n)) (sym c.len.ensures)
    ∙ sym c.in-Some.ensures))
    ∙ ap (λ (n : ℕ). map waiting_shown (take n q)) (sym long)))

pub returns : goal.returns
returns c =
    let q = queue_of (entries c.args.column.now.journal) in
    c.loop-key.invariant
    ∙ ap (map waiting_shown) (waiting_all q (length c.loop-key.keys)
    (ap (λ (n : ℕ). option_map (λ (e : Standing). (e.key, e.settled)) (slice_get q n)) (sym c.len.ensures)
    ∙ (sym c.waiting.ensures ∙ c.in_default.is)))
