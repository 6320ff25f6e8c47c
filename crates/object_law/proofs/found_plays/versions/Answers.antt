use Rattle.std.proofs.Common.{◌∙◌, ◌++◌, ◌∷◌, [], ap, sym, take, List}
use Rattle.log_node.specs.declared.forms.Version.{Version}
use Rattle.object_fold.specs.Transactions.{versions_after, writer_of, writes_after}
use Rattle.run_rules.specs.Computing.{keys_shown}
use Rattle.object_law.proofs.FoundLemmas.{version_is, version_more}
use Rattle.object_law.proofs.found_plays.versions.Goals as goal

pub loop-answer-preserved : goal.loop-answer-preserved
loop-answer-preserved c = λ nodes holds.
    let shown = c.args.shown.now in
    let n = c.loop-answer.answer-index in
    let a = c.answer-item.result in
    let before = versions_after nodes (keys_shown (take n shown)) in
    let made : Version = record { key = c.in_ok-key.key; writer = c.writer-writer.result } in
    let its : Version = record { key = a.key; writer = writer_of (writes_after nodes) a.key } in
    c.in_ok-push.ensures.ok
    ∙ (ap (λ (l : List Version). l ++ made ∷ []) (c.loop-answer.invariant nodes holds)
    ∙ (ap (λ (v : Version). before ++ v ∷ [])
    (version_is made its (c.in_ok-key.ensures ∙ c.as_bytes-in-loop-answer.ensures)
    (c.writer-writer.ensures nodes holds ∙ ap (writer_of (writes_after nodes)) c.as_bytes.ensures))
    ∙ sym (version_more nodes shown n a c.loop-answer-test.true c.answer-item.is)))
