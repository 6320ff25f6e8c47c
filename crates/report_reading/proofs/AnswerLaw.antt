-- An answer that its word has is read again.
use Rattle.std.proofs.Common.{◌≡◌, ℕ, Bool, true, false, List, [], ◌∷◌, ◌++◌, Some, None, refl, ap, ◌∙◌, append_assoc}
use Rattle.std.specs.Prelude.{decimal, codes}
use Rattle.object_form.specs.Reasons.{why_text}
use Rattle.script_text.specs.declared.commands.Word.{Word}
use Rattle.report_text.specs.declared.report.Answer.{Answer}
use Rattle.report_text.specs.declared.report.Answer.TheVariants.{Stood, StampEnd, Full, Stopped, Synced, Scanned, Pulled, SameRegion, Based, Got, GotMany, GotKeys, Ruled, Changed, Listed, Undecided, Decided, Moved, NoTx, Took, UnreadTrimmed, UnreadNoMemory, Trimmed, NotHome, NoMemory}
use Rattle.report_text.specs.declared.report.Report.{Report}
use Rattle.report_text.specs.Names.{region_name, colour_name}
use Rattle.report_text.specs.Pieces.{spaced, listed, at_text, counts_text, point_text, sync_text}
use Rattle.report_text.specs.Replies.{row_text, key_answer_text, verdict_text, change_text, read_text, ended_text, answer_text}
use Rattle.report_reading.specs.Known.{Known}
use Rattle.report_reading.specs.Answers.{has_answer}
use Rattle.report_reading.specs.Meant.{IsAnswer}
use Rattle.report_reading.specs.Pieces.{word_at}
use Rattle.report_reading.specs.AnswerReadings.{stamp_end_at, full_at, stopped_at, not_home_at, short_at, answer_at}
use Rattle.report_reading.proofs.WordLemmas.{small_again, byte_again}
use Rattle.report_reading.proofs.Joins.{join3, join4, join5, join6}
use Rattle.report_reading.proofs.PieceLemmas.{AreNamed, said_again}
use Rattle.report_reading.proofs.AnswerAgain.{stood_again, synced_again, scanned_again, pulled_again, based_again, got_found, got_none, many_found, many_none, took_found, took_none, listed_so, missing_so, undecided_so, moved_so, unread_trimmed, unread_memory, trimmed_so}
use Rattle.report_text.specs.Replies.{listed_or_dash, decided_words, look_text}
use Rattle.report_reading.proofs.AnswerWhole.{ok_head, none_head, committed_head, conflict_head, done_head, failed_first, missing_head, ok_stood, ok_sync, ok_scan, ok_pull, ok_trim, ok_get, none_get, ok_many, none_many, ok_keys, ok_deq, none_deq, ok_ls, commit_ruled, got_keys_so, ruled_so, conflict_so, changed_so, failed_head, decided_so, decide_so, ruled_text}

or_dash : (names : List (List ℕ)) → listed_or_dash names ≡ listed (λ n. n) names
or_dash [] = refl
or_dash (name ∷ names) = refl

pub answer_again : (known : Known) (report : Report) (many : Bool) (word : Word) (answer : Answer) (rest : List ℕ) → AreNamed known.script report → has_answer many word answer ≡ true → IsAnswer known.script answer
    → answer_at known many word (answer_text report answer ++ (10 ∷ rest)) ≡ Some (answer, 10 ∷ rest)
unfolding answer_at word_at short_at stamp_end_at full_at stopped_at not_home_at
answer_again known report many word (Stood stamp row points) rest named has is =
    ap (answer_at known many word) (join4 (codes "ok ") (decimal stamp) (row_text row) (spaced (point_text report) points) (10 ∷ rest))
    ∙ ok_head known many word _ ∙ ok_stood known many word _ has ∙ stood_again known report stamp row points rest named is.0 is.1 is.2
answer_again known report many word (StampEnd colour) rest named has is = rw (said_again known.script.colours (colour_name report) colour (10 ∷ rest) named.colours is refl) refl
answer_again known report many word (Full used) rest named has is = rw (small_again used (10 ∷ rest) is refl) refl
answer_again known report many word (Stopped steps) rest named has is = rw (byte_again steps (10 ∷ rest) is refl) refl
answer_again known report many word (Synced sync plays) rest named has is =
    ap (answer_at known many word) (join4 (codes "ok ") (sync_text report sync) (codes " plays ") (decimal plays) (10 ∷ rest))
    ∙ ok_head known many word _ ∙ ok_sync known many word _ has ∙ ap Some (synced_again known report sync plays rest named is.0 is.1)
answer_again known report many word (Scanned stamp nodes raises syncs) rest named has is =
    ap (answer_at known many word) (join5 (codes "ok ") (decimal stamp) (codes " nodes ") (decimal nodes) (read_text report raises syncs) (10 ∷ rest))
    ∙ ok_head known many word _ ∙ ok_scan known many word _ has ∙ scanned_again known report stamp nodes raises syncs rest named is.0 is.1 is.2
answer_again known report many word (Pulled nodes give carry) rest named has is =
    ap (answer_at known many word) (join6 (codes "ok ") (decimal nodes) (codes " give ") (at_text give) (codes " carry ") (at_text carry) (10 ∷ rest))
    ∙ ok_head known many word _ ∙ ok_pull known many word _ has ∙ ap Some (pulled_again nodes give carry rest is.0 is.1 is.2)
answer_again known report many word SameRegion rest named has is = refl
answer_again known report many word (Based place base) rest named has is =
    ap (answer_at known many word) (join4 (codes "ok ") (at_text place) (codes " base ") (counts_text report base) (10 ∷ rest))
    ∙ ok_head known many word _ ∙ ok_trim known many word _ has ∙ ap Some (based_again known report place base rest named is.0 is.1)
answer_again known report many word (Got (Some value) sync) rest named has is =
    ap (answer_at known many word) (join3 (codes "ok ") value (32 ∷ sync_text report sync) (10 ∷ rest))
    ∙ ok_head known many word _ ∙ ok_get known many word _ has ∙ got_found known report value sync rest named is.0 is.1
answer_again known report many word (Got None sync) rest named has is =
    none_head known many word (sync_text report sync ++ (10 ∷ rest)) ∙ none_get known many word _ has ∙ got_none known report sync rest named is.1
answer_again known report many word (GotMany [] sync) rest named has is =
    none_head known many word (sync_text report sync ++ (10 ∷ rest)) ∙ none_many known many word _ has ∙ many_none known report sync rest named is.1
answer_again known report many word (GotMany (value ∷ values) sync) rest named has is =
    ap (answer_at known many word) (join3 (codes "ok ") (listed (λ v. v) (value ∷ values)) (32 ∷ sync_text report sync) (10 ∷ rest))
    ∙ ok_head known many word _ ∙ ok_many known many word _ has ∙ many_found known report value values sync rest named is.0 is.1
answer_again known report many word (GotKeys stamp keys raises syncs) rest named has is =
    ap (answer_at known many word) (join4 (codes "ok ") (decimal stamp) (spaced key_answer_text keys) (read_text report raises syncs) (10 ∷ rest))
    ∙ ok_head known many word _ ∙ ok_keys known many word _ has ∙ got_keys_so known report stamp keys raises syncs rest named is.0 is.1 is.2
answer_again known report many word (Ruled None stamp row points read_stamp raises syncs) rest named has is =
    ap (answer_at known many word) (join6 (verdict_text None stamp) (row_text row) (spaced (point_text report) points) (codes " at ") (decimal read_stamp) (read_text report raises syncs) (10 ∷ rest))
    ∙ committed_head known many word (decimal stamp ++ ruled_text report row points read_stamp raises syncs (10 ∷ rest)) ∙ (commit_ruled known word _ has).0 ∙ ruled_so known report None stamp row points read_stamp raises syncs rest named is.1
answer_again known report many word (Ruled (Some key) stamp row points read_stamp raises syncs) rest named has is =
    let text = ruled_text report row points read_stamp raises syncs (10 ∷ rest) in
    ap (answer_at known many word) (join6 (verdict_text (Some key) stamp) (row_text row) (spaced (point_text report) points) (codes " at ") (decimal read_stamp) (read_text report raises syncs) (10 ∷ rest)
    ∙ join3 (codes "conflict ") key (32 ∷ decimal stamp) text)
    ∙ conflict_head known many word (key ++ (32 ∷ (decimal stamp ++ text))) ∙ (commit_ruled known word _ has).1 ∙ conflict_so known report key stamp row points read_stamp raises syncs rest named is.0 is.1
answer_again known report many word (Changed None stamp row points read_stamp raises syncs) rest named has is =
    ap (answer_at known many word) (join6 (change_text None stamp) (row_text row) (spaced (point_text report) points) (codes " at ") (decimal read_stamp) (read_text report raises syncs) (10 ∷ rest))
    ∙ done_head known many word (decimal stamp ++ ruled_text report row points read_stamp raises syncs (10 ∷ rest)) ∙ changed_so known report None stamp row points read_stamp raises syncs rest named is
answer_again known report many word (Changed (Some why) stamp row points read_stamp raises syncs) rest named has is =
    let text = ruled_text report row points read_stamp raises syncs (10 ∷ rest) in
    ap (answer_at known many word) (join6 (change_text (Some why) stamp) (row_text row) (spaced (point_text report) points) (codes " at ") (decimal read_stamp) (read_text report raises syncs) (10 ∷ rest)
    ∙ join3 (codes "failed ") (why_text why) (32 ∷ decimal stamp) text)
    ∙ failed_first known many word (why_text why ++ (32 ∷ (decimal stamp ++ text))) ∙ failed_head known why (decimal stamp ++ text) ∙ changed_so known report (Some why) stamp row points read_stamp raises syncs rest named is
answer_again known report many word (Listed (Some names) stamp raises syncs) rest named has is =
    ap (answer_at known many word) (ap (λ t. (codes "ok " ++ decimal stamp ++ 32 ∷ t ++ read_text report raises syncs) ++ (10 ∷ rest)) (or_dash names)
    ∙ join4 (codes "ok ") (decimal stamp) (32 ∷ listed (λ n. n) names) (read_text report raises syncs) (10 ∷ rest))
    ∙ ok_head known many word _ ∙ ok_ls known many word _ has ∙ listed_so known report names stamp raises syncs rest named is.0 is.1 is.2
answer_again known report many word (Listed None stamp raises syncs) rest named has is =
    ap (answer_at known many word) (join3 (codes "missing ") (decimal stamp) (read_text report raises syncs) (10 ∷ rest))
    ∙ missing_head known many word _ ∙ missing_so known report stamp raises syncs rest named is.1 is.2
answer_again known report many word (Undecided stamp sync) rest named has is =
    ap (answer_at known many word) (join3 (codes "undecided ") (decimal stamp) (32 ∷ sync_text report sync) (10 ∷ rest))
    ∙ ap Some (undecided_so known report stamp sync rest named is.0 is.1)
answer_again known report many word (Decided true stamp sync read_stamp raises syncs ended) rest named has is =
    ap (answer_at known many word) (join6 (decided_words true stamp) (32 ∷ sync_text report sync) (codes " at ") (decimal read_stamp) (read_text report raises syncs) (32 ∷ ended_text report ended) (10 ∷ rest))
    ∙ committed_head known many word (decimal stamp ++ (32 ∷ (sync_text report sync ++ (codes " at " ++ (decimal read_stamp ++ (read_text report raises syncs ++ (32 ∷ (ended_text report ended ++ (10 ∷ rest)))))))))
    ∙ (decide_so known word _ has).0 ∙ decided_so known report true stamp sync read_stamp raises syncs ended rest named is.0 is.1 is.2 is.3 is.4
answer_again known report many word (Decided false stamp sync read_stamp raises syncs ended) rest named has is =
    ap (answer_at known many word) (join6 (decided_words false stamp) (32 ∷ sync_text report sync) (codes " at ") (decimal read_stamp) (read_text report raises syncs) (32 ∷ ended_text report ended) (10 ∷ rest))
    ∙ conflict_head known many word (decimal stamp ++ (32 ∷ (sync_text report sync ++ (codes " at " ++ (decimal read_stamp ++ (read_text report raises syncs ++ (32 ∷ (ended_text report ended ++ (10 ∷ rest)))))))))
    ∙ (decide_so known word _ has).1 ∙ decided_so known report false stamp sync read_stamp raises syncs ended rest named is.0 is.1 is.2 is.3 is.4
answer_again known report many word (Moved lined waiting colour events) rest named has is =
    ap (answer_at known many word) (join4 (codes "moved ") (decimal lined) (32 ∷ decimal waiting) (32 ∷ look_text report colour events) (10 ∷ rest)
    ∙ ap (λ w. codes "moved " ++ (decimal lined ++ (32 ∷ (decimal waiting ++ (32 ∷ w))))) (append_assoc (colour_name report colour) (63 ∷ decimal events) (10 ∷ rest)))
    ∙ ap Some (moved_so known report lined waiting colour events rest named is.0 is.1 is.2 is.3)
answer_again known report many word NoTx rest named has is = refl
answer_again known report many word (Took (Some value) point sync) rest named has is =
    ap (answer_at known many word) (join4 (codes "ok ") value (32 ∷ point_text report point) (32 ∷ sync_text report sync) (10 ∷ rest))
    ∙ ok_head known many word _ ∙ ok_deq known many word _ has ∙ took_found known report value point sync rest named is.0 is.1 is.2
answer_again known report many word (Took None point sync) rest named has is =
    ap (answer_at known many word) (join3 (codes "none") (32 ∷ point_text report point) (32 ∷ sync_text report sync) (10 ∷ rest))
    ∙ none_head known many word (point_text report point ++ (32 ∷ (sync_text report sync ++ (10 ∷ rest)))) ∙ none_deq known many word _ has ∙ took_none known report point sync rest named is.1 is.2
answer_again known report many word (UnreadTrimmed stamp colour base) rest named has is =
    ap (answer_at known many word) (join5 (codes "unread ") (decimal stamp) (codes " trimmed ") (colour_name report colour) (32 ∷ counts_text report base) (10 ∷ rest))
    ∙ ap Some (unread_trimmed known report stamp colour base rest named is.0 is.1 is.2)
answer_again known report many word (UnreadNoMemory stamp) rest named has is =
    ap (answer_at known many word) (join3 (codes "unread ") (decimal stamp) (codes " nomemory") (10 ∷ rest))
    ∙ ap Some (unread_memory known stamp rest is)
answer_again known report many word (Trimmed colour base) rest named has is =
    ap (answer_at known many word) (join3 (codes "trimmed ") (colour_name report colour) (32 ∷ counts_text report base) (10 ∷ rest))
    ∙ ap Some (trimmed_so known report colour base rest named is.0 is.1)
answer_again known report many word (NotHome home) rest named has is = rw (said_again known.script.regions (region_name report) home (10 ∷ rest) named.regions is refl) refl
answer_again known report many word NoMemory rest named has is = refl
