-- Each answer, by its first word: what is printed is read again.
use Rattle.std.proofs.Common.{◌≡◌, ℕ, Bool, true, false, not, eqb, ◌&&◌, ◌||◌, List, [], ◌∷◌, ◌++◌, drop, Option, Some, None, refl, append_assoc, arith, inl, inr}
use Rattle.std.specs.Prelude.{decimal, codes, IfSome}
use Rattle.std.specs.List.{AllByRecursion, flat_map}
use Rattle.std.proofs.lemmas.Bool.{or_cases, eqb-true}
use Rattle.object_form.specs.declared.tree_why.TreeWhy.{TreeWhy}
use Rattle.object_form.specs.declared.tree_why.TreeWhy.TheVariants as whys
use Rattle.object_form.specs.Reasons.{why_text}
use Rattle.script_text.specs.declared.commands.Word.{Word}
use Rattle.script_text.specs.declared.commands.Word.TheVariants as words
use Rattle.report_text.specs.declared.report.SyncPiece.{SyncPiece}
use Rattle.report_text.specs.declared.report.RaisePiece.{RaisePiece}
use Rattle.report_text.specs.declared.report.PointPiece.{PointPiece}
use Rattle.report_text.specs.declared.report.KeyAnswer.{KeyAnswer}
use Rattle.report_text.specs.declared.report.Ended.{Ended}
use Rattle.report_text.specs.declared.report.Ended.TheVariants as endings
use Rattle.report_text.specs.declared.report.Answer.TheVariants.{GotKeys, Ruled, Changed, Decided}
use Rattle.report_text.specs.declared.report.Report.{Report}
use Rattle.report_text.specs.Names.{colour_name}
use Rattle.report_text.specs.Pieces.{spaced, point_text, raise_text, sync_text}
use Rattle.report_text.specs.Replies.{row_text, value_or_dash, key_answer_text, read_text, ended_text}
use Rattle.report_reading.specs.Known.{Known}
use Rattle.report_reading.specs.Answers.{appending, is_of, is_word}
use Rattle.report_reading.specs.Meant.{IsWord, IsKeyText, IsSync, AreRead, IsKeyAnswer, IsRuling, IsEnded}
use Rattle.report_reading.specs.Pieces.{word_at, behind_word, point_begins}
use Rattle.report_reading.specs.AnswerReadings.{key_answer_at, key_answer_begins, stood_at, synced_at, scanned_at, pulled_at, based_at, got_at, got_many_at, got_keys_at, took_at, listed_at, missing_at, ended_at, decided_at, ruled_at, conflict_at, changed_at, failed_at, ok_at, none_at, committed_at, conflicting_at, answer_at}
use Rattle.report_reading.proofs.WordLemmas.{ends, number_again, behind_word_is}
use Rattle.report_reading.proofs.PieceLemmas.{AreNamed, said_again, point_again, sync_again}
use Rattle.report_reading.proofs.ListAgain.{all_again, all_end, in_places, IsReadAgain}
use Rattle.report_reading.proofs.AnswerLemmas.{key_letters, key_text_again, EndsRead, read_again}
use Rattle.report_reading.proofs.WordLemmas.{word_front, letter_unlike}
use Rattle.report_reading.proofs.AnswerLemmas.{raise_point, sync_begins_so, key_length}
use Rattle.report_reading.proofs.AnswerAgain.{line_ends, reads_end, ruling_again}

-- ---- keys and their values

key_answer_of : (key : List ℕ) (value : Option (List ℕ)) (rest : List ℕ) → IsKeyText key → IfSome value IsKeyText → ends rest ≡ true
    → key_answer_at (key_answer_text (record { key = key; value = value }) ++ rest) ≡ Some (record { key = key; value = value }, rest)
unfolding key_answer_at
key_answer_of key None rest k v e =
    rw (append_assoc key (61 ∷ 45 ∷ []) rest, key_text_again key (61 ∷ 45 ∷ rest) k refl) refl
key_answer_of key (Some value) rest k v e =
    rw (append_assoc key (61 ∷ value) rest, key_text_again key (61 ∷ (value ++ rest)) k refl, letter_unlike _ 45 (word_front value rest (key_letters value v) (key_length value v)) refl, key_text_again value rest v e) refl

key_answers_again : IsReadAgain (λ _ b. key_answer_begins b) (λ _ b. key_answer_at (drop 1 b)) (λ _ (a : KeyAnswer). 32 ∷ key_answer_text a) (λ _. IsKeyAnswer) (λ b. ends b ≡ true)
key_answers_again = record {
  some = λ n a is. omega arith;
  begin = λ n a rest is e. rw (append_assoc a.key (61 ∷ value_or_dash a.value) rest, behind_word_is a.key 61 (value_or_dash a.value ++ rest) (key_letters a.key is.key) refl) refl;
  again = λ n a rest is e. key_answer_of a.key a.value rest is.key is.value e;
  end = λ n a rest is e. refl;
}

-- a raise is no key
no_key : (b : List ℕ) → point_begins b ≡ true → key_answer_begins b ≡ false
no_key b point = elim (or_cases (eqb (behind_word b) 33) (eqb (behind_word b) 63) point) [
  | inl event ↦ rw (eqb-true (behind_word b) 33 event) refl
  | inr look ↦ rw (eqb-true (behind_word b) 63 look) refl
]

-- where the keys end
keys_stop : (known : Known) (report : Report) (raises : List RaisePiece) (syncs : List SyncPiece) (rest : List ℕ) → AreNamed known.script report → AreRead known.script (raises, syncs) → key_answer_begins (read_text report raises syncs ++ (10 ∷ rest)) ≡ false
keys_stop known report [] [] rest named are = refl
keys_stop known report [] (s ∷ syncs) rest named are =
    let text = flat_map (λ (t : SyncPiece). 32 ∷ sync_text report t) syncs in
    rw (append_assoc (sync_text report s) text (10 ∷ rest))
    (rw (eqb-true (behind_word (32 ∷ (sync_text report s ++ (text ++ (10 ∷ rest))))) 63 (sync_begins_so known.script report s (text ++ (10 ∷ rest)) named are.syncs.0)) refl)
keys_stop known report (r ∷ raises) syncs rest named are =
    let text = flat_map (λ (t : RaisePiece). 32 ∷ raise_text report t) raises in
    let last = flat_map (λ (t : SyncPiece). 32 ∷ sync_text report t) syncs in
    rw (append_assoc (raise_text report r ++ text) last (10 ∷ rest), append_assoc (raise_text report r) text (last ++ (10 ∷ rest)))
    (no_key (32 ∷ (raise_text report r ++ (text ++ (last ++ (10 ∷ rest))))) (raise_point known.script report r.colour r.at (text ++ (last ++ (10 ∷ rest))) named are.raises.0.colour))

pub got_keys_so : (known : Known) (report : Report) (stamp : ℕ) (keys : List KeyAnswer) (raises : List RaisePiece) (syncs : List SyncPiece) (rest : List ℕ) → AreNamed known.script report → IsWord stamp → AllByRecursion IsKeyAnswer keys → AreRead known.script (raises, syncs)
    → got_keys_at known (decimal stamp ++ (spaced key_answer_text keys ++ (read_text report raises syncs ++ (10 ∷ rest)))) ≡ Some (GotKeys stamp keys raises syncs, 10 ∷ rest)
unfolding got_keys_at
got_keys_so known report stamp keys raises syncs rest named p all are =
    let read = read_text report raises syncs ++ (10 ∷ rest) in
    let end = reads_end report raises syncs (10 ∷ rest) refl in
    rw (
      number_again stamp (spaced key_answer_text keys ++ read) p (all_end _ _ _ _ _ key_answers_again keys read (in_places IsKeyAnswer 1 keys all) end),
      all_again _ _ _ _ _ key_answers_again keys read (in_places IsKeyAnswer 0 keys all) end (keys_stop known report raises syncs rest named are),
      read_again known report raises syncs (10 ∷ rest) named are (line_ends rest),
    ) refl

-- ---- decisions

ended_so : (known : Known) (report : Report) (ended : Ended) (rest : List ℕ) → AreNamed known.script report → IsEnded known.script ended → ended_at known (ended_text report ended ++ (10 ∷ rest)) ≡ (ended, 10 ∷ rest)
unfolding ended_at
ended_so known report (endings.Stood stamp point) rest named is =
    rw (append_assoc (decimal stamp) (32 ∷ point_text report point) (10 ∷ rest), number_again stamp (32 ∷ (point_text report point ++ (10 ∷ rest))) is.0 refl, point_again known.script report point (10 ∷ rest) named is.1 refl) refl
ended_so known report (endings.StampEnd colour) rest named is = rw (said_again known.script.colours (colour_name report) colour (10 ∷ rest) named.colours is refl) refl
ended_so known report endings.NoMemory rest named is = refl

-- what stands before the end of a decision is no raise and no sync
ended_ends : (report : Report) (ended : Ended) (rest : List ℕ) → EndsRead (32 ∷ (ended_text report ended ++ (10 ∷ rest)))
unfolding word_at
ended_ends report (endings.Stood stamp point) rest = record { word = refl; slash = refl; over = refl }
ended_ends report (endings.StampEnd colour) rest = record { word = refl; slash = refl; over = refl }
ended_ends report endings.NoMemory rest = record { word = refl; slash = refl; over = refl }

pub decided_so : (known : Known) (report : Report) (commits : Bool) (stamp : ℕ) (sync : SyncPiece) (read_stamp : ℕ) (raises : List RaisePiece) (syncs : List SyncPiece) (ended : Ended) (rest : List ℕ)
    → AreNamed known.script report → IsWord stamp → IsSync known.script sync → IsWord read_stamp → AreRead known.script (raises, syncs) → IsEnded known.script ended
    → decided_at known commits (decimal stamp ++ (32 ∷ (sync_text report sync ++ (codes " at " ++ (decimal read_stamp ++ (read_text report raises syncs ++ (32 ∷ (ended_text report ended ++ (10 ∷ rest)))))))))
    ≡ Some (Decided commits stamp sync read_stamp raises syncs ended, 10 ∷ rest)
unfolding decided_at
decided_so known report commits stamp sync read_stamp raises syncs ended rest named p q r are s =
    let last = 32 ∷ (ended_text report ended ++ (10 ∷ rest)) in
    let read = read_text report raises syncs ++ last in
    let third = codes " at " ++ (decimal read_stamp ++ read) in
    rw (
      number_again stamp (32 ∷ (sync_text report sync ++ third)) p refl,
      sync_again known.script report sync third named q refl,
      number_again read_stamp read r (reads_end report raises syncs last refl),
      read_again known report raises syncs last named are (ended_ends report ended rest),
      ended_so known report ended rest named s,
    ) refl

-- ---- rulings

-- what stands behind the stamp of a ruling
abbrev pub ruled_text : Report → Option ℕ → List PointPiece → ℕ → List RaisePiece → List SyncPiece → List ℕ → List ℕ
ruled_text report row points read_stamp raises syncs rest =
    row_text row ++ (spaced (point_text report) points ++ (codes " at " ++ (decimal read_stamp ++ (read_text report raises syncs ++ rest))))

pub ruled_so : (known : Known) (report : Report) (conflict : Option (List ℕ)) (stamp : ℕ) (row : Option ℕ) (points : List PointPiece) (read_stamp : ℕ) (raises : List RaisePiece) (syncs : List SyncPiece) (rest : List ℕ)
    → AreNamed known.script report → IsRuling known.script stamp row points read_stamp (raises, syncs)
    → ruled_at known conflict (decimal stamp ++ ruled_text report row points read_stamp raises syncs (10 ∷ rest)) ≡ Some (Ruled conflict stamp row points read_stamp raises syncs, 10 ∷ rest)
unfolding ruled_at
ruled_so known report conflict stamp row points read_stamp raises syncs rest named is =
    rw (ruling_again known report stamp row points read_stamp raises syncs rest named is) refl

pub conflict_so : (known : Known) (report : Report) (key : List ℕ) (stamp : ℕ) (row : Option ℕ) (points : List PointPiece) (read_stamp : ℕ) (raises : List RaisePiece) (syncs : List SyncPiece) (rest : List ℕ)
    → AreNamed known.script report → IsKeyText key → IsRuling known.script stamp row points read_stamp (raises, syncs)
    → conflict_at known (key ++ (32 ∷ (decimal stamp ++ ruled_text report row points read_stamp raises syncs (10 ∷ rest)))) ≡ Some (Ruled (Some key) stamp row points read_stamp raises syncs, 10 ∷ rest)
unfolding conflict_at
conflict_so known report key stamp row points read_stamp raises syncs rest named k is =
    rw (key_text_again key (32 ∷ (decimal stamp ++ ruled_text report row points read_stamp raises syncs (10 ∷ rest))) k refl) (ruled_so known report (Some key) stamp row points read_stamp raises syncs rest named is)

pub changed_so : (known : Known) (report : Report) (failed : Option TreeWhy) (stamp : ℕ) (row : Option ℕ) (points : List PointPiece) (read_stamp : ℕ) (raises : List RaisePiece) (syncs : List SyncPiece) (rest : List ℕ)
    → AreNamed known.script report → IsRuling known.script stamp row points read_stamp (raises, syncs)
    → changed_at known failed (decimal stamp ++ ruled_text report row points read_stamp raises syncs (10 ∷ rest)) ≡ Some (Changed failed stamp row points read_stamp raises syncs, 10 ∷ rest)
unfolding changed_at
changed_so known report failed stamp row points read_stamp raises syncs rest named is =
    rw (ruling_again known report stamp row points read_stamp raises syncs rest named is) refl

-- the reason of a change that failed is read before the rest
pub failed_head : (known : Known) (why : TreeWhy) (rest : List ℕ) → failed_at known (why_text why ++ (32 ∷ rest)) ≡ changed_at known (Some why) rest
unfolding failed_at word_at
failed_head known whys.Exists rest = refl
failed_head known whys.NoParent rest = refl
failed_head known whys.Missing rest = refl
failed_head known whys.NotEmpty rest = refl
failed_head known whys.Inside rest = refl
failed_head known whys.Deep rest = refl

-- ---- the first word of an answer

pub ok_head : (known : Known) (many : Bool) (word : Word) (rest : List ℕ) → answer_at known many word (codes "ok " ++ rest) ≡ ok_at known many word rest
unfolding answer_at word_at
ok_head known many word rest = refl

pub none_head : (known : Known) (many : Bool) (word : Word) (rest : List ℕ) → answer_at known many word (codes "none " ++ rest) ≡ none_at known many word rest
unfolding answer_at word_at
none_head known many word rest = refl

pub committed_head : (known : Known) (many : Bool) (word : Word) (rest : List ℕ) → answer_at known many word (codes "committed " ++ rest) ≡ committed_at known word rest
unfolding answer_at word_at
committed_head known many word rest = refl

pub conflict_head : (known : Known) (many : Bool) (word : Word) (rest : List ℕ) → answer_at known many word (codes "conflict " ++ rest) ≡ conflicting_at known word rest
unfolding answer_at word_at
conflict_head known many word rest = refl

pub done_head : (known : Known) (many : Bool) (word : Word) (rest : List ℕ) → answer_at known many word (codes "done " ++ rest) ≡ changed_at known None rest
unfolding answer_at word_at
done_head known many word rest = refl

pub failed_first : (known : Known) (many : Bool) (word : Word) (rest : List ℕ) → answer_at known many word (codes "failed " ++ rest) ≡ failed_at known rest
unfolding answer_at word_at
failed_first known many word rest = refl

pub missing_head : (known : Known) (many : Bool) (word : Word) (rest : List ℕ) → answer_at known many word (codes "missing " ++ rest) ≡ missing_at known rest
unfolding answer_at word_at
missing_head known many word rest = refl

-- ---- the command's word

pub ok_stood : (known : Known) (many : Bool) (word : Word) (rest : List ℕ) → is_of appending word ≡ true → ok_at known many word rest ≡ stood_at known rest
unfolding ok_at
ok_stood known many words.Sync rest e = absurd cc
ok_stood known many words.Scan rest e = absurd cc
ok_stood known many words.Pull rest e = absurd cc
ok_stood known many words.Trim rest e = absurd cc
ok_stood known many words.Get rest e = absurd cc
ok_stood known many words.Peek rest e = absurd cc
ok_stood known many words.Decide rest e = absurd cc
ok_stood known many words.GetAll rest e = absurd cc
ok_stood known many words.Read rest e = absurd cc
ok_stood known many words.Deq rest e = absurd cc
ok_stood known many words.Ls rest e = absurd cc
ok_stood known many _ rest e = refl

pub ok_sync : (known : Known) (many : Bool) (word : Word) (rest : List ℕ) → is_word (codes "sync") word ≡ true → ok_at known many word rest ≡ Some (synced_at known rest)
unfolding ok_at
ok_sync known many words.Sync rest e = refl
ok_sync known many _ rest e = absurd cc

pub ok_scan : (known : Known) (many : Bool) (word : Word) (rest : List ℕ) → is_word (codes "scan") word ≡ true → ok_at known many word rest ≡ scanned_at known rest
unfolding ok_at
ok_scan known many words.Scan rest e = refl
ok_scan known many _ rest e = absurd cc

pub ok_pull : (known : Known) (many : Bool) (word : Word) (rest : List ℕ) → is_word (codes "pull") word ≡ true → ok_at known many word rest ≡ Some (pulled_at rest)
unfolding ok_at
ok_pull known many words.Pull rest e = refl
ok_pull known many _ rest e = absurd cc

pub ok_trim : (known : Known) (many : Bool) (word : Word) (rest : List ℕ) → is_word (codes "trim") word ≡ true → ok_at known many word rest ≡ Some (based_at known rest)
unfolding ok_at
ok_trim known many words.Trim rest e = refl
ok_trim known many _ rest e = absurd cc

pub ok_get : (known : Known) (many : Bool) (word : Word) (rest : List ℕ) → (is_word (codes "get") word && not many || is_of (codes "peek" ∷ codes "decide" ∷ []) word) ≡ true → ok_at known many word rest ≡ got_at known true rest
unfolding ok_at
ok_get known false words.Get rest e = refl
ok_get known true words.Get rest e = absurd cc
ok_get known many words.Peek rest e = refl
ok_get known many words.Decide rest e = refl
ok_get known many _ rest e = absurd cc

pub none_get : (known : Known) (many : Bool) (word : Word) (rest : List ℕ) → (is_word (codes "get") word && not many || is_of (codes "peek" ∷ codes "decide" ∷ []) word) ≡ true → none_at known many word rest ≡ got_at known false rest
unfolding none_at
none_get known false words.Get rest e = refl
none_get known true words.Get rest e = absurd cc
none_get known many words.Peek rest e = refl
none_get known many words.Decide rest e = refl
none_get known many _ rest e = absurd cc

pub ok_many : (known : Known) (many : Bool) (word : Word) (rest : List ℕ) → (is_word (codes "get") word && many) ≡ true → ok_at known many word rest ≡ got_many_at known true rest
unfolding ok_at
ok_many known true words.Get rest e = refl
ok_many known false words.Get rest e = absurd cc
ok_many known many _ rest e = absurd cc

pub none_many : (known : Known) (many : Bool) (word : Word) (rest : List ℕ) → (is_word (codes "get") word && many) ≡ true → none_at known many word rest ≡ got_many_at known false rest
unfolding none_at
none_many known true words.Get rest e = refl
none_many known false words.Get rest e = absurd cc
none_many known many _ rest e = absurd cc

pub ok_keys : (known : Known) (many : Bool) (word : Word) (rest : List ℕ) → is_of (codes "getall" ∷ codes "read" ∷ []) word ≡ true → ok_at known many word rest ≡ got_keys_at known rest
unfolding ok_at
ok_keys known many words.GetAll rest e = refl
ok_keys known many words.Read rest e = refl
ok_keys known many _ rest e = absurd cc

pub ok_deq : (known : Known) (many : Bool) (word : Word) (rest : List ℕ) → is_word (codes "deq") word ≡ true → ok_at known many word rest ≡ took_at known true rest
unfolding ok_at
ok_deq known many words.Deq rest e = refl
ok_deq known many _ rest e = absurd cc

pub none_deq : (known : Known) (many : Bool) (word : Word) (rest : List ℕ) → is_word (codes "deq") word ≡ true → none_at known many word rest ≡ took_at known false rest
unfolding none_at
none_deq known many words.Deq rest e = refl
none_deq known many _ rest e = absurd cc

pub ok_ls : (known : Known) (many : Bool) (word : Word) (rest : List ℕ) → is_word (codes "ls") word ≡ true → ok_at known many word rest ≡ listed_at known rest
unfolding ok_at
ok_ls known many words.Ls rest e = refl
ok_ls known many _ rest e = absurd cc

pub commit_ruled : (known : Known) (word : Word) (rest : List ℕ) → is_word (codes "commit") word ≡ true → (committed_at known word rest ≡ ruled_at known None rest) × (conflicting_at known word rest ≡ conflict_at known rest)
unfolding committed_at conflicting_at
commit_ruled known words.Commit rest e = (refl, refl)
commit_ruled known _ rest e = absurd cc

pub decide_so : (known : Known) (word : Word) (rest : List ℕ) → is_word (codes "decide") word ≡ true → (committed_at known word rest ≡ decided_at known true rest) × (conflicting_at known word rest ≡ decided_at known false rest)
unfolding committed_at conflicting_at
decide_so known words.Decide rest e = (refl, refl)
decide_so known _ rest e = absurd cc
