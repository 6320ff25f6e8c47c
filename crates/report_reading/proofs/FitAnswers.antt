-- What is read fits: answers.
use Rattle.std.proofs.Common.{◌≡◌, ℕ, Bool, true, false, cond, eqb, List, drop, Option, Some, None, refl}
use Rattle.std.specs.Prelude.{codes, IfSome}
use Rattle.std.specs.List.{AllByRecursion}
use Rattle.std.specs.Str.{bytes_eq}
use Rattle.object_form.specs.declared.tree_why.TreeWhy.{TreeWhy}
use Rattle.script_text.specs.declared.script.Script.{Script}
use Rattle.script_text.specs.declared.commands.Word.{Word}
use Rattle.script_text.specs.declared.commands.Word.TheVariants as words
use Rattle.script_text.specs.Pieces.{is_key}
use Rattle.report_text.specs.declared.report.Ended.{Ended}
use Rattle.report_text.specs.declared.report.Answer.{Answer}
use Rattle.report_reading.specs.declared.reads.Read.{Read}
use Rattle.report_reading.specs.declared.reads.Ruling.{Ruling}
use Rattle.report_reading.specs.Apart.{AreApart}
use Rattle.report_reading.specs.Known.{Known}
use Rattle.report_reading.specs.Lists.{each_at}
use Rattle.report_reading.specs.Meant.{IsSmall, IsKeyText, IsRaise, IsPoint, IsSync, AreRead, IsKeyAnswer, IsRuling, IsEnded, IsAnswer}
use Rattle.report_reading.specs.Pieces.{first_of, word_at, number_at, small_at, named_at, place_at, raise_at, point_at, sync_at, point_begins, raise_begins, sync_begins}
use Rattle.report_reading.specs.ColumnReadings.{listed_begins, behind_comma}
use Rattle.report_reading.specs.AnswerReadings.{key_text_at, texts_at, points_at, raises_at, syncs_at, read_at, has_row, row_number_told_at, ruling_at, value_at, key_answer_at, key_answer_begins, stood_at, synced_at, scanned_at, pulled_at, based_at, got_at, values_at, got_many_at, got_keys_at, took_at, listed_at, missing_at, undecided_at, ended_at, decided_at, ruled_at, conflict_at, changed_at, why_named, failed_at, moved_at, unread_at, trimmed_at, ok_at, none_at, committed_at, conflicting_at, stamp_end_at, full_at, stopped_at, not_home_at, short_at, answer_at}
use Rattle.report_reading.proofs.FitLemmas.{number_fits, small_fits, byte_fits, named_fits, counts_fit, place_fits, raise_fits, point_fits, sync_fits}
use Rattle.report_reading.proofs.ListAgain.{Fits, fits_then}
use Rattle.report_reading.proofs.FitLaws.{either, all_fits}

-- a text that was tested
tested : (b : Bool) (read : List ℕ × List ℕ) → (b ≡ true → IsKeyText read.0) → Fits IsKeyText (cond b (Some read) None)
tested true read is = is refl
tested false read is = tt

key_text_fits : (bytes : List ℕ) → Fits IsKeyText (key_text_at bytes)
unfolding key_text_at
key_text_fits bytes = tested (is_key (word_at bytes).0) (word_at bytes) (λ e. e)

texts_fit : (known : Known) (bytes : List ℕ) → Fits (AllByRecursion IsKeyText) (texts_at known bytes)
texts_fit known bytes =
    fits_then (AllByRecursion IsKeyText) (AllByRecursion IsKeyText) (each_at (λ _ b. listed_begins b) (λ _ b. key_text_at (behind_comma b)) bytes) _
    (all_fits (λ _ b. listed_begins b) (λ _ b. key_text_at (behind_comma b)) IsKeyText (λ n b. key_text_fits (behind_comma b)) bytes) (λ texts all. all)

points_fit : (known : Known) (bytes : List ℕ) → AreApart known.script → Fits (AllByRecursion (IsPoint known.script)) (points_at known bytes)
points_fit known bytes apart = all_fits (λ _ b. point_begins b) (λ _ b. Some (point_at known.script (drop 1 b))) (IsPoint known.script) (λ n b. point_fits known.script (drop 1 b) apart) bytes

-- the raises and the syncs of a stamped read fit
abbrev FitsRead : Script → Read → Type 0
FitsRead script read = AreRead script (read.raises, read.syncs)

read_fits : (known : Known) (bytes : List ℕ) → AreApart known.script → Fits (FitsRead known.script) (read_at known bytes)
unfolding read_at
read_fits known bytes apart =
    fits_then (AllByRecursion (IsRaise known.script)) (FitsRead known.script) (raises_at known bytes) _
    (all_fits (λ _ b. raise_begins b) (λ _ b. Some (raise_at known.script (drop 1 b))) (IsRaise known.script) (λ n b. raise_fits known.script (drop 1 b) apart) bytes)
    (λ raises first. fits_then (AllByRecursion (IsSync known.script)) (FitsRead known.script) (syncs_at known raises.1) _
    (all_fits (λ _ b. sync_begins b) (λ _ b. Some (sync_at known.script (drop 1 b))) (IsSync known.script) (λ n b. sync_fits known.script (drop 1 b) apart) raises.1)
    (λ syncs second. record { raises = first; syncs = second }))

row_fits : (bytes : List ℕ) → IfSome (row_number_told_at bytes).0 IsSmall
unfolding row_number_told_at
row_fits bytes = either (λ (r : Option ℕ × List ℕ). IfSome r.0 IsSmall) (has_row bytes) (Some (small_at (drop 5 bytes)).0, (small_at (drop 5 bytes)).1) (None, bytes) (small_fits (drop 5 bytes)) tt

-- a ruling fits
abbrev FitsRuling : Script → Ruling → Type 0
FitsRuling script r = IsRuling script r.stamp r.row r.points r.read_stamp (r.read.raises, r.read.syncs)

ruling_fits : (known : Known) (bytes : List ℕ) → AreApart known.script → Fits (FitsRuling known.script) (ruling_at known bytes)
unfolding ruling_at
ruling_fits known bytes apart =
    let stamp = number_at bytes in
    let row = row_number_told_at stamp.1 in
    fits_then (AllByRecursion (IsPoint known.script)) (FitsRuling known.script) (points_at known row.1) _ (points_fit known row.1 apart)
    (λ points all. fits_then (FitsRead known.script) (FitsRuling known.script) (read_at known (number_at (drop 4 points.1)).1) _ (read_fits known (number_at (drop 4 points.1)).1 apart)
    (λ read are. record { stamp = number_fits bytes; row = row_fits stamp.1; points = all; read_stamp = number_fits (drop 4 points.1); read = are }))

value_fits : (found : Bool) (bytes : List ℕ) → Fits (λ (v : Option (List ℕ)). IfSome v IsKeyText) (value_at found bytes)
unfolding value_at
value_fits true bytes = fits_then IsKeyText (λ (v : Option (List ℕ)). IfSome v IsKeyText) (key_text_at bytes) _ (key_text_fits bytes) (λ value is. is)
value_fits false bytes = tt

values_fit : (known : Known) (found : Bool) (bytes : List ℕ) → Fits (AllByRecursion IsKeyText) (values_at known found bytes)
unfolding values_at
values_fit known true bytes = fits_then (AllByRecursion IsKeyText) (AllByRecursion IsKeyText) (texts_at known bytes) _ (texts_fit known bytes) (λ values all. all)
values_fit known false bytes = tt

key_answer_fits : (bytes : List ℕ) → Fits IsKeyAnswer (key_answer_at bytes)
unfolding key_answer_at
key_answer_fits bytes = fits_then IsKeyText IsKeyAnswer (key_text_at bytes) _ (key_text_fits bytes) (λ key first.
    either (Fits IsKeyAnswer) (eqb (first_of (drop 1 key.1)) 45) _ _ (record { key = first; value = tt })
    (fits_then IsKeyText IsKeyAnswer (key_text_at (drop 1 key.1)) _ (key_text_fits (drop 1 key.1)) (λ value second. record { key = first; value = second })))

stood_fits : (known : Known) (bytes : List ℕ) → AreApart known.script → Fits (IsAnswer known.script) (stood_at known bytes)
unfolding stood_at
stood_fits known bytes apart =
    let stamp = number_at bytes in
    fits_then (AllByRecursion (IsPoint known.script)) (IsAnswer known.script) (points_at known (row_number_told_at stamp.1).1) _ (points_fit known (row_number_told_at stamp.1).1 apart)
    (λ points all. (number_fits bytes, row_fits stamp.1, all))

synced_fits : (known : Known) (bytes : List ℕ) → AreApart known.script → IsAnswer known.script (synced_at known bytes).0
unfolding synced_at
synced_fits known bytes apart = (sync_fits known.script bytes apart, number_fits (drop 7 (sync_at known.script bytes).1))

scanned_fits : (known : Known) (bytes : List ℕ) → AreApart known.script → Fits (IsAnswer known.script) (scanned_at known bytes)
unfolding scanned_at
scanned_fits known bytes apart =
    let stamp = number_at bytes in
    let nodes = number_at (drop 7 stamp.1) in
    fits_then (FitsRead known.script) (IsAnswer known.script) (read_at known nodes.1) _ (read_fits known nodes.1 apart) (λ read are. (number_fits bytes, number_fits (drop 7 stamp.1), are))

pulled_fits : (known : Known) (bytes : List ℕ) → IsAnswer known.script (pulled_at bytes).0
unfolding pulled_at
pulled_fits known bytes =
    let nodes = number_at bytes in
    let give = place_at (drop 6 nodes.1) in
    (number_fits bytes, place_fits (drop 6 nodes.1), place_fits (drop 7 give.1))

based_fits : (known : Known) (bytes : List ℕ) → AreApart known.script → IsAnswer known.script (based_at known bytes).0
unfolding based_at
based_fits known bytes apart = (place_fits bytes, counts_fit known.script (drop 6 (place_at bytes).1) apart)

got_fits : (known : Known) (found : Bool) (bytes : List ℕ) → AreApart known.script → Fits (IsAnswer known.script) (got_at known found bytes)
unfolding got_at
got_fits known found bytes apart = fits_then (λ (v : Option (List ℕ)). IfSome v IsKeyText) (IsAnswer known.script) (value_at found bytes) _ (value_fits found bytes) (λ value is. (is, sync_fits known.script value.1 apart))

got_many_fits : (known : Known) (found : Bool) (bytes : List ℕ) → AreApart known.script → Fits (IsAnswer known.script) (got_many_at known found bytes)
unfolding got_many_at
got_many_fits known found bytes apart = fits_then (AllByRecursion IsKeyText) (IsAnswer known.script) (values_at known found bytes) _ (values_fit known found bytes) (λ values all. (all, sync_fits known.script values.1 apart))

got_keys_fit : (known : Known) (bytes : List ℕ) → AreApart known.script → Fits (IsAnswer known.script) (got_keys_at known bytes)
unfolding got_keys_at
got_keys_fit known bytes apart =
    let stamp = number_at bytes in
    fits_then (AllByRecursion IsKeyAnswer) (IsAnswer known.script) (each_at (λ _ b. key_answer_begins b) (λ _ b. key_answer_at (drop 1 b)) stamp.1) _
    (all_fits (λ _ b. key_answer_begins b) (λ _ b. key_answer_at (drop 1 b)) IsKeyAnswer (λ n b. key_answer_fits (drop 1 b)) stamp.1)
    (λ keys all. fits_then (FitsRead known.script) (IsAnswer known.script) (read_at known keys.1) _ (read_fits known keys.1 apart) (λ read are. (number_fits bytes, all, are)))

took_fits : (known : Known) (found : Bool) (bytes : List ℕ) → AreApart known.script → Fits (IsAnswer known.script) (took_at known found bytes)
unfolding took_at
took_fits known found bytes apart = fits_then (λ (v : Option (List ℕ)). IfSome v IsKeyText) (IsAnswer known.script) (value_at found bytes) _ (value_fits found bytes)
    (λ value is. (is, point_fits known.script value.1 apart, sync_fits known.script (drop 1 (point_at known.script value.1).1) apart))

listed_fits : (known : Known) (bytes : List ℕ) → AreApart known.script → Fits (IsAnswer known.script) (listed_at known bytes)
unfolding listed_at
listed_fits known bytes apart =
    let stamp = number_at bytes in
    fits_then (AllByRecursion IsKeyText) (IsAnswer known.script) (texts_at known (drop 1 stamp.1)) _ (texts_fit known (drop 1 stamp.1))
    (λ names all. fits_then (FitsRead known.script) (IsAnswer known.script) (read_at known names.1) _ (read_fits known names.1 apart) (λ read are. (all, number_fits bytes, are)))

missing_fits : (known : Known) (bytes : List ℕ) → AreApart known.script → Fits (IsAnswer known.script) (missing_at known bytes)
unfolding missing_at
missing_fits known bytes apart = fits_then (FitsRead known.script) (IsAnswer known.script) (read_at known (number_at bytes).1) _ (read_fits known (number_at bytes).1 apart) (λ read are. (tt, number_fits bytes, are))

undecided_fits : (known : Known) (bytes : List ℕ) → AreApart known.script → IsAnswer known.script (undecided_at known bytes).0
unfolding undecided_at
undecided_fits known bytes apart = (number_fits bytes, sync_fits known.script (drop 1 (number_at bytes).1) apart)

ended_fits : (known : Known) (bytes : List ℕ) → AreApart known.script → IsEnded known.script (ended_at known bytes).0
unfolding ended_at
ended_fits known bytes apart =
    either (λ (e : Ended × List ℕ). IsEnded known.script e.0) (eqb (first_of bytes) 111) _ _ (number_fits (drop 3 bytes), point_fits known.script (drop 1 (number_at (drop 3 bytes)).1) apart)
    (either (λ (e : Ended × List ℕ). IsEnded known.script e.0) (eqb (first_of bytes) 115) _ _ (named_fits known.script.colours (drop 9 bytes) apart.colours.some) tt)

decided_fits : (known : Known) (commits : Bool) (bytes : List ℕ) → AreApart known.script → Fits (IsAnswer known.script) (decided_at known commits bytes)
unfolding decided_at
decided_fits known commits bytes apart =
    let stamp = number_at bytes in
    let sync = sync_at known.script (drop 1 stamp.1) in
    let last = number_at (drop 4 sync.1) in
    fits_then (FitsRead known.script) (IsAnswer known.script) (read_at known last.1) _ (read_fits known last.1 apart)
    (λ read are. (number_fits bytes, sync_fits known.script (drop 1 stamp.1) apart, number_fits (drop 4 sync.1), are, ended_fits known (drop 1 read.1) apart))

ruled_fits : (known : Known) (conflict : Option (List ℕ)) (bytes : List ℕ) → AreApart known.script → IfSome conflict IsKeyText → Fits (IsAnswer known.script) (ruled_at known conflict bytes)
unfolding ruled_at
ruled_fits known conflict bytes apart key = fits_then (FitsRuling known.script) (IsAnswer known.script) (ruling_at known bytes) _ (ruling_fits known bytes apart) (λ r is. (key, is))

conflict_fits : (known : Known) (bytes : List ℕ) → AreApart known.script → Fits (IsAnswer known.script) (conflict_at known bytes)
unfolding conflict_at
conflict_fits known bytes apart = fits_then IsKeyText (IsAnswer known.script) (key_text_at bytes) _ (key_text_fits bytes) (λ key is. ruled_fits known (Some key.0) (drop 1 key.1) apart is)

changed_fits : (known : Known) (failed : Option TreeWhy) (bytes : List ℕ) → AreApart known.script → Fits (IsAnswer known.script) (changed_at known failed bytes)
unfolding changed_at
changed_fits known failed bytes apart = fits_then (FitsRuling known.script) (IsAnswer known.script) (ruling_at known bytes) _ (ruling_fits known bytes apart) (λ r is. is)

failed_fits : (known : Known) (bytes : List ℕ) → AreApart known.script → Fits (IsAnswer known.script) (failed_at known bytes)
unfolding failed_at
failed_fits known bytes apart = changed_fits known (Some (why_named (word_at bytes).0)) (drop 1 (word_at bytes).1) apart

moved_fits : (known : Known) (bytes : List ℕ) → AreApart known.script → IsAnswer known.script (moved_at known bytes).0
unfolding moved_at
moved_fits known bytes apart =
    let lined = number_at bytes in
    let waiting = number_at (drop 1 lined.1) in
    let colour = named_at known.script.colours (drop 1 waiting.1) in
    (number_fits bytes, number_fits (drop 1 lined.1), named_fits known.script.colours (drop 1 waiting.1) apart.colours.some, number_fits (drop 1 colour.1))

unread_fits : (known : Known) (bytes : List ℕ) → AreApart known.script → IsAnswer known.script (unread_at known bytes).0
unfolding unread_at
unread_fits known bytes apart =
    let stamp = number_at bytes in
    let colour = named_at known.script.colours (drop 9 stamp.1) in
    either (λ (a : Answer × List ℕ). IsAnswer known.script a.0) (eqb (first_of (drop 1 stamp.1)) 116) _ _
    (number_fits bytes, named_fits known.script.colours (drop 9 stamp.1) apart.colours.some, counts_fit known.script (drop 1 colour.1) apart) (number_fits bytes)

trimmed_fits : (known : Known) (bytes : List ℕ) → AreApart known.script → IsAnswer known.script (trimmed_at known bytes).0
unfolding trimmed_at
trimmed_fits known bytes apart = (named_fits known.script.colours bytes apart.colours.some, counts_fit known.script (drop 1 (named_at known.script.colours bytes).1) apart)

-- what stands behind the first word fits, whichever command it is
ok_fits : (known : Known) (many : Bool) (word : Word) (bytes : List ℕ) → AreApart known.script → Fits (IsAnswer known.script) (ok_at known many word bytes)
unfolding ok_at
ok_fits known many words.Sync bytes apart = synced_fits known bytes apart
ok_fits known many words.Scan bytes apart = scanned_fits known bytes apart
ok_fits known many words.Pull bytes apart = pulled_fits known bytes
ok_fits known many words.Trim bytes apart = based_fits known bytes apart
ok_fits known many words.Get bytes apart = either (Fits (IsAnswer known.script)) many _ _ (got_many_fits known true bytes apart) (got_fits known true bytes apart)
ok_fits known many words.Peek bytes apart = got_fits known true bytes apart
ok_fits known many words.Decide bytes apart = got_fits known true bytes apart
ok_fits known many words.GetAll bytes apart = got_keys_fit known bytes apart
ok_fits known many words.Read bytes apart = got_keys_fit known bytes apart
ok_fits known many words.Deq bytes apart = took_fits known true bytes apart
ok_fits known many words.Ls bytes apart = listed_fits known bytes apart
ok_fits known many _ bytes apart = stood_fits known bytes apart

none_fits : (known : Known) (many : Bool) (word : Word) (bytes : List ℕ) → AreApart known.script → Fits (IsAnswer known.script) (none_at known many word bytes)
unfolding none_at
none_fits known many words.Get bytes apart = either (Fits (IsAnswer known.script)) many _ _ (got_many_fits known false bytes apart) (got_fits known false bytes apart)
none_fits known many words.Deq bytes apart = took_fits known false bytes apart
none_fits known many _ bytes apart = got_fits known false bytes apart

committed_fits : (known : Known) (word : Word) (bytes : List ℕ) → AreApart known.script → Fits (IsAnswer known.script) (committed_at known word bytes)
unfolding committed_at
committed_fits known words.Decide bytes apart = decided_fits known true bytes apart
committed_fits known _ bytes apart = ruled_fits known None bytes apart tt

conflicting_fits : (known : Known) (word : Word) (bytes : List ℕ) → AreApart known.script → Fits (IsAnswer known.script) (conflicting_at known word bytes)
unfolding conflicting_at
conflicting_fits known words.Decide bytes apart = decided_fits known false bytes apart
conflicting_fits known _ bytes apart = conflict_fits known bytes apart

short_fits : (known : Known) (head rest end : List ℕ) → AreApart known.script → IsAnswer known.script (short_at known head rest end).0
unfolding short_at stamp_end_at full_at stopped_at not_home_at
short_fits known head rest end apart =
    let Good = λ (a : Answer × List ℕ). IsAnswer known.script a.0 in
    either Good (bytes_eq head (codes "stampend")) _ _ (named_fits known.script.colours rest apart.colours.some)
    (either Good (bytes_eq head (codes "full")) _ _ (small_fits rest)
    (either Good (bytes_eq head (codes "stopped")) _ _ (byte_fits rest)
    (either Good (bytes_eq head (codes "sameregion")) _ _ tt
    (either Good (bytes_eq head (codes "undecided")) _ _ (undecided_fits known rest apart)
    (either Good (bytes_eq head (codes "moved")) _ _ (moved_fits known rest apart)
    (either Good (bytes_eq head (codes "notx")) _ _ tt
    (either Good (bytes_eq head (codes "unread")) _ _ (unread_fits known rest apart)
    (either Good (bytes_eq head (codes "trimmed")) _ _ (trimmed_fits known rest apart)
    (either Good (bytes_eq head (codes "nothome")) _ _ (named_fits known.script.regions rest apart.regions.some) tt)))))))))

pub answer_fits : (known : Known) (many : Bool) (word : Word) (bytes : List ℕ) → AreApart known.script → Fits (IsAnswer known.script) (answer_at known many word bytes)
unfolding answer_at
answer_fits known many word bytes apart =
    let head = (word_at bytes).0 in
    let end = (word_at bytes).1 in
    let rest = drop 1 end in
    let Good = Fits (IsAnswer known.script) in
    either Good (bytes_eq head (codes "ok")) _ _ (ok_fits known many word rest apart)
    (either Good (bytes_eq head (codes "none")) _ _ (none_fits known many word rest apart)
    (either Good (bytes_eq head (codes "committed")) _ _ (committed_fits known word rest apart)
    (either Good (bytes_eq head (codes "conflict")) _ _ (conflicting_fits known word rest apart)
    (either Good (bytes_eq head (codes "done")) _ _ (changed_fits known None rest apart)
    (either Good (bytes_eq head (codes "failed")) _ _ (failed_fits known rest apart)
    (either Good (bytes_eq head (codes "missing")) _ _ (missing_fits known rest apart)
    (short_fits known head rest end apart)))))))
