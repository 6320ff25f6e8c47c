-- Answers: what is printed is read again.
use Rattle.std.proofs.Common.{◌≡◌, ℕ, ◌<◌, true, false, eqb, List, [], ◌∷◌, ◌++◌, length, drop, Some, refl, ap, ◌∙◌, append_assoc, arith}
use Rattle.std.specs.Prelude.{decimal}
use Rattle.std.specs.List.{AllByRecursion, flat_map, list_all}
use Rattle.std.proofs.lemmas.Bool.{and_parts}
use Rattle.log_node.specs.declared.node.At.{At}
use Rattle.log_node.specs.declared.node.At.TheVariants as places
use Rattle.script_text.specs.declared.script.Script.{Script}
use Rattle.script_text.specs.Pieces.{is_letter_or_digit, is_between}
use Rattle.report_text.specs.declared.report.SyncPiece.{SyncPiece}
use Rattle.report_text.specs.declared.report.RaisePiece.{RaisePiece}
use Rattle.report_text.specs.declared.report.PointPiece.{PointPiece}
use Rattle.report_text.specs.declared.report.Report.{Report}
use Rattle.report_text.specs.Names.{colour_name}
use Rattle.report_text.specs.Pieces.{spaced, listed, at_text, point_text, raise_text, sync_text, counts_text}
use Rattle.report_text.specs.Replies.{read_text}
use Rattle.report_reading.specs.Known.{Known}
use Rattle.report_reading.specs.Lists.{list_at}
use Rattle.report_reading.specs.Meant.{IsKeyText, IsColour, IsAt, IsRaise, IsPoint, IsSync, AreRead}
use Rattle.report_reading.specs.Pieces.{first_of, raise_at, point_at, sync_at, behind_word, point_begins, behind_events, raise_begins, sync_begins}
use Rattle.report_reading.specs.ColumnReadings.{listed_begins, behind_comma}
use Rattle.report_reading.specs.AnswerReadings.{key_text_at, texts_at, read_at}
use Rattle.report_reading.proofs.WordLemmas.{cons_on, ends, right_false, word_again, number_again, behind_word_is, word_front}
use Rattle.report_reading.proofs.PieceLemmas.{AreNamed, raise_again, point_again, sync_again}
use Rattle.report_reading.proofs.ListAgain.{IsReadAgain, comma, listed_texts, each_again, all_again, in_places}
use Rattle.report_reading.proofs.ColumnLemmas.{no_comma, comma_begins, comma_append, comma_some}

-- a key is letters and digits, one at least
pub key_letters : (t : List ℕ) → IsKeyText t → list_all is_letter_or_digit t ≡ true
key_letters t is = (and_parts (is_between 1 16 (length t)) (list_all is_letter_or_digit t) is).1

pub key_length : (t : List ℕ) → IsKeyText t → 0 < length t
key_length [] is = absurd cc
key_length (b ∷ t) is = omega arith

pub key_text_again : (t rest : List ℕ) → IsKeyText t → ends rest ≡ true → key_text_at (t ++ rest) ≡ Some (t, rest)
unfolding key_text_at
key_text_again t rest is e = rw (word_again t rest (key_letters t is) e, is) refl

-- ---- lists of texts

texts_again : (known : Known) → IsReadAgain (λ _ b. listed_begins b) (λ _ b. key_text_at (behind_comma b)) (λ n (t : List ℕ). comma n t) (λ _. IsKeyText) (λ b. ends b ≡ true)
texts_again known = record {
  some = λ n t is. comma_some n t (key_length t is);
  begin = λ n t rest is e. rw (comma_append n t rest) (comma_begins n (t ++ rest) (word_front t rest (key_letters t is) (key_length t is)));
  again = λ n t rest is e. rw (comma_append n t rest, no_comma n (t ++ rest) (word_front t rest (key_letters t is) (key_length t is))) (key_text_again t rest is e);
  end = λ n t rest is e. refl;
}

-- texts are read again before a space
pub listed_again : (known : Known) (ts : List (List ℕ)) (rest : List ℕ) → AllByRecursion IsKeyText ts → texts_at known (listed (λ t. t) ts ++ (32 ∷ rest)) ≡ Some (ts, 32 ∷ rest)
unfolding list_at
listed_again known [] rest all = refl
listed_again known (t ∷ ts) rest all =
    rw (listed_texts (λ t. t) t ts, each_again _ _ _ _ _ (texts_again known) (t ∷ ts) (32 ∷ rest) (in_places IsKeyText 0 (t ∷ ts) all) refl refl) refl

-- and before the end of a line
pub listed_line : (known : Known) (ts : List (List ℕ)) (rest : List ℕ) → AllByRecursion IsKeyText ts → texts_at known (listed (λ t. t) ts ++ (10 ∷ rest)) ≡ Some (ts, 10 ∷ rest)
unfolding list_at
listed_line known [] rest all = refl
listed_line known (t ∷ ts) rest all =
    rw (listed_texts (λ t. t) t ts, each_again _ _ _ _ _ (texts_again known) (t ∷ ts) (10 ∷ rest) (in_places IsKeyText 0 (t ∷ ts) all) refl refl) refl

-- ---- points, raises and syncs

-- a colour's name behind a space, and the byte behind it
colour_behind : (script : Script) (report : Report) (colour c : ℕ) (rest : List ℕ) → AreNamed script report → IsColour script colour → is_letter_or_digit c ≡ false → behind_word (32 ∷ (colour_name report colour ++ (c ∷ rest))) ≡ c
colour_behind script report colour c rest named lt other =
    rw (named.colours.said_so colour lt) (behind_word_is _ c rest (named.colours.words colour lt) other)

pub raise_point : (script : Script) (report : Report) (colour : ℕ) (place : At) (rest : List ℕ) → AreNamed script report → IsColour script colour → point_begins (32 ∷ ((colour_name report colour ++ at_text place) ++ rest)) ≡ true
raise_point script report colour (places.Event n) rest named is =
    rw (append_assoc (colour_name report colour) (33 ∷ decimal n) rest, colour_behind script report colour 33 (decimal n ++ rest) named is refl) refl
raise_point script report colour (places.Look n) rest named is =
    rw (append_assoc (colour_name report colour) (63 ∷ decimal n) rest, colour_behind script report colour 63 (decimal n ++ rest) named is refl) refl

-- behind its number no slash stands
raise_no_slash : (script : Script) (report : Report) (colour : ℕ) (place : At) (rest : List ℕ) → AreNamed script report → IsColour script colour → IsAt place → ends rest ≡ true → eqb (first_of rest) 47 ≡ false
    → eqb (behind_events (32 ∷ ((colour_name report colour ++ at_text place) ++ rest))) 47 ≡ false
raise_no_slash script report colour (places.Event n) rest named is number e other =
    rw (append_assoc (colour_name report colour) (33 ∷ decimal n) rest, named.colours.said_so colour is, word_again _ (33 ∷ (decimal n ++ rest)) (named.colours.words colour is) refl, number_again n rest number e) other
raise_no_slash script report colour (places.Look n) rest named is number e other =
    rw (append_assoc (colour_name report colour) (63 ∷ decimal n) rest, named.colours.said_so colour is, word_again _ (63 ∷ (decimal n ++ rest)) (named.colours.words colour is) refl, number_again n rest number e) other

-- what may stand behind a raise
abbrev pub EndsRaise : List ℕ → Type 0
EndsRaise b = (ends b ≡ true) × (eqb (first_of b) 47 ≡ false)

raises_again : (script : Script) (report : Report) → AreNamed script report → IsReadAgain (λ _ b. raise_begins b) (λ _ b. Some (raise_at script (drop 1 b))) (λ _ (r : RaisePiece). 32 ∷ raise_text report r) (λ _. IsRaise script) EndsRaise
raises_again script report named = record {
  some = λ n r is. omega arith;
  begin = λ n r rest is e. rw (raise_point script report r.colour r.at rest named is.colour, raise_no_slash script report r.colour r.at rest named is.colour is.place e.0 e.1) refl;
  again = λ n r rest is e. ap Some (raise_again script report r rest named is e.0);
  end = λ n r rest is e. (refl, refl);
}

-- a point is a raise, and behind that its position
point_raise : (report : Report) (p : PointPiece) (rest : List ℕ) → point_text report p ++ rest ≡ raise_text report (record { colour = p.colour; at = p.at }) ++ (64 ∷ (decimal p.position ++ rest))
point_raise report p rest = simp (append_assoc, cons_on)

-- a point begins behind its space
pub point_so : (script : Script) (report : Report) (p : PointPiece) (rest : List ℕ) → AreNamed script report → IsPoint script p → point_begins (32 ∷ (point_text report p ++ rest)) ≡ true
point_so script report p rest named is = rw (point_raise report p rest) (raise_point script report p.colour p.at (64 ∷ (decimal p.position ++ rest)) named is.colour)

pub points_again : (script : Script) (report : Report) → AreNamed script report → IsReadAgain (λ _ b. point_begins b) (λ _ b. Some (point_at script (drop 1 b))) (λ _ (p : PointPiece). 32 ∷ point_text report p) (λ _. IsPoint script) (λ b. ends b ≡ true)
points_again script report named = record {
  some = λ n p is. omega arith;
  begin = λ n p rest is e. point_so script report p rest named is;
  again = λ n p rest is e. ap Some (point_again script report p rest named is e);
  end = λ n p rest is e. refl;
}

-- a sync, part by part
sync_parts : (report : Report) (s : SyncPiece) (rest : List ℕ) → sync_text report s ++ rest ≡ colour_name report s.colour ++ (63 ∷ (decimal s.events ++ (47 ∷ (counts_text report s.counts ++ rest))))
sync_parts report s rest = simp (append_assoc, cons_on)

pub sync_begins_so : (script : Script) (report : Report) (s : SyncPiece) (rest : List ℕ) → AreNamed script report → IsSync script s → sync_begins (32 ∷ (sync_text report s ++ rest)) ≡ true
sync_begins_so script report s rest named is =
    ap (λ w. sync_begins (32 ∷ w)) (sync_parts report s rest)
    ∙ ap (λ b. eqb b 63) (colour_behind script report s.colour 63 (decimal s.events ++ (47 ∷ (counts_text report s.counts ++ rest))) named is.colour refl)

syncs_again : (script : Script) (report : Report) → AreNamed script report → IsReadAgain (λ _ b. sync_begins b) (λ _ b. Some (sync_at script (drop 1 b))) (λ _ (s : SyncPiece). 32 ∷ sync_text report s) (λ _. IsSync script) (λ b. ends b ≡ true)
syncs_again script report named = record {
  some = λ n s is. omega arith;
  begin = λ n s rest is e. sync_begins_so script report s rest named is;
  again = λ n s rest is e. ap Some (sync_again script report s rest named is e);
  end = λ n s rest is e. refl;
}

-- a sync is no raise: behind its number stands a slash
sync_no_raise : (script : Script) (report : Report) (s : SyncPiece) (rest : List ℕ) → AreNamed script report → IsSync script s → raise_begins (32 ∷ (sync_text report s ++ rest)) ≡ false
sync_no_raise script report s rest named is =
    let tail = 47 ∷ (counts_text report s.counts ++ rest) in
    ap (λ w. raise_begins (32 ∷ w)) (sync_parts report s rest)
    ∙ rw (named.colours.said_so s.colour is.colour, word_again _ (63 ∷ (decimal s.events ++ tail)) (named.colours.words s.colour is.colour) refl, number_again s.events tail is.events refl) refl

-- what may stand behind a stamped read: no raise and no sync
pub record EndsRead (rest : List ℕ) : Type 0 where
  pub word : ends rest ≡ true
  pub slash : eqb (first_of rest) 47 ≡ false
  pub over : point_begins rest ≡ false

no_sync : (rest : List ℕ) → point_begins rest ≡ false → sync_begins rest ≡ false
no_sync rest over = right_false (eqb (behind_word rest) 33) (eqb (behind_word rest) 63) over

-- where the raises end
raises_stop : (script : Script) (report : Report) (syncs : List SyncPiece) (rest : List ℕ) → AreNamed script report → AllByRecursion (IsSync script) syncs → EndsRead rest
    → raise_begins (flat_map (λ s. 32 ∷ sync_text report s) syncs ++ rest) ≡ false
raises_stop script report [] rest named all over = rw (over.over) refl
raises_stop script report (s ∷ syncs) rest named all over =
    rw (append_assoc (sync_text report s) (flat_map (λ s. 32 ∷ sync_text report s) syncs) rest) (sync_no_raise script report s (flat_map (λ s. 32 ∷ sync_text report s) syncs ++ rest) named all.0)

-- what stands behind the raises
raises_end : (report : Report) (syncs : List SyncPiece) (rest : List ℕ) → EndsRead rest → EndsRaise (flat_map (λ s. 32 ∷ sync_text report s) syncs ++ rest)
raises_end report [] rest over = (over.word, over.slash)
raises_end report (s ∷ syncs) rest over = (refl, refl)

pub read_again : (known : Known) (report : Report) (raises : List RaisePiece) (syncs : List SyncPiece) (rest : List ℕ) → AreNamed known.script report → AreRead known.script (raises, syncs) → EndsRead rest
    → read_at known (read_text report raises syncs ++ rest) ≡ Some (record { raises = raises; syncs = syncs }, rest)
unfolding read_at
read_again known report raises syncs rest named are over =
    let text = flat_map (λ s. 32 ∷ sync_text report s) syncs in
    let regrouped : read_text report raises syncs ++ rest ≡ spaced (raise_text report) raises ++ (text ++ rest) = append_assoc (spaced (raise_text report) raises) text rest in
    ap (read_at known) regrouped
    ∙ rw (
      all_again _ _ _ _ _ (raises_again known.script report named) raises (text ++ rest) (in_places (IsRaise known.script) 0 raises are.raises) (raises_end report syncs rest over) (raises_stop known.script report syncs rest named are.syncs over),
      all_again _ _ _ _ _ (syncs_again known.script report named) syncs rest (in_places (IsSync known.script) 0 syncs are.syncs) over.word (no_sync rest over.over),
    ) refl
