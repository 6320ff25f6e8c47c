-- Answers as a whole: what is printed is read again.
use Rattle.std.proofs.Common.{◌≡◌, ℕ, true, false, eqb, List, [], ◌∷◌, ◌++◌, Option, Some, None, refl, append_assoc}
use Rattle.std.specs.Prelude.{decimal, codes, IfSome}
use Rattle.std.specs.List.{AllByRecursion, flat_map}
use Rattle.std.proofs.Math.Bool.{and-false}
use Rattle.log_node.specs.declared.ids.Counts.{Counts}
use Rattle.log_node.specs.declared.node.At.{At}
use Rattle.report_text.specs.declared.report.SyncPiece.{SyncPiece}
use Rattle.report_text.specs.declared.report.RaisePiece.{RaisePiece}
use Rattle.report_text.specs.declared.report.PointPiece.{PointPiece}
use Rattle.report_text.specs.declared.report.Answer.TheVariants.{Stood, Synced, Scanned, Pulled, Based, Got, GotMany, Listed, Undecided, Moved, Took, UnreadTrimmed, UnreadNoMemory, Trimmed}
use Rattle.report_text.specs.declared.report.Report.{Report}
use Rattle.report_text.specs.Names.{colour_name}
use Rattle.report_text.specs.Pieces.{spaced, listed, at_text, counts_text, point_text, sync_text}
use Rattle.report_text.specs.Replies.{row_text, read_text}
use Rattle.report_reading.specs.Known.{Known}
use Rattle.report_reading.specs.Meant.{IsWord, IsSmall, IsKeyText, IsColour, IsAt, IsPoint, IsSync, AreRead, IsRuling, AreCounts}
use Rattle.report_reading.specs.Pieces.{first_of, word_at, point_begins}
use Rattle.report_reading.specs.AnswerReadings.{texts_at, points_at, has_row, row_number_told_at, ruling_at, value_at, stood_at, synced_at, scanned_at, pulled_at, based_at, got_at, values_at, got_many_at, took_at, listed_at, missing_at, undecided_at, moved_at, unread_at, trimmed_at}
use Rattle.report_reading.proofs.WordLemmas.{ends, number_again, small_again}
use Rattle.report_reading.proofs.PieceLemmas.{AreNamed, said_again, place_again, point_again, sync_again, counts_again}
use Rattle.report_reading.proofs.ListAgain.{all_again, all_end, in_places}
use Rattle.report_reading.proofs.AnswerLemmas.{key_text_again, listed_again, listed_line, points_again, point_so, EndsRead, read_again}

-- a line feed ends a stamped read
pub line_ends : (rest : List ℕ) → EndsRead (10 ∷ rest)
line_ends rest = record { word = refl; slash = refl; over = refl }

-- ---- rows and points

pub rows_end : (row : Option ℕ) (rest : List ℕ) → ends rest ≡ true → ends (row_text row ++ rest) ≡ true
rows_end None rest e = e
rows_end (Some n) rest e = refl

row_told_again : (row : Option ℕ) (rest : List ℕ) → IfSome row IsSmall → ends rest ≡ true → has_row rest ≡ false → row_number_told_at (row_text row ++ rest) ≡ (row, rest)
unfolding row_number_told_at word_at
row_told_again None rest small e none = rw (none) refl
row_told_again (Some n) rest small e none = rw (small_again n rest small e) refl

-- points are no row
no_row : (known : Known) (report : Report) (points : List PointPiece) (rest : List ℕ) → AreNamed known.script report → AllByRecursion (IsPoint known.script) points → has_row rest ≡ false → has_row (spaced (point_text report) points ++ rest) ≡ false
no_row known report [] rest named all none = none
no_row known report (p ∷ points) rest named all none =
    let text = flat_map (λ (q : PointPiece). 32 ∷ point_text report q) points in
    rw (append_assoc (point_text report p) text rest, point_so known.script report p (text ++ rest) named all.0) (and-false (eqb (first_of (point_text report p ++ (text ++ rest))) 114))

points_read : (known : Known) (report : Report) (points : List PointPiece) (rest : List ℕ) → AreNamed known.script report → AllByRecursion (IsPoint known.script) points → ends rest ≡ true → point_begins rest ≡ false
    → points_at known (spaced (point_text report) points ++ rest) ≡ Some (points, rest)
points_read known report points rest named all e over = all_again _ _ _ _ _ (points_again known.script report named) points rest (in_places (IsPoint known.script) 0 points all) e over

points_end : (known : Known) (report : Report) (points : List PointPiece) (rest : List ℕ) → AreNamed known.script report → AllByRecursion (IsPoint known.script) points → ends rest ≡ true → ends (spaced (point_text report) points ++ rest) ≡ true
points_end known report points rest named all e = all_end _ _ _ _ _ (points_again known.script report named) points rest (in_places (IsPoint known.script) 1 points all) e

pub stood_again : (known : Known) (report : Report) (stamp : ℕ) (row : Option ℕ) (points : List PointPiece) (rest : List ℕ) → AreNamed known.script report → IsWord stamp → IfSome row IsSmall → AllByRecursion (IsPoint known.script) points
    → stood_at known (decimal stamp ++ (row_text row ++ (spaced (point_text report) points ++ (10 ∷ rest)))) ≡ Some (Stood stamp row points, 10 ∷ rest)
unfolding stood_at
stood_again known report stamp row points rest named is small all =
    let text = spaced (point_text report) points ++ (10 ∷ rest) in
    let end = points_end known report points (10 ∷ rest) named all refl in
    rw (
      number_again stamp (row_text row ++ text) is (rows_end row text end),
      row_told_again row text small end (no_row known report points (10 ∷ rest) named all refl),
      points_read known report points (10 ∷ rest) named all refl refl,
    ) refl

-- ---- stamped reads

pub reads_end : (report : Report) (raises : List RaisePiece) (syncs : List SyncPiece) (rest : List ℕ) → ends rest ≡ true → ends (read_text report raises syncs ++ rest) ≡ true
reads_end report [] [] rest e = e
reads_end report [] (s ∷ syncs) rest e = refl
reads_end report (r ∷ raises) syncs rest e = refl

pub ruling_again : (known : Known) (report : Report) (stamp : ℕ) (row : Option ℕ) (points : List PointPiece) (read_stamp : ℕ) (raises : List RaisePiece) (syncs : List SyncPiece) (rest : List ℕ)
    → AreNamed known.script report → IsRuling known.script stamp row points read_stamp (raises, syncs)
    → ruling_at known (decimal stamp ++ (row_text row ++ (spaced (point_text report) points ++ (codes " at " ++ (decimal read_stamp ++ (read_text report raises syncs ++ (10 ∷ rest)))))))
    ≡ Some (record { stamp = stamp; row = row; points = points; read_stamp = read_stamp; read = record { raises = raises; syncs = syncs } }, 10 ∷ rest)
unfolding ruling_at word_at
ruling_again known report stamp row points read_stamp raises syncs rest named is =
    let read = read_text report raises syncs ++ (10 ∷ rest) in
    let last = codes " at " ++ (decimal read_stamp ++ read) in
    let text = spaced (point_text report) points ++ last in
    let end = points_end known report points last named is.points refl in
    rw (
      number_again stamp (row_text row ++ text) is.stamp (rows_end row text end),
      row_told_again row text is.row end (no_row known report points last named is.points refl),
      points_read known report points last named is.points refl refl,
      number_again read_stamp read is.read_stamp (reads_end report raises syncs (10 ∷ rest) refl),
      read_again known report raises syncs (10 ∷ rest) named is.read (line_ends rest),
    ) refl

-- ---- what stands behind the first word

found_again : (value : List ℕ) (rest : List ℕ) → IsKeyText value → value_at true (value ++ (32 ∷ rest)) ≡ Some (Some value, rest)
unfolding value_at
found_again value rest is = rw (key_text_again value (32 ∷ rest) is refl) refl

none_found : (rest : List ℕ) → value_at false rest ≡ Some (None, rest)
unfolding value_at
none_found rest = refl

pub synced_again : (known : Known) (report : Report) (sync : SyncPiece) (plays : ℕ) (rest : List ℕ) → AreNamed known.script report → IsSync known.script sync → IsWord plays
    → synced_at known (sync_text report sync ++ (codes " plays " ++ (decimal plays ++ (10 ∷ rest)))) ≡ (Synced sync plays, 10 ∷ rest)
unfolding synced_at
synced_again known report sync plays rest named is small =
    rw (sync_again known.script report sync (codes " plays " ++ (decimal plays ++ (10 ∷ rest))) named is refl, number_again plays (10 ∷ rest) small refl) refl

pub scanned_again : (known : Known) (report : Report) (stamp nodes : ℕ) (raises : List RaisePiece) (syncs : List SyncPiece) (rest : List ℕ) → AreNamed known.script report → IsWord stamp → IsWord nodes → AreRead known.script (raises, syncs)
    → scanned_at known (decimal stamp ++ (codes " nodes " ++ (decimal nodes ++ (read_text report raises syncs ++ (10 ∷ rest))))) ≡ Some (Scanned stamp nodes raises syncs, 10 ∷ rest)
unfolding scanned_at
scanned_again known report stamp nodes raises syncs rest named p q are =
    let read = read_text report raises syncs ++ (10 ∷ rest) in
    rw (number_again stamp (codes " nodes " ++ (decimal nodes ++ read)) p refl, number_again nodes read q (reads_end report raises syncs (10 ∷ rest) refl), read_again known report raises syncs (10 ∷ rest) named are (line_ends rest)) refl

pub pulled_again : (nodes : ℕ) (give carry : At) (rest : List ℕ) → IsWord nodes → IsAt give → IsAt carry
    → pulled_at (decimal nodes ++ (codes " give " ++ (at_text give ++ (codes " carry " ++ (at_text carry ++ (10 ∷ rest)))))) ≡ (Pulled nodes give carry, 10 ∷ rest)
unfolding pulled_at
pulled_again nodes give carry rest p q r =
    let last = codes " carry " ++ (at_text carry ++ (10 ∷ rest)) in
    rw (number_again nodes (codes " give " ++ (at_text give ++ last)) p refl, place_again give last q refl, place_again carry (10 ∷ rest) r refl) refl

pub based_again : (known : Known) (report : Report) (place : At) (base : Counts) (rest : List ℕ) → AreNamed known.script report → IsAt place → AreCounts known.script base
    → based_at known (at_text place ++ (codes " base " ++ (counts_text report base ++ (10 ∷ rest)))) ≡ (Based place base, 10 ∷ rest)
unfolding based_at
based_again known report place base rest named p q =
    rw (place_again place (codes " base " ++ (counts_text report base ++ (10 ∷ rest))) p refl, counts_again known.script report base (10 ∷ rest) named q refl) refl

pub got_found : (known : Known) (report : Report) (value : List ℕ) (sync : SyncPiece) (rest : List ℕ) → AreNamed known.script report → IsKeyText value → IsSync known.script sync
    → got_at known true (value ++ (32 ∷ (sync_text report sync ++ (10 ∷ rest)))) ≡ Some (Got (Some value) sync, 10 ∷ rest)
unfolding got_at
got_found known report value sync rest named p q =
    rw (found_again value (sync_text report sync ++ (10 ∷ rest)) p, sync_again known.script report sync (10 ∷ rest) named q refl) refl

pub got_none : (known : Known) (report : Report) (sync : SyncPiece) (rest : List ℕ) → AreNamed known.script report → IsSync known.script sync
    → got_at known false (sync_text report sync ++ (10 ∷ rest)) ≡ Some (Got None sync, 10 ∷ rest)
unfolding got_at
got_none known report sync rest named q = rw (none_found (sync_text report sync ++ (10 ∷ rest)), sync_again known.script report sync (10 ∷ rest) named q refl) refl

pub many_found : (known : Known) (report : Report) (value : List ℕ) (values : List (List ℕ)) (sync : SyncPiece) (rest : List ℕ) → AreNamed known.script report → AllByRecursion IsKeyText (value ∷ values) → IsSync known.script sync
    → got_many_at known true (listed (λ v. v) (value ∷ values) ++ (32 ∷ (sync_text report sync ++ (10 ∷ rest)))) ≡ Some (GotMany (value ∷ values) sync, 10 ∷ rest)
unfolding got_many_at values_at
many_found known report value values sync rest named p q =
    rw (listed_again known (value ∷ values) (sync_text report sync ++ (10 ∷ rest)) p, sync_again known.script report sync (10 ∷ rest) named q refl) refl

pub many_none : (known : Known) (report : Report) (sync : SyncPiece) (rest : List ℕ) → AreNamed known.script report → IsSync known.script sync
    → got_many_at known false (sync_text report sync ++ (10 ∷ rest)) ≡ Some (GotMany [] sync, 10 ∷ rest)
unfolding got_many_at values_at
many_none known report sync rest named q = rw (sync_again known.script report sync (10 ∷ rest) named q refl) refl

pub took_found : (known : Known) (report : Report) (value : List ℕ) (point : PointPiece) (sync : SyncPiece) (rest : List ℕ) → AreNamed known.script report → IsKeyText value → IsPoint known.script point → IsSync known.script sync
    → took_at known true (value ++ (32 ∷ (point_text report point ++ (32 ∷ (sync_text report sync ++ (10 ∷ rest)))))) ≡ Some (Took (Some value) point sync, 10 ∷ rest)
unfolding took_at
took_found known report value point sync rest named p q r =
    let last = 32 ∷ (sync_text report sync ++ (10 ∷ rest)) in
    rw (found_again value (point_text report point ++ last) p, point_again known.script report point last named q refl, sync_again known.script report sync (10 ∷ rest) named r refl) refl

pub took_none : (known : Known) (report : Report) (point : PointPiece) (sync : SyncPiece) (rest : List ℕ) → AreNamed known.script report → IsPoint known.script point → IsSync known.script sync
    → took_at known false (point_text report point ++ (32 ∷ (sync_text report sync ++ (10 ∷ rest)))) ≡ Some (Took None point sync, 10 ∷ rest)
unfolding took_at
took_none known report point sync rest named q r =
    let last = 32 ∷ (sync_text report sync ++ (10 ∷ rest)) in
    rw (none_found (point_text report point ++ last), point_again known.script report point last named q refl, sync_again known.script report sync (10 ∷ rest) named r refl) refl

-- names before the raises and the syncs: no colour's name may go on with them
names_again : (known : Known) (report : Report) (names : List (List ℕ)) (raises : List RaisePiece) (syncs : List SyncPiece) (rest : List ℕ) → AllByRecursion IsKeyText names
    → texts_at known (listed (λ n. n) names ++ (read_text report raises syncs ++ (10 ∷ rest))) ≡ Some (names, read_text report raises syncs ++ (10 ∷ rest))
names_again known report names [] [] rest all = listed_line known names rest all
names_again known report names [] (s ∷ syncs) rest all = listed_again known names _ all
names_again known report names (r ∷ raises) syncs rest all = listed_again known names _ all

pub listed_so : (known : Known) (report : Report) (names : List (List ℕ)) (stamp : ℕ) (raises : List RaisePiece) (syncs : List SyncPiece) (rest : List ℕ) → AreNamed known.script report → AllByRecursion IsKeyText names → IsWord stamp → AreRead known.script (raises, syncs)
    → listed_at known (decimal stamp ++ (32 ∷ (listed (λ n. n) names ++ (read_text report raises syncs ++ (10 ∷ rest))))) ≡ Some (Listed (Some names) stamp raises syncs, 10 ∷ rest)
unfolding listed_at
listed_so known report names stamp raises syncs rest named all p are =
    let read = read_text report raises syncs ++ (10 ∷ rest) in
    rw (number_again stamp (32 ∷ (listed (λ n. n) names ++ read)) p refl, names_again known report names raises syncs rest all, read_again known report raises syncs (10 ∷ rest) named are (line_ends rest)) refl

pub missing_so : (known : Known) (report : Report) (stamp : ℕ) (raises : List RaisePiece) (syncs : List SyncPiece) (rest : List ℕ) → AreNamed known.script report → IsWord stamp → AreRead known.script (raises, syncs)
    → missing_at known (decimal stamp ++ (read_text report raises syncs ++ (10 ∷ rest))) ≡ Some (Listed None stamp raises syncs, 10 ∷ rest)
unfolding missing_at
missing_so known report stamp raises syncs rest named p are =
    let read = read_text report raises syncs ++ (10 ∷ rest) in
    rw (number_again stamp read p (reads_end report raises syncs (10 ∷ rest) refl), read_again known report raises syncs (10 ∷ rest) named are (line_ends rest)) refl

pub undecided_so : (known : Known) (report : Report) (stamp : ℕ) (sync : SyncPiece) (rest : List ℕ) → AreNamed known.script report → IsWord stamp → IsSync known.script sync
    → undecided_at known (decimal stamp ++ (32 ∷ (sync_text report sync ++ (10 ∷ rest)))) ≡ (Undecided stamp sync, 10 ∷ rest)
unfolding undecided_at
undecided_so known report stamp sync rest named p q = rw (number_again stamp (32 ∷ (sync_text report sync ++ (10 ∷ rest))) p refl, sync_again known.script report sync (10 ∷ rest) named q refl) refl

pub moved_so : (known : Known) (report : Report) (lined waiting colour events : ℕ) (rest : List ℕ) → AreNamed known.script report → IsWord lined → IsWord waiting → IsColour known.script colour → IsWord events
    → moved_at known (decimal lined ++ (32 ∷ (decimal waiting ++ (32 ∷ (colour_name report colour ++ (63 ∷ (decimal events ++ (10 ∷ rest)))))))) ≡ (Moved lined waiting colour events, 10 ∷ rest)
unfolding moved_at
moved_so known report lined waiting colour events rest named p q r s =
    let third = 63 ∷ (decimal events ++ (10 ∷ rest)) in
    let second = 32 ∷ (colour_name report colour ++ third) in
    rw (number_again lined (32 ∷ (decimal waiting ++ second)) p refl, number_again waiting second q refl, said_again known.script.colours (colour_name report) colour third named.colours r refl, number_again events (10 ∷ rest) s refl) refl

pub unread_trimmed : (known : Known) (report : Report) (stamp colour : ℕ) (base : Counts) (rest : List ℕ) → AreNamed known.script report → IsWord stamp → IsColour known.script colour → AreCounts known.script base
    → unread_at known (decimal stamp ++ (codes " trimmed " ++ (colour_name report colour ++ (32 ∷ (counts_text report base ++ (10 ∷ rest)))))) ≡ (UnreadTrimmed stamp colour base, 10 ∷ rest)
unfolding unread_at
unread_trimmed known report stamp colour base rest named p q r =
    let third = 32 ∷ (counts_text report base ++ (10 ∷ rest)) in
    rw (number_again stamp (codes " trimmed " ++ (colour_name report colour ++ third)) p refl, said_again known.script.colours (colour_name report) colour third named.colours q refl, counts_again known.script report base (10 ∷ rest) named r refl) refl

pub unread_memory : (known : Known) (stamp : ℕ) (rest : List ℕ) → IsWord stamp → unread_at known (decimal stamp ++ (codes " nomemory" ++ (10 ∷ rest))) ≡ (UnreadNoMemory stamp, 10 ∷ rest)
unfolding unread_at
unread_memory known stamp rest p = rw (number_again stamp (codes " nomemory" ++ (10 ∷ rest)) p refl) refl

pub trimmed_so : (known : Known) (report : Report) (colour : ℕ) (base : Counts) (rest : List ℕ) → AreNamed known.script report → IsColour known.script colour → AreCounts known.script base
    → trimmed_at known (colour_name report colour ++ (32 ∷ (counts_text report base ++ (10 ∷ rest)))) ≡ (Trimmed colour base, 10 ∷ rest)
unfolding trimmed_at
trimmed_so known report colour base rest named q r =
    rw (said_again known.script.colours (colour_name report) colour (32 ∷ (counts_text report base ++ (10 ∷ rest))) named.colours q refl, counts_again known.script report base (10 ∷ rest) named r refl) refl
