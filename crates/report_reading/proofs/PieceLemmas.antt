-- The pieces of lines: what is printed is read again.
use Rattle.std.proofs.Common.{◌≡◌, ℕ, zero, suc, ◌^◌, ◌<◌, ◌≤◌, true, List, [], ◌∷◌, ◌++◌, length, map, refl, ap, ◌∙◌, append_assoc, arith}
use Rattle.std.specs.Prelude.{decimal}
use Rattle.std.specs.List.{list_all, range_with_len, join_with_byte}
use Rattle.log_node.specs.declared.ids.Id.{Id}
use Rattle.log_node.specs.declared.ids.Key.{Key}
use Rattle.log_node.specs.declared.ids.Counts.{Counts}
use Rattle.log_node.specs.declared.node.At.{At}
use Rattle.log_node.specs.declared.node.At.TheVariants.{Event, Look}
use Rattle.log_node.specs.Vectors.{at}
use Rattle.script_text.specs.declared.script.Script.{Script}
use Rattle.script_text.specs.Pieces.{is_letter_or_digit, name_of}
use Rattle.report_text.specs.declared.report.SyncPiece.{SyncPiece}
use Rattle.report_text.specs.declared.report.RaisePiece.{RaisePiece}
use Rattle.report_text.specs.declared.report.PointPiece.{PointPiece}
use Rattle.report_text.specs.declared.report.Report.{Report}
use Rattle.report_text.specs.Names.{client_name, colour_name, region_name, region_count}
use Rattle.report_text.specs.Pieces.{id_text, key_text, counts_text, at_text, point_text, raise_text, sync_text}
use Rattle.report_reading.specs.Meant.{IsId, IsKey, AreCounts, IsAt, IsRaise, IsPoint, IsSync}
use Rattle.report_reading.specs.Pieces.{named_at, id_at, key_at, further_at, numbers_at, counts_at, place_at, raise_at, point_at, sync_at}
use Rattle.report_reading.proofs.WordLemmas.{cons_on, ends, number_again, Differ, named_again}

-- names of one kind, which a report has under the same numbers
pub record AreSaid (names : List (List ℕ)) (said : ℕ → List ℕ) : Type 0 where
  pub said_so : (n : ℕ) → n < length names → said n ≡ name_of names n
  pub words : (n : ℕ) → n < length names → list_all is_letter_or_digit (name_of names n) ≡ true
  pub some : (n : ℕ) → n < length names → 0 < length (name_of names n)
  pub differ : Differ names

-- the names of a script are those of the report
pub record AreNamed (script : Script) (report : Report) : Type 0 where
  pub clients : AreSaid script.clients (client_name report)
  pub colours : AreSaid script.colours (colour_name report)
  pub regions : AreSaid script.regions (region_name report)
  pub count : region_count report ≡ length script.regions
  pub few : length script.regions ≤ 4
  pub some : 0 < length script.regions

pub said_again : (names : List (List ℕ)) (said : ℕ → List ℕ) (n : ℕ) (rest : List ℕ) → AreSaid names said → n < length names → ends rest ≡ true → named_at names (said n ++ rest) ≡ (n, rest)
said_again names said n rest are lt e = rw (are.said_so n lt) (named_again names n rest lt are.differ (are.words n lt) e)

pub id_again : (script : Script) (report : Report) (id : Id) (rest : List ℕ) → AreNamed script report → IsId script id → ends rest ≡ true → id_at script (id_text report id ++ rest) ≡ (id, rest)
unfolding id_at
id_again script report id rest named is e =
    let regrouped : id_text report id ++ rest ≡ client_name report id.client ++ (46 ∷ (decimal id.count ++ rest)) = append_assoc (client_name report id.client) (46 ∷ decimal id.count) rest in
    ap (id_at script) regrouped
    ∙ rw (said_again script.clients (client_name report) id.client (46 ∷ (decimal id.count ++ rest)) named.clients is.client refl, number_again id.count rest is.count e) refl

pub key_again : (script : Script) (report : Report) (key : Key) (rest : List ℕ) → AreNamed script report → IsKey script key → ends rest ≡ true → key_at script (key_text report key ++ rest) ≡ (key, rest)
unfolding key_at
key_again script report key rest named is e =
    let regrouped : key_text report key ++ rest ≡ id_text report key.id ++ (58 ∷ (decimal key.stamp ++ rest)) = append_assoc (id_text report key.id) (58 ∷ decimal key.stamp) rest in
    ap (key_at script) regrouped
    ∙ rw (id_again script report key.id (58 ∷ (decimal key.stamp ++ rest)) named is.id refl, number_again key.stamp rest is.stamp e) refl

-- ---- counts

-- a number for each of four regions, of which so many are printed
abbrev numbers : ℕ → ℕ → ℕ → ℕ → Counts
numbers a b c d = record { 0 = a ∷ b ∷ c ∷ d ∷ [] }

abbrev text_of : ℕ → Counts → List ℕ
text_of regions counts = join_with_byte 44 (map (λ region. decimal (at counts region)) (range_with_len 0 regions))

one_again : (a : ℕ) (rest : List ℕ) → a < 2 ^ 64 → ends rest ≡ true → numbers_at 1 (decimal a ++ rest) ≡ (numbers a 0 0 0, rest)
unfolding numbers_at further_at
one_again a rest p e = rw (number_again a rest p e) refl

two_again : (a b : ℕ) (rest : List ℕ) → a < 2 ^ 64 → b < 2 ^ 64 → ends rest ≡ true → numbers_at 2 (decimal a ++ (44 ∷ (decimal b ++ rest))) ≡ (numbers a b 0 0, rest)
unfolding numbers_at further_at
two_again a b rest p q e = rw (number_again a (44 ∷ (decimal b ++ rest)) p refl, number_again b rest q e) refl

three_again : (a b c : ℕ) (rest : List ℕ) → a < 2 ^ 64 → b < 2 ^ 64 → c < 2 ^ 64 → ends rest ≡ true → numbers_at 3 (decimal a ++ (44 ∷ (decimal b ++ (44 ∷ (decimal c ++ rest))))) ≡ (numbers a b c 0, rest)
unfolding numbers_at further_at
three_again a b c rest p q r e = rw (number_again a (44 ∷ (decimal b ++ (44 ∷ (decimal c ++ rest)))) p refl, number_again b (44 ∷ (decimal c ++ rest)) q refl, number_again c rest r e) refl

four_again : (a b c d : ℕ) (rest : List ℕ) → a < 2 ^ 64 → b < 2 ^ 64 → c < 2 ^ 64 → d < 2 ^ 64 → ends rest ≡ true
    → numbers_at 4 (decimal a ++ (44 ∷ (decimal b ++ (44 ∷ (decimal c ++ (44 ∷ (decimal d ++ rest))))))) ≡ (numbers a b c d, rest)
unfolding numbers_at further_at
four_again a b c d rest p q r s e =
    rw (number_again a (44 ∷ (decimal b ++ (44 ∷ (decimal c ++ (44 ∷ (decimal d ++ rest)))))) p refl, number_again b (44 ∷ (decimal c ++ (44 ∷ (decimal d ++ rest)))) q refl, number_again c (44 ∷ (decimal d ++ rest)) r refl, number_again d rest s e) refl

-- four numbers, of which those beyond the regions are 0
numbers_again : (regions a b c d : ℕ) (rest : List ℕ) → 0 < regions → regions ≤ 4 → a < 2 ^ 64 → b < 2 ^ 64 → c < 2 ^ 64 → d < 2 ^ 64
    → (regions ≤ 1 → b ≡ 0) → (regions ≤ 2 → c ≡ 0) → (regions ≤ 3 → d ≡ 0) → ends rest ≡ true
    → numbers_at regions (text_of regions (numbers a b c d) ++ rest) ≡ (numbers a b c d, rest)
numbers_again zero a b c d rest some few p q r s no_b no_c no_d e = absurd (omega (arith, some))
numbers_again (suc zero) a b c d rest some few p q r s no_b no_c no_d e =
    rw (no_b (omega arith), no_c (omega arith), no_d (omega arith)) (one_again a rest p e)
numbers_again (suc (suc zero)) a b c d rest some few p q r s no_b no_c no_d e =
    rw (no_c (omega arith), no_d (omega arith)) (ap (numbers_at 2) (append_assoc (decimal a) (44 ∷ decimal b) rest) ∙ two_again a b rest p q e)
numbers_again (suc (suc (suc zero))) a b c d rest some few p q r s no_b no_c no_d e =
    rw (no_d (omega arith)) (ap (numbers_at 3) (append_assoc (decimal a) (44 ∷ (decimal b ++ (44 ∷ decimal c))) rest ∙ ap (λ w. decimal a ++ (44 ∷ w)) (append_assoc (decimal b) (44 ∷ decimal c) rest)) ∙ three_again a b c rest p q r e)
numbers_again (suc (suc (suc (suc zero)))) a b c d rest some few p q r s no_b no_c no_d e =
    ap (numbers_at 4) (append_assoc (decimal a) (44 ∷ (decimal b ++ (44 ∷ (decimal c ++ (44 ∷ decimal d))))) rest
    ∙ ap (λ w. decimal a ++ (44 ∷ w)) (append_assoc (decimal b) (44 ∷ (decimal c ++ (44 ∷ decimal d))) rest ∙ ap (λ w. decimal b ++ (44 ∷ w)) (append_assoc (decimal c) (44 ∷ decimal d) rest)))
    ∙ four_again a b c d rest p q r s e
numbers_again (suc (suc (suc (suc (suc n))))) a b c d rest some few p q r s no_b no_c no_d e = absurd (omega (arith, few))

-- counts that are four numbers
of_four : (regions : ℕ) (xs rest : List ℕ) → length xs ≡ 4 → 0 < regions → regions ≤ 4 → ((r : ℕ) → at (record { 0 = xs }) r < 2 ^ 64) → ((r : ℕ) → regions ≤ r → at (record { 0 = xs }) r ≡ 0) → ends rest ≡ true
    → numbers_at regions (text_of regions (record { 0 = xs }) ++ rest) ≡ (record { 0 = xs }, rest)
of_four regions [] rest long some few small beyond e = absurd (omega (arith, long))
of_four regions (a ∷ []) rest long some few small beyond e = absurd (omega (arith, long))
of_four regions (a ∷ b ∷ []) rest long some few small beyond e = absurd (omega (arith, long))
of_four regions (a ∷ b ∷ c ∷ []) rest long some few small beyond e = absurd (omega (arith, long))
of_four regions (a ∷ b ∷ c ∷ d ∷ []) rest long some few small beyond e =
    numbers_again regions a b c d rest some few (small 0) (small 1) (small 2) (small 3) (beyond 1) (beyond 2) (beyond 3) e
of_four regions (a ∷ b ∷ c ∷ d ∷ f ∷ xs) rest long some few small beyond e = absurd (omega (arith, long))

pub counts_again : (script : Script) (report : Report) (counts : Counts) (rest : List ℕ) → AreNamed script report → AreCounts script counts → ends rest ≡ true → counts_at script (counts_text report counts ++ rest) ≡ (counts, rest)
unfolding counts_at
counts_again script report counts rest named are e =
    rw (named.count) (of_four (length script.regions) counts.0 rest are.long named.some named.few are.small are.beyond e)

-- ---- what stands behind a colour

pub place_again : (place : At) (rest : List ℕ) → IsAt place → ends rest ≡ true → place_at (at_text place ++ rest) ≡ (place, rest)
unfolding place_at
place_again (Event n) rest is e = rw (number_again n rest is e) refl
place_again (Look n) rest is e = rw (number_again n rest is e) refl

-- a place begins with no letter or digit
pub place_ends : (place : At) (rest : List ℕ) → ends (at_text place ++ rest) ≡ true
place_ends (Event n) rest = refl
place_ends (Look n) rest = refl

pub raise_again : (script : Script) (report : Report) (raise : RaisePiece) (rest : List ℕ) → AreNamed script report → IsRaise script raise → ends rest ≡ true → raise_at script (raise_text report raise ++ rest) ≡ (raise, rest)
unfolding raise_at
raise_again script report raise rest named is e =
    ap (raise_at script) (append_assoc (colour_name report raise.colour) (at_text raise.at) rest)
    ∙ rw (said_again script.colours (colour_name report) raise.colour (at_text raise.at ++ rest) named.colours is.colour (place_ends raise.at rest), place_again raise.at rest is.place e) refl

pub point_again : (script : Script) (report : Report) (point : PointPiece) (rest : List ℕ) → AreNamed script report → IsPoint script point → ends rest ≡ true → point_at script (point_text report point ++ rest) ≡ (point, rest)
unfolding point_at
point_again script report point rest named is e =
    let raise : RaisePiece = record { colour = point.colour; at = point.at } in
    let regrouped : point_text report point ++ rest ≡ raise_text report raise ++ (64 ∷ (decimal point.position ++ rest)) = simp (append_assoc, cons_on) in
    ap (point_at script) regrouped
    ∙ rw (raise_again script report raise (64 ∷ (decimal point.position ++ rest)) named (record { colour = is.colour; place = is.place }) refl, number_again point.position rest is.position e) refl

pub sync_again : (script : Script) (report : Report) (sync : SyncPiece) (rest : List ℕ) → AreNamed script report → IsSync script sync → ends rest ≡ true → sync_at script (sync_text report sync ++ rest) ≡ (sync, rest)
unfolding sync_at
sync_again script report sync rest named is e =
    let regrouped : sync_text report sync ++ rest ≡ colour_name report sync.colour ++ (63 ∷ (decimal sync.events ++ (47 ∷ (counts_text report sync.counts ++ rest)))) = simp (append_assoc, cons_on) in
    ap (sync_at script) regrouped
    ∙ rw (said_again script.colours (colour_name report) sync.colour (63 ∷ (decimal sync.events ++ (47 ∷ (counts_text report sync.counts ++ rest)))) named.colours is.colour refl, number_again sync.events (47 ∷ (counts_text report sync.counts ++ rest)) is.events refl, counts_again script report sync.counts rest named is.counts e) refl
