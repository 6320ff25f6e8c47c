-- A line is read exactly, and lines one after another.
use Rattle.std.proofs.Common.{◌≡◌, ℕ, ◌+◌, Bool, true, false, not, ◌&&◌, ◌||◌, eqb, inl, inr, List, [], ◌∷◌, ◌++◌, Option, Some, None, Result, Ok, Err, refl, sym, ap, subst, ◌∙◌, codes, arith}
use Rattle.std.specs.Prelude.{if◌then◌else◌}
use Rattle.std.specs.List.{slice_split, join_with_byte}
use Rattle.std.specs.Fmt.{decimal}
use Rattle.std.specs.Str.{bytes_eq}
use Rattle.std.proofs.lemmas.Bool.{cases_Bool, and_parts, or_cases, not-false, eqb-true, eqb-false}
use Rattle.std.proofs.lemmas.List.{append-nil}
use Rattle.std.proofs.lemmas.List.Splits.{join_with_byte-slice_split}
use Rattle.std.proofs.lemmas.Slice.Eq.{bytes_eq-Decides}
use Rattle.script_text.specs.declared.script.Kind.{Kind}
use Rattle.script_text.specs.declared.script.Kind.TheVariants as kinds
use Rattle.script_text.specs.declared.script.Reason.{Reason}
use Rattle.script_text.specs.declared.script.Reason.TheVariants as reasons
use Rattle.script_text.specs.declared.item.Item.{Item}
use Rattle.script_text.specs.declared.item.Item.TheVariants as items
use Rattle.script_text.specs.declared.item.Stage.{Stage}
use Rattle.script_text.specs.declared.item.Stage.TheVariants as stages
use Rattle.script_text.specs.declared.known.Known.{Known}
use Rattle.script_text.specs.Pieces.{fields_of, is_ascii_line}
use Rattle.script_text.specs.Versions.{is_version, is_version_line}
use Rattle.script_text.specs.Items.{is_begun, has_begun, may_begin, may_come, stage_of, version_of}
use Rattle.script_text.specs.Grammar.{is_passed_over}
use Rattle.script_text.specs.Table.{sort_text, sort_of}
use Rattle.script_text.specs.Faults.{when, first_of, command_tests, header_tests, fields_tests, fault_of}
use Rattle.script_text.specs.Known.{known_of, known_with}
use Rattle.script_text.specs.Readings.{◌>>=◌, refuse}
use Rattle.script_text.specs.HeaderReadings.{version_at, headed_at, header_at}
use Rattle.script_text.specs.CommandReadings.{command_at}
use Rattle.script_text.specs.LineReadings.{item_at, full_item_at, said_at, line_at}
use Rattle.script_text.proofs.EachLemmas.{refused_ok, bind_ok, ok_is}
use Rattle.script_text.proofs.VersionLemmas.{which_version, text_1, text_2, something}
use Rattle.script_text.proofs.KnownLaws.{IsLawful, known_push, lawful_push}
use Rattle.script_text.specs.Laws.{Follows, Tells}
use Rattle.script_text.proofs.HeaderLaws.{header_ok, version_read, regions_read, colours_read, rows_read, client_read, declared_is, declared_read, begin_read}
use Rattle.script_text.proofs.CommandLaws.{command_ok, command_read, may_ask}
use Rattle.script_text.proofs.FullLaws.{any_empty}
use Rattle.script_text.proofs.SaysFull.{says_full}
use Rattle.script_text.proofs.TestLaws.{Tests, tests_refuse, tests_last}
use Rattle.script_text.proofs.FaultLaws.{header_line_tests, command_line_tests}

-- ---- a line's fields

pub item_ok : (before : List Item) (number : ℕ) (fields : List (List ℕ)) (item : Item) → item_at (known_of before) number fields ≡ Ok item → Follows before number fields item
unfolding item_at
item_ok before number [] item e = absurd cc
item_ok before number (word ∷ fields) item e =
    elim (cases_Bool (has_begun before)) [
      | inl begun ↦ command_ok before number word fields item begun (rw begun at e)
      | inr header ↦ header_ok before number word fields item (rw header at e)
    ]

on_header : (before : List Item) (number : ℕ) (word : List ℕ) (fields : List (List ℕ)) → has_begun before ≡ false → item_at (known_of before) number (word ∷ fields) ≡ header_at (known_of before) word fields
unfolding item_at
on_header before number word fields e = rw e refl

on_command : (before : List Item) (number : ℕ) (word : List ℕ) (fields : List (List ℕ)) → has_begun before ≡ true → item_at (known_of before) number (word ∷ fields) ≡ command_at (known_of before) number word fields
unfolding item_at
on_command before number word fields e = rw e refl

-- a header word may come only before the header's end
stage_open : (version : ℕ) (stage : Stage) (word : List ℕ) → may_begin version stage word ≡ true → is_begun stage ≡ false
stage_open version stages.Nothing word h = refl
stage_open version stages.Version word h = refl
stage_open version stages.Regions word h = refl
stage_open version stages.Colours word h = refl
stage_open version stages.Rows word h = refl
stage_open version stages.Clients word h = refl
stage_open version stages.Objects word h = refl
stage_open version stages.Commands word h = absurd cc

by_header : (before : List Item) (number : ℕ) (word : List ℕ) (fields : List (List ℕ)) (item : Item) → (may_come before word ≡ true) × (header_at (known_of before) word fields ≡ Ok item)
    → item_at (known_of before) number (word ∷ fields) ≡ Ok item
by_header before number word fields item r = on_header before number word fields (stage_open (version_of before) (stage_of before) word r.0) ∙ r.1

word_read : (before : List Item) (number : ℕ) (word : List ℕ) (fields : List (List ℕ)) (item : Item) → IsLawful (known_of before) → Follows before number (word ∷ fields) item
    → item_at (known_of before) number (word ∷ fields) ≡ Ok item
word_read before number word fields (items.Version version) l f = by_header before number word fields (items.Version version) (version_read before number word fields version f)
word_read before number word fields (items.Regions names) l f = by_header before number word fields (items.Regions names) (regions_read before number word fields names f)
word_read before number word fields (items.Colours names) l f = by_header before number word fields (items.Colours names) (colours_read before number word fields names f)
word_read before number word fields (items.Rows rows) l f = by_header before number word fields (items.Rows rows) (rows_read before number word fields rows f)
word_read before number word fields (items.Client name home) l f = by_header before number word fields (items.Client name home) (client_read before number word fields name home l f)
word_read before number word fields (items.Declared object) l f = by_header before number word fields (items.Declared object) (declared_read before number word fields object l f)
word_read before number word fields items.Begin l f = by_header before number word fields items.Begin (begin_read before number word fields f)
word_read before number word fields (items.Asks command) l f =
    on_command before number word fields (may_ask before command f.may).begun ∙ command_read before number word fields command l f

-- a line has a field at least
pub some_field : (p : ℕ → Bool) (line : List ℕ) → (word : List ℕ) × (fields : List (List ℕ)) × (slice_split p line ≡ word ∷ fields)
some_field p [] = ([], [], refl)
some_field p (b ∷ bs) =
    let h = some_field p bs in
    elim (cases_Bool (p b)) [
      | inl e ↦ ([], slice_split p bs, rw e refl)
      | inr e ↦ (b ∷ h.0, h.1, rw (e, h.2) refl)
    ]

pub item_read : (before : List Item) (number : ℕ) (line : List ℕ) (item : Item) → IsLawful (known_of before) → Follows before number (fields_of line) item → item_at (known_of before) number (fields_of line) ≡ Ok item
item_read before number line item l f =
    let s = some_field (λ b. eqb b 32) line in
    let has : Follows before number (s.0 ∷ s.1) item = subst (λ fields. Follows before number fields item) s.2 f in
    ap (item_at (known_of before) number) s.2 ∙ word_read before number s.0 s.1 item l has

-- ---- line 1, and those after it

-- at line 1 nothing has been said, and after it something has
pub record IsPlace (before : List Item) (number : ℕ) : Type 0 where
  pub first : number ≡ 1 → before ≡ []
  pub later : (number ≡ 1 → ⊥) → stage_of before ≡ stages.Nothing → ⊥

-- what a version's line is
version_text : (version : ℕ) → is_version version ≡ true → is_version_line (join_with_byte 32 (codes "fuzzylog" ∷ decimal version ∷ [])) ≡ true
version_text version is =
    elim (which_version version is) [
      | inl one ↦ rw (one, text_1) refl
      | inr two ↦ rw (two, text_2) refl
    ]

version_line : (line : List ℕ) (version : ℕ) → is_version version ≡ true → fields_of line ≡ codes "fuzzylog" ∷ decimal version ∷ [] → is_version_line line ≡ true
version_line line version is e =
    subst (λ l. is_version_line l ≡ true) (ap (join_with_byte 32) (sym e) ∙ join_with_byte-slice_split 32 line) (version_text version is)

-- nothing else may come first
first_kind : (kind : Kind) → may_come [] (sort_text (sort_of kind)) ≡ true → ⊥
first_kind (kinds.Map home ns) h = cc
first_kind _ h = cc

only_version : (number : ℕ) (line : List ℕ) (item : Item) → Follows [] number (fields_of line) item → is_version_line line ≡ true
only_version number line (items.Version version) f = version_line line version (and_parts (may_come [] (codes "fuzzylog")) (is_version version) f.may).1 f.says
only_version number line (items.Regions names) f = absurd (let h = f.may in cc)
only_version number line (items.Colours names) f = absurd (let h = f.may in cc)
only_version number line (items.Rows rows) f = absurd (let h = f.may in cc)
only_version number line (items.Client name home) f = absurd (let h = f.may in cc)
only_version number line (items.Declared object) f = absurd (first_kind object.kind (declared_is [] object f.may).come)
only_version number line items.Begin f = absurd (let h = f.may in cc)
only_version number line (items.Asks command) f = absurd (let h = f.may in cc)

-- ---- a line

said_ok : (before : List Item) (number : ℕ) (line : List ℕ) (said : Option Item) → said_at (known_of before) number line ≡ Ok said → Tells before number line said
unfolding said_at full_item_at
said_ok before number line said e =
    elim (cases_Bool (is_passed_over (number, line))) [
      | inl over ↦ let h = rw over at e in rw (← ok_is None said h) over
      | inr passes ↦
          let h = rw passes at e in
          let b = bind_ok (refuse (any_empty (fields_of line)) reasons.BadForm (item_at (known_of before) number (fields_of line))) (λ item. Ok (Some item)) said h in
          let r = refused_ok (any_empty (fields_of line)) reasons.BadForm (item_at (known_of before) number (fields_of line)) b.0 b.1 in
          rw (← ok_is (Some b.0) said b.2) (passes, item_ok before number (fields_of line) b.0 r.1)
    ]

pub line_ok : (before : List Item) (number : ℕ) (line : List ℕ) (said : Option Item) → line_at (known_of before) number line ≡ Ok said → (is_ascii_line line ≡ true) × Tells before number line said
unfolding line_at
line_ok before number line said e =
    let other = eqb number 1 && not (is_version_line line) in
    let a = refused_ok (not (is_ascii_line line)) reasons.NotAscii (refuse other reasons.BadVersion (said_at (known_of before) number line)) said e in
    let b = refused_ok other reasons.BadVersion (said_at (known_of before) number line) said a.1 in
    (not-false (is_ascii_line line) a.0, said_ok before number line said b.1)

said_read : (before : List Item) (number : ℕ) (line : List ℕ) (said : Option Item) → IsLawful (known_of before) → Tells before number line said → said_at (known_of before) number line ≡ Ok said
unfolding said_at full_item_at
said_read before number line None l t = rw t refl
said_read before number line (Some item) l t =
    rw (t.0, says_full before number (fields_of line) item l t.1, item_read before number line item l t.1) refl

-- a line that tells something at line 1 is the version's
tells_version : (number : ℕ) (line : List ℕ) (said : Option Item) → number ≡ 1 → Tells [] number line said → is_version_line line ≡ true
tells_version number line None e t = let h = rw e at t in absurd cc
tells_version number line (Some item) e t = only_version number line item t.1

names_version : (before : List Item) (number : ℕ) (line : List ℕ) (said : Option Item) → IsPlace before number → Tells before number line said → (eqb number 1 && not (is_version_line line)) ≡ false
names_version before number line said p t =
    elim (cases_Bool (eqb number 1)) [
      | inl e ↦
          let one = eqb-true number 1 e in
          let same = tells_version number line said one (subst (λ before. Tells before number line said) (p.first one) t) in
          rw (e, same) refl
      | inr e ↦ rw e refl
    ]

pub line_read : (before : List Item) (number : ℕ) (line : List ℕ) (said : Option Item) → IsLawful (known_of before) → IsPlace before number → is_ascii_line line ≡ true → Tells before number line said
    → line_at (known_of before) number line ≡ Ok said
unfolding line_at
line_read before number line said l p ascii t = rw (ascii, names_version before number line said p t, said_read before number line said l t) refl

-- ---- the first fault of a line

-- the reason of a reading, if it gives none
abbrev pub reason_of : {A : Type 0} → Result A Reason → Option Reason
reason_of (Ok x) = None
reason_of (Err why) = Some why

reason_is : {A : Type 0} (tests : List (Option Reason)) (reading : Result A Reason) → Tests tests reading → first_of tests ≡ reason_of reading
reason_is tests (Ok x) h = ap first_of (sym (append-nil tests)) ∙ h []
reason_is tests (Err why) h = ap first_of (sym (append-nil tests)) ∙ h []

fields_fault : (before : List Item) (number : ℕ) (word : List ℕ) (fields : List (List ℕ)) → (stage_of before ≡ stages.Nothing → ⊥)
    → Tests (fields_tests before (word ∷ fields)) (full_item_at (known_of before) number (word ∷ fields))
unfolding full_item_at
fields_fault before number word fields started =
    tests_refuse (any_empty (word ∷ fields)) reasons.BadForm (if has_begun before then command_tests before (word ∷ fields) else when (not (may_come before word)) reasons.BadHeader ∷ header_tests before word fields)
    (item_at (known_of before) number (word ∷ fields)) (λ _.
    elim (cases_Bool (has_begun before)) [
      | inl begun ↦ rw (begun, on_command before number word fields begun) (command_line_tests before number word fields)
      | inr header ↦ rw (header, on_header before number word fields header) (header_line_tests before word fields started)
    ])

-- line 1 says the version that it names
first_said : (line : List ℕ) → is_version_line line ≡ true → (item : Item) × (said_at (known_of []) 1 line ≡ Ok (Some item))
unfolding said_at full_item_at item_at header_at headed_at version_at
first_said line is =
    elim (or_cases (bytes_eq line (codes "fuzzylog 1")) (bytes_eq line (codes "fuzzylog 2")) is) [
      | inl one ↦ (items.Version 1, rw ((bytes_eq-Decides line (codes "fuzzylog 1")).0 one) refl)
      | inr two ↦ (items.Version 2, rw ((bytes_eq-Decides line (codes "fuzzylog 2")).0 two) refl)
    ]

said_over : (known : Known) (number : ℕ) (line : List ℕ) → is_passed_over (number, line) ≡ true → said_at known number line ≡ Ok None
unfolding said_at
said_over known number line e = rw e refl

said_full : (known : Known) (number : ℕ) (line : List ℕ) → is_passed_over (number, line) ≡ false → said_at known number line ≡ (full_item_at known number (fields_of line) >>= λ item. Ok (Some item))
unfolding said_at
said_full known number line e = rw e refl

choose_tests : {A : Type 0} (one over : Bool) (tests : List (Option Reason)) (reading : Result A Reason) → (one ≡ true → Tests [] reading) → (one ≡ false → over ≡ true → Tests [] reading)
    → (one ≡ false → over ≡ false → Tests tests reading) → Tests (if one || over then [] else tests) reading
choose_tests true over tests reading f g h = f refl
choose_tests false true tests reading f g h = g refl refl
choose_tests false false tests reading f g h = h refl refl

line_fields : (before : List Item) (number : ℕ) (line : List ℕ) → (stage_of before ≡ stages.Nothing → ⊥)
    → Tests (fields_tests before (fields_of line)) (full_item_at (known_of before) number (fields_of line) >>= λ item. Ok (Some item))
line_fields before number line started =
    let s = some_field (λ b. eqb b 32) line in
    subst (λ fields. Tests (fields_tests before fields) (full_item_at (known_of before) number fields >>= λ item. Ok (Some item))) (sym s.2)
    (tests_last (fields_tests before (s.0 ∷ s.1)) (full_item_at (known_of before) number (s.0 ∷ s.1)) (λ item. some_item item) (fields_fault before number s.0 s.1 started)) where
      some_item : Item → Option Item
      some_item item = Some item

said_fault : (before : List Item) (number : ℕ) (line : List ℕ) → IsPlace before number → (eqb number 1 && not (is_version_line line)) ≡ false
    → Tests (if eqb number 1 || is_passed_over (number, line) then [] else fields_tests before (fields_of line)) (said_at (known_of before) number line)
said_fault before number line p version =
    choose_tests (eqb number 1) (is_passed_over (number, line)) (fields_tests before (fields_of line)) (said_at (known_of before) number line)
    (λ e.
    let one = eqb-true number 1 e in
    let h = rw e at version in
    let first = first_said line (not-false (is_version_line line) h) in
    let read : said_at (known_of before) number line ≡ Ok (Some first.0) = rw (one, p.first one) first.1 in
    rw read (λ more. refl))
    (λ e over. rw (said_over (known_of before) number line over) (λ more. refl))
    (λ e passes. rw (said_full (known_of before) number line passes) (line_fields before number line (p.later (eqb-false number 1 e))))

-- the first fault of a line is the reason of its reading
pub line_fault : (before : List Item) (number : ℕ) (line : List ℕ) → IsPlace before number
    → fault_of before number line ≡ reason_of (refuse (eqb number 20001) reasons.TooManyLines (line_at (known_of before) number line))
unfolding line_at
line_fault before number line p =
    let other = eqb number 1 && not (is_version_line line) in
    let rest = if eqb number 1 || is_passed_over (number, line) then [] else fields_tests before (fields_of line) in
    let rest_said = said_at (known_of before) number line in
    reason_is (when (eqb number 20001) reasons.TooManyLines ∷ when (not (is_ascii_line line)) reasons.NotAscii ∷ when other reasons.BadVersion ∷ rest)
    (refuse (eqb number 20001) reasons.TooManyLines (refuse (not (is_ascii_line line)) reasons.NotAscii (refuse other reasons.BadVersion rest_said))) (
    tests_refuse (eqb number 20001) reasons.TooManyLines (when (not (is_ascii_line line)) reasons.NotAscii ∷ when other reasons.BadVersion ∷ rest) (refuse (not (is_ascii_line line)) reasons.NotAscii (refuse other reasons.BadVersion rest_said)) (λ _.
    tests_refuse (not (is_ascii_line line)) reasons.NotAscii (when other reasons.BadVersion ∷ rest) (refuse other reasons.BadVersion rest_said) (λ _.
    tests_refuse other reasons.BadVersion rest rest_said (λ version. said_fault before number line p version))))

-- ---- the place of the next line

abbrev pub said_with : List Item → Option Item → List Item
said_with before None = before
said_with before (Some item) = before ++ item ∷ []

pub known_said : (before : List Item) (said : Option Item) → known_of (said_with before said) ≡ known_with (known_of before) said
known_said before None = refl
known_said before (Some item) = known_push before item

pub lawful_said : (before : List Item) (number : ℕ) (line : List ℕ) (said : Option Item) → IsLawful (known_of before) → Tells before number line said → IsLawful (known_of (said_with before said))
lawful_said before number line None l t = l
lawful_said before number line (Some item) l t = lawful_push before item l t.1.may

pub place_start : IsPlace [] 1
place_start = record { first = λ e. refl; later = λ other. absurd (other refl) }

pub place_next : (before : List Item) (number : ℕ) (line : List ℕ) (said : Option Item) → IsPlace before (number + 1) → Tells before (number + 1) line said → IsPlace (said_with before said) (number + 1 + 1)
place_next before number line None p t = record {
  first = λ e. absurd (omega (arith, e));
  later = λ _. p.later (λ e. let h = rw e at t in absurd cc);
}
place_next before number line (Some item) p t = record {
  first = λ e. absurd (omega (arith, e));
  later = λ _ e. something item (sym (ap (λ (k : Known). k.stage) (known_push before item)) ∙ e);
}
