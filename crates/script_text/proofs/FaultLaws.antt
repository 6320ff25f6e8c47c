-- A line's first fault is the reason of its reading.
use Rattle.std.proofs.Common.{◌≡◌, ℕ, ◌+◌, ◌*◌, true, false, not, ◌&&◌, eqb, leb, ltb, List, [], ◌∷◌, ◌++◌, length, take, drop, Option, Some, None, Ok, refl, sym, ap, ◌∙◌, inl, inr, codes}
use Rattle.std.specs.Prelude.{unwrap_or}
use Rattle.std.specs.List.{list_any}
use Rattle.std.specs.Str.{bytes_eq}
use Rattle.std.proofs.lemmas.Bool.{cases_Bool, not-false}
use Rattle.std.proofs.lemmas.List.{length-map}
use Rattle.log_node.specs.Sets.{set_of}
use Rattle.script_text.specs.declared.script.Reason.{Reason}
use Rattle.script_text.specs.declared.script.Reason.TheVariants as reasons
use Rattle.script_text.specs.declared.commands.Word.{Word}
use Rattle.script_text.specs.declared.commands.Word.TheVariants as words
use Rattle.script_text.specs.declared.table.Sort.{Sort}
use Rattle.script_text.specs.declared.table.Field.{Field}
use Rattle.script_text.specs.declared.table.Field.TheVariants as fields
use Rattle.script_text.specs.declared.table.Kinds.{Kinds}
use Rattle.script_text.specs.declared.table.TheConstants.{TX}
use Rattle.script_text.specs.declared.table.Last.TheVariants as lasts
use Rattle.script_text.specs.declared.given.Given.{Given}
use Rattle.script_text.specs.declared.item.Item.{Item}
use Rattle.script_text.specs.declared.item.Item.TheVariants as items
use Rattle.script_text.specs.declared.item.Stage.TheVariants as stages
use Rattle.script_text.specs.declared.limits.Limits.{Limits}
use Rattle.script_text.specs.declared.reads.HeldRead.{HeldRead}
use Rattle.script_text.specs.Pieces.{is_between, is_among, is_number, number_value, number_of, name_of, names_in, first_in}
use Rattle.script_text.specs.Items.{version_of, may_come, limits_of, region_names, colour_names, client_names, objects, object_names, stage_of, has_stopped, has_read, commands}
use Rattle.script_text.specs.Reads.{holds}
use Rattle.script_text.specs.Table.{word_at, row_fields, last_of, own_fields, later_fields, fits, nothing, sort_fields, sort_at, kind_of}
use Rattle.script_text.specs.Commands.{what_of}
use Rattle.script_text.specs.Faults.{when, each_field, new_name, region_field, field_at, kind_tests, field_tests, last_tests, word_tests, command_tests, is_full, has_too_many, header_tests, object_tests}
use Rattle.script_text.specs.Known.{known_of}
use Rattle.script_text.specs.Readings.{◌>>=◌, refuse, found_or, each_at, new_name_at, number_at, colours_set_at, text_at, pair_at, digits_at, object_at, with_one, with_two}
use Rattle.script_text.specs.HeaderReadings.{regions_at, colour_line_at, rows_at, client_named_at, client_at, object_name_at, sorted_at, declared_at, headed_at, header_at}
use Rattle.script_text.specs.CommandReadings.{taken_at, given_at, ended_well, what_at, worded_at, asked_at, caller_at, command_at}
use Rattle.script_text.proofs.EachLemmas.{bind_ok, refused_ok, ok_is}
use Rattle.script_text.proofs.VersionLemmas.{at_fuzzylog}
use Rattle.script_text.proofs.NameLemmas.{found_ok}
use Rattle.script_text.proofs.FieldLaws.{digits_ok, object_number}
use Rattle.script_text.proofs.ReadLaws.{held_is}
use Rattle.script_text.proofs.KnownLaws.{stopped_among}
use Rattle.script_text.proofs.TestLaws.{Tests, tests_ok, tests_refuse, tests_then, tests_last, tests_same, is_found, among_number, number_tests, new_name_tests, each_tests, none_tests, one_tests, two_tests}
use Rattle.script_text.proofs.HeaderLaws.{same_word}
use Rattle.script_text.proofs.KindLaws.{order_at, order_ok, put_number, put_colours, put_set, put_object, put_text, put_pairs, kind_faults}

-- ---- header lines

regions_tests : (limits : Limits) (args : List (List ℕ)) → Tests (when (not (is_between 1 limits.regions (length args))) reasons.BadForm ∷ each_field new_name [] args) (regions_at limits args)
unfolding regions_at
regions_tests limits args =
    tests_refuse (not (is_between 1 limits.regions (length args))) reasons.BadForm (each_field new_name [] args) (each_at new_name_at [] args >>= λ names. Ok (items.Regions names)) (λ _.
    tests_last (each_field new_name [] args) (each_at new_name_at [] args) (λ names. items.Regions names) (each_tests new_name new_name_at new_name_tests [] args))

colour_line_tests : (limits : Limits) (args : List (List ℕ)) → Tests (when (not (is_between 1 limits.colours (length args))) reasons.BadForm ∷ each_field new_name [] args) (colour_line_at limits args)
unfolding colour_line_at
colour_line_tests limits args =
    tests_refuse (not (is_between 1 limits.colours (length args))) reasons.BadForm (each_field new_name [] args) (each_at new_name_at [] args >>= λ names. Ok (items.Colours names)) (λ _.
    tests_last (each_field new_name [] args) (each_at new_name_at [] args) (λ names. items.Colours names) (each_tests new_name new_name_at new_name_tests [] args))

rows_tests : (limits : Limits) (args : List (List ℕ)) → Tests (when (not (eqb (length args) 1)) reasons.BadForm ∷ when (not (is_number 10 (field_at args 0) && is_between 1 limits.rows (number_value (field_at args 0)))) reasons.BadNumber ∷ []) (with_one (rows_at limits) args)
unfolding rows_at
rows_tests limits args =
    one_tests (λ args. when (not (is_number 10 (field_at args 0) && is_between 1 limits.rows (number_value (field_at args 0)))) reasons.BadNumber ∷ []) (rows_at limits) (λ a.
    tests_refuse (not (is_number 10 a && is_between 1 limits.rows (number_value a))) reasons.BadNumber [] (Ok (items.Rows (number_value a))) (λ _. tests_ok (items.Rows (number_value a)))) args

client_tests : (before : List Item) (args : List (List ℕ))
    → Tests (when (not (eqb (length args) 2)) reasons.BadForm ∷ when (leb (limits_of before).clients (length (client_names before))) reasons.BadForm ∷ new_name (client_names before) (field_at args 0) ++ region_field before (field_at args 1)) (with_two (client_at (known_of before)) args)
unfolding client_at client_named_at
client_tests before args =
    two_tests (λ args. when (leb (limits_of before).clients (length (client_names before))) reasons.BadForm ∷ new_name (client_names before) (field_at args 0) ++ region_field before (field_at args 1)) (client_at (known_of before)) (λ a b.
    tests_refuse (leb (limits_of before).clients (length (client_names before))) reasons.BadForm (new_name (client_names before) a ++ region_field before b) (client_named_at (known_of before) a b) (λ _.
    tests_then (new_name (client_names before) a) (region_field before b) (new_name_at (client_names before) a) (λ name. number_at reasons.UnknownRegion (region_names before) b >>= λ home. Ok (items.Client name home)) (new_name_tests (client_names before) a) (λ name e.
    tests_last (region_field before b) (number_at reasons.UnknownRegion (region_names before) b) (λ home. items.Client name home) (number_tests reasons.UnknownRegion (region_names before) b)))) args

object_name_tests : (before : List Item) (field : List ℕ) → Tests (when (is_full before) reasons.BadForm ∷ new_name (object_names before) field) (object_name_at (known_of before) field)
unfolding object_name_at
object_name_tests before field = tests_refuse (is_full before) reasons.BadForm (new_name (object_names before) field) (new_name_at (object_names before) field) (λ _. new_name_tests (object_names before) field)

fields_faults : (before : List Item) (row : List Field) (args : List (List ℕ)) (given : Given) → Tests (field_tests before row args) (given_at (known_of before) row args given)
unfolding given_at
fields_faults before [] args given = tests_ok given
fields_faults before (field ∷ row) args given =
    tests_then (kind_tests before field (own_fields field args)) (field_tests before row (later_fields field args)) (taken_at (known_of before) field (own_fields field args) given)
    (λ next. given_at (known_of before) row (later_fields field args) next) (kind_faults before field (own_fields field args) given) (λ next e. fields_faults before row (later_fields field args) next)

sorted_tests : (before : List Item) (sort : Sort) (args : List (List ℕ)) → Tests (object_tests before (Some sort) args) (sorted_at (known_of before) sort args)
unfolding sorted_at
sorted_tests before sort [] = λ more. refl
sorted_tests before sort (field ∷ args) =
    let known = known_of before in
    let row = sort_fields sort in
    let name = when (is_full before) reasons.BadForm ∷ new_name (object_names before) field in
    let later = field_tests before row args in
    let reading = object_name_at known field >>= λ name. given_at known row args nothing >>= λ g. Ok (declared name g) in
    let many = has_too_many before args in
    tests_refuse (not (fits row args)) reasons.BadForm (when many reasons.BadForm ∷ name ++ later) (refuse many reasons.BadForm reading) (λ _.
    tests_refuse many reasons.BadForm (name ++ later) reading (λ _.
    tests_then name later (object_name_at known field) (λ name. given_at known row args nothing >>= λ g. Ok (declared name g)) (object_name_tests before field) (λ name e.
    tests_last later (given_at known row args nothing) (declared name) (fields_faults before row args nothing)))) where
      declared : List ℕ → Given → Item
      declared name g = items.Declared (record { name = name; kind = kind_of sort g })

declared_tests : (before : List Item) (found : Option Sort) (args : List (List ℕ)) → Tests (object_tests before found args) (declared_at (known_of before) found args)
unfolding declared_at
declared_tests before None args = λ more. refl
declared_tests before (Some sort) args = sorted_tests before sort args

headed_tests : (before : List Item) (word : List ℕ) (args : List (List ℕ)) → bytes_eq word (codes "fuzzylog") ≡ false → Tests (header_tests before word args) (headed_at (known_of before) word args)
unfolding headed_at
headed_tests before word args n0 =
    elim (cases_Bool (bytes_eq word (codes "regions"))) [
      | inl same ↦ rw (n0, same) (regions_tests (limits_of before) args)
      | inr n1 ↦
          elim (cases_Bool (bytes_eq word (codes "colours"))) [
            | inl same ↦ rw (n0, n1, same) (colour_line_tests (limits_of before) args)
            | inr n2 ↦
                elim (cases_Bool (bytes_eq word (codes "rows"))) [
                  | inl same ↦ rw (n0, n1, n2, same) (rows_tests (limits_of before) args)
                  | inr n3 ↦
                      elim (cases_Bool (bytes_eq word (codes "client"))) [
                        | inl same ↦ rw (n0, n1, n2, n3, same) (client_tests before args)
                        | inr n4 ↦
                            elim (cases_Bool (bytes_eq word (codes "begin"))) [
                              | inl same ↦ rw (n0, n1, n2, n3, n4, same) (none_tests items.Begin args)
                              | inr n5 ↦ rw (n0, n1, n2, n3, n4, n5) (declared_tests before (sort_at (version_of before) word) args)
                            ]
                      ]
                ]
          ]
    ]

-- where lines have come before
not_version : (before : List Item) (word : List ℕ) → (stage_of before ≡ stages.Nothing → ⊥) → may_come before word ≡ true → bytes_eq word (codes "fuzzylog") ≡ false
not_version before word started come =
    elim (cases_Bool (bytes_eq word (codes "fuzzylog"))) [
      | inl same ↦ absurd (started (at_fuzzylog (version_of before) (stage_of before) (rw (same_word word (codes "fuzzylog") same) at come)))
      | inr apart ↦ apart
    ]

pub header_line_tests : (before : List Item) (word : List ℕ) (args : List (List ℕ)) → (stage_of before ≡ stages.Nothing → ⊥)
    → Tests (when (not (may_come before word)) reasons.BadHeader ∷ header_tests before word args) (header_at (known_of before) word args)
unfolding header_at
header_line_tests before word args started =
    tests_refuse (not (may_come before word)) reasons.BadHeader (header_tests before word args) (headed_at (known_of before) word args) (λ e.
    headed_tests before word args (not_version before word started (not-false (may_come before word) e)))

-- ---- commands

-- the fields that last tests speak of
at_0 : (args : List (List ℕ)) → first_in (take 1 args) ≡ field_at args 0
at_0 [] = refl
at_0 (a ∷ args) = refl

at_1 : (args : List (List ℕ)) → first_in (take 1 (drop 1 args)) ≡ field_at args 1
at_1 [] = refl
at_1 (a ∷ []) = refl
at_1 (a ∷ b ∷ args) = refl

steps_given : (before : List Item) (own : List (List ℕ)) (given next : Given) → taken_at (known_of before) fields.Steps own given ≡ Ok next → next.number ≡ number_value (first_in own)
unfolding taken_at put_number
steps_given before own given next e =
    let b = bind_ok (digits_at 3 (first_in own)) (λ n. Ok (put_number given n)) next e in
    ap (λ (g : Given). g.number) (sym (ok_is (put_number given b.0) next b.2)) ∙ (digits_ok 3 (first_in own) b.0 b.1).value

cols_given : (before : List Item) (own : List (List ℕ)) (given next : Given) → taken_at (known_of before) fields.Cols own given ≡ Ok next
    → (next.number ≡ given.number) × (next.count ≡ length (names_in (first_in own)))
unfolding taken_at colours_set_at put_colours put_set
cols_given before own given next e =
    let f = first_in own in
    let a = bind_ok (colours_set_at (colour_names before) (names_in f)) (λ s. Ok (put_set given s)) next e in
    let b = bind_ok (order_at before f) (λ ns. Ok (set_of ns, length ns)) a.0 a.1 in
    let o = order_ok before f b.0 b.1 in
    let s = ok_is (set_of b.0, length b.0) a.0 b.2 in
    let last : put_colours given b.0 ≡ next = ap (put_set given) s ∙ ok_is (put_set given a.0) next a.2 in
    (ap (λ (g : Given). g.number) (sym last), ap (λ (g : Given). g.count) (sym last) ∙ sym (ap length o.0 ∙ length-map b.0 (name_of (colour_names before))))

text_given : (before : List Item) (own : List (List ℕ)) (given next : Given) → taken_at (known_of before) fields.Text own given ≡ Ok next → (next.number ≡ given.number) × (next.count ≡ given.count)
unfolding taken_at put_text
text_given before own given next e =
    let b = bind_ok (text_at (objects before) (first_in own)) (λ t. Ok (put_text given t)) next e in
    let last = sym (ok_is (put_text given b.0) next b.2) in
    (ap (λ (g : Given). g.number) last, ap (λ (g : Given). g.count) last)

object_given : (before : List Item) (of : Kinds) (own : List (List ℕ)) (given next : Given) → taken_at (known_of before) (fields.Object of) own given ≡ Ok next
    → number_of (object_names before) (first_in own) ≡ Some next.object
unfolding taken_at put_object
object_given before of own given next e =
    let b = bind_ok (object_at of (objects before) (first_in own)) (λ n. Ok (put_object given n)) next e in
    object_number of (objects before) (first_in own) b.0 b.1 ∙ ap (λ (g : Given). some_object g) (ok_is (put_object given b.0) next b.2) where
      some_object : Given → Option ℕ
      some_object g = Some g.object

pairs_given : (before : List Item) (most : ℕ) (own : List (List ℕ)) (given next : Given) → taken_at (known_of before) (fields.Pairs most) own given ≡ Ok next → next.object ≡ given.object
unfolding taken_at put_pairs
pairs_given before most own given next e =
    let b = bind_ok (each_at pair_at [] own) (λ ps. Ok (put_pairs given ps)) next e in
    ap (λ (g : Given). g.object) (sym (ok_is (put_pairs given b.0) next b.2))

-- what the fields of a `stop` and of a `commit` give that is tested after them
stop_given : (before : List Item) (args : List (List ℕ)) (given : Given) → given_at (known_of before) (row_fields words.Stop) args nothing ≡ Ok given
    → (given.number ≡ number_value (field_at args 0)) × (given.count ≡ length (names_in (field_at args 1)))
unfolding given_at
stop_given before args given e =
    let k = known_of before in
    let second = drop 1 args in
    let third = drop 1 second in
    let a = bind_ok (taken_at k fields.Steps (take 1 args) nothing) (λ next. given_at k (fields.Cols ∷ fields.Text ∷ []) second next) given e in
    let b = bind_ok (taken_at k fields.Cols (take 1 second) a.0) (λ next. given_at k (fields.Text ∷ []) third next) given a.2 in
    let c = bind_ok (taken_at k fields.Text (take 1 third) b.0) (λ next. given_at k [] (drop 1 third) next) given b.2 in
    let last : c.0 ≡ given = ok_is c.0 given c.2 in
    let n = cols_given before (take 1 second) a.0 b.0 b.1 in
    let t = text_given before (take 1 third) b.0 c.0 c.1 in (
      ap (λ (g : Given). g.number) (sym last) ∙ t.0 ∙ n.0 ∙ steps_given before (take 1 args) nothing a.0 a.1 ∙ ap number_value (at_0 args),
      ap (λ (g : Given). g.count) (sym last) ∙ t.1 ∙ n.1 ∙ ap (λ f. length (names_in f)) (at_1 args),
    )

commit_given : (before : List Item) (args : List (List ℕ)) (given : Given) → given_at (known_of before) (row_fields words.Commit) args nothing ≡ Ok given
    → number_of (object_names before) (field_at args 0) ≡ Some given.object
unfolding given_at
commit_given before args given e =
    let k = known_of before in
    let tx : Kinds = TX in
    let a = bind_ok (taken_at k (fields.Object tx) (take 1 args) nothing) (λ next. given_at k (fields.Pairs 2 ∷ []) (drop 1 args) next) given e in
    let b = bind_ok (taken_at k (fields.Pairs 2) (drop 1 args) a.0) (λ next. given_at k [] [] next) given a.2 in
    let last : b.0 ≡ given = ok_is b.0 given b.2 in
    let same : a.0.object ≡ given.object = sym (pairs_given before 2 (drop 1 args) a.0 b.0 b.1) ∙ ap (λ (g : Given). g.object) last in
    ap (number_of (object_names before)) (sym (at_0 args)) ∙ object_given before tx (take 1 args) nothing a.0 a.1 ∙ ap (λ n. some_number n) same where
      some_number : ℕ → Option ℕ
      some_number n = Some n

abbrev stop_last : ℕ → ℕ → List (Option Reason)
stop_last k steps = when (ltb k 2) reasons.StopNeedsTwoColours ∷ when (ltb (2 * k + 2) steps) reasons.BadNumber ∷ []

stop_faults : (before : List Item) (client : ℕ) (given : Given) → Tests (stop_last given.count given.number) (ended_well (known_of before) client lasts.StopFits given)
unfolding ended_well
stop_faults before client given =
    tests_refuse (ltb given.count 2) reasons.StopNeedsTwoColours (when (ltb (2 * given.count + 2) given.number) reasons.BadNumber ∷ []) (refuse (ltb (2 * given.count + 2) given.number) reasons.BadNumber (Ok given)) (λ _.
    tests_refuse (ltb (2 * given.count + 2) given.number) reasons.BadNumber [] (Ok given) (λ _. tests_ok given))

read_faults : (before : List Item) (client : ℕ) (given : Given) → Tests (when (not (has_read before client given.object)) reasons.NoRead ∷ []) (ended_well (known_of before) client lasts.ReadHeld given)
unfolding ended_well
read_faults before client given =
    let q : HeldRead = record { client = client; object = given.object } in
    let e : holds (known_of before).held q ≡ has_read before client given.object = held_is (commands before) client given.object in
    rw e (tests_refuse (not (has_read before client given.object)) reasons.NoRead [] (Ok given) (λ _. tests_ok given))

last_faults : (before : List Item) (client : ℕ) (word : Word) (args : List (List ℕ)) (given : Given) → given_at (known_of before) (row_fields word) args nothing ≡ Ok given
    → Tests (last_tests before client (last_of word) args) (ended_well (known_of before) client (last_of word) given)
unfolding ended_well
last_faults before client words.Stop args given e =
    let s = stop_given before args given e in
    tests_same (stop_last given.count given.number) (last_tests before client lasts.StopFits args) (ended_well (known_of before) client lasts.StopFits given)
    (ap (λ k. stop_last k (number_value (field_at args 0))) (sym s.1) ∙ ap (stop_last given.count) (sym s.0)) (stop_faults before client given)
last_faults before client words.Commit args given e =
    rw (commit_given before args given e) (read_faults before client given)
last_faults before client _ args given e = tests_ok given

what_tests : (before : List Item) (client : ℕ) (word : Word) (args : List (List ℕ)) → Tests (word_tests before client (Some word) args) (what_at (known_of before) client word args)
unfolding what_at
what_tests before client word args =
    let row = row_fields word in
    let last = last_of word in
    tests_refuse (not (fits row args)) reasons.BadForm (field_tests before row args ++ last_tests before client last args)
    (given_at (known_of before) row args nothing >>= λ given. ended_well (known_of before) client last given >>= λ ended. Ok (what_of word ended)) (λ _.
    tests_then (field_tests before row args) (last_tests before client last args) (given_at (known_of before) row args nothing)
    (λ given. ended_well (known_of before) client last given >>= λ ended. Ok (what_of word ended)) (fields_faults before row args nothing) (λ given e.
    tests_last (last_tests before client last args) (ended_well (known_of before) client last given) (what_of word) (last_faults before client word args given e)))

worded_tests : (before : List Item) (client : ℕ) (found : Option Word) (args : List (List ℕ)) → Tests (word_tests before client found args) (worded_at (known_of before) client found args)
unfolding worded_at
worded_tests before client None args = λ more. refl
worded_tests before client (Some word) args = what_tests before client word args

asked_tests : (before : List Item) (client : ℕ) (fields : List (List ℕ)) → Tests (word_tests before client (word_at (version_of before) (field_at fields 0)) (drop 1 fields)) (asked_at (known_of before) client fields)
unfolding asked_at
asked_tests before client [] = λ more. refl
asked_tests before client (field ∷ args) = worded_tests before client (word_at (version_of before) field) args

caller_on : (before : List Item) (found : Option ℕ)
    → Tests (when (not (is_found found)) reasons.UnknownClient ∷ when (has_stopped before (unwrap_or found 0)) reasons.ClientStopped ∷ [])
    (found_or reasons.UnknownClient found >>= λ client. refuse (list_any (λ c. eqb c client) (known_of before).stopped) reasons.ClientStopped (Ok client))
caller_on before None = λ more. refl
caller_on before (Some client) =
    let e : list_any (λ c. eqb c client) (known_of before).stopped ≡ has_stopped before client = stopped_among (commands before) client in
    rw e (tests_refuse (has_stopped before client) reasons.ClientStopped [] (Ok client) (λ _. tests_ok client))

caller_tests : (before : List Item) (name : List ℕ)
    → Tests (when (not (is_among (client_names before) name)) reasons.UnknownClient ∷ when (has_stopped before (unwrap_or (number_of (client_names before) name) 0)) reasons.ClientStopped ∷ []) (caller_at (known_of before) name)
unfolding caller_at number_at
caller_tests before name = rw among_number (caller_on before (number_of (client_names before) name))

caller_number : (before : List Item) (name : List ℕ) (client : ℕ) → caller_at (known_of before) name ≡ Ok client → number_of (client_names before) name ≡ Some client
unfolding caller_at number_at
caller_number before name client e =
    let b = bind_ok (found_or reasons.UnknownClient (number_of (client_names before) name)) (λ client. refuse (list_any (λ c. eqb c client) (known_of before).stopped) reasons.ClientStopped (Ok client)) client e in
    let r = refused_ok (list_any (λ c. eqb c b.0) (known_of before).stopped) reasons.ClientStopped (Ok b.0) client b.2 in
    found_ok reasons.UnknownClient (number_of (client_names before) name) b.0 b.1 ∙ ap (λ n. Some n) (ok_is b.0 client r.1)

pub command_line_tests : (before : List Item) (number : ℕ) (name : List ℕ) (fields : List (List ℕ)) → Tests (command_tests before (name ∷ fields)) (command_at (known_of before) number name fields)
unfolding command_at
command_line_tests before number name fields =
    let client = unwrap_or (number_of (client_names before) name) 0 in
    let first = when (not (is_among (client_names before) name)) reasons.UnknownClient ∷ when (has_stopped before client) reasons.ClientStopped ∷ [] in
    tests_then first (word_tests before client (word_at (version_of before) (field_at fields 0)) (drop 1 fields)) (caller_at (known_of before) name)
    (λ client. asked_at (known_of before) client fields >>= λ what. Ok (items.Asks (record { line = number; client = client; what = what }))) (caller_tests before name) (λ caller e.
    let number_is = caller_number before name caller e in
    rw number_is (tests_last (word_tests before caller (word_at (version_of before) (field_at fields 0)) (drop 1 fields)) (asked_at (known_of before) caller fields) (λ what. items.Asks (record { line = number; client = caller; what = what })) (asked_tests before caller fields)))
