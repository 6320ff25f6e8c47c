-- What is read as a script keeps the colours and the texts of some objects to these.
use Rattle.std.proofs.Common.{◌≡◌, ◌≢◌, ◌⊎◌, inl, inr, ℕ, zero, suc, ◌<◌, List, [], ◌∷◌, ◌++◌, length, get_or, Option, Some, None, Bool, true, false, not, ◌&&◌, ◌||◌, refl, ap, sym, subst, ◌∙◌, arith, append-nil, append_assoc}
use Rattle.std.specs.Prelude.{IsTrue, ◌==◌, codes}
use Rattle.std.specs.List.{All, AllPairs, cons_option, enumerate_from, filter_map, last_or, list_all, list_any}
use Rattle.std.proofs.lemmas.Bool.{and_parts, and_from, both_ways, or_cases, or_left, or_right, eq-eqb, eqb-true}
use Rattle.std.proofs.lemmas.List.Elements.{All-nil, All-append, filter_map-append}
use Rattle.std.proofs.lemmas.List.Folds.{list_any_at, list_any-append}
use Rattle.std.proofs.lemmas.List.Kept.{AllPairs-cons}
use Rattle.std.proofs.lemmas.List.Quantifiers.{all_pairs_push}
use Rattle.script_text.specs.declared.script.Kind.{Kind}
use Rattle.script_text.specs.declared.script.Object.{Object}
use Rattle.script_text.specs.declared.script.Command.{Command}
use Rattle.script_text.specs.declared.script.Script.{Script}
use Rattle.script_text.specs.declared.commands.What.{What}
use Rattle.script_text.specs.declared.commands.Word.{Word}
use Rattle.script_text.specs.declared.commands.Word.TheVariants as words
use Rattle.script_text.specs.declared.given.Given.{Given}
use Rattle.script_text.specs.declared.item.Item.{Item}
use Rattle.script_text.specs.declared.item.Item.TheVariants as items
use Rattle.script_text.specs.declared.item.Stage.{Stage}
use Rattle.script_text.specs.declared.item.Stage.TheVariants as stages
use Rattle.script_text.specs.declared.table.Sort.{Sort}
use Rattle.script_text.specs.declared.table.Sort.TheVariants as sorts
use Rattle.script_text.specs.Apart.{is_parts, has_colour, is_taken, is_reserved, colours_of}
use Rattle.script_text.specs.Commands.{what_of, word_of, content_of}
use Rattle.script_text.specs.Items.{objects, objects_in, commands, commands_in, is_begun, stage_of, stage_after, may_begin, may_come, version_of}
use Rattle.script_text.specs.Pieces.{lines_of, fields_of, is_text}
use Rattle.script_text.specs.Table.{row_fields, sort_fields, sort_of, kind_of, sort_text, nothing}
use Rattle.script_text.specs.Grammar.{is_free, are_colours, are_new_numbers, may_follow, Say, Says, SpellAll, SpellsWhat, SpellsKind, said_lines}
use Rattle.part_law.specs.Premises.{ShareNone, AreApart, AreTextsFree, IsFree, ColoursDiffer}
use Rattle.part_law.specs.Laws.{ScriptsKeepApart}

-- TESTS

no : {A : Type 0} → false ≡ true → A
no e = absurd (let f : ⊥ = cc in f)

not_so : (b : Bool) → not b ≡ true → b ≡ false
not_so true e = no e
not_so false e = refl

-- what passes each time passes for one of them
passes : (test : ℕ → Bool) (xs : List ℕ) (c : ℕ) → list_all test xs ≡ true → list_any (λ x. x == c) xs ≡ true
    → test c ≡ true
passes test [] c all any = no any
passes test (x ∷ xs) c all any = elim (or_cases (x == c) (list_any (λ y. y == c) xs) any) [
  | inl here ↦ subst (λ (n : ℕ). test n ≡ true) (eqb-true x c here) (and_parts (test x) (list_all test xs) all).0
  | inr later ↦ passes test xs c (and_parts (test x) (list_all test xs) all).1 later
]

-- new numbers are none of those before them
none_before : (before ns : List ℕ) → are_new_numbers before ns ≡ true
    → All (λ n. list_any (λ m. m == n) before ≡ false) ns
none_before before [] e = All-nil (λ n. list_any (λ m. m == n) before ≡ false)
none_before before (n ∷ ns) e =
    let p = and_parts (not (list_any (λ m. m == n) before)) _ e in
    let rest = none_before (before ++ n ∷ []) ns p.1 in
    one (not_so _ p.0) (λ k d lt. shorter (get_or ns k d) (rest k d lt)) where
      P : ℕ → Type 0
      P x = list_any (λ m. m == x) before ≡ false

      one : P n → All P ns → All P (n ∷ ns)
      one here rest = All-append P (n ∷ []) ns (λ k d lt. first k d lt) rest where
        first : (k d : ℕ) → k < length (n ∷ []) → P (get_or (n ∷ []) k d)
        first zero d lt = here
        first (suc k) d lt = absurd (let f : ⊥ = omega (arith, lt) in f)

      left_of : (a b : Bool) → (a || b) ≡ false → a ≡ false
      left_of true b f = absurd (both_ways (true || b) f refl)
      left_of false b f = refl

      shorter : (x : ℕ) → list_any (λ m. m == x) (before ++ n ∷ []) ≡ false → P x
      shorter x none = left_of (list_any (λ m. m == x) before) (list_any (λ m. m == x) (n ∷ []))
          (sym (list_any-append (λ m. m == x) before (n ∷ [])) ∙ none)

differs : (before : List ℕ) (n m : ℕ) → list_any (λ k. k == m) (before ++ n ∷ []) ≡ false → n ≢ m
differs before n m none same =
    both_ways (list_any (λ k. k == m) (before ++ n ∷ [])) none
    (list_any-append (λ k. k == m) before (n ∷ []) ∙ or_right (list_any (λ k. k == m) before) _ (or_left (n == m) false
    (eq-eqb n m same)))

all_differ : (before ns : List ℕ) → are_new_numbers before ns ≡ true → AllPairs (λ (a b : ℕ). a ≢ b) ns
all_differ before [] e = λ i j d lt within. absurd (let f : ⊥ = omega (arith, within) in f)
all_differ before (n ∷ ns) e =
    let p = and_parts (not (list_any (λ m. m == n) before)) _ e in
    let rest = none_before (before ++ n ∷ []) ns p.1 in
    AllPairs-cons (λ (a b : ℕ). a ≢ b) n ns (λ k d lt. differs before n (get_or ns k d) (rest k d lt))
    (all_differ (before ++ n ∷ []) ns p.1)

-- WHAT AN OBJECT IS

-- the kind takes no colour from objects that keep theirs, nor from others to keep it, and each of its own once
record IsNew (before : List Item) (kind : Kind) : Type 0 where
  free : (c : ℕ) → has_colour kind c ≡ true → is_taken (objects before) (is_parts kind) c ≡ false
  differ : AllPairs (λ (a b : ℕ). a ≢ b) (colours_of kind)

free_of : (before : List Item) (alone : Bool) (order : List ℕ) → list_all (is_free before alone) order ≡ true → (c : ℕ)
    → list_any (λ x. x == c) order ≡ true → is_taken (objects before) alone c ≡ false
free_of before alone order all c any = not_so (is_taken (objects before) alone c)
    (passes (is_free before alone) order c all any)

differ_of : (before : List Item) (order : List ℕ) → are_colours before order ≡ true
    → AllPairs (λ (a b : ℕ). a ≢ b) order
differ_of before order e = all_differ [] order (and_parts _ _ (and_parts _ _ e).0).1

alone_differs : (n : ℕ) → AllPairs (λ (a b : ℕ). a ≢ b) (n ∷ [])
alone_differs n = all_differ [] (n ∷ []) refl

one_free : (before : List Item) (colour : ℕ) → is_free before false colour ≡ true
    → list_all (is_free before false) (colour ∷ []) ≡ true
one_free before colour e = and_from (is_free before false colour) true e refl

kind_new : (before : List Item) (args : List (List ℕ)) (sort : Sort) (given : Given)
    → SpellAll before (sort_fields sort) args nothing given → IsNew before (kind_of sort given)
kind_new before args sorts.Map given s =
    let whole = s.2.2.1 ∙ (s.2.1.4 ∙ ap (λ (g : Given). record g { order = s.2.1.0 }) s.1.3) in
    let p = and_parts (are_colours before s.2.1.0) _ s.2.1.2 in
    subst (λ (g : Given). IsNew before (kind_of sorts.Map g)) (sym whole)
    (record { free = free_of before false s.2.1.0 p.1; differ = differ_of before s.2.1.0 p.0 })
kind_new before args sorts.Tx given s =
    let whole = s.2.2.1 ∙ (s.2.1.4 ∙ ap (λ (g : Given). record g { order = s.2.1.0 }) s.1.3) in
    let p = and_parts (are_colours before s.2.1.0) _ s.2.1.2 in
    subst (λ (g : Given). IsNew before (kind_of sorts.Tx g)) (sym whole)
    (record { free = free_of before false s.2.1.0 p.1; differ = differ_of before s.2.1.0 p.0 })
kind_new before args sorts.Tree given s =
    let whole = s.2.2.1 ∙ (s.2.1.4 ∙ ap (λ (g : Given). record g { order = s.2.1.0 }) s.1.3) in
    let p = and_parts (are_colours before s.2.1.0) _ s.2.1.2 in
    subst (λ (g : Given). IsNew before (kind_of sorts.Tree g)) (sym whole)
    (record { free = free_of before false s.2.1.0 p.1; differ = differ_of before s.2.1.0 p.0 })
kind_new before args sorts.Parts given s =
    let whole = s.2.2.1 ∙ (s.2.1.4 ∙ ap (λ (g : Given). record g { order = s.2.1.0 }) s.1.3) in
    let p = and_parts (are_colours before s.2.1.0) _ s.2.1.2 in
    subst (λ (g : Given). IsNew before (kind_of sorts.Parts g)) (sym whole)
    (record { free = free_of before true s.2.1.0 p.1; differ = differ_of before s.2.1.0 p.0 })
kind_new before args sorts.Causal given s =
    subst (λ (g : Given). IsNew before (kind_of sorts.Causal g)) (sym (s.2.1 ∙ s.1.3))
    (record {
      free = free_of before false (s.1.0 ∷ []) (one_free before s.1.0 (and_parts _ _ s.1.2).1);
      differ = alone_differs s.1.0;
    })
kind_new before args sorts.Queue given s =
    let whole = s.2.2.1 ∙ (s.2.1.3 ∙ ap (λ (g : Given). record g { colour = s.2.1.0 }) s.1.3) in
    subst (λ (g : Given). IsNew before (kind_of sorts.Queue g)) (sym whole)
    (record {
      free = free_of before false (s.2.1.0 ∷ []) (one_free before s.2.1.0 (and_parts _ _ s.2.1.2).1);
      differ = alone_differs s.2.1.0;
    })

-- so one more object shares no colour that is kept
apart_more : (made : List Object) (new : Object) → AreApart made
    → ((c : ℕ) → has_colour new.kind c ≡ true → is_taken made (is_parts new.kind) c ≡ false)
    → AreApart (made ++ new ∷ [])
apart_more made new old free = all_pairs_push ShareNone made new old
    (λ k d lt kept c theirs own. both_ways (is_taken made (is_parts new.kind) c) (free c own)
    (list_any_at (λ (o : Object). (is_parts new.kind || is_parts o.kind) && has_colour o.kind c) made k d lt
    (and_from (is_parts new.kind || is_parts (get_or made k d).kind) (has_colour (get_or made k d).kind c)
    (turned (is_parts (get_or made k d).kind) (is_parts new.kind) kept) theirs))) where
      turned : (a b : Bool) → (a || b) ≡ true → (b || a) ≡ true
      turned a true e = refl
      turned true false e = refl
      turned false false e = no e

-- WHAT A COMMAND SAYS

said_free : (before : List Item) (text : List ℕ)
    → IsTrue (is_text text && not (is_reserved (objects before) text)) → is_reserved (objects before) text ≡ false
said_free before text e = not_so (is_reserved (objects before) text) (and_parts (is_text text) _ e).1

text_free : (before : List Item) (args : List (List ℕ)) (word : Word) (given : Given)
    → SpellAll before (row_fields word) args nothing given → IsFree (objects before) (content_of (what_of word given))
text_free before args words.Append given s =
    let text : given.text ≡ s.2.1.0 = ap (λ (g : Given). g.text) (s.2.2.1 ∙ s.2.1.3) in
    subst (λ (t : List ℕ). is_reserved (objects before) t ≡ false) (sym text) (said_free before s.2.1.0 s.2.1.2)
text_free before args words.Stop given s =
    let text : given.text ≡ s.2.2.1.0 = ap (λ (g : Given). g.text) (s.2.2.2.1 ∙ s.2.2.1.3) in
    subst (λ (t : List ℕ). is_reserved (objects before) t ≡ false) (sym text) (said_free before s.2.2.1.0 s.2.2.1.2)
text_free before args words.Only given s =
    let text : given.text ≡ s.2.1.0 = ap (λ (g : Given). g.text) (s.2.2.1 ∙ s.2.1.3) in
    subst (λ (t : List ℕ). is_reserved (objects before) t ≡ false) (sym text) (said_free before s.2.1.0 s.2.1.2)
text_free before args _ given s = tt

-- ITEM BY ITEM

abbrev Frees : List Object → List Command → Type 0
Frees made asked = All (λ (c : Command). IsFree made (content_of c.what)) asked

record Keeps (made : List Object) (asked : List Command) (stage : Stage) : Type 0 where
  apart : AreApart made
  differ : ColoursDiffer made
  free : Frees made asked
  -- no command is there before the header has ended
  early : (is_begun stage ≡ true) ⊎ (asked ≡ [])

abbrev KeepsSo : List Item → Type 0
KeepsSo before = Keeps (objects before) (commands before) (stage_of before)

-- no header line comes where the header has ended
ended : (version : ℕ) (stage : Stage) (word : List ℕ) → may_begin version stage word ≡ true → is_begun stage ≡ true → ⊥
ended version stages.Commands word come begun = no come
ended version stages.Nothing word come begun = no begun
ended version stages.Version word come begun = no begun
ended version stages.Regions word come begun = no begun
ended version stages.Colours word come begun = no begun
ended version stages.Rows word come begun = no begun
ended version stages.Clients word come begun = no begun
ended version stages.Objects word come begun = no begun

last_is : {A : Type 0} (o : Option A) (xs : List A) (x : A) → last_or o (xs ++ x ∷ []) ≡ Some x
last_is o [] x = refl
last_is o (y ∷ ys) x = last_is (Some y) ys x

module _ (before : List Item) (keeps : KeepsSo before) where
  same_of : {B : Type 0} (h : Item → Option B) (item : Item) → h item ≡ None
      → filter_map h before ≡ filter_map h (before ++ item ∷ [])
  same_of {B} h item e = sym (filter_map-append h before (item ∷ [])
      ∙ (ap (λ (o : Option B). filter_map h before ++ cons_option o []) e ∙ append-nil (filter_map h before)))

  more_of : {B : Type 0} (h : Item → Option B) (item : Item) (b : B) → h item ≡ Some b
      → filter_map h before ++ b ∷ [] ≡ filter_map h (before ++ item ∷ [])
  more_of {B} h item b e = sym (filter_map-append h before (item ∷ [])
      ∙ ap (λ (o : Option B). filter_map h before ++ cons_option o []) e)

  carried : (made made' : List Object) (asked asked' : List Command) (stage stage' : Stage) → made ≡ made'
      → asked ≡ asked' → stage ≡ stage' → Keeps made asked stage → Keeps made' asked' stage'
  carried made made' asked asked' stage stage' em ea es k =
      subst (λ (z : List Object × List Command × Stage). Keeps z.0 z.1 z.2) (λ i. (em i, ea i, es i)) k

  stage_is : (item : Item) → stage_after (Some item) ≡ stage_of (before ++ item ∷ [])
  stage_is item = sym (ap stage_after (last_is None before item))

  none_asked : (word : List ℕ) → may_come before word ≡ true → commands before ≡ []
  none_asked word come = elim keeps.early [
    | inl begun ↦ absurd (ended (version_of before) (stage_of before) word come begun)
    | inr none ↦ none
  ]

  -- a header line that declares no object
  passed : (item : Item) → objects_in item ≡ None → commands_in item ≡ None → (word : List ℕ)
      → may_come before word ≡ true → KeepsSo (before ++ item ∷ [])
  passed item o c word come =
      carried _ _ _ _ (stage_after (Some item)) _ (same_of objects_in item o) (same_of commands_in item c) (stage_is item)
      (record { apart = keeps.apart; differ = keeps.differ; free = keeps.free; early = inr (none_asked word come) })

  declared : (object : Object) (args : List (List ℕ)) → SpellsKind before args object.kind
      → may_come before (sort_text (sort_of object.kind)) ≡ true → KeepsSo (before ++ items.Declared object ∷ [])
  declared object args spells come =
      let item = items.Declared object in
      let none = none_asked (sort_text (sort_of object.kind)) come in
      let new : IsNew before object.kind = subst (λ (k : Kind). IsNew before k) (sym spells.same)
      (kind_new before args (sort_of object.kind) spells.given spells.spelled) in
      let D : Object → Type 0 = λ o. AllPairs (λ (a b : ℕ). a ≢ b) (colours_of o.kind) in
      carried (objects before ++ object ∷ []) _ _ _ stages.Objects _ (more_of objects_in item object refl)
      (same_of commands_in item refl) (stage_is item)
      (record {
        apart = apart_more (objects before) object keeps.apart new.free;
        differ = All-append D (objects before) (object ∷ []) keeps.differ (one_of D object new.differ);
        free = subst (λ (l : List Command). Frees (objects before ++ object ∷ []) l) (sym none)
            (All-nil (λ (c : Command). IsFree (objects before ++ object ∷ []) (content_of c.what)));
        early = inr none;
      }) where
        one_of : (P : Object → Type 0) (x : Object) → P x → All P (x ∷ [])
        one_of P x p zero d lt = p
        one_of P x p (suc k) d lt = absurd (let f : ⊥ = omega (arith, lt) in f)

  asked : (command : Command) (args : List (List ℕ)) → SpellsWhat before command.client args command.what
      → KeepsSo (before ++ items.Asks command ∷ [])
  asked command args spells =
      let item = items.Asks command in
      let F : Command → Type 0 = λ c. IsFree (objects before) (content_of c.what) in
      let new : F command = subst (λ (w : What). IsFree (objects before) (content_of w)) (sym spells.same)
      (text_free before args (word_of command.what) spells.given spells.spelled) in
      carried _ _ (commands before ++ command ∷ []) _ stages.Commands _ (same_of objects_in item refl)
      (more_of commands_in item command refl) (stage_is item)
      (record {
        apart = keeps.apart;
        differ = keeps.differ;
        free = All-append F (commands before) (command ∷ []) keeps.free (one_of F command new);
        early = inl refl;
      }) where
        one_of : (P : Command → Type 0) (x : Command) → P x → All P (x ∷ [])
        one_of P x p zero d lt = p
        one_of P x p (suc k) d lt = absurd (let f : ⊥ = omega (arith, lt) in f)

  more : (number : ℕ) (fields : List (List ℕ)) (item : Item) → Says before number fields item
      → may_follow before item ≡ true → KeepsSo (before ++ item ∷ [])
  more number fields (items.Version version) says ok =
      passed (items.Version version) refl refl (codes "fuzzylog") (and_parts _ _ ok).0
  more number fields (items.Regions names) says ok =
      passed (items.Regions names) refl refl (codes "regions") (and_parts _ _ (and_parts _ _ ok).0).0
  more number fields (items.Colours names) says ok =
      passed (items.Colours names) refl refl (codes "colours") (and_parts _ _ (and_parts _ _ ok).0).0
  more number fields (items.Rows rows) says ok =
      passed (items.Rows rows) refl refl (codes "rows") (and_parts _ _ ok).0
  more number fields (items.Client name home) says ok =
      passed (items.Client name home) refl refl (codes "client")
      (and_parts _ _ (and_parts _ _ (and_parts _ _ ok).0).0).0
  more number fields (items.Declared object) says ok =
      declared object says.0 says.1 (and_parts _ _ (and_parts _ _ ok).0).0
  more number fields items.Begin says ok = passed items.Begin refl refl (codes "begin") ok
  more number fields (items.Asks command) says ok = asked command says.1 says.2

all_keep : (before : List Item) (lines : List (ℕ × List ℕ)) (said : List Item) → KeepsSo before → Say before lines said
    → KeepsSo (before ++ said)
all_keep before [] [] keeps say = subst KeepsSo (sym (append-nil before)) keeps
all_keep before [] (item ∷ later) keeps say = absurd say
all_keep before (line ∷ lines) [] keeps say = absurd say
all_keep before (line ∷ lines) (item ∷ later) keeps say =
    subst KeepsSo (append_assoc before (item ∷ []) later)
    (all_keep (before ++ item ∷ []) lines later
    (more before keeps line.0 (fields_of line.1) item say.0 say.1) say.2)

pub scripts_keep_apart : ScriptsKeepApart
scripts_keep_apart bytes script is =
    let start : KeepsSo [] = record {
      apart = λ i j d lt within. absurd (let f : ⊥ = omega (arith, within) in f);
      differ = All-nil (λ (o : Object). AllPairs (λ (a b : ℕ). a ≢ b) (colours_of o.kind));
      free = All-nil (λ (c : Command). IsFree [] (content_of c.what));
      early = inr refl;
    } in
    let all = all_keep [] (said_lines (enumerate_from 1 (lines_of bytes))) is.said start is.lines.say in
    subst (λ (s : Script). AreApart s.objects × AreTextsFree s × ColoursDiffer s.objects) (sym is.same)
    (all.apart, all.free, all.differ)
