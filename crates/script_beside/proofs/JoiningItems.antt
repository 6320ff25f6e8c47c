-- The items of a script's lines: those of a header, and behind it commands alone.
use Rattle.std.proofs.Common.{◌≡◌, ℕ, suc, Bool, true, false, List, [], ◌∷◌, ◌++◌, length, map, Option, Some, None, refl, sym, ap, subst, ◌∙◌, arith, append-nil, append_assoc}
use Rattle.std.specs.Prelude.{◌&&◌, codes, decimal}
use Rattle.std.specs.List.{cons_option, filter_map, last_or}
use Rattle.std.specs.Str.{bytes_eq}
use Rattle.std.proofs.lemmas.List.Elements.{filter_map-append}
use Rattle.script_text.specs.declared.script.Object.{Object}
use Rattle.script_text.specs.declared.script.Command.{Command}
use Rattle.script_text.specs.declared.script.Script.{Script}
use Rattle.script_text.specs.declared.item.Item.{Item}
use Rattle.script_text.specs.declared.item.Item.TheVariants as items
use Rattle.script_text.specs.declared.item.Stage.{Stage}
use Rattle.script_text.specs.declared.item.Stage.TheVariants as stages
use Rattle.script_text.specs.declared.limits.TheConstants.{VERSION_1}
use Rattle.script_text.specs.Table.{sort_text, sort_of}
use Rattle.script_text.specs.Pieces.{first_in, is_among}
use Rattle.script_text.specs.Items.{stage_after, stage_of, header_words, may_come, is_begun, has_begun, regions_in, colours_in, rows_in, clients_in, objects_in, commands_in, last_said, commands, script_of, version_in, version_of, may_begin}
use Rattle.script_text.specs.Grammar.{may_follow, Says, Say}

-- ---- lists of items

pub last_more : {A : Type 0} (o : Option A) (xs : List A) (x : A) → last_or o (xs ++ x ∷ []) ≡ Some x
last_more o [] x = refl
last_more o (y ∷ ys) x = last_more (Some y) ys x

-- the items that ask for these commands
abbrev pub asks : List Command → List Item
asks [] = []
asks (c ∷ cs) = items.Asks c ∷ asks cs

pub asks_joined : (cs ds : List Command) → asks (cs ++ ds) ≡ asks cs ++ asks ds
asks_joined [] ds = refl
asks_joined (c ∷ cs) ds = ap (λ (l : List Item). items.Asks c ∷ l) (asks_joined cs ds)

says_nothing : {B : Type 0} (h : Item → Option B) → ((c : Command) → h (items.Asks c) ≡ None) → (cs : List Command) → filter_map h (asks cs) ≡ []
says_nothing h none [] = refl
says_nothing h none (c ∷ cs) = ap (λ o. cons_option o (filter_map h (asks cs))) (none c) ∙ says_nothing h none cs

-- what commands don't say is as it was without them
pub asked_of : {B : Type 0} (h : Item → Option B) → ((c : Command) → h (items.Asks c) ≡ None) → (u : List Item) (cs : List Command)
    → filter_map h (u ++ asks cs) ≡ filter_map h u
asked_of h none u cs = filter_map-append h u (asks cs) ∙ ap (λ l. filter_map h u ++ l) (says_nothing h none cs) ∙ append-nil (filter_map h u)

says_commands : (cs : List Command) → filter_map commands_in (asks cs) ≡ cs
says_commands [] = refl
says_commands (c ∷ cs) = ap (λ (l : List Command). c ∷ l) (says_commands cs)

pub commands_asked : (u : List Item) (cs : List Command) → commands (u ++ asks cs) ≡ commands u ++ cs
commands_asked u cs = filter_map-append commands_in u (asks cs) ∙ ap (λ l. commands u ++ l) (says_commands cs)

abbrev script_from : List ℕ → List (List (List ℕ)) → List (List (List ℕ)) → List ℕ → List (List ℕ × ℕ) → List Object → List Command → Script
script_from versions regions colours rows clients made asked = record {
  version = last_said 1 versions;
  shape = record {
    regions = length (last_said [] regions);
    colours = length (last_said [] colours);
    homes = map (λ c. c.1) clients;
    rows = last_said VERSION_1.unsaid_rows rows;
  };
  regions = last_said [] regions;
  colours = last_said [] colours;
  clients = map (λ c. c.0) clients;
  objects = made;
  commands = asked;
}

-- commands behind items are the script's commands, and change nothing else of it
pub script_asked : (u : List Item) (cs : List Command) → script_of (u ++ asks cs) ≡ record (script_of u) { commands = commands u ++ cs }
script_asked u cs =
    let v = asked_of version_in (λ c. refl) u cs in
    let r = asked_of regions_in (λ c. refl) u cs in
    let k = asked_of colours_in (λ c. refl) u cs in
    let n = asked_of rows_in (λ c. refl) u cs in
    let l = asked_of clients_in (λ c. refl) u cs in
    let o = asked_of objects_in (λ c. refl) u cs in
    let a = commands_asked u cs in
    λ i. script_from (v i) (r i) (k i) (n i) (l i) (o i) (a i)

-- ---- lines one after another

pub say_split : (before : List Item) (xs ys : List (ℕ × List ℕ)) (said : List Item) → Say before (xs ++ ys) said
    → (u : List Item) × (v : List Item) × (said ≡ u ++ v) × Say before xs u × Say (before ++ u) ys v
say_split before [] ys said say = ([], said, refl, tt, subst (λ (l : List Item). Say l ys said) (sym (append-nil before)) say)
say_split before (x ∷ xs) ys [] say = absurd say
say_split before (x ∷ xs) ys (item ∷ more) say =
    let r = say_split (before ++ item ∷ []) xs ys more say.2 in
    (item ∷ r.0, r.1, ap (λ (l : List Item). item ∷ l) r.2, (say.0, say.1, r.3), subst (λ (l : List Item). Say l ys r.1) (append_assoc before (item ∷ []) r.0) r.4)

pub say_joined : (before : List Item) (xs ys : List (ℕ × List ℕ)) (u v : List Item) → Say before xs u → Say (before ++ u) ys v → Say before (xs ++ ys) (u ++ v)
say_joined before [] ys [] v first then = subst (λ (l : List Item). Say l ys v) (append-nil before) then
say_joined before [] ys (item ∷ u) v first then = absurd first
say_joined before (x ∷ xs) ys [] v first then = absurd first
say_joined before (x ∷ xs) ys (item ∷ u) v first then =
    (first.0, first.1, say_joined (before ++ item ∷ []) xs ys u v first.2 (subst (λ (l : List Item). Say l ys v) (sym (append_assoc before (item ∷ []) u)) then))

-- ---- where the header ends

no : {A : Type 0} → false ≡ true → A
no e = absurd (let f : ⊥ = cc in f)

too_few : {A : Type 0} (x y z : List ℕ) (more : List (List ℕ)) → x ∷ [] ≡ y ∷ z ∷ more → A
too_few x y z more e = let n : 1 ≡ suc (suc (length more)) = ap length e in absurd (omega (arith, n))

-- the line `begin` begins with no other word
unlike : {A : Type 0} (word : List ℕ) (more : List (List ℕ)) → bytes_eq (codes "begin") word ≡ false → codes "begin" ∷ [] ≡ word ∷ more → A
unlike word more differ e =
    let alike : bytes_eq (codes "begin") (codes "begin") ≡ bytes_eq (codes "begin") word = ap (λ l. bytes_eq (codes "begin") (first_in l)) e in
    no (sym (alike ∙ differ))

ends_header : (before : List Item) (n : ℕ) (item : Item) → Says before n (codes "begin" ∷ []) item → is_begun (stage_after (Some item)) ≡ true
ends_header before n (items.Version version) says = too_few (codes "begin") (codes "fuzzylog") (decimal version) [] says
ends_header before n (items.Regions names) says = unlike (codes "regions") names refl says
ends_header before n (items.Colours names) says = unlike (codes "colours") names refl says
ends_header before n (items.Rows rows) says = too_few (codes "begin") (codes "rows") says.0 [] says.2
ends_header before n (items.Client name home) says = too_few (codes "begin") (codes "client") name _ says
ends_header before n (items.Declared object) says = too_few (codes "begin") (sort_text (sort_of object.kind)) object.name says.0 says.2
ends_header before n items.Begin says = refl
ends_header before n (items.Asks command) says = refl

-- lines of which the last is `begin` end the header
pub begun_by : (before : List Item) (lines : List (ℕ × List ℕ)) (n : ℕ) (u : List Item) → Say before (lines ++ (n, codes "begin") ∷ []) u → has_begun (before ++ u) ≡ true
begun_by before [] n [] say = absurd say
begun_by before [] n (item ∷ []) say =
    ap (λ (o : Option Item). is_begun (stage_after o)) (last_more None before item) ∙ ends_header before n item say.0
begun_by before [] n (item ∷ other ∷ more) say = absurd say.2
begun_by before (line ∷ lines) n [] say = absurd say
begun_by before (line ∷ lines) n (item ∷ more) say =
    subst (λ (l : List Item). has_begun l ≡ true) (append_assoc before (item ∷ []) more) (begun_by (before ++ item ∷ []) lines n more say.2)

-- ---- behind the header

at_commands : (s : Stage) → is_begun s ≡ true → s ≡ stages.Commands
at_commands stages.Nothing e = no e
at_commands stages.Version e = no e
at_commands stages.Regions e = no e
at_commands stages.Colours e = no e
at_commands stages.Rows e = no e
at_commands stages.Clients e = no e
at_commands stages.Objects e = no e
at_commands stages.Commands e = refl

and_left : (a b : Bool) → (a && b) ≡ true → a ≡ true
and_left true b e = refl
and_left false b e = e

-- no header line comes there
none_comes : {A : Type 0} (before : List Item) (word : List ℕ) → has_begun before ≡ true → may_come before word ≡ true → A
none_comes before word begun come =
    let never : may_come before word ≡ false = ap (λ (s : Stage). may_begin (version_of before) s word) (at_commands (stage_of before) begun) in
    no (sym never ∙ come)

asks_alone : (before : List Item) (item : Item) → has_begun before ≡ true → may_follow before item ≡ true → (c : Command) × (item ≡ items.Asks c)
asks_alone before (items.Version version) begun may = none_comes before (codes "fuzzylog") begun (and_left _ _ may)
asks_alone before (items.Regions names) begun may = none_comes before (codes "regions") begun (and_left _ _ (and_left _ _ may))
asks_alone before (items.Colours names) begun may = none_comes before (codes "colours") begun (and_left _ _ (and_left _ _ may))
asks_alone before (items.Rows rows) begun may = none_comes before (codes "rows") begun (and_left _ _ may)
asks_alone before (items.Client name home) begun may = none_comes before (codes "client") begun (and_left _ _ (and_left _ _ (and_left _ _ may)))
asks_alone before (items.Declared object) begun may = none_comes before (sort_text (sort_of object.kind)) begun (and_left _ _ (and_left _ _ may))
asks_alone before items.Begin begun may = none_comes before (codes "begin") begun may
asks_alone before (items.Asks command) begun may = (command, refl)

pub begun_after : (before : List Item) (c : Command) → has_begun (before ++ items.Asks c ∷ []) ≡ true
begun_after before c = ap (λ (o : Option Item). is_begun (stage_after o)) (last_more None before (items.Asks c))

pub begun_still : (before : List Item) (cs : List Command) → has_begun before ≡ true → has_begun (before ++ asks cs) ≡ true
begun_still before [] begun = subst (λ (l : List Item). has_begun l ≡ true) (sym (append-nil before)) begun
begun_still before (c ∷ cs) begun =
    subst (λ (l : List Item). has_begun l ≡ true) (append_assoc before (items.Asks c ∷ []) (asks cs)) (begun_still (before ++ items.Asks c ∷ []) cs (begun_after before c))

-- there all lines ask for commands
pub all_ask : (before : List Item) (lines : List (ℕ × List ℕ)) (said : List Item) → has_begun before ≡ true → Say before lines said → (cs : List Command) × (said ≡ asks cs)
all_ask before [] [] begun say = ([], refl)
all_ask before [] (item ∷ more) begun say = absurd say
all_ask before (line ∷ lines) [] begun say = absurd say
all_ask before (line ∷ lines) (item ∷ more) begun say =
    let one = asks_alone before item begun say.1 in
    let next : has_begun (before ++ item ∷ []) ≡ true = subst (λ (x : Item). has_begun (before ++ x ∷ []) ≡ true) (sym one.1) (begun_after before one.0) in
    let rest = all_ask (before ++ item ∷ []) lines more next say.2 in
    (one.0 ∷ rest.0, λ i. one.1 i ∷ rest.1 i)
