-- A command line gives an item exactly where it says one that may follow.
use Rattle.std.proofs.Common.{◌≡◌, ℕ, ◌+◌, ◌*◌, ◌<◌, ◌≤◌, true, false, not, ◌&&◌, ltb, leb, eqb, List, [], ◌∷◌, length, Option, Some, None, Ok, refl, sym, ap, subst, ◌∙◌, arith}
use Rattle.std.specs.List.{list_any}
use Rattle.std.specs.Str.{bytes_eq}
use Rattle.std.proofs.lemmas.Bool.{and_parts, not-true, not-false, lt-ltb, ltb-true, ltb-false, le-ltb, le-leb, leb-true}
use Rattle.std.proofs.lemmas.Slice.Eq.{bytes_eq-Decides}
use Rattle.log_node.specs.declared.limits.TheConstants.{MAX_COLOURS}
use Rattle.script_text.specs.declared.script.Reason.TheVariants as reasons
use Rattle.script_text.specs.declared.commands.Word.{Word}
use Rattle.script_text.specs.declared.commands.Word.TheVariants as words
use Rattle.script_text.specs.declared.commands.What.{What}
use Rattle.script_text.specs.declared.script.Command.{Command}
use Rattle.script_text.specs.declared.table.Last.{Last}
use Rattle.script_text.specs.declared.table.Last.TheVariants as lasts
use Rattle.script_text.specs.declared.commands.TheConstants.{WORDS}
use Rattle.script_text.specs.declared.given.Given.{Given}
use Rattle.script_text.specs.declared.item.Item.{Item}
use Rattle.script_text.specs.declared.known.Known.{Known}
use Rattle.script_text.specs.declared.item.Item.TheVariants as items
use Rattle.script_text.specs.declared.reads.HeldRead.{HeldRead}
use Rattle.script_text.specs.Pieces.{name_of}
use Rattle.script_text.specs.Items.{version_of, has_begun, client_names, has_stopped, commands}
use Rattle.script_text.specs.Reads.{holds}
use Rattle.script_text.specs.Table.{has_word, word_at, row_fields, last_of, fits, nothing}
use Rattle.script_text.specs.Commands.{what_of, word_of}
use Rattle.script_text.specs.Words.{word_text}
use Rattle.script_text.specs.Grammar.{SpellAll, SpellsWhat, ends_well, may_follow}
use Rattle.script_text.specs.Known.{known_of}
use Rattle.script_text.specs.Readings.{◌>>=◌, refuse, number_at}
use Rattle.script_text.specs.CommandReadings.{given_at, ended_well, what_at, worded_at, asked_at, caller_at, command_at}
use Rattle.script_text.proofs.EachLemmas.{refused_ok, bind_ok, ok_is}
use Rattle.script_text.proofs.NameLemmas.{number_ok, number_at_again}
use Rattle.script_text.proofs.ReadLaws.{held_is}
use Rattle.script_text.proofs.KnownLaws.{IsLawful, stopped_among}
use Rattle.script_text.specs.Laws.{Follows}
use Rattle.script_text.proofs.HeaderLaws.{parts}
use Rattle.script_text.proofs.FullLaws.{is_empty}
use Rattle.script_text.proofs.KindLaws.{find_passes, all_ok, all_again}

-- ---- words

pub word_ok : (version : ℕ) (field : List ℕ) (word : Word) → word_at version field ≡ Some word → (field ≡ word_text word) × (has_word version word ≡ true)
word_ok version field word e =
    let p = and_parts (bytes_eq field (word_text word)) (has_word version word) (find_passes (λ w. bytes_eq field (word_text w) && has_word version w) WORDS word e) in
    ((bytes_eq-Decides field (word_text word)).0 p.0, p.1)

pub word_again : (version : ℕ) (word : Word) → has_word version word ≡ true → word_at version (word_text word) ≡ Some word
word_again version words.Append has = rw has refl
word_again version _ has = rw has refl

word_what : (word : Word) (given : Given) → word_of (what_of word given) ≡ word
word_what words.Append given = refl
word_what _ given = refl

pub word_full : (word : Word) → is_empty (word_text word) ≡ false
word_full words.Append = refl
word_full _ = refl

-- ---- after the fields

abbrev read_of : ℕ → Given → HeldRead
read_of client given = record { client = client; object = given.object }

ended_ok : (before : List Item) (client : ℕ) (last : Last) (given ended : Given) → ended_well (known_of before) client last given ≡ Ok ended → (ended ≡ given) × (ends_well before client last given ≡ true)
unfolding ended_well
ended_ok before client lasts.Nothing given ended e = (sym (ok_is given ended e), refl)
ended_ok before client lasts.StopFits given ended e =
    let a = refused_ok (ltb given.count 2) reasons.StopNeedsTwoColours (refuse (ltb (2 * given.count + 2) given.number) reasons.BadNumber (Ok given)) ended e in
    let b = refused_ok (ltb (2 * given.count + 2) given.number) reasons.BadNumber (Ok given) ended a.1 in
    (sym (ok_is given ended b.1), rw (le-leb 2 given.count (ltb-false given.count 2 a.0), le-leb given.number (2 * given.count + 2) (ltb-false (2 * given.count + 2) given.number b.0)) refl)
ended_ok before client lasts.ReadHeld given ended e =
    let r = refused_ok (not (holds (known_of before).held (read_of client given))) reasons.NoRead (Ok given) ended e in
    (sym (ok_is given ended r.1), sym (held_is (commands before) client given.object) ∙ not-false (holds (known_of before).held (read_of client given)) r.0)

ended_again : (before : List Item) (client : ℕ) (last : Last) (given : Given) → ends_well before client last given ≡ true → ended_well (known_of before) client last given ≡ Ok given
unfolding ended_well
ended_again before client lasts.Nothing given h = refl
ended_again before client lasts.StopFits given h =
    let p = and_parts (leb 2 given.count) (leb given.number (2 * given.count + 2)) h in
    rw (le-ltb given.count 2 (leb-true 2 given.count p.0), le-ltb (2 * given.count + 2) given.number (leb-true given.number (2 * given.count + 2) p.1)) refl
ended_again before client lasts.ReadHeld given h =
    let held : holds (known_of before).held (read_of client given) ≡ true = held_is (commands before) client given.object ∙ h in
    rw held refl

-- the number of steps that fits is small
pub stop_small : (known : Known) (client : ℕ) (last : Last) (given ended : Given) → given.count ≤ MAX_COLOURS → ended_well known client last given ≡ Ok ended → last ≡ lasts.StopFits → ended.number ≤ 255
unfolding ended_well
stop_small known client lasts.Nothing given ended few e h = absurd cc
stop_small known client lasts.StopFits given ended few e h =
    let a = refused_ok (ltb given.count 2) reasons.StopNeedsTwoColours (refuse (ltb (2 * given.count + 2) given.number) reasons.BadNumber (Ok given)) ended e in
    let b = refused_ok (ltb (2 * given.count + 2) given.number) reasons.BadNumber (Ok given) ended a.1 in
    let fits = ltb-false (2 * given.count + 2) given.number b.0 in
    let same : given ≡ ended = ok_is given ended b.1 in
    rw (← same) (omega (arith, fits, few))
stop_small known client lasts.ReadHeld given ended few e h = absurd cc

-- ---- by the word

what_ok : (before : List Item) (client : ℕ) (word : Word) (args : List (List ℕ)) (what : What) → has_word (version_of before) word ≡ true → what_at (known_of before) client word args ≡ Ok what
    → SpellsWhat before client args what × (word_of what ≡ word)
unfolding what_at
what_ok before client word args what has e =
    let row = row_fields word in
    let a = refused_ok (not (fits row args)) reasons.BadForm (given_at (known_of before) row args nothing >>= λ given. ended_well (known_of before) client (last_of word) given >>= λ ended. Ok (what_of word ended)) what e in
    let b = bind_ok (given_at (known_of before) row args nothing) (λ given. ended_well (known_of before) client (last_of word) given >>= λ ended. Ok (what_of word ended)) what a.1 in
    let c = bind_ok (ended_well (known_of before) client (last_of word) b.0) (λ ended. Ok (what_of word ended)) what b.2 in
    let d = ended_ok before client (last_of word) b.0 c.0 c.1 in
    let same : what ≡ what_of word b.0 = sym (ok_is (what_of word c.0) what c.2) ∙ ap (what_of word) d.0 in
    let its : word_of what ≡ word = ap word_of same ∙ word_what word b.0 in (
      record {
        known = subst (λ (w : Word). has_word (version_of before) w ≡ true) (sym its) has;
        given = b.0;
        spelled = subst (λ (w : Word). SpellAll before (row_fields w) args nothing b.0) (sym its) (all_ok before row args nothing b.0 (not-false (fits row args) a.0) b.1);
        ends = subst (λ (w : Word). ends_well before client (last_of w) b.0 ≡ true) (sym its) d.1;
        same = same ∙ ap (λ (w : Word). what_of w b.0) (sym its);
      },
      its,
    )

what_read : (before : List Item) (client : ℕ) (args : List (List ℕ)) (what : What) → IsLawful (known_of before) → SpellsWhat before client args what
    → what_at (known_of before) client (word_of what) args ≡ Ok what
unfolding what_at
what_read before client args what l s =
    let a = all_again before (row_fields (word_of what)) args nothing s.given l s.spelled in
    rw (a.0, a.1, ended_again before client (last_of (word_of what)) s.given s.ends) (ap (λ w. Ok w) (sym s.same))

-- ---- the line

worded_ok : (before : List Item) (client : ℕ) (field : List ℕ) (args : List (List ℕ)) (found : Option Word) (what : What) → word_at (version_of before) field ≡ found → worded_at (known_of before) client found args ≡ Ok what
    → SpellsWhat before client args what × (field ≡ word_text (word_of what))
unfolding worded_at
worded_ok before client field args None what f e = absurd cc
worded_ok before client field args (Some word) what f e =
    let w = word_ok (version_of before) field word f in
    let a = what_ok before client word args what w.1 e in
    (a.0, w.0 ∙ ap word_text (sym a.1))

asked_ok : (before : List Item) (client : ℕ) (fields : List (List ℕ)) (what : What) → asked_at (known_of before) client fields ≡ Ok what
    → (args : List (List ℕ)) × (fields ≡ word_text (word_of what) ∷ args) × SpellsWhat before client args what
unfolding asked_at
asked_ok before client [] what e = absurd cc
asked_ok before client (field ∷ args) what e =
    let a = worded_ok before client field args (word_at (version_of before) field) what refl e in
    (args, ap (λ f. f ∷ args) a.1, a.0)

asked_read : (before : List Item) (client : ℕ) (args : List (List ℕ)) (what : What) → IsLawful (known_of before) → SpellsWhat before client args what
    → asked_at (known_of before) client (word_text (word_of what) ∷ args) ≡ Ok what
unfolding asked_at worded_at
asked_read before client args what l a = rw (word_again (version_of before) (word_of what) a.known) (what_read before client args what l a)

caller_ok : (before : List Item) (name : List ℕ) (client : ℕ) → caller_at (known_of before) name ≡ Ok client
    → (client < length (client_names before)) × (name ≡ name_of (client_names before) client) × (has_stopped before client ≡ false)
unfolding caller_at
caller_ok before name client e =
    let b = bind_ok (number_at reasons.UnknownClient (client_names before) name) (λ client. refuse (list_any (λ c. eqb c client) (known_of before).stopped) reasons.ClientStopped (Ok client)) client e in
    let r = refused_ok (list_any (λ c. eqb c b.0) (known_of before).stopped) reasons.ClientStopped (Ok b.0) client b.2 in
    let n = number_ok reasons.UnknownClient (client_names before) name b.0 b.1 in
    rw (← ok_is b.0 client r.1) (n.0, sym n.1, sym (stopped_among (commands before) b.0) ∙ r.0)

caller_again : (before : List Item) (client : ℕ) → IsLawful (known_of before) → client < length (client_names before) → has_stopped before client ≡ false
    → caller_at (known_of before) (name_of (client_names before) client) ≡ Ok client
unfolding caller_at
caller_again before client l lt goes_on =
    let free : list_any (λ c. eqb c client) (known_of before).stopped ≡ false = stopped_among (commands before) client ∙ goes_on in
    rw (number_at_again reasons.UnknownClient (client_names before) client l.clients lt, free) refl

pub command_ok : (before : List Item) (number : ℕ) (name : List ℕ) (fields : List (List ℕ)) (item : Item) → has_begun before ≡ true → command_at (known_of before) number name fields ≡ Ok item
    → Follows before number (name ∷ fields) item
unfolding command_at
command_ok before number name fields item begun e =
    let a = bind_ok (caller_at (known_of before) name) (λ client. asked_at (known_of before) client fields >>= λ what. Ok (items.Asks (record { line = number; client = client; what = what }))) item e in
    let b = bind_ok (asked_at (known_of before) a.0 fields) (λ what. Ok (items.Asks (record { line = number; client = a.0; what = what }))) item a.2 in
    let c = caller_ok before name a.0 a.1 in
    let k = asked_ok before a.0 fields b.0 b.1 in
    rw (← ok_is (items.Asks (record { line = number; client = a.0; what = b.0 })) item b.2) (record {
      says = (refl, k.0, k.2, ap (λ f. f ∷ fields) c.1 ∙ ap (λ fs. name_of (client_names before) a.0 ∷ fs) k.1);
      may = rw (begun, lt-ltb a.0 (length (client_names before)) c.0, c.2) refl;
    })

-- what a command has that may follow
pub record MayAsk (before : List Item) (command : Command) : Type 0 where
  pub begun : has_begun before ≡ true
  pub known : command.client < length (client_names before)
  pub goes_on : has_stopped before command.client ≡ false

pub may_ask : (before : List Item) (command : Command) → may_follow before (items.Asks command) ≡ true → MayAsk before command
may_ask before command h =
    let lt = ltb command.client (length (client_names before)) in
    let b = and_parts (has_begun before && lt) (not (has_stopped before command.client)) h in
    let c = and_parts (has_begun before) lt b.0 in
    record {
      begun = c.0;
      known = ltb-true command.client (length (client_names before)) c.1;
      goes_on = not-true (has_stopped before command.client) b.1;
    }

pub command_read : (before : List Item) (number : ℕ) (name : List ℕ) (fields : List (List ℕ)) (command : Command) → IsLawful (known_of before)
    → Follows before number (name ∷ fields) (items.Asks command) → command_at (known_of before) number name fields ≡ Ok (items.Asks command)
unfolding command_at
command_read before number name fields command l f =
    let m = may_ask before command f.may in
    let args = f.says.1 in
    let p = parts name (name_of (client_names before) command.client) fields (word_text (word_of command.what) ∷ args) f.says.3 in
    rw (p.0, p.1, caller_again before command.client l m.known m.goes_on, asked_read before command.client args command.what l f.says.2, ← f.says.0) refl
