-- Which texts the nodes of commands could show, whoever wrote what reads found.
use Rattle.std.specs.Prelude.{◌≡◌, Bool, true, false, not, ℕ, ◌==◌, nat_le, nat_lt, ◌&&◌, ◌||◌, codes, List, [], ◌∷◌, ◌++◌, length, map, Option, Some, None, if◌then◌else◌}
use Rattle.std.specs.List.{All, list_all}
use Rattle.std.specs.Str.{bytes_eq}
use Rattle.log_node.specs.declared.ids.Key.{Key}
use Rattle.log_node.specs.declared.node.Node.{Node}
use Rattle.log_node.specs.declared.forms.Pair.{Pair}
use Rattle.log_node.specs.declared.forms.Version.{Version}
use Rattle.log_node.specs.declared.forms.Form.TheVariants as forms
use Rattle.object_form.specs.Forms.{bar, dash, dot, equals, form_text, version_text, versions_text, writer_text}
use Rattle.object_form.specs.Readings.{after, before, is_dash, is_digit}
use Rattle.col_core.specs.Log.{Log}
use Rattle.col_core.specs.Keeping.{Kept}
use Rattle.script_text.specs.declared.script.Kind.{Kind}
use Rattle.script_text.specs.declared.commands.What.{What}
use Rattle.script_text.specs.declared.commands.What.TheVariants as whats
use Rattle.report_text.specs.declared.report.Answer.{Answer}
use Rattle.report_text.specs.declared.report.Answer.TheVariants as answers
use Rattle.report_text.specs.declared.report.Ended.{Ended}
use Rattle.report_text.specs.declared.report.Ended.TheVariants as ends
use Rattle.report_text.specs.declared.report.KeyAnswer.{KeyAnswer}
use Rattle.report_text.specs.declared.report.Report.{Report}
use Rattle.lawful_run.specs.Callers.{Caller}
use Rattle.lawful_run.specs.Deeds.{IsText, Saying, saying_of}
use Rattle.run_rules.specs.Nodes.{any_decision, node_told}
use Rattle.run_rules.specs.Said.{CouldSay, shown_text}
use Rattle.walk_law.specs.Asking.{keys_shown}

-- WHAT STANDS BEHIND A FRONT

-- the bytes begin with the front, and this stands behind it; or they do not begin with it
abbrev pub IsBehind : List ℕ → List ℕ → Option (List ℕ) → Type 0
IsBehind front bytes None = (rest : List ℕ) → bytes ≡ front ++ rest → ⊥
IsBehind front bytes (Some rest) = bytes ≡ front ++ rest

-- bytes that begin with one of such fronts, behind which this stands, and behind each such front with which they begin
pub record HaveBehind (IsFront : List ℕ → Type 0) (bytes rest : List ℕ) : Type 0 where
  pub front : List ℕ
  pub such : IsFront front
  pub is : bytes ≡ front ++ rest
  pub only : (other left : List ℕ) → IsFront other → bytes ≡ other ++ left → left ≡ rest

-- they do, or they begin with no such front
abbrev pub IsBehindOne : (List ℕ → Type 0) → List ℕ → Option (List ℕ) → Type 0
IsBehindOne IsFront bytes None = (front rest : List ℕ) → IsFront front → bytes ≡ front ++ rest → ⊥
IsBehindOne IsFront bytes (Some rest) = HaveBehind IsFront bytes rest

-- NUMBERS, WRITERS AND VERSIONS

-- These are what is written of some number: all its digits, or the last 64 where it has more (`decimal`).
abbrev pub is_numeral : List ℕ → Bool
is_numeral [] = false
is_numeral (b ∷ bs) =
    list_all is_digit (b ∷ bs) && ((length bs == 63) || (nat_lt (length bs) 63 && (nat_le 49 b || (length bs == 0))))

-- STAMP.CLIENT.COUNT, whatever the numbers
abbrev pub names_key : List ℕ → Bool
names_key bytes =
    is_numeral (before dot bytes) && is_numeral (before dot (after dot bytes)) && is_numeral (after dot (after dot bytes))

-- a dash, or such a key
abbrev pub names_writer : List ℕ → Bool
names_writer bytes = is_dash bytes || names_key bytes

-- a sign that stands in no writer
pub record IsApart (sign : ℕ) : Type 0 where
  pub digits : is_digit sign ≡ false
  pub dots : (dot == sign) ≡ false
  pub dashes : (dash == sign) ≡ false

-- some writer with a sign behind it
abbrev pub IsWriterThen : ℕ → List ℕ → Type 0
IsWriterThen sign front = (writer : Option Key) × (front ≡ writer_text writer ++ sign ∷ [])

-- some version of a key with a sign behind it
abbrev pub IsVersionThen : List ℕ → ℕ → List ℕ → Type 0
IsVersionThen key sign front =
    (writer : Option Key) × (front ≡ version_text (record { key = key; writer = writer }) ++ sign ∷ [])

-- the versions are of these keys, in their order
abbrev pub AreOfKeys : List (List ℕ) → List Version → Type 0
AreOfKeys keys versions = map (λ (v : Version). v.key) versions ≡ keys

-- some versions of these keys, with a bar behind them
abbrev pub AreVersionsThen : List (List ℕ) → List ℕ → Type 0
AreVersionsThen keys front =
    (versions : List Version) × AreOfKeys keys versions × (front ≡ versions_text versions ++ bar ∷ [])

-- the text of a transaction with these pairs, on some versions of these keys
abbrev pub IsTransactionOn : List (List ℕ) → List Pair → List ℕ → Type 0
IsTransactionOn keys pairs text =
    (versions : List Version) × AreOfKeys keys versions × (text ≡ form_text (forms.Transaction versions pairs))

-- DECISIONS

-- one of the two outcomes
abbrev pub is_outcome : List ℕ → Bool
is_outcome bytes = bytes_eq bytes (codes "1") || bytes_eq bytes (codes "0")

-- a key and an outcome
abbrev pub says_after : List ℕ → Bool
says_after bytes = names_key (before equals bytes) && is_outcome (after equals bytes)

-- they stand behind `z:`
abbrev pub says_decision : List ℕ → Bool
says_decision [] = false
says_decision (letter ∷ []) = false
says_decision (letter ∷ sign ∷ bytes) =
    if letter == 122 then (if sign == 58 then says_after bytes else false) else false

-- COMMANDS

-- what is said, if a node is said at all, can be this text
abbrev pub SaysIfAny : Option Saying → List ℕ → Type 0
SaysIfAny None text = Unit {0}
SaysIfAny (Some saying) text = IsText saying.text text

-- a commit can say it, by the keys that its read showed
abbrev pub CommitsAs : Option (List KeyAnswer) → List Pair → List ℕ → Type 0
CommitsAs None pairs text = Unit {0}
CommitsAs (Some shown) pairs text = IsTransactionOn (keys_shown shown) pairs text

-- The command on an object of a kind, if it appends a node, can have it say this, where the read that it uses up showed these
-- keys.
abbrev pub CanSay : Option Kind → Option (List KeyAnswer) → What → List ℕ → Type 0
CanSay kind found (whats.Commit object pairs) text = CommitsAs found pairs text
CanSay kind found what text = SaysIfAny (saying_of kind None what) text

-- a decision's node stands
abbrev pub stands : Ended → Bool
stands (ends.Stood stamp point) = true
stands _ = false

-- an answer tells a node of its command, by whether the command appends on several colours
abbrev pub tells_node : Bool → Answer → Bool
tells_node several (answers.Stood stamp row points) = true
tells_node several (answers.StampEnd colour) = several
tells_node several (answers.Stopped steps) = not (steps == 0)
tells_node several (answers.Ruled conflict stamp row points read_stamp raises syncs) = true
tells_node several (answers.Changed failed stamp row points read_stamp raises syncs) = true
tells_node several (answers.Took value point sync) = true
tells_node several (answers.Decided commits stamp sync read_stamp raises syncs ended) = stands ended
tells_node several _ = false

-- what is shown of the node that is told of an answer, if one is, could be said by its command
abbrev pub ShowsSayable : Report → Log → Caller → Kept → What → Answer → Type 0
ShowsSayable report log caller kept what answer =
    All (λ (node : Node). (text : List ℕ) → shown_text report node.id ≡ Some text → CouldSay caller kept what text)
    (node_told any_decision log caller kept what answer)
