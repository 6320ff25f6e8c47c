-- What a command says, as a drawing has it. Each field has a space before it; those at an end of a line are not seen.
use Rattle.std.specs.Prelude.{Bool, true, false, ℕ, List, [], ◌∷◌, ◌++◌, Option, Some, None, slice_get, decimal, codes}
use Rattle.std.specs.List.{flat_map}
use Rattle.log_node.specs.declared.ids.Colours.{Colours}
use Rattle.log_node.specs.declared.forms.Pair.{Pair}
use Rattle.log_node.specs.Sets.{members}
use Rattle.object_form.specs.declared.tree_why.TreeWhy.{TreeWhy}
use Rattle.object_form.specs.Reasons.{why_text}
use Rattle.script_text.specs.declared.commands.What.{What}
use Rattle.script_text.specs.declared.commands.What.TheVariants as whats
use Rattle.script_text.specs.declared.script.Object.{Object}
use Rattle.script_text.specs.declared.script.Script.{Script}
use Rattle.script_text.specs.declared.uses.Use.{Use}
use Rattle.script_text.specs.declared.uses.Use.TheVariants.{OfLog, OfObject}
use Rattle.script_text.specs.Contents.{Said, Nothing, SaysText, SaysKey, SaysValue, SaysPair, SaysKeys, SaysPairs, SaysPath, SaysFolder, SaysPathValue, SaysPaths}
use Rattle.script_text.specs.Commands.{content_of, use_of, word_of}
use Rattle.script_text.specs.Words.{word_text}
use Rattle.report_text.specs.declared.report.Answer.{Answer}
use Rattle.report_text.specs.declared.report.Answer.TheVariants.{Stood, StampEnd, Full, Stopped, Synced, Scanned, Pulled, SameRegion, Based, Got, GotMany, GotKeys, Ruled, Changed, Listed, Undecided, Decided, Moved, NoTx, Took, UnreadTrimmed, UnreadNoMemory, Trimmed, NotHome, NoMemory}
use Rattle.run_picture.specs.Pieces.{text_shown, texts_joined}

-- a name, and no bytes where there is none
abbrev pub text_or_none : Option (List ℕ) → List ℕ
text_or_none None = []
text_or_none (Some name) = name

-- the name with this number; nothing where the number names nothing
abbrev pub name_among : List (List ℕ) → ℕ → List ℕ
name_among names number = text_or_none (slice_get names number)

-- the command's word
abbrev pub word_label : What → List ℕ
word_label what = texts_joined (text_shown (word_text (word_of what)) ∷ [])

-- a field
abbrev pub field_label : List ℕ → List ℕ
field_label field = texts_joined (codes " " ∷ text_shown field ∷ [])

-- KEY=VALUE
abbrev pub pair_label : List ℕ → List ℕ → List ℕ
pair_label key value = texts_joined (codes " " ∷ text_shown key ∷ codes "=" ∷ text_shown value ∷ [])

-- a path and another one
abbrev pub paths_label : List ℕ → List ℕ → List ℕ
paths_label source target = texts_joined (codes " " ∷ text_shown source ∷ codes " " ∷ text_shown target ∷ [])

-- pairs, one after another
abbrev pub pairs_label : List Pair → List ℕ
pairs_label pairs = flat_map (λ pair. pair_label pair.key pair.value) pairs

-- the names of colours
abbrev pub colours_label : Script → Colours → List ℕ
colours_label script colours = flat_map (λ colour. field_label (name_among script.colours colour)) (members colours)

-- the name of an object; an empty field where there is none
abbrev pub name_of_object : Option Object → List ℕ
name_of_object None = field_label []
name_of_object (Some object) = field_label object.name

-- the name of an object
abbrev pub object_label : Script → ℕ → List ℕ
object_label script object = name_of_object (slice_get script.objects object)

-- a region and a colour
abbrev pub source_label : Script → ℕ → ℕ → List ℕ
source_label script region colour =
    texts_joined (codes " " ∷ text_shown (name_among script.regions region)
    ∷ codes " " ∷ text_shown (name_among script.colours colour) ∷ [])

-- a command of no object
abbrev pub IsOfLog : Use → Type 0
IsOfLog (OfLog stops) = Unit {0}
IsOfLog (OfObject object read) = ⊥

-- what a command of the log is about: its colours, or a region and a colour
abbrev pub named_label : Script → What → List ℕ
named_label script (whats.Append colours _) = colours_label script colours
named_label script (whats.Stop _ colours _) = colours_label script colours
named_label script (whats.Scan colours) = colours_label script colours
named_label script (whats.Sync colour) = field_label (name_among script.colours colour)
named_label script (whats.Trim colour) = field_label (name_among script.colours colour)
named_label script (whats.Only colour _) = field_label (name_among script.colours colour)
named_label script (whats.Pull region colour) = source_label script region colour
named_label script _ = []

-- what a command is about, by what it is of
abbrev pub used_label : Script → What → Use → List ℕ
used_label script what (OfLog stops) = named_label script what
used_label script what (OfObject object read) = object_label script object

-- what a command is about: its colours, a region and a colour, or an object
abbrev pub subject_label : Script → What → List ℕ
subject_label script what = used_label script what (use_of what)

-- its word, and what it is about
abbrev pub heading_label : Script → What → List ℕ
heading_label script what = word_label what ++ subject_label script what

-- the fields after these: a text, keys, a value
abbrev pub fields_label : Said → List ℕ
fields_label Nothing = []
fields_label (SaysText text) = field_label text
fields_label (SaysKey key) = field_label key
fields_label (SaysValue value) = field_label value
fields_label (SaysPair key value) = pair_label key value
fields_label (SaysKeys keys) = flat_map field_label keys
fields_label (SaysPairs pairs) = pairs_label pairs
fields_label (SaysPath path) = field_label path
fields_label (SaysFolder path) = field_label path
fields_label (SaysPathValue path value) = pair_label path value
fields_label (SaysPaths source target) = paths_label source target

-- those of a command
abbrev pub content_label : What → List ℕ
content_label what = fields_label (content_of what)

-- a command without what it is about
abbrev pub short_label : What → List ℕ
short_label what = word_label what ++ content_label what

-- what a command with these fields says: one with a text that alone, and any other its word and the fields
abbrev pub saying_by : What → Said → List ℕ
saying_by what (SaysText text) = field_label text
saying_by what _ = short_label what

-- what a command says
abbrev pub saying_label : What → List ℕ
saying_label what = saying_by what (content_of what)

-- a command whose object could not be read
abbrev pub unread_label : What → List ℕ
unread_label what = texts_joined (text_shown (word_text (word_of what)) ∷ codes ": unread" ∷ [])

-- a command whose change failed for this reason
abbrev pub failed_label : What → TreeWhy → List ℕ
failed_label what why = texts_joined (text_shown (word_text (word_of what)) ∷ codes ": " ∷ text_shown (why_text why) ∷ [])

-- what a decision says of the transaction under this stamp
abbrev pub decides_label : Bool → ℕ → List ℕ
decides_label true stamp = texts_joined (codes "decide: committed " ∷ decimal stamp ∷ [])
decides_label false stamp = texts_joined (codes "decide: conflict " ∷ decimal stamp ∷ [])

-- What the node says that a command made: what the command says, or what was answered to a `deq`, to a `decide`, to a
-- `commit` in a conflict, to a change of a tree that failed, and to one of these that could not read its object.
abbrev pub node_label : What → Answer → List ℕ
node_label what (Took (Some value) _ _) = texts_joined (codes "deq: " ∷ text_shown value ∷ [])
node_label what (Took None _ _) = texts_joined (codes "deq: none" ∷ [])
node_label what (Ruled (Some key) _ _ _ _ _ _) = texts_joined (codes "commit: conflict " ∷ text_shown key ∷ [])
node_label what (Ruled None _ _ _ _ _ _) = saying_label what
node_label what (Changed (Some why) _ _ _ _ _ _) = failed_label what why
node_label what (Changed None _ _ _ _ _ _) = saying_label what
node_label what (Listed _ _ _ _) = saying_label what
node_label what (Undecided _ _) = saying_label what
node_label what (Decided commits stamp _ _ _ _ _) = decides_label commits stamp
node_label what (Moved _ _ _ _) = saying_label what
node_label what (UnreadTrimmed _ _ _) = unread_label what
node_label what (UnreadNoMemory _) = unread_label what
node_label what (Stood _ _ _) = saying_label what
node_label what (StampEnd _) = saying_label what
node_label what (Full _) = saying_label what
node_label what (Stopped _) = saying_label what
node_label what (Synced _ _) = saying_label what
node_label what (Scanned _ _ _ _) = saying_label what
node_label what (Pulled _ _ _) = saying_label what
node_label what SameRegion = saying_label what
node_label what (Based _ _) = saying_label what
node_label what (Got _ _) = saying_label what
node_label what (GotMany _ _) = saying_label what
node_label what (GotKeys _ _ _ _) = saying_label what
node_label what NoTx = saying_label what
node_label what (Trimmed _ _) = saying_label what
node_label what (NotHome _) = saying_label what
node_label what NoMemory = saying_label what
