-- Which answers a word has.
use Rattle.std.specs.Prelude.{Bool, true, ◌&&◌, ◌||◌, not, ℕ, List, [], ◌∷◌, codes}
use Rattle.script_text.specs.declared.commands.Word.{Word}
use Rattle.script_text.specs.Pieces.{is_among}
use Rattle.script_text.specs.Words.{word_text}
use Rattle.report_text.specs.declared.report.Answer.{Answer}
use Rattle.report_text.specs.declared.report.Answer.TheVariants.{Stood, StampEnd, Full, Stopped, Synced, Scanned, Pulled, SameRegion, Based, Got, GotMany, GotKeys, Ruled, Changed, Listed, Undecided, Decided, Moved, NoTx, Took, UnreadTrimmed, UnreadNoMemory, Trimmed, NotHome, NoMemory}

-- the words of commands that append and do no more
abbrev pub appending : List (List ℕ)
appending = codes "append" ∷ codes "only" ∷ codes "put" ∷ codes "del" ∷ codes "putall" ∷ codes "enq" ∷ []

-- the words of changes of a tree
abbrev pub changing : List (List ℕ)
changing = codes "mk" ∷ codes "rm" ∷ codes "mv" ∷ []

-- the words of commands that append a node and then read what becomes of it
abbrev pub ruled : List (List ℕ)
ruled = codes "commit" ∷ codes "deq" ∷ changing

-- the words of commands that read
abbrev pub reading : List (List ℕ)
reading = codes "sync" ∷ codes "scan" ∷ codes "get" ∷ codes "getall" ∷ codes "read" ∷ codes "peek" ∷ codes "decide" ∷ codes "ls" ∷ []

-- the words of commands of the log itself, which name no object
abbrev pub of_log : List (List ℕ)
of_log = codes "append" ∷ codes "only" ∷ codes "stop" ∷ codes "sync" ∷ codes "scan" ∷ codes "pull" ∷ codes "trim" ∷ []

-- the word is one of these
abbrev pub is_of : List (List ℕ) → Word → Bool
is_of names word = is_among names (word_text word)

-- the word is this one
abbrev pub is_word : List ℕ → Word → Bool
is_word name word = is_of (name ∷ []) word

-- The word has such an answer. A get from a causal map tells many values, and any other one value at most.
abbrev pub has_answer : Bool → Word → Answer → Bool
has_answer many word (Stood _ _ _) = is_of appending word
has_answer many word (StampEnd _) = is_of appending word || is_word (codes "stop") word || is_of ruled word
has_answer many word (Full _) = is_of appending word || is_word (codes "stop") word || is_of ruled word
has_answer many word (Stopped _) = is_word (codes "stop") word
has_answer many word (Synced _ _) = is_word (codes "sync") word
has_answer many word (Scanned _ _ _ _) = is_word (codes "scan") word
has_answer many word (Pulled _ _ _) = is_word (codes "pull") word
has_answer many word SameRegion = is_word (codes "pull") word
has_answer many word (Based _ _) = is_word (codes "trim") word
has_answer many word (Got _ _) =
    is_word (codes "get") word && not many || is_of (codes "peek" ∷ codes "decide" ∷ []) word
has_answer many word (GotMany _ _) = is_word (codes "get") word && many
has_answer many word (GotKeys _ _ _ _) = is_of (codes "getall" ∷ codes "read" ∷ []) word
has_answer many word (Ruled _ _ _ _ _ _ _) = is_word (codes "commit") word
has_answer many word (Changed _ _ _ _ _ _ _) = is_of changing word
has_answer many word (Listed _ _ _ _) = is_word (codes "ls") word
has_answer many word (Undecided _ _) = is_word (codes "peek") word
has_answer many word (Decided _ _ _ _ _ _ _) = is_word (codes "decide") word
has_answer many word (Moved _ _ _ _) = is_word (codes "only") word
has_answer many word NoTx = is_word (codes "commit") word
has_answer many word (Took _ _ _) = is_word (codes "deq") word
has_answer many word (UnreadTrimmed _ _ _) = is_of ruled word
has_answer many word (UnreadNoMemory _) = is_of ruled word
has_answer many word (Trimmed _ _) = is_of reading word
has_answer many word (NotHome _) = not (is_of of_log word)
has_answer many word NoMemory = true
