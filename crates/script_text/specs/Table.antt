-- The table of commands: which fields stand after a word, and what is given with them.
use Rattle.std.specs.Prelude.{ℕ, Bool, ◌==◌, nat_le, ◌&&◌, List, [], ◌∷◌, length, take, drop, Option, Some, None}
use Rattle.std.specs.List.{find}
use Rattle.std.specs.Str.{bytes_eq}
use Rattle.script_text.specs.declared.commands.Word.{Word}
use Rattle.script_text.specs.declared.script.Kind.{Kind}
use Rattle.script_text.specs.declared.script.Kind.TheVariants as kinds
use Rattle.script_text.specs.declared.table.Field.{Field}
use Rattle.script_text.specs.declared.table.Field.TheVariants as fields
use Rattle.script_text.specs.declared.table.Kinds.{Kinds}
use Rattle.script_text.specs.declared.table.Last.{Last}
use Rattle.script_text.specs.declared.commands.TheConstants.{WORDS}
use Rattle.script_text.specs.declared.table.TheConstants.{MAP_LINE, TX_LINE, CAUSAL_LINE, QUEUE_LINE, TREE_LINE, PARTS_LINE, SORTS}
use Rattle.script_text.specs.declared.table.Sort.{Sort}
use Rattle.script_text.specs.declared.table.Sort.TheVariants as sorts
use Rattle.script_text.specs.declared.given.Given.{Given}
use Rattle.script_text.specs.Commands.{row_of}
use Rattle.script_text.specs.Words.{word_text}

-- the fields behind a word
abbrev pub row_fields : Word → List Field
row_fields word = (row_of word).2.now

-- what is tested after the fields
abbrev pub last_of : Word → Last
last_of word = (row_of word).3

-- the first version that has the word
abbrev pub since_of : Word → ℕ
since_of word = (row_of word).4

-- the version has the word
abbrev pub has_word : ℕ → Word → Bool
has_word version word = nat_le (since_of word) version

-- the command with this word, in this version
abbrev pub word_at : ℕ → List ℕ → Option Word
word_at version field = find (λ word. bytes_eq field (word_text word) && has_word version word) WORDS

-- the kinds of object that have a command
abbrev pub is_of : Kinds → Kind → Bool
is_of of (kinds.Map _ _) = of.map
is_of of (kinds.Tx _ _) = of.tx
is_of of (kinds.Causal _) = of.causal
is_of of (kinds.Queue _ _) = of.queue
is_of of (kinds.Tree _ _) = of.tree
is_of of (kinds.Parts _ _) = of.parts

-- how many last fields a kind of field may take, or nothing where it is one field
abbrev pub at_most : Field → Option ℕ
at_most fields.Steps = None
at_most fields.Cols = None
at_most fields.Colour = None
at_most fields.Region = None
at_most fields.Text = None
at_most (fields.Object _) = None
at_most fields.Key = None
at_most fields.Value = None
at_most (fields.Path _) = None
at_most fields.Target = None
at_most (fields.Keys most) = Some most
at_most (fields.Pairs most) = Some most
at_most fields.ObjectColour = None
at_most (fields.ObjectColours most _) = Some most

-- the fields that one kind takes: one, or all that are left
abbrev pub own_in : Option ℕ → List (List ℕ) → List (List ℕ)
own_in None args = take 1 args
own_in (Some most) args = args

-- the fields that it leaves
abbrev pub later_in : Option ℕ → List (List ℕ) → List (List ℕ)
later_in None args = drop 1 args
later_in (Some most) args = []

-- so many fields are as many as it may take
abbrev pub has_in : Option ℕ → ℕ → Bool
has_in None n = nat_le 1 n
has_in (Some most) n = nat_le 1 n && nat_le n most

-- of the fields that are left, those that it takes, and those after them
abbrev pub own_fields : Field → List (List ℕ) → List (List ℕ)
own_fields field args = own_in (at_most field) args

-- of the fields that are left, those after the ones that it takes
abbrev pub later_fields : Field → List (List ℕ) → List (List ℕ)
later_fields field args = later_in (at_most field) args

-- it takes as many as may be
abbrev pub has : Field → List (List ℕ) → Bool
has field own = has_in (at_most field) (length own)

-- the number of fields is lawful
abbrev pub fits : List Field → List (List ℕ) → Bool
fits [] args = length args == 0
fits (field ∷ fields) args = has field (own_fields field args) && fits fields (later_fields field args)

-- ---- what is given

-- before the first field
abbrev pub nothing : Given
nothing = record {
  number = 0;
  colours = record { 0 = 0 };
  count = 0;
  colour = 0;
  region = 0;
  object = 0;
  text = [];
  key = [];
  value = [];
  path = [];
  target = [];
  keys = [];
  pairs = [];
  order = [];
}

-- ---- the lines of objects

-- the word of an object's line, the fields after the object's name, and the first version that has the line
abbrev pub SortRow : Type 0
SortRow = (record { now : List ℕ }) × (record { now : List Field }) × ℕ

-- the row of each sort of object
abbrev pub sort_row : Sort → SortRow
sort_row sorts.Map = MAP_LINE
sort_row sorts.Tx = TX_LINE
sort_row sorts.Causal = CAUSAL_LINE
sort_row sorts.Queue = QUEUE_LINE
sort_row sorts.Tree = TREE_LINE
sort_row sorts.Parts = PARTS_LINE

-- the word of an object's line
abbrev pub sort_text : Sort → List ℕ
sort_text sort = (sort_row sort).0.now

-- the fields after the object's name
abbrev pub sort_fields : Sort → List Field
sort_fields sort = (sort_row sort).1.now

-- the first version that has the line
abbrev pub sort_since : Sort → ℕ
sort_since sort = (sort_row sort).2

-- the version has the line
abbrev pub has_sort : ℕ → Sort → Bool
has_sort version sort = nat_le (sort_since sort) version

-- what a line with this word declares, in this version
abbrev pub sort_at : ℕ → List ℕ → Option Sort
sort_at version word = find (λ sort. bytes_eq word (sort_text sort) && has_sort version sort) SORTS

-- the sort of an object
abbrev pub sort_of : Kind → Sort
sort_of (kinds.Map _ _) = sorts.Map
sort_of (kinds.Tx _ _) = sorts.Tx
sort_of (kinds.Causal _) = sorts.Causal
sort_of (kinds.Queue _ _) = sorts.Queue
sort_of (kinds.Tree _ _) = sorts.Tree
sort_of (kinds.Parts _ _) = sorts.Parts

-- what an object is, by what its fields give
abbrev pub kind_of : Sort → Given → Kind
kind_of sorts.Map g = kinds.Map g.region g.order
kind_of sorts.Tx g = kinds.Tx g.region g.order
kind_of sorts.Causal g = kinds.Causal g.colour
kind_of sorts.Queue g = kinds.Queue g.region g.colour
kind_of sorts.Tree g = kinds.Tree g.region g.order
kind_of sorts.Parts g = kinds.Parts g.region g.order
