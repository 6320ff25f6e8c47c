-- The commands: for each a row in each of these definitions.
use Rattle.std.specs.Prelude.{ℕ, true, false, List}
use Rattle.script_text.specs.declared.commands.What.{What}
use Rattle.script_text.specs.declared.commands.What.TheVariants as whats
use Rattle.script_text.specs.declared.commands.Word.{Word}
use Rattle.script_text.specs.declared.commands.Word.TheVariants as words
use Rattle.script_text.specs.declared.commands.TheConstants.{APPEND, STOP, SYNC, SCAN, PULL, TRIM, PUT, GET, DEL, PUTALL, GETALL, READ, COMMIT, ENQ, DEQ, ONLY, MK, RM, MV, LS, PEEK, DECIDE}
use Rattle.script_text.specs.declared.given.Given.{Given}
use Rattle.script_text.specs.declared.table.Field.{Field}
use Rattle.script_text.specs.declared.table.Last.{Last}
use Rattle.script_text.specs.declared.uses.NodeOf.{NodeOf}
use Rattle.script_text.specs.declared.uses.NodeOf.TheVariants.{NoNode, OneColour, Named, Several}
use Rattle.script_text.specs.declared.uses.ReadUse.TheVariants.{Leaves, Takes, UsesUp}
use Rattle.script_text.specs.declared.uses.Use.{Use}
use Rattle.script_text.specs.declared.uses.Use.TheVariants.{OfLog, OfObject}
use Rattle.script_text.specs.Contents.{Said, Nothing, SaysText, SaysKey, SaysValue, SaysPair, SaysKeys, SaysPairs, SaysPath, SaysFolder, SaysPathValue, SaysPaths}

-- a word, its text, the fields after it, what is tested then, and the first version that has the word
abbrev pub Row : Type 0
Row = Word × (record { now : List ℕ }) × (record { now : List Field }) × Last × ℕ

-- the row of each word
abbrev pub row_of : Word → Row
row_of words.Append = APPEND
row_of words.Stop = STOP
row_of words.Sync = SYNC
row_of words.Scan = SCAN
row_of words.Pull = PULL
row_of words.Trim = TRIM
row_of words.Put = PUT
row_of words.Get = GET
row_of words.Del = DEL
row_of words.PutAll = PUTALL
row_of words.GetAll = GETALL
row_of words.Read = READ
row_of words.Commit = COMMIT
row_of words.Enq = ENQ
row_of words.Deq = DEQ
row_of words.Only = ONLY
row_of words.Mk = MK
row_of words.Rm = RM
row_of words.Mv = MV
row_of words.Ls = LS
row_of words.Peek = PEEK
row_of words.Decide = DECIDE

-- the word of what a command asks for
abbrev pub word_of : What → Word
word_of (whats.Append _ _) = words.Append
word_of (whats.Stop _ _ _) = words.Stop
word_of (whats.Sync _) = words.Sync
word_of (whats.Scan _) = words.Scan
word_of (whats.Pull _ _) = words.Pull
word_of (whats.Trim _) = words.Trim
word_of (whats.Put _ _ _) = words.Put
word_of (whats.Get _ _) = words.Get
word_of (whats.Del _ _) = words.Del
word_of (whats.PutAll _ _) = words.PutAll
word_of (whats.GetAll _ _) = words.GetAll
word_of (whats.Read _ _) = words.Read
word_of (whats.Commit _ _) = words.Commit
word_of (whats.Enq _ _) = words.Enq
word_of (whats.Deq _) = words.Deq
word_of (whats.Only _ _) = words.Only
word_of (whats.Mk _ _ _) = words.Mk
word_of (whats.Rm _ _) = words.Rm
word_of (whats.Mv _ _ _) = words.Mv
word_of (whats.Ls _ _) = words.Ls
word_of (whats.Peek _ _) = words.Peek
word_of (whats.Decide _ _) = words.Decide

-- what a command asks for, by what its fields give
abbrev pub what_of : Word → Given → What
what_of words.Append g = whats.Append g.colours g.text
what_of words.Stop g = whats.Stop g.number g.colours g.text
what_of words.Sync g = whats.Sync g.colour
what_of words.Scan g = whats.Scan g.colours
what_of words.Pull g = whats.Pull g.region g.colour
what_of words.Trim g = whats.Trim g.colour
what_of words.Put g = whats.Put g.object g.key g.value
what_of words.Get g = whats.Get g.object g.key
what_of words.Del g = whats.Del g.object g.key
what_of words.PutAll g = whats.PutAll g.object g.pairs
what_of words.GetAll g = whats.GetAll g.object g.keys
what_of words.Read g = whats.Read g.object g.keys
what_of words.Commit g = whats.Commit g.object g.pairs
what_of words.Enq g = whats.Enq g.object g.value
what_of words.Deq g = whats.Deq g.object
what_of words.Only g = whats.Only g.colour g.text
what_of words.Mk g = whats.Mk g.object g.path g.value
what_of words.Rm g = whats.Rm g.object g.path
what_of words.Mv g = whats.Mv g.object g.path g.target
what_of words.Ls g = whats.Ls g.object g.path
what_of words.Peek g = whats.Peek g.object g.key
what_of words.Decide g = whats.Decide g.object g.key

-- what it has to do with an object, and with the reads that commits may use up
abbrev pub use_of : What → Use
use_of (whats.Append colours text) = OfLog false
use_of (whats.Stop steps colours text) = OfLog true
use_of (whats.Sync colour) = OfLog false
use_of (whats.Scan colours) = OfLog false
use_of (whats.Pull region colour) = OfLog false
use_of (whats.Trim colour) = OfLog false
use_of (whats.Put object key value) = OfObject object Leaves
use_of (whats.Get object key) = OfObject object Leaves
use_of (whats.Del object key) = OfObject object Leaves
use_of (whats.PutAll object pairs) = OfObject object Leaves
use_of (whats.GetAll object keys) = OfObject object Leaves
use_of (whats.Read object keys) = OfObject object Takes
use_of (whats.Commit object pairs) = OfObject object UsesUp
use_of (whats.Enq object value) = OfObject object Leaves
use_of (whats.Deq object) = OfObject object Leaves
use_of (whats.Only colour text) = OfLog false
use_of (whats.Mk object path value) = OfObject object Leaves
use_of (whats.Rm object path) = OfObject object Leaves
use_of (whats.Mv object source target) = OfObject object Leaves
use_of (whats.Ls object path) = OfObject object Leaves
use_of (whats.Peek object key) = OfObject object Leaves
use_of (whats.Decide object key) = OfObject object Leaves

-- which node it appends
abbrev pub node_of : What → NodeOf
node_of (whats.Append colours text) = Named colours
node_of (whats.Stop steps colours text) = Several
node_of (whats.Sync colour) = NoNode
node_of (whats.Scan colours) = NoNode
node_of (whats.Pull region colour) = NoNode
node_of (whats.Trim colour) = NoNode
node_of (whats.Put object key value) = OneColour
node_of (whats.Get object key) = NoNode
node_of (whats.Del object key) = OneColour
node_of (whats.PutAll object pairs) = Several
node_of (whats.GetAll object keys) = NoNode
node_of (whats.Read object keys) = NoNode
node_of (whats.Commit object pairs) = Several
node_of (whats.Enq object value) = Several
node_of (whats.Deq object) = Several
node_of (whats.Only colour text) = OneColour
node_of (whats.Mk object path value) = OneColour
node_of (whats.Rm object path) = OneColour
node_of (whats.Mv object source target) = Several
node_of (whats.Ls object path) = NoNode
node_of (whats.Peek object key) = NoNode
node_of (whats.Decide object key) = OneColour

-- what it says, beside what it is about
abbrev pub content_of : What → Said
content_of (whats.Append colours text) = SaysText text
content_of (whats.Stop steps colours text) = SaysText text
content_of (whats.Sync colour) = Nothing
content_of (whats.Scan colours) = Nothing
content_of (whats.Pull region colour) = Nothing
content_of (whats.Trim colour) = Nothing
content_of (whats.Put object key value) = SaysPair key value
content_of (whats.Get object key) = SaysKey key
content_of (whats.Del object key) = SaysKey key
content_of (whats.PutAll object pairs) = SaysPairs pairs
content_of (whats.GetAll object keys) = SaysKeys keys
content_of (whats.Read object keys) = SaysKeys keys
content_of (whats.Commit object pairs) = SaysPairs pairs
content_of (whats.Enq object value) = SaysValue value
content_of (whats.Deq object) = Nothing
content_of (whats.Only colour text) = SaysText text
content_of (whats.Mk object path value) = SaysPathValue path value
content_of (whats.Rm object path) = SaysPath path
content_of (whats.Mv object source target) = SaysPaths source target
content_of (whats.Ls object path) = SaysFolder path
content_of (whats.Peek object key) = SaysKey key
content_of (whats.Decide object key) = SaysKey key
