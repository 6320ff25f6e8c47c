-- What a command says, beside what it is about: its colours, a region, or its object.
use Rattle.std.specs.Prelude.{ℕ, List}
use Rattle.log_node.specs.declared.forms.Pair.{Pair}
use Rattle.script_text.specs.declared.uses.Content.{Content}
use Rattle.script_text.specs.declared.uses.Content.TheVariants as contents

-- what it says, as bytes
pub data Said : Type 0 where
  Nothing : Said
  SaysText : (text : List ℕ) → Said
  SaysKey : (key : List ℕ) → Said
  SaysValue : (value : List ℕ) → Said
  SaysPair : (key value : List ℕ) → Said
  SaysKeys : (keys : List (List ℕ)) → Said
  SaysPairs : (pairs : List Pair) → Said
  -- a path below the root
  SaysPath : (path : List ℕ) → Said
  -- a path, which may be the root
  SaysFolder : (path : List ℕ) → Said
  -- a path below the root, and its value
  SaysPathValue : (path value : List ℕ) → Said
  -- two paths below the root
  SaysPaths : (source target : List ℕ) → Said

-- what is lent of a command, as bytes
abbrev pub said_by : Content → Said
said_by contents.Nothing = Nothing
said_by (contents.Text text) = SaysText text.now
said_by (contents.Key key) = SaysKey key.now
said_by (contents.Value value) = SaysValue value.now
said_by (contents.Pair key value) = SaysPair key.now value.now
said_by (contents.Keys keys) = SaysKeys keys.now
said_by (contents.Pairs pairs) = SaysPairs pairs.now
said_by (contents.Path path) = SaysPath path.now
said_by (contents.Folder path) = SaysFolder path.now
said_by (contents.PathValue path value) = SaysPathValue path.now value.now
said_by (contents.Paths source target) = SaysPaths source.now target.now
