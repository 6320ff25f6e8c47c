-- The reads that commits may use up, as a list.
use Rattle.std.specs.Prelude.{Bool, ℕ, ◌==◌, not, ◌&&◌, List, [], ◌∷◌, ◌++◌, if◌then◌else◌}
use Rattle.std.specs.List.{list_any, filter, fold}
use Rattle.script_text.specs.declared.commands.What.{What}
use Rattle.script_text.specs.declared.script.Command.{Command}
use Rattle.script_text.specs.declared.reads.HeldRead.{HeldRead}
use Rattle.script_text.specs.declared.uses.ReadUse.TheVariants.{Takes, UsesUp}
use Rattle.script_text.specs.declared.uses.Use.{Use}
use Rattle.script_text.specs.declared.uses.Use.TheVariants.{OfObject}
use Rattle.script_text.specs.Commands.{use_of}

-- reads of one client and one object
abbrev pub same_read : HeldRead → HeldRead → Bool
same_read a b = (a.client == b.client) && (a.object == b.object)

-- the read is one of these
abbrev pub holds : List HeldRead → HeldRead → Bool
holds reads read = list_any (same_read read) reads

-- one read more, unless it is there
abbrev pub with_read : List HeldRead → HeldRead → List HeldRead
with_read reads read = if holds reads read then reads else reads ++ read ∷ []

-- the reads without this one
abbrev pub without_read : List HeldRead → HeldRead → List HeldRead
without_read reads read = filter (λ other. not (same_read other read)) reads

-- the reads after a command of the client
abbrev pub reads_by : List HeldRead → ℕ → Use → List HeldRead
reads_by reads client (OfObject object Takes) = with_read reads (record { client = client; object = object })
reads_by reads client (OfObject object UsesUp) = without_read reads (record { client = client; object = object })
reads_by reads client _ = reads

-- the same, by what the command does with reads
abbrev pub reads_after : List HeldRead → ℕ → What → List HeldRead
reads_after reads client what = reads_by reads client (use_of what)

-- the reads after some commands
abbrev pub held_after : List HeldRead → List Command → List HeldRead
held_after reads commands = fold (λ held c. reads_after held c.client c.what) reads commands
