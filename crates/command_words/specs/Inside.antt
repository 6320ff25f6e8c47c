-- The command by which the words are read.
use Rattle.std.specs.Prelude.{true, codes}
use Rattle.clap.specs.Simple.{App, new_app, new_rule, on_top, with_rule}
use Rattle.clap.specs.Walk.{Rule}

-- the first word, which is wanted
abbrev pub word_rule : Rule
word_rule = record (new_rule (codes "word")) { required = true }

-- the word after it
abbrev pub number_rule : Rule
number_rule = new_rule (codes "number")

-- a command of these two, whose words are without the program's name
abbrev pub two_words : App
two_words = with_rule
    (with_rule (on_top (λ shape. record shape { no_binary_name = true }) (new_app (codes "fuzzy_run"))) word_rule)
    number_rule
