use Rattle.std.proofs.Common.{Global, ◌∙◌, rules, string_bytes, sym, tests}
use Rattle.std.proofs.lemmas.Iterator.{YieldsList-from_slice}
use Rattle.std.proofs.lemmas.Iterator.Search.{all_from_yields_List}
use Rattle.std.proofs.lemmas.List.Folds.{list_all-map}
use Rattle.std.specs.declared.string.String.{String}
use Rattle.command_words.specs.Parting.{is_plain_word}
use Rattle.command_words.proofs.words.are_plain.Goals as goal

pub returns : goal.returns
returns c =
    all_from_yields_List (λ (s : String Global). is_plain_word (string_bytes s)) _ _ _ c.all.ensures.ran
    (YieldsList-from_slice c.args.words.now cc) (λ x b q k. search (rules, tests))
    ∙ sym (list_all-map is_plain_word string_bytes c.args.words.now)
