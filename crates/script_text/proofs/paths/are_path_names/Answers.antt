use Rattle.std.proofs.Common.{List, ℕ, ◌∙◌, rules, tests, sym}
use Rattle.std.specs.Borrow.{Bor}
use Rattle.std.proofs.lemmas.Iterator.{YieldsList-from_slice}
use Rattle.std.proofs.lemmas.Iterator.Search.{all_from_yields_List}
use Rattle.std.proofs.lemmas.List.Folds.{list_all-map}
use Rattle.script_text.specs.Pieces.{is_path_name}
use Rattle.script_text.proofs.paths.are_path_names.Goals as goal

pub returns : goal.returns
returns c =
    all_from_yields_List (λ (p : Bor (List ℕ)). is_path_name p.now) _ _ _ c.all.ensures.ran (YieldsList-from_slice c.args.names.now cc) (λ x b q k. search (rules, tests))
    ∙ sym (list_all-map is_path_name (λ (p : Bor (List ℕ)). p.now) c.args.names.now)
