use Rattle.std.proofs.Common.{◌≡◌, ◌∙◌, List, ℕ, Option, ap, sym}
use Rattle.std.proofs.lemmas.Result.{IfOk-weaker}
use Rattle.tree_fold.specs.Trees.{tree_after, IsNamesAnswer}
use Rattle.tree_fold.proofs.CallerLemmas.{answer_is}
use Rattle.script_meaning.specs.Trees.{names_in}
use Rattle.script_in_order.proofs.tree_answers.names_in.Goals as goal

pub returns-in-None : goal.returns-in-None
returns-in-None c = λ nodes is. ap (names_in (tree_after nodes)) (sym c.in-None.is)

pub returns-in-Some : goal.returns-in-Some
returns-in-Some c = λ nodes is.
    IfOk-weaker c.names.result (IsNamesAnswer (tree_after nodes) c.in-Some.path)
    (λ (names : Option (List (List ℕ))). names ≡ names_in (tree_after nodes) c.args.path.now)
    (λ names answers. answer_is (tree_after nodes) c.in-Some.path names answers
    ∙ ap (names_in (tree_after nodes)) (sym c.in-Some.is)) (c.names.ensures nodes is)
