-- Reports of commands of a tree that are wrong: the client a of the region e has the tree o on x, whose home is e.
use Rattle.std.specs.Prelude.{ℕ, List, [], ◌∷◌, codes, Option, Some, None}
use Rattle.object_form.specs.declared.tree_why.TreeWhy.{TreeWhy}
use Rattle.object_form.specs.declared.tree_why.TreeWhy.TheVariants.{Exists, NotEmpty}
use Rattle.log_node.specs.declared.node.At.TheVariants.{Look}
use Rattle.script_text.specs.declared.script.Kind.{Kind}
use Rattle.script_text.specs.declared.script.Kind.TheVariants as kinds
use Rattle.script_text.specs.declared.commands.What.TheVariants as whats
use Rattle.script_text.specs.declared.commands.Word.TheVariants as words
use Rattle.report_text.specs.declared.report.Answer.{Answer}
use Rattle.report_text.specs.declared.report.Answer.TheVariants as answers
use Rattle.wrong_reports.specs.Cases.{Case, a, e, x, counts, asks, replies, look, empty, point}
use Rattle.wrong_reports.specs.Guarded.{second}
use Rattle.wrong_reports.specs.Naming.{one_node}
use Rattle.wrong_reports.specs.Objects.{over}
use Rattle.wrong_reports.specs.Reads.{raise}

-- a tree on x
abbrev pub tree : Kind
tree = kinds.Tree e (x ∷ [])

-- a change that fails for this reason
abbrev pub fails : TreeWhy → Answer
fails why = answers.Changed (Some why) 1 None (point x 0 0 ∷ []) 1 (raise x (Look 1) ∷ []) (look x 1 (counts 1 0) ∷ [])

-- tree o e x
-- 7 a mk o /d v
-- 7 mk failed exists 1 x!0@0 at 1 x?1 x?1/1
-- column e x
-- 0 a single a.0 floor 0 wants 0 stamp 1
-- = clock 1 line a.0:1 queue - cut 1 base 0
abbrev pub a_change_told_otherwise : Case
a_change_told_otherwise =
    second (over tree (asks 7 a (whats.Mk 0 (codes "/d") (codes "v")) ∷ []) (replies 7 words.Mk (fails Exists) ∷ [])
    one_node)

-- tree o e x
-- 7 a rm o /d
-- 7 rm failed notempty 1 x!0@0 at 1 x?1 x?1/1
-- column e x as before
abbrev pub a_change_that_fails_for_another_reason : Case
a_change_that_fails_for_another_reason =
    second (over tree (asks 7 a (whats.Rm 0 (codes "/d")) ∷ []) (replies 7 words.Rm (fails NotEmpty) ∷ []) one_node)

-- a list of the names in a path of an empty tree
abbrev pub lists : List ℕ → Option (List (List ℕ)) → Case
lists path names =
    second (over tree (asks 7 a (whats.Ls 0 path) ∷ [])
    (replies 7 words.Ls (answers.Listed names 0 (raise x (Look 0) ∷ []) (look x 0 (counts 0 0) ∷ [])) ∷ []) (empty e x))

-- tree o e x
-- 7 a ls o /
-- 7 ls ok 0 d x?0 x?0/0
abbrev pub a_list_with_a_name_too_many : Case
a_list_with_a_name_too_many = lists (codes "/") (Some (codes "d" ∷ []))

-- 7 ls missing 0 x?0 x?0/0
abbrev pub a_path_that_is_not_missing : Case
a_path_that_is_not_missing = lists (codes "/") None

-- tree o e x
-- 7 a ls o /d
-- 7 ls ok 0 - x?0 x?0/0
abbrev pub a_list_of_another_path : Case
a_list_of_another_path = lists (codes "/d") (Some [])
