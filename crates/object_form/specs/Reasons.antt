-- The words for why a change of a tree fails.
use Rattle.std.specs.Prelude.{ℕ, List, codes}
use Rattle.object_form.specs.declared.tree_why.TreeWhy.{TreeWhy}
use Rattle.object_form.specs.declared.tree_why.TreeWhy.TheVariants as whys

-- the reason as one word
abbrev pub why_text : TreeWhy → List ℕ
why_text whys.Exists = codes "exists"
why_text whys.NoParent = codes "noparent"
why_text whys.Missing = codes "missing"
why_text whys.NotEmpty = codes "notempty"
why_text whys.Inside = codes "inside"
why_text whys.Deep = codes "deep"
