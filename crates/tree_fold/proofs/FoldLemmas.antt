-- One more change, and one more node.
use Rattle.std.proofs.Common.{◌≡◌, ℕ, List, [], ◌∷◌, ◌++◌, Option, Some, None, Result, Ok, Err, refl, ap, sym, subst, ◌∙◌}
use Rattle.std.specs.Prelude.{IfOk, OnOk}
use Rattle.std.specs.declared.alloc.AllocError.{AllocError}
use Rattle.std.proofs.lemmas.List.Sums.{fold_push}
use Rattle.std.specs.Map.{values_of}
use Rattle.tree_fold.specs.declared.entries.Entry.{Entry}
use Rattle.tree_fold.specs.declared.places.Place.{Place}
use Rattle.log_node.specs.declared.ids.Key.{Key}
use Rattle.object_fold.specs.Nodes.{ObjectNode}
use Rattle.tree_fold.specs.declared.change.Change.{Change}
use Rattle.object_form.specs.declared.tree_why.TreeWhy.{TreeWhy}
use Rattle.tree_fold.specs.declared.told.Told.{Told}
use Rattle.tree_fold.specs.Readings.{change_of}
use Rattle.tree_fold.specs.Trees.{Tree, why, changed, tree_by, tree_with, tree_after, told_under, told_of_change, telling}
use Rattle.tree_fold.specs.TreeStates.{SameTree}
use Rattle.tree_fold.specs.Places.{AreTreeEntries, MakesChange}
use Rattle.tree_fold.proofs.TreeLemmas.{why_same}
use Rattle.tree_fold.proofs.ClosedLemmas.{changed_same}

-- what a change does of entries, for a tree with the same values
pub does_same : (old new : List (Place × Entry)) (tree : Tree) (change : Change) → AreTreeEntries old → why (values_of old) change ≡ None → MakesChange old new change → SameTree (values_of old) tree
    → SameTree (values_of new) (changed tree change)
does_same old new tree change kept done did same = λ q. did.values q ∙ changed_same (values_of old) tree same kept.closed change done q

pub does_ok : {A E : Type 0} (old new : List (Place × Entry)) (tree : Tree) (change : Change) (r : Result A E) → AreTreeEntries old → why (values_of old) change ≡ None → OnOk r (MakesChange old new change)
    → SameTree (values_of old) tree → OnOk r (SameTree (values_of new) (changed tree change))
does_ok old new tree change (Ok a) kept done did same = does_same old new tree change kept done did same
does_ok old new tree change (Err e) kept done did same = tt

with_why : (es tree : Tree) (change : Change) (o : Option TreeWhy) → SameTree es tree → why es change ≡ o → tree_with tree (Some change) ≡ tree_by tree change o
with_why es tree change o same e = ap (tree_by tree change) (sym (why_same es tree same change) ∙ e)

pub fails : (es tree : Tree) (change : Change) (reason : TreeWhy) → why es change ≡ Some reason → SameTree es tree → SameTree es (tree_with tree (Some change))
fails es tree change reason e same = rw (with_why es tree change (Some reason) same e) same

pub done : (es new tree : Tree) (change : Change) → why es change ≡ None → SameTree es tree → SameTree new (changed tree change) → SameTree new (tree_with tree (Some change))
done es new tree change e same did = rw (with_why es tree change None same e) did

-- what is told of a change over the nodes
pub told_same : (es : Tree) (stamp : ℕ) (nodes : List ObjectNode) (change : Change) (o : Option Change) (told : Told)
    → SameTree es (tree_after nodes) → Some change ≡ o → told ≡ told_under stamp (why es change) → Some told ≡ told_of_change stamp (tree_after nodes) o
told_same es stamp nodes change o told same e h =
    ap (λ (t : Told). Some t) (h ∙ ap (told_under stamp) (why_same es (tree_after nodes) same change)) ∙ ap (told_of_change stamp (tree_after nodes)) e

-- the tree after one more node
pub one_more : (nodes : List ObjectNode) (node : ObjectNode) → tree_after (nodes ++ node ∷ []) ≡ tree_with (tree_after nodes) (change_of node.text)
one_more nodes node = fold_push (λ (tree : Tree) (n : ObjectNode). tree_with tree (change_of n.text)) [] nodes node

-- what is told over trees with the same values
pub told_of_same : (a b : Tree) → SameTree a b → (stamp : ℕ) (o : Option Change) → told_of_change stamp a o ≡ told_of_change stamp b o
told_of_same a b same stamp None = refl
told_of_same a b same stamp (Some change) = ap (λ (w : Option TreeWhy). Some (told_under stamp w)) (why_same a b same change)

-- what a node is told when it is fed
pub tells_change : (nodes : List ObjectNode) (node : ObjectNode) (key : Key) (text : List ℕ)
    (r : Result (Option Told) AllocError) → node.key ≡ key → node.text ≡ text
    → IfOk r (λ told. told ≡ told_of_change key.stamp (tree_after nodes) (change_of text))
    → IfOk r (λ told. told ≡ telling nodes node)
tells_change nodes node key text r its_key its_text told =
    subst (λ (t : List ℕ). IfOk r (λ v. v ≡ told_of_change node.key.stamp (tree_after nodes) (change_of t))) (sym its_text)
    (subst (λ (k : Key). IfOk r (λ v. v ≡ told_of_change k.stamp (tree_after nodes) (change_of text))) (sym its_key) told)
