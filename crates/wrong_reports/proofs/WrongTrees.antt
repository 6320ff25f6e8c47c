-- Commands of a tree that are told otherwise.
use Rattle.std.proofs.Common.{◌≡◌, ℕ, true, false, List, [], ◌∷◌, ◌++◌, take, Option, Some, None, refl, ap, sym, subst, ◌∙◌, slice_get, codes}
use Rattle.std.specs.Prelude.{IsTrue}
use Rattle.log_node.specs.declared.ids.Colours.{Colours}
use Rattle.log_node.specs.declared.ids.Key.{Key}
use Rattle.log_node.specs.declared.node.Node.{Node}
use Rattle.object_form.specs.declared.tree_why.TreeWhy.TheVariants.{Exists, Missing, NotEmpty}
use Rattle.object_fold.specs.Folds.{told_of}
use Rattle.object_fold.specs.Nodes.{ObjectNode}
use Rattle.tree_fold.specs.declared.told.Told.{Told}
use Rattle.tree_fold.specs.declared.told.Told.TheVariants.{Done, Failed}
use Rattle.tree_fold.specs.Paths.{Path}
use Rattle.tree_fold.specs.Readings.{path_of}
use Rattle.tree_fold.specs.Trees.{tree_after, telling, is_there, IsNamesAnswer}
use Rattle.col_core.specs.declared.Entry.{Entry}
use Rattle.col_core.specs.History.{line, entry_key}
use Rattle.col_core.specs.RegionOrder.{IsRegionOrder}
use Rattle.col_core.specs.Log.{Log}
use Rattle.col_core.specs.Keeping.{Kept, nothing_kept}
use Rattle.script_text.specs.declared.commands.What.TheVariants as whats
use Rattle.lawful_run.specs.Callers.{Caller, caller_of, node_of}
use Rattle.lawful_run.specs.Appends.{Appends}
use Rattle.lawful_run.specs.Reads.{AreKeysRead}
use Rattle.lawful_run.specs.Objects.{AreObjectNodes}
use Rattle.wrong_reports.specs.Cases.{IsUnlawful, a, x, counts, id, enters, look, point}
use Rattle.wrong_reports.specs.Naming.{one_node}
use Rattle.wrong_reports.specs.Trees.{a_change_told_otherwise, a_change_that_fails_for_another_reason}
use Rattle.wrong_reports.specs.Trees.{a_list_with_a_name_too_many, a_path_that_is_not_missing, a_list_of_another_path}
use Rattle.wrong_reports.proofs.Tools.{only, column_at, some_same}
use Rattle.wrong_reports.proofs.WrongObjects.{no_nodes}
use Rattle.wrong_reports.proofs.WrongVerdict.{the_key, none_read, one_read, one_object, node_is, first_there}

-- CHANGES
abbrev the_caller : Caller
the_caller = caller_of a_change_told_otherwise.script 0

-- what the client's first node is told that stands alone in the column
told_alone : (log : Log) (colours : Colours) (text the : List ℕ) (own : ℕ) (stood : Kept) (keys : List Key)
    (nodes : List ObjectNode) (told : Option Told) → text ≡ the → one_node.journal ≡ log.histories 0 0
    → Appends log the_caller nothing_kept (node_of the_caller nothing_kept colours text) own None (point x 0 0 ∷ []) stood
    → AreKeysRead log the_caller 1 (look x 1 (counts 1 0) ∷ []) keys → AreObjectNodes log keys nodes
    → told_of telling nodes (entry_key own (id a 0)) ≡ told
    → (set : Colours) × (told_of telling (record { key = the_key; colours = set; text = the } ∷ []) the_key ≡ told)
told_alone log colours text the own stood keys nodes told says h appends order are tells =
    let place : appends.1 ≡ 0 = (let at = appends.2 in cc (at)) in
    let entered = first_there _ _ _ place appends.3.entered in
    let same = some_same (enters a (id a 0) 0 1) _ (ap (λ (es : List Entry). slice_get es 0) h ∙ entered) in
    let stamp : 1 ≡ own = ap (λ (en : Entry). en.stamp) same in
    let read = one_read keys (subst (λ (es : List Entry). IsRegionOrder (line (take 1 es) ∷ []) 1 keys) (sym h) order) in
    let one = one_object log keys nodes read are in
    let node = some_same _ _ (sym appends.3.next ∙ one.1.there) in
    let text_is : one.0.text ≡ the = one.1.text ∙ ap (λ (n : Node). n.text) (sym node) ∙ says in
    let is = node_is one.0 the_key the one.1.key_is text_is in
    let its_key : entry_key own (id a 0) ≡ the_key = ap (λ s. entry_key s (id a 0)) (sym stamp) in (
      one.0.colours,
      ap (λ n. told_of telling (n ∷ []) the_key) (sym is)
          ∙ ap (λ ns. told_of telling ns the_key) (sym one.2) ∙ ap (λ k. told_of telling nodes k) (sym its_key) ∙ tells,
    )

-- with nothing before it a make is done
done : (c : Colours)
    → told_of telling (record { key = the_key; colours = c; text = codes "k:/d=v" } ∷ []) the_key ≡ Some (Done 1)
done c = refl

pub told_otherwise : IsUnlawful a_change_told_otherwise
told_otherwise run =
    let said = (only run.log _ _ _ _ (run.clients 0 _ refl).explained).explained.1.1 in
    let told = said.3 in
    let h = (column_at a_change_told_otherwise run 0 one_node refl).history in
    let t = told_alone run.log said.0 said.1 (codes "k:/d=v") told.0 told.1 told.3.1 told.3.3 _ said.2.1 h told.2 told.3.2
    told.3.4 told.3.5 in
    let f : Some (Done 1) ≡ Some (Failed 1 Exists) = sym (done t.0) ∙ t.1 in
    cc (f)

-- and a removal finds nothing
missing : (c : Colours)
    → told_of telling (record { key = the_key; colours = c; text = codes "x:/d" } ∷ []) the_key ≡ Some (Failed 1 Missing)
missing c = refl

pub another_reason : IsUnlawful a_change_that_fails_for_another_reason
another_reason run =
    let said = (only run.log _ _ _ _ (run.clients 0 _ refl).explained).explained.1.1 in
    let told = said.3 in
    let h = (column_at a_change_that_fails_for_another_reason run 0 one_node refl).history in
    let t = told_alone run.log said.0 said.1 (codes "x:/d") told.0 told.1 told.3.1 told.3.3 _ said.2.1 h told.2 told.3.2
    told.3.4 told.3.5 in
    let f : Some (Failed 1 Missing) ≡ Some (Failed 1 NotEmpty) = sym (missing t.0) ∙ t.1 in
    cc (f)

-- LISTS
-- a tree without changes has no names
none_there : (path : Path) (name : List ℕ) → is_there [] (path ++ name ∷ []) ≡ false
none_there [] name = refl
none_there (first ∷ names) name = refl

pub too_many : IsUnlawful a_list_with_a_name_too_many
too_many run =
    let said = (only run.log _ _ _ _ (run.clients 0 _ refl).explained).explained.4 in
    let keys = none_read 0 said.1 said.2 in
    let nodes = no_nodes run.log said.3 (subst (λ ks. AreObjectNodes run.log ks said.3) keys said.4) in
    let shows = said.5 in
    let answer = subst (λ (ns : List ObjectNode). IsNamesAnswer (tree_after ns) shows.0 (Some (codes "d" ∷ []))) nodes
    shows.2 in
    let f : true ≡ false = answer.exactly (codes "d") ∙ none_there shows.0 (codes "d") in
    cc (f)

same_path : (object other : ℕ) (path more : List ℕ) → whats.Ls object path ≡ whats.Ls other more → path ≡ more
same_path object other path more e = cc (e)

pub not_missing : IsUnlawful a_path_that_is_not_missing
not_missing run =
    let e = (only run.log _ _ _ _ (run.clients 0 _ refl).explained).explained in
    let shows = e.4.5 in
    let root : [] ≡ shows.0 = some_same [] shows.0 (ap path_of (same_path _ _ _ _ e.3) ∙ shows.1) in
    let f : true ≡ false = subst (λ (p : Path). is_there (tree_after e.4.3) p ≡ false) (sym root) shows.2 in
    cc (f)

pub another_path : IsUnlawful a_list_of_another_path
another_path run =
    let e = (only run.log _ _ _ _ (run.clients 0 _ refl).explained).explained in
    let said = e.4 in
    let keys = none_read 0 said.1 said.2 in
    let nodes = no_nodes run.log said.3 (subst (λ ks. AreObjectNodes run.log ks said.3) keys said.4) in
    let shows = said.5 in
    let path : codes "d" ∷ [] ≡ shows.0 = some_same (codes "d" ∷ []) shows.0 (ap path_of (same_path _ _ _ _ e.3) ∙ shows.1) in
    let there = subst (λ (ns : List ObjectNode). IsTrue (is_there (tree_after ns) shows.0)) nodes shows.2.there in
    let f : false ≡ true = subst (λ (p : Path). IsTrue (is_there [] p)) (sym path) there in
    cc (f)
