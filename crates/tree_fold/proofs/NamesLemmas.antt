-- The names in a path, by the entries that begin with it.
use Rattle.std.proofs.Common.{◌≡◌, ℕ, ◌≤◌, Bool, true, false, List, [], ◌∷◌, ◌++◌, length, drop, map, length-append, inl, inr, refl, ap, sym, ◌∙◌, arith}
use Rattle.std.specs.Prelude.{filter}
use Rattle.std.specs.Option.{is_some}
use Rattle.std.specs.Str.{bytes_eq}
use Rattle.std.specs.List.{list_any}
use Rattle.std.specs.BTreeMap.{BTreeMap, values}
use Rattle.std.proofs.lemmas.Bool.{cases_Bool}
use Rattle.std.proofs.lemmas.List.{drop_at}
use Rattle.std.proofs.lemmas.Slice.Eq.{bytes_eq-Decides}
use Rattle.tree_fold.specs.declared.entries.Entry.{Entry}
use Rattle.tree_fold.specs.declared.places.Place.{Place}
use Rattle.tree_fold.specs.Paths.{Path, begins_with, is_same}
use Rattle.tree_fold.specs.Trees.{Tree, value_in, is_there, AreNamesIn}
use Rattle.tree_fold.specs.TreeStates.{SameTree}
use Rattle.tree_fold.specs.Places.{AreTreeEntries, is_child, own_name}
use Rattle.tree_fold.proofs.OrderLemmas.{same_names, begins_is, same_is, same_self}
use Rattle.tree_fold.proofs.EntryLemmas.{any_child, children_rise}
use Rattle.tree_fold.proofs.TreeLemmas.{alike, there_same}

-- the path is this one name
abbrev pub is_sole : List ℕ → Path → Bool
is_sole name [] = false
is_sole name (n ∷ []) = bytes_eq name n
is_sole name (n ∷ m ∷ ns) = false

sole_is : (name : List ℕ) (path : Path) → is_sole name path ≡ true → path ≡ name ∷ []
sole_is name [] h = absurd cc
sole_is name (n ∷ []) h = ap (λ l. l ∷ []) (sym (same_names name n h))
sole_is name (n ∷ m ∷ ns) h = absurd cc

sole_self : (name : List ℕ) → is_sole name (name ∷ []) ≡ true
sole_self name = (bytes_eq-Decides name name).1 refl

-- a path with one more name, by what stands behind the front
pub same_sole : (front : Path) (name : List ℕ) (path : Path) → begins_with front path ≡ true → is_same (front ++ name ∷ []) path ≡ is_sole name (drop (length front) path)
same_sole front name path h =
    let rest = drop (length front) path in
    let whole = begins_is front path h in
    alike (is_same (front ++ name ∷ []) path) (is_sole name rest)
    (λ same.
    let tail : rest ≡ name ∷ [] = ap (drop (length front)) (sym (same_is (front ++ name ∷ []) path same)) ∙ drop_at front (name ∷ []) (length front) refl in
    ap (is_sole name) tail ∙ sole_self name)
    (λ one. ap (is_same (front ++ name ∷ [])) (whole ∙ ap (λ l. front ++ l) (sole_is name rest one)) ∙ same_self (front ++ name ∷ []))

pub value_any : (es : List Entry) (path : Path) → list_any (λ e. is_same path e.path) es ≡ is_some (value_in es path)
value_any [] path = refl
value_any (x ∷ es) path = elim (cases_Bool (is_same path x.path)) [
  | inl here ↦ rw here refl
  | inr later ↦ rw later (value_any es path)
]

pub there_value : (t : Tree) (path : Path) → 1 ≤ length path → is_there t path ≡ is_some (value_in t path)
there_value t [] some = absurd (omega arith)
there_value t (n ∷ path) some = refl

-- ---- the answer

pub are_names : (m : BTreeMap Place Entry) (tree : Tree) (path : Path) (names : List (List ℕ)) → AreTreeEntries m.entries → SameTree (values m) tree → is_there (values m) path ≡ true
    → names ≡ map (λ e. own_name e.1.path) (filter (λ e. is_child path e.1.path) m.entries) → AreNamesIn tree path names
are_names m tree path names kept same there is =
    record {
      there = sym (there_same (values m) tree same path) ∙ there;
      exactly = λ name.
          let next = path ++ name ∷ [] in
          ap (list_any (bytes_eq name)) is ∙ any_child m.entries path name kept.placed
          ∙ value_any (values m) next ∙ sym (there_value (values m) next (omega (arith, length-append path (name ∷ [])))) ∙ there_same (values m) tree same next;
      rise = rw is (children_rise path m.entries kept.placed kept.ordered);
    }
