-- What callers have of the texts of paths and of changes that are read.
use Rattle.std.proofs.Common.{◌≡◌, ℕ, ◌<◌, true, eqb, List, [], ◌∷◌, ◌++◌, length, Option, Some, None, inl, inr, refl, ap, subst, ◌∙◌, arith, append-nil}
use Rattle.std.specs.Prelude.{IsTrue}
use Rattle.std.proofs.lemmas.Bool.{cases_Bool}
use Rattle.std.proofs.lemmas.List.Splits.{length-slice_split}
use Rattle.object_form.specs.Forms.{is_word}
use Rattle.tree_fold.specs.declared.change.Change.{Change}
use Rattle.tree_fold.specs.declared.change.Change.TheVariants.{Make, Remove, Move}
use Rattle.tree_fold.specs.Paths.{Path, slash, first_name, is_path, is_below_root}
use Rattle.tree_fold.specs.Changes.{IsChange, change_keys}
use Rattle.tree_fold.specs.Readings.{names_in, path_behind, path_of, below_root, below_root_of, make_of, remove_of, move_of}
use Rattle.tree_fold.proofs.PathLaws.{below_back}

-- ---- paths

-- a slash and nothing behind it is the root
pub root_is : (b : ℕ) → b ≡ slash → path_of (b ∷ []) ≡ Some []
root_is b is = rw is refl

behind_is : (bs : List ℕ) → 0 < length bs → is_path (names_in bs) ≡ true → path_behind bs ≡ Some (names_in bs)
behind_is [] some lawful = absurd (omega arith)
behind_is (c ∷ cs) some lawful = rw lawful refl

-- a slash, and behind it names with slashes between them
pub path_is : (b : ℕ) (bs : List ℕ) → b ≡ slash → 0 < length bs → is_path (names_in bs) ≡ true → path_of (b ∷ bs) ≡ Some (names_in bs)
path_is b bs is some lawful = rw is (behind_is bs some lawful)

below_some : (names : Path) → 0 < length names → below_root (Some names) ≡ Some names
below_some [] some = absurd (omega arith)
below_some (name ∷ names) some = refl

-- the same path is not the root
pub below_root_is : (b : ℕ) (bs : List ℕ) → b ≡ slash → 0 < length bs → is_path (names_in bs) ≡ true → below_root_of (b ∷ bs) ≡ Some (names_in bs)
below_root_is b bs is some lawful =
    ap below_root (path_is b bs is some lawful) ∙ below_some (names_in bs) (omega (arith, length-slice_split (λ c. eqb c slash) bs))

-- ---- changes

-- what is read of words may be a change
pub make_fits : (path value : List ℕ) (change : Change) → make_of (below_root_of path) value ≡ Some change → IsChange change
make_fits path value change made = by (below_root_of path) refl made where
  by : (o : Option Path) → below_root_of path ≡ o → make_of o value ≡ Some change → IsChange change
  by None e read = absurd cc
  by (Some names) e read = elim (cases_Bool (is_word value)) [
    | inl word ↦
        let found = rw word at read in
        let is : Make names value ≡ change = cc in
        subst IsChange is ((below_back path names e).0, word)
    | inr other ↦ let found = rw other at read in absurd cc
  ]

pub remove_fits : (path : List ℕ) (change : Change) → remove_of (below_root_of path) ≡ Some change → IsChange change
remove_fits path change made = by (below_root_of path) refl made where
  by : (o : Option Path) → below_root_of path ≡ o → remove_of o ≡ Some change → IsChange change
  by None e read = absurd cc
  by (Some names) e read =
      let is : Remove names ≡ change = cc in
      subst IsChange is (below_back path names e).0

pub move_fits : (source target : List ℕ) (change : Change) → move_of (below_root_of source) (below_root_of target) ≡ Some change → IsChange change
move_fits source target change made = by (below_root_of source) (below_root_of target) refl refl made where
  by : (o p : Option Path) → below_root_of source ≡ o → below_root_of target ≡ p → move_of o p ≡ Some change → IsChange change
  by None p e f read = absurd cc
  by (Some from) None e f read = absurd cc
  by (Some from) (Some to) e f read =
      let is : Move from to ≡ change = cc in
      subst IsChange is ((below_back source from e).0, (below_back target to f).0)

-- ---- keys

some_name : (path : Path) (more : List (List ℕ)) → IsTrue (is_below_root path) → 0 < length (first_name path ++ more)
some_name [] more root = absurd (let f : ⊥ = cc (root) in f)
some_name (name ∷ names) more below = omega arith

-- a change has keys
pub some_keys : (change : Change) → IsChange change → 0 < length (change_keys change)
some_keys (Make path value) is = subst (λ (l : List (List ℕ)). 0 < length l) (append-nil (first_name path)) (some_name path [] is.0)
some_keys (Remove path) is = subst (λ (l : List (List ℕ)). 0 < length l) (append-nil (first_name path)) (some_name path [] is)
some_keys (Move source target) is = some_name source (first_name target) is.0
