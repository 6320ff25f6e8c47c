-- What the changes of a tree ask, and that the fields of a script's command say a path and a change.
use Rattle.std.proofs.Common.{◌≡◌, ◌≢◌, Bool, true, false, ℕ, List, [], ◌∷◌, Option, Some, None, refl, ap, sym, subst, ◌∙◌}
use Rattle.std.specs.Prelude.{◌==◌}
use Rattle.std.specs.List.{onto_first}
use Rattle.log_node.specs.declared.ids.Colours.{Colours}
use Rattle.log_node.specs.Sets.{members}
use Rattle.object_form.specs.Forms.{is_word}
use Rattle.tree_fold.specs.declared.change.Change.{Change}
use Rattle.tree_fold.specs.declared.change.Change.TheVariants.{Make, Remove, Move}
use Rattle.tree_fold.specs.Paths.{Path, slash, is_path}
use Rattle.tree_fold.specs.Changes.{change_text, change_keys}
use Rattle.tree_fold.specs.Readings.{names_in, path_behind, path_of, below_root, below_root_of, make_of, remove_of, move_of}
use Rattle.col_core.specs.Keeping.{Kept}
use Rattle.col_core.proofs.CallerLemmas.{both, choice, if_true}
use Rattle.script_text.specs.declared.commands.What.TheVariants as whats
use Rattle.script_text.specs.Fitting.{HasWords}
use Rattle.script_text.specs.Pieces.{is_path_behind, is_path as is_path_field}
use Rattle.lawful_run.specs.Callers.{Caller}
use Rattle.lawful_run.specs.Asks.{colours_of_object, shards}
use Rattle.lawful_run.specs.Deeds.{SaysNode, says_change, AsksToAppend}

-- WHAT A CHANGE ASKS
module _ (caller : Caller) (kept : Kept) (object : ℕ) (change : Change) (colours : Colours) (text : List ℕ) where
  -- a node in the shards of the change's keys, with its text
  asks_by : (said : Option Change) → said ≡ Some change
      → members colours ≡ shards (colours_of_object caller object) (change_keys change) → text ≡ change_text change
      → SaysNode (colours_of_object caller object) (says_change said) colours text
  asks_by said is shown says =
      subst (λ (c : Option Change). SaysNode (colours_of_object caller object) (says_change c) colours text) (sym is)
      (shown, says)

  pub make_asks : (path value : List ℕ) → make_of (below_root_of path) value ≡ Some change
      → members colours ≡ shards (colours_of_object caller object) (change_keys change) → text ≡ change_text change
      → AsksToAppend caller kept (whats.Mk object path value) colours text
  make_asks path value is shown says = asks_by (make_of (below_root_of path) value) is shown says

  pub remove_asks : (path : List ℕ) → remove_of (below_root_of path) ≡ Some change
      → members colours ≡ shards (colours_of_object caller object) (change_keys change) → text ≡ change_text change
      → AsksToAppend caller kept (whats.Rm object path) colours text
  remove_asks path is shown says = asks_by (remove_of (below_root_of path)) is shown says

  pub move_asks : (source target : List ℕ) → move_of (below_root_of source) (below_root_of target) ≡ Some change
      → members colours ≡ shards (colours_of_object caller object) (change_keys change) → text ≡ change_text change
      → AsksToAppend caller kept (whats.Mv object source target) colours text
  move_asks source target is shown says = asks_by (move_of (below_root_of source) (below_root_of target)) is shown says

-- PATHS
behind_of_field : (root : Bool) (bytes : List ℕ) → is_path_behind root bytes ≡ true
    → (path : Path) × (path_behind bytes ≡ Some path)
behind_of_field root [] e = ([], refl)
behind_of_field root (b ∷ bs) e =
    let names = names_in (b ∷ bs) in
    (names, if_true (is_path names) (Some names) None e)

-- a path in a script is the text of a path
pub path_of_field : (root : Bool) (bytes : List ℕ) → is_path_field root bytes ≡ true
    → (path : Path) × (path_of bytes ≡ Some path)
path_of_field root [] e = absurd (let f : ⊥ = cc in f)
path_of_field root (b ∷ bs) e =
    let a = both (b == slash) (is_path_behind root bs) e in
    let p = behind_of_field root bs a.1 in
    (p.0, if_true (b == slash) (path_behind bs) None a.0 ∙ p.1)

onto_some : (b : ℕ) (parts : List (List ℕ)) → onto_first b parts ≢ []
onto_some b [] e = absurd (let f : ⊥ = cc in f)
onto_some b (part ∷ parts) e = absurd (let f : ⊥ = cc in f)

-- bytes have a piece
names_some : (bytes : List ℕ) → names_in bytes ≢ []
names_some [] = λ e. absurd (let f : ⊥ = cc in f)
names_some (b ∷ bs) =
    choice (λ (path : Path). path ≢ []) (b == slash) ([] ∷ names_in bs) (onto_first b (names_in bs))
    (λ _ e. absurd (let f : ⊥ = cc in f)) (λ _. onto_some b (names_in bs))

below_some : (path : Path) → path ≢ [] → below_root (Some path) ≡ Some path
below_some [] some = absurd (some refl)
below_some (name ∷ names) some = refl

behind_below : (bytes : List ℕ) → is_path_behind false bytes ≡ true
    → (path : Path) × (path_behind bytes ≡ Some path) × (path ≢ [])
behind_below [] e = absurd (let f : ⊥ = cc in f)
behind_below (b ∷ bs) e =
    let names = names_in (b ∷ bs) in
    (names, if_true (is_path names) (Some names) None e, names_some (b ∷ bs))

-- one that may not be the root, that of a path with a name
pub below_of_field : (bytes : List ℕ) → is_path_field false bytes ≡ true
    → (path : Path) × (below_root_of bytes ≡ Some path) × (path ≢ [])
below_of_field [] e = absurd (let f : ⊥ = cc in f)
below_of_field (b ∷ bs) e =
    let a = both (b == slash) (is_path_behind false bs) e in
    let p = behind_below bs a.1 in
    let is : path_of (b ∷ bs) ≡ Some p.0 = if_true (b == slash) (path_behind bs) None a.0 ∙ p.1 in
    (p.0, ap below_root is ∙ below_some p.0 p.2, p.2)

-- WHAT A COMMAND'S FIELDS SAY
-- a make
pub make_said : (object : ℕ) (path value : List ℕ) → HasWords (whats.Mk object path value)
    → (names : Path) × (below_root_of path ≡ Some names) × (make_of (below_root_of path) value ≡ Some (Make names value))
make_said object path value words =
    let p = below_of_field path words.0 in (
      p.0,
      p.1,
      ap (λ (o : Option Path). make_of o value) p.1
          ∙ if_true (is_word value) (Some (Make p.0 value)) None words.1,
    )

-- a removal
pub remove_said : (object : ℕ) (path : List ℕ) → HasWords (whats.Rm object path)
    → (names : Path) × (below_root_of path ≡ Some names) × (remove_of (below_root_of path) ≡ Some (Remove names))
remove_said object path words =
    let p = below_of_field path words in (p.0, p.1, ap remove_of p.1)

-- a move
pub move_said : (object : ℕ) (source target : List ℕ) → HasWords (whats.Mv object source target)
    → (from : Path) × (to : Path) × (below_root_of source ≡ Some from) × (below_root_of target ≡ Some to)
    × (move_of (below_root_of source) (below_root_of target) ≡ Some (Move from to))
move_said object source target words =
    let p = below_of_field source words.0 in
    let q = below_of_field target words.1 in (
      p.0,
      q.0,
      p.1,
      q.1,
      ap (λ (o : Option Path). move_of o (below_root_of target)) p.1
          ∙ ap (move_of (Some p.0)) q.1,
    )

-- a list of names
pub list_said : (object : ℕ) (path : List ℕ) → HasWords (whats.Ls object path)
    → (names : Path) × (path_of path ≡ Some names)
list_said object path words = path_of_field true path words
