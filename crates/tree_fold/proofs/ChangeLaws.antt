-- The texts of changes: what is written of a change is read as it, and what is read as a change has its text.
use Rattle.std.proofs.Common.{◌≡◌, ℕ, ◌<◌, ◌≤◌, ◌↔◌, true, false, ◌&&◌, eqb, leb, cond, List, [], ◌∷◌, ◌++◌, length, Option, Some, None, Result, Ok, Err, inl, inr, refl, ap, sym, subst, ◌∙◌, arith, length-append}
use Rattle.std.specs.Prelude.{IfOk}
use Rattle.std.specs.List.{list_all}
use Rattle.std.proofs.lemmas.Bool.{and_parts, cases_Bool, eqb-true, leb-true}
use Rattle.log_node.specs.declared.forms.Form.{Form}
use Rattle.log_node.specs.declared.forms.Form.TheVariants.{Plain}
use Rattle.log_node.specs.declared.forms.Form.TheVariants as forms
use Rattle.log_node.specs.Texts.{IsTextLength}
use Rattle.object_form.specs.Forms.{IsForm, form_text, equals, is_letter_or_digit, is_word}
use Rattle.object_form.specs.Readings.{before, after, form_of}
use Rattle.object_form.proofs.CallerLemmas.{before_cut, after_cut, cut_back}
use Rattle.tree_fold.specs.declared.change.Change.{Change}
use Rattle.tree_fold.specs.declared.change.Change.TheVariants.{Make, Remove, Move}
use Rattle.tree_fold.specs.Paths.{Path, is_below_root, path_text}
use Rattle.tree_fold.specs.Changes.{arrow, change_text, IsChange, IsWrittenAs, IsReadAs}
use Rattle.tree_fold.specs.Readings.{below_root_of, make_of, remove_of, move_of, change_after, change_of}
use Rattle.tree_fold.proofs.PathLaws.{below_parts, below_read, below_back, path_lacks, text_some, text_size}

word_size : (bs : List ℕ) → is_word bs ≡ true → (1 ≤ length bs) × (length bs ≤ 16)
word_size bs h =
    let size = and_parts (leb 1 (length bs) && leb (length bs) 16) (list_all is_letter_or_digit bs) h in
    let ends = and_parts (leb 1 (length bs)) (leb (length bs) 16) size.0 in
    (leb-true 1 (length bs) ends.0, leb-true (length bs) 16 ends.1)

-- ---- what is written is read

-- a path before a sign is read
front_read : (sign : ℕ) (path : Path) (rest : List ℕ) → is_letter_or_digit sign ≡ false → eqb 47 sign ≡ false → is_below_root path ≡ true
    → (below_root_of (before sign (path_text path ++ sign ∷ rest)) ≡ Some path) × (after sign (path_text path ++ sign ∷ rest) ≡ rest)
front_read sign path rest fails other h =
    let lacks = path_lacks sign path fails other (below_parts path h).1 in
    (ap below_root_of (before_cut sign (path_text path) rest lacks) ∙ below_read path h, after_cut sign (path_text path) rest lacks)

pub reads_back : (change : Change) → IsChange change → change_of (change_text change) ≡ Some change
reads_back (Make path value) h =
    let front = front_read equals path value refl refl h.0 in
    rw (front.0, front.1, h.1) refl
reads_back (Remove path) h = rw (below_read path h) refl
reads_back (Move source target) h =
    let front = front_read arrow source (path_text target) refl refl h.0 in
    rw (front.0, front.1, below_read target h.1) refl

-- ---- what is read has its text

-- the text is that of the change, if there is one
abbrev Fits : Option Change → List ℕ → Type 0
Fits read text = (change : Change) → read ≡ Some change → IsWrittenAs change text

make_fits : (o : Option Path) (bytes : List ℕ) → below_root_of (before equals bytes) ≡ o → Fits (make_of o (after equals bytes)) (107 ∷ 58 ∷ bytes)
make_fits None bytes e change read = absurd cc
make_fits (Some path) bytes e change read = elim (cases_Bool (is_word (after equals bytes))) [
  | inl word ↦
      let found = rw word at read in
      let is : Make path (after equals bytes) ≡ change = cc in
      let back = below_back (before equals bytes) path e in
      let some : 0 < length (after equals bytes) = omega (arith, (word_size (after equals bytes) word).0) in
      let P : Change → Type 0 = λ c. IsWrittenAs c (107 ∷ 58 ∷ bytes) in
      subst P is ((back.0, word), ap (λ t. 107 ∷ 58 ∷ t) (ap (λ t. t ++ equals ∷ after equals bytes) back.1 ∙ cut_back equals bytes some))
  | inr other ↦ let found = rw other at read in absurd cc
]

remove_fits : (o : Option Path) (bytes : List ℕ) → below_root_of bytes ≡ o → Fits (remove_of o) (120 ∷ 58 ∷ bytes)
remove_fits None bytes e change read = absurd cc
remove_fits (Some path) bytes e change read =
    let is : Remove path ≡ change = cc in
    let back = below_back bytes path e in
    let P : Change → Type 0 = λ c. IsWrittenAs c (120 ∷ 58 ∷ bytes) in
    subst P is (back.0, ap (λ t. 120 ∷ 58 ∷ t) back.1)

move_fits : (o p : Option Path) (bytes : List ℕ) → below_root_of (before arrow bytes) ≡ o → below_root_of (after arrow bytes) ≡ p → Fits (move_of o p) (118 ∷ 58 ∷ bytes)
move_fits None p bytes e f change read = absurd cc
move_fits (Some source) None bytes e f change read = absurd cc
move_fits (Some source) (Some target) bytes e f change read =
    let is : Move source target ≡ change = cc in
    let from = below_back (before arrow bytes) source e in
    let to = below_back (after arrow bytes) target f in
    let some : 0 < length (after arrow bytes) = let P : List ℕ → Type 0 = λ t. 0 < length t in subst P to.1 (text_some target) in
    let P : Change → Type 0 = λ c. IsWrittenAs c (118 ∷ 58 ∷ bytes) in
    let text : path_text source ++ arrow ∷ path_text target ≡ bytes = rw (from.1, to.1) (cut_back arrow bytes some) in
    subst P is ((from.0, to.0), ap (λ t. 118 ∷ 58 ∷ t) text)

-- by the letter
letter_fits : (letter wanted : ℕ) (bytes : List ℕ) (read other : Option Change) → Fits read (wanted ∷ 58 ∷ bytes) → Fits other (letter ∷ 58 ∷ bytes)
    → Fits (cond (eqb letter wanted) read other) (letter ∷ 58 ∷ bytes)
letter_fits letter wanted bytes read other f g change e = elim (cases_Bool (eqb letter wanted)) [
  | inl same ↦ rw (eqb-true letter wanted same) (f change (rw same at e))
  | inr apart ↦ g change (rw apart at e)
]

none_fits : (text : List ℕ) → Fits None text
none_fits text change e = absurd cc

after_fits : (letter : ℕ) (bytes : List ℕ) → Fits (change_after letter bytes) (letter ∷ 58 ∷ bytes)
after_fits letter bytes =
    letter_fits letter 107 bytes (make_of (below_root_of (before equals bytes)) (after equals bytes)) _ (make_fits (below_root_of (before equals bytes)) bytes refl)
    (letter_fits letter 120 bytes (remove_of (below_root_of bytes)) _ (remove_fits (below_root_of bytes) bytes refl)
    (letter_fits letter 118 bytes (move_of (below_root_of (before arrow bytes)) (below_root_of (after arrow bytes))) _ (move_fits (below_root_of (before arrow bytes)) (below_root_of (after arrow bytes)) bytes refl refl)
    (none_fits (letter ∷ 58 ∷ bytes))))

pub change_fits : (text : List ℕ) → Fits (change_of text) text
change_fits [] = none_fits []
change_fits (letter ∷ []) = none_fits (letter ∷ [])
change_fits (letter ∷ sign ∷ bytes) = λ change e. elim (cases_Bool (eqb sign 58)) [
  | inl colon ↦ rw (eqb-true sign 58 colon) (after_fits letter bytes change (rw colon at e))
  | inr other ↦ let found = rw other at e in absurd cc
]

-- ---- the laws

read_is : (text : List ℕ) (o : Option Change) → IsReadAs text o → change_of text ≡ o
read_is text (Some change) has = ap change_of (sym has.1) ∙ reads_back change has.0
read_is text None no_change = by (change_of text) refl where
  by : (o : Option Change) → change_of text ≡ o → change_of text ≡ None
  by None e = e
  by (Some change) e = absurd (no_change change (change_fits text change e))

is_read : (text : List ℕ) (o : Option Change) → change_of text ≡ o → IsReadAs text o
is_read text (Some change) e = change_fits text change e
is_read text None e = λ change has. let found : Some change ≡ None = sym (reads_back change has.0) ∙ ap change_of has.1 ∙ e in absurd cc

pub reads_as_one : (text : List ℕ) (o : Option Change) → IsReadAs text o ↔ (change_of text ≡ o)
reads_as_one text o = (read_is text o, is_read text o)

pub texts_differ : (change other : Change) (text : List ℕ) → IsWrittenAs change text → IsWrittenAs other text → change ≡ other
texts_differ change other text h k =
    let same : Some change ≡ Some other = sym (reads_back change h.0) ∙ ap change_of (h.1 ∙ sym k.1) ∙ reads_back other k.0 in
    cc

-- what is computed of a text is read
pub reads_ok : {E : Type 0} (text : List ℕ) (r : Result (Option Change) E) → IfOk r (λ change. change ≡ change_of text) → IfOk r (λ change. IsReadAs text change)
reads_ok text (Ok change) h = is_read text change (sym h)
reads_ok text (Err e) h = tt

pub changes_fit : (change : Change) → IsChange change → IsTextLength (length (change_text change))
changes_fit (Make path value) h =
    let front = text_size path (below_parts path h.0).1 in
    let rest = word_size value h.1 in
    let both = length-append (path_text path) (equals ∷ value) in
    (omega arith, omega (arith, rest.1))
changes_fit (Remove path) h =
    let front = text_size path (below_parts path h).1 in
    (omega arith, omega arith)
changes_fit (Move source target) h =
    let front = text_size source (below_parts source h.0).1 in
    let rest = text_size target (below_parts target h.1).1 in
    let both = length-append (path_text source) (arrow ∷ path_text target) in
    (omega arith, omega arith)

pub changes_are_plain : (change : Change) → form_of (change_text change) ≡ Plain
changes_are_plain (Make path value) = refl
changes_are_plain (Remove path) = refl
changes_are_plain (Move source target) = refl

pub forms_are_no_changes : (form : Form) → IsForm form → change_of (form_text form) ≡ None
forms_are_no_changes (forms.Put key value) h = refl
forms_are_no_changes (forms.Delete key) h = refl
forms_are_no_changes (forms.PutAll pairs) h = refl
forms_are_no_changes (forms.Transaction reads writes) h = refl
forms_are_no_changes (forms.Enqueue value) h = refl
forms_are_no_changes forms.Dequeue h = refl
forms_are_no_changes (forms.Causal key value) h = refl
forms_are_no_changes forms.Plain h = refl
