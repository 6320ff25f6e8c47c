-- What stands behind fronts of bytes: one front behind another, and bytes that are a front as a whole.
use Rattle.std.proofs.Common.{◌≡◌, ◌≢◌, MatchOption, ℕ, suc, ◌-◌, ◌<◌, length, get_or, take, drop, arith, List, [], ◌∷◌, ◌++◌, Bool, true, false, Option, Some, None, refl, ap, sym, subst, ◌∙◌, append_assoc, append-nil}
use Rattle.std.specs.Option.{option_copied}
use Rattle.std.proofs.lemmas.List.{append_cancel_left, length-map, take_all}
use denote.Ref.{Bor}
use Rattle.log_node.specs.declared.forms.Pair.{Pair}
use Rattle.object_form.specs.Forms.{comma, pair_text, pairs_text}
use Rattle.report_text.specs.declared.report.KeyAnswer.{KeyAnswer}
use Rattle.column_track.specs.Tracks.{Tells}
use Rattle.walk_law.specs.Asking.{keys_shown}
use Rattle.walk_law.proofs.Members.{told_as}
use Rattle.walk_law.specs.TextsSaid.{HaveBehind, IsBehind, IsBehindOne}

-- ONE FRONT

-- what is left where a front is stripped off
pub stripped : (front bytes : List ℕ) (r : Option (Bor (List ℕ)))
    → MatchOption r ((rest : List ℕ) → bytes ≢ front ++ rest) (λ x. bytes ≡ front ++ x.now)
    → IsBehind front bytes (option_copied r)
stripped front bytes None m = m
stripped front bytes (Some x) m = m

pub behind_both : (front later bytes rest : List ℕ) (o : Option (List ℕ)) → bytes ≡ front ++ rest → IsBehind later rest o
    → IsBehind (front ++ later) bytes o
behind_both front later bytes rest None is not = λ left e.
    not left (append_cancel_left front rest (later ++ left) (sym is ∙ (e ∙ append_assoc front later left)))
behind_both front later bytes rest (Some left) is behind =
    is ∙ (ap (λ (l : List ℕ). front ++ l) behind ∙ sym (append_assoc front later left))

pub behind_not : (front later bytes : List ℕ) → ((rest : List ℕ) → bytes ≡ front ++ rest → ⊥)
    → (rest : List ℕ) → bytes ≡ (front ++ later) ++ rest → ⊥
behind_not front later bytes not rest e = not (later ++ rest) (e ∙ append_assoc front later rest)

-- SUCH FRONTS

-- one of the first fronts, and one of the second behind it
abbrev pub Both : (List ℕ → Type 0) → (List ℕ → Type 0) → List ℕ → Type 0
Both P Q front = (p : List ℕ) × (q : List ℕ) × P p × Q q × (front ≡ p ++ q)

-- just this front
abbrev pub Just : List ℕ → List ℕ → Type 0
Just front other = other ≡ front

pub behind_just : (front bytes : List ℕ) (o : Option (List ℕ)) → IsBehind front bytes o → IsBehindOne (Just front) bytes o
behind_just front bytes None not = λ other rest is e. not rest (e ∙ ap (λ (l : List ℕ). l ++ rest) is)
behind_just front bytes (Some rest) is = record {
  front = front;
  such = refl;
  is = is;
  only = λ other left same e. append_cancel_left front left rest (sym (e ∙ ap (λ (l : List ℕ). l ++ left) same) ∙ is);
}

pub one_both : (P Q : List ℕ → Type 0) (bytes rest : List ℕ) (o : Option (List ℕ)) → HaveBehind P bytes rest
    → IsBehindOne Q rest o → IsBehindOne (Both P Q) bytes o
one_both P Q bytes rest None first not = λ front left both e.
    not both.1 left both.3 (sym (first.only both.0 (both.1 ++ left) both.2
    (e ∙ (ap (λ (l : List ℕ). l ++ left) both.4 ∙ append_assoc both.0 both.1 left))))
one_both P Q bytes rest (Some left) first second = record {
  front = first.front ++ second.front;
  such = (first.front, second.front, first.such, second.such, refl);
  is = first.is ∙ (ap (λ (l : List ℕ). first.front ++ l) second.is ∙ sym (append_assoc first.front second.front left));
  only = λ front other both e. second.only both.1 other both.3
      (sym (first.only both.0 (both.1 ++ other) both.2
      (e ∙ (ap (λ (l : List ℕ). l ++ other) both.4 ∙ append_assoc both.0 both.1 other))));
}

pub one_not : (P Q : List ℕ → Type 0) (bytes : List ℕ) → IsBehindOne P bytes None → IsBehindOne (Both P Q) bytes None
one_not P Q bytes not = λ front left both e.
    not both.0 (both.1 ++ left) both.2
    (e ∙ (ap (λ (l : List ℕ). l ++ left) both.4 ∙ append_assoc both.0 both.1 left))

-- the same of fronts that are such and such
pub one_as : (P Q : List ℕ → Type 0) (bytes : List ℕ) (o : Option (List ℕ)) → ((f : List ℕ) → P f → Q f)
    → ((f : List ℕ) → Q f → P f) → IsBehindOne P bytes o → IsBehindOne Q bytes o
one_as P Q bytes None to from not = λ front rest such. not front rest (from front such)
one_as P Q bytes (Some rest) to from one = record {
  front = one.front;
  such = to one.front one.such;
  is = one.is;
  only = λ other left such. one.only other left (from other such);
}

-- WHOLE TEXTS

-- nothing stands behind
pub whole_told : (P : List ℕ → Type 0) (bytes : List ℕ) (o : Option (List ℕ)) (b : Bool) → IsBehindOne P bytes o
    → Tells b (o ≡ Some []) → Tells b (P bytes)
whole_told P bytes None true not is = absurd (let f : ⊥ = cc in f)
whole_told P bytes None false not is = λ such. not bytes [] such (sym (append-nil bytes))
whole_told P bytes (Some []) true one is = subst P (sym (one.is ∙ append-nil one.front)) one.such
whole_told P bytes (Some []) false one is = absurd (is refl)
whole_told P bytes (Some (b ∷ bs)) true one is = absurd (let f : ⊥ = cc in f)
whole_told P bytes (Some (b ∷ bs)) false one is = λ such. none_left (one.only bytes [] such (sym (append-nil bytes))) where
  none_left : [] ≡ b ∷ bs → ⊥
  none_left e = cc

pub whole_just : (front bytes : List ℕ) (o : Option (List ℕ)) (b : Bool) → IsBehind front bytes o
    → Tells b (o ≡ Some []) → Tells b (bytes ≡ front)
whole_just front bytes o b behind told = whole_told (Just front) bytes o b (behind_just front bytes o behind) told

-- WHERE A FUNCTION GIVES UP

-- the first front is not there
pub gives_none : (front later bytes : List ℕ) (r : Option (Bor (List ℕ))) → r ≡ None
    → ((rest : List ℕ) → bytes ≡ front ++ rest → ⊥) → IsBehind (front ++ later) bytes (option_copied r)
gives_none front later bytes r is not =
    subst (λ (o : Option (Bor (List ℕ))). IsBehind (front ++ later) bytes (option_copied o)) (sym is)
    (behind_not front later bytes not)

-- none of the first fronts is
pub gives_no_one : (P Q : List ℕ → Type 0) (bytes : List ℕ) (r : Option (Bor (List ℕ))) → r ≡ None → IsBehindOne P bytes None
    → IsBehindOne (Both P Q) bytes (option_copied r)
gives_no_one P Q bytes r is not =
    subst (λ (o : Option (Bor (List ℕ))). IsBehindOne (Both P Q) bytes (option_copied o)) (sym is) (one_not P Q bytes not)

-- LISTS

-- a list that is not empty is its first item before the rest
pub first_and_rest : {A : Type 0} (xs : List A) (x : A) → 0 < length xs → x ≡ get_or xs 0 x
    → xs ≡ x ∷ take (length xs - 1) (drop 1 xs)
first_and_rest [] x some is = absurd (let f : ⊥ = omega (arith, some) in f)
first_and_rest (y ∷ ys) x some is =
    let many : suc (length ys) - 1 ≡ length ys = omega arith in
    sym (ap (λ n. x ∷ take n ys) many ∙ (ap (λ l. x ∷ l) (take_all (length ys) ys (omega arith)) ∙ ap (λ h. h ∷ ys) is))

-- and that of a list of one is this
pub just_first : {A : Type 0} (xs : List A) (x : A) → length xs ≡ 1 → x ≡ get_or xs 0 x → xs ≡ x ∷ []
just_first [] x one is = absurd (let f : ⊥ = omega (arith, one) in f)
just_first (y ∷ []) x one is = ap (λ h. h ∷ []) (sym is)
just_first (y ∷ z ∷ xs) x one is = absurd (let f : ⊥ = omega (arith, one) in f)

pub rest_some : {A : Type 0} (xs : List A) → 1 < length xs → 0 < length (take (length xs - 1) (drop 1 xs))
rest_some [] more = absurd (let f : ⊥ = omega (arith, more) in f)
rest_some (y ∷ []) more = absurd (let f : ⊥ = omega (arith, more) in f)
rest_some (y ∷ z ∷ xs) more =
    let many : suc (suc (length xs)) - 1 ≡ suc (length xs) = omega arith in
    subst (λ n. 0 < length (take n (z ∷ xs))) (sym many) (omega arith)

-- PAIRS

pairs_more : (pair : Pair) (pairs : List Pair) → 0 < length pairs
    → pairs_text (pair ∷ pairs) ≡ (pair_text pair ++ comma ∷ []) ++ pairs_text pairs
pairs_more pair [] some = absurd (let f : ⊥ = omega (arith, some) in f)
pairs_more pair (p ∷ ps) some = sym (append_assoc (pair_text pair) (comma ∷ []) (pairs_text (p ∷ ps)))

-- the text of pairs is that of the first with a comma, and that of the rest
pub pairs_are : (pairs : List Pair) (pair : Pair) → 1 < length pairs → pair ≡ get_or pairs 0 pair
    → pairs_text pairs ≡ (pair_text pair ++ comma ∷ []) ++ pairs_text (take (length pairs - 1) (drop 1 pairs))
pairs_are pairs pair more is =
    ap pairs_text (first_and_rest pairs pair (omega (arith, more)) is)
    ∙ pairs_more pair (take (length pairs - 1) (drop 1 pairs)) (rest_some pairs more)

-- KEYS

-- no keys are shown where nothing is
pub keys_none : (shown : List KeyAnswer) → length shown < 1 → keys_shown shown ≡ []
keys_none [] few = refl
keys_none (k ∷ ks) few = absurd (let f : ⊥ = omega (arith, few) in f)

-- the keys shown are that of the first answer, and those of the rest
pub keys_more : (shown : List KeyAnswer) (first : KeyAnswer) → 0 < length shown → first ≡ get_or shown 0 first
    → keys_shown shown ≡ first.key ∷ keys_shown (take (length shown - 1) (drop 1 shown))
keys_more shown first some is = ap keys_shown (first_and_rest shown first some is)

pub keys_one : (shown : List KeyAnswer) (last : KeyAnswer) → length shown ≡ 1 → last ≡ get_or shown 0 last
    → keys_shown shown ≡ last.key ∷ []
keys_one shown last one is = ap keys_shown (just_first shown last one is)

pub keys_rest : (shown : List KeyAnswer) → 1 < length shown → 0 < length (keys_shown (take (length shown - 1) (drop 1 shown)))
keys_rest shown more =
    subst (λ n. 0 < n) (sym (length-map (take (length shown - 1) (drop 1 shown)) (λ (k : KeyAnswer). k.key))) (rest_some shown more)

-- WHERE A TEXT IS ONE OF TWO PARTS

pub behind_told : (front said bytes rest : List ℕ) (b : Bool) → bytes ≡ front ++ rest → Tells b (rest ≡ said)
    → Tells b (bytes ≡ front ++ said)
behind_told front said bytes rest b is = told_as b (rest ≡ said) (bytes ≡ front ++ said)
    (λ e. is ∙ ap (λ (l : List ℕ). front ++ l) e) (λ e. append_cancel_left front rest said (sym is ∙ e))
