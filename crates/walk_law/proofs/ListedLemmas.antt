-- How columns and rows are listed.
use Rattle.std.proofs.Common.{◌≡◌, ◌∙◌, ℕ, ◌+◌, Bool, List, [], ◌∷◌, ◌++◌, map, ap, sym, arith, append-nil, append_assoc}
use Rattle.std.specs.List.{All, flat_map, range_with_len}
use Rattle.std.proofs.lemmas.List.{map-append}
use Rattle.std.proofs.lemmas.List.Elements.{All-cons, All-tail}
use Rattle.column_track.specs.Tracks.{Tells}
use Rattle.lawful_run.proofs.CallerLemmas.{range_more}
use Rattle.walk_law.proofs.Members.{told_as}

-- a column of a region
abbrev pub pair_with : ℕ → ℕ → ℕ × ℕ
pair_with region colour = (region, colour)

-- all columns of the regions below a number
abbrev pub rows_to : ℕ → ℕ → List (ℕ × ℕ)
rows_to colours region = flat_map (λ r. map (pair_with r) (range_with_len 0 colours)) (range_with_len 0 region)

flat_more : (f : ℕ → List (ℕ × ℕ)) (xs : List ℕ) (x : ℕ) → flat_map f (xs ++ x ∷ []) ≡ flat_map f xs ++ f x
flat_more f [] x = append-nil (f x)
flat_more f (y ∷ ys) x =
    ap (λ (l : List (ℕ × ℕ)). f y ++ l) (flat_more f ys x) ∙ sym (append_assoc (f y) (flat_map f ys) (f x))

-- one region more
pub more_rows : (colours region colour : ℕ) (now : List (ℕ × ℕ)) → colour ≡ colours
    → now ≡ rows_to colours region ++ map (pair_with region) (range_with_len 0 colour) → now ≡ rows_to colours (region + 1)
more_rows colours region colour now e is =
    is
    ∙ (ap (λ (n : ℕ). rows_to colours region ++ map (pair_with region) (range_with_len 0 n)) e
    ∙ (sym (flat_more (λ r. map (pair_with r) (range_with_len 0 colours)) (range_with_len 0 region) region)
    ∙ ap (flat_map (λ r. map (pair_with r) (range_with_len 0 colours)))
    (let z : 0 + region ≡ region = omega arith in
    sym (range_more 0 region ∙ ap (λ (n : ℕ). range_with_len 0 region ++ n ∷ []) z))))

-- one colour more
pub more_columns : (colours region colour : ℕ) (old now : List (ℕ × ℕ)) → now ≡ old ++ pair_with region colour ∷ []
    → old ≡ rows_to colours region ++ map (pair_with region) (range_with_len 0 colour)
    → now ≡ rows_to colours region ++ map (pair_with region) (range_with_len 0 (colour + 1))
more_columns colours region colour old now is was =
    is
    ∙ (ap (λ (l : List (ℕ × ℕ)). l ++ pair_with region colour ∷ []) was
    ∙ (append_assoc (rows_to colours region) (map (pair_with region) (range_with_len 0 colour)) (pair_with region colour ∷ [])
    ∙ ap (λ (l : List (ℕ × ℕ)). rows_to colours region ++ l)
    (sym (map-append (pair_with region) (range_with_len 0 colour) (colour ∷ []))
    ∙ ap (map (pair_with region))
    (let z : 0 + colour ≡ colour = omega arith in
    sym (range_more 0 colour ∙ ap (λ (n : ℕ). range_with_len 0 colour ++ n ∷ []) z)))))

-- of each item so, where of the first and of the others so
pub each_told : {A : Type 0} (P : A → Type 0) (x : A) (xs : List A) → P x → (b : Bool) → Tells b (All P xs)
    → Tells b (All P (x ∷ xs))
each_told P x xs p b told = told_as b (All P xs) (All P (x ∷ xs)) (All-cons P x xs p) (All-tail P x xs) told
