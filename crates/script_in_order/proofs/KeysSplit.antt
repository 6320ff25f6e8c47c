-- Lines that are merged in two parts, of which the first is below the second.
use Rattle.std.proofs.Common.{◌≡◌, true, false, List, [], ◌∷◌, ◌++◌, refl, ap, sym, subst, ◌∙◌, inl, inr}
use Rattle.std.specs.Prelude.{if◌then◌else◌}
use Rattle.std.specs.List.{fold}
use Rattle.log_node.specs.declared.ids.Key.{Key}
use Rattle.log_node.specs.Order.{key_below, same_key}
use Rattle.log_node.proofs.CallerLemmas.{key-asym, key-irrefl, same_key-is}
use Rattle.col_core.proofs.CallerLemmas.{In, by_test, choice, if_true, if_false}
use Rattle.playback.specs.Merging.{merged, merged_behind}

-- each key of the first list is below each of the second
abbrev pub AreBelow : List Key → List Key → Type 0
AreBelow low high = (a b : Key) → In a low → In b high → key_below a b ≡ true

not_same : (a b : Key) → key_below a b ≡ true → same_key b a ≡ false
not_same a b below =
    by_test (same_key b a ≡ false) (same_key b a)
    (λ t. absurd (key-irrefl a (subst (λ (k : Key). key_below a k ≡ true) (same_key-is b a t) below)))
    (λ f. f)

-- what is below all of the other list comes first
pub first_part : (bs cs ds : List Key) → AreBelow cs bs → merged bs (cs ++ ds) ≡ cs ++ merged bs ds
first_part [] cs ds below = refl
first_part (b ∷ bs) [] ds below = refl
first_part (b ∷ bs) (c ∷ cs) ds below =
    if_true (key_below c b) (c ∷ merged_behind b (merged bs) (cs ++ ds))
    (b ∷ merged bs (if same_key c b then cs ++ ds else c ∷ (cs ++ ds))) (below c b (inl refl) (inl refl))
    ∙ ap (λ (l : List Key). c ∷ l) (first_part (b ∷ bs) cs ds (λ x y i j. below x y (inr i) j))

rest_below : (a : Key) (xs bs : List Key) → AreBelow (a ∷ xs) bs → AreBelow xs bs
rest_below a xs bs below x y i j = below x y (inr i) j

module _ (a : Key) (xs bs : List Key) (rest : (cs ds : List Key) → AreBelow xs bs → AreBelow xs ds → AreBelow cs bs
    → AreBelow cs ds → merged (xs ++ bs) (cs ++ ds) ≡ merged xs cs ++ merged bs ds) (ab : AreBelow (a ∷ xs) bs) where
  -- nothing more of the second line's first part
  then_rest : (ds : List Key) → AreBelow (a ∷ xs) ds
      → merged_behind a (merged (xs ++ bs)) ds ≡ a ∷ (merged xs [] ++ merged bs ds)
  then_rest [] ad =
      ap (λ (l : List Key). a ∷ l) (rest [] [] (rest_below a xs bs ab) (rest_below a xs [] ad) (λ x y i j. absurd i)
      (λ x y i j. absurd i))
  then_rest (d ∷ ds) ad =
      let low = ad a d (inl refl) (inl refl) in
      if_false (key_below d a) (d ∷ merged_behind a (merged (xs ++ bs)) ds)
      (a ∷ merged (xs ++ bs) (if same_key d a then ds else d ∷ ds)) (key-asym a d low)
      ∙ ap (λ (l : List Key). a ∷ l)
      (ap (merged (xs ++ bs)) (if_false (same_key d a) ds (d ∷ ds) (not_same a d low))
      ∙ rest [] (d ∷ ds) (rest_below a xs bs ab) (rest_below a xs (d ∷ ds) ad) (λ x y i j. absurd i)
      (λ x y i j. absurd i))

  -- behind the first key of both
  behind : (ds : List Key) → AreBelow (a ∷ xs) ds → (cs : List Key) → AreBelow cs bs → AreBelow cs ds
      → merged_behind a (merged (xs ++ bs)) (cs ++ ds) ≡ merged_behind a (merged xs) cs ++ merged bs ds
  behind ds ad [] cb cd = then_rest ds ad
  behind ds ad (c ∷ cs) cb cd =
      by_test _ (key_below c a)
      (λ t. if_true (key_below c a) (c ∷ merged_behind a (merged (xs ++ bs)) (cs ++ ds)) (a ∷ merged (xs ++ bs) (if same_key c a then cs ++ ds else c ∷ (cs ++ ds))) t
      ∙ (ap (λ (l : List Key). c ∷ l)
      (behind ds ad cs (rest_below c cs bs cb) (rest_below c cs ds cd))
      ∙ ap (λ (l : List Key). l ++ merged bs ds)
      (sym (if_true (key_below c a) (c ∷ merged_behind a (merged xs) cs) (a ∷ merged xs (if same_key c a then cs else c ∷ cs)) t))))
      (λ f. if_false (key_below c a) (c ∷ merged_behind a (merged (xs ++ bs)) (cs ++ ds)) (a ∷ merged (xs ++ bs) (if same_key c a then cs ++ ds else c ∷ (cs ++ ds))) f
      ∙ (ap (λ (l : List Key). a ∷ l) same
      ∙ ap (λ (l : List Key). l ++ merged bs ds)
      (sym (if_false (key_below c a) (c ∷ merged_behind a (merged xs) cs) (a ∷ merged xs (if same_key c a then cs else c ∷ cs)) f)))) where
        same : merged (xs ++ bs) (if same_key c a then cs ++ ds else c ∷ (cs ++ ds))
            ≡ merged xs (if same_key c a then cs else c ∷ cs) ++ merged bs ds
        same =
            by_test _ (same_key c a)
            (λ t. ap (merged (xs ++ bs)) (if_true (same_key c a) (cs ++ ds) (c ∷ (cs ++ ds)) t)
            ∙ (rest cs ds (rest_below a xs bs ab) (rest_below a xs ds ad) (rest_below c cs bs cb) (rest_below c cs ds cd)
            ∙ ap (λ (l : List Key). merged xs l ++ merged bs ds) (sym (if_true (same_key c a) cs (c ∷ cs) t))))
            (λ f. ap (merged (xs ++ bs)) (if_false (same_key c a) (cs ++ ds) (c ∷ (cs ++ ds)) f)
            ∙ (rest (c ∷ cs) ds (rest_below a xs bs ab) (rest_below a xs ds ad) cb cd
            ∙ ap (λ (l : List Key). merged xs l ++ merged bs ds) (sym (if_false (same_key c a) cs (c ∷ cs) f))))

-- Two lines in two parts each, the first parts below the second ones, are merged part by part.
pub merged_parts : (xs bs cs ds : List Key) → AreBelow xs bs → AreBelow xs ds → AreBelow cs bs → AreBelow cs ds
    → merged (xs ++ bs) (cs ++ ds) ≡ merged xs cs ++ merged bs ds
merged_parts [] bs cs ds ab ad cb cd = first_part bs cs ds cb
merged_parts (a ∷ xs) bs cs ds ab ad cb cd =
    behind a xs bs (λ es fs p q r s. merged_parts xs bs es fs p q r s) ab ds ad cs cb cd

-- WHAT HOLDS OF EACH

abbrev pub Each : (Key → Type 0) → List Key → Type 0
Each P keys = (key : Key) → In key keys → P key

first_each : (P : Key → Type 0) (x : Key) (xs : List Key) → P x → Each P xs → Each P (x ∷ xs)
first_each P x xs p all k (inl e) = subst P e p
first_each P x xs p all k (inr i) = all k i

behind_each : (P : Key → Type 0) (a : Key) (rest : List Key → List Key) → P a
    → ((others : List Key) → Each P others → Each P (rest others)) → (bs : List Key) → Each P bs
    → Each P (merged_behind a rest bs)
behind_each P a rest p goes [] all = first_each P a (rest []) p (goes [] all)
behind_each P a rest p goes (b ∷ bs) all =
    choice (Each P) (key_below b a) (b ∷ merged_behind a rest bs) (a ∷ rest (if same_key b a then bs else b ∷ bs))
    (λ _. first_each P b (merged_behind a rest bs) (all b (inl refl))
    (behind_each P a rest p goes bs (λ k i. all k (inr i))))
    (λ _. first_each P a (rest (if same_key b a then bs else b ∷ bs)) p
    (choice (λ (l : List Key). Each P (rest l)) (same_key b a) bs (b ∷ bs) (λ _. goes bs (λ k i. all k (inr i)))
    (λ _. goes (b ∷ bs) all)))

-- what holds of each key of two lists holds of each that is merged
pub merged_each : (P : Key → Type 0) (xs bs : List Key) → Each P xs → Each P bs → Each P (merged xs bs)
merged_each P [] bs px pb = pb
merged_each P (a ∷ xs) bs px pb =
    behind_each P a (merged xs) (px a (inl refl)) (λ others po. merged_each P xs others (λ k i. px k (inr i)) po) bs pb

-- two lists that are merged are below two others where each is below each
pub merged_below : (xs ys bs ds : List Key) → AreBelow xs bs → AreBelow xs ds → AreBelow ys bs → AreBelow ys ds
    → AreBelow (merged xs ys) (merged bs ds)
merged_below xs ys bs ds xb xd yb yd a b i j =
    merged_each (λ (k : Key). key_below k b ≡ true) xs ys
    (λ k ik. merged_each (λ (h : Key). key_below k h ≡ true) bs ds (λ h ih. xb k h ik ih) (λ h ih. xd k h ik ih) b j)
    (λ k ik. merged_each (λ (h : Key). key_below k h ≡ true) bs ds (λ h ih. yb k h ik ih) (λ h ih. yd k h ik ih) b j)
    a i

-- ALL LINES

-- the keys of these lines are merged with others, one line after another
abbrev pub merged_on : {A : Type 0} → (A → List Key) → List Key → List A → List Key
merged_on {A} lines keys xs = fold (λ (ks : List Key) (x : A). merged ks (lines x)) keys xs

-- what holds of each key of all lines holds of each that is merged
pub each_merged : {A : Type 0} (P : Key → Type 0) (lines : A → List Key) (keys : List Key) (xs : List A) → Each P keys
    → ((x : A) → In x xs → Each P (lines x)) → Each P (merged_on lines keys xs)
each_merged P lines keys [] p all = p
each_merged {A} P lines keys (x ∷ xs) p all =
    each_merged P lines (merged keys (lines x)) xs (merged_each P keys (lines x) p (all x (inl refl)))
    (λ y i. all y (inr i))

-- Lines in two parts each, the first parts below the second ones, are merged part by part.
pub parts_merged : {A : Type 0} (low high : A → List Key) (colours : List A) (xs bs : List Key) → AreBelow xs bs
    → ((c : A) → In c colours → AreBelow xs (high c)) → ((c : A) → In c colours → AreBelow (low c) bs)
    → ((c d : A) → In c colours → In d colours → AreBelow (low c) (high d))
    → merged_on (λ c. low c ++ high c) (xs ++ bs) colours ≡ merged_on low xs colours ++ merged_on high bs colours
parts_merged low high [] xs bs ab ah lb lh = refl
parts_merged {A} low high (c ∷ cs) xs bs ab ah lb lh =
    ap (λ (ks : List Key). merged_on (λ d. low d ++ high d) ks cs)
    (merged_parts xs bs (low c) (high c) ab (ah c (inl refl)) (lb c (inl refl)) (lh c c (inl refl) (inl refl)))
    ∙ parts_merged low high cs (merged xs (low c)) (merged bs (high c))
    (merged_below xs (low c) bs (high c) ab (ah c (inl refl)) (lb c (inl refl)) (lh c c (inl refl) (inl refl)))
    (λ d i a b j k. merged_each (λ (x : Key). key_below x b ≡ true) xs (low c) (λ x y. ah d (inr i) x b y k)
    (λ x y. lh c d (inl refl) (inr i) x b y k) a j)
    (λ d i a b j k. merged_each (λ (x : Key). key_below a x ≡ true) bs (high c) (λ x y. lb d (inr i) a x j y)
    (λ x y. lh d c (inr i) (inl refl) a x j y) b k)
    (λ d e i j. lh d e (inr i) (inr j))
