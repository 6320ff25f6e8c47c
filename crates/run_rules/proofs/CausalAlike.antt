-- The answer of a causal map rests on where its nodes stand and on the forms of their texts.
use Rattle.std.proofs.Common.{◌≡◌, ◌∙◌, refl, ap, sym, subst, Bool, true, false, cond, ℕ, ◌<◌, List, [], ◌∷◌, map, inl, inr}
use Rattle.std.specs.Prelude.{◌==◌, ◌&&◌, ◌||◌, IsTrue, is_some, filter, unwrap_or}
use Rattle.std.specs.List.{AllZip, list_any}
use Rattle.std.specs.List.Sorted.{IsPermutation}
use Rattle.std.proofs.lemmas.Bool.{and_from, eq-eqb, eqb-true}
use Rattle.log_node.specs.declared.ids.Counts.{Counts}
use Rattle.log_node.specs.Vectors.{at}
use Rattle.object_form.specs.Readings.{form_of}
use Rattle.object_fold.specs.Causal.{ChainNode, FollowsAtOnce, FollowsCausally, IsCausalAnswer, IsLatestWrite, at_once, causal_value, through, written_value}
use Rattle.col_core.proofs.CallerLemmas.{In, any_in, both, contains_in, in_contains}
use Rattle.run_rules.proofs.LinesShown.{zip_before, zip_behind}

-- nodes of one place, whose texts have one form
pub record StandAlike (x y : ChainNode) : Type 0 where
  pub region : x.region ≡ y.region
  pub position : x.position ≡ y.position
  pub needs : x.needs ≡ y.needs
  pub form : form_of x.text ≡ form_of y.text

alike_back : (x y : ChainNode) → StandAlike x y → StandAlike y x
alike_back x y s = record {
  region = sym s.region;
  position = sym s.position;
  needs = sym s.needs;
  form = sym s.form;
}

follows_at_once : (x y u v : ChainNode) → StandAlike x u → StandAlike y v → FollowsAtOnce x y → FollowsAtOnce u v
follows_at_once x y u v s t (inl f) = inl (
  sym t.region ∙ (f.0 ∙ s.region),
  subst (λ (n : ℕ). n < u.position) t.position (subst (λ (n : ℕ). y.position < n) s.position f.1),
)
follows_at_once x y u v s t (inr f) =
    inr (subst (λ (n : ℕ). n < at u.needs v.region) t.position
    (subst (λ (r : ℕ). y.position < at u.needs r) t.region
    (subst (λ (c : Counts). y.position < at c y.region) s.needs f)))

written_same : (key : List ℕ) (x y : ChainNode) → StandAlike x y → written_value key x ≡ written_value key y
written_same key x y s = ap (causal_value key) s.form

module _ (xs ys : List ChainNode) (alike : AllZip StandAlike xs ys) where
  -- what follows among the ones follows among the others
  follows_alike : (x y : ChainNode) → FollowsCausally xs x y → (u v : ChainNode) → StandAlike x u → StandAlike y v
      → FollowsCausally ys u v
  follows_alike x y (at_once f) u v s t = at_once (follows_at_once x y u v s t f)
  follows_alike x y (through {between = b} c f more) u v s t =
      let z = zip_behind StandAlike xs ys alike b (in_contains xs b c) in
      through (contains_in ys z.0 z.1) (follows_at_once x b u z.0 s z.2 f) (follows_alike b y more z.0 v z.2 t)

module _ (xs ys : List ChainNode) (alike : AllZip StandAlike xs ys) (back : AllZip StandAlike ys xs) (key : List ℕ) where
  latest_alike : (x y : ChainNode) → StandAlike x y → IsLatestWrite xs key x → IsLatestWrite ys key y
  latest_alike x y s l = record {
    writes = subst (λ v. IsTrue (is_some v)) (written_same key x y s) l.writes;
    latest = λ later c w f.
        let z = zip_behind StandAlike ys xs back later (in_contains ys later c) in
        l.latest z.0 (contains_in xs z.0 z.1) (subst (λ v. IsTrue (is_some v)) (written_same key later z.0 z.2) w)
        (follows_alike ys xs back later y f z.0 x z.2 (alike_back x y s));
  }

turned : (xs ys : List ChainNode) → AllZip StandAlike xs ys → AllZip StandAlike ys xs
turned [] [] r = tt
turned [] (y ∷ ys) r = absurd r
turned (x ∷ xs) [] r = absurd r
turned (x ∷ xs) (y ∷ ys) r = (alike_back x y r.0, turned xs ys r.1)

-- two nodes stand at one place
abbrev is_there : ChainNode → ChainNode → Bool
is_there x y = (x.region == y.region) && (x.position == y.position)

there_is : (x y : ChainNode) → is_there x y ≡ true → (x.region ≡ y.region) × (x.position ≡ y.position)
there_is x y t =
    let b = both (x.region == y.region) (x.position == y.position) t in
    (eqb-true x.region y.region b.0, eqb-true x.position y.position b.1)

-- one passes where some do
any_of : {A : Type 0} (test : A → Bool) (xs : List A) → list_any test xs ≡ true → (x : A) × In x xs × (test x ≡ true)
any_of test [] e = absurd (let f : ⊥ = cc (e) in f)
any_of {A} test (x ∷ xs) e = by (test x) refl (any_of test xs) where
  by : (b : Bool) → test x ≡ b → (list_any test xs ≡ true → (y : A) × In y xs × (test y ≡ true))
      → (y : A) × In y (x ∷ xs) × (test y ≡ true)
  by true t more = (x, inl refl, t)
  by false t more =
      let z = more (sym (ap (λ (b : Bool). b || list_any test xs) t) ∙ e) in (z.0, inr z.1, z.2)

-- nodes beside one another, of which the one passes its test where the other does, write the same
values_same : (f g : ChainNode → Bool) (key : List ℕ) (xs ys : List ChainNode)
    → AllZip (λ (x y : ChainNode). StandAlike x y × (f x ≡ g y)) xs ys
    → map (λ (n : ChainNode). unwrap_or (written_value key n) []) (filter f xs)
    ≡ map (λ (n : ChainNode). unwrap_or (written_value key n) []) (filter g ys)
values_same f g key [] [] r = refl
values_same f g key [] (y ∷ ys) r = absurd r
values_same f g key (x ∷ xs) [] r = absurd r
values_same f g key (x ∷ xs) (y ∷ ys) r = by (f x) (g y) r.0.1 (values_same f g key xs ys r.1) where
  value : ChainNode → List ℕ
  value n = unwrap_or (written_value key n) []

  by : (a b : Bool) → a ≡ b → map value (filter f xs) ≡ map value (filter g ys)
      → map value (cond a (x ∷ filter f xs) (filter f xs)) ≡ map value (cond b (y ∷ filter g ys) (filter g ys))
  by true true e more =
      ap (λ v. unwrap_or v [] ∷ map value (filter f xs)) (written_same key x y r.0.0) ∙ ap (λ (l : List (List ℕ)). value y ∷ l) more
  by true false e more = absurd (let z : ⊥ = cc (e) in z)
  by false true e more = absurd (let z : ⊥ = cc (e) in z)
  by false false e more = more

-- where no two nodes stand at one place
pub causal_alike : (xs ys : List ChainNode) → AllZip StandAlike xs ys
    → ((x z : ChainNode) → In x xs → In z xs → x.region ≡ z.region → x.position ≡ z.position → x ≡ z)
    → (key : List ℕ) (values : List (List ℕ)) → IsCausalAnswer xs key values → IsCausalAnswer ys key values
causal_alike xs ys alike once key values a = record {
  is_latest = latest;
  exactly = λ y c.
      let z = zip_before StandAlike xs ys alike y (in_contains ys y c) in
      let e = a.exactly z.0 (contains_in xs z.0 z.1) in
      let same = test_same z.0 y z.1 z.2 in (
        λ t. latest_alike xs ys alike (turned xs ys alike) key z.0 y z.2 (e.0 (subst IsTrue (sym same) t)),
        λ l. subst IsTrue same (e.1 (latest_alike ys xs (turned xs ys alike) alike key y z.0 (alike_back z.0 y z.2) l)),
      );
  each_value = subst (IsPermutation values)
      (values_same a.is_latest latest key xs ys (beside xs ys (λ x i. i) alike)) a.each_value;
  sorted = a.sorted;
} where
  test : ChainNode → ChainNode → Bool
  test y x = a.is_latest x && is_there x y

  latest : ChainNode → Bool
  latest y = list_any (test y) xs

  test_same : (x y : ChainNode) → In x xs → StandAlike x y → a.is_latest x ≡ latest y
  test_same x y i s = by (a.is_latest x) refl where
    here : is_there x y ≡ true
    here = and_from (x.region == y.region) (x.position == y.position) (eq-eqb x.region y.region s.region)
        (eq-eqb x.position y.position s.position)

    by : (t : Bool) → a.is_latest x ≡ t → t ≡ latest y
    by true t = sym (any_in (test y) xs x i (and_from (a.is_latest x) (is_there x y) t here))
    by false t = other (latest y) refl where
      other : (b : Bool) → latest y ≡ b → false ≡ b
      other false e = refl
      other true e =
          let z = any_of (test y) xs e in
          let parts = both (a.is_latest z.0) (is_there z.0 y) z.2 in
          let at_place = there_is z.0 y parts.1 in
          let is : x ≡ z.0 = once x z.0 i z.1 (s.region ∙ sym at_place.0) (s.position ∙ sym at_place.1) in
          let u = ap a.is_latest is in let v = parts.0 in absurd (let f : ⊥ = cc (t, u, v) in f)

  beside : (us vs : List ChainNode) → ((x : ChainNode) → In x us → In x xs) → AllZip StandAlike us vs
      → AllZip (λ (x y : ChainNode). StandAlike x y × (a.is_latest x ≡ latest y)) us vs
  beside [] [] f r = tt
  beside [] (v ∷ vs) f r = absurd r
  beside (u ∷ us) [] f r = absurd r
  beside (u ∷ us) (v ∷ vs) f r =
      ((r.0, test_same u v (f u (inl refl)) r.0), beside us vs (λ x i. f x (inr i)) r.1)
