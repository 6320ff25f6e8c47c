-- Keys, pairs, numbers and objects in a line are read exactly.
use Rattle.std.proofs.Common.{◌≡◌, ℕ, zero, suc, ◌<◌, Bool, true, false, not, ◌&&◌, List, [], ◌∷◌, ◌++◌, length, get_or, map, Option, None, Some, Result, Ok, Err, refl, sym, ap, ◌∙◌, inl, inr, arith}
use Rattle.std.specs.Prelude.{slice_get}
use Rattle.std.specs.List.{list_all}
use Rattle.std.specs.Option.{option_map}
use Rattle.std.specs.Str.{bytes_eq}
use Rattle.std.proofs.lemmas.Bool.{cases_Bool, and_parts, not-true, not-false}
use Rattle.std.proofs.lemmas.Slice.Eq.{bytes_eq-Decides}
use Rattle.std.proofs.lemmas.List.{map_push, length-map}
use Rattle.log_node.specs.declared.forms.Pair.{Pair}
use Rattle.script_text.specs.declared.script.Object.{Object}
use Rattle.script_text.specs.declared.script.Reason.{Reason}
use Rattle.script_text.specs.declared.script.Reason.TheVariants as reasons
use Rattle.script_text.specs.declared.table.Kinds.{Kinds}
use Rattle.script_text.specs.Table.{is_of}
use Rattle.script_text.specs.Pieces.{is_key, is_path, is_number, number_value, is_among, number_of, name_of}
use Rattle.script_text.specs.Grammar.{are_new_names, are_new_keys, is_one_of, has_equals, key_in, value_in, pair_of, SpellsNumber}
use Rattle.script_text.specs.Readings.{◌>>=◌, refuse, each_at, value_at, path_at, key_at, new_pair_at, pair_at, digits_at, object_at, with_none, with_one, with_two}
use Rattle.script_text.proofs.EachLemmas.{refused_ok, bind_ok, ok_is}
use Rattle.script_text.proofs.NameLemmas.{suc_some, number_found, each_ok_cons, each_ok_nil, each_cons, each_nil, first_apart, new_parts}

pub value_ok : (field value : List ℕ) → value_at field ≡ Ok value → (is_key field ≡ true) × (value ≡ field)
unfolding value_at
value_ok field value e =
    let r = refused_ok (not (is_key field)) reasons.BadValue (Ok field) value e in
    (not-false (is_key field) r.0, sym (ok_is field value r.1))

pub value_again : (field : List ℕ) → is_key field ≡ true → value_at field ≡ Ok field
unfolding value_at
value_again field h = rw h refl

pub path_ok : (root : Bool) (field path : List ℕ) → path_at root field ≡ Ok path → (is_path root field ≡ true) × (path ≡ field)
unfolding path_at
path_ok root field path e =
    let r = refused_ok (not (is_path root field)) reasons.BadPath (Ok field) path e in
    (not-false (is_path root field) r.0, sym (ok_is field path r.1))

pub path_again : (root : Bool) (field : List ℕ) → is_path root field ≡ true → path_at root field ≡ Ok field
unfolding path_at
path_again root field h = rw h refl

pub key_ok : (earlier : List (List ℕ)) (field key : List ℕ) → key_at earlier field ≡ Ok key → (is_key field ≡ true) × (is_among earlier field ≡ false) × (key ≡ field)
unfolding key_at
key_ok earlier field key e =
    let a = refused_ok (not (is_key field)) reasons.BadKey (refuse (is_among earlier field) reasons.KeyRepeated (Ok field)) key e in
    let b = refused_ok (is_among earlier field) reasons.KeyRepeated (Ok field) key a.1 in
    (not-false (is_key field) a.0, b.0, sym (ok_is field key b.1))

pub key_again : (earlier : List (List ℕ)) (field : List ℕ) → is_key field ≡ true → is_among earlier field ≡ false → key_at earlier field ≡ Ok field
unfolding key_at
key_again earlier field a b = rw (a, b) refl

key_parts : (earlier keys : List (List ℕ)) (key : List ℕ) → are_new_keys earlier (key ∷ keys) ≡ true → (is_key key ≡ true) × (is_among earlier key ≡ false) × (are_new_keys (earlier ++ key ∷ []) keys ≡ true)
key_parts earlier keys key h =
    let a = and_parts (is_key key && not (is_among earlier key)) (are_new_keys (earlier ++ key ∷ []) keys) h in
    let b = and_parts (is_key key) (not (is_among earlier key)) a.0 in
    (b.0, not-true (is_among earlier key) b.1, a.1)

pub keys_ok : (earlier fields keys : List (List ℕ)) → each_at key_at earlier fields ≡ Ok keys → (keys ≡ fields) × (are_new_keys earlier fields ≡ true)
keys_ok earlier [] keys e = (each_ok_nil key_at earlier keys e, refl)
keys_ok earlier (field ∷ fields) keys e =
    let c = each_ok_cons key_at earlier field fields keys e in
    let h = key_ok earlier field c.0 c.2 in
    let r = keys_ok (earlier ++ field ∷ []) fields c.1 c.3 in
    (c.4 ∙ ap (λ f. f ∷ c.1) h.2 ∙ ap (λ fs. field ∷ fs) r.0, rw (h.0, h.1, r.1) refl)

pub keys_again : (earlier fields : List (List ℕ)) → are_new_keys earlier fields ≡ true → each_at key_at earlier fields ≡ Ok fields
keys_again earlier [] h = each_nil key_at earlier
keys_again earlier (field ∷ fields) h =
    let p = key_parts earlier fields field h in
    each_cons key_at earlier field fields field fields (key_again earlier field p.0 p.1) (keys_again (earlier ++ field ∷ []) fields p.2)

-- ---- pairs

pair_ok : (earlier : List (List ℕ)) (field : List ℕ) (pair : Pair) → new_pair_at earlier field ≡ Ok pair
    → (has_equals field ≡ true) × (is_key (key_in field) ≡ true) × (is_among earlier (key_in field) ≡ false) × (is_key (value_in field) ≡ true) × (pair ≡ pair_of field)
unfolding new_pair_at
pair_ok earlier field pair e =
    let a = refused_ok (not (has_equals field)) reasons.BadForm (key_at earlier (key_in field) >>= λ key. value_at (value_in field) >>= λ value. Ok (record { key = key; value = value })) pair e in
    let b = bind_ok (key_at earlier (key_in field)) (λ key. value_at (value_in field) >>= λ value. Ok (record { key = key; value = value })) pair a.1 in
    let c = bind_ok (value_at (value_in field)) (λ value. Ok (record { key = b.0; value = value })) pair b.2 in
    let k = key_ok earlier (key_in field) b.0 b.1 in
    let v = value_ok (value_in field) c.0 c.1 in
    let made : Pair = record { key = b.0; value = c.0 } in
    (not-false (has_equals field) a.0, k.0, k.1, v.0, sym (ok_is made pair c.2) ∙ ap (λ key. made_of key c.0) k.2 ∙ ap (made_of (key_in field)) v.1) where
      made_of : List ℕ → List ℕ → Pair
      made_of key value = record { key = key; value = value }

pub pair_key_is : (earlier : List (List ℕ)) (field : List ℕ) (pair : Pair) → new_pair_at earlier field ≡ Ok pair → pair.key ≡ key_in field
pair_key_is earlier field pair e = ap (λ (p : Pair). p.key) (pair_ok earlier field pair e).4

pair_again : (earlier : List (List ℕ)) (field : List ℕ) → has_equals field ≡ true → is_key (key_in field) ≡ true → is_among earlier (key_in field) ≡ false → is_key (value_in field) ≡ true
    → new_pair_at earlier field ≡ Ok (pair_of field)
unfolding new_pair_at
pair_again earlier field a b c d = rw (a, key_again earlier (key_in field) b c, value_again (value_in field) d) refl

keys_of : List Pair → List (List ℕ)
keys_of pairs = map (λ p. p.key) pairs

-- what the fields of pairs have
pub record ArePairFields (earlier fields : List (List ℕ)) : Type 0 where
  pub equals : list_all has_equals fields ≡ true
  pub keys : are_new_keys (map key_in earlier) (map key_in fields) ≡ true
  pub values : list_all (λ field. is_key (value_in field)) fields ≡ true

pub pairs_ok : (earlier fields : List (List ℕ)) (pairs : List Pair) → each_at pair_at earlier fields ≡ Ok pairs → (pairs ≡ map pair_of fields) × ArePairFields earlier fields
pairs_ok earlier [] pairs e = (each_ok_nil pair_at earlier pairs e, record { equals = refl; keys = refl; values = refl })
pairs_ok earlier (field ∷ fields) pairs e =
    let c = each_ok_cons pair_at earlier field fields pairs e in
    let h = pair_ok (map key_in earlier) field c.0 c.2 in
    let r = pairs_ok (earlier ++ field ∷ []) fields c.1 c.3 in
    let later = rw map_push at r.1.keys in (
      c.4 ∙ ap (λ p. p ∷ c.1) h.4 ∙ ap (λ ps. pair_of field ∷ ps) r.0,
      record {
        equals = rw (h.0, r.1.equals) refl;
        keys = rw (h.1, h.2, later) refl;
        values = rw (h.3, r.1.values) refl;
      },
    )

pub pairs_again : (earlier fields : List (List ℕ)) → ArePairFields earlier fields → each_at pair_at earlier fields ≡ Ok (map pair_of fields)
pairs_again earlier [] h = each_nil pair_at earlier
pairs_again earlier (field ∷ fields) h =
    let a = and_parts (has_equals field) (list_all has_equals fields) h.equals in
    let k = key_parts (map key_in earlier) (map key_in fields) (key_in field) h.keys in
    let v = and_parts (is_key (value_in field)) (list_all (λ field. is_key (value_in field)) fields) h.values in
    let later : are_new_keys (map key_in (earlier ++ field ∷ [])) (map key_in fields) ≡ true = rw map_push k.2 in
    each_cons pair_at earlier field fields (pair_of field) (map pair_of fields) (pair_again (map key_in earlier) field a.0 k.0 k.1 v.0)
    (pairs_again (earlier ++ field ∷ []) fields (record { equals = a.1; keys = later; values = v.1 }))

-- ---- numbers

pub digits_ok : (most : ℕ) (field : List ℕ) (n : ℕ) → digits_at most field ≡ Ok n → SpellsNumber most field n
unfolding digits_at
digits_ok most field n e =
    let r = refused_ok (not (is_number most field)) reasons.BadNumber (Ok (number_value field)) n e in
    record { digits = not-false (is_number most field) r.0; value = sym (ok_is (number_value field) n r.1) }

pub digits_again : (most : ℕ) (field : List ℕ) (n : ℕ) → SpellsNumber most field n → digits_at most field ≡ Ok n
unfolding digits_at
digits_again most field n s = rw (s.digits, s.value) refl

-- ---- objects

abbrev pub object_names_of : List Object → List (List ℕ)
object_names_of os = map (λ (o : Object). o.name) os

pub object_ok : (of : Kinds) (os : List Object) (field : List ℕ) (n : ℕ) → object_at of os field ≡ Ok n → (is_one_of of (slice_get os n) ≡ true) × (field ≡ name_of (object_names_of os) n)
unfolding object_at
object_ok of [] field n e = absurd cc
object_ok of (o ∷ os) field n e =
    elim (cases_Bool (bytes_eq field o.name)) [
      | inl same ↦
          let r = refused_ok (not (is_of of o.kind)) reasons.WrongObject (Ok 0) n (rw same at e) in
          let z : 0 ≡ n = ok_is 0 n r.1 in
          rw (← z) (not-false (is_of of o.kind) r.0, (bytes_eq-Decides field o.name).0 same)
      | inr apart ↦
          let b = bind_ok (object_at of os field) (λ m. Ok (suc m)) n (rw apart at e) in
          let r = object_ok of os field b.0 b.1 in
          let z : suc b.0 ≡ n = ok_is (suc b.0) n b.2 in
          rw (← z) r
    ]

pub object_within : (of : Kinds) (os : List Object) (n : ℕ) → is_one_of of (slice_get os n) ≡ true → n < length (object_names_of os)
object_within of [] zero h = absurd cc
object_within of [] (suc n) h = absurd cc
object_within of (o ∷ os) zero h = omega arith
object_within of (o ∷ os) (suc n) h = let r = object_within of os n h in omega arith

pub object_again : (earlier : List (List ℕ)) (of : Kinds) (os : List Object) (n : ℕ) → are_new_names earlier (object_names_of os) ≡ true → is_one_of of (slice_get os n) ≡ true
    → object_at of os (name_of (object_names_of os) n) ≡ Ok n
unfolding object_at
object_again earlier of [] n fresh h = absurd (let r = object_within of [] n h in omega arith)
object_again earlier of (o ∷ os) zero fresh h = rw ((bytes_eq-Decides o.name o.name).1 refl, h) refl
object_again earlier of (o ∷ os) (suc n) fresh h =
    let later = object_again (earlier ++ o.name ∷ []) of os n (new_parts earlier (object_names_of os) o.name fresh).2 h in
    rw (first_apart earlier (object_names_of os) o.name n fresh (object_within of os n h), later) refl

-- the number of an object is that of its name
pub object_number : (of : Kinds) (os : List Object) (field : List ℕ) (n : ℕ) → object_at of os field ≡ Ok n → number_of (object_names_of os) field ≡ Some n
unfolding object_at
object_number of [] field n e = absurd cc
object_number of (o ∷ os) field n e =
    elim (cases_Bool (bytes_eq field o.name)) [
      | inl same ↦
          let r = refused_ok (not (is_of of o.kind)) reasons.WrongObject (Ok 0) n (rw same at e) in
          rw same (ap (λ k. Some k) (ok_is 0 n r.1))
      | inr apart ↦
          let b = bind_ok (object_at of os field) (λ m. Ok (suc m)) n (rw apart at e) in
          let r = object_number of os field b.0 b.1 in
          rw (apart, r) (ap (λ k. Some k) (ok_is (suc b.0) n b.2))
    ]

refused_suc : (b : Bool) (why : Reason) (i : ℕ) → (refuse b why (Ok i) >>= λ n. Ok (suc n)) ≡ refuse b why (Ok (suc i))
refused_suc true why i = refl
refused_suc false why i = refl

-- the first object of the name is the one that is read
pub object_found : (of : Kinds) (os : List Object) (field : List ℕ) (i : ℕ) (o : Object) → number_of (object_names_of os) field ≡ Some i → get_or os i o ≡ o
    → object_at of os field ≡ refuse (not (is_of of o.kind)) reasons.WrongObject (Ok i)
unfolding object_at
object_found of [] field i o e there = absurd cc
object_found of (p ∷ os) field i o e there = elim (cases_Bool (bytes_eq field p.name)) [
  | inl same ↦
      let first : Some 0 ≡ Some i = rw same at e in
      let z : 0 ≡ i = cc in
      let here : p ≡ o = rw (← z) at there in
      rw (← z, same, here) refl
  | inr apart ↦
      let m = suc_some (number_of (object_names_of os) field) i (rw apart at e) in
      let later = object_found of os field m.0 o m.1 (rw m.2 at there) in
      rw (m.2, apart, later) (refused_suc (not (is_of of o.kind)) reasons.WrongObject m.0)
]

pub object_unknown : (of : Kinds) (os : List Object) (field : List ℕ) → number_of (object_names_of os) field ≡ None → object_at of os field ≡ Err reasons.UnknownObject
unfolding object_at
object_unknown of [] field e = refl
object_unknown of (o ∷ os) field e = elim (cases_Bool (bytes_eq field o.name)) [
  | inl same ↦ absurd (no_zero 0 (rw same at e))
  | inr apart ↦ rw (apart, object_unknown of os field (none_more (number_of (object_names_of os) field) (rw apart at e))) refl
] where
  no_zero : (n : ℕ) → Some n ≡ None → ⊥
  no_zero n e = cc

  none_more : (o : Option ℕ) → option_map suc o ≡ None → o ≡ None
  none_more None e = refl
  none_more (Some j) e = absurd cc

-- a number that is found is that of an object
pub object_below : (os : List Object) (field : List ℕ) (i : ℕ) → number_of (object_names_of os) field ≡ Some i → i < length os
object_below os field i e = let below = (number_found (object_names_of os) field i e).0 in let same = length-map os (λ (o : Object). o.name) in omega arith

-- ---- so many fields

pub none_ok : {A : Type 0} (x y : A) (args : List (List ℕ)) → with_none (Ok x) args ≡ Ok y → (args ≡ []) × (y ≡ x)
none_ok x y [] e = (refl, sym (ok_is x y e))
none_ok x y (a ∷ args) e = absurd cc

pub one_ok : {A : Type 0} (f : List ℕ → Result A Reason) (args : List (List ℕ)) (x : A) → with_one f args ≡ Ok x → (a : List ℕ) × (args ≡ a ∷ []) × (f a ≡ Ok x)
one_ok f [] x e = absurd cc
one_ok f (a ∷ []) x e = (a, refl, e)
one_ok f (a ∷ b ∷ args) x e = absurd cc

pub two_ok : {A : Type 0} (f : List ℕ → List ℕ → Result A Reason) (args : List (List ℕ)) (x : A) → with_two f args ≡ Ok x → (a b : List ℕ) × (args ≡ a ∷ b ∷ []) × (f a b ≡ Ok x)
two_ok f [] x e = absurd cc
two_ok f (a ∷ []) x e = absurd cc
two_ok f (a ∷ b ∷ []) x e = (a, b, refl, e)
two_ok f (a ∷ b ∷ c ∷ args) x e = absurd cc
