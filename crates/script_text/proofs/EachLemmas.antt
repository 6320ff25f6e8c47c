-- Reading one field after another, as a loop does.
use Rattle.std.proofs.Common.{◌≡◌, ℕ, ◌+◌, ◌≤◌, ◌<◌, Bool, true, false, not, List, [], ◌∷◌, ◌++◌, length, get_or, take, drop, Result, Ok, Err, refl, sym, ap, ◌∙◌, append_assoc}
use Rattle.std.proofs.lemmas.List.{append-nil, drop_more, drop_all, get_or-map, length-map, take-map}
use Rattle.std.specs.Borrow.{Bor}
use Rattle.script_text.specs.declared.script.Reason.{Reason}
use Rattle.script_text.specs.declared.script.Reason.TheVariants as reasons
use Rattle.script_text.specs.declared.fault.Fault.{Fault}
use Rattle.script_text.specs.declared.fault.Fault.TheVariants as faults
use Rattle.script_text.specs.Pieces.{is_among, is_name}
use Rattle.script_text.specs.Readings.{◌>>=◌, refuse, Fails, each_at, new_name_at, fields_in}

abbrev pub Reader : Type 0 → Type 0
Reader X = List (List ℕ) → List ℕ → Result X Reason

-- what was read before, and what is still read
abbrev pub with_front : {X : Type 0} → List X → Result (List X) Reason → Result (List X) Reason
with_front front reading = reading >>= λ others. Ok (front ++ others)

regroup : {X : Type 0} (front : List X) (x : X) (reading : Result (List X) Reason) → with_front front (reading >>= λ others. Ok (x ∷ others)) ≡ with_front (front ++ x ∷ []) reading
regroup front x (Ok others) = ap (λ xs. Ok xs) (sym (append_assoc front (x ∷ []) others))
regroup front x (Err why) = refl

pub each_step : {X : Type 0} (one : Reader X) (earlier : List (List ℕ)) (front : List X) (field : List ℕ) (fields : List (List ℕ)) (x : X) → one earlier field ≡ Ok x
    → with_front front (each_at one earlier (field ∷ fields)) ≡ with_front (front ++ x ∷ []) (each_at one (earlier ++ field ∷ []) fields)
unfolding each_at
each_step one earlier front field fields x e = rw e (regroup front x (each_at one (earlier ++ field ∷ []) fields))

pub each_more : {X : Type 0} (one : Reader X) (earlier all : List (List ℕ)) (front : List X) (i : ℕ) (field : List ℕ) (x : X) (total : Result (List X) Reason)
    → i < length all → get_or all i [] ≡ field → one earlier field ≡ Ok x
    → with_front front (each_at one earlier (drop i all)) ≡ total → with_front (front ++ x ∷ []) (each_at one (earlier ++ field ∷ []) (drop (i + 1) all)) ≡ total
each_more one earlier all front i field x total lt at e so_far =
    let split : drop i all ≡ field ∷ drop (i + 1) all = drop_more all i [] lt ∙ ap (λ f. f ∷ drop (i + 1) all) at in
    sym (each_step one earlier front field (drop (i + 1) all) x e) ∙ ap (λ fields. with_front front (each_at one earlier fields)) (sym split) ∙ so_far

pub fails_on : {X : Type 0} (one : Reader X) (earlier : List (List ℕ)) (front : List X) (field : List ℕ) (fields : List (List ℕ)) (why : Reason) → one earlier field ≡ Err why
    → with_front front (each_at one earlier (field ∷ fields)) ≡ Err why
unfolding each_at
fails_on one earlier front field fields why e = rw e refl

pub each_ends : {X : Type 0} (one : Reader X) (earlier all : List (List ℕ)) (front : List X) (i : ℕ) (field : List ℕ) (fault : Fault) (total : Result (List X) Reason)
    → i < length all → get_or all i [] ≡ field → Fails fault (one earlier field)
    → with_front front (each_at one earlier (drop i all)) ≡ total → Fails fault total
each_ends one earlier all front i field faults.NoMemory total lt at e so_far = tt
each_ends one earlier all front i field (faults.Refused why) total lt at e so_far =
    let split : drop i all ≡ field ∷ drop (i + 1) all = drop_more all i [] lt ∙ ap (λ f. f ∷ drop (i + 1) all) at in
    sym so_far ∙ ap (λ fields. with_front front (each_at one earlier fields)) split ∙ fails_on one earlier front field (drop (i + 1) all) why e

pub done_on : {X : Type 0} (one : Reader X) (earlier : List (List ℕ)) (front : List X) → with_front front (each_at one earlier []) ≡ Ok front
unfolding each_at
done_on one earlier front = ap (λ xs. Ok xs) (append-nil front)

pub each_done : {X : Type 0} (one : Reader X) (earlier all : List (List ℕ)) (front : List X) (i : ℕ) (total : Result (List X) Reason) → length all ≤ i
    → with_front front (each_at one earlier (drop i all)) ≡ total → total ≡ Ok front
each_done one earlier all front i total le so_far =
    sym so_far ∙ ap (λ fields. with_front front (each_at one earlier fields)) (drop_all i all le) ∙ done_on one earlier front

pub each_begins : {X : Type 0} (one : Reader X) (all : List (List ℕ)) → with_front [] (each_at one [] all) ≡ each_at one [] all
each_begins one all = with_none (each_at one [] all) where
  with_none : {X : Type 0} (reading : Result (List X) Reason) → with_front [] reading ≡ reading
  with_none (Ok xs) = refl
  with_none (Err why) = refl

pub refused_ok : {A : Type 0} (b : Bool) (why : Reason) (reading : Result A Reason) (x : A) → refuse b why reading ≡ Ok x → (b ≡ false) × (reading ≡ Ok x)
refused_ok true why reading x e = absurd cc
refused_ok false why reading x e = (refl, e)

abbrev pub done : {A : Type 0} → A → Result A Reason
done x = Ok x

pub ok_is : {A : Type 0} (x y : A) → done x ≡ done y → x ≡ y
ok_is x y e = cc

pub bind_ok : {A B : Type 0} (r : Result A Reason) (f : A → Result B Reason) (y : B) → (r >>= f) ≡ Ok y → (x : A) × (r ≡ Ok x) × (f x ≡ Ok y)
bind_ok (Ok x) f y e = (x, refl, e)
bind_ok (Err d) f y e = absurd cc

-- a new name is the field itself
pub new_name_is : (names : List (List ℕ)) (field name : List ℕ) → new_name_at names field ≡ Ok name → name ≡ field
unfolding new_name_at
new_name_is names field name e =
    let a = refused_ok (not (is_name field)) reasons.BadName (refuse (is_among names field) reasons.NameRepeated (Ok field)) name e in
    let b = refused_ok (is_among names field) reasons.NameRepeated (Ok field) name a.1 in
    sym (ok_is field name b.1)

pub fields_get : (fields : List (Bor (List ℕ))) (i : ℕ) (d : Bor (List ℕ)) → i < length fields → get_or (fields_in fields) i [] ≡ (get_or fields i d).now
fields_get fields i d lt = get_or-map (λ (f : Bor (List ℕ)). f.now) fields i d [] lt

pub length-fields_in : (fields : List (Bor (List ℕ))) → length (fields_in fields) ≡ length fields
length-fields_in fields = length-map fields (λ f. f.now)

pub fields_take : (fields : List (Bor (List ℕ))) (i : ℕ) → fields_in (take i fields) ≡ take i (fields_in fields)
fields_take fields i = sym (take-map (λ (f : Bor (List ℕ)). f.now) i fields)
