-- Lists that are changed from the front on.
use Rattle.std.proofs.Common.{◌≡◌, ℕ, zero, suc, ◌+◌, ◌<◌, ◌≤◌, List, [], ◌∷◌, ◌++◌, length, map, take, drop, get_or}
use Rattle.std.proofs.Common.{set, refl, ap, sym, ◌∙◌, arith}
use Rattle.std.specs.List.{All, Contains}
use Rattle.report_text.specs.declared.report.PointPiece.{PointPiece}
use Rattle.world_laws.specs.Worlds.{World}
use Rattle.log_node.specs.declared.ids.Id.{Id}
use Rattle.script_meaning.specs.Appends.{point_in}
use Rattle.script_in_order.specs.Points.{places_in, standing_in}
use Rattle.log_node.proofs.CallerLemmas.{any_default}

-- the first so many items changed
abbrev pub changed : {A : Type 0} → (A → A) → ℕ → List A → List A
changed f n xs = map f (take n xs) ++ drop n xs

pub changed_at : {A : Type 0} (f : A → A) (n : ℕ) (xs : List A) (d : A) → n < length xs
    → get_or (changed f n xs) n d ≡ get_or xs n d
changed_at f n [] d low = absurd (let g : ⊥ = omega (arith, low) in g)
changed_at f zero (x ∷ xs) d low = refl
changed_at f (suc n) (x ∷ xs) d low = changed_at f n xs d (omega (arith, low))

pub changed_more : {A : Type 0} (f : A → A) (n : ℕ) (xs : List A) (x : A) (d : A) → n < length xs → x
    ≡ f (get_or xs n d)
    → set (changed f n xs) n x ≡ changed f (n + 1) xs
changed_more f n [] x d low is = absurd (let g : ⊥ = omega (arith, low) in g)
changed_more {A} f zero (y ∷ xs) x d low is = ap (λ (z : A). z ∷ xs) is
changed_more {A} f (suc n) (y ∷ xs) x d low is =
    let e : suc n + 1 ≡ suc (n + 1) = omega arith in
    ap (λ (l : List A). f y ∷ l) (changed_more f n xs x d (omega (arith, low)) is)
    ∙ ap (λ (k : ℕ). changed f k (y ∷ xs)) (sym e)

pub changed_all : {A : Type 0} (f : A → A) (n : ℕ) (xs : List A) → length xs ≤ n → changed f n xs ≡ map f xs
changed_all f n [] low = nothing n where
  nothing : (k : ℕ) → changed f k [] ≡ []
  nothing zero = refl
  nothing (suc k) = refl
changed_all f zero (x ∷ xs) low = absurd (let g : ⊥ = omega (arith, low) in g)
changed_all {A} f (suc n) (x ∷ xs) low = ap (λ (l : List A). f x ∷ l) (changed_all f n xs (omega (arith, low)))

-- next places with their positions are points
pub points_of : (before after : World) (client : ℕ) (id : Id) (colours : List ℕ)
    → map (standing_in after client id) (places_in before client colours) ≡ map (point_in before after client id)
    colours
points_of before after client id [] = refl
points_of before after client id (c ∷ colours) =
    ap (λ (l : List PointPiece). point_in before after client id c ∷ l) (points_of before after client id colours)

pub take_front : {A : Type 0} (items more : List A) (n : ℕ) → n ≡ length items → take n (items ++ more) ≡ items
take_front [] more n e = ap (λ (k : ℕ). take k more) e
take_front (x ∷ items) more zero e = absurd (let f : ⊥ = omega (arith, e) in f)
take_front {A} (x ∷ items) more (suc n) e = ap (λ (l : List A). x ∷ l) (take_front items more n (omega (arith, e)))

-- what holds of the colours of points
pub all_placed : (P : ℕ → Type 0) (points : List PointPiece) → All P (map (λ (p : PointPiece). p.colour) points)
    → All (λ (p : PointPiece). P p.colour) points
all_placed P [] a k d low = absurd (let f : ⊥ = omega (arith, low) in f)
all_placed P (p ∷ points) a zero d low = a 0 0 (omega arith)
all_placed P (p ∷ points) a (suc k) d low =
    all_placed P points (λ j e h. a (suc j) e (omega (arith, h))) k d (omega (arith, low))

pub all_there : (P : ℕ → Type 0) (xs : List ℕ) → ((x : ℕ) → Contains xs x → P x) → All P xs
all_there P xs each k d low = each (get_or xs k d) (k, low, any_default xs k (get_or xs k d) d low)

pub colours_of_places : (w : World) (client : ℕ) (colours : List ℕ)
    → map (λ (p : PointPiece). p.colour) (places_in w client colours) ≡ colours
colours_of_places w client [] = refl
colours_of_places w client (c ∷ colours) = ap (λ (l : List ℕ). c ∷ l) (colours_of_places w client colours)
