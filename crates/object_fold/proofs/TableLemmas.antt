-- Values by keys as a map of the kit has them.
use Rattle.std.proofs.Common.{◌≡◌, ℕ, Bool, true, false, cond, List, [], ◌∷◌, Option, Some, refl, ap, sym, ◌∙◌}
use Rattle.std.specs.List.{find}
use Rattle.std.specs.Map.{lookup}
use Rattle.std.specs.Option.{option_map}
use Rattle.std.specs.Cmp.Lexicographic.{nat_list_eq_equiv}
use Rattle.std.specs.Str.{bytes_eq}
use Rattle.object_fold.specs.Tables.{value_at}

-- what stands at a key is what the map finds
pub value_found : {V : Type 0} (es : List (List ℕ × V)) (key : List ℕ) → value_at es key ≡ lookup (bytes_eq key) es
value_found [] key = refl
value_found {V} (e ∷ es) key =
    by (bytes_eq e.0 key) (value_found es key)
    ∙ ap (λ (b : Bool). cond b (Some e.1) (lookup (bytes_eq key) es)) (nat_list_eq_equiv.symm e.0 key) where
      by : (b : Bool) → value_at es key ≡ lookup (bytes_eq key) es
          → option_map (λ (x : List ℕ × V). x.1) (cond b (Some e) (find (λ x. bytes_eq x.0 key) es))
          ≡ cond b (Some e.1) (lookup (bytes_eq key) es)
      by true rest = refl
      by false rest = rest

-- and so after a key is set or removed
pub value_set : {V : Type 0} (old new : List (List ℕ × V)) (key other : List ℕ) (value : Option V)
    → lookup (bytes_eq other) new ≡ cond (bytes_eq key other) value (lookup (bytes_eq other) old)
    → value_at new other ≡ cond (bytes_eq key other) value (value_at old other)
value_set old new key other value is =
    value_found new other
    ∙ (is ∙ ap (cond (bytes_eq key other) value) (sym (value_found old other)))
