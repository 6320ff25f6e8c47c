-- The folds of a causal map among those of all objects.
use Rattle.std.proofs.Common.{◌≡◌, ◌⊎◌, inl, inr, ℕ, ◌<◌, List, [], ◌∷◌, ◌++◌, length, get_or, set, Option, Some, None, refl, ap, sym, subst, ◌∙◌, arith, length-append}
use Rattle.std.specs.Prelude.{slice_get}
use Rattle.std.specs.Option.{option_map}
use Rattle.std.proofs.lemmas.Option.{slice_get-get_or}
use Rattle.object_fold.specs.declared.causal_map.CausalMap.{CausalMap}
use Rattle.object_fold.specs.declared.kept_line.KeptLine.{KeptLine}
use Rattle.object_fold.specs.declared.shard_map.ShardMap.{ShardMap}
use Rattle.world_laws.specs.Worlds.{World}
use Rattle.lawful_run.proofs.CallerLemmas.{get_within}
use Rattle.script_text.specs.declared.script.Kind.{Kind}
use Rattle.script_text.specs.declared.script.Kind.TheVariants as kinds
use Rattle.script_text.specs.declared.script.Object.{Object}
use Rattle.script_meaning.specs.States.{kind_in}
use Rattle.script_in_order.specs.declared.folds.Fold.{Fold}
use Rattle.script_in_order.specs.declared.folds.Fold.TheVariants as folds
use Rattle.script_in_order.specs.CausalFolds.{AreCausalFolds, IsCausalFold}
use Rattle.script_in_order.specs.Folds.{IsShardFold, IsFoldOf, AreFolded}
use Rattle.script_in_order.proofs.FoldsKept.{folds_with}
pub use Rattle.log_node.proofs.CallerLemmas.{get_push as pushed}

-- the fold is of a causal map on the colour, and right
abbrev pub IsCausalOf : World → ℕ → Fold → Type 0
IsCausalOf w colour (folds.Map shards) = ⊥
IsCausalOf w colour (folds.Queue queue) = ⊥
IsCausalOf w colour (folds.Causal regions) = AreCausalFolds w colour regions.items
IsCausalOf w colour (folds.Tx fold) = ⊥
IsCausalOf w colour (folds.Tree fold) = ⊥

-- it is no other
pub no_other : (w : World) (colour : ℕ) (fold : Fold) → IsCausalOf w colour fold
    → ((regions : _) → fold ≡ folds.Causal regions → ⊥) → ⊥
no_other w colour (folds.Map shards) f none = f
no_other w colour (folds.Queue queue) f none = f
no_other w colour (folds.Causal regions) f none = none regions refl
no_other w colour (folds.Tx fold) f none = f
no_other w colour (folds.Tree fold) f none = f

by_kind : (w : World) (colour : ℕ) (fold : Fold) → IsFoldOf w (kinds.Causal colour) fold → IsCausalOf w colour fold
by_kind w colour (folds.Map shards) (home, colours, is, f) = absurd (let g : ⊥ = cc in g)
by_kind w colour (folds.Queue queue) (home, other, is, f) = absurd (let g : ⊥ = cc in g)
by_kind w colour (folds.Causal regions) (other, is, f) =
    let e : other ≡ colour = cc in subst (λ (c : ℕ). AreCausalFolds w c regions.items) e f
by_kind w colour (folds.Tx fold) (is, f) = absurd (let g : ⊥ = cc in g)
by_kind w colour (folds.Tree fold) (home, colours, is, f) = absurd (let g : ⊥ = cc in g)

object_of : (found : Option Object) (kind : Kind) → option_map (λ (o : Object). o.kind) found ≡ Some kind
    → (o : Object) × (found ≡ Some o) × (o.kind ≡ kind)
object_of None kind is = absurd (let f : ⊥ = cc in f)
object_of (Some o) kind is = (o, refl, let e : o.kind ≡ kind = cc in e)

-- the number is one of an object, so there is a fold
pub object_within : (w : World) (objects : List Object) (all : List Fold) (object colour : ℕ) → AreFolded w objects all
    → kind_in objects object ≡ Some (kinds.Causal colour) → object < length all
object_within w objects all object colour f is =
    let o = object_of (slice_get objects object) (kinds.Causal colour) is in
    let lt = get_within objects object o.0 o.1 in
    let e = f.many in omega (arith, lt, e)

-- what stands there
-- an object is of the kind that is got from the list
pub kind_at : (objects : List Object) (n : ℕ) (o : Object) (kind : Kind) → n < length objects
    → (get_or objects n o).kind ≡ kind → kind_in objects n ≡ Some kind
kind_at objects n o kind lt is =
    ap (option_map (λ (x : Object). x.kind)) (slice_get-get_or objects n o lt) ∙ ap (λ (k : Kind). Some k) is

pub there_in : {A : Type 0} (xs : List A) (n : ℕ) (x : A) → n < length xs → x ≡ get_or xs n x → slice_get xs n ≡ Some x
there_in {A} xs n x lt is = slice_get-get_or xs n x lt ∙ ap (λ (y : A). Some y) (sym is)

pub causal_of : (w : World) (objects : List Object) (all : List Fold) (object colour : ℕ) (fold : Fold)
    → AreFolded w objects all → kind_in objects object ≡ Some (kinds.Causal colour) → fold ≡ get_or all object fold
    → IsCausalOf w colour fold
causal_of w objects all object colour fold f is there =
    let o = object_of (slice_get objects object) (kinds.Causal colour) is in
    by_kind w colour fold
    (subst (λ (k : Kind). IsFoldOf w k fold) o.2
    (f.each object o.0 fold o.1 (there_in all object fold (object_within w objects all object colour f is) there)))

-- one region's fold in place of another
pub causal_put : (w : World) (objects : List Object) (all : List Fold) (object colour : ℕ) (fold : Fold)
    → AreFolded w objects all → kind_in objects object ≡ Some (kinds.Causal colour) → IsCausalOf w colour fold
    → AreFolded w objects (set all object fold)
causal_put w objects all object colour fold f is right =
    folds_with w objects all object fold f (λ o at. by_fold o at fold right) where
      same_kind : (o : Object) → slice_get objects object ≡ Some o → o.kind ≡ kinds.Causal colour
      same_kind o at =
          let e : Some o.kind ≡ Some (kinds.Causal colour) =
          sym (ap (λ (x : Option Object). option_map (λ (y : Object). y.kind) x) at) ∙ is in
          cc

      by_fold : (o : Object) → slice_get objects object ≡ Some o → (x : Fold) → IsCausalOf w colour x → IsFoldOf w o.kind x
      by_fold o at (folds.Map shards) r = absurd r
      by_fold o at (folds.Queue queue) r = absurd r
      by_fold o at (folds.Causal regions) r = (colour, same_kind o at, r)
      by_fold o at (folds.Tx fold) r = absurd r
      by_fold o at (folds.Tree fold) r = absurd r

-- one object more, with its fold
pub folds_more : (w : World) (objects : List Object) (all : List Fold) (o : Object) (fold : Fold) → AreFolded w objects all
    → IsFoldOf w o.kind fold → AreFolded w (objects ++ o ∷ []) (all ++ fold ∷ [])
folds_more w objects all o fold f right = record {
  many = let a = length-append all (fold ∷ []) in
      let b = length-append objects (o ∷ []) in let c = f.many in omega (arith, a, b, c);
  each = λ n p g at there. turn n p g (pushed objects o n p at) (pushed all fold n g there);
} where
  turn : (n : ℕ) (p : Object) (g : Fold) → (slice_get objects n ≡ Some p) ⊎ ((n ≡ length objects) × (o ≡ p))
      → (slice_get all n ≡ Some g) ⊎ ((n ≡ length all) × (fold ≡ g)) → IsFoldOf w p.kind g
  turn n p g (inl at) (inl there) = f.each n p g at there
  turn n p g (inl at) (inr there) =
      let a = get_within objects n p at in let b = there.0 in let c = f.many in absurd (let x : ⊥ = omega (arith, a, b, c) in x)
  turn n p g (inr at) (inl there) =
      let a = get_within all n g there in let b = at.0 in let c = f.many in absurd (let x : ⊥ = omega (arith, a, b, c) in x)
  turn n p g (inr at) (inr there) =
      subst (IsFoldOf w p.kind) there.1 (subst (λ (x : Object). IsFoldOf w x.kind fold) at.1 right)

-- one shard more of a map
pub shard_more : (w : World) (home : ℕ) (colours : List ℕ) (shards : List (KeptLine ShardMap))
    (fold : KeptLine ShardMap)
    → ((c : ℕ) (other : KeptLine ShardMap) → slice_get shards c ≡ Some other → IsShardFold w home colours c other)
    → IsShardFold w home colours (length shards) fold → (c : ℕ) (other : KeptLine ShardMap)
    → slice_get (shards ++ fold ∷ []) c ≡ Some other → IsShardFold w home colours c other
shard_more w home colours shards fold each right c other there = turn (pushed shards fold c other there) where
  turn : (slice_get shards c ≡ Some other) ⊎ ((c ≡ length shards) × (fold ≡ other)) → IsShardFold w home colours c other
  turn (inl old) = each c other old
  turn (inr new) =
      subst (IsShardFold w home colours c) new.1 (subst (λ (n : ℕ). IsShardFold w home colours n fold) (sym new.0) right)

-- one region more of a causal map
pub causal_more : (folds : List CausalMap) (new : CausalMap)
    → ((n : ℕ) (fold : CausalMap) → slice_get folds n ≡ Some fold → (w : World) (own colour : ℕ) → IsCausalFold w own colour fold)
    → ((w : World) (own colour : ℕ) → IsCausalFold w own colour new) → (n : ℕ) (fold : CausalMap)
    → slice_get (folds ++ new ∷ []) n ≡ Some fold → (w : World) (own colour : ℕ) → IsCausalFold w own colour fold
causal_more folds new each right n fold there w own colour = turn (pushed folds new n fold there) where
  turn : (slice_get folds n ≡ Some fold) ⊎ ((n ≡ length folds) × (new ≡ fold)) → IsCausalFold w own colour fold
  turn (inl old) = each n fold old w own colour
  turn (inr last) = subst (IsCausalFold w own colour) last.1 (right w own colour)
