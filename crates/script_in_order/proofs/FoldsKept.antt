-- Folds stay right while the world goes on.
use Rattle.std.proofs.Common.{◌≡◌, true, false, ℕ, zero, suc, ◌<◌, ◌≤◌, List, [], ◌∷◌, ◌++◌, length, map, take, Vec, Global, Option, Some, None, get_or, set, length-set, refl, ap, sym, subst, ◌∙◌, inl, inr, ◌⊎◌, arith}
use Rattle.std.specs.Prelude.{◌≢◌, slice_get, slice_index}
use Rattle.std.specs.List.{Contains}
use Rattle.std.specs.Option.{option_map}
use Rattle.std.specs.Vec.{with_item}
use Rattle.std.proofs.lemmas.Option.{slice_get-get_or}
use Rattle.object_fold.specs.declared.causal_map.CausalMap.{CausalMap}
use Rattle.object_fold.specs.declared.kept_line.KeptLine.{KeptLine}
use Rattle.object_fold.specs.declared.queue.ValueQueue.{ValueQueue}
use Rattle.object_fold.specs.declared.shard_map.ShardMap.{ShardMap}
use Rattle.object_fold.specs.declared.tx_state.TxState.{TxState}
use Rattle.object_fold.specs.Nodes.{ObjectNode}
use Rattle.object_fold.specs.Maps.{Value, shard_value}
use Rattle.object_fold.specs.States.{IsShardMap, IsValueQueue, IsTxState}
use Rattle.part_fold.specs.declared.part_fold.PartFold.{PartFold}
use Rattle.part_fold.specs.declared.ruled_fold.RuledFold.{RuledFold}
use Rattle.part_fold.specs.Agreement.{part_at}
use Rattle.part_fold.specs.PartStates.{IsPart}
use Rattle.part_fold.specs.Ruled.{IsRuled}
use Rattle.tree_fold.specs.declared.fold.TreeFold.{TreeFold}
use Rattle.tree_fold.specs.TreeStates.{IsTree}
use Rattle.col_core.specs.History.{line}
use Rattle.world_laws.specs.Worlds.{World}
use Rattle.world_laws.specs.Laws.{IsReached}
use Rattle.world_laws.proofs.CallerLemmas.{run_grows}
use Rattle.script_text.specs.declared.script.Kind.{Kind}
use Rattle.script_text.specs.declared.script.Kind.TheVariants as kinds
use Rattle.script_text.specs.declared.script.Object.{Object}
use Rattle.script_text.specs.Fitting.{HasObject, is_tx}
use Rattle.script_meaning.proofs.CallerLemmas.{RunsTo, line_longer, nodes_stay}
use Rattle.script_meaning.specs.States.{kind_in}
use Rattle.script_meaning.specs.Dequeues.{object_node_at}
use Rattle.lawful_run.proofs.CallerLemmas.{get_within}
use Rattle.script_in_order.specs.CausalFolds.{IsCausalFold, AreCausalFolds}
use Rattle.script_in_order.proofs.CausalLater.{fold_later}
use Rattle.script_in_order.specs.declared.folds.FirstNodes.{FirstNodes}
use Rattle.script_in_order.specs.declared.lines_fold.LinesFold.{LinesFold}
use Rattle.script_in_order.specs.declared.tx_folds.TxFolds.{TxFolds}
use Rattle.script_in_order.proofs.LinesFolds.{lines_stay}
use Rattle.script_in_order.specs.declared.folds.Fold.{Fold}
use Rattle.script_in_order.specs.declared.folds.Fold.TheVariants as folds
use Rattle.script_in_order.specs.Folds.{IsKeptLine, IsShardFold, AreShardFolds, IsQueueFold, IsLinesFold, IsPartFold, ArePartFolds, AreItsParts, AreTxFolds, IsFoldOf, AreFolded, ShardsWithin, QueueWithin, IsTreeAt, whole_line, nodes_at}

module _ (w v : World) (reached : IsReached w) (to : RunsTo w v) where
  line_stays : {F : Type 0} (Holds : F → List ObjectNode → Type 0) (home colour : ℕ) (kept : KeptLine F)
      → IsKeptLine Holds w home colour kept → IsKeptLine Holds v home colour kept
  line_stays Holds home colour kept f = record {
    within = let a = f.within in let b = line_longer w v reached to home colour in omega (arith, a, b);
    folded = subst (λ (ns : List ObjectNode). Holds kept.state ns)
        (sym (nodes_stay w v reached to home colour kept.count f.within)) f.folded;
  }

  shard_stays : (home colour : ℕ) (colours : List ℕ) (kept : KeptLine ShardMap) → IsShardFold w home colours colour kept
      → IsShardFold v home colours colour kept
  shard_stays home colour colours kept f = record {
    colours_are = f.colours_are;
    shard_is = f.shard_is;
    folded = line_stays IsShardMap home colour kept f.folded;
  }

  same_colours : v.shape.colours ≡ w.shape.colours
  same_colours =
      ap (λ (x : World). x.shape.colours) (sym to.run) ∙ ap (λ s. s.colours) (run_grows w to.steps).shape

  same_regions : v.shape.regions ≡ w.shape.regions
  same_regions =
      ap (λ (x : World). x.shape.regions) (sym to.run) ∙ ap (λ s. s.regions) (run_grows w to.steps).shape

  causal_stays : (colour : ℕ) (regions : List CausalMap) → AreCausalFolds w colour regions
      → AreCausalFolds v colour regions
  causal_stays colour regions f = record {
    small = f.small;
    all = f.all ∙ sym same_regions;
    each = λ region fold there.
        let a = get_within regions region fold there in
        let b = f.all in
        fold_later w v to.steps reached to.run region colour (omega (arith, a, b)) f.small fold (f.each region fold there);
  }

  parts_stay : (kind : Kind) (parts : List (KeptLine PartFold)) → AreItsParts w kind parts → AreItsParts v kind parts
  parts_stay (kinds.Parts home colours) parts f = record {
    all = f.all;
    each = λ place kept there.
        let right = f.each place kept there in record {
          part_is = right.part_is;
          folded = line_stays IsPart home (slice_index colours place) kept right.folded;
        };
  }
  parts_stay _ parts f = tt

  pub tx_stays : (kind : Kind) (fold : TxFolds) → AreTxFolds w kind fold → AreTxFolds v kind fold
  tx_stays kind fold f = record {
    map = lines_stay w v reached to IsTxState fold.map f.map;
    parts = parts_stay kind fold.parts.items f.parts;
    ruled = lines_stay w v reached to IsRuled fold.ruled f.ruled;
  }

  fold_stays : (kind : Kind) (fold : Fold) → IsFoldOf w kind fold → IsFoldOf v kind fold
  fold_stays kind (folds.Map shards) (home, colours, is, each) = (
    home,
    colours,
    is,
    record {
      all = each.all ∙ sym same_colours;
      each = λ c fold there. shard_stays home c colours fold (each.each c fold there);
    },
  )
  fold_stays kind (folds.Queue queue) (home, colour, is, f) = (home, colour, is, line_stays IsValueQueue home colour queue f)
  fold_stays kind (folds.Causal regions) (colour, is, f) = (colour, is, causal_stays colour regions.items f)
  fold_stays kind (folds.Tx fold) (is, f) = (is, tx_stays kind fold f)
  fold_stays kind (folds.Tree fold) (home, colours, is, f) = (
    home,
    colours,
    is,
    lines_stay w v reached to IsTree fold f,
  )

  -- what is folded stays right
  pub folds_stay : (objects : List Object) (all : List Fold) → AreFolded w objects all → AreFolded v objects all
  folds_stay objects all f = record {
    many = f.many;
    each = λ n o fold at there. fold_stays o.kind fold (f.each n o fold at there);
  }

-- what stands in a list of which one item was replaced
pub set_cases : {A : Type 0} (xs : List A) (n j : ℕ) (x y : A) → slice_get (set xs n x) j ≡ Some y
    → ((j ≡ n) × (x ≡ y)) ⊎ ((j ≢ n) × (slice_get xs j ≡ Some y))
set_cases [] n j x y e = absurd (let f : ⊥ = cc in f)
set_cases (z ∷ xs) zero zero x y e = inl (refl, let f : x ≡ y = cc in f)
set_cases (z ∷ xs) zero (suc j) x y e = inr (λ is. let f : ⊥ = omega (arith, is) in f, e)
set_cases (z ∷ xs) (suc n) zero x y e = inr (λ is. let f : ⊥ = omega (arith, is) in f, e)
set_cases {A} (z ∷ xs) (suc n) (suc j) x y e = turn (set_cases xs n j x y e) where
  turn : ((j ≡ n) × (x ≡ y)) ⊎ ((j ≢ n) × (slice_get xs j ≡ Some y))
      → ((suc j ≡ suc n) × (x ≡ y)) ⊎ ((suc j ≢ suc n) × (slice_get xs j ≡ Some y))
  turn (inl p) = inl (ap suc p.0, p.1)
  turn (inr p) = inr (λ is. p.0 (omega (arith, is)), p.1)

-- one fold of a list in place of another
pub folds_with : (w : World) (objects : List Object) (all : List Fold) (n : ℕ) (fold : Fold) → AreFolded w objects all
    → ((o : Object) → slice_get objects n ≡ Some o → IsFoldOf w o.kind fold)
    → AreFolded w objects (set all n fold)
folds_with w objects all n fold f right = record {
  many = length-set all n fold ∙ f.many;
  each = λ m o other at there. turn m o other at (set_cases all n m fold other there);
} where
  turn : (m : ℕ) (o : Object) (other : Fold) → slice_get objects m ≡ Some o
      → ((m ≡ n) × (fold ≡ other)) ⊎ ((m ≢ n) × (slice_get all m ≡ Some other)) → IsFoldOf w o.kind other
  turn m o other at (inl p) =
      subst (IsFoldOf w o.kind) p.1 (right o (subst (λ (k : ℕ). slice_get objects k ≡ Some o) p.0 at))
  turn m o other at (inr p) = f.each m o other at p.1

-- one region's fold of a causal map in place of another
pub causal_with : (w : World) (colour : ℕ) (regions : List CausalMap) (n : ℕ) (fold : CausalMap)
    → AreCausalFolds w colour regions → IsCausalFold w n colour fold → AreCausalFolds w colour (set regions n fold)
causal_with w colour regions n fold f right = record {
  small = f.small;
  all = length-set regions n fold ∙ f.all;
  each = λ m other there. turn m other (set_cases regions n m fold other there);
} where
  turn : (m : ℕ) (other : CausalMap) → ((m ≡ n) × (fold ≡ other)) ⊎ ((m ≢ n) × (slice_get regions m ≡ Some other))
      → IsCausalFold w m colour other
  turn m other (inl p) =
      subst (λ (k : ℕ). IsCausalFold w k colour other) (sym p.0) (subst (IsCausalFold w n colour) p.1 right)
  turn m other (inr p) = f.each m other p.1

-- one shard of a map in place of another
pub shards_with : (w : World) (home : ℕ) (colours : List ℕ) (shards : List (KeptLine ShardMap)) (n : ℕ)
    (fold : KeptLine ShardMap)
    → AreShardFolds w home colours shards → IsShardFold w home colours n fold
    → AreShardFolds w home colours (set shards n fold)
shards_with w home colours shards n fold f right = record {
  all = length-set shards n fold ∙ f.all;
  each = λ m other there. turn m other (set_cases shards n m fold other there);
} where
  turn : (m : ℕ) (other : KeptLine ShardMap) → ((m ≡ n) × (fold ≡ other)) ⊎ ((m ≢ n) × (slice_get shards m ≡ Some other))
      → IsShardFold w home colours m other
  turn m other (inl p) =
      subst (λ (k : ℕ). IsShardFold w home colours k other) (sym p.0) (subst (IsShardFold w home colours n) p.1 right)
  turn m other (inr p) = f.each m other p.1

-- the fold of no node
pub line_opened : {F : Type 0} (Holds : F → List ObjectNode → Type 0) (w : World) (home colour : ℕ) (kept : KeptLine F)
    → kept.count ≡ 0 → Holds kept.state [] → IsKeptLine Holds w home colour kept
line_opened Holds w home colour kept none empty = record {
  within = omega (arith, none);
  folded = subst (λ (n : ℕ). Holds kept.state (map (object_node_at w) (take n (line (w.histories home colour)))))
      (sym none) empty;
}

pub shard_opened : (w : World) (home colour : ℕ) (colours : List ℕ) (shard : ShardMap) (kept : KeptLine ShardMap)
    → kept.state ≡ shard → kept.count ≡ 0 → shard.colours ≡ colours → shard.shard ≡ colour → IsShardMap shard []
    → IsShardFold w home colours colour kept
shard_opened w home colour colours shard kept is none its mine empty = record {
  colours_are = ap (λ (x : ShardMap). x.colours) is ∙ its;
  shard_is = ap (λ (x : ShardMap). x.shard) is ∙ mine;
  folded = line_opened IsShardMap w home colour kept none (subst (λ (x : ShardMap). IsShardMap x []) (sym is) empty);
}

-- the fold of the same shard, gone on
pub shard_on : (w : World) (home colour : ℕ) (colours : List ℕ) (old new : KeptLine ShardMap)
    → ◌≡◌ {A = List ℕ × ℕ} (new.state.colours, new.state.shard) (old.state.colours, old.state.shard)
    → IsKeptLine IsShardMap w home colour new → IsShardFold w home colours colour old
    → IsShardFold w home colours colour new
shard_on w home colour colours old new same folded f = record {
  colours_are = ap (λ (of : List ℕ × ℕ). of.0) same ∙ f.colours_are;
  shard_is = ap (λ (of : List ℕ × ℕ). of.1) same ∙ f.shard_is;
  folded = folded;
}

-- how far the folds of an object are
module _ (w : World) (objects : List Object) (all : List Fold) (f : AreFolded w objects all) (object : ℕ) where
  found : (kind : Kind) → kind_in objects object ≡ Some kind
      → (o : Object) × (slice_get objects object ≡ Some o) × (o.kind ≡ kind)
  found kind is = of (slice_get objects object) refl is where
    of : (x : Option Object) → slice_get objects object ≡ x → option_map (λ (o : Object). o.kind) x ≡ Some kind
        → (o : Object) × (slice_get objects object ≡ Some o) × (o.kind ≡ kind)
    of None e k = absurd (let g : ⊥ = cc in g)
    of (Some o) e k = (o, e, let g : o.kind ≡ kind = cc in g)

  pub fold_at : (kind : Kind) (fold : Fold) → kind_in objects object ≡ Some kind → slice_get all object ≡ Some fold
      → IsFoldOf w kind fold
  fold_at kind fold is there =
      let o = found kind is in subst (λ (k : Kind). IsFoldOf w k fold) o.2 (f.each object o.0 fold o.1 there)

  pub shards_at : (home : ℕ) (colours : List ℕ) (shards : Vec (KeptLine ShardMap) Global)
      → kind_in objects object ≡ Some (kinds.Map home colours) → slice_get all object ≡ Some (folds.Map shards)
      → AreShardFolds w home colours shards.items
  shards_at home colours shards is there = of (fold_at (kinds.Map home colours) (folds.Map shards) is there) where
    of : IsFoldOf w (kinds.Map home colours) (folds.Map shards) → AreShardFolds w home colours shards.items
    of (h, cs, e, each) =
        let a : home ≡ h = cc in
        let b : colours ≡ cs = cc in
        subst (λ (x : ℕ). AreShardFolds w x colours shards.items) (sym a)
        (subst (λ (x : List ℕ). AreShardFolds w h x shards.items) (sym b) each)

  pub queue_there : (home colour : ℕ) (fold : KeptLine ValueQueue) → kind_in objects object ≡ Some (kinds.Queue home colour)
      → slice_get all object ≡ Some (folds.Queue fold) → IsQueueFold w home colour fold
  queue_there home colour fold is there = of (fold_at (kinds.Queue home colour) (folds.Queue fold) is there) where
    of : IsFoldOf w (kinds.Queue home colour) (folds.Queue fold) → IsQueueFold w home colour fold
    of (h, c, e, right) =
        let a : home ≡ h = cc in
        let b : colour ≡ c = cc in
        subst (λ (x : ℕ). IsQueueFold w x colour fold) (sym a) (subst (λ (x : ℕ). IsQueueFold w h x fold) (sym b) right)

  -- no further than the lines
  pub shards_within : (home : ℕ) (colours cs : List ℕ) → kind_in objects object ≡ Some (kinds.Map home colours)
      → (bound : ℕ → ℕ) → ((c : ℕ) → Contains cs c → length (line (w.histories home c)) ≤ bound c)
      → ShardsWithin all object cs bound
  shards_within home colours cs is bound low = λ c i shards fold there at.
      let right = (shards_at home colours shards is there).each c fold at in
      let a = right.folded.within in let b = low c i in omega (arith, a, b)

  pub queue_within : (home colour count : ℕ) → kind_in objects object ≡ Some (kinds.Queue home colour)
      → length (line (w.histories home colour)) ≤ count → QueueWithin all object count
  queue_within home colour count is low = λ fold there.
      let right = queue_there home colour fold is there in let a = right.within in omega (arith, a, low)

-- what stands in a list with one item more
push_cases : {A : Type 0} (xs : List A) (n : ℕ) (x y : A) → slice_get (xs ++ x ∷ []) n ≡ Some y
    → ((n ≡ length xs) × (x ≡ y)) ⊎ ((n ≢ length xs) × (slice_get xs n ≡ Some y))
push_cases [] zero x y e = inl (refl, let f : x ≡ y = cc in f)
push_cases [] (suc n) x y e = absurd (let f : ⊥ = cc in f)
push_cases (z ∷ xs) zero x y e = inr (λ is. let f : ⊥ = omega (arith, is) in f, e)
push_cases {A} (z ∷ xs) (suc n) x y e = turn (push_cases xs n x y e) where
  turn : ((n ≡ length xs) × (x ≡ y)) ⊎ ((n ≢ length xs) × (slice_get xs n ≡ Some y))
      → ((suc n ≡ suc (length xs)) × (x ≡ y)) ⊎ ((suc n ≢ suc (length xs)) × (slice_get xs n ≡ Some y))
  turn (inl p) = inl (ap suc p.0, p.1)
  turn (inr p) = inr (λ is. p.0 (omega (arith, is)), p.1)

-- what stands at a place
pub there_at : {A : Type 0} (xs : List A) (n : ℕ) (x : A) → n < length xs → x ≡ get_or xs n x → slice_get xs n ≡ Some x
there_at {A} xs n x lt is = slice_get-get_or xs n x lt ∙ ap (λ (y : A). Some y) (sym is)

-- the fold of an object of some kind
module _ (w : World) (objects : List Object) (all : List Fold) (object : ℕ) (kind : Kind) (f : AreFolded w objects all)
    (is : kind_in objects object ≡ Some kind) where
  pub object_low : object < length all
  object_low =
      let o = found w objects all f object kind is in
      let lt = get_within objects object o.0 o.1 in let e = f.many in omega (arith, lt, e)

  pub fold_there : (fold : Fold) → fold ≡ get_or all object fold → IsFoldOf w kind fold
  fold_there fold there = fold_at w objects all f object kind fold is (there_at all object fold object_low there)

  pub fold_put : (fold : Fold) → IsFoldOf w kind fold → AreFolded w objects (set all object fold)
  fold_put fold right = folds_with w objects all object fold f (λ o at. subst (λ (k : Kind). IsFoldOf w k fold)
      (let e : Some kind ≡ Some o.kind = sym is ∙ ap (λ (x : Option Object). option_map (λ (y : Object). y.kind) x) at in
      let g : kind ≡ o.kind = cc in g) right)

-- the fold of a map
module _ (w : World) (home : ℕ) (colours : List ℕ) where
  pub map_shards : (shards : Vec (KeptLine ShardMap) Global) → IsFoldOf w (kinds.Map home colours) (folds.Map shards)
      → AreShardFolds w home colours shards.items
  map_shards shards (h, cs, e, each) =
      let a : home ≡ h = cc in
      let b : colours ≡ cs = cc in
      subst (λ (x : ℕ). AreShardFolds w x colours shards.items) (sym a)
      (subst (λ (x : List ℕ). AreShardFolds w h x shards.items) (sym b) each)

  pub only_map : (fold : Fold) → IsFoldOf w (kinds.Map home colours) fold
      → ((shards : Vec (KeptLine ShardMap) Global) → fold ≡ folds.Map shards → ⊥) → ⊥
  only_map (folds.Map shards) f n = n shards refl
  only_map (folds.Queue queue) (h, c, e, right) n = let g : ⊥ = cc in g
  only_map (folds.Causal regions) (c, e, right) n = let g : ⊥ = cc in g
  only_map (folds.Tx fold) (is, right) n = let g : ⊥ = cc in g
  only_map (folds.Tree fold) (h, cs, e, right) n = let g : ⊥ = cc in g

-- the fold of a queue
module _ (w : World) (home colour : ℕ) where
  pub queue_fold : (queue : KeptLine ValueQueue) → IsFoldOf w (kinds.Queue home colour) (folds.Queue queue)
      → IsQueueFold w home colour queue
  queue_fold queue (h, c, e, right) =
      let a : home ≡ h = cc in
      let b : colour ≡ c = cc in
      subst (λ (x : ℕ). IsQueueFold w x colour queue) (sym a) (subst (λ (x : ℕ). IsQueueFold w h x queue) (sym b) right)

  pub only_queue : (fold : Fold) → IsFoldOf w (kinds.Queue home colour) fold
      → ((queue : KeptLine ValueQueue) → fold ≡ folds.Queue queue → ⊥) → ⊥
  only_queue (folds.Map shards) (h, cs, e, right) n = let g : ⊥ = cc in g
  only_queue (folds.Queue queue) f n = n queue refl
  only_queue (folds.Causal regions) (c, e, right) n = let g : ⊥ = cc in g
  only_queue (folds.Tx fold) (is, right) n = let g : ⊥ = cc in g
  only_queue (folds.Tree fold) (h, cs, e, right) n = let g : ⊥ = cc in g

-- what is folded of a transactional map
other_kind : (kind other : Kind) → is_tx kind ≡ true → kind ≡ other → is_tx other ≡ false → ⊥
other_kind kind other is e not = let f : true ≡ false = sym is ∙ (ap is_tx e ∙ not) in let g : ⊥ = cc in g

pub only_tx : (w : World) (kind : Kind) → is_tx kind ≡ true → (fold : Fold) → IsFoldOf w kind fold
    → ((tx : TxFolds) → fold ≡ folds.Tx tx → ⊥) → ⊥
only_tx w kind is (folds.Map shards) (h, cs, e, right) n = other_kind kind (kinds.Map h cs) is e refl
only_tx w kind is (folds.Queue queue) (h, c, e, right) n = other_kind kind (kinds.Queue h c) is e refl
only_tx w kind is (folds.Causal regions) (c, e, right) n = other_kind kind (kinds.Causal c) is e refl
only_tx w kind is (folds.Tx tx) f n = n tx refl
only_tx w kind is (folds.Tree fold) (h, cs, e, right) n = other_kind kind (kinds.Tree h cs) is e refl

-- the fold of an object that is one
module _ (w : World) (objects : List Object) (all : List Fold) (object : ℕ) (f : AreFolded w objects all)
    (has : HasObject objects object is_tx) where
  its_kind : kind_in objects object ≡ Some has.found.kind
  its_kind = ap (option_map (λ (o : Object). o.kind)) has.there

  there_of : (fold : Fold) → fold ≡ get_or all object fold → IsFoldOf w has.found.kind fold
  there_of fold there = fold_there w objects all object has.found.kind f its_kind fold there

  pub tx_of : (fold : Fold) (tx : TxFolds) → fold ≡ get_or all object fold → fold ≡ folds.Tx tx
      → AreTxFolds w has.found.kind tx
  tx_of fold tx there same = (subst (IsFoldOf w has.found.kind) same (there_of fold there)).1

  pub none_else : (fold : Fold) → fold ≡ get_or all object fold → ((tx : TxFolds) → fold ≡ folds.Tx tx → ⊥) → ⊥
  none_else fold there = only_tx w has.found.kind has.kind fold (there_of fold there)

  pub tx_put : (tx : TxFolds) → AreTxFolds w has.found.kind tx → AreFolded w objects (set all object (folds.Tx tx))
  tx_put tx right = fold_put w objects all object has.found.kind f its_kind (folds.Tx tx) (has.kind, right)

-- the map in place of what was folded of it
pub map_with : (w : World) (kind : Kind) (fold : TxFolds) (map : LinesFold TxState) → AreTxFolds w kind fold
    → IsLinesFold IsTxState w map → AreTxFolds w kind (record fold { map = map })
map_with w kind fold map f right = record { map = right; parts = f.parts; ruled = f.ruled }

-- what became of transactions, in place of what was folded of it
pub ruled_with : (w : World) (kind : Kind) (fold : TxFolds) (ruled : LinesFold RuledFold) → AreTxFolds w kind fold
    → IsLinesFold IsRuled w ruled → AreTxFolds w kind (record fold { ruled = ruled })
ruled_with w kind fold ruled f right = record { map = f.map; parts = f.parts; ruled = right }

-- an object of another kind has no parts that could be wrong
pub no_parts : (w : World) (kind : Kind) (parts : List (KeptLine PartFold))
    → ((home : ℕ) (colours : List ℕ) → kind ≡ kinds.Parts home colours → ⊥) → AreItsParts w kind parts
no_parts w (kinds.Parts home colours) parts none = absurd (none home colours refl)
no_parts w _ parts none = tt

-- one part of a map in place of another
pub parts_with : (w : World) (home : ℕ) (colours : List ℕ) (parts : List (KeptLine PartFold)) (n : ℕ)
    (kept : KeptLine PartFold) → ArePartFolds w home colours parts → IsPartFold w home colours n kept
    → ArePartFolds w home colours (set parts n kept)
parts_with w home colours parts n kept f right = record {
  all = length-set parts n kept ∙ f.all;
  each = λ m other there. turn m other (set_cases parts n m kept other there);
} where
  turn : (m : ℕ) (other : KeptLine PartFold) → ((m ≡ n) × (kept ≡ other)) ⊎ ((m ≢ n) × (slice_get parts m ≡ Some other))
      → IsPartFold w home colours m other
  turn m other (inl p) =
      subst (λ (k : ℕ). IsPartFold w home colours k other) (sym p.0) (subst (IsPartFold w home colours n) p.1 right)
  turn m other (inr p) = f.each m other p.1

-- those of the first places, of which there may be fewer than colours
abbrev pub AreFirstParts : World → ℕ → List ℕ → List (KeptLine PartFold) → Type 0
AreFirstParts w home colours parts =
    (place : ℕ) (kept : KeptLine PartFold) → slice_get parts place ≡ Some kept → IsPartFold w home colours place kept

-- one part more, of which no node is folded
pub parts_more : (w : World) (home : ℕ) (colours : List ℕ) (parts : List (KeptLine PartFold)) (kept : KeptLine PartFold)
    → AreFirstParts w home colours parts → kept.state.part ≡ part_at colours (length parts) → kept.count ≡ 0
    → IsPart kept.state [] → AreFirstParts w home colours (parts ++ kept ∷ [])
parts_more w home colours parts kept f is none empty = λ m other there. turn m other (push_cases parts m kept other there)
  where
    turn : (m : ℕ) (other : KeptLine PartFold)
        → ((m ≡ length parts) × (kept ≡ other)) ⊎ ((m ≢ length parts) × (slice_get parts m ≡ Some other))
        → IsPartFold w home colours m other
    turn m other (inl p) =
        subst (λ (k : ℕ). IsPartFold w home colours k other) (sym p.0)
        (subst (IsPartFold w home colours (length parts)) p.1 (record {
          part_is = is;
          folded = line_opened IsPart w home (slice_index colours (length parts)) kept none empty;
        }))
    turn m other (inr p) = f m other p.1

-- the fold of a tree
module _ (w : World) (home : ℕ) (colours : List ℕ) where
  tree_fold : (fold : LinesFold TreeFold) → IsFoldOf w (kinds.Tree home colours) (folds.Tree fold) → IsLinesFold IsTree w fold
  tree_fold fold (h, cs, e, right) = right

  pub only_tree : (fold : Fold) → IsFoldOf w (kinds.Tree home colours) fold
      → ((tree : LinesFold TreeFold) → fold ≡ folds.Tree tree → ⊥) → ⊥
  only_tree (folds.Map shards) (h, cs, e, right) n = let g : ⊥ = cc in g
  only_tree (folds.Queue queue) (h, c, e, right) n = let g : ⊥ = cc in g
  only_tree (folds.Causal regions) (c, e, right) n = let g : ⊥ = cc in g
  only_tree (folds.Tx fold) (is, right) n = let g : ⊥ = cc in g
  only_tree (folds.Tree tree) f n = n tree refl

-- that of an object
pub tree_of : (w : World) (objects : List Object) (all : List Fold) (object : ℕ) (fold : Fold) (tree : LinesFold TreeFold)
    → AreFolded w objects all → IsTreeAt objects object → fold ≡ get_or all object fold → fold ≡ folds.Tree tree
    → IsLinesFold IsTree w tree
tree_of w objects all object fold tree f at there same =
    tree_fold w at.0 at.1 tree
    (subst (IsFoldOf w (kinds.Tree at.0 at.1)) same
    (fold_there w objects all object (kinds.Tree at.0 at.1) f at.2 fold there))

-- a shard that was folded on is within its bound
pub within_with : (all : List Fold) (object : ℕ) (shards : Vec (KeptLine ShardMap) Global) (n : ℕ) (fold : KeptLine ShardMap)
    (cs : List ℕ) (bound : ℕ → ℕ) → slice_get all object ≡ Some (folds.Map shards)
    → ShardsWithin all object cs bound → fold.count ≤ bound n
    → ShardsWithin (set all object (folds.Map (with_item shards n fold))) object cs bound
within_with all object shards n fold cs bound there old low = λ c i others other at_object at_colour.
    by_place c i others other (set_cases all object object (folds.Map (with_item shards n fold)) (folds.Map others) at_object) at_colour where
      by_colour : (c : ℕ) → Contains cs c → (other : KeptLine ShardMap)
          → ((c ≡ n) × (fold ≡ other)) ⊎ ((c ≢ n) × (slice_get shards.items c ≡ Some other)) → other.count ≤ bound c
      by_colour c i other (inl p) =
          subst (λ (k : ℕ). other.count ≤ bound k) (sym p.0) (subst (λ (x : KeptLine ShardMap). x.count ≤ bound n) p.1 low)
      by_colour c i other (inr p) = old c i shards other there p.1

      by_place : (c : ℕ) → Contains cs c → (others : Vec (KeptLine ShardMap) Global) (other : KeptLine ShardMap)
          → ((object ≡ object) × (folds.Map (with_item shards n fold) ≡ folds.Map others))
          ⊎ ((object ≢ object) × (slice_get all object ≡ Some (folds.Map others)))
          → slice_get others.items c ≡ Some other → other.count ≤ bound c
      by_place c i others other (inl p) at =
          let same : with_item shards n fold ≡ others = let e = p.1 in cc in
          by_colour c i other (set_cases shards.items n c fold other
          (ap (λ (v : Vec (KeptLine ShardMap) Global). slice_get v.items c) same ∙ at))
      by_place c i others other (inr p) at = absurd (p.0 refl)

-- an answer of a fold that has come to the nodes that are asked for
pub shard_answer : (w : World) (first : FirstNodes) (colours key : List ℕ) (kept : KeptLine ShardMap) (value : Value)
    → kept.count ≡ first.count → IsShardFold w first.region colours first.colour kept
    → ((nodes : List ObjectNode) → IsShardMap kept.state nodes
    → value ≡ shard_value kept.state.colours kept.state.shard nodes key)
    → value ≡ shard_value colours first.colour (nodes_at w first) key
shard_answer w first colours key kept value here f answers =
    answers (map (object_node_at w) (take kept.count (whole_line w first))) f.folded.folded
    ∙ (ap (λ (cs : List ℕ). shard_value cs kept.state.shard (map (object_node_at w) (take kept.count (whole_line w first))) key)
    f.colours_are
    ∙ (ap (λ (c : ℕ). shard_value colours c (map (object_node_at w) (take kept.count (whole_line w first))) key) f.shard_is
    ∙ ap (λ (n : ℕ). shard_value colours first.colour (map (object_node_at w) (take n (whole_line w first))) key) here))
