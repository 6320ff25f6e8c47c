use Rattle.std.proofs.Common.{◌≡◌, ◌<◌, ℕ, List, Vec, Global, Some, get_or, set, length, refl, ap, sym, subst, ◌∙◌, arith}
use Rattle.std.specs.Prelude.{slice_get}
use Rattle.std.specs.Vec.{with_item}
use Rattle.world_laws.specs.Worlds.{World}
use Rattle.world_code.specs.WorldView.{world_of}
use Rattle.script_text.specs.declared.script.Object.{Object}
use Rattle.script_text.specs.declared.script.Kind.TheVariants as kinds
use Rattle.script_meaning.specs.States.{kind_in}
use Rattle.object_fold.specs.declared.kept_line.KeptLine.{KeptLine}
use Rattle.object_fold.specs.declared.shard_map.ShardMap.{ShardMap}
use Rattle.script_in_order.specs.declared.folds.Fold.{Fold}
use Rattle.script_in_order.specs.declared.folds.Fold.TheVariants as folds
use Rattle.script_in_order.specs.Folds.{AreShardFolds, IsFoldOf, AreFolded, ShardsWithin}
use Rattle.script_in_order.proofs.FoldsKept.{object_low, fold_there, fold_put, there_at, map_shards, only_map, shards_with, within_with}
use Rattle.script_in_order.proofs.folds.Folds.value.Goals as goal

-- the shards of the object's map
shards_of : (w : World) (objects : List Object) (all : List Fold) (object home : ℕ) (colours : List ℕ) (fold : Fold)
    (shards : Vec (KeptLine ShardMap) Global) → AreFolded w objects all
    → kind_in objects object ≡ Some (kinds.Map home colours)
    → fold ≡ get_or all object fold → fold ≡ folds.Map shards → AreShardFolds w home colours shards.items
shards_of w objects all object home colours fold shards f is there same =
    map_shards w home colours shards
    (subst (IsFoldOf w (kinds.Map home colours)) same
    (fold_there w objects all object (kinds.Map home colours) f is fold there))

shard_low : (w : World) (home : ℕ) (colours : List ℕ) (shards : List (KeptLine ShardMap)) (colour : ℕ)
    → AreShardFolds w home colours shards → colour < w.shape.colours → colour < length shards
shard_low w home colours shards colour f lt = let e = f.all in omega (arith, e, lt)

-- what stands at the object's place
stands : (w : World) (objects : List Object) (all : List Fold) (object home : ℕ) (colours : List ℕ) (fold : Fold)
    (shards : Vec (KeptLine ShardMap) Global) → AreFolded w objects all
    → kind_in objects object ≡ Some (kinds.Map home colours)
    → fold ≡ get_or all object fold → fold ≡ folds.Map shards → slice_get all object ≡ Some (folds.Map shards)
stands w objects all object home colours fold shards f is there same =
    there_at all object fold (object_low w objects all object (kinds.Map home colours) f is) there
    ∙ ap (λ (x : Fold). Some x) same

pub index_mut-requires-in-Map : goal.index_mut-requires-in-Map
index_mut-requires-in-Map c =
    let w = world_of c.args.world.now in
    let m = c.requires.may in
    let there = subst (λ (l : List Fold). c.index_mut.result.now ≡ get_or l c.args.object c.index_mut.result.now)
    c.self.view_is c.index_mut.ensures.value in
    let low = shard_low w c.args.first.region m.1 c.in-Map.shards.items c.args.first.colour
    (shards_of w m.0 c.args.self.now c.args.object c.args.first.region m.1 c.index_mut.result.now c.in-Map.shards
    m.2.folded m.2.is_kind there c.in-Map.is) m.2.there.colour in
    omega (arith, low)

pub shard_value-requires-clause-there : goal.shard_value-requires-clause-there
shard_value-requires-clause-there c = c.requires.may.2.there

pub shard_value-requires-clause-behind : goal.shard_value-requires-clause-behind
shard_value-requires-clause-behind c =
    let w = world_of c.args.world.now in
    let m = c.requires.may in
    let there = subst (λ (l : List Fold). c.index_mut.result.now ≡ get_or l c.args.object c.index_mut.result.now)
    c.self.view_is c.index_mut.ensures.value in
    let f = shards_of w m.0 c.args.self.now c.args.object c.args.first.region m.1 c.index_mut.result.now c.in-Map.shards
    m.2.folded m.2.is_kind there c.in-Map.is in
    c.requires.behind c.args.first.colour (0, omega arith, refl) c.in-Map.shards c.index_mut-in-Map.result.now
    (stands w m.0 c.args.self.now c.args.object c.args.first.region m.1 c.index_mut.result.now c.in-Map.shards
    m.2.folded m.2.is_kind there c.in-Map.is)
    (there_at c.in-Map.shards.items c.args.first.colour c.index_mut-in-Map.result.now
    (shard_low w c.args.first.region m.1 c.in-Map.shards.items c.args.first.colour f m.2.there.colour)
    c.index_mut-in-Map.ensures.value)

pub shard_value-requires-clause-folded : goal.shard_value-requires-clause-folded
shard_value-requires-clause-folded c =
    let w = world_of c.args.world.now in
    let m = c.requires.may in
    let there = subst (λ (l : List Fold). c.index_mut.result.now ≡ get_or l c.args.object c.index_mut.result.now)
    c.self.view_is c.index_mut.ensures.value in
    let f = shards_of w m.0 c.args.self.now c.args.object c.args.first.region m.1 c.index_mut.result.now c.in-Map.shards
    m.2.folded m.2.is_kind there c.in-Map.is in (
      m.1,
      f.each c.args.first.colour c.index_mut-in-Map.result.now
          (there_at c.in-Map.shards.items c.args.first.colour c.index_mut-in-Map.result.now
          (shard_low w c.args.first.region m.1 c.in-Map.shards.items c.args.first.colour f m.2.there.colour)
          c.index_mut-in-Map.ensures.value),
    )

pub unreachable-requires : goal.unreachable-requires
unreachable-requires c =
    let w = world_of c.args.world.now in
    let m = c.requires.may in
    let there = subst (λ (l : List Fold). c.index_mut.result.now ≡ get_or l c.args.object c.index_mut.result.now)
    c.self.view_is c.index_mut.ensures.value in
    only_map w c.args.first.region m.1 c.index_mut.result.now
    (fold_there w m.0 c.args.self.now c.args.object (kinds.Map c.args.first.region m.1) m.2.folded m.2.is_kind
    c.index_mut.result.now there) c.in_default.not-Map

pub returns-clause-value : goal.returns-clause-value
returns-clause-value c = λ objects colours is folded.
    let w = world_of c.args.world.now in
    let there = subst (λ (l : List Fold). c.index_mut.result.now ≡ get_or l c.args.object c.index_mut.result.now)
    c.self.view_is c.index_mut.ensures.value in
    let f = shards_of w objects c.args.self.now c.args.object c.args.first.region colours c.index_mut.result.now
    c.in-Map.shards folded is there c.in-Map.is in
    c.shard_value.ensures.value colours (f.each c.args.first.colour c.index_mut-in-Map.result.now
    (there_at c.in-Map.shards.items c.args.first.colour c.index_mut-in-Map.result.now
    (shard_low w c.args.first.region colours c.in-Map.shards.items c.args.first.colour f c.requires.may.2.there.colour)
    c.index_mut-in-Map.ensures.value))

pub returns-clause-folded : goal.returns-clause-folded
returns-clause-folded c = λ objects colours is folded.
    let w = world_of c.args.world.now in
    let there = subst (λ (l : List Fold). c.index_mut.result.now ≡ get_or l c.args.object c.index_mut.result.now)
    c.self.view_is c.index_mut.ensures.value in
    let f = shards_of w objects c.args.self.now c.args.object c.args.first.region colours c.index_mut.result.now
    c.in-Map.shards folded is there c.in-Map.is in
    let right = c.shard_value.ensures.folded colours (f.each c.args.first.colour c.index_mut-in-Map.result.now
    (there_at c.in-Map.shards.items c.args.first.colour c.index_mut-in-Map.result.now
    (shard_low w c.args.first.region colours c.in-Map.shards.items c.args.first.colour f c.requires.may.2.there.colour)
    c.index_mut-in-Map.ensures.value)) in
    let new : Fold = folds.Map (with_item c.in-Map.shards c.args.first.colour c.shard_value.new.kept) in
    subst (λ (l : List Fold). AreFolded w objects (set l c.args.object new)) (sym c.self.view_is)
    (fold_put w objects c.args.self.now c.args.object (kinds.Map c.args.first.region colours) folded is new (
      c.args.first.region,
      colours,
      refl,
      shards_with w c.args.first.region colours c.in-Map.shards.items c.args.first.colour c.shard_value.new.kept f right,
    ))

pub returns-clause-within : goal.returns-clause-within
returns-clause-within c = λ cs bound old low.
    let w = world_of c.args.world.now in
    let m = c.requires.may in
    let there = subst (λ (l : List Fold). c.index_mut.result.now ≡ get_or l c.args.object c.index_mut.result.now)
    c.self.view_is c.index_mut.ensures.value in
    let new : Fold = folds.Map (with_item c.in-Map.shards c.args.first.colour c.shard_value.new.kept) in
    subst (λ (l : List Fold). ShardsWithin (set l c.args.object new) c.args.object cs bound) (sym c.self.view_is)
    (within_with c.args.self.now c.args.object c.in-Map.shards c.args.first.colour c.shard_value.new.kept cs bound
    (stands w m.0 c.args.self.now c.args.object c.args.first.region m.1 c.index_mut.result.now c.in-Map.shards
    m.2.folded m.2.is_kind there c.in-Map.is) old
    (let a = c.shard_value.ensures.within in omega (arith, a, low)))
