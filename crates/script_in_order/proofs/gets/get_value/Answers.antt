use Rattle.std.proofs.Common.{◌≤◌, ◌∙◌, ℕ, List, [], ◌∷◌, Some, refl, ap, sym, subst, arith}
use Rattle.log_node.specs.Vectors.{at}
use Rattle.object_fold.specs.Nodes.{ObjectNode}
use Rattle.object_fold.specs.Maps.{shard_value}
use Rattle.world_laws.specs.declared.steps.Step.TheVariants.{Play}
use Rattle.world_laws.specs.Worlds.{home_of, played_cut}
use Rattle.world_laws.specs.Laws.{StaysWithinCuts}
use Rattle.world_laws.proofs.CallerLemmas.{of_reached}
use Rattle.script_text.specs.declared.script.Kind.TheVariants as kinds
use Rattle.report_text.specs.declared.report.SyncPiece.{SyncPiece}
use Rattle.world_code.specs.WorldView.{world_of}
use Rattle.script_meaning.specs.Dequeues.{first_nodes}
use Rattle.script_in_order.proofs.FoldsKept.{folds_stay}
use Rattle.script_in_order.proofs.GetSteps.{get_trimmed, get_done, shard_is, shard_low, played_here, played_nodes, one_within}
use Rattle.script_in_order.proofs.gets.get_value.Goals as goal

pub trimmed_base-requires-clause-colour : goal.trimmed_base-requires-clause-colour
trimmed_base-requires-clause-colour c =
    let at_home = c.requires.at_home in
    let own = home_of (world_of c.args.world.now) c.args.command.now.client in
    shard_low c.args.objects.now c.args.object own at_home.0 at_home.1 c.args.world.now.shape.regions
    c.args.world.now.shape.colours c.requires.kinds c.shard-colour.result c.args.key.now
    (shard_is c.args.objects.now c.args.object own at_home.0 at_home.1 c.index-objects-object.result
    c.shard-colour.result c.as_bytes.result.now c.args.key.now c.shard-colour.ensures c.as_bytes.ensures)

pub sync_now-sync-requires-clause-colour : goal.sync_now-sync-requires-clause-colour
sync_now-sync-requires-clause-colour c =
    let at_home = c.requires.at_home in
    let own = home_of (world_of c.args.world.now) c.args.command.now.client in
    shard_low c.args.objects.now c.args.object own at_home.0 at_home.1 c.args.world.now.shape.regions
    c.args.world.now.shape.colours c.requires.kinds c.shard-colour.result c.args.key.now
    (shard_is c.args.objects.now c.args.object own at_home.0 at_home.1 c.index-objects-object.result
    c.shard-colour.result c.as_bytes.result.now c.args.key.now c.shard-colour.ensures c.as_bytes.ensures)

pub value-requires-clause-may : goal.value-requires-clause-may
value-requires-clause-may c =
    let w = world_of c.args.world.now in
    let client = c.args.command.now.client in
    let at_home = c.requires.at_home in
    let own = c.home-region.result in
    let cuts = of_reached StaysWithinCuts c.stays_within_cuts.ensures w c.is_whole.ensures.reached in
    let count = ap (λ (s : SyncPiece). at s.counts own) c.sync_now-sync.ensures
    ∙ played_here w cuts client c.shard-colour.result own c.home-region.ensures.home c.home-region.ensures.within
    c.is_whole.ensures.few_regions in (
      c.args.objects.now,
      at_home.0,
      record {
        folded = c.requires.folded;
        is_kind = at_home.1 ∙ ap (λ (h : ℕ). Some (kinds.Map h at_home.0)) (sym c.home-region.ensures.home);
        there = record {
          region = c.home-region.ensures.within;
          colour = shard_low c.args.objects.now c.args.object (home_of w client) at_home.0 at_home.1
              c.args.world.now.shape.regions c.args.world.now.shape.colours c.requires.kinds c.shard-colour.result
              c.args.key.now
              (shard_is c.args.objects.now c.args.object (home_of w client) at_home.0 at_home.1
              c.index-objects-object.result c.shard-colour.result c.as_bytes.result.now c.args.key.now
              c.shard-colour.ensures c.as_bytes.ensures);
          count = subst (λ (n : ℕ). at c.sync_now-sync.result.counts own ≤ n) count (omega arith);
        };
      },
    )

pub value-requires-clause-behind : goal.value-requires-clause-behind
value-requires-clause-behind c =
    let w = world_of c.args.world.now in
    let client = c.args.command.now.client in
    let at_home = c.requires.at_home in
    let own = c.home-region.result in
    let cuts = of_reached StaysWithinCuts c.stays_within_cuts.ensures w c.is_whole.ensures.reached in
    one_within w c.args.objects.now c.args.folds.now c.requires.folded c.args.object at_home.0
    (record { region = own; colour = c.shard-colour.result; count = at c.sync_now-sync.result.counts own })
    (at_home.1 ∙ ap (λ (h : ℕ). Some (kinds.Map h at_home.0)) (sym c.home-region.ensures.home))
    (ap (λ (s : SyncPiece). at s.counts own) c.sync_now-sync.ensures
    ∙ played_here w cuts client c.shard-colour.result own c.home-region.ensures.home c.home-region.ensures.within
    c.is_whole.ensures.few_regions)

pub returns-in-Some-clause-ok : goal.returns-in-Some-clause-ok
returns-in-Some-clause-ok c = λ colours is_at.
    let w = world_of c.args.world.now in
    get_trimmed c.args.command.now w w colours c.args.key.now c.shard-colour.result
    (shard_is c.args.objects.now c.args.object (home_of w c.args.command.now.client) colours is_at
    c.index-objects-object.result c.shard-colour.result c.as_bytes.result.now c.args.key.now c.shard-colour.ensures
    c.as_bytes.ensures)
    c.in-Some.base c.in-Some.ensures.some.0 c.in-Some.ensures.some.1 refl

pub returns-in_err-value-clause-folded : goal.returns-in_err-value-clause-folded
returns-in_err-value-clause-folded c =
    let at_home = c.requires.at_home in
    c.in_err-value.ensures.folded c.args.objects.now at_home.0
    (at_home.1 ∙ ap (λ (h : ℕ). Some (kinds.Map h at_home.0)) (sym c.home-region.ensures.home)) c.requires.folded

pub returns-clause-ok : goal.returns-clause-ok
returns-clause-ok c = λ colours is_at.
    let w = world_of c.args.world.now in
    let command = c.args.command.now in
    let client = command.client in
    let colour = c.shard-colour.result in
    let own = c.home-region.result in
    get_done command w (world_of c.play-played.new.self) colours c.args.key.now colour
    (shard_is c.args.objects.now c.args.object (home_of w client) colours is_at c.index-objects-object.result colour
    c.as_bytes.result.now c.args.key.now c.shard-colour.ensures c.as_bytes.ensures)
    c.in_ok-value.value c.sync_now-sync.result (c.trimmed_base.ensures.none c.in_default.is)
    c.play-played.ensures.world
    (c.in_ok-value.ensures.value c.args.objects.now colours
    (is_at ∙ ap (λ (h : ℕ). Some (kinds.Map h colours)) (sym c.home-region.ensures.home)) c.requires.folded
    ∙ (ap (λ (l : List ObjectNode). shard_value colours colour l c.as_bytes-2.result.now)
    (played_nodes w client colour own c.sync_now-sync.result c.home-region.ensures.home c.sync_now-sync.ensures)
    ∙ ap (shard_value colours colour (first_nodes w client colour (at (played_cut w client colour) (home_of w client))))
    c.as_bytes-2.ensures))
    c.sync_now-sync.ensures

pub returns-clause-folded : goal.returns-clause-folded
returns-clause-folded c =
    let w = world_of c.args.world.now in
    let at_home = c.requires.at_home in
    folds_stay w (world_of c.play-played.new.self) c.is_whole.ensures.reached
    (record { steps = Play c.args.command.now.client c.shard-colour.result ∷ []; run = sym c.play-played.ensures.world })
    c.args.objects.now c.value.new.self
    (c.in_ok-value.ensures.folded c.args.objects.now at_home.0
    (at_home.1 ∙ ap (λ (h : ℕ). Some (kinds.Map h at_home.0)) (sym c.home-region.ensures.home)) c.requires.folded)
