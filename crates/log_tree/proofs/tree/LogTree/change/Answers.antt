use Rattle.std.proofs.Common.{List, ℕ, rules, sym, subst, ◌∙◌}
use Rattle.log_node.specs.Sets.{members}
use Rattle.lawful_run.specs.Asks.{rising}
use Rattle.log_client.specs.Calls.{IsExplained}
use Rattle.log_client.proofs.CallerLemmas.{shards_of_store}
use Rattle.region_fold.specs.Reads.{AreOfObject, KeepsFold, ShowsEach, TellRefused, TellsOwn}
use Rattle.region_fold.proofs.CallerLemmas.{colours_later, shards_own}
use Rattle.tree_fold.specs.declared.told.Told.{Told}
use Rattle.tree_fold.specs.declared.told.Told.TheVariants.{Done}
use Rattle.tree_fold.specs.Changes.{change_keys}
use Rattle.tree_fold.specs.Trees.{telling}
use Rattle.tree_fold.specs.TreeStates.{IsTree}
use Rattle.tree_fold.proofs.CallerLemmas.{some_keys}
use Rattle.log_tree.specs.Trees.{Changes}
use Rattle.log_tree.proofs.TreeAnswers.{change_refused, change_set, changes}
use Rattle.log_tree.proofs.tree.LogTree.change.Goals as goal

pub append_and_read-requires-clause-kept : goal.append_and_read-requires-clause-kept
append_and_read-requires-clause-kept g c κs within =
    subst (λ (l : List ℕ). KeepsFold IsTree c.args.client.now (rising l) c.args.self.now.fold.kept) (sym c.as_slice-colours.ensures)
    c.requires.tree.folds

pub append_and_read-requires-clause-set : goal.append_and_read-requires-clause-set
append_and_read-requires-clause-set g c κs within =
    shards_of_store c.args.store.now c.args.client.now c.args.self.now.colours c.requires.client c.requires.tree.colours
    (change_keys c.args.change.now) (some_keys c.args.change.now c.requires.change) c.key_shards-set.result (search rules)
    (change_set c.key_shards-set.result c.as_slice-colours.result.now c.args.self.now.colours c.in-Ok.keys
    c.as_slice.result.now c.args.change.now c.key_shards-set.ensures c.as_slice-colours.ensures c.as_slice.ensures
    c.in-Ok.ensures)

pub append_and_read-requires-clause-own : goal.append_and_read-requires-clause-own
append_and_read-requires-clause-own g c κs within =
    subst (λ (l : List ℕ). AreOfObject l (members c.key_shards-set.result)) (sym c.as_slice-colours.ensures)
    (subst (AreOfObject c.args.self.now.colours)
    (sym (change_set c.key_shards-set.result c.as_slice-colours.result.now c.args.self.now.colours c.in-Ok.keys
    c.as_slice.result.now c.args.change.now c.key_shards-set.ensures c.as_slice-colours.ensures c.as_slice.ensures
    c.in-Ok.ensures))
    (shards_own c.args.self.now.colours c.requires.tree.colours.some (change_keys c.args.change.now)))

pub returns-in-Ok-append_and_read-clause-tree : goal.returns-in-Ok-append_and_read-clause-tree
returns-in-Ok-append_and_read-clause-tree g c =
    let e = c.append_and_read.ensures in record {
      colours = colours_later c.args.store.now c.args.client.now c.append_and_read.new.client e.client c.args.self.now.colours c.requires.client
          c.requires.tree.colours;
      folds = subst (λ (l : List ℕ). KeepsFold IsTree c.append_and_read.new.client (rising l) c.append_and_read.new.self.kept) c.as_slice-colours.ensures
          e.kept;
    }

pub returns-clause-tree : goal.returns-clause-tree
returns-clause-tree g c =
    let e = c.append_and_read.ensures in record {
      colours = colours_later c.args.store.now c.args.client.now c.append_and_read.new.client e.client c.args.self.now.colours c.requires.client
          c.requires.tree.colours;
      folds = subst (λ (l : List ℕ). KeepsFold IsTree c.append_and_read.new.client (rising l) c.append_and_read.new.self.kept) c.as_slice-colours.ensures
          e.kept;
    }

pub returns-in-Ok-append_and_read-clause-ok : goal.returns-in-Ok-append_and_read-clause-ok
returns-in-Ok-append_and_read-clause-ok g c =
    subst (λ (t : Told). Changes c.args.store.now c.args.client.now c.append_and_read.new.client c.args.self.now c.args.change.now t
    c.in-Ok-append_and_read.own c.in-Ok-append_and_read.read)
    (sym c.unwrap_or.ensures)
    (changes c.reads_back.ensures c.args.change.now c.requires.change
    c.args.store.now c.args.client.now c.append_and_read.new.client c.args.self.now c.key_shards-set.result
    c.in-Ok-append_and_read.told (Done c.in-Ok-append_and_read.own.stood.key.stamp) c.in-Ok-append_and_read.own
    c.in-Ok-append_and_read.read
    (change_set c.key_shards-set.result c.as_slice-colours.result.now c.args.self.now.colours c.in-Ok.keys
    c.as_slice.result.now c.args.change.now c.key_shards-set.ensures c.as_slice-colours.ensures c.as_slice.ensures
    c.in-Ok.ensures)
    (subst (λ (t : List ℕ). IsExplained c.args.store.now c.args.client.now c.append_and_read.new.client
    (TellsOwn telling c.key_shards-set.result t (rising c.args.self.now.colours) c.args.self.now.fold.kept.last c.in-Ok-append_and_read.told
    c.in-Ok-append_and_read.own c.in-Ok-append_and_read.read)) c.in-Ok-write_change.ensures
    (subst (λ (l : List ℕ). IsExplained c.args.store.now c.args.client.now c.append_and_read.new.client
    (TellsOwn telling c.key_shards-set.result c.in-Ok-write_change.text (rising l) c.args.self.now.fold.kept.last c.in-Ok-append_and_read.told
    c.in-Ok-append_and_read.own c.in-Ok-append_and_read.read)) c.as_slice-colours.ensures c.in-Ok-append_and_read.ensures.ok)))

pub returns-in-Ok-append_and_read-clause-points : goal.returns-in-Ok-append_and_read-clause-points
returns-in-Ok-append_and_read-clause-points g c = c.in-Ok-append_and_read.ensures.points ∙ (change_set c.key_shards-set.result c.as_slice-colours.result.now c.args.self.now.colours c.in-Ok.keys
    c.as_slice.result.now c.args.change.now c.key_shards-set.ensures c.as_slice-colours.ensures c.as_slice.ensures
    c.in-Ok.ensures)

pub returns-in-Ok-append_and_read-clause-shows : goal.returns-in-Ok-append_and_read-clause-shows
returns-in-Ok-append_and_read-clause-shows g c =
    subst (λ (l : List ℕ). ShowsEach c.args.client.now c.append_and_read.new.client l c.in-Ok-append_and_read.read)
    c.as_slice-colours.ensures c.in-Ok-append_and_read.ensures.shows

pub returns-clause-err : goal.returns-clause-err
returns-clause-err g c =
    change_refused c.args.store.now c.args.client.now c.append_and_read.new.client c.args.self.now c.args.change.now (members c.key_shards-set.result) c.in-Err.fault
    (change_set c.key_shards-set.result c.as_slice-colours.result.now c.args.self.now.colours c.in-Ok.keys
    c.as_slice.result.now c.args.change.now c.key_shards-set.ensures c.as_slice-colours.ensures c.as_slice.ensures
    c.in-Ok.ensures)
    (subst (λ (t : List ℕ). TellRefused c.args.store.now c.args.client.now c.append_and_read.new.client (members c.key_shards-set.result) t
    c.args.self.now.colours c.in-Err.fault) c.in-Ok-write_change.ensures
    (subst (λ (l : List ℕ). TellRefused c.args.store.now c.args.client.now c.append_and_read.new.client (members c.key_shards-set.result)
    c.in-Ok-write_change.text l c.in-Err.fault) c.as_slice-colours.ensures c.in-Err.ensures.err))
