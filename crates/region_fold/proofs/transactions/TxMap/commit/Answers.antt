use Rattle.std.proofs.Common.{◌++◌, List, ℕ, Option, IfSome, rules, ap, sym, subst, ◌∙◌}
use Rattle.std.specs.Option.{option_map}
use Rattle.log_node.specs.Sets.{members}
use Rattle.log_node.specs.declared.forms.Version.{Version}
use Rattle.object_form.specs.Forms.{AreVersions}
use Rattle.object_fold.specs.declared.verdict.Verdict.{Verdict}
use Rattle.object_fold.specs.declared.verdict.Verdict.TheVariants.{Committed}
use Rattle.object_fold.specs.States.{IsTxState}
use Rattle.object_fold.specs.Transactions.{ruling}
use Rattle.lawful_run.specs.Asks.{keys_of_pairs, rising}
use Rattle.log_client.specs.Calls.{IsExplained}
use Rattle.log_client.specs.Objects.{version_keys}
use Rattle.log_client.proofs.CallerLemmas.{shards_of_store}
use Rattle.region_fold.specs.Reads.{AreOfObject, KeepsFold, TellRefused, TellsOwn}
use Rattle.region_fold.proofs.ReadAnswers.{colours_later, shards_own}
use Rattle.region_fold.specs.declared.transactions.Tx.{Tx}
use Rattle.region_fold.specs.Transactions.{CommitRefused, Commits}
use Rattle.region_fold.proofs.TxAnswers.{commit_refused, commits, some_keys, tx_set}
use Rattle.region_fold.proofs.transactions.TxMap.commit.Goals as goal

pub append_and_read-requires-clause-kept : goal.append_and_read-requires-clause-kept
append_and_read-requires-clause-kept g c κs within =
    subst (λ (l : List ℕ). KeepsFold IsTxState c.args.client.now (rising l) c.args.self.now.fold.kept) (sym c.as_slice-colours.ensures)
    c.requires.map.folds

pub returns-in-Ok-append_and_read-clause-map : goal.returns-in-Ok-append_and_read-clause-map
returns-in-Ok-append_and_read-clause-map g c =
    let e = c.append_and_read.ensures in record {
      colours = colours_later c.args.store.now c.args.client.now c.append_and_read.new.client e.client c.args.self.now.colours c.requires.client
          c.requires.map.colours;
      folds = subst (λ (l : List ℕ). KeepsFold IsTxState c.append_and_read.new.client (rising l) c.append_and_read.new.self.kept) c.as_slice-colours.ensures
          e.kept;
    }

pub returns-in-Err-clause-map : goal.returns-in-Err-clause-map
returns-in-Err-clause-map g c =
    let e = c.append_and_read.ensures in record {
      colours = colours_later c.args.store.now c.args.client.now c.append_and_read.new.client e.client c.args.self.now.colours c.requires.client
          c.requires.map.colours;
      folds = subst (λ (l : List ℕ). KeepsFold IsTxState c.append_and_read.new.client (rising l) c.append_and_read.new.self.kept) c.as_slice-colours.ensures
          e.kept;
    }

pub append_and_read-requires-clause-set : goal.append_and_read-requires-clause-set
append_and_read-requires-clause-set g c κs within =
    let may = (subst (λ (t : Option Tx). IfSome t (λ (x : Tx). AreVersions x.versions)) c.in-Some.is c.requires.versions) in
    shards_of_store c.args.store.now c.args.client.now c.args.self.now.colours c.requires.client c.requires.map.colours
    (version_keys c.in-Some.tx.versions ++ keys_of_pairs c.args.writes.now)
    (some_keys c.in-Some.tx.versions c.args.writes.now may) c.transaction_shards-set.result (search rules)
    (tx_set c.transaction_shards-set.result c.as_slice-colours.result.now c.args.self.now.colours c.as_slice.result.now
    c.in-Some.tx.versions c.as_slice-2.result.now c.args.writes.now c.transaction_shards-set.ensures c.as_slice-colours.ensures
    c.as_slice.ensures c.as_slice-2.ensures)

pub append_and_read-requires-clause-own : goal.append_and_read-requires-clause-own
append_and_read-requires-clause-own g c κs within =
    subst (λ (l : List ℕ). AreOfObject l (members c.transaction_shards-set.result)) (sym c.as_slice-colours.ensures)
    (subst (AreOfObject c.args.self.now.colours) (sym (tx_set c.transaction_shards-set.result c.as_slice-colours.result.now c.args.self.now.colours c.as_slice.result.now
    c.in-Some.tx.versions c.as_slice-2.result.now c.args.writes.now c.transaction_shards-set.ensures c.as_slice-colours.ensures
    c.as_slice.ensures c.as_slice-2.ensures))
    (shards_own c.args.self.now.colours c.requires.map.colours.some
    (version_keys c.in-Some.tx.versions ++ keys_of_pairs c.args.writes.now)))

pub returns-in-Ok-append_and_read-clause-ok : goal.returns-in-Ok-append_and_read-clause-ok
returns-in-Ok-append_and_read-clause-ok g c =
    let may = (subst (λ (t : Option Tx). IfSome t (λ (x : Tx). AreVersions x.versions)) c.in-Some.is c.requires.versions) in (
      c.in-Some.tx,
      c.in-Some.is,
      subst (λ (v : Verdict). Commits c.args.store.now c.args.client.now c.append_and_read.new.client c.args.self.now.colours
          c.args.self.now.fold.kept.last
          c.in-Some.tx.versions c.args.writes.now v c.in-Ok-append_and_read.own c.in-Ok-append_and_read.read)
          (sym c.unwrap_or.ensures)
          (commits c.reads_back.ensures c.in-Some.tx.versions c.args.writes.now may c.requires.writes
          c.args.store.now c.args.client.now c.append_and_read.new.client c.args.self.now.colours c.args.self.now.fold.kept.last c.transaction_shards-set.result
          c.in-Ok-append_and_read.told (Committed c.in-Ok-append_and_read.own.stood.key.stamp) c.in-Ok-append_and_read.own
          c.in-Ok-append_and_read.read (tx_set c.transaction_shards-set.result c.as_slice-colours.result.now c.args.self.now.colours c.as_slice.result.now
          c.in-Some.tx.versions c.as_slice-2.result.now c.args.writes.now c.transaction_shards-set.ensures c.as_slice-colours.ensures
          c.as_slice.ensures c.as_slice-2.ensures)
          (subst (λ (t : List ℕ). IsExplained c.args.store.now c.args.client.now c.append_and_read.new.client
          (TellsOwn ruling c.transaction_shards-set.result t (rising c.args.self.now.colours) c.args.self.now.fold.kept.last c.in-Ok-append_and_read.told
          c.in-Ok-append_and_read.own c.in-Ok-append_and_read.read)) c.in-Ok.ensures
          (subst (λ (l : List ℕ). IsExplained c.args.store.now c.args.client.now c.append_and_read.new.client
          (TellsOwn ruling c.transaction_shards-set.result c.in-Ok.text (rising l) c.args.self.now.fold.kept.last c.in-Ok-append_and_read.told
          c.in-Ok-append_and_read.own c.in-Ok-append_and_read.read)) c.as_slice-colours.ensures c.in-Ok-append_and_read.ensures.ok))),
    )

pub returns-in-Ok-append_and_read-clause-points : goal.returns-in-Ok-append_and_read-clause-points
returns-in-Ok-append_and_read-clause-points g c = (
  c.in-Some.tx,
  c.in-Some.is,
  c.in-Ok-append_and_read.ensures.points ∙ (tx_set c.transaction_shards-set.result c.as_slice-colours.result.now c.args.self.now.colours c.as_slice.result.now
      c.in-Some.tx.versions c.as_slice-2.result.now c.args.writes.now c.transaction_shards-set.ensures c.as_slice-colours.ensures
      c.as_slice.ensures c.as_slice-2.ensures),
)

pub returns-in-Ok-append_and_read-clause-raises : goal.returns-in-Ok-append_and_read-clause-raises
returns-in-Ok-append_and_read-clause-raises g c = c.in-Ok-append_and_read.ensures.shows.raises ∙ ap rising c.as_slice-colours.ensures

pub returns-in-Ok-append_and_read-clause-syncs : goal.returns-in-Ok-append_and_read-clause-syncs
returns-in-Ok-append_and_read-clause-syncs g c = c.in-Ok-append_and_read.ensures.shows.syncs ∙ ap rising c.as_slice-colours.ensures

pub returns-in-Err-clause-err : goal.returns-in-Err-clause-err
returns-in-Err-clause-err g c =
    subst (λ (o : Option (List Version)). CommitRefused c.args.self.now.home c.args.store.now c.args.client.now c.append_and_read.new.client
    c.args.self.now.colours o c.args.writes.now c.in-Err.fault)
    (sym (ap (option_map (λ (t : Tx). t.versions)) c.in-Some.is))
    (commit_refused c.args.self.now.home c.args.store.now c.args.client.now c.append_and_read.new.client c.args.self.now.colours
    c.in-Some.tx.versions c.args.writes.now (members c.transaction_shards-set.result) c.in-Err.fault (tx_set c.transaction_shards-set.result c.as_slice-colours.result.now c.args.self.now.colours c.as_slice.result.now
    c.in-Some.tx.versions c.as_slice-2.result.now c.args.writes.now c.transaction_shards-set.ensures c.as_slice-colours.ensures
    c.as_slice.ensures c.as_slice-2.ensures)
    (subst (λ (t : List ℕ). TellRefused c.args.store.now c.args.client.now c.append_and_read.new.client (members c.transaction_shards-set.result) t
    c.args.self.now.colours c.in-Err.fault) c.in-Ok.ensures
    (subst (λ (l : List ℕ). TellRefused c.args.store.now c.args.client.now c.append_and_read.new.client (members c.transaction_shards-set.result)
    c.in-Ok.text l c.in-Err.fault) c.as_slice-colours.ensures c.in-Err.ensures.err)))
