use Rattle.std.proofs.Common.{List, ℕ, ap, sym, subst, ◌∙◌}
use Rattle.object_fold.specs.States.{IsTxState}
use Rattle.lawful_run.specs.Asks.{rising}
use Rattle.log_client.specs.StampedReads.{ReadHidden, ReadRefused}
use Rattle.region_fold.specs.Reads.{AreWriters, KeepsFold, ReadsNodes}
use Rattle.region_fold.proofs.ReadAnswers.{colours_later}
use Rattle.region_fold.proofs.TxAnswers.{found_many, found_named, reads_keys}
use Rattle.region_fold.proofs.transactions.TxMap.read.Goals as goal

pub read-requires-clause-kept : goal.read-requires-clause-kept
read-requires-clause-kept g c =
    subst (λ (l : List ℕ). KeepsFold IsTxState c.args.client.now (rising l) c.args.self.now.fold.kept) (sym c.as_slice.ensures)
    c.requires.map.folds

pub returns-in-Ok-found-clause-map : goal.returns-in-Ok-found-clause-map
returns-in-Ok-found-clause-map g c =
    let e = c.read.ensures in record {
      colours = colours_later c.args.store.now c.args.client.now c.read.new.client e.client c.args.self.now.colours c.requires.client
          c.requires.map.colours;
      folds = subst (λ (l : List ℕ). KeepsFold IsTxState c.read.new.client (rising l) c.read.new.self.kept) c.as_slice.ensures e.kept;
    }

pub returns-in-Err-found-clause-map : goal.returns-in-Err-found-clause-map
returns-in-Err-found-clause-map g c =
    let e = c.read.ensures in record {
      colours = colours_later c.args.store.now c.args.client.now c.read.new.client e.client c.args.self.now.colours c.requires.client
          c.requires.map.colours;
      folds = subst (λ (l : List ℕ). KeepsFold IsTxState c.read.new.client (rising l) c.read.new.self.kept) c.as_slice.ensures e.kept;
    }

pub returns-in-Err-clause-map : goal.returns-in-Err-clause-map
returns-in-Err-clause-map g c =
    let e = c.read.ensures in record {
      colours = colours_later c.args.store.now c.args.client.now c.read.new.client e.client c.args.self.now.colours c.requires.client
          c.requires.map.colours;
      folds = subst (λ (l : List ℕ). KeepsFold IsTxState c.read.new.client (rising l) c.read.new.self.kept) c.as_slice.ensures e.kept;
    }

pub returns-in-Ok-found-clause-ok : goal.returns-in-Ok-found-clause-ok
returns-in-Ok-found-clause-ok g c =
    let f = c.in-Ok-found.ensures.found in
    reads_keys c.args.keys.now c.in-Ok-found.values c.in-Ok-found.tx c.read.new.self.kept.state f.1
    c.args.store.now c.args.client.now c.read.new.client c.args.self.now.colours c.args.self.now.fold.kept.last c.in-Ok.read f.0
    (subst (λ (l : List ℕ). ReadsNodes c.args.store.now c.args.client.now c.read.new.client l c.args.self.now.fold.kept.last c.in-Ok.read
    (λ nodes. IsTxState c.read.new.self.kept.state nodes × AreWriters nodes)) c.as_slice.ensures c.in-Ok.ensures.ok)

pub returns-in-Ok-found-clause-many : goal.returns-in-Ok-found-clause-many
returns-in-Ok-found-clause-many g c =
    let k = c.read.ensures.kept in
    found_many c.args.keys.now c.in-Ok-found.values c.in-Ok-found.tx c.read.new.self.kept.state c.in-Ok-found.ensures.found.1 k.0 k.1

pub returns-in-Ok-found-clause-versions : goal.returns-in-Ok-found-clause-versions
returns-in-Ok-found-clause-versions g c can =
    let k = c.read.ensures.kept in
    found_named c.args.keys.now c.in-Ok-found.values c.in-Ok-found.tx c.read.new.self.kept.state c.in-Ok-found.ensures.found.1 k.0 k.1
    k.3 can

pub returns-in-Ok-found-clause-raises : goal.returns-in-Ok-found-clause-raises
returns-in-Ok-found-clause-raises g c = c.in-Ok.ensures.shows.raises ∙ ap rising c.as_slice.ensures

pub returns-in-Ok-found-clause-syncs : goal.returns-in-Ok-found-clause-syncs
returns-in-Ok-found-clause-syncs g c = c.in-Ok.ensures.shows.syncs ∙ ap rising c.as_slice.ensures

pub returns-in-Err-found-clause-err : goal.returns-in-Err-found-clause-err
returns-in-Err-found-clause-err g c =
    subst (λ (l : List ℕ). ReadHidden c.args.store.now c.args.client.now c.read.new.client (rising l)) c.as_slice.ensures c.in-Ok.ensures.hidden

pub returns-in-Err-clause-err : goal.returns-in-Err-clause-err
returns-in-Err-clause-err g c =
    subst (λ (l : List ℕ). ReadRefused c.args.store.now c.args.client.now c.read.new.client (rising l) c.in-Err.fault) c.as_slice.ensures
    c.in-Err.ensures.err
