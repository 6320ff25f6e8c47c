use Rattle.std.proofs.Common.{List, ℕ, sym, subst}
use Rattle.lawful_run.specs.Asks.{rising}
use Rattle.log_client.specs.StampedReads.{ReadHidden, ReadRefused}
use Rattle.region_fold.specs.Reads.{AreWriters, KeepsFold, ReadsNodes, ShowsEach}
use Rattle.region_fold.proofs.CallerLemmas.{colours_later}
use Rattle.tree_fold.specs.TreeStates.{IsTree}
use Rattle.log_tree.proofs.TreeAnswers.{reads_so}
use Rattle.log_tree.proofs.tree.LogTree.look.Goals as goal

pub read-requires-clause-kept : goal.read-requires-clause-kept
read-requires-clause-kept g c =
    subst (λ (l : List ℕ). KeepsFold IsTree c.args.client.now (rising l) c.args.self.now.fold.kept) (sym c.as_slice.ensures)
    c.requires.tree.folds

pub returns-in-Ok-clause-tree : goal.returns-in-Ok-clause-tree
returns-in-Ok-clause-tree g c =
    let e = c.read.ensures in record {
      colours = colours_later c.args.store.now c.args.client.now c.read.new.client e.client c.args.self.now.colours c.requires.client
          c.requires.tree.colours;
      folds = subst (λ (l : List ℕ). KeepsFold IsTree c.read.new.client (rising l) c.read.new.self.kept) c.as_slice.ensures e.kept;
    }

pub returns-in-Err-clause-tree : goal.returns-in-Err-clause-tree
returns-in-Err-clause-tree g c =
    let e = c.read.ensures in record {
      colours = colours_later c.args.store.now c.args.client.now c.read.new.client e.client c.args.self.now.colours c.requires.client
          c.requires.tree.colours;
      folds = subst (λ (l : List ℕ). KeepsFold IsTree c.read.new.client (rising l) c.read.new.self.kept) c.as_slice.ensures e.kept;
    }

pub returns-in-Ok-clause-ok : goal.returns-in-Ok-clause-ok
returns-in-Ok-clause-ok g c =
    reads_so c.args.store.now c.args.client.now c.read.new.client c.args.self.now.colours c.args.self.now.fold.kept.last c.in-Ok.read
    (λ nodes. IsTree c.read.new.self.kept.state nodes × AreWriters nodes) (IsTree c.read.new.self.kept.state) (λ nodes has. has.0)
    (subst (λ (l : List ℕ). ReadsNodes c.args.store.now c.args.client.now c.read.new.client l c.args.self.now.fold.kept.last c.in-Ok.read
    (λ nodes. IsTree c.read.new.self.kept.state nodes × AreWriters nodes)) c.as_slice.ensures c.in-Ok.ensures.ok)

pub returns-in-Ok-clause-shows : goal.returns-in-Ok-clause-shows
returns-in-Ok-clause-shows g c =
    subst (λ (l : List ℕ). ShowsEach c.args.client.now c.read.new.client l c.in-Ok.read) c.as_slice.ensures c.in-Ok.ensures.shows

pub returns-in-Ok-clause-hidden : goal.returns-in-Ok-clause-hidden
returns-in-Ok-clause-hidden g c =
    subst (λ (l : List ℕ). ReadHidden c.args.store.now c.args.client.now c.read.new.client (rising l)) c.as_slice.ensures c.in-Ok.ensures.hidden

pub returns-in-Err-clause-err : goal.returns-in-Err-clause-err
returns-in-Err-clause-err g c =
    subst (λ (l : List ℕ). ReadRefused c.args.store.now c.args.client.now c.read.new.client (rising l) c.in-Err.fault) c.as_slice.ensures
    c.in-Err.ensures.err
