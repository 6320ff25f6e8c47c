-- Those who append at columns under turns.
use Rattle.std.specs.Prelude.{◌≡◌, ℕ, ◌<◌, List, Some, slice_get}
use Rattle.chain_store.specs.Passes.{ColumnCell, IsHolder, tag_in}
use Rattle.bench.specs.declared.columns.jobs.Job.{Job}

-- the column of the region 0 and the colour 0, beside a board of four clients
pub record IsBenchColumn (c : ColumnCell) : Type 0 where
  pub region : (tag_in c).region ≡ 0
  pub colour : (tag_in c).colour ≡ 0
  pub clients : (tag_in c).size.clients ≡ 4

-- a client of it, at rest
pub record IsJob (j : Job) : Type 0 where
  pub column : IsBenchColumn j.cell.now
  pub few : j.by < 4
  pub holds : IsHolder j.cell.now j.by j.pass

-- each is such a client of the column
abbrev pub AreJobs : List Job → Type 0
AreJobs js = (k : ℕ) (j : Job) → slice_get js k ≡ Some j → IsJob j
