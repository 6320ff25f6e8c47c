-- What holds of every world that steps have made.
use Rattle.std.proofs.Common.{◌≡◌, ℕ, ◌<◌, ◌≤◌, List, false, ◌⊎◌}
use Rattle.std.specs.Prelude.{◌==◌, ◌&&◌, ◌≢◌, reverse, if◌then◌else◌}
use Rattle.std.specs.List.{flat_map}
use Rattle.log_node.specs.declared.ids.Id.{Id}
use Rattle.log_node.specs.declared.node.Head.{Head}
use Rattle.log_node.specs.Order.{same_id}
use Rattle.log_node.specs.declared.marks.Mark.{Mark}
use Rattle.log_node.specs.declared.marks.Mark.TheVariants as marks
use Rattle.log_node.specs.declared.marks.Outcome.{Outcome}
use Rattle.log_node.specs.declared.marks.Outcome.TheVariants.{Open}
use Rattle.log_node.specs.Outcomes.{outcome_of}
use Rattle.col_core.specs.declared.Entry.{Entry}
use Rattle.col_core.specs.History.{last_stamp}
use Rattle.col_core.specs.Cuts.{carried}
use Rattle.col_core.specs.Computed.{dated}
use Rattle.col_core.specs.Copies.{AreTrueCopies}
use Rattle.col_core.specs.Legal.{IsColumnHistory}
use Rattle.col_core.proofs.CallerLemmas.{In, Status, Absent, Alone, Waits, Settled, status}
use Rattle.world_laws.specs.Worlds.{World, RowState, home_of, marks_of, is_member}

-- what a history says of an id
abbrev pub status_in : List Entry → Id → Status
status_in history id = status id (reverse history)

-- what an id is: not yet used, that of one entry in one column, or that of its client's row of this number
pub data Kind : Type 0 where
  Unborn : Kind
  OfSingle : (region colour stamp : ℕ) → Kind
  OfRow : (number : ℕ) → Kind

-- a column's status of a row's id is that of the colour's mark and the kept outcome
abbrev pub Agrees : Mark → Outcome → Status → Type 0
Agrees marks.None last st = st ≡ Absent
Agrees (marks.Fenced why) last st = st ≡ Absent
Agrees (marks.Number s) last st = (st ≡ Waits s) ⊎ ((last ≢ Open) × (st ≡ Settled last))

-- a row's mark of a column: none in the columns of other regions
abbrev pub column_mark : ℕ → RowState → ℕ → ℕ → Mark
column_mark home r region colour = if region == home then r.marks colour else marks.None

abbrev pub single_status : ℕ → ℕ → ℕ → ℕ → ℕ → Status
single_status region colour stamp r c = if (r == region) && (c == colour) then Alone stamp else Absent

pub record FitsRow (w : World) (id : Id) (number r c : ℕ) (st : Status) : Type 0 where
  pub begun : number < (w.clients id.client).used
  pub is : (w.rows id.client number).node.id ≡ id
  pub agrees : Agrees (column_mark (home_of w id.client) (w.rows id.client number) r c)
      (w.rows id.client number).last st

-- a column's status of an id is as its kind has it
abbrev pub Fits : World → Id → Kind → ℕ → ℕ → Status → Type 0
Fits w id Unborn r c st = st ≡ Absent
Fits w id (OfSingle region colour stamp) r c st = st ≡ single_status region colour stamp r c
Fits w id (OfRow number) r c st = FitsRow w id number r c st

pub record IsSound (kind : Id → Kind) (client number : ℕ) (r : RowState) : Type 0 where
  pub of_client : r.node.id.client ≡ client
  pub of_id : kind r.node.id ≡ OfRow number
  pub kept : (r.last ≡ Open) ⊎ (r.last ≡ outcome_of (marks_of r))
  pub in_set : (c : ℕ) → is_member r.node.colours c ≡ false → r.marks c ≡ marks.None
  pub numbers : (c s : ℕ) → r.marks c ≡ marks.Number s → s ≤ last_stamp
  pub floor : r.node.floor ≤ last_stamp

-- the heads of a region that a history brings
abbrev pub heads_of : ℕ → List Entry → List Head
heads_of region history = flat_map (λ e. carried region e.event) history

pub record Held (w : World) : Type 0 where
  pub kind : Id → Kind
  pub fresh : (id : Id) → (w.clients id.client).count ≤ id.count → kind id ≡ Unborn
  pub fits : (id : Id) (r c : ℕ) → Fits w id (kind id) r c (status_in (w.histories r c) id)
  pub rows : (a n : ℕ) → n < (w.clients a).used → IsSound kind a n (w.rows a n)
  pub lawful : (r c : ℕ) → IsColumnHistory r w.shape.regions (dated r (w.histories r c))
  pub heads : (r c region : ℕ) (head : Head) → In head (heads_of region (w.histories r c)) → head.key.stamp ≤ last_stamp
  pub floors : (a : ℕ) → (w.clients a).floor ≤ last_stamp
  pub copies : (c : ℕ) → AreTrueCopies w.shape.regions (λ r. dated r (w.histories r c))

-- the kinds after an id is used
abbrev pub put_kind : (Id → Kind) → Id → Kind → Id → Kind
put_kind kind id0 k id = if same_id id id0 then k else kind id
