-- What a hold knows of a begun append in the columns of its colours. Of the log the same is said by col_core's words.
use Rattle.std.specs.Prelude.{◌≡◌, ◌≢◌, ◌⊎◌, ℕ, true, List, None}
use mathlib.Core.List.{IsPrefix}
use Rattle.log_node.specs.declared.ids.Id.{Id}
use Rattle.log_node.specs.declared.ids.Row.{Row}
use Rattle.log_node.specs.declared.node.Node.{Node}
use Rattle.log_node.specs.Seen.{BegunAppend}
use Rattle.log_node.specs.Sets.{has}
use Rattle.log_node.specs.Standings.{open_entry}
use Rattle.log_node.specs.declared.marks.Why.{Why}
use Rattle.log_node.specs.declared.marks.Mark.{Mark}
use Rattle.log_node.specs.declared.marks.Mark.TheVariants as marks
use Rattle.log_node.specs.declared.marks.Outcome.{Outcome}
use Rattle.log_node.specs.declared.marks.Outcome.TheVariants.{Open, Final}
use Rattle.col_core.specs.History.{entries, has_entered}
use Rattle.col_core.specs.Ids.{IsFinal}
use Rattle.stamp_board.specs.Rows.{IsRow}
use Rattle.stamp_board.specs.Views.{KnowsBegun, KnowsMark, KnowsOutcome}
use Rattle.chain_store.specs.declared.told.Told.{Told}
use Rattle.chain_store.specs.declared.hold.Hold.{Hold}
use Rattle.chain_store.specs.Beginning.{begun_for}
use Rattle.chain_store.specs.Histories.{entries_in}
use Rattle.chain_store.specs.Holds.{seen_in, view_of}

-- Its mark there is known: it is fenced, or its id has entered, as far as the hold has seen. It stays so.
pub record HoldKnowsMarked (h : Hold) (b : BegunAppend) (c : ℕ) : Type 0 where
  pub mark : Mark
  pub set : mark ≢ marks.None
  pub known : KnowsMark (view_of h) b.row c mark
  pub done : ((why : Why) × (mark ≡ marks.Fenced why)) ⊎ (has_entered b.id (entries_in (seen_in h c)) ≡ true)

-- over this history of the column of a colour: it is marked, is open no more, and is final under the number where the
-- outcome is final
pub record HoldKnowsSettledOver (h : Hold) (b : BegunAppend) (o : Outcome) (c : ℕ) (log : List Told) : Type 0 where
  pub mark : Mark
  pub set : mark ≢ marks.None
  pub known : KnowsMark (view_of h) b.row c mark
  pub closed : open_entry b.id (entries (entries_in log)) ≡ None
  pub done : ((why : Why) × (mark ≡ marks.Fenced why)) ⊎ (has_entered b.id (entries_in log) ≡ true)
  pub final : (f : ℕ) → o ≡ Final f → IsFinal (entries_in log) b.id f

-- It is settled there, over all that the hold has seen.
abbrev pub HoldKnowsSettled : Hold → BegunAppend → Outcome → ℕ → Type 0
HoldKnowsSettled h b o c = HoldKnowsSettledOver h b o c (seen_in h c)

-- It was settled there, over what the hold had seen at some time. It stays so.
pub record HoldKnewSettled (h : Hold) (b : BegunAppend) (o : Outcome) (c : ℕ) : Type 0 where
  pub log : List Told
  pub within : IsPrefix log (seen_in h c)
  pub over : HoldKnowsSettledOver h b o c log

-- As the hold knows, the append of this id is complete: its row has an outcome, and it was settled in each of its node's
-- colours. It stays so.
pub record HoldKnowsComplete (h : Hold) (id : Id) : Type 0 where
  pub row : Row
  pub node : Node
  pub of_id : node.id ≡ id
  pub on_board : IsRow (view_of h).size row
  pub begun : KnowsBegun (view_of h) row node
  pub outcome : Outcome
  pub shut : outcome ≢ Open
  pub known : KnowsOutcome (view_of h) row outcome
  pub settled : (c : ℕ) → has node.colours c ≡ true → HoldKnewSettled h (begun_for node row) outcome c
