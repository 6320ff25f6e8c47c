-- What the code asks of a column for a settling, and what it makes of the world in code.
use Rattle.std.proofs.Common.{◌≡◌, ℕ, ◌<◌, Bool, true, List, [], length, get_or, set, ap, sym, subst, ◌∙◌, arith}
use Rattle.std.specs.Prelude.{◌&&◌, if◌then◌else◌}
use Rattle.std.proofs.lemmas.Bool.{cond-true, cond-false}
use Rattle.log_node.specs.declared.ids.Id.{Id}
use Rattle.log_node.specs.declared.ids.Row.{Row}
use Rattle.log_node.specs.declared.node.At.{At}
use Rattle.log_node.specs.declared.node.At.TheVariants as ats
use Rattle.log_node.specs.declared.marks.Outcome.{Outcome}
use Rattle.skeen_core.specs.Queues.{has_open, is_decided, MaySettle}
use Rattle.col_core.specs.History.{last_stamp, entries}
use Rattle.col_core.proofs.CallerLemmas.{by_test}
use Rattle.column.specs.Columns.{ColumnState}
use Rattle.column.specs.Columns as columns
use Rattle.world_laws.specs.declared.steps.Step.TheVariants as steps
use Rattle.world_laws.specs.Worlds.{home_of, row_of, is_begun, may_settle, reply}
use Rattle.world_code.specs.Replies.{place_reply, event_at}
use Rattle.world_code.specs.WorldView.{WorldView, no_column, column_at, world_of, IsWhole}
use Rattle.world_code.proofs.ChangedRows.{Begun, begun_is}
use Rattle.world_code.proofs.MoveCalls.{Moved, put_columns}
use Rattle.world_code.proofs.RaiseSteps.{default_free}
use Rattle.world_code.proofs.MarkSteps.{columns_there}
use Rattle.world_code.proofs.SettleSteps.{in_columns, its_settling, settles, settles_is, settled_world}
use Rattle.world_code.proofs.SettleSteps.{settled_whole}

-- A column is called for a settling of a begun row, with what the code has read: the row's region, its columns, the id of
-- the row's node and the outcome that the row keeps.
pub record SettleCall (code : WorldView) (row : Row) (colour home : ℕ) (cs : List ColumnState) (id : Id)
    (outcome : Outcome) : Type 0 where
  pub whole : IsWhole code
  pub begun : is_begun (world_of code) row ≡ true
  pub in_colours : colour < code.shape.colours
  pub home_is : home_of (world_of code) row.client ≡ home
  pub columns_are : cs ≡ get_or code.columns home cs
  pub id_is : id ≡ (row_of (world_of code) row).node.id
  pub outcome_is : outcome ≡ (row_of (world_of code) row).last

-- the region's columns are there
pub settle_home : (code : WorldView) (row : Row) (home : ℕ) → IsWhole code → is_begun (world_of code) row ≡ true
    → home_of (world_of code) row.client ≡ home → home < length code.columns
settle_home code row home w begun home_is =
    let lt = columns_there code w row (begun_is code w row begun) in omega (arith, home_is, lt)

module _ {code : WorldView} {row : Row} {colour home : ℕ} {cs : List ColumnState} {id : Id} {outcome : Outcome}
    (call : SettleCall code row colour home cs id outcome) where
  b : Begun code row
  b = begun_is code call.whole row call.begun

  abbrev region : ℕ
  region = home_of (world_of code) row.client

  abbrev its_id : Id
  its_id = (row_of (world_of code) row).node.id

  abbrev last : Outcome
  last = (row_of (world_of code) row).last

  abbrev old : ColumnState
  old = column_at code.columns region colour

  abbrev read : ColumnState
  read = get_or cs colour no_column

  abbrev its_test : Bool
  its_test = settles code call.whole row b colour call.in_colours

  columns_same : cs ≡ get_or code.columns region []
  columns_same =
      call.columns_are
      ∙ (ap (λ (h : ℕ). get_or code.columns h cs) (sym call.home_is)
      ∙ default_free code.columns region cs [] (columns_there code call.whole row b))

  column_same : read ≡ old
  column_same = ap (λ (l : List ColumnState). get_or l colour no_column) columns_same

  pub call_colour : colour < length cs
  call_colour =
      let n = ap length columns_same in
      let lt = in_columns code call.whole row b colour call.in_colours in
      omega (arith, n, lt)

  pub call_settles : MaySettle id outcome (entries read.journal) last_stamp
  call_settles =
      subst (λ (c : ColumnState). MaySettle id outcome (entries c.journal) last_stamp) (sym column_same)
      (subst (λ (i : Id). MaySettle i outcome (entries old.journal) last_stamp) (sym call.id_is)
      (subst (λ (o : Outcome). MaySettle its_id o (entries old.journal) last_stamp) (sym call.outcome_is)
      (its_settling code call.whole row b colour call.in_colours)))

  abbrev test_of : ColumnState → Bool
  test_of q = has_open id (entries q.journal) && is_decided outcome

  test_same : test_of read ≡ its_test
  test_same =
      ap test_of column_same
      ∙ (ap (λ (i : Id). has_open i (entries old.journal) && is_decided outcome) call.id_is
      ∙ ap (λ (o : Outcome). has_open its_id (entries old.journal) && is_decided o) call.outcome_is)

  pub settle_moved : (by : ℕ) {new : List ColumnState}
      → new ≡ set cs colour (if test_of read then columns.after_settle read by id outcome else read)
      → Moved code (steps.Settle by row colour) (put_columns code home new)
  settle_moved by {new} new_is =
      subst (λ (l : List (List ColumnState)). Moved code (steps.Settle by row colour) (record code { columns = l }))
      (sym (ap (λ (h : ℕ). set code.columns h new) (sym call.home_is)
      ∙ ap (λ (l : List ColumnState). set code.columns region l)
      (new_is
      ∙ (ap (λ (l : List ColumnState). set l colour (if test_of (get_or l colour no_column)
      then columns.after_settle (get_or l colour no_column) by id outcome else get_or l colour no_column))
      columns_same
      ∙ (ap (λ (i : Id). set (get_or code.columns region []) colour
      (if has_open i (entries old.journal) && is_decided outcome then columns.after_settle old by i outcome else old))
      call.id_is
      ∙ ap (λ (o : Outcome). set (get_or code.columns region []) colour
      (if has_open its_id (entries old.journal) && is_decided o then columns.after_settle old by its_id o else old))
      call.outcome_is)))))
      (record {
        world = settled_world code call.whole row b colour call.in_colours by;
        whole = settled_whole code call.whole row b colour call.in_colours by;
      })

  at_is : {at : At} → at ≡ (if test_of read then ats.Event (length read.journal) else ats.Look (length read.journal))
      → at ≡ (if its_test then ats.Event (length old.journal) else ats.Look (length old.journal))
  at_is is =
      is
      ∙ (ap (λ (b : Bool). if b then ats.Event (length read.journal) else ats.Look (length read.journal)) test_same
      ∙ ap (λ (q : ColumnState). if its_test then ats.Event (length q.journal) else ats.Look (length q.journal))
      column_same)

  pub settle_reply : (by : ℕ) {at : At}
      → at ≡ (if test_of read then ats.Event (length read.journal) else ats.Look (length read.journal))
      → place_reply (event_at at) ≡ reply (world_of code) (steps.Settle by row colour)
  settle_reply by {at} is =
      let same = settles_is code call.whole row b colour call.in_colours in
      by_test _ its_test
      (λ t. ap (λ (a : At). place_reply (event_at a)) (at_is is ∙ cond-true its_test _ _ t)
      ∙ sym (cond-true (may_settle (world_of code) row colour) _ _ (sym same ∙ t)))
      (λ f. ap (λ (a : At). place_reply (event_at a)) (at_is is ∙ cond-false its_test _ _ f)
      ∙ sym (cond-false (may_settle (world_of code) row colour) _ _ (sym same ∙ f)))
