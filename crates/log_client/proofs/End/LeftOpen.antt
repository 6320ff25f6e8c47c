-- What was closed stays so in the log with which the store ends.
use Rattle.std.proofs.Common.{◌≡◌, ℕ, ◌<◌, List, Option, Some, None, true, refl, ap, sym, subst, ◌∙◌, inl, inr, ◌⊎◌}
use Rattle.std.specs.List.{All, Contains}
use Rattle.std.proofs.lemmas.List.Elements.{All-contains}
use mathlib.Core.List.{IsPrefix}
use Rattle.log_node.specs.declared.ids.Id.{Id}
use Rattle.log_node.specs.declared.ids.Row.{Row}
use Rattle.log_node.specs.declared.node.Node.{Node}
use Rattle.log_node.specs.declared.marks.Why.{Why}
use Rattle.log_node.specs.declared.marks.Why.TheVariants.{Memory, StampEnd}
use Rattle.log_node.specs.declared.marks.Mark.{Mark}
use Rattle.log_node.specs.declared.marks.Mark.TheVariants.{Fenced}
use Rattle.log_node.specs.declared.marks.ColourMark.{ColourMark}
use Rattle.log_node.specs.declared.marks.Outcome.{Outcome}
use Rattle.log_node.specs.Sets.{has}
use Rattle.log_node.specs.Standings.{Standing, open_entry}
use Rattle.col_core.specs.declared.Entry.{Entry}
use Rattle.col_core.specs.History.{entries, has_entered}
use Rattle.col_core.specs.Computed.{dated}
use Rattle.col_core.specs.Legal.{IsColumnHistory}
use Rattle.col_core.specs.Ids.{Proposes}
use Rattle.col_core.specs.Rows.{BegunRow, FitsRow, FitsRows, IsMarkOf, AreLawfulRows}
use Rattle.col_core.proofs.CallerLemmas.{contains_in, in_contains, in_slice, open_is_proposed, slice_in}
use Rattle.stamp_board.specs.Views.{KnowsMark}
use Rattle.chain_store.specs.declared.hold.Hold.{Hold}
use Rattle.chain_store.specs.Beginning.{begun_for}
use Rattle.chain_store.specs.Histories.{entries_in}
use Rattle.chain_store.specs.Owning.{row_of}
use Rattle.chain_store.specs.Holds.{seen_in, entries_seen, view_of}
use Rattle.chain_store.specs.Closing.{AgreesWith}
use Rattle.chain_store.proofs.CallerLemmas.{member_has, prefix_then}
use Rattle.append_core.specs.Settled.{HoldKnewSettled}
use Rattle.client_law.proofs.CallerLemmas.{closed_stays}
use Rattle.log_client.specs.Clients.{IsClosedIn}
use Rattle.log_client.proofs.Lists.{same_one}
use Rattle.log_client.proofs.Known.Seeing.{entries_longer}

-- where a mark is a fence nothing is proposed
fenced_not : (history : List Entry) (x : Node) (why : Why) (stamp : ℕ) → IsMarkOf history x (Fenced why)
    → Proposes history x.id stamp → ⊥
fenced_not history x Memory stamp none p = none stamp p
fenced_not history x StampEnd stamp none p = none.0 stamp p

-- the row of a proposal
row_proposed : (region colours : ℕ) (histories : ℕ → List Entry) (rows : List BegunRow)
    → AreLawfulRows region colours histories rows → (colour : ℕ) → colour < colours → (id : Id) (stamp : ℕ)
    → Proposes (histories colour) id stamp
    → (b : BegunRow) × Contains rows b × (b.node.id ≡ id) × (has b.node.colours colour ≡ true)
row_proposed region colours histories rows lawful colour lt id stamp p =
    let fits = subst (FitsRows rows colour) p.5
    (All-contains (λ (e : Entry). FitsRows rows colour e.event) (histories colour) p.1 (lawful.events colour lt)
    (contains_in (histories colour) p.1 (slice_in (histories colour) p.0 p.1 p.4))) in (
      fits.1,
      contains_in rows fits.1 (slice_in rows fits.0 fits.1 fits.2),
      fits.3,
      member_has fits.1.node.colours fits.6 colour fits.7,
    )

-- an open id is of a row
pub open_row : (region regions colours : ℕ) (histories : ℕ → List Entry) (rows : List BegunRow)
    → AreLawfulRows region colours histories rows → (colour : ℕ) → colour < colours
    → IsColumnHistory region regions (dated region (histories colour)) → (id : Id) (e : Standing)
    → open_entry id (entries (histories colour)) ≡ Some e
    → Proposes (histories colour) id e.key.stamp
    × (b : BegunRow) × Contains rows b × (b.node.id ≡ id) × (has b.node.colours colour ≡ true)
open_row region regions colours histories rows lawful colour lt good id e found =
    let p = (open_is_proposed region regions (histories colour) id e good found).proposed in
    let row = row_proposed region colours histories rows lawful colour lt id e.key.stamp p in
    (p, row.0, row.1, row.2, row.3)

-- no two rows have nodes with one id
pub one_row : (region colours : ℕ) (histories : ℕ → List Entry) (rows : List BegunRow)
    → AreLawfulRows region colours histories rows → (b d : BegunRow) → Contains rows b → Contains rows d
    → b.node.id ≡ d.node.id → b ≡ d
one_row region colours histories rows lawful b d at_b at_d same =
    let i = in_slice rows b (in_contains rows b at_b) in
    let j = in_slice rows d (in_contains rows d at_d) in
    same_one (λ (x : BegunRow). x.node.id) rows lawful.ids_differ i.0 j.0 b d i.1 j.1 same

-- rows of a region, and the history of a colour's column
module _ (region regions colours : ℕ) (histories : ℕ → List Entry) (rows : List BegunRow)
    (lawful : AreLawfulRows region colours histories rows) (colour : ℕ) (lt : colour < colours)
    (good : IsColumnHistory region regions (dated region (histories colour))) where
  -- the row's append is fenced in the colour, or its id had entered there and was open no more
  abbrev pub ClosedBy : BegunRow → Type 0
  ClosedBy b =
      ((why : Why) × Contains b.marks (record { colour = colour; mark = Fenced why }))
      ⊎ ((old : List Entry) × IsPrefix old (histories colour) × (has_entered b.node.id old ≡ true)
      × (open_entry b.node.id (entries old) ≡ None))

  -- then it is not proposed and open
  not_open_row : (b : BegunRow) (stamp : ℕ) (e : Standing) → Contains rows b → Proposes (histories colour) b.node.id stamp
      → open_entry b.node.id (entries (histories colour)) ≡ Some e → ClosedBy b → ⊥
  not_open_row b stamp e among proposed found (inl fenced) =
      fenced_not (histories colour) b.node fenced.0 stamp
      (All-contains (λ (m : ColourMark). IsMarkOf (histories m.colour) b.node m.mark) b.marks
      (record { colour = colour; mark = Fenced fenced.0 })
      (All-contains (λ (r : BegunRow). All (λ m. IsMarkOf (histories m.colour) r.node m.mark) r.marks) rows b lawful.marks
      among) fenced.1) proposed
  not_open_row b stamp e among proposed found (inr over) =
      let still = closed_stays region regions over.0 (histories colour) b.node.id good over.1 over.2 over.3 in
      let two : Some e ≡ None = sym found ∙ still in
      let f : ⊥ = cc two in
      f

  -- an id is open of no row that is closed
  not_open : (id : Id) → ((b : BegunRow) → Contains rows b → b.node.id ≡ id → has b.node.colours colour ≡ true → ClosedBy b)
      → open_entry id (entries (histories colour)) ≡ None
  not_open id closed = by_entry (open_entry id (entries (histories colour))) refl where
    by_entry : (o : Option Standing) → open_entry id (entries (histories colour)) ≡ o
        → open_entry id (entries (histories colour)) ≡ None
    by_entry None e = e
    by_entry (Some e) found =
        let o = open_row region regions colours histories rows lawful colour lt good id e found in
        absurd (not_open_row o.1 e.key.stamp e o.2
        (subst (λ (i : Id). Proposes (histories colour) i e.key.stamp) (sym o.3) o.0)
        (ap (λ (i : Id). open_entry i (entries (histories colour))) o.3 ∙ found) (closed o.1 o.2 o.3 o.4))

  -- the id of a row that is closed is not open
  pub row_not_open : (b : BegunRow) → Contains rows b → (has b.node.colours colour ≡ true → ClosedBy b)
      → open_entry b.node.id (entries (histories colour)) ≡ None
  row_not_open b among closed = not_open b.node.id (λ d there same of.
      let is = one_row region colours histories rows lawful d b there among same in
      subst ClosedBy (sym is) (closed (subst (λ (x : BegunRow). has x.node.colours colour ≡ true) is of)))

  -- no id of a client is open whose rows are all closed
  pub ids_not_open : (n : ℕ)
      → ((b : BegunRow) → Contains rows b → b.row.client ≡ n → has b.node.colours colour ≡ true → ClosedBy b)
      → (id : Id) → id.client ≡ n → open_entry id (entries (histories colour)) ≡ None
  ids_not_open n closed id mine = not_open id (λ b there same of. closed b there
      (sym (All-contains (FitsRow region) rows b lawful.fit there).client ∙ (ap (λ (i : Id). i.client) same ∙ mine)) of)

  -- what a hold knows of a row, which has seen a beginning of the history
  module _ (h : Hold) (b : BegunRow) (agrees : AgreesWith h b) (more : IsPrefix (entries_seen h colour) (histories colour))
      (of : has b.node.colours colour ≡ true) where
    fenced_there : (why : Why) → KnowsMark (view_of h) b.row colour (Fenced why) → ClosedBy b
    fenced_there why known = inl (why, agrees.marks colour (Fenced why) of known)

    pub closed_in_row : (j : ℕ) → b.row ≡ row_of h.passes.number j → IsClosedIn h j b.node colour → ClosedBy b
    closed_in_row j row (inl fenced) =
        fenced_there fenced.0
        (subst (λ (r : Row). KnowsMark (view_of h) r colour (Fenced fenced.0)) (sym row) fenced.1)
    closed_in_row j row (inr over) = inr (entries_seen h colour, more, over.0, over.1)

    pub closed_where_settled : (o : Outcome) → HoldKnewSettled h (begun_for b.node b.row) o colour → ClosedBy b
    closed_where_settled o s = elim s.over.done [
      | inl fenced ↦ fenced_there fenced.0
          (subst (λ (m : Mark). KnowsMark (view_of h) b.row colour m) fenced.1 s.over.known)
      | inr entered ↦ inr (
        entries_in s.log,
        prefix_then (entries_in s.log) (entries_seen h colour) (histories colour)
            (entries_longer s.log (seen_in h colour) s.within) more,
        entered,
        s.over.closed,
      )
    ]
