-- What a client's holds have seen, as what it knows of the log.
use Rattle.std.proofs.Common.{◌≡◌, ℕ, ◌<◌, ◌≤◌, List, [], ◌∷◌, Option, Some, None, slice_get, Bool, true, false, cond, refl, ap, sym, subst, ◌∙◌, inl, inr, ◌⊎◌, arith}
use Rattle.std.specs.Prelude.{◌==◌}
use Rattle.std.proofs.lemmas.Bool.{cases_lt}
use Rattle.std.proofs.lemmas.Option.{slice_get_past, slice_get_within}
use mathlib.Core.List.{IsPrefix}
use Rattle.col_core.specs.declared.Entry.{Entry}
use Rattle.col_core.specs.Computed.{dated}
use Rattle.col_core.specs.Legal.{IsColumnHistory}
use Rattle.turn_cell.specs.Histories.{made_by}
use Rattle.chain_store.specs.declared.told.Told.{Told}
use Rattle.chain_store.specs.declared.hold.Hold.{Hold}
use Rattle.chain_store.specs.declared.region.Region.{Region}
use Rattle.chain_store.specs.Histories.{entries_in, maker}
use Rattle.chain_store.specs.Holds.{IsHold, entries_seen, history_seen, made_in, passes_of, seen_in}
use Rattle.chain_store.proofs.CallerLemmas.{lawful_seen}
use Rattle.append_core.proofs.CallerLemmas.{entries_split}
use Rattle.lawful_run.specs.Callers.{Caller}
use Rattle.client_law.specs.Knowing.{MoreIsSeen, AreLawful, SeesOn}
use Rattle.client_law.specs.Making.{made_of}
use Rattle.log_client.specs.Fits.{entries_by, seen_by, HaveGoneOn}
use Rattle.log_client.specs.Ending.{AreRegions, AreHoldsIn}
use Rattle.log_client.proofs.Lists.{got}

-- of a hold's region it is what the hold has seen
pub seen_there : (hs : List Hold) (region : ℕ) (h : Hold) → slice_get hs region ≡ Some h → (colour : ℕ)
    → seen_by hs region colour ≡ entries_seen h colour
seen_there hs region h at colour = ap (λ (o : Option Hold). entries_by o colour) at

-- the entries of a longer history
pub entries_longer : (old new : List Told) → IsPrefix old new → IsPrefix (entries_in old) (entries_in new)
entries_longer old new p = (entries_in p.0, sym (entries_split old p.0) ∙ ap entries_in p.1)

pub sees_more : (gs hs : List Hold) → HaveGoneOn gs hs → MoreIsSeen (seen_by gs) (seen_by hs)
sees_more gs hs on region colour = by_hold (slice_get gs region) refl where
  by_hold : (o : Option Hold) → slice_get gs region ≡ o → IsPrefix (seen_by gs region colour) (seen_by hs region colour)
  by_hold None e = subst (λ (o : Option Hold). IsPrefix (entries_by o colour) (seen_by hs region colour)) (sym e)
      (seen_by hs region colour, refl)
  by_hold (Some g) e =
      let lt = slice_get_within gs region g e in
      let many = on.0 in
      let h = got hs region (omega (arith, lt, many)) in
      subst (λ (o : Option Hold). IsPrefix (entries_by o colour) (seen_by hs region colour)) (sym e)
      (subst (λ (o : Option Hold). IsPrefix (entries_seen g colour) (entries_by o colour)) (sym h.1)
      (entries_longer (seen_in g colour) (seen_in h.0 colour) ((on.1 region g h.0 e h.1).more colour)))

-- nothing is lawful
pub nothing_lawful : (own regions : ℕ) → IsColumnHistory own regions (dated own [])
nothing_lawful own regions n d e = absurd (let f : ⊥ = cc in f)

-- a hold has seen nothing of a column that its region has not
pub nothing_beyond : (r : Region) (h : Hold) (colour : ℕ) → IsHold r h → r.board.size.colours ≤ colour
    → seen_in h colour ≡ []
nothing_beyond r h colour is le =
    let all = r.count in
    let many = is.passes.0 in
    ap history_seen (slice_get_past (passes_of h) colour (omega (arith, le, all, many)))

pub are_lawful : (regions : ℕ) (rs : List Region) (hs : List Hold) → AreRegions regions rs → AreHoldsIn rs hs
    → AreLawful regions (seen_by hs)
are_lawful regions rs hs are holds region colour = by_hold (slice_get hs region) refl where
  of_region : (r : Region) (h : Hold) → slice_get rs region ≡ Some r → slice_get hs region ≡ Some h
      → IsColumnHistory region regions (dated region (entries_seen h colour))
  of_region r h there at = by_colour (cases_lt colour r.board.size.colours) where
    by_colour : (colour < r.board.size.colours) ⊎ (r.board.size.colours ≤ colour)
        → IsColumnHistory region regions (dated region (entries_seen h colour))
    by_colour (inl lt) =
        subst (λ (n : ℕ). IsColumnHistory n regions (dated n (entries_seen h colour))) (are region r there).0
        (subst (λ (n : ℕ). IsColumnHistory r.number n (dated r.number (entries_seen h colour))) (are region r there).1
        (lawful_seen r h colour (holds.1 region r h there at) lt))
    by_colour (inr le) =
        subst (λ (l : List Told). IsColumnHistory region regions (dated region (entries_in l)))
        (sym (nothing_beyond r h colour (holds.1 region r h there at) le)) (nothing_lawful region regions)

  by_hold : (o : Option Hold) → slice_get hs region ≡ o
      → IsColumnHistory region regions (dated region (seen_by hs region colour))
  by_hold None e = subst (λ (o : Option Hold). IsColumnHistory region regions (dated region (entries_by o colour))) (sym e)
      (nothing_lawful region regions)
  by_hold (Some h) e =
      let lt = slice_get_within hs region h e in
      let many = holds.0 in
      let r = got rs region (omega (arith, lt, many)) in
      subst (λ (o : Option Hold). IsColumnHistory region regions (dated region (entries_by o colour))) (sym e)
      (of_region r.0 h r.1 e)

pub sees_on : (caller : Caller) (rs : List Region) (gs hs : List Hold) → caller.own < 4 → AreRegions caller.regions rs
    → AreHoldsIn rs hs → HaveGoneOn gs hs → SeesOn caller (seen_by gs) (seen_by hs)
sees_on caller rs gs hs home are holds on = record {
  more = sees_more gs hs on;
  lawful = are_lawful caller.regions rs hs are holds;
  home = home;
}

-- what a client made of a history, entry by entry
pub made_entries : (client : ℕ) (log : List Told) → made_of client (entries_in log) ≡ entries_in (made_by maker client log)
made_entries client [] = refl
made_entries client (t ∷ log) =
    by_bool (t.entry.by == client) (made_of client (entries_in log)) (made_by maker client log)
    (made_entries client log) where
      by_bool : (b : Bool) (es : List Entry) (ts : List Told) → es ≡ entries_in ts
          → cond b (t.entry ∷ es) es ≡ entries_in (cond b (t ∷ ts) ts)
      by_bool true es ts e = ap (λ (l : List Entry). t.entry ∷ l) e
      by_bool false es ts e = e

-- what a hold made is what its client made of what it has seen
pub made_there : (h : Hold) (client colour : ℕ) → h.passes.number ≡ client
    → made_of client (entries_seen h colour) ≡ entries_in (made_in h colour)
made_there h client colour is =
    made_entries client (seen_in h colour)
    ∙ ap (λ (n : ℕ). entries_in (made_by maker n (seen_in h colour))) (sym is)
