-- Syncs, pulls and trims, from what a client has seen.
use Rattle.std.specs.Prelude.{◌≡◌, ◌≢◌, ◌⊎◌, IsFalse, ℕ, ◌+◌, ◌≤◌, List, [], ◌∷◌, ◌++◌, length, take, Some, slice_get}
use Rattle.std.specs.List.{All, AllZip}
use Rattle.log_node.specs.declared.ids.Counts.{Counts}
use Rattle.log_node.specs.declared.node.At.{At}
use Rattle.log_node.specs.declared.node.At.TheVariants.{Event, Look}
use Rattle.log_node.specs.declared.node.Head.{Head}
use Rattle.log_node.specs.Seen.{PlacedNode}
use Rattle.log_node.specs.Vectors.{IsWithin, is_within}
use Rattle.col_core.specs.declared.Event.TheVariants as events
use Rattle.col_core.specs.History.{line}
use Rattle.col_core.specs.Cuts.{Dated, chain, base}
use Rattle.col_core.specs.Computed.{cut, dated}
use Rattle.col_core.specs.PlayOrder.{Place, Stands, IsPlayOrder}
use Rattle.col_core.specs.Log.{HasText}
use Rattle.col_core.specs.Keeping.{Kept, kept_after_sync, seen_after}
use Rattle.lawful_run.specs.Callers.{Caller}
use Rattle.lawful_run.specs.Reads.{Syncs, ShowsPlayed, IsTrimmed, greatest_stamp, events_until}
use Rattle.lawful_run.specs.Moves.{GivesFrom, AsksFor, GivesTooLow, Pulls, OnlyGives, kept_after_pull, kept_after_giving, TrimsBy}
use Rattle.client_law.specs.Knowing.{Seen, Rest, log_seen, SeesOn}
use Rattle.client_law.specs.Making.{own_steps, RiseFrom, MakesNone, MakesOnly}
use Rattle.client_law.specs.Kept.{IsKeptBy}

-- the column of a colour of the client's region, as it is seen, with its cuts
abbrev pub home_dated : Seen → Caller → ℕ → List Dated
home_dated new caller colour = dated caller.own (new caller.own colour)

-- SYNCS

-- a look at a colour from which a client may play: its cut, and that no node is trimmed that was not played
pub record LooksThere (new : Seen) (caller : Caller) (kept : Kept) (colour : ℕ) (snapshot : Counts) : Type 0 where
  pub is_cut : snapshot ≡ cut caller.own (home_dated new caller colour)
  pub not_trimmed : IsWithin (base caller.own caller.regions (home_dated new caller colour)) (kept.starts colour)

-- Such a look is that of a sync in the log that is seen, with all that was known to stand in its snapshot.
abbrev pub SyncsStand : Type 0
SyncsStand = (old new : Seen) (rest : Rest) (caller : Caller) (kept : Kept) (colour : ℕ) (snapshot : Counts)
    → SeesOn caller old new → IsKeptBy old caller kept → LooksThere new caller kept colour snapshot
    → Syncs (log_seen new rest) caller kept colour (length (new caller.own colour)) snapshot

-- a node line shows the node at the place of what is seen, with its text
pub record ShowsThere (new : Seen) (rest : Rest) (caller : Caller) (colour : ℕ) (place : Place)
    (item : PlacedNode) : Type 0 where
  pub head : Head
  pub stands : Stands (chain caller.own (home_dated new caller colour)) place head
  pub key : item.head.key ≡ head.key
  pub text : HasText (log_seen new rest) head.key.id item.node.text

-- the node lines show the nodes from the last snapshot to this one, in the order of play
pub record PlaysThere (new : Seen) (rest : Rest) (caller : Caller) (kept : Kept) (colour : ℕ) (snapshot : Counts)
    (nodes : List PlacedNode) : Type 0 where
  pub order : List Place
  pub played : IsPlayOrder (chain caller.own (home_dated new caller colour)) (kept.starts colour) snapshot order
  pub lines : AllZip (ShowsThere new rest caller colour) order nodes

-- the same of their keys alone, without the texts
pub record PlaysKeys (new : Seen) (caller : Caller) (kept : Kept) (colour : ℕ) (snapshot : Counts)
    (nodes : List PlacedNode) : Type 0 where
  pub order : List Place
  pub played : IsPlayOrder (chain caller.own (home_dated new caller colour)) (kept.starts colour) snapshot order
  pub keys : AllZip (λ place (item : PlacedNode). (head : Head)
      × Stands (chain caller.own (home_dated new caller colour)) place head × (item.head.key ≡ head.key)) order nodes

-- Such node lines are those of a sync in the log that is seen.
abbrev pub PlaysStand : Type 0
PlaysStand = (new : Seen) (rest : Rest) (caller : Caller) (kept : Kept) (colour : ℕ) (snapshot : Counts)
    (nodes : List PlacedNode) → PlaysThere new rest caller kept colour snapshot nodes
    → ShowsPlayed (log_seen new rest) caller kept colour (length (new caller.own colour)) snapshot nodes

-- what is kept after a sync that played these nodes
abbrev pub kept_after_played : Seen → Caller → Kept → ℕ → Counts → List PlacedNode → Kept
kept_after_played new caller kept colour snapshot nodes =
    kept_after_sync kept caller.own colour (length (new caller.own colour)) snapshot (greatest_stamp nodes)

-- What is kept after a sync: the nodes that it played raise the floor above all that it has played.
abbrev pub KeptAfterSync : Type 0
KeptAfterSync = (old new : Seen) (rest : Rest) (caller : Caller) (kept : Kept) (colour : ℕ) (snapshot : Counts)
    (nodes : List PlacedNode) → SeesOn caller old new → MakesNone caller.client old new → IsKeptBy old caller kept
    → LooksThere new caller kept colour snapshot → PlaysThere new rest caller kept colour snapshot nodes
    → IsKeptBy new caller (kept_after_played new caller kept colour snapshot nodes)

-- It rests on the keys alone.
abbrev pub KeptAfterKeys : Type 0
KeptAfterKeys = (old new : Seen) (caller : Caller) (kept : Kept) (colour : ℕ) (snapshot : Counts)
    (nodes : List PlacedNode) → SeesOn caller old new → MakesNone caller.client old new → IsKeptBy old caller kept
    → LooksThere new caller kept colour snapshot → PlaysKeys new caller kept colour snapshot nodes
    → IsKeptBy new caller (kept_after_played new caller kept colour snapshot nodes)

-- A sync is refused where the client lacks nodes that are trimmed in what is seen now.
abbrev pub TrimmedThere : Type 0
TrimmedThere = (old new : Seen) (rest : Rest) (caller : Caller) (kept : Kept) (colour : ℕ) (shown : Counts)
    → SeesOn caller old new → IsKeptBy old caller kept
    → shown ≡ base caller.own caller.regions (home_dated new caller colour)
    → IsFalse (is_within shown (kept.starts colour)) → IsTrimmed (log_seen new rest) caller kept colour shown

-- PULLS

-- the client carried so many nodes by an event that was not seen before, or looked and had none to carry
abbrev pub CarriesThere : Seen → Seen → Caller → ℕ → ℕ → ℕ → At → Type 0
CarriesThere old new caller region colour nodes (Event place) =
    (length (old caller.own colour) ≤ place)
    × (start : ℕ) × (heads : List Head)
    × (slice_get (new caller.own colour) place
    ≡ Some (record { by = caller.client; event = events.Carry region start heads; stamp = 0 }))
    × (nodes ≡ length heads)
CarriesThere old new caller region colour nodes (Look seen) =
    (length (old caller.own colour) ≤ seen) × (seen ≤ length (new caller.own colour)) × (nodes ≡ 0)

-- Gives of late that were made again, and the last one, each from what was held at a look of late before the carry; then
-- the carry, after which all is held that stood in the line at the last give.
pub record PullsThere (old new : Seen) (rest : Rest) (caller : Caller) (region colour nodes place : ℕ) (carry : At)
    (too_low : List ℕ) : Type 0 where
  pub another : region ≢ caller.own
  pub rising : RiseFrom (length (old region colour)) (too_low ++ place ∷ [])
  pub made_again : All (GivesTooLow (log_seen new rest) caller region colour (length (old caller.own colour))
      (events_until carry)) too_low
  pub from : ℕ
  pub gives : GivesFrom (log_seen new rest) caller region colour place from
  pub asks : AsksFor (log_seen new rest) caller region colour (length (old caller.own colour)) (events_until carry) place
      from
  pub carries : CarriesThere old new caller region colour nodes carry
  pub holds : length (line (take place (new region colour)))
      ≤ length (chain caller.own (dated caller.own (take (seen_after carry) (new caller.own colour))) region)

-- Such gives and such a carry are a pull in the log that is seen.
abbrev pub PullsStand : Type 0
PullsStand = (old new : Seen) (rest : Rest) (caller : Caller) (kept : Kept) (region colour nodes place : ℕ) (carry : At)
    (too_low : List ℕ) → SeesOn caller old new → IsKeptBy old caller kept
    → PullsThere old new rest caller region colour nodes place carry too_low
    → Pulls (log_seen new rest) caller kept region colour nodes place carry too_low

-- how many events a carry is
abbrev pub carry_count : At → ℕ
carry_count (Event place) = 1
carry_count (Look seen) = 0

-- the client made so many steps of its own in the other region's column and these in its own, and none elsewhere
pub record MakesPull (caller : Caller) (region colour gives carries : ℕ) (old new : Seen) : Type 0 where
  pub given : length (own_steps caller.client (new region colour))
      ≡ length (own_steps caller.client (old region colour)) + gives
  pub carried : length (own_steps caller.client (new caller.own colour))
      ≡ length (own_steps caller.client (old caller.own colour)) + carries
  pub others : (r c : ℕ) → (c ≢ colour) ⊎ ((r ≢ region) × (r ≢ caller.own))
      → own_steps caller.client (new r c) ≡ own_steps caller.client (old r c)

-- What is kept after a pull whose gives and carry were the client's only steps.
abbrev pub KeptAfterPull : Type 0
KeptAfterPull = (old new : Seen) (rest : Rest) (caller : Caller) (kept : Kept) (region colour nodes place : ℕ)
    (carry : At) (too_low : List ℕ)
    → SeesOn caller old new → MakesPull caller region colour (length too_low + 1) (carry_count carry) old new
    → IsKeptBy old caller kept → PullsThere old new rest caller region colour nodes place carry too_low
    → IsKeptBy new caller (kept_after_pull kept caller.own region colour place carry too_low)

-- What is kept after a pull that gave and carried nothing.
abbrev pub KeptAfterGives : Type 0
KeptAfterGives = (old new : Seen) (rest : Rest) (caller : Caller) (kept : Kept) (region colour looked : ℕ)
    (too_low gives : List ℕ) → SeesOn caller old new
    → MakesOnly caller.client region colour (length (too_low ++ gives)) old new
    → IsKeptBy old caller kept → RiseFrom (length (old region colour)) (too_low ++ gives)
    → OnlyGives (log_seen new rest) caller kept region colour looked too_low gives
    → IsKeptBy new caller (kept_after_giving kept caller.own region colour looked too_low gives)

-- TRIMS

-- A trim by the counts of a snapshot, at a place that was not seen before, and the base of what it then saw. What is kept
-- then is what is kept after an event.
abbrev pub TrimsStand : Type 0
TrimsStand = (old new : Seen) (rest : Rest) (caller : Caller) (kept : Kept) (colour place : ℕ) (counts shown : Counts)
    → SeesOn caller old new → IsKeptBy old caller kept → length (old caller.own colour) ≤ place
    → slice_get (new caller.own colour) place ≡ Some (record { by = caller.client; event = events.Trim counts; stamp = 0 })
    → shown ≡ base caller.own caller.regions (dated caller.own (take (place + 1) (new caller.own colour)))
    → TrimsBy (log_seen new rest) caller kept colour place counts shown
