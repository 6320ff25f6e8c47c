-- What clients of a store tell one another.
use Rattle.std.specs.Prelude.{◌≡◌, ℕ, List, length, map, Some, slice_get}
use Rattle.std.specs.List.{All}
use mathlib.Core.List.{IsPrefix}
use Rattle.log_node.specs.declared.ids.Colours.{Colours}
use Rattle.log_node.specs.declared.ids.Counts.{Counts}
use Rattle.log_node.specs.Reach.{Reachable}
use Rattle.log_node.specs.Vectors.{IsWithin}
use Rattle.col_core.specs.Computed.{dated}
use Rattle.col_core.specs.Cuts.{chain}
use Rattle.col_core.specs.History.{line}
use Rattle.col_core.specs.Keeping.{Kept}
use Rattle.script_text.specs.declared.script.Object.{Object}
use Rattle.report_text.specs.declared.report.PointPiece.{PointPiece}
use Rattle.chain_store.specs.declared.hold.Hold.{Hold}
use Rattle.chain_store.specs.declared.region.Region.{Region}
use Rattle.chain_store.specs.declared.telling.HoldNote.{HoldNote}
use Rattle.chain_store.specs.Telling.{IsHoldNote, KnowsSame, Tells, Hears}
use Rattle.log_client.specs.declared.store.Store.{Store}
use Rattle.log_client.specs.declared.client.Client.{Client}
use Rattle.log_client.specs.declared.notes.Note.{Note}
use Rattle.client_law.specs.Knowing.{Rest, MoreIsSeen, log_seen}
use Rattle.log_client.specs.declared.answers.Appended.{Appended}
use Rattle.log_client.specs.declared.answers.Synced.{Synced}
use Rattle.log_client.specs.Fits.{FitsHolds, HaveGoneOn}
use Rattle.log_client.specs.Clients.{IsClient, Finished, Keeps, caller_of, holds_of, seen_of}
use Rattle.log_client.specs.Calls.{IsExplained, IsSame, SyncsAs}
use Rattle.log_client.specs.Appends.{AppendsAs, piece_of}

-- a note of each region, by number
abbrev pub AreNotes : List Region → List HoldNote → Type 0
AreNotes rs notes =
    (length notes ≡ length rs)
    × ((n : ℕ) (r : Region) (note : HoldNote) → slice_get rs n ≡ Some r → slice_get notes n ≡ Some note → IsHoldNote r note)

-- each note tells all that the hold of its region has seen and knows
abbrev pub TellsAll : List Hold → List HoldNote → Type 0
TellsAll hs notes =
    (n : ℕ) (h : Hold) (note : HoldNote) → slice_get hs n ≡ Some h → slice_get notes n ≡ Some note → Tells h note

-- each hold has seen, made and begun what it had, and knows what it knew
abbrev pub KnowSame : List Hold → List Hold → Type 0
KnowSame gs hs =
    (n : ℕ) (g h : Hold) → slice_get gs n ≡ Some g → slice_get hs n ≡ Some h → KnowsSame g h

-- each hold has heard its region's note
abbrev pub HearAll : List Hold → List HoldNote → List Hold → Type 0
HearAll gs notes hs =
    (n : ℕ) (g h : Hold) (note : HoldNote) → slice_get gs n ≡ Some g → slice_get notes n ≡ Some note
    → slice_get hs n ≡ Some h → Hears g note h

-- the note is one of a client of the store
abbrev pub IsNoteOf : Store → Note → Type 0
IsNoteOf s note = AreNotes s.regions note.holds.items

-- it tells all that the client has seen and knows
abbrev pub TellsSeen : Client → Note → Type 0
TellsSeen c note = TellsAll (holds_of c) note.holds.items

-- The client has seen of each column the longer of what it had and what the note tells, knows what both knew, and has made
-- and begun nothing.
abbrev pub HearsSeen : Client → Note → Client → Type 0
HearsSeen c note d = HearAll (holds_of c) note.holds.items (holds_of d)

-- WHO HEARS

-- A sync of the client plays all that could be played of what the other one had seen of the column.
abbrev pub PlaysSeen : Store → Client → Client → Type 0
PlaysSeen s teller d =
    (e : Client) (colour : ℕ) (y : Synced) → IsClient s e → IsSame d e → HaveGoneOn (holds_of d) (holds_of e)
    → IsExplained s d e (SyncsAs e colour y)
    → (objects : List Object) (kept : Kept) (rest : Rest) → Finished d → Keeps s d objects kept → FitsHolds (holds_of e) rest
    → (v : Counts) → Reachable (chain d.region (dated d.region (seen_of teller d.region colour))) v
    → IsWithin v y.snapshot.counts

-- The client has seen all that the other one had seen: what that had seen of a column, and its line, are beginnings of its own;
-- where an answer to an append of the other one says that the node stands, it stands in what this client has seen; and a sync
-- plays all of it that can be played.
pub record HasSeenAll (s : Store) (teller d : Client) : Type 0 where
  pub seen : MoreIsSeen (seen_of teller) (seen_of d)
  pub lines : (region colour : ℕ) → IsPrefix (line (seen_of teller region colour)) (line (seen_of d region colour))
  pub appends : (objects : List Object) (rest : Rest) (kept after : Kept) (set : Colours) (text : List ℕ) (a : Appended)
      → AppendsAs set text a (log_seen (seen_of teller) rest) (caller_of s teller objects) kept after
      → All (λ (p : PointPiece). slice_get (line (seen_of d teller.region p.colour)) p.position ≡ Some a.stood.key)
      (map piece_of a.stood.points)
  pub plays : PlaysSeen s teller d

-- Who hears a note which a client told has seen all that this client had: by what `tell` and `hear` say.
abbrev pub HearersHaveSeen : Type 0
HearersHaveSeen =
    (s : Store) (teller c d : Client) (note : Note) → IsClient s teller → IsNoteOf s note → TellsSeen teller note
    → IsClient s d → HaveGoneOn (holds_of c) (holds_of d) → HearsSeen c note d → HasSeenAll s teller d
