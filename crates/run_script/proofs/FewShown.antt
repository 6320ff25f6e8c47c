-- A reply shows no more raises, syncs and points than it has room for.
use Rattle.std.proofs.Common.{◌≡◌, ℕ, ◌+◌, ◌≤◌, ◌++◌, List, [], ◌∷◌, length, map, Option, Some, Ok, Err, ap, sym, ◌∙◌, arith}
use Rattle.std.specs.Prelude.{IfOk, IfSome, Result}
use Rattle.std.proofs.lemmas.List.{length-append, length-map}
use Rattle.log_node.specs.declared.forms.Pair.{Pair}
use Rattle.log_node.specs.declared.forms.Version.{Version}
use Rattle.object_form.specs.Forms.{AreVersions}
use Rattle.object_fold.specs.declared.verdict.Verdict.{Verdict}
use Rattle.tree_fold.specs.declared.change.Change.{Change}
use Rattle.tree_fold.specs.declared.change.Change.TheVariants.{Make, Remove, Move}
use Rattle.tree_fold.specs.declared.told.Told.{Told}
use Rattle.tree_fold.specs.Changes.{change_keys}
use Rattle.tree_fold.specs.Paths.{Path, first_name}
use Rattle.object_fold.specs.Maps.{Value}
use Rattle.lawful_run.specs.Asks.{keys_of_pairs, rising, shards}
use Rattle.append_core.specs.declared.stood.Point.{Point}
use Rattle.log_client.specs.declared.client.Client.{Client}
use Rattle.log_client.specs.declared.answers.Appended.{Appended}
use Rattle.log_client.specs.declared.answers.Raised.{Raised}
use Rattle.log_client.specs.declared.answers.StampedRead.{StampedRead}
use Rattle.log_client.specs.declared.answers.Synced.{Synced}
use Rattle.log_client.specs.declared.object_fault.ObjectFault.{ObjectFault}
use Rattle.log_client.specs.Objects.{version_keys}
use Rattle.log_client.specs.Reading.{raised_colours, synced_colours}
use Rattle.region_fold.specs.Reads.{ShowsEach}
use Rattle.region_fold.specs.declared.transactions.Tx.{Tx}
use Rattle.run_script.specs.declared.serving.reads.ReadRoom.{ReadRoom}
use Rattle.run_script.specs.Replying.{HasPlaces, HasRoomFor, keys_found, tx_found}
use Rattle.run_script.proofs.ReplyRoom.{rising_few, shards_few}

-- a stamped read of no more colours than there are places
few_of : {A : Type 0} (call : Result A ObjectFault) (its_read : A → StampedRead) (colours : List ℕ) (count : ℕ) (room : ReadRoom)
    → HasPlaces count room → length colours ≤ count
    → IfOk call (λ r. let read = its_read r in raised_colours read.raises ≡ colours)
    → IfOk call (λ r. let read = its_read r in synced_colours read.syncs ≡ colours)
    → IfOk call (λ r. HasRoomFor room (its_read r))
few_of (Ok r) its_read colours count room places few raises syncs =
    let read = its_read r in
    let for_raises = places.0 in
    let for_syncs = places.1 in
    let raised = sym (length-map read.raises (λ (x : Raised). x.colour)) ∙ ap length raises in
    let synced = sym (length-map read.syncs (λ (y : Synced). y.snapshot.colour)) ∙ ap length syncs in
    (omega (arith, few, raised, for_raises), omega (arith, few, synced, for_syncs))
few_of (Err fault) its_read colours count room places few raises syncs = tt

module _ (colours : List ℕ) (room : ReadRoom) where
  -- a read of several keys
  pub shows_few_all : (call : Result (List Value × StampedRead) ObjectFault) (keys : List (List ℕ)) (count : ℕ)
      → count ≡ length keys → HasPlaces count room
      → IfOk call (λ r. raised_colours r.1.raises ≡ shards colours keys)
      → IfOk call (λ r. synced_colours r.1.syncs ≡ shards colours keys) → IfOk call (λ r. HasRoomFor room r.1)
  shows_few_all call keys count is places raises syncs =
      let few = shards_few colours keys in
      few_of call (λ r. r.1) (shards colours keys) count room places (omega (arith, few, is)) raises syncs

  -- one of a transactional map
  pub shows_few_found : (call : Result (List Value × Tx × StampedRead) ObjectFault) (count : ℕ)
      → count ≡ length colours → HasPlaces count room
      → IfOk call (λ r. raised_colours r.2.raises ≡ rising colours)
      → IfOk call (λ r. synced_colours r.2.syncs ≡ rising colours) → IfOk (keys_found call) (λ r. HasRoomFor room r.1)
  shows_few_found call count is places raises syncs =
      let few = rising_few colours in
      found call (few_of call (λ r. r.2) (rising colours) count room places (omega (arith, few, is)) raises syncs) where
        found : (call : Result (List Value × Tx × StampedRead) ObjectFault) → IfOk call (λ r. HasRoomFor room r.2)
            → IfOk (keys_found call) (λ r. HasRoomFor room r.1)
        found (Ok r) few = few
        found (Err fault) few = tt

  -- a command that is told what becomes of its node
  pub shows_few_ruled : (call : Result (Verdict × Appended × StampedRead) ObjectFault) (count : ℕ)
      → count ≡ length colours → HasPlaces count room
      → IfOk call (λ r. raised_colours r.2.raises ≡ rising colours)
      → IfOk call (λ r. synced_colours r.2.syncs ≡ rising colours) → IfOk call (λ r. HasRoomFor room r.2)
  shows_few_ruled call count is places raises syncs =
      let few = rising_few colours in
      few_of call (λ r. r.2) (rising colours) count room places (omega (arith, few, is)) raises syncs

  -- a call of a tree, whose read shows each colour
  pub shows_few_each : {A : Type 0} (c d : Client) (call : Result A ObjectFault) (its_read : A → StampedRead) (count : ℕ)
      → count ≡ length colours → HasPlaces count room
      → IfOk call (λ r. ShowsEach c d colours (its_read r)) → IfOk call (λ r. HasRoomFor room (its_read r))
  shows_few_each c d (Ok r) its_read count is places shows =
      let few = rising_few colours in
      few_of (Ok r) its_read (rising colours) count room places (omega (arith, few, is)) shows.raises shows.syncs
  shows_few_each c d (Err fault) its_read count is places shows = tt

-- a path has one first name at most
few_first : (path : Path) → length (first_name path) ≤ 1
few_first [] = omega arith
few_first (name ∷ names) = omega arith

-- a change of a tree has one path, or two
few_keys : (change : Change) → length (change_keys change) ≤ 2
few_keys (Make path value) = let one = few_first path in omega (arith, one)
few_keys (Remove path) = let one = few_first path in omega (arith, one)
few_keys (Move source target) =
    let one = few_first source in
    let other = few_first target in
    let both = length-append (first_name source) (first_name target) in
    omega (arith, one, other, both)

-- so its node stands in no more colours
pub points_few_changed : (colours : List ℕ) (change : Change) (call : Result (Told × Appended × StampedRead) ObjectFault) (room : ℕ)
    → 2 ≤ room
    → IfOk call (λ r. map (λ (p : Point). p.colour) r.1.stood.points ≡ shards colours (change_keys change))
    → IfOk call (λ r. length r.1.stood.points ≤ room)
points_few_changed colours change (Ok r) room enough points =
    let few = shards_few colours (change_keys change) in
    let keys = few_keys change in
    let long = sym (length-map r.1.stood.points (λ (p : Point). p.colour)) ∙ ap length points in
    omega (arith, few, keys, long, enough)
points_few_changed colours change (Err fault) room enough points = tt

pub points_few : (colours : List ℕ) (call : Result (Verdict × Appended × StampedRead) ObjectFault) (found : Option Tx)
    (pairs : List Pair) (most room : ℕ)
    → ((rests : Tx) → found ≡ Some rests → most ≡ length rests.versions + length pairs) → most ≤ room
    → IfOk call (λ r. (rests : Tx) × (found ≡ Some rests)
    × (map (λ (p : Point). p.colour) r.1.stood.points ≡ shards colours (version_keys rests.versions ++ keys_of_pairs pairs)))
    → IfOk call (λ r. length r.1.stood.points ≤ room)
points_few colours (Ok r) found pairs most room count enough points =
    let rests = points.0 in
    let keys = version_keys rests.versions ++ keys_of_pairs pairs in
    let few = shards_few colours keys in
    let both = length-append (version_keys rests.versions) (keys_of_pairs pairs) in
    let read = length-map rests.versions (λ (v : Version). v.key) in
    let written = length-map pairs (λ (p : Pair). p.key) in
    let is = count rests points.1 in
    let long = sym (length-map r.1.stood.points (λ (p : Point). p.colour)) ∙ ap length points.2 in
    omega (arith, few, both, read, written, is, long, enough)
points_few colours (Err fault) found pairs most room count enough points = tt

-- what a read of a transactional map found can be named
pub versions_found : (call : Result (List Value × Tx × StampedRead) ObjectFault)
    → IfOk call (λ r. AreVersions r.1.versions) → IfSome (tx_found call) (λ (t : Tx). AreVersions t.versions)
versions_found (Ok r) are = are
versions_found (Err fault) are = tt
