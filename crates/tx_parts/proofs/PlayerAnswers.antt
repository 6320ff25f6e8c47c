-- What a player keeps while its client goes on, and what explains its answers.
use Rattle.std.proofs.Common.{◌≡◌, ◌⊎◌, inl, inr, IfOk, IfErr, ℕ, zero, suc, ◌<◌, max, min, Bool, true, false, List, [], ◌∷◌, length, map, take, Option, Some, None, Result, Ok, Err, refl, ap, sym, subst, ◌∙◌, arith, eq-eqb}
use Rattle.std.specs.Prelude.{◌==◌, slice_get, slice_index_or, unwrap_or}
use Rattle.std.specs.List.{list_any, range_with_len}
use Rattle.std.proofs.lemmas.Bool.{and_from}
use Rattle.std.proofs.lemmas.List.{length-map, take_all}
use Rattle.std.proofs.lemmas.List.Elements.{All-contains}
use Rattle.log_node.specs.declared.ids.Colours.{Colours}
use Rattle.log_node.specs.declared.ids.Counts.{Counts}
use Rattle.log_node.specs.declared.ids.Key.{Key}
use Rattle.log_node.specs.declared.limits.TheConstants.{MAX_COLOURS}
use Rattle.log_node.specs.declared.node.Node.{Node}
use Rattle.log_node.specs.Order.{same_id, same_key}
use Rattle.log_node.specs.Sets.{members, set_of}
use Rattle.log_node.specs.Seen.{PlacedNode}
use Rattle.log_node.specs.Vectors.{at}
use Rattle.log_node.proofs.CallerLemmas.{get_map, get_map_back, members-one, same_id-refl}
use Rattle.object_form.specs.Readings.{form_of}
use Rattle.object_fold.specs.Folds.{FoldsFirst}
use Rattle.object_fold.specs.Nodes.{ObjectNode, object_node, object_nodes}
use Rattle.object_fold.specs.Transactions.{verdict_of}
use Rattle.object_fold.specs.declared.kept_line.KeptLine.{KeptLine}
use Rattle.part_fold.specs.declared.part_fold.PartFold.{PartFold}
use Rattle.part_fold.specs.declared.ruled_fold.RuledFold.{RuledFold}
use Rattle.part_fold.specs.Agreement.{outcome, part_at}
use Rattle.part_fold.specs.Parts.{Part}
use Rattle.part_fold.specs.PartStates.{IsPart}
use Rattle.part_fold.specs.Ruled.{AreApart, IsRuled}
use Rattle.part_fold.proofs.CallerLemmas.{StandsAmong, has_outcome, undecided_stands}
use Rattle.col_core.specs.History.{line}
use Rattle.col_core.specs.Keeping.{Kept, kept_after_sync}
use Rattle.col_core.specs.Log.{IsLater, Log}
use Rattle.col_core.proofs.CallerLemmas.{In, any_in, contains_in, if_true, in_filter-back, slice_in}
use Rattle.col_core.proofs.CallerLemmas.{range_has as in_range}
use Rattle.append_core.specs.declared.several.MultiFault.{MultiFault}
use Rattle.append_core.specs.declared.several.MultiFault.TheVariants as faults
use Rattle.playback.specs.declared.player.Snapshot.{Snapshot}
use Rattle.script_text.specs.declared.script.Object.{Object}
use Rattle.lawful_run.specs.Appends.{HasNoRowLeft}
use Rattle.lawful_run.specs.Asks.{rising}
use Rattle.lawful_run.specs.Callers.{Caller}
use Rattle.lawful_run.specs.Objects.{AreObjectNodes, IsObjectNode}
use Rattle.lawful_run.specs.Parts.{IsRuledAs, WaitsFor}
use Rattle.lawful_run.specs.Reads.{HidesRead, RefusesRead, Syncs, greatest_played, greatest_stamp}
use Rattle.lawful_run.proofs.CallerLemmas.{get_within, prefix_get, prefix_length}
use Rattle.client_law.specs.Knowing.{Rest, log_seen}
use Rattle.client_law.proofs.CallerLemmas.{seen_later}
use Rattle.log_client.specs.declared.store.Store.{Store}
use Rattle.log_client.specs.declared.client.Client.{Client}
use Rattle.log_client.specs.declared.track.Track.{Track}
use Rattle.log_client.specs.declared.answers.Appended.{Appended}
use Rattle.log_client.specs.declared.answers.StampedRead.{StampedRead}
use Rattle.log_client.specs.declared.answers.Synced.{Synced}
use Rattle.log_client.specs.declared.faults.SyncFault.{SyncFault}
use Rattle.log_client.specs.declared.faults.SyncFault.TheVariants as sync_faults
use Rattle.log_client.specs.Appends.{AppendFindsNoMemory, AppendRefused, AppendStopped, AppendsAs, AreColoursOf}
use Rattle.log_client.specs.Calls.{AnswersEach, AnswersSync, IsExplained, IsSame, SyncsAs, nodes_played}
use Rattle.log_client.specs.Clients.{Finished, IsClient, Keeps, caller_of, holds_of, nodes_of_track, own_line, seen_of, starts_of, tracks_of}
use Rattle.log_client.specs.Fits.{FitsHolds, HaveGoneOn}
use Rattle.log_client.specs.Growing.{HasGrown}
use Rattle.log_client.specs.Reading.{RestsOn}
use Rattle.log_client.specs.StampedReads.{ReadRefused, ReadsGoOn, sync_piece}
use Rattle.log_client.proofs.CallerLemmas.{append_left, append_stood, client_sees_on, explained_less, explained_then, first_are_own, fits_less, follows_later, line_counted, line_first, one_of_store, one_started, rests_then, same_caller, snapshot_is_own, stamps_played, sync_hidden, zip_at}
use Rattle.region_fold.specs.declared.fold.RegionFold.{RegionFold}
use Rattle.region_fold.specs.Reads.{AreWriters, HasNodesRead, KeepsFold, ReadsNodes}
use Rattle.region_fold.proofs.CallerLemmas.{colours_later, kept_later}
use Rattle.tx_parts.specs.declared.answers.Decided.{Decided}
use Rattle.tx_parts.specs.declared.answers.Peek.{Peek}
use Rattle.tx_parts.specs.declared.player.PartPlayer.{PartPlayer}
use Rattle.tx_parts.specs.Deciding.{DecideRefused, DecidesOne, EndsAs, NotRuled, PlaysUntold, ReadsOutcome, Rules, refusal_of, said_text}
use Rattle.tx_parts.specs.Players.{IsPlayerOf, IsSamePlayer, Peeks, Plays, PlaysAs, Shows, own_part}
use Rattle.tx_parts.proofs.LaterPlays.{plays_later, read_on_later, untold_later}
use Rattle.tx_parts.proofs.ReadAmong.{apart, found, own_read}

-- a key is itself
key_itself : (key : Key) → same_key key key ≡ true
key_itself key =
    and_from (key.stamp == key.stamp) (same_id key.id key.id) (eq-eqb key.stamp key.stamp refl) (same_id-refl key.id)

-- WHAT IS KEPT

-- what is kept stays right
pub player_later : ReadsGoOn → (s : Store) (c d : Client) → RestsOn s c d → (p : PartPlayer) → IsClient s c → IsPlayerOf c p
    → IsPlayerOf d p
player_later law s c d on p is of = record {
  colours = colours_later s c d on p.colours is of.colours;
  own = of.own;
  part = of.part;
  plays = follows_later c d p.colour p.part.count (IsPart p.part.state) on.grows of.plays;
  reads = kept_later IsRuled law s c d on (rising p.colours) p.map.kept of.reads;
}

-- the own colour is one of the map's, of the client and of few
module _ (c : Client) (p : PartPlayer) (of : IsPlayerOf c p) where
  pub among : In p.colour p.colours
  among = slice_in p.colours p.place p.colour of.own

  pub own_within : p.colour < length (tracks_of c)
  own_within = All-contains (λ k. k < length (tracks_of c)) p.colours p.colour of.colours.within
      (contains_in p.colours p.colour among)

  pub own_few : p.colour < MAX_COLOURS
  own_few = All-contains (λ k. k < MAX_COLOURS) p.colours p.colour of.colours.few
      (contains_in p.colours p.colour among)

  pub own_rising : In p.colour (rising p.colours)
  own_rising =
      let low = own_few in
      in_filter-back (λ k. list_any (λ other. other == k) p.colours) p.colour (range_with_len 0 MAX_COLOURS)
      (in_range 0 MAX_COLOURS p.colour (omega arith) (omega (arith, low)))
      (any_in (λ other. other == p.colour) p.colours p.colour among (eq-eqb p.colour p.colour refl))

-- the line of the own colour, of which what is kept has the first nodes
pub line_folds : (c : Client) (p : PartPlayer) (line : List PlacedNode) → IsPlayerOf c p → line ≡ own_line c p.colour
    → FoldsFirst line p.part.count (IsPart p.part.state)
line_folds c p line of here = subst (λ (l : List PlacedNode). FoldsFirst l p.part.count (IsPart p.part.state)) (sym here) of.plays

-- where the fold of it went on
pub player_folded : (c : Client) (p : PartPlayer) (new : KeptLine PartFold) (line : List PlacedNode) → IsPlayerOf c p
    → line ≡ own_line c p.colour → new.state.part ≡ p.part.state.part → FoldsFirst line new.count (IsPart new.state)
    → IsPlayerOf c (record p { part = new })
player_folded c p new line of here same folds = record {
  colours = of.colours;
  own = of.own;
  part = same ∙ of.part;
  plays = subst (λ (l : List PlacedNode). FoldsFirst l new.count (IsPart new.state)) here folds;
  reads = of.reads;
}

-- and came to its end
pub whole_folded : (c : Client) (p : PartPlayer) (new : KeptLine PartFold) (line : List PlacedNode) (end : ℕ) → IsPlayerOf c p
    → line ≡ own_line c p.colour → end ≡ length line → FoldsFirst line new.count (IsPart new.state)
    → new.count ≡ max p.part.count (min end (length line)) → IsPart new.state (object_nodes (own_line c p.colour))
whole_folded c p new line end of here all folds count =
    let within = (line_folds c p line of here).0 in
    subst (λ (l : List PlacedNode). IsPart new.state (object_nodes l)) (take_all new.count line (omega (arith, count, all, within)) ∙ here)
    folds.1

-- and where what was read of all colours was folded
pub player_read : (s : Store) (c d : Client) → RestsOn s c d → (p : PartPlayer) (new : RegionFold RuledFold) (colours : List ℕ)
    → IsClient s c → IsPlayerOf c p → colours ≡ p.colours → KeepsFold IsRuled d (rising colours) new.kept
    → IsPlayerOf d (record p { map = new })
player_read s c d on p new colours is of same keeps = record {
  colours = colours_later s c d on p.colours is of.colours;
  own = of.own;
  part = of.part;
  plays = follows_later c d p.colour p.part.count (IsPart p.part.state) on.grows of.plays;
  reads = subst (λ (l : List ℕ). KeepsFold IsRuled d (rising l) new.kept) same keeps;
}

-- what is read of a transaction
pub reads_outcome : (s : Store) (c d : Client) (colours : List ℕ) (last : Option Key) (key : Key) (commits : Bool)
    (read : StampedRead) (state : RuledFold)
    → ((nodes : List ObjectNode) → IsRuled state nodes → AreApart nodes
    → commits ≡ unwrap_or (outcome (verdict_of nodes key)) false)
    → ReadsNodes s c d colours last read (λ nodes. IsRuled state nodes × AreWriters nodes)
    → ReadsOutcome s c d colours last key commits read
reads_outcome s c d colours last key commits read state told reads =
    explained_less s c d (HasNodesRead (rising colours) last read (λ nodes. IsRuled state nodes × AreWriters nodes))
    (HasNodesRead (rising colours) last read
    (λ nodes. AreApart nodes → commits ≡ unwrap_or (outcome (verdict_of nodes key)) false))
    (λ log caller before after r. (r.0, r.1, r.2, r.3, told r.2 r.4.0)) reads

-- PLAYS

-- after a sync it is known that so many own nodes stand as were played
known_started : (kept : Kept) (own colour events : ℕ) (counts : Counts) (stamp : ℕ) (after : Kept)
    → after ≡ kept_after_sync kept own colour events counts stamp → after.known colour ≡ at (after.starts colour) own
known_started kept own colour events counts stamp after is =
    ap (λ (k : Kept). k.known colour) is
    ∙ if_true (colour == colour) (at counts own) (kept.known colour) (eq-eqb colour colour refl)
    ∙ ap (λ (v : Counts). at v own) (one_started kept own colour events counts stamp after is)

module _ (s : Store) (c m : Client) (p : PartPlayer) (y : Synced) (is : IsClient s m) (lt : p.colour < length (tracks_of m))
    (answers : AnswersSync c m p.colour y) (e : IsExplained s c m (SyncsAs m p.colour y)) where
  abbrev nodes : List ObjectNode
  nodes = object_nodes (own_line m p.colour)

  synced : y.snapshot.colour ≡ p.colour
  synced = ap (λ (q : Snapshot). q.colour) answers.snapshot

  pub plays : (Has : List ObjectNode → Type 0) → Has nodes → Plays s c m p y Has
  plays Has has = record {
    synced = synced;
    explained = λ objects kept finished keeps.
        let r = e objects kept finished keeps in (
          r.0,
          r.1,
          λ rest fits.
              let syncs = r.2 rest fits in
              let own = (caller_of s m objects).own in
              let log = log_seen (seen_of m) rest in
              let caller = caller_of s m objects in
              let here : Syncs log caller kept y.snapshot.colour y.events y.snapshot.counts =
              subst (λ (k : ℕ). Syncs log caller kept k y.events y.snapshot.counts) (sym synced) syncs.0 in
              let started : y.snapshot.counts ≡ starts_of m p.colour =
              one_started kept own p.colour y.events y.snapshot.counts (greatest_stamp (nodes_played m p.colour y)) r.0 syncs.2
              ∙ r.1.starts p.colour in
              let stamps = stamps_played log caller kept p.colour y.events y.snapshot.counts (nodes_played m p.colour y) syncs.1 in (
                here,
                nodes,
                snapshot_is_own s m p.colour is lt rest fits objects kept (sync_piece y) synced here started,
                has,
                syncs.2
                    ∙ (ap (kept_after_sync kept own p.colour y.events y.snapshot.counts) stamps
                    ∙ ap (λ (k : ℕ). kept_after_sync kept own k y.events y.snapshot.counts
                    (greatest_played log caller kept k y.events y.snapshot.counts)) (sym synced)),
              ),
        );
  }

  -- the first nodes of the line that the client sees are those that it has played
  played_are : (rest : Rest) → FitsHolds (holds_of m) rest → (count : ℕ) → count ≡ length (own_line m p.colour)
      → AreObjectNodes (log_seen (seen_of m) rest) (take count (line (seen_of m m.region p.colour))) nodes
  played_are rest fits count all =
      subst (λ (l : List PlacedNode). AreObjectNodes (log_seen (seen_of m) rest) (take count (line (seen_of m m.region p.colour)))
      (object_nodes l)) (take_all count (own_line m p.colour) (omega (arith, all)))
      (first_are_own s m p.colour is lt rest fits count (omega (arith, all)))

  counts_are : (objects : List Object) (kept : Kept) → Keeps s m objects kept
      → at (kept.starts p.colour) m.region ≡ length (own_line m p.colour)
  counts_are objects kept keeps =
      ap (λ (v : Counts). at v m.region) (keeps.starts p.colour) ∙ sym (line_counted s m p.colour is lt)

  module _ (key : Key) (waits : WaitsFor (Some key) (own_part p) nodes) where
    -- WHERE NOTHING WAS DECIDED

    untold : IsExplained s c m (PlaysUntold p)
    untold objects kept finished keeps =
        let h = sync_hidden s c m p.colour y e objects kept finished keeps in
        let count = at (h.0.starts p.colour) m.region in
        let all = counts_are objects h.0 h.1 in (
          h.0,
          h.1,
          λ rest fits. record {
            hidden = h.2 rest fits;
            there = let first = line_first s m p.colour is lt in
                let long = prefix_length _ _ first in
                let same = length-map (own_line m p.colour) (λ (item : PlacedNode). item.head.key) in
                omega (arith, long, same, all);
            nodes = nodes;
            line_is = played_are rest fits count all;
            key = key;
            waits = waits;
          },
        )

    pub not_ruled : (d : Client) (fault : SyncFault) → RestsOn s c m → RestsOn s m d → ReadRefused s m d (rising p.colours) fault
        → NotRuled s c d p fault
    not_ruled d (sync_faults.Trimmed colour base) x z why =
        explained_then s c m d (PlaysUntold p)
        (λ log caller played after. RefusesRead log caller played (rising p.colours) colour base after) x z
        (λ old new caller kept played later u. untold_later old new later caller p kept played u) untold why
    not_ruled d sync_faults.NoMemory x z why =
        explained_then s c m d (PlaysUntold p) (λ log caller played after. HidesRead log caller played (rising p.colours) after)
        x z (λ old new caller kept played later u. untold_later old new later caller p kept played u) untold why

    -- WHERE IT WAS DECIDED

    stands : StandsAmong key nodes
    stands = undecided_stands (own_part p) nodes key waits

    -- the item of its node
    item : (i : PlacedNode) × (slice_get (own_line m p.colour) stands.place ≡ Some i) × (object_node i ≡ stands.node)
    item = get_map_back object_node (own_line m p.colour) stands.place stands.node stands.there

    key_is : item.0.head.key ≡ key
    key_is = ap (λ (n : ObjectNode). n.key) item.2 ∙ stands.key_is

    played : stands.place < length (own_line m p.colour)
    played = get_within (own_line m p.colour) stands.place item.0 item.1

    -- it stands in the line that the client sees
    in_line : slice_get (line (seen_of m m.region p.colour)) stands.place ≡ Some key
    in_line =
        prefix_get _ _ stands.place item.0.head.key (line_first s m p.colour is lt)
        (get_map (λ (i : PlacedNode). i.head.key) (own_line m p.colour) stands.place item.0 item.1)
        ∙ ap (λ (k : Key). Some k) key_is

    -- as it was appended
    as_appended : (rest : Rest) → FitsHolds (holds_of m) rest → IsObjectNode (log_seen (seen_of m) rest) key stands.node
    as_appended rest fits =
        zip_at (IsObjectNode (log_seen (seen_of m) rest)) (take (length (own_line m p.colour)) (line (seen_of m m.region p.colour)))
        nodes stands.place key stands.node (played_are rest fits (length (own_line m p.colour)) refl)
        (taken (line (seen_of m m.region p.colour)) (length (own_line m p.colour)) stands.place key played in_line) stands.there where
          taken : {A : Type 0} (xs : List A) (n i : ℕ) (x : A) → i < n → slice_get xs i ≡ Some x → slice_get (take n xs) i ≡ Some x
          taken [] n i x low there = absurd (let f : ⊥ = cc (there) in f)
          taken (z ∷ xs) zero i x low there = absurd (let f : ⊥ = omega (arith, low) in f)
          taken (z ∷ xs) (suc n) zero x low there = there
          taken (z ∷ xs) (suc n) (suc i) x low there = taken xs n i x (omega (arith, low)) there

    module _ (d : Client) (decided : Decided) (x : RestsOn s c m) (own : In p.colour (rising p.colours))
        (r : Rules s m d p.colours p.colour p.map.kept.last key decided) where
      abbrev n : Client
      n = r.between

      -- the read tells the verdict on it
      ruled : (rest : Rest) → FitsHolds (holds_of n) rest → (objects : List Object) (kept after : Kept) → Keeps s m objects kept
          → kept.known p.colour ≡ at (kept.starts p.colour) m.region
          → (h : HasNodesRead (rising p.colours) p.map.kept.last decided.read
          (λ ns. AreApart ns → decided.commits ≡ unwrap_or (outcome (verdict_of ns key)) false) (log_seen (seen_of n) rest)
          (caller_of s n objects) kept after)
          → IsRuledAs decided.key decided.commits h.2
      ruled rest fits objects kept after keeps known h =
          let log = log_seen (seen_of n) rest in
          let fits_m = fits_less (holds_of m) (holds_of n) rest r.before.goes fits in
          let all = counts_are objects kept keeps in
          let low = played in
          let stamp = keeps.by.starts_under p.colour stands.place key (omega (arith, all, low)) in_line in
          let later = (seen_later (caller_of s n []) (seen_of m) (seen_of n) rest
          (client_sees_on s m n [] r.before.client r.before.goes)).lines m.region p.colour in
          let there : slice_get (line (seen_of n n.region p.colour)) stands.place ≡ Some key =
          subst (λ (k : ℕ). slice_get (line (seen_of n k p.colour)) stands.place ≡ Some key) (sym r.before.same.1)
          (prefix_get _ _ stands.place key later in_line) in
          let i = own_read s m n r.before rest objects p.colour stands.place key there decided.read.stamp kept (rising p.colours)
          p.map.kept.last decided.read h.0 after refl h.1 own (omega (arith, known, all, low)) stamp in
          let node = found log key h.0 h.2 h.3 i (key_itself key) in
          let first = as_appended rest fits_m in
          let same : node.2.appended ≡ first.appended =
          (let e : Some node.2.appended ≡ Some first.appended = sym node.2.there ∙ first.there in cc (e)) in
          let text : node.0.text ≡ stands.node.text =
          node.2.text ∙ (ap (λ (a : Node). a.text) same ∙ sym first.text) in
          let told = has_outcome h.2 key node.0 node.1 (record {
            reads = stands.form.reads;
            pairs = stands.form.pairs;
            is = ap form_of text ∙ stands.form.is;
          }) in
          let commits : decided.commits ≡ told.0 =
          h.4 (apart log h.0 h.2 h.3 h.1.1.rising) ∙ ap (λ (o : Option Bool). unwrap_or o false) told.1 in
          ap (λ (k : Key). outcome (verdict_of h.2 k)) r.of_key ∙ (told.1 ∙ ap (λ (b : Bool). Some b) (sym commits))

      abbrev Waits : List ObjectNode → Type 0
      Waits = WaitsFor (Some decided.key) (own_part p)

      -- what was played and read
      abbrev Read : Log → Caller → Kept → Kept → Type 0
      Read log caller kept after =
          (then : Kept) × PlaysAs y Waits log caller kept then
          × HasNodesRead (rising p.colours) p.map.kept.last decided.read (IsRuledAs decided.key decided.commits) log caller then after

      read : IsExplained s c n Read
      read objects kept finished keeps =
          let its = plays Waits (waits ∙ ap (λ (k : Key). Some k) (sym r.of_key)) in
          let a = its.explained objects kept finished keeps in
          let b = r.reads objects a.0 (x.finished finished) a.1 in (
            b.0,
            b.1,
            λ rest fits.
                let log = log_seen (seen_of n) rest in
                let caller = caller_of s n objects in
                let first = a.2 rest (fits_less (holds_of m) (holds_of n) rest r.before.goes fits) in
                let known = subst (λ (k : ℕ). a.0.known k ≡ at (a.0.starts k) m.region) synced
                (known_started kept m.region y.snapshot.colour y.events y.snapshot.counts _ a.0 first.4) in
                let h = b.2 rest fits in (
                  a.0,
                  subst (λ (z : Caller). PlaysAs y Waits log z kept a.0) (same_caller s m n objects r.before.same)
                      (plays_later (log_seen (seen_of m) rest) log
                      (seen_later (caller_of s n []) (seen_of m) (seen_of n) rest
                      (client_sees_on s m n [] r.before.client r.before.goes)) (caller_of s m objects) y Waits kept a.0 first),
                  (h.0, h.1, h.2, h.3, ruled rest fits objects a.0 b.0 a.1 known h),
                ),
          )

      pub decides : DecidesOne s c d p y decided
      decides = record {
        synced = synced;
        set = r.set;
        members_are = r.members_are;
        explained = λ objects kept finished keeps.
            let z = explained_then s c n d Read (EndsAs r.set (said_text decided) decided.appended)
            (rests_then s c m n x r.before) r.behind read_stays read r.ends objects kept finished keeps in (
              z.0,
              z.1,
              λ rest fits. let q = z.2 rest fits in (q.1.0, q.1.1, q.0, q.1.2, q.2),
            );
      } where
        read_stays : (old new : Log) (caller : Caller) (kept after : Kept) → IsLater old new → Read old caller kept after
            → Read new caller kept after
        read_stays old new caller kept after later q = (
          q.0,
          plays_later old new later caller y Waits kept q.0 q.1,
          read_on_later old new later caller (rising p.colours) p.map.kept.last decided.read
              (IsRuledAs decided.key decided.commits) q.0 after q.2,
        )

-- WHAT ITS SYNCS NAME

-- an append plays nothing
pub names_still : (m n d : Client) (syncs : List Synced) → tracks_of d ≡ tracks_of n → AnswersEach m n syncs
    → AnswersEach m d syncs
names_still m n d syncs same each k e lt =
    let a = each k e lt in record {
      first = a.first;
      older = (
        a.older.0,
        ap (λ (ts : List Track). nodes_of_track (slice_get ts (slice_index_or syncs k e).snapshot.colour)) same ∙ a.older.1,
        a.older.2,
      );
      snapshot = a.snapshot;
    }

-- WHERE THE PLAYER HAS PLAYED

-- the player q is p after the play
module _ (s : Store) (c m : Client) (p q : PartPlayer) (y : Synced) (x : RestsOn s c m) (same : IsSamePlayer p q)
    (of : IsPlayerOf m q) (answers : AnswersSync c m p.colour y) (e : IsExplained s c m (SyncsAs m p.colour y)) where
  its_within : p.colour < length (tracks_of m)
  its_within = subst (λ (k : ℕ). k < length (tracks_of m)) same.2 (own_within m q of)

  its_part : q.part.state.part ≡ own_part p
  its_part = of.part ∙ (ap (λ (l : List ℕ). part_at l q.place) same.1 ∙ ap (part_at p.colours) same.3)

  pub peeks : (key : List ℕ) (peek : Peek) → Shows q.part.state.part key peek (object_nodes (own_line m p.colour))
      → Peeks s c m p key peek y
  peeks key peek shows =
      plays s c m p y x.client its_within answers e (Shows (own_part p) key peek)
      (subst (λ (a : Part). Shows a key peek (object_nodes (own_line m p.colour))) its_part shows)

  pub waits_for : (key : Option Key) → WaitsFor key q.part.state.part (object_nodes (own_line m p.colour))
      → Plays s c m p y (WaitsFor key (own_part p))
  waits_for key waits =
      plays s c m p y x.client its_within answers e (WaitsFor key (own_part p))
      (subst (λ (a : Part). WaitsFor key a (object_nodes (own_line m p.colour))) its_part waits)

  module _ (key : Key) (waits : WaitsFor (Some key) q.part.state.part (object_nodes (own_line m p.colour))) where
    its_waits : WaitsFor (Some key) (own_part p) (object_nodes (own_line m p.colour))
    its_waits = subst (λ (a : Part). WaitsFor (Some key) a (object_nodes (own_line m p.colour))) its_part waits

    pub decides_on : (d : Client) (decided : Decided) → q.map ≡ p.map
        → Rules s m d q.colours q.colour q.map.kept.last key decided → DecidesOne s c d p y decided
    decides_on d decided map r =
        decides s c m p y x.client its_within answers e key its_waits d decided x
        (subst (λ (l : List ℕ). In p.colour (rising l)) same.1
        (subst (λ (k : ℕ). In k (rising q.colours)) same.2 (own_rising m q of)))
        (subst (λ (l : List ℕ). Rules s m d l p.colour p.map.kept.last key decided) same.1
        (subst (λ (k : ℕ). Rules s m d q.colours k p.map.kept.last key decided) same.2
        (subst (λ (f : RegionFold RuledFold). Rules s m d q.colours q.colour f.kept.last key decided) map r)))

    pub ruled_not : (d : Client) (fault : SyncFault) → RestsOn s m d → ReadRefused s m d (rising q.colours) fault
        → NotRuled s c d p fault
    ruled_not d fault z why =
        not_ruled s c m p y x.client its_within answers e key its_waits d fault x z
        (subst (λ (l : List ℕ). ReadRefused s m d (rising l) fault) same.1 why)

-- THE APPEND OF A DECISION

module _ (s : Store) (n d : Client) (set : Colours) (text : List ℕ) where
  pub rests_appended : (r : Result Appended MultiFault) → IsClient s d → IsSame n d → HaveGoneOn (holds_of n) (holds_of d)
      → HasGrown n d → (Finished n → Finished d ⊎ AppendStopped r) → IfErr r (AppendRefused s n d set text None)
      → RestsOn s n d
  rests_appended (Ok a) is same goes grown finished why = append_stood s n d is same goes grown a finished
  rests_appended (Err fault) is same goes grown finished why =
      append_left s n d is same goes grown set text fault finished why

  pub ends_as : (colour : ℕ) → members set ≡ colour ∷ [] → (r : Result Appended MultiFault)
      → IfOk r (λ a. IsExplained s n d (AppendsAs set text a)) → IfErr r (AppendRefused s n d set text None)
      → IsExplained s n d (EndsAs set text r)
  ends_as colour one (Ok a) ok why = ok
  ends_as colour one (Err (faults.StampEnd other)) ok why = why.1
  ends_as colour one (Err (faults.Stopped steps)) ok why = absurd (let e = why.0 in let f : ⊥ = cc (e) in f)
  ends_as colour one (Err (faults.Full used)) ok why =
      explained_less s n d (λ log caller kept after. HasNoRowLeft caller kept set used × (after ≡ kept))
      (EndsAs set text (Err (faults.Full used)))
      (λ log caller kept after r. let several = r.0.several in let long = ap length one in
      let f : ⊥ = omega (arith, several, long) in f) why.1
  ends_as colour one (Err faults.NoMemory) ok why =
      explained_less s n d (AppendFindsNoMemory set text None) (EndsAs set text (Err faults.NoMemory)) none why where
        none : (log : Log) (caller : Caller) (kept after : Kept) → AppendFindsNoMemory set text None log caller kept after
            → after ≡ kept
        none log caller kept after (inl e) = e
        none log caller kept after (inr r) =
            let several = r.2.begins.several in
            let long = ap length one in
            absurd (let f : ⊥ = omega (arith, several, long) in f)

-- the set of the own colour
pub own_set : (s : Store) (n : Client) (q : PartPlayer) → IsClient s n → IsPlayerOf n q
    → AreColoursOf s (set_of (q.colour ∷ []))
own_set s n q is of =
    let lt = own_within n q of in
    let long = is.colours in
    one_of_store s q.colour (omega (arith, lt, long)) (own_few n q of)

pub own_member : (n : Client) (p q : PartPlayer) (set : Colours) → IsPlayerOf n q → IsSamePlayer p q
    → set ≡ set_of (q.colour ∷ []) → members set ≡ p.colour ∷ []
own_member n p q set of same is =
    ap members is ∙ (members-one q.colour (own_few n q of) ∙ ap (λ (k : ℕ). k ∷ []) same.2)

-- why nothing was decided
pub decide_refused : (s : Store) (c d : Client) (p : PartPlayer) (fault : SyncFault) → NotRuled s c d p fault
    → DecideRefused s c d p (refusal_of fault)
decide_refused s c d p (sync_faults.Trimmed colour base) why = inr why
decide_refused s c d p sync_faults.NoMemory why = inr why
