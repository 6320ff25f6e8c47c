-- What a client gives to peeks and decides of a transactional map that keeps its colours to itself.
use Rattle.std.proofs.Common.{◌≡◌, ◌≢◌, ◌⊎◌, inl, inr, ℕ, ◌<◌, ◌≤◌, Bool, List, [], ◌∷◌, length, map, Option, Some, None, Ok, Err, refl, ap, sym, subst, ◌∙◌, arith}
use Rattle.std.specs.Prelude.{IfErr, IfOk, IfSome, Result, slice_get}
use Rattle.std.proofs.lemmas.List.{length-map}
use Rattle.log_node.specs.declared.ids.Colours.{Colours}
use Rattle.log_node.specs.declared.ids.Counts.{Counts}
use Rattle.log_node.specs.declared.limits.TheConstants.{MAX_COLOURS}
use Rattle.log_node.specs.Sets.{members}
use Rattle.object_fold.specs.Maps.{Value}
use Rattle.object_fold.specs.Nodes.{ObjectNode, shard_of}
use Rattle.part_fold.specs.Decisions.{decision_text}
use Rattle.col_core.specs.Keeping.{Kept}
use Rattle.col_core.specs.Log.{Log}
use Rattle.script_text.specs.declared.script.Kind.{Kind}
use Rattle.script_text.specs.declared.script.Kind.TheVariants as kinds
use Rattle.script_text.specs.declared.script.Object.{Object}
use Rattle.script_text.specs.declared.commands.What.{What}
use Rattle.script_text.specs.declared.commands.What.TheVariants as whats
use Rattle.script_meaning.specs.States.{kind_in}
use Rattle.report_text.specs.declared.report.Answer.{Answer}
use Rattle.report_text.specs.declared.report.Answer.TheVariants as answers
use Rattle.report_text.specs.declared.report.Ended.{Ended}
use Rattle.report_text.specs.declared.report.Ended.TheVariants as ends
use Rattle.report_text.specs.declared.report.PointPiece.{PointPiece}
use Rattle.lawful_run.specs.Appends.{Appends}
use Rattle.lawful_run.specs.Asks.{home_asked, kind_of_object, object_colours, object_home, rising, shards}
use Rattle.lawful_run.specs.Callers.{Caller, node_of}
use Rattle.lawful_run.specs.Deeds.{AsksForKey, AsksToAppend, colours_synced}
use Rattle.lawful_run.specs.Explains.{Explains}
use Rattle.lawful_run.specs.Parts.{EndsAs, HasPartValue, WaitsFor}
use Rattle.lawful_run.specs.Reads.{HidesRead, HidesSyncs, IsTrimmed, ReadsAt, RefusesRead, kept_after_piece}
use Rattle.lawful_run.specs.Refusals.{HidesDecide, IsAway, IsHomeRefusal, RefusesDecide}
use Rattle.lawful_run.proofs.CallerLemmas.{explains_decide_hidden, explains_decide_refused, explains_decided, explains_peek, explains_settled, explains_undecided}
use Rattle.append_core.specs.declared.several.MultiFault.{MultiFault}
use Rattle.append_core.specs.declared.several.MultiFault.TheVariants as append_faults
use Rattle.append_core.specs.declared.stood.Point.{Point}
use Rattle.log_client.specs.declared.store.Store.{Store}
use Rattle.log_client.specs.declared.client.Client.{Client}
use Rattle.log_client.specs.declared.answers.Appended.{Appended}
use Rattle.log_client.specs.declared.answers.Raised.{Raised}
use Rattle.log_client.specs.declared.answers.Synced.{Synced}
use Rattle.log_client.specs.declared.faults.SyncFault.{SyncFault}
use Rattle.log_client.specs.declared.faults.SyncFault.TheVariants as sync_faults
use Rattle.log_client.specs.declared.object_fault.ObjectFault.{ObjectFault}
use Rattle.log_client.specs.declared.object_fault.ObjectFault.TheVariants as faults
use Rattle.log_client.specs.Appends.{piece_of}
use Rattle.log_client.specs.Calls.{SyncRefused}
use Rattle.log_client.specs.Clients.{Helps, IsClient, caller_of}
use Rattle.log_client.specs.Objects.{HidesOne, SyncsUntold}
use Rattle.log_client.specs.Reading.{RestsOn, raised_colours, synced_colours}
use Rattle.log_client.specs.StampedReads.{raise_piece, sync_piece}
use Rattle.log_client.proofs.CallerLemmas.{at_one, nothing_hidden, rests_same, shard_low, untold_hidden}
use Rattle.region_fold.specs.declared.transactions.Tx.{Tx}
use Rattle.region_fold.specs.declared.transactions.TxMap.{TxMap}
use Rattle.tx_parts.specs.declared.answers.Decided.{Decided}
use Rattle.tx_parts.specs.declared.answers.Peek.{Peek}
use Rattle.tx_parts.specs.declared.answers.Peek.TheVariants as peeks
use Rattle.tx_parts.specs.declared.player.PartPlayer.{PartPlayer}
use Rattle.tx_parts.specs.declared.players.PartPlayers.{PartPlayers}
use Rattle.tx_parts.specs.Deciding.{DecideRefused, Decides, DecidesAs, NotRuled, PlaysUntold, ShowsRead, StandsInOwn, SyncsNot, said_text}
use Rattle.tx_parts.specs.Deciding.{EndsAs as EndedAs}
use Rattle.tx_parts.specs.MapPlayers.{DecidesNot, IsOfKey, NotAsked, OfKey, PeeksNot}
use Rattle.tx_parts.specs.Players.{Peeks, PlaysAs, Shows, own_part}
use Rattle.run_script.specs.declared.serving.opened.Opened.{Opened}
use Rattle.run_script.specs.declared.serving.opened.Opened.TheVariants as opened
use Rattle.run_script.specs.declared.serving.reads.ReadRoom.{ReadRoom}
use Rattle.run_script.specs.Opened.{ArePlayersIn, kind_opened}
use Rattle.run_script.specs.Replying.{HasPlaces, HasPoint, HasRoomFor, ShowsDecide, ShowsEnd, fault_answer, peek_answer, peek_shown}
use Rattle.run_script.specs.Serving.{GivesOf, GivesTo}
use Rattle.run_script.proofs.CommandAnswers.{no_memory}
use Rattle.run_script.proofs.GivingGets.{get_refused}
use Rattle.run_script.proofs.GivingObjects.{Helping, away_from, gives_away, gives_by, gives_none, who}
use Rattle.run_script.proofs.GivingPuts.{shard_alone}
use Rattle.run_script.proofs.ReadsFound.{given_at}
use Rattle.run_script.proofs.ReplyRoom.{rising_few}

-- WHAT A REPLY SHOWS

-- a decision that stands in its colour alone stands at a point
pub has_point : {E : Type 0} (colour : ℕ) (call : Result (Synced × Option Decided) E)
    → IfOk call (λ r. IfSome r.1 (StandsInOwn colour)) → IfOk call (λ r. IfSome r.1 HasPoint)
has_point colour (Ok (y, None)) stands = tt
has_point colour (Ok (y, Some decided)) stands = by decided.appended stands where
  by : (appended : Result Appended MultiFault)
      → IfOk appended (λ a. map (λ (p : Point). p.colour) a.stood.points ≡ colour ∷ [])
      → IfOk appended (λ a. 0 < length a.stood.points)
  by (Ok a) is = let long = sym (length-map a.stood.points (λ (p : Point). p.colour)) ∙ ap length is in omega (arith, long)
  by (Err fault) is = tt
has_point colour (Err fault) stands = tt

-- and its read shows no more raises and syncs than there are colours
pub decision_fits : {E : Type 0} (colours : List ℕ) (room : ReadRoom) (count : ℕ) (call : Result (Synced × Option Decided) E)
    → count ≡ length colours → HasPlaces count room → IfOk call (λ r. IfSome r.1 (ShowsRead colours))
    → IfOk call (λ r. IfSome r.1 (λ decided. HasRoomFor room decided.read))
decision_fits colours room count (Ok (y, None)) is places shows = tt
decision_fits colours room count (Ok (y, Some decided)) is places shows =
    let few = rising_few colours in
    let raised = sym (length-map decided.read.raises (λ (x : Raised). x.colour)) ∙ ap length shows.0 in
    let synced = sym (length-map decided.read.syncs (λ (z : Synced). z.snapshot.colour)) ∙ ap length shows.1 in
    let for_raises = places.0 in
    let for_syncs = places.1 in
    (omega (arith, few, is, raised, for_raises), omega (arith, few, is, synced, for_syncs))
decision_fits colours room count (Err fault) is places shows = tt

-- the one point that is shown
one_point : (points : List Point) (piece : PointPiece) → map piece_of points ≡ piece ∷ []
    → (point : Point) × (points ≡ point ∷ [])
one_point [] piece e = absurd (let f : ⊥ = cc (e) in f)
one_point (point ∷ []) piece e = (point, refl)
one_point (point ∷ other ∷ points) piece e = absurd (let f : ⊥ = cc (e) in f)

-- OF ONE OBJECT

-- Of a map m with players, which are ps and then qs, of whose keys one is asked for.
module _ (s : Store) (c d : Client) (on : RestsOn s c d) (m : TxMap) (ps : PartPlayers) (kept_in : ArePlayersIn c m ps)
    (key : List ℕ) (objects : List Object) (object : ℕ)
    (at : kind_in objects object ≡ Some (kinds.Parts m.home m.colours)) where
  abbrev it : Caller
  it = who s c d on objects

  abbrev peek : What
  peek = whats.Peek object key

  abbrev decide : What
  decide = whats.Decide object key

  -- the kind by what the players have
  its_kind : kind_in objects object ≡ Some (kinds.Parts ps.home ps.colours)
  its_kind =
      at ∙ (ap (λ (home : ℕ). Some (kinds.Parts home m.colours)) (sym kept_in.1)
      ∙ ap (λ (colours : List ℕ). Some (kinds.Parts ps.home colours)) (sym kept_in.2))

  low : shard_of ps.colours key < MAX_COLOURS
  low = shard_low ps.colours key kept_in.0.colours.some kept_in.0.colours.few

  alone : shards ps.colours (key ∷ []) ≡ shard_of ps.colours key ∷ []
  alone = shard_alone c ps.colours key kept_in.0.colours

  -- where no player was asked
  not_asked : (what : What) → Helping s c d on objects what → home_asked it what ≡ Some ps.home → (fault : ObjectFault)
      → NotAsked ps.home c d fault → GivesOf s objects c d what (fault_answer fault) []
  not_asked what helping homes (faults.NotHome shown) is = gives_away s c d on objects what helping (Some ps.home) shown homes is
  not_asked what helping homes (faults.Append fault) is = absurd is
  not_asked what helping homes (faults.Sync fault) is = absurd is
  not_asked what helping homes (faults.Unread stamp why) is = absurd is
  not_asked what helping homes faults.NoTx is = absurd is
  not_asked what helping homes faults.NoMemory is = gives_none s c d on objects what helping is

  -- THE KEY'S PLAYER

  module _ (p : PartPlayer) (of : IsOfKey ps.home ps.colours key p) where
    same_colours : p.colours ≡ ps.colours
    same_colours = of.of.1

    kind_is : kind_in objects object ≡ Some (kinds.Parts ps.home p.colours)
    kind_is = its_kind ∙ ap (λ (colours : List ℕ). Some (kinds.Parts ps.home colours)) (sym same_colours)

    shard_is : p.colour ≡ shard_of p.colours key
    shard_is = of.colour ∙ ap (λ (colours : List ℕ). shard_of colours key) (sym same_colours)

    its_low : shard_of p.colours key < MAX_COLOURS
    its_low = subst (λ (colours : List ℕ). shard_of colours key < MAX_COLOURS) (sym same_colours) low

    -- the colours that a decide syncs
    synced_are : colours_synced it decide ≡ p.colour ∷ rising p.colours
    synced_are =
        ap (λ (kind : Option Kind). shard_of (object_colours kind) key ∷ rising (object_colours kind)) kind_is
        ∙ ap (λ (colour : ℕ). colour ∷ rising p.colours) (sym shard_is)

    -- its decision may be appended: its node has the player's colour alone
    asks : (kept : Kept) (set : Colours) (decided : Decided) → members set ≡ p.colour ∷ []
        → AsksToAppend it kept decide set (said_text decided)
    asks kept set decided is = (
      is
          ∙ (ap (λ (colour : ℕ). colour ∷ []) of.colour
          ∙ (sym alone ∙ ap (λ (kind : Option Kind). shards (object_colours kind) (key ∷ [])) (sym its_kind))),
      (record { key = decided.key; commits = decided.commits }, refl),
    )

    -- WHAT WAS PLAYED

    module _ (y : Synced) (synced : y.snapshot.colour ≡ p.colour) where
      its_colour : y.snapshot.colour ≡ shard_of p.colours key
      its_colour = synced ∙ shard_is

      its_place : slice_get p.colours p.place ≡ Some y.snapshot.colour
      its_place = of.own ∙ ap Some (sym synced)

      explained : (shown : Peek) (log : Log) (kept after : Kept) → PlaysAs y (Shows (own_part p) key shown) log it kept after
          → Explains log it kept peek (peek_shown shown (sync_piece y)) [] after
      explained (peeks.Value value) log kept after z =
          subst (λ (k : Kept). Explains log it kept peek (answers.Got value (sync_piece y)) [] k) (sym z.4)
          (explains_peek log it kept peek object ps.home p.colours key p.place (sync_piece y) value z.1
          (record { uses = refl; gets = refl }) kind_is its_low its_colour its_place z.0 z.2 z.3.0 z.3.1)
      explained (peeks.Undecided waits) log kept after z =
          subst (λ (k : Kept). Explains log it kept peek (answers.Undecided waits.stamp (sync_piece y)) [] k) (sym z.4)
          (explains_undecided log it kept peek object ps.home p.colours key p.place (sync_piece y) waits z.1
          (record { uses = refl; gets = refl }) kind_is its_low its_colour its_place z.0 z.2 z.3)

      settled : (log : Log) (kept after : Kept) → PlaysAs y (WaitsFor None (own_part p)) log it kept after
          → Explains log it kept decide (answers.Got None (sync_piece y)) [] after
      settled log kept after z =
          subst (λ (k : Kept). Explains log it kept decide (answers.Got None (sync_piece y)) [] k) (sym z.4)
          (explains_settled log it kept object ps.home p.colours key p.place (sync_piece y) z.1 kind_is its_colour its_place z.0 z.2 z.3)

      -- how the append of its decision ended
      module _ (set : Colours) (members_are : members set ≡ p.colour ∷ []) (decided : Decided) where
        ended_so : (appended : Result Appended MultiFault) (ended : Ended) → ShowsEnd appended ended → (log : Log) (kept after : Kept)
            → EndedAs set (said_text decided) appended log it kept after
            → EndsAs log it kept decide (said_text decided) ended after
        ended_so (Ok a) ended shows log kept after is =
            let node = node_of it kept set (said_text decided) in
            let one = at_one log it kept after node p.colour a.stood.key.stamp a.row (map piece_of a.stood.points) members_are is.2 in
            let point = one_point a.stood.points one.point one.point_is in
            subst (λ (e : Ended). EndsAs log it kept decide (said_text decided) e after) (sym (shows point.0 point.1)) (
              set,
              said_text decided,
              asks kept set decided members_are,
              (
                refl,
                subst (λ (row : Option ℕ). Appends log it kept node a.stood.key.stamp row (piece_of point.0 ∷ []) after) one.no_row
                    (subst (λ (l : List Point). Appends log it kept node a.stood.key.stamp a.row (map piece_of l) after) point.1 is.2),
              ),
            )
        ended_so (Err (append_faults.StampEnd colour)) ended shows log kept after is =
            subst (λ (e : Ended). EndsAs log it kept decide (said_text decided) e after) (sym shows)
            (set, said_text decided, asks kept set decided members_are, (refl, is))
        ended_so (Err append_faults.NoMemory) ended shows log kept after is =
            subst (λ (e : Ended). EndsAs log it kept decide (said_text decided) e after) (sym shows) is
        ended_so (Err (append_faults.Full used)) ended shows log kept after is = absurd is
        ended_so (Err (append_faults.Stopped steps)) ended shows log kept after is = absurd is

        told : (ended : Ended) → ShowsEnd decided.appended ended → (log : Log) (kept after : Kept)
            → DecidesAs set p y decided log it kept after
            → Explains log it kept decide (answers.Decided decided.commits decided.key.stamp (sync_piece y) decided.read.stamp
            (map raise_piece decided.read.raises) (map sync_piece decided.read.syncs) ended) [] after
        told ended shows log kept after z =
            let played = z.1 in
            let read = z.3 in
            explains_decided log it kept object ps.home p.colours key p.place (sync_piece y) played.1 decided.key decided.commits
            decided.read.stamp (map raise_piece decided.read.raises) (map sync_piece decided.read.syncs) z.2 read.0 read.2 ended after
            kind_is its_colour its_place played.0 played.2 played.3
            (subst (λ (k : Kept). ReadsAt log it k (rising p.colours) decided.read.stamp (map raise_piece decided.read.raises)
            (map sync_piece decided.read.syncs) z.2) played.4 read.1.0)
            read.1.1 read.3 read.4 (ended_so decided.appended ended shows log z.2 after z.4)

    -- WHERE NOTHING WAS DECIDED

    refused_as : (log : Log) (kept : Kept) (colour : ℕ) (base : Counts) (after : Kept)
        → RefusesDecide log it kept (p.colour ∷ rising p.colours) colour base after
        → Explains log it kept decide (answers.Trimmed colour base) [] after
    refused_as log kept colour base after is =
        explains_decide_refused log it kept object key colour base after
        (subst (λ (l : List ℕ). RefusesDecide log it kept l colour base after) (sym synced_are) is)

    hidden_as : (log : Log) (kept after : Kept) → HidesDecide log it kept (p.colour ∷ rising p.colours) after
        → Explains log it kept decide answers.NoMemory [] after
    hidden_as log kept after is =
        explains_decide_hidden log it kept object key after
        (subst (λ (l : List ℕ). HidesDecide log it kept l after) (sym synced_are) is)

    -- which is all that may be shown away from the home
    abbrev Refusal : Answer → Type 0
    Refusal answer = IsAway it (home_asked it decide) → IsHomeRefusal answer

    unruled : (fault : SyncFault) → Refusal (fault_answer (faults.Sync fault)) → NotRuled s c d p fault
        → GivesOf s objects c d decide (fault_answer (faults.Sync fault)) []
    unruled (sync_faults.Trimmed colour base) away is =
        gives_by s c d on objects decide (answers.Trimmed colour base)
        (λ log caller kept after. (played : Kept) × PlaysUntold p log caller kept played
        × RefusesRead log caller played (rising p.colours) colour base after) (inl refl) away is
        (λ log kept after r. refused_as log kept colour base after (inr (r.0, r.1.hidden, r.2)))
    unruled sync_faults.NoMemory away is =
        gives_by s c d on objects decide answers.NoMemory
        (λ log caller kept after. (played : Kept) × PlaysUntold p log caller kept played
        × HidesRead log caller played (rising p.colours) after) (inl refl) away is
        (λ log kept after r. hidden_as log kept after (r.0, r.1.hidden, inr r.2))

    unplayed : Refusal answers.NoMemory → SyncsUntold s c d p.colour → GivesOf s objects c d decide answers.NoMemory []
    unplayed away is =
        gives_by s c d on objects decide answers.NoMemory (HidesOne p.colour) (inl refl) away (untold_hidden s c d p.colour is)
        (λ log kept after h. hidden_as log kept after (after, h, inl refl))

    undecided : (fault : ObjectFault) → home_asked it decide ≡ Some ps.home → Refusal (fault_answer fault)
        → DecideRefused s c d p fault → GivesOf s objects c d decide (fault_answer fault) []
    undecided (faults.NotHome shown) homes away is =
        gives_away s c d on objects decide (inl refl) (Some p.home) shown (homes ∙ ap Some (sym of.of.0)) is
    undecided (faults.Append fault) homes away is = absurd is
    undecided (faults.Sync (sync_faults.Trimmed shown base)) homes away (inl is) =
        gives_by s c d on objects decide (answers.Trimmed shown base)
        (λ log caller kept after. IsTrimmed log caller kept p.colour base × (after ≡ kept)) (inl refl) away is.1
        (λ log kept after r. refused_as log kept shown base after
        (inl (is.0, subst (λ (k : ℕ). IsTrimmed log it kept k base) (sym is.0) r.0, r.1)))
    undecided (faults.Sync (sync_faults.Trimmed shown base)) homes away (inr is) =
        unruled (sync_faults.Trimmed shown base) away is
    undecided (faults.Sync sync_faults.NoMemory) homes away is =
        gives_by s c d on objects decide answers.NoMemory (λ log caller kept after. after ≡ kept) (inl refl) away is
        (λ log kept after r. no_memory log it kept after decide r)
    undecided (faults.Unread stamp why) homes away is = absurd is
    undecided faults.NoTx homes away is = absurd is
    undecided faults.NoMemory homes away (inl is) = unplayed away is
    undecided faults.NoMemory homes away (inr is) = unruled sync_faults.NoMemory away is

-- WHAT IS GIVEN

module _ (s : Store) (c d : Client) (on : RestsOn s c d) (m : TxMap) (ps qs : PartPlayers) (found : Option Tx)
    (kept_in : ArePlayersIn c m ps) (key : List ℕ) where
  abbrev x : Opened
  x = opened.Tx (Some ps) m found

  abbrev y : Opened
  y = opened.Tx (Some qs) m found

  pub gives_peek : (call : Result (Peek × Synced) ObjectFault) (answer : Answer) → answer ≡ peek_answer call
      → (Helps d → Helps c) → (c.region ≢ ps.home → call ≡ Err (faults.NotHome ps.home))
      → IfOk call (λ r. OfKey ps key (λ p. Peeks s c d p key r.0 r.1)) → IfErr call (PeeksNot s c d ps key)
      → GivesTo s c d x y (λ object. whats.Peek object key) answer
  gives_peek call answer shown idle tells ok err = record {
    of = λ objects object at.
        given_at s objects c d object x y (whats.Peek object key) answer refl refl
        (subst (λ (a : Answer). GivesOf s objects c d (whats.Peek object key) a []) (sym shown)
        (by objects object at call tells ok err));
  } where
    by : (objects : List Object) (object : ℕ) → kind_in objects object ≡ Some (kinds.Parts m.home m.colours)
        → (call : Result (Peek × Synced) ObjectFault) → (c.region ≢ ps.home → call ≡ Err (faults.NotHome ps.home))
        → IfOk call (λ r. OfKey ps key (λ p. Peeks s c d p key r.0 r.1)) → IfErr call (PeeksNot s c d ps key)
        → GivesOf s objects c d (whats.Peek object key) (peek_answer call) []
    by objects object at (Ok r) tells ok err =
        gives_by s c d on objects (whats.Peek object key) (peek_shown r.0 (sync_piece r.1))
        (PlaysAs r.1 (Shows (own_part ok.0) key r.0)) (inr idle)
        (away_from s c d on objects (whats.Peek object key) ps.home (Ok r) (peek_shown r.0 (sync_piece r.1))
        (ap object_home (its_kind s c d on m ps kept_in key objects object at)) tells tt) ok.2.explained
        (explained s c d on m ps kept_in key objects object at ok.0 ok.1 r.1 ok.2.synced r.0)
    by objects object at (Err fault) tells ok err =
        let kind_is = its_kind s c d on m ps kept_in key objects object at in
        elim err [
          | inl none ↦
              not_asked s c d on m ps kept_in key objects object at (whats.Peek object key) (inr idle) (ap object_home kind_is) fault none
          | inr is ↦
              get_refused s c d on objects (whats.Peek object key) refl idle (Some ps.home) (ap object_home kind_is)
              (shard_of ps.colours key)
              (ap (λ (kind : Option Kind). shards (object_colours kind) (key ∷ [])) kind_is
              ∙ alone s c d on m ps kept_in key objects object at)
              fault is
              (away_from s c d on objects (whats.Peek object key) ps.home (Err fault) (fault_answer fault) (ap object_home kind_is)
              tells refl)
        ]

  pub gives_decide : (call : Result (Synced × Option Decided) ObjectFault) (answer : Answer) → ShowsDecide call answer
      → (c.region ≢ ps.home → call ≡ Err (faults.NotHome ps.home))
      → IfOk call (λ r. OfKey ps key (λ p. Decides s c d p r.0 r.1)) → IfErr call (DecidesNot s c d ps key)
      → GivesTo s c d x y (λ object. whats.Decide object key) answer
  gives_decide call answer shown tells ok err = record {
    of = λ objects object at.
        given_at s objects c d object x y (whats.Decide object key) answer refl refl (by objects object at call shown tells ok err);
  } where
    by : (objects : List Object) (object : ℕ) → kind_in objects object ≡ Some (kinds.Parts m.home m.colours)
        → (call : Result (Synced × Option Decided) ObjectFault) → ShowsDecide call answer
        → (c.region ≢ ps.home → call ≡ Err (faults.NotHome ps.home))
        → IfOk call (λ r. OfKey ps key (λ p. Decides s c d p r.0 r.1)) → IfErr call (DecidesNot s c d ps key)
        → GivesOf s objects c d (whats.Decide object key) answer []
    by objects object at (Ok (synced, None)) shown tells ok err =
        subst (λ (a : Answer). GivesOf s objects c d (whats.Decide object key) a []) (sym shown)
        (gives_by s c d on objects (whats.Decide object key) (answers.Got None (sync_piece synced))
        (PlaysAs synced (WaitsFor None (own_part ok.0))) (inl refl)
        (away_from s c d on objects (whats.Decide object key) ps.home (Ok (synced, None)) (answers.Got None (sync_piece synced))
        (ap object_home (its_kind s c d on m ps kept_in key objects object at)) tells tt) ok.2.explained
        (settled s c d on m ps kept_in key objects object at ok.0 ok.1 synced ok.2.synced))
    by objects object at (Ok (synced, Some decided)) shown tells ok err =
        subst (λ (a : Answer). GivesOf s objects c d (whats.Decide object key) a []) (sym shown.2)
        (gives_by s c d on objects (whats.Decide object key) _ (DecidesAs ok.2.set ok.0 synced decided) (inl refl)
        (away_from s c d on objects (whats.Decide object key) ps.home (Ok (synced, Some decided)) _
        (ap object_home (its_kind s c d on m ps kept_in key objects object at)) tells tt) ok.2.explained
        (told s c d on m ps kept_in key objects object at ok.0 ok.1 synced ok.2.synced ok.2.set ok.2.members_are decided shown.0 shown.1))
    by objects object at (Err fault) shown tells ok err =
        let homes = ap object_home (its_kind s c d on m ps kept_in key objects object at) in
        subst (λ (a : Answer). GivesOf s objects c d (whats.Decide object key) a []) (sym shown)
        (elim err [
          | inl none ↦ not_asked s c d on m ps kept_in key objects object at (whats.Decide object key) (inl refl) homes fault none
          | inr is ↦
              undecided s c d on m ps kept_in key objects object at is.0 is.1 fault homes
              (away_from s c d on objects (whats.Decide object key) ps.home (Err fault) (fault_answer fault) homes tells refl) is.2
        ])

-- where memory was refused before anything was done
pub gives_undecided : (s : Store) (c : Client) → IsClient s c → (x : Opened) (key : List ℕ)
    → GivesTo s c c x x (λ object. whats.Decide object key) answers.NoMemory
gives_undecided s c is x key = record {
  of = λ objects object at.
      given_at s objects c c object x x (whats.Decide object key) answers.NoMemory refl refl
      (gives_none s c c (rests_same s c is) objects (whats.Decide object key) (inl refl) refl);
}
