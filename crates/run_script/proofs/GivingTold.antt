-- What a client gives to a command that is told what becomes of its node: an append, and a stamped read of the object behind it.
use Rattle.std.proofs.Common.{◌≡◌, ℕ, List, [], map, Option, refl, ap, sym, subst, ◌∙◌, inl, inr}
use Rattle.std.specs.Prelude.{IsTrue}
use Rattle.log_node.specs.declared.forms.Version.{Version}
use Rattle.log_node.specs.declared.ids.Colours.{Colours}
use Rattle.log_node.specs.declared.ids.Key.{Key}
use Rattle.log_node.specs.Sets.{members}
use Rattle.object_fold.specs.Folds.{last_before}
use Rattle.object_fold.specs.Nodes.{ObjectNode}
use Rattle.col_core.specs.History.{entry_key}
use Rattle.col_core.specs.Keeping.{Kept}
use Rattle.col_core.specs.Log.{Log}
use Rattle.script_text.specs.declared.script.Object.{Object}
use Rattle.script_text.specs.declared.commands.What.{What}
use Rattle.report_text.specs.declared.report.Answer.{Answer}
use Rattle.report_text.specs.declared.report.Answer.TheVariants as answers
use Rattle.lawful_run.specs.Asks.{Committing, Manner, home_asked, may_help, rising, tells_stamp_end}
use Rattle.lawful_run.specs.Callers.{Caller, node_of}
use Rattle.lawful_run.specs.Deeds.{AsksToAppend, colours_synced, manner_of}
use Rattle.lawful_run.specs.Explains.{Explains}
use Rattle.lawful_run.specs.Reads.{HidesRead, ReadsAt, RefusesRead}
use Rattle.lawful_run.specs.Refusals.{IsAway, IsHomeRefusal, kept_before, kept_behind}
use Rattle.lawful_run.specs.Shapes.{TellsBehind}
use Rattle.lawful_run.proofs.CallerLemmas.{explained_keeps, explains_unruled, explains_unruled_without}
use Rattle.client_law.specs.Knowing.{log_seen}
use Rattle.log_client.specs.declared.store.Store.{Store}
use Rattle.log_client.specs.declared.client.Client.{Client}
use Rattle.log_client.specs.declared.answers.Appended.{Appended}
use Rattle.log_client.specs.declared.answers.StampedRead.{StampedRead}
use Rattle.log_client.specs.declared.faults.SyncFault.TheVariants as sync_faults
use Rattle.log_client.specs.declared.object_fault.ObjectFault.{ObjectFault}
use Rattle.log_client.specs.declared.object_fault.ObjectFault.TheVariants as faults
use Rattle.log_client.specs.Appends.{AppendsAs, piece_of}
use Rattle.log_client.specs.Calls.{IsExplained}
use Rattle.log_client.specs.Clients.{seen_of}
use Rattle.log_client.specs.Objects.{StandsThen}
use Rattle.log_client.specs.Reading.{RestsOn}
use Rattle.log_client.specs.StampedReads.{raise_piece, sync_piece}
use Rattle.region_fold.specs.Reads.{HasNodesRead, TellRefused}
use Rattle.run_script.specs.declared.serving.opened.Opened.{Opened}
use Rattle.run_script.specs.Opened.{KeepsReadsBut, versions_in}
use Rattle.run_script.specs.Replying.{fault_answer}
use Rattle.run_script.specs.Serving.{ServesObject, KnowsRead}
use Rattle.run_script.proofs.Giving.{served}
use Rattle.run_script.proofs.GivingObjects.{ExplainsIf, refused_if, told_if, who}
use Rattle.run_script.proofs.ReadsFound.{IsNoRead}

-- The node stands, and this is so of its key and of the nodes of the stamped read behind it.
abbrev pub TellsAs : Colours → List ℕ → List ℕ → Option Key → (Key → List ObjectNode → Type 0) → Appended → StampedRead → Log
    → Caller → Kept → Kept → Type 0
TellsAs set text colours last Says a read log caller kept after =
    (stood : Kept) × AppendsAs set text a log caller kept stood
    × HasNodesRead colours (last_before last a.stood.key) read (Says a.stood.key) log caller stood after

-- A command of an object that was opened as x and then is y, as what is then found by reads says.
module _ (s : Store) (c d : Client) (on : RestsOn s c d) (objects : List Object) (object : ℕ) (x y : Opened) (what : What)
    (committing : manner_of what ≡ Committing) (lets_none_go : (kept : Kept) → (kept_before what kept).reads ≡ kept.reads)
    (leaves : (kept answered : Kept) → kept.reads object ≡ versions_in x → answered.reads ≡ kept.reads
    → KeepsReadsBut object (versions_in y) kept (kept_behind what answered)) where
  abbrev it : Caller
  it = who s c d on objects

  abbrev Found : Kept → Type 0
  Found kept = kept.reads object ≡ versions_in x

  no_read : IsNoRead what
  no_read n keys is = let two = sym committing ∙ ap manner_of is in let f : ⊥ = cc (two) in f

  -- what explains the answer where it was found so
  pub gives_found : (answer : Answer) → (IsAway it (home_asked it what) → IsHomeRefusal answer)
      → ExplainsIf s c d on objects Found what answer → ServesObject s objects c d object x y what answer
  gives_found answer away is =
      served s c d on.client on.same on.goes on.grows objects what answer [] (KnowsRead c object x)
      (KeepsReadsBut object (versions_in y)) (λ log kept after. Found kept → Explains log it kept what answer [] after) away
      (λ done. inl (on.finished done))
      (λ helps. inr (subst (λ (m : Manner). IsTrue (may_help m)) (sym committing) refl)) is
      (λ kept after rest knows fits r.
      let found = knows rest fits in
      let explains = r (ap (λ (reads : ℕ → Option (List Version)). reads object) (lets_none_go kept) ∙ found) in (
        explains,
        leaves kept after found
            (explained_keeps (log_seen (seen_of d) rest) it (kept_before what kept) what answer [] after explains (inl no_read)
            ∙ lets_none_go kept),
      ))

  -- where the reads that are kept say what x found, its node has this text and these colours, and it reads all of those
  module _ (own text colours : List ℕ) (synced : colours_synced it what ≡ rising colours)
      (asks : (kept : Kept) (set : Colours) → Found kept → members set ≡ own → AsksToAppend it kept what set text) where
    -- it was told something, which the answer shows
    pub told_gives : (Says : Key → List ObjectNode → Type 0) (last : Option Key) (set : Colours) (a : Appended)
        (read : StampedRead) (answer : Answer) → (IsAway it (home_asked it what) → IsHomeRefusal answer) → members set ≡ own
        → IsExplained s c d (TellsAs set text (rising colours) last Says a read)
        → ((log : Log) (kept after : Kept) → TellsBehind log it kept what a.row (map piece_of a.stood.points) read.stamp
        (map raise_piece read.raises) (map sync_piece read.syncs) Says after → Explains log it kept what answer [] after)
        → ServesObject s objects c d object x y what answer
    told_gives Says last set a read answer away members_are is shows =
        gives_found answer away
        (told_if s c d on objects Found what answer (TellsAs set text (rising colours) last Says a read) is
        (λ log kept after found r.
        let key : entry_key a.stood.key.stamp (node_of it kept set text).id ≡ a.stood.key =
        ap (entry_key a.stood.key.stamp) (sym (r.1.1 ∙ r.1.0)) in
        let reads = subst (λ (l : List ℕ).
        ReadsAt log it r.0 l read.stamp (map raise_piece read.raises) (map sync_piece read.syncs) after) (sym synced) r.2.1.0 in
        let says = subst (λ (k : Key). Says k r.2.2) (sym key) r.2.4 in
        shows log kept after (
          committing,
          (
            set,
            text,
            asks kept set found members_are,
            (a.stood.key.stamp, r.0, r.1.2, (reads, r.2.0, r.2.1.1, r.2.2, r.2.3, says)),
          ),
        )))

    -- it was refused, or its node stands and was told nothing
    pub refused_gives : (fault : ObjectFault) → (IsAway it (home_asked it what) → IsHomeRefusal (fault_answer fault))
        → TellRefused s c d own text colours fault → ServesObject s objects c d object x y what (fault_answer fault)
    refused_gives (faults.NotHome shown) away is = absurd is
    refused_gives (faults.Append fault) away is =
        gives_found (fault_answer (faults.Append fault)) away
        (refused_if s c d on objects Found what own text
        (subst (λ (m : Manner). IsTrue (tells_stamp_end m)) (sym committing) refl) asks fault is)
    refused_gives (faults.Sync fault) away is = absurd is
    refused_gives (faults.Unread stamp (sync_faults.Trimmed colour base)) away is =
        gives_found (answers.UnreadTrimmed stamp colour base) away
        (told_if s c d on objects Found what (answers.UnreadTrimmed stamp colour base)
        (StandsThen is.0 text stamp (λ log caller stood after. RefusesRead log caller stood (rising colours) colour base after))
        is.2
        (λ log kept after found r. explains_unruled log it kept what is.0 text stamp colour base r.0 after committing
        (asks kept is.0 found is.1) r.1
        (subst (λ (l : List ℕ). RefusesRead log it r.0 l colour base after) (sym synced) r.2)))
    refused_gives (faults.Unread stamp sync_faults.NoMemory) away is =
        gives_found (answers.UnreadNoMemory stamp) away
        (told_if s c d on objects Found what (answers.UnreadNoMemory stamp)
        (StandsThen is.0 text stamp (λ log caller stood after. HidesRead log caller stood (rising colours) after)) is.2
        (λ log kept after found r. explains_unruled_without log it kept what is.0 text stamp r.0 after committing
        (asks kept is.0 found is.1) r.1 (subst (λ (l : List ℕ). HidesRead log it r.0 l after) (sym synced) r.2)))
    refused_gives faults.NoTx away is = absurd is
    refused_gives faults.NoMemory away is = absurd is
