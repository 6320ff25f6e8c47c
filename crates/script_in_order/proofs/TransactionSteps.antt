-- Reads of transactional maps, and commits, by what their calls did.
use Rattle.std.proofs.Common.{◌≡◌, ◌≢◌, ℕ, zero, suc, Bool, true, false, List, [], ◌∷◌, ◌++◌, length, map, set, get_or, ◌<◌, ◌≤◌, Option, Some, None, Result, Ok, Err, length-set, refl, ap, sym, subst, ◌∙◌}
use Rattle.std.specs.Prelude.{IfOk, IfSome, ◌||◌, if◌then◌else◌}
use Rattle.std.specs.List.{All}
use Rattle.std.specs.declared.alloc.AllocError.{AllocError}
use Rattle.log_node.specs.declared.ids.Counts.{Counts}
use Rattle.log_node.specs.declared.ids.Colours.{Colours}
use Rattle.log_node.specs.Sets.{members, set_of}
use Rattle.col_core.proofs.CallerLemmas.{In}
use Rattle.script_text.specs.declared.script.Kind.{Kind}
use Rattle.script_text.specs.Fitting.{AreBelow, HasColours, AreObjectColours, IsKindWithin, UsesOne, UsesObject, HasObject, is_tx, is_tree}
use Rattle.script_text.specs.Grammar.{are_pairs}
use Rattle.lawful_run.specs.Asks.{object_colours, keys_of_pairs}
use Rattle.lawful_run.specs.Refusals.{before_by, behind_by}
use Rattle.lawful_run.proofs.CallerLemmas.{get_within, key_some}
use Rattle.script_meaning.proofs.CallerLemmas.{object_has, some_of, rising_below, rising_some}
use Rattle.log_node.specs.declared.ids.Key.{Key}
use Rattle.log_node.specs.declared.forms.Pair.{Pair}
use Rattle.log_node.specs.declared.forms.Version.{Version}
use Rattle.log_node.specs.declared.limits.TheConstants.{MAX_COLOURS}
use Rattle.log_node.proofs.CallerLemmas.{members-set_of}
use Rattle.log_node.specs.declared.forms.Form.TheVariants as forms
use Rattle.object_form.specs.Forms.{AreVersions, form_text}
use Rattle.object_fold.specs.declared.verdict.Verdict.TheVariants.{Committed}
use Rattle.object_fold.specs.Transactions.{value_of, writes_after, versions_after, ruling}
use Rattle.col_core.specs.Keeping.{nothing_kept, updated}
use Rattle.world_laws.specs.Worlds.{World}
use Rattle.world_laws.proofs.CallerLemmas.{in_right}
use Rattle.script_text.specs.declared.script.Object.{Object}
use Rattle.script_text.specs.declared.script.Command.{Command}
use Rattle.script_text.specs.declared.commands.What.{What}
use Rattle.script_text.specs.declared.commands.What.TheVariants as whats
use Rattle.script_text.specs.declared.uses.ReadUse.TheVariants as reads
use Rattle.script_text.specs.declared.uses.Use.{Use}
use Rattle.script_text.specs.declared.uses.Use.TheVariants.{OfLog, OfObject}
use Rattle.script_text.specs.Commands.{use_of}
use Rattle.report_text.specs.declared.report.Answer.{Answer}
use Rattle.report_text.specs.declared.report.Answer.TheVariants as answers
use Rattle.report_text.specs.declared.report.KeyAnswer.{KeyAnswer}
use Rattle.report_text.specs.declared.report.RaisePiece.{RaisePiece}
use Rattle.report_text.specs.declared.report.SyncPiece.{SyncPiece}
use Rattle.script_meaning.specs.States.{State, Grants, LastReads as Keeps, all_granted, answered, reads_left, kind_in}
use Rattle.script_meaning.specs.Objects.{caller_in, refusing_home, shard_set}
use Rattle.script_meaning.specs.Dequeues.{object_node_at}
use Rattle.script_meaning.specs.Gets.{key_answers}
use Rattle.script_meaning.specs.Stamped.{ReadEnd, Whole, Refused, Unraised, StampedRead, stamped_read, ended_so}
use Rattle.script_meaning.specs.Telling.{ReadAnswer, appended_and_told}
use Rattle.script_meaning.specs.Transactions.{keys_answered, read_in, verdict_answer, verdict_tells, version_keys, committed_by}
use Rattle.script_meaning.specs.Meaning.{done, done_one, done_from}
use Rattle.script_in_order.specs.Doing.{DoneBy, transacts, transaction_of, with_replies}
use Rattle.script_in_order.specs.Stamped.{ReadsStamped}
use Rattle.report_text.specs.declared.report.ReplyLine.{ReplyLine}
use Rattle.script_in_order.specs.Runs.{RepliesView, with_reply, with_read_found, found_at, reply_of}
use Rattle.script_in_order.specs.Telling.{AppendsAndTells, rising_colours, tells_by}
use Rattle.script_in_order.specs.Transacting.{AreFit, LeavesForCommit, Transacts, answered_keeping}
use Rattle.script_in_order.proofs.HelpsAndClears.{found_with, finds_all}
use Rattle.script_in_order.proofs.StampedWholes.{finds_same}
use Rattle.script_in_order.proofs.TxVerdicts.{tells_verdict}
use Rattle.script_in_order.proofs.ObjectSteps.{each_below, has_kind, kind_is, has_some, are_low}

-- THE COLOURS OF AN OBJECT THAT IS READ WHOLE

module _ (regions count : ℕ) (few : count ≤ MAX_COLOURS) (objects : List Object)
    (all : All (λ (o : Object). IsKindWithin regions count o.kind) objects) (object : ℕ) {test : Kind → Bool}
    (has : HasObject objects object test) (other : Object) (set : Colours)
    (is : set ≡ set_of (object_colours (Some (get_or objects object other).kind))) where
  own : AreObjectColours count (object_colours (kind_in objects object))
  own = object_has objects regions count all object test has

  pub whole_members : members set ≡ rising_colours objects object
  whole_members =
      ap members (is ∙ ap (λ (k : Option Kind). set_of (object_colours k)) (kind_is objects object other has))
      ∙ members-set_of (object_colours (kind_in objects object))

  pub whole_low : AreBelow count set
  whole_low = each_below count set (λ c i. rising_below count few (object_colours (kind_in objects object)) own c
      (subst (λ (l : List ℕ). In c l) whole_members i))

  pub whole_some : members set ≢ []
  whole_some e =
      let first = rising_some count few (object_colours (kind_in objects object)) own in
      subst (λ (l : List ℕ). In first.0 l) (sym whole_members ∙ e) first.1

-- such a map is told what becomes of nodes
pub tx_is : (objects : List Object) (object : ℕ) (other : Object) → HasObject objects object is_tx
    → (is_tx (get_or objects object other).kind || is_tree (get_or objects object other).kind) ≡ true
tx_is objects object other has =
    ap (λ (b : Bool). b || is_tree (get_or objects object other).kind) (has_kind objects object other has)

-- A READ OF KEYS

module _ (objects : List Object) (old new : World) (command : Command) (object : ℕ) (keys : List (List ℕ))
    (is : command.what ≡ whats.Read object keys) (taken : Option (List Version)) where
  abbrev meaning : Grants → State → State
  meaning grants state = read_in objects grants state command object keys

  abbrev cs : List ℕ
  cs = rising_colours objects object

  abbrev Left : Answer → Option (List Version) → Type 0
  Left answer kept = LeavesForCommit meaning command object taken old new answer kept

  module _ (ends : ReadEnd) (reads : ReadsStamped old new command.client cs ends) (items : Bool) where
    abbrev grants : Grants
    grants = record (found_with (λ _. true) reads.finds) { raises = reads.found; items = items }

    read_is : stamped_read grants old command.client cs ≡ record { world = new; ends = ends }
    read_is = reads.is grants refl (finds_same (found_with (λ _. true) reads.finds) grants refl 0 reads.finds
        (finds_all (λ _. true) reads.finds))

    reading_is : (told : State) → meaning grants (with_replies old told)
        ≡ ended_so grants (with_replies old told) command (keys_answered (with_replies old told) command object keys new) new
        ends
    reading_is told =
        ap (λ (r : StampedRead). ended_so grants (with_replies old told) command
        (keys_answered (with_replies old told) command object keys r.world) r.world r.ends) read_is

  -- where nothing is found, nothing is kept of the object
  none_is_kept : (told : State) (answer : Answer)
      → answered (with_replies old told) command new answer [] ≡ answered_keeping told command object new answer None
  none_is_kept told answer =
      ap (λ (what : What). record (answered told command new answer []) {
        reads = updated told.reads command.client (reads_left what (told.reads command.client));
      }) is

  pub left_unraised : ReadsStamped old new command.client cs Unraised → Left answers.NoMemory None
  left_unraised reads = record {
    grants = grants Unraised reads true;
    begun = refl;
    is = λ told same. reading_is Unraised reads true told ∙ none_is_kept told answers.NoMemory;
  }

  pub left_refused : (c : ℕ) (base : Counts) → ReadsStamped old new command.client cs (Refused c base)
      → Left (answers.Trimmed c base) None
  left_refused c base reads = record {
    grants = grants (Refused c base) reads true;
    begun = refl;
    is = λ told same. reading_is (Refused c base) reads true told ∙ none_is_kept told (answers.Trimmed c base);
  }

  module _ (stamp : ℕ) (raises : List RaisePiece) (syncs : List SyncPiece) (read : List Key)
      (reads : ReadsStamped old new command.client cs (Whole stamp raises syncs read)) where
    pub left_without : Left answers.NoMemory None
    left_without = record {
      grants = grants (Whole stamp raises syncs read) reads false;
      begun = refl;
      is = λ told same. reading_is (Whole stamp raises syncs read) reads false told ∙ none_is_kept told answers.NoMemory;
    }

    pub left_found : (shown : List KeyAnswer) (versions : List Version)
        → shown ≡ key_answers (value_of (writes_after (map (object_node_at new) read))) keys
        → versions ≡ versions_after (map (object_node_at new) read) keys
        → Left (answers.GotKeys stamp shown raises syncs) (Some versions)
    left_found shown versions a v = record {
      grants = grants (Whole stamp raises syncs read) reads true;
      begun = refl;
      is = λ told same. reading_is (Whole stamp raises syncs read) reads true told
          ∙ (ap (λ (s : List KeyAnswer). answered_keeping told command object new (answers.GotKeys stamp s raises syncs)
          (Some (versions_after (map (object_node_at new) read) keys))) (sym a)
          ∙ ap (λ (vs : List Version). answered_keeping told command object new (answers.GotKeys stamp shown raises syncs)
          (Some vs)) (sym v));
    }

-- WHAT IS KEPT OF THE OBJECT

-- such a command lets the object's read go
lets_go : (what : What) (object : ℕ) → transaction_of what ≡ Some object
    → ◌≡◌ {A = Keeps → Keeps} (reads_left what) (λ reads. updated reads object None)
lets_go what object = by (use_of what) where
  same : (o : ℕ) → o ≡ object
      → ◌≡◌ {A = Keeps → Keeps} (λ reads. updated reads o None) (λ reads. updated reads object None)
  same o e = ap (λ (x : ℕ). λ (reads : Keeps). updated reads x None) e

  by : (u : Use) → transacts u ≡ Some object
      → ◌≡◌ {A = Keeps → Keeps} (λ reads. (behind_by u (before_by u (record nothing_kept { reads = reads }))).reads)
      (λ reads. updated reads object None)
  by (OfObject o reads.Takes) e = same o cc
  by (OfObject o reads.UsesUp) e = same o cc
  by _ e = let f : ⊥ = cc in absurd f

let_go : (command : Command) (object : ℕ) → transaction_of command.what ≡ Some object → (told : State) (w : World)
    (answer : Answer) → answered told command w answer [] ≡ answered_keeping told command object w answer None
let_go command object asks told w answer =
    ap (λ (f : Keeps → Keeps). record (answered told command w answer []) {
      reads = updated told.reads command.client (f (told.reads command.client));
    }) (lets_go command.what object asks)

-- A COMMAND

module _ (objects : List Object) (command : Command) (object : ℕ) (taken : Option (List Version)) where
  abbrev pub Whole_left : World → World → Answer → Option (List Version) → Type 0
  Whole_left old new answer kept =
      LeavesForCommit (λ grants state. done objects grants state command) command object taken old new answer kept

  -- that no home refuses
  near_left : (old new : World) (answer : Answer) (kept : Option (List Version)) (what : What) → command.what ≡ what
      → refusing_home (caller_in old objects command.client) command.what ≡ None
      → LeavesForCommit (λ grants state. done_one objects grants state command what) command object taken old new answer kept
      → Whole_left old new answer kept
  near_left old new answer kept what is near l = record {
    grants = l.grants;
    begun = l.begun;
    is = λ told same.
        let state = with_replies old told in
        ap (λ (b : Bool). if b then done_from (refusing_home (caller_in old objects command.client) command.what) objects
        l.grants state command
        else answered state command state.world answers.NoMemory []) l.begun
        ∙ (ap (λ (home : Option ℕ). done_from home objects l.grants state command) near
        ∙ (ap (λ (x : What). done_one objects l.grants state command x) is ∙ l.is told same));
  }

  pub read_left : (old new : World) (answer : Answer) (kept : Option (List Version)) (keys : List (List ℕ))
      → command.what ≡ whats.Read object keys
      → refusing_home (caller_in old objects command.client) command.what ≡ None
      → LeavesForCommit (λ grants state. read_in objects grants state command object keys) command object taken old new answer kept
      → Whole_left old new answer kept
  read_left old new answer kept keys is near l = near_left old new answer kept (whats.Read object keys) is near l

  pub commit_left : (old new : World) (answer : Answer) (pairs : List Pair) → command.what ≡ whats.Commit object pairs
      → refusing_home (caller_in old objects command.client) command.what ≡ None
      → DoneBy (λ grants state. committed_by objects grants state command object pairs taken) command old new answer []
      → Whole_left old new answer None
  commit_left old new answer pairs is near d =
      near_left old new answer None (whats.Commit object pairs) is near (record {
        grants = d.grants;
        begun = d.begun;
        is = λ told same.
            ap (λ (t : Option (List Version)). committed_by objects d.grants (with_replies old told) command object pairs t)
            same
            ∙ (d.is told
            ∙ ap (λ (what : What). record (answered told command new answer []) {
              reads = updated told.reads command.client (reads_left what (told.reads command.client));
            }) is);
      })

  -- that a home refuses
  pub away_left : (old : World) (home : ℕ) → transaction_of command.what ≡ Some object
      → refusing_home (caller_in old objects command.client) command.what ≡ Some home
      → Whole_left old old (answers.NotHome home) None
  away_left old home asks away = record {
    grants = all_granted;
    begun = refl;
    is = λ told same.
        ap (λ (h : Option ℕ). done_from h objects all_granted (with_replies old told) command) away
        ∙ let_go command object asks told old (answers.NotHome home);
  }

-- WITH ITS REPLY

set_twice : {A : Type 0} (xs : List A) (i : ℕ) (a b : A) → set (set xs i a) i b ≡ set xs i b
set_twice [] i a b = refl
set_twice (x ∷ xs) zero a b = refl
set_twice {A} (x ∷ xs) (suc i) a b = ap (λ (l : List A). x ∷ l) (set_twice xs i a b)

module _ (objects : List Object) (command : Command) (object : ℕ) (before after : RepliesView) where
  -- the read was taken, and what was left kept
  twice : (kept : Option (List Version)) → with_read_found (with_read_found before object None) object kept ≡ with_read_found before object kept
  twice kept = ap (λ (l : List (Option (List Version))). record before { reads = l })
      (set_twice before.reads object None kept)

  pub did_transact : (old new : World) (answer : Answer) (kept taken : Option (List Version)) (reply : ReplyLine)
      → taken ≡ found_at before.reads object → Whole_left objects command object taken old new answer kept
      → reply ≡ reply_of command answer []
      → after ≡ with_reply (with_read_found (with_read_found before object None) object kept) reply
      → Transacts objects command object old new before after
  did_transact old new answer kept taken reply its l is so = record {
    grants = l.grants;
    answer = answer;
    kept = kept;
    is = λ told same. l.is told (same ∙ sym its);
    replies = so ∙ (ap (λ (r : ReplyLine). with_reply (with_read_found (with_read_found before object None) object kept) r) is
        ∙ ap (λ (v : RepliesView). with_reply v (reply_of command answer [])) (twice kept));
  }

  pub transacts_none : (old new : World) (reply : ReplyLine) → transaction_of command.what ≡ Some object → new ≡ old
      → reply ≡ reply_of command answers.NoMemory [] → after ≡ with_reply (with_read_found before object None) reply
      → Transacts objects command object old new before after
  transacts_none old new reply asks none is so = record {
    grants = record all_granted { start = false };
    answer = answers.NoMemory;
    kept = None;
    is = λ told same.
        let_go command object asks told old answers.NoMemory
        ∙ ap (λ (w : World). answered_keeping told command object w answers.NoMemory None) (sym none);
    replies = so ∙ ap (λ (r : ReplyLine). with_reply (with_read_found before object None) r) is;
  }

-- A COMMIT

-- the set of the shards of what it reads and writes
abbrev pub its_set : List Object → ℕ → List Version → List Pair → Colours
its_set objects object versions pairs =
    shard_set (object_colours (kind_in objects object)) (version_keys versions ++ keys_of_pairs pairs)

module _ (objects : List Object) (command : Command) (object : ℕ) (pairs : List Pair) (reads : List Version) where
  -- the set of its shards, as it was made
  pub set_made : (other : Object) → HasObject objects object is_tx → (set : Colours) (vs : List Version)
      (ps : List Pair)
      → set ≡ shard_set (object_colours (Some (get_or objects object other).kind)) (version_keys vs ++ keys_of_pairs ps)
      → vs ≡ reads → ps ≡ pairs → set ≡ its_set objects object reads pairs
  set_made other has set vs ps made v p =
      let kind = (get_or objects object other).kind in
      made
      ∙ (ap (λ (l : List Version). shard_set (object_colours (Some kind)) (version_keys l ++ keys_of_pairs ps)) v
      ∙ (ap (λ (l : List Pair). shard_set (object_colours (Some kind)) (version_keys reads ++ keys_of_pairs l)) p
      ∙ ap (λ (k : Option Kind). shard_set (object_colours k) (version_keys reads ++ keys_of_pairs pairs))
      (kind_is objects object other has)))

  module _ (regions count : ℕ) (few : count ≤ MAX_COLOURS)
      (all : All (λ (o : Object). IsKindWithin regions count o.kind) objects) (other : Object)
      (has : HasObject objects object is_tx) (set : Colours) (is : set ≡ its_set objects object reads pairs) where
    abbrev its_kind : Kind
    its_kind = (get_or objects object other).kind

    as_kind : set ≡ shard_set (object_colours (Some its_kind)) (version_keys reads ++ keys_of_pairs pairs)
    as_kind = is ∙ ap (λ (k : Option Kind). shard_set (object_colours k) (version_keys reads ++ keys_of_pairs pairs))
        (sym (kind_is objects object other has))

    -- it has a colour, and all its colours are among the world's
    pub its_some : are_pairs 2 pairs ≡ true → HasColours 1 set
    its_some some =
        let key = some_of (keys_of_pairs pairs) (key_some 2 pairs some) in
        subst (HasColours 1) (sym as_kind)
        (has_some regions count few objects all object is_tx has its_kind (kind_is objects object other has)
        (version_keys reads ++ keys_of_pairs pairs) key.0 (in_right key.0 (version_keys reads) (keys_of_pairs pairs) key.1))

    pub its_low : AreBelow count set
    its_low = subst (AreBelow count) (sym as_kind)
        (are_low regions count few objects all object is_tx has its_kind (kind_is objects object other has)
        (version_keys reads ++ keys_of_pairs pairs))

  -- its node is told the verdict
  pub commit_told : (w new : World) (r : Result Answer AllocError) (colours set : Colours) (text : List ℕ)
      → members colours ≡ rising_colours objects object → set ≡ its_set objects object reads pairs
      → text ≡ form_text (forms.Transaction reads pairs)
      → IfOk r (AppendsAndTells (tells_by ruling verdict_answer (λ own. Committed own.stamp)) (members colours) command set text w new)
      → IfOk r (λ answer. DoneBy
      (λ grants state. committed_by objects grants state command object pairs (Some reads)) command w new answer [])
  commit_told w new (Ok answer) colours set text all is same d =
      let Commits : ReadAnswer → Colours → List ℕ → Type 0 = λ tells cs t. DoneBy
      (λ grants state. appended_and_told tells objects grants state command object cs t) command w new answer [] in
      subst (λ (t : List ℕ). Commits verdict_tells (its_set objects object reads pairs) t) same
      (subst (λ (cs : Colours). Commits verdict_tells cs text) is
      (subst (λ (tells : ReadAnswer). Commits tells set text) tells_verdict (d objects object all)))
  commit_told w new (Err e) colours set text all is same d = tt

-- a commit by what was taken
pub commit_taken : (objects : List Object) (command : Command) (object : ℕ) (pairs : List Pair)
    (taken found : Option (List Version)) (w new : World) (answer : Answer) → taken ≡ found
    → DoneBy (λ grants state. committed_by objects grants state command object pairs found) command w new answer []
    → DoneBy (λ grants state. committed_by objects grants state command object pairs taken) command w new answer []
commit_taken objects command object pairs taken found w new answer is d =
    subst (λ (t : Option (List Version)). DoneBy (λ grants state. committed_by objects grants state command object pairs t)
    command w new answer []) (sym is) d

pub no_read_taken : (objects : List Object) (command : Command) (object : ℕ) (pairs : List Pair) (w : World)
    → DoneBy (λ grants state. committed_by objects grants state command object pairs None) command w w answers.NoTx []
no_read_taken objects command object pairs w = record { grants = all_granted; begun = refl; is = λ told. refl }

-- WHICH OBJECT

-- a read or a commit is of the object that it names
pub read_asks : (what : What) (object other : ℕ) (keys : List (List ℕ)) → transaction_of what ≡ Some object
    → what ≡ whats.Read other keys → what ≡ whats.Read object keys
read_asks what object other keys asks is =
    let e : Some other ≡ Some object = ap transaction_of (sym is) ∙ asks in
    let same : other ≡ object = cc in is ∙ ap (λ (n : ℕ). whats.Read n keys) same

pub commit_asks : (what : What) (object other : ℕ) (pairs : List Pair) → transaction_of what ≡ Some object
    → what ≡ whats.Commit other pairs → what ≡ whats.Commit object pairs
commit_asks what object other pairs asks is =
    let e : Some other ≡ Some object = ap transaction_of (sym is) ∙ asks in
    let same : other ≡ object = cc in is ∙ ap (λ (n : ℕ). whats.Commit n pairs) same

-- it is one of the objects
pub object_there : (objects : List Object) (what : What) (object : ℕ) → transaction_of what ≡ Some object
    → UsesObject objects what → object < length objects
object_there objects what object = by (use_of what) where
  by : (u : Use) → transacts u ≡ Some object → UsesOne objects what u → object < length objects
  by (OfLog stops) e u = let f : ⊥ = cc in absurd f
  by (OfObject o reads.Leaves) e u = let f : ⊥ = cc in absurd f
  by (OfObject o _) e u =
      let is : o ≡ object = cc in
      subst (λ (n : ℕ). n < length objects) is (get_within objects o u.0.found u.0.there)

-- what was taken is fit
pub taken_fits : (reads : List (Option (List Version))) (object : ℕ) (taken : Option (List Version))
    → taken ≡ found_at reads object → AreFit (found_at reads) → IfSome taken AreVersions
taken_fits reads object None is fit = tt
taken_fits reads object (Some versions) is fit = fit object versions (sym is)

-- it has a place still, where what it found was taken
pub still_there : (before after : RepliesView) (object : ℕ) → after ≡ with_read_found before object None
    → object < length before.reads → object < length after.reads
still_there before after object is low =
    subst (λ (n : ℕ). object < n)
    (sym (ap (λ (r : RepliesView). length r.reads) is ∙ length-set before.reads object None)) low

-- A READ OR A COMMIT, AND WHAT IS FOLDED
