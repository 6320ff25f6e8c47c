-- Behind a step by which a read found something.
use Rattle.std.proofs.Common.{◌≡◌, ◌∙◌, refl, ap, sym, subst, Bool, true, false, cond, ℕ, zero, suc, List, [], ◌∷◌, map, Option, Some, None, arith}
use Rattle.std.specs.Prelude.{◌==◌, IfSome, not, slice_get}
use Rattle.std.proofs.lemmas.Bool.{ne_eqb}
use Rattle.std.proofs.lemmas.List.Elements.{All-contains}
use Rattle.log_node.proofs.CallerLemmas.{same_some}
use Rattle.std.specs.Option.{option_map}
use Rattle.log_node.specs.declared.node.At.{At}
use Rattle.log_node.specs.declared.forms.Version.{Version}
use Rattle.part_fold.specs.declared.decision.Decision.{Decision}
use Rattle.col_core.specs.Log.{Log}
use Rattle.col_core.specs.Keeping.{Kept, with_read}
use Rattle.col_core.proofs.CallerLemmas.{contains_in, if_true, in_filter, slice_in}
use Rattle.script_text.specs.declared.commands.What.{What}
use Rattle.script_text.specs.declared.commands.What.TheVariants as whats
use Rattle.script_text.specs.declared.script.Command.{Command}
use Rattle.script_text.specs.declared.script.Script.{Script}
use Rattle.script_text.specs.Fitting.{IsFitting, IsWithin}
use Rattle.script_text.specs.declared.uses.ReadUse.TheVariants.{Leaves, Takes, UsesUp}
use Rattle.script_text.specs.declared.uses.Use.{Use}
use Rattle.script_text.specs.declared.uses.Use.TheVariants.{OfLog, OfObject}
use Rattle.script_text.specs.Commands.{use_of}
use Rattle.report_text.specs.declared.report.Answer.{Answer}
use Rattle.report_text.specs.declared.report.Answer.TheVariants as answers
use Rattle.report_text.specs.declared.report.Ended.{Ended}
use Rattle.report_text.specs.declared.report.Ended.TheVariants as ends
use Rattle.report_text.specs.declared.report.PointPiece.{PointPiece}
use Rattle.report_text.specs.declared.report.ClientReport.{ClientReport}
use Rattle.report_text.specs.declared.report.ReplyLine.{ReplyLine}
use Rattle.report_text.specs.declared.report.Report.{Report}
use Rattle.lawful_run.specs.Callers.{Caller, caller_of, commands_of}
use Rattle.lawful_run.specs.Deeds.{found_by}
use Rattle.lawful_run.specs.Refusals.{behind_by, kept_before, kept_behind}
use Rattle.run_rules.specs.Told.{AreKeysFound, Untold, kept_after_append, kept_after_end, kept_after_read, kept_after_stop, kept_appending, kept_deciding, kept_past, kept_pulled, kept_told, stamp_told, with_found}
use Rattle.run_rules.specs.Nodes.{node_asked, node_told}
use Rattle.run_rules.specs.Telling.{FindKeys, replies_in, replies_to, step_finding, untold_told}
use Rattle.run_rules.proofs.CallerLemmas.{found_told, told_reads}
use Rattle.object_law.specs.declared.drafts.Draft.{Draft}
use Rattle.object_law.specs.declared.drafts.Used.{Used}
use Rattle.object_law.specs.Drafts.{SaysDraft, StepsOn, pairs_at, pairs_in, pairs_written}
use Rattle.walk_law.specs.Finds.{AreFoundAt, FindsKeys, node_appended}
use Rattle.walk_law.specs.Keepings.{Counted, IsCounted, IsFoundAt, ShowsKeys, read_at}
use Rattle.walk_law.specs.Replies.{place_read}
use Rattle.walk_law.specs.Walking.{Walked, log_walked, places_printed}
use Rattle.walk_law.proofs.CallerLemmas.{Reads, behind_reads, chained, found_before, kept_found, reads_by}
use Rattle.walk_law.proofs.CallerLemmas.{deciding_uses, found_same}
use Rattle.walk_law.proofs.CallerLemmas.{keys_unnamed}

-- WHAT READS FOUND

-- what an answer tells of a read that found this, or none
abbrev found_in : List Version → Answer → Option (List Version)
found_in found (answers.GotKeys stamp shown raises syncs) = Some found
found_in found _ = None

same_found : (untold : Untold) (what : What) (answer : Answer) (kept : Kept)
    → found_told untold kept what answer ≡ kept_found (use_of what) (found_in untold.found answer) kept
same_found untold what (answers.GotKeys stamp shown raises syncs) kept = refl
same_found untold what _ kept = refl

past_reads : (log : Log) (caller : Caller) (shown : ℕ → ℕ → List ℕ) (found : List Version) (kept : Kept) (command : Command)
    (reply : ReplyLine) (n : ℕ)
    → (kept_past log caller (step_finding log caller shown found kept command reply)).reads n
    ≡ reads_by (use_of command.what) (found_in found reply.answer) kept.reads n
past_reads log caller shown found kept command reply n =
    let step = step_finding log caller shown found kept command reply in
    let u = use_of command.what in
    let at = kept_before command.what kept in
    ap (λ (r : Reads). r n)
    (behind_reads u (kept_told log step.untold caller at command.what reply.answer) (kept_found u (found_in found reply.answer) at)
    (told_reads log step.untold caller at command.what reply.answer
    ∙ ap (λ (k : Kept). k.reads) (same_found step.untold command.what reply.answer at)))
    ∙ chained u (found_in found reply.answer) kept n

-- what stands in the place of a reply is what its read found
pub found_there : (found : ℕ → List Version) (place : ℕ) (answer : Answer)
    → found_in (found place) answer ≡ option_map found (place_read answer place)
found_there found place (answers.GotKeys stamp shown raises syncs) = refl
found_there found place _ = refl

module _ (found : ℕ → List Version) (log : Log) (caller : Caller) (shown : ℕ → ℕ → List ℕ) (kept : Kept) (command : Command)
    (reply : ReplyLine) (place : ℕ) (table : List (Option ℕ)) where
  abbrev pub Past : Type 0
  Past = AreFoundAt found (kept_past log caller (step_finding log caller shown (found place) kept command reply)).reads table

  pub past_by : (u : Use) (what : What) (answer : Answer) → use_of what ≡ u → command.what ≡ what → reply.answer ≡ answer
      → AreFoundAt found (reads_by u (found_in (found place) answer) kept.reads) table → Past
  past_by u what answer is asked replied reads object lt =
      past_reads log caller shown (found place) kept command reply object
      ∙ (ap (λ (w : What). reads_by (use_of w) (found_in (found place) reply.answer) kept.reads object) asked
      ∙ (ap (λ (v : Use). reads_by v (found_in (found place) reply.answer) kept.reads object) is
      ∙ (ap (λ (a : Answer). reads_by u (found_in (found place) a) kept.reads object) replied ∙ reads object lt)))

-- WHAT IS COUNTED

module _ (u : Untold) (v : List Version) (caller : Caller) where
  abbrev other : Untold
  other = record u { found = v }

  append_same : (kept : Kept) (stamp : ℕ) (row : Option ℕ) (points : List PointPiece)
      → kept_after_append u caller kept stamp row points ≡ kept_after_append other caller kept stamp row points
  append_same kept stamp None [] = refl
  append_same kept stamp None (p ∷ ps) = refl
  append_same kept stamp (Some number) points = refl

  stop_same : (kept : Kept) (steps : ℕ) → kept_after_stop u caller kept steps ≡ kept_after_stop other caller kept steps
  stop_same kept zero = refl
  stop_same kept (suc steps) = refl

  pull_same : (kept : Kept) (what : What) (give carry : At) → kept_pulled u caller kept what give carry ≡ kept_pulled other caller kept what give carry
  pull_same kept (whats.Pull region colour) give carry = refl
  pull_same kept _ give carry = refl

  end_same : (kept : Kept) (ended : Ended) → kept_after_end u caller kept ended ≡ kept_after_end other caller kept ended
  end_same kept (ends.Stood stamp point) = refl
  end_same kept (ends.StampEnd colour) = refl
  end_same kept ends.NoMemory = refl

  module _ (replies : List ReplyLine) (now : Counted) (log : Log) (what : What) where
    found_as : (place : Option ℕ) (f g : List Version) → map (λ (x : Version). x.key) f ≡ map (λ (x : Version). x.key) g
        → IsFoundAt replies (Some f) place → IsFoundAt replies (Some g) place
    found_as None f g same is = is
    found_as (Some place) f g same is = (is.0, is.1, subst (λ (keys : List (List ℕ)). ShowsKeys keys is.0.answer) same is.2)

    read_as : (k : Kept) (object : ℕ) (f g : List Version) → map (λ (x : Version). x.key) f ≡ map (λ (x : Version). x.key) g
        → IsCounted replies (with_read k object (Some f)) now → IsCounted replies (with_read k object (Some g)) now
    read_as k object f g same is = record {
      floor = is.floor;
      starts = is.starts;
      seen = is.seen;
      known = is.known;
      made = is.made;
      ids = is.ids;
      rows = is.rows;
      reads = λ n lt. by n (n == object) (is.reads n lt);
    } where
      by : (n : ℕ) (b : Bool) → IsFoundAt replies (cond b (Some f) (k.reads n)) (read_at now n)
          → IsFoundAt replies (cond b (Some g) (k.reads n)) (read_at now n)
      by n true i = found_as (read_at now n) f g same i
      by n false i = i

    by_use : (how : Use) (k : Kept) (f g : List Version) → map (λ (x : Version). x.key) f ≡ map (λ (x : Version). x.key) g
        → IsCounted replies (behind_by how (with_found how f k)) now → IsCounted replies (behind_by how (with_found how g k)) now
    by_use (OfObject object Takes) k f g same is = read_as k object f g same is
    by_use (OfObject object UsesUp) k f g same is = is
    by_use (OfObject object Leaves) k f g same is = is
    by_use (OfLog stops) k f g same is = is

    turned : (a b : Kept) → a ≡ b → IsCounted replies (kept_behind what a) now → IsCounted replies (kept_behind what b) now
    turned a b same = subst (λ (k : Kept). IsCounted replies (kept_behind what k) now) same

    -- whatever a read found of the same keys
    pub counted_finding : (kept : Kept) (answer : Answer) → AreKeysFound u.found answer → AreKeysFound v answer
        → IsCounted replies (kept_behind what (kept_told log u caller kept what answer)) now
        → IsCounted replies (kept_behind what (kept_told log other caller kept what answer)) now
    counted_finding kept (answers.GotKeys stamp shown raises syncs) one two is =
        by_use (use_of what) (kept_after_read log caller kept stamp raises syncs) u.found v (one ∙ sym two) is
    counted_finding kept (answers.Stood stamp row points) one two is = turned _ _ (append_same kept stamp row points) is
    counted_finding kept (answers.Stopped steps) one two is = turned _ _ (stop_same kept steps) is
    counted_finding kept (answers.Pulled count give carry) one two is = turned _ _ (pull_same kept what give carry) is
    counted_finding kept (answers.Ruled conflict stamp row points read_stamp raises syncs) one two is =
        turned _ _ (ap (λ (k : Kept). kept_after_read log caller k read_stamp raises syncs)
        (append_same kept (stamp_told log caller kept row points) row points)) is
    counted_finding kept (answers.Changed failed stamp row points read_stamp raises syncs) one two is =
        turned _ _ (ap (λ (k : Kept). kept_after_read log caller k read_stamp raises syncs)
        (append_same kept (stamp_told log caller kept row points) row points)) is
    counted_finding kept (answers.Decided commits stamp sync read_stamp raises syncs ended) one two is =
        turned _ _ (end_same (kept_deciding log caller kept sync read_stamp raises syncs) ended) is
    counted_finding kept _ one two is = is

-- FROM STEP TO STEP

-- the keys of what is found are those that the reply shows
keys_at : (found : ℕ → List Version) (rs : List ReplyLine) (k : ℕ) (r : ReplyLine) → FindKeys found rs → slice_get rs k ≡ Some r
    → AreKeysFound (found k) r.answer
keys_at found [] k r keys at = absurd (let f : ⊥ = cc (at) in f)
keys_at found (x ∷ xs) zero r keys at = subst (λ (y : ReplyLine). AreKeysFound (found 0) y.answer) (same_some at) keys.0
keys_at found (x ∷ xs) (suc k) r keys at = keys_at (λ n. found (suc n)) xs k r keys.1 at

module _ (report : Report) (found : ℕ → ℕ → List Version) (keys : FindsKeys report found) (client : ℕ) where
  pub found_keys : FindKeys (found client) (replies_to report client)
  found_keys = by (slice_get report.clients client) refl where
    by : (o : Option ClientReport) → slice_get report.clients client ≡ o → FindKeys (found client) (replies_in o)
    by None e = tt
    by (Some c) e = keys client c e

pub command_within : (script : Script) → IsFitting script → (client place : ℕ) (command : Command)
    → slice_get (commands_of script client) place ≡ Some command → IsWithin script.shape.regions script.shape.colours command.what
command_within script fits client place command at =
    All-contains (λ (d : Command). IsWithin script.shape.regions script.shape.colours d.what) script.commands command fits.commands
    (contains_in script.commands command
    (in_filter (λ (d : Command). d.client == client) command script.commands (slice_in (commands_of script client) place command at)).0)

-- the pairs of the command in the place of a commit are its own
pub written_at : (commands : List Command) (command : Command) (place : ℕ) → slice_get commands place ≡ Some command
    → (used : Option Used) → IfSome used (λ u. u.commit ≡ place)
    → IfSome used (λ u. pairs_at commands u.commit ≡ pairs_written command.what)
written_at commands command place at None is = tt
written_at commands command place at (Some u) is = ap (pairs_at commands) is ∙ ap pairs_in at

module _ (decision : Decision) (log : Log) (caller : Caller) (kept : Kept) (what : What) where
  -- the node is made when it is appended
  pub told_is : (answer : Answer) → node_appended decision caller (kept_appending log caller kept answer) what answer
      ≡ node_told decision log caller kept what answer
  told_is (answers.Stood stamp row points) = refl
  told_is (answers.StampEnd colour) = refl
  told_is (answers.Stopped zero) = refl
  told_is (answers.Stopped (suc steps)) =
      if_true (not (suc steps == 0)) (node_asked decision caller kept what) [] (ap not (ne_eqb (suc steps) 0 (λ e. omega (arith, e))))
  told_is (answers.Ruled conflict stamp row points read_stamp raises syncs) = refl
  told_is (answers.Changed failed stamp row points read_stamp raises syncs) = refl
  told_is (answers.Took value point sync) = refl
  told_is (answers.Decided commits stamp sync read_stamp raises syncs (ends.Stood s point)) = refl
  told_is (answers.Decided commits stamp sync read_stamp raises syncs (ends.StampEnd colour)) = refl
  told_is (answers.Decided commits stamp sync read_stamp raises syncs ends.NoMemory) = refl
  told_is _ = refl

  -- what a commit uses up is what it is before the command
  pub used_same : (answer : Answer) → found_by (use_of what) (kept_appending log caller (kept_before what kept) answer)
      ≡ found_by (use_of what) kept
  used_same (answers.Decided commits stamp sync read_stamp raises syncs ended) =
      found_same (use_of what) (kept_before what kept) (kept_deciding log caller (kept_before what kept) sync read_stamp raises syncs)
      (deciding_uses log caller (kept_before what kept) sync read_stamp raises syncs).reads
      ∙ found_before (use_of what) kept
  used_same _ = found_before (use_of what) kept

module _ (walked : Walked) (client place : ℕ) (found : ℕ → List Version) (decision : Decision) (kept : Kept) (command : Command)
    (reply : ReplyLine) where
  abbrev log : Log
  log = log_walked walked

  abbrev caller : Caller
  caller = caller_of walked.script client

  abbrev shown : ℕ → ℕ → List ℕ
  shown = places_printed walked client

  abbrev replies : List ReplyLine
  replies = replies_to walked.report client

  abbrev what : What
  what = command.what

  abbrev answer : Answer
  answer = reply.answer

  abbrev before : Kept
  before = kept_before what kept

  -- what is left out of the reply, but for what its read found
  abbrev pub left_out : Untold
  left_out = untold_told log caller shown before what answer

  pub on : (made : Option Draft) (now : Counted) (table : List (Option ℕ)) → slice_get replies place ≡ Some reply → FindKeys found replies
      → SaysDraft (commands_of walked.script client) found decision caller (kept_appending log caller before answer) what answer made
      → IsCounted replies (kept_behind what (kept_told log left_out caller before what answer)) now
      → AreFoundAt found (kept_past log caller (step_finding log caller shown (found place) kept command reply)).reads table
      → StepsOn walked client place found decision kept made now table command reply
  on made now table at keys is counted reads = record {
    node = is ∙ told_is decision log caller before what answer;
    behind = record {
      counted = counted_finding left_out (found place) caller replies now log what before answer (keys_unnamed answer)
          (keys_at found replies place reply keys at) counted;
      reads = reads;
    };
  }
