-- What holds of the state after each command.
use Rattle.std.proofs.Common.{◌≡◌, ◌≢◌, ◌⊎◌, inl, inr, ℕ, ◌+◌, ◌^◌, ◌<◌, ◌≤◌, List, [], ◌∷◌, ◌++◌, length, Some, true, refl, ap, sym, subst, ◌∙◌, arith, eq-eqb}
use Rattle.std.specs.Prelude.{IsTrue, nat_lt, slice_index, ◌==◌}
use Rattle.std.specs.List.{All}
use Rattle.std.proofs.lemmas.Bool.{eqb-true, ltb-true}
use Rattle.log_node.specs.declared.ids.Row.{Row}
use Rattle.log_node.specs.declared.node.Shape.{Shape}
use Rattle.log_node.specs.declared.forms.Version.{Version}
use Rattle.log_node.specs.Seen.{PlacedNode}
use Rattle.log_node.specs.declared.limits.TheConstants.{MAX_COLOURS, MAX_CLIENTS}
use Rattle.object_form.specs.Forms.{AreVersions}
use Rattle.col_core.specs.declared.Entry.{Entry}
use Rattle.col_core.specs.Log.{Log}
use Rattle.col_core.specs.Keeping.{Kept, nothing_kept, updated}
use Rattle.col_core.proofs.CallerLemmas.{by_test, apart, In}
use Rattle.world_laws.specs.Worlds.{World, home_of}
use Rattle.world_laws.specs.Laws.{IsReached, log_of}
use Rattle.world_laws.proofs.CallerLemmas.{at_updated, updated-here, in_append, in_left, in_right, opened_reached}
use Rattle.world_laws.proofs.CallerLemmas.{run_reached}
use Rattle.script_text.specs.declared.script.Object.{Object}
use Rattle.script_text.specs.declared.commands.What.TheVariants as whats
use Rattle.script_text.specs.declared.script.Command.{Command}
use Rattle.script_text.specs.declared.script.Script.{Script}
use Rattle.script_text.specs.Items.{is_stop}
use Rattle.script_text.specs.Commands.{word_of}
use Rattle.script_text.specs.Fitting.{IsWithin, IsKindWithin, UsesObject}
use Rattle.report_text.specs.declared.report.Answer.{Answer}
use Rattle.report_text.specs.declared.report.Answer.TheVariants as answers
use Rattle.report_text.specs.declared.report.ReplyLine.{ReplyLine}
use Rattle.lawful_run.specs.Callers.{Caller, caller_of}
use Rattle.lawful_run.specs.Asks.{may_help, home_asked}
use Rattle.lawful_run.specs.Deeds.{manner_of}
use Rattle.lawful_run.specs.Refusals.{IsAway, IsHomeRefusal, kept_before, kept_behind}
use Rattle.lawful_run.specs.Explains.{Explains, Answers, Explained, start, next}
use Rattle.lawful_run.specs.Lawful.{IsHelp}
use Rattle.lawful_run.proofs.CallerLemmas.{explained_later, explained_ids}
use Rattle.script_meaning.specs.States.{State, LastReads, reads_left, opening, answered}
use Rattle.script_meaning.proofs.World.Additions.{adds_map}
use Rattle.script_meaning.proofs.World.Reached.{held_of}
use Rattle.script_meaning.proofs.World.Rows.{IsDone}
use Rattle.script_meaning.proofs.World.StaysComplete.{OfDone, of_done_stays}
use Rattle.script_meaning.proofs.World.Clearing.{Finished}
use Rattle.script_meaning.proofs.Client.Kept.{caller_in, IsKeptBy, MadeBy, Does, later_log, kept_beside}
use Rattle.script_meaning.proofs.Client.ReadsLeft.{DoesOver, LeavesReads, FindsNone, over_reads, over_any, behind_kept, left_before}
use Rattle.script_meaning.proofs.Lists.{asked_by, asked-own, asked-other}

-- Replies

-- a reply line of a command
abbrev pub line_of : Command → Answer → List PlacedNode → ReplyLine
line_of command answer nodes =
    record { line = command.line; word = word_of command.what; answer = answer; nodes = nodes }

-- the answer to a command, where the log explains it
pub answers_so : (log : Log) (caller : Caller) (kept : Kept) (command : Command) (answer : Answer)
    (nodes : List PlacedNode) (after : Kept)
    → (IsAway caller (home_asked caller command.what) → IsHomeRefusal answer)
    → Explains log caller (kept_before command.what kept) command.what answer nodes after
    → Answers log caller kept command (line_of command answer nodes) (kept_behind command.what after)
answers_so log caller kept command answer nodes after away e =
    record { line = refl; word = refl; answered = after; explained = e; after_is = refl; away = away }

-- What holds

-- the client's last command was a stop, which was answered so
pub record IsStopped (commands : List Command) (replies : ℕ → List ReplyLine) (client : ℕ) : Type 0 where
  pub command : Command
  pub there : In command commands
  pub of_client : command.client ≡ client
  pub is_stop : IsTrue (is_stop command.what)
  pub before : List ReplyLine
  pub reply : ReplyLine
  pub last : replies client ≡ before ++ reply ∷ []
  pub steps : ℕ
  pub stopped : reply.answer ≡ answers.Stopped steps

-- the log explains the client's replies, the world has what it keeps, and it keeps these reads
pub record IsExplained (script : Script) (w : World) (client : ℕ) (commands : List Command) (replies : List ReplyLine)
    (found : LastReads) : Type 0 where
  pub kept : Kept
  pub explained : Explained (log_of w) (caller_of script client) commands replies kept
  pub keeps : IsKeptBy w client kept
  pub reads : kept.reads ≡ found

-- the versions of each read are such as the text of a transaction may name
abbrev pub AreFit : LastReads → Type 0
AreFit reads = (object : ℕ) (versions : List Version) → reads object ≡ Some versions → AreVersions versions

-- a help in a column of the region: its maker is of the region and asked a command that may help, and the append that
-- it helps is complete
pub record IsFitHelp (script : Script) (commands : List Command) (w : World) (region : ℕ) (e : Entry) : Type 0 where
  pub command : Command
  pub there : In command (asked_by e.by commands)
  pub may : IsTrue (may_help (manner_of command.what))
  pub home : slice_index script.shape.homes e.by ≡ region
  pub complete : OfDone w e.event

-- each client has appended no more nodes than it has asked commands
abbrev pub AreFew : List Command → World → Type 0
AreFew commands w = (n : ℕ) → (w.clients n).count ≤ length (asked_by n commands)

-- what holds after the first commands
pub record Runs (script : Script) (commands : List Command) (state : State) : Type 0 where
  pub reached : IsReached state.world
  pub shape : state.world.shape ≡ script.shape
  pub clients : (n : ℕ)
      → IsExplained script state.world n (asked_by n commands) (state.replies n) (state.reads n)
  pub versions : (n : ℕ) → AreFit (state.reads n)
  pub makers : (r c : ℕ) (e : Entry) → In e (state.world.histories r c) → e.by < length script.shape.homes
  pub helpers : (r c : ℕ) (e : Entry) → In e (state.world.histories r c) → IsHelp e.by e.event
      → IsFitHelp script commands state.world r e
  pub finished : Finished (IsStopped commands state.replies) state.world

-- a command of a client of the script that has not stopped; what follows where the client is away from its object's
-- home, and where the command is a read of an object
pub record IsFitWhere (script : Script) (commands : List Command) (command : Command) (Away Read : Type 0) :
    Type 0 where
  pub caller : command.client < length script.shape.homes
  pub home : slice_index script.shape.homes command.client < script.shape.regions
  pub few : script.shape.regions ≤ 4
  pub within : IsWithin script.shape.regions script.shape.colours command.what
  pub going : (c : Command) → In c commands → c.client ≡ command.client → IsTrue (is_stop c.what) → ⊥
  pub uses : UsesObject script.objects command.what
  pub kinds : All (λ (o : Object). IsKindWithin script.shape.regions script.shape.colours o.kind) script.objects
  pub few_colours : script.shape.colours ≤ MAX_COLOURS
  pub few_clients : length script.shape.homes ≤ MAX_CLIENTS
  pub callers : (c : Command) → In c commands → c.client < length script.shape.homes
  pub short : length commands + 1 < 2 ^ 15
  pub away : IsAway (caller_of script command.client) (home_asked (caller_of script command.client) command.what) → Away
  pub read : (object : ℕ) (asked : List (List ℕ)) → command.what ≡ whats.Read object asked → Read

-- the client is not away, and the command is no read of an object
abbrev pub IsFit : Script → List Command → Command → Type 0
IsFit script commands command = IsFitWhere script commands command ⊥ ⊥

pub runs_opening : (script : Script) → Runs script [] (opening script)
runs_opening script = record {
  reached = opened_reached script.shape;
  shape = refl;
  clients = λ n. record {
    kept = nothing_kept;
    explained = start;
    keeps = record {
      floor = refl;
      starts = refl;
      seen = λ r c. omega arith;
      known = λ c. omega arith;
      made = λ r c. refl;
      ids = refl;
      rows = refl;
    };
    reads = refl;
  };
  versions = λ n object versions e. absurd (let f : ⊥ = cc in f);
  makers = λ r c e i. absurd i;
  helpers = λ r c e i h. absurd i;
  finished = λ row b. absurd (none row.number b);
} where
  none : (n : ℕ) → nat_lt n 0 ≡ true → ⊥
  none n b = let x = ltb-true n 0 b in omega (arith, x)

module _ (script : Script) (commands : List Command) (state : State) (command : Command)
    (runs : Runs script commands state) {Away Read : Type 0}
    (fit : IsFitWhere script commands command Away Read) where
  abbrev u : ℕ
  u = command.client

  abbrev w : World
  w = state.world

  -- the client has not stopped
  pub free : IsStopped commands state.replies u → ⊥
  free s = fit.going s.command s.there s.of_client s.is_stop

  pub caller_is : (n : ℕ) → caller_in w script.objects n ≡ caller_of script n
  caller_is n = ap (λ (s : Shape). of_shape s) runs.shape where
    of_shape : Shape → Caller
    of_shape s = record {
      client = n;
      own = slice_index s.homes n;
      regions = s.regions;
      rows = s.rows;
      objects = script.objects;
    }

  module _ (w' : World) (answer : Answer) (nodes : List PlacedNode) (left : LastReads)
      (does : DoesOver script.objects u command.what w w' answer nodes (state.reads u) left)
      (fit_left : AreFew (commands ++ command ∷ []) w' → AreFit left)
      (refusal : Away → IsHomeRefusal answer) where
    abbrev state' : State
    state' = record (answered state command w' answer nodes) { reads = updated state.reads u left }

    reached' : IsReached w'
    reached' = subst IsReached does.run (run_reached w does.steps runs.reached)

    abbrev commands' : List Command
    commands' = commands ++ command ∷ []

    abbrev replies' : List ReplyLine
    replies' = state.replies u ++ line_of command answer nodes ∷ []

    -- the client's own part
    own_after : IsExplained script w' u (asked_by u commands') replies' left
    own_after =
        let c = runs.clients u in
        let d = does.keeps c.kept c.keeps c.reads in
        let later = later_log w w' does.steps runs.reached does.run in
        let called : caller_in w' script.objects u ≡ caller_of script u =
        ap (λ (s : Shape). of_shape s) does.shape ∙ caller_is u in
        record {
          kept = kept_behind command.what d.after;
          explained = subst (λ (cs : List Command). Explained (log_of w') (caller_of script u) cs replies'
              (kept_behind command.what d.after))
              (sym (asked-own u commands command refl))
              (next command (line_of command answer nodes)
              (explained_later (log_of w) (log_of w') later (caller_of script u) c.explained)
              (answers_so (log_of w') (caller_of script u) c.kept command answer nodes d.after
              (λ a. refusal (fit.away a))
              (subst (λ (x : Caller). Explains
              (log_of w') x (kept_before command.what c.kept) command.what answer nodes d.after) called d.explains)));
          keeps = behind_kept w' u command.what d.after d.keeps;
          reads = d.reads;
        } where
          of_shape : Shape → Caller
          of_shape s = record {
            client = u;
            own = slice_index s.homes u;
            regions = s.regions;
            rows = s.rows;
            objects = script.objects;
          }

    -- another client's part
    other_after : (n : ℕ) → n ≢ u → IsExplained script w' n (asked_by n commands') (state.replies n) (state.reads n)
    other_after n ne =
        let c = runs.clients n in
        record {
          kept = c.kept;
          explained = subst (λ (cs : List Command). Explained (log_of w') (caller_of script n) cs
              (state.replies n) c.kept)
              (sym (asked-other n commands command (λ e. ne (sym e))))
              (explained_later (log_of w) (log_of w') (later_log w w' does.steps runs.reached does.run)
              (caller_of script n) c.explained);
          keeps = kept_beside u w w' does.steps runs.reached does.run does.shape does.others
              (λ r d. adds_map (MadeBy u command.what w' (home_of w u) r) (λ (e : Entry). e.by ≡ u) (w.histories r d)
              (w'.histories r d) (λ e m. m.made) (does.adds r d))
              n ne c.kept c.keeps;
          reads = c.reads;
        }

    clients_after : (n : ℕ) → IsExplained script w' n (asked_by n commands') (state'.replies n) (state'.reads n)
    clients_after n =
        at_updated (λ (rs : List ReplyLine). IsExplained script w' n (asked_by n commands') rs (state'.reads n))
        state.replies u replies' n
        (λ e. at_updated (λ (x : LastReads). IsExplained script w' n (asked_by n commands') replies' x) state.reads u left n
        (λ _. subst (λ (k : ℕ). IsExplained script w' k (asked_by k commands') replies' left) (sym e) own_after)
        (λ f. absurd (apart (n == u) (eq-eqb n u e) f)))
        (λ f. at_updated (λ (x : LastReads). IsExplained script w' n (asked_by n commands') (state.replies n) x)
        state.reads u left n (λ e. absurd (apart (n == u) (eq-eqb n u e) f))
        (λ _. other_after n (λ e. apart (n == u) (eq-eqb n u e) f)))

    few_after : AreFew commands' w'
    few_after n =
        let c = clients_after n in
        let few = explained_ids c.explained in
        let same = c.keeps.ids in
        omega (arith, few, same)

    versions_after : (n : ℕ) → AreFit (state'.reads n)
    versions_after n = at_updated AreFit state.reads u left n (λ _. fit_left few_after) (λ _. runs.versions n)

    in_history : (r c : ℕ) (e : Entry) → In e (w'.histories r c)
        → In e (w.histories r c) ⊎ MadeBy u command.what w' (home_of w u) r e
    in_history r c e i =
        let a = does.adds r c in
        turn (in_append e (w.histories r c) a.more (subst (λ (h : List Entry). In e h) a.is i)) where
          turn : In e (w.histories r c) ⊎ In e (does.adds r c).more
              → In e (w.histories r c) ⊎ MadeBy u command.what w' (home_of w u) r e
          turn (inl j) = inl j
          turn (inr j) = inr ((does.adds r c).each e j)

    makers_after : (r c : ℕ) (e : Entry) → In e (w'.histories r c) → e.by < length script.shape.homes
    makers_after r c e i = turn (in_history r c e i) where
      turn : In e (w.histories r c) ⊎ MadeBy u command.what w' (home_of w u) r e → e.by < length script.shape.homes
      turn (inl j) = runs.makers r c e j
      turn (inr m) = subst (λ (n : ℕ). n < length script.shape.homes) (sym m.made) fit.caller

    helpers_after : (r c : ℕ) (e : Entry) → In e (w'.histories r c) → IsHelp e.by e.event
        → IsFitHelp script commands' w' r e
    helpers_after r c e i h = turn (in_history r c e i) where
      asked_more : (n : ℕ) (d : Command) → In d (asked_by n commands) → In d (asked_by n commands')
      asked_more n d j =
          by_test _ (u == n)
          (λ t. subst (λ (l : List Command). In d l) (sym (asked-own n commands command (eqb-true u n t)))
          (in_left d (asked_by n commands) (command ∷ []) j))
          (λ f. subst (λ (l : List Command). In d l)
          (sym (asked-other n commands command (λ e. apart (u == n) (eq-eqb u n e) f))) j)

      turn : In e (w.histories r c) ⊎ MadeBy u command.what w' (home_of w u) r e → IsFitHelp script commands' w' r e
      turn (inl j) =
          let m = runs.helpers r c e j h in
          record {
            command = m.command;
            there = asked_more e.by m.command m.there;
            may = m.may;
            home = m.home;
            complete = of_done_stays w w' (held_of w runs.reached) does.steps does.run e.event m.complete;
          }
      turn (inr m) =
          let k = m.help (subst (λ (n : ℕ). IsHelp n e.event) m.made h) in
          record {
            command = command;
            there = subst (λ (l : List Command). In command l) (sym (asked-own e.by commands command (sym m.made)))
                (in_right command (asked_by e.by commands) (command ∷ []) (inl refl));
            may = k.may;
            home = ap (slice_index script.shape.homes) m.made
                ∙ (ap (λ (s : Shape). slice_index s.homes u) (sym runs.shape) ∙ sym k.home);
            complete = k.complete;
          }

    -- who stopped before has stopped still
    stopped_still : (n : ℕ) → IsStopped commands state.replies n → IsStopped commands' state'.replies n
    stopped_still n s = record {
      command = s.command;
      there = in_left s.command commands (command ∷ []) s.there;
      of_client = s.of_client;
      is_stop = s.is_stop;
      before = s.before;
      reply = s.reply;
      last = at_updated (λ (rs : List ReplyLine). rs ≡ s.before ++ s.reply ∷ []) state.replies u replies' n
          (λ e. absurd (fit.going s.command s.there (s.of_client ∙ e) s.is_stop)) (λ _. s.last);
      steps = s.steps;
      stopped = s.stopped;
    }

    finished_still : Finished (IsStopped commands state.replies) w' → Finished (IsStopped commands' state'.replies) w'
    finished_still f row b = turn (f row b) where
      turn : IsStopped commands state.replies row.client ⊎ IsDone w' row
          → IsStopped commands' state'.replies row.client ⊎ IsDone w' row
      turn (inl s) = inl (stopped_still row.client s)
      turn (inr d) = inr d

    pub runs_next : Finished (IsStopped commands' state'.replies) w' → Runs script commands' state'
    runs_next f = record {
      reached = reached';
      shape = does.shape ∙ runs.shape;
      clients = clients_after;
      versions = versions_after;
      makers = makers_after;
      helpers = helpers_after;
      finished = f;
    }

    -- where no row is left open that was done
    pub runs_over : Finished (IsStopped commands state.replies) w' → Runs script commands' state'
    runs_over f = runs_next (finished_still f)

    -- where the client stopped, its own rows may be left open
    pub runs_stopped_so : (steps : ℕ) → answer ≡ answers.Stopped steps → IsTrue (is_stop command.what)
        → Finished (λ n. IsStopped commands state.replies n ⊎ (n ≡ u)) w' → Runs script commands' state'
    runs_stopped_so steps is stop f = runs_next (λ row b. turn row (f row b)) where
      now : IsStopped commands' state'.replies u
      now = record {
        command = command;
        there = in_right command commands (command ∷ []) (inl refl);
        of_client = refl;
        is_stop = stop;
        before = state.replies u;
        reply = line_of command answer nodes;
        last = updated-here state.replies u replies';
        steps = steps;
        stopped = is;
      }

      turn : (row : Row) → (IsStopped commands state.replies row.client ⊎ (row.client ≡ u)) ⊎ IsDone w' row
          → IsStopped commands' state'.replies row.client ⊎ IsDone w' row
      turn row (inl (inl s)) = inl (stopped_still row.client s)
      turn row (inl (inr e)) = inl (subst (IsStopped commands' state'.replies) (sym e) now)
      turn row (inr d) = inr d

  fit_left : (w' : World) → AreFew (commands ++ command ∷ []) w' → AreFit (reads_left command.what (state.reads u))
  fit_left w' few object versions e = runs.versions u object versions (left_before command.what (state.reads u) object versions e)

  -- a command that found nothing
  pub runs_answered : (w' : World) (answer : Answer) (nodes : List PlacedNode) → FindsNone command.what answer
      → Does script.objects u command.what w w' answer nodes → (Away → IsHomeRefusal answer)
      → Finished (IsStopped commands state.replies) w'
      → Runs script (commands ++ command ∷ []) (answered state command w' answer nodes)
  runs_answered w' answer nodes none does refusal =
      runs_over w' answer nodes (reads_left command.what (state.reads u))
      (over_any script.objects u command.what w w' answer nodes (state.reads u) none does) (fit_left w') refusal

  -- one that may rest on the reads that are kept
  pub runs_left : (w' : World) (answer : Answer) (nodes : List PlacedNode) → FindsNone command.what answer
      → LeavesReads script.objects u command.what w w' answer nodes (state.reads u) → (Away → IsHomeRefusal answer)
      → Finished (IsStopped commands state.replies) w'
      → Runs script (commands ++ command ∷ []) (answered state command w' answer nodes)
  runs_left w' answer nodes none does refusal =
      runs_over w' answer nodes (reads_left command.what (state.reads u))
      (over_reads script.objects u command.what w w' answer nodes (state.reads u) none does) (fit_left w') refusal

-- the same of a client that is not away
module _ (script : Script) (commands : List Command) (state : State) (command : Command)
    (runs : Runs script commands state) (fit : IsFit script commands command) (w' : World) (answer : Answer)
    (nodes : List PlacedNode) (does : Does script.objects command.client command.what state.world w' answer nodes) where
  pub runs_done : Finished (IsStopped commands state.replies) w'
      → Runs script (commands ++ command ∷ []) (answered state command w' answer nodes)
  runs_done = runs_answered script commands state command runs fit w' answer nodes (inl fit.read) does (λ a. absurd a)

  pub runs_stopped : (steps : ℕ) → answer ≡ answers.Stopped steps → IsTrue (is_stop command.what)
      → Finished (λ n. IsStopped commands state.replies n ⊎ (n ≡ command.client)) w'
      → Runs script (commands ++ command ∷ []) (answered state command w' answer nodes)
  runs_stopped = runs_stopped_so script commands state command runs fit w' answer nodes
      (reads_left command.what (state.reads command.client))
      (over_any script.objects command.client command.what state.world w' answer nodes (state.reads command.client)
      (inl fit.read) does)
      (λ few object versions e. runs.versions command.client object versions
      (left_before command.what (state.reads command.client) object versions e)) (λ a. absurd a)
