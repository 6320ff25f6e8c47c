-- Each kind of command: steps lead to the state behind it, and where it finds memory it does what it does with memory granted
-- everywhere.
use Rattle.std.proofs.Common.{◌≡◌, inl, ℕ, zero, suc, cond, List, [], ◌∷◌, ◌++◌, length, map, take, Option, Some, None, Bool, true, false, refl, ap, sym, subst, ◌∙◌}
use Rattle.std.specs.Prelude.{◌==◌}
use Rattle.log_node.specs.declared.ids.Key.{Key}
use Rattle.log_node.specs.declared.ids.Row.{Row}
use Rattle.log_node.specs.declared.ids.Colours.{Colours}
use Rattle.log_node.specs.Seen.{PlacedNode}
use Rattle.log_node.specs.Sets.{members}
use Rattle.log_node.specs.declared.forms.Pair.{Pair}
use Rattle.log_node.specs.declared.forms.Version.{Version}
use Rattle.log_node.specs.declared.forms.Form.TheVariants as forms
use Rattle.object_form.specs.Forms.{form_text}
use Rattle.log_node.specs.declared.marks.Why.TheVariants.{Memory, StampEnd}
use Rattle.log_node.specs.declared.marks.Outcome.{Outcome}
use Rattle.log_node.specs.declared.marks.Outcome.TheVariants.{Open, Gone, Final}
use Rattle.tree_fold.specs.declared.change.Change.{Change}
use Rattle.tree_fold.specs.Changes.{change_text, change_keys}
use Rattle.col_core.specs.History.{entry_key, entries, open_count, line}
use Rattle.col_core.proofs.CallerLemmas.{choice, In}
use Rattle.world_laws.specs.declared.steps.Step.TheVariants.{Begin, Single, Give, Carry, Trim, Play, Seen}
use Rattle.world_laws.specs.Worlds.{World, home_of, home_history, held_of, after, run_steps, row_of, next_id, next_row, may_single, single_stamp, may_play}
use Rattle.world_laws.proofs.CallerLemmas.{at_updated, updated-here, in_left, in_right}
use Rattle.script_text.specs.declared.script.Kind.{Kind}
use Rattle.script_text.specs.declared.script.Kind.TheVariants as kinds
use Rattle.script_text.specs.declared.script.Object.{Object}
use Rattle.script_text.specs.declared.script.Command.{Command}
use Rattle.report_text.specs.declared.report.Answer.{Answer}
use Rattle.report_text.specs.declared.report.Answer.TheVariants as answers
use Rattle.report_text.specs.declared.report.PointPiece.{PointPiece}
use Rattle.report_text.specs.declared.report.RaisePiece.{RaisePiece}
use Rattle.report_text.specs.declared.report.SyncPiece.{SyncPiece}
use Rattle.report_text.specs.declared.report.ReplyLine.{ReplyLine}
use Rattle.object_fold.specs.Nodes.{shard_of}
use Rattle.object_fold.specs.Queues.{front_after}
use Rattle.object_fold.specs.Transactions.{value_of, writes_after}
use Rattle.part_fold.specs.Parts.{part_value, undecided_after}
use Rattle.script_meaning.specs.States.{State, Grants, all_granted, answered}
use Rattle.script_meaning.specs.Helping.{all_cleared}
use Rattle.script_meaning.specs.Appends.{with_single, Continuation, answered_stood, appended_by_so, appended_so, appended, stopped, has_no_row_left, append_steps, ended_colour, point_in}
use Rattle.script_meaning.specs.Moves.{nodes_unplayed, synced, lacking, with_give, with_carry, pulled_from, pulled, trimmed}
use Rattle.script_meaning.specs.Stamped.{ReadEnd, Whole, Refused, Unraised, StampedRead, stamped_read, ended_so, ended_by}
use Rattle.script_meaning.proofs.Run.GrantedReads.{IsRaised, read_runs, read_exact}
use Rattle.script_meaning.proofs.Move.MoveCases.{play_answer, trimmed_answer, pull_answer, with_trim, base_answer, played, refused, stayed, carried, given, from_all}
use Rattle.lawful_run.specs.Callers.{Caller}
use Rattle.lawful_run.specs.Asks.{colours_of_object, keys_of_pairs}
use Rattle.script_meaning.specs.Objects.{caller_in, shard_set}
use Rattle.script_meaning.specs.Dequeues.{object_node_at, first_nodes, sync_now, base_now, dequeued_at, dequeued_from}
use Rattle.script_meaning.specs.Gets.{value_now, got, key_answers}
use Rattle.script_meaning.specs.Telling.{ReadAnswer, all_colours, appended_and_told, answered_by_read, told_behind}
use Rattle.script_meaning.specs.Transactions.{keys_answered, read_in, verdict_tells, version_keys, committed_by}
use Rattle.script_meaning.specs.Guards.{has_moved, appended_next}
use Rattle.script_meaning.specs.Trees.{change_tells, changed}
use Rattle.script_meaning.specs.CausalGets.{causal_values, nodes_up_to_cut}
use Rattle.script_meaning.specs.Parts.{part_of, nodes_now, peek_answer}
use Rattle.script_meaning.specs.Meaning.{TellsNoWant}
use Rattle.script_meaning.proofs.Run.GrantedSteps.{IsClean, RunsTo, stays_there, runs_on, clean_from, complete_exact, taken_exact, clears_run, clears_exact}
use Rattle.script_meaning.proofs.Run.Invariant.{line_of}

-- some steps lead from a world to the state, and replies are kept
pub record GoesOn (from : World) (old new : State) : Type 0 where
  pub world : RunsTo from new.world
  pub replies : (n : ℕ) (r : ReplyLine) → In r (old.replies n) → In r (new.replies n)

-- the same from the world of the old state
abbrev pub Extends : State → State → Type 0
Extends old new = GoesOn old.world old new

pub goes_before : {old new : State} (w v : World) → RunsTo w v → GoesOn v old new → GoesOn w old new
goes_before {old} {new} w v r more = record { world = runs_on w v new.world r more.world; replies = more.replies }

pub answer_goes : (state : State) (command : Command) (w' : World) (answer : Answer) (nodes : List PlacedNode) {v : World}
    → RunsTo v w' → GoesOn v state (answered state command w' answer nodes)
answer_goes state command w' answer nodes r = record {
  world = r;
  replies = λ n x i. at_updated (λ (l : List ReplyLine). In x l) state.replies command.client
      (state.replies command.client ++ line_of command answer nodes ∷ []) n
      (λ e. in_left x (state.replies command.client) (line_of command answer nodes ∷ [])
      (subst (λ (k : ℕ). In x (state.replies k)) e i))
      (λ _. i);
}

-- no fence and no reply to the client tells of want of memory
pub record HadMemory (client : ℕ) (state : State) : Type 0 where
  pub clean : IsClean state.world
  pub tells : (r : ReplyLine) → In r (state.replies client) → TellsNoWant r.answer

-- by a test that is made with memory granted everywhere too
pub by_sides : {client : ℕ} (b : Bool) (x y x' y' : State) → (HadMemory client x → x ≡ x') → (HadMemory client y → y ≡ y')
    → HadMemory client (cond b x y) → cond b x y ≡ cond b x' y'
by_sides true x y x' y' f g had = f had
by_sides false x y x' y' f g had = g had

-- by a request for memory, where want of it is told
pub by_grant : {client : ℕ} (b : Bool) (x y x' : State) → (HadMemory client x → x ≡ x') → (HadMemory client y → ⊥)
    → HadMemory client (cond b x y) → cond b x y ≡ x'
by_grant true x y x' f none had = f had
by_grant false x y x' f none had = absurd (none had)

module _ (objects : List Object) (grants : Grants) (state : State) (command : Command) where
  abbrev u : ℕ
  u = command.client

  abbrev w : World
  w = state.world

  abbrev caller : Caller
  caller = caller_in w objects u

  -- the answer, in a world to which steps have led
  pub answers_so : (v : World) (answer : Answer) → GoesOn v state (answered state command v answer [])
  answers_so v answer = answer_goes state command v answer [] (stays_there v)

  -- no want of memory is answered then
  pub told : (v : World) (answer : Answer) → HadMemory u (answered state command v answer []) → TellsNoWant answer
  told v answer had =
      let line = line_of command answer [] in
      had.tells line
      (subst (λ (l : List ReplyLine). In line l) (sym (updated-here state.replies u (state.replies u ++ line ∷ [])))
      (in_right line (state.replies u) (line ∷ []) (inl refl)))

  pub told_so : (v : World) → HadMemory u (answered state command v answers.NoMemory []) → ⊥
  told_so v had = (told v answers.NoMemory had).refused refl

  told_unread : (v : World) (stamp : ℕ) → HadMemory u (answered state command v (answers.UnreadNoMemory stamp) []) → ⊥
  told_unread v stamp had = (told v (answers.UnreadNoMemory stamp) had).unread stamp refl

  -- APPENDS

  pub single_runs : (text : List ℕ) (c : ℕ) → RunsTo w (with_single grants w u text c)
  single_runs text c =
      runs_on w (after w (Single u c text)) (with_single grants w u text c)
      (record { steps = Single u c text ∷ []; run = refl })
      (clears_run grants u (entry_key (single_stamp w u c) (next_id w u)) (c ∷ []) (after w (Single u c text)))

  pub single_exact : (text : List ℕ) (c : ℕ) → IsClean (with_single grants w u text c)
      → with_single grants w u text c ≡ with_single all_granted w u text c
  single_exact text c clean =
      clears_exact grants u (entry_key (single_stamp w u c) (next_id w u)) (c ∷ []) (after w (Single u c text)) clean

  -- whatever follows the append
  module _ (follows full : Continuation)
      (goes : (v : World) (stamp : ℕ) (row : Option ℕ) (points : List PointPiece)
      → GoesOn v state (follows v stamp row points)) where
    by_goes : (v : World) (row : Row) (cs : List ℕ) (last : Outcome)
        → GoesOn v state (appended_by_so grants state command v row cs last follows)
    by_goes v row cs Open = answers_so v answers.NoMemory
    by_goes v row cs (Gone Memory) = answers_so v answers.NoMemory
    by_goes v row cs (Gone StampEnd) = answers_so v (answers.StampEnd (ended_colour v row cs))
    by_goes v row cs (Final f) =
        let v' = all_cleared grants u (entry_key f (next_id w u)) cs (after v (Seen u f)) in
        goes_before v v'
        (runs_on v (after v (Seen u f)) v' (record { steps = Seen u f ∷ []; run = refl })
        (clears_run grants u (entry_key f (next_id w u)) cs (after v (Seen u f))))
        (goes v' f (Some row.number) (map (point_in w v' u (next_id w u)) cs))

    append_so_extends : (colours : Colours) (text ms : List ℕ)
        → Extends state (appended_so grants state command colours text ms follows)
    append_so_extends colours text [] = answers_so w answers.NoMemory
    append_so_extends colours text (c ∷ []) =
        let v = with_single grants w u text c in
        let points = point_in w v u (next_id w u) c ∷ [] in
        choice (Extends state) (may_single w u c) (follows v (single_stamp w u c) None points)
        (answered state command w (answers.StampEnd c) [])
        (λ _. goes_before w v (single_runs text c) (goes v (single_stamp w u c) None points))
        (λ _. answers_so w (answers.StampEnd c))
    append_so_extends colours text (c ∷ d ∷ ms) =
        let v = run_steps w (append_steps grants w u colours text) in
        choice (Extends state) (has_no_row_left w u) (answered state command w (answers.Full (w.clients u).used) [])
        (appended_by_so grants state command v (next_row w u) (members colours) (row_of v (next_row w u)).last follows)
        (λ _. answers_so w (answers.Full (w.clients u).used))
        (λ _. goes_before w v (record { steps = append_steps grants w u colours text; run = refl })
        (by_goes v (next_row w u) (members colours) (row_of v (next_row w u)).last))

    -- where all that follows it is the same
    module _ (same : (v : World) (stamp : ℕ) (row : Option ℕ) (points : List PointPiece)
        → HadMemory u (follows v stamp row points) → follows v stamp row points ≡ full v stamp row points) where
      by_exact : (v : World) (row : Row) (cs : List ℕ) (last : Outcome)
          → HadMemory u (appended_by_so grants state command v row cs last follows)
          → appended_by_so grants state command v row cs last follows
          ≡ appended_by_so all_granted state command v row cs last full
      by_exact v row cs Open had = refl
      by_exact v row cs (Gone Memory) had = refl
      by_exact v row cs (Gone StampEnd) had = refl
      by_exact v row cs (Final f) had =
          let x = all_cleared grants u (entry_key f (next_id w u)) cs (after v (Seen u f)) in
          let points : World → List PointPiece = λ y. map (point_in w y u (next_id w u)) cs in
          same x f (Some row.number) (points x) had
          ∙ ap (λ (y : World). full y f (Some row.number) (points y))
          (clears_exact grants u (entry_key f (next_id w u)) cs (after v (Seen u f))
          (clean_from x _ (goes x f (Some row.number) (points x)).world had.clean))

      append_so_exact : (colours : Colours) (text ms : List ℕ)
          → HadMemory u (appended_so grants state command colours text ms follows)
          → appended_so grants state command colours text ms follows
          ≡ appended_so all_granted state command colours text ms full
      append_so_exact colours text [] had = refl
      append_so_exact colours text (c ∷ []) had =
          let stamp = single_stamp w u c in
          let points : World → List PointPiece = λ x. point_in w x u (next_id w u) c ∷ [] in
          let v = with_single grants w u text c in
          let v' = with_single all_granted w u text c in
          let ended : State = answered state command w (answers.StampEnd c) [] in
          by_sides (may_single w u c) (follows v stamp None (points v)) ended (full v' stamp None (points v')) ended
          (λ stood. same v stamp None (points v) stood
          ∙ ap (λ (x : World). full x stamp None (points x))
          (single_exact text c (clean_from v _ (goes v stamp None (points v)).world stood.clean)))
          (λ _. refl) had
      append_so_exact colours text (c ∷ d ∷ ms) had =
          let row = next_row w u in
          let cs = members colours in
          let refused : State = answered state command w (answers.Full (w.clients u).used) [] in
          let v = run_steps w (append_steps grants w u colours text) in
          let rest : World → State = λ x. appended_by_so all_granted state command x row cs (row_of x row).last full in
          by_sides (has_no_row_left w u) refused
          (appended_by_so grants state command v row cs (row_of v row).last follows) refused
          (rest (run_steps w (append_steps all_granted w u colours text))) (λ _. refl)
          (λ begun. by_exact v row cs (row_of v row).last begun
          ∙ ap rest (complete_exact (after w (Begin u colours text)) u row grants.marks
          (clean_from v _ (by_goes v row cs (row_of v row).last).world begun.clean))) had

  stands : (v : World) (stamp : ℕ) (row : Option ℕ) (points : List PointPiece)
      → GoesOn v state (answered_stood state command v stamp row points)
  stands v stamp row points = answers_so v (answers.Stood stamp row points)

  pub append_extends : (colours : Colours) (text ms : List ℕ)
      → Extends state (appended grants state command colours text ms)
  append_extends = append_so_extends (answered_stood state command) (answered_stood state command) stands

  pub append_exact : (colours : Colours) (text ms : List ℕ) → HadMemory u (appended grants state command colours text ms)
      → appended grants state command colours text ms ≡ appended all_granted state command colours text ms
  append_exact = append_so_exact (answered_stood state command) (answered_stood state command) stands (λ _ _ _ _ _. refl)

  pub only_extends : (c : ℕ) (text : List ℕ) → Extends state (appended_next state command c text)
  only_extends c text =
      let v = after w (Single u c text) in
      let h = home_history w u c in
      let moved = answers.Moved (length (line h)) (open_count (entries h)) c (length h) in
      let stood = answers.Stood (single_stamp w u c) None (point_in w v u (next_id w u) c ∷ []) in
      let ended = answers.StampEnd c in
      choice (Extends state) (has_moved w u c) (answered state command w moved [])
      (cond (may_single w u c) (answered state command v stood []) (answered state command w ended []))
      (λ _. answers_so w moved)
      (λ _. choice (Extends state) (may_single w u c) (answered state command v stood [])
      (answered state command w ended [])
      (λ _. answer_goes state command v stood [] (record { steps = Single u c text ∷ []; run = refl }))
      (λ _. answers_so w ended))

  -- STOPS, AND MOVES OF COLUMNS

  pub stop_extends : (colours : Colours) (text : List ℕ) (n : ℕ) → Extends state
      (stopped grants state command colours text n)
  stop_extends colours text zero = answers_so w (answers.Stopped 0)
  stop_extends colours text (suc n) =
      let steps = take (suc n) (append_steps grants w u colours text) in
      choice (Extends state) (has_no_row_left w u) (answered state command w (answers.Full (w.clients u).used) [])
      (answered state command (run_steps w steps) (answers.Stopped (suc n)) [])
      (λ _. answers_so w (answers.Full (w.clients u).used))
      (λ _. answer_goes state command (run_steps w steps) (answers.Stopped (suc n)) [] (record { steps = steps; run = refl }))

  pub stop_exact : (colours : Colours) (text : List ℕ) (n : ℕ) → HadMemory u (stopped grants state command colours text n)
      → stopped grants state command colours text n ≡ stopped all_granted state command colours text n
  stop_exact colours text zero had = refl
  stop_exact colours text (suc n) had =
      let full : State = answered state command w (answers.Full (w.clients u).used) [] in
      let rest : World → State = λ x. answered state command x (answers.Stopped (suc n)) [] in
      by_sides (has_no_row_left w u) full (rest (run_steps w (take (suc n) (append_steps grants w u colours text)))) full
      (rest (run_steps w (take (suc n) (append_steps all_granted w u colours text)))) (λ _. refl)
      (λ begun. ap rest (taken_exact (after w (Begin u colours text)) u (next_row w u) grants.marks n begun.clean)) had

  pub sync_extends : (c : ℕ) → Extends state (synced state command c)
  sync_extends c =
      choice (Extends state) (may_play w u c) (played grants state command c) (refused grants state command c)
      (λ _. answer_goes state command (after w (Play u c)) (play_answer w u c) (nodes_unplayed w u c)
      (record { steps = Play u c ∷ []; run = refl }))
      (λ _. answers_so w (trimmed_answer w u c))

  pub pull_extends : (region c : ℕ) → Extends state (pulled grants state command region c)
  pull_extends region c =
      let own = home_of w u in
      let have = held_of w region own c in
      let give = Give u region own c have in
      choice (Extends state) (region == own) (stayed grants state command) (pulled_from grants state command region c)
      (λ _. answers_so w answers.SameRegion)
      (λ _. choice (Extends state) grants.carry (carried grants state command region c)
      (given grants state command region c)
      (λ _. answer_goes state command (with_carry w u region c) (pull_answer w u region c) []
      (record { steps = give ∷ Carry u region own c have (lacking w u region c) ∷ []; run = refl }))
      (λ _. answer_goes state command (with_give w u region c) answers.NoMemory []
      (record { steps = give ∷ []; run = refl })))

  pub pull_exact : (region c : ℕ) → HadMemory u (pulled grants state command region c)
      → pulled grants state command region c ≡ pulled all_granted state command region c
  pull_exact region c had =
      by_sides (region == home_of w u) (stayed grants state command) (pulled_from grants state command region c)
      (stayed grants state command) (pulled_from all_granted state command region c) (λ _. refl)
      (by_grant grants.carry (carried grants state command region c) (given grants state command region c)
      (pulled_from all_granted state command region c) (λ _. sym (from_all grants state command region c))
      (told_so (with_give w u region c))) had

  pub trim_extends : (c : ℕ) → Extends state (trimmed state command c)
  trim_extends c =
      answer_goes state command (with_trim w u c) (base_answer w (with_trim w u c) u c) []
      (record { steps = Trim u (home_of w u) c ((w.clients u).played c) ∷ []; run = refl })

  -- STAMPED READS

  -- by how a read ended: a whole one as is said
  module _ (whole : World → ℕ → List RaisePiece → List SyncPiece → List Key → State)
      (goes : (v : World) (stamp : ℕ) (raises : List RaisePiece) (syncs : List SyncPiece) (keys : List Key)
      → GoesOn v state (whole v stamp raises syncs keys)) where
    pub end_goes : (v : World) (ends : ReadEnd) → GoesOn v state (ended_so grants state command (whole v) v ends)
    end_goes v (Whole stamp raises syncs keys) =
        choice (GoesOn v state) grants.items (whole v stamp raises syncs keys)
        (answered state command v answers.NoMemory []) (λ _. goes v stamp raises syncs keys)
        (λ _. answers_so v answers.NoMemory)
    end_goes v (Refused colour base) = answers_so v (answers.Trimmed colour base)
    end_goes v Unraised = answers_so v answers.NoMemory

    end_exact : (v : World) (ends : ReadEnd) → HadMemory u (ended_so grants state command (whole v) v ends)
        → IsRaised ends × (ended_so grants state command (whole v) v ends
        ≡ ended_so all_granted state command (whole v) v ends)
    end_exact v (Whole stamp raises syncs keys) had = (
      tt,
      by_grant grants.items (whole v stamp raises syncs keys) (answered state command v answers.NoMemory [])
          (whole v stamp raises syncs keys) (λ _. refl) (told_so v) had,
    )
    end_exact v (Refused colour base) had = (tt, refl)
    end_exact v Unraised had = absurd (told_so v had)

    read_so_extends : (colours : List ℕ) → let read = stamped_read grants w u colours in
        Extends state (ended_so grants state command (whole read.world) read.world read.ends)
    read_so_extends colours =
        let read = stamped_read grants w u colours in
        goes_before w read.world (read_runs grants w u colours) (end_goes read.world read.ends)

    read_so_exact : (colours : List ℕ)
        → let by = λ (g : Grants) (r : StampedRead). ended_so g state command (whole r.world) r.world r.ends in
        HadMemory u (by grants (stamped_read grants w u colours))
        → by grants (stamped_read grants w u colours) ≡ by all_granted (stamped_read all_granted w u colours)
    read_so_exact colours had =
        let read = stamped_read grants w u colours in
        let ended = end_exact read.world read.ends had in
        ended.1
        ∙ ap (λ (r : StampedRead). ended_so all_granted state command (whole r.world) r.world r.ends)
        (read_exact grants w u colours (clean_from read.world _ (end_goes read.world read.ends).world had.clean) ended.0)

  -- a read that is answered by its keys
  module _ (colours : List ℕ) (answer : World → ℕ → List RaisePiece → List SyncPiece → List Key → Answer)
      (shown : World → List Key → List PlacedNode) where
    abbrev read_by : Grants → State
    read_by g =
        let read = stamped_read g w u colours in
        ended_by g state command (answer read.world) (shown read.world) read.world read.ends

    abbrev whole : World → ℕ → List RaisePiece → List SyncPiece → List Key → State
    whole v stamp raises syncs keys = answered state command v (answer v stamp raises syncs keys) (shown v keys)

    goes : (v : World) (stamp : ℕ) (raises : List RaisePiece) (syncs : List SyncPiece) (keys : List Key)
        → GoesOn v state (whole v stamp raises syncs keys)
    goes v stamp raises syncs keys =
        answer_goes state command v (answer v stamp raises syncs keys) (shown v keys) (stays_there v)

    pub read_extends : Extends state (read_by grants)
    read_extends = read_so_extends whole goes colours

    pub reads_exact : HadMemory u (read_by grants) → read_by grants ≡ read_by all_granted
    reads_exact = read_so_exact whole goes colours

  -- a read that its client keeps
  module _ (object : ℕ) (keys : List (List ℕ)) where
    kept_goes : (v : World) (stamp : ℕ) (raises : List RaisePiece) (syncs : List SyncPiece) (read : List Key)
        → GoesOn v state (keys_answered state command object keys v stamp raises syncs read)
    kept_goes v stamp raises syncs read =
        let nodes = map (object_node_at v) read in
        let e = answers_so v
        (answers.GotKeys stamp (key_answers (value_of (writes_after nodes)) keys) raises syncs) in
        record { world = e.world; replies = e.replies }

    pub kept_extends : Extends state (read_in objects grants state command object keys)
    kept_extends =
        read_so_extends (keys_answered state command object keys) kept_goes (all_colours objects state command object)

    pub kept_exact : HadMemory u (read_in objects grants state command object keys)
        → read_in objects grants state command object keys ≡ read_in objects all_granted state command object keys
    kept_exact =
        read_so_exact (keys_answered state command object keys) kept_goes (all_colours objects state command object)

  -- COMMANDS THAT ARE TOLD BEHIND THEIR APPEND

  -- the grants of a read behind an append
  abbrev behind : Grants
  behind = record grants { helps = grants.read_helps }

  module _ (tells : ReadAnswer) (object : ℕ) where
    abbrev its_colours : List ℕ
    its_colours = all_colours objects state command object

    told_goes : (own : Key) (row : Option ℕ) (points : List PointPiece) (v : World) (ends : ReadEnd)
        → GoesOn v state (answered_by_read tells grants state command own row points v ends)
    told_goes own row points v (Whole at raises syncs keys) =
        let answer = tells v keys own row points at raises syncs in
        choice (GoesOn v state) grants.items (answered state command v answer [])
        (answered state command v (answers.UnreadNoMemory own.stamp) [])
        (λ _. answers_so v answer) (λ _. answers_so v (answers.UnreadNoMemory own.stamp))
    told_goes own row points v (Refused colour base) = answers_so v (answers.UnreadTrimmed own.stamp colour base)
    told_goes own row points v Unraised = answers_so v (answers.UnreadNoMemory own.stamp)

    told_exact : (own : Key) (row : Option ℕ) (points : List PointPiece) (v : World) (ends : ReadEnd)
        → HadMemory u (answered_by_read tells grants state command own row points v ends)
        → IsRaised ends × (answered_by_read tells grants state command own row points v ends
        ≡ answered_by_read tells all_granted state command own row points v ends)
    told_exact own row points v (Whole at raises syncs keys) had =
        let told : State = answered state command v (tells v keys own row points at raises syncs) [] in (
          tt,
          by_grant grants.items told (answered state command v (answers.UnreadNoMemory own.stamp) []) told (λ _. refl)
              (told_unread v own.stamp) had,
        )
    told_exact own row points v (Refused colour base) had = (tt, refl)
    told_exact own row points v Unraised had = absurd (told_unread v own.stamp had)

    behind_goes : (v : World) (stamp : ℕ) (row : Option ℕ) (points : List PointPiece)
        → GoesOn v state (told_behind tells objects grants state command object v stamp row points)
    behind_goes v stamp row points =
        let read = stamped_read behind v u its_colours in
        goes_before v read.world (read_runs behind v u its_colours)
        (told_goes (entry_key stamp (next_id w u)) row points read.world read.ends)

    behind_exact : (v : World) (stamp : ℕ) (row : Option ℕ) (points : List PointPiece)
        → HadMemory u (told_behind tells objects grants state command object v stamp row points)
        → told_behind tells objects grants state command object v stamp row points
        ≡ told_behind tells objects all_granted state command object v stamp row points
    behind_exact v stamp row points had =
        let own = entry_key stamp (next_id w u) in
        let read = stamped_read behind v u its_colours in
        let ended = told_exact own row points read.world read.ends had in
        ended.1
        ∙ ap (λ (r : StampedRead). answered_by_read tells all_granted state command own row points r.world r.ends)
        (read_exact behind v u its_colours
        (clean_from read.world _ (told_goes own row points read.world read.ends).world had.clean) ended.0)

    pub telling_extends : (set : Colours) (text : List ℕ)
        → Extends state (appended_and_told tells objects grants state command object set text)
    telling_extends set text =
        append_so_extends (told_behind tells objects grants state command object)
        (told_behind tells objects all_granted state command object) behind_goes set text (members set)

    telling_exact : (set : Colours) (text : List ℕ)
        → HadMemory u (appended_and_told tells objects grants state command object set text)
        → appended_and_told tells objects grants state command object set text
        ≡ appended_and_told tells objects all_granted state command object set text
    telling_exact set text =
        append_so_exact (told_behind tells objects grants state command object)
        (told_behind tells objects all_granted state command object) behind_goes behind_exact set text (members set)

  pub commit_extends : (object : ℕ) (pairs : List Pair) (found : Option (List Version))
      → Extends state (committed_by objects grants state command object pairs found)
  commit_extends object pairs None = answers_so w answers.NoTx
  commit_extends object pairs (Some versions) =
      telling_extends verdict_tells object (shard_set (colours_of_object caller object) (version_keys versions ++ keys_of_pairs pairs))
      (form_text (forms.Transaction versions pairs))

  pub commit_exact : (object : ℕ) (pairs : List Pair) (found : Option (List Version))
      → HadMemory u (committed_by objects grants state command object pairs found)
      → committed_by objects grants state command object pairs found
      ≡ committed_by objects all_granted state command object pairs found
  commit_exact object pairs None had = refl
  commit_exact object pairs (Some versions) had =
      telling_exact verdict_tells object (shard_set (colours_of_object caller object) (version_keys versions ++ keys_of_pairs pairs))
      (form_text (forms.Transaction versions pairs)) had

  pub changed_extends : (object : ℕ) (change : Option Change) → Extends state (changed objects grants state command object change)
  changed_extends object None = answers_so w answers.NoMemory
  changed_extends object (Some change) =
      telling_extends change_tells object (shard_set (colours_of_object caller object) (change_keys change)) (change_text change)

  pub changed_exact : (object : ℕ) (change : Option Change)
      → HadMemory u (changed objects grants state command object change)
      → changed objects grants state command object change ≡ changed objects all_granted state command object change
  changed_exact object None had = refl
  changed_exact object (Some change) had =
      telling_exact change_tells object (shard_set (colours_of_object caller object) (change_keys change)) (change_text change) had

  -- GETS AND DEQUEUES

  nothing_done : Extends state state
  nothing_done = record { world = stays_there w; replies = λ n r i. i }

  at_goes : (v : World) (stamp : ℕ) (point : PointPiece)
      → GoesOn v state (dequeued_at grants state command v stamp point)
  at_goes v stamp point =
      let v' = after v (Play u point.colour) in
      let plays : RunsTo v v' = record { steps = Play u point.colour ∷ []; run = refl } in
      let answer = answers.Took (front_after (first_nodes v u point.colour point.position)) point
      (sync_now v u point.colour) in
      let base = answers.UnreadTrimmed stamp point.colour (base_now v u point.colour) in
      choice (GoesOn v state) (may_play v u point.colour)
      (cond grants.fold (answered state command v' answer [])
      (answered state command v' (answers.UnreadNoMemory stamp) [])) (answered state command v base [])
      (λ _. choice (GoesOn v state) grants.fold (answered state command v' answer [])
      (answered state command v' (answers.UnreadNoMemory stamp) [])
      (λ _. answer_goes state command v' answer [] plays)
      (λ _. answer_goes state command v' (answers.UnreadNoMemory stamp) [] plays))
      (λ _. answers_so v base)

  at_exact : (v : World) (stamp : ℕ) (point : PointPiece) → HadMemory u (dequeued_at grants state command v stamp point)
      → dequeued_at grants state command v stamp point ≡ dequeued_at all_granted state command v stamp point
  at_exact v stamp point had =
      let v' = after v (Play u point.colour) in
      let took : State = answered state command v' (answers.Took
      (front_after (first_nodes v u point.colour point.position)) point (sync_now v u point.colour)) [] in
      let unread : State = answered state command v' (answers.UnreadNoMemory stamp) [] in
      let base : State = answered state command v
      (answers.UnreadTrimmed stamp point.colour (base_now v u point.colour)) [] in
      by_sides (may_play v u point.colour) (cond grants.fold took unread) base took base
      (by_grant grants.fold took unread took (λ _. refl) (told_unread v' stamp)) (λ _. refl) had

  pub deq_extends : (cs : List ℕ) → Extends state (dequeued_from grants state command cs)
  deq_extends [] = nothing_done
  deq_extends (c ∷ cs) =
      let text = form_text forms.Dequeue in
      let v = with_single grants w u text c in
      let point = point_in w v u (next_id w u) c in
      choice (Extends state) (may_single w u c) (dequeued_at grants state command v (single_stamp w u c) point)
      (answered state command w (answers.StampEnd c) [])
      (λ _. goes_before w v (single_runs text c) (at_goes v (single_stamp w u c) point))
      (λ _. answers_so w (answers.StampEnd c))

  pub deq_exact : (cs : List ℕ) → HadMemory u (dequeued_from grants state command cs)
      → dequeued_from grants state command cs ≡ dequeued_from all_granted state command cs
  deq_exact [] had = refl
  deq_exact (c ∷ cs) had =
      let text = form_text forms.Dequeue in
      let stamp = single_stamp w u c in
      let v = with_single grants w u text c in
      let at : World → State = λ x. dequeued_at all_granted state command x stamp (point_in w x u (next_id w u) c) in
      let point = point_in w v u (next_id w u) c in
      let ended : State = answered state command w (answers.StampEnd c) [] in
      by_sides (may_single w u c) (dequeued_at grants state command v stamp point) ended
      (at (with_single all_granted w u text c)) ended
      (λ stood. at_exact v stamp point stood
      ∙ ap at (single_exact text c (clean_from v _ (at_goes v stamp point).world stood.clean)))
      (λ _. refl) had

  -- a get that syncs a colour
  get_extends : (c : ℕ) (got : Answer) → Extends state
      (cond (may_play w u c) (answered state command (after w (Play u c)) got [])
      (answered state command w (answers.Trimmed c (base_now w u c)) []))
  get_extends c got =
      let base = answers.Trimmed c (base_now w u c) in
      choice (Extends state) (may_play w u c) (answered state command (after w (Play u c)) got [])
      (answered state command w base [])
      (λ _. answer_goes state command (after w (Play u c)) got [] (record { steps = Play u c ∷ []; run = refl }))
      (λ _. answers_so w base)

  pub got_extends : (kind : Option Kind) (key : List ℕ) → Extends state (got grants state command kind key)
  got_extends (Some (kinds.Map home colours)) key =
      let c = shard_of colours key in get_extends c (answers.Got (value_now w u colours c key) (sync_now w u c))
  got_extends (Some (kinds.Causal colour)) key =
      get_extends colour (answers.GotMany (causal_values (nodes_up_to_cut w u colour) key) (sync_now w u colour))
  got_extends (Some (kinds.Parts home colours)) key =
      let c = shard_of colours key in
      let part = part_of colours key in
      let nodes = nodes_now w u c in
      get_extends c (peek_answer (undecided_after part nodes) (part_value part nodes key) (sync_now w u c))
  got_extends _ key = nothing_done

  pub got_exact : (kind : Option Kind) (key : List ℕ) → got grants state command kind key ≡ got all_granted state command kind key
  got_exact (Some (kinds.Map home colours)) key = refl
  got_exact _ key = refl
