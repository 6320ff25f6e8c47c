-- Commands that are told what becomes of their node, by what their append and their read did.
use Rattle.std.proofs.Common.{◌≡◌, ◌≢◌, ℕ, ◌<◌, Bool, true, false, List, [], ◌∷◌, length, map, Option, Some, None, Result, Ok, Err, refl, ap, sym, subst, ◌∙◌}
use Rattle.std.specs.Prelude.{IfOk, OnErr, if◌then◌else◌}
use Rattle.std.specs.declared.alloc.AllocError.{AllocError}
use Rattle.log_node.specs.declared.ids.Counts.{Counts}
use Rattle.log_node.specs.declared.ids.Id.{Id}
use Rattle.log_node.specs.declared.ids.Key.{Key}
use Rattle.log_node.specs.declared.node.Shape.{Shape}
use Rattle.log_node.specs.declared.ids.Colours.{Colours}
use Rattle.log_node.specs.declared.ids.Row.{Row}
use Rattle.log_node.specs.declared.marks.Why.TheVariants.{Memory, StampEnd}
use Rattle.log_node.specs.declared.marks.Outcome.{Outcome}
use Rattle.log_node.specs.declared.marks.Outcome.TheVariants.{Open, Gone, Final}
use Rattle.log_node.specs.Sets.{members}
use Rattle.col_core.specs.History.{entry_key}
use Rattle.col_core.proofs.CallerLemmas.{by_test, if_true, if_false}
use Rattle.world_laws.specs.declared.steps.Step.TheVariants.{Seen}
use Rattle.world_laws.specs.Worlds.{World, after, may_single, single_stamp, next_id, next_row, row_of, run_steps}
use Rattle.world_laws.specs.Laws.{IsReached}
use Rattle.world_laws.proofs.CallerLemmas.{run_grows}
use Rattle.script_text.specs.Fitting.{AreBelow}
use Rattle.script_text.specs.declared.script.Object.{Object}
use Rattle.script_text.specs.declared.script.Command.{Command}
use Rattle.report_text.specs.declared.report.Answer.{Answer}
use Rattle.report_text.specs.declared.report.Answer.TheVariants as answers
use Rattle.report_text.specs.declared.report.PointPiece.{PointPiece}
use Rattle.report_text.specs.declared.report.RaisePiece.{RaisePiece}
use Rattle.report_text.specs.declared.report.SyncPiece.{SyncPiece}
use Rattle.script_meaning.specs.States.{State, Grants, answered}
use Rattle.script_meaning.specs.Helping.{all_cleared}
use Rattle.script_meaning.specs.Appends.{Continuation, appended, appended_so, appended_one_so, appended_by_so, appended_several_so, answered_stood, has_no_row_left, append_steps, with_single, point_in, ended_colour}
use Rattle.script_meaning.specs.Stamped.{ReadEnd, Whole, Refused, Unraised, StampedRead}
use Rattle.script_meaning.specs.Telling.{ReadAnswer, answered_by_read, told_behind, appended_and_told}
use Rattle.script_meaning.proofs.CallerLemmas.{RunsTo, append_to, told_to, single_same, all_cleared_same}
use Rattle.script_in_order.specs.Doing.{DoneBy, with_replies}
use Rattle.script_in_order.specs.declared.stamped.Stamped.{Stamped}
use Rattle.script_in_order.specs.Stamped.{ReadsStamped, end_in}
use Rattle.script_in_order.specs.declared.folds.Fold.{Fold}
use Rattle.script_in_order.specs.Folds.{AreFolded}
use Rattle.script_in_order.specs.Telling.{TellsAt, rising_colours}
use Rattle.script_in_order.proofs.DequeueSteps.{unanswered, same_answer}
use Rattle.script_in_order.proofs.FoldsKept.{folds_stay}
use Rattle.script_in_order.proofs.HelpsAndClears.{found_with, finds_all}
use Rattle.script_in_order.proofs.StampedWholes.{finds_same}

-- what is granted to the command whose append is granted this
abbrev granted : Grants → (ℕ → Bool) → (ℕ → ℕ → Bool) → Bool → Grants
granted g raises helps items = record g { raises = raises; read_helps = helps; items = items }

stood_stamp : {a b : ℕ} {r s : Option ℕ} {p q : List PointPiece} → answers.Stood a r p ≡ answers.Stood b s q → a ≡ b
stood_stamp e = cc

stood_row : {a b : ℕ} {r s : Option ℕ} {p q : List PointPiece} → answers.Stood a r p ≡ answers.Stood b s q → r ≡ s
stood_row e = cc

stood_points : {a b : ℕ} {r s : Option ℕ} {p q : List PointPiece} → answers.Stood a r p ≡ answers.Stood b s q → p ≡ q
stood_points e = cc

-- An append of a command that was answered with where it stands: whatever follows it, follows there.
module _ (command : Command) (w new : World) (stamp : ℕ) (row : Option ℕ) (points : List PointPiece) (g : Grants)
    (raises : ℕ → Bool) (helps : ℕ → ℕ → Bool) (items : Bool) (told : State) (follows : Continuation) where
  abbrev client : ℕ
  client = command.client

  abbrev all : Grants
  all = granted g raises helps items

  abbrev state : State
  state = with_replies w told

  abbrev shown : State → Type 0
  shown s = s ≡ answered (unanswered w) command new (answers.Stood stamp row points) []

  -- where it stands
  there : (v v' : World) (s : ℕ) (r : Option ℕ) (p p' : World → List PointPiece) → v' ≡ v → ((x : World) → p' x ≡ p x)
      → shown (answered (unanswered w) command v (answers.Stood s r (p v)) [])
      → follows v' s r (p' v') ≡ follows new stamp row points
  there v v' s r p p' same alike e =
      let k = same_answer w v new command (answers.Stood s r (p v)) (answers.Stood stamp row points) e in
      ap (λ (x : World). follows x s r (p' x)) (same ∙ k.0)
      ∙ (ap (λ (q : List PointPiece). follows new s r q) (alike new ∙ (ap p (sym k.0) ∙ stood_points k.1))
      ∙ (ap (λ (n : ℕ). follows new n r points) (stood_stamp k.1)
      ∙ ap (λ (o : Option ℕ). follows new stamp o points) (stood_row k.1)))

  -- no other answer says that it stands
  not_there : (v : World) (answer : Answer) → ((s : ℕ) (r : Option ℕ) (p : List PointPiece)
      → answer ≡ answers.Stood s r p → ⊥) → shown (answered (unanswered w) command v answer []) → ⊥
  not_there v answer other e =
      other stamp row points (same_answer w v new command answer (answers.Stood stamp row points) e).1

  by_one : (text : List ℕ) (c : ℕ)
      → shown (appended_one_so g (unanswered w) command text c (answered_stood (unanswered w) command))
      → appended_one_so all state command text c follows ≡ follows new stamp row points
  by_one text c e =
      let v = with_single g w client text c in
      let v' = with_single all w client text c in
      let p : World → List PointPiece = λ x. point_in w x client (next_id w client) c ∷ [] in
      let yes = answered (unanswered w) command v (answers.Stood (single_stamp w client c) None (p v)) [] in
      let no = answered (unanswered w) command w (answers.StampEnd c) [] in
      by_test _ (may_single w client c)
      (λ t. if_true (may_single w client c) (follows v' (single_stamp w client c) None (p v'))
      (answered state command w (answers.StampEnd c) []) t
      ∙ there v v' (single_stamp w client c) None p p (single_same all g refl w client text c) (λ x. refl)
      (sym (if_true (may_single w client c) yes no t) ∙ e))
      (λ f. absurd (not_there w (answers.StampEnd c) (λ s r q x. let h : ⊥ = cc in h)
      (sym (if_false (may_single w client c) yes no f) ∙ e)))

  by_outcome : (x : World) (number : Row) (ms : List ℕ) (last : Outcome)
      → shown (appended_by_so g (unanswered w) command x number ms last (answered_stood (unanswered w) command))
      → appended_by_so all state command x number ms last follows ≡ follows new stamp row points
  by_outcome x number ms Open e = absurd (not_there x answers.NoMemory (λ s r q y. let h : ⊥ = cc in h) e)
  by_outcome x number ms (Gone Memory) e = absurd (not_there x answers.NoMemory (λ s r q y. let h : ⊥ = cc in h) e)
  by_outcome x number ms (Gone StampEnd) e =
      absurd (not_there x (answers.StampEnd (ended_colour x number ms)) (λ s r q y. let h : ⊥ = cc in h) e)
  by_outcome x number ms (Final s) e =
      let key = entry_key s (next_id w client) in
      let p : World → List PointPiece = λ y. map (point_in w y client (next_id w client)) ms in
      there (all_cleared g client key ms (after x (Seen client s))) (all_cleared all client key ms (after x (Seen client s)))
      s (Some number.number) p p (all_cleared_same all g refl client key ms (after x (Seen client s))) (λ y. refl) e

  by_several : (colours : Colours) (text : List ℕ)
      → shown (appended_several_so g (unanswered w) command colours text (answered_stood (unanswered w) command))
      → appended_several_so all state command colours text follows ≡ follows new stamp row points
  by_several colours text e =
      let number = next_row w client in
      let x = run_steps w (append_steps g w client colours text) in
      let yes : State = answered (unanswered w) command w (answers.Full (w.clients client).used) [] in
      let no : State = appended_by_so g (unanswered w) command x number (members colours) (row_of x number).last
      (answered_stood (unanswered w) command) in
      by_test _ (has_no_row_left w client)
      (λ t. absurd (not_there w (answers.Full (w.clients client).used) (λ s r q y. let h : ⊥ = cc in h)
      (sym (if_true (has_no_row_left w client) yes no t) ∙ e)))
      (λ f. if_false (has_no_row_left w client) (answered state command w (answers.Full (w.clients client).used) [])
      (appended_by_so all state command x number (members colours) (row_of x number).last follows) f
      ∙ by_outcome x number (members colours) (row_of x number).last
      (sym (if_false (has_no_row_left w client) yes no f) ∙ e))

  pub by_append : (colours : Colours) (text : List ℕ) (ms : List ℕ)
      → shown (appended g (unanswered w) command colours text ms)
      → appended_so all state command colours text ms follows ≡ follows new stamp row points
  by_append colours text [] e = absurd (not_there w answers.NoMemory (λ s r q y. let h : ⊥ = cc in h) e)
  by_append colours text (c ∷ []) e = by_one text c e
  by_append colours text (c ∷ d ∷ ms) e = by_several colours text e

-- An append that is answered otherwise is answered so whatever follows it.
module _ (command : Command) (w new : World) (answer : Answer) (g : Grants) (told : State) (follows : Continuation)
    (other : (s : ℕ) (r : Option ℕ) (p : List PointPiece) → answer ≡ answers.Stood s r p → ⊥) where
  abbrev its_client : ℕ
  its_client = command.client

  abbrev from : State
  from = with_replies w told

  -- in each of its cases it is answered as it is shown, or it stands
  refused : (v : World) (given : Answer)
      → answered (unanswered w) command v given [] ≡ answered (unanswered w) command new answer []
      → answered from command v given [] ≡ answered from command new answer []
  refused v given e =
      let k = same_answer w v new command given answer e in
      ap (λ (x : World). answered from command x given []) k.0 ∙ ap (λ (a : Answer). answered from command new a []) k.1

  stands : {A : Type 0} (v : World) (s : ℕ) (r : Option ℕ) (p : List PointPiece)
      → answered (unanswered w) command v (answers.Stood s r p) [] ≡ answered (unanswered w) command new answer [] → A
  stands v s r p e =
      absurd (other s r p (sym (same_answer w v new command (answers.Stood s r p) answer e).1))

  one_refused : (text : List ℕ) (c : ℕ)
      → appended_one_so g (unanswered w) command text c (answered_stood (unanswered w) command)
      ≡ answered (unanswered w) command new answer []
      → appended_one_so g from command text c follows ≡ answered from command new answer []
  one_refused text c e =
      let v = with_single g w its_client text c in
      let points = point_in w v its_client (next_id w its_client) c ∷ [] in
      let yes : State = answered (unanswered w) command v (answers.Stood (single_stamp w its_client c) None points) [] in
      let no : State = answered (unanswered w) command w (answers.StampEnd c) [] in
      by_test _ (may_single w its_client c)
      (λ t. stands v (single_stamp w its_client c) None points (sym (if_true (may_single w its_client c) yes no t) ∙ e))
      (λ f. if_false (may_single w its_client c) (follows v (single_stamp w its_client c) None points)
      (answered from command w (answers.StampEnd c) []) f
      ∙ refused w (answers.StampEnd c) (sym (if_false (may_single w its_client c) yes no f) ∙ e))

  outcome_refused : (x : World) (number : Row) (ms : List ℕ) (last : Outcome)
      → appended_by_so g (unanswered w) command x number ms last (answered_stood (unanswered w) command)
      ≡ answered (unanswered w) command new answer []
      → appended_by_so g from command x number ms last follows ≡ answered from command new answer []
  outcome_refused x number ms Open e = refused x answers.NoMemory e
  outcome_refused x number ms (Gone Memory) e = refused x answers.NoMemory e
  outcome_refused x number ms (Gone StampEnd) e = refused x (answers.StampEnd (ended_colour x number ms)) e
  outcome_refused x number ms (Final s) e =
      let id = next_id w its_client in
      let v = all_cleared g its_client (entry_key s id) ms (after x (Seen its_client s)) in
      stands v s (Some number.number) (map (point_in w v its_client id) ms) e

  several_refused : (colours : Colours) (text : List ℕ)
      → appended_several_so g (unanswered w) command colours text (answered_stood (unanswered w) command)
      ≡ answered (unanswered w) command new answer []
      → appended_several_so g from command colours text follows ≡ answered from command new answer []
  several_refused colours text e =
      let number = next_row w its_client in
      let x = run_steps w (append_steps g w its_client colours text) in
      let full : State = answered (unanswered w) command w (answers.Full (w.clients its_client).used) [] in
      let room : State = appended_by_so g (unanswered w) command x number (members colours) (row_of x number).last
      (answered_stood (unanswered w) command) in
      by_test _ (has_no_row_left w its_client)
      (λ t. if_true (has_no_row_left w its_client) (answered from command w (answers.Full (w.clients its_client).used) [])
      (appended_by_so g from command x number (members colours) (row_of x number).last follows) t
      ∙ refused w (answers.Full (w.clients its_client).used) (sym (if_true (has_no_row_left w its_client) full room t) ∙ e))
      (λ f. if_false (has_no_row_left w its_client) (answered from command w (answers.Full (w.clients its_client).used) [])
      (appended_by_so g from command x number (members colours) (row_of x number).last follows) f
      ∙ outcome_refused x number (members colours) (row_of x number).last
      (sym (if_false (has_no_row_left w its_client) full room f) ∙ e))

  pub by_refusal : (colours : Colours) (text : List ℕ) (ms : List ℕ)
      → appended g (unanswered w) command colours text ms ≡ answered (unanswered w) command new answer []
      → appended_so g from command colours text ms follows ≡ answered from command new answer []
  by_refusal colours text [] e = refused w answers.NoMemory e
  by_refusal colours text (c ∷ []) e = one_refused text c e
  by_refusal colours text (c ∷ d ∷ ms) e = several_refused colours text e

-- THE READ BEHIND AN APPEND

-- a read, as its end is told
pub read_as : (old new : World) (client : ℕ) (colours : List ℕ) (s t : Stamped) → s ≡ t
    → ReadsStamped old new client colours (end_in new client colours s)
    → ReadsStamped old new client colours (end_in new client colours t)
read_as old new client colours s t same =
    subst (λ (x : Stamped). ReadsStamped old new client colours (end_in new client colours x)) same

module _ (tells : ReadAnswer) (client : ℕ) (colours : List ℕ) (own : Key) (row : Option ℕ) (points : List PointPiece)
    (old new : World) where
  abbrev Told : Answer → Type 0
  Told answer = TellsAt tells client colours own row points old new answer

  module _ (ends : ReadEnd) (reads : ReadsStamped old new client colours ends) (items : Bool) (answer : Answer)
      (is : (grants : Grants) (state : State) (command : Command) → grants.items ≡ items
      → answered_by_read tells grants state command own row points new ends ≡ answered state command new answer []) where
    tells_at : Told answer
    tells_at =
        let given = found_with (λ _. true) reads.finds in record {
          raises = reads.found;
          helps = given.helps;
          items = items;
          is = λ grants state command.
              let all : Grants = record grants { raises = reads.found; read_helps = given.helps; items = items } in
              let reading : Grants = record all { helps = given.helps } in
              ap (λ (r : StampedRead). answered_by_read tells all state command own row points r.world r.ends)
              (reads.is reading refl (finds_same given reading refl 0 reads.finds (finds_all (λ _. true) reads.finds)))
              ∙ is all state command refl;
        }

  pub told_unraised : ReadsStamped old new client colours Unraised → Told (answers.UnreadNoMemory own.stamp)
  told_unraised reads =
      tells_at Unraised reads true (answers.UnreadNoMemory own.stamp) (λ grants state command e. refl)

  pub told_refused : (c : ℕ) (base : Counts) → ReadsStamped old new client colours (Refused c base)
      → Told (answers.UnreadTrimmed own.stamp c base)
  told_refused c base reads =
      tells_at (Refused c base) reads true (answers.UnreadTrimmed own.stamp c base) (λ grants state command e. refl)

  module _ (stamp : ℕ) (raises : List RaisePiece) (syncs : List SyncPiece) (read : List Key)
      (reads : ReadsStamped old new client colours (Whole stamp raises syncs read)) where
    abbrev its : Answer
    its = tells new read own row points stamp raises syncs

    by_items : (items : Bool) (grants : Grants) (state : State) (command : Command) → grants.items ≡ items
        → answered_by_read tells grants state command own row points new (Whole stamp raises syncs read)
        ≡ (if items then answered state command new its [] else answered state command new (answers.UnreadNoMemory own.stamp) [])
    by_items items grants state command e =
        ap (λ (b : Bool). if b then answered state command new its []
        else answered state command new (answers.UnreadNoMemory own.stamp) []) e

    pub told_without : Told (answers.UnreadNoMemory own.stamp)
    told_without =
        tells_at (Whole stamp raises syncs read) reads false (answers.UnreadNoMemory own.stamp) (by_items false)

    pub told_whole : (answer : Answer) → answer ≡ its → Told answer
    told_whole answer is =
        tells_at (Whole stamp raises syncs read) reads true answer
        (λ grants state command e. by_items true grants state command e
        ∙ ap (λ (x : Answer). answered state command new x []) (sym is))

-- a read that found no memory before its first raise ends as one whose first raise finds none
pub told_not_begun : (tells : ReadAnswer) (client : ℕ) (colours : List ℕ) (own : Key) (row : Option ℕ)
    (points : List PointPiece) (w : World) → colours ≢ []
    → TellsAt tells client colours own row points w w (answers.UnreadNoMemory own.stamp)
told_not_begun tells u [] key row points w some = absurd (some refl)
told_not_begun tells u (c ∷ colours) key row points w some = record {
  raises = λ _. false;
  helps = λ _ _. false;
  items = false;
  is = λ grants state command. refl;
}

-- THE APPEND

module _ (command : Command) (w v : World) (given : Answer) (set : Colours) (text : List ℕ)
    (d : DoneBy (λ grants state. appended grants state command set text (members set)) command w v given []) where
  pub appended_to : RunsTo w v
  appended_to = subst (RunsTo w) (ap (λ (s : State). s.world) (d.is (unanswered w)))
      (append_to d.grants (with_replies w (unanswered w)) command set text (members set))

  shape_after : v.shape ≡ w.shape
  shape_after = ap (λ (x : World). x.shape) (sym appended_to.run) ∙ (run_grows w appended_to.steps).shape

  pub client_after : command.client < length w.shape.homes → command.client < length v.shape.homes
  client_after = subst (λ (s : Shape). command.client < length s.homes) (sym shape_after)

  pub below_after : (cs : Colours) → AreBelow w.shape.colours cs → AreBelow v.shape.colours cs
  below_after cs = subst (λ (s : Shape). AreBelow s.colours cs) (sym shape_after)

  module _ (tells : ReadAnswer) (objects : List Object) (object : ℕ) where
    abbrev Does : World → Answer → Type 0
    Does new answer =
        DoneBy (λ grants state. appended_and_told tells objects grants state command object set text) command w new answer
        []

    -- an answer that names no place is the command's
    pub not_stood : ((s : ℕ) (r : Option ℕ) (p : List PointPiece) → given ≡ answers.Stood s r p → ⊥) → Does v given
    not_stood other = record {
      grants = d.grants;
      begun = d.begun;
      is = λ told. by_refusal command w v given d.grants told
          (told_behind tells objects d.grants (with_replies w told) command object) other set text (members set)
          (d.is (unanswered w));
    }

    -- where the node stands, the read follows
    pub stood_told : (new : World) (answer : Answer) (stamp : ℕ) (row : Option ℕ) (points : List PointPiece)
        (colours : List ℕ) (id : Id) → given ≡ answers.Stood stamp row points → colours ≡ rising_colours objects object
        → id ≡ next_id w command.client → TellsAt tells command.client colours (entry_key stamp id) row points v new answer
        → Does new answer
    stood_told new answer stamp row points colours id there cs own t =
        let r = subst (λ (l : List ℕ).
        TellsAt tells command.client l (entry_key stamp (next_id w command.client)) row points v new answer) cs
        (subst (λ (i : Id). TellsAt tells command.client colours (entry_key stamp i) row points v new answer) own t) in
        let all = granted d.grants r.raises r.helps r.items in record {
          grants = all;
          begun = d.begun;
          is = λ told.
              by_append command w v stamp row points d.grants r.raises r.helps r.items told
              (told_behind tells objects all (with_replies w told) command object) set text (members set)
              (d.is (unanswered w) ∙ ap (λ (a : Answer). answered (unanswered w) command v a []) there)
              ∙ r.is d.grants (with_replies w told) command;
        }

-- what is folded of the objects stays right
pub folds_after : (tells : ReadAnswer) (objects : List Object) (command : Command) (object : ℕ) (set : Colours) (text : List ℕ)
    (w new : World) (all : List Fold) (r : Result Answer AllocError) → IsReached w
    → IfOk r (λ answer. DoneBy (λ grants state. appended_and_told tells objects grants state command object set text)
    command w new answer []) → OnErr r (new ≡ w) → AreFolded w objects all → AreFolded new objects all
folds_after tells objects command object set text w new all (Ok answer) reached d err f =
    folds_stay w new reached
    (subst (RunsTo w) (ap (λ (s : State). s.world) (d.is (unanswered w)))
    (told_to tells objects d.grants (with_replies w (unanswered w)) command object set text)) objects all f
folds_after tells objects command object set text w new all (Err e) reached ok same f =
    subst (λ (x : World). AreFolded x objects all) (sym same) f
