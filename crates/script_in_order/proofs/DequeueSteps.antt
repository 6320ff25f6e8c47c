-- Dequeues, by what their calls did.
use Rattle.std.proofs.Common.{◌≡◌, ℕ, true, false, List, [], ◌∷◌, length, Option, None, Some, get_or, ◌+◌, ◌<◌, ◌≤◌, arith, refl, ap, sym, subst, ◌∙◌}
use Rattle.log_node.specs.declared.ids.Counts.{Counts}
use Rattle.log_node.specs.declared.ids.Id.{Id}
use Rattle.log_node.specs.declared.ids.Key.{Key}
use Rattle.log_node.specs.Order.{same_id}
use Rattle.log_node.specs.declared.node.Shape.{Shape}
use Rattle.std.specs.Prelude.{slice_index}
use Rattle.log_node.specs.declared.forms.Form.TheVariants as forms
use Rattle.object_form.specs.Forms.{form_text}
use Rattle.object_fold.specs.Nodes.{shard_of}
use Rattle.col_core.specs.History.{line}
use Rattle.col_core.proofs.CallerLemmas.{by_test, choice, if_true, if_false}
use Rattle.world_laws.specs.declared.steps.Step.TheVariants.{Play}
use Rattle.world_laws.specs.Worlds.{World, after, may_single, may_play, single_stamp, next_id, home_of, home_history}
use Rattle.world_laws.specs.Laws.{IsReached}
use Rattle.world_laws.proofs.CallerLemmas.{updated-here}
use Rattle.script_text.specs.declared.script.Command.{Command}
use Rattle.report_text.specs.declared.report.Answer.{Answer}
use Rattle.report_text.specs.declared.report.Answer.TheVariants as answers
use Rattle.report_text.specs.declared.report.PointPiece.{PointPiece}
use Rattle.report_text.specs.declared.report.ReplyLine.{ReplyLine}
use Rattle.script_meaning.specs.States.{State, Grants, all_granted, no_reads, answered, position_of}
use Rattle.script_meaning.specs.Appends.{appended_one, with_single, point_in}
use Rattle.script_meaning.specs.Dequeues.{base_now, dequeued_at, dequeued_on, dequeued_from}
use Rattle.script_meaning.proofs.CallerLemmas.{RunsTo, stays_there, new_behind, single_same, single_shape, single_to}
use Rattle.script_in_order.specs.Doing.{DoneBy, with_replies}
use Rattle.script_in_order.specs.Reading.{ReadsOwn}
use Rattle.script_in_order.specs.Runs.{reply_of}

-- What an append to one colour did

abbrev first_answer : List ReplyLine → Answer
first_answer [] = answers.NoMemory
first_answer (r ∷ rs) = r.answer

abbrev pub unanswered : World → State
unanswered w = record { world = w; replies = λ _. []; reads = λ _. no_reads }

shown_answer : (w new : World) (command : Command) (answer : Answer)
    → first_answer ((answered (unanswered w) command new answer []).replies command.client) ≡ answer
shown_answer w new command answer =
    ap first_answer (updated-here (λ _. []) command.client (reply_of command answer [] ∷ []))

pub same_answer : (w a b : World) (command : Command) (p q : Answer)
    → answered (unanswered w) command a p [] ≡ answered (unanswered w) command b q [] → (a ≡ b) × (p ≡ q)
same_answer w a b command p q e = (
  ap (λ (s : State). s.world) e,
  sym (shown_answer w a command p)
      ∙ (ap (λ (s : State). first_answer (s.replies command.client)) e ∙ shown_answer w b command q),
)

pub data Entered (command : Command) (text : List ℕ) (colour : ℕ) (w new : World) (answer : Answer) : Type 0 where
  entered : (grants : Grants) → grants.start ≡ true → may_single w command.client colour ≡ true
      → with_single grants w command.client text colour ≡ new
      → answers.Stood (single_stamp w command.client colour) None
      (point_in w new command.client (next_id w command.client) colour ∷ []) ≡ answer
      → Entered command text colour w new answer
  ended : may_single w command.client colour ≡ false → w ≡ new → answers.StampEnd colour ≡ answer
      → Entered command text colour w new answer

pub entered_of : (command : Command) (text : List ℕ) (colour : ℕ) (w new : World) (answer : Answer)
    → DoneBy (λ grants state. appended_one grants state command text colour) command w new answer []
    → Entered command text colour w new answer
entered_of command text colour w new answer d =
    let client = command.client in
    let g = d.grants in
    let v = with_single g w client text colour in
    let stood : World → Answer = λ x. answers.Stood (single_stamp w client colour) None
    (point_in w x client (next_id w client) colour ∷ []) in
    let yes : State = answered (unanswered w) command v (stood v) [] in
    let no : State = answered (unanswered w) command w (answers.StampEnd colour) [] in
    by_test _ (may_single w client colour)
    (λ t. let e = same_answer w v new command (stood v) answer
    (sym (if_true (may_single w client colour) yes no t) ∙ d.is (unanswered w)) in
    entered g d.begun t e.0 (ap stood (sym e.0) ∙ e.1))
    (λ f. let e = same_answer w w new command (answers.StampEnd colour) answer
    (sym (if_false (may_single w client colour) yes no f) ∙ d.is (unanswered w)) in
    ended f e.0 e.1)

-- What is read then

module _ (client stamp : ℕ) (point : PointPiece) (w : World) where
  pub reads_refused : (base : Counts) → may_play w client point.colour ≡ false → base ≡ base_now w client point.colour
      → ReadsOwn client stamp point w w (answers.UnreadTrimmed stamp point.colour base)
  reads_refused base f e = record {
    fold = true;
    is = λ grants g state command same.
        if_false (may_play w command.client point.colour) _
        (answered state command w (answers.UnreadTrimmed stamp point.colour
        (base_now w command.client point.colour)) [])
        (ap (λ (u : ℕ). may_play w u point.colour) same ∙ f)
        ∙ ap (λ (b : Counts). answered state command w (answers.UnreadTrimmed stamp point.colour b) [])
        (ap (λ (u : ℕ). base_now w u point.colour) same ∙ sym e);
  }

  pub reads_none : (new : World) → may_play w client point.colour ≡ true → new ≡ after w (Play client point.colour)
      → ReadsOwn client stamp point w new (answers.UnreadNoMemory stamp)
  reads_none new t n = record {
    fold = false;
    is = λ grants g state command same.
        if_true (may_play w command.client point.colour) _ _ (ap (λ (u : ℕ). may_play w u point.colour) same ∙ t)
        ∙ (if_false grants.fold _ (answered state command (after w (Play command.client point.colour))
        (answers.UnreadNoMemory stamp) []) g
        ∙ ap (λ (x : World). answered state command x (answers.UnreadNoMemory stamp) [])
        (ap (λ (u : ℕ). after w (Play u point.colour)) same ∙ sym n));
  }

pub none_some : {A : Type 0} (x : A) → None ≡ Some x → ⊥
none_some x e = let f : ⊥ = cc in f

-- The dequeue

pub dequeue_ended : (command : Command) (colour : ℕ) (w new : World) (answer : Answer)
    → may_single w command.client colour ≡ false → w ≡ new → answers.StampEnd colour ≡ answer
    → DoneBy (λ grants state. dequeued_on grants state command colour) command w new answer []
dequeue_ended command colour w new answer f same is =
    subst (λ (a : Answer). DoneBy (λ grants state. dequeued_on grants state command colour) command w new a []) is
    (subst (λ (x : World). DoneBy (λ grants state. dequeued_on grants state command colour) command w x
    (answers.StampEnd colour) []) same (record {
      grants = all_granted;
      begun = refl;
      is = λ replies. if_false (may_single w command.client colour) _
          (answered (with_replies w replies) command w (answers.StampEnd colour) []) f;
    }))

pub dequeue_read : (command : Command) (colour : ℕ) (w v new : World) (answer : Answer) (g : Grants)
    → g.start ≡ true → may_single w command.client colour ≡ true
    → with_single g w command.client (form_text forms.Dequeue) colour ≡ v
    → ReadsOwn command.client (single_stamp w command.client colour)
    (point_in w v command.client (next_id w command.client) colour) v new answer
    → DoneBy (λ grants state. dequeued_on grants state command colour) command w new answer []
dequeue_read command colour w v new answer g begun t single r =
    let client = command.client in
    let text = form_text forms.Dequeue in
    let grants : Grants = record g { fold = r.fold } in
    record {
      grants = grants;
      begun = begun;
      is = λ replies.
          let state = with_replies w replies in
          if_true (may_single w client colour) _ _ t
          ∙ (ap (λ (x : World). dequeued_at grants state command x (single_stamp w client colour)
          (point_in w x client (next_id w client) colour))
          (single_same grants g refl w client text colour ∙ single)
          ∙ r.is grants refl state command refl);
    }

-- An append that was answered so, with its point

pub record StoodSo (command : Command) (text : List ℕ) (colour : ℕ) (w new : World) (stamp : ℕ)
    (points : List PointPiece) : Type 0 where
  pub grants : Grants
  pub begun : grants.start ≡ true
  pub may : may_single w command.client colour ≡ true
  pub single : with_single grants w command.client text colour ≡ new
  pub stamp_is : single_stamp w command.client colour ≡ stamp
  pub points_are : point_in w new command.client (next_id w command.client) colour ∷ [] ≡ points

pub stood_so : (command : Command) (text : List ℕ) (colour : ℕ) (w new : World) (answer : Answer) (stamp : ℕ)
    (row : Option ℕ) (points : List PointPiece) → answer ≡ answers.Stood stamp row points
    → Entered command text colour w new answer → StoodSo command text colour w new stamp points
stood_so command text colour w new answer stamp row points is (entered g begun may single same) =
    let e = same ∙ is in record {
      grants = g;
      begun = begun;
      may = may;
      single = single;
      stamp_is = stamp_in e;
      points_are = points_in e;
    } where
      stamp_in : {a : ℕ} {r : Option ℕ} {ps : List PointPiece} → answers.Stood a r ps ≡ answers.Stood stamp row points
          → a ≡ stamp
      stamp_in e = cc

      points_in : {a : ℕ} {r : Option ℕ} {ps : List PointPiece} → answers.Stood a r ps ≡ answers.Stood stamp row points
          → ps ≡ points
      points_in e = cc
stood_so command text colour w new answer stamp row points is (ended may same end) =
    let e : answers.StampEnd colour ≡ answers.Stood stamp row points = end ∙ is in
    absurd (let f : ⊥ = cc in f)

-- the one point
pub first_point : (p d : PointPiece) (points : List PointPiece) → p ∷ [] ≡ points → get_or points 0 d ≡ p
first_point p d points e = ap (λ (l : List PointPiece). get_or l 0 d) (sym e)

pub position_low : (id : Id) (keys : List Key) → position_of id keys ≤ length keys
position_low id [] = omega arith
position_low id (key ∷ keys) =
    let r = position_low id keys in
    choice (λ (n : ℕ). n ≤ length (key ∷ keys)) (same_id key.id id) 0 (position_of id keys + 1) (λ _. omega arith)
    (λ _. omega (arith, r))

module _ (command : Command) (text : List ℕ) (colour : ℕ) (w new : World) (stamp : ℕ) (points list : List PointPiece)
    (is : list ≡ points) (s : StoodSo command text colour w new stamp points) where
  abbrev its_point : PointPiece
  its_point = point_in w new command.client (next_id w command.client) colour

  list_is : its_point ∷ [] ≡ list
  list_is = s.points_are ∙ sym is

  pub one_there : 0 < length list
  one_there = subst (λ (l : List PointPiece). 0 < length l) list_is (omega arith)

  pub colour_low : (d : PointPiece) (count : ℕ) → colour < count → (get_or list 0 d).colour < count
  colour_low d count lt = subst (λ (p : PointPiece). p.colour < count) (sym (first_point its_point d list list_is)) lt

  pub position_there : (d : PointPiece) → (get_or list 0 d).position
      ≤ length (line (home_history new command.client (get_or list 0 d).colour))
  position_there d =
      subst (λ (p : PointPiece). p.position ≤ length (line (home_history new command.client p.colour)))
      (sym (first_point its_point d list list_is))
      (position_low (next_id w command.client) (line (home_history new command.client colour)))

-- its point is of the colour, behind all that stood before
module _ (command : Command) (text : List ℕ) (colour : ℕ) (w new : World) (stamp : ℕ) (points list : List PointPiece)
    (is : list ≡ points) (s : StoodSo command text colour w new stamp points) (d : PointPiece) where
  abbrev at_point : PointPiece
  at_point = point_in w new command.client (next_id w command.client) colour

  same_point : get_or list 0 d ≡ at_point
  same_point = first_point at_point d list (s.points_are ∙ sym is)

  pub colour_same : (get_or list 0 d).colour ≡ colour
  colour_same = ap (λ (p : PointPiece). p.colour) same_point

  position_on : IsReached w
      → length (line (home_history w command.client colour)) ≤ (get_or list 0 d).position
  position_on reached =
      let to = subst (RunsTo w) s.single (single_to s.grants w command text colour) in
      let shape : new.shape ≡ w.shape = ap (λ (x : World). x.shape) (sym s.single) ∙ single_shape s.grants w command text colour in
      subst (λ (p : PointPiece). length (line (home_history w command.client colour)) ≤ p.position) (sym same_point)
      (subst (λ (r : ℕ). length (line (home_history w command.client colour))
      ≤ position_of (next_id w command.client) (line (new.histories r colour)))
      (ap (λ (x : Shape). slice_index x.homes command.client) (sym shape))
      (new_behind w new reached to command.client (home_of w command.client) colour))

  pub behind_point : IsReached w → (count : ℕ) → count ≤ length (line (home_history w command.client colour))
      → count ≤ (get_or list 0 d).position
  behind_point reached count low = let on = position_on reached in omega (arith, low, on)

-- where the append was no answer of that kind, no stamp was left
pub behind_ended : (command : Command) (colour : ℕ) (w new : World) (answer : Answer)
    → ((stamp : ℕ) (row : Option ℕ) (points : List PointPiece) → answer ≡ answers.Stood stamp row points → ⊥)
    → Entered command (form_text forms.Dequeue) colour w new answer
    → DoneBy (λ grants state. dequeued_on grants state command colour) command w new answer []
behind_ended command colour w new answer other (entered g begun may single same) = absurd (other _ _ _ (sym same))
behind_ended command colour w new answer other (ended may same end) =
    dequeue_ended command colour w new answer may same end

pub behind_read : (command : Command) (colour : ℕ) (w v new : World) (answer : Answer) (stamp : ℕ)
    (points : List PointPiece) (d : PointPiece)
    → StoodSo command (form_text forms.Dequeue) colour w v stamp points
    → ReadsOwn command.client stamp (get_or points 0 d) v new answer
    → DoneBy (λ grants state. dequeued_on grants state command colour) command w new answer []
behind_read command colour w v new answer stamp points d s r =
    let point = point_in w v command.client (next_id w command.client) colour in
    dequeue_read command colour w v new answer s.grants s.begun s.may s.single
    (subst (λ (n : ℕ). ReadsOwn command.client n point v new answer) (sym s.stamp_is)
    (subst (λ (p : PointPiece). ReadsOwn command.client stamp p v new answer) (first_point point d points s.points_are)
    r))

-- a dequeue by the colours of its object
pub by_colours : (command : Command) (colours : List ℕ) (colour : ℕ) (w new : World) (answer : Answer)
    → colours ≡ colour ∷ []
    → DoneBy (λ grants state. dequeued_on grants state command colour) command w new answer []
    → DoneBy (λ grants state. dequeued_from grants state command colours) command w new answer []
by_colours command colours colour w new answer e d =
    subst (λ (l : List ℕ). DoneBy (λ grants state. dequeued_from grants state command l) command w new answer []) (sym e)
    (record { grants = d.grants; begun = d.begun; is = d.is })

-- the shape is as before
pub entered_shape : (command : Command) (text : List ℕ) (colour : ℕ) (w new : World) (answer : Answer)
    → Entered command text colour w new answer → new.shape ≡ w.shape
entered_shape command text colour w new answer (entered g begun may single same) =
    ap (λ (x : World). x.shape) (sym single) ∙ single_shape g w command text colour
entered_shape command text colour w new answer (ended may same end) = ap (λ (x : World). x.shape) (sym same)

-- steps lead there
pub entered_runs : (command : Command) (text : List ℕ) (colour : ℕ) (w new : World) (answer : Answer)
    → Entered command text colour w new answer → RunsTo w new
entered_runs command text colour w new answer (entered g begun may single same) =
    subst (RunsTo w) single (single_to g w command text colour)
entered_runs command text colour w new answer (ended may same end) = subst (RunsTo w) same (stays_there w)

-- the shard of no key, of an object with one colour
pub only_shard : (colours : List ℕ) (colour shard : ℕ) → colours ≡ colour ∷ [] → shard ≡ shard_of colours []
    → shard ≡ colour
only_shard colours colour shard e is = is ∙ ap (λ (l : List ℕ). shard_of l []) e
