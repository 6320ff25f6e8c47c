-- A client that is served one command after another.
use Rattle.std.proofs.Common.{◌≡◌, ◌⊎◌, ℕ, ◌+◌, List, [], ◌∷◌, ◌++◌, length, Option, Some, slice_get, refl, ap, sym, subst, ◌∙◌, inl, inr, arith, append_assoc, eqb-true, length-append}
use Rattle.std.specs.Prelude.{◌≢◌, ◌==◌, IsTrue}
use Rattle.std.proofs.lemmas.List.Kept.{AllPairs-filter}
use Rattle.std.proofs.lemmas.Option.{get_or_from_slice_get, slice_get_within}
use Rattle.log_node.specs.declared.node.Shape.{Shape}
use Rattle.col_core.specs.Keeping.{nothing_kept}
use Rattle.col_core.proofs.CallerLemmas.{contains_in, in_contains, in_filter, in_left, in_right, slice_in}
use Rattle.script_text.specs.declared.script.Command.{Command}
use Rattle.script_text.specs.declared.script.Object.{Object}
use Rattle.script_text.specs.declared.script.Script.{Script}
use Rattle.script_text.specs.Items.{is_stop}
use Rattle.report_text.specs.declared.report.ReplyLine.{ReplyLine}
use Rattle.lawful_run.specs.Asks.{may_help}
use Rattle.lawful_run.specs.Deeds.{manner_of}
use Rattle.lawful_run.specs.Callers.{Caller, commands_of}
use Rattle.lawful_run.specs.Explains.{start}
use Rattle.lawful_run.specs.Refusals.{kept_behind}
use Rattle.client_law.specs.Kept.{IsKeptBy}
use Rattle.client_law.specs.Knowing.{IsExplainedBy}
use Rattle.client_law.proofs.CallerLemmas.{replies_last}
use Rattle.script_meaning.specs.States.{StopsAreLast}
use Rattle.log_client.specs.declared.client.Client.{Client}
use Rattle.log_client.specs.declared.store.Store.{Store}
use Rattle.log_client.specs.Calls.{IsSame}
use Rattle.log_client.specs.Clients.{Finished, Helps, caller_of, holds_of, nodes_of_rows, seen_of}
use Rattle.log_client.specs.Fits.{FitsHolds}
use Rattle.log_client.specs.Forgetting.{HasForgotten}
use Rattle.log_client.specs.Opening.{IsNewClient}
use Rattle.log_client.proofs.CallerLemmas.{client_sees_on, fits_less, rests_forgotten, same_caller}
use Rattle.run_script.specs.declared.serving.opened.Opened.{Opened}
use Rattle.run_script.specs.Opened.{AreUnopened}
use Rattle.run_script.specs.Serving.{HasStopped, IsAnswered, MayHelp, Serves, StopsLast, WasServed}
use Rattle.run_script.proofs.ReadsFound.{none_found}

-- a new client has no replies, and has opened none of the objects
pub serves_none : (shape : Shape) (s : Store) (objects : List Object) (n : ℕ) (c : Client) (slots : List (Option Opened))
    → IsNewClient shape s n c → AreUnopened objects slots → Serves s objects c slots [] []
serves_none shape s objects n c slots new unopened = record {
  rests = new.rests;
  kept = nothing_kept;
  keeps = new.keeps objects;
  explained = λ rest fits. start;
  reads = λ rest fits. none_found objects slots unopened;
  finished = inl new.finished;
  helps = λ helps. absurd (new.idle helps);
}

-- of more commands one may help that was among fewer
may_help_more : (done : List Command) (command : Command) → MayHelp done → MayHelp (done ++ command ∷ [])
may_help_more done command m = (
  m.0,
  contains_in (done ++ command ∷ []) m.0 (in_left m.0 done (command ∷ []) (in_contains done m.0 m.1)),
  m.2,
)

may_help_last : (done : List Command) (command : Command) → IsTrue (may_help (manner_of command.what))
    → MayHelp (done ++ command ∷ [])
may_help_last done command may = (
  command,
  contains_in (done ++ command ∷ []) command (in_right command done (command ∷ []) (inl refl)),
  may,
)

-- one command more, of a client who has finished
pub serves_next : (s : Store) (objects : List Object) (c d : Client) (xs ys : List (Option Opened)) (done : List Command)
    (replies : List ReplyLine) (command : Command) (reply : ReplyLine) → Serves s objects c xs done replies → Finished c
    → IsAnswered s objects c d xs ys command reply
    → Serves s objects d ys (done ++ command ∷ []) (replies ++ reply ∷ [])
serves_next s objects c d xs ys done replies command reply v finished a =
    let left = a.2 in
    let e = left.explained v.kept finished v.keeps v.reads in record {
      rests = left.rests;
      kept = kept_behind command.what e.0;
      keeps = e.1;
      explained = replies_last (seen_of c) (seen_of d) (FitsHolds (holds_of c)) (FitsHolds (holds_of d)) (caller_of s d objects) done
          replies v.kept (kept_behind command.what e.0) command reply (client_sees_on s c d objects left.rests left.goes)
          (λ rest fits. fits_less (holds_of c) (holds_of d) rest left.goes fits)
          (subst (λ (who : Caller). IsExplainedBy (seen_of c) (FitsHolds (holds_of c)) who done replies v.kept)
          (same_caller s c d objects left.same) v.explained)
          (λ rest fits. record {
            line = a.0;
            word = a.1;
            answered = e.0;
            explained = (e.2 rest fits).0;
            after_is = refl;
            away = left.away;
          });
      reads = λ rest fits. (e.2 rest fits).1;
      finished = elim (left.finished finished) [
        | inl still ↦ inl still
        | inr stop ↦ inr (record {
          before = done;
          command = command;
          asked = refl;
          stops = stop.0;
          earlier = replies;
          reply = reply;
          replied = refl;
          stopped = stop.1;
        })
      ];
      helps = λ helps. elim (left.helps helps) [
        | inl before ↦ may_help_more done command (v.helps before)
        | inr may ↦ may_help_last done command may
      ];
    }

-- WHAT THE END NEEDS

pub was_served : (s : Store) (objects : List Object) (c : Client) (xs : List (Option Opened)) (commands : List Command)
    (replies : List ReplyLine) → Serves s objects c xs commands replies → WasServed s objects c commands replies
was_served s objects c xs commands replies v = record {
  rests = v.rests;
  kept = v.kept;
  by = v.keeps.by;
  ids = v.keeps.ids;
  rows = v.keeps.rows;
  explained = v.explained;
  finished = v.finished;
  helps = v.helps;
}

-- of a client that then forgets what it played the same holds
pub forgotten : (s : Store) (objects : List Object) (c d : Client) (commands : List Command) (replies : List ReplyLine)
    → WasServed s objects c commands replies → HasForgotten c d → WasServed s objects d commands replies
forgotten s objects c d commands replies v f =
    let is = sym f.rest in record {
      rests = rests_forgotten s c d v.rests f;
      kept = v.kept;
      by = subst (λ (x : Client). IsKeptBy (seen_of x) (caller_of s x objects) v.kept) is v.by;
      ids = subst (λ (x : Client). v.kept.ids ≡ x.count) is v.ids;
      rows = subst (λ (x : Client). v.kept.rows ≡ length (nodes_of_rows x)) is v.rows;
      explained = subst (λ (x : Client). IsExplainedBy (seen_of x) (FitsHolds (holds_of x)) (caller_of s x objects) commands replies
          v.kept) is v.explained;
      finished = subst (λ (x : Client). Finished x ⊎ HasStopped commands replies) is v.finished;
      helps = subst (λ (x : Client). Helps x → MayHelp commands) is v.helps;
    }

-- it is the same client
pub forgets_same : (b c d : Client) → IsSame b c → HasForgotten c d → IsSame b d
forgets_same b c d same f = subst (IsSame b) (sym f.rest) same

-- A STOP IS THE LAST

at_middle : {A : Type 0} (before after : List A) (x : A) → slice_get (before ++ x ∷ after) (length before) ≡ Some x
at_middle [] after x = refl
at_middle (y ∷ before) after x = at_middle before after x

pub stops_last_of : (script : Script) → StopsAreLast script → (n : ℕ) → StopsLast (commands_of script n)
stops_last_of script stops n before [] command is stop = refl
stops_last_of script stops n before (next ∷ after) command is stop =
    let all = commands_of script n in
    let pairs = AllPairs-filter (λ (c d : Command). IsTrue (is_stop c.what) → d.client ≢ c.client)
    (λ (c : Command). c.client == n) script.commands stops in
    let i = length before in
    let here : slice_get all i ≡ Some command = ap (λ (l : List Command). slice_get l i) is ∙ at_middle before (next ∷ after) command in
    let front = length-append before (command ∷ []) in
    let long : length (before ++ command ∷ []) ≡ i + 1 = omega (arith, front) in
    let split : all ≡ (before ++ command ∷ []) ++ next ∷ after = is ∙ sym (append_assoc before (command ∷ []) (next ∷ after)) in
    let there : slice_get all (i + 1) ≡ Some next =
    ap (λ (l : List Command). slice_get l (i + 1)) split
    ∙ (ap (slice_get ((before ++ command ∷ []) ++ next ∷ after)) (sym long) ∙ at_middle (before ++ command ∷ []) after next) in
    let differ = pairs i (i + 1) command (omega arith) (slice_get_within all (i + 1) next there) in
    let of_n = λ (k : ℕ) (c : Command) (at : slice_get all k ≡ Some c). eqb-true c.client n
    (in_filter (λ (c : Command). c.client == n) c script.commands (slice_in all k c at)).1 in
    let one = get_or_from_slice_get all i command command here in
    let two = get_or_from_slice_get all (i + 1) next command there in
    absurd (differ (subst (λ (c : Command). IsTrue (is_stop c.what)) (sym one) stop)
    (ap (λ (c : Command). c.client) two ∙ (of_n (i + 1) next there ∙ (sym (of_n i command here) ∙ ap (λ (c : Command). c.client) (sym one)))))
