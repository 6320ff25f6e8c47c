-- The nodes of steps by what decisions say: those of two families that agree below a stamp, and the texts that rest on them.
use Rattle.std.proofs.Common.{◌≡◌, ◌⊎◌, ◌∙◌, refl, ap, sym, subst, Bool, true, false, ℕ, zero, suc, ◌≤◌, List, [], ◌∷◌, ◌++◌, map, Option, Some, None, inl, inr, arith}
use Rattle.std.specs.Prelude.{max, slice_get, if◌then◌else◌}
use Rattle.std.specs.List.{AllZip}
use Rattle.log_node.specs.declared.forms.Version.{Version}
use Rattle.log_node.specs.declared.node.Node.{Node}
use Rattle.log_node.proofs.CallerLemmas.{same_some}
use Rattle.tree_fold.specs.declared.change.Change.{Change}
use Rattle.tree_fold.specs.Readings.{below_root_of, make_of, remove_of, move_of}
use Rattle.part_fold.specs.declared.decision.Decision.{Decision}
use Rattle.part_fold.specs.Decisions.{decision_text}
use Rattle.col_core.specs.Log.{Log}
use Rattle.col_core.specs.Keeping.{Kept, nothing_kept}
use Rattle.script_text.specs.Commands.{use_of}
use Rattle.script_text.specs.declared.commands.What.{What}
use Rattle.script_text.specs.declared.commands.What.TheVariants as whats
use Rattle.script_text.specs.declared.script.Command.{Command}
use Rattle.script_text.specs.declared.script.Kind.{Kind}
use Rattle.script_text.specs.declared.script.Script.{Script}
use Rattle.report_text.specs.declared.report.Answer.{Answer}
use Rattle.report_text.specs.declared.report.Answer.TheVariants as answers
use Rattle.report_text.specs.declared.report.Ended.{Ended}
use Rattle.report_text.specs.declared.report.Ended.TheVariants as ends
use Rattle.report_text.specs.declared.report.ReplyLine.{ReplyLine}
use Rattle.report_text.specs.declared.report.Report.{Report}
use Rattle.lawful_run.specs.Asks.{kind_asked, object_colours}
use Rattle.lawful_run.specs.Callers.{Caller, caller_of, commands_of, node_of}
use Rattle.lawful_run.specs.Deeds.{TextSaid, Exactly, ADecision, Saying, found_by, saying_of, says_change}
use Rattle.lawful_run.specs.Reads.{kept_after_piece}
use Rattle.run_rules.specs.Computing.{answer_in, answer_to}
use Rattle.run_rules.specs.Nodes.{node_asked, node_at_end, node_said, node_told, nodes_of, nodes_with, set_reached, text_told}
use Rattle.run_rules.specs.Said.{with_text}
use Rattle.run_rules.specs.Telling.{log_of, no_nodes, places_shown, replies_to, step_finding, steps_finding}
use Rattle.run_rules.specs.Told.{Step, is_several, kept_after_raises, kept_after_syncs, kept_at, kept_deciding, kept_past}
use Rattle.object_law.specs.Decided.{IsReadFrom, decider, text_decided}

-- NODES FROM A STAMP ON

-- a node whose floor is at the stamp or above, or the same node
abbrev pub SameFrom : ℕ → Node → Node → Type 0
SameFrom w p q = (w ≤ p.floor) ⊎ (p ≡ q)

zip_append : (w : ℕ) (xs us ys vs : List Node) → AllZip (SameFrom w) xs ys → AllZip (SameFrom w) us vs
    → AllZip (SameFrom w) (xs ++ us) (ys ++ vs)
zip_append w [] us [] vs r s = s
zip_append w [] us (y ∷ ys) vs r s = absurd r
zip_append w (x ∷ xs) us [] vs r s = absurd r
zip_append w (x ∷ xs) us (y ∷ ys) vs r s = (r.0, zip_append w xs us ys vs r.1 s)

zip_same : (w : ℕ) (xs : List Node) → AllZip (SameFrom w) xs xs
zip_same w [] = tt
zip_same w (x ∷ xs) = (inr refl, zip_same w xs)

larger : (w a b : ℕ) → w ≤ b → w ≤ max a b
larger w a b le = omega (arith, le)

said_from : (w : ℕ) (d e : Decision) (caller : Caller) (kept : Kept) → w ≤ kept.floor → (own : List ℕ) (saying : Option Saying)
    → AllZip (SameFrom w) (node_said d caller kept own saying) (node_said e caller kept own saying)
said_from w d e caller kept le own None = tt
said_from w d e caller kept le own (Some saying) = (inl le, tt)

end_from : (w : ℕ) (d e : Decision) (caller : Caller) (kept : Kept) → w ≤ kept.floor → (what : What) (ended : Ended)
    → AllZip (SameFrom w) (node_at_end d caller kept what ended) (node_at_end e caller kept what ended)
end_from w d e caller kept le what (ends.Stood stamp point) =
    said_from w d e caller kept le (object_colours (kind_asked caller what))
    (saying_of (kind_asked caller what) (found_by (use_of what) kept) what)
end_from w d e caller kept le what _ = tt

-- the node of a decision stands above the stamp of its read
told_from : (w : ℕ) (d e : Decision) (log : Log) (caller : Caller) (kept : Kept) (what : What) (answer : Answer)
    → IsReadFrom w answer → AllZip (SameFrom w) (node_told d log caller kept what answer) (node_told e log caller kept what answer)
told_from w d e log caller kept what (answers.Decided commits stamp sync read_stamp raises syncs ended) le =
    end_from w d e caller (kept_deciding log caller kept sync read_stamp raises syncs)
    (larger w (kept_after_syncs log caller (kept_after_raises caller (kept_after_piece log caller kept sync) raises) syncs).floor
    read_stamp le) what ended
told_from w d e log caller kept what _ le = absurd le

left_from : (w : ℕ) (log : Log) (caller : Caller) (steps : List Step) (d e : ℕ → Decision)
    → ((k : ℕ) (s : Step) → slice_get steps k ≡ Some s → (d k ≡ e k) ⊎ IsReadFrom w s.reply.answer)
    → AllZip (SameFrom w) (nodes_of d log caller steps) (nodes_of e log caller steps)
left_from w log caller [] d e f = tt
left_from w log caller (s ∷ ss) d e f =
    zip_append w (told (d 0)) (nodes_of (λ k. d (suc k)) log caller ss) (told (e 0)) (nodes_of (λ k. e (suc k)) log caller ss)
    (by (f 0 s refl)) (left_from w log caller ss (λ k. d (suc k)) (λ k. e (suc k)) (λ k t at. f (suc k) t at)) where
      told : Decision → List Node
      told x = node_told x log caller (kept_at s) s.command.what s.reply.answer

      by : (d 0 ≡ e 0) ⊎ IsReadFrom w s.reply.answer → AllZip (SameFrom w) (told (d 0)) (told (e 0))
      by (inl same) = subst (λ (x : Decision). AllZip (SameFrom w) (told (d 0)) (told x)) same (zip_same w (told (d 0)))
      by (inr le) = told_from w (d 0) (e 0) log caller (kept_at s) s.command.what s.reply.answer le

-- the step in a place has the answer to its command
step_answer : (log : Log) (caller : Caller) (shown : ℕ → ℕ → List ℕ) (found : ℕ → List Version) (kept : Kept) (cs : List Command)
    (rs : List ReplyLine) (k : ℕ) (s : Step) → slice_get (steps_finding log caller shown found kept cs rs) k ≡ Some s
    → answer_in (slice_get rs k) ≡ s.reply.answer
step_answer log caller shown found kept [] rs k s e = absurd (let f : ⊥ = cc (e) in f)
step_answer log caller shown found kept (c ∷ cs) [] k s e = absurd (let f : ⊥ = cc (e) in f)
step_answer log caller shown found kept (c ∷ cs) (r ∷ rs) zero s e = ap (λ (t : Step). t.reply.answer) (same_some e)
step_answer log caller shown found kept (c ∷ cs) (r ∷ rs) (suc k) s e =
    step_answer log caller shown (λ n. found (suc n)) (kept_past log caller (step_finding log caller shown (found 0) kept c r)) cs rs
    k s e

-- nodes by decisions that agree below a stamp
pub all_from : (script : Script) (report : Report) (found : ℕ → ℕ → List Version) (w : ℕ) (d e : ℕ → ℕ → Decision)
    → ((n k : ℕ) → (d n k ≡ e n k) ⊎ IsReadFrom w (answer_to report n k)) → (n : ℕ)
    → AllZip (SameFrom w) (nodes_with script report found d n) (nodes_with script report found e n)
all_from script report found w d e same n =
    left_from w log caller
    (steps_finding log caller (places_shown script report n) (found n) nothing_kept (commands_of script n) (replies_to report n))
    (d n) (e n) (λ k s at. by k s at (same n k)) where
      log : Log
      log = log_of report no_nodes

      caller : Caller
      caller = caller_of script n

      by : (k : ℕ) (s : Step)
          → slice_get (steps_finding log caller (places_shown script report n) (found n) nothing_kept (commands_of script n)
          (replies_to report n)) k ≡ Some s
          → (d n k ≡ e n k) ⊎ IsReadFrom w (answer_to report n k) → (d n k ≡ e n k) ⊎ IsReadFrom w s.reply.answer
      by k s at (inl e) = inl e
      by k s at (inr le) =
          inr (subst (IsReadFrom w)
          (step_answer log caller (places_shown script report n) (found n) nothing_kept (commands_of script n) (replies_to report n)
          k s at) le)

-- TEXTS THAT REST ON A DECISION

-- the text of a decision that a command says
abbrev pub text_by : Decision → What → Option (List ℕ)
text_by d (whats.Decide object key) = Some (decision_text d)
text_by d _ = None

abbrev IsOther : What → Type 0
IsOther (whats.Decide object key) = ⊥
IsOther _ = Unit {0}

decides_or : (what : What) → IsOther what ⊎ ((object : ℕ) × (key : List ℕ) × (what ≡ whats.Decide object key))
decides_or (whats.Decide object key) = inr (object, key, refl)
decides_or _ = inl tt

other_text : (d : Decision) (what : What) → IsOther what → text_by d what ≡ None
other_text d (whats.Decide object key) o = absurd o
other_text d _ o = refl

abbrev IsPlainText : TextSaid → Type 0
IsPlainText (Exactly text) = Unit {0}
IsPlainText ADecision = ⊥

abbrev IsPlain : Option Saying → Type 0
IsPlain None = Unit {0}
IsPlain (Some saying) = IsPlainText saying.text

change_plain : (change : Option Change) → IsPlain (says_change change)
change_plain None = tt
change_plain (Some change) = tt

-- a command that does not decide says one text
plain : (kind : Option Kind) (found : Option (List Version)) (what : What) → IsOther what → IsPlain (saying_of kind found what)
plain kind None (whats.Commit object pairs) o = tt
plain kind (Some versions) (whats.Commit object pairs) o = tt
plain kind found (whats.Mk object path value) o = change_plain (make_of (below_root_of path) value)
plain kind found (whats.Rm object path) o = change_plain (remove_of (below_root_of path))
plain kind found (whats.Mv object source target) o = change_plain (move_of (below_root_of source) (below_root_of target))
plain kind found (whats.Decide object key) o = absurd o
plain kind found _ o = tt

module _ (d e : Decision) (caller : Caller) where
  text_same : (t : TextSaid) → IsPlainText t → text_told d t ≡ text_told e t
  text_same (Exactly text) p = refl
  text_same ADecision p = absurd p

  plain_again : (kept : Kept) (own : List ℕ) (saying : Option Saying) → IsPlain saying
      → node_said d caller kept own saying ≡ map (with_text None) (node_said e caller kept own saying)
  plain_again kept own None p = refl
  plain_again kept own (Some saying) p =
      ap (λ (t : List ℕ). node_of caller kept (set_reached own saying.reach) t ∷ []) (text_same saying.text p)

  asked_again : (what : What) (kept : Kept)
      → node_asked d caller kept what ≡ map (with_text (text_by d what)) (node_asked e caller kept what)
  asked_again what kept = by (decides_or what) where
    by : IsOther what ⊎ ((object : ℕ) × (key : List ℕ) × (what ≡ whats.Decide object key))
        → node_asked d caller kept what ≡ map (with_text (text_by d what)) (node_asked e caller kept what)
    by (inl o) =
        plain_again kept (object_colours (kind_asked caller what)) (saying_of (kind_asked caller what) (found_by (use_of what) kept) what)
        (plain (kind_asked caller what) (found_by (use_of what) kept) what o)
        ∙ ap (λ (t : Option (List ℕ)). map (with_text t) (node_asked e caller kept what)) (sym (other_text d what o))
    by (inr x) =
        subst (λ (w : What). node_asked d caller kept w ≡ map (with_text (text_by d w)) (node_asked e caller kept w)) (sym x.2) refl

  if_again : (f : Node → Node) (b : Bool) (xs ys : List Node) → xs ≡ map f ys
      → (if b then xs else []) ≡ map f (if b then ys else [])
  if_again f true xs ys same = same
  if_again f false xs ys same = refl

  end_again : (what : What) (kept : Kept) (ended : Ended)
      → node_at_end d caller kept what ended ≡ map (with_text (text_by d what)) (node_at_end e caller kept what ended)
  end_again what kept (ends.Stood stamp point) = asked_again what kept
  end_again what kept _ = refl

  -- another decision changes the texts of decisions alone
  pub told_again : (log : Log) (kept : Kept) (what : What) (answer : Answer)
      → node_told d log caller kept what answer ≡ map (with_text (text_by d what)) (node_told e log caller kept what answer)
  told_again log kept what (answers.Stood stamp row points) = asked_again what kept
  told_again log kept what (answers.StampEnd colour) =
      if_again (with_text (text_by d what)) (is_several caller kept what) (node_asked d caller kept what)
      (node_asked e caller kept what) (asked_again what kept)
  told_again log kept what (answers.Stopped zero) = refl
  told_again log kept what (answers.Stopped (suc steps)) = asked_again what kept
  told_again log kept what (answers.Ruled conflict stamp row points read_stamp raises syncs) = asked_again what kept
  told_again log kept what (answers.Changed failed stamp row points read_stamp raises syncs) = asked_again what kept
  told_again log kept what (answers.Took value point sync) = asked_again what kept
  told_again log kept what (answers.Decided commits stamp sync read_stamp raises syncs ended) =
      end_again what (kept_deciding log caller kept sync read_stamp raises syncs) ended
  told_again log kept what _ = refl

-- by the place of the command it is the same text
pub decider_text : (decided : ℕ → Decision) (what : What) (place : ℕ)
    → text_decided decided (decider what place) ≡ text_by (decided place) what
decider_text decided (whats.Decide object key) place = refl
decider_text decided _ place = refl
