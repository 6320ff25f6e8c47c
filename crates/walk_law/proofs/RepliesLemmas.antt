-- Replies beside their commands: what a client's reads are behind a step, and one step more.
use Rattle.std.proofs.Common.{◌≡◌, ◌∙◌, refl, ap, sym, subst, ℕ, ◌+◌, Bool, true, false, cond, List, [], ◌∷◌, length, map, drop, get_or, Option, Some, None}
use Rattle.std.specs.Prelude.{◌==◌, nat_lt, slice_get, slice_index_or}
use Rattle.std.proofs.lemmas.Bool.{ltb-true}
use Rattle.std.proofs.lemmas.List.{drop_more}
use Rattle.std.proofs.lemmas.Option.{get_or_from_slice_get, slice_get_read, slice_get_within}
use Rattle.log_node.specs.declared.forms.Version.{Version}
use Rattle.col_core.specs.Log.{Log}
use Rattle.col_core.specs.Keeping.{Kept, nothing_kept, updated}
use Rattle.script_text.specs.declared.script.Command.{Command}
use Rattle.script_text.specs.declared.uses.ReadUse.TheVariants.{Leaves, Takes, UsesUp}
use Rattle.script_text.specs.declared.uses.Use.{Use}
use Rattle.script_text.specs.declared.uses.Use.TheVariants.{OfLog, OfObject}
use Rattle.script_text.specs.Commands.{use_of, word_of}
use Rattle.report_text.specs.declared.report.Answer.{Answer}
use Rattle.report_text.specs.declared.report.Answer.TheVariants as answers
use Rattle.report_text.specs.declared.report.KeyAnswer.{KeyAnswer}
use Rattle.report_text.specs.declared.report.ReplyLine.{ReplyLine}
use Rattle.column_track.specs.Tracks.{Tells}
use Rattle.lawful_run.specs.Callers.{Caller}
use Rattle.lawful_run.specs.Deeds.{found_by}
use Rattle.lawful_run.specs.Refusals.{before_by, behind_by, kept_before}
use Rattle.run_rules.specs.Told.{Step, kept_at, kept_past, kept_told, with_found}
use Rattle.run_rules.specs.Telling.{step_of, unnamed}
use Rattle.run_rules.specs.Answering.{CanHave}
use Rattle.run_rules.specs.Rules.{IsReplyTo}
use Rattle.run_rules.proofs.CallerLemmas.{found_told, told_reads}
use Rattle.walk_law.specs.Keepings.{IsFoundAt, ShowsKeys}
use Rattle.walk_law.specs.Replies.{AreReadsAt, AreReplies, HasCome, Passed, place_read}
use Rattle.walk_law.proofs.Members.{told_as}

-- A REPLY

pub reply_told : (caller : Caller) (step : Step) (command : Command) (reply : ReplyLine) → step.command ≡ command
    → step.reply ≡ reply → reply.line ≡ command.line → reply.word ≡ word_of command.what → (b : Bool)
    → Tells b (CanHave caller (kept_at step) command.what reply.nodes reply.answer) → Tells b (IsReplyTo caller step)
reply_told caller step command reply asked replied line word b told =
    told_as b (CanHave caller (kept_at step) command.what reply.nodes reply.answer) (IsReplyTo caller step)
    (λ can. record {
      line = ap (λ (r : ReplyLine). r.line) replied ∙ (line ∙ ap (λ (c : Command). c.line) (sym asked));
      word = ap (λ (r : ReplyLine). r.word) replied ∙ (word ∙ ap (λ (c : Command). word_of c.what) (sym asked));
      answer =
          subst (λ (r : ReplyLine). CanHave caller (kept_at step) step.command.what r.nodes r.answer) (sym replied)
          (subst (λ (c : Command). CanHave caller (kept_at step) c.what reply.nodes reply.answer) (sym asked) can);
    })
    (λ is.
    subst (λ (c : Command). CanHave caller (kept_at step) c.what reply.nodes reply.answer) asked
    (subst (λ (r : ReplyLine). CanHave caller (kept_at step) step.command.what r.nodes r.answer) replied is.answer))
    told

-- a commit uses up what it found before a read could let it go
pub found_before : (u : Use) (kept : Kept) → found_by u (before_by u kept) ≡ found_by u kept
found_before (OfObject object Takes) kept = refl
found_before (OfObject object UsesUp) kept = refl
found_before (OfObject object Leaves) kept = refl
found_before (OfLog stops) kept = refl

-- THE READS BEHIND A STEP

abbrev pub Reads : Type 0
Reads = ℕ → Option (List Version)

-- what a reply tells of a read of an object: what it found, or none
abbrev pub found_in : Answer → Option (List Version)
found_in (answers.GotKeys stamp shown raises syncs) = Some (unnamed (answers.GotKeys stamp shown raises syncs))
found_in _ = None

-- the reads behind a command of this use, whose reply tells this of one
abbrev pub reads_by : Use → Option (List Version) → Reads → Reads
reads_by (OfObject object Takes) found reads = updated reads object found
reads_by (OfObject object UsesUp) found reads = updated reads object None
reads_by _ found reads = reads

-- what is kept with what a reply tells of a read
abbrev pub kept_found : Use → Option (List Version) → Kept → Kept
kept_found u None kept = kept
kept_found u (Some found) kept = with_found u found kept

same_found : (log : Log) (caller : Caller) (shown : ℕ → ℕ → List ℕ) (kept : Kept) (command : Command) (reply : ReplyLine)
    (answer : Answer) → reply.answer ≡ answer → (at : Kept)
    → found_told (step_of log caller shown kept command reply).untold at command.what answer
    ≡ kept_found (use_of command.what) (found_in answer) at
same_found log caller shown kept command reply (answers.GotKeys stamp keys raises syncs) is at =
    ap (λ (a : Answer). with_found (use_of command.what) (unnamed a) at) is
same_found log caller shown kept command reply _ is at = refl

twice : (reads : Reads) (object : ℕ) (found : Option (List Version)) (n : ℕ)
    → updated (updated reads object None) object found n ≡ updated reads object found n
twice reads object found n = by (n == object) where
  by : (b : Bool) → cond b found (cond b None (reads n)) ≡ cond b found (reads n)
  by true = refl
  by false = refl

pub chained : (u : Use) (found : Option (List Version)) (kept : Kept) (n : ℕ)
    → (behind_by u (kept_found u found (before_by u kept))).reads n ≡ reads_by u found kept.reads n
chained (OfObject object Takes) None kept n = refl
chained (OfObject object Takes) (Some found) kept n = twice kept.reads object (Some found) n
chained (OfObject object UsesUp) None kept n = refl
chained (OfObject object UsesUp) (Some found) kept n = refl
chained (OfObject object Leaves) None kept n = refl
chained (OfObject object Leaves) (Some found) kept n = refl
chained (OfLog stops) None kept n = refl
chained (OfLog stops) (Some found) kept n = refl

pub behind_reads : (u : Use) (a b : Kept) → a.reads ≡ b.reads → (behind_by u a).reads ≡ (behind_by u b).reads
behind_reads (OfObject object UsesUp) a b e = ap (λ (r : Reads). updated r object None) e
behind_reads _ a b e = e

past_reads : (log : Log) (caller : Caller) (shown : ℕ → ℕ → List ℕ) (kept : Kept) (command : Command) (reply : ReplyLine) (n : ℕ)
    → (kept_past log caller (step_of log caller shown kept command reply)).reads n
    ≡ reads_by (use_of command.what) (found_in reply.answer) kept.reads n
past_reads log caller shown kept command reply n =
    let step = step_of log caller shown kept command reply in
    let at = kept_before command.what kept in
    ap (λ (r : Reads). r n)
    (behind_reads (use_of command.what) (kept_told log step.untold caller at command.what reply.answer)
    (kept_found (use_of command.what) (found_in reply.answer) at)
    (told_reads log step.untold caller at command.what reply.answer
    ∙ ap (λ (k : Kept). k.reads) (same_found log caller shown kept command reply reply.answer refl at)))
    ∙ chained (use_of command.what) (found_in reply.answer) kept n

-- what a reply in this place shows is found there
same_keys : (shown : List KeyAnswer)
    → map (λ (v : Version). v.key) (map (λ (k : KeyAnswer). let v : Version = record { key = k.key; writer = None } in v) shown)
    ≡ map (λ (k : KeyAnswer). k.key) shown
same_keys [] = refl
same_keys (k ∷ ks) = ap (λ (l : List (List ℕ)). k.key ∷ l) (same_keys ks)

pub found_there : (replies : List ReplyLine) (place : ℕ) (reply : ReplyLine) → slice_get replies place ≡ Some reply
    → (answer : Answer) → reply.answer ≡ answer → IsFoundAt replies (found_in answer) (place_read answer place)
found_there replies place reply at (answers.GotKeys stamp shown raises syncs) is =
    (reply, at, subst (ShowsKeys (map (λ (v : Version). v.key) (unnamed (answers.GotKeys stamp shown raises syncs)))) (sym is) (same_keys shown))
found_there replies place reply at _ is = tt

module _ (replies : List ReplyLine) (kept : Kept) (log : Log) (caller : Caller) (shown : ℕ → ℕ → List ℕ) (command : Command)
    (reply : ReplyLine) (places : List (Option ℕ)) where
  abbrev pub Past : Type 0
  Past = AreReadsAt replies (kept_past log caller (step_of log caller shown kept command reply)).reads places

  pub past_by : (u : Use) → use_of command.what ≡ u → AreReadsAt replies (reads_by u (found_in reply.answer) kept.reads) places → Past
  past_by u is reads object lt =
      subst (λ (f : Option (List Version)). IsFoundAt replies f (slice_index_or places object None))
      (sym (past_reads log caller shown kept command reply object
      ∙ ap (λ (v : Use). reads_by v (found_in reply.answer) kept.reads object) is))
      (reads object lt)

-- ONE STEP MORE

-- what was got from a list is there
pub got : (replies : List ReplyLine) (reply : ReplyLine) (at place : ℕ) → at ≡ place → true ≡ nat_lt at (length replies)
    → reply ≡ get_or replies at reply → slice_get replies place ≡ Some reply
got replies reply at place same within is =
    subst (λ (n : ℕ). slice_get replies n ≡ Some reply) same
    (slice_get_read replies (length replies) at reply refl (ltb-true at (length replies) (sym within)) is)

module _ {log : Log} {caller : Caller} {shown : ℕ → ℕ → List ℕ} {all left : List Command} {replies : List ReplyLine}
    {command : Command} (old : Passed) (come : HasCome log caller shown all replies (command ∷ left) old) where
  module _ (reply : ReplyLine) (is : slice_get replies old.next ≡ Some reply) where
    next : drop old.next replies ≡ reply ∷ drop (old.next + 1) replies
    next =
        drop_more replies old.next reply (slice_get_within replies old.next reply is)
        ∙ ap (λ (r : ReplyLine). r ∷ drop (old.next + 1) replies) (get_or_from_slice_get replies old.next reply reply is)

    abbrev step : Step
    step = step_of log caller shown come.kept command reply

    -- the reply is not one to it
    pub not_replied : (IsReplyTo caller step → ⊥) → AreReplies log caller shown nothing_kept all replies → ⊥
    not_replied fails are = fails (subst (AreReplies log caller shown come.kept (command ∷ left)) next (come.from are)).0

    pub replied : IsReplyTo caller step → (new : Passed) → new.next ≡ old.next + 1
        → AreReadsAt replies (kept_past log caller step).reads new.reads → HasCome log caller shown all replies left new
    replied reply_is new more reads = record {
      kept = kept_past log caller step;
      reads = reads;
      to = λ rest. come.to (subst (AreReplies log caller shown come.kept (command ∷ left)) (sym next) (
        reply_is,
        subst (λ (n : ℕ). AreReplies log caller shown (kept_past log caller step) left (drop n replies)) more rest,
      ));
      from = λ are.
          subst (λ (n : ℕ). AreReplies log caller shown (kept_past log caller step) left (drop n replies)) (sym more)
          (subst (AreReplies log caller shown come.kept (command ∷ left)) next (come.from are)).1;
    }
