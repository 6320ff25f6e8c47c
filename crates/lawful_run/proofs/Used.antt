-- What each answer says of the id that its command used.
use Rattle.std.proofs.Common.{◌≡◌, zero, suc, ◌+◌, ℕ, List, [], ◌∷◌, None, refl, sym, subst, inl, inr, arith}
use Rattle.std.specs.Prelude.{◌≢◌}
use Rattle.log_node.specs.declared.ids.Colours.{Colours}
use Rattle.log_node.specs.Seen.{PlacedNode}
use Rattle.part_fold.specs.Decisions.{decision_text}
use Rattle.col_core.specs.Log.{Log}
use Rattle.col_core.specs.Keeping.{Kept}
use Rattle.script_text.specs.declared.commands.What.{What}
use Rattle.script_text.specs.declared.uses.ReadUse.TheVariants.{Takes}
use Rattle.script_text.specs.declared.uses.Use.{Use}
use Rattle.script_text.specs.declared.uses.Use.TheVariants.{OfObject}
use Rattle.script_text.specs.Commands.{use_of}
use Rattle.script_text.specs.declared.script.Command.{Command}
use Rattle.report_text.specs.declared.report.Answer.{Answer}
use Rattle.report_text.specs.declared.report.Answer.TheVariants as answers
use Rattle.report_text.specs.declared.report.Ended.{Ended}
use Rattle.report_text.specs.declared.report.Ended.TheVariants as ends
use Rattle.report_text.specs.declared.report.ReplyLine.{ReplyLine}
use Rattle.lawful_run.specs.Callers.{Caller}
use Rattle.lawful_run.specs.Asks.{rising}
use Rattle.lawful_run.specs.Deeds.{AsksToAppend, colours_synced}
use Rattle.lawful_run.specs.Parts.{EndsAs}
use Rattle.lawful_run.specs.Refusals.{before_by, kept_before, kept_behind}
use Rattle.lawful_run.specs.Explains.{Explains, Answers}
use Rattle.lawful_run.specs.Readings.{NodeTold, Nowhere, told, told_end}
use Rattle.lawful_run.proofs.Traces.{Quiet, quiet_self, quiet_then, quiet_is, quiet_to, an_event, read, hides, refuses, pulls}
use Rattle.lawful_run.proofs.LettingGo.{before_is, behind_is, asks_before}
use Rattle.lawful_run.proofs.Uses.{Leaves, uses_then, appends_use, unshown_use, no_stamp_use, stop_use, memory_use, quiet_same, then_leaves}
use Rattle.lawful_run.proofs.Decisions.{decide_asks, reads_behind}

-- how the append of a decision ended
ended_use : (log : Log) (caller : Caller) (kept : Kept) (what : What) (said : List ℕ) (ended : Ended) (after : Kept)
    → EndsAs log caller kept what said ended after → Leaves log caller kept what (told_end ended) after
ended_use log caller kept what said (ends.Stood stamp point) after a =
    inr (appends_use log caller kept what a.0 a.1 a.2 _ stamp None (point ∷ []) after (λ f. absurd cc) a.3.1)
ended_use log caller kept what said (ends.StampEnd colour) after a =
    no_stamp_use log caller kept what a.0 a.1 a.2 Nowhere refl colour after a.3.1
ended_use log caller kept what said ends.NoMemory after a = inl (quiet_is a, refl)

explained_use : (log : Log) (caller : Caller) (kept : Kept) (what : What) (answer : Answer) (nodes : List PlacedNode)
    (after : Kept)
    → Explains log caller kept what answer nodes after → Leaves log caller kept what (told answer) after
explained_use log caller kept what answers.NoMemory nodes after e = memory_use log caller kept what after e.1
explained_use log caller kept what (answers.Stood stamp row points) nodes after e =
    inr (appends_use log caller kept what e.2.0 e.2.1 e.2.2 _ stamp row points after (λ f. absurd cc) e.2.3)
explained_use log caller kept what (answers.StampEnd colour) nodes after e =
    no_stamp_use log caller kept what e.2.0 e.2.1 e.2.2 Nowhere refl colour after e.2.3
explained_use log caller kept what (answers.Full used) nodes after e =
    inl (quiet_is e.2, refl)
explained_use log caller kept what (answers.Stopped zero) nodes after e =
    stop_use log caller kept what e.1 e.2
    (subst (λ (w : What). AsksToAppend caller kept w e.1 e.2) (sym e.3) (refl, refl)) Nowhere 0 after
    (λ _. refl) (λ lt. absurd (let f : ⊥ = omega (arith, lt) in f)) e.4
explained_use log caller kept what (answers.Stopped (suc steps)) nodes after e =
    stop_use log caller kept what e.1 e.2
    (subst (λ (w : What). AsksToAppend caller kept w e.1 e.2) (sym e.3) (refl, refl)) _ (suc steps) after
    (λ z. absurd (let f : ⊥ = omega (arith, z) in f)) (λ _ f. absurd cc) e.4
explained_use log caller kept what (answers.Synced sync plays) nodes after e =
    inl (quiet_to _ after e.4 (quiet_same log kept _ refl refl), refl)
explained_use log caller kept what (answers.Scanned stamp count raises syncs) nodes after e =
    inl (read log caller kept _ stamp raises syncs after e.3, refl)
explained_use log caller kept what (answers.Pulled count give carry) nodes after e =
    inl (pulls log caller kept e.1 e.2 count e.4 carry e.6 after e.7 e.8, refl)
explained_use log caller kept what answers.SameRegion nodes after e =
    inl (quiet_is e.1, refl)
explained_use log caller kept what (answers.Based shown base) nodes after e =
    inl (quiet_to _ after e.6 (an_event log kept caller.own e.1 e.3 _ e.5.trimmed tt), refl)
explained_use log caller kept what (answers.Got value sync) nodes after e =
    inl (quiet_to _ after e.3 (quiet_same log kept _ refl refl), refl)
explained_use log caller kept what (answers.GotMany values sync) nodes after e =
    inl (quiet_to _ after e.7 (quiet_same log kept _ refl refl), refl)
explained_use log caller kept what (answers.GotKeys stamp shown raises syncs) nodes after e =
    let t = e.2 in
    let before = read log caller kept (colours_synced caller what) stamp raises syncs e.1 t.0 in
    elim t.5 [
      | inl g ↦ inl (quiet_to e.1 after g.4 before, refl)
      | inr g ↦ inl (quiet_to _ after g.4 (quiet_then before (quiet_same log e.1 _ refl refl)), refl)
    ]
explained_use log caller kept what (answers.Ruled conflict stamp row points read_stamp raises syncs) nodes after e =
    let a = e.1.1 in
    let s = a.3 in
    inr (uses_then (appends_use log caller kept what a.0 a.1 a.2 _ s.0 row points s.1 (λ f. absurd cc) s.2)
    (read log caller s.1 _ read_stamp raises syncs after s.3.0))
explained_use log caller kept what (answers.Changed failed stamp row points read_stamp raises syncs) nodes after e =
    let a = e.1.1 in
    let s = a.3 in
    inr (uses_then (appends_use log caller kept what a.0 a.1 a.2 _ s.0 row points s.1 (λ f. absurd cc) s.2)
    (read log caller s.1 _ read_stamp raises syncs after s.3.0))
explained_use log caller kept what (answers.Listed names stamp raises syncs) nodes after e =
    inl (read log caller kept (colours_synced caller what) stamp raises syncs after e.4.0, refl)
explained_use log caller kept what (answers.Undecided stamp sync) nodes after e =
    inl (quiet_to _ after e.3 (quiet_same log kept _ refl refl), refl)
explained_use log caller kept what (answers.Decided commits stamp sync read_stamp raises syncs ended) nodes after e =
    let d = e.3 in
    then_leaves (reads_behind log caller kept sync (rising e.1) read_stamp raises syncs d.read d.tells.0)
    (decide_asks caller d.read kept what sync e.1 e.2)
    (ended_use log caller d.read what (decision_text (record { key = d.waits; commits = commits })) ended after d.ends)
explained_use log caller kept what (answers.Moved lined waiting colour events) nodes after e =
    inl (quiet_to _ after e.5 (quiet_same log kept _ refl refl), refl)
explained_use log caller kept what answers.NoTx nodes after e =
    inl (quiet_is e.1, refl)
explained_use log caller kept what (answers.Took value point sync) nodes after e =
    let a = e.3 in
    let s = a.3 in
    inr (uses_then (appends_use log caller kept what a.0 a.1 a.2 _ s.0 None (point ∷ []) s.1 (λ f. absurd cc) s.2)
    (quiet_to _ after s.5 (quiet_same log s.1 _ refl refl)))
explained_use log caller kept what (answers.UnreadTrimmed stamp colour base) nodes after e =
    let a = e.2 in
    let s = a.3 in
    inr (uses_then (unshown_use log caller kept what a.0 a.1 a.2 _ stamp s.0 (λ f. absurd cc) s.1)
    (refuses log caller s.0 _ _ colour base after s.2))
explained_use log caller kept what (answers.UnreadNoMemory stamp) nodes after e =
    let a = e.2 in
    let s = a.3 in
    inr (uses_then (unshown_use log caller kept what a.0 a.1 a.2 _ stamp s.0 (λ f. absurd cc) s.1)
    (hides log caller s.0 _ _ after s.2))
explained_use log caller kept what (answers.Trimmed colour base) nodes after e =
    inl (refuses log caller kept _ _ colour base after e.2, refl)
explained_use log caller kept what (answers.NotHome home) nodes after e =
    inl (quiet_is e.1, refl)

-- a read that lets an earlier one go uses no id
before_use : (log : Log) (caller : Caller) (what : What) (kept : Kept) (tells : NodeTold) (after : Kept)
    → Leaves log caller (kept_before what kept) what tells after → Leaves log caller kept what tells after
before_use log caller what kept tells after =
    by (use_of what) (λ colours text. asks_before caller what kept colours text) where
      by : (u : Use) → ((colours : Colours) (text : List ℕ)
          → AsksToAppend caller (before_by u kept) what colours text → AsksToAppend caller kept what colours text)
          → Leaves log caller (before_by u kept) what tells after → Leaves log caller kept what tells after
      by (OfObject object Takes) asks (inl q) = inl (record { ids = q.0.ids; made = q.0.made }, q.1)
      by (OfObject object Takes) asks (inr u) = inr (record {
        colours = u.colours;
        text = u.text;
        asks = asks u.colours u.text u.asks;
        over = u.over;
        next = u.next;
        ids = u.ids;
        fate = u.fate;
        made = u.made;
      })
      by _ asks l = l

pub before_ids : (what : What) (kept : Kept) → (kept_before what kept).ids ≡ kept.ids
before_ids what kept = before_is (λ (k : Kept). k.ids ≡ kept.ids) what kept refl (λ _. refl)

behind_quiet : (log : Log) (what : What) (kept : Kept) → Quiet log kept (kept_behind what kept)
behind_quiet log what kept = behind_is (Quiet log kept) what kept (quiet_self log kept)
    (λ object. quiet_same log kept _ refl refl)

-- what an answered command uses
pub answer_use : (log : Log) (caller : Caller) (kept : Kept) (command : Command) (reply : ReplyLine) (after : Kept)
    → Answers log caller kept command reply after
    → Leaves log caller kept command.what (told reply.answer) after
answer_use log caller kept command reply after a =
    before_use log caller command.what kept (told reply.answer) after
    (turn (explained_use log caller (kept_before command.what kept) command.what reply.answer reply.nodes a.answered
    a.explained)) where
      last : Quiet log a.answered after
      last = quiet_to _ after a.after_is (behind_quiet log command.what a.answered)

      turn : Leaves log caller (kept_before command.what kept) command.what (told reply.answer) a.answered
          → Leaves log caller (kept_before command.what kept) command.what (told reply.answer) after
      turn (inl q) = inl (quiet_then q.0 last, q.1)
      turn (inr u) = inr (uses_then u last)

-- a command whose answer tells of a node used its id
pub answer_used : (log : Log) (caller : Caller) (kept : Kept) (command : Command) (reply : ReplyLine) (after : Kept)
    → Answers log caller kept command reply after → told reply.answer ≢ Nowhere → after.ids ≡ kept.ids + 1
answer_used log caller kept command reply after a tells = elim (answer_use log caller kept command reply after a) [
  | inl q ↦ absurd (tells q.1)
  | inr u ↦ u.ids
]
