-- What the answer to an append, a sync or a pull says, where it found memory.
use Rattle.std.proofs.Common.{◌≡◌, ℕ, true, false, List, Option, Some, refl, ap, sym, subst, ◌∙◌, inl, inr}
use Rattle.std.specs.Prelude.{◌≢◌}
use Rattle.log_node.specs.declared.ids.Colours.{Colours}
use Rattle.log_node.specs.declared.ids.Counts.{Counts}
use Rattle.log_node.specs.declared.node.At.{At}
use Rattle.log_node.specs.Seen.{PlacedNode}
use Rattle.col_core.specs.Log.{Log}
use Rattle.col_core.specs.Keeping.{Kept, kept_after_sync}
use Rattle.script_text.specs.declared.commands.What.{What}
use Rattle.script_text.specs.declared.commands.What.TheVariants as whats
use Rattle.script_text.specs.declared.script.Command.{Command}
use Rattle.report_text.specs.declared.report.Answer.{Answer}
use Rattle.report_text.specs.declared.report.Answer.TheVariants as answers
use Rattle.report_text.specs.declared.report.PointPiece.{PointPiece}
use Rattle.report_text.specs.declared.report.ReplyLine.{ReplyLine}
use Rattle.lawful_run.specs.Callers.{Caller, node_of}
use Rattle.lawful_run.specs.Asks.{home_asked, Manner, Appending, Syncing, Moving, Getting, Reading, Committing, Dequeuing, Deciding}
use Rattle.lawful_run.specs.Deeds.{AsksToAppend, colours_synced, manner_of}
use Rattle.lawful_run.specs.Appends.{Appends, HasNoStamp, HasNoRowLeft}
use Rattle.lawful_run.specs.Reads.{Syncs, ShowsPlayed, greatest_stamp}
use Rattle.lawful_run.specs.Moves.{Pulls, kept_after_pull}
use Rattle.lawful_run.specs.Refusals.{Refuses, kept_before, kept_behind}
use Rattle.lawful_run.specs.Explains.{Explains, Answers}
use Rattle.lawful_run.specs.Readings.{told}
use Rattle.lawful_run.proofs.CallerLemmas.{key_gets}
use Rattle.load_script.specs.Summing.{appended, is_node, tells_node}
use Rattle.load_script.specs.Plain.{IsPlainWhat}

pub data Plain : What → Type 0 where
  an_append : (colours : Colours) (text : List ℕ) → Plain (whats.Append colours text)
  a_sync : (colour : ℕ) → Plain (whats.Sync colour)
  a_pull : (region colour : ℕ) → Plain (whats.Pull region colour)

pub plain : (what : What) → IsPlainWhat what → Plain what
plain (whats.Append colours text) p = an_append colours text
plain (whats.Sync colour) p = a_sync colour
plain (whats.Pull region colour) p = a_pull region colour
plain _ p = absurd p

-- what becomes of a client by such a command
pub data Comes (log : Log) (caller : Caller) (kept : Kept) (what : What) (answer : Answer) (after : Kept) : Type 0 where
  stood : (colours : Colours) (text : List ℕ) (stamp : ℕ) (row : Option ℕ) (points : List PointPiece)
      → what ≡ whats.Append colours text → tells_node (told answer) ≡ true
      → Appends log caller kept (node_of caller kept colours text) stamp row points after
      → Comes log caller kept what answer after
  without_stamp : (colours : Colours) (text : List ℕ) (colour : ℕ) → what ≡ whats.Append colours text
      → HasNoStamp log caller kept (node_of caller kept colours text) colour after
      → Comes log caller kept what answer after
  full : (colours : Colours) (text : List ℕ) (used : ℕ) → what ≡ whats.Append colours text → after ≡ kept
      → HasNoRowLeft caller kept colours used → Comes log caller kept what answer after
  synced : (colour events : ℕ) (snapshot : Counts) (nodes : List PlacedNode) → what ≡ whats.Sync colour
      → tells_node (told answer) ≡ false
      → Syncs log caller kept colour events snapshot → ShowsPlayed log caller kept colour events snapshot nodes
      → after ≡ kept_after_sync kept caller.own colour events snapshot (greatest_stamp nodes)
      → Comes log caller kept what answer after
  pulled : (region colour count place : ℕ) (carry : At) (too_low : List ℕ) → what ≡ whats.Pull region colour
      → tells_node (told answer) ≡ false
      → Pulls log caller kept region colour count place carry too_low
      → after ≡ kept_after_pull kept caller.own region colour place carry too_low
      → Comes log caller kept what answer after
  unchanged : is_node (appended what) ≡ false → tells_node (told answer) ≡ false → after ≡ kept
      → Comes log caller kept what answer after

abbrev IsPlainManner : Manner → Type 0
IsPlainManner Appending = Unit {0}
IsPlainManner Syncing = Unit {0}
IsPlainManner Moving = Unit {0}
IsPlainManner _ = ⊥

plain_manner : (what : What) → Plain what → IsPlainManner (manner_of what)
plain_manner _ (an_append colours text) = tt
plain_manner _ (a_sync colour) = tt
plain_manner _ (a_pull region colour) = tt

pub asks_append : (caller : Caller) (kept : Kept) (what : What) (colours : Colours) (text : List ℕ) → Plain what
    → AsksToAppend caller kept what colours text → what ≡ whats.Append colours text
asks_append caller kept _ colours text (an_append set given) a =
    ap (λ (x : Colours). whats.Append x given) (sym a.0) ∙ ap (λ (x : List ℕ). whats.Append colours x) (sym a.1)
asks_append caller kept _ colours text (a_sync colour) a = absurd a
asks_append caller kept _ colours text (a_pull region colour) a = absurd a

no_home : (caller : Caller) (what : What) (home : ℕ) → Plain what → home_asked caller what ≡ Some home → ⊥
no_home caller _ home (an_append colours text) e = let f : ⊥ = cc in f
no_home caller _ home (a_sync colour) e = let f : ⊥ = cc in f
no_home caller _ home (a_pull region colour) e = let f : ⊥ = cc in f

syncs_none : (what : What) → Plain what → manner_of what ≡ Syncing → is_node (appended what) ≡ false
syncs_none _ (an_append colours text) e = absurd (let f : ⊥ = cc in f)
syncs_none _ (a_sync colour) e = refl
syncs_none _ (a_pull region colour) e = refl

module _ (log : Log) (caller : Caller) (kept : Kept) (what : What) (after : Kept) (p : Plain what) where
  other_manner : (m : Manner) → manner_of what ≡ m → IsPlainManner m
  other_manner m e = subst IsPlainManner e (plain_manner what p)

  comes : IsPlainWhat what → (answer : Answer) (nodes : List PlacedNode) → answer ≢ answers.NoMemory
      → Explains log caller kept what answer nodes after → Comes log caller kept what answer after
  comes q answers.NoMemory nodes n e = absurd (n refl)
  comes q (answers.Stood stamp row points) nodes n e =
      let a = e.2 in
      stood a.0 a.1 stamp row points (asks_append caller kept what a.0 a.1 p a.2) refl a.3
  comes q (answers.StampEnd colour) nodes n e =
      let a = e.2 in
      without_stamp a.0 a.1 colour (asks_append caller kept what a.0 a.1 p a.2) a.3
  comes q (answers.Full used) nodes n e =
      let a = e.3 in
      full a.0 a.1 used (asks_append caller kept what a.0 a.1 p a.2) e.2 a.3
  comes q (answers.Stopped steps) nodes n e = absurd (subst IsPlainWhat e.3 q)
  comes q (answers.Synced sync plays) nodes n e =
      synced sync.colour sync.events sync.counts nodes e.0 refl e.2 e.3 e.4
  comes q (answers.Scanned stamp count raises syncs) nodes n e = absurd (subst IsPlainWhat e.1 q)
  comes q (answers.Pulled count give carry) nodes n e = pulled e.1 e.2 count e.4 carry e.6 e.3 refl e.7 e.8
  comes q answers.SameRegion nodes n e = unchanged (ap (λ (w : What). is_node (appended w)) e.3) refl e.1
  comes q (answers.Based shown base) nodes n e = absurd (subst IsPlainWhat e.2 q)
  comes q (answers.Got value sync) nodes n e = elim e.1.2 [
    | inl g ↦ absurd (other_manner Getting (key_gets what g.2.0 g.1 g.2.1))
    | inr g ↦ absurd (subst IsPlainWhat g.1.2 q)
  ]
  comes q (answers.GotMany values sync) nodes n e = absurd (other_manner Getting (key_gets what e.1 e.2 e.3))
  comes q (answers.GotKeys stamp shown raises syncs) nodes n e = let t = e.2 in elim t.5 [
    | inl g ↦ absurd (subst IsPlainWhat g.2 q)
    | inr g ↦ absurd (subst IsPlainWhat g.2 q)
  ]
  comes q (answers.Ruled conflict stamp row points read_stamp raises syncs) nodes n e =
      absurd (other_manner Committing e.1.0)
  comes q (answers.Changed failed stamp row points read_stamp raises syncs) nodes n e =
      absurd (other_manner Committing e.1.0)
  comes q (answers.Listed names stamp raises syncs) nodes n e = absurd (subst IsPlainWhat e.3 q)
  comes q (answers.Undecided stamp sync) nodes n e =
      let u = e.1.2 in absurd (other_manner Getting (key_gets what u.3.0 u.2 u.3.1))
  comes q (answers.Decided commits stamp sync read_stamp raises syncs ended) nodes n e = absurd (subst IsPlainWhat e.2.2 q)
  comes q (answers.Moved lined waiting colour events) nodes n e = absurd (subst IsPlainWhat e.2 q)
  comes q answers.NoTx nodes n e = absurd (subst IsPlainWhat e.4 q)
  comes q (answers.Took value point sync) nodes n e = absurd (other_manner Dequeuing e.1)
  comes q (answers.UnreadTrimmed stamp colour base) nodes n e = elim e.1 [
    | inl m ↦ absurd (other_manner Committing m)
    | inr m ↦ absurd (other_manner Dequeuing m)
  ]
  comes q (answers.UnreadNoMemory stamp) nodes n e = elim e.1 [
    | inl m ↦ absurd (other_manner Committing m)
    | inr m ↦ absurd (other_manner Dequeuing m)
  ]
  comes q (answers.Trimmed colour base) nodes n e = elim e.1 [
    | inl m ↦
        let r : Refuses log caller kept (colours_synced caller what) Syncing colour base after =
        subst (λ (x : Manner). Refuses log caller kept (colours_synced caller what) x colour base after) m e.2 in
        unchanged (syncs_none what p m) refl r.2
    | inr (inl m) ↦ absurd (other_manner Getting m)
    | inr (inr (inl m)) ↦ absurd (other_manner Reading m)
    | inr (inr (inr m)) ↦ absurd (other_manner Deciding m)
  ]
  comes q (answers.NotHome home) nodes n e = absurd (no_home caller what home p e.2)

same_before : (what : What) (kept : Kept) → Plain what → kept_before what kept ≡ kept
same_before _ kept (an_append colours text) = refl
same_before _ kept (a_sync colour) = refl
same_before _ kept (a_pull region colour) = refl

same_behind : (what : What) (kept : Kept) → Plain what → kept_behind what kept ≡ kept
same_behind _ kept (an_append colours text) = refl
same_behind _ kept (a_sync colour) = refl
same_behind _ kept (a_pull region colour) = refl

-- what becomes of a client by a command that is answered so
pub answer_comes : (log : Log) (caller : Caller) (kept : Kept) (command : Command) (reply : ReplyLine) (after : Kept)
    → IsPlainWhat command.what → reply.answer ≢ answers.NoMemory → Answers log caller kept command reply after
    → Comes log caller kept command.what reply.answer after
answer_comes log caller kept command reply after q n a =
    let p = plain command.what q in
    let same = a.after_is ∙ same_behind command.what a.answered p in
    let before : Comes log caller (kept_before command.what kept) command.what reply.answer a.answered =
    comes log caller (kept_before command.what kept) command.what a.answered p q reply.answer reply.nodes n
    a.explained in
    subst (λ (k : Kept). Comes log caller kept command.what reply.answer k) (sym same)
    (subst (λ (k : Kept). Comes log caller k command.what reply.answer a.answered) (same_before command.what kept p)
    before)
