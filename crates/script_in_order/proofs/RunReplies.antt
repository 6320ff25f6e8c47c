-- The replies of a run, and the commands one after another.
use Rattle.std.proofs.Common.{◌≡◌, ℕ, ◌<◌, false, List, [], ◌∷◌, ◌++◌, length, set, Result, Ok}
use Rattle.std.proofs.Common.{Err, refl, ap, sym, ◌∙◌, get_or-set_same, get_or-set_other, length-set, Option, None, eq-eqb}
use Rattle.std.specs.Prelude.{MatchResult, IfOk, OnErr}
use Rattle.std.specs.declared.alloc.AllocError.{AllocError}
use mathlib.Core.Path.{fun_ext}
use Rattle.std.proofs.lemmas.Bool.{true≢false}
use Rattle.log_node.specs.Seen.{PlacedNode}
use Rattle.log_node.specs.declared.forms.Version.{Version}
use Rattle.col_core.specs.Keeping.{nothing_kept, updated}
use Rattle.world_laws.proofs.CallerLemmas.{at_updated}
use Rattle.world_laws.specs.Worlds.{World}
use Rattle.world_code.specs.WorldView.{WorldView, world_of}
use Rattle.script_text.specs.declared.script.Object.{Object}
use Rattle.script_text.specs.declared.script.Command.{Command}
use Rattle.script_text.specs.declared.commands.What.{What}
use Rattle.script_text.specs.declared.uses.ReadUse.TheVariants.{Takes, UsesUp}
use Rattle.script_text.specs.declared.uses.Use.{Use}
use Rattle.script_text.specs.declared.uses.Use.TheVariants.{OfObject}
use Rattle.script_text.specs.Commands.{use_of}
use Rattle.report_text.specs.declared.report.Answer.{Answer}
use Rattle.report_text.specs.declared.report.Answer.TheVariants.{NoMemory}
use Rattle.report_text.specs.declared.report.ReplyLine.{ReplyLine}
use Rattle.script_meaning.specs.States.{State, Grants, LastReads, all_granted, answered, reads_left}
use Rattle.script_in_order.specs.Doing.{Does, transacts, transaction_of}
use Rattle.lawful_run.specs.Refusals.{before_by, behind_by}
use Rattle.script_in_order.specs.Runs.{RepliesView, RunView, no_replies, with_reply, with_read_found, replies_at, found_at, state_of, reply_of, IsDone}
use Rattle.script_in_order.specs.Transacting.{Transacts}
pub use Rattle.log_node.proofs.CallerLemmas.{any_default}

-- what is told of each client, where one client's replies are others
module _ (replies : List RepliesView) (client : ℕ) (mine : RepliesView) (low : client < length replies) where
  told : {A : Type 0} (f : RepliesView → A)
      → ◌≡◌ {A = ℕ → A} (λ n. f (replies_at (set replies client mine) n))
      (updated (λ n. f (replies_at replies n)) client (f mine))
  told {A} f =
      fun_ext (λ n. at_updated (λ (a : A). f (replies_at (set replies client mine) n) ≡ a)
      (λ k. f (replies_at replies k)) client (f mine) n
      (λ e. ap (λ (k : ℕ). f (replies_at (set replies client mine) k)) e
      ∙ ap f (get_or-set_same replies client mine (no_replies 0 0) low))
      (λ other. ap f (get_or-set_other replies client n mine (no_replies 0 0)
      (λ e. true≢false (sym (eq-eqb n client e) ∙ other)))))

  pub state_with : (world : WorldView) → state_of (record { world = world; replies = set replies client mine })
      ≡ (record {
        world = world_of world;
        replies = updated (λ n. (replies_at replies n).lines) client mine.lines;
        reads = updated (λ n. found_at (replies_at replies n).reads) client (found_at mine.reads);
      })
  state_with world =
      ap (λ (f : ℕ → List ReplyLine). let s : State = record {
        world = world_of world;
        replies = f;
        reads = λ n. found_at (replies_at (set replies client mine) n).reads;
      } in s) (told (λ r. r.lines))
      ∙ ap (λ (f : ℕ → LastReads). let s : State = record {
        world = world_of world;
        replies = updated (λ n. (replies_at replies n).lines) client mine.lines;
        reads = f;
      } in s) (told (λ r. found_at r.reads))

-- a command that is no read and no commit leaves the reads
pub left_alone : (what : What) (reads : LastReads) → transaction_of what ≡ None → reads_left what reads ≡ reads
left_alone what reads = by (use_of what) where
  by : (u : Use) → transacts u ≡ None
      → (behind_by u (before_by u (record nothing_kept { reads = reads }))).reads ≡ reads
  by (OfObject object Takes) e = let f : ⊥ = cc in absurd f
  by (OfObject object UsesUp) e = let f : ⊥ = cc in absurd f
  by _ e = refl

-- a command that is no read and no commit, with its reply
pub command_done : (objects : List Object) (command : Command) (old : RunView) (world : WorldView)
    (given : Result (Answer × List PlacedNode) AllocError) (reply : ReplyLine) → transaction_of command.what ≡ None
    → command.client < length old.replies
    → IfOk given (λ g. Does objects command (world_of old.world) (world_of world) g.0 g.1)
    → OnErr given (world_of world ≡ world_of old.world)
    → MatchResult given (λ g. reply ≡ reply_of command g.0 g.1) (λ _. reply ≡ reply_of command NoMemory [])
    → IsDone objects command old
    (record {
      world = world;
      replies = set old.replies command.client
          (with_reply (replies_at old.replies command.client) reply);
    })
command_done objects command old world given reply plain low ok err is = turn given ok err is where
  mine : RepliesView
  mine = with_reply (replies_at old.replies command.client) reply

  next : List RepliesView
  next = set old.replies command.client mine

  shown : (answer : Answer) (nodes : List PlacedNode) → reply ≡ reply_of command answer nodes
      → state_of (record { world = world; replies = next })
      ≡ answered (state_of old) command (world_of world) answer nodes
  shown answer nodes e =
      state_with old.replies command.client mine low world
      ∙ (ap (λ (x : ReplyLine). let s : State = record {
        world = world_of world;
        replies = updated (state_of old).replies command.client ((state_of old).replies command.client ++ x ∷ []);
        reads = updated (state_of old).reads command.client ((state_of old).reads command.client);
      } in s) e
      ∙ ap (λ (r : LastReads). let s : State = record {
        world = world_of world;
        replies = updated (state_of old).replies command.client
            ((state_of old).replies command.client ++ reply_of command answer nodes ∷ []);
        reads = updated (state_of old).reads command.client r;
      } in s) (sym (left_alone command.what ((state_of old).reads command.client) plain)))

  turn : (given : Result (Answer × List PlacedNode) AllocError)
      → IfOk given (λ g. Does objects command (world_of old.world) (world_of world) g.0 g.1)
      → OnErr given (world_of world ≡ world_of old.world)
      → MatchResult given (λ g. reply ≡ reply_of command g.0 g.1) (λ _. reply ≡ reply_of command NoMemory [])
      → IsDone objects command old (record { world = world; replies = next })
  turn (Ok g) ok err e = record {
    grants = ok.grants;
    replied = mine;
    state = shown g.0 g.1 e ∙ sym (ok.is (state_of old));
    room = refl;
    reads = refl;
    replies = refl;
  }
  turn (Err x) ok err e = record {
    grants = none;
    replied = mine;
    state = shown NoMemory [] e
        ∙ ap (λ (w : World). answered (state_of old) command w NoMemory []) err;
    room = refl;
    reads = refl;
    replies = refl;
  } where
    none : Grants
    none = record all_granted { start = false }

-- one read is another
pub reads_with : (reads : List (Option (List Version))) (object : ℕ) (kept : Option (List Version))
    → object < length reads → found_at (set reads object kept) ≡ updated (found_at reads) object kept
reads_with reads object kept low =
    fun_ext (λ n. at_updated (λ (r : Option (List Version)). found_at (set reads object kept) n ≡ r) (found_at reads)
    object kept n
    (λ e. ap (λ (k : ℕ). found_at (set reads object kept) k) e ∙ get_or-set_same reads object kept None low)
    (λ other. get_or-set_other reads object n kept None (λ e. true≢false (sym (eq-eqb n object e) ∙ other))))

-- a read or a commit
pub transaction_done : (objects : List Object) (command : Command) (object : ℕ) (old : RunView) (world : WorldView)
    (mine : RepliesView) → command.client < length old.replies
    → object < length (replies_at old.replies command.client).reads
    → Transacts objects command object (world_of old.world) (world_of world) (replies_at old.replies command.client) mine
    → IsDone objects command old
    (record { world = world; replies = set old.replies command.client mine })
transaction_done objects command object old world mine low there t = record {
  grants = t.grants;
  replied = mine;
  state = ap (λ (m : RepliesView). state_of (record { world = world; replies = set old.replies command.client m }))
      t.replies
      ∙ (state_with old.replies command.client next low world
      ∙ (ap (λ (r : LastReads). let s : State = record {
        world = world_of world;
        replies = updated (state_of old).replies command.client next.lines;
        reads = updated (state_of old).reads command.client r;
      } in s) (reads_with (replies_at old.replies command.client).reads object t.kept there)
      ∙ sym (t.is (state_of old) refl)));
  room = ap (λ (r : RepliesView). r.room) t.replies;
  reads = ap (λ (r : RepliesView). length r.reads) t.replies
      ∙ length-set (replies_at old.replies command.client).reads object t.kept;
  replies = refl;
} where
  next : RepliesView
  next = with_reply (with_read_found (replies_at old.replies command.client) object t.kept)
      (reply_of command t.answer [])
