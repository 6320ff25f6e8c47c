-- After a command that is told what becomes of its node there holds what held before.
use Rattle.std.proofs.Common.{◌≡◌, ◌≢◌, inl, ℕ, ◌<◌, List, [], ◌∷◌, ◌++◌, length, true, refl, ap, sym, subst, ◌∙◌, arith}
use Rattle.std.specs.Prelude.{◌==◌, ◌&&◌, nat_lt, slice_index}
use Rattle.std.specs.List.{list_any}
use Rattle.log_node.specs.declared.ids.Colours.{Colours}
use Rattle.log_node.specs.declared.node.Shape.{Shape}
use Rattle.log_node.specs.Sets.{members}
use Rattle.log_node.specs.declared.limits.TheConstants.{MAX_COLOURS}
use Rattle.col_core.specs.declared.Entry.{Entry}
use Rattle.col_core.specs.Keeping.{Kept}
use Rattle.col_core.proofs.CallerLemmas.{In}
use Rattle.world_laws.specs.Worlds.{World, home_of}
use Rattle.world_laws.specs.Laws.{IsReached, log_of}
use Rattle.world_laws.proofs.CallerLemmas.{run_reached}
use Rattle.script_text.specs.declared.script.Object.{Object}
use Rattle.script_text.specs.declared.script.Command.{Command}
use Rattle.script_text.specs.declared.script.Script.{Script}
use Rattle.script_text.specs.declared.commands.What.{What}
use Rattle.script_text.specs.declared.commands.What.TheVariants as whats
use Rattle.script_text.specs.Fitting.{AreObjectColours, HasColours}
use Rattle.report_text.specs.declared.report.Answer.{Answer}
use Rattle.lawful_run.specs.Asks.{Committing, Stopping, colours_of_object, may_help, shards, tells_stamp_end}
use Rattle.lawful_run.specs.Deeds.{colours_synced, manner_of}
use Rattle.lawful_run.specs.Callers.{Caller}
use Rattle.lawful_run.specs.Explains.{Explains}
use Rattle.lawful_run.specs.Refusals.{kept_before}
use Rattle.script_meaning.specs.States.{State, Grants, LastReads, answered}
use Rattle.script_meaning.specs.Objects.{caller_in, shard_set}
use Rattle.script_meaning.specs.Stamped.{read_stamp}
use Rattle.script_meaning.specs.Telling.{ReadAnswer, all_colours, appended_and_told, told_behind}
use Rattle.script_meaning.proofs.World.Additions.{adds_map}
use Rattle.script_meaning.proofs.Read.AfterScan.{filtered_distinct}
use Rattle.script_meaning.proofs.Append.AppendCases.{IsRefusal, no_memory, no_stamp, no_row, by_append}
use Rattle.script_meaning.proofs.World.Clearing.{Finished}
use Rattle.script_meaning.proofs.Transaction.Telling.{AsksOver, TellsSo, after_telling}
use Rattle.script_meaning.proofs.Run.FitCommands as fits
use Rattle.script_meaning.proofs.Run.Invariant.{IsStopped, Runs, IsFit, free, runs_left}
use Rattle.script_meaning.proofs.Client.Kept.{MadeBy, Does}
use Rattle.script_meaning.proofs.Object.ObjectAppends.{by_asks, finds_no_memory}
use Rattle.script_meaning.proofs.Client.ReadsLeft.{LeavesReads}
use Rattle.script_meaning.proofs.Object.ShardSets.{shard_members, shards_below, shards_has, of_key, shard_in, own_below, rising_in, rising_below, rising_some}
use Rattle.script_meaning.proofs.Read.StampedPlays.{MayLook}
use Rattle.script_meaning.proofs.Read.StampedRaises.{AreDistinct}

-- A command whose append does not stand did what that did.
module _ (objects : List Object) (u : ℕ) (what : What) (committing : manner_of what ≡ Committing)
    (takes_none : (kept : Kept) → kept_before what kept ≡ kept) (reads : LastReads) (set : Colours) (text : List ℕ) (asks : AsksOver objects u what reads set text) (w w' : World) where
  not_stopping : manner_of what ≢ Stopping
  not_stopping e = let x : Committing ≡ Stopping = sym committing ∙ e in absurd (let f : ⊥ = cc in f)

  made_as : (r : ℕ) (e : Entry) → MadeBy u (whats.Append set text) w' (home_of w u) r e
      → MadeBy u what w' (home_of w u) r e
  made_as r e m = record {
    made = m.made;
    help = λ h. let x = m.help h in record { may = ap may_help committing; home = x.home; complete = x.complete };
  }

  module _ (kept : Kept) (same : kept.reads ≡ reads) (after : Kept) where
    abbrev there : Caller
    there = caller_in w' objects u

    refused_as : {answer : Answer} → IsRefusal answer
        → Explains (log_of w') there kept (whats.Append set text) answer [] after
        → Explains (log_of w') there kept what answer [] after
    refused_as no_memory e =
        (refl, finds_no_memory (log_of w') there kept what set text (asks w' kept same) after e.1)
    refused_as (no_stamp colour) e =
        (refl, ap tells_stamp_end committing, by_asks (log_of w') there kept what set text (asks w' kept same) _ e.2)
    refused_as (no_row used) e = (
      refl,
      λ c t f. not_stopping (ap manner_of f),
      e.2,
      by_asks (log_of w') there kept what set text (asks w' kept same) _ e.3,
    )

  refused_leaves : (answer : Answer) → IsRefusal answer → Does objects u (whats.Append set text) w w' answer []
      → LeavesReads objects u what w w' answer [] reads
  refused_leaves answer refusal d = record {
    steps = d.steps;
    run = d.run;
    shape = d.shape;
    others = d.others;
    adds = λ r c. adds_map (MadeBy u (whats.Append set text) w' (home_of w u) r)
        (MadeBy u what w' (home_of w u) r) (w.histories r c) (w'.histories r c) (made_as r) (d.adds r c);
    keeps = λ kept k same. let a = d.keeps kept k in (
      a.after,
      a.keeps,
      subst (λ (before : Kept). Explains (log_of w') (caller_in w' objects u) before what answer [] a.after)
          (sym (takes_none kept)) (refused_as kept same a.after refusal a.explains),
    );
  }

module _ (script : Script) (commands : List Command) (state : State) (command : Command) (grants : Grants)
    (runs : Runs script commands state) (fit : IsFit script commands command) where
  abbrev u : ℕ
  u = command.client

  abbrev w : World
  w = state.world

  abbrev S : ℕ → Type 0
  S = IsStopped commands state.replies

  abbrev commands' : List Command
  commands' = commands ++ command ∷ []

  going : S u → ⊥
  going = free script commands state command runs fit

  -- it answered so, and its client keeps the same reads
  pub answered_runs : (what : What) → command.what ≡ what → (w' : World) (answer : Answer)
      → LeavesReads script.objects u what w w' answer [] (state.reads u) → Finished S w'
      → Runs script commands' (answered state command w' answer [])
  answered_runs what asked w' answer d fin =
      runs_left script commands state command runs fit w' answer [] (inl fit.read)
      (subst (λ (what : What). LeavesReads script.objects u what w w' answer [] (state.reads u)) (sym asked) d)
      (λ a. absurd a) fin

  -- the own object of the command has these colours, of which its node has some, the shards of keys
  module _ (what : What) (asked : command.what ≡ what) (committing : manner_of what ≡ Committing)
      (takes_none : (kept : Kept) → kept_before what kept ≡ kept) (object : ℕ)
      (own : AreObjectColours script.shape.colours (colours_of_object (caller_in state.world script.objects command.client) object))
      (synced : (x : World) → colours_synced (caller_in x script.objects command.client) what
      ≡ all_colours script.objects state command object)
      (keys : List (List ℕ)) (a_key : (key : List ℕ) × In key keys) (text : List ℕ)
      (asks_over : AsksOver script.objects command.client what (state.reads command.client)
      (shard_set (colours_of_object (caller_in state.world script.objects command.client) object) keys) text)
      (tells : ReadAnswer) (tells_so : TellsSo what text tells) where
    abbrev its_colours : List ℕ
    its_colours = colours_of_object (caller_in w script.objects u) object

    abbrev cs : List ℕ
    cs = all_colours script.objects state command object

    abbrev set : Colours
    set = shard_set its_colours keys

    has : HasColours 1 set
    has = shards_has script.shape.colours fit.few_colours its_colours own.some own.below keys a_key.0 a_key.1

    in_shards : (c : ℕ) → In c (members set) → In c (shards its_colours keys)
    in_shards c i = subst (λ (l : List ℕ). In c l) (shard_members its_colours keys) i

    below : (c : ℕ) → In c (members set) → c < script.shape.colours
    below c i = shards_below script.shape.colours fit.few_colours its_colours own.some own.below keys c (in_shards c i)

    own_colours : (c : ℕ) → In c (members set) → In c cs
    own_colours c i =
        let k = of_key its_colours keys c (in_shards c i) in
        let there : In c its_colours =
        subst (λ (x : ℕ). In x its_colours) k.2 (shard_in its_colours own.some k.0) in
        let low = own_below script.shape.colours fit.few_colours its_colours own c there in
        let few = fit.few_colours in
        rising_in its_colours c there (omega (arith, low, few))

    distinct : AreDistinct cs
    distinct = filtered_distinct (λ c. list_any (λ d. d == c) its_colours) MAX_COLOURS 0

    abbrev first : (c : ℕ) × In c cs
    first = rising_some script.shape.colours fit.few_colours its_colours own

    abbrev Goal : State → Type 0
    Goal = Runs script commands'

    -- the columns may be read after the append
    look_on : (v : World) → IsReached v → v.shape ≡ w.shape → MayLook script.objects S u (read_stamp v u cs) v cs
    look_on v reached same = record {
      reached = reached;
      few = subst (λ (s : Shape). slice_index s.homes u < 4) (sym same)
          (fits.own_few script commands state command runs fit);
      caller = subst (λ (s : Shape). nat_lt u (length s.homes) ≡ true) (sym same)
          (fits.client_ok script commands state command runs fit);
      columns = λ c i. subst (λ (s : Shape). (nat_lt (slice_index s.homes u) s.regions && nat_lt c s.colours) ≡ true)
          (sym same) (fits.column_ok script commands state command runs fit c
          (rising_below script.shape.colours fit.few_colours its_colours own c i));
    }

    pub runs_told : Runs script commands' (appended_and_told tells script.objects grants state command object set text)
    runs_told =
        by_append script commands state command grants runs fit set text has below
        (told_behind tells script.objects grants state command object) Goal
        (λ w' answer refusal d fin. answered_runs what asked w' answer
        (refused_leaves script.objects u what committing takes_none (state.reads u) set text asks_over w w' answer refusal d) fin)
        (λ v stamp row points d fin.
        after_telling script.objects S state command (record grants { helps = grants.read_helps }) what committing takes_none set text
        asks_over tells tells_so runs.reached going cs synced distinct first.0 first.1 own_colours v stamp row
        points d fin (look_on v (subst IsReached d.run (run_reached w d.steps runs.reached)) d.shape) Goal
        (λ answer leaves fin. answered_runs what asked _ answer leaves fin) grants)
