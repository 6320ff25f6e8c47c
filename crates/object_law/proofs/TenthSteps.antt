-- What the tenth rule asks of a step that has its answer.
use Rattle.std.proofs.Common.{◌≡◌, ◌∙◌, refl, ap, sym, subst, Bool, ℕ, ◌+◌, ◌<◌, ◌≤◌, List, [], ◌∷◌, ◌++◌, length, take, get_or, Option, Some, None, ◌⊎◌, inl, inr, arith}
use Rattle.std.specs.Prelude.{slice_get}
use Rattle.std.proofs.lemmas.List.{map_more, take_all}
use Rattle.std.proofs.lemmas.List.Elements.{All-contains, All-push}
use Rattle.std.proofs.lemmas.Option.{get_or_from_slice_get, slice_get-get_or, slice_get_within}
use Rattle.log_node.specs.declared.ids.Id.{Id}
use Rattle.log_node.specs.declared.ids.Key.{Key}
use Rattle.log_node.specs.declared.node.Node.{Node}
use Rattle.log_node.specs.Seen.{PlacedNode}
use Rattle.log_node.proofs.CallerLemmas.{get_map, get_map_back, same_some}
use Rattle.object_fold.specs.Maps.{Value, shard_value}
use Rattle.object_fold.specs.Nodes.{ObjectNode}
use Rattle.col_core.specs.Keeping.{Kept}
use Rattle.col_core.proofs.CallerLemmas.{In, all_in, contains_in, slice_in}
use Rattle.script_text.specs.Fitting.{IsFitting, IsWithin}
use Rattle.script_text.specs.declared.commands.What.{What}
use Rattle.script_text.specs.declared.commands.What.TheVariants as whats
use Rattle.script_text.specs.declared.script.Command.{Command}
use Rattle.script_text.specs.declared.script.Kind.{Kind}
use Rattle.script_text.specs.declared.script.Kind.TheVariants as kinds
use Rattle.script_text.specs.declared.script.Script.{Script}
use Rattle.report_text.specs.declared.report.Answer.{Answer}
use Rattle.report_text.specs.declared.report.Answer.TheVariants as answers
use Rattle.report_text.specs.declared.report.ClientReport.{ClientReport}
use Rattle.report_text.specs.declared.report.KeyAnswer.{KeyAnswer}
use Rattle.report_text.specs.declared.report.PointPiece.{PointPiece}
use Rattle.report_text.specs.declared.report.ReplyLine.{ReplyLine}
use Rattle.report_text.specs.declared.report.Report.{Report}
use Rattle.report_text.specs.declared.report.SyncPiece.{SyncPiece}
use Rattle.lawful_run.specs.Asks.{Committing, Dequeuing, kind_asked, kind_of_object, object_colours}
use Rattle.lawful_run.specs.Callers.{Caller, caller_of, commands_of}
use Rattle.lawful_run.specs.Deeds.{AsksForKey, Deed, colours_synced, manner_of}
use Rattle.column_track.specs.Tracks.{Tells}
use Rattle.run_rules.specs.Answering.{AsksKeys, CanGet, HasPoints}
use Rattle.run_rules.specs.Deciding.{account_showing}
use Rattle.run_rules.specs.Keeping.{RulesTo}
use Rattle.run_rules.specs.Laws.{ComputedAccountAgrees, FindsTell}
use Rattle.run_rules.specs.Shown.{OfMap, Shows, own_key}
use Rattle.run_rules.specs.Telling.{IsWellFormed, replies_in, replies_to}
use Rattle.run_rules.specs.Told.{Account, IsTold, Step, Untold, colours_asked, kept_at}
use Rattle.run_rules.proofs.CallerLemmas.{rule9}
use Rattle.walk_law.specs.Keepings.{Counted}
use Rattle.walk_law.specs.Walking.{IsSeen, Walked}
use Rattle.walk_law.proofs.CallerLemmas.{appended_within, kind_within, synced_within, told_shown}
use Rattle.object_law.specs.Tenth.{AnswersSo, AreValuesAsked, IsMapValue, IsRightAnswer, OfKeyAsked}
use Rattle.object_law.specs.TenthPlays.{AreBelow, AreColoursRead, HasCut, HaveCuts, IsMap, sync_colours}

-- A GET

-- where the object is no map, nothing is asked
pub no_map : (kind : Option Kind) (Said : Type 0) → (IsMap kind → ⊥) → OfMap kind Said
no_map (Some (kinds.Map home colours)) Said off = absurd (off tt)
no_map _ Said off = tt

pub of_map : (kind : Option Kind) (Said : Type 0) (b : Bool) → IsMap kind → Tells b Said → Tells b (OfMap kind Said)
of_map (Some (kinds.Map home colours)) Said b is t = t
of_map _ Said b is t = absurd is

-- the command gets by this key of this object
abbrev pub GetsKey : What → ℕ → List ℕ → Type 0
GetsKey what object key = (what ≡ whats.Get object key) ⊎ (what ≡ whats.Peek object key)

no_key : (what : What) → ((o : ℕ) (k : List ℕ) → what ≡ whats.Get o k → ⊥) → ((o : ℕ) (k : List ℕ) → what ≡ whats.Peek o k → ⊥)
    → (object : ℕ) (key : List ℕ) → AsksForKey what object key → ⊥
no_key (whats.Get o k) get peek object key a = get o k refl
no_key (whats.Peek o k) get peek object key a = peek o k refl
no_key _ get peek object key a = let g = ap (λ (d : Deed). d.manner) a.gets in let no : ⊥ = cc (g) in no

-- of another command nothing is asked
pub no_get : (caller : Caller) (what : What) → ((o : ℕ) (k : List ℕ) → what ≡ whats.Get o k → ⊥)
    → ((o : ℕ) (k : List ℕ) → what ≡ whats.Peek o k → ⊥) → (sync : SyncPiece) (value : Value) (nodes : List ObjectNode)
    (kind : Option Kind) → CanGet caller what sync value kind → IsMapValue kind sync.colour what value nodes
no_get caller what get peek sync value nodes (Some (kinds.Map home colours)) can =
    absurd (no_key what get peek can.1.0 can.0 can.1.1)
no_get caller what get peek sync value nodes _ can = tt

module _ (script : Script) (fits : IsFitting script) (n : ℕ) (sync : SyncPiece) (value : Value) where
  abbrev it : Caller
  it = caller_of script n

  -- it syncs a colour of the shape
  map_low : (what : What) → IsWithin script.shape.regions script.shape.colours what → (kind : Option Kind)
      → CanGet it what sync value kind → IsMap kind → sync.colour < script.shape.colours
  map_low what w (Some (kinds.Map home colours)) can is =
      synced_within script fits n what w sync.colour (subst (In sync.colour) (sym can.1.3) (inl refl))
  map_low what w _ can is = absurd is

  module _ (object : ℕ) (key : List ℕ) where
    pub get_low : (what : What) → GetsKey what object key → CanGet it what sync value (kind_asked it what)
        → IsMap (kind_of_object it object) → sync.colour < script.shape.colours
    get_low what (inl e) can is =
        map_low (whats.Get object key) tt (kind_of_object it object)
        (subst (λ (w : What). CanGet it w sync value (kind_asked it w)) e can) is
    get_low what (inr e) can is =
        map_low (whats.Peek object key) tt (kind_of_object it object)
        (subst (λ (w : What). CanGet it w sync value (kind_asked it w)) e can) is

    module _ (nodes : List ObjectNode) (b : Bool) where
      abbrev Has : Option Kind → Type 0
      Has kind = OfMap kind (value ≡ shard_value (object_colours kind) sync.colour nodes key)

      get_told : (kind : Option Kind) → Tells b (Has kind)
          → Tells b (IsMapValue kind sync.colour (whats.Get object key) value nodes)
      get_told (Some (kinds.Map home colours)) t = t
      get_told None t = t
      get_told (Some (kinds.Tx home colours)) t = t
      get_told (Some (kinds.Causal colour)) t = t
      get_told (Some (kinds.Queue home colour)) t = t
      get_told (Some (kinds.Tree home colours)) t = t
      get_told (Some (kinds.Parts home colours)) t = t

      peek_told : (kind : Option Kind) → Tells b (Has kind)
          → Tells b (IsMapValue kind sync.colour (whats.Peek object key) value nodes)
      peek_told (Some (kinds.Map home colours)) t = t
      peek_told None t = t
      peek_told (Some (kinds.Tx home colours)) t = t
      peek_told (Some (kinds.Causal colour)) t = t
      peek_told (Some (kinds.Queue home colour)) t = t
      peek_told (Some (kinds.Tree home colours)) t = t
      peek_told (Some (kinds.Parts home colours)) t = t

      -- its value is that of the key
      pub map_told : (what : What) → GetsKey what object key → Tells b (Has (kind_of_object it object))
          → Tells b (IsMapValue (kind_asked it what) sync.colour what value nodes)
      map_told what (inl e) t =
          subst (λ (w : What). Tells b (IsMapValue (kind_asked it w) sync.colour w value nodes)) (sym e)
          (get_told (kind_of_object it object) t)
      map_told what (inr e) t =
          subst (λ (w : What). Tells b (IsMapValue (kind_asked it w) sync.colour w value nodes)) (sym e)
          (peek_told (kind_of_object it object) t)

-- nothing is asked where no key is
pub no_key_asked : (what : What) → ((o : ℕ) (k : List ℕ) → what ≡ whats.Get o k → ⊥)
    → ((o : ℕ) (k : List ℕ) → what ≡ whats.Peek o k → ⊥) → (Says : List ℕ → Type 0) → OfKeyAsked what Says → ⊥
no_key_asked (whats.Get o k) get peek Says s = get o k refl
no_key_asked (whats.Peek o k) get peek Says s = peek o k refl
no_key_asked _ get peek Says s = s

pub no_keys_asked : (caller : Caller) (what : What) → ((o : ℕ) (ks : List (List ℕ)) → what ≡ whats.GetAll o ks → ⊥)
    → ((o : ℕ) (ks : List (List ℕ)) → what ≡ whats.Read o ks → ⊥) → (shown : List KeyAnswer) (nodes : List ObjectNode)
    → AreValuesAsked caller what shown nodes → ⊥
no_keys_asked caller (whats.GetAll o ks) all read shown nodes s = all o ks refl
no_keys_asked caller (whats.Read o ks) all read shown nodes s = read o ks refl
no_keys_asked caller _ all read shown nodes s = s

-- STAMPED READS

module _ (count : ℕ) (syncs : List SyncPiece) where
  -- these are the colours of the first so many syncs, each below the number
  abbrev pub ReadFirst : ℕ → List ℕ → Type 0
  ReadFirst i read = (read ≡ sync_colours (take i syncs)) × AreBelow count read

  pub read_more : (i : ℕ) (s : SyncPiece) (read : List ℕ) → i < length syncs → s ≡ get_or syncs i s → s.colour < count
      → ReadFirst i read → ReadFirst (i + 1) (read ++ s.colour ∷ [])
  read_more i s read lt is low so = (
    ap (λ (l : List ℕ). l ++ s.colour ∷ []) so.0
        ∙ (ap (λ (x : SyncPiece). sync_colours (take i syncs) ++ x.colour ∷ []) is
        ∙ sym (map_more (λ (x : SyncPiece). x.colour) syncs i s lt)),
    All-push (λ (c : ℕ). c < count) read s.colour so.1 low,
  )

  pub read_stop : (i : ℕ) (d : SyncPiece) → i < length syncs → count ≤ (get_or syncs i d).colour
      → AreBelow count (sync_colours syncs) → ⊥
  read_stop i d lt high all =
      let s = get_or syncs i d in
      let at = get_map (λ (x : SyncPiece). x.colour) syncs i s (slice_get-get_or syncs i d lt) in
      let low = subst (λ (m : ℕ). m < count) (get_or_from_slice_get (sync_colours syncs) i s.colour s.colour at)
      (all i s.colour (slice_get_within (sync_colours syncs) i s.colour at)) in
      let no : ⊥ = omega (arith, low, high) in no

  pub read_all : (i : ℕ) (read : List ℕ) → length syncs ≤ i → ReadFirst i read → AreColoursRead count syncs (Some read)
  read_all i read ge so = (so.0 ∙ ap (λ (l : List SyncPiece). sync_colours l) (take_all i syncs ge), so.1)

-- COLOURS OF THE SHAPE

keys_within : (regions colours : ℕ) (what : What) (keys : List (List ℕ)) → AsksKeys what keys → IsWithin regions colours what
keys_within regions colours what keys (inl g) = subst (IsWithin regions colours) (sym g.1) tt
keys_within regions colours what keys (inr g) = subst (IsWithin regions colours) (sym g.1) tt

commits_within : (regions colours : ℕ) (what : What) → manner_of what ≡ Committing → IsWithin regions colours what
commits_within regions colours (whats.Commit o x) m = tt
commits_within regions colours (whats.Mk o x y) m = tt
commits_within regions colours (whats.Rm o x) m = tt
commits_within regions colours (whats.Mv o x y) m = tt
commits_within regions colours _ m = absurd (let no : ⊥ = cc (m) in no)

takes_within : (regions colours : ℕ) (what : What) → manner_of what ≡ Dequeuing → IsWithin regions colours what
takes_within regions colours (whats.Deq o) m = tt
takes_within regions colours _ m = absurd (let no : ⊥ = cc (m) in no)

module _ (script : Script) (fits : IsFitting script) (n : ℕ) where
  abbrev who : Caller
  who = caller_of script n

  abbrev SyncsAll : What → List SyncPiece → Type 0
  SyncsAll what syncs = sync_colours syncs ≡ colours_synced who what

  reads_low : (what : What) → IsWithin script.shape.regions script.shape.colours what → (syncs : List SyncPiece)
      → SyncsAll what syncs → AreBelow script.shape.colours (sync_colours syncs)
  reads_low what w syncs all =
      subst (AreBelow script.shape.colours) (sym all)
      (all_in (λ colour. colour < script.shape.colours) (colours_synced who what) (synced_within script fits n what w))

  -- those of a read of keys
  pub keys_low : (what : What) (keys : List (List ℕ)) → AsksKeys what keys → (syncs : List SyncPiece) → SyncsAll what syncs
      → AreBelow script.shape.colours (sync_colours syncs)
  keys_low what keys asks = reads_low what (keys_within script.shape.regions script.shape.colours what keys asks)

  -- those of the read behind a commit
  pub commit_low : (what : What) → manner_of what ≡ Committing → (syncs : List SyncPiece) → SyncsAll what syncs
      → AreBelow script.shape.colours (sync_colours syncs)
  commit_low what m = reads_low what (commits_within script.shape.regions script.shape.colours what m)

  -- that of a dequeue's node
  pub take_low : (what : What) (kept : Kept) (point : PointPiece) → manner_of what ≡ Dequeuing
      → HasPoints (colours_asked who kept what) None (point ∷ []) → point.colour < script.shape.colours
  take_low what kept point m has =
      appended_within script fits n kept what (takes_within script.shape.regions script.shape.colours what m) point.colour
      (subst (In point.colour) has.0 (inl refl))

  -- and that of a causal map
  pub causal_low : (object colour : ℕ) → kind_of_object who object ≡ Some (kinds.Causal colour) → colour < script.shape.colours
  causal_low object colour e = kind_within script fits n object (kinds.Causal colour) e

-- THE OWN KEY

pub own_is : (client : ℕ) (caller : Caller) (kept : Kept) (stamp told : ℕ) (id : Id) → caller.client ≡ client
    → id ≡ record { client = client; count = kept.ids } → stamp ≡ told
    → (let k : Key = record { stamp = stamp; id = id } in k) ≡ own_key caller kept told
own_is client caller kept stamp told id at is e =
    ap (λ (s : ℕ). let k : Key = record { stamp = s; id = id } in k) e
    ∙ (ap (λ (i : Id). let k : Key = record { stamp = told; id = i } in k) is
    ∙ ap (λ (c : ℕ). let k : Key = record { stamp = told; id = record { client = c; count = kept.ids } } in k) (sym at))

-- A STEP

-- a step that is seen, by its command and its reply
module _ (walked : Walked) (client place : ℕ) (counted : Counted) (step : Step) (seen : IsSeen walked client place counted step)
    (command : Command) (asks : slice_get (commands_of walked.script client) place ≡ Some command) (reply : ReplyLine)
    (replied : slice_get (replies_to walked.report client) place ≡ Some reply) (table : List (List Node)) where
  pub answer_same : AnswersSo walked table (caller_of walked.script client) step
      ≡ IsRightAnswer walked table (caller_of walked.script client) (kept_at step) command.what reply.answer
  answer_same =
      ap (λ (d : Command). IsRightAnswer walked table (caller_of walked.script client) (kept_at step) d.what step.reply.answer)
      (same_some (sym seen.command ∙ asks))
      ∙ ap (λ (r : ReplyLine). IsRightAnswer walked table (caller_of walked.script client) (kept_at step) command.what r.answer)
      (same_some (sym seen.reply ∙ replied))

-- CUTS

-- where the ninth rule holds, causal maps show cuts
module _ (tell : FindsTell) (agrees : ComputedAccountAgrees) (script : Script) (report : Report) (fits : IsFitting script)
    (well : IsWellFormed script report) (rules : RulesTo script report (account_showing script report) 9) where
  abbrev shown : Account
  shown = account_showing script report

  abbrev all : Walked
  all = record { script = script; report = report }

  told : IsTold script report shown
  told = told_shown tell agrees script report fits well rules.0.0.0.0.0

  cut_of : (n : ℕ) (untold : Untold) (kept : Kept) (what : What) (lines : List PlacedNode) (answer : Answer)
      → Shows shown.log untold (caller_of script n) kept what lines answer → HasCut all n answer
  cut_of n untold kept what lines (answers.GotMany values sync) s = s.cut
  cut_of n untold kept what lines _ s = tt

  module _ (n place : ℕ) (reply : ReplyLine) where
    by : (o : Option ClientReport) → slice_get report.clients n ≡ o → slice_get (replies_in o) place ≡ Some reply
        → HasCut all n reply.answer
    by None e at = absurd (let no : ⊥ = cc (at) in no)
    by (Some c) e at =
        let steps = shown.steps n in
        let its = get_map_back (λ (s : Step). s.reply) steps place reply
        (ap (λ (l : List ReplyLine). slice_get l place) (told.clients n c e).replied ∙ at) in
        let x = its.0 in
        let shows = All-contains
        (λ (y : Step). Shows shown.log y.untold (caller_of script n) (kept_at y) y.command.what y.reply.nodes y.reply.answer) steps x
        ((rule9 rules.1).shows n c e) (contains_in steps x (slice_in steps place x its.1)) in
        subst (λ (r : ReplyLine). HasCut all n r.answer) its.2
        (cut_of n x.untold (kept_at x) x.command.what x.reply.nodes x.reply.answer shows)

  pub cuts_shown : HaveCuts all
  cuts_shown = λ n place reply at. by n place reply (slice_get report.clients n) refl at
