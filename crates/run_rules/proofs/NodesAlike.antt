-- The nodes of two told accounts of one report agree.
use Rattle.std.proofs.Common.{◌≡◌, ◌∙◌, refl, ap, sym, subst, Bool, true, false, ℕ, zero, suc, ◌+◌, ◌<◌, ◌≤◌, List, [], ◌∷◌, map, length, Option, Some, None, ◌⊎◌, inl, inr, arith}
use Rattle.std.specs.Prelude.{slice_get}
use Rattle.std.specs.List.{All, AllZip}
use Rattle.std.proofs.lemmas.Bool.{cases_lt}
use Rattle.std.proofs.lemmas.List.Elements.{All-head, All-tail}
use Rattle.log_node.specs.declared.ids.Counts.{Counts}
use Rattle.log_node.specs.declared.ids.Colours.{Colours}
use Rattle.log_node.specs.declared.node.At.{At}
use Rattle.log_node.specs.declared.node.At.TheVariants.{Event, Look}
use Rattle.log_node.specs.declared.node.Node.{Node}
use Rattle.log_node.specs.declared.forms.Version.{Version}
use Rattle.log_node.specs.Sets.{members}
use Rattle.col_core.specs.Log.{Log}
use Rattle.col_core.specs.Keeping.{Kept}
use Rattle.script_text.specs.declared.commands.What.{What}
use Rattle.script_text.specs.declared.commands.What.TheVariants as whats
use Rattle.script_text.specs.declared.script.Command.{Command}
use Rattle.script_text.specs.declared.script.Script.{Script}
use Rattle.script_text.specs.declared.uses.ReadUse.TheVariants.{Takes}
use Rattle.script_text.specs.declared.uses.Use.{Use}
use Rattle.script_text.specs.declared.uses.Use.TheVariants.{OfObject}
use Rattle.script_text.specs.Commands.{use_of}
use Rattle.script_text.specs.Fitting.{IsFitting}
use Rattle.report_text.specs.declared.report.ClientReport.{ClientReport}
use Rattle.report_text.specs.declared.report.Report.{Report}
use Rattle.report_text.specs.declared.report.Answer.{Answer}
use Rattle.report_text.specs.declared.report.Answer.TheVariants as answers
use Rattle.report_text.specs.declared.report.Ended.{Ended}
use Rattle.report_text.specs.declared.report.Ended.TheVariants as ends
use Rattle.report_text.specs.declared.report.PointPiece.{PointPiece}
use Rattle.report_text.specs.declared.report.RaisePiece.{RaisePiece}
use Rattle.report_text.specs.declared.report.ReplyLine.{ReplyLine}
use Rattle.report_text.specs.declared.report.SyncPiece.{SyncPiece}
use Rattle.lawful_run.specs.Callers.{Caller, caller_of, node_of, row_taken}
use Rattle.lawful_run.specs.Columns.{row_report}
use Rattle.lawful_run.specs.Reads.{kept_after_place, kept_after_piece}
use Rattle.lawful_run.specs.Refusals.{kept_before}
use Rattle.lawful_run.proofs.CallerLemmas.{before_is, behind_is}
use Rattle.run_rules.specs.Told.{Untold, Step, Account, Follow, IsTold, OfEachStep, is_several, kept_at, kept_past, kept_told, kept_after_append, kept_after_row, kept_after_raises, kept_after_read, kept_after_end, kept_appending, kept_deciding, kept_pulled, kept_trimmed, kept_where, with_found, stamp_told}
use Rattle.run_rules.specs.Rules.{HasNode, Rule1, Rule4, UsesEnd, UsesNode}
use Rattle.run_rules.specs.Agreeing.{Agree, HasColumn, KeepSame, AreStepsAlike, AreNodesAlike}
use Rattle.run_rules.specs.Laws.{ToldNodesAgree}
use Rattle.run_rules.proofs.Facts.{asked_colours}
use Rattle.run_rules.proofs.Numbers.{rule1, rule4, rule5}
use Rattle.run_rules.proofs.Growing.{syncs_keep, points_keep}
use Rattle.run_rules.proofs.SameKept.{before_same}
use Rattle.run_rules.proofs.ToldAlike.{asked_same, appending_same}
use Rattle.run_rules.proofs.OneAccount.{told_accounts_agree, obeys}
use Rattle.run_rules.proofs.LeftOut.{Obeys}
use Rattle.run_rules.proofs.Reached.{home_within}

-- IDS

place_ids : (kept : Kept) (region colour : ℕ) (at : At) → (kept_after_place kept region colour at).ids ≡ kept.ids
place_ids kept region colour (Event place) = refl
place_ids kept region colour (Look events) = refl

pub raises_ids : (caller : Caller) (kept : Kept) (raises : List RaisePiece)
    → (kept_after_raises caller kept raises).ids ≡ kept.ids
raises_ids caller kept [] = refl
raises_ids caller kept (x ∷ xs) =
    raises_ids caller (kept_after_place kept caller.own x.colour x.at) xs ∙ place_ids kept caller.own x.colour x.at

pub read_ids : (log : Log) (caller : Caller) (kept : Kept) (stamp : ℕ) (raises : List RaisePiece) (syncs : List SyncPiece)
    → (kept_after_read log caller kept stamp raises syncs).ids ≡ kept.ids
read_ids log caller kept stamp raises syncs =
    (syncs_keep log caller (kept_after_raises caller kept raises) syncs).0 ∙ raises_ids caller kept raises

-- no id is used, or the one of a node that the command appends over what is then kept
abbrev pub MayUse : Log → Caller → Kept → Kept → What → Kept → Type 0
MayUse log caller kept over what after =
    (after.ids ≡ kept.ids) ⊎ ((after.ids ≡ kept.ids + 1) × HasNode log caller over what)

pub over_ids : (log : Log) (caller : Caller) (kept : Kept) (answer : Answer)
    → (kept_appending log caller kept answer).ids ≡ kept.ids
over_ids log caller kept (answers.Decided commits stamp sync read_stamp raises syncs ended) =
    read_ids log caller (kept_after_piece log caller kept sync) read_stamp raises syncs
over_ids log caller kept _ = refl

module _ (log : Log) (untold : Untold) (caller : Caller) (kept : Kept) (what : What) where
  append_uses : (stamp : ℕ) (row : Option ℕ) (points : List PointPiece) → HasNode log caller kept what
      → MayUse log caller kept kept what (kept_after_append untold caller kept stamp row points)
  append_uses stamp None [] n = inl refl
  append_uses stamp None (p ∷ ps) n = inr (refl, n)
  append_uses stamp (Some number) points n =
      inr (ap (λ (k : ℕ). k + 1) (points_keep caller.own kept points).0, n)

  -- what follows uses none
  then_none : (middle after : Kept) → after.ids ≡ middle.ids → MayUse log caller kept kept what middle
      → MayUse log caller kept kept what after
  then_none middle after e (inl f) = inl (e ∙ f)
  then_none middle after e (inr f) = inr (e ∙ f.0, f.1)

  where_uses : (several : Bool) → (several ≡ true → HasNode log caller kept what)
      → MayUse log caller kept kept what (kept_where several (kept_after_row untold caller kept) kept)
  where_uses true n = inr (refl, n refl)
  where_uses false n = inl refl

  pub pulled_ids : (w : What) (give carry : At) → (kept_pulled untold caller kept w give carry).ids ≡ kept.ids
  pulled_ids (whats.Pull region colour) give (Event place) = refl
  pulled_ids (whats.Pull region colour) give (Look events) = refl
  pulled_ids _ give carry = refl

  pub trimmed_ids : (w : What) (given : At) → (kept_trimmed caller kept w given).ids ≡ kept.ids
  trimmed_ids (whats.Trim colour) given = refl
  trimmed_ids _ given = refl

  pub found_ids : (u : Use) (found : List Version) (after : Kept) → (with_found u found after).ids ≡ after.ids
  found_ids (OfObject object Takes) found after = refl
  found_ids _ found after = refl

  end_uses : (middle : Kept) (ended : Ended) → middle.ids ≡ kept.ids → UsesEnd log caller middle what ended
      → MayUse log caller kept middle what (kept_after_end untold caller middle ended)
  end_uses middle (ends.Stood stamp point) e n = inr (ap (λ (k : ℕ). k + 1) e, n.0)
  end_uses middle (ends.StampEnd colour) e n = inl e
  end_uses middle ends.NoMemory e n = inl e

  told_uses : (answer : Answer) → UsesNode log caller kept what answer
      → MayUse log caller kept (kept_appending log caller kept answer) what (kept_told log untold caller kept what answer)
  told_uses answers.NoMemory n = inl refl
  told_uses (answers.Stood stamp row points) n = append_uses stamp row points n.0
  told_uses (answers.StampEnd colour) n = where_uses (is_several caller kept what) n
  told_uses (answers.Full used) n = inl refl
  told_uses (answers.Stopped zero) n = inl refl
  told_uses (answers.Stopped (suc steps)) n = inr (refl, n)
  told_uses (answers.Synced sync plays) n = inl refl
  told_uses (answers.Scanned stamp count raises syncs) n = inl (read_ids log caller kept stamp raises syncs)
  told_uses (answers.Pulled count give carry) n = inl (pulled_ids what give carry)
  told_uses answers.SameRegion n = inl refl
  told_uses (answers.Based given base) n = inl (trimmed_ids what given)
  told_uses (answers.Got value sync) n = inl refl
  told_uses (answers.GotMany values sync) n = inl refl
  told_uses (answers.GotKeys stamp shown raises syncs) n =
      inl (found_ids (use_of what) untold.found (kept_after_read log caller kept stamp raises syncs)
      ∙ read_ids log caller kept stamp raises syncs)
  told_uses (answers.Ruled conflict stamp row points read_stamp raises syncs) n =
      let own = stamp_told log caller kept row points in
      let middle = kept_after_append untold caller kept own row points in
      then_none middle (kept_after_read log caller middle read_stamp raises syncs)
      (read_ids log caller middle read_stamp raises syncs) (append_uses own row points n.0)
  told_uses (answers.Changed failed stamp row points read_stamp raises syncs) n =
      let own = stamp_told log caller kept row points in
      let middle = kept_after_append untold caller kept own row points in
      then_none middle (kept_after_read log caller middle read_stamp raises syncs)
      (read_ids log caller middle read_stamp raises syncs) (append_uses own row points n.0)
  told_uses (answers.Listed names stamp raises syncs) n = inl (read_ids log caller kept stamp raises syncs)
  told_uses (answers.Undecided stamp sync) n = inl refl
  told_uses (answers.Decided commits stamp sync read_stamp raises syncs ended) n =
      end_uses (kept_deciding log caller kept sync read_stamp raises syncs) ended
      (read_ids log caller (kept_after_piece log caller kept sync) read_stamp raises syncs) n
  told_uses (answers.Moved lined waiting colour events) n = inl refl
  told_uses answers.NoTx n = inl refl
  told_uses (answers.Took value point sync) n = inr (refl, n.0)
  told_uses (answers.UnreadTrimmed stamp colour base) n = inl refl
  told_uses (answers.UnreadNoMemory stamp) n = inl refl
  told_uses (answers.Trimmed colour base) n = inl refl
  told_uses (answers.NotHome home) n = inl refl

abbrev pub Uses : Log → Caller → Step → Type 0
Uses log caller step = UsesNode log caller (kept_at step) step.command.what step.reply.answer

-- what the client keeps when the step's node is appended
abbrev pub over : Log → Caller → Step → Kept
over log caller step = kept_appending log caller (kept_at step) step.reply.answer

pub step_uses : (log : Log) (caller : Caller) (step : Step) → Uses log caller step
    → MayUse log caller (kept_at step) (over log caller step) step.command.what (kept_past log caller step)
step_uses log caller step n =
    let told = told_uses log step.untold caller (kept_at step) step.command.what step.reply.answer n in
    behind_is (MayUse log caller (kept_at step) (over log caller step) step.command.what) step.command.what
    (kept_told log step.untold caller (kept_at step) step.command.what step.reply.answer) told (λ object. told)

-- NODES

wants_same : (f g : ℕ → Counts) → ((c : ℕ) → f c ≡ g c) → (colours : List ℕ) → map f colours ≡ map g colours
wants_same f g e [] = refl
wants_same f g e (c ∷ cs) =
    ap (λ (x : Counts). x ∷ map f cs) (e c) ∙ ap (λ (xs : List Counts). g c ∷ xs) (wants_same f g e cs)

-- nodes with one place in two lists
abbrev pub NodesAt : (Node → Node → Type 0) → List Node → List Node → ℕ → Type 0
NodesAt Q xs ys i = (p : Node) × (q : Node) × (slice_get xs i ≡ Some p) × (slice_get ys i ≡ Some q) × Q p q

pub all_at_places : (Q : Node → Node → Type 0) (xs ys : List Node) → length xs ≡ length ys
    → ((i : ℕ) → i < length xs → NodesAt Q xs ys i) → AllZip Q xs ys
all_at_places Q [] [] e f = tt
all_at_places Q [] (y ∷ ys) e f = absurd (let g : ⊥ = omega (arith, e) in g)
all_at_places Q (x ∷ xs) [] e f = absurd (let g : ⊥ = omega (arith, e) in g)
all_at_places Q (x ∷ xs) (y ∷ ys) e f =
    let a = f 0 (omega arith) in
    let p : a.0 ≡ x = let s = a.2 in cc (s) in
    let q : a.1 ≡ y = let s = a.3 in cc (s) in (
      subst (λ (n : Node). Q n y) p (subst (Q a.0) q a.4),
      all_at_places Q xs ys (omega (arith, e)) (λ i lt. f (suc i) (omega (arith, lt))),
    )

-- nodes of one command, of clients that keep the same
pub of_command : (script : Script) (caller : Caller) {a b : Kept} → KeepSame script a b → (x y : Colours) (t u : List ℕ)
    → members x ≡ members y → AreNodesAlike (node_of caller a x t) (node_of caller b y u)
of_command script caller {a} {b} s x y t u colours = record {
  id = ap (λ (k : ℕ). record { client = caller.client; count = k }) s.ids;
  region = refl;
  colours = colours;
  floor = s.floor;
  wants = wants_same a.starts b.starts s.starts (members x) ∙ ap (map b.starts) colours;
  row = ap (λ (k : ℕ). row_taken caller.client k (members x)) s.rows ∙ ap (row_taken caller.client b.rows) colours;
}

-- the nodes that steps use, of steps that are alike
module _ (script : Script) (caller : Caller) (one two : Log) (Q : Node → Node → Type 0) (R : Step → Step → Type 0)
    (alike : (x y : Step) → R x y → AreStepsAlike script caller x y)
    (its_node : (x y : Step) → R x y → Obeys script one caller x → (kept_past one caller x).ids ≡ (kept_at x).ids + 1
    → HasNode one caller (over one caller x) x.command.what
    → HasNode two caller (over two caller y) x.command.what
    → NodesAt Q (one.nodes caller.client) (two.nodes caller.client) (over one caller x).ids) where
  abbrev ThereAt : ℕ → Type 0
  ThereAt i = NodesAt Q (one.nodes caller.client) (two.nodes caller.client) i

  -- behind a step as many ids are used by both
  past_ids : (xs ys : List Step) (k l last latest : Kept) → AllZip R xs ys
      → Follow one caller k xs last → Follow two caller l ys latest → KeepSame script last latest → k.ids ≡ l.ids
  past_ids [] [] k l last latest all fx fy s =
      ap (λ (z : Kept). z.ids) (sym fx) ∙ (s.ids ∙ ap (λ (z : Kept). z.ids) fy)
  past_ids [] (y ∷ ys) k l last latest all fx fy s = absurd all
  past_ids (x ∷ xs) [] k l last latest all fx fy s = absurd all
  past_ids (x ∷ xs) (y ∷ ys) k l last latest all fx fy s =
      ap (λ (z : Kept). z.ids) (sym fx.0) ∙ ((alike x y all.0).kept.ids ∙ ap (λ (z : Kept). z.ids) fy.0)

  -- what the steps from here on use
  pub nodes_from : (xs ys : List Step) (k l last latest : Kept) → AllZip R xs ys
      → All (Obeys script one caller) xs → All (Uses one caller) xs → All (Uses two caller) ys
      → Follow one caller k xs last → Follow two caller l ys latest → KeepSame script last latest
      → (i : ℕ) → k.ids ≤ i → i < last.ids → ThereAt i
  nodes_from [] ys k l last latest all ox ux uy fx fy s i le lt =
      let e = ap (λ (z : Kept). z.ids) fx in absurd (let g : ⊥ = omega (arith, e, le, lt) in g)
  nodes_from (x ∷ xs) [] k l last latest all ox ux uy fx fy s i le lt = absurd all
  nodes_from (x ∷ xs) (y ∷ ys) k l last latest all ox ux uy fx fy s i le lt =
      turn (step_uses one caller x (All-head (Uses one caller) x xs ux))
      (step_uses two caller y (All-head (Uses two caller) y ys uy))
      (past_ids xs ys (kept_past one caller x) (kept_past two caller y) last latest all.1 fx.1 fy.1 s)
      (λ more. nodes_from xs ys (kept_past one caller x) (kept_past two caller y) last latest all.1
      (All-tail (Obeys script one caller) x xs ox) (All-tail (Uses one caller) x xs ux) (All-tail (Uses two caller) y ys uy) fx.1 fy.1 s i more lt)
      (cases_lt (kept_at x).ids i) where
        ids_of : (step : Step) → (kept_at step).ids ≡ step.kept.ids
        ids_of step =
            before_is (λ (z : Kept). z.ids ≡ step.kept.ids) step.command.what step.kept refl (λ object. refl)

        its : AreStepsAlike script caller x y
        its = alike x y all.0

        before : KeepSame script (kept_at x) (kept_at y)
        before = subst (λ (c : Command). KeepSame script (kept_at x) (kept_before c.what y.kept)) its.command
            (before_same script its.kept x.command.what)

        turn : MayUse one caller (kept_at x) (over one caller x) x.command.what (kept_past one caller x)
            → MayUse two caller (kept_at y) (over two caller y) y.command.what (kept_past two caller y)
            → (kept_past one caller x).ids ≡ (kept_past two caller y).ids
            → ((kept_past one caller x).ids ≤ i → ThereAt i)
            → ((kept_at x).ids < i) ⊎ (i ≤ (kept_at x).ids)
            → ThereAt i
        turn (inl e) q same more c =
            let f = ids_of x in let g = ap (λ (z : Kept). z.ids) fx.0 in more (omega (arith, e, f, g, le))
        turn (inr e) q same more (inl less) = let f = e.0 in more (omega (arith, f, less))
        turn (inr e) (inl f) same more (inr most) =
            let g = e.0 in let h = before.ids in absurd (let z : ⊥ = omega (arith, f, g, h, same) in z)
        turn (inr e) (inr f) same more (inr most) =
            let g = ids_of x in
            let h = ap (λ (z : Kept). z.ids) fx.0 in
            let o = over_ids one caller (kept_at x) x.reply.answer in
            let is : (over one caller x).ids ≡ i = omega (arith, g, h, o, le, most) in
            subst ThereAt is
            (its_node x y all.0 (All-head (Obeys script one caller) x xs ox) e.0 e.1
            (subst (λ (c : Command). HasNode two caller (over two caller y) c.what) (sym its.command) f.1))

-- what is kept when a step's node is appended is the same by both
pub over_same : (script : Script) (fits : IsFitting script) (n : ℕ) (one two : Log)
    → ((r c : ℕ) → HasColumn script r c → one.histories r c ≡ two.histories r c)
    → (caller_of script n).own < script.shape.regions
    → map (row_report (caller_of script n).own) (one.rows (caller_of script n).own)
    ≡ map (row_report (caller_of script n).own) (two.rows (caller_of script n).own)
    → (x y : Step) → AreStepsAlike script (caller_of script n) x y → Obeys script one (caller_of script n) x
    → KeepSame script (over one (caller_of script n) x) (over two (caller_of script n) y)
over_same script fits n one two histories home rows x y alike obeys =
    let before : KeepSame script (kept_at x) (kept_at y) =
    subst (λ (c : Command). KeepSame script (kept_at x) (kept_before c.what y.kept)) alike.command
    (before_same script alike.kept x.command.what) in
    subst (λ (r : ReplyLine). KeepSame script (over one (caller_of script n) x)
    (kept_appending two (caller_of script n) (kept_at y) r.answer)) alike.reply
    (appending_same script fits n one two histories home rows x.command.what obeys.within x.untold y.untold (kept_at x)
    (kept_at y) before x.reply.nodes x.reply.answer obeys.can)

-- nodes of one command, of clients that keep the same, are alike
node_alike : (script : Script) (caller : Caller) (one two : Log) (what : What) {a b : Kept} → KeepSame script a b
    → HasNode one caller a what → HasNode two caller b what
    → NodesAt AreNodesAlike (one.nodes caller.client) (two.nodes caller.client) a.ids
node_alike script caller one two what {a} {b} s x y =
    let p = node_of caller a x.0 x.1 in
    let q = node_of caller b y.0 y.1 in
    let colours : members x.0 ≡ members y.0 =
    asked_colours caller a what x.0 x.1 x.2
    ∙ (asked_same script caller what s ∙ sym (asked_colours caller b what y.0 y.1 y.2)) in (
      p,
      q,
      x.3,
      ap (slice_get (two.nodes caller.client)) s.ids ∙ y.3,
      of_command script caller s x.0 y.0 x.1 y.1 colours,
    )

-- accounts that agree have nodes that do, where these are of commands
pub nodes_agree : (script : Script) (report : Report) (a b : Account) → IsFitting script → IsTold script report a
    → IsTold script report b → Rule1 script report a → Rule4 script report a → Agree script report a b
    → OfEachStep script report a (Uses a.log) → OfEachStep script report b (Uses b.log) → (n : ℕ) (c : ClientReport)
    → slice_get report.clients n ≡ Some c → length (a.log.nodes n) ≡ (a.last n).ids → length (b.log.nodes n) ≡ (b.last n).ids
    → AllZip AreNodesAlike (a.log.nodes n) (b.log.nodes n)
nodes_agree script report a b fits ta tb a1 a4 agree uses_a uses_b n c there of_a of_b =
    let caller = caller_of script n in
    let last = agree.last n c there in
    let same = last.ids in
    let home = home_within script report fits a1.names n c there in
    all_at_places AreNodesAlike (a.log.nodes n) (b.log.nodes n) (of_a ∙ (same ∙ sym of_b))
    (λ i lt. nodes_from script caller a.log b.log AreNodesAlike (AreStepsAlike script caller) (λ x y s. s)
    (λ x y s o e p q. node_alike script caller a.log b.log x.command.what
    (over_same script fits n a.log b.log agree.histories home (agree.rows caller.own home) x y s o) p q)
    (a.steps n) (b.steps n) _ _ (a.last n) (b.last n)
    (agree.steps n c there) (obeys script fits report a ta a1 a4 n c there) (uses_a n c there)
    (uses_b n c there) (ta.clients n c there).follow
    (tb.clients n c there).follow last i (omega arith) (omega (arith, lt, of_a)))

pub told_nodes_agree : ToldNodesAgree
told_nodes_agree script report a b fits ta tb ra rb n c there =
    let a5 = rule5 ra.1 in
    let b5 = rule5 rb.1 in
    nodes_agree script report a b fits ta tb (rule1 ra.0.0.0.0.1) (rule4 ra.0.1)
    (told_accounts_agree script report a b fits ta tb ra.0 rb.0) a5.used b5.used n c there (a5.own n c there).nodes
    (b5.own n c there).nodes
