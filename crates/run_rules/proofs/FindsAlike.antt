-- What reads found is the same by two told accounts.
use Rattle.std.proofs.Common.{◌≡◌, ◌∙◌, refl, ap, sym, subst, Bool, true, false, cond, ℕ, zero, suc, ◌+◌, ◌<◌, ◌≤◌, List, [], ◌∷◌, map, take, Option, Some, None, ◌⊎◌, inl, inr, arith}
use Rattle.std.specs.Prelude.{◌==◌, max, slice_get, slice_index_or}
use Rattle.std.specs.List.{All, AllZip, fold}
use Rattle.std.proofs.lemmas.Bool.{cases_lt, eq-eqb}
use Rattle.std.proofs.lemmas.List.Elements.{All-head, All-tail}
use Rattle.log_node.specs.declared.ids.Colours.{Colours}
use Rattle.log_node.specs.declared.ids.Key.{Key}
use Rattle.log_node.specs.declared.node.At.{At}
use Rattle.log_node.specs.declared.node.At.TheVariants.{Event, Look}
use Rattle.log_node.specs.declared.node.Node.{Node}
use Rattle.log_node.specs.declared.forms.Version.{Version}
use Rattle.log_node.specs.Seen.{PlacedNode}
use Rattle.object_form.specs.Readings.{form_of}
use Rattle.object_fold.specs.Nodes.{ObjectNode}
use Rattle.object_fold.specs.Transactions.{Write, versions_after, writer_of, writes_with}
use Rattle.part_fold.specs.Laws.{DecisionsArePlain}
use Rattle.col_core.specs.declared.Entry.{Entry}
use Rattle.col_core.specs.History.{line}
use Rattle.col_core.specs.Laws.{RegionOrderIsUnique}
use Rattle.col_core.specs.Log.{Log}
use Rattle.col_core.specs.Keeping.{Kept, kept_after_point, nothing_kept, with_read}
use Rattle.col_core.specs.RegionOrder.{IsRegionOrder}
use Rattle.col_core.proofs.CallerLemmas.{In, contains_in, in_contains, in_map}
use Rattle.script_text.specs.declared.commands.What.{What}
use Rattle.script_text.specs.declared.commands.What.TheVariants as whats
use Rattle.script_text.specs.declared.script.Script.{Script}
use Rattle.script_text.specs.declared.uses.ReadUse.TheVariants.{Takes, UsesUp}
use Rattle.script_text.specs.declared.uses.Use.{Use}
use Rattle.script_text.specs.declared.uses.Use.TheVariants.{OfObject}
use Rattle.script_text.specs.Commands.{use_of}
use Rattle.script_text.specs.Fitting.{IsFitting, IsWithin}
use Rattle.report_text.specs.declared.report.Answer.{Answer}
use Rattle.report_text.specs.declared.report.Answer.TheVariants as answers
use Rattle.report_text.specs.declared.report.ClientReport.{ClientReport}
use Rattle.report_text.specs.declared.report.Ended.{Ended}
use Rattle.report_text.specs.declared.report.Ended.TheVariants as ends
use Rattle.report_text.specs.declared.report.KeyAnswer.{KeyAnswer}
use Rattle.report_text.specs.declared.report.PointPiece.{PointPiece}
use Rattle.report_text.specs.declared.report.RaisePiece.{RaisePiece}
use Rattle.report_text.specs.declared.report.Report.{Report}
use Rattle.report_text.specs.declared.report.SyncPiece.{SyncPiece}
use Rattle.lawful_run.specs.Callers.{Caller, caller_of, node_of}
use Rattle.lawful_run.specs.Appends.{kept_after_points}
use Rattle.lawful_run.specs.Asks.{kind_asked, object_colours}
use Rattle.lawful_run.specs.Deeds.{TextSaid, Exactly, ADecision, Saying, IsText, SaysNode, colours_synced, found_by, saying_of}
use Rattle.lawful_run.specs.Explains.{AnswersKeys}
use Rattle.lawful_run.specs.Objects.{AreObjectNodes, IsObjectNode}
use Rattle.lawful_run.specs.Reads.{greatest_played, kept_after_place, kept_after_piece, lines_read}
use Rattle.lawful_run.specs.Refusals.{before_by, behind_by, kept_before, kept_behind}
use Rattle.run_rules.specs.Told.{Untold, Step, Account, Follow, IsTold, is_several, kept_at, kept_past, kept_told, kept_after_append, kept_after_end, kept_after_raises, kept_after_read, kept_after_row, kept_after_syncs, kept_appending, kept_deciding, kept_pulled, kept_trimmed, kept_where, stamp_told, with_found}
use Rattle.run_rules.specs.Answering.{CanHave}
use Rattle.run_rules.specs.Rules.{HasNode, Rule1, Rule4, Rule5}
use Rattle.run_rules.specs.Shown.{AnswersRight}
use Rattle.run_rules.specs.Agreeing.{Agree, AreStepsAlike, HasColumn}
use Rattle.run_rules.specs.Finding.{FoundSame, IsFound, HasItsFinds, HaveText, KeepReads, AgreeOnFinds}
use Rattle.run_rules.specs.Keeping.{RulesTo}
use Rattle.run_rules.specs.Laws.{FindsAreRight, ToldFindsAgree}
use Rattle.run_rules.proofs.Lists.{zip_at}
use Rattle.run_rules.proofs.Numbers.{rule1, rule2, rule3, rule4, rule5, rule9, rule10}
use Rattle.run_rules.proofs.FirstAlike.{read_reads, told_reads}
use Rattle.run_rules.proofs.KeysTold.{key_above, moves_named}
use Rattle.run_rules.proofs.LeftOut.{Obeys}
use Rattle.run_rules.proofs.NodesAlike.{NodesAt, all_at_places, nodes_from, over, over_same}
use Rattle.run_rules.proofs.OneAccount.{told_accounts_agree, obeys, step_with}
use Rattle.run_rules.proofs.Reached.{home_within, synced_within}
use Rattle.run_rules.proofs.ToldAlike.{mapped_below}

-- THE TENTH RULE

pub read_here : (kept : Kept) (object : ℕ) (found : Option (List Version)) → (with_read kept object found).reads object ≡ found
read_here kept object found =
    ap (λ (b : Bool). cond b found (kept.reads object)) (eq-eqb object object refl)

found_right : (log : Log) (untold : Untold) (caller : Caller) (kept : Kept) (what : What) (answer : Answer)
    → AnswersRight log untold caller kept what answer → IsFound log caller what answer untold.found
found_right log untold caller kept (whats.Read object asked) (answers.GotKeys stamp shown raises syncs) r =
    (r.0, r.1, r.2, r.3, turn r.4) where
      read : Kept
      read = kept_after_read log caller kept stamp raises syncs

      turn : AnswersKeys caller (whats.Read object asked) shown read (with_read read object (Some untold.found)) r.2
          → untold.found ≡ versions_after r.2 asked
      turn (inl g) = absurd (let e = g.2 in let f : ⊥ = cc (e) in f)
      turn (inr g) =
          let e = g.2 in
          let same : object ≡ g.0 = cc (e) in
          let keys : asked ≡ g.1 = cc (e) in
          let here = sym (read_here read object (Some untold.found))
          ∙ (ap (λ (k : Kept). k.reads object) g.4
          ∙ (ap (λ (o : ℕ). (with_read read o (Some (versions_after r.2 g.1))).reads object) (sym same)
          ∙ read_here read object (Some (versions_after r.2 g.1)))) in
          let is : untold.found ≡ versions_after r.2 g.1 = cc (here) in
          is ∙ ap (versions_after r.2) (sym keys)
found_right log untold caller kept _ _ r = tt

pub finds_are_right : FindsAreRight
finds_are_right script report account rules = record {
  found = λ n c there k d lt.
      let s = slice_index_or (account.steps n) k d in
      found_right account.log s.untold (caller_of script n) (kept_at s) s.command.what s.reply.answer
      ((rule10 rules.1).right n c there k d lt);
}

-- FLOORS RISE

larger_left : (a b : ℕ) → a ≤ max a b
larger_left a b = omega arith

larger_right : (a b : ℕ) → b ≤ max a b
larger_right a b = omega arith

raises_floor : (caller : Caller) (kept : Kept) (raises : List RaisePiece)
    → (kept_after_raises caller kept raises).floor ≡ kept.floor
raises_floor caller kept [] = refl
raises_floor caller kept (x ∷ xs) =
    raises_floor caller (kept_after_place kept caller.own x.colour x.at) xs ∙ place_floor kept caller.own x.colour x.at where
      place_floor : (k : Kept) (region colour : ℕ) (given : At) → (kept_after_place k region colour given).floor ≡ k.floor
      place_floor k region colour (Event place) = refl
      place_floor k region colour (Look events) = refl

piece_floor : (log : Log) (caller : Caller) (kept : Kept) (sync : SyncPiece)
    → kept.floor ≤ (kept_after_piece log caller kept sync).floor
piece_floor log caller kept sync = larger_left kept.floor
    (greatest_played log caller kept sync.colour sync.events sync.counts)

syncs_floor : (log : Log) (caller : Caller) (kept : Kept) (syncs : List SyncPiece)
    → kept.floor ≤ (kept_after_syncs log caller kept syncs).floor
syncs_floor log caller kept [] = omega arith
syncs_floor log caller kept (x ∷ xs) =
    let a = piece_floor log caller kept x in
    let b = syncs_floor log caller (kept_after_piece log caller kept x) xs in omega (arith, a, b)

points_floor : (own : ℕ) (kept : Kept) (points : List PointPiece) → (kept_after_points kept own points).floor ≡ kept.floor
points_floor own kept [] = refl
points_floor own kept (p ∷ ps) = points_floor own (kept_after_point kept own p.colour p.at p.position) ps

pub read_floor : (log : Log) (caller : Caller) (kept : Kept) (stamp : ℕ) (raises : List RaisePiece) (syncs : List SyncPiece)
    → (kept.floor ≤ (kept_after_read log caller kept stamp raises syncs).floor)
    × (stamp ≤ (kept_after_read log caller kept stamp raises syncs).floor)
read_floor log caller kept stamp raises syncs =
    let synced = (kept_after_syncs log caller (kept_after_raises caller kept raises) syncs).floor in
    let a = raises_floor caller kept raises in
    let b = syncs_floor log caller (kept_after_raises caller kept raises) syncs in
    let c = larger_left synced stamp in
    (omega (arith, a, b, c), larger_right synced stamp)

module _ (log : Log) (untold : Untold) (caller : Caller) (kept : Kept) (what : What) where
  append_floor : (stamp : ℕ) (row : Option ℕ) (points : List PointPiece)
      → kept.floor ≤ (kept_after_append untold caller kept stamp row points).floor
  append_floor stamp None [] = omega arith
  append_floor stamp None (p ∷ ps) = larger_left kept.floor stamp
  append_floor stamp (Some number) points =
      let a = points_floor caller.own kept points in
      let b = larger_left (kept_after_points kept caller.own points).floor stamp in omega (arith, a, b)

  behind_floor : (stamp : ℕ) (row : Option ℕ) (points : List PointPiece) (read_stamp : ℕ) (raises : List RaisePiece)
      (syncs : List SyncPiece)
      → kept.floor ≤ (kept_after_read log caller (kept_after_append untold caller kept stamp row points) read_stamp raises
      syncs).floor
  behind_floor stamp row points read_stamp raises syncs =
      let a = append_floor stamp row points in
      let b = (read_floor log caller (kept_after_append untold caller kept stamp row points) read_stamp raises syncs).0 in
      omega (arith, a, b)

  where_floor : (several : Bool) → kept.floor ≤ (kept_where several (kept_after_row untold caller kept) kept).floor
  where_floor true = omega arith
  where_floor false = omega arith

  pulled_floor : (w : What) (give carry : At) → kept.floor ≤ (kept_pulled untold caller kept w give carry).floor
  pulled_floor (whats.Pull region colour) give (Event place) = omega arith
  pulled_floor (whats.Pull region colour) give (Look events) = omega arith
  pulled_floor _ give carry = omega arith

  trimmed_floor : (w : What) (given : At) → kept.floor ≤ (kept_trimmed caller kept w given).floor
  trimmed_floor (whats.Trim colour) given = omega arith
  trimmed_floor _ given = omega arith

  found_floor : (u : Use) (found : List Version) (after : Kept) → (with_found u found after).floor ≡ after.floor
  found_floor (OfObject object Takes) found after = refl
  found_floor _ found after = refl

  deciding_floor : (sync : SyncPiece) (stamp : ℕ) (raises : List RaisePiece) (syncs : List SyncPiece)
      → kept.floor ≤ (kept_deciding log caller kept sync stamp raises syncs).floor
  deciding_floor sync stamp raises syncs =
      let a = piece_floor log caller kept sync in
      let b = (read_floor log caller (kept_after_piece log caller kept sync) stamp raises syncs).0 in omega (arith, a, b)

  end_floor : (middle : Kept) (ended : Ended) → middle.floor ≤ (kept_after_end untold caller middle ended).floor
  end_floor middle (ends.Stood stamp point) = larger_left middle.floor stamp
  end_floor middle (ends.StampEnd colour) = omega arith
  end_floor middle ends.NoMemory = omega arith

  told_floor : (answer : Answer) → kept.floor ≤ (kept_told log untold caller kept what answer).floor
  told_floor (answers.Stood stamp row points) = append_floor stamp row points
  told_floor (answers.StampEnd colour) = where_floor (is_several caller kept what)
  told_floor (answers.Stopped zero) = omega arith
  told_floor (answers.Stopped (suc steps)) = omega arith
  told_floor (answers.Synced sync plays) = piece_floor log caller kept sync
  told_floor (answers.Scanned stamp count raises syncs) = (read_floor log caller kept stamp raises syncs).0
  told_floor (answers.Pulled count give carry) = pulled_floor what give carry
  told_floor (answers.Based given base) = trimmed_floor what given
  told_floor (answers.Got value sync) = piece_floor log caller kept sync
  told_floor (answers.GotMany values sync) = piece_floor log caller kept sync
  told_floor (answers.GotKeys stamp shown raises syncs) =
      let a = (read_floor log caller kept stamp raises syncs).0 in
      let b = found_floor (use_of what) untold.found (kept_after_read log caller kept stamp raises syncs) in
      omega (arith, a, b)
  told_floor (answers.Ruled conflict stamp row points read_stamp raises syncs) =
      behind_floor (stamp_told log caller kept row points) row points read_stamp raises syncs
  told_floor (answers.Changed failed stamp row points read_stamp raises syncs) =
      behind_floor (stamp_told log caller kept row points) row points read_stamp raises syncs
  told_floor (answers.Listed names stamp raises syncs) = (read_floor log caller kept stamp raises syncs).0
  told_floor (answers.Undecided stamp sync) = piece_floor log caller kept sync
  told_floor (answers.Decided commits stamp sync read_stamp raises syncs ended) =
      let a = deciding_floor sync read_stamp raises syncs in
      let b = end_floor (kept_deciding log caller kept sync read_stamp raises syncs) ended in omega (arith, a, b)
  told_floor (answers.Took value point sync) =
      let own = stamp_told log caller kept None (point ∷ []) in
      let a = append_floor own None (point ∷ []) in
      let b = piece_floor log caller (kept_after_append untold caller kept own None (point ∷ [])) sync in
      omega (arith, a, b)
  told_floor _ = omega arith

  -- behind a read the floor is at its stamp, or above
  got_floor : (stamp : ℕ) (shown : List KeyAnswer) (raises : List RaisePiece) (syncs : List SyncPiece)
      → stamp ≤ (kept_told log untold caller kept what (answers.GotKeys stamp shown raises syncs)).floor
  got_floor stamp shown raises syncs =
      let a = (read_floor log caller kept stamp raises syncs).1 in
      let b = found_floor (use_of what) untold.found (kept_after_read log caller kept stamp raises syncs) in
      omega (arith, a, b)

  -- what the client keeps when the command's node is appended
  over_floor : (answer : Answer) → kept.floor ≤ (kept_appending log caller kept answer).floor
  over_floor (answers.Decided commits stamp sync read_stamp raises syncs ended) =
      deciding_floor sync read_stamp raises syncs
  over_floor _ = omega arith

-- STEPS BELOW A STAMP

-- a read below the stamp found the same
abbrev pub SameFound : ℕ → What → Answer → List Version → List Version → Type 0
SameFound w (whats.Read object asked) (answers.GotKeys stamp shown raises syncs) f g = stamp < w → f ≡ g
SameFound w _ _ f g = Unit {0}

-- the floor is at the stamp or above, or what is kept of reads is the same
abbrev pub SameBelow : ℕ → Kept → Kept → Type 0
SameBelow w a b = (w ≤ a.floor) ⊎ KeepReads a b

pub updated_same : (a b : Kept) (object : ℕ) (x y : Option (List Version)) → x ≡ y → KeepReads a b
    → KeepReads (with_read a object x) (with_read b object y)
updated_same a b object x y e same n = by (n == object) where
  by : (t : Bool) → cond t x (a.reads n) ≡ cond t y (b.reads n)
  by true = e
  by false = same n

module _ (w : ℕ) (a b : Kept) where
  before_below : (what : What) → SameBelow w a b → SameBelow w (kept_before what a) (kept_before what b)
  before_below what s = by (use_of what) s where
    by : (u : Use) → SameBelow w a b → SameBelow w (before_by u a) (before_by u b)
    by (OfObject object Takes) (inl le) = inl le
    by (OfObject object Takes) (inr same) = inr (updated_same a b object None None refl same)
    by _ t = t

  behind_below : (what : What) → SameBelow w a b → SameBelow w (kept_behind what a) (kept_behind what b)
  behind_below what s = by (use_of what) s where
    by : (u : Use) → SameBelow w a b → SameBelow w (behind_by u a) (behind_by u b)
    by (OfObject object UsesUp) (inl le) = inl le
    by (OfObject object UsesUp) (inr same) = inr (updated_same a b object None None refl same)
    by _ t = t

  module _ (one two : Log) (caller : Caller) (u v : Untold) (same : KeepReads a b) where
    -- of a read, whose stamp is below or not
    got_below : (what : What) (stamp : ℕ) (shown : List KeyAnswer) (raises : List RaisePiece) (syncs : List SyncPiece)
        → SameFound w what (answers.GotKeys stamp shown raises syncs) u.found v.found
        → KeepReads (with_found (use_of what) u.found a) (with_found (use_of what) v.found b)
        ⊎ (w ≤ stamp)
    got_below (whats.Read object asked) stamp shown raises syncs f = by (cases_lt stamp w) where
      by : (stamp < w) ⊎ (w ≤ stamp)
          → KeepReads (with_read a object (Some u.found)) (with_read b object (Some v.found)) ⊎ (w ≤ stamp)
      by (inl lt) = inl (updated_same a b object (Some u.found) (Some v.found) (ap (λ (l : List Version). Some l) (f lt)) same)
      by (inr le) = inr le
    got_below _ stamp shown raises syncs f = inl same

    reads_below : (what : What) (answer : Answer) → SameFound w what answer u.found v.found
        → SameBelow w (kept_told one u caller a what answer) (kept_told two v caller b what answer)
    reads_below what (answers.GotKeys stamp shown raises syncs) f =
        turn (got_below what stamp shown raises syncs f) where
          answer : Answer
          answer = answers.GotKeys stamp shown raises syncs

          turn : KeepReads (with_found (use_of what) u.found a) (with_found (use_of what) v.found b) ⊎ (w ≤ stamp)
              → SameBelow w (kept_told one u caller a what (answers.GotKeys stamp shown raises syncs))
              (kept_told two v caller b what (answers.GotKeys stamp shown raises syncs))
          turn (inl k) = inr (λ object.
              ap (λ (r : ℕ → Option (List Version)). r object)
              (told_reads one u caller a what (answers.GotKeys stamp shown raises syncs))
              ∙ (k object ∙ ap (λ (r : ℕ → Option (List Version)). r object)
              (sym (told_reads two v caller b what (answers.GotKeys stamp shown raises syncs)))))
          turn (inr le) = inl (let g = got_floor one u caller a what stamp shown raises syncs in omega (arith, le, g))
    reads_below what answer f = inr (λ object.
        ap (λ (r : ℕ → Option (List Version)). r object) (told_reads one u caller a what answer)
        ∙ (same object ∙ ap (λ (r : ℕ → Option (List Version)). r object) (sym (told_reads two v caller b what answer))))

  told_below : (one two : Log) (caller : Caller) (u v : Untold) (what : What) (answer : Answer) → SameBelow w a b
      → SameFound w what answer u.found v.found
      → SameBelow w (kept_told one u caller a what answer) (kept_told two v caller b what answer)
  told_below one two caller u v what answer (inl le) f =
      inl (let g = told_floor one u caller a what answer in omega (arith, le, g))
  told_below one two caller u v what answer (inr same) f = reads_below one two caller u v same what answer f

-- of two steps of one command with one reply
abbrev pub FoundBelow : ℕ → Step → Step → Type 0
FoundBelow w x y = SameFound w x.command.what x.reply.answer x.untold.found y.untold.found

module _ (w : ℕ) (script : Script) (caller : Caller) (one two : Log) where
  past_below : (x y : Step) → AreStepsAlike script caller x y → SameBelow w x.kept y.kept → FoundBelow w x y
      → SameBelow w (kept_past one caller x) (kept_past two caller y)
  past_below x y r s f =
      let z : Step = record { command = x.command; reply = x.reply; kept = y.kept; untold = y.untold } in
      subst (λ (t : Step). SameBelow w (kept_past one caller x) (kept_past two caller t))
      (sym (step_with y x.command x.reply r.command r.reply))
      (behind_below w (kept_told one x.untold caller (kept_at x) x.command.what x.reply.answer)
      (kept_told two y.untold caller (kept_at z) x.command.what x.reply.answer) x.command.what
      (told_below w (kept_at x) (kept_at z) one two caller x.untold y.untold x.command.what x.reply.answer
      (before_below w x.kept y.kept x.command.what s) f))

  -- along the steps
  pub steps_below : (xs ys : List Step) (k l last latest : Kept) → AllZip (AreStepsAlike script caller) xs ys
      → AllZip (FoundBelow w) xs ys → Follow one caller k xs last → Follow two caller l ys latest → SameBelow w k l
      → AllZip (λ (x y : Step). SameBelow w x.kept y.kept) xs ys × SameBelow w last latest
  steps_below [] [] k l last latest r f fx fy s =
      (tt, subst (λ (z : Kept). SameBelow w z latest) (sym fx) (subst (SameBelow w k) (sym fy) s))
  steps_below [] (y ∷ ys) k l last latest r f fx fy s = absurd r
  steps_below (x ∷ xs) [] k l last latest r f fx fy s = absurd r
  steps_below (x ∷ xs) (y ∷ ys) k l last latest r f fx fy s =
      let here : SameBelow w x.kept y.kept =
      subst (λ (z : Kept). SameBelow w z y.kept) (sym fx.0) (subst (SameBelow w k) (sym fy.0) s) in
      let rest = steps_below xs ys (kept_past one caller x) (kept_past two caller y) last latest r.1 f.1 fx.1 fy.1
      (past_below x y r.0 here f.0) in
      ((here, rest.0), rest.1)

-- NODES BELOW A STAMP

-- the node's floor is at the stamp or above, or it has the other's text
abbrev pub NodeBelow : ℕ → Node → Node → Type 0
NodeBelow w p q = (w ≤ p.floor) ⊎ HaveText p q

text_same : (own : List ℕ) (saying : Option Saying) (x y : Colours) (t u : List ℕ) → SaysNode own saying x t
    → SaysNode own saying y u → (t ≡ u) ⊎ (IsText ADecision t × IsText ADecision u)
text_same own None x y t u a b = absurd a
text_same own (Some saying) x y t u a b = by saying.text a.1 b.1 where
  by : (said : TextSaid) → IsText said t → IsText said u → (t ≡ u) ⊎ (IsText ADecision t × IsText ADecision u)
  by (Exactly text) e f = inl (e ∙ sym f)
  by ADecision e f = inr (e, f)

pub found_by_same : (u : Use) (a b : Kept) → KeepReads a b → found_by u a ≡ found_by u b
found_by_same (OfObject object UsesUp) a b same = same object
found_by_same _ a b same = refl

pub over_reads : (log : Log) (caller : Caller) (kept : Kept) (answer : Answer)
    → (kept_appending log caller kept answer).reads ≡ kept.reads
over_reads log caller kept (answers.Decided commits stamp sync read_stamp raises syncs ended) =
    read_reads log caller (kept_after_piece log caller kept sync) read_stamp raises syncs
over_reads log caller kept _ = refl

over_below : (w : ℕ) (one two : Log) (caller : Caller) (a b : Kept) (what : What) (answer : Answer) → SameBelow w a b
    → SameBelow w (kept_appending one caller a answer) (kept_appending two caller b answer)
over_below w one two caller a b what answer (inl le) =
    inl (let g = over_floor one (record { places = λ _. []; too_low = []; found = [] }) caller a what answer in omega (arith, le, g))
over_below w one two caller a b what answer (inr same) = inr (λ object.
    ap (λ (r : ℕ → Option (List Version)). r object) (over_reads one caller a answer)
    ∙ (same object ∙ ap (λ (r : ℕ → Option (List Version)). r object) (sym (over_reads two caller b answer))))

node_below : (w : ℕ) (caller : Caller) (one two : Log) (what : What) (a b : Kept) → a.ids ≡ b.ids → SameBelow w a b
    → HasNode one caller a what → HasNode two caller b what
    → NodesAt (NodeBelow w) (one.nodes caller.client) (two.nodes caller.client) a.ids
node_below w caller one two what a b ids s x y = (
  node_of caller a x.0 x.1,
  node_of caller b y.0 y.1,
  x.3,
  ap (slice_get (two.nodes caller.client)) ids ∙ y.3,
  by s,
) where
  by : SameBelow w a b → NodeBelow w (node_of caller a x.0 x.1) (node_of caller b y.0 y.1)
  by (inl le) = inl le
  by (inr same) = inr (text_same (object_colours (kind_asked caller what))
      (saying_of (kind_asked caller what) (found_by (use_of what) b) what) x.0 y.0 x.1 y.1
      (subst (λ (f : Option (List Version)). SaysNode (object_colours (kind_asked caller what))
      (saying_of (kind_asked caller what) f what) x.0 x.1) (found_by_same (use_of what) a b same) x.2) y.2)

-- LISTS

pub zip_both : {A B : Type 0} (R S : A → B → Type 0) (xs : List A) (ys : List B) → AllZip R xs ys → AllZip S xs ys
    → AllZip (λ x y. R x y × S x y) xs ys
zip_both R S [] [] r s = tt
zip_both R S [] (y ∷ ys) r s = absurd r
zip_both R S (x ∷ xs) [] r s = absurd r
zip_both R S (x ∷ xs) (y ∷ ys) r s = ((r.0, s.0), zip_both R S xs ys r.1 s.1)

zip_with : {A B : Type 0} {R S : A → B → Type 0} {P : A → Type 0} {Q : B → Type 0} (xs : List A) (ys : List B)
    → AllZip R xs ys → All P xs → All Q ys → ((x : A) (y : B) → R x y → P x → Q y → S x y) → AllZip S xs ys
zip_with [] [] r p q f = tt
zip_with [] (y ∷ ys) r p q f = absurd r
zip_with (x ∷ xs) [] r p q f = absurd r
zip_with {A} {B} {R} {S} {P} {Q} (x ∷ xs) (y ∷ ys) r p q f = (
  f x y r.0 (All-head P x xs p) (All-head Q y ys q),
  zip_with {R = R} {S = S} {P = P} {Q = Q} xs ys r.1 (All-tail P x xs p) (All-tail Q y ys q) f,
)

-- what is so for each number of items beside one another
pub zip_each : {A B : Type 0} (R : ℕ → A → B → Type 0) (S : A → B → Type 0) (xs : List A) (ys : List B)
    → ((w : ℕ) → AllZip (R w) xs ys) → ((x : A) (y : B) → ((w : ℕ) → R w x y) → S x y) → AllZip S xs ys
zip_each R S [] [] r f = tt
zip_each R S [] (y ∷ ys) r f = absurd (r 0)
zip_each R S (x ∷ xs) [] r f = absurd (r 0)
zip_each R S (x ∷ xs) (y ∷ ys) r f = (f x y (λ w. (r w).0), zip_each R S xs ys (λ w. (r w).1) f)

-- WRITES

pub form_same : DecisionsArePlain → (t u : List ℕ) → (t ≡ u) ⊎ (IsText ADecision t × IsText ADecision u)
    → form_of t ≡ form_of u
form_same plain t u (inl e) = ap form_of e
form_same plain t u (inr d) = ap form_of d.0.1 ∙ (plain d.0.0 ∙ (sym (plain d.1.0) ∙ ap form_of (sym d.1.1)))

abbrev pub write : List Write → ObjectNode → List Write
write writes node = writes_with node.key writes (form_of node.text)

-- nodes with the same keys and forms write the same
pub writes_same : (one two : Log) (keys : List Key) (xs ys : List ObjectNode) → AreObjectNodes one keys xs
    → AreObjectNodes two keys ys
    → ((k : Key) → In k keys → (x y : ObjectNode) → IsObjectNode one k x → IsObjectNode two k y
    → form_of x.text ≡ form_of y.text)
    → (writes : List Write) → fold write writes xs ≡ fold write writes ys
writes_same one two [] [] [] a b f writes = refl
writes_same one two [] (x ∷ xs) ys a b f writes = absurd a
writes_same one two [] [] (y ∷ ys) a b f writes = absurd b
writes_same one two (k ∷ ks) [] ys a b f writes = absurd a
writes_same one two (k ∷ ks) (x ∷ xs) [] a b f writes = absurd b
writes_same one two (k ∷ ks) (x ∷ xs) (y ∷ ys) a b f writes =
    writes_same one two ks xs ys a.1 b.1 (λ m i. f m (inr i)) (write writes x)
    ∙ ap (λ (w : List Write). fold write w ys)
    (ap (λ (n : Key). writes_with n writes (form_of x.text)) (a.0.key_is ∙ sym b.0.key_is)
    ∙ ap (writes_with y.key writes) (f k (inl refl) x y a.0 b.0))

-- ONE STAMP MORE

found_none : (what : What) (answer : Answer) (f g : List Version) → SameFound 0 what answer f g
found_none (whats.Read object asked) (answers.GotKeys stamp shown raises syncs) f g =
    λ lt. absurd (let e : ⊥ = omega (arith, lt) in e)
found_none _ _ f g = tt

-- a read at the stamp found the same
abbrev FoundAt : ℕ → What → Answer → List Version → List Version → Type 0
FoundAt w (whats.Read object asked) (answers.GotKeys stamp shown raises syncs) f g = stamp ≡ w → f ≡ g
FoundAt w _ _ f g = Unit {0}

found_more : (w : ℕ) (what : What) (answer : Answer) (f g : List Version) → SameFound w what answer f g
    → FoundAt w what answer f g → SameFound (suc w) what answer f g
found_more w (whats.Read object asked) (answers.GotKeys stamp shown raises syncs) f g s t = λ lt.
    by lt (cases_lt stamp w) where
      by : stamp < suc w → (stamp < w) ⊎ (w ≤ stamp) → f ≡ g
      by lt (inl less) = s less
      by lt (inr le) = t (omega (arith, lt, le))
found_more w _ _ f g s t = tt

-- what is so below each stamp is so
found_alike : (what : What) (answer : Answer) (f g : List Version) → ((w : ℕ) → SameFound w what answer f g)
    → FoundSame what answer f g
found_alike (whats.Read object asked) (answers.GotKeys stamp shown raises syncs) f g s = s (suc stamp) (omega arith)
found_alike _ _ f g s = tt

pub kept_alike : (x y : Kept) → ((w : ℕ) → SameBelow w x y) → KeepReads x y
kept_alike x y f = by (f (suc x.floor)) where
  by : SameBelow (suc x.floor) x y → KeepReads x y
  by (inl le) = absurd (let e : ⊥ = omega (arith, le) in e)
  by (inr same) = same

-- below the stamp a node has the form of the other's
form_by : DecisionsArePlain → (w : ℕ) (t u : List ℕ) (mine yours : Node) → t ≡ mine.text → u ≡ yours.text
    → (above : Node) → mine ≡ above → (stamp : ℕ) → above.floor < stamp → stamp ≤ w → (other : Node) → other ≡ yours
    → NodeBelow w mine other → form_of t ≡ form_of u
form_by plain w t u mine yours tm uy above is stamp lt le other same (inl high) =
    let e = ap (λ (m : Node). m.floor) is in absurd (let f : ⊥ = omega (arith, e, lt, le, high) in f)
form_by plain w t u mine yours tm uy above is stamp lt le other same (inr texts) =
    ap form_of tm
    ∙ (form_same plain mine.text other.text texts ∙ (ap (λ (m : Node). form_of m.text) same ∙ ap form_of (sym uy)))

-- ACCOUNTS

-- a shown client has a node of the key's id, with a floor below its stamp
pub record StandsAbove (report : Report) (log : Log) (key : Key) : Type 0 where
  pub client : ClientReport
  pub shown : slice_get report.clients key.id.client ≡ Some client
  pub node : Node
  pub there : slice_get (log.nodes key.id.client) key.id.count ≡ Some node
  pub its_id : node.id ≡ key.id
  pub below : node.floor < key.stamp

-- so it is of each key in a line
abbrev pub KeysStandAbove : Script → Report → Log → Type 0
KeysStandAbove script report log = (r k : ℕ) → HasColumn script r k → (key : Key) (events : ℕ)
    → In key (line (take events (log.histories r k))) → StandsAbove report log key

-- where nodes are of commands and moves name their events
pub keys_above : (script : Script) (report : Report) (a : Account) → IsFitting script → IsTold script report a
    → RulesTo script report a 9 → KeysStandAbove script report a.log
keys_above script report a fits ta rules r k has key events i =
    let five = rules.0.0.0.0 in
    let above = key_above script report a fits ta (rule1 five.0.0.0.0.1) (rule2 five.0.0.0.1) (rule3 five.0.0.1) (rule4 five.0.1)
    (rule5 five.1) (moves_named script report a (rule9 rules.1)) r k has key events i in record {
      client = above.client;
      shown = above.shown;
      node = above.node;
      there = above.there;
      its_id = above.its_id;
      below = above.below;
    }

module _ (plain : DecisionsArePlain) (script : Script) (report : Report) (a b : Account)
    (fits : IsFitting script) (ta : IsTold script report a) (tb : IsTold script report b)
    (five : RulesTo script report a 5) (rb : RulesTo script report b 5) (keys : KeysStandAbove script report a.log) where
  a1 : Rule1 script report a
  a1 = rule1 five.0.0.0.0.1

  a4 : Rule4 script report a
  a4 = rule4 five.0.1

  a5 : Rule5 script report a
  a5 = rule5 five.1

  b5 : Rule5 script report b
  b5 = rule5 rb.1

  agree : Agree script report a b
  agree = told_accounts_agree script report a b fits ta tb five.0 rb.0

  -- a shown client
  module _ (n : ℕ) (c : ClientReport) (there : slice_get report.clients n ≡ Some c) where
    abbrev who : Caller
    who = caller_of script n

    home : who.own < script.shape.regions
    home = home_within script report fits a1.names n c there

    abbrev Found : ℕ → Type 0
    Found w = AllZip (FoundBelow w) (a.steps n) (b.steps n)

    below : (w : ℕ) → Found w
        → AllZip (λ (x y : Step). SameBelow w x.kept y.kept) (a.steps n) (b.steps n) × SameBelow w (a.last n) (b.last n)
    below w found =
        steps_below w script who a.log b.log (a.steps n) (b.steps n) nothing_kept nothing_kept (a.last n) (b.last n)
        (agree.steps n c there) found (ta.clients n c there).follow (tb.clients n c there).follow (inr (λ object. refl))

    abbrev AlikeBelow : ℕ → Step → Step → Type 0
    AlikeBelow w x y = AreStepsAlike script who x y × SameBelow w x.kept y.kept

    at_node : (w : ℕ) (x y : Step) → AlikeBelow w x y → Obeys script a.log who x
        → (kept_past a.log who x).ids ≡ (kept_at x).ids + 1 → HasNode a.log who (over a.log who x) x.command.what → HasNode b.log who (over b.log who y) x.command.what
        → NodesAt (NodeBelow w) (a.log.nodes n) (b.log.nodes n) (over a.log who x).ids
    at_node w x y r o e p q =
        let z : Step = record { command = x.command; reply = x.reply; kept = y.kept; untold = y.untold } in
        let is : y ≡ z = step_with y x.command x.reply r.0.command r.0.reply in
        node_below w who a.log b.log x.command.what (over a.log who x) (over b.log who y)
        (over_same script fits n a.log b.log agree.histories home (agree.rows who.own home) x y r.0 o).ids
        (subst (λ (t : Step). SameBelow w (over a.log who x) (over b.log who t)) (sym is)
        (over_below w a.log b.log who (kept_at x) (kept_at z) x.command.what x.reply.answer
        (before_below w x.kept y.kept x.command.what r.1))) p q

    pub nodes_below : (w : ℕ) → Found w → AllZip (NodeBelow w) (a.log.nodes n) (b.log.nodes n)
    nodes_below w found =
        let of_a = (a5.own n c there).nodes in
        let of_b = (b5.own n c there).nodes in
        let last = agree.last n c there in
        let same = last.ids in
        all_at_places (NodeBelow w) (a.log.nodes n) (b.log.nodes n) (of_a ∙ (same ∙ sym of_b))
        (λ i lt. nodes_from script who a.log b.log (NodeBelow w) (AlikeBelow w) (λ x y r. r.0) (at_node w)
        (a.steps n) (b.steps n) nothing_kept nothing_kept (a.last n) (b.last n)
        (zip_both (AreStepsAlike script who) (λ (x y : Step). SameBelow w x.kept y.kept) (a.steps n) (b.steps n)
        (agree.steps n c there) (below w found).0)
        (obeys script fits report a ta a1 a4 n c there) (a5.used n c there) (b5.used n c there)
        (ta.clients n c there).follow (tb.clients n c there).follow last i (omega arith) (omega (arith, lt, of_a)))

  module _ (w : ℕ) (found : (n : ℕ) (c : ClientReport) → slice_get report.clients n ≡ Some c
      → AllZip (FoundBelow w) (a.steps n) (b.steps n)) where
    -- the node of a key that stands up to the stamp has the same form by both
    pub form_there : (r k : ℕ) → HasColumn script r k → (key : Key) (events : ℕ)
        → In key (line (take events (a.log.histories r k))) → key.stamp ≤ w → (x y : ObjectNode) → IsObjectNode a.log key x
        → IsObjectNode b.log key y → form_of x.text ≡ form_of y.text
    form_there r k has key events i le x y ix iy =
        let above = keys r k has key events i in
        let n = key.id.client in
        let at = zip_at (NodeBelow w) (a.log.nodes n) (b.log.nodes n)
        (nodes_below n above.client above.shown w (found n above.client above.shown)) key.id.count ix.appended ix.there in
        form_by plain w x.text y.text ix.appended iy.appended ix.text iy.text above.node
        (let s = ix.there in let t = above.there in cc (s, t)) key.stamp above.below le at.0
        (let s = at.1 in let t = iy.there in cc (s, t)) at.2

    module _ (unique : RegionOrderIsUnique) (fa : HasItsFinds script report a) (fb : HasItsFinds script report b) (n : ℕ)
        (c : ClientReport) (there : slice_get report.clients n ≡ Some c) where
      -- the lines that a read looked at are the same by both
      lines_same : (syncs : List SyncPiece) → ((x : SyncPiece) → In x syncs → x.colour < script.shape.colours)
          → lines_read a.log (caller_of script n) syncs ≡ lines_read b.log (caller_of script n) syncs
      lines_same [] low = refl
      lines_same (x ∷ xs) low =
          ap (λ (h : List Entry). line (take x.events h) ∷ lines_read a.log (caller_of script n) xs)
          (agree.histories (caller_of script n).own x.colour (home n c there, low x (inl refl)))
          ∙ ap (λ (l : List (List Key)). line (take x.events (b.log.histories (caller_of script n).own x.colour)) ∷ l)
          (lines_same xs (λ y i. low y (inr i)))

      found_at : (what : What) (answer : Answer) (x y : List Version)
          → IsWithin script.shape.regions script.shape.colours what → (kept : Kept) (nodes : List PlacedNode)
          → CanHave (caller_of script n) kept what nodes answer
          → IsFound a.log (caller_of script n) what answer x → IsFound b.log (caller_of script n) what answer y
          → FoundAt w what answer x y
      found_at (whats.Read object asked) (answers.GotKeys stamp shown raises syncs) x y within kept nodes can f g = λ e.
          let caller = caller_of script n in
          let low : (s : SyncPiece) → In s syncs → s.colour < script.shape.colours =
          λ s i. mapped_below script.shape.colours (λ (p : SyncPiece). p.colour) syncs
          (colours_synced caller (whats.Read object asked)) can.2.1
          (synced_within script fits n (whats.Read object asked) within) s i in
          let keys : f.0 ≡ g.0 = unique (lines_read b.log caller syncs) stamp f.0 g.0
          (subst (λ (l : List (List Key)). IsRegionOrder l stamp f.0) (lines_same syncs low) f.1) g.1 in
          let same = writes_same a.log b.log g.0 f.2 g.2
          (subst (λ (ks : List Key). AreObjectNodes a.log ks f.2) keys f.3) g.3
          (λ k i p q ip iq.
          let o = f.1.no_other k (contains_in f.0 k (subst (In k) (sym keys) i)) in
          let l = in_map (λ (s : SyncPiece). line (take s.events (a.log.histories caller.own s.colour))) syncs o.1
          (in_contains (lines_read a.log caller syncs) o.1 o.2) in
          let stamp_low = o.0 in
          form_there caller.own l.0.colour (home n c there, low l.0 l.1) k l.0.events
          (subst (In k) (sym l.2) (in_contains o.1 k o.3)) (omega (arith, stamp_low, e)) p q ip iq) [] in
          f.4 ∙ (ap (λ (ws : List Write). map (λ (key : List ℕ). record { key = key; writer = writer_of ws key }) asked) same
          ∙ sym g.4)
      found_at _ _ x y within kept nodes can f g = tt

      abbrev Told : Step → Type 0
      Told s = Obeys script a.log (caller_of script n) s
          × IsFound a.log (caller_of script n) s.command.what s.reply.answer s.untold.found

      found_next : AllZip (FoundBelow (suc w)) (a.steps n) (b.steps n)
      found_next =
          zip_with {R = λ (x y : Step). AreStepsAlike script (caller_of script n) x y × FoundBelow w x y}
          {S = FoundBelow (suc w)} {P = Told}
          {Q = λ (s : Step). IsFound b.log (caller_of script n) s.command.what s.reply.answer s.untold.found}
          (a.steps n) (b.steps n)
          (zip_both (AreStepsAlike script (caller_of script n)) (FoundBelow w) (a.steps n) (b.steps n)
          (agree.steps n c there) (found n c there))
          (λ k d lt. (obeys script fits report a ta a1 a4 n c there k d lt, fa.found n c there k d lt))
          (fb.found n c there)
          (λ x y r p q.
          let z : Step = record { command = x.command; reply = x.reply; kept = y.kept; untold = y.untold } in
          let is : y ≡ z = step_with y x.command x.reply r.0.command r.0.reply in
          found_more w x.command.what x.reply.answer x.untold.found y.untold.found r.1
          (found_at x.command.what x.reply.answer x.untold.found y.untold.found p.0.within (kept_at x) x.reply.nodes p.0.can
          p.1
          (subst (λ (s : Step). IsFound b.log (caller_of script n) s.command.what s.reply.answer s.untold.found) is q)))

  module _ (unique : RegionOrderIsUnique) (fa : HasItsFinds script report a) (fb : HasItsFinds script report b) where
    all_found : (w : ℕ) → (n : ℕ) (c : ClientReport) → slice_get report.clients n ≡ Some c
        → AllZip (FoundBelow w) (a.steps n) (b.steps n)
    all_found zero n c there =
        zip_with {R = AreStepsAlike script (caller_of script n)} {S = FoundBelow 0} {P = λ (s : Step). Unit {0}}
        {Q = λ (s : Step). Unit {0}} (a.steps n) (b.steps n) (agree.steps n c there) (λ k d lt. tt) (λ k d lt. tt)
        (λ x y r p q. found_none x.command.what x.reply.answer x.untold.found y.untold.found)
    all_found (suc w) n c there = found_next w (all_found w) unique fa fb n c there

    -- so are nodes
    node_alike : (p q : Node) → ((w : ℕ) → NodeBelow w p q) → HaveText p q
    node_alike p q f = by (f (suc p.floor)) where
      by : NodeBelow (suc p.floor) p q → HaveText p q
      by (inl le) = absurd (let e : ⊥ = omega (arith, le) in e)
      by (inr same) = same

    all_agree : AgreeOnFinds report a b
    all_agree = record {
      found = λ n c there. zip_each FoundBelow
          (λ (x y : Step). FoundSame x.command.what x.reply.answer x.untold.found y.untold.found) (a.steps n) (b.steps n)
          (λ w. all_found w n c there)
          (λ x y f. found_alike x.command.what x.reply.answer x.untold.found y.untold.found f);
      steps = λ n c there. zip_each (λ (w : ℕ) (x y : Step). SameBelow w x.kept y.kept)
          (λ (x y : Step). KeepReads x.kept y.kept) (a.steps n) (b.steps n)
          (λ w. (below n c there w (all_found w n c there)).0) (λ x y f. kept_alike x.kept y.kept f);
      last = λ n c there. kept_alike (a.last n) (b.last n) (λ w. (below n c there w (all_found w n c there)).1);
      nodes = λ n c there. zip_each NodeBelow HaveText (a.log.nodes n) (b.log.nodes n)
          (λ w. nodes_below n c there w (all_found w n c there)) node_alike;
    }

pub finds_agree : RegionOrderIsUnique → DecisionsArePlain → ToldFindsAgree
finds_agree unique plain script report a b fits ta tb ra rb fa fb =
    all_agree plain script report a b fits ta tb ra.0.0.0.0 rb (keys_above script report a fits ta ra) unique fa fb
