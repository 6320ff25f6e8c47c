-- Two told accounts of one report keep the first rule both or neither.
use Rattle.std.proofs.Common.{◌≡◌, ◌∙◌, refl, ap, sym, subst, Bool, true, false, cond, ℕ, zero, suc, List, [], ◌∷◌, map, Option, Some, None}
use Rattle.std.specs.Prelude.{◌==◌}
use Rattle.std.specs.List.{All, AllZip}
use Rattle.std.specs.List.Sorted.{IsNonDecreasing}
use Rattle.std.proofs.lemmas.List.Elements.{All-nil, All-cons, All-head, All-tail}
use Rattle.log_node.specs.declared.node.At.{At}
use Rattle.log_node.specs.declared.node.At.TheVariants.{Event, Look}
use Rattle.log_node.specs.declared.forms.Version.{Version}
use Rattle.col_core.specs.Log.{Log}
use Rattle.col_core.specs.Rows.{BegunRow}
use Rattle.col_core.specs.Keeping.{Kept, nothing_kept, kept_after_point, updated}
use Rattle.script_text.specs.declared.commands.What.{What}
use Rattle.script_text.specs.declared.commands.What.TheVariants as whats
use Rattle.script_text.specs.declared.script.Command.{Command}
use Rattle.script_text.specs.declared.script.Script.{Script}
use Rattle.script_text.specs.declared.uses.ReadUse.TheVariants.{Takes, UsesUp}
use Rattle.script_text.specs.declared.uses.Use.{Use}
use Rattle.script_text.specs.declared.uses.Use.TheVariants.{OfObject}
use Rattle.script_text.specs.Commands.{use_of}
use Rattle.report_text.specs.declared.report.Answer.{Answer}
use Rattle.report_text.specs.declared.report.Answer.TheVariants as answers
use Rattle.report_text.specs.declared.report.Ended.{Ended}
use Rattle.report_text.specs.declared.report.Ended.TheVariants as ends
use Rattle.report_text.specs.declared.report.PointPiece.{PointPiece}
use Rattle.report_text.specs.declared.report.RaisePiece.{RaisePiece}
use Rattle.report_text.specs.declared.report.ReplyLine.{ReplyLine}
use Rattle.report_text.specs.declared.report.RowReport.{RowReport}
use Rattle.report_text.specs.declared.report.SyncPiece.{SyncPiece}
use Rattle.report_text.specs.declared.report.Report.{Report}
use Rattle.lawful_run.specs.Callers.{Caller, caller_of}
use Rattle.lawful_run.specs.Appends.{kept_after_points}
use Rattle.lawful_run.specs.Columns.{row_report}
use Rattle.lawful_run.specs.Reads.{kept_after_place, kept_after_piece}
use Rattle.lawful_run.specs.Refusals.{before_by, behind_by, kept_before, kept_behind}
use Rattle.run_rules.specs.Told.{Untold, Step, Account, AreKeysFound, Follow, IsTold, is_several, kept_at, kept_past, kept_told, kept_after_append, kept_after_row, kept_after_raises, kept_after_syncs, kept_after_read, kept_after_end, kept_deciding, kept_pulled, kept_trimmed, kept_where, stamp_told, with_found}
use Rattle.run_rules.specs.Rules.{IsReplyTo, Rule1}
use Rattle.run_rules.specs.Agreeing.{keys_found}
use Rattle.run_rules.proofs.Lists.{map_map}
use Rattle.run_rules.proofs.ToldAlike.{asked_alike}
use Rattle.run_rules.proofs.NamesAlike.{can_alike}
use Rattle.run_rules.proofs.OneAccount.{rows_alike, step_with}

-- READS

-- the reads that a client keeps, by object
abbrev Reads : Type 0
Reads = ℕ → Option (List Version)

place_reads : (kept : Kept) (region colour : ℕ) (at : At) → (kept_after_place kept region colour at).reads ≡ kept.reads
place_reads kept region colour (Event place) = refl
place_reads kept region colour (Look events) = refl

pub raises_reads : (caller : Caller) (kept : Kept) (raises : List RaisePiece)
    → (kept_after_raises caller kept raises).reads ≡ kept.reads
raises_reads caller kept [] = refl
raises_reads caller kept (x ∷ xs) =
    raises_reads caller (kept_after_place kept caller.own x.colour x.at) xs ∙ place_reads kept caller.own x.colour x.at

syncs_reads : (log : Log) (caller : Caller) (kept : Kept) (syncs : List SyncPiece)
    → (kept_after_syncs log caller kept syncs).reads ≡ kept.reads
syncs_reads log caller kept [] = refl
syncs_reads log caller kept (x ∷ xs) = syncs_reads log caller (kept_after_piece log caller kept x) xs

pub read_reads : (log : Log) (caller : Caller) (kept : Kept) (stamp : ℕ) (raises : List RaisePiece) (syncs : List SyncPiece)
    → (kept_after_read log caller kept stamp raises syncs).reads ≡ kept.reads
read_reads log caller kept stamp raises syncs =
    syncs_reads log caller (kept_after_raises caller kept raises) syncs ∙ raises_reads caller kept raises

points_reads : (own : ℕ) (kept : Kept) (points : List PointPiece) → (kept_after_points kept own points).reads ≡ kept.reads
points_reads own kept [] = refl
points_reads own kept (p ∷ ps) = points_reads own (kept_after_point kept own p.colour p.at p.position) ps

-- what a reply tells of reads
abbrev pub found_told : Untold → Kept → What → Answer → Kept
found_told untold kept what (answers.GotKeys stamp shown raises syncs) = with_found (use_of what) untold.found kept
found_told untold kept what _ = kept

module _ (log : Log) (untold : Untold) (caller : Caller) (kept : Kept) (what : What) where
  append_reads : (stamp : ℕ) (row : Option ℕ) (points : List PointPiece)
      → (kept_after_append untold caller kept stamp row points).reads ≡ kept.reads
  append_reads stamp None [] = refl
  append_reads stamp None (p ∷ ps) = refl
  append_reads stamp (Some number) points = points_reads caller.own kept points

  behind_reads : (stamp : ℕ) (row : Option ℕ) (points : List PointPiece) (read_stamp : ℕ) (raises : List RaisePiece)
      (syncs : List SyncPiece)
      → (kept_after_read log caller (kept_after_append untold caller kept stamp row points) read_stamp raises syncs).reads
      ≡ kept.reads
  behind_reads stamp row points read_stamp raises syncs =
      read_reads log caller (kept_after_append untold caller kept stamp row points) read_stamp raises syncs
      ∙ append_reads stamp row points

  where_reads : (several : Bool) → (kept_where several (kept_after_row untold caller kept) kept).reads ≡ kept.reads
  where_reads true = refl
  where_reads false = refl

  pulled_reads : (w : What) (give carry : At) → (kept_pulled untold caller kept w give carry).reads ≡ kept.reads
  pulled_reads (whats.Pull region colour) give (Event place) = refl
  pulled_reads (whats.Pull region colour) give (Look events) = refl
  pulled_reads _ give carry = refl

  trimmed_reads : (w : What) (given : At) → (kept_trimmed caller kept w given).reads ≡ kept.reads
  trimmed_reads (whats.Trim colour) given = refl
  trimmed_reads _ given = refl

  found_reads : (u : Use) (found : List Version) (after : Kept) → after.reads ≡ kept.reads
      → (with_found u found after).reads ≡ (with_found u found kept).reads
  found_reads (OfObject object Takes) found after e = ap (λ (r : Reads). updated r object (Some found)) e
  found_reads _ found after e = e

  end_reads : (middle : Kept) (ended : Ended) → (kept_after_end untold caller middle ended).reads ≡ middle.reads
  end_reads middle (ends.Stood stamp point) = refl
  end_reads middle (ends.StampEnd colour) = refl
  end_reads middle ends.NoMemory = refl

  pub told_reads : (answer : Answer)
      → (kept_told log untold caller kept what answer).reads ≡ (found_told untold kept what answer).reads
  told_reads (answers.Stood stamp row points) = append_reads stamp row points
  told_reads (answers.StampEnd colour) = where_reads (is_several caller kept what)
  told_reads (answers.Stopped zero) = refl
  told_reads (answers.Stopped (suc steps)) = refl
  told_reads (answers.Scanned stamp count raises syncs) = read_reads log caller kept stamp raises syncs
  told_reads (answers.Pulled count give carry) = pulled_reads what give carry
  told_reads (answers.Based given base) = trimmed_reads what given
  told_reads (answers.GotKeys stamp shown raises syncs) =
      found_reads (use_of what) untold.found (kept_after_read log caller kept stamp raises syncs)
      (read_reads log caller kept stamp raises syncs)
  told_reads (answers.Ruled conflict stamp row points read_stamp raises syncs) =
      behind_reads (stamp_told log caller kept row points) row points read_stamp raises syncs
  told_reads (answers.Changed failed stamp row points read_stamp raises syncs) =
      behind_reads (stamp_told log caller kept row points) row points read_stamp raises syncs
  told_reads (answers.Listed names stamp raises syncs) = read_reads log caller kept stamp raises syncs
  told_reads (answers.Decided commits stamp sync read_stamp raises syncs ended) =
      end_reads (kept_deciding log caller kept sync read_stamp raises syncs) ended
      ∙ read_reads log caller (kept_after_piece log caller kept sync) read_stamp raises syncs
  told_reads _ = refl

-- READS WITH THE SAME KEYS

abbrev SameReads : Kept → Kept → Type 0
SameReads a b = (object : ℕ) → keys_found (a.reads object) ≡ keys_found (b.reads object)

updated_reads : (a b : Reads) (object : ℕ) (x y : Option (List Version)) → keys_found x ≡ keys_found y
    → ((n : ℕ) → keys_found (a n) ≡ keys_found (b n))
    → (n : ℕ) → keys_found (updated a object x n) ≡ keys_found (updated b object y n)
updated_reads a b object x y e same n = by (n == object) where
  by : (t : Bool) → keys_found (cond t x (a n)) ≡ keys_found (cond t y (b n))
  by true = e
  by false = same n

module _ (a b : Kept) (same : SameReads a b) where
  before_reads : (what : What) → SameReads (kept_before what a) (kept_before what b)
  before_reads what = by (use_of what) where
    by : (u : Use) → SameReads (before_by u a) (before_by u b)
    by (OfObject object Takes) = updated_reads a.reads b.reads object None None refl same
    by _ = same

  after_reads : (what : What) → SameReads (kept_behind what a) (kept_behind what b)
  after_reads what = by (use_of what) where
    by : (u : Use) → SameReads (behind_by u a) (behind_by u b)
    by (OfObject object UsesUp) = updated_reads a.reads b.reads object None None refl same
    by _ = same

  with_same : (u : Use) (x y : List Version) → keys_found (Some x) ≡ keys_found (Some y)
      → SameReads (with_found u x a) (with_found u y b)
  with_same (OfObject object Takes) x y e = updated_reads a.reads b.reads object (Some x) (Some y) e same
  with_same _ x y e = same

  found_same : (u v : Untold) (what : What) (answer : Answer) → AreKeysFound u.found answer → AreKeysFound v.found answer
      → SameReads (found_told u a what answer) (found_told v b what answer)
  found_same u v what (answers.GotKeys stamp shown raises syncs) x y =
      with_same (use_of what) u.found v.found (ap (λ (keys : List (List ℕ)). Some keys) (x ∙ sym y))
  found_same u v what _ x y = same

  told_same : (one two : Log) (caller : Caller) (u v : Untold) (what : What) (answer : Answer) → AreKeysFound u.found answer
      → AreKeysFound v.found answer
      → SameReads (kept_told one u caller a what answer) (kept_told two v caller b what answer)
  told_same one two caller u v what answer x y object =
      ap (λ (r : Reads). keys_found (r object)) (told_reads one u caller a what answer)
      ∙ (found_same u v what answer x y object
      ∙ ap (λ (r : Reads). keys_found (r object)) (sym (told_reads two v caller b what answer)))

-- STEPS

-- the steps are one command with one reply, of clients with the same reads
pub record AreBeside (x y : Step) : Type 0 where
  pub command : x.command ≡ y.command
  pub reply : x.reply ≡ y.reply
  pub reads : SameReads x.kept y.kept

module _ (caller : Caller) (one two : Log) where
  abbrev Keys : Step → Type 0
  Keys s = AreKeysFound s.untold.found s.reply.answer

  past_same : (x y : Step) → AreBeside x y → Keys x → Keys y → SameReads (kept_past one caller x) (kept_past two caller y)
  past_same x y r kx ky =
      subst (λ (what : What). SameReads (kept_past one caller x)
      (kept_behind what (kept_told two y.untold caller (kept_before what y.kept) what y.reply.answer)))
      (ap (λ (c : Command). c.what) r.command)
      (subst (λ (answer : Answer). SameReads (kept_past one caller x)
      (kept_behind x.command.what (kept_told two y.untold caller (kept_before x.command.what y.kept) x.command.what answer)))
      answer
      (after_reads (kept_told one x.untold caller (kept_at x) x.command.what x.reply.answer)
      (kept_told two y.untold caller (kept_before x.command.what y.kept) x.command.what x.reply.answer)
      (told_same (kept_at x) (kept_before x.command.what y.kept) (before_reads x.kept y.kept r.reads x.command.what) one two
      caller x.untold y.untold x.command.what x.reply.answer kx
      (subst (λ (a : Answer). AreKeysFound y.untold.found a) (sym answer) ky))
      x.command.what))
    where
      answer : x.reply.answer ≡ y.reply.answer
      answer = ap (λ (r : ReplyLine). r.answer) r.reply

  all_beside : (xs ys : List Step) (k l last latest : Kept)
      → map (λ (s : Step). s.command) xs ≡ map (λ (s : Step). s.command) ys
      → map (λ (s : Step). s.reply) xs ≡ map (λ (s : Step). s.reply) ys
      → Follow one caller k xs last → Follow two caller l ys latest → All Keys xs → All Keys ys → SameReads k l
      → AllZip AreBeside xs ys
  all_beside [] [] k l last latest c r fx fy kx ky same = tt
  all_beside [] (y ∷ ys) k l last latest c r fx fy kx ky same = absurd (let f : ⊥ = cc (c) in f)
  all_beside (x ∷ xs) [] k l last latest c r fx fy kx ky same = absurd (let f : ⊥ = cc (c) in f)
  all_beside (x ∷ xs) (y ∷ ys) k l last latest c r fx fy kx ky same =
      let beside : AreBeside x y = record {
        command = cc (c);
        reply = cc (r);
        reads = λ object.
            ap (λ (z : Kept). keys_found (z.reads object)) fx.0
            ∙ (same object ∙ ap (λ (z : Kept). keys_found (z.reads object)) (sym fy.0));
      } in (
        beside,
        all_beside xs ys (kept_past one caller x) (kept_past two caller y) last latest (cc (c)) (cc (r)) fx.1 fy.1
            (All-tail Keys x xs kx) (All-tail Keys y ys ky)
            (past_same x y beside (All-head Keys x xs kx) (All-head Keys y ys ky)),
      )

  reply_same : (x y : Step) → AreBeside x y → IsReplyTo caller x → IsReplyTo caller y
  reply_same x y r reply =
      subst (IsReplyTo caller) (sym (step_with y x.command x.reply r.command r.reply)) (record {
        line = reply.line;
        word = reply.word;
        answer = can_alike caller x.command.what x.reply.nodes (kept_at x) (kept_before x.command.what y.kept)
            (asked_alike caller x.command.what (kept_at x) (kept_before x.command.what y.kept) (before_reads x.kept y.kept r.reads x.command.what)) x.reply.answer reply.answer;
      })

  replies_same : (xs ys : List Step) → AllZip AreBeside xs ys → All (IsReplyTo caller) xs → All (IsReplyTo caller) ys
  replies_same [] [] r all = All-nil (IsReplyTo caller)
  replies_same [] (y ∷ ys) r all = absurd r
  replies_same (x ∷ xs) [] r all = absurd r
  replies_same (x ∷ xs) (y ∷ ys) r all =
      All-cons (IsReplyTo caller) y ys (reply_same x y r.0 (All-head (IsReplyTo caller) x xs all))
      (replies_same xs ys r.1 (All-tail (IsReplyTo caller) x xs all))

-- ACCOUNTS

clients_shown : (region : ℕ) (rows : List BegunRow) → map (λ (q : RowReport). q.row.client) (map (row_report region) rows)
    ≡ map (λ (r : BegunRow). r.row.client) rows
clients_shown region rows = map_map (λ (q : RowReport). q.row.client) (row_report region) rows

pub first_alike : (script : Script) (report : Report) (a b : Account) → IsTold script report a → IsTold script report b
    → Rule1 script report a → Rule1 script report b
first_alike script report a b ta tb first = record {
  version = first.version;
  names = first.names;
  replies = λ n c there.
      let x = ta.clients n c there in
      let y = tb.clients n c there in
      replies_same (caller_of script n) a.log b.log (a.steps n) (b.steps n)
      (all_beside (caller_of script n) a.log b.log (a.steps n) (b.steps n) nothing_kept nothing_kept (a.last n) (b.last n)
      (x.commands ∙ sym y.commands) (x.replied ∙ sym y.replied) x.follow y.follow x.keys y.keys (λ object. refl))
      (first.replies n c there);
  columns = first.columns;
  named = first.named;
  by_client = λ region lt. subst IsNonDecreasing
      (sym (clients_shown region (a.log.rows region))
      ∙ (ap (map (λ (q : RowReport). q.row.client)) (rows_alike script report a b ta tb region lt)
      ∙ clients_shown region (b.log.rows region)))
      (first.by_client region lt);
}
