-- Each id that a client used is that of a step's node.
use Rattle.std.proofs.Common.{◌≡◌, ◌⊎◌, ◌∙◌, refl, ap, sym, subst, Bool, true, false, ℕ, zero, suc, ◌+◌, ◌<◌, ◌≤◌, List, [], ◌∷◌, Option, Some, None, inl, inr, arith}
use Rattle.std.specs.List.{All}
use Rattle.std.proofs.lemmas.Bool.{cases_lt}
use Rattle.std.proofs.lemmas.List.Elements.{All-head, All-tail}
use Rattle.log_node.specs.declared.node.At.{At}
use Rattle.log_node.specs.declared.node.At.TheVariants.{Event, Look}
use Rattle.log_node.specs.declared.forms.Version.{Version}
use Rattle.col_core.specs.Log.{Log}
use Rattle.col_core.specs.Keeping.{Kept, kept_after_point}
use Rattle.script_text.specs.declared.commands.What.{What}
use Rattle.script_text.specs.declared.commands.What.TheVariants as whats
use Rattle.script_text.specs.declared.uses.ReadUse.TheVariants.{Takes}
use Rattle.script_text.specs.declared.uses.Use.{Use}
use Rattle.script_text.specs.declared.uses.Use.TheVariants.{OfObject}
use Rattle.script_text.specs.declared.script.Command.{Command}
use Rattle.script_text.specs.Commands.{use_of}
use Rattle.report_text.specs.declared.report.Answer.{Answer}
use Rattle.report_text.specs.declared.report.Answer.TheVariants as answers
use Rattle.report_text.specs.declared.report.Ended.{Ended}
use Rattle.report_text.specs.declared.report.Ended.TheVariants as ends
use Rattle.report_text.specs.declared.report.PointPiece.{PointPiece}
use Rattle.report_text.specs.declared.report.RaisePiece.{RaisePiece}
use Rattle.report_text.specs.declared.report.SyncPiece.{SyncPiece}
use Rattle.report_text.specs.declared.report.ReplyLine.{ReplyLine}
use Rattle.lawful_run.specs.Callers.{Caller}
use Rattle.lawful_run.specs.Appends.{kept_after_points}
use Rattle.lawful_run.specs.Reads.{kept_after_place, kept_after_piece}
use Rattle.lawful_run.proofs.CallerLemmas.{before_is, behind_is}
use Rattle.run_rules.specs.Told.{Step, Untold, is_several, kept_after_append, kept_after_end, kept_after_raises, kept_after_read, kept_after_row, kept_after_syncs, kept_at, kept_deciding, kept_past, kept_pulled, kept_told, kept_trimmed, kept_where, stamp_told, with_found}
use Rattle.run_rules.specs.Telling.{last_of_steps, step_of, steps_of}
use Rattle.walk_law.specs.Fifth.{OfEnd, OfNode}

-- WHAT USES NO ID

place_ids : (kept : Kept) (region colour : ℕ) (given : At) → (kept_after_place kept region colour given).ids ≡ kept.ids
place_ids kept region colour (Event place) = refl
place_ids kept region colour (Look events) = refl

points_ids : (own : ℕ) (kept : Kept) (points : List PointPiece) → (kept_after_points kept own points).ids ≡ kept.ids
points_ids own kept [] = refl
points_ids own kept (p ∷ ps) = points_ids own (kept_after_point kept own p.colour p.at p.position) ps

raises_ids : (caller : Caller) (kept : Kept) (raises : List RaisePiece) → (kept_after_raises caller kept raises).ids ≡ kept.ids
raises_ids caller kept [] = refl
raises_ids caller kept (r ∷ rs) =
    raises_ids caller (kept_after_place kept caller.own r.colour r.at) rs ∙ place_ids kept caller.own r.colour r.at

syncs_ids : (log : Log) (caller : Caller) (kept : Kept) (syncs : List SyncPiece)
    → (kept_after_syncs log caller kept syncs).ids ≡ kept.ids
syncs_ids log caller kept [] = refl
syncs_ids log caller kept (s ∷ ss) = syncs_ids log caller (kept_after_piece log caller kept s) ss

read_ids : (log : Log) (caller : Caller) (kept : Kept) (stamp : ℕ) (raises : List RaisePiece) (syncs : List SyncPiece)
    → (kept_after_read log caller kept stamp raises syncs).ids ≡ kept.ids
read_ids log caller kept stamp raises syncs =
    syncs_ids log caller (kept_after_raises caller kept raises) syncs ∙ raises_ids caller kept raises

-- ANSWERS

-- what is asked of a node is so of one with this id
abbrev IsOfId : (Kept → Option ℕ → List PointPiece → Type 0) → ℕ → Type 0
IsOfId P id = (k : Kept) × (row : Option ℕ) × (points : List PointPiece) × (k.ids ≡ id) × P k row points

module _ (log : Log) (untold : Untold) (caller : Caller) (kept : Kept) (what : What)
    (P : Kept → Option ℕ → List PointPiece → Type 0) where
  -- no id is used, or the next one, of which this is so
  abbrev MayUse : Kept → Type 0
  MayUse after = (after.ids ≡ kept.ids) ⊎ ((after.ids ≡ kept.ids + 1) × IsOfId P kept.ids)

  append_uses : (stamp : ℕ) (row : Option ℕ) (points : List PointPiece) → P kept row points
      → MayUse (kept_after_append untold caller kept stamp row points)
  append_uses stamp None [] p = inl refl
  append_uses stamp None (x ∷ xs) p = inr (refl, (kept, None, x ∷ xs, refl, p))
  append_uses stamp (Some number) points p =
      inr (ap (λ (k : ℕ). k + 1) (points_ids caller.own kept points), (kept, Some number, points, refl, p))

  -- what follows uses none
  then_none : (middle after : Kept) → after.ids ≡ middle.ids → MayUse middle → MayUse after
  then_none middle after e (inl f) = inl (e ∙ f)
  then_none middle after e (inr f) = inr (e ∙ f.0, f.1)

  where_uses : (several : Bool) → is_several caller kept what ≡ several → (is_several caller kept what ≡ true → P kept None [])
      → MayUse (kept_where several (kept_after_row untold caller kept) kept)
  where_uses true t p = inr (refl, (kept, None, [], refl, p t))
  where_uses false t p = inl refl

  pulled_ids : (w : What) (give carry : At) → (kept_pulled untold caller kept w give carry).ids ≡ kept.ids
  pulled_ids (whats.Pull region colour) give (Event place) = refl
  pulled_ids (whats.Pull region colour) give (Look events) = refl
  pulled_ids _ give carry = refl

  trimmed_ids : (w : What) (given : At) → (kept_trimmed caller kept w given).ids ≡ kept.ids
  trimmed_ids (whats.Trim colour) given = refl
  trimmed_ids _ given = refl

  found_ids : (u : Use) (found : List Version) (after : Kept) → (with_found u found after).ids ≡ after.ids
  found_ids (OfObject object Takes) found after = refl
  found_ids _ found after = refl

  end_uses : (middle : Kept) (ended : Ended) → middle.ids ≡ kept.ids → OfEnd P middle ended
      → MayUse (kept_after_end untold caller middle ended)
  end_uses middle (ends.Stood stamp point) e p =
      inr (ap (λ (k : ℕ). k + 1) e, (middle, None, point ∷ [], e, p))
  end_uses middle (ends.StampEnd colour) e p = inl e
  end_uses middle ends.NoMemory e p = inl e

  behind_uses : (stamp : ℕ) (row : Option ℕ) (points : List PointPiece) (read_stamp : ℕ) (raises : List RaisePiece)
      (syncs : List SyncPiece) → P kept row points
      → MayUse (kept_after_read log caller (kept_after_append untold caller kept stamp row points) read_stamp raises syncs)
  behind_uses stamp row points read_stamp raises syncs p =
      let middle = kept_after_append untold caller kept stamp row points in
      then_none middle (kept_after_read log caller middle read_stamp raises syncs)
      (read_ids log caller middle read_stamp raises syncs) (append_uses stamp row points p)

  pub told_uses : (answer : Answer) → OfNode P log caller kept what answer → MayUse (kept_told log untold caller kept what answer)
  told_uses answers.NoMemory p = inl refl
  told_uses (answers.Stood stamp row points) p = append_uses stamp row points p
  told_uses (answers.StampEnd colour) p = where_uses (is_several caller kept what) refl p
  told_uses (answers.Full used) p = inl refl
  told_uses (answers.Stopped zero) p = inl refl
  told_uses (answers.Stopped (suc steps)) p = inr (refl, (kept, None, [], refl, p))
  told_uses (answers.Synced sync plays) p = inl refl
  told_uses (answers.Scanned stamp count raises syncs) p = inl (read_ids log caller kept stamp raises syncs)
  told_uses (answers.Pulled count give carry) p = inl (pulled_ids what give carry)
  told_uses answers.SameRegion p = inl refl
  told_uses (answers.Based given base) p = inl (trimmed_ids what given)
  told_uses (answers.Got value sync) p = inl refl
  told_uses (answers.GotMany values sync) p = inl refl
  told_uses (answers.GotKeys stamp shown raises syncs) p =
      inl (found_ids (use_of what) untold.found (kept_after_read log caller kept stamp raises syncs)
      ∙ read_ids log caller kept stamp raises syncs)
  told_uses (answers.Ruled conflict stamp row points read_stamp raises syncs) p =
      behind_uses (stamp_told log caller kept row points) row points read_stamp raises syncs p
  told_uses (answers.Changed failed stamp row points read_stamp raises syncs) p =
      behind_uses (stamp_told log caller kept row points) row points read_stamp raises syncs p
  told_uses (answers.Listed names stamp raises syncs) p = inl (read_ids log caller kept stamp raises syncs)
  told_uses (answers.Undecided stamp sync) p = inl refl
  told_uses (answers.Decided commits stamp sync read_stamp raises syncs ended) p =
      end_uses (kept_deciding log caller kept sync read_stamp raises syncs) ended
      (read_ids log caller (kept_after_piece log caller kept sync) read_stamp raises syncs) p
  told_uses (answers.Moved lined waiting colour events) p = inl refl
  told_uses answers.NoTx p = inl refl
  told_uses (answers.Took value point sync) p = inr (refl, (kept, None, point ∷ [], refl, p))
  told_uses (answers.UnreadTrimmed stamp colour base) p = inl refl
  told_uses (answers.UnreadNoMemory stamp) p = inl refl
  told_uses (answers.Trimmed colour base) p = inl refl
  told_uses (answers.NotHome home) p = inl refl

-- STEPS

module _ (log : Log) (caller : Caller) (shown : ℕ → ℕ → List ℕ) (P : What → Kept → Option ℕ → List PointPiece → Type 0) where
  -- what is asked of a step's node
  abbrev pub IsAskedOf : Step → Type 0
  IsAskedOf step = OfNode (P step.command.what) log caller (kept_at step) step.command.what step.reply.answer

  -- an id is that of a step's node
  abbrev pub IsOfStep : ℕ → Type 0
  IsOfStep id = (what : What) × (k : Kept) × (row : Option ℕ) × (points : List PointPiece) × (k.ids ≡ id) × P what k row points

  module _ (step : Step) where
    abbrev what : What
    what = step.command.what

    abbrev told : Kept
    told = kept_told log step.untold caller (kept_at step) what step.reply.answer

    before : (kept_at step).ids ≡ step.kept.ids
    before = before_is (λ (k : Kept). k.ids ≡ step.kept.ids) what step.kept refl (λ object. refl)

    behind : (kept_past log caller step).ids ≡ told.ids
    behind = behind_is (λ (k : Kept). k.ids ≡ told.ids) what told refl (λ object. refl)

    -- behind a step no id is used, or the one of its node
    abbrev StepUses : Type 0
    StepUses =
        ((kept_past log caller step).ids ≡ step.kept.ids)
        ⊎ (((kept_past log caller step).ids ≡ step.kept.ids + 1) × IsOfStep step.kept.ids)

    past_uses : IsAskedOf step → StepUses
    past_uses asked = by (told_uses log step.untold caller (kept_at step) what (P what) step.reply.answer asked) where
      by : (told.ids ≡ (kept_at step).ids) ⊎ ((told.ids ≡ (kept_at step).ids + 1) × IsOfId (P what) (kept_at step).ids) → StepUses
      by (inl e) = inl (behind ∙ (e ∙ before))
      by (inr (e, of)) =
          inr (
            behind ∙ (e ∙ ap (λ (n : ℕ). n + 1) before),
            (what, of.0, of.1, of.2, of.3 ∙ before, of.4),
          )

    used_at : (last id : ℕ) → IsAskedOf step → step.kept.ids ≤ id → id < last
        → ((kept_past log caller step).ids ≤ id → id < last → IsOfStep id) → IsOfStep id
    used_at last id asked le lt rest = by (past_uses asked) (cases_lt step.kept.ids id) where
      by : StepUses → (step.kept.ids < id) ⊎ (id ≤ step.kept.ids) → IsOfStep id
      by (inl same) cases = rest (omega (arith, same, le)) lt
      by (inr (next, is)) (inl above) = rest (omega (arith, next, above)) lt
      by (inr (next, is)) (inr below) = subst IsOfStep (let e : step.kept.ids ≡ id = omega (arith, le, below) in e) is

  pub each_used : (kept : Kept) (cs : List Command) (rs : List ReplyLine) → All IsAskedOf (steps_of log caller shown kept cs rs)
      → (id : ℕ) → kept.ids ≤ id → id < (last_of_steps log caller shown kept cs rs).ids → IsOfStep id
  each_used kept [] rs all id le lt = absurd (let f : ⊥ = omega (arith, le, lt) in f)
  each_used kept (c ∷ cs) [] all id le lt = absurd (let f : ⊥ = omega (arith, le, lt) in f)
  each_used kept (c ∷ cs) (r ∷ rs) all id le lt =
      let step = step_of log caller shown kept c r in
      let more = steps_of log caller shown (kept_past log caller step) cs rs in
      used_at step (last_of_steps log caller shown (kept_past log caller step) cs rs).ids id (All-head IsAskedOf step more all) le lt
      (each_used (kept_past log caller step) cs rs (All-tail IsAskedOf step more all) id)
