-- What each answer adds to the places that a client's commands made: those that it prints, and those that it leaves out.
use Rattle.std.proofs.Common.{◌≡◌, ◌∙◌, refl, ap, sym, Bool, true, false, cond, ℕ, zero, suc, ◌+◌, ◌≤◌, List, [], ◌∷◌, ◌++◌, Option, Some, None, arith, append-nil, append_assoc}
use Rattle.std.specs.Prelude.{◌==◌}
use Rattle.std.proofs.lemmas.Bool.{eqb-true}
use Rattle.log_node.specs.declared.node.At.{At}
use Rattle.log_node.specs.declared.node.At.TheVariants.{Event, Look}
use Rattle.log_node.specs.declared.forms.Version.{Version}
use Rattle.col_core.specs.Log.{Log}
use Rattle.col_core.specs.Keeping.{Kept, updated, updated_at, kept_after_point, kept_after_event}
use Rattle.script_text.specs.declared.commands.What.{What}
use Rattle.script_text.specs.declared.commands.What.TheVariants as whats
use Rattle.script_text.specs.declared.uses.ReadUse.TheVariants.{Takes}
use Rattle.script_text.specs.declared.uses.Use.{Use}
use Rattle.script_text.specs.declared.uses.Use.TheVariants.{OfObject}
use Rattle.script_text.specs.Commands.{use_of}
use Rattle.report_text.specs.declared.report.Answer.{Answer}
use Rattle.report_text.specs.declared.report.Answer.TheVariants as answers
use Rattle.report_text.specs.declared.report.Ended.{Ended}
use Rattle.report_text.specs.declared.report.Ended.TheVariants as ends
use Rattle.report_text.specs.declared.report.PointPiece.{PointPiece}
use Rattle.report_text.specs.declared.report.RaisePiece.{RaisePiece}
use Rattle.report_text.specs.declared.report.SyncPiece.{SyncPiece}
use Rattle.lawful_run.specs.Callers.{Caller}
use Rattle.lawful_run.specs.Appends.{kept_after_points}
use Rattle.lawful_run.specs.Moves.{with_places}
use Rattle.lawful_run.specs.Reads.{events_until, kept_after_place, kept_after_piece}
use Rattle.lawful_run.proofs.CallerLemmas.{before_is, behind_is}
use Rattle.run_rules.specs.Told.{Untold, Step, Follow, is_several, kept_at, kept_past, kept_told, kept_after_append, kept_after_row, kept_after_raises, kept_after_syncs, kept_after_read, kept_after_end, kept_deciding, kept_pulled, kept_where, with_found, stamp_told}
use Rattle.run_rules.specs.Printed.{nowhere, only_at, printed, printed_at, printed_append, printed_end, printed_raises}
use Rattle.run_rules.specs.Shown.{is_row, begins_row}
use Rattle.run_rules.specs.Agreeing.{began_row}

-- PLACES BY REGION AND COLOUR

-- those of the steps of a row, where it was begun
abbrev pub row_part : Bool → ℕ → (ℕ → List ℕ) → ℕ → ℕ → List ℕ
row_part true own places = updated nowhere own places
row_part false own places = nowhere

-- those of gives that were too low
abbrev pub low_part : Untold → Answer → What → ℕ → ℕ → List ℕ
low_part untold (answers.Pulled count give carry) (whats.Pull region colour) = only_at region colour untold.too_low
low_part untold _ _ = nowhere

-- all that a step adds: what it leaves out, and then what it prints
abbrev pub step_part : Caller → Step → ℕ → ℕ → List ℕ
step_part caller step r c =
    row_part (began_row caller step) caller.own step.untold.places r c
    ++ (low_part step.untold step.reply.answer step.command.what r c
    ++ printed caller.own step.reply.answer step.command.what r c)

-- and steps together
abbrev pub steps_part : Caller → List Step → ℕ → ℕ → List ℕ
steps_part caller [] r c = []
steps_part caller (step ∷ steps) r c = step_part caller step r c ++ steps_part caller steps r c

-- ONE MORE

choose : (d : Bool) (v x y xs : List ℕ) → (d ≡ true → v ≡ y ++ xs) → x ≡ y → cond d v x ≡ y ++ cond d xs []
choose true v x y xs f e = f refl
choose false v x y xs f e = e ∙ sym (append-nil y)

choose_at : (b : Bool) (fg fr : ℕ → List ℕ) (colour c : ℕ) (v xs : List ℕ) → (b ≡ true → fg c ≡ fr c)
    → (b ≡ true → (c == colour) ≡ true → v ≡ fr c ++ xs)
    → (cond b (updated fg colour v) fr) c ≡ fr c ++ (cond b (updated (nowhere 0) colour xs) (nowhere 0)) c
choose_at true fg fr colour c v xs e f = choose (c == colour) v (fg c) (fr c) xs (f refl) (e refl)
choose_at false fg fr colour c v xs e f = sym (append-nil (fr c))

-- one column has more
pub added_at : (f : ℕ → ℕ → List ℕ) (region colour : ℕ) (xs : List ℕ) (r c : ℕ)
    → updated_at f region colour (f region colour ++ xs) r c ≡ f r c ++ only_at region colour xs r c
added_at f region colour xs r c =
    choose_at (r == region) (f region) (f r) colour c (f region colour ++ xs) xs
    (λ t. ap (λ (n : ℕ). f n c) (sym (eqb-true r region t)))
    (λ t s. ap (λ (l : List ℕ). l ++ xs)
    (ap (λ (n : ℕ). f n colour) (sym (eqb-true r region t)) ∙ ap (f r) (sym (eqb-true c colour s))))

-- the columns of one region have more
row_at : (b : Bool) (g h places : ℕ → List ℕ) (c : ℕ) → (b ≡ true → g c ≡ h c)
    → (cond b (λ n. g n ++ places n) h) c ≡ h c ++ (cond b places (nowhere 0)) c
row_at true g h places c e = ap (λ (l : List ℕ). l ++ places c) (e refl)
row_at false g h places c e = sym (append-nil (h c))

pub added_row : (f : ℕ → ℕ → List ℕ) (own : ℕ) (places : ℕ → List ℕ) (r c : ℕ)
    → updated f own (λ n. f own n ++ places n) r c ≡ f r c ++ updated nowhere own places r c
added_row f own places r c =
    row_at (r == own) (f own) (f r) places c (λ t. ap (λ (n : ℕ). f n c) (sym (eqb-true r own t)))

-- WHAT IS KEPT GROWS

-- so many ids more, and these places
pub record Grows (before after : Kept) (used : ℕ) (part : ℕ → ℕ → List ℕ) : Type 0 where
  pub ids : before.ids + used ≤ after.ids
  pub made : (r c : ℕ) → after.made r c ≡ before.made r c ++ part r c

still : (before after : Kept) → after.ids ≡ before.ids → ((r c : ℕ) → after.made r c ≡ before.made r c)
    → Grows before after 0 nowhere
still before after e f = record {
  ids = omega (arith, e);
  made = λ r c. f r c ∙ sym (append-nil (before.made r c));
}

then : {a b c : Kept} {used : ℕ} {p q : ℕ → ℕ → List ℕ} → Grows a b used p → Grows b c 0 q
    → Grows a c used (λ x y. p x y ++ q x y)
then {a} {b} {c} {used} {p} {q} f g = record {
  ids = let i = f.ids in let j = g.ids in omega (arith, i, j);
  made = λ x y. g.made x y
      ∙ (ap (λ (l : List ℕ). l ++ q x y) (f.made x y) ∙ append_assoc (a.made x y) (p x y) (q x y));
}

-- the same with these places
grows_as : {a b : Kept} {used : ℕ} {p q : ℕ → ℕ → List ℕ} → Grows a b used p → ((x y : ℕ) → p x y ≡ q x y)
    → Grows a b used q
grows_as {a} f e = record { ids = f.ids; made = λ x y. f.made x y ∙ ap (λ (l : List ℕ). a.made x y ++ l) (e x y) }

event_grows : (kept : Kept) (region colour place : ℕ)
    → Grows kept (kept_after_event kept region colour place) 0 (only_at region colour (place ∷ []))
event_grows kept region colour place =
    record { ids = omega arith; made = added_at kept.made region colour (place ∷ []) }

place_grows : (kept : Kept) (region colour : ℕ) (at : At)
    → Grows kept (kept_after_place kept region colour at) 0 (printed_at region colour at)
place_grows kept region colour (Event place) = event_grows kept region colour place
place_grows kept region colour (Look events) = still kept _ refl (λ r c. refl)

raises_grow : (caller : Caller) (kept : Kept) (raises : List RaisePiece)
    → Grows kept (kept_after_raises caller kept raises) 0 (printed_raises caller.own raises)
raises_grow caller kept [] = still kept kept refl (λ r c. refl)
raises_grow caller kept (x ∷ xs) =
    then (place_grows kept caller.own x.colour x.at)
    (raises_grow caller (kept_after_place kept caller.own x.colour x.at) xs)

pub syncs_keep : (log : Log) (caller : Caller) (kept : Kept) (syncs : List SyncPiece)
    → ((kept_after_syncs log caller kept syncs).ids ≡ kept.ids)
    × ((r c : ℕ) → (kept_after_syncs log caller kept syncs).made r c ≡ kept.made r c)
syncs_keep log caller kept [] = (refl, λ r c. refl)
syncs_keep log caller kept (x ∷ xs) =
    let s = syncs_keep log caller (kept_after_piece log caller kept x) xs in (s.0, λ r c. s.1 r c)

pub points_keep : (own : ℕ) (kept : Kept) (points : List PointPiece)
    → ((kept_after_points kept own points).ids ≡ kept.ids)
    × ((r c : ℕ) → (kept_after_points kept own points).made r c ≡ kept.made r c)
points_keep own kept [] = (refl, λ r c. refl)
points_keep own kept (p ∷ ps) =
    let s = points_keep own (kept_after_point kept own p.colour p.at p.position) ps in (s.0, λ r c. s.1 r c)

read_grows : (log : Log) (caller : Caller) (kept : Kept) (stamp : ℕ) (raises : List RaisePiece) (syncs : List SyncPiece)
    → Grows kept (kept_after_read log caller kept stamp raises syncs) 0 (printed_raises caller.own raises)
read_grows log caller kept stamp raises syncs =
    let f = raises_grow caller kept raises in
    let s = syncs_keep log caller (kept_after_raises caller kept raises) syncs in record {
      ids = let i = f.ids in let j = s.0 in omega (arith, i, j);
      made = λ r c. s.1 r c ∙ f.made r c;
    }

-- an id where a row is begun
abbrev pub one_where : Bool → ℕ
one_where true = 1
one_where false = 0

row_grows : (untold : Untold) (caller : Caller) (kept : Kept)
    → Grows kept (kept_after_row untold caller kept) 1 (updated nowhere caller.own untold.places)
row_grows untold caller kept = record { ids = omega arith; made = added_row kept.made caller.own untold.places }

append_grows : (untold : Untold) (caller : Caller) (kept : Kept) (stamp : ℕ) (row : Option ℕ) (points : List PointPiece)
    → Grows kept (kept_after_append untold caller kept stamp row points) (one_where (is_row row))
    (λ r c. row_part (is_row row) caller.own untold.places r c ++ printed_append caller.own row points r c)
append_grows untold caller kept stamp None [] = still kept kept refl (λ r c. refl)
append_grows untold caller kept stamp None (p ∷ ps) = record {
  ids = omega arith;
  made = added_at kept.made caller.own p.colour (events_until p.at ∷ []);
}
append_grows untold caller kept stamp (Some number) points =
    let s = points_keep caller.own kept points in
    let g = row_grows untold caller (kept_after_points kept caller.own points) in record {
      ids = let i = g.ids in let j = s.0 in omega (arith, i, j);
      made = λ r c. g.made r c
          ∙ (ap (λ (l : List ℕ). l ++ updated nowhere caller.own untold.places r c) (s.1 r c)
          ∙ ap (λ (l : List ℕ). kept.made r c ++ l) (sym (append-nil (updated nowhere caller.own untold.places r c))));
    }

-- what was found changes neither
found_grows : (u : Use) (found : List Version) (before after : Kept) (part : ℕ → ℕ → List ℕ)
    → Grows before after 0 part → Grows before (with_found u found after) 0 part
found_grows (OfObject object Takes) found before after part g = record { ids = g.ids; made = g.made }
found_grows _ found before after part g = g

pull_grows : (untold : Untold) (caller : Caller) (kept : Kept) (count : ℕ) (give carry : At) (what : What)
    → Grows kept (kept_pulled untold caller kept what give carry) 0
    (λ r c. low_part untold (answers.Pulled count give carry) what r c
    ++ printed caller.own (answers.Pulled count give carry) what r c)
pull_grows untold caller kept count give carry (whats.Pull region colour) =
    then (record { ids = omega arith; made = added_at kept.made region colour untold.too_low })
    (then (event_grows (with_places kept region colour untold.too_low) region colour (events_until give))
    (place_grows (kept_after_event (with_places kept region colour untold.too_low) region colour (events_until give))
    caller.own colour carry))
pull_grows untold caller kept count give carry _ = still kept kept refl (λ r c. refl)

trim_grows : (untold : Untold) (caller : Caller) (kept : Kept) (given : At) (base : _) (what : What)
    → Grows kept (kept_told (record { histories = λ _ _. []; nodes = λ _. []; rows = λ _. [] }) untold caller kept what (answers.Based given base)) 0
    (printed caller.own (answers.Based given base) what)
trim_grows untold caller kept given base (whats.Trim colour) = event_grows kept caller.own colour (events_until given)
trim_grows untold caller kept given base _ = still kept kept refl (λ r c. refl)

where_grows : (several : Bool) (untold : Untold) (caller : Caller) (kept : Kept)
    → Grows kept (kept_where several (kept_after_row untold caller kept) kept) (one_where several)
    (λ r c. row_part several caller.own untold.places r c ++ [])
where_grows true untold caller kept =
    grows_as (row_grows untold caller kept) (λ r c. sym (append-nil (updated nowhere caller.own untold.places r c)))
where_grows false untold caller kept = still kept kept refl (λ r c. refl)

module _ (log : Log) (untold : Untold) (caller : Caller) (kept : Kept) (what : What) where
  abbrev Told : Answer → Type 0
  Told answer = Grows kept (kept_told log untold caller kept what answer)
      (one_where (begins_row (is_several caller kept what) answer))
      (λ r c. row_part (begins_row (is_several caller kept what) answer) caller.own untold.places r c
      ++ (low_part untold answer what r c ++ printed caller.own answer what r c))

  behind : (stamp : ℕ) (row : Option ℕ) (points : List PointPiece) (read_stamp : ℕ) (raises : List RaisePiece)
      (syncs : List SyncPiece)
      → Grows kept (kept_after_read log caller (kept_after_append untold caller kept stamp row points) read_stamp raises syncs)
      (one_where (is_row row))
      (λ r c. row_part (is_row row) caller.own untold.places r c
      ++ (printed_append caller.own row points r c ++ printed_raises caller.own raises r c))
  behind stamp row points read_stamp raises syncs =
      grows_as (then (append_grows untold caller kept stamp row points)
      (read_grows log caller (kept_after_append untold caller kept stamp row points) read_stamp raises syncs))
      (λ r c. append_assoc (row_part (is_row row) caller.own untold.places r c)
      (printed_append caller.own row points r c) (printed_raises caller.own raises r c))

  ends_grow : (middle : Kept) (ended : Ended)
      → Grows middle (kept_after_end untold caller middle ended) 0 (printed_end caller.own ended)
  ends_grow middle (ends.Stood stamp point) = record {
    ids = omega arith;
    made = added_at middle.made caller.own point.colour (events_until point.at ∷ []);
  }
  ends_grow middle (ends.StampEnd colour) = still middle middle refl (λ r c. refl)
  ends_grow middle ends.NoMemory = still middle middle refl (λ r c. refl)

  decided_grows : (sync : SyncPiece) (stamp : ℕ) (raises : List RaisePiece) (syncs : List SyncPiece) (ended : Ended)
      → Grows kept (kept_after_end untold caller (kept_deciding log caller kept sync stamp raises syncs) ended) 0
      (λ r c. printed_raises caller.own raises r c ++ printed_end caller.own ended r c)
  decided_grows sync stamp raises syncs ended =
      let g = then (read_grows log caller (kept_after_piece log caller kept sync) stamp raises syncs)
      (ends_grow (kept_deciding log caller kept sync stamp raises syncs) ended) in
      record { ids = g.ids; made = g.made }

  told_grows : (answer : Answer) → Told answer
  told_grows answers.NoMemory = still kept kept refl (λ r c. refl)
  told_grows (answers.Stood stamp row points) = append_grows untold caller kept stamp row points
  told_grows (answers.StampEnd colour) = where_grows (is_several caller kept what) untold caller kept
  told_grows (answers.Full used) = still kept kept refl (λ r c. refl)
  told_grows (answers.Stopped zero) = still kept kept refl (λ r c. refl)
  told_grows (answers.Stopped (suc steps)) = where_grows true untold caller kept
  told_grows (answers.Synced sync plays) = still kept _ refl (λ r c. refl)
  told_grows (answers.Scanned stamp count raises syncs) = read_grows log caller kept stamp raises syncs
  told_grows (answers.Pulled count give carry) = pull_grows untold caller kept count give carry what
  told_grows answers.SameRegion = still kept kept refl (λ r c. refl)
  told_grows (answers.Based given base) = trim_grows untold caller kept given base what
  told_grows (answers.Got value sync) = still kept _ refl (λ r c. refl)
  told_grows (answers.GotMany values sync) = still kept _ refl (λ r c. refl)
  told_grows (answers.GotKeys stamp shown raises syncs) =
      found_grows (use_of what) untold.found kept (kept_after_read log caller kept stamp raises syncs)
      (printed_raises caller.own raises) (read_grows log caller kept stamp raises syncs)
  told_grows (answers.Ruled conflict stamp row points read_stamp raises syncs) =
      behind (stamp_told log caller kept row points) row points read_stamp raises syncs
  told_grows (answers.Changed failed stamp row points read_stamp raises syncs) =
      behind (stamp_told log caller kept row points) row points read_stamp raises syncs
  told_grows (answers.Listed names stamp raises syncs) = read_grows log caller kept stamp raises syncs
  told_grows (answers.Undecided stamp sync) = still kept _ refl (λ r c. refl)
  told_grows (answers.Decided commits stamp sync read_stamp raises syncs ended) =
      decided_grows sync read_stamp raises syncs ended
  told_grows (answers.Moved lined waiting colour events) = still kept _ refl (λ r c. refl)
  told_grows answers.NoTx = still kept kept refl (λ r c. refl)
  told_grows (answers.Took value point sync) = record {
    ids = omega arith;
    made = added_at kept.made caller.own point.colour (events_until point.at ∷ []);
  }
  told_grows (answers.UnreadTrimmed stamp colour base) = still kept kept refl (λ r c. refl)
  told_grows (answers.UnreadNoMemory stamp) = still kept kept refl (λ r c. refl)
  told_grows (answers.Trimmed colour base) = still kept kept refl (λ r c. refl)
  told_grows (answers.NotHome home) = still kept kept refl (λ r c. refl)

-- A step adds its part, and uses an id where it begins a row.
pub step_grows : (log : Log) (caller : Caller) (step : Step)
    → Grows step.kept (kept_past log caller step) (one_where (began_row caller step)) (step_part caller step)
step_grows log caller step =
    let used = one_where (began_row caller step) in
    let at = kept_at step in
    let b = before_is (λ (k : Kept). (k.ids ≡ step.kept.ids) × ((r c : ℕ) → k.made r c ≡ step.kept.made r c))
    step.command.what step.kept (refl, λ r c. refl) (λ object. (refl, λ r c. refl)) in
    let told = told_grows log step.untold caller at step.command.what step.reply.answer in
    let g = behind_is (λ (k : Kept). Grows at k used (step_part caller step)) step.command.what
    (kept_told log step.untold caller at step.command.what step.reply.answer) told
    (λ object. record { ids = told.ids; made = told.made }) in record {
      ids = let i = g.ids in let j = b.0 in omega (arith, i, j);
      made = λ r c. g.made r c ∙ ap (λ (l : List ℕ). l ++ step_part caller step r c) (b.1 r c);
    }

-- and steps that follow one another theirs
pub follow_grows : (log : Log) (caller : Caller) (kept : Kept) (steps : List Step) (last : Kept)
    → Follow log caller kept steps last → (r c : ℕ) → last.made r c ≡ kept.made r c ++ steps_part caller steps r c
follow_grows log caller kept [] last f r c =
    ap (λ (k : Kept). k.made r c) f ∙ sym (append-nil (kept.made r c))
follow_grows log caller kept (s ∷ ss) last f r c =
    let g = step_grows log caller s in
    follow_grows log caller (kept_past log caller s) ss last f.1 r c
    ∙ (ap (λ (l : List ℕ). l ++ steps_part caller ss r c)
    (g.made r c ∙ ap (λ (k : Kept). k.made r c ++ step_part caller s r c) f.0)
    ∙ append_assoc (kept.made r c) (step_part caller s r c) (steps_part caller ss r c))
