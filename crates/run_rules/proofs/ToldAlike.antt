-- Two clients that keep the same are told the same behind one answer, where what it leaves out is the same.
use Rattle.std.proofs.Common.{◌≡◌, ◌∙◌, refl, ap, sym, subst, true, ℕ, zero, suc, ◌<◌, List, [], ◌∷◌, ◌++◌, map, Option, Some, None, inl, inr}
use Rattle.std.specs.Prelude.{IsTrue, nat_lt, length}
use Rattle.log_node.specs.Seen.{PlacedNode}
use Rattle.log_node.specs.declared.forms.Version.{Version}
use Rattle.object_fold.specs.Maps.{Value}
use Rattle.col_core.specs.Log.{Log}
use Rattle.col_core.specs.Keeping.{Kept}
use Rattle.col_core.proofs.CallerLemmas.{In, in_map-back}
use Rattle.script_text.specs.declared.commands.What.{What}
use Rattle.script_text.specs.declared.commands.What.TheVariants as whats
use Rattle.script_text.specs.declared.script.Kind.{Kind}
use Rattle.script_text.specs.declared.script.Kind.TheVariants as kinds
use Rattle.script_text.specs.declared.script.Script.{Script}
use Rattle.script_text.specs.declared.uses.ReadUse.TheVariants.{UsesUp}
use Rattle.script_text.specs.declared.uses.Use.{Use}
use Rattle.script_text.specs.declared.uses.Use.TheVariants.{OfObject}
use Rattle.script_text.specs.Commands.{use_of}
use Rattle.script_text.specs.Fitting.{IsFitting, IsWithin}
use Rattle.report_text.specs.declared.report.Answer.{Answer}
use Rattle.report_text.specs.declared.report.Answer.TheVariants as answers
use Rattle.report_text.specs.declared.report.Ended.{Ended}
use Rattle.report_text.specs.declared.report.Ended.TheVariants as ends
use Rattle.report_text.specs.declared.report.PointPiece.{PointPiece}
use Rattle.report_text.specs.declared.report.RaisePiece.{RaisePiece}
use Rattle.report_text.specs.declared.report.SyncPiece.{SyncPiece}
use Rattle.lawful_run.specs.Callers.{Caller, caller_of}
use Rattle.lawful_run.specs.Columns.{row_report}
use Rattle.lawful_run.specs.Asks.{object_colours, kind_asked, keys_of_pairs, rising, shards}
use Rattle.lawful_run.specs.Deeds.{colours_synced, saying_of, found_by}
use Rattle.lawful_run.specs.Parts.{AsksToDecide}
use Rattle.run_rules.specs.Told.{Untold, AreKeysFound, colours_said, colours_asked, is_several, kept_after_append, kept_after_end, kept_appending, kept_deciding, kept_told, stamp_told}
use Rattle.run_rules.specs.Answering.{HasPoints, HasReads, CanGet, CanHave}
use Rattle.run_rules.specs.Shown.{is_row, begins_row}
use Rattle.run_rules.specs.Agreeing.{HasColumn, KeepSame, IsPulled, keys_found}
use Rattle.run_rules.proofs.Deciding.{decide_synced}
use Rattle.run_rules.proofs.Reached.{Below, kind_within, synced_within, appended_within}
use Rattle.run_rules.proofs.SameKept.{SamePlaces, look_same, piece_same, readings_same, stamp_same, append_same, where_same, pull_same, trim_same, found_same}

-- what is said has the same colours, whoever wrote what was found
said_same : (own : List ℕ) (kind : Option Kind) (what : What) (x y : Option (List Version)) → keys_found x ≡ keys_found y
    → colours_said own (saying_of kind x what) ≡ colours_said own (saying_of kind y what)
said_same own kind (whats.Commit object pairs) None None e = refl
said_same own kind (whats.Commit object pairs) None (Some y) e = absurd (let f : ⊥ = cc (e) in f)
said_same own kind (whats.Commit object pairs) (Some x) None e = absurd (let f : ⊥ = cc (e) in f)
said_same own kind (whats.Commit object pairs) (Some x) (Some y) e =
    let k : map (λ (v : Version). v.key) x ≡ map (λ (v : Version). v.key) y = cc (e) in
    ap (λ (keys : List (List ℕ)). shards own (keys ++ keys_of_pairs pairs)) k
said_same own kind _ x y e = refl

pub asked_alike : (caller : Caller) (what : What) (a b : Kept)
    → ((object : ℕ) → keys_found (a.reads object) ≡ keys_found (b.reads object))
    → colours_asked caller a what ≡ colours_asked caller b what
asked_alike caller what a b reads =
    said_same (object_colours (kind_asked caller what)) (kind_asked caller what) what (found_by (use_of what) a)
    (found_by (use_of what) b) (by (use_of what)) where
      by : (u : Use) → keys_found (found_by u a) ≡ keys_found (found_by u b)
      by (OfObject object UsesUp) = reads object
      by _ = refl

pub asked_same : (script : Script) (caller : Caller) (what : What) {a b : Kept} → KeepSame script a b
    → colours_asked caller a what ≡ colours_asked caller b what
asked_same script caller what {a} {b} s = asked_alike caller what a b s.reads

-- and so the command appends on several by both, or by neither
pub several_same : (script : Script) (caller : Caller) (what : What) {a b : Kept} → KeepSame script a b
    → is_several caller a what ≡ is_several caller b what
several_same script caller what s = ap (λ (cs : List ℕ). nat_lt 1 (length cs)) (asked_same script caller what s)

points_are : (colours : List ℕ) (row : Option ℕ) (points : List PointPiece) → HasPoints colours row points
    → map (λ (p : PointPiece). p.colour) points ≡ colours
points_are colours None points h = h.0
points_are colours (Some number) points h = h.0

pub mapped_below : {A : Type 0} (count : ℕ) (f : A → ℕ) (xs : List A) (colours : List ℕ) → map f xs ≡ colours
    → Below count colours → (x : A) → In x xs → f x < count
mapped_below count f xs colours e b x i = b (f x) (subst (In (f x)) e (in_map-back f xs x i))

module _ (script : Script) (fits : IsFitting script) (n : ℕ) (log other : Log)
    (histories : (r c : ℕ) → HasColumn script r c → log.histories r c ≡ other.histories r c)
    (home : (caller_of script n).own < script.shape.regions)
    (rows : map (row_report (caller_of script n).own) (log.rows (caller_of script n).own)
    ≡ map (row_report (caller_of script n).own) (other.rows (caller_of script n).own))
    (what : What) (within : IsWithin script.shape.regions script.shape.colours what) (u v : Untold) (a b : Kept)
    (s : KeepSame script a b) (nodes : List PlacedNode) where
  abbrev who : Caller
  who = caller_of script n

  pub syncs_below : (raises : List RaisePiece) (syncs : List SyncPiece) → HasReads (colours_synced who what) raises syncs
      → (x : SyncPiece) → In x syncs → x.colour < script.shape.colours
  syncs_below raises syncs h x i =
      mapped_below script.shape.colours (λ (p : SyncPiece). p.colour) syncs (colours_synced who what) h.1
      (synced_within script fits n what within) x i

  pub points_below : (row : Option ℕ) (points : List PointPiece) → HasPoints (colours_asked who a what) row points
      → (x : PointPiece) → In x points → x.colour < script.shape.colours
  points_below row points h x i =
      mapped_below script.shape.colours (λ (p : PointPiece). p.colour) points (colours_asked who a what)
      (points_are (colours_asked who a what) row points h) (appended_within script fits n a what within) x i

  pub one_below : (colour : ℕ) → colours_synced who what ≡ colour ∷ [] → colour < script.shape.colours
  one_below colour e =
      synced_within script fits n what within colour (subst (In colour) (sym e) (inl refl))

  -- an append, and a stamped read behind it
  pub behind_same : (row : Option ℕ) (points : List PointPiece) → HasPoints (colours_asked who a what) row points
      → (IsTrue (is_row row) → SamePlaces script who log other histories home rows u v)
      → KeepSame script
      (kept_after_append u who a (stamp_told log who a row points) row points)
      (kept_after_append v who b (stamp_told other who b row points) row points)
  behind_same row points h places =
      append_same script who log other histories home rows u v s (stamp_told log who a row points)
      (stamp_told other who b row points)
      (stamp_same script who log other histories home rows s row points (points_below row points h)) row points places

  -- decisions
  pub decide_below : (sync : SyncPiece) (colours : List ℕ) → AsksToDecide who what sync colours
      → Below script.shape.colours (sync.colour ∷ rising colours)
  decide_below sync colours asks c i =
      synced_within script fits n what within c (subst (In c) (sym (decide_synced who what sync colours asks)) i)

  pub got_below : (value : Value) (sync : SyncPiece) (kind : Option Kind) → CanGet who what sync value kind
      → sync.colour < script.shape.colours
  got_below value sync (Some (kinds.Map home colours)) can = one_below sync.colour can.1.3
  got_below value sync (Some (kinds.Parts home colours)) can = elim can [
    | inl asks ↦ one_below sync.colour asks.1.3
    | inr asks ↦ decide_below sync colours asks.0 sync.colour (inl refl)
  ]
  got_below value sync _ can = absurd can

  pub deciding_same : (sync : SyncPiece) (stamp : ℕ) (raises : List RaisePiece) (syncs : List SyncPiece) (colours : List ℕ)
      → AsksToDecide who what sync colours → HasReads (rising colours) raises syncs
      → KeepSame script (kept_deciding log who a sync stamp raises syncs) (kept_deciding other who b sync stamp raises syncs)
  deciding_same sync stamp raises syncs colours asks has =
      let below = decide_below sync colours asks in
      readings_same script who log other histories home rows stamp raises syncs
      (mapped_below script.shape.colours (λ (p : SyncPiece). p.colour) syncs (rising colours) has.1 (λ c i. below c (inr i)))
      (piece_same script who log other histories home rows s sync (below sync.colour (inl refl)))

  end_same : {c d : Kept} → KeepSame script c d → (ended : Ended)
      → KeepSame script (kept_after_end u who c ended) (kept_after_end v who d ended)
  end_same t (ends.Stood stamp point) =
      append_same script who log other histories home rows u v t stamp stamp refl None (point ∷ [])
      (λ none. absurd (let x : ⊥ = cc (none) in x))
  end_same t (ends.StampEnd colour) = t
  end_same t ends.NoMemory = t

  -- what is kept when the command's node is appended
  pub appending_same : (answer : Answer) → CanHave who a what nodes answer
      → KeepSame script (kept_appending log who a answer) (kept_appending other who b answer)
  appending_same (answers.Decided commits stamp sync read_stamp raises syncs ended) can =
      deciding_same sync read_stamp raises syncs can.1 can.2 can.3
  appending_same _ can = s

  pub told_same : (answer : Answer) → CanHave who a what nodes answer
      → (IsTrue (begins_row (is_several who a what) answer) → SamePlaces script who log other histories home rows u v)
      → (IsPulled answer → u.too_low ≡ v.too_low) → AreKeysFound u.found answer → AreKeysFound v.found answer
      → KeepSame script (kept_told log u who a what answer) (kept_told other v who b what answer)
  told_same answers.NoMemory can places low f g = s
  told_same (answers.Stood stamp row points) can places low f g =
      append_same script who log other histories home rows u v s stamp stamp refl row points places
  told_same (answers.StampEnd colour) can places low f g =
      where_same script who log other histories home rows u v s (is_several who a what) (is_several who b what)
      (several_same script who what s) places
  told_same (answers.Full used) can places low f g = s
  told_same (answers.Stopped zero) can places low f g = s
  told_same (answers.Stopped (suc steps)) can places low f g =
      where_same script who log other histories home rows u v s true true refl places
  told_same (answers.Synced sync plays) can places low f g =
      piece_same script who log other histories home rows s sync (one_below sync.colour (ap (colours_synced who) can))
  told_same (answers.Scanned stamp count raises syncs) can places low f g =
      readings_same script who log other histories home rows stamp raises syncs
      (syncs_below raises syncs (subst (λ (cs : List ℕ). HasReads cs raises syncs) (sym (ap (colours_synced who) can.1)) can.2)) s
  told_same (answers.Pulled count give carry) can places low f g =
      pull_same script who log other histories home rows u v s what give carry (low tt)
  told_same answers.SameRegion can places low f g = s
  told_same (answers.Based given base) can places low f g =
      trim_same script who log other histories home rows u v s what given
  told_same (answers.Got value sync) can places low f g =
      piece_same script who log other histories home rows s sync (got_below value sync (kind_asked who what) can.1)
  told_same (answers.GotMany values sync) can places low f g =
      piece_same script who log other histories home rows s sync (kind_within script fits n can.1 _ can.4)
  told_same (answers.GotKeys stamp shown raises syncs) can places low f g =
      found_same script (readings_same script who log other histories home rows stamp raises syncs
      (syncs_below raises syncs can.2) s) (use_of what) u.found v.found
      (ap (λ (keys : List (List ℕ)). Some keys) (f ∙ sym g))
  told_same (answers.Ruled conflict stamp row points read_stamp raises syncs) can places low f g =
      readings_same script who log other histories home rows read_stamp raises syncs (syncs_below raises syncs can.3)
      (behind_same row points can.2 places)
  told_same (answers.Changed failed stamp row points read_stamp raises syncs) can places low f g =
      readings_same script who log other histories home rows read_stamp raises syncs (syncs_below raises syncs can.3)
      (behind_same row points can.2 places)
  told_same (answers.Listed names stamp raises syncs) can places low f g =
      readings_same script who log other histories home rows stamp raises syncs (syncs_below raises syncs can.4) s
  told_same (answers.Undecided stamp sync) can places low f g =
      piece_same script who log other histories home rows s sync (one_below sync.colour can.4.3)
  told_same (answers.Decided commits stamp sync read_stamp raises syncs ended) can places low f g =
      end_same (deciding_same sync read_stamp raises syncs can.1 can.2 can.3) ended
  told_same (answers.Moved lined waiting colour events) can places low f g = look_same script s who.own colour events
  told_same answers.NoTx can places low f g = s
  told_same (answers.Took value point sync) can places low f g =
      let lt = points_below None (point ∷ []) can.2 point (inl refl) in
      piece_same script who log other histories home rows
      (behind_same None (point ∷ []) can.2 (λ t. absurd (let x : ⊥ = cc (t) in x))) sync
      (subst (λ (k : ℕ). k < script.shape.colours) (sym can.3) lt)
  told_same (answers.UnreadTrimmed stamp colour base) can places low f g = s
  told_same (answers.UnreadNoMemory stamp) can places low f g = s
  told_same (answers.Trimmed colour base) can places low f g = s
  told_same (answers.NotHome home_shown) can places low f g = s
