-- What rules 9 and 12 say of a step they say of one that is alike, by a log with the same histories in the shape and the
-- same nodes.
use Rattle.std.proofs.Common.{◌≡◌, ◌∙◌, refl, ap, sym, subst, ℕ, ◌<◌, ◌≤◌, List, [], ◌∷◌, length, map, take, Option, None, inl, inr}
use Rattle.std.specs.Prelude.{IsTrue}
use Rattle.std.proofs.lemmas.List.Elements.{All-contains}
use Rattle.log_node.specs.declared.ids.Counts.{Counts}
use Rattle.log_node.specs.declared.ids.Id.{Id}
use Rattle.log_node.specs.Seen.{PlacedNode}
use Rattle.log_node.specs.Vectors.{at}
use Rattle.col_core.specs.Log.{Log}
use Rattle.col_core.specs.Keeping.{Kept}
use Rattle.col_core.specs.History.{entries, line, open_count}
use Rattle.col_core.specs.declared.Entry.{Entry}
use Rattle.col_core.proofs.CallerLemmas.{all_in, contains_in}
use Rattle.script_text.specs.declared.commands.What.{What}
use Rattle.script_text.specs.declared.script.Script.{Script}
use Rattle.script_text.specs.Fitting.{IsFitting, IsWithin}
use Rattle.report_text.specs.declared.report.Answer.{Answer}
use Rattle.report_text.specs.declared.report.Answer.TheVariants as answers
use Rattle.report_text.specs.declared.report.PointPiece.{PointPiece}
use Rattle.report_text.specs.declared.report.RaisePiece.{RaisePiece}
use Rattle.report_text.specs.declared.report.SyncPiece.{SyncPiece}
use Rattle.lawful_run.specs.Callers.{Caller, caller_of}
use Rattle.lawful_run.specs.Appends.{IsSoLong, WasNext}
use Rattle.lawful_run.specs.Asks.{kind_asked, object_colours, rising}
use Rattle.lawful_run.specs.Columns.{row_report}
use Rattle.lawful_run.specs.Deeds.{colours_synced}
use Rattle.lawful_run.specs.Moves.{Pulls}
use Rattle.lawful_run.specs.Parts.{AsksToDecide}
use Rattle.lawful_run.specs.Reads.{kept_after_piece}
use Rattle.run_rules.specs.Told.{Untold, colours_asked, is_several, kept_after_append, stamp_told}
use Rattle.run_rules.specs.Answering.{HasPoints, HasReads, CanHave}
use Rattle.run_rules.specs.Shown.{ReadsColours, Shows, StandsNext, SyncsAsTold, begins_row, is_row}
use Rattle.run_rules.specs.Agreeing.{HasColumn, IsPulled, KeepSame}
use Rattle.run_rules.proofs.Deciding.{decide_own}
use Rattle.run_rules.proofs.Reached.{Below, kind_within, synced_within}
use Rattle.run_rules.proofs.ReadsAlike.{keys_alike, keys_known, played_alike, pulls_alike, read_alike, shown_alike, syncs_alike, trims_alike}
use Rattle.run_rules.proofs.SameKept.{SamePlaces, piece_same}
use Rattle.run_rules.proofs.TextsAlike.{AreKnown, ShownAlike}
use Rattle.run_rules.proofs.ToldAlike.{behind_same, decide_below, got_below, mapped_below, one_below, points_below}

module _ (script : Script) (fits : IsFitting script) (n : ℕ) (one two : Log)
    (histories : (r c : ℕ) → HasColumn script r c → one.histories r c ≡ two.histories r c)
    (home : (caller_of script n).own < script.shape.regions)
    (rows : map (row_report (caller_of script n).own) (one.rows (caller_of script n).own)
    ≡ map (row_report (caller_of script n).own) (two.rows (caller_of script n).own))
    (Known : Id → Type 0) (known : AreKnown script n one Known) where
  abbrev who : Caller
  who = caller_of script n

  -- a stamped read of colours of the shape
  pub colours_alike : {a b : Kept} → KeepSame script a b → (colours : List ℕ) → Below script.shape.colours colours
      → (stamp : ℕ) (raises : List RaisePiece) (syncs : List SyncPiece) → HasReads colours raises syncs
      → ReadsColours one who a colours stamp raises syncs → ReadsColours two who b colours stamp raises syncs
  colours_alike s colours low stamp raises syncs has x =
      read_alike script n one two histories home rows Known known s colours stamp raises syncs low
      (mapped_below script.shape.colours (λ (r : RaisePiece). r.colour) raises colours has.0 low)
      (mapped_below script.shape.colours (λ (p : SyncPiece). p.colour) syncs colours has.1 low) _ x

  so_long_alike : {a b : Kept} → KeepSame script a b → (colour events lined waiting : ℕ) → colour < script.shape.colours
      → IsSoLong one who a colour events lined waiting → IsSoLong two who b colour events lined waiting
  so_long_alike {a} {b} s colour events lined waiting lt x =
      let is = histories who.own colour (home, lt) in record {
        unseen = subst (λ (k : ℕ). k ≤ events) (s.seen who.own colour (home, lt)) x.unseen;
        there = subst (λ (h : List Entry). events ≤ length h) is x.there;
        lined_is = subst (λ (h : List Entry). lined ≡ length (line (take events h))) is x.lined_is;
        waiting_is = subst (λ (h : List Entry). waiting ≡ open_count (entries (take events h))) is x.waiting_is;
      }

  module _ (what : What) (within : IsWithin script.shape.regions script.shape.colours what) (u v : Untold) (a b : Kept)
      (s : KeepSame script a b) (shown : List PlacedNode) where
    asked_alike : (stamp : ℕ) (raises : List RaisePiece) (syncs : List SyncPiece)
        → HasReads (colours_synced who what) raises syncs → {c d : Kept} → KeepSame script c d
        → ReadsColours one who c (colours_synced who what) stamp raises syncs
        → ReadsColours two who d (colours_synced who what) stamp raises syncs
    asked_alike stamp raises syncs has t x =
        colours_alike t (colours_synced who what) (synced_within script fits n what within) stamp raises syncs has x

    piece_alike : (sync : SyncPiece) → sync.colour < script.shape.colours → {c d : Kept} → KeepSame script c d
        → SyncsAsTold one who c sync → SyncsAsTold two who d sync
    piece_alike sync lt t x =
        syncs_alike script n one two histories home rows Known known t sync.colour sync.events sync.counts lt x

    -- behind an append
    stood_same : (row : Option ℕ) (points : List PointPiece) → HasPoints (colours_asked who a what) row points
        → (IsTrue (is_row row) → SamePlaces script who one two histories home rows u v)
        → KeepSame script
        (kept_after_append u who a (stamp_told one who a row points) row points)
        (kept_after_append v who b (stamp_told two who b row points) row points)
    stood_same row points has places =
        behind_same script fits n one two histories home rows what within u v a b s shown row points has places

    decided_alike : (sync : SyncPiece) (stamp : ℕ) (raises : List RaisePiece) (syncs : List SyncPiece) (colours : List ℕ)
        → AsksToDecide who what sync colours → HasReads (rising colours) raises syncs
        → ReadsColours one who (kept_after_piece one who a sync) (rising (object_colours (kind_asked who what))) stamp raises syncs
        → ReadsColours two who (kept_after_piece two who b sync) (rising (object_colours (kind_asked who what))) stamp raises syncs
    decided_alike sync stamp raises syncs colours asks has x =
        let low = decide_below script fits n one two histories home rows what within u v a b s shown sync colours asks in
        let is = ap rising (decide_own who what sync colours asks) in
        subst (λ (cs : List ℕ). ReadsColours two who (kept_after_piece two who b sync) cs stamp raises syncs) (sym is)
        (colours_alike (piece_same script who one two histories home rows s sync (low sync.colour (inl refl)))
        (rising colours) (λ c i. low c (inr i)) stamp raises syncs has
        (subst (λ (cs : List ℕ). ReadsColours one who (kept_after_piece one who a sync) cs stamp raises syncs) is x))

    pub shows_alike : (answer : Answer) → CanHave who a what shown answer → ShownAlike one two Known shown
        → (IsTrue (begins_row (is_several who a what) answer) → SamePlaces script who one two histories home rows u v)
        → (IsPulled answer → u.too_low ≡ v.too_low) → Shows one u who a what shown answer → Shows two v who b what shown answer
    shows_alike (answers.Synced sync plays) can said places low x =
        let lt = one_below script fits n one two histories home rows what within u v a b s shown sync.colour
        (ap (colours_synced who) can) in (
          x.0,
          piece_alike sync lt s x.1,
          played_alike script n one two histories home rows Known known s sync.colour sync.events sync.counts shown lt said x.2,
        )
    shows_alike (answers.Scanned stamp count raises syncs) can said places low x =
        let has : HasReads (colours_synced who what) raises syncs =
        subst (λ (cs : List ℕ). HasReads cs raises syncs) (sym (ap (colours_synced who) can.1)) can.2 in (
          x.0,
          asked_alike stamp raises syncs has s x.1,
          x.2,
          keys_alike script n one two histories home rows Known known stamp syncs x.2
              (mapped_below script.shape.colours (λ (p : SyncPiece). p.colour) syncs (colours_synced who what) has.1
              (synced_within script fits n what within)) x.3,
          shown_alike script n one two histories home rows Known known x.2 shown
              (keys_known script n one two histories home rows Known known stamp syncs x.2
              (mapped_below script.shape.colours (λ (p : SyncPiece). p.colour) syncs (colours_synced who what) has.1
              (synced_within script fits n what within)) x.3) said x.4,
        )
    shows_alike (answers.Pulled count give carry) can said places low x = (
      x.0,
      x.1,
      x.2,
      x.3,
      x.4,
      subst (λ (l : List ℕ). Pulls two who b x.0 x.1 count x.3 carry l) (low tt)
          (pulls_alike script n one two histories home rows Known known x.0 x.1
          (subst (IsWithin script.shape.regions script.shape.colours) x.2 within) s count x.3 carry u.too_low x.5),
    )
    shows_alike (answers.Based given base) can said places low x = (
      x.0,
      x.1,
      x.2,
      x.3,
      trims_alike script n one two histories home rows Known known s x.0 x.2 base
          (subst (IsWithin script.shape.regions script.shape.colours) x.1 within) x.4,
    )
    shows_alike (answers.Got value sync) can said places low x =
        piece_alike sync (got_below script fits n one two histories home rows what within u v a b s shown value sync
        (kind_asked who what) can.1) s x
    shows_alike (answers.GotMany values sync) can said places low x =
        piece_alike sync (kind_within script fits n can.1 _ can.4) s x
    shows_alike (answers.GotKeys stamp keys raises syncs) can said places low x = asked_alike stamp raises syncs can.2 s x
    shows_alike (answers.Ruled conflict stamp row points read_stamp raises syncs) can said places low x =
        asked_alike read_stamp raises syncs can.3 (stood_same row points can.2 places) x
    shows_alike (answers.Changed failed stamp row points read_stamp raises syncs) can said places low x =
        asked_alike read_stamp raises syncs can.3 (stood_same row points can.2 places) x
    shows_alike (answers.Listed names stamp raises syncs) can said places low x = asked_alike stamp raises syncs can.4 s x
    shows_alike (answers.Undecided stamp sync) can said places low x =
        piece_alike sync (one_below script fits n one two histories home rows what within u v a b s shown sync.colour can.4.3)
        s x
    shows_alike (answers.Decided commits stamp sync read_stamp raises syncs ended) can said places low x =
        let lt = decide_below script fits n one two histories home rows what within u v a b s shown sync can.1 can.2
        sync.colour (inl refl) in
        (piece_alike sync lt s x.0, decided_alike sync read_stamp raises syncs can.1 can.2 can.3 x.1)
    shows_alike (answers.Took value point sync) can said places low x =
        piece_alike sync
        (subst (λ (c : ℕ). c < script.shape.colours) (sym can.3)
        (points_below script fits n one two histories home rows what within u v a b s shown None (point ∷ []) can.2 point
        (inl refl)))
        (stood_same None (point ∷ []) can.2 (λ t. absurd (let f : ⊥ = cc (t) in f))) x
    shows_alike _ can said places low x = tt

    next_point : (point : PointPiece) → point.colour < script.shape.colours → WasNext one who a point → WasNext two who b point
    next_point point lt x = (
      x.0,
      x.1,
      so_long_alike s point.colour x.0 point.position 0 lt x.2,
      x.3 ∙ ap (λ (w : Counts). at w who.own) (s.starts point.colour),
    )

    pub next_alike : (answer : Answer) → CanHave who a what shown answer → StandsNext one who a what answer
        → StandsNext two who b what answer
    next_alike (answers.Stood stamp row points) can x = λ guards. all_in (WasNext two who b) points (λ p i.
        next_point p
        (points_below script fits n one two histories home rows what within u v a b s shown row points can.2 p i)
        (All-contains (WasNext one who a) points p (x guards) (contains_in points p i)))
    next_alike (answers.Moved lined waiting colour events) can x = (
      x.0,
      x.1,
      so_long_alike s colour events lined waiting (subst (IsWithin script.shape.regions script.shape.colours) x.1 within) x.2,
      elim x.3 [
        | inl e ↦ inl e
        | inr e ↦ inr (λ same. e (same ∙ ap (λ (w : Counts). at w who.own) (sym (s.starts colour))))
      ],
    )
    next_alike _ can x = tt
