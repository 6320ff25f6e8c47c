-- Of two clients that keep the same the one's answer can be the other's, and names what is there where the other's does.
use Rattle.std.proofs.Common.{◌≡◌, ◌∙◌, refl, ap, sym, subst, ℕ, zero, suc, ◌<◌, ◌≤◌, List, [], ◌∷◌, length, map, take, Option, Some, None, ◌⊎◌, inl, inr}
use Rattle.std.specs.Prelude.{IsTrue, nat_lt, slice_get}
use Rattle.std.specs.List.{All, Contains}
use Rattle.std.proofs.lemmas.Bool.{cases_lt}
use Rattle.std.proofs.lemmas.List.Elements.{All-nil, All-contains}
use Rattle.log_node.specs.declared.node.At.{At}
use Rattle.log_node.specs.declared.node.At.TheVariants.{Event, Look}
use Rattle.log_node.specs.Seen.{PlacedNode}
use Rattle.log_node.specs.Vectors.{at}
use Rattle.col_core.specs.declared.Event as events
use Rattle.col_core.specs.declared.Entry.{Entry}
use Rattle.col_core.specs.History.{line}
use Rattle.col_core.specs.Ids.{IsStepOf}
use Rattle.col_core.specs.Log.{Log}
use Rattle.col_core.specs.Keeping.{Kept}
use Rattle.col_core.proofs.CallerLemmas.{In, all_in, contains_in}
use Rattle.script_text.specs.declared.commands.What.{What}
use Rattle.script_text.specs.declared.script.Script.{Script}
use Rattle.script_text.specs.Fitting.{IsFitting, IsWithin}
use Rattle.report_text.specs.declared.report.Answer.{Answer}
use Rattle.report_text.specs.declared.report.Answer.TheVariants as answers
use Rattle.report_text.specs.declared.report.Ended.{Ended}
use Rattle.report_text.specs.declared.report.Ended.TheVariants as ends
use Rattle.report_text.specs.declared.report.PointPiece.{PointPiece}
use Rattle.report_text.specs.declared.report.RaisePiece.{RaisePiece}
use Rattle.report_text.specs.declared.report.SyncPiece.{SyncPiece}
use Rattle.lawful_run.specs.Callers.{Caller, caller_of}
use Rattle.lawful_run.specs.Asks.{kind_asked, rising}
use Rattle.lawful_run.specs.Columns.{row_report}
use Rattle.lawful_run.specs.Deeds.{colours_synced}
use Rattle.lawful_run.specs.Reads.{events_until}
use Rattle.run_rules.specs.Told.{Untold, colours_asked, is_several, kept_after_append, kept_after_raises, stamp_told}
use Rattle.run_rules.specs.Naming.{Has, EntersOf, GivesTo, CarriesOf, IsRaise, IsTrim, NamesLook, NamesPlace, NamesPoint, NamesSteps, NamesAppend, NamesSync, NamesSyncs, NamesRaises, NamesRead, NamesEnd, Names}
use Rattle.run_rules.specs.Answering.{HasPoints, HasReads, CanEnd, CanHave}
use Rattle.run_rules.specs.Shown.{is_row, begins_row}
use Rattle.run_rules.specs.Agreeing.{HasColumn, KeepSame, IsPulled}
use Rattle.run_rules.proofs.Reached.{Below, kind_within, synced_within}
use Rattle.run_rules.proofs.SameKept.{place_same, piece_same}
use Rattle.run_rules.proofs.ToldAlike.{several_same, mapped_below, points_below, one_below, got_below, decide_below, behind_same, deciding_same}

-- an answer that a command can have it can have too where its client appends on the same colours
pub can_alike : (caller : Caller) (what : What) (nodes : List PlacedNode) (a b : Kept)
    → colours_asked caller a what ≡ colours_asked caller b what
    → (answer : Answer) → CanHave caller a what nodes answer → CanHave caller b what nodes answer
can_alike caller what nodes a b s (answers.Stood stamp row points) can =
    (can.0, can.1, subst (λ (cs : List ℕ). HasPoints cs row points) s can.2)
can_alike caller what nodes a b s (answers.StampEnd colour) can =
    (can.0, subst (λ (cs : List ℕ). Contains cs colour) s can.1)
can_alike caller what nodes a b s (answers.Full used) can =
    (can.0, sym (ap (λ (cs : List ℕ). nat_lt 1 (length cs)) s) ∙ can.1)
can_alike caller what nodes a b s (answers.Ruled conflict stamp row points read_stamp raises syncs) can =
    (can.0, can.1, subst (λ (cs : List ℕ). HasPoints cs row points) s can.2, can.3)
can_alike caller what nodes a b s (answers.Changed failed stamp row points read_stamp raises syncs) can =
    (can.0, can.1, subst (λ (cs : List ℕ). HasPoints cs row points) s can.2, can.3)
can_alike caller what nodes a b s (answers.Decided commits stamp sync read_stamp raises syncs ended) can =
    (can.0, can.1, can.2, can.3, subst (λ (cs : List ℕ). CanEnd cs ended) s can.4)
can_alike caller what nodes a b s (answers.Took value point sync) can =
    (can.0, can.1, subst (λ (cs : List ℕ). HasPoints cs None (point ∷ [])) s can.2, can.3)
can_alike caller what nodes a b s _ can = can

-- WHAT IS NAMED

module _ (script : Script) (n : ℕ) (log other : Log)
    (histories : (r c : ℕ) → HasColumn script r c → log.histories r c ≡ other.histories r c)
    (home : (caller_of script n).own < script.shape.regions)
    (rows : map (row_report (caller_of script n).own) (log.rows (caller_of script n).own)
    ≡ map (row_report (caller_of script n).own) (other.rows (caller_of script n).own)) where
  abbrev who : Caller
  who = caller_of script n

  look_named : {a b : Kept} → KeepSame script a b → (r c : ℕ) → HasColumn script r c → (events : ℕ)
      → NamesLook log a r c events → NamesLook other b r c events
  look_named s r c has events l = (
    subst (λ (k : ℕ). k ≤ events) (s.seen r c has) l.0,
    subst (λ (h : List Entry). events ≤ length h) (histories r c has) l.1,
  )

  place_named : {a b : Kept} → KeepSame script a b → (r c : ℕ) → HasColumn script r c → (IsSuch : events.Event → Type 0)
      → (given : At) → NamesPlace log who a r c IsSuch given → NamesPlace other who b r c IsSuch given
  place_named s r c has IsSuch (Event place) e = (
    subst (λ (k : ℕ). k ≤ place) (s.seen r c has) e.0,
    subst (λ (h : List Entry). Has who.client h IsSuch place) (histories r c has) e.1,
  )
  place_named s r c has IsSuch (Look events) l = look_named s r c has events l

  points_named : {a b : Kept} → KeepSame script a b → (points : List PointPiece)
      → ((p : PointPiece) → In p points → p.colour < script.shape.colours)
      → All (NamesPoint log who a) points → All (NamesPoint other who b) points
  points_named {a} {b} s points below all = all_in (NamesPoint other who b) points (λ p i.
      let k = All-contains (NamesPoint log who a) points p all (contains_in points p i) in (
        place_named s who.own p.colour (home, below p i) (EntersOf who.client) p.at k.0,
        subst (λ (m : ℕ). m ≤ p.position) (s.known p.colour) k.1,
      ))

  abbrev IsStep : Log → Kept → ℕ → ℕ → Type 0
  IsStep l k colour place =
      (k.seen who.own colour ≤ place)
      × Has who.client (l.histories who.own colour) (IsStepOf (record { client = who.client; count = k.ids })) place

  step_named : {a b : Kept} → KeepSame script a b → (colour place : ℕ) → colour < script.shape.colours
      → IsStep log a colour place → IsStep other b colour place
  step_named s colour place lt i = (
    subst (λ (k : ℕ). k ≤ place) (s.seen who.own colour (home, lt)) i.0,
    (
      i.1.0,
      subst (λ (h : List Entry). slice_get h place ≡ Some i.1.0) (histories who.own colour (home, lt)) i.1.1,
      i.1.2,
      subst (λ (k : ℕ). IsStepOf (record { client = who.client; count = k }) i.1.0.event) s.ids i.1.3,
    ),
  )

  -- places that are the same in the shape, and none beyond
  steps_named : {a b : Kept} → KeepSame script a b → (u v : ℕ → List ℕ)
      → ((c : ℕ) → c < script.shape.colours → u c ≡ v c) → ((c : ℕ) → script.shape.colours ≤ c → v c ≡ [])
      → NamesSteps log who a u → NamesSteps other who b v
  steps_named {a} {b} s u v same none all colour = by (cases_lt colour script.shape.colours) where
    by : (colour < script.shape.colours) ⊎ (script.shape.colours ≤ colour) → All (IsStep other b colour) (v colour)
    by (inl lt) = subst (All (IsStep other b colour)) (same colour lt)
        (all_in (IsStep other b colour) (u colour) (λ p i. step_named s colour p lt
        (All-contains (IsStep log a colour) (u colour) p (all colour) (contains_in (u colour) p i))))
    by (inr le) = subst (All (IsStep other b colour)) (sym (none colour le)) (All-nil (IsStep other b colour))

  append_named : {a b : Kept} → KeepSame script a b → (u v : Untold) → (row : Option ℕ) (points : List PointPiece)
      → ((p : PointPiece) → In p points → p.colour < script.shape.colours)
      → (IsTrue (is_row row) → (c : ℕ) → c < script.shape.colours → u.places c ≡ v.places c)
      → ((c : ℕ) → script.shape.colours ≤ c → v.places c ≡ [])
      → NamesAppend log u who a row points → NamesAppend other v who b row points
  append_named s u v None points below same none names = points_named s points below names
  append_named s u v (Some number) points below same none names =
      (points_named s points below names.0, steps_named s u.places v.places (same refl) none names.1)

  sync_named : {a b : Kept} → KeepSame script a b → (sync : SyncPiece) → sync.colour < script.shape.colours
      → NamesSync log who a sync → NamesSync other who b sync
  sync_named s sync lt names = (
    look_named s who.own sync.colour (home, lt) sync.events names.0,
    subst (λ (m : ℕ). m ≤ at sync.counts who.own) (s.known sync.colour) names.1,
  )

  syncs_named : (syncs : List SyncPiece) → ((x : SyncPiece) → In x syncs → x.colour < script.shape.colours)
      → {a b : Kept} → KeepSame script a b → NamesSyncs log who a syncs → NamesSyncs other who b syncs
  syncs_named [] below s names = tt
  syncs_named (x ∷ xs) below s names = (
    sync_named s x (below x (inl refl)) names.0,
    syncs_named xs (λ y i. below y (inr i))
        (piece_same script who log other histories home rows s x (below x (inl refl))) names.1,
  )

  raises_named : (raises : List RaisePiece) → ((x : RaisePiece) → In x raises → x.colour < script.shape.colours)
      → {a b : Kept} → KeepSame script a b → NamesRaises log who a raises
      → NamesRaises other who b raises × KeepSame script (kept_after_raises who a raises) (kept_after_raises who b raises)
  raises_named [] below s names = (tt, s)
  raises_named (x ∷ xs) below {a} {b} s names =
      let lt = below x (inl refl) in
      let rest = raises_named xs (λ y i. below y (inr i)) (place_same script s who.own x.colour x.at) names.2 in (
        (
          place_named s who.own x.colour (home, lt) IsRaise x.at names.0,
          subst (λ (m : ℕ). m ≤ length (line (take (events_until x.at) (other.histories who.own x.colour)))) (s.known x.colour)
              (subst (λ (h : List Entry). a.known x.colour ≤ length (line (take (events_until x.at) h)))
              (histories who.own x.colour (home, lt)) names.1),
          rest.0,
        ),
        rest.1,
      )

  read_named : {a b : Kept} → KeepSame script a b → (colours : List ℕ) → Below script.shape.colours colours
      → (raises : List RaisePiece) (syncs : List SyncPiece) → HasReads colours raises syncs
      → NamesRead log who a raises syncs → NamesRead other who b raises syncs
  read_named s colours below raises syncs has names =
      let first = raises_named raises
      (mapped_below script.shape.colours (λ (p : RaisePiece). p.colour) raises colours has.0 below) s names.0 in (
        first.0,
        syncs_named syncs (mapped_below script.shape.colours (λ (p : SyncPiece). p.colour) syncs colours has.1 below)
            first.1 names.1,
      )

module _ (script : Script) (fits : IsFitting script) (n : ℕ) (log other : Log)
    (histories : (r c : ℕ) → HasColumn script r c → log.histories r c ≡ other.histories r c)
    (home : (caller_of script n).own < script.shape.regions)
    (rows : map (row_report (caller_of script n).own) (log.rows (caller_of script n).own)
    ≡ map (row_report (caller_of script n).own) (other.rows (caller_of script n).own))
    (what : What) (within : IsWithin script.shape.regions script.shape.colours what) (u v : Untold) (a b : Kept)
    (s : KeepSame script a b) (nodes : List PlacedNode)
    (none : (c : ℕ) → script.shape.colours ≤ c → v.places c ≡ []) where
  abbrev it : Caller
  it = caller_of script n

  synced : Below script.shape.colours (colours_synced it what)
  synced = synced_within script fits n what within

  append_here : (row : Option ℕ) (points : List PointPiece) → HasPoints (colours_asked it a what) row points
      → (IsTrue (is_row row) → (c : ℕ) → c < script.shape.colours → u.places c ≡ v.places c)
      → NamesAppend log u it a row points → NamesAppend other v it b row points
  append_here row points has same names =
      append_named script n log other histories home rows s u v row points
      (points_below script fits n log other histories home rows what within u v a b s nodes row points has) same none names

  -- an append, and a stamped read behind it
  behind_here : (row : Option ℕ) (points : List PointPiece) (raises : List RaisePiece) (syncs : List SyncPiece)
      → HasPoints (colours_asked it a what) row points → HasReads (colours_synced it what) raises syncs
      → (IsTrue (is_row row) → (c : ℕ) → c < script.shape.colours → u.places c ≡ v.places c)
      → NamesAppend log u it a row points
      × NamesRead log it (kept_after_append u it a (stamp_told log it a row points) row points) raises syncs
      → NamesAppend other v it b row points
      × NamesRead other it (kept_after_append v it b (stamp_told other it b row points) row points) raises syncs
  behind_here row points raises syncs has reads same names = (
    append_here row points has same names.0,
    read_named script n log other histories home rows
        (behind_same script fits n log other histories home rows what within u v a b s nodes row points has
        (λ t c column. same t c column.1)) (colours_synced it what) synced raises syncs reads names.1,
  )

  end_named : {c d : Kept} → KeepSame script c d → (ended : Ended) → CanEnd (colours_asked it a what) ended
      → NamesEnd log u it c ended → NamesEnd other v it d ended
  end_named t (ends.Stood stamp point) can names =
      points_named script n log other histories home rows t (point ∷ [])
      (points_below script fits n log other histories home rows what within u v a b s nodes None (point ∷ []) can) names
  end_named t _ can names = tt

  pub names_same : (answer : Answer) → CanHave it a what nodes answer
      → (IsTrue (begins_row (is_several it a what) answer)
      → (c : ℕ) → c < script.shape.colours → u.places c ≡ v.places c)
      → (IsPulled answer → u.too_low ≡ v.too_low) → Names log u it a what answer → Names other v it b what answer
  names_same (answers.Stood stamp row points) can places low names = append_here row points can.2 places names
  names_same (answers.StampEnd colour) can places low names =
      λ t. let first = several_same script it what s ∙ t in
      steps_named script n log other histories home rows s u.places v.places (places first) none (names first)
  names_same (answers.Stopped zero) can places low names = tt
  names_same (answers.Stopped (suc steps)) can places low names =
      steps_named script n log other histories home rows s u.places v.places (places refl) none names
  names_same (answers.Synced sync plays) can places low names =
      sync_named script n log other histories home rows s sync (one_below script fits n log other histories home rows what within u v a b s nodes sync.colour (ap (colours_synced it) can)) names
  names_same (answers.Scanned stamp count raises syncs) can places low names =
      read_named script n log other histories home rows s (colours_synced it what) synced raises syncs
      (subst (λ (cs : List ℕ). HasReads cs raises syncs) (sym (ap (colours_synced it) can.1)) can.2) names
  names_same (answers.Pulled count give carry) can places low names =
      let has : HasColumn script names.0 names.1 =
      subst (IsWithin script.shape.regions script.shape.colours) names.2 within in (
        names.0,
        names.1,
        names.2,
        (
          subst (λ (h : List Entry). All (Has it.client h (GivesTo it.own)) v.too_low) (histories names.0 names.1 has)
              (subst (λ (l : List ℕ). All (Has it.client (log.histories names.0 names.1) (GivesTo it.own)) l) (low tt)
              names.3.0),
          place_named script n log other histories home rows s names.0 names.1 has (GivesTo it.own) give names.3.1,
          place_named script n log other histories home rows s it.own names.1 (home, has.1) (CarriesOf names.0) carry
              names.3.2,
        ),
      )
  names_same (answers.Based given base) can places low names = (
    names.0,
    names.1,
    place_named script n log other histories home rows s it.own names.0
        (home, subst (IsWithin script.shape.regions script.shape.colours) names.1 within) IsTrim given names.2,
  )
  names_same (answers.Got value sync) can places low names =
      sync_named script n log other histories home rows s sync
      (got_below script fits n log other histories home rows what within u v a b s nodes value sync (kind_asked it what)
      can.1) names
  names_same (answers.GotMany values sync) can places low names =
      sync_named script n log other histories home rows s sync (kind_within script fits n can.1 _ can.4) names
  names_same (answers.GotKeys stamp shown raises syncs) can places low names =
      read_named script n log other histories home rows s (colours_synced it what) synced raises syncs can.2 names
  names_same (answers.Ruled conflict stamp row points read_stamp raises syncs) can places low names =
      behind_here row points raises syncs can.2 can.3 places names
  names_same (answers.Changed failed stamp row points read_stamp raises syncs) can places low names =
      behind_here row points raises syncs can.2 can.3 places names
  names_same (answers.Listed names_shown stamp raises syncs) can places low names =
      read_named script n log other histories home rows s (colours_synced it what) synced raises syncs can.4 names
  names_same (answers.Undecided stamp sync) can places low names =
      sync_named script n log other histories home rows s sync (one_below script fits n log other histories home rows what within u v a b s nodes sync.colour can.4.3) names
  names_same (answers.Decided commits stamp sync read_stamp raises syncs ended) can places low names =
      let below = decide_below script fits n log other histories home rows what within u v a b s nodes sync can.1 can.2 in (
        sync_named script n log other histories home rows s sync (below sync.colour (inl refl)) names.0,
        read_named script n log other histories home rows
            (piece_same script it log other histories home rows s sync (below sync.colour (inl refl))) (rising can.1)
            (λ c i. below c (inr i)) raises syncs can.3 names.1,
        end_named (deciding_same script fits n log other histories home rows what within u v a b s nodes sync read_stamp raises
            syncs can.1 can.2 can.3) ended can.4 names.2,
      )
  names_same (answers.Moved lined waiting colour events) can places low names =
      look_named script n log other histories home rows s it.own colour
      (home, subst (IsWithin script.shape.regions script.shape.colours) can.2 within) events names
  names_same (answers.Took value point sync) can places low names =
      let lt = points_below script fits n log other histories home rows what within u v a b s nodes None (point ∷ []) can.2
      point (inl refl) in (
        append_here None (point ∷ []) can.2 (λ t. absurd (let f : ⊥ = cc (t) in f)) names.0,
        sync_named script n log other histories home rows
            (behind_same script fits n log other histories home rows what within u v a b s nodes None (point ∷ []) can.2
            (λ t. absurd (let f : ⊥ = cc (t) in f))) sync (subst (λ (k : ℕ). k < script.shape.colours) (sym can.3) lt)
            names.1,
      )
  names_same _ can places low names = tt
