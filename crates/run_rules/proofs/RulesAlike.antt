-- One told account at which rules 1 to 5 hold decides the rules up to the eighth.
use Rattle.std.proofs.Common.{◌≡◌, ◌∙◌, refl, ap, sym, subst, Bool, cond, ℕ, zero, suc, ◌+◌, ◌<◌, List, [], ◌∷◌, ◌++◌, map, Option, Some, None, ◌⊎◌, inl, inr, arith}
use Rattle.std.specs.Prelude.{IsTrue, slice_get}
use Rattle.std.specs.List.{All, AllZip, Contains}
use Rattle.std.proofs.lemmas.Bool.{cases_lt, eq-eqb}
use Rattle.std.proofs.lemmas.List.Elements.{All-nil, All-cons, All-head, All-tail}
use Rattle.log_node.specs.Seen.{PlacedNode}
use Rattle.log_node.specs.Sets.{members}
use Rattle.log_node.specs.declared.ids.Colours.{Colours}
use Rattle.log_node.specs.declared.node.Node.{Node}
use Rattle.col_core.specs.Log.{Log}
use Rattle.col_core.specs.Rows.{BegunRow, FitsRow}
use Rattle.col_core.specs.Keeping.{Kept, updated, with_made, with_row}
use Rattle.col_core.proofs.CallerLemmas.{In}
use Rattle.script_text.specs.declared.commands.What.{What}
use Rattle.script_text.specs.declared.commands.What.TheVariants as whats
use Rattle.script_text.specs.declared.script.Script.{Script}
use Rattle.script_text.specs.Fitting.{IsFitting, IsWithin}
use Rattle.report_text.specs.declared.report.Answer.{Answer}
use Rattle.report_text.specs.declared.report.Answer.TheVariants as answers
use Rattle.report_text.specs.declared.report.Ended.{Ended}
use Rattle.report_text.specs.declared.report.Ended.TheVariants as ends
use Rattle.report_text.specs.declared.report.PointPiece.{PointPiece}
use Rattle.report_text.specs.declared.report.ClientReport.{ClientReport}
use Rattle.report_text.specs.declared.report.Report.{Report}
use Rattle.lawful_run.specs.Callers.{Caller, caller_of, node_of}
use Rattle.lawful_run.specs.Columns.{row_report}
use Rattle.lawful_run.specs.Deeds.{AsksToAppend}
use Rattle.lawful_run.specs.Stops.{StopsAfter, Stops, stopped_at_once, stopped_after}
use Rattle.run_rules.specs.Told.{Untold, Step, Account, IsTold, colours_asked, is_several, kept_at, kept_after_stop, stamp_told}
use Rattle.run_rules.specs.Naming.{Names, NamesSteps}
use Rattle.run_rules.specs.Answering.{CanHave, HasPoints}
use Rattle.run_rules.specs.Rules.{HasNode, UsesEnd, UsesNode, Rule6, Rule7, StandsAsTold, StandsAtEnd, Stands, StopsAsTold, with_room}
use Rattle.run_rules.specs.Shown.{is_row, begins_row}
use Rattle.run_rules.specs.Keeping.{RulesTo, six, seven, eight}
use Rattle.run_rules.specs.Agreeing.{HasColumn, KeepSame, AreStepsAlike, Agree}
use Rattle.run_rules.specs.Laws.{OneAccountDecides}
use Rattle.run_rules.proofs.Facts.{asked_colours}
use Rattle.run_rules.proofs.Numbers.{rule1, rule3, rule4, rule5, rule6, rule7, rule8, rules_fewer}
use Rattle.run_rules.proofs.Places.{behind_same}
use Rattle.run_rules.proofs.Reached.{appended_within, home_within}
use Rattle.run_rules.proofs.SameKept.{before_same, stamp_same}
use Rattle.run_rules.proofs.ToldAlike.{asked_same, deciding_same, points_below}
use Rattle.run_rules.proofs.LeftOut.{Obeys, steps_of_row}
use Rattle.run_rules.proofs.OneAccount.{told_accounts_agree, obeys, step_with}
use Rattle.run_rules.proofs.NodesAlike.{Uses}
use Rattle.run_rules.proofs.AppendsAlike.{appends_same, after_same}
use Rattle.run_rules.proofs.OpenAlike.{eighth}

-- a stop that took a step
stop_of : (log : Log) (caller : Caller) (kept : Kept) (node : Node) (steps : ℕ) (after : Kept)
    → Stops log caller kept node steps after
    → (steps ≡ 0) ⊎ ((places : ℕ → List ℕ) × StopsAfter log caller kept node steps places
    × (after ≡ with_made (with_row kept) caller.own places))
stop_of log caller kept node _ _ stopped_at_once = inl refl
stop_of log caller kept node _ _ (stopped_after steps places s) = inr (places, s, refl)

made_own : (f : ℕ → ℕ → List ℕ) (own : ℕ) (g : ℕ → List ℕ) (c : ℕ) → updated f own g own c ≡ g c
made_own f own g c = ap (λ (t : Bool). (cond t g (f own)) c) (eq-eqb own own refl)

-- of steps beside one another
zip_all : {R : Step → Step → Type 0} {P Q S : Step → Type 0} (xs ys : List Step) → AllZip R xs ys → All P xs → All Q ys
    → ((x y : Step) → R x y → P x → Q y → S x) → All S xs
zip_all {R} {P} {Q} {S} [] ys r p q f = All-nil S
zip_all {R} {P} {Q} {S} (x ∷ xs) [] r p q f = absurd r
zip_all {R} {P} {Q} {S} (x ∷ xs) (y ∷ ys) r p q f =
    All-cons S x xs (f x y r.0 (All-head P x xs p) (All-head Q y ys q))
    (zip_all {R = R} {P = P} {Q = Q} {S = S} xs ys r.1 (All-tail P x xs p) (All-tail Q y ys q) f)

module _ (script : Script) (fits : IsFitting script) (n : ℕ) (log other : Log)
    (histories : (r c : ℕ) → HasColumn script r c → log.histories r c ≡ other.histories r c)
    (home : (caller_of script n).own < script.shape.regions)
    (rows : map (row_report (caller_of script n).own) (log.rows (caller_of script n).own)
    ≡ map (row_report (caller_of script n).own) (other.rows (caller_of script n).own))
    (fit : All (FitsRow (caller_of script n).own) (log.rows (caller_of script n).own))
    (row_nodes : (r : BegunRow) → Contains (log.rows (caller_of script n).own) r → r.row.client ≡ n
    → slice_get (log.nodes n) r.node.id.count ≡ Some r.node) where
  abbrev who : Caller
  who = caller_of script n

  module _ (what : What) (within : IsWithin script.shape.regions script.shape.colours what) (a b : Kept)
      (s : KeepSame script a b) (u v : Untold) (nodes : List PlacedNode) where
    its_below : (colours : Colours) (text : List ℕ) → AsksToAppend who a what colours text → (c : ℕ)
        → In c (members colours) → c < script.shape.colours
    its_below colours text asks c i =
        appended_within script fits n a what within c (subst (In c) (asked_colours who a what colours text asks) i)

    stands_same : HasNode log who a what → (stamp : ℕ) (row : Option ℕ) (points : List PointPiece)
        → (IsTrue (is_row row) → NamesSteps log who a u.places) → StandsAsTold other v who b what stamp row points
        → StandsAsTold log u who a what stamp row points
    stands_same h stamp row points named e = (
      h.0,
      h.1,
      h.2,
      appends_same script fits n log other histories home rows fit row_nodes what within a b s h.0 e.0 h.1 e.1
          (asked_colours who a what h.0 h.1 h.2
          ∙ (asked_same script who what s ∙ sym (asked_colours who b what e.0 e.1 e.2)))
          (its_below h.0 h.1 h.2) h.3 u v stamp row points named e.3,
    )

    -- under the stamp that is told
    as_told : (row : Option ℕ) (points : List PointPiece)
        → HasPoints (colours_asked who a what) row points → HasNode log who a what
        → (IsTrue (is_row row) → NamesSteps log who a u.places)
        → StandsAsTold other v who b what (stamp_told other who b row points) row points
        → StandsAsTold log u who a what (stamp_told log who a row points) row points
    as_told row points has h named e =
        subst (λ (k : ℕ). StandsAsTold log u who a what k row points)
        (sym (stamp_same script who log other histories home rows s row points
        (points_below script fits n log other histories home rows what within u v a b s nodes row points has)))
        (stands_same h (stamp_told other who b row points) row points named e)

  -- the append of a decision's node
  module _ (what : What) (within : IsWithin script.shape.regions script.shape.colours what) (u v : Untold)
      (nodes : List PlacedNode) where
    end_stands : (ended : Ended) {c d : Kept} → KeepSame script c d → UsesEnd log who c what ended
        → StandsAtEnd other v who d what ended → StandsAtEnd log u who c what ended
    end_stands (ends.Stood stamp point) {c} {d} t used e =
        stands_same what within c d t u v nodes used.0 stamp None (point ∷ [])
        (λ none. absurd (let f : ⊥ = cc (none) in f)) e
    end_stands (ends.StampEnd colour) t used e = tt
    end_stands ends.NoMemory t used e = tt

  module _ (what : What) (within : IsWithin script.shape.regions script.shape.colours what) (a b : Kept)
      (s : KeepSame script a b) (u v : Untold) (nodes : List PlacedNode) where
    stand_answer : (answer : Answer) → CanHave who a what nodes answer → Names log u who a what answer
        → UsesNode log who a what answer → Stands other v who b what answer → Stands log u who a what answer
    stand_answer (answers.Stood stamp row points) can names used e =
        stands_same what within a b s u v nodes used.0 stamp row points
        (λ t. steps_of_row log u who a what (answers.Stood stamp row points) t names) e
    stand_answer (answers.Ruled conflict stamp row points read_stamp raises syncs) can names used e =
        as_told what within a b s u v nodes row points can.2 used.0
        (λ t. steps_of_row log u who a what (answers.Ruled conflict stamp row points read_stamp raises syncs) t names) e
    stand_answer (answers.Changed failed stamp row points read_stamp raises syncs) can names used e =
        as_told what within a b s u v nodes row points can.2 used.0
        (λ t. steps_of_row log u who a what (answers.Changed failed stamp row points read_stamp raises syncs) t names) e
    stand_answer (answers.Took value point sync) can names used e =
        as_told what within a b s u v nodes None (point ∷ []) can.2 used.0 (λ t. absurd (let f : ⊥ = cc (t) in f)) e
    stand_answer (answers.Decided commits stamp sync read_stamp raises syncs ended) can names used e =
        end_stands what within u v nodes ended
        (deciding_same script fits n log other histories home rows what within u v a b s nodes sync read_stamp raises syncs
        can.1 can.2 can.3) used e
    stand_answer _ can names used e = tt

    stopped_same : (steps : ℕ) → HasNode log who a what → NamesSteps log who a u.places
        → ((c : ℕ) → c < script.shape.colours → u.places c ≡ v.places c)
        → StopsAsTold other v who b what (answers.Stopped (suc steps))
        → StopsAsTold log u who a what (answers.Stopped (suc steps))
    stopped_same steps h named same e =
        turn (stop_of other (with_room who b) b (node_of who b e.0 e.1) (suc steps) (kept_after_stop v who b (suc steps)) e.3)
      where
        asks : AsksToAppend who a (whats.Stop (suc steps) e.0 e.1) h.0 h.1
        asks = subst (λ (w : What). AsksToAppend who a w h.0 h.1) e.2 h.2

        next : slice_get (log.nodes n) a.ids ≡ Some (node_of who a e.0 e.1)
        next =
            h.3
            ∙ (ap (λ (c : Colours). Some (node_of who a c h.1)) asks.0
            ∙ ap (λ (t : List ℕ). Some (node_of who a e.0 t)) asks.1)

        below : (c : ℕ) → In c (members e.0) → c < script.shape.colours
        below c i = its_below what within a b s u v nodes h.0 h.1 h.2 c (subst (λ (k : Colours). In c (members k)) (sym asks.0) i)

        turn : (suc steps ≡ 0) ⊎ ((places : ℕ → List ℕ)
            × StopsAfter other (with_room who b) b (node_of who b e.0 e.1) (suc steps) places
            × (kept_after_stop v who b (suc steps) ≡ with_made (with_row b) who.own places))
            → StopsAsTold log u who a what (answers.Stopped (suc steps))
        turn (inl none) = absurd (let f : ⊥ = omega (arith, none) in f)
        turn (inr t) =
            let places : (c : ℕ) → c < script.shape.colours → u.places c ≡ t.0 c =
            λ c lt. same c lt
            ∙ behind_same (b.made who.own c) (v.places c) (t.0 c)
            (sym (made_own b.made who.own (λ (k : ℕ). b.made who.own k ++ v.places k) c)
            ∙ (ap (λ (k : Kept). k.made who.own c) t.2
            ∙ made_own b.made who.own (λ (k : ℕ). b.made who.own k ++ t.0 k) c)) in
            let after : StopsAfter log (with_room who a) a (node_of who a e.0 e.1) (suc steps) u.places =
            after_same script fits n log other histories home rows fit row_nodes what within a b s e.0 e.0 e.1 e.1 refl below
            next (suc steps) t.0 u.places named places t.1 in (
              e.0,
              e.1,
              e.2,
              subst (λ (k : ℕ). Stops log (with_room who a) a (node_of who a e.0 e.1) k (with_made (with_row a) who.own u.places))
                  (let f : steps + 1 ≡ suc steps = omega arith in f)
                  (stopped_after steps u.places
                  (subst (λ (k : ℕ). StopsAfter log (with_room who a) a (node_of who a e.0 e.1) k u.places)
                  (let f : suc steps ≡ steps + 1 = omega arith in f) after)),
            )

    stop_answer : (answer : Answer) → Names log u who a what answer → UsesNode log who a what answer
        → (IsTrue (begins_row (is_several who a what) answer) → (c : ℕ) → c < script.shape.colours → u.places c ≡ v.places c)
        → StopsAsTold other v who b what answer → StopsAsTold log u who a what answer
    stop_answer (answers.Stopped zero) names used same e = (e.0, e.1, e.2, stopped_at_once)
    stop_answer (answers.Stopped (suc steps)) names used same e = stopped_same steps used names (same refl) e
    stop_answer _ names used same e = tt

  -- what is known of a step of the one account
  abbrev Known : Step → Type 0
  Known x = Obeys script log who x × Uses log who x

  abbrev StandsAt : Log → Step → Type 0
  StandsAt l x = Stands l x.untold who (kept_at x) x.command.what x.reply.answer

  abbrev StopsAt : Log → Step → Type 0
  StopsAt l x = StopsAsTold l x.untold who (kept_at x) x.command.what x.reply.answer

  step_stands : (x y : Step) → AreStepsAlike script who x y → Known x → StandsAt other y → StandsAt log x
  step_stands x y r k e =
      let is = step_with y x.command x.reply r.command r.reply in
      let z : Step = record { command = x.command; reply = x.reply; kept = y.kept; untold = y.untold } in
      stand_answer x.command.what k.0.within (kept_at x) (kept_at z) (before_same script r.kept x.command.what) x.untold
      y.untold x.reply.nodes x.reply.answer k.0.can k.0.names k.1 (subst (StandsAt other) is e)

  step_stops : (x y : Step) → AreStepsAlike script who x y → Known x → StopsAt other y → StopsAt log x
  step_stops x y r k e =
      let is = step_with y x.command x.reply r.command r.reply in
      let z : Step = record { command = x.command; reply = x.reply; kept = y.kept; untold = y.untold } in
      stop_answer x.command.what k.0.within (kept_at x) (kept_at z) (before_same script r.kept x.command.what) x.untold
      y.untold x.reply.nodes x.reply.answer k.0.names k.1 r.places (subst (StopsAt other) is e)

module _ (script : Script) (fits : IsFitting script) (report : Report) (a b : Account) (ta : IsTold script report a)
    (tb : IsTold script report b) (ra : RulesTo script report a 5) (rb : RulesTo script report b 5) where
  agree : Agree script report a b
  agree = told_accounts_agree script report a b fits ta tb ra.0 rb.0

  its_home : (n : ℕ) (c : ClientReport) → slice_get report.clients n ≡ Some c
      → (caller_of script n).own < script.shape.regions
  its_home = home_within script report fits (rule1 ra.0.0.0.0.1).names

  known : (n : ℕ) (c : ClientReport) → slice_get report.clients n ≡ Some c
      → All (λ (x : Step). Obeys script a.log (caller_of script n) x × Uses a.log (caller_of script n) x) (a.steps n)
  known n c there k d lt = (
    obeys script fits report a ta (rule1 ra.0.0.0.0.1) (rule4 ra.0.1) n c there k d lt,
    (rule5 ra.1).used n c there k d lt,
  )

  sixth : Rule6 script report b → Rule6 script report a
  sixth r = record {
    stands = λ n c there. zip_all (a.steps n) (b.steps n) (agree.steps n c there) (known n c there) (r.stands n c there)
        (step_stands script fits n a.log b.log agree.histories (its_home n c there)
        (agree.rows (caller_of script n).own (its_home n c there))
        ((rule3 ra.0.0.1).lawful (caller_of script n).own (its_home n c there)).fit ((rule5 ra.1).own n c there).row_nodes);
  }

  seventh : Rule7 script report b → Rule7 script report a
  seventh r = record {
    stops = λ n c there. zip_all (a.steps n) (b.steps n) (agree.steps n c there) (known n c there) (r.stops n c there)
        (step_stops script fits n a.log b.log agree.histories (its_home n c there)
        (agree.rows (caller_of script n).own (its_home n c there))
        ((rule3 ra.0.0.1).lawful (caller_of script n).own (its_home n c there)).fit ((rule5 ra.1).own n c there).row_nodes);
  }

pub one_account_decides : OneAccountDecides
one_account_decides script report a fits ta ra n le keeps =
    elim (cases_lt 5 n) [
      | inr few ↦ rules_fewer script report a 5 n few ra
      | inl more ↦ further more
    ] where
      b : Account
      b = keeps.0

      to_five : 5 < n → RulesTo script report b 5
      to_five more = rules_fewer script report b n 5 (omega (arith, more)) keeps.2

      to_six : 5 < n → RulesTo script report a 6
      to_six more = (
        ra,
        six (sixth script fits report a b ta keeps.1 ra (to_five more)
            (rule6 (rules_fewer script report b n 6 (omega (arith, more)) keeps.2).1)),
      )

      to_seven : 6 < n → RulesTo script report a 7
      to_seven more = (
        to_six (omega (arith, more)),
        seven (seventh script fits report a b ta keeps.1 ra (to_five (omega (arith, more)))
            (rule7 (rules_fewer script report b n 7 (omega (arith, more)) keeps.2).1)),
      )

      to_eight : 7 < n → RulesTo script report a 8
      to_eight more = (
        to_seven (omega (arith, more)),
        eight (eighth script report a b (agree script fits report a b ta keeps.1 ra (to_five (omega (arith, more))))
            (rule8 (rules_fewer script report b n 8 (omega (arith, more)) keeps.2).1)),
      )

      further : 5 < n → RulesTo script report a n
      further more = elim (cases_lt 6 n) [
        | inr few ↦ rules_fewer script report a 6 n few (to_six more)
        | inl lt ↦ elim (cases_lt 7 n) [
          | inr few ↦ rules_fewer script report a 7 n few (to_seven lt)
          | inl last ↦ rules_fewer script report a 8 n le (to_eight last)
        ]
      ]
