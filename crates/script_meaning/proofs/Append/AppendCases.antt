-- How an append ends: it stands, or it is refused. What follows from either, follows from the append.
use Rattle.std.proofs.Common.{◌≡◌, inl, ℕ, suc, ◌<◌, List, [], ◌∷◌, length, map, Option, Some, None, Bool, true, false, refl, ap, sym, subst, arith}
use Rattle.std.specs.Prelude.{not, nat_lt}
use Rattle.std.proofs.lemmas.Bool.{and_from, lt-ltb}
use Rattle.log_node.specs.declared.ids.Row.{Row}
use Rattle.log_node.specs.declared.ids.Colours.{Colours}
use Rattle.log_node.specs.Sets.{members}
use Rattle.log_node.specs.declared.marks.Why.TheVariants.{Memory, StampEnd}
use Rattle.log_node.specs.declared.marks.Outcome.{Outcome}
use Rattle.log_node.specs.declared.marks.Outcome.TheVariants.{Open, Gone, Final}
use Rattle.col_core.specs.History.{entry_key}
use Rattle.col_core.proofs.CallerLemmas.{choice, if_true, In}
use Rattle.world_laws.specs.declared.steps.Step.TheVariants.{Seen}
use Rattle.world_laws.specs.Worlds.{World, home_of, after, run_steps, row_of, next_row, is_client, is_column, may_begin, may_single, after_begin, single_stamp, next_id}
use Rattle.world_laws.specs.Completing.{complete_steps}
use Rattle.script_text.specs.declared.commands.What.TheVariants as whats
use Rattle.script_text.specs.declared.script.Command.{Command}
use Rattle.script_text.specs.declared.script.Script.{Script}
use Rattle.script_text.specs.Fitting.{HasColours}
use Rattle.report_text.specs.declared.report.Answer.{Answer}
use Rattle.report_text.specs.declared.report.Answer.TheVariants as answers
use Rattle.report_text.specs.declared.report.PointPiece.{PointPiece}
use Rattle.script_meaning.specs.States.{State, Grants, answered}
use Rattle.script_meaning.specs.Helping.{all_cleared}
use Rattle.script_meaning.specs.Appends.{Continuation, appended_one_so, appended_by_so, appended_several_so, appended_so, has_no_row_left, append_steps, with_single, point_in, ended_colour}
use Rattle.script_meaning.proofs.Append.AppendOne as one
use Rattle.script_meaning.proofs.Append.AppendSeveral as several
use Rattle.script_meaning.proofs.Append.AppendFinal as final
use Rattle.script_meaning.proofs.World.Clearing.{Finished}
use Rattle.script_meaning.proofs.Run.FitCommands as fits
use Rattle.script_meaning.proofs.Run.Invariant.{IsStopped, Runs, IsFitWhere, free}
use Rattle.script_meaning.proofs.Client.Kept.{Does}
use Rattle.script_meaning.proofs.Lists.{each_true}
use Rattle.script_meaning.proofs.Client.Refusing.{did_end_one, did_full}
use Rattle.script_meaning.proofs.Object.ShardSets.{one_is_set}

-- the answers to an append that does not stand
pub data IsRefusal : Answer → Type 0 where
  no_memory : IsRefusal answers.NoMemory
  no_stamp : (colour : ℕ) → IsRefusal (answers.StampEnd colour)
  no_row : (used : ℕ) → IsRefusal (answers.Full used)

-- the row of an append to several colours may begin
module _ (script : Script) (commands : List Command) (state : State) (command : Command)
    (runs : Runs script commands state) {Away Read : Type 0} (fit : IsFitWhere script commands command Away Read) where
  pub begins : (colours : Colours) → 1 < length (members colours)
      → ((c : ℕ) → In c (members colours) → c < script.shape.colours) → has_no_row_left state.world command.client ≡ false
      → may_begin state.world command.client colours ≡ true
  begins colours many below full =
      let w = state.world in
      let u = command.client in
      and_from (is_client w u) _ (fits.client_ok script commands state command runs fit)
      (and_from (nat_lt (w.clients u).used w.shape.rows) _ (left (nat_lt (w.clients u).used w.shape.rows) full)
      (and_from (nat_lt 1 (length (members colours))) _ (lt-ltb 1 (length (members colours)) many)
      (each_true (is_column w (home_of w u)) (members colours)
      (λ c i. fits.column_ok script commands state command runs fit c (below c i))))) where
        left : (b : Bool) → not b ≡ false → b ≡ true
        left true e = refl
        left false e = absurd (let f : ⊥ = cc in f)

module _ (script : Script) (commands : List Command) (state : State) (command : Command) (grants : Grants)
    (runs : Runs script commands state) {Away Read : Type 0} (fit : IsFitWhere script commands command Away Read)
    (colours : Colours) (text : List ℕ) (has : HasColours 1 colours)
    (below : (c : ℕ) → In c (members colours) → c < script.shape.colours) (follows : Continuation)
    (Goal : State → Type 0)
    (refused : (w' : World) (answer : Answer) → IsRefusal answer
    → Does script.objects command.client (whats.Append colours text) state.world w' answer []
    → Finished (IsStopped commands state.replies) w' → Goal (answered state command w' answer []))
    (stood : (v : World) (stamp : ℕ) (row : Option ℕ) (points : List PointPiece)
    → Does script.objects command.client (whats.Append colours text) state.world v (answers.Stood stamp row points) []
    → Finished (IsStopped commands state.replies) v → Goal (follows v stamp row points)) where
  abbrev u : ℕ
  u = command.client

  abbrev w : World
  w = state.world

  abbrev S : ℕ → Type 0
  S = IsStopped commands state.replies

  going : S u → ⊥
  going = free script commands state command runs fit

  by_one : (c : ℕ) → members colours ≡ c ∷ [] → Goal (appended_one_so grants state command text c follows)
  by_one c only =
      let v = with_single grants w u text c in
      let points = point_in w v u (next_id w u) c ∷ [] in
      choice Goal (may_single w u c) (follows v (single_stamp w u c) None points)
      (answered state command w (answers.StampEnd c) [])
      (λ ok. stood v (single_stamp w u c) None points
      (one.does script.objects S grants w runs.reached runs.finished u c text going ok colours only
      (one_is_set colours c only has.bits))
      (subst (Finished S) (sym (one.after_is script.objects S grants w runs.reached runs.finished u c text going ok))
      (one.finished2 script.objects S grants w runs.reached runs.finished u c text going ok)))
      (λ none. refused w (answers.StampEnd c) (no_stamp c)
      (did_end_one script.objects u c colours text w only (fits.client_ok script commands state command runs fit)
      (fits.column_ok script commands state command runs fit c
      (below c (subst (λ (l : List ℕ). In c l) (sym only) (inl refl)))) none) runs.finished)

  abbrev row : Row
  row = next_row w u

  abbrev w3 : World
  w3 = run_steps (after_begin w u colours text) (complete_steps (after_begin w u colours text) u row grants.marks)

  by_outcome : (ok : may_begin w u colours ≡ true) (last : Outcome) → (row_of w3 row).last ≡ last
      → Goal (appended_by_so grants state command w3 row (members colours) last follows)
  by_outcome ok Open e =
      absurd ((several.done3 script.objects S grants w runs.reached runs.finished u colours text going ok).decided e)
  by_outcome ok (Gone Memory) e =
      refused w3 answers.NoMemory no_memory
      (several.does_gone_memory script.objects S grants w runs.reached runs.finished u colours text going ok e)
      (several.finished3 script.objects S grants w runs.reached runs.finished u colours text going ok)
  by_outcome ok (Gone StampEnd) e =
      refused w3 (answers.StampEnd (ended_colour w3 row (members colours)))
      (no_stamp (ended_colour w3 row (members colours)))
      (several.does_gone_end script.objects S grants w runs.reached runs.finished u colours text going ok e)
      (several.finished3 script.objects S grants w runs.reached runs.finished u colours text going ok)
  by_outcome ok (Final f) e =
      let after_all = all_cleared grants u (entry_key f (next_id w u)) (members colours) (after w3 (Seen u f)) in
      stood after_all f (Some row.number) (map (point_in w after_all u (next_id w u)) (members colours))
      (final.does_final script.objects S grants w runs.reached runs.finished u colours text going ok f e)
      (subst (Finished S) (sym
      (final.after_is script.objects S grants w runs.reached runs.finished u colours text going ok f e))
      (final.finished6 script.objects S grants w runs.reached runs.finished u colours text going ok f e))

  stepped_is : (ok : may_begin w u colours ≡ true) → run_steps w (append_steps grants w u colours text) ≡ w3
  stepped_is ok =
      ap (λ (x : World). run_steps x (complete_steps x u row grants.marks))
      (if_true (may_begin w u colours) (after_begin w u colours text) w ok)

  by_several : 1 < length (members colours) → Goal (appended_several_so grants state command colours text follows)
  by_several many =
      choice Goal (has_no_row_left w u) (answered state command w (answers.Full (w.clients u).used) [])
      (appended_by_so grants state command (run_steps w (append_steps grants w u colours text)) row (members colours)
      (row_of (run_steps w (append_steps grants w u colours text)) row).last follows)
      (λ full. refused w (answers.Full (w.clients u).used) (no_row (w.clients u).used)
      (did_full script.objects u (whats.Append colours text) colours text w runs.reached (λ caller kept. (refl, refl))
      (λ a b e. absurd (let f : ⊥ = cc in f)) many full) runs.finished)
      (λ room. let ok = begins script commands state command runs fit colours many below room in
      subst (λ (x : World). Goal (appended_by_so grants state command x row (members colours) (row_of x row).last follows))
      (sym (stepped_is ok)) (by_outcome ok (row_of w3 row).last refl))

  by_members : (ms : List ℕ) → members colours ≡ ms → Goal (appended_so grants state command colours text ms follows)
  by_members [] is =
      let n = has.many in
      let z : length (members colours) ≡ 0 = ap length is in
      absurd (let f : ⊥ = omega (arith, n, z) in f)
  by_members (c ∷ []) is = by_one c is
  by_members (c ∷ d ∷ ms) is =
      by_several (let z : length (members colours) ≡ suc (suc (length ms)) = ap length is in omega (arith, z))

  pub by_append : Goal (appended_so grants state command colours text (members colours) follows)
  by_append = by_members (members colours) refl
