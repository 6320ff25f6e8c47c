-- A sync of one colour within a command: what it explains, and a get whose client may not play.
use Rattle.std.proofs.Common.{◌≡◌, ℕ, ◌<◌, List, [], ◌∷◌, length, true, false, refl, sym, subst, arith}
use Rattle.std.specs.List.{Contains}
use Rattle.col_core.specs.Keeping.{Kept}
use Rattle.col_core.specs.Log.{Log}
use Rattle.col_core.proofs.CallerLemmas.{if_true}
use Rattle.world_laws.specs.declared.steps.Step.TheVariants.{Play}
use Rattle.world_laws.specs.Worlds.{World, home_of, home_history, after, after_play, may_play, is_client, is_column, played_cut}
use Rattle.world_laws.specs.Laws.{IsReached, log_of}
use Rattle.world_laws.proofs.CallerLemmas.{played_client}
use Rattle.script_text.specs.declared.script.Object.{Object}
use Rattle.script_text.specs.declared.commands.What.{What}
use Rattle.report_text.specs.declared.report.Answer.{Answer}
use Rattle.report_text.specs.declared.report.Answer.TheVariants as answers
use Rattle.lawful_run.specs.Asks.{Getting}
use Rattle.lawful_run.specs.Deeds.{manner_of, colours_synced}
use Rattle.lawful_run.specs.Callers.{Caller}
use Rattle.lawful_run.specs.Explains.{Explains}
use Rattle.lawful_run.specs.Reads.{Syncs, HidesSyncs, kept_after_piece, not_played}
use Rattle.lawful_run.proofs.CallerLemmas.{explains_get_trimmed}
use Rattle.script_meaning.specs.Dequeues.{sync_now, base_now}
use Rattle.script_meaning.proofs.World.Additions.{adds_none}
use Rattle.script_meaning.proofs.Append.AppendOne.{updated-not}
use Rattle.script_meaning.proofs.Object.Dequeuing.{same_log, is_trimmed, unplayed, unplayed_keeps, can_sync, shown, shown_keeps}
use Rattle.script_meaning.proofs.Client.Kept.{caller_in, MadeBy, Does}

module _ (objects : List Object) (w : World) (reached : IsReached w) (u c : ℕ) (few : home_of w u < 4)
    (client_ok : is_client w u ≡ true) (column_ok : is_column w (home_of w u) c ≡ true) (what : What) where
  abbrev caller : Caller
  caller = caller_in w objects u

  -- it plays up to the cut, where its answer is explained by the sync
  pub did_get : may_play w u c ≡ true → (answer : Answer)
      → ((kept : Kept) → Syncs (log_of w) caller kept c (length (home_history w u c)) (played_cut w u c)
      → Explains (log_of w) caller kept what answer [] (kept_after_piece (log_of w) caller kept (sync_now w u c)))
      → Does objects u what w (after w (Play u c)) answer []
  did_get ok answer says =
      subst (λ (x : World). Does objects u what w x answer [])
      (sym (if_true (may_play w u c) (after_play w u c) w ok)) (record {
        steps = Play u c ∷ [];
        run = if_true (may_play w u c) (after_play w u c) w ok;
        shape = refl;
        others = λ n ne. updated-not w.clients u (played_client w u c) n ne;
        adds = λ r d. adds_none (MadeBy u what (after_play w u c) (home_of w u) r) (w.histories r d);
        keeps = λ kept k. record {
          after = shown objects w reached u c few client_ok column_ok kept k ok;
          keeps = shown_keeps objects w reached u c few client_ok column_ok kept k ok;
          explains = subst (λ (l : Log). Explains l caller kept what answer []
              (shown objects w reached u c few client_ok column_ok kept k ok))
              (sym (same_log objects w reached u c few client_ok column_ok))
              (says kept (can_sync objects w reached u c few client_ok column_ok kept k ok));
        };
      })

  -- a node that it has not played is trimmed
  pub did_refuse_get : manner_of what ≡ Getting → colours_synced caller what ≡ c ∷ [] → may_play w u c ≡ false
      → Does objects u what w w (answers.Trimmed c (base_now w u c)) []
  did_refuse_get getting synced refused = record {
    steps = [];
    run = refl;
    shape = refl;
    others = λ n ne. refl;
    adds = λ r d. adds_none (MadeBy u what w (home_of w u) r) (w.histories r d);
    keeps = λ kept k.
        let end = unplayed objects w reached u c few client_ok column_ok kept k in record {
          after = end;
          keeps = unplayed_keeps objects w reached u c few client_ok column_ok kept k;
          explains = explains_get_trimmed (log_of w) caller kept what c (base_now w u c) end getting
              (subst (λ (l : List ℕ). Contains l c) (sym synced) (0, omega arith, refl))
              (is_trimmed objects w reached u c few client_ok column_ok kept k refused)
              (subst (λ (l : List ℕ). HidesSyncs (log_of w) caller kept l end) (sym synced)
              (kept.starts c, 0, not_played, refl));
        };
  }
