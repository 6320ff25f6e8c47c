-- A trim.
use Rattle.std.proofs.Common.{◌≡◌, ℕ, ◌+◌, List, [], ◌∷◌, ◌++◌, length, Some, true, refl, subst, ap, sym, ◌∙◌, arith, length-append}
use Rattle.std.specs.Prelude.{slice_get}
use Rattle.std.proofs.lemmas.List.{take_all}
use Rattle.log_node.specs.declared.ids.Counts.{Counts}
use Rattle.log_node.specs.declared.node.At.TheVariants.{Event}
use Rattle.col_core.specs.declared.Entry.{Entry}
use Rattle.col_core.specs.declared.Event.TheVariants as events
use Rattle.col_core.specs.Cuts.{base}
use Rattle.col_core.specs.Computed.{dated}
use Rattle.col_core.specs.Log.{IsLater}
use Rattle.col_core.specs.Keeping.{Kept, updated_at, kept_after_event}
use Rattle.col_core.proofs.CallerLemmas.{if_true}
use Rattle.world_laws.specs.declared.steps.Step.TheVariants.{Trim}
use Rattle.world_laws.specs.Worlds.{World, home_of, home_history, after, after_trim, base_after, is_column}
use Rattle.world_laws.specs.Laws.{IsReached, log_of}
use Rattle.world_laws.proofs.CallerLemmas.{slice_last}
use Rattle.script_text.specs.declared.script.Object.{Object}
use Rattle.script_text.specs.declared.commands.What.TheVariants as whats
use Rattle.report_text.specs.declared.report.Answer.TheVariants as answers
use Rattle.lawful_run.specs.Moves.{Trims}
use Rattle.script_meaning.proofs.World.Clearing.{Finished}
use Rattle.script_meaning.proofs.Client.Kept.{caller_in, IsKeptBy, MadeBy, Does, later_log}
use Rattle.script_meaning.proofs.World.Additions.{adds_last}
use Rattle.script_meaning.proofs.Client.OwnEvents.{history_is, own_kept, seen_here, finished_last}

module _ (objects : List Object) (w : World) (reached : IsReached w) (u c : ℕ)
    (column_ok : is_column w (home_of w u) c ≡ true) where
  abbrev own : ℕ
  own = home_of w u

  abbrev h : List Entry
  h = w.histories own c

  abbrev counts : Counts
  counts = (w.clients u).played c

  abbrev e : Entry
  e = record { by = u; event = events.Trim counts; stamp = 0 }

  abbrev w' : World
  w' = after_trim w u own c counts

  pub trim_is : after w (Trim u own c counts) ≡ w'
  trim_is = if_true (is_column w own c) w' w column_ok

  abbrev shown : World → Counts
  shown x = base_after w.shape.regions own (home_history x u c)

  later : IsLater (log_of w) (log_of w')
  later = later_log w w' (Trim u own c counts ∷ []) reached trim_is

  history' : w'.histories own c ≡ h ++ e ∷ []
  history' = history_is w u own c e refl refl

  module _ (kept : Kept) (k : IsKeptBy w u kept) where
    trims : Trims (log_of w') (caller_in w objects u) kept c (length h)
        (base_after w.shape.regions own (w'.histories own c))
    trims = record {
      unseen = k.seen own c;
      trimmed = ap (λ (l : List Entry). slice_get l (length h)) history'
          ∙ (slice_last h e
          ∙ ap (λ (f : ℕ → Counts). Some (record { by = u; event = events.Trim (f c); stamp = 0 })) (sym k.starts));
      is_base = ap (λ (l : List Entry). base own w.shape.regions (dated own l))
          (sym (take_all (length h + 1) (w'.histories own c)
          (let a = ap length history' in let b = length-append h (e ∷ []) in omega (arith, a, b))));
    }

  pub did_trim : Does objects u (whats.Trim c) w (after w (Trim u own c counts))
      (answers.Based (Event (length h)) (shown (after w (Trim u own c counts)))) []
  did_trim =
      subst (λ (x : World). Does objects u (whats.Trim c) w x (answers.Based (Event (length h)) (shown x)) [])
      (sym trim_is) (record {
        steps = Trim u own c counts ∷ [];
        run = trim_is;
        shape = refl;
        others = λ n ne. refl;
        adds = adds_last (λ r d. MadeBy u (whats.Trim c) w' own r) w own c e
            (record { made = refl; help = λ none. absurd none });
        keeps = λ kept k. record {
          after = kept_after_event kept own c (length h);
          keeps = own_kept w u own c e refl refl later kept k (updated_at kept.seen own c (length h + 1))
              (seen_here w u own c e refl refl kept k);
          explains = (refl, c, refl, length h, refl, trims kept k, refl);
        };
      })

  pub trim_finished : (S : ℕ → Type 0) → Finished S w → Finished S (after w (Trim u own c counts))
  trim_finished S fin = subst (Finished S) (sym trim_is) (finished_last S w own c e (λ id st. refl) fin)
