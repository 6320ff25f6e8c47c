-- Commands that change nothing.
use Rattle.std.proofs.Common.{◌≡◌, ◌⊎◌, inl, inr, ℕ, ◌<◌, ◌≤◌, List, [], ◌∷◌, length, true, false, refl, ap, sym, subst, ◌∙◌, arith}
use Rattle.std.specs.Prelude.{not, nat_lt}
use Rattle.std.proofs.lemmas.Bool.{and_from, eqb-true, lt-ltb, cases_lt}
use Rattle.std.proofs.lemmas.List.{take_all}
use Rattle.log_node.specs.declared.ids.Colours.{Colours}
use Rattle.log_node.specs.Sets.{members}
use Rattle.col_core.specs.declared.Entry.{Entry}
use Rattle.col_core.specs.History.{IsAtEnd}
use Rattle.col_core.specs.Keeping.{Kept}
use Rattle.col_core.proofs.CallerLemmas.{by_test, apart, not_true}
use Rattle.world_laws.specs.Worlds.{World, home_of, is_at_end, is_client, is_column, may_single}
use Rattle.world_laws.specs.Laws.{IsReached, log_of}
use Rattle.script_text.specs.declared.script.Object.{Object}
use Rattle.script_text.specs.declared.commands.What.{What}
use Rattle.script_text.specs.declared.commands.What.TheVariants as whats
use Rattle.report_text.specs.declared.report.Answer.{Answer}
use Rattle.report_text.specs.declared.report.Answer.TheVariants as answers
use Rattle.lawful_run.specs.Callers.{Caller}
use Rattle.lawful_run.specs.Deeds.{AsksToAppend}
use Rattle.lawful_run.specs.Appends.{none_for_one}
use Rattle.lawful_run.specs.Stops.{stopped_at_once}
use Rattle.lawful_run.specs.Explains.{Explains, IsNoStopAtOnce}
use Rattle.script_meaning.specs.Appends.{has_no_row_left}
use Rattle.script_meaning.proofs.World.Additions.{adds_none}
use Rattle.script_meaning.proofs.World.Reached.{told_of}
use Rattle.script_meaning.proofs.Client.Kept.{caller_in, IsKeptBy, MadeBy, Does}

-- the command asks for an append, whatever its client keeps
abbrev pub AsksOf : What → Colours → List ℕ → Type 0
AsksOf what colours text = (caller : Caller) (kept : Kept) → AsksToAppend caller kept what colours text

-- what changes nothing
pub same_world : (objects : List Object) (u : ℕ) (what : What) (w : World) (answer : Answer)
    → ((kept : Kept) → IsKeptBy w u kept → Explains (log_of w) (caller_in w objects u) kept what answer [] kept)
    → Does objects u what w w answer []
same_world objects u what w answer explains = record {
  steps = [];
  run = refl;
  shape = refl;
  others = λ n ne. refl;
  adds = λ r c. adds_none (MadeBy u what w (home_of w u) r) (w.histories r c);
  keeps = λ kept k. record { after = kept; keeps = k; explains = explains kept k };
}

-- no stamp is left for an append to one colour
pub did_end_one : (objects : List Object) (u c : ℕ) (colours : Colours) (text : List ℕ) (w : World)
    → members colours ≡ c ∷ [] → is_client w u ≡ true → is_column w (home_of w u) c ≡ true → may_single w u c ≡ false
    → Does objects u (whats.Append colours text) w w (answers.StampEnd c) []
did_end_one objects u c colours text w one client column refused =
    same_world objects u (whats.Append colours text) w (answers.StampEnd c) (λ kept k. (
      refl,
      refl,
      (
        colours,
        text,
        (refl, refl),
        none_for_one one (record {
          events = length (w.histories (home_of w u) c);
          unseen = k.seen (home_of w u) c;
          there = omega arith;
          ended = subst (λ (h : List Entry). IsAtEnd h kept.floor)
              (sym (take_all (length (w.histories (home_of w u) c)) (w.histories (home_of w u) c) (omega arith)))
              (subst (λ (n : ℕ). IsAtEnd (w.histories (home_of w u) c) n) (sym k.floor) at_end);
        }),
      ),
    )) where
      ended : is_at_end (w.histories (home_of w u) c) (w.clients u).floor ≡ true
      ended = by_test _ (is_at_end (w.histories (home_of w u) c) (w.clients u).floor) (λ t. t)
          (λ f. absurd (apart (may_single w u c)
          (and_from (is_client w u) _ client (and_from (is_column w (home_of w u) c) _ column (ap not f))) refused))

      at_end : IsAtEnd (w.histories (home_of w u) c) (w.clients u).floor
      at_end = eqb-true _ _ ended

-- all rows are begun
pub did_full : (objects : List Object) (u : ℕ) (what : What) (colours : Colours) (text : List ℕ) (w : World)
    → IsReached w
    → AsksOf what colours text → IsNoStopAtOnce what → 1 < length (members colours) → has_no_row_left w u ≡ true
    → Does objects u what w w (answers.Full (w.clients u).used) []
did_full objects u what colours text w reached asks no_stop several full =
    same_world objects u what w (answers.Full (w.clients u).used) (λ kept k. (
      refl,
      no_stop,
      refl,
      (
        colours,
        text,
        asks (caller_in w objects u) kept,
        record {
          several = several;
          shown = sym k.rows;
          all = k.rows ∙ all_rows;
        },
      ),
    )) where
      all_rows : (w.clients u).used ≡ w.shape.rows
      all_rows =
          let f = not_true (nat_lt (w.clients u).used w.shape.rows) full in
          let le = (told_of w reached).used u in
          pick (cases_lt (w.clients u).used w.shape.rows) f le where
            pick : ((w.clients u).used < w.shape.rows) ⊎ (w.shape.rows ≤ (w.clients u).used)
                → nat_lt (w.clients u).used w.shape.rows ≡ false → (w.clients u).used ≤ w.shape.rows
                → (w.clients u).used ≡ w.shape.rows
            pick (inl lt) f le = absurd (apart _ (lt-ltb _ _ lt) f)
            pick (inr ge) f le = omega (arith, ge, le)

-- a stop before the first step
pub did_stop_at_once : (objects : List Object) (u : ℕ) (colours : Colours) (text : List ℕ) (w : World)
    → Does objects u (whats.Stop 0 colours text) w w (answers.Stopped 0) []
did_stop_at_once objects u colours text w =
    same_world objects u (whats.Stop 0 colours text) w (answers.Stopped 0) (λ kept k.
    (refl, colours, text, refl, stopped_at_once))

-- a pull from the client's own region
pub did_same : (objects : List Object) (u region c : ℕ) (w : World) → region ≡ home_of w u
    → Does objects u (whats.Pull region c) w w answers.SameRegion []
did_same objects u region c w is =
    same_world objects u (whats.Pull region c) w answers.SameRegion (λ kept k.
    (refl, refl, c, ap (λ (r : ℕ). whats.Pull r c) is))
