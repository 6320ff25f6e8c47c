-- Steps of a command, one part of it after another.
use Rattle.std.proofs.Common.{◌≡◌, ℕ, List, [], ◌∷◌, ◌++◌, true, refl, ap, sym, subst, ◌∙◌}
use Rattle.std.specs.Prelude.{◌≢◌, slice_index}
use Rattle.log_node.specs.declared.ids.Colours.{Colours}
use Rattle.log_node.specs.declared.node.Shape.{Shape}
use Rattle.log_node.specs.Seen.{PlacedNode}
use Rattle.col_core.specs.declared.Entry.{Entry}
use Rattle.col_core.proofs.CallerLemmas.{if_true}
use Rattle.world_laws.specs.declared.steps.Step.{Step}
use Rattle.world_laws.specs.declared.steps.Step.TheVariants.{Play}
use Rattle.world_laws.specs.Laws.{IsReached}
use Rattle.world_laws.specs.Worlds.{World, home_of, run_steps, may_play, after_play}
use Rattle.world_laws.proofs.CallerLemmas.{played_client, run_reached, run_steps-append}
use Rattle.script_text.specs.declared.script.Object.{Object}
use Rattle.script_text.specs.declared.commands.What.{What}
use Rattle.script_text.specs.declared.commands.What.TheVariants as whats
use Rattle.report_text.specs.declared.report.Answer.{Answer}
use Rattle.lawful_run.specs.Asks.{may_help}
use Rattle.lawful_run.specs.Deeds.{manner_of}
use Rattle.script_meaning.proofs.Append.AppendOne.{updated-not}
use Rattle.script_meaning.proofs.Client.Kept.{MadeBy, Does}
use Rattle.script_meaning.proofs.Client.OwnEvents.{finished_client}
use Rattle.script_meaning.proofs.World.Additions.{Adds, adds_map, adds_none, adds_trans}
use Rattle.script_meaning.proofs.World.Clearing.{Finished}
use Rattle.script_meaning.proofs.World.Reached.{held_of}
use Rattle.script_meaning.proofs.World.StaysComplete.{of_done_stays}

-- steps of the client, as its command may take them, lead from one world to the other
pub record Leads (S : ℕ → Type 0) (u : ℕ) (what : What) (w w' : World) : Type 0 where
  pub steps : List Step
  pub run : run_steps w steps ≡ w'
  pub shape : w'.shape ≡ w.shape
  pub others : (n : ℕ) → n ≢ u → w'.clients n ≡ w.clients n
  pub adds : (r c : ℕ) → Adds (MadeBy u what w' (home_of w u) r) (w.histories r c) (w'.histories r c)
  pub finished : Finished S w'

pub leads_to : (S : ℕ → Type 0) (u : ℕ) (what : What) (w w' : World) → IsReached w → Leads S u what w w' → IsReached w'
leads_to S u what w w' reached d = subst IsReached d.run (run_reached w d.steps reached)

-- none
pub leads_nowhere : (S : ℕ → Type 0) (u : ℕ) (what : What) (w : World) → Finished S w → Leads S u what w w
leads_nowhere S u what w fin = record {
  steps = [];
  run = refl;
  shape = refl;
  others = λ n ne. refl;
  adds = λ r c. adds_none (MadeBy u what w (home_of w u) r) (w.histories r c);
  finished = fin;
}

-- a play of a colour
pub leads_by_play : (S : ℕ → Type 0) (u : ℕ) (what : What) (w : World) (c : ℕ) → Finished S w → may_play w u c ≡ true
    → Leads S u what w (after_play w u c)
leads_by_play S u what w c fin ok = record {
  steps = Play u c ∷ [];
  run = if_true (may_play w u c) (after_play w u c) w ok;
  shape = refl;
  others = λ n ne. updated-not w.clients u (played_client w u c) n ne;
  adds = λ r d. adds_none (MadeBy u what (after_play w u c) (home_of w u) r) (w.histories r d);
  finished = finished_client S w u (played_client w u c) refl fin;
}

-- an append, by a command that may help
pub leads_by_append : (S : ℕ → Type 0) (objects : List Object) (u : ℕ) (what : What) → may_help (manner_of what) ≡ true
    → (set : Colours) (text : List ℕ) (w w' : World) (answer : Answer) (nodes : List PlacedNode)
    → Does objects u (whats.Append set text) w w' answer nodes → Finished S w' → Leads S u what w w'
leads_by_append S objects u what may set text w w' answer nodes d fin = record {
  steps = d.steps;
  run = d.run;
  shape = d.shape;
  others = d.others;
  adds = λ r c. adds_map (MadeBy u (whats.Append set text) w' (home_of w u) r) (MadeBy u what w' (home_of w u) r)
      (w.histories r c) (w'.histories r c)
      (λ e m. record {
        made = m.made;
        help = λ h. let x = m.help h in record { may = may; home = x.home; complete = x.complete };
      }) (d.adds r c);
  finished = fin;
}

-- one part behind another
pub leads_on : (S : ℕ → Type 0) (u : ℕ) (what : What) (w v x : World) → IsReached w → Leads S u what w v
    → Leads S u what v x → Leads S u what w x
leads_on S u what w v x reached first then = record {
  steps = first.steps ++ then.steps;
  run = run_steps-append w first.steps then.steps
      ∙ (ap (λ (y : World). run_steps y then.steps) first.run ∙ then.run);
  shape = then.shape ∙ first.shape;
  others = λ n ne. then.others n ne ∙ first.others n ne;
  adds = λ r c. adds_trans (MadeBy u what x (home_of w u) r) (w.histories r c) (v.histories r c) (x.histories r c)
      (adds_map (MadeBy u what v (home_of w u) r) (MadeBy u what x (home_of w u) r) (w.histories r c) (v.histories r c)
      (made_on r) (first.adds r c))
      (subst (λ (h : ℕ). Adds (MadeBy u what x h r) (v.histories r c) (x.histories r c))
      (ap (λ (s : Shape). slice_index s.homes u) first.shape) (then.adds r c));
  finished = then.finished;
} where
  -- what was complete is complete still
  made_on : (r : ℕ) (e : Entry) → MadeBy u what v (home_of w u) r e → MadeBy u what x (home_of w u) r e
  made_on r e m = record {
    made = m.made;
    help = λ h. let y = m.help h in record {
      may = y.may;
      home = y.home;
      complete = of_done_stays v x (held_of v (leads_to S u what w v reached first)) then.steps then.run e.event y.complete;
    };
  }
