-- What a client keeps beside a world, and what a command does to both.
use Rattle.std.proofs.Common.{◌≡◌, ℕ, ◌≤◌, List, [], length, true, refl, subst, ap, sym, ◌∙◌, arith}
use Rattle.std.specs.Prelude.{◌≢◌, IsTrue, slice_index}
use Rattle.log_node.specs.declared.ids.Id.{Id}
use Rattle.log_node.specs.declared.node.Shape.{Shape}
use Rattle.log_node.specs.Seen.{PlacedNode}
use Rattle.col_core.specs.declared.Event.{Event}
use Rattle.col_core.specs.declared.Entry.{Entry}
use Rattle.col_core.specs.History.{line}
use Rattle.col_core.specs.Log.{IsLater, places_of}
use Rattle.col_core.specs.Keeping.{Kept}
use Rattle.world_laws.specs.declared.steps.Step.{Step}
use Rattle.world_laws.specs.Worlds.{World, ClientState, home_of, home_history, run_steps}
use Rattle.world_laws.specs.Laws.{IsReached, log_of}
use Rattle.world_laws.proofs.CallerLemmas.{log_grows}
use Rattle.script_text.specs.declared.commands.What.{What}
use Rattle.script_text.specs.declared.script.Object.{Object}
use Rattle.report_text.specs.declared.report.Answer.{Answer}
use Rattle.report_text.specs.declared.report.Answer.TheVariants as answers
use Rattle.lawful_run.specs.Asks.{may_help}
use Rattle.lawful_run.specs.Deeds.{manner_of}
use Rattle.col_core.specs.Ids.{IsStepOf}
use Rattle.lawful_run.specs.Explains.{Explains}
use Rattle.lawful_run.specs.Lawful.{IsHelp}
use Rattle.lawful_run.specs.Refusals.{nothing}
use Rattle.lawful_run.proofs.CallerLemmas.{prefix_length}
pub use Rattle.script_meaning.specs.Objects.{caller_in}
use Rattle.script_meaning.proofs.World.StaysComplete.{OfDone, own_no_help}
use Rattle.script_meaning.proofs.World.Additions.{Adds, adds_none, adds_map, others_places, HelpIn}
use Rattle.script_meaning.proofs.World.Reached.{held_of, told_of}

-- what a client keeps is what the world has of it
pub record IsKeptBy (w : World) (client : ℕ) (kept : Kept) : Type 0 where
  pub floor : kept.floor ≡ (w.clients client).floor
  pub starts : kept.starts ≡ (w.clients client).played
  pub seen : (r c : ℕ) → kept.seen r c ≤ length (w.histories r c)
  pub known : (c : ℕ) → kept.known c ≤ length (line (home_history w client c))
  pub made : (r c : ℕ) → places_of client (w.histories r c) ≡ kept.made r c
  pub ids : kept.ids ≡ (w.clients client).count
  pub rows : kept.rows ≡ (w.clients client).used

-- a help by a command: it may help, in its client's region, and the append is complete in the world afterwards
pub record Helps (what : What) (w : World) (own region : ℕ) (ev : Event) : Type 0 where
  pub may : IsTrue (may_help (manner_of what))
  pub home : region ≡ own
  pub complete : OfDone w ev

-- the event is the client's, and helps another only as a command may
pub record MadeBy (client : ℕ) (what : What) (w : World) (own region : ℕ) (e : Entry) : Type 0 where
  pub made : e.by ≡ client
  pub help : IsHelp client e.event → Helps what w own region e.event

-- what clears made
pub made_helping : (client : ℕ) (what : What) (w : World) (own region : ℕ) → may_help (manner_of what) ≡ true
    → (e : Entry)
    → HelpIn w own client region e → MadeBy client what w own region e
made_helping client what w own region may e i = record {
  made = i.made;
  help = λ _. record { may = may; home = i.at_home; complete = i.complete };
}

-- a step of the client's own append
pub made_own : (client : ℕ) (what : What) (w : World) (own region : ℕ) (id : Id) → id.client ≡ client → (e : Entry)
    → e.by ≡ client → IsStepOf id e.event → MadeBy client what w own region e
made_own client what w own region id of_client e made of =
    record { made = made; help = λ h. absurd (own_no_help client id e.event of_client of h) }

pub record KeptAfter (w : World) (objects : List Object) (client : ℕ) (kept : Kept) (what : What) (answer : Answer)
    (nodes : List PlacedNode) : Type 0 where
  pub after : Kept
  pub keeps : IsKeptBy w client after
  pub explains : Explains (log_of w) (caller_in w objects client) kept what answer nodes after

-- a command of the client, with its answer, between two worlds
pub record Does (objects : List Object) (client : ℕ) (what : What) (w w' : World) (answer : Answer)
    (nodes : List PlacedNode) :
    Type 0 where
  pub steps : List Step
  pub run : run_steps w steps ≡ w'
  pub shape : w'.shape ≡ w.shape
  pub others : (n : ℕ) → n ≢ client → w'.clients n ≡ w.clients n
  pub adds : (r c : ℕ) → Adds (MadeBy client what w' (home_of w client) r) (w.histories r c)
      (w'.histories r c)
  pub keeps : (kept : Kept) → IsKeptBy w client kept → KeptAfter w' objects client kept what answer nodes

-- the log after some steps is a later one
pub later_log : (w w' : World) (steps : List Step) → IsReached w → run_steps w steps ≡ w' → IsLater (log_of w)
    (log_of w')
later_log w w' steps r run =
    subst (λ (x : World). IsLater (log_of w) (log_of x)) run (log_grows w (held_of w r) (told_of w r) steps)

-- What another client keeps is still what the world has of it, after steps of which all events are of the one.
pub kept_beside : (client : ℕ) (w w' : World) (steps : List Step) → IsReached w → run_steps w steps ≡ w'
    → w'.shape ≡ w.shape → ((n : ℕ) → n ≢ client → w'.clients n ≡ w.clients n)
    → ((r c : ℕ) → Adds (λ (e : Entry). e.by ≡ client) (w.histories r c) (w'.histories r c))
    → (n : ℕ) → n ≢ client → (kept : Kept) → IsKeptBy w n kept → IsKeptBy w' n kept
kept_beside client w w' steps r run shape others adds n ne kept k =
    let later = later_log w w' steps r run in
    record {
      floor = k.floor ∙ ap (λ (s : ClientState). s.floor) (sym (others n ne));
      starts = k.starts ∙ ap (λ (s : ClientState). s.played) (sym (others n ne));
      seen = λ a c. let x = k.seen a c in
          let y = prefix_length (w.histories a c) (w'.histories a c) (later.histories a c) in omega (arith, x, y);
      known = λ c. let x = k.known c in
          let y = prefix_length (line (home_history w n c)) (line (w'.histories (home_of w n) c))
          (later.lines (home_of w n) c) in
          subst (λ (s : ℕ). kept.known c ≤ length (line (w'.histories s c)))
          (sym (ap (λ (s : Shape). slice_index s.homes n) shape)) (omega (arith, x, y));
      made = λ a c. others_places n (w.histories a c) (w'.histories a c)
          (adds_map (λ (e : Entry). e.by ≡ client) (λ (e : Entry). e.by ≡ n → ⊥) (w.histories a c) (w'.histories a c)
          (λ e made same. ne (sym same ∙ made)) (adds a c)) ∙ k.made a c;
      ids = k.ids ∙ ap (λ (s : ClientState). s.count) (sym (others n ne));
      rows = k.rows ∙ ap (λ (s : ClientState). s.used) (sym (others n ne));
    }

-- a command that is granted no memory did nothing
pub did_nothing : (objects : List Object) (client : ℕ) (what : What) (w : World)
    → Does objects client what w w answers.NoMemory []
did_nothing objects client what w = record {
  steps = [];
  run = refl;
  shape = refl;
  others = λ n ne. refl;
  adds = λ r c. adds_none (MadeBy client what w (home_of w client) r) (w.histories r c);
  keeps = λ kept k. record { after = kept; keeps = k; explains = (refl, nothing) };
}
