-- What an append says by the rules.
use Rattle.std.proofs.Common.{◌≡◌, ◌∙◌, refl, ap, sym, subst, ℕ, ◌+◌, ◌<◌, ◌≤◌, List, [], ◌∷◌, length, Option, Some, None, arith}
use Rattle.std.specs.Prelude.{◌≢◌, IsTrue, slice_get}
use Rattle.std.specs.List.{AllPairs, find}
use Rattle.std.proofs.lemmas.List.Elements.{All-nil, All-cons, All-weaker}
use Rattle.log_node.specs.declared.ids.Id.{Id}
use Rattle.log_node.specs.declared.ids.Colours.{Colours}
use Rattle.log_node.specs.declared.node.At.{At}
use Rattle.log_node.specs.declared.node.At.TheVariants.{Event, Look}
use Rattle.log_node.specs.declared.node.Node.{Node}
use Rattle.log_node.specs.declared.marks.Outcome.TheVariants.{Final}
use Rattle.log_node.specs.Order.{same_id}
use Rattle.log_node.specs.Outcomes.{final_number}
use Rattle.log_node.specs.Sets.{members}
use Rattle.col_core.specs.declared.Entry.{Entry}
use Rattle.col_core.specs.Ids.{IsStepOf}
use Rattle.col_core.specs.Appending.{EntersBehind}
use Rattle.col_core.specs.Log.{Log, HasOutcome}
use Rattle.col_core.specs.Rows.{BegunRow}
use Rattle.col_core.specs.Keeping.{Kept, kept_after_single}
use Rattle.col_core.proofs.CallerLemmas.{In, in_contains, same_id-is, same_id-true}
use Rattle.script_text.specs.declared.commands.What.{What}
use Rattle.report_text.specs.declared.report.PointPiece.{PointPiece}
use Rattle.lawful_run.specs.Callers.{Caller, node_of}
use Rattle.lawful_run.specs.Deeds.{AsksToAppend}
use Rattle.lawful_run.specs.Appends.{StandsAt, AreSteps, Appends}
use Rattle.lawful_run.specs.Reads.{events_until}
use Rattle.run_rules.specs.Told.{Untold, colours_asked, kept_after_append, stamp_told, stamp_of, last_of}
use Rattle.run_rules.specs.Naming.{NamesPlace, NamesPoint, NamesSteps, NamesAppend, EntersOf}
use Rattle.run_rules.specs.Answering.{HasPoints}
use Rattle.run_rules.specs.Rules.{HasNode, EntersAsNode, StandsAsTold}
use Rattle.run_rules.specs.Shown.{is_row}
use Rattle.run_rules.proofs.Facts.{asked_colours}
use Rattle.run_rules.proofs.Lists.{find_one, same_by}
use Rattle.run_rules.proofs.Room.{appends_with}

-- what no reply prints, of an append
abbrev pub with_places : (ℕ → List ℕ) → Untold
with_places places = record { places = places; too_low = []; found = [] }

-- the parts of an append by the rules
pub record AppendTold (log : Log) (caller : Caller) (kept : Kept) (what : What) (stamp : ℕ) (row : Option ℕ)
    (points : List PointPiece) (after : Kept) : Type 0 where
  pub places : ℕ → List ℕ
  pub told : after ≡ kept_after_append (with_places places) caller kept stamp row points
  pub has_points : HasPoints (colours_asked caller kept what) row points
  pub names : NamesAppend log (with_places places) caller kept row points
  pub node : HasNode log caller kept what
  pub enters : EntersAsNode log caller kept row points
  pub stands : StandsAsTold log (with_places places) caller kept what stamp row points
  pub room : IsTrue (is_row row) → kept.rows < caller.rows
  pub own : stamp ≡ stamp_told log caller kept row points

module _ (log : Log) (caller : Caller) (kept : Kept) where
  pub steps_named : (node : Node) → node.id ≡ record { client = caller.client; count = kept.ids } → (places : ℕ → List ℕ)
      → AreSteps log caller kept node places → NamesSteps log caller kept places
  steps_named node same places steps colour k d lt =
      let s = steps colour k d lt in (s.0, (s.1, s.2, s.3, subst (λ (id : Id). IsStepOf id s.1.event) same s.4))

  enters_named : (node : Node) → node.id.client ≡ caller.client → (colour : ℕ) (at : At)
      → EntersBehind (kept.seen caller.own colour) (log.histories caller.own colour) caller.client node colour at
      → NamesPlace log caller kept caller.own colour (EntersOf caller.client) at
  enters_named node same colour (Event place) e =
      (e.0, (e.1, e.2, e.3, subst (EntersOf caller.client) (sym e.4) same))
  enters_named node same colour (Look seen) e = (e.0, e.1)

  module _ (apart : AllPairs (λ (r s : BegunRow). r.node.id ≢ s.node.id) (log.rows caller.own)) where
    own_row : (node : Node) → node.region ≡ caller.own → node.id ≡ record { client = caller.client; count = kept.ids }
        → (stamp : ℕ) → HasOutcome log node (Final stamp)
        → stamp ≡ final_number (last_of (find (λ (r : BegunRow).
        same_id (record { client = caller.client; count = kept.ids }) r.node.id) (log.rows caller.own)))
    own_row node region same stamp outcome =
        let id : Id = record { client = caller.client; count = kept.ids } in
        let r = outcome.0 in
        let among : In r (log.rows caller.own) =
        subst (λ (k : ℕ). In r (log.rows k)) region (in_contains (log.rows node.region) r outcome.1.begun) in
        let its : r.node.id ≡ id = ap (λ (n : Node). n.id) outcome.1.of_node ∙ same in
        let found : find (λ (x : BegunRow). same_id id x.node.id) (log.rows caller.own) ≡ Some r =
        find_one (λ (x : BegunRow). same_id id x.node.id) (log.rows caller.own) r among (same_id-is id r.node.id (sym its))
        (λ x j t. same_by (λ (y : BegunRow). y.node.id) (log.rows caller.own) apart x r j among
        (sym (same_id-true id x.node.id t) ∙ sym its)) in
        ap final_number (sym outcome.2) ∙ ap (λ (o : Option BegunRow). final_number (last_of o)) (sym found)

    module _ (what : What) (colours : Colours) (text : List ℕ) (asks : AsksToAppend caller kept what colours text) where
      abbrev node : Node
      node = node_of caller kept colours text

      asked : members colours ≡ colours_asked caller kept what
      asked = asked_colours caller kept what colours text asks

      pub append_told : (stamp : ℕ) (row : Option ℕ) (points : List PointPiece) (after : Kept)
          → Appends log caller kept node stamp row points after
          → AppendTold log caller kept what stamp row points after
      append_told stamp None [] after a = absurd a
      append_told stamp None (p ∷ []) after a =
          let place = a.1 in
          let one = a.3 in
          let until : events_until p.at ≡ place = ap events_until a.2 in
          let told = a.4 ∙ ap (λ (n : ℕ). kept_after_single kept caller.own p.colour n stamp p.position) (sym until) in record {
            places = λ _. [];
            told = told;
            has_points = (sym a.0 ∙ asked, ap length (sym asked ∙ a.0));
            names = All-cons (NamesPoint log caller kept) p [] (
              subst (NamesPlace log caller kept caller.own p.colour (EntersOf caller.client)) (sym a.2)
                  (one.unseen, (_, one.entered, refl, refl)),
              one.behind,
            )
                (All-nil (NamesPoint log caller kept));
            node = (colours, text, asks, one.next);
            enters = λ e there. single_there until one.entered e there;
            stands = (
              colours,
              text,
              asks,
              appends_with log caller kept node (kept.rows + 1) stamp None (p ∷ []) _
                  (λ t. omega arith) (subst (Appends log caller kept node stamp None (p ∷ [])) told a),
            );
            room = λ t. absurd (let f : ⊥ = cc (t) in f);
            own = sym (ap stamp_of
                (ap (slice_get (log.histories caller.own p.colour)) until ∙ one.entered));
          } where
            single_there : {place until : ℕ} {s : Entry} → until ≡ place
                → slice_get (log.histories caller.own p.colour) place ≡ Some s
                → (e : Entry) → slice_get (log.histories caller.own p.colour) until ≡ Some e → e.event ≡ s.event
            single_there {place} {until} {s} same entered e there =
                let x : Some e ≡ Some s = sym there ∙ (ap (slice_get (log.histories caller.own p.colour)) same ∙ entered) in
                let y : e ≡ s = cc (x) in ap (λ (z : Entry). z.event) y
      append_told stamp None (p ∷ q ∷ ps) after a = absurd a
      append_told stamp (Some number) points after a =
          let s = a.2 in record {
            places = a.1;
            told = a.3;
            has_points = (s.colours ∙ asked, subst (λ (cs : List ℕ). 2 ≤ length cs) asked s.begins.several);
            names = (
              All-weaker (StandsAt log caller kept node stamp) (NamesPoint log caller kept)
                  (λ p t. (enters_named node refl p.colour p.at t.entered, t.behind)) points s.each,
              steps_named node refl a.1 s.begins.steps,
            );
            node = (colours, text, asks, s.begins.next);
            enters = tt;
            stands = (
              colours,
              text,
              asks,
              appends_with log caller kept node (kept.rows + 1) stamp (Some number) points _
                  (λ t. omega arith) (subst (Appends log caller kept node stamp (Some number) points) a.3 a),
            );
            room = λ t. s.begins.room;
            own = own_row node refl refl stamp s.outcome;
          }

-- the same under the stamp that is told
pub append_as_told : {log : Log} {caller : Caller} {kept : Kept} {what : What} {stamp : ℕ} {row : Option ℕ}
    {points : List PointPiece} {after : Kept} → AppendTold log caller kept what stamp row points after
    → AppendTold log caller kept what (stamp_told log caller kept row points) row points after
append_as_told {log} {caller} {kept} {what} {stamp} {row} {points} {after} t =
    subst (λ (n : ℕ). AppendTold log caller kept what n row points after) t.own t
