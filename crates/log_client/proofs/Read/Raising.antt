-- A look at a clock, and a raise, as a client's calls leave them.
use Rattle.std.proofs.Common.{◌≡◌, inl, inr, ℕ, true, ◌≤◌, List, length, Some, refl, ap, sym, subst, ◌∙◌, arith, eq-eqb}
use Rattle.std.specs.Prelude.{slice_get, slice_index_or, ◌==◌, ◌&&◌}
use Rattle.std.proofs.lemmas.List.{take_all}
use Rattle.log_node.specs.declared.node.At.{At}
use Rattle.log_node.specs.declared.node.At.TheVariants.{Event, Look}
use Rattle.col_core.specs.declared.Entry.{Entry}
use Rattle.col_core.specs.declared.Event.TheVariants as events
use Rattle.col_core.specs.History.{clock}
use Rattle.chain_store.specs.declared.told.Told.{Told}
use Rattle.chain_store.specs.declared.hold.Hold.{Hold}
use Rattle.chain_store.specs.declared.region.Region.{Region}
use Rattle.chain_store.specs.Columns.{told_event}
use Rattle.chain_store.specs.Holds.{IsHold, SameBut, SeesMoreIn, RaisesIn, MakesOneIn, seen_in, entries_seen}
use Rattle.lawful_run.specs.Reads.{kept_after_place}
use Rattle.lawful_run.proofs.CallerLemmas.{prefix_length}
use Rattle.client_law.proofs.CallerLemmas.{kept_after, kept_after_looking, raise_stands}
use Rattle.log_client.specs.declared.store.Store.{Store}
use Rattle.log_client.specs.declared.client.Client.{Client}
use Rattle.log_client.specs.Clients.{holds_of, seen_of, caller_of, IsClient, Helps}
use Rattle.log_client.specs.Calls.{DidNothing, IsExplained, RaisesAs}
use Rattle.log_client.specs.Reading.{RestsOn, KeepsAll, RaisesOne, home_seen}
use Rattle.log_client.proofs.Known.Seeing.{seen_there}
use Rattle.log_client.proofs.Append.Alone.{seen_long, seen_at}
use Rattle.log_client.proofs.Known.Steps.{stands_last, unseen_last, long_last}
use Rattle.log_client.proofs.Trim.Trims.{makes_only_last}
use Rattle.log_client.proofs.Going.AtHome.{home_after, others_after, sees_after}
use Rattle.log_client.proofs.Going.Looked.{made_looked, makes_none, keeps_stay}
use Rattle.log_client.proofs.Going.Growing.{grown_same}
use Rattle.log_client.proofs.Trim.TrimReplies.{after, at_g, looked, made, look_client, look_idle, look_goes, look_finished, event_client, event_idle, event_goes, event_finished}

module _ (s : Store) (c : Client) (r : Region) (g h : Hold) (k : ℕ) (is : IsClient s c)
    (there : slice_get s.regions c.region ≡ Some r) (hold : g ≡ slice_index_or c.holds.items c.region g)
    (rests : IsHold r h) (but : SameBut k g h) (same : (h.seat ≡ g.seat) × (h.next ≡ g.next)) where
  abbrev d : Client
  d = after s c r g h k is there hold rests but same

  g_there : slice_get (holds_of c) c.region ≡ Some g
  g_there = at_g s c r g h k is there hold rests but same

  number : g.passes.number ≡ c.number
  number = is.numbers c.region g g_there

  long_before : length (home_seen c k) ≡ length (seen_in g k)
  long_before = seen_long (holds_of c) c.region g g_there k

  -- BY A LOOK

  module _ (sees : SeesMoreIn k g h) where
    h_there : slice_get (holds_of d) c.region ≡ Some h
    h_there = home_after s c d r g h is (looked s c r g h k is there hold rests but same sees)

    pub look_helps : Helps d → Helps c
    look_helps = look_idle s c r g h k is there hold rests but same sees

    pub look_rests : RestsOn s c d
    look_rests = record {
      client = look_client s c r g h k is there hold rests but same sees;
      same = (refl, refl);
      goes = look_goes s c r g h k is there hold rests but same sees;
      grows = grown_same c d refl;
      finished = look_finished s c r g h k is there hold rests but same sees;
    }

    pub look_keeps : KeepsAll s c d
    look_keeps objects kept finished keeps = (
      keeps_stay s c d r g h is (looked s c r g h k is there hold rests but same sees) (made_looked k g h but sees) refl refl
          refl (λ m. refl) objects kept keeps,
      λ rest fits. tt,
    )

    pub look_seen : home_seen d k ≡ entries_seen h k
    look_seen = seen_there (holds_of d) c.region h h_there k

    look_long : length (home_seen d k) ≡ length (seen_in h k)
    look_long = seen_long (holds_of d) c.region h h_there k

    looked_on : (stamp : ℕ) → stamp ≤ clock (entries_seen h k) → RaisesOne s c d stamp k (Look (length (seen_in h k)))
    looked_on stamp reached =
        let ch = looked s c r g h k is there hold rests but same sees in
        let n = length (seen_in h k) in
        let grown = prefix_length (seen_in g k) (seen_in h k) sees.more in
        let before = long_before in
        let now = look_long in
        let clock_there : stamp ≤ clock (home_seen d k) =
        subst (λ (l : List Entry). stamp ≤ clock l) (sym look_seen) reached in
        record {
          keeps = λ objects kept finished keeps. (
            record {
              by = kept_after_looking (caller_of s d objects) (seen_of c) (seen_of d) kept c.region k n
                  (sees_after s c d r g h is ch objects)
                  (makes_none s c d r g h is ch (made_looked k g h but sees)) keeps.by (omega (arith, now));
              floor = keeps.floor;
              ids = keeps.ids;
              rows = keeps.rows;
              starts = keeps.starts;
            },
            λ rest fits. raise_stands (seen_of c) (seen_of d) rest (caller_of s d objects) kept stamp k (Look n)
                (sees_after s c d r g h is ch objects) keeps.by (
                  omega (arith, before, grown),
                  omega (arith, now),
                  subst (λ (l : List Entry). stamp ≤ clock l)
                      (sym (take_all n (home_seen d k) (omega (arith, now)))) clock_there,
                ),
          );
          since = omega (arith, before, grown);
          within = omega (arith, now);
          reached = clock_there;
        }

  -- BY AN EVENT

  module _ (stamp : ℕ) (at : At) (m : MakesOneIn k g h (told_event g.passes.number (events.Raise stamp)) at) where
    abbrev t : Told
    t = told_event g.passes.number (events.Raise stamp)

    e_there : slice_get (holds_of d) c.region ≡ Some h
    e_there = home_after s c d r g h is (made s c r g h k is there hold rests but same t at m refl tt tt)

    pub raise_rests : RestsOn s c d
    raise_rests = record {
      client = event_client s c r g h k is there hold rests but same t at m refl tt tt;
      same = (refl, refl);
      goes = event_goes s c r g h k is there hold rests but same t at m refl tt tt;
      grows = grown_same c d refl;
      finished = event_finished s c r g h k is there hold rests but same t at m refl tt tt;
    }

    raised_on : stamp ≤ clock (entries_seen h k) → RaisesOne s c d stamp k (Event (length m.before))
    raised_on reached =
        let ch = made s c r g h k is there hold rests but same t at m refl tt tt in
        let place = length m.before in
        let now = seen_long (holds_of d) c.region h e_there k in
        let before = long_before in
        let last = long_last g.passes.number t (seen_in g k) (seen_in h k) at m refl in
        let unseen = unseen_last g.passes.number t (seen_in g k) (seen_in h k) at m refl in
        let own : (c.number == c.number) ≡ true = eq-eqb c.number c.number refl in
        let stands : slice_get (seen_of d c.region k) place
        ≡ Some (record { by = c.number; event = events.Raise stamp; stamp = 0 }) =
        seen_at (holds_of d) c.region h e_there k place t
        (stands_last g.passes.number t (seen_in g k) (seen_in h k) at m refl)
        ∙ (λ i. Some (record { by = number i; event = events.Raise stamp; stamp = 0 })) in
        record {
          keeps = λ objects kept finished keeps.
              let caller = caller_of s d objects in
              let on = sees_after s c d r g h is ch objects in (
                record {
                  by = kept_after caller (seen_of c) (seen_of d) kept c.region k place on
                      (makes_only_last (holds_of c) (holds_of d) caller g h g_there e_there number k t at m number refl but
                      (others_after s c d r g h is ch)) keeps.by (
                        omega (arith, before, unseen),
                        record { by = c.number; event = events.Raise stamp; stamp = 0 },
                        stands,
                        ap (λ b. b && true) own,
                      );
                  floor = keeps.floor;
                  ids = keeps.ids;
                  rows = keeps.rows;
                  starts = keeps.starts;
                },
                λ rest fits. raise_stands (seen_of c) (seen_of d) rest caller kept stamp k (Event place) on keeps.by
                    (omega (arith, before, unseen), stands),
              );
          since = omega (arith, before, unseen);
          within = omega (arith, now, last);
          reached = subst (λ (l : List Entry). stamp ≤ clock l) (sym (seen_there (holds_of d) c.region h e_there k)) reached;
        }

  -- either way

  pub raise_one_rests : (stamp : ℕ) (at : At) → RaisesIn k g h stamp at → RestsOn s c d
  raise_one_rests stamp at ra = elim ra.either [
    | inl look ↦ look_rests look.0
    | inr event ↦ raise_rests stamp at event.0
  ]

  pub raise_one : (stamp : ℕ) (at : At) → RaisesIn k g h stamp at → RaisesOne s c d stamp k at
  raise_one stamp at ra = elim ra.either [
    | inl look ↦ subst (RaisesOne s c d stamp k) (sym look.1) (looked_on look.0 stamp ra.reached)
    | inr event ↦ subst (RaisesOne s c d stamp k) (sym event.0.place) (raised_on stamp at event.0 ra.reached)
  ]

  pub raise_one_helps : (stamp : ℕ) (at : At) → RaisesIn k g h stamp at → Helps d → Helps c
  raise_one_helps stamp at ra = elim ra.either [
    | inl look ↦ look_helps look.0
    | inr event ↦
        event_idle s c r g h k is there hold rests but same (told_event g.passes.number (events.Raise stamp)) at event.0 refl
        tt tt
  ]

-- AS A CALL OF ITS OWN

pub explained_by_raise : (s : Store) (c d : Client) (stamp k : ℕ) (at : At) → RestsOn s c d → RaisesOne s c d stamp k at
    → IsExplained s c d (RaisesAs stamp k at)
explained_by_raise s c d stamp k at on one objects kept finished keeps =
    let r = one.keeps objects kept finished keeps in (
      kept_after_place kept c.region k at,
      r.0,
      λ rest fits. (r.1 rest fits, ap (λ (n : ℕ). kept_after_place kept n k at) (sym on.same.1)),
    )

pub nothing_by_keeping : (s : Store) (c d : Client) → KeepsAll s c d → DidNothing s c d
nothing_by_keeping s c d all objects kept finished keeps = (kept, (all objects kept finished keeps).0, λ rest fits. refl)
