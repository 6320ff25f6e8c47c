-- What a trim of a client leaves, and what explains its answer.
use Rattle.std.proofs.Common.{◌≡◌, ℕ, true, length, Some, refl, ap, subst, arith, eq-eqb}
use Rattle.std.specs.Prelude.{slice_get, slice_index_or, ◌==◌, ◌&&◌}
use Rattle.std.specs.Vec.{with_item}
use Rattle.std.proofs.lemmas.Option.{slice_get_read}
use Rattle.log_node.specs.declared.ids.Counts.{Counts}
use Rattle.log_node.specs.declared.node.At.{At}
use Rattle.col_core.specs.declared.Event.TheVariants as events
use Rattle.col_core.specs.Keeping.{kept_after_event}
use Rattle.chain_store.specs.declared.told.Told.{Told}
use Rattle.chain_store.specs.declared.hold.Hold.{Hold}
use Rattle.chain_store.specs.declared.region.Region.{Region}
use Rattle.chain_store.specs.Columns.{told_event}
use Rattle.chain_store.specs.Regions.{tag_at}
use Rattle.chain_store.specs.Holds.{IsHold, SameBut, SeesMoreIn, MakesOneIn, TrimsIn, seen_in}
use Rattle.chain_store.proofs.CallerLemmas.{looks_on, makes_on}
use Rattle.client_law.proofs.CallerLemmas.{kept_after, trims_stand}
use Rattle.log_client.specs.declared.store.Store.{Store}
use Rattle.log_client.specs.declared.client.Client.{Client}
use Rattle.log_client.specs.Fits.{HaveGoneOn}
use Rattle.log_client.specs.Clients.{holds_of, seen_of, caller_of, IsClient, Finished, Helps}
use Rattle.log_client.specs.Calls.{IsExplained, DidNothing, TrimsAs}
use Rattle.log_client.proofs.Known.Steps.{more_last}
use Rattle.log_client.proofs.Trim.Trims.{trims_there, makes_only_last}
use Rattle.log_client.proofs.Going.AtHome.{ChangesHome, gone_looked, have_gone_on, home_after, others_after, sees_after, are_regions}
use Rattle.log_client.proofs.Going.Looked.{IsPlain, made_looked, finished_stays, client_looked, tracks_stay, did_nothing}
use Rattle.log_client.proofs.Going.Helping.{GoesIdle, IsNoStep, helped_at_home, idle_at_home, idle_looked, idle_on, no_help}

-- the client's hold, changed by a call on one colour's column
module _ (s : Store) (c : Client) (r : Region) (g h : Hold) (k : ℕ) (is : IsClient s c)
    (there : slice_get s.regions c.region ≡ Some r) (hold : g ≡ slice_index_or c.holds.items c.region g)
    (rests : IsHold r h) (but : SameBut k g h) (same : (h.seat ≡ g.seat) × (h.next ≡ g.next)) where
  abbrev pub after : Client
  after = record c { holds = with_item c.holds c.region h }

  pub at_g : slice_get (holds_of c) c.region ≡ Some g
  at_g =
      let many = is.holds.0 in
      let within = is.region in
      slice_get_read (holds_of c) (length (holds_of c)) c.region g refl (omega (arith, many, within)) hold

  -- by a look
  module _ (sees : SeesMoreIn k g h) where
    pub looked : ChangesHome s c after r g h
    looked = record {
      number = refl;
      region = refl;
      there = there;
      before = at_g;
      changed = refl;
      rests = rests;
      on = gone_looked k g h but sees.more same.0;
    }

    pub look_client : IsClient s after
    look_client =
        client_looked s c after r g h is looked (looks_on (λ m e. IsPlain e) k g h but sees) (ap (λ q. q.used) same.0) same.1
        (omega arith) is.floored refl refl refl (tracks_stay s c after r g h is looked refl)
        (idle_at_home s c after r g h is looked (idle_looked c.number g h looked.on (made_looked k g h but sees)))

    pub look_idle : Helps after → Helps c
    look_idle = helped_at_home s c after r g h is looked
        (idle_looked c.number g h looked.on (made_looked k g h but sees))

    pub look_goes : HaveGoneOn (holds_of c) (holds_of after)
    look_goes = have_gone_on s c after r g h is looked

    pub look_finished : Finished c → Finished after
    look_finished = finished_stays s c after r g h is looked refl

    pub look_nothing : DidNothing s c after
    look_nothing = did_nothing s c after r g h is looked (made_looked k g h but sees) refl refl refl (λ m. refl)

  -- by an event that is plain
  module _ (t : Told) (at : At) (m : MakesOneIn k g h t at) (by : t.entry.by ≡ g.passes.number)
      (plain : IsPlain t.entry.event) (no_step : IsNoStep t.entry.event) where
    pub made : ChangesHome s c after r g h
    made = record {
      number = refl;
      region = refl;
      there = there;
      before = at_g;
      changed = refl;
      rests = rests;
      on = gone_looked k g h but (more_last g.passes.number t (seen_in g k) (seen_in h k) at m by) same.0;
    }

    idle : GoesIdle c.number g h
    idle = idle_on (λ n e. IsNoStep e) c.number g h made.on (makes_on (λ n e. IsNoStep e) k g h but t at m by no_step)
        (λ n e p. no_help c.number e p)

    pub event_idle : Helps after → Helps c
    event_idle = helped_at_home s c after r g h is made idle

    pub event_client : IsClient s after
    event_client =
        client_looked s c after r g h is made (makes_on (λ n e. IsPlain e) k g h but t at m by plain) (ap (λ q. q.used) same.0)
        same.1 (omega arith) is.floored refl refl refl (tracks_stay s c after r g h is made refl)
        (idle_at_home s c after r g h is made idle)

    pub event_goes : HaveGoneOn (holds_of c) (holds_of after)
    event_goes = have_gone_on s c after r g h is made

    pub event_finished : Finished c → Finished after
    event_finished = finished_stays s c after r g h is made refl

  -- by a trim
  module _ (counts answer : Counts) (at : At) (trims : TrimsIn k g h (tag_at r k) counts at answer) where
    abbrev t : Told
    t = told_event g.passes.number (events.Trim counts)

    pub trim_client : IsClient s after
    trim_client = event_client t at trims.0 refl tt tt

    pub trim_idle : Helps after → Helps c
    trim_idle = event_idle t at trims.0 refl tt tt

    pub trim_goes : HaveGoneOn (holds_of c) (holds_of after)
    trim_goes = event_goes t at trims.0 refl tt tt

    pub trim_finished : Finished c → Finished after
    trim_finished = event_finished t at trims.0 refl tt tt

    number : g.passes.number ≡ c.number
    number = is.numbers c.region g at_g

    ch : ChangesHome s c after r g h
    ch = made t at trims.0 refl tt tt

    pub trim_explained : IsExplained s c after (TrimsAs k counts at answer)
    trim_explained objects kept finished keeps =
        let caller = caller_of s c objects in
        let on = sees_after s c after r g h is ch objects in
        let at_h = home_after s c after r g h is ch in
        let p = trims_there (holds_of c) (holds_of after) caller g h at_g at_h number k r counts answer at
        (are_regions s c.region r there).0 (are_regions s c.region r there).1 trims in
        let only = makes_only_last (holds_of c) (holds_of after) caller g h at_g at_h number k t at trims.0 number refl but
        (others_after s c after r g h is ch) in
        let own : (c.number == c.number) ≡ true = eq-eqb c.number c.number refl in
        let by = kept_after caller (seen_of c) (seen_of after) kept c.region k p.0 on only keeps.by
        (p.2, record { by = c.number; event = events.Trim counts; stamp = 0 }, p.3, ap (λ b. b && true) own) in (
          kept_after_event kept c.region k p.0,
          record {
            by = by;
            floor = keeps.floor;
            ids = keeps.ids;
            rows = keeps.rows;
            starts = keeps.starts;
          },
          λ rest fits. (
            p.0,
            p.1,
            trims_stand (seen_of c) (seen_of after) rest caller kept k p.0 counts answer on keeps.by p.2 p.3 p.4,
            refl,
          ),
        )
