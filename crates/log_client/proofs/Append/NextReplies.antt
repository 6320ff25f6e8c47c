-- What an append of a client to one colour leaves that may only stand next, and what explains its answer.
use Rattle.std.proofs.Common.{◌≡◌, ◌⊎◌, inl, inr, ℕ, ◌+◌, ◌<◌, max, List, [], ◌∷◌, length, map, take, Some, None, refl, ap, sym, subst, ◌∙◌, arith, take_all}
use Rattle.std.specs.Prelude.{slice_get, slice_index_or}
use Rattle.std.specs.List.{All, Contains}
use Rattle.std.specs.Vec.{with_item}
use Rattle.std.proofs.lemmas.List.Elements.{All-cons, All-nil}
use Rattle.log_node.specs.declared.ids.Id.{Id}
use Rattle.log_node.specs.declared.ids.Colours.{Colours}
use Rattle.log_node.specs.declared.ids.Counts.{Counts}
use Rattle.log_node.specs.declared.limits.TheConstants.{MAX_COLOURS}
use Rattle.log_node.specs.declared.node.At.TheVariants.{Event}
use Rattle.log_node.specs.declared.node.Node.{Node}
use Rattle.log_node.specs.Sets.{members}
use Rattle.log_node.specs.Vectors.{at}
use Rattle.col_core.specs.declared.Event as event_types
use Rattle.col_core.specs.declared.Event.TheVariants as events
use Rattle.col_core.specs.declared.Entry.{Entry}
use Rattle.col_core.specs.History.{entries, line, open_count}
use Rattle.col_core.specs.Rows.{node_wants}
use Rattle.col_core.specs.Keeping.{Kept, kept_after_look, nothing_kept}
use Rattle.col_core.proofs.CallerLemmas.{contains_in}
use Rattle.column.specs.declared.faults.OnlyFault.{OnlyFault}
use Rattle.column.specs.declared.faults.OnlyFault.TheVariants as faults
use Rattle.script_text.specs.declared.script.Object.{Object}
use Rattle.report_text.specs.declared.report.PointPiece.{PointPiece}
use Rattle.stamp_board.specs.declared.view.Size.{Size}
use Rattle.stamp_board.specs.Seats.{IsLater}
use Rattle.chain_store.specs.declared.hold.Hold.{Hold}
use Rattle.chain_store.specs.declared.region.Region.{Region}
use Rattle.chain_store.specs.Guarded.{wanted, HasNextCause}
use Rattle.chain_store.specs.Holds.{IsHold, SameBut, SeesMoreIn, entries_seen}
use Rattle.chain_store.proofs.CallerLemmas.{goes_weaken, later_same}
use Rattle.append_core.specs.declared.stood.Stood.{Stood}
use Rattle.append_core.specs.declared.stood.Point.{Point}
use Rattle.append_core.specs.Standing.{IsSingleOf, HoldAppendsNext}
use Rattle.lawful_run.specs.Appends.{WasNext}
use Rattle.lawful_run.proofs.CallerLemmas.{get_within, prefix_length}
use Rattle.client_law.specs.Knowing.{Rest, log_seen}
use Rattle.client_law.proofs.CallerLemmas.{kept_after_looking, wants_are_starts}
use Rattle.log_client.specs.declared.store.Store.{Store}
use Rattle.log_client.specs.declared.client.Client.{Client}
use Rattle.log_client.specs.Clients.{holds_of, seen_of, starts_of, caller_of, IsClient, Helps, Keeps}
use Rattle.log_client.specs.Appends.{next_node, piece_of}
use Rattle.log_client.specs.Calls.{IsExplained}
use Rattle.log_client.specs.Guarded.{IsNextPoint, OnlyAs, FindsMoved, OnlyRefused}
use Rattle.log_client.specs.Reading.{RestsOn}
use Rattle.log_client.proofs.Known.Seeing.{seen_there}
use Rattle.log_client.proofs.Append.Alone.{seen_long}
use Rattle.log_client.proofs.Append.AppendReplies.{changed, entered, explained_so, single_client, ended_so}
use Rattle.log_client.proofs.Going.AtHome.{ChangesHome, are_regions, gone_looked, have_gone_on, home_after, sees_after}
use Rattle.log_client.proofs.Going.Looked.{finished_stays, made_looked, makes_none}
use Rattle.log_client.proofs.Going.Helping.{IsNoStep, helped_at_home, idle_on, no_help}
use Rattle.log_client.proofs.Going.Growing.{grown_same}
use Rattle.log_client.proofs.Going.NextNodes.{hold_read}
use Rattle.log_client.proofs.Trim.TrimReplies.{look_client, look_finished, look_goes, look_idle, look_nothing}

-- a colour of a store is one that a set may have
pub colour_low : (s : Store) (n : ℕ) (r : Region) → slice_get s.regions n ≡ Some r → (k : ℕ) → k < s.size.colours
    → k < MAX_COLOURS
colour_low s n r there k lt =
    let few = r.board.is_size.few_colours in
    let same = ap (λ (z : Size). z.colours) (s.fit.each n r there).size in
    omega (arith, few, same, lt)

-- a single is no step of an append to several colours
single_no_step : (id : Id) (e : event_types.Event) → IsSingleOf id e → IsNoStep e
single_no_step id (events.Single other floor wants) s = tt
single_no_step id (events.Propose other floor wants) s = s
single_no_step id (events.Settle other outcome) s = s
single_no_step id (events.Raise to) s = tt
single_no_step id (events.Give region from) s = tt
single_no_step id (events.Carry region start heads) s = tt
single_no_step id (events.Trim counts) s = tt

module _ (s : Store) (c : Client) (r : Region) (g : Hold) (k : ℕ) (colours : Colours) (text : List ℕ) (x : Node)
    (is : IsClient s c) (lt : k < s.size.colours) (one_colour : members colours ≡ k ∷ [])
    (there : slice_get s.regions c.region ≡ Some r) (hold : g ≡ slice_index_or c.holds.items c.region g)
    (x_is : x ≡ next_node c colours text) where
  at_g : slice_get (holds_of c) c.region ≡ Some g
  at_g = hold_read s c g is hold

  -- it wants of its own region's line what the client has played of it
  wants_played : wanted r.number k x ≡ at (starts_of c k) c.region
  wants_played =
      let of = subst (λ (l : List ℕ). Contains l k) (sym one_colour) (contains_in (k ∷ []) k (inl refl)) in
      let all : node_wants x k ≡ starts_of c k =
      ap (λ (y : Node). node_wants y k) x_is
      ∙ wants_are_starts (caller_of s c []) (record nothing_kept { starts = starts_of c }) colours text k of in
      λ i. at (all i) ((are_regions s c.region r there).0 i)

  wants_kept : (objects : List Object) (kept : Kept) → Keeps s c objects kept
      → wanted r.number k x ≡ at (kept.starts k) c.region
  wants_kept objects kept keeps = wants_played ∙ ap (λ (n : Counts). at n c.region) (sym (keeps.starts k))

  module _ (h : Hold) (now : IsHold r h) where
    -- IT STANDS

    module _ (st : Stood) (n : HoldAppendsNext r.number g h x k st) (seat : h.seat ≡ g.seat)
        (next : h.next ≡ x.id.count + 1) (floor : ℕ) (raised : floor ≡ max st.key.stamp c.floor) where
      abbrev after : Client
      after = record c { holds = with_item c.holds c.region h; floor = floor; count = c.count + 1 }

      later : IsLater g.seat h.seat
      later = subst (IsLater g.seat) (sym seat) (later_same g.seat)

      ch : ChangesHome s c after r g h
      ch = changed s c r g k colours text x is lt one_colour there hold x_is h st n.one later next now floor raised

      pub next_rests : RestsOn s c after
      next_rests = record {
        client =
            single_client s c r g k colours text x is lt one_colour there hold x_is h st n.one later next now floor raised;
        same = (refl, refl);
        goes = have_gone_on s c after r g h is ch;
        grows = grown_same c after refl;
        finished = finished_stays s c after r g h is ch refl;
      }

      pub next_idle : Helps after → Helps c
      next_idle = helped_at_home s c after r g h is ch
          (idle_on (λ i e. (i ≡ k) × IsSingleOf x.id e) c.number g h ch.on n.alone
          (λ i e made. no_help c.number e (single_no_step x.id e made.1)))

      pub next_point : (id : Id) → IsNextPoint c k (record { id = id; row = None; stood = st })
      next_point id = (
        refl,
        n.one.place,
        n.one.point
            ∙ ap (λ (p : ℕ). record { colour = k; at = Event n.one.place; position = p } ∷ []) (n.there ∙ wants_played),
      )

      -- right before its event
      before : take n.one.place (seen_of after c.region k) ≡ take n.one.place (entries_seen h k)
      before = ap (take n.one.place) (seen_there (holds_of after) c.region h (home_after s c after r g h is ch) k)

      abbrev point : PointPiece
      point = record { colour = k; at = Event n.one.place; position = n.one.position }

      was_next : (objects : List Object) (kept : Kept) → Keeps s c objects kept → (rest : Rest)
          → WasNext (log_seen (seen_of after) rest) (caller_of s c objects) kept point
      was_next objects kept keeps rest = (
        n.one.place,
        refl,
        record {
          unseen =
              let seen = keeps.by.seen_within c.region k in
              let long = seen_long (holds_of c) c.region g at_g k in
              let unseen = n.one.unseen in
              omega (arith, seen, long, unseen);
          there =
              let past = get_within (seen_of after c.region k) n.one.place _
              (entered s c r g k colours text x is lt one_colour there hold x_is h st n.one later next now floor raised) in
              omega (arith, past);
          lined_is = n.there ∙ sym (ap (λ (l : List Entry). length (line l)) before ∙ n.next.1);
          waiting_is = sym (ap (λ (l : List Entry). open_count (entries l)) before ∙ n.next.0);
        },
        n.there ∙ wants_kept objects kept keeps,
      )

      pub next_explained : (id : Id) → id ≡ x.id
          → IsExplained s c after (OnlyAs k text (record { id = id; row = None; stood = st }))
      next_explained id same =
          subst (λ (i : Id). IsExplained s c after (OnlyAs k text (record { id = i; row = None; stood = st }))) (sym same)
          (λ objects kept finished keeps.
          let alone = goes_weaken (λ i e. (i ≡ k) × IsSingleOf x.id e) g h (λ i e. ((i ≡ k) × IsSingleOf x.id e) ⊎ ⊥)
          (λ i e made. inl made) n.alone in
          let e = explained_so s c r g k colours text x is lt one_colour there hold x_is h st n.one later next now floor raised
          (λ e. ⊥) alone (λ finished e none own. none) objects kept finished keeps in (
            e.0,
            e.1,
            λ rest fits.
                let Next = WasNext (log_seen (seen_of after) rest) (caller_of s c objects) kept in (
                  colours,
                  one_colour,
                  e.2 rest fits,
                  subst (λ (l : List Point). All Next (map piece_of l)) (sym n.one.point)
                      (All-cons Next point [] (was_next objects kept keeps rest) (All-nil Next)),
                ),
          ))

    -- IT IS REFUSED

    module _ (but : SameBut k g h) (same : (h.seat ≡ g.seat) × (h.next ≡ g.next)) (sees : SeesMoreIn k g h) where
      abbrev left : Client
      left = record c { holds = with_item c.holds c.region h }

      looked : ChangesHome s c left r g h
      looked = record {
        number = refl;
        region = refl;
        there = there;
        before = at_g;
        changed = refl;
        rests = now;
        on = gone_looked k g h but sees.more same.0;
      }

      pub left_rests : RestsOn s c left
      left_rests = record {
        client = look_client s c r g h k is there hold now but same sees;
        same = (refl, refl);
        goes = look_goes s c r g h k is there hold now but same sees;
        grows = grown_same c left refl;
        finished = look_finished s c r g h k is there hold now but same sees;
      }

      pub left_idle : Helps left → Helps c
      left_idle = look_idle s c r g h k is there hold now but same sees

      seen_now : seen_of left c.region k ≡ entries_seen h k
      seen_now = seen_there (holds_of left) c.region h (home_after s c left r g h is looked) k

      -- something has come between
      moved : (lined waiting count : ℕ) → HasNextCause r.number k (entries_seen h k) x (faults.Moved lined waiting count)
          → IsExplained s c left (FindsMoved k lined waiting count)
      moved lined waiting count why objects kept finished keeps =
          let on = sees_after s c left r g h is looked objects in
          let long : count ≡ length (seen_of left c.region k) = why.2 ∙ sym (ap length seen_now) in
          let all : take count (seen_of left c.region k) ≡ entries_seen h k =
          take_all count (seen_of left c.region k) (omega (arith, long)) ∙ seen_now in (
            kept_after_look kept c.region k count,
            record {
              by = kept_after_looking (caller_of s c objects) (seen_of c) (seen_of left) kept c.region k count on
                  (makes_none s c left r g h is looked (made_looked k g h but sees)) keeps.by (omega (arith, long));
              floor = keeps.floor;
              ids = keeps.ids;
              rows = keeps.rows;
              starts = keeps.starts;
            },
            λ rest fits. (
              record {
                unseen =
                    let seen = keeps.by.seen_within c.region k in
                    let more = prefix_length (seen_of c c.region k) (seen_of left c.region k) (on.more c.region k) in
                    omega (arith, seen, more, long);
                there = omega (arith, long);
                lined_is = why.0 ∙ sym (ap (λ (l : List Entry). length (line l)) all);
                waiting_is = why.1 ∙ sym (ap (λ (l : List Entry). open_count (entries l)) all);
              },
              elim why.3 [
                | inl waits ↦ inl waits
                | inr apart ↦ inr (λ e. apart (e ∙ sym (wants_kept objects kept keeps)))
              ],
              refl,
            ),
          )

      pub refused_so : (fault : OnlyFault)
          → ((fault ≡ faults.NoMemory) × (h ≡ g)) ⊎ HasNextCause r.number k (entries_seen h k) x fault
          → OnlyRefused s c left k text fault
      refused_so (faults.Moved lined waiting count) (inl none) = absurd (let e = none.0 in let f : ⊥ = cc (e) in f)
      refused_so (faults.Moved lined waiting count) (inr why) = moved lined waiting count why
      refused_so (faults.StampEnd own clock) (inl none) = absurd (let e = none.0 in let f : ⊥ = cc (e) in f)
      refused_so (faults.StampEnd own clock) (inr why) = (
        why.1,
        why.2,
        λ objects kept finished keeps.
            let e = ended_so s c r g k colours text x is lt one_colour there hold x_is h now but same sees why.3
            objects kept finished keeps in
            (e.0, e.1, λ rest fits. (colours, one_colour, e.2 rest fits)),
      )
      refused_so faults.NoMemory why = look_nothing s c r g h k is there hold now but same sees
