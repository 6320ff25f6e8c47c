-- A pull as the client's call leaves it.
use Rattle.std.proofs.Common.{Result, Ok, Err, ◌≡◌, ◌⊎◌, inl, ℕ, ◌<◌, List, [], ◌∷◌, ◌++◌, length, Some, ap, subst, ◌∙◌, arith}
use Rattle.std.specs.Prelude.{IfOk, IfErr, slice_get}
use Rattle.col_core.specs.declared.Event.TheVariants as events
use Rattle.log_node.specs.declared.node.Head.{Head}
use Rattle.chain_store.specs.declared.told.Told.{Told}
use Rattle.chain_store.specs.declared.hold.Hold.{Hold}
use Rattle.chain_store.specs.declared.region.Region.{Region}
use Rattle.chain_store.specs.Going.{GoesOnIn}
use Rattle.chain_store.specs.Regions.{tag_at}
use Rattle.chain_store.specs.Holds.{IsHold, SeesMoreIn, seen_in, made_in}
use Rattle.region_pull.specs.declared.pulled.Pulled.{Pulled}
use Rattle.region_pull.specs.declared.pulled.PullFault.{PullFault}
use Rattle.region_pull.specs.declared.pulled.PullFault.TheVariants.{SameRegion, NoMemory}
use Rattle.region_pull.specs.Origins.{AsksForHeld}
use Rattle.region_pull.specs.Pulls.{PullsByHolds, GivesAlone}
use Rattle.region_pull.proofs.CallerLemmas.{looks_carries}
use Rattle.log_client.specs.declared.store.Store.{Store}
use Rattle.log_client.specs.declared.client.Client.{Client}
use Rattle.log_client.specs.Fits.{HaveGoneOn}
use Rattle.log_client.specs.Between.{ChangesTwo, PullsBetween, LeavesBetween}
use Rattle.log_client.specs.Clients.{holds_of, nodes_of_rows, tracks_of, IsClient, Finished, Helps}
use Rattle.log_client.specs.Calls.{IsExplained, PullsAs, PullRefused}
use Rattle.log_client.proofs.Lists.{got}
use Rattle.log_client.proofs.Known.Truly.{WasMade}
use Rattle.log_client.proofs.Pull.TrulyPulled.{gave_made, carried_made, looked_made}
use Rattle.log_client.proofs.Going.AtHome.{are_regions}
use Rattle.log_client.proofs.Pull.PullReplies.{pull_client, pull_goes, pull_finished, pull_idle, pull_explained, gives_explained}

module _ (s : Store) (c d : Client) (is : IsClient s c) (number : d.number ≡ c.number) (region : d.region ≡ c.region)
    (floor : d.floor ≡ c.floor) (count : d.count ≡ c.count) (rows : nodes_of_rows d ≡ nodes_of_rows c)
    (tracks : tracks_of d ≡ tracks_of c) (n k : ℕ) (from to : Region)
    (from_there : slice_get s.regions n ≡ Some from) (to_there : slice_get s.regions c.region ≡ Some to)
    (lt : k < s.size.colours) where
  changes : (g g' h h' : Hold) → ChangesTwo from.number to.number (holds_of c) (holds_of d) g g' h h'
      → ChangesTwo n c.region (holds_of c) (holds_of d) g g' h h'
  changes g g' h h' ch =
      subst (λ z. ChangesTwo z c.region (holds_of c) (holds_of d) g g' h h') (are_regions s n from from_there).0
      (subst (λ z. ChangesTwo from.number z (holds_of c) (holds_of d) g g' h h') (are_regions s c.region to to_there).0 ch)

  module _ (g g' h h' : Hold) (two : ChangesTwo from.number to.number (holds_of c) (holds_of d) g g' h h')
      (a : GoesOnIn from k g g') (b : GoesOnIn to k h h')
      (held : AsksForHeld from to k g h → AsksForHeld from to k g' h') where
    pub record Leaves : Type 0 where
      pub rests : IsClient s d
      pub goes : HaveGoneOn (holds_of c) (holds_of d)
      pub finished : Finished c → Finished d
      pub idle : Helps d → Helps c

    module _ (p : Pulled) (pulls : PullsByHolds from to k g g' h h' p) where
      g_gave : (i : ℕ) (t : Told) → slice_get (made_in g' k) i ≡ Some t
          → WasMade g k t ⊎ ((asked : ℕ) × (t.entry.event ≡ events.Give to.number asked))
      g_gave = gave_made (tag_at from k) (tag_at to k) g g' k (seen_in h k) pulls.looked (pulls.gave ∷ [])
          a.others pulls.asks

      h_carried : (i : ℕ) (t : Told) → slice_get (made_in h' k) i ≡ Some t
          → WasMade h k t ⊎ ((start : ℕ) × (heads : List Head) × (t.entry.event ≡ events.Carry from.number start heads))
      h_carried = carried_made from.number (tag_at to k) h h' k p.nodes p.carry b.others
          (looks_carries from.number (tag_at to k) h.passes.number (seen_in h k) pulls.looked
          (seen_in h' k) p.carry p.nodes pulls.looks pulls.carries)

      pulled_leaves : Leaves
      pulled_leaves = record {
        rests = pull_client s c d is number region floor count rows tracks n k from to g g' h h' from_there to_there
            (changes g g' h h' two) a b lt held g_gave h_carried;
        goes = pull_goes s c d is number region floor count rows tracks n k from to g g' h h' from_there to_there
            (changes g g' h h' two) a b lt held g_gave h_carried;
        finished = pull_finished s c d is number region floor count rows tracks n k from to g g' h h' from_there to_there
            (changes g g' h h' two) a b lt held g_gave h_carried;
        idle = pull_idle s c d is number region floor count rows tracks n k from to g g' h h' from_there to_there
            (changes g g' h h' two) a b lt held g_gave h_carried;
      }

      pulled_explained : IsExplained s c d (PullsAs n k p)
      pulled_explained =
          pull_explained s c d is number region floor count rows tracks n k from to g g' h h' from_there to_there
          (changes g g' h h' two) a b lt held g_gave h_carried p pulls

    module _ (alone : GivesAlone from to k g g' h h') (sees : SeesMoreIn k h h') where
      g_alone : (i : ℕ) (t : Told) → slice_get (made_in g' k) i ≡ Some t
          → WasMade g k t ⊎ ((asked : ℕ) × (t.entry.event ≡ events.Give to.number asked))
      g_alone = gave_made (tag_at from k) (tag_at to k) g g' k (seen_in h k) (seen_in h' k) alone.0 a.others alone.2

      h_looked : (i : ℕ) (t : Told) → slice_get (made_in h' k) i ≡ Some t
          → WasMade h k t ⊎ ((start : ℕ) × (heads : List Head) × (t.entry.event ≡ events.Carry from.number start heads))
      h_looked i t at = inl (looked_made h h' k b.others sees i t at)

      alone_leaves : Leaves
      alone_leaves = record {
        rests = pull_client s c d is number region floor count rows tracks n k from to g g' h h' from_there to_there
            (changes g g' h h' two) a b lt held g_alone h_looked;
        goes = pull_goes s c d is number region floor count rows tracks n k from to g g' h h' from_there to_there
            (changes g g' h h' two) a b lt held g_alone h_looked;
        finished = pull_finished s c d is number region floor count rows tracks n k from to g g' h h' from_there to_there
            (changes g g' h h' two) a b lt held g_alone h_looked;
        idle = pull_idle s c d is number region floor count rows tracks n k from to g g' h h' from_there to_there
            (changes g g' h h' two) a b lt held g_alone h_looked;
      }

      alone_explained : (fault : PullFault) → fault ≡ NoMemory → PullRefused s c d n k fault
      alone_explained SameRegion e = absurd (let f : ⊥ = cc (e) in f)
      alone_explained NoMemory e = (
        (changes g g' h h' two).apart,
        gives_explained s c d is number region floor count rows tracks n k from to g g' h h' from_there to_there
            (changes g g' h h' two) a b lt held g_alone h_looked alone sees,
      )

  -- whatever the answer is
  module _ (r : Result Pulled PullFault) (ok : IfOk r (PullsBetween from to k (holds_of c) (holds_of d)))
      (err : IfErr r (LeavesBetween from to k (holds_of c) (holds_of d))) where
    pub call_client : IsClient s d
    call_client = by_result r ok err where
      by_result : (q : Result Pulled PullFault) → IfOk q (PullsBetween from to k (holds_of c) (holds_of d))
          → IfErr q (LeavesBetween from to k (holds_of c) (holds_of d)) → IsClient s d
      by_result (Ok p) x y = (pulled_leaves x.0 x.1 x.2 x.3 x.4 x.5 x.6 x.8 p x.7).rests
      by_result (Err e) x y = (alone_leaves y.0 y.1 y.2 y.3 y.4 y.5 y.6 y.10 y.8 y.9).rests

    pub call_goes : HaveGoneOn (holds_of c) (holds_of d)
    call_goes = by_result r ok err where
      by_result : (q : Result Pulled PullFault) → IfOk q (PullsBetween from to k (holds_of c) (holds_of d))
          → IfErr q (LeavesBetween from to k (holds_of c) (holds_of d)) → HaveGoneOn (holds_of c) (holds_of d)
      by_result (Ok p) x y = (pulled_leaves x.0 x.1 x.2 x.3 x.4 x.5 x.6 x.8 p x.7).goes
      by_result (Err e) x y = (alone_leaves y.0 y.1 y.2 y.3 y.4 y.5 y.6 y.10 y.8 y.9).goes

    pub call_finished : Finished c → Finished d
    call_finished = by_result r ok err where
      by_result : (q : Result Pulled PullFault) → IfOk q (PullsBetween from to k (holds_of c) (holds_of d))
          → IfErr q (LeavesBetween from to k (holds_of c) (holds_of d)) → Finished c → Finished d
      by_result (Ok p) x y = (pulled_leaves x.0 x.1 x.2 x.3 x.4 x.5 x.6 x.8 p x.7).finished
      by_result (Err e) x y = (alone_leaves y.0 y.1 y.2 y.3 y.4 y.5 y.6 y.10 y.8 y.9).finished

    pub call_idle : Helps d → Helps c
    call_idle = by_result r ok err where
      by_result : (q : Result Pulled PullFault) → IfOk q (PullsBetween from to k (holds_of c) (holds_of d))
          → IfErr q (LeavesBetween from to k (holds_of c) (holds_of d)) → Helps d → Helps c
      by_result (Ok p) x y = (pulled_leaves x.0 x.1 x.2 x.3 x.4 x.5 x.6 x.8 p x.7).idle
      by_result (Err e) x y = (alone_leaves y.0 y.1 y.2 y.3 y.4 y.5 y.6 y.10 y.8 y.9).idle

    pub call_ok : IfOk r (λ p. IsExplained s c d (PullsAs n k p))
    call_ok = by_result r ok where
      by_result : (q : Result Pulled PullFault) → IfOk q (PullsBetween from to k (holds_of c) (holds_of d))
          → IfOk q (λ p. IsExplained s c d (PullsAs n k p))
      by_result (Ok p) x = pulled_explained x.0 x.1 x.2 x.3 x.4 x.5 x.6 x.8 p x.7
      by_result (Err e) x = tt

    pub call_err : IfErr r (PullRefused s c d n k)
    call_err = by_result r err where
      by_result : (q : Result Pulled PullFault) → IfErr q (LeavesBetween from to k (holds_of c) (holds_of d))
          → IfErr q (PullRefused s c d n k)
      by_result (Ok p) y = tt
      by_result (Err e) y = alone_explained y.0 y.1 y.2 y.3 y.4 y.5 y.6 y.10 y.8 y.9 e y.7

-- the client's hold of a region
pub hold_there : (s : Store) (c : Client) (is : IsClient s c) (n : ℕ) (r : Region) → slice_get s.regions n ≡ Some r
    → n < length s.regions → (x : Hold) × (slice_get (holds_of c) r.number ≡ Some x) × IsHold r x
hold_there s c is n r there lt =
    let many = is.holds.0 in
    let x = got (holds_of c) n (omega (arith, lt, many)) in
    (x.0, ap (slice_get (holds_of c)) (are_regions s n r there).0 ∙ x.1, is.holds.1 n r x.0 there x.1)
