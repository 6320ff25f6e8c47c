-- How the clients of a new store get their holds.
use Rattle.std.proofs.Common.{◌≡◌, ◌≢◌, ◌⊎◌, inl, inr, ℕ, zero, suc, ◌+◌, ◌<◌, List, [], ◌∷◌, ◌++◌, length, map, Option, Some, None, refl, ap, sym, subst, ◌∙◌, arith, length-append}
use Rattle.std.specs.Prelude.{slice_get, slice_set}
use Rattle.std.proofs.lemmas.Option.{same_Some, slice_get_within}
use Rattle.log_node.specs.declared.node.Shape.{Shape}
use Rattle.log_node.specs.Reach.{nothing}
use Rattle.col_core.specs.declared.Entry.{Entry}
use Rattle.log_node.specs.Vectors.{at, zeros}
use Rattle.col_core.specs.Keeping.{nothing_kept}
use Rattle.col_core.specs.Log.{places_of}
use Rattle.script_text.specs.declared.script.Object.{Object}
use Rattle.turn_cell.specs.Histories.{made_by}
use Rattle.chain_store.specs.declared.hold.Hold.{Hold}
use Rattle.chain_store.specs.declared.region.Region.{Region}
use Rattle.chain_store.specs.Histories.{entries_in, maker}
use Rattle.chain_store.specs.Holds.{IsHold, seen_in, made_in}
use Rattle.chain_store.specs.Opening.{IsNewHold, AreNewHolds}
use Rattle.client_law.specs.Kept.{AreUnder}
use Rattle.client_law.proofs.CallerLemmas.{nothing_is_kept}
use Rattle.log_client.specs.declared.store.Store.{Store}
use Rattle.log_client.specs.declared.client.Client.{Client}
use Rattle.log_client.specs.declared.track.Track.{Track}
use Rattle.log_client.specs.Fits.{entries_by}
use Rattle.log_client.specs.Clients.{holds_of, seen_of, nodes_of_rows, tracks_of, counts_in, caller_of, IsTrack, IsClient, Keeps, Finished}
use Rattle.log_client.specs.Opening.{AreFreshTracks, IsFresh, AreClientsOfHomes, HaveNoHolds, GotHold, DealtHolds, HasNewHolds, HaveNewHolds, IsNewClient}
use Rattle.log_client.proofs.Lists.{got, got_end}
use Rattle.log_client.proofs.Going.AtHome.{set_elsewhere, set_long}
use Rattle.log_client.proofs.Going.Forgetting.{fresh_is_track}

-- ONE CLIENT MORE GOT ITS HOLD

set_here : {A : Type 0} (xs : List A) (m : ℕ) (n : ℕ) (d b : A) → slice_get (slice_set xs m d) n ≡ Some b
    → ((n ≡ m) × (d ≡ b)) ⊎ ((n ≢ m) × (slice_get xs n ≡ Some b))
set_here [] m n d b e = absurd (let f : ⊥ = cc (e) in f)
set_here (x ∷ xs) zero zero d b e = inl (refl, same_Some d b e)
set_here (x ∷ xs) zero (suc n) d b e = inr ((λ z. let f : ⊥ = omega (arith, z) in f), e)
set_here (x ∷ xs) (suc m) zero d b e = inr ((λ z. let f : ⊥ = omega (arith, z) in f), e)
set_here (x ∷ xs) (suc m) (suc n) d b e = elim (set_here xs m n d b e) [
  | inl here ↦ inl (ap suc here.0, here.1)
  | inr there ↦ inr ((λ z. there.0 (let f : n ≡ m = omega (arith, z) in f)), there.1)
]

pub dealt_one : (old now : List Client) (hs : List Hold) (i z m : ℕ) → z ≡ m → (c d : Client) (h : Hold)
    → DealtHolds old now hs i → i ≡ m + 1 → slice_get hs m ≡ Some h → slice_get now z ≡ Some c → GotHold c d h
    → DealtHolds old (slice_set now z d) hs m
dealt_one old now hs i z m is c d h dealt e here at got =
    subst (λ (t : ℕ). DealtHolds old (slice_set now t d) hs m) (sym is) (record {
      same = set_long now m d ∙ dealt.same;
      got = λ n b l there. elim (set_here now m n d b there) [
        | inl t ↦ (
          c,
          h,
          ap (slice_get old) t.0 ∙ (sym (dealt.early m (omega (arith, e))) ∙ (ap (slice_get now) (sym is) ∙ at)),
          ap (slice_get hs) t.0 ∙ here,
          subst (λ (x : Client). GotHold c x h) t.1 got,
        )
        | inr t ↦ (let far : n ≢ m = t.0 in dealt.got n b (omega (arith, far, l, e)) t.1)
      ];
      early = λ n l. set_elsewhere now m d n (λ q. omega (arith, q, l)) ∙ dealt.early n (omega (arith, l, e));
    })

-- ONE CLIENT MORE

pub fresh_more : (shape : Shape) (clients : List Client) (number : ℕ) (c : Client) → length clients ≡ number
    → IsFresh shape number c → ((n : ℕ) (d : Client) → slice_get clients n ≡ Some d → IsFresh shape n d)
    → (n : ℕ) (d : Client) → slice_get (clients ++ c ∷ []) n ≡ Some d → IsFresh shape n d
fresh_more shape clients number c count now before n d at = elim (got_end clients c n d at) [
  | inl old ↦ before n d old
  | inr last ↦ subst (λ (m : ℕ). IsFresh shape m d) (sym (last.0 ∙ count)) (subst (IsFresh shape number) last.1 now)
]

pub none_more : (clients : List Client) (c : Client) → holds_of c ≡ [] → HaveNoHolds clients
    → HaveNoHolds (clients ++ c ∷ [])
none_more clients c now before n d at = elim (got_end clients c n d at) [
  | inl old ↦ before n d old
  | inr last ↦ subst (λ (x : Client). holds_of x ≡ []) last.1 now
]

-- ONE REGION MORE

pub fresh_dealt : (shape : Shape) (old new : List Client) (hs : List Hold) → DealtHolds old new hs 0
    → AreClientsOfHomes shape old → AreClientsOfHomes shape new
fresh_dealt shape old new hs dealt fresh = (
  dealt.same ∙ fresh.0,
  λ n d at.
      let g = dealt.got n d (omega arith) at in
      let f = fresh.1 n g.0 g.2 in
      record {
        number = g.4.number ∙ f.number;
        home = f.home ∙ ap (λ (r : ℕ). Some r) (sym g.4.region);
        floor = g.4.floor ∙ f.floor;
        count = g.4.count ∙ f.count;
        rows = ap (λ v. v.items) g.4.rows ∙ f.rows;
        tracks = subst (λ (r : ℕ). AreFreshTracks r shape.colours d.tracks.items) (sym g.4.region)
            (subst (λ v. AreFreshTracks g.0.region shape.colours v.items) (sym g.4.tracks) f.tracks);
      },
)

pub holds_dealt : (rs : List Region) (r : Region) (old new : List Client) (hs : List Hold) → DealtHolds old new hs 0
    → AreNewHolds r hs → HaveNewHolds rs old → HaveNewHolds (rs ++ r ∷ []) new
holds_dealt rs r old new hs dealt fresh before n d at =
    let g = dealt.got n d (omega arith) at in
    let had = before n g.0 g.2 in
    let here = fresh.0.1 n g.1 g.3 in
    let many = had.count in
    record {
      count = ap length g.4.holds ∙ (length-append (holds_of g.0) (g.1 ∷ [])
          ∙ (ap (λ (k : ℕ). k + 1) many ∙ sym (length-append rs (r ∷ []))));
      each = λ k q h at_q at_h. elim (got_end rs r k q at_q) [
        | inl early ↦ elim (got_end (holds_of g.0) g.1 k h (ap (λ (l : List Hold). slice_get l k) (sym g.4.holds) ∙ at_h)) [
          | inl was ↦ had.each k q h early was
          | inr last ↦ absurd (let lt = slice_get_within rs k q early in let e = last.0 in let f : ⊥ = omega (arith, lt, e, many) in f)
        ]
        | inr late ↦ elim (got_end (holds_of g.0) g.1 k h (ap (λ (l : List Hold). slice_get l k) (sym g.4.holds) ∙ at_h)) [
          | inl was ↦ absurd (let lt = slice_get_within (holds_of g.0) k h was in let e = late.0 in let f : ⊥ = omega (arith, lt, e, many) in f)
          | inr last ↦
              subst (λ (x : Hold). IsHold q x × IsNewHold x × (x.passes.number ≡ n)) last.1
              (subst (λ (x : Region). IsHold x g.1 × IsNewHold g.1 × (g.1.passes.number ≡ n)) late.1
              (here.0, fresh.1 n g.1 g.3, here.1))
        ]
      ];
    }

pub none_yet : (clients : List Client) → HaveNoHolds clients → HaveNewHolds [] clients
none_yet clients none n c at = record {
  count = ap length (none n c at);
  each = λ k r h e at_h. absurd (let f : ⊥ = cc (e) in f);
}

-- A NEW CLIENT

module _ (shape : Shape) (s : Store) (n : ℕ) (c : Client) (fresh : IsFresh shape n c)
    (new : HasNewHolds s.regions n (holds_of c)) (home : c.region < length s.regions)
    (colours : s.size.colours ≡ shape.colours) where
  region_of : (k : ℕ) (h : Hold) → slice_get (holds_of c) k ≡ Some h
      → IsNewHold h × (h.passes.number ≡ n)
  region_of k h at =
      let lt = slice_get_within (holds_of c) k h at in
      let many = new.count in
      let r = got s.regions k (omega (arith, lt, many)) in
      let e = new.each k r.0 h r.1 at in (e.1, e.2)

  nothing_made : (k : ℕ) (h : Hold) → slice_get (holds_of c) k ≡ Some h → (m : ℕ) → made_in h m ≡ []
  nothing_made k h at m = ap (made_by maker h.passes.number) ((region_of k h at).0.seen m)

  none_at : {A : Type 0} (l : List A) (k : ℕ) (x : A) → l ≡ [] → slice_get l k ≡ Some x → ⊥
  none_at l k x e at = absurd (let f : ⊥ = cc (e, at) in f)

  nothing_seen : (region k : ℕ) → seen_of c region k ≡ []
  nothing_seen region k = by_hold (slice_get (holds_of c) region) refl where
    by_hold : (o : Option Hold) → slice_get (holds_of c) region ≡ o → entries_by o k ≡ []
    by_hold None e = refl
    by_hold (Some h) e = ap entries_in ((region_of region h e).0.seen k)

  no_rows : nodes_of_rows c ≡ []
  no_rows = ap (λ l. map (λ z. z.value) l) fresh.rows

  pub new_client : IsClient s c
  new_client = record {
    holds = (new.count, λ k r h a b. (new.each k r h a b).0);
    numbers = λ k h at. (region_of k h at).1 ∙ sym fresh.number;
    away = λ k h at ne. (region_of k h at).0.used;
    region = home;
    home = λ h at.
        let e = (region_of c.region h at).0 in
        let next = e.next in
        let count = fresh.count in
        record {
          next = omega (arith, next);
          counted = omega (arith, count);
          rows = record {
            many = ap length no_rows ∙ sym e.used;
            begun = λ j x there. absurd (none_at (nodes_of_rows c) j x no_rows there);
          };
          tracks = λ k track there.
              subst (IsTrack c.region k (seen_in h k)) (sym (fresh.tracks.1 k track there)) (fresh_is_track s c h k home);
        };
    floored = let e = fresh.floor in omega (arith, e);
    colours = fresh.tracks.0 ∙ sym colours;
    nodes = [];
    nodes_count = sym fresh.count;
    own_nodes = record {
      ids = λ k x at. absurd (let f : ⊥ = cc (at) in f);
      singles = λ k m i h t x at made nodes single. absurd (none_at (made_in h m) i t (nothing_made k h at m) made);
      rows = λ k j h at lt. absurd (let e = (region_of k h at).0.used in let f : ⊥ = omega (arith, e, lt) in f);
    };
    pulls = record {
      gives = λ from to g h k p lt i t made. absurd (none_at (made_in g k) i t (nothing_made p.n g p.from_hold k) made);
    };
    helps = λ k h t by. absurd (none_at (made_in h by.colour) by.n t (nothing_made k h by.there by.colour) by.made);
  }

  pub new_keeps : (objects : List Object) → Keeps s c objects nothing_kept
  new_keeps objects =
      let none = nothing_is_kept (caller_of s c objects) in
      record {
        by = record {
          seen_within = λ region k. omega arith;
          known_within = λ k. omega arith;
          known_under = λ k i key lt at. absurd (let f : ⊥ = omega (arith, lt) in f);
          starts_under = λ k. subst (λ (l : List Entry). AreUnder l (at zeros c.region) 0) (sym (nothing_seen c.region k))
              (none.starts_under k);
          starts_reached = λ k. nothing;
          steps_made = λ region k. ap (places_of c.number) (nothing_seen region k);
        };
        floor = sym fresh.floor;
        ids = sym fresh.count;
        rows = ap length (sym no_rows);
        starts = λ k. by_track k (slice_get (tracks_of c) k) refl;
      } where
        by_track : (k : ℕ) (o : Option Track) → slice_get (tracks_of c) k ≡ o → zeros ≡ counts_in (slice_get (tracks_of c) k)
        by_track k None e = ap counts_in (sym e)
        by_track k (Some track) e =
            ap (λ (t : Track). t.snapshot.counts) (sym (fresh.tracks.1 k track e)) ∙ ap counts_in (sym e)

  pub new_finished : Finished c
  new_finished h at j x there = absurd (none_at (nodes_of_rows c) j x no_rows there)

  pub is_new_client : IsNewClient shape s n c
  is_new_client = record {
    number = fresh.number;
    home = fresh.home;
    rests = new_client;
    keeps = new_keeps;
    finished = new_finished;
    idle = λ helps.
        let by = helps.3 in
        none_at (made_in helps.1 by.colour) by.n helps.2 (nothing_made helps.0 helps.1 by.there by.colour) by.made;
  }
