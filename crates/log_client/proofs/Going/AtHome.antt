-- What a call leaves that changes the hold of the client's region alone.
use Rattle.std.proofs.Common.{◌≡◌, ◌≢◌, inl, inr, ℕ, zero, suc, ◌≤◌, List, [], ◌∷◌, ◌++◌, length, Some, refl, ap, sym, subst, ◌∙◌, arith, append-nil}
use Rattle.std.specs.Prelude.{slice_get, slice_set}
use Rattle.std.proofs.lemmas.Bool.{cases_eq}
use Rattle.std.proofs.lemmas.Option.{same_Some}
use mathlib.Core.List.{IsPrefix}
use Rattle.log_node.specs.declared.limits.TheConstants.{MAX_STAMP}
use Rattle.log_node.specs.declared.node.Node.{Node}
use Rattle.script_text.specs.declared.script.Object.{Object}
use Rattle.stamp_board.specs.declared.seats.Seat.{Seat}
use Rattle.stamp_board.specs.Seats.{seen as seat_seen}
use Rattle.stamp_board.specs.Views.{Learns}
use Rattle.chain_store.specs.declared.hold.Hold.{Hold}
use Rattle.chain_store.specs.declared.region.Region.{Region}
use Rattle.chain_store.specs.Holds.{IsHold, SameBut, seen_in, view_of}
use Rattle.client_law.specs.Knowing.{SeesOn}
use Rattle.log_client.specs.declared.store.Store.{Store}
use Rattle.log_client.specs.declared.client.Client.{Client}
use Rattle.log_client.specs.Fits.{HasGoneOn, HaveGoneOn}
use Rattle.log_client.specs.Ending.{AreRegions, AreHoldsIn, HasOwnNodes, HelpsWhole, PullsTruly}
use Rattle.log_client.specs.Clients.{holds_of, seen_of, tracks_of, caller_of, IsClient, IsHome}
use Rattle.log_client.proofs.Known.Seeing.{sees_on}
use Rattle.log_client.proofs.Known.OwnNodes.{Brings, own_nodes_on}

-- LISTS WITH ONE ITEM CHANGED

module _ {A : Type 0} where
  pub set_there : (xs : List A) (n : ℕ) (x y : A) → slice_get xs n ≡ Some y → slice_get (slice_set xs n x) n ≡ Some x
  set_there [] n x y e = absurd (let f : ⊥ = cc (e) in f)
  set_there (z ∷ zs) zero x y e = refl
  set_there (z ∷ zs) (suc n) x y e = set_there zs n x y e

  pub set_elsewhere : (xs : List A) (n : ℕ) (x : A) (m : ℕ) → m ≢ n → slice_get (slice_set xs n x) m ≡ slice_get xs m
  set_elsewhere [] n x m ne = refl
  set_elsewhere (z ∷ zs) zero x zero ne = absurd (ne refl)
  set_elsewhere (z ∷ zs) zero x (suc m) ne = refl
  set_elsewhere (z ∷ zs) (suc n) x zero ne = refl
  set_elsewhere (z ∷ zs) (suc n) x (suc m) ne = set_elsewhere zs n x m (λ e. ne (ap suc e))

  pub set_long : (xs : List A) (n : ℕ) (x : A) → length (slice_set xs n x) ≡ length xs
  set_long [] n x = refl
  set_long (z ∷ zs) zero x = refl
  set_long (z ∷ zs) (suc n) x = ap suc (set_long zs n x)

-- HOLDS THAT GO ON

pub gone_same : (g : Hold) → HasGoneOn g g
gone_same g = record {
  number = refl;
  more = λ c. ([], append-nil (seen_in g c));
  size = refl;
  learns = record { known = λ i n h. h; begun = λ r x h. h };
}

pub gone_looked : (k : ℕ) (g h : Hold) → SameBut k g h → IsPrefix (seen_in g k) (seen_in h k) → h.seat ≡ g.seat
    → HasGoneOn g h
gone_looked k g h but more seat = record {
  number = but.number;
  more = λ c. elim (cases_eq c k) [
    | inl is ↦ subst (λ (d : ℕ). IsPrefix (seen_in g d) (seen_in h d)) (sym is) more
    | inr ne ↦ ([], append-nil (seen_in g c) ∙ sym (but.others c ne))
  ];
  size = ap (λ (s : Seat). (seat_seen s).size) seat;
  learns = subst (λ (s : Seat). Learns (view_of g) (seat_seen s)) (sym seat)
      (record { known = λ i n h. h; begun = λ r x h. h });
}

-- CALLS AT HOME

-- The client is the same one but for its hold of its region, which has gone on, and what it keeps beside.
pub record ChangesHome (s : Store) (c d : Client) (r : Region) (g h : Hold) : Type 0 where
  pub number : d.number ≡ c.number
  pub region : d.region ≡ c.region
  pub there : slice_get s.regions c.region ≡ Some r
  pub before : slice_get (holds_of c) c.region ≡ Some g
  pub changed : holds_of d ≡ slice_set (holds_of c) c.region h
  pub rests : IsHold r h
  pub on : HasGoneOn g h

-- the regions of a store are by number
pub are_regions : (s : Store) → AreRegions (length s.regions) s.regions
are_regions s n r at = let e = s.fit.each n r at in (e.number, e.regions)

module _ (s : Store) (c d : Client) (r : Region) (g h : Hold) (is : IsClient s c) (ch : ChangesHome s c d r g h) where
  -- the home hold, and the others
  pub home_after : slice_get (holds_of d) c.region ≡ Some h
  home_after = ap (λ (l : List Hold). slice_get l c.region) ch.changed ∙ set_there (holds_of c) c.region h g ch.before

  pub others_after : (n : ℕ) → n ≢ c.region → slice_get (holds_of d) n ≡ slice_get (holds_of c) n
  others_after n ne = ap (λ (l : List Hold). slice_get l n) ch.changed ∙ set_elsewhere (holds_of c) c.region h n ne

  pub as_many : length (holds_of d) ≡ length (holds_of c)
  as_many = ap length ch.changed ∙ set_long (holds_of c) c.region h

  -- of each hold: it is the home one, or as before
  pub by_hold : (P : ℕ → Hold → Hold → Type 0) → P c.region g h → ((n : ℕ) (k : Hold) → n ≢ c.region → P n k k)
      → (n : ℕ) (k l : Hold) → slice_get (holds_of c) n ≡ Some k → slice_get (holds_of d) n ≡ Some l → P n k l
  by_hold P home away n k l at_k at_l = elim (cases_eq n c.region) [
    | inl same ↦
        (let is_g : g ≡ k = same_Some g k (sym ch.before ∙ (ap (slice_get (holds_of c)) (sym same) ∙ at_k)) in
        let is_h : h ≡ l = same_Some h l (sym home_after ∙ (ap (slice_get (holds_of d)) (sym same) ∙ at_l)) in
        subst (λ (m : ℕ). P m k l) (sym same)
        (subst (λ (z : Hold). P c.region z l) is_g (subst (λ (z : Hold). P c.region g z) is_h home)))
    | inr ne ↦
        (let is_k : k ≡ l = same_Some k l (sym at_k ∙ (sym (others_after n ne) ∙ at_l)) in
        subst (λ (z : Hold). P n k z) is_k (away n k ne))
  ]

  pub have_gone_on : HaveGoneOn (holds_of c) (holds_of d)
  have_gone_on = (as_many, λ n k l. by_hold (λ m x y. HasGoneOn x y) ch.on (λ m x ne. gone_same x) n k l)

  pub holds_after : AreHoldsIn s.regions (holds_of d)
  holds_after = (
    as_many ∙ is.holds.0,
    λ n q l at_q at_l. elim (cases_eq n c.region) [
      | inl same ↦
          (let is_h : h ≡ l = same_Some h l (sym home_after ∙ (ap (slice_get (holds_of d)) (sym same) ∙ at_l)) in
          let is_r : r ≡ q = same_Some r q (sym ch.there ∙ (ap (slice_get s.regions) (sym same) ∙ at_q)) in
          subst (IsHold q) is_h (subst (λ (z : Region). IsHold z h) is_r ch.rests))
      | inr ne ↦ is.holds.1 n q l at_q (sym (others_after n ne) ∙ at_l)
    ],
  )

  pub sees_after : (objects : List Object) → SeesOn (caller_of s d objects) (seen_of c) (seen_of d)
  sees_after objects =
      let few = s.fit.few in
      let lt = is.region in
      let same = ch.region in
      sees_on (caller_of s d objects) s.regions (holds_of c) (holds_of d) (omega (arith, few, lt, same)) (are_regions s)
      holds_after have_gone_on

  -- the client at rest
  pub client_after : IsHome d h → d.floor ≤ MAX_STAMP → length (tracks_of d) ≡ s.size.colours
      → (nodes : List Node) → length nodes ≡ d.count → HasOwnNodes d.number (holds_of d) nodes
      → PullsTruly s.regions (holds_of d) → HelpsWhole d.number d.region (holds_of d) → IsClient s d
  client_after home floored colours nodes count own pulls helps = record {
    holds = holds_after;
    numbers = λ n l at. elim (cases_eq n c.region) [
      | inl same ↦
          (let is_h : h ≡ l = same_Some h l (sym home_after ∙ (ap (slice_get (holds_of d)) (sym same) ∙ at)) in
          subst (λ (z : Hold). z.passes.number ≡ d.number) is_h
          (ch.on.number ∙ (is.numbers c.region g ch.before ∙ sym ch.number)))
      | inr ne ↦ is.numbers n l (sym (others_after n ne) ∙ at) ∙ sym ch.number
    ];
    away = λ n l at ne. is.away n l (sym (others_after n (λ e. ne (e ∙ sym ch.region))) ∙ at) (λ e. ne (e ∙ sym ch.region));
    region = let lt = is.region in let same = ch.region in omega (arith, lt, same);
    home = λ l at. subst (λ (z : Hold). IsHome d z)
        (same_Some h l (sym home_after ∙ (ap (slice_get (holds_of d)) (sym ch.region) ∙ at))) home;
    floored = floored;
    colours = colours;
    nodes = nodes;
    nodes_count = count;
    own_nodes = own;
    pulls = pulls;
    helps = helps;
  }

  -- the nodes that it appended, where it brought these
  pub own_after : (more : List Node)
      → ((n : ℕ) (x : Node) → slice_get (is.nodes ++ more) n ≡ Some x → x.id ≡ record { client = c.number; count = n })
      → Brings c.number (is.nodes ++ more) g h → HasOwnNodes d.number (holds_of d) (is.nodes ++ more)
  own_after more ids brings =
      subst (λ (n : ℕ). HasOwnNodes n (holds_of d) (is.nodes ++ more)) (sym ch.number)
      (own_nodes_on c.number (holds_of c) (holds_of d) is.nodes more is.own_nodes ids
      (λ n l at. elim (cases_eq n c.region) [
        | inl same ↦
            (let is_h : h ≡ l = same_Some h l (sym home_after ∙ (ap (slice_get (holds_of d)) (sym same) ∙ at)) in
            (g, ap (slice_get (holds_of c)) same ∙ ch.before, subst (Brings c.number (is.nodes ++ more) g) is_h brings))
        | inr ne ↦ (
          l,
          sym (others_after n ne) ∙ at,
          record {
            on = gone_same l;
            singles = λ k m t x made nodes single. inl (m, made);
            rows = λ j lt. inl lt;
          },
        )
      ]))
