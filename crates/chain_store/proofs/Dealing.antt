-- How clients get what they have of the columns, and what a new region's holds are.
use Rattle.std.proofs.Common.{◌≡◌, ◌≢◌, inl, inr, ℕ, zero, suc, ◌+◌, List, [], ◌∷◌, ◌++◌, length, set, Option, Some, None, slice_get, refl, ap, sym, subst, ◌∙◌, arith, length-append, length-set}
use Rattle.log_node.specs.declared.node.Node.{Node}
use Rattle.ring_ends.specs.declared.rings.Rings.{Rings}
use Rattle.ring_ends.specs.Rings.{names_of}
use Rattle.stamp_board.specs.declared.board.Board.{Board}
use Rattle.stamp_board.specs.declared.seats.Seat.{Seat}
use Rattle.stamp_board.specs.Seats.{AreFreshClients}
use Rattle.turn_cell.specs.Cells.{seen, AreNewPasses, IsNewPass}
use Rattle.turn_cell.specs.Histories.{made_by}
use Rattle.chain_store.specs.declared.told.Told.{Told}
use Rattle.chain_store.specs.declared.region.Region.{Region}
use Rattle.chain_store.specs.declared.hold.Hold.{Hold}
use Rattle.chain_store.specs.declared.opening.Client.{Client}
use Rattle.chain_store.specs.declared.read_view.desk.Share.{Share}
use Rattle.chain_store.specs.declared.read_view.desk.Desk.{Desk}
use Rattle.chain_store.specs.Histories.{maker}
use Rattle.chain_store.specs.Passes.{ColumnCell, ColumnPass, IsCellOf, IsHolder, tag_in}
use Rattle.chain_store.specs.Desks.{AreSharesOf, HasDesks, IsDesk, IsShareOf, column_copied}
use Rattle.chain_store.specs.Ends.{AreNewHolders}
use Rattle.chain_store.specs.Holds.{HasPasses, IsHold, history_seen, turned_in}
use Rattle.chain_store.specs.Openings.{AllGotNew, CopiesPass, Dealt, Got, HasNew, HaveAll, Zipped, client_of}
use Rattle.chain_store.specs.Opening.{IsNewHold, AreNewHolds}
use Rattle.chain_store.proofs.Holding.{got_set, set_other}
use Rattle.chain_store.proofs.Entering.{get_last, get_old}

-- one client more got its passes
pub dealt_one : (old now : List Client) (ps : List ColumnPass) (qs : List CopiesPass) (i z m : ℕ) → z ≡ m
    → (c d : Client) (p : ColumnPass) (q : CopiesPass)
    → Dealt old now ps qs i → i ≡ m + 1 → slice_get ps m ≡ Some p → slice_get qs m ≡ Some q → slice_get now z ≡ Some c
    → Got c d p q → Dealt old (set now z d) ps qs m
dealt_one old now ps qs i z m is c d p q dealt e here too at got =
    subst (λ (t : ℕ). Dealt old (set now t d) ps qs m) (sym is) (record {
      same = length-set now m d ∙ dealt.same;
      got = λ n b l there. elim (got_set now m n d b there) [
        | inl t ↦ (
          c,
          p,
          q,
          ap (slice_get old) t.0 ∙ sym (dealt.early m (omega (arith, e))) ∙ ap (slice_get now) (sym is) ∙ at,
          ap (slice_get ps) t.0 ∙ here,
          ap (slice_get qs) t.0 ∙ too,
          subst (λ (x : Client). Got c x p q) t.1 got,
        )
        | inr t ↦ let far : n ≢ m = t.0 in dealt.got n b (omega (arith, far, l, e)) t.1
      ];
      early = λ n l. set_other now m n d (λ z. omega (arith, z, l)) ∙ dealt.early n (omega (arith, l, e));
    })

-- the last pass is set apart
pub one_apart : (cell : ColumnCell) (n : ℕ) (all rest : List ColumnPass) (p : ColumnPass)
    → AreNewHolders cell (n + 1) all → all ≡ rest ++ p ∷ [] → AreNewHolders cell n rest × IsHolder cell n p
one_apart cell n all rest p new is =
    let whole : length rest + 1 ≡ n + 1 = sym (length-append rest (p ∷ [])) ∙ ap length (sym is) ∙ new.0 in
    let long : length rest ≡ n = omega (arith, whole) in (
      (long, λ k q at. new.1 k q (ap (λ l. slice_get l k) is ∙ get_old rest (p ∷ []) k q at)),
      (new.1 n p (ap (λ l. slice_get l n) is ∙ ap (slice_get (rest ++ p ∷ [])) (sym long) ∙ get_last rest p)).0,
    )

-- a desk with no reader yet, whose pass is one of the copies' turns
new_desk : (s : Share) (n : ℕ) (q : CopiesPass) → IsNewPass column_copied s.copies n q
    → IsDesk s (record { pass = q; reader = None })
new_desk s n q new = record { ready = new.0; knows = tt }

-- new passes of a column and of its copies were dealt
pub all_got_new : (cell : ColumnCell) (s : Share) (n : ℕ) (old new : List Client) (ps : List ColumnPass) (qs : List CopiesPass)
    → Dealt old new ps qs 0 → AreNewHolders cell n ps → AreNewPasses column_copied s.copies n qs → AllGotNew cell s old new
all_got_new cell s n old new ps qs dealt holders copies = record {
  same = dealt.same;
  each = λ k d at.
      let t = dealt.got k d (omega arith) at in
      let h = holders.1 k t.1 t.4 in (
        t.0,
        t.3,
        record {
          pass = t.1;
          copies = t.2;
          got = t.6;
          holder = h.0;
          none = h.1;
          desk = new_desk s k t.2 (copies.1 k t.2 t.5);
        },
      );
}

-- the copies of one cell more
pub shares_more : (cells more : List ColumnCell) (c : ColumnCell) (shares all : List Share) (s : Share) → AreSharesOf cells shares
    → IsShareOf c s → more ≡ c ∷ cells → all ≡ s ∷ shares → AreSharesOf more all
shares_more cells more c shares all s given good is are =
    subst (λ (l : List ColumnCell). AreSharesOf l all) (sym is) (subst (AreSharesOf (c ∷ cells)) (sym are) (record {
      count = ap suc given.count;
      each = each;
    })) where
      each : (k : ℕ) (d : ColumnCell) (t : Share) → slice_get (c ∷ cells) k ≡ Some d → slice_get (s ∷ shares) k ≡ Some t
          → IsShareOf d t
      each zero d t at tat =
          let a : c ≡ d = cc (at) in
          let b : s ≡ t = cc (tat) in
          subst (λ (z : ColumnCell). IsShareOf z t) a (subst (IsShareOf c) b good)
      each (suc k) d t at tat = given.each k d t at tat

-- a desk at the copies of one more
pub desks_more : (shares : List Share) (s : Share) (ds : List Desk) (d : Desk) → HasDesks shares ds → IsDesk s d
    → HasDesks (s ∷ shares) (d ∷ ds)
desks_more shares s ds d given good = record { count = ap suc given.count; each = each } where
  each : (k : ℕ) (t : Share) (e : Desk) → slice_get (s ∷ shares) k ≡ Some t → slice_get (d ∷ ds) k ≡ Some e → IsDesk t e
  each zero t e at eat =
      let a : s ≡ t = cc (at) in
      let b : d ≡ e = cc (eat) in
      subst (λ (z : Share). IsDesk z e) a (subst (IsDesk s) b good)
  each (suc k) t e at eat = given.each k t e at eat

-- passes of one cell more

has_at : (cells : List ColumnCell) (c : ColumnCell) (ps : List ColumnPass) (p : ColumnPass) (n : ℕ)
    → HasPasses cells n ps → IsHolder c n p → (k : ℕ) (d : ColumnCell) (q : ColumnPass)
    → slice_get (c ∷ cells) k ≡ Some d → slice_get (p ∷ ps) k ≡ Some q → IsHolder d n q
has_at cells c ps p n all good zero d q at qat =
    let a : c ≡ d = cc (at) in
    let b : p ≡ q = cc (qat) in
    subst (λ (z : ColumnCell). IsHolder z n q) a (subst (λ (z : ColumnPass). IsHolder c n z) b good)
has_at cells c ps p n all good (suc k) d q at qat = all.1 k d q at qat

new_at : (ps : List ColumnPass) (p : ColumnPass) → ((k : ℕ) (q : ColumnPass) → slice_get ps k ≡ Some q → seen q ≡ [])
    → seen p ≡ [] → (k : ℕ) (q : ColumnPass) → slice_get (p ∷ ps) k ≡ Some q → seen q ≡ []
new_at ps p all none zero q at = let same : p ≡ q = cc (at) in subst (λ (z : ColumnPass). seen z ≡ []) same none
new_at ps p all none (suc k) q at = all k q at

has_more : (cells : List ColumnCell) (c : ColumnCell) (ps : List ColumnPass) (p : ColumnPass) (n : ℕ)
    → HasNew cells n ps → IsHolder c n p × (seen p ≡ []) → HasNew (c ∷ cells) n (p ∷ ps)
has_more cells c ps p n all good = (
  (ap suc all.0.0, λ k d q at qat. has_at cells c ps p n all.0 good.0 k d q at qat),
  λ k q at. new_at ps p all.1 good.1 k q at,
)

pub have_more : (cells more : List ColumnCell) (c : ColumnCell) (shares all : List Share) (s : Share) (old new : List Client)
    → HaveAll cells shares old → AllGotNew c s old new → more ≡ c ∷ cells → all ≡ s ∷ shares → HaveAll more all new
have_more cells more c shares all s old new have got is are n d at =
    let t = got.each n d at in
    let b = have n t.0 t.1 in
    let g = t.2 in (
      g.got.number ∙ b.0,
      subst (λ (z : List ColumnCell). HasNew z n d.passes.items.items) (sym is)
          (subst (HasNew (c ∷ cells) n) (sym g.got.passes)
          (has_more cells c t.0.passes.items.items g.pass n b.1 (g.holder, g.none))),
      subst (λ (z : List Share). HasDesks z d.desks.items) (sym are)
          (subst (HasDesks (s ∷ shares)) (sym g.got.desks)
          (desks_more shares s t.0.desks.items (record { pass = g.copies; reader = None }) b.2 g.desk)),
    )

-- the columns from the colour i on are tied, and then those from m on
pub tied_more : (b : Board) (region regions i m : ℕ) (c : ColumnCell) (cells more : List ColumnCell) → i ≡ m + 1
    → more ≡ c ∷ cells → IsCellOf b region m regions c
    → ((k : ℕ) (d : ColumnCell) → slice_get cells k ≡ Some d → IsCellOf b region (i + k) regions d)
    → (k : ℕ) (d : ColumnCell) → slice_get more k ≡ Some d → IsCellOf b region (m + k) regions d
tied_more b region regions i m c cells more e is good all k d at = by k (ap (λ l. slice_get l k) (sym is) ∙ at) where
  by : (k : ℕ) → slice_get (c ∷ cells) k ≡ Some d → IsCellOf b region (m + k) regions d
  by zero here =
      let same : c ≡ d = cc (here) in
      let w : m ≡ m + 0 = omega arith in
      subst (λ (z : ℕ). IsCellOf b region z regions d) w (subst (IsCellOf b region m regions) same good)
  by (suc k) here =
      let w : i + k ≡ m + suc k = omega (arith, e) in
      subst (λ (z : ℕ). IsCellOf b region z regions d) w (all k d here)

-- the columns from the colour i on have their rings, and then those from m on
pub rings_more : (ends : List Rings) (i m : ℕ) (x : Rings) (c : ColumnCell) (cells more : List ColumnCell) → i ≡ m + 1
    → more ≡ c ∷ cells → slice_get ends m ≡ Some x → (tag_in c).rings ≡ names_of x
    → ((k : ℕ) (y : Rings) (d : ColumnCell) → slice_get ends (i + k) ≡ Some y → slice_get cells k ≡ Some d
    → (tag_in d).rings ≡ names_of y)
    → (k : ℕ) (y : Rings) (d : ColumnCell) → slice_get ends (m + k) ≡ Some y → slice_get more k ≡ Some d
    → (tag_in d).rings ≡ names_of y
rings_more ends i m x c cells more e is here good all k y d at dat =
    by k at (ap (λ l. slice_get l k) (sym is) ∙ dat) where
      by : (k : ℕ) → slice_get ends (m + k) ≡ Some y → slice_get (c ∷ cells) k ≡ Some d → (tag_in d).rings ≡ names_of y
      by zero there first =
          let same : c ≡ d = cc (first) in
          let w : m ≡ m + 0 = omega arith in
          let two : Some x ≡ Some y = sym here ∙ ap (slice_get ends) w ∙ there in
          let one : x ≡ y = cc (two) in
          subst (λ (z : ColumnCell). (tag_in z).rings ≡ names_of y) same
          (subst (λ (z : Rings). (tag_in c).rings ≡ names_of z) one good)
      by (suc k) there later =
          let w : m + suc k ≡ i + k = omega (arith, e) in
          all k y d (ap (slice_get ends) (sym w) ∙ there) later

pub zip_one : (cs : List Client) (ss : List Seat) (i m : ℕ) (x : Hold) (hs more : List Hold) → i ≡ m + 1
    → more ≡ x ∷ hs → Zipped cs ss i hs → slice_get cs m ≡ Some (client_of x) → slice_get ss m ≡ Some x.seat → x.next ≡ 0
    → Zipped cs ss m more
zip_one cs ss i m x hs more e is zipped p s none n h at = by n (ap (λ l. slice_get l n) (sym is) ∙ at) where
  by : (n : ℕ) → slice_get (x ∷ hs) n ≡ Some h
      → (slice_get cs (m + n) ≡ Some (client_of h)) × (slice_get ss (m + n) ≡ Some h.seat) × (h.next ≡ 0)
  by zero here =
      let same : x ≡ h = cc (here) in
      let w : m + 0 ≡ m = omega arith in (
        ap (slice_get cs) w ∙ p ∙ ap (λ (y : Hold). Some (client_of y)) same,
        ap (slice_get ss) w ∙ s ∙ ap (λ (y : Hold). Some y.seat) same,
        ap (λ (y : Hold). y.next) (sym same) ∙ none,
      )
  by (suc n) here =
      let t = zipped n h here in
      let w : m + suc n ≡ i + n = omega (arith, e) in
      (ap (slice_get cs) w ∙ t.0, ap (slice_get ss) w ∙ t.1, t.2)

-- what passes have seen that have seen nothing
seen_none : (o : Option ColumnPass) → ((p : ColumnPass) → o ≡ Some p → seen p ≡ []) → history_seen o ≡ []
seen_none None all = refl
seen_none (Some p) all = all p refl

no_node : Node
no_node = record {
  id = record { client = 0; count = 0 };
  region = 0;
  colours = record { 0 = 0 };
  text = [];
  floor = 0;
  wants = [];
  row = None;
}

pub new_holds : (r : Region) (cs : List Client) (ss : List Seat) (hs given : List Hold) → given ≡ hs
    → length hs ≡ r.board.size.clients → AreFreshClients r.board ss → HaveAll r.columns.items r.shares.items cs
    → Zipped cs ss 0 hs → AreNewHolds r given
new_holds r cs ss hs given is count clients all zipped =
    subst (AreNewHolds r) (sym is)
    ((count, λ n h at. ((hold n h at).0, (hold n h at).1)), λ n h at. (hold n h at).2) where
      hold : (n : ℕ) (h : Hold) → slice_get hs n ≡ Some h → IsHold r h × (h.passes.number ≡ n) × IsNewHold h
      hold n h at =
          let t = zipped n h at in
          let w : 0 + n ≡ n = omega arith in
          let f = clients n h.seat (ap (slice_get ss) (sym w) ∙ t.1) in
          let p = all n (client_of h) (ap (slice_get cs) (sym w) ∙ t.0) in
          let used : h.seat.used ≡ 0 = f.used in
          let seen : (c : ℕ) → turned_in h c ≡ [] =
          λ c. seen_none (slice_get h.passes.items.items c) (λ q here. p.1.1 c q here) in (
            record {
              passes = subst (λ (z : ℕ). HasPasses r.columns.items z h.passes.items.items) (sym p.0) p.1.0;
              seat = f.board;
              clients = f.clients;
              number = f.client ∙ sym p.0;
              owns = record {
                nodes = λ j. no_node;
                known = λ j l. absurd (omega (arith, used, l));
                fit = λ j l. absurd (omega (arith, used, l));
                below = λ j l. absurd (omega (arith, used, l));
                rising = λ i j l m. absurd (omega (arith, used, m));
                entries = λ c k u there. absurd
                    (let none = ap (λ (l : List Told). slice_get (made_by maker h.passes.number l) k) (seen c) in
                    let f : None ≡ Some u = sym none ∙ there in
                    cc (f));
              };
              desks = p.2;
            },
            p.0,
            record { seen = seen; known = f.known; begun = f.begun; used = f.used; next = t.2 },
          )
