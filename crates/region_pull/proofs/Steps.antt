-- The holds of a client between the steps of a pull.
use Rattle.std.proofs.Common.{◌≡◌, ℕ, ◌<◌, List, [], ◌∷◌, length, refl, ap, sym, subst, ◌∙◌, arith}
use Rattle.std.specs.Prelude.{slice_get}
use mathlib.Core.List.{IsPrefix}
use Rattle.log_node.specs.declared.ids.Counts.{Counts}
use Rattle.log_node.specs.declared.node.At.{At}
use Rattle.log_node.specs.Vectors.{at}
use Rattle.log_node.proofs.CallerLemmas.{at-vector}
use Rattle.col_core.specs.History.{line}
use Rattle.col_core.specs.Cuts.{chain, held}
use Rattle.turn_cell.specs.Histories.{made_by}
use Rattle.chain_store.specs.declared.told.Told.{Told}
use Rattle.chain_store.specs.declared.hold.Hold.{Hold}
use Rattle.chain_store.specs.declared.region.Region.{Region}
use Rattle.chain_store.specs.Histories.{entries_in, maker}
use Rattle.chain_store.specs.Passes.{SeesMore, dated_in}
use Rattle.chain_store.specs.Moves.{held_in, CarriesAt}
use Rattle.chain_store.specs.Regions.{tag_at}
use Rattle.chain_store.specs.Holds.{IsHold, SameBut, seen_in, made_in, SeesMoreIn, GivesIn, CarriesIn}
use Rattle.chain_store.specs.Going.{GoesOnIn}
use Rattle.chain_store.proofs.CallerLemmas.{lawful_seen}
use Rattle.region_pull.specs.declared.pulled.Pulled.{Pulled}
use Rattle.region_pull.specs.Stores.{AreOfOneStore}
use Rattle.region_pull.specs.Origins.{AsksForHeld}
use Rattle.region_pull.specs.Pulls.{GiveOfPull, AsksByGives, PullsByHolds, GivesAlone}
use Rattle.region_pull.specs.Inside.{HasAsked, HasWatched}
use Rattle.region_pull.proofs.Lists.{prefix_same, prefix_then}
use Rattle.region_pull.proofs.Giving.{made_more, asks_none, the_give, asks_once, line_then, asks_further, line_stays, asks_held}
use Rattle.region_pull.proofs.Carrying.{carries_more, looks_carries_at}

-- a hold goes on

pub goes_same : (r : Region) (k : ℕ) (h : Hold) → IsHold r h → GoesOnIn r k h h
goes_same r k h is = record {
  rests = is;
  others = record { number = refl; others = λ c ne. refl };
  seat = refl;
  next = refl;
  more = prefix_same (seen_in h k);
}

pub goes_then : (r : Region) (k : ℕ) (g h i : Hold) → GoesOnIn r k g h → IsHold r i → SameBut k h i
    → (i.seat ≡ h.seat) × (i.next ≡ h.next) → IsPrefix (seen_in h k) (seen_in i k) → GoesOnIn r k g i
goes_then r k g h i on is but same more = record {
  rests = is;
  others = record {
    number = but.number ∙ on.others.number;
    others = λ c ne. but.others c ne ∙ on.others.others c ne;
  };
  seat = same.0 ∙ on.seat;
  next = same.1 ∙ on.next;
  more = prefix_then (seen_in g k) (seen_in h k) (seen_in i k) on.more more;
}

pub goes_on : (r : Region) (k : ℕ) (g h i : Hold) → GoesOnIn r k g h → GoesOnIn r k h i → GoesOnIn r k g i
goes_on r k g h i a b = goes_then r k g h i a b.rests b.others (b.seat, b.next) b.more

pub sees_then : (k : ℕ) (g h i : Hold) → h.passes.number ≡ g.passes.number → SeesMoreIn k g h → SeesMoreIn k h i
    → SeesMoreIn k g i
sees_then k g h i number a b =
    let c = subst (λ (n : ℕ). SeesMore n (seen_in h k) (seen_in i k)) number b in
    record {
      more = prefix_then (seen_in g k) (seen_in h k) (seen_in i k) a.more c.more;
      none = c.none ∙ a.none;
    }

pub watched_none : (r : Region) (k : ℕ) (h : Hold) → IsHold r h → HasWatched r k h h
watched_none r k h is = record {
  goes = goes_same r k h is;
  sees = record { more = prefix_same (seen_in h k); none = refl };
}

pub watched_then : (r : Region) (k : ℕ) (g h i : Hold) → HasWatched r k g h → IsHold r i → SameBut k h i
    → (i.seat ≡ h.seat) × (i.next ≡ h.next) → SeesMoreIn k h i → HasWatched r k g i
watched_then r k g h i w is but same sees = record {
  goes = goes_then r k g h i w.goes is but same sees.more;
  sees = sees_then k g h i w.goes.others.number w.sees sees;
}

-- how much is held, as a look answers it
pub asked_is : (to : Region) (k region : ℕ) (h : Hold) (counts : Counts) → region < 4
    → counts ≡ held to.number (dated_in (tag_at to k) (seen_in h k))
    → at counts region ≡ held_in (tag_at to k) (seen_in h k) region
asked_is to k region h counts lt is =
    ap (λ (c : Counts). at c region) is
    ∙ at-vector (λ (r : ℕ). length (chain to.number (dated_in (tag_at to k) (seen_in h k)) r)) region lt

-- the look and the give of a pull
module _ (from to : Region) (k : ℕ) (g g' h h' : Hold) (looks : SeesMoreIn k h h') where
  pub gives_none : SeesMoreIn k g g' → GivesAlone from to k g g' h h'
  gives_none sees = (
    [],
    omega arith,
    asks_none (tag_at from k) (tag_at to k) g.passes.number (seen_in g k) (seen_in g' k) (seen_in h k) (seen_in h' k)
        sees,
  )

  module _ (number lined : ℕ) (place : At) (asks : number ≡ held_in (tag_at to k) (seen_in h' k) from.number)
      (gave : GivesIn k g g' to.number number place lined) where
    pub gave_more : IsPrefix (seen_in g k) (seen_in g' k)
    gave_more = made_more g.passes.number gave.told (seen_in g k) (seen_in g' k) place gave.made

    pub gave_once : HasAsked from to k g g' h h' place lined
    gave_once = record {
      gave = the_give (tag_at from k) (tag_at to k) g.passes.number (seen_in g k) (seen_in g' k) (seen_in h k)
          (seen_in h' k) looks.more number lined place asks gave;
      asks = asks_once (tag_at from k) (tag_at to k) g.passes.number (seen_in g k) (seen_in g' k) (seen_in h k)
          (seen_in h' k) looks.more number lined place asks gave;
      there = gave.made.place;
      line_is = line_then (tag_at from k) (tag_at to k) g.passes.number (seen_in g k) (seen_in g' k) (seen_in h k)
          (seen_in h' k) looks.more number lined place asks gave;
    }

-- a carry, after nodes were sent and received
pub carried_since : (to : Region) (k region least : ℕ) (h h' i : Hold) (at : At) (nodes : ℕ) → HasWatched to k h h'
    → CarriesIn k h' i (tag_at to k) region least at nodes → CarriesIn k h i (tag_at to k) region least at nodes
carried_since to k region least h h' i at nodes w c =
    looks_carries_at region least (tag_at to k) h.passes.number (seen_in h k) (seen_in h' k) (seen_in i k) at nodes w.sees
    (subst (λ (n : ℕ). CarriesAt (tag_at to k) n region least (seen_in h' k) (seen_in i k) at nodes)
    w.goes.others.number c)

pub carried_goes : (to : Region) (k region least : ℕ) (h h' i : Hold) (at : At) (nodes : ℕ) → GoesOnIn to k h h'
    → IsHold to i → SameBut k h' i → (i.seat ≡ h'.seat) × (i.next ≡ h'.next)
    → CarriesIn k h' i (tag_at to k) region least at nodes → GoesOnIn to k h i
carried_goes to k region least h h' i at nodes on is but same c =
    goes_then to k h h' i on is but same
    (carries_more region (tag_at to k) h'.passes.number (seen_in h' k) (seen_in i k) at nodes c.either)

-- a whole pull: from the give on nodes were sent and received
module _ (from to : Region) (k : ℕ) (g g' j h h' i : Hold) (from_goes : GoesOnIn from k g g')
    (to_goes : GoesOnIn to k h h') (looks : SeesMoreIn k h h') (fed : HasWatched from k g' j) (place : At) (lined : ℕ)
    (a : HasAsked from to k g g' h h' place lined) where
  sees_here : SeesMore g.passes.number (seen_in g' k) (seen_in j k)
  sees_here = subst (λ (n : ℕ). SeesMore n (seen_in g' k) (seen_in j k)) from_goes.others.number fed.sees

  asks_then : (later : List Told) → IsPrefix (seen_in h' k) later → AsksByGives (tag_at from k) (tag_at to k)
      g.passes.number (seen_in g k) (seen_in j k) (seen_in h k) later (a.gave ∷ [])
  asks_then later more =
      asks_further (tag_at from k) (tag_at to k) g.passes.number (seen_in g k) (seen_in g' k) (seen_in j k) (seen_in h k)
      (seen_in h' k) later (a.gave ∷ []) a.asks sees_here more

  pub gave_alone : SeesMoreIn k h' i → GivesAlone from to k g j h i × SeesMoreIn k h i
  gave_alone sees = (
    (a.gave ∷ [], omega arith, asks_then (seen_in i k) sees.more),
    sees_then k h h' i to_goes.others.number looks sees,
  )

  pub pulled : (p : Pulled) → p.give ≡ place → CarriesIn k h' i (tag_at to k) from.number lined p.carry p.nodes
      → PullsByHolds from to k g j h i p
  pulled p give_is c =
      let same = line_stays (tag_at from k) (tag_at to k) g.passes.number (seen_in g k) (seen_in g' k) (seen_in j k)
      (seen_in h k) (seen_in h' k) (seen_in h' k) (a.gave ∷ []) a.asks fed.sees.more 0 a.gave refl in
      let long = ap (λ (l : List Told). length (line (entries_in l))) same in
      let lined_is = a.line_is in
      let covers = c.covers in
      record {
        gave = a.gave;
        looked = seen_in h' k;
        looks = looks;
        asks = asks_then (seen_in h' k) (prefix_same (seen_in h' k));
        give = give_is ∙ a.there;
        carries = (subst (λ (n : ℕ). CarriesAt (tag_at to k) n from.number lined (seen_in h' k) (seen_in i k) p.carry
            p.nodes) to_goes.others.number c).either;
        holds = omega (arith, long, lined_is, covers);
      }

-- what is carried up stays true
module _ (from to : Region) (k : ℕ) (g g' h h' : Hold) (store : AreOfOneStore from to k)
    (from_goes : GoesOnIn from k g g') (to_goes : GoesOnIn to k h h') where
  pub held_asked : (gives : List GiveOfPull) → AsksByGives (tag_at from k) (tag_at to k) g.passes.number (seen_in g k)
      (seen_in g' k) (seen_in h k) (seen_in h' k) gives → AsksForHeld from to k g h → AsksForHeld from to k g' h'
  held_asked gives a was n told e =
      asks_held (tag_at from k) (tag_at to k) g.passes.number (seen_in g k) (seen_in g' k) (seen_in h k) (seen_in h' k)
      gives a to_goes.more (lawful_seen to h' k to_goes.rests store.to_colour) was n told
      (ap (λ (l : List Told). slice_get l n) (sym made_now) ∙ e) where
        made_now : made_in g' k ≡ made_by maker g.passes.number (seen_in g' k)
        made_now = ap (λ (n : ℕ). made_by maker n (seen_in g' k)) from_goes.others.number

  pub held_pulled : (p : Pulled) → PullsByHolds from to k g g' h h' p → AsksForHeld from to k g h → AsksForHeld from to k g' h'
  held_pulled p pulls =
      held_asked (pulls.gave ∷ [])
      (asks_further (tag_at from k) (tag_at to k) g.passes.number (seen_in g k) (seen_in g' k) (seen_in g' k) (seen_in h k)
      pulls.looked (seen_in h' k) (pulls.gave ∷ []) pulls.asks
      (record { more = prefix_same (seen_in g' k); none = refl })
      (carries_more from.number (tag_at to k) h.passes.number pulls.looked (seen_in h' k) p.carry p.nodes pulls.carries))
