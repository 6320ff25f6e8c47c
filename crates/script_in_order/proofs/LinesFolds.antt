-- What is folded of an object in the order of a region: it stays right while the world goes on, and a read goes on from it.
use Rattle.std.proofs.Common.{◌≡◌, ℕ, ◌<◌, ◌≤◌, false, zero, suc, List, [], ◌∷◌, ◌++◌, ◌+◌, ◌-◌, length, map, take, drop, get_or, refl, ap, sym, subst, ◌∙◌, inl, inr, arith, append_assoc, append-nil}
use Rattle.std.specs.List.{All, Contains, fold}
use Rattle.std.proofs.lemmas.List.{take_all, length-drop}
use Rattle.log_node.specs.declared.ids.Key.{Key}
use Rattle.log_node.specs.declared.node.Shape.{Shape}
use Rattle.log_node.specs.Order.{same_key}
use Rattle.log_node.proofs.CallerLemmas.{same_key-is}
use Rattle.object_fold.specs.Nodes.{ObjectNode}
use Rattle.col_core.specs.History.{line}
use Rattle.col_core.proofs.CallerLemmas.{In, by_test}
use Rattle.playback.specs.Merging.{merged, up_to, region_order, AreRising}
use Rattle.world_laws.specs.Worlds.{World, home_of, home_history}
use Rattle.world_laws.specs.Laws.{IsReached}
use Rattle.world_laws.proofs.CallerLemmas.{run_grows, in_contains, contains_in}
use Rattle.script_meaning.specs.Dequeues.{object_node_at}
use Rattle.script_meaning.specs.Stamped.{keys_read}
use Rattle.script_meaning.proofs.CallerLemmas.{RunsTo, line_longer, nodes_stay}
use Rattle.script_in_order.specs.declared.folds.FirstNodes.{FirstNodes}
use Rattle.script_in_order.specs.declared.lines_fold.LinesFold.{LinesFold}
use Rattle.script_in_order.specs.Folds.{whole_line, AreThere, first_keys, keys_behind, AreReadUpTo, IsLinesFold}
use Rattle.script_in_order.specs.Transacting.{AreOthers}
use Rattle.script_in_order.proofs.RunReplies.{any_default}
use Rattle.script_in_order.proofs.KeysSplit.{Each, merged_on, each_merged}
use Rattle.script_in_order.proofs.LinesRead.{read_goes_on, low_stamp}

-- the first nodes of a line
abbrev pub first_of : World → FirstNodes → List Key
first_of w first = take first.count (whole_line w first)

-- THE WORLD GOES ON

its_keys : (w : World) (keys : List Key) → map (λ (n : ObjectNode). n.key) (map (object_node_at w) keys) ≡ keys
its_keys w [] = refl
its_keys w (key ∷ keys) = ap (λ (l : List Key). key ∷ l) (its_keys w keys)

same_keys : (w v : World) (xs ys : List Key) → map (object_node_at v) xs ≡ map (object_node_at w) ys → xs ≡ ys
same_keys w v xs ys e =
    sym (its_keys v xs) ∙ (ap (map (λ (n : ObjectNode). n.key)) e ∙ its_keys w ys)

each_same : (w v : World) (keys : List Key) → map (object_node_at v) keys ≡ map (object_node_at w) keys
    → Each (λ key. object_node_at v key ≡ object_node_at w key) keys
each_same w v [] e k i = absurd i
each_same w v (key ∷ keys) e k (inl is) =
    subst (λ (x : Key). object_node_at v x ≡ object_node_at w x) is (let f : object_node_at v key ≡ object_node_at w key = cc in f)
each_same w v (key ∷ keys) e k (inr i) =
    each_same w v keys (let f : map (object_node_at v) keys ≡ map (object_node_at w) keys = cc in f) k i

all_same : (w v : World) (keys : List Key) → Each (λ key. object_node_at v key ≡ object_node_at w key) keys
    → map (object_node_at v) keys ≡ map (object_node_at w) keys
all_same w v [] each = refl
all_same w v (key ∷ keys) each =
    ap (λ (n : ObjectNode). n ∷ map (object_node_at v) keys) (each key (inl refl))
    ∙ ap (λ (l : List ObjectNode). object_node_at w key ∷ l) (all_same w v keys (λ k i. each k (inr i)))

module _ (w v : World) (reached : IsReached w) (to : RunsTo w v) where
  first_same : (first : FirstNodes) → AreThere w first → first_of v first ≡ first_of w first
  first_same first there =
      same_keys w v (first_of v first) (first_of w first)
      (nodes_stay w v reached to first.region first.colour first.count there.count)

  firsts_same : (keys : List Key) (firsts : List FirstNodes) → ((first : FirstNodes) → In first firsts → AreThere w first)
      → merged_on (first_of v) keys firsts ≡ merged_on (first_of w) keys firsts
  firsts_same keys [] there = refl
  firsts_same keys (first ∷ firsts) there =
      ap (λ (l : List Key). merged_on (first_of v) (merged keys l) firsts) (first_same first (there first (inl refl)))
      ∙ firsts_same (merged keys (first_of w first)) firsts (λ f i. there f (inr i))

  nodes_same : (firsts : List FirstNodes) → ((first : FirstNodes) → In first firsts → AreThere w first)
      → map (object_node_at v) (first_keys w firsts) ≡ map (object_node_at w) (first_keys w firsts)
  nodes_same firsts there =
      all_same w v (first_keys w firsts)
      (each_merged (λ key. object_node_at v key ≡ object_node_at w key) (first_of w) [] firsts (λ k i. absurd i)
      (λ first i. each_same w v (first_of w first)
      (ap (map (object_node_at v)) (sym (first_same first (there first i)))
      ∙ nodes_stay w v reached to first.region first.colour first.count (there first i).count)))

  there_stays : (first : FirstNodes) → AreThere w first → AreThere v first
  there_stays first there =
      let same : v.shape ≡ w.shape = ap (λ (x : World). x.shape) (sym to.run) ∙ (run_grows w to.steps).shape in record {
        region = subst (λ (s : Shape). first.region < s.regions) (sym same) there.region;
        colour = subst (λ (s : Shape). first.colour < s.colours) (sym same) there.colour;
        count = let a = there.count in let b = line_longer w v reached to first.region first.colour in omega (arith, a, b);
      }

  -- what is folded stays right
  pub lines_stay : {F : Type 0} (Holds : F → List ObjectNode → Type 0) (fold : LinesFold F) → IsLinesFold Holds w fold
      → IsLinesFold Holds v fold
  lines_stay Holds fold f =
      let firsts = fold.firsts.items in
      let there = λ (first : FirstNodes) (i : In first firsts). f.there first (contains_in firsts first i) in
      let keys = firsts_same [] firsts there in record {
        there = λ first i. there_stays first (f.there first i);
        low = λ key i. f.low key (subst (λ (l : List Key). Contains l key) keys i);
        folded = subst (Holds fold.kept.state)
            (sym (nodes_same firsts there) ∙ ap (map (object_node_at v)) (sym keys)) f.folded;
      }

-- A READ

module _ (w : World) (client stamp : ℕ) (colours : List ℕ) (firsts : List FirstNodes)
    (read : AreReadUpTo w client stamp colours firsts) where
  cut : (first : FirstNodes) → In first firsts → first_of w first ≡ up_to stamp (whole_line w first)
  cut first i = read.cut first (contains_in firsts first i)

  -- what is read later is what was read, and then what is behind
  pub goes_on : (later : ℕ) → stamp ≤ later
      → keys_read w client later colours ≡ first_keys w firsts ++ keys_behind w later firsts
  goes_on later grows =
      ap (region_order later) (sym read.lines)
      ∙ read_goes_on (whole_line w) (λ (f : FirstNodes). f.count) stamp later grows firsts cut

  by_cut : (fs : List FirstNodes) (keys : List Key)
      → ((first : FirstNodes) → In first fs → first_of w first ≡ up_to stamp (whole_line w first))
      → fold (λ ks l. merged ks (up_to stamp l)) keys (map (whole_line w) fs) ≡ merged_on (first_of w) keys fs
  by_cut [] keys c = refl
  by_cut (f ∷ fs) keys c =
      ap (λ (l : List Key). fold (λ ks l. merged ks (up_to stamp l)) (merged keys l) (map (whole_line w) fs))
      (sym (c f (inl refl)))
      ∙ by_cut fs (merged keys (first_of w f)) (λ g i. c g (inr i))

  pub all_read : keys_read w client stamp colours ≡ first_keys w firsts
  all_read = ap (region_order stamp) (sym read.lines) ∙ by_cut firsts [] cut

  low : Each (λ (key : Key). key.stamp ≤ stamp) (first_keys w firsts)
  low = each_merged (λ (key : Key). key.stamp ≤ stamp) (first_of w) [] firsts (λ k i. absurd i)
      (λ first i k j. low_stamp (whole_line w first) first.count stamp stamp (omega arith) (cut first i) k j)

  -- all that was read is folded
  pub noted : {F : Type 0} (Holds : F → List ObjectNode → Type 0) (fold : LinesFold F) → fold.firsts.items ≡ firsts
      → fold.stamp ≡ stamp → Holds fold.kept.state (map (object_node_at w) (keys_read w client stamp colours))
      → IsLinesFold Holds w fold
  noted Holds fold same at state = record {
    there = λ first i. read.there first (subst (λ (l : List FirstNodes). Contains l first) same i);
    low = λ key i.
        let l = low key (in_contains (first_keys w firsts) key
        (subst (λ (l : List FirstNodes). Contains (first_keys w l) key) same i)) in
        omega (arith, l, at);
    folded = subst (λ (ks : List Key). Holds fold.kept.state (map (object_node_at w) ks))
        (all_read ∙ ap (first_keys w) (sym same)) state;
  }

-- all keys, where those behind are given as a slice
pub with_slice : (all before keys slice : List Key) → all ≡ before ++ keys → slice ≡ keys → before ++ slice ≡ all
with_slice all before keys slice is same = ap (λ (l : List Key). before ++ l) same ∙ sym is

-- NOTHING IS FOLDED

none_there : {A : Type 0} (xs : List A) (x : A) → xs ≡ [] → Contains xs x → ⊥
none_there {A} xs x none i = let j = in_contains [] x (subst (λ (l : List A). Contains l x) none i) in j

pub opened : {F : Type 0} (Holds : F → List ObjectNode → Type 0) (w : World) (fold : LinesFold F) → fold.firsts.items ≡ []
    → Holds fold.kept.state [] → IsLinesFold Holds w fold
opened Holds w fold none state = record {
  there = λ first i. absurd (none_there fold.firsts.items first none i);
  low = λ key i. absurd (none_there (first_keys w fold.firsts.items) key (ap (first_keys w) none) i);
  folded = subst (λ (l : List FirstNodes). Holds fold.kept.state (map (object_node_at w) (first_keys w l))) (sym none) state;
}

-- NONE IS ANOTHER

all_of : (P : Key → Type 0) (keys : List Key) → Each P keys → All P keys
all_of P [] each i d lt = absurd (let f : ⊥ = omega (arith, lt) in f)
all_of P (key ∷ keys) each zero d lt = each key (inl refl)
all_of P (key ∷ keys) each (suc i) d lt = all_of P keys (λ k j. each k (inr j)) i d (omega (arith, lt))

other_stamp : (key own : Key) → key.stamp < own.stamp → same_key key own ≡ false
other_stamp key own less =
    by_test (same_key key own ≡ false) (same_key key own)
    (λ t. absurd (let e = ap (λ (k : Key). k.stamp) (same_key-is key own t) in let f : ⊥ = omega (arith, e, less) in f))
    (λ f. f)

-- a node under a greater stamp is not folded
pub others_folded : {F : Type 0} (Holds : F → List ObjectNode → Type 0) (w : World) (fold : LinesFold F) (own : Key)
    → IsLinesFold Holds w fold → fold.stamp < own.stamp → AreOthers own (first_keys w fold.firsts.items)
others_folded Holds w fold own f less =
    let keys = first_keys w fold.firsts.items in
    all_of (λ (key : Key). same_key key own ≡ false) keys
    (λ k i. other_stamp k own (let a = f.low k (contains_in keys k i) in omega (arith, a, less)))

-- FIRST NODES

-- the lines of one colour more
pub one_line_more : (w : World) (client stamp : ℕ) (colours : List ℕ) (colour : ℕ) (firsts : List FirstNodes)
    (first : FirstNodes) → AreReadUpTo w client stamp colours firsts → AreThere w first
    → whole_line w first ≡ line (home_history w client colour)
    → first_of w first ≡ up_to stamp (whole_line w first)
    → AreReadUpTo w client stamp (colours ++ colour ∷ []) (firsts ++ first ∷ [])
one_line_more w client stamp colours colour firsts first read there its mine = record {
  lines = both firsts colours read.lines;
  there = λ f i. each firsts (AreThere w) (λ g j. read.there g (contains_in firsts g j)) there f
      (in_contains (firsts ++ first ∷ []) f i);
  cut = λ f i. each firsts (λ g. first_of w g ≡ up_to stamp (whole_line w g))
      (λ g j. read.cut g (contains_in firsts g j)) mine f (in_contains (firsts ++ first ∷ []) f i);
} where
  both : (fs : List FirstNodes) (cs : List ℕ) → map (whole_line w) fs ≡ map (λ c. line (home_history w client c)) cs
      → map (whole_line w) (fs ++ first ∷ []) ≡ map (λ c. line (home_history w client c)) (cs ++ colour ∷ [])
  both [] [] e = ap (λ (l : List Key). l ∷ []) its
  both [] (c ∷ cs) e = absurd (let n = ap length e in let f : ⊥ = omega (arith, n) in f)
  both (f ∷ fs) [] e = absurd (let n = ap length e in let f : ⊥ = omega (arith, n) in f)
  both (f ∷ fs) (c ∷ cs) e =
      let head : whole_line w f ≡ line (home_history w client c) = cc in
      let rest : map (whole_line w) fs ≡ map (λ c. line (home_history w client c)) cs = cc in
      ap (λ (l : List Key). l ∷ map (whole_line w) (fs ++ first ∷ [])) head
      ∙ ap (λ (ls : List (List Key)). line (home_history w client c) ∷ ls) (both fs cs rest)

  each : (fs : List FirstNodes) (P : FirstNodes → Type 0) → ((g : FirstNodes) → In g fs → P g) → P first
      → (g : FirstNodes) → In g (fs ++ first ∷ []) → P g
  each [] P all p g (inl e) = subst P e p
  each [] P all p g (inr i) = absurd i
  each (f ∷ fs) P all p g (inl e) = all g (inl e)
  each (f ∷ fs) P all p g (inr i) = each fs P (λ h j. all h (inr j)) p g i

-- the same first nodes, and one more that is the same
pub same_more : (xs ys : List FirstNodes) (i : ℕ) (d : FirstNodes) → i < length xs → i < length ys
    → get_or xs i d ≡ get_or ys i d → take i xs ≡ take i ys → take (i + 1) xs ≡ take (i + 1) ys
same_more [] ys i d lx ly same so = absurd (let f : ⊥ = omega (arith, lx) in f)
same_more (x ∷ xs) [] i d lx ly same so = absurd (let f : ⊥ = omega (arith, ly) in f)
same_more (x ∷ xs) (y ∷ ys) zero d lx ly same so = ap (λ (f : FirstNodes). f ∷ []) same
same_more (x ∷ xs) (y ∷ ys) (suc i) d lx ly same so =
    let e : suc i + 1 ≡ suc (i + 1) = omega arith in
    let head : x ≡ y = cc in
    let rest : take i xs ≡ take i ys = cc in
    ap (λ (m : ℕ). take m (x ∷ xs)) e
    ∙ (ap (λ (f : FirstNodes). f ∷ take (i + 1) xs) head
    ∙ (ap (λ (l : List FirstNodes). y ∷ l)
    (same_more xs ys i d (omega (arith, lx)) (omega (arith, ly)) same rest)
    ∙ ap (λ (m : ℕ). take m (y ∷ ys)) (sym e)))

-- a rising line rises behind its first keys too
pub rising_behind : (n : ℕ) (keys : List Key) → AreRising keys → AreRising (drop n keys)
rising_behind zero keys rises = rises
rising_behind (suc n) [] rises = rises
rising_behind (suc n) (key ∷ keys) rises =
    rising_behind n keys (λ i j d lt there. rises (suc i) (suc j) d (omega (arith, lt)) (omega (arith, there)))

-- its part from a place on rises
pub rising_part : (n : ℕ) (keys : List Key) → AreRising keys → AreRising (take (length keys - n) (drop n keys))
rising_part n keys rises =
    subst AreRising
    (sym (take_all (length keys - n) (drop n keys) (let e = length-drop n keys in omega (arith, e))))
    (rising_behind n keys rises)

-- the one at a place
abbrev pub first_at : List FirstNodes → ℕ → FirstNodes
first_at firsts i = get_or firsts i (record { region = 0; colour = 0; count = 0 })

pub at_place : (w : World) (firsts : List FirstNodes) (i : ℕ) → i < length firsts
    → ((first : FirstNodes) → Contains firsts first → AreThere w first) → AreThere w (first_at firsts i)
at_place w firsts i low all =
    all (first_at firsts i)
    (i, low, sym (any_default firsts i (record { region = 0; colour = 0; count = 0 }) (first_at firsts i) low))

-- the lines of the first of these colours are read; the others are left
pub record AreReadFirst (w : World) (client stamp : ℕ) (left colours : List ℕ) (firsts : List FirstNodes) : Type 0 where
  pub first : List ℕ
  pub apart : first ++ left ≡ colours
  pub read : AreReadUpTo w client stamp first firsts

-- the lines of no colour
pub no_lines : (w : World) (client stamp : ℕ) (left colours : List ℕ) (firsts : List FirstNodes) → firsts ≡ []
    → left ≡ colours → AreReadFirst w client stamp left colours firsts
no_lines w client stamp left colours firsts none all = record {
  first = [];
  apart = all;
  read = subst (AreReadUpTo w client stamp []) (sym none) (record {
    lines = refl;
    there = λ first i. absurd (in_contains [] first i);
    cut = λ first i. absurd (in_contains [] first i);
  });
}

-- the line of one colour more, by its first nodes
pub line_made : (w : World) (client stamp colour : ℕ) (left rest colours : List ℕ) (old new : List FirstNodes)
    (first : FirstNodes) → left ≡ colour ∷ rest → new ≡ old ++ first ∷ [] → AreThere w first
    → first.region ≡ home_of w client → first.colour ≡ colour
    → take first.count (whole_line w first) ≡ up_to stamp (line (home_history w client colour))
    → AreReadFirst w client stamp left colours old → AreReadFirst w client stamp rest colours new
line_made w client stamp colour left rest colours old new first e made there region is nodes so_far =
    let its : whole_line w first ≡ line (home_history w client colour) =
    ap (λ (r : ℕ). line (w.histories r first.colour)) region
    ∙ ap (λ (c : ℕ). line (w.histories (home_of w client) c)) is in
    record {
      first = so_far.first ++ colour ∷ [];
      apart = append_assoc so_far.first (colour ∷ []) rest
          ∙ (ap (λ (l : List ℕ). so_far.first ++ l) (sym e) ∙ so_far.apart);
      read = subst (AreReadUpTo w client stamp (so_far.first ++ colour ∷ [])) (sym made)
          (one_line_more w client stamp so_far.first colour old first so_far.read there its
          (nodes ∙ ap (up_to stamp) (sym its)));
    }

-- all lines
pub all_lines : (w : World) (client stamp : ℕ) (left colours : List ℕ) (firsts : List FirstNodes) → left ≡ []
    → AreReadFirst w client stamp left colours firsts → AreReadUpTo w client stamp colours firsts
all_lines w client stamp left colours firsts none so_far =
    subst (λ (l : List ℕ). AreReadUpTo w client stamp l firsts)
    (sym (append-nil so_far.first) ∙ (ap (λ (l : List ℕ). so_far.first ++ l) (sym none) ∙ so_far.apart)) so_far.read

-- where it goes on, and where it begins anew
pub from_none : (w : World) (firsts : List FirstNodes) (keys all : List Key) → firsts ≡ [] → keys ≡ all
    → all ≡ first_keys w firsts ++ keys
from_none w firsts keys all none is =
    sym is ∙ ap (λ (l : List FirstNodes). first_keys w l ++ keys) (sym none)
