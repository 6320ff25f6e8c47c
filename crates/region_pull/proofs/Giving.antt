-- The give of a pull.
use Rattle.std.proofs.Common.{◌≡◌, ℕ, zero, suc, ◌<◌, ◌≤◌, List, [], ◌∷◌, ◌++◌, length, map, take, Some, refl, ap, sym, subst, ◌∙◌, inl, inr, arith, min, append_assoc, append-nil, eq-eqb, take_all}
use Rattle.std.specs.Prelude.{◌==◌, slice_get}
use mathlib.Core.List.{IsPrefix}
use Rattle.std.proofs.lemmas.List.{map-append}
use Rattle.std.proofs.lemmas.List.Elements.{filter-append}
use Rattle.std.proofs.lemmas.Option.{slice_get_within}
use Rattle.log_node.specs.declared.node.At.{At}
use Rattle.col_core.specs.History.{line}
use Rattle.col_core.specs.declared.Event.TheVariants.{Give}
use Rattle.col_core.proofs.CallerLemmas.{if_true}
use Rattle.turn_cell.specs.Histories.{made_by}
use Rattle.chain_store.specs.declared.told.Tag.{Tag}
use Rattle.chain_store.specs.declared.told.Told.{Told}
use Rattle.chain_store.specs.Histories.{entries_in, maker}
use Rattle.chain_store.specs.Passes.{SeesMore, MakesOne, IsLawfulTold}
use Rattle.chain_store.specs.Moves.{held_in, GivesAt}
use Rattle.region_pull.specs.Pulls.{GiveOfPull, told_gave, before_gave, MakesGives, AsksOn, AsksByGives}
use Rattle.region_pull.specs.Origins.{IsHeldFor}
use Rattle.region_pull.proofs.Lists.{prefix_same, prefix_then, prefix_long, prefix_get, prefix_take, taken_prefix, take_front, get_last, get_cases, get_split, got_mapped}
use Rattle.region_pull.proofs.Seen.{held_longer, held_for_longer}

-- entries of a number, with one of it more at the end
pub made_with : (n : ℕ) (log : List Told) (t : Told) → maker t ≡ n
    → made_by maker n (log ++ t ∷ []) ≡ made_by maker n log ++ t ∷ []
made_with n log t by =
    filter-append (λ (e : Told). maker e == n) log (t ∷ [])
    ∙ ap (λ (l : List Told). made_by maker n log ++ l) (if_true (maker t == n) (t ∷ []) [] (eq-eqb (maker t) n by))

-- one who makes an entry sees it last
pub made_more : (n : ℕ) (t : Told) (old new : List Told) (at : At) → MakesOne n t old new at → IsPrefix old new
made_more n t old new at m = prefix_then old m.before new m.more (t ∷ [], sym m.adds)

module _ (n region : ℕ) (old : List Told) where
  pub gives_none : MakesGives n region old old []
  gives_none = record {
    made = sym (append-nil (made_by maker n old));
    there = λ i x e. absurd (let f : ⊥ = cc (e) in f);
    rising = λ i j x y lt e d. absurd (let f : ⊥ = cc (e) in f);
  }

  module _ (mid new : List Told) (gives : List GiveOfPull) (g : MakesGives n region old mid gives) where
    pub gives_seen : SeesMore n mid new → MakesGives n region old new gives
    gives_seen s = record {
      made = s.none ∙ g.made;
      there = λ i x e. let r = g.there i x e in (r.0, prefix_get mid new s.more x.place (told_gave n region x) r.1);
      rising = g.rising;
    }

    -- its places lie within what was seen
    pub gave_within : (i : ℕ) (x : GiveOfPull) → slice_get gives i ≡ Some x → x.place < length mid
    gave_within i x e = slice_get_within mid x.place (told_gave n region x) (g.there i x e).1

    pub gives_more : (x : GiveOfPull) (at : At) → IsPrefix old mid → (m : MakesOne n (told_gave n region x) mid new at)
        → x.place ≡ length m.before → MakesGives n region old new (gives ++ x ∷ [])
    gives_more x at more m place =
        let told = told_gave n region x in
        let early = prefix_long mid m.before m.more in
        let first = prefix_long old mid more in
        record {
          made = ap (made_by maker n) m.adds ∙ (made_with n m.before told refl
              ∙ (ap (λ (l : List Told). l ++ told ∷ []) (m.none ∙ g.made)
              ∙ (append_assoc (made_by maker n old) (map (told_gave n region) gives) (told ∷ [])
              ∙ ap (λ (l : List Told). made_by maker n old ++ l) (sym (map-append (told_gave n region) gives (x ∷ []))))));
          there = λ i y e. elim (get_cases gives x i y e) [
            | inl before ↦
                let r = g.there i y before in
                (r.0, prefix_get mid new (made_more n told mid new at m) y.place (told_gave n region y) r.1)
            | inr last ↦
                subst (λ (z : GiveOfPull). (length old ≤ z.place) × (slice_get new z.place ≡ Some (told_gave n region z)))
                last.1 (
                  omega (arith, place, early, first),
                  ap (slice_get new) place ∙ (ap (λ (l : List Told). slice_get l (length m.before)) m.adds
                      ∙ get_last m.before told),
                )
          ];
          rising = λ i j y z lt e d. elim (get_cases gives x j z d) [
            | inl before ↦
                let within = slice_get_within gives j z before in
                elim (get_cases gives x i y e) [
                  | inl earlier ↦ g.rising i j y z lt earlier before
                  | inr last ↦ absurd (let s = last.0 in let f : ⊥ = omega (arith, s, within, lt) in f)
                ]
            | inr last ↦
                let here = last.0 in
                elim (get_cases gives x i y e) [
                  | inl earlier ↦
                      let low = gave_within i y earlier in
                      subst (λ (w : GiveOfPull). y.place < w.place) last.1 (omega (arith, low, early, place))
                  | inr same ↦ absurd (let s = same.0 in let f : ⊥ = omega (arith, s, here, lt) in f)
                ]
          ];
        }

-- what is said of a give stays true as more is seen
module _ (t u : Tag) (log log' old new new' : List Told) (x : GiveOfPull) (within : x.place ≤ length log)
    (more : IsPrefix log log') where
  pub same_before : before_gave log' x ≡ before_gave log x
  same_before = prefix_take log log' more x.place within

  pub asks_later : IsPrefix new new' → AsksOn t u log old new x → AsksOn t u log' old new' x
  asks_later longer a =
      let there = a.there in
      let le = prefix_long new new' longer in
      record {
        looked = a.looked;
        unseen = a.unseen;
        there = omega (arith, there, le);
        number = a.number
            ∙ (ap (λ (l : List Told). min (length (line (entries_in l))) (held_in u (take a.looked new) t.region))
            (sym same_before)
            ∙ ap (λ (l : List Told). min (length (line (entries_in (before_gave log' x)))) (held_in u l t.region))
            (sym (prefix_take new new' longer a.looked a.there)));
      }

-- where none was made
pub asks_none : (t u : Tag) (n : ℕ) (old new to_old to_new : List Told) → SeesMore n old new
    → AsksByGives t u n old new to_old to_new []
asks_none t u n old new to_old to_new s = record {
  makes = gives_seen n u.region old old new [] (gives_none n u.region old) s;
  on = λ i x e. absurd (let f : ⊥ = cc (e) in f);
}

-- the one give, from what was found held
module _ (t u : Tag) (n : ℕ) (old later to_old to_new : List Told) (to_more : IsPrefix to_old to_new) (from lined : ℕ)
    (place : At) (is : from ≡ held_in u to_new t.region) (gave : GivesAt n u.region from old later place lined) where
  abbrev pub the_give : GiveOfPull
  the_give = record {
    place = length gave.made.before;
    from = min from (length (line (entries_in gave.made.before)));
  }

  abbrev makes_it : MakesOne n (told_gave n u.region the_give) old later place
  makes_it = record {
    before = gave.made.before;
    more = gave.made.more;
    none = gave.made.none;
    adds = gave.made.adds ∙ ap (λ (w : Told). gave.made.before ++ w ∷ []) gave.note;
    place = gave.made.place;
  }

  pub same_past : before_gave later the_give ≡ gave.made.before
  same_past = ap (take (length gave.made.before)) gave.made.adds ∙ take_front gave.made.before (gave.told ∷ [])

  asks_on_it : AsksOn t u later to_old to_new the_give
  asks_on_it =
      let held = ap (λ (l : List Told). held_in u l t.region) (take_all (length to_new) to_new (omega arith)) in
      record {
        looked = length to_new;
        unseen = prefix_long to_old to_new to_more;
        there = omega arith;
        number = subst (λ (l : List Told). the_give.from
            ≡ min (length (line (entries_in l))) (held_in u (take (length to_new) to_new) t.region)) (sym same_past)
            (omega (arith, is, held));
      }

  pub asks_once : AsksByGives t u n old later to_old to_new (the_give ∷ [])
  asks_once = record {
    makes = gives_more n u.region old old later [] (gives_none n u.region old) the_give place (prefix_same old) makes_it refl;
    on = λ i x e. on_it i x e;
  } where
    on_it : (i : ℕ) (x : GiveOfPull) → slice_get (the_give ∷ []) i ≡ Some x → AsksOn t u later to_old to_new x
    on_it zero x e = let same : the_give ≡ x = cc (e) in subst (AsksOn t u later to_old to_new) same asks_on_it
    on_it (suc i) x e = absurd (let f : ⊥ = cc (e) in f)

  pub line_then : lined ≡ length (line (entries_in (before_gave later the_give)))
  line_then = gave.line_is ∙ ap (λ (l : List Told). length (line (entries_in l))) (sym same_past)

-- both columns have gone on
module _ (t u : Tag) (n : ℕ) (old new new' to_old to_new to_new' : List Told) (gives : List GiveOfPull)
    (a : AsksByGives t u n old new to_old to_new gives) where
  within : (i : ℕ) (x : GiveOfPull) → slice_get gives i ≡ Some x → x.place ≤ length new
  within i x e = let lt = gave_within n u.region old new new gives a.makes i x e in omega (arith, lt)

  pub asks_further : SeesMore n new new' → IsPrefix to_new to_new' → AsksByGives t u n old new' to_old to_new' gives
  asks_further s more = record {
    makes = gives_seen n u.region old new new' gives a.makes s;
    on = λ i x e. asks_later t u new new' to_old to_new to_new' x (within i x e) s.more more (a.on i x e);
  }

  pub line_stays : IsPrefix new new' → (i : ℕ) (x : GiveOfPull) → slice_get gives i ≡ Some x
      → before_gave new' x ≡ before_gave new x
  line_stays more i x e = same_before t u new new' to_old to_new to_new' x (within i x e) more

-- what a pull asks for is held
pub asks_held : (t u : Tag) (n : ℕ) (old new to_old to_new : List Told) (gives : List GiveOfPull)
    → AsksByGives t u n old new to_old to_new gives → IsPrefix to_old to_new → IsLawfulTold u to_new
    → ((k : ℕ) (told : Told) → slice_get (made_by maker n old) k ≡ Some told → IsHeldFor u to_old t.region told)
    → (k : ℕ) (told : Told) → slice_get (made_by maker n new) k ≡ Some told → IsHeldFor u to_new t.region told
asks_held t u n old new to_old to_new gives a more lawful h k told e =
    elim (get_split (made_by maker n old) (map (told_gave n u.region) gives) k told
    (ap (λ (l : List Told). slice_get l k) (sym a.makes.made) ∙ e)) [
      | inl before ↦ held_for_longer u to_old to_new more lawful t.region told (h k told before)
      | inr new ↦
          let r = got_mapped (told_gave n u.region) gives new.0 told new.1 in
          λ from is.
          let same : Give u.region r.0.from ≡ Give u.region from =
          ap (λ (w : Told). w.entry.event) r.2 ∙ is in
          let number : r.0.from ≡ from = cc (same) in
          let on = a.on new.0 r.0 r.1 in
          let asks = on.number in
          let le = held_longer u (take on.looked to_new) to_new (taken_prefix on.looked to_new) lawful t.region in
          omega (arith, number, asks, le)
    ]
