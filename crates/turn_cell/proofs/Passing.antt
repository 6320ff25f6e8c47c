-- Opening a table, and cutting, joining and comparing passes, keep the rule.
use Rattle.std.proofs.Common.{◌≡◌, ◌≢◌, ℕ, zero, suc, ◌+◌, eqb, List, [], ◌∷◌, ◌++◌, length, get_or, replicate, set, cond}
use Rattle.std.proofs.Common.{Option, Some, None, refl, ap, sym, subst, ◌∙◌, ⊎_elim, arith}
use Rattle.std.proofs.Common.{length-set, eq-eqb, ne_eqb}
use Rattle.std.specs.List.{AllByRecursion}
use mathlib.Core.Option.{none, some, some-ne-none}
use lib.ListN.{get_elem?}
use Rattle.atomic_table.specs.Table.{State, step, keeps, Allows, Splits, Joins}
use Rattle.atomic_table.proofs.Lists.{set_else}
use Rattle.turn_cell.specs.declared.rule.TheConstants.{WORDS}
use Rattle.turn_cell.specs.declared.view.Maker.{Maker}
use Rattle.turn_cell.specs.declared.view.Stage.TheVariants.{Idle}
use Rattle.turn_cell.specs.declared.view.View.{View}
use Rattle.turn_cell.specs.Histories.{maker, with_own}
use Rattle.turn_cell.specs.Rule.{Right, may_give, may_make, has_met, AtStage, Has, Knows, first_view}
use Rattle.turn_cell.specs.Steps.{Holding, next_number, new_maker, spent, told, giver_after, numbered, joined}
use Rattle.turn_cell.specs.Steps.{with_seen, Compares}
use Rattle.turn_cell.proofs.Histories.{prefix_none, prefix_longer, at_end, all_map, all_append}
use Rattle.turn_cell.proofs.Rules.{Owner, Apart, other_right, other_seat, stays, each_set, Ruled, looked}

module _ {S E T : Type 0} (stands : S → List E → Type 0) (by : E → ℕ) (tag_of : S → T) (tag : T) where
  pub compares : (slots id : ℕ) (me : Holding S E T)
      → me.0.stage ≡ Idle
      → Allows (Ruled stands by tag_of tag) slots id me 0 (λ n. n) (Compares by (step slots 0 0 0 none) me)
  compares slots id me is s r wide at _ =
      let known = r.each id me.0 at in
      let l = prefix_longer me.0.seen me.0.heard r.log known.saw known.heard in
      let w : View E T = with_seen l.0 me.0.stage me.0 in (
        w,
        keeps,
        tt,
        looked stands by tag_of tag s r 0 id me.1 w
            record {
              tagged = known.tagged;
              saw = l.2;
              heard = prefix_none r.log;
              own = known.own;
              met = known.met;
              free = known.free;
              stage = subst (AtStage r.log r.holder (get_or s.words 0 0) s.homes id l.0) (sym is) tt;
            },
        (
          l.0,
          refl,
          l.1,
          r.log,
          l.2,
          ((λ m e. (known.own m e).1), all_map _ _ (λ m b. b.1) me.0.met known.met),
        ),
      )

  -- a seat makes another: the numbers of the other seats stay theirs
  splitting : (s : State (Option S) (View E T)) (r : Ruled stands by tag_of tag s) (id : ℕ) (rights : ℕ → Owner)
      (left right : View E T)
      → Knows by tag r.log rights r.holder (get_or s.words 0 0) s.homes id left
      → Knows by tag r.log rights r.holder (get_or s.words 0 0) s.homes (length s.views) right
      → ((j n : ℕ) (a : Right) → j ≢ id → r.rights n ≡ (j, a) → rights n ≡ (j, a))
      → Ruled stands by tag_of tag
      record { words = s.words; homes = s.homes; views = set s.views id left ++ right ∷ [] }
  splitting s r id rights left right mine new theirs =
      let turn : ℕ = get_or s.words 0 0 in
      let K = Knows by tag r.log rights r.holder turn s.homes in record {
        log = r.log;
        rights = rights;
        holder = r.holder;
        many = r.many;
        counts = r.counts;
        lies = r.lies;
        each = λ j u e.
            ⊎_elim
            (each_set K s.views id left mine
            (λ j u other at.
            stays by tag r.log r.rights r.holder turn s.homes r.log rights r.holder turn s.homes j u
            (λ xs p. p) (λ n a i. (theirs j n a other i, refl)) (λ a b. (a, b, refl, refl)) (r.each j u at))
            j u)
            (λ (t : (j ≡ length (set s.views id left)) × (right ≡ u)).
            subst (λ (z : ℕ × View E T). K z.0 z.1)
            (λ i. (sym (t.0 ∙ length-set s.views id left) i, t.1 i)) new)
            (at_end (set s.views id left) right u j e);
      }

  pub tells : (id : ℕ) (v : View E T) → Splits (Ruled stands by tag_of tag) id v v (told v)
  tells id v s r at =
      let known = r.each id v at in
      splitting s r id r.rights v (told v) known
      record {
        tagged = known.tagged;
        saw = known.saw;
        heard = prefix_none r.log;
        own = λ m e. absurd cc;
        met = tt;
        free = λ a n e le. absurd cc;
        stage = tt;
      }
      (λ j n a _ i. i)

  pub numbers : (id : ℕ) (v : View E T) (a : ℕ)
      → v.free ≡ Some a → Splits (Ruled stands by tag_of tag) id v (giver_after v) (numbered v)
  numbers id v a is s r at =
      let known = r.each id v at in
      let there : ℕ = length s.views in
      let rights : ℕ → Owner = λ n. cond (eqb n a) (there, may_make) (r.rights n) in
      let mine = known.free a a is (omega arith) in
      let now : rights a ≡ (there, may_make) =
      ap (λ b. cond b (there, may_make) (r.rights a)) (eq-eqb a a refl) in
      let else_ : (n : ℕ) → n ≢ a → rights n ≡ r.rights n =
      λ n no_. ap (λ b. cond b (there, may_make) (r.rights n)) (ne_eqb n a no_) in
      let kept : (n : ℕ) (o : Owner) → Apart o (id, may_give) → r.rights n ≡ o → rights n ≡ o =
      λ n o differ i. else_ n (λ same. differ (sym i ∙ (ap r.rights same ∙ mine.0))) ∙ i in
      splitting s r id rights (giver_after v) (numbered v)
      record {
        tagged = known.tagged;
        saw = known.saw;
        heard = known.heard;
        own = λ m e.
            let b = known.own m e in
            (kept m.number (id, may_make) (other_right id id may_make may_give (λ same. cc)) b.0, b.1);
        met = all_map _ _
            (λ m b. (kept m.number (id, has_met) (other_right id id has_met may_give (λ same. cc)) b.0, b.1))
            v.met known.met;
        free = λ b n e le.
            let f : next_number (Some a) ≡ Some b = subst (λ (o : Option ℕ). next_number o ≡ Some b) is e in
            let g : a + 1 ≡ b = cc (f) in
            let c = known.free a n is (omega arith) in
            (else_ n (λ same. omega arith) ∙ c.0, c.1);
        stage = known.stage;
      }
      record {
        tagged = known.tagged;
        saw = known.saw;
        heard = prefix_none r.log;
        own = λ m e.
            let f : new_maker (Some a) ≡ Some m = subst (λ (o : Option ℕ). new_maker o ≡ Some m) is e in
            let g : maker a [] ≡ m = cc (f) in
            subst (Has by r.log rights there may_make) g (now, mine.1);
        met = tt;
        free = λ b n e le. absurd cc;
        stage = tt;
      }
      (λ j n a' other i. kept n (j, a') (other_seat j id a' may_give other) i)

  own_makers : (P : Maker E → Type 0) (own : Option (Maker E)) (ms : List (Maker E))
      → ((m : Maker E) → own ≡ Some m → P m) → AllByRecursion P ms → AllByRecursion P (with_own own ms)
  own_makers P None ms one all = all
  own_makers P (Some m) ms one all = (one m refl, all)

  pub joins : (id : ℕ) (v : View E T) (other : ℕ) (w : View E T)
      → Joins (Ruled stands by tag_of tag) id v other w (joined v w) spent
  joins id v other w s r at apart there' =
      let there : get_elem? s.views other ≡ some w = sym (set_else s.views id other (joined v w) apart) ∙ there' in
      let known = r.each id v at in
      let theirs = r.each other w there in
      let turn : ℕ = get_or s.words 0 0 in
      let rights : ℕ → Owner = λ n. cond (eqb (r.rights n).0 other) (id, has_met) (r.rights n) in
      let K = Knows by tag r.log rights r.holder turn s.homes in
      let stay : (n j : ℕ) (a : Right) → j ≢ other → r.rights n ≡ (j, a) → rights n ≡ (j, a) =
      λ n j a differ i.
      let seat : (r.rights n).0 ≡ j = ap (λ (z : Owner). z.0) i in
      ap (λ b. cond b (id, has_met) (r.rights n)) (ne_eqb (r.rights n).0 other (λ same. differ (sym seat ∙ same)))
      ∙ i in
      let move : (n : ℕ) (a : Right) → r.rights n ≡ (other, a) → rights n ≡ (id, has_met) =
      λ n a i.
      let seat : (r.rights n).0 ≡ other = ap (λ (z : Owner). z.0) i in
      ap (λ b. cond b (id, has_met) (r.rights n)) (eq-eqb (r.rights n).0 other seat) in
      let mine : id ≢ other = λ same. apart (sym same) in record {
        log = r.log;
        rights = rights;
        holder = r.holder;
        many = r.many;
        counts = r.counts;
        lies = r.lies;
        each = each_set K (set s.views id (joined v w)) other spent
            record {
              tagged = λ t e. absurd cc;
              saw = prefix_none r.log;
              heard = prefix_none r.log;
              own = λ m e. absurd cc;
              met = tt;
              free = λ a n e le. absurd cc;
              stage = tt;
            }
            (λ j u not_other at_j.
            each_set (λ j u. j ≢ other → K j u) s.views id (joined v w)
            (λ _. record {
              tagged = known.tagged;
              saw = known.saw;
              heard = theirs.saw;
              own = λ m e. let b = known.own m e in (stay m.number id may_make mine b.0, b.1);
              met = all_append _ v.met (with_own w.own w.met)
                  (all_map _ _ (λ m b. (stay m.number id has_met mine b.0, b.1)) v.met known.met)
                  (own_makers _ w.own w.met
                  (λ m e. let b = theirs.own m e in (move m.number may_make b.0, b.1))
                  (all_map _ _ (λ m b. (move m.number has_met b.0, b.1)) w.met theirs.met));
              free = λ a n e le. let c = known.free a n e le in (stay n id may_give mine c.0, c.1);
              stage = known.stage;
            })
            (λ j u _ at_j not_other.
            stays by tag r.log r.rights r.holder turn s.homes r.log rights r.holder turn s.homes j u
            (λ xs p. p)
            (λ n a i. (stay n j a not_other i, refl))
            (λ a b. (a, b, refl, refl))
            (r.each j u at_j))
            j u at_j not_other);
      }

  -- at the start
  pub opens : (x : S) → tag_of x ≡ tag → stands x []
      → Ruled stands by tag_of tag
      record { words = replicate WORDS 0; homes = some (Some x) ∷ []; views = first_view tag ∷ [] }
  opens x same right =
      let rights : ℕ → Owner = λ n. (0, may_give) in
      let K = Knows by tag [] rights 0 0 (some (Some x) ∷ []) in record {
        log = [];
        rights = rights;
        holder = 0;
        many = refl;
        counts = refl;
        lies = λ _. (x, refl, right, same);
        each = λ j v e.
            each_set K (first_view tag ∷ []) 0 (first_view tag)
            record {
              tagged = λ t e. cc (e);
              saw = prefix_none [];
              heard = prefix_none [];
              own = λ m e. absurd cc;
              met = tt;
              free = λ a n e le. (refl, refl);
              stage = tt;
            }
            (λ j u other at.
            elim j as (λ z. z ≢ 0 → get_elem? (first_view tag ∷ []) z ≡ some u → K z u)
            [ zero ↦ λ o _. absurd (o refl) | suc k ↦ λ _ a. absurd (some-ne-none u (sym a)) ] other at)
            j v e;
      }
