-- Which commands append a transaction's or a decision's text, and on which colours.
use Rattle.std.proofs.Common.{◌≡◌, ◌⊎◌, inl, inr, ℕ, Bool, true, false, ◌&&◌, List, [], ◌∷◌, ◌++◌, map, Option, Some, None, refl, ap, sym, subst, ◌∙◌}
use Rattle.std.specs.Option.{option_map}
use Rattle.log_node.specs.declared.ids.Colours.{Colours}
use Rattle.log_node.specs.declared.forms.Pair.{Pair}
use Rattle.log_node.specs.declared.forms.Version.{Version}
use Rattle.log_node.specs.declared.forms.Form.TheVariants as forms
use Rattle.log_node.specs.Sets.{members}
use Rattle.object_form.specs.Forms.{form_text}
use Rattle.part_fold.specs.declared.decision.Decision.{Decision}
use Rattle.part_fold.specs.Decisions.{decision_text}
use Rattle.tree_fold.specs.declared.change.Change.{Change}
use Rattle.tree_fold.specs.declared.change.Change.TheVariants.{Make, Remove, Move}
use Rattle.tree_fold.specs.Changes.{change_text}
use Rattle.tree_fold.specs.Readings.{below_root_of, make_of, remove_of, move_of}
use Rattle.col_core.specs.Keeping.{Kept}
use Rattle.col_core.proofs.CallerLemmas.{apart}
use Rattle.script_text.specs.declared.script.Kind.{Kind}
use Rattle.script_text.specs.declared.script.Kind.TheVariants as kinds
use Rattle.script_text.specs.declared.commands.What.{What}
use Rattle.script_text.specs.declared.commands.What.TheVariants as whats
use Rattle.script_text.specs.Apart.{has_parts, is_reserved}
use Rattle.script_text.specs.Commands.{content_of, use_of}
use Rattle.script_text.specs.Pieces.{is_transactional}
use Rattle.lawful_run.specs.Callers.{Caller}
use Rattle.lawful_run.specs.Asks.{colours_of_object, kind_asked, keys_of_pairs, put_form, shards}
use Rattle.lawful_run.specs.Deeds.{AsksToAppend, Exactly, Listed, Named, NoColours, One, Reach, Reaches, Saying, SaysNode, ShardThenWhole, ShardsOf, Whole, found_by, saying_of, says_change}
use Rattle.part_law.specs.Premises.{IsFree}

-- ONE SET OF COLOURS

same_reach : (own : List ℕ) (reach : Reach) (a b : Colours) → Reaches own reach a → Reaches own reach b
    → members a ≡ members b
same_reach own (Named asked) a b x y = ap (λ (c : Colours). members c) (x ∙ sym y)
same_reach own NoColours a b x y = x ∙ sym y
same_reach own (One colour) a b x y = x ∙ sym y
same_reach own (ShardsOf keys) a b x y = x ∙ sym y
same_reach own Whole a b x y = x ∙ sym y
same_reach own Listed a b x y = x ∙ sym y
same_reach own (ShardThenWhole key) a b x y = x ∙ sym y

same_said : (own : List ℕ) (saying : Option Saying) (a b : Colours) (t u : List ℕ) → SaysNode own saying a t
    → SaysNode own saying b u → members a ≡ members b
same_said own None a b t u x y = absurd x
same_said own (Some saying) a b t u x y = same_reach own saying.reach a b x.0 y.0

-- a command appends on one set of colours
pub same_colours : (caller : Caller) (kept : Kept) (what : What) (a b : Colours) (t u : List ℕ)
    → AsksToAppend caller kept what a t → AsksToAppend caller kept what b u → members a ≡ members b
same_colours caller kept what a b t u x y =
    same_said _ (saying_of (kind_asked caller what) (found_by (use_of what) kept) what) a b t u x y

-- WHICH TEXT

-- the command commits, and its node has the shards of the keys that it read and writes
pub record Commits (caller : Caller) (kept : Kept) (what : What) (colours : Colours) (text : List ℕ) : Type 0 where
  pub object : ℕ
  pub pairs : List Pair
  pub asks : what ≡ whats.Commit object pairs
  pub versions : List Version
  pub found : kept.reads object ≡ Some versions
  pub on : members colours
      ≡ shards (colours_of_object caller object) (map (λ (v : Version). v.key) versions ++ keys_of_pairs pairs)
  pub says : text ≡ form_text (forms.Transaction versions pairs)

-- the command decides, and its node has the shard of its key
pub record DecidesBy (caller : Caller) (what : What) (colours : Colours) (text : List ℕ) : Type 0 where
  pub object : ℕ
  pub key : List ℕ
  pub asks : what ≡ whats.Decide object key
  pub on : members colours ≡ shards (colours_of_object caller object) (key ∷ [])
  pub decision : Decision
  pub says : text ≡ decision_text decision

put_says : (kind : Option Kind) (key value : List ℕ) → is_transactional (form_text (put_form kind key value)) ≡ false
put_says (Some (kinds.Causal colour)) key value = refl
put_says (Some (kinds.Map home colours)) key value = refl
put_says (Some (kinds.Tx home colours)) key value = refl
put_says (Some (kinds.Queue home colour)) key value = refl
put_says (Some (kinds.Tree home colours)) key value = refl
put_says (Some (kinds.Parts home colours)) key value = refl
put_says None key value = refl

change_says : (change : Change) → is_transactional (change_text change) ≡ false
change_says (Make path value) = refl
change_says (Remove path) = refl
change_says (Move source target) = refl

abbrev pub IsOne : Caller → Kept → What → Colours → List ℕ → Type 0
IsOne caller kept what colours text =
    (is_transactional text ≡ false) ⊎ (Commits caller kept what colours text ⊎ DecidesBy caller what colours text)

-- each command that appends writes another text, or commits, or decides
pub which : (caller : Caller) (kept : Kept) (what : What) (colours : Colours) (text : List ℕ)
    → has_parts caller.objects ≡ true → IsFree caller.objects (content_of what)
    → AsksToAppend caller kept what colours text → IsOne caller kept what colours text
which caller kept what colours text parts = by what where
  other : (said : List ℕ) → text ≡ said → is_transactional said ≡ false → is_transactional text ≡ false
  other said e non = subst (λ (t : List ℕ). is_transactional t ≡ false) (sym e) non

  free : (said : List ℕ) → is_reserved caller.objects said ≡ false → is_transactional said ≡ false
  free said f = first (is_transactional said) (has_parts caller.objects) f parts where
    first : (a b : Bool) → (a && b) ≡ false → b ≡ true → a ≡ false
    first true b e t = absurd (apart b t e)
    first false b e t = refl

  changed : (own : List ℕ) (change : Option Change) → SaysNode own (says_change change) colours text
      → is_transactional text ≡ false
  changed own None a = absurd a
  changed own (Some change) a = other (change_text change) a.1 (change_says change)

  committed : (object : ℕ) (pairs : List Pair) (found : Option (List Version)) → kept.reads object ≡ found
      → SaysNode (colours_of_object caller object)
      (option_map (λ (versions : List Version). record {
        reach = ShardsOf (map (λ (v : Version). v.key) versions ++ keys_of_pairs pairs);
        text = Exactly (form_text (forms.Transaction versions pairs));
      }) found) colours text → Commits caller kept (whats.Commit object pairs) colours text
  committed object pairs None e a = absurd a
  committed object pairs (Some versions) e a = record {
    object = object;
    pairs = pairs;
    asks = refl;
    versions = versions;
    found = e;
    on = a.0;
    says = a.1;
  }

  by : (what : What) → IsFree caller.objects (content_of what) → AsksToAppend caller kept what colours text
      → (is_transactional text ≡ false) ⊎ (Commits caller kept what colours text ⊎ DecidesBy caller what colours text)
  by (whats.Append asked said) f a = inl (other said a.1 (free said f))
  by (whats.Stop steps asked said) f a = inl (other said a.1 (free said f))
  by (whats.Only colour said) f a = inl (other said a.1 (free said f))
  by (whats.Put object key value) f a =
      inl (other _ a.1 (put_says (kind_asked caller (whats.Put object key value)) key value))
  by (whats.Del object key) f a = inl (other (form_text (forms.Delete key)) a.1 refl)
  by (whats.PutAll object pairs) f a = inl (other (form_text (forms.PutAll pairs)) a.1 refl)
  by (whats.Enq object value) f a = inl (other (form_text (forms.Enqueue value)) a.1 refl)
  by (whats.Deq object) f a = inl (other (form_text forms.Dequeue) a.1 refl)
  by (whats.Mk object path value) f a = inl (changed _ (make_of (below_root_of path) value) a)
  by (whats.Rm object path) f a = inl (changed _ (remove_of (below_root_of path)) a)
  by (whats.Mv object source target) f a = inl (changed _ (move_of (below_root_of source) (below_root_of target)) a)
  by (whats.Commit object pairs) f a = inr (inl (committed object pairs (kept.reads object) refl a))
  by (whats.Decide object key) f a = inr (inr (record {
    object = object;
    key = key;
    asks = refl;
    on = a.0;
    decision = a.1.0;
    says = a.1.1;
  }))
  by (whats.Sync colour) f a = absurd a
  by (whats.Scan asked) f a = absurd a
  by (whats.Pull region colour) f a = absurd a
  by (whats.Trim colour) f a = absurd a
  by (whats.Get object key) f a = absurd a
  by (whats.GetAll object keys) f a = absurd a
  by (whats.Read object keys) f a = absurd a
  by (whats.Ls object path) f a = absurd a
  by (whats.Peek object key) f a = absurd a
