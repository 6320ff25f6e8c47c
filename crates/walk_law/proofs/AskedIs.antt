-- The colours on which a command appends are those of its object and of what its read showed.
use Rattle.std.proofs.Common.{◌≡◌, ◌∙◌, ℕ, List, [], ◌∷◌, ◌++◌, Option, Some, None, map, refl, ap, sym}
use Rattle.log_node.specs.declared.forms.Pair.{Pair}
use Rattle.log_node.specs.declared.forms.Version.{Version}
use Rattle.std.specs.Option.{option_map}
use Rattle.tree_fold.specs.declared.change.Change.{Change}
use Rattle.tree_fold.specs.Changes.{change_keys}
use Rattle.tree_fold.specs.Readings.{below_root_of, make_of, move_of, remove_of}
use Rattle.col_core.specs.Keeping.{Kept}
use Rattle.script_text.specs.declared.commands.What.{What}
use Rattle.script_text.specs.declared.commands.What.TheVariants as whats
use Rattle.script_text.specs.Commands.{use_of}
use Rattle.report_text.specs.declared.report.KeyAnswer.{KeyAnswer}
use Rattle.lawful_run.specs.Callers.{Caller}
use Rattle.lawful_run.specs.Asks.{kind_asked, keys_of_pairs, object_colours, shards}
use Rattle.lawful_run.specs.Deeds.{Saying, ShardsOf, TextSaid, found_by, says_change}
use Rattle.run_rules.specs.Told.{colours_asked, colours_said}
use Rattle.walk_law.specs.Asking.{AreFoundOf, asked_of, changed_of, colours_in, committed_of, keys_shown, shards_of}

changed_is : (own all : List ℕ) (change : Option Change) → own ≡ all
    → changed_of own change ≡ colours_said all (says_change change)
unfolding shards_of
changed_is own all None e = refl
changed_is own all (Some change) e = ap (λ (o : List ℕ). shards o (change_keys change)) e

committed_is : (own all : List ℕ) (found : Option (List Version)) (shown : Option (List KeyAnswer)) (pairs : List Pair)
    (text : List Version → TextSaid) → own ≡ all → AreFoundOf found shown
    → committed_of own shown pairs ≡ colours_said all (option_map (λ (versions : List Version). let s : Saying = record {
      reach = ShardsOf (map (λ (v : Version). v.key) versions ++ keys_of_pairs pairs);
      text = text versions;
    } in s) found)
unfolding shards_of
committed_is own all None None pairs text e f = refl
committed_is own all None (Some shown) pairs text e f = absurd f
committed_is own all (Some found) None pairs text e f = absurd f
committed_is own all (Some found) (Some shown) pairs text e f =
    ap (λ (o : List ℕ). shards o (keys_shown shown ++ keys_of_pairs pairs)) e
    ∙ ap (λ (ks : List (List ℕ)). shards all (ks ++ keys_of_pairs pairs)) (sym f)

pub asked_is : (caller : Caller) (kept : Kept) (own : List ℕ) (shown : Option (List KeyAnswer)) (what : What)
    → own ≡ object_colours (kind_asked caller what) → AreFoundOf (found_by (use_of what) kept) shown
    → asked_of own shown what ≡ colours_asked caller kept what
unfolding colours_in shards_of
asked_is caller kept own shown (whats.Append colours text) e f = refl
asked_is caller kept own shown (whats.Stop steps colours text) e f = refl
asked_is caller kept own shown (whats.Put object key value) e f = ap (λ (o : List ℕ). shards o (key ∷ [])) e
asked_is caller kept own shown (whats.Del object key) e f = ap (λ (o : List ℕ). shards o (key ∷ [])) e
asked_is caller kept own shown (whats.PutAll object pairs) e f = ap (λ (o : List ℕ). shards o (keys_of_pairs pairs)) e
asked_is caller kept own shown (whats.Commit object pairs) e f =
    committed_is own (object_colours (kind_asked caller (whats.Commit object pairs))) (kept.reads object) shown pairs _ e f
asked_is caller kept own shown (whats.Enq object value) e f = e
asked_is caller kept own shown (whats.Deq object) e f = e
asked_is caller kept own shown (whats.Only colour text) e f = refl
asked_is caller kept own shown (whats.Mk object path value) e f =
    changed_is own (object_colours (kind_asked caller (whats.Mk object path value))) (make_of (below_root_of path) value) e
asked_is caller kept own shown (whats.Rm object path) e f =
    changed_is own (object_colours (kind_asked caller (whats.Rm object path))) (remove_of (below_root_of path)) e
asked_is caller kept own shown (whats.Mv object source target) e f =
    changed_is own (object_colours (kind_asked caller (whats.Mv object source target)))
    (move_of (below_root_of source) (below_root_of target)) e
asked_is caller kept own shown (whats.Decide object key) e f = ap (λ (o : List ℕ). shards o (key ∷ [])) e
asked_is caller kept own shown _ e f = refl
