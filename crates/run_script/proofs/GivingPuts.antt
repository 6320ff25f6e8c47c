-- What a client gives to commands that append to an object, by what they say.
use Rattle.std.proofs.Common.{◌≡◌, ◌≢◌, ℕ, ◌<◌, ◌≤◌, List, [], ◌∷◌, length, false, Option, Some, None, Ok, Err, refl, ap, sym, subst, ◌∙◌, arith}
use Rattle.std.specs.Prelude.{◌%◌, IfErr, IfOk, Result, slice_index, sum}
use Rattle.std.proofs.lemmas.List.{length-map}
use Rattle.log_node.specs.declared.forms.Version.{Version}
use Rattle.log_node.specs.declared.ids.Colours.{Colours}
use Rattle.log_node.specs.declared.limits.TheConstants.{MAX_COLOURS}
use Rattle.log_node.specs.Sets.{members}
use Rattle.object_fold.specs.Nodes.{shard_of}
use Rattle.col_core.specs.Keeping.{Kept}
use Rattle.script_text.specs.declared.script.Kind.{Kind}
use Rattle.script_text.specs.declared.script.Kind.TheVariants as kinds
use Rattle.script_text.specs.declared.script.Object.{Object}
use Rattle.script_text.specs.declared.commands.What.{What}
use Rattle.script_text.specs.declared.uses.ReadUse.TheVariants.{Leaves}
use Rattle.script_text.specs.declared.uses.Use.{Use}
use Rattle.script_text.specs.declared.uses.Use.TheVariants.{OfObject}
use Rattle.script_text.specs.Commands.{use_of}
use Rattle.script_text.specs.Fitting.{is_tx}
use Rattle.report_text.specs.declared.report.Answer.{Answer}
use Rattle.lawful_run.specs.Asks.{Appending, kind_asked, kind_used, object_colours, object_home, shards}
use Rattle.lawful_run.specs.Deeds.{AsksToAppend, Reach, Reaches, Saying, SaysNode, ShardsOf, found_by, manner_of, saying_of, says}
use Rattle.lawful_run.proofs.CallerLemmas.{one_shard}
use Rattle.script_meaning.specs.States.{kind_in}
use Rattle.append_core.specs.declared.stood.Point.{Point}
use Rattle.log_client.specs.declared.store.Store.{Store}
use Rattle.log_client.specs.declared.client.Client.{Client}
use Rattle.log_client.specs.declared.answers.Appended.{Appended}
use Rattle.log_client.specs.declared.object_fault.ObjectFault.{ObjectFault}
use Rattle.log_client.specs.declared.object_fault.ObjectFault.TheVariants as faults
use Rattle.log_client.specs.Objects.{HasColoursOf, PutRefused, StandsIn}
use Rattle.log_client.specs.Reading.{RestsOn}
use Rattle.log_client.proofs.CallerLemmas.{shard_low}
use Rattle.run_script.specs.Replying.{append_answer}
use Rattle.run_script.specs.declared.serving.opened.Opened.{Opened}
use Rattle.run_script.specs.Opened.{kind_opened}
use Rattle.run_script.specs.Serving.{GivesOf, GivesTo}
use Rattle.run_script.proofs.GivingObjects.{TellsAway, gives_put, told_home, who}
use Rattle.run_script.proofs.ReadsFound.{gives_unread}

-- an append to so many colours has so many points
pub points_fit : (s : Store) (c d : Client) (colours text : List ℕ) (call : Result Appended ObjectFault) (room : ℕ)
    → IfOk call (StandsIn s c d colours text) → length colours ≤ room
    → IfOk call (λ a. length a.stood.points ≤ room)
points_fit s c d colours text (Ok a) room ok fits =
    let long = sym (length-map a.stood.points (λ (p : Point). p.colour)) ∙ ap length ok.points in
    omega (arith, long, fits)
points_fit s c d colours text (Err fault) room ok fits = tt

-- the one shard of a key
pub shard_alone : (c : Client) (colours key : List ℕ) → HasColoursOf c colours
    → shards colours (key ∷ []) ≡ shard_of colours key ∷ []
shard_alone c colours key are =
    let low = shard_low colours key are.some are.few in one_shard colours key (omega (arith, low))

-- an object of one colour has one shard
pub only_shard : (colour : ℕ) (key : List ℕ) → colour < MAX_COLOURS → shards (colour ∷ []) (key ∷ []) ≡ colour ∷ []
only_shard colour key low =
    one_shard (colour ∷ []) key (subst (λ (k : ℕ). k < MAX_COLOURS) (sym one) low) ∙ ap (λ (k : ℕ). k ∷ []) one where
      one : shard_of (colour ∷ []) key ≡ colour
      one = let e : sum key % 1 ≡ 0 = omega arith in ap (λ (i : ℕ). slice_index (colour ∷ []) i) e

-- Each of these commands, by the number of its object, says such a node where its object is of this kind, and is answered by
-- where that stands.
pub record SaysOf (kind : Kind) (asked : ℕ → What) (reach : Reach) (text : List ℕ) : Type 0 where
  pub uses : (object : ℕ) → use_of (asked object) ≡ OfObject object Leaves
  pub appends : (object : ℕ) → manner_of (asked object) ≡ Appending
  pub said : (object : ℕ) → saying_of (Some kind) None (asked object) ≡ says reach text

module _ (s : Store) (c d : Client) (on : RestsOn s c d) (x y : Opened) (same : kind_opened y ≡ kind_opened x)
    (call : Result Appended ObjectFault) (answer : Answer) (shown : answer ≡ append_answer call) where
  -- what is given to commands that say a node, where one was called with their text that stands in the colours of their reach
  pub gives_said : (kind : Kind) (asked : ℕ → What) (reach : Reach) (text colours : List ℕ) (home : Option ℕ)
      → SaysOf kind asked reach text → kind_opened x ≡ kind → is_tx kind ≡ false → object_home (Some kind) ≡ home
      → ((set : Colours) → members set ≡ colours → Reaches (object_colours (Some kind)) reach set) → TellsAway c home call
      → IfOk call (StandsIn s c d colours text) → IfErr call (PutRefused home s c d colours text)
      → GivesTo s c d x y asked answer
  gives_said kind asked reach text colours home its is no_reads homes reaches tells ok err =
      gives_unread s c d x y kind asked answer is same no_reads its.uses each where
        each : (objects : List Object) (object : ℕ) → kind_in objects object ≡ Some kind
            → GivesOf s objects c d (asked object) answer []
        each objects object at =
            subst (λ (a : Answer). GivesOf s objects c d (asked object) a []) (sym shown)
            (gives_put s c d on objects (asked object) (its.appends object) home (ap object_home kind_is ∙ homes) colours text asks
            call tells ok err) where
              kind_is : kind_asked (who s c d on objects) (asked object) ≡ Some kind
              kind_is = ap (kind_used (who s c d on objects)) (its.uses object) ∙ at

              asks : (kept : Kept) (set : Colours) → members set ≡ colours
                  → AsksToAppend (who s c d on objects) kept (asked object) set text
              asks kept set is =
                  subst (λ (k : Option Kind). SaysNode (object_colours k) (saying_of k (found_by (use_of (asked object)) kept) (asked object)) set text)
                  (sym kind_is)
                  (subst (λ (found : Option (List Version)). SaysNode (object_colours (Some kind)) (saying_of (Some kind) found (asked object)) set text)
                  (sym (ap (λ (u : Use). found_by u kept) (its.uses object)))
                  (subst (λ (said : Option Saying). SaysNode (object_colours (Some kind)) said set text) (sym (its.said object))
                  (reaches set is, refl)))

  -- the same of a key of a map
  pub gives_in_shard : (asked : ℕ → What) (home : ℕ) (colours : List ℕ) → HasColoursOf c colours
      → (c.region ≢ home → call ≡ Err (faults.NotHome home)) → (key text : List ℕ)
      → SaysOf (kinds.Map home colours) asked (ShardsOf (key ∷ [])) text → kind_opened x ≡ kinds.Map home colours
      → IfOk call (StandsIn s c d (shard_of colours key ∷ []) text)
      → IfErr call (PutRefused (Some home) s c d (shard_of colours key ∷ []) text)
      → GivesTo s c d x y asked answer
  gives_in_shard asked home colours are tells key text its is ok err =
      gives_said (kinds.Map home colours) asked (ShardsOf (key ∷ [])) text (shard_of colours key ∷ []) (Some home) its is refl refl
      (λ set is. is ∙ sym (shard_alone c colours key are)) (told_home c home call tells) ok err
