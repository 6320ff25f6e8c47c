-- A peek's value is that of the whole transactional map.
use Rattle.std.proofs.Common.{◌≡◌, inl, inr, ℕ, List, [], ◌∷◌, map, Option, Some, slice_get, refl, ap, sym, subst, ◌∙◌}
use Rattle.std.specs.Prelude.{◌≢◌, take}
use Rattle.std.specs.List.{All, AllPairs, AllZip}
use Rattle.std.proofs.lemmas.List.Elements.{All-contains}
use Rattle.log_node.specs.declared.ids.Key.{Key}
use Rattle.log_node.specs.Vectors.{at}
use Rattle.object_fold.specs.Maps.{Value}
use Rattle.object_fold.specs.Nodes.{ObjectNode, shard_of}
use Rattle.object_fold.specs.Transactions.{value_of, writes_after}
use Rattle.col_core.proofs.CallerLemmas.{all_in, contains_in, In, in_contains, slice_in}
use Rattle.script_text.specs.declared.script.Command.{Command}
use Rattle.script_text.specs.declared.script.Kind.{Kind}
use Rattle.script_text.specs.declared.script.Kind.TheVariants as kinds
use Rattle.script_text.specs.declared.script.Object.{Object}
use Rattle.script_text.specs.declared.script.Script.{Script}
use Rattle.script_text.specs.declared.commands.What.{What}
use Rattle.script_text.specs.declared.commands.What.TheVariants as whats
use Rattle.script_text.specs.declared.uses.ReadUse.TheVariants.{Leaves}
use Rattle.script_text.specs.declared.uses.Use.TheVariants.{OfObject}
use Rattle.script_text.specs.Apart.{colours_of}
use Rattle.script_text.specs.Fitting.{IsFitting}
use Rattle.report_text.specs.declared.report.Answer.{Answer}
use Rattle.report_text.specs.declared.report.Answer.TheVariants as answers
use Rattle.report_text.specs.declared.report.SyncPiece.{SyncPiece}
use Rattle.report_text.specs.declared.report.Report.{Report}
use Rattle.lawful_run.specs.Callers.{Caller, caller_of}
use Rattle.lawful_run.specs.Asks.{kind_of_object, object_colours, shards}
use Rattle.lawful_run.specs.Deeds.{Deed, ShardsOf}
use Rattle.lawful_run.specs.Explains.{Explains}
use Rattle.lawful_run.specs.Lawful.{LawfulRun}
use Rattle.lawful_run.specs.Objects.{AreObjectNodes}
use Rattle.lawful_run.specs.ObjectReadings.{IsNodeOf}
use Rattle.lawful_run.specs.Parts.{AnswersGet, HasPartValue, HasValue, OfPart}
use Rattle.part_law.specs.Laws.{PeeksAgree}
use Rattle.lawful_run.proofs.CallerLemmas.{zip_of}
use Rattle.part_law.proofs.Colours.{object_of, shard_is}
use Rattle.part_law.proofs.Lists.{zip_made, zip_map}
use Rattle.part_law.proofs.Reading.{AreLogged, IsLogged, Reading, Reason, all_logged}
use Rattle.part_law.proofs.AllNodes.{agreeing}
use Rattle.part_law.proofs.Standing.{Cited, in_lines, same_node}

-- What a peek is answered by, of a key of an object that keeps its colours to itself.
record Peeked (caller : Caller) (colours key : List ℕ) (sync : SyncPiece) (value : Value) (nodes : List ObjectNode)
    : Type 0 where
  shard : sync.colour ≡ shard_of colours key
  part : OfPart colours sync.colour (HasPartValue key value) nodes

peeked : (caller : Caller) (object home : ℕ) (colours key : List ℕ) (sync : SyncPiece) (value : Value)
    (nodes : List ObjectNode) → kind_of_object caller object ≡ Some (kinds.Parts home colours)
    → AnswersGet caller (whats.Peek object key) sync value nodes → Peeked caller colours key sync value nodes
peeked caller object home colours key sync value nodes kind (inr d) =
    absurd (let e = d.1.2 in let f : ⊥ = cc (e) in f)
peeked caller object home colours key sync value nodes kind (inl g) =
    let asks = g.2 in
    let uses : OfObject object Leaves ≡ OfObject asks.0 Leaves = asks.1.uses in
    let same : object ≡ asks.0 = cc (uses) in
    let reach : ShardsOf (key ∷ []) ≡ ShardsOf (g.1 ∷ []) = ap (λ (d : Deed). d.syncs) asks.1.gets in
    let same_key : key ≡ g.1 = cc (reach) in
    let is : g.0 ≡ Some (kinds.Parts home colours) =
    sym asks.2 ∙ (ap (λ (o : ℕ). kind_of_object caller o) (sym same) ∙ kind) in
    record {
      shard = shard_is colours key sync.colour
          (ap (λ (k : Option Kind). shards (object_colours k) (key ∷ [])) (sym kind) ∙ asks.3);
      part = subst (λ (k : List ℕ). OfPart colours sync.colour (HasPartValue k value) nodes) (sym same_key)
          (subst (λ (k : Option Kind). HasValue k sync.colour g.1 value nodes) is g.3);
    }

-- the law, by what is told of each run
pub peeks_by : Cited
    → ((script : Script) (report : Report) → IsFitting script → (run : LawfulRun script report) → Reading run) → PeeksAgree
peeks_by cited readings script report fits apart texts differ run client n reply has value sync is object key asks home colours kind line closes lines closing upto are =
    (nodes, record { keys_are = keys_are; each = each }, value_is) where
      own : ℕ
      own = (caller_of script client).own

      reading : Reading run
      reading = readings script report fits run

      why : Reason run client n reply
      why = reading.reason client n reply has

      what : why.command.what ≡ whats.Peek object key
      what =
          let e : Some why.command ≡ Some asks.0 = sym why.asked ∙ asks.1 in
          let f : why.command ≡ asks.0 = cc (e) in
          ap (λ (c : Command). c.what) f ∙ asks.2

      explained : Explains run.log (caller_of script client) why.kept (whats.Peek object key) (answers.Got value sync) reply.nodes why.after
      explained =
          subst (λ (a : Answer). Explains run.log (caller_of script client) why.kept (whats.Peek object key) a reply.nodes why.after) is
          (subst (λ (w : What). Explains run.log (caller_of script client) why.kept w reply.answer reply.nodes why.after) what why.explained)

      mine : List ObjectNode
      mine = explained.1.0

      told : Peeked (caller_of script client) colours key sync value mine
      told = peeked (caller_of script client) object home colours key sync value mine kind explained.1.2

      played : List Key
      played = take (at sync.counts own) line

      theirs : AreLogged run.log played mine
      theirs = all_logged run.log played mine (subst (λ (ks : List Key). AreObjectNodes run.log ks mine)
          (sym (reading.played client why.kept sync explained.2 line closes)) explained.1.1)

      held : (o : Object) × (slice_get script.objects object ≡ Some o) × (o.kind ≡ kinds.Parts home colours)
      held = object_of script.objects object (kinds.Parts home colours) kind

      apart_colours : AllPairs (λ (a b : ℕ). a ≢ b) colours
      apart_colours = subst (λ (k : Kind). AllPairs (λ (a b : ℕ). a ≢ b) (colours_of k)) held.2
          (All-contains (λ (o : Object). AllPairs (λ (a b : ℕ). a ≢ b) (colours_of o.kind)) script.objects held.0 differ
          (contains_in script.objects held.0 (slice_in script.objects object held.0 held.1)))

      -- the node of a key
      node_at : (k : Key) → In k upto → (node : ObjectNode) × IsLogged run.log k node × IsNodeOf run node
      node_at k i =
          let o = are.no_other k (contains_in upto k i) in
          let l = in_lines script report fits apart texts run reading cited own object held.0 held.1 home colours held.2 lines closing
          o.1 k (in_contains lines o.1 o.2) (in_contains o.1 k o.3) in
          let x = reading.nodes own l.colour l.line l.is k l.inside in (x.node, x.is, x.appended)

      made : (ns : List ObjectNode) × AllZip (IsLogged run.log) upto ns
      made = zip_made (IsLogged run.log) upto (λ k i. let x = node_at k i in (x.0, x.1))

      nodes : List ObjectNode
      nodes = made.0

      keys_are : map (λ (x : ObjectNode). x.key) nodes ≡ upto
      keys_are = zip_map (IsLogged run.log) (λ (x : ObjectNode). x.key) (λ k x o. o.key_is) upto nodes made.1

      each_is : (m : ObjectNode) → In m nodes → IsNodeOf run m
      each_is m i = subst (IsNodeOf run) (same_node run z.0 y.0 m y.1 z.2) y.2 where
        z : (k : Key) × In k upto × IsLogged run.log k m
        z = zip_of (IsLogged run.log) upto nodes made.1 m i

        y : (node : ObjectNode) × IsLogged run.log z.0 node × IsNodeOf run node
        y = node_at z.0 z.1

      each : All (IsNodeOf run) nodes
      each = all_in (IsNodeOf run) nodes each_is

      value_is : value ≡ value_of (writes_after nodes) key
      value_is =
          let part = told.part in
          part.2.1 ∙ agreeing script report fits apart texts run reading cited own object held.0 held.1 home colours held.2 lines closing
          played upto are nodes made.1 sync.colour (slice_in colours part.0 sync.colour part.1) line closes (at sync.counts own) refl mine theirs
          part.0 part.1 apart_colours key told.shard part.2.0
