use Rattle.std.proofs.Common.{◌≡◌, ◌∙◌, ◌<◌, ℕ, List, [], ◌∷◌, length, ap, sym, subst, get_or, Some, None, arith}
use Rattle.std.specs.Prelude.{slice_index}
use Rattle.log_node.specs.declared.forms.Form.TheVariants as forms
use Rattle.log_node.specs.declared.node.Shape.{Shape}
use Rattle.object_form.specs.Forms.{form_text}
use Rattle.script_text.specs.declared.script.Kind.TheVariants as kinds
use Rattle.script_text.specs.declared.script.Object.{Object}
use Rattle.script_text.specs.declared.commands.What.TheVariants as whats
use Rattle.script_text.specs.declared.script.Command.{Command}
use Rattle.script_text.specs.Fitting.{IsKindWithin, HasObject, is_queue}
use Rattle.std.specs.List.{All}
use Rattle.object_fold.specs.Nodes.{shard_of}
use Rattle.lawful_run.specs.Asks.{object_colours}
use Rattle.report_text.specs.declared.report.Answer.{Answer}
use Rattle.world_laws.specs.Worlds.{World, home_of}
use Rattle.world_laws.specs.Laws.{IsReached}
use Rattle.world_code.specs.WorldView.{world_of}
use Rattle.script_meaning.specs.Appends.{appended_one}
use Rattle.script_meaning.specs.Objects.{caller_in, refusing_home}
use Rattle.script_meaning.proofs.CallerLemmas.{RunsTo, queue_colour}
use Rattle.script_in_order.specs.Doing.{DoneBy}
use Rattle.script_in_order.specs.Folds.{IsQueueAt, AreFolded}
use Rattle.script_in_order.proofs.FoldsKept.{folds_stay, queue_within}
use Rattle.script_in_order.proofs.ObjectHomes.{queue_at}
use Rattle.script_meaning.specs.States.{kind_in}
use Rattle.script_in_order.proofs.ObjectSteps.{kind_is}
use Rattle.script_in_order.proofs.DequeueSteps.{entered_of, entered_shape, entered_runs, only_shard, by_colours}
use Rattle.script_in_order.proofs.CommandKinds.{does_what}
use Rattle.script_in_order.proofs.queues.dequeue.Goals as goal

-- the queue's colour is the shard of no key
its_colour : (regions count : ℕ) (objects : List Object)
    → All (λ (o : Object). IsKindWithin regions count o.kind) objects → (object : ℕ) (other : Object) (shard : ℕ)
    → HasObject objects object is_queue
    → shard ≡ shard_of (object_colours (Some (get_or objects object other).kind)) []
    → (object_colours (kind_in objects object) ≡ shard ∷ []) × (shard < count)
its_colour regions count objects all object other shard has is =
    let q = queue_colour objects regions count all object has in
    let same = only_shard (object_colours (Some (get_or objects object other).kind)) q.0 shard
    (ap object_colours (kind_is objects object other has) ∙ q.1) is in
    (q.1 ∙ ap (λ (c : ℕ). c ∷ []) (sym same), subst (λ (c : ℕ). c < count) (sym same) q.2)

pub append_one-requires-clause-within : goal.append_one-requires-clause-within
append_one-requires-clause-within c =
    (its_colour c.args.world.now.shape.regions c.args.world.now.shape.colours c.args.objects.now c.requires.kinds
    c.args.object c.index-objects-object.result c.shard-colour.result c.requires.uses.0 c.shard-colour.ensures).1

-- the append did so, of the dequeue's text
did : (command : Command) (text : List ℕ) (colour : ℕ) (w new : World) (answer : Answer)
    → text ≡ form_text forms.Dequeue
    → DoneBy (λ grants state. appended_one grants state command text colour) command w new answer []
    → DoneBy (λ grants state. appended_one grants state command (form_text forms.Dequeue) colour) command w new answer []
did command text colour w new answer e d =
    subst (λ (t : List ℕ). DoneBy (λ grants state. appended_one grants state command t colour) command w new answer [])
    e d

pub read_behind-requires-clause-client : goal.read_behind-requires-clause-client
read_behind-requires-clause-client c =
    subst (λ (s : Shape). c.args.command.now.client < length s.homes)
    (sym (entered_shape c.args.command.now c.in_ok-text.text c.shard-colour.result (world_of c.args.world.now)
    (world_of c.append_one.new.world) c.in_ok-appended.appended
    (entered_of c.args.command.now c.in_ok-text.text c.shard-colour.result (world_of c.args.world.now)
    (world_of c.append_one.new.world) c.in_ok-appended.appended c.in_ok-appended.ensures.ok))) c.requires.caller

pub read_behind-requires-clause-colour : goal.read_behind-requires-clause-colour
read_behind-requires-clause-colour c =
    subst (λ (s : Shape). c.shard-colour.result < s.colours)
    (sym (entered_shape c.args.command.now c.in_ok-text.text c.shard-colour.result (world_of c.args.world.now)
    (world_of c.append_one.new.world) c.in_ok-appended.appended
    (entered_of c.args.command.now c.in_ok-text.text c.shard-colour.result (world_of c.args.world.now)
    (world_of c.append_one.new.world) c.in_ok-appended.appended c.in_ok-appended.ensures.ok)))
    (its_colour c.args.world.now.shape.regions c.args.world.now.shape.colours c.args.objects.now c.requires.kinds
    c.args.object c.index-objects-object.result c.shard-colour.result c.requires.uses.0 c.shard-colour.ensures).1

-- the queue is at home in the client's region, on this colour
queue_is : (w : World) (client : ℕ) (objects : List Object) (object shard : ℕ) → HasObject objects object is_queue
    → refusing_home (caller_in w objects client) (whats.Deq object) ≡ None
    → object_colours (kind_in objects object) ≡ shard ∷ [] → IsQueueAt w client objects object shard
queue_is w client objects object shard has near colours =
    let q = queue_at (home_of w client) objects object near has in
    let e : q.0 ∷ [] ≡ shard ∷ [] = ap object_colours (sym q.1) ∙ colours in
    let same : q.0 ≡ shard = cc in
    q.1 ∙ ap (λ (c : ℕ). Some (kinds.Queue (home_of w client) c)) same

pub read_behind-requires-clause-appended : goal.read_behind-requires-clause-appended
read_behind-requires-clause-appended c =
    let w = world_of c.args.world.now in
    let client = c.args.command.now.client in
    let at = its_colour c.args.world.now.shape.regions c.args.world.now.shape.colours c.args.objects.now
    c.requires.kinds c.args.object c.index-objects-object.result c.shard-colour.result c.requires.uses.0
    c.shard-colour.ensures in (
      w,
      did c.args.command.now c.in_ok-text.text c.shard-colour.result w (world_of c.append_one.new.world)
          c.in_ok-appended.appended c.in_ok-text.ensures c.in_ok-appended.ensures.ok,
      queue_within w c.args.objects.now c.args.folds.now c.requires.folded c.args.object (home_of w client)
          c.shard-colour.result _
          (queue_is w client c.args.objects.now c.args.object c.shard-colour.result c.requires.uses.0 c.requires.near at.0)
          (omega arith),
      c.agrees.ensures,
    )

-- the world after the append
module _ (w v : World) (reached : IsReached w) (command : Command) (text : List ℕ) (colour : ℕ) (answer : Answer)
    (d : DoneBy (λ grants state. appended_one grants state command text colour) command w v answer []) where
  to : RunsTo w v
  to = entered_runs command text colour w v answer (entered_of command text colour w v answer d)

pub read_behind-requires-clause-folded : goal.read_behind-requires-clause-folded
read_behind-requires-clause-folded c =
    let w = world_of c.args.world.now in
    let v = world_of c.append_one.new.world in
    let client = c.args.command.now.client in
    let at = its_colour c.args.world.now.shape.regions c.args.world.now.shape.colours c.args.objects.now
    c.requires.kinds c.args.object c.index-objects-object.result c.shard-colour.result c.requires.uses.0
    c.shard-colour.ensures in
    let did_so = c.in_ok-appended.ensures.ok in (
      c.args.objects.now,
      subst (λ (s : Shape). kind_in c.args.objects.now c.args.object
          ≡ Some (kinds.Queue (slice_index s.homes client) c.shard-colour.result))
          (sym (entered_shape c.args.command.now c.in_ok-text.text c.shard-colour.result w v
          c.in_ok-appended.appended (entered_of c.args.command.now c.in_ok-text.text c.shard-colour.result w v
          c.in_ok-appended.appended did_so)))
          (queue_is w client c.args.objects.now c.args.object c.shard-colour.result c.requires.uses.0 c.requires.near at.0),
      folds_stay w v c.agrees.ensures (to w v c.agrees.ensures c.args.command.now c.in_ok-text.text
          c.shard-colour.result c.in_ok-appended.appended did_so) c.args.objects.now c.args.folds.now c.requires.folded,
    )

pub returns-clause-ok : goal.returns-clause-ok
returns-clause-ok c =
    let w = world_of c.args.world.now in
    does_what c.args.objects.now c.args.command.now c.requires.asks (by_colours c.args.command.now (object_colours (kind_in c.args.objects.now c.args.object)) c.shard-colour.result w
    (world_of c.read_behind.new.world) c.read_behind.result
    (its_colour c.args.world.now.shape.regions c.args.world.now.shape.colours c.args.objects.now c.requires.kinds
    c.args.object c.index-objects-object.result c.shard-colour.result c.requires.uses.0 c.shard-colour.ensures).0
    (c.read_behind.ensures.done w
    (did c.args.command.now c.in_ok-text.text c.shard-colour.result w (world_of c.append_one.new.world)
    c.in_ok-appended.appended c.in_ok-text.ensures c.in_ok-appended.ensures.ok)))

pub returns-clause-folded : goal.returns-clause-folded
returns-clause-folded c =
    let w = world_of c.args.world.now in
    let v = world_of c.append_one.new.world in
    let client = c.args.command.now.client in
    let at = its_colour c.args.world.now.shape.regions c.args.world.now.shape.colours c.args.objects.now
    c.requires.kinds c.args.object c.index-objects-object.result c.shard-colour.result c.requires.uses.0
    c.shard-colour.ensures in
    let did_so = c.in_ok-appended.ensures.ok in
    c.read_behind.ensures.folded c.args.objects.now
    (subst (λ (s : Shape). kind_in c.args.objects.now c.args.object
    ≡ Some (kinds.Queue (slice_index s.homes client) c.shard-colour.result))
    (sym (entered_shape c.args.command.now c.in_ok-text.text c.shard-colour.result w v
    c.in_ok-appended.appended (entered_of c.args.command.now c.in_ok-text.text c.shard-colour.result w v
    c.in_ok-appended.appended did_so)))
    (queue_is w client c.args.objects.now c.args.object c.shard-colour.result c.requires.uses.0 c.requires.near at.0))
    (folds_stay w v c.agrees.ensures (to w v c.agrees.ensures c.args.command.now c.in_ok-text.text
    c.shard-colour.result c.in_ok-appended.appended did_so) c.args.objects.now c.args.folds.now c.requires.folded)

pub returns-in_err-appended-clause-folded : goal.returns-in_err-appended-clause-folded
returns-in_err-appended-clause-folded c =
    subst (λ (x : World). AreFolded x c.args.objects.now c.args.folds.now) (sym c.in_err-appended.ensures.err)
    c.requires.folded
