-- The queue: what waits after nodes in order, and what a dequeue answers.
use Rattle.std.specs.Prelude.{ℕ, List, [], ◌∷◌, ◌++◌, None, slice_get}
use Rattle.std.specs.List.{fold}
use Rattle.log_node.specs.declared.ids.Key.{Key}
use Rattle.log_node.specs.declared.forms.Form.{Form}
use Rattle.log_node.specs.declared.forms.Form.TheVariants as forms
use Rattle.object_form.specs.Readings.{form_of}
use Rattle.object_fold.specs.Nodes.{ObjectNode, nodes_before}
use Rattle.object_fold.specs.Maps.{Value}

-- what waits behind the front
abbrev pub behind_front : List (List ℕ) → List (List ℕ)
behind_front [] = []
behind_front (front ∷ others) = others

-- what waits after a form, the front first
abbrev pub queue_with : List (List ℕ) → Form → List (List ℕ)
queue_with waiting (forms.Enqueue value) = waiting ++ value ∷ []
queue_with waiting forms.Dequeue = behind_front waiting
queue_with waiting (forms.Put key value) = waiting
queue_with waiting (forms.Delete key) = waiting
queue_with waiting (forms.PutAll pairs) = waiting
queue_with waiting (forms.Transaction reads pairs) = waiting
queue_with waiting (forms.Causal key value) = waiting
queue_with waiting forms.Plain = waiting

-- what a form is answered over what waits: a dequeue the front, if there is one
abbrev pub answer_with : List (List ℕ) → Form → Value
answer_with waiting (forms.Enqueue value) = None
answer_with waiting forms.Dequeue = slice_get waiting 0
answer_with waiting (forms.Put key value) = None
answer_with waiting (forms.Delete key) = None
answer_with waiting (forms.PutAll pairs) = None
answer_with waiting (forms.Transaction reads pairs) = None
answer_with waiting (forms.Causal key value) = None
answer_with waiting forms.Plain = None

-- what waits after nodes, the first of them first
abbrev pub queue_after : List ObjectNode → List (List ℕ)
queue_after nodes = fold (λ waiting node. queue_with waiting (form_of node.text)) [] nodes

-- what a dequeue right after these nodes answers: the front, or none
abbrev pub front_after : List ObjectNode → Value
front_after nodes = slice_get (queue_after nodes) 0

-- what the dequeue that is the node with this key of a line answers
abbrev pub dequeued_by : Key → List ObjectNode → Value
dequeued_by key line = front_after (nodes_before key line)
