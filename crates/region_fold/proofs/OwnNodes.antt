-- The own node of an append among the nodes of the stamped read behind it.
use Rattle.std.proofs.Common.{◌≡◌, ◌⊎◌, inl, inr, ℕ, ◌≤◌, true, false, List, [], ◌∷◌, ◌++◌, length, Option, Some, None, refl, ap, sym, subst, ◌∙◌, arith, eq-eqb}
use Rattle.std.specs.Prelude.{◌==◌, slice_get}
use Rattle.std.proofs.lemmas.Bool.{and_from, cases_Bool}
use Rattle.std.proofs.lemmas.List.Elements.{All-contains}
use Rattle.log_node.specs.declared.ids.Key.{Key}
use Rattle.log_node.specs.declared.node.Node.{Node}
use Rattle.log_node.specs.Order.{same_id, same_key}
use Rattle.log_node.specs.Sets.{members}
use Rattle.log_node.proofs.CallerLemmas.{same_id-refl, same_key-is}
use Rattle.object_fold.specs.Nodes.{ObjectNode}
use Rattle.object_fold.specs.Folds.{IsAbsent, node_with, told_of}
use Rattle.object_fold.proofs.CallerLemmas.{found_there}
use Rattle.col_core.specs.History.{entry_key, line}
use Rattle.col_core.specs.Keeping.{Kept}
use Rattle.col_core.specs.Log.{Log}
use Rattle.col_core.proofs.CallerLemmas.{In, contains_in}
use Rattle.report_text.specs.declared.report.PointPiece.{PointPiece}
use Rattle.lawful_run.specs.Appends.{Appends, StandsAt}
use Rattle.lawful_run.specs.Callers.{Caller}
use Rattle.lawful_run.specs.Objects.{AreObjectNodes, IsObjectNode}
use Rattle.region_fold.specs.Reads.{IsOwn}

-- WHERE IT STANDS

-- what an append that was answered says of its node: it stands in one of its colours
pub record OwnStands (log : Log) (caller : Caller) (kept : Kept) (node : Node) (stamp : ℕ) (after : Kept) : Type 0 where
  pub colour : ℕ
  pub among : In colour (members node.colours)
  pub position : ℕ
  pub there : slice_get (line (log.histories caller.own colour)) position ≡ Some (entry_key stamp node.id)
  pub next : slice_get (log.nodes caller.client) kept.ids ≡ Some node
  pub floor : stamp ≤ after.floor

pub own_stands : (log : Log) (caller : Caller) (kept : Kept) (node : Node) (stamp : ℕ) (row : Option ℕ)
    (points : List PointPiece) (after : Kept) → Appends log caller kept node stamp row points after
    → OwnStands log caller kept node stamp after
own_stands log caller kept node stamp None [] after a = absurd a
own_stands log caller kept node stamp None (p ∷ []) after a = record {
  colour = p.colour;
  among = subst (In p.colour) (sym a.0) (inl refl);
  position = p.position;
  there = a.3.stands;
  next = a.3.next;
  floor = subst (λ (k : Kept). stamp ≤ k.floor) (sym a.4) (omega arith);
}
own_stands log caller kept node stamp None (p ∷ q ∷ points) after a = absurd a
own_stands log caller kept node stamp (Some number) [] after a =
    absurd (let several = a.2.begins.several in let none = ap length a.2.colours in let f : ⊥ = omega (arith, several, none) in f)
own_stands log caller kept node stamp (Some number) (p ∷ points) after a = record {
  colour = p.colour;
  among = subst (In p.colour) a.2.colours (inl refl);
  position = p.position;
  there = (All-contains (StandsAt log caller kept node stamp) (p ∷ points) p a.2.each
      (contains_in (p ∷ points) p (inl refl))).stands;
  next = a.2.begins.next;
  floor = subst (λ (k : Kept). stamp ≤ k.floor) (sym a.3) (omega arith);
}

-- AMONG WHAT WAS READ

-- the first node with the key
pub record FirstOf (log : Log) (own : Key) (nodes : List ObjectNode) : Type 0 where
  pub before : List ObjectNode
  pub node : ObjectNode
  pub behind : List ObjectNode
  pub apart : nodes ≡ before ++ node ∷ behind
  pub others : IsAbsent own before
  pub same : same_key node.key own ≡ true
  pub its_own : IsObjectNode log own node

pub key_itself : (key : Key) → same_key key key ≡ true
key_itself key =
    and_from (key.stamp == key.stamp) (same_id key.id key.id) (eq-eqb key.stamp key.stamp refl) (same_id-refl key.id)

same_itself : (k own : Key) → k ≡ own → same_key own own ≡ true → same_key k own ≡ true
same_itself k own e t = subst (λ (x : Key). same_key x own ≡ true) (sym e) t

pub first_of : (log : Log) (own : Key) → same_key own own ≡ true → (keys : List Key) (nodes : List ObjectNode)
    → AreObjectNodes log keys nodes → In own keys → FirstOf log own nodes
first_of log own itself [] nodes are i = absurd i
first_of log own itself (k ∷ keys) [] are i = absurd are
first_of log own itself (k ∷ keys) (n ∷ nodes) are i = elim (cases_Bool (same_key n.key own)) [
  | inl t ↦ record {
    before = [];
    node = n;
    behind = nodes;
    apart = refl;
    others = tt;
    same = t;
    its_own = subst (λ (x : Key). IsObjectNode log x n) (sym are.0.key_is ∙ same_key-is n.key own t) are.0;
  }
  | inr f ↦
      (let rest = first_of log own itself keys nodes are.1 (behind i f) in record {
        before = n ∷ rest.before;
        node = rest.node;
        behind = rest.behind;
        apart = ap (λ (l : List ObjectNode). n ∷ l) rest.apart;
        others = (f, rest.others);
        same = rest.same;
        its_own = rest.its_own;
      })
] where
  behind : (k ≡ own) ⊎ In own keys → same_key n.key own ≡ false → In own keys
  behind (inl e) f = absurd (
      let t = same_itself n.key own (are.0.key_is ∙ e) itself in
      let both : true ≡ false = sym t ∙ f in let g : ⊥ = cc (both) in g
      )
  behind (inr j) f = j

-- The own node is among those that were read, as it was appended.
pub is_own : {T : Type 0} (told : List ObjectNode → ObjectNode → Option T) (log : Log) (own : Key) (keys : List Key)
    (nodes : List ObjectNode) (node : Node) (answer : Option T) → same_key own own ≡ true → AreObjectNodes log keys nodes
    → In own keys → slice_get (log.nodes own.id.client) own.id.count ≡ Some node → answer ≡ told_of told nodes own
    → IsOwn told own node.text answer nodes
is_own told log own keys nodes node answer itself are i next is =
    let f = first_of log own itself keys nodes are i in
    let appended : f.its_own.appended ≡ node =
    (let e : Some f.its_own.appended ≡ Some node = sym f.its_own.there ∙ next in cc (e)) in record {
      node = f.node;
      among = ap (node_with own) f.apart ∙ found_there own f.before f.node f.behind f.others f.same;
      key_is = same_key-is f.node.key own f.same;
      text_is = f.its_own.text ∙ ap (λ (x : Node). x.text) appended;
      answer_is = is;
    }

-- nodes whose keys are all other ones
pub others_absent : (log : Log) (own : Key) (keys : List Key) (nodes : List ObjectNode) → AreObjectNodes log keys nodes
    → ((k : Key) → In k keys → same_key k own ≡ false) → IsAbsent own nodes
others_absent log own [] [] are other = tt
others_absent log own [] (n ∷ nodes) are other = absurd are
others_absent log own (k ∷ keys) [] are other = absurd are
others_absent log own (k ∷ keys) (n ∷ nodes) are other = (
  subst (λ (x : Key). same_key x own ≡ false) (sym are.0.key_is) (other k (inl refl)),
  others_absent log own keys nodes are.1 (λ x i. other x (inr i)),
)
