-- The command from which an id comes.
use Rattle.std.proofs.Common.{◌≡◌, ℕ, ◌<◌, List, [], ◌∷◌, length, Some, slice_get, refl, ap, sym, subst, ◌∙◌, inl, inr, arith}
use Rattle.std.specs.Prelude.{◌≢◌}
use Rattle.std.specs.List.{Contains}
use Rattle.log_node.specs.declared.ids.Id.{Id}
use Rattle.log_node.specs.declared.ids.Colours.{Colours}
use Rattle.log_node.specs.Sets.{members}
use Rattle.col_core.specs.Log.{Log}
use Rattle.col_core.specs.Keeping.{Kept}
use Rattle.script_text.specs.declared.script.Command.{Command}
use Rattle.report_text.specs.declared.report.ReplyLine.{ReplyLine}
use Rattle.lawful_run.specs.Callers.{Caller, node_of}
use Rattle.lawful_run.specs.Deeds.{AsksToAppend}
use Rattle.lawful_run.specs.Explains.{Answers, Explained, start, next}
use Rattle.lawful_run.specs.Readings.{Nowhere, told, kept_at}
use Rattle.std.proofs.lemmas.Bool.{cases_lt}
use Rattle.lawful_run.proofs.Prefixes.{get_within}
use Rattle.lawful_run.proofs.Replies.{Step, step_later, newest_step, kept_before, kept_end}
use Rattle.lawful_run.proofs.Traces.{IsSingleAt, in_none}
use Rattle.lawful_run.proofs.Uses.{Fate, Uses, Leaves}
use Rattle.lawful_run.proofs.Used.{answer_use}

-- a command of the client used the id for a node on these colours and with this text
pub record Origin {log : Log} {caller : Caller} {commands : List Command} {replies : List ReplyLine} {last : Kept}
    (e : Explained log caller commands replies last) (id : Id) : Type 0 where
  pub k : ℕ
  pub step : Step e k
  pub kept : Kept
  pub kept_is : kept ≡ kept_at e k
  pub colours : Colours
  pub text : List ℕ
  pub asks : AsksToAppend caller kept step.command.what colours text
  pub id_is : id ≡ record { client = caller.client; count = kept.ids }
  -- what the client kept when it appended the node
  pub over : Kept
  pub node : slice_get (log.nodes caller.client) kept.ids ≡ Some (node_of caller over colours text)
  pub fate : Fate log (told step.reply.answer) (node_of caller over colours text)

-- by a single of the colour
pub record AloneAt {log : Log} {caller : Caller} {commands : List Command} {replies : List ReplyLine} {last : Kept}
    (e : Explained log caller commands replies last) (region colour : ℕ) (id : Id) : Type 0 where
  pub origin : Origin e id
  pub own : region ≡ caller.own
  pub only : members origin.colours ≡ colour ∷ []
  pub stands : told origin.step.reply.answer ≢ Nowhere

module _ {log : Log} {caller : Caller} {commands : List Command} {replies : List ReplyLine} {kept after : Kept}
    (command : Command) (reply : ReplyLine)
    (e : Explained log caller commands replies kept) (a : Answers log caller kept command reply after) where
  origin_later : (id : Id) → Origin e id → Origin (next command reply e a) id
  origin_later id o = record {
    k = o.k;
    step = step_later command reply e a o.k o.step;
    kept = o.kept;
    kept_is = o.kept_is ∙ sym (kept_before command reply e a o.k
        (let l = get_within replies o.k o.step.reply o.step.replied in omega (arith, l)));
    colours = o.colours;
    text = o.text;
    asks = o.asks;
    id_is = o.id_is;
    over = o.over;
    node = o.node;
    fate = o.fate;
  }

  alone_later : (region colour : ℕ) (id : Id) → AloneAt e region colour id → AloneAt
      (next command reply e a) region colour id
  unfolding origin_later
  alone_later region colour id o = record {
    origin = origin_later id o.origin;
    own = o.own;
    only = o.only;
    stands =
        o.stands;
  }

  newest : (u : Uses log caller kept command.what (told reply.answer) after) → Origin (next command reply e a)
      (record { client = caller.client; count = kept.ids })
  newest u = record {
    k = length replies;
    step = newest_step command reply e a;
    kept = kept;
    kept_is = sym (kept_before command reply e a (length replies) (omega arith) ∙ kept_end e);
    colours = u.colours;
    text = u.text;
    asks = u.asks;
    id_is = refl;
    over = u.over;
    node = u.next;
    fate = u.fate;
  }

-- each id that was used is of a command
pub id_origin : {log : Log} {caller : Caller} {commands : List Command} {replies : List ReplyLine} {kept : Kept}
    (e : Explained log caller commands replies kept) (count : ℕ) → count < kept.ids → Origin e
    (record { client = caller.client; count = count })
id_origin start count lt = absurd (let f : ⊥ = omega (arith, lt) in f)
id_origin {log} {caller} (next {commands} {replies} {kept} {after} command reply e a) count lt =
    turn (id_origin e count) (answer_use log caller kept command reply after a) where
      turn : (count < kept.ids → Origin e (record { client = caller.client; count = count }))
          → Leaves log caller kept command.what (told reply.answer) after
          → Origin (next command reply e a) (record { client = caller.client; count = count })
      turn before (inl q) = let same = q.0.ids in origin_later command reply e a _ (before (omega (arith, lt, same)))
      turn before (inr u) = let more = u.ids in elim (cases_lt count kept.ids) [
        | inl l ↦ origin_later command reply e a _ (before l)
        | inr ge ↦ let is : kept.ids ≡ count = omega (arith, ge, lt, more) in
            subst (λ n. Origin (next command reply e a) (record { client = caller.client; count = n })) is
            (newest command reply e a u)
      ]

-- each single that was made is of a command
pub alone_origin : {log : Log} {caller : Caller} {commands : List Command} {replies : List ReplyLine} {kept : Kept}
    (e : Explained log caller commands replies kept) (region colour place : ℕ) (id : Id)
    → IsSingleAt log region colour place id
    → Contains (kept.made region colour) place → AloneAt e region colour id
unfolding newest
alone_origin start region colour place id s among = absurd (in_none place among)
alone_origin {log} {caller} (next {commands} {replies} {kept} {after} command reply e a) region colour place id s among
    =
    turn (alone_origin e region colour place id s) (answer_use log caller kept command reply after a) where
      turn : (Contains (kept.made region colour) place → AloneAt e region colour id)
          → Leaves log caller kept command.what (told reply.answer) after
          → AloneAt (next command reply e a) region colour id
      turn before (inl q) = alone_later command reply e a region colour id
          (before (q.0.made region colour place id s among))
      turn before (inr u) = elim u.made [
        | inl m ↦ alone_later command reply e a region colour id (before (m region colour place id s among))
        | inr (c, only, stands, m) ↦ elim (m region colour place id s among) [
          | inl old ↦ alone_later command reply e a region colour id (before old)
          | inr (own, here, is) ↦ subst (λ i. AloneAt (next command reply e a) region colour i) (sym is)
              (record {
                origin = newest command reply e a u;
                own = own;
                only = only ∙ ap (λ d. d ∷ [])
                    (sym here);
                stands = stands;
              })
        ]
      ]
