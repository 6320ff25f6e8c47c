use Rattle.std.proofs.Common.{◌≡◌, ◌≤◌, length, arith}
use Rattle.indexmap.specs.IndexSet.{insert_key}
use Rattle.script_text.specs.NameKeys.{IsShort, key_of, same_key}
use Rattle.script_text.proofs.NameKeyLemmas.{indexed_on, either}
use Rattle.script_text.proofs.name_set.NameSet.push.Goals as goal

pub invariant_of-self-2 : goal.invariant_of-self-2
invariant_of-self-2 c =
    let inside = c.self.inside in
    let as_many : length inside.names ≤ length inside.keys.keys = omega arith in
    let short : IsShort c.args.name = rw (← c.as_bytes.ensures) c.in-Some.ensures.key.1 in
    let key : c.in-Some.key ≡ key_of c.args.name = rw (← c.as_bytes.ensures) c.in-Some.ensures.key.0 in
    let new = c.insert-added.new.self.keys in
    let t = c.insert-added.ensures.keys in
    let u = c.insert-added.ensures.err in
    rw c.in_ok-push.ensures.ok
    (indexed_on inside.names c.args.name inside.keys.keys new c.in-Some.key (c.self.invariant.all as_many) short key
    (either c.insert-added.result (new ≡ insert_key same_key inside.keys.keys c.in-Some.key) (new ≡ inside.keys.keys) t u))
