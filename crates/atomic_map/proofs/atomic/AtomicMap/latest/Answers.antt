use Rattle.std.proofs.Common.{◌∙◌, ◌++◌, ◌∷◌, [], ℕ, List, ◌<◌, ap, length, refl, sym, append_assoc}
use Rattle.std.proofs.lemmas.Option.{slice_get_read}
use Rattle.std.specs.Option.{option_copied}
use Rattle.log_node.specs.Sets.{members}
use Rattle.atomic_map.proofs.MapLines.{next_of}
use Rattle.atomic_map.proofs.MapReads.{latest_next}
use Rattle.atomic_map.proofs.atomic.AtomicMap.latest.Goals as goal

pub loop-colour-init : goal.loop-colour-init
loop-colour-init c =
    ([], c.into_iter-colour-iterator.ensures.into_iter_gives ∙ c.members-colour-items.ensures, refl)

pub loop-colour-preserved : goal.loop-colour-preserved
loop-colour-preserved c =
    let i = c.loop-colour.invariant in
    let k = c.in-Some.colour in
    let lines = c.args.self.now.lines.items in
    let apart = ap (λ (l : List ℕ). i.0 ++ l) (sym c.in-Some.ensures.steps) ∙ i.1 in (
      i.0 ++ k ∷ [],
      append_assoc i.0 (k ∷ []) c.next.new.self ∙ apart,
      latest_next lines i.0 k c.args.key.now c.index.result.now (option_copied c.loop-colour.latest)
          (option_copied c.get.result) (option_copied c.later_write-latest.result)
          (slice_get_read lines (length lines) k c.index.result.now refl
          (next_of (λ n. n < length lines) i.0 k c.next.new.self (members c.args.set) apart c.requires) c.index.ensures) i.2
          c.get.ensures c.later_write-latest.ensures,
    )
