use Rattle.std.proofs.Common.{◌≡◌, ◌-◌, min, length, take, drop, sym, ap, ◌∙◌}
use Rattle.std.proofs.lemmas.List.{take_rest}
use Rattle.fuzzy_io.proofs.Fronts.{gives_bytes}
use Rattle.fuzzy_io.proofs.memory_source.MemorySourceSource.read.Goals as goal

-- The slice of what is left is the view's list.
pub returns-clause-bytes : goal.returns-clause-bytes
returns-clause-bytes c =
    let inside = c.self.inside in
    let bytes = c.deref-2.result.now in
    let unread : take (length bytes - inside.given) (drop inside.given bytes) ≡ drop inside.given inside.bytes.items =
    take_rest bytes inside.given ∙ ap (λ b. drop inside.given b) c.deref-2.ensures.value in
    let shown : drop inside.given inside.bytes.items ≡ c.args.self.now.unread = ap (λ s. s.unread) c.self.view_is in
    let least = c.min-count.ensures ∙ ap (λ n. min n inside.at_most) (rw unread at c.min.ensures) in
    let given = gives_bytes inside.bytes.items c.args.into.now c.copy_from_slice.new.self inside.given c.min-count.result inside.at_most
    (rw unread at c.copy_from_slice.ensures.after) least c.self.invariant.1 in
    (sym shown ∙ given.0, given.1)
