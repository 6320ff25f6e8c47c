use Rattle.std.proofs.Common.{◌≡◌, ◌-◌, min, length, take, drop, sym, ap, ◌∙◌}
use Rattle.std.proofs.lemmas.List.{take_rest}
use Rattle.fuzzy_io.proofs.Fronts.{gives_all}
use Rattle.fuzzy_io.proofs.steady.SteadySourceSource.read.Goals as goal

-- The slice of what is left is the view's list.
pub returns-clause-bytes : goal.returns-clause-bytes
returns-clause-bytes c =
    let inside = c.self.inside in
    let bytes = c.deref.result.now in
    let unread : take (length bytes - inside.given) (drop inside.given bytes) ≡ drop inside.given inside.bytes.items =
    take_rest bytes inside.given ∙ ap (λ b. drop inside.given b) c.deref.ensures.value in
    let shown : drop inside.given inside.bytes.items ≡ c.args.self.now = c.self.view_is in
    let least = rw unread at c.min-count.ensures in
    let given = gives_all inside.bytes.items c.args.into.now c.copy_from_slice.new.self inside.given c.min-count.result
    (rw unread at c.copy_from_slice.ensures.after) least in
    (sym shown ∙ given.0, given.1)
