use Rattle.std.proofs.Common.{◌≡◌, ◌∙◌, ◌<◌, ◌⊎◌, inl, inr, ℕ, List, Some, ap, sym, subst}
use Rattle.std.specs.List.{All}
use Rattle.log_node.specs.declared.limits.TheConstants.{MAX_COLOURS}
use Rattle.log_node.specs.Sets.{set_of}
use Rattle.script_text.specs.declared.script.Kind.{Kind}
use Rattle.script_text.specs.declared.script.Kind.TheVariants as kinds
use Rattle.lawful_run.specs.Asks.{object_colours}
use Rattle.script_in_order.proofs.object_appends.all_colours.Goals as goal

-- the colours that are found are the object's
its_colours : (kind : Kind) (colours : List ℕ)
    → ((home : ℕ) × (kind ≡ kinds.Tx home colours))
    ⊎ (((home : ℕ) × (kind ≡ kinds.Parts home colours)) ⊎ ((home : ℕ) × (kind ≡ kinds.Tree home colours)))
    → object_colours (Some kind) ≡ colours
its_colours kind colours (inl at) = ap (λ (k : Kind). object_colours (Some k)) at.1
its_colours kind colours (inr (inl at)) = ap (λ (k : Kind). object_colours (Some k)) at.1
its_colours kind colours (inr (inr at)) = ap (λ (k : Kind). object_colours (Some k)) at.1

pub of-requires : goal.of-requires
of-requires c =
    subst (λ (l : List ℕ). All (λ colour. colour < MAX_COLOURS) l)
    (its_colours c.args.kind.now c.in-Tx.colours c.in-Tx.is ∙ sym c.as_slice.ensures) c.requires.colours.below

pub returns : goal.returns
returns c =
    c.of.ensures ∙ ap set_of (c.as_slice.ensures ∙ sym (its_colours c.args.kind.now c.in-Tx.colours c.in-Tx.is))
