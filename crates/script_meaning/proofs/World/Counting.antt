-- The open entries below a key rise in key, and are fewer where one of them is open no more.
use Rattle.std.proofs.Common.{ℕ, List, subst, sym}
use Rattle.std.specs.Prelude.{◌&&◌, not}
use Rattle.std.specs.List.{filter}
use Rattle.log_node.specs.declared.ids.Key.{Key}
use Rattle.log_node.specs.Order.{key_below}
use Rattle.log_node.specs.Standings.{Standing}
pub use Rattle.col_core.proofs.CallerLemmas.{fewer_less}
use Rattle.col_core.proofs.CallerLemmas.{entries-of, Rises, rises, rises-filter}
use Rattle.world_laws.specs.Worlds.{World}
use Rattle.world_laws.proofs.CallerLemmas.{Held, lawful_past_in}
use Rattle.script_meaning.specs.Helping.{open_below}

pub below_rises : (w : World) → Held w → (r c : ℕ) (key : Key) → Rises (open_below key (w.histories r c))
below_rises w h r c key =
    subst (λ (es : List Standing). Rises (filter (λ (e : Standing). not e.settled && key_below e.key key) es))
    (sym (entries-of (w.histories r c)))
    (rises-filter (λ (e : Standing). not e.settled && key_below e.key key) _ (rises _ (lawful_past_in w h r c)))
