use Rattle.std.proofs.Common.{◌≡◌, ℕ, List, Option, subst}
use Rattle.std.specs.Prelude.{IfOk, IfSome}
use Rattle.script_text.specs.declared.script.Script.{Script}
use Rattle.script_text.specs.Grammar.{IsScript}
use Rattle.script_beside.specs.declared.cuts.Parted.{Parted}
use Rattle.script_beside.specs.Dealt.{IsDealt}
use Rattle.script_beside.specs.Parts.{all_bytes}
use Rattle.script_beside.proofs.reading.beside.Goals as goal

pub returns-in_ok-parts-in-Some : goal.returns-in_ok-parts-in-Some
returns-in_ok-parts-in-Some g c =
    let whole = subst (λ (found : Option Parted). IfSome found (λ p. all_bytes p ≡ c.args.bytes.now)) c.in-Some.is
    c.in_ok-parted.ensures.whole in
    subst (λ (bytes : List ℕ). IfOk c.put_together.result (λ found. IfSome found (λ dealt. (x : Script) × IsScript bytes x
    × IsDealt x dealt))) whole c.put_together.ensures
