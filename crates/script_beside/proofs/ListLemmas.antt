-- How commands come to their clients' lists, and lists to shares.
use Rattle.std.proofs.Common.{◌≡◌, ℕ, ◌+◌, ◌<◌, List, [], ◌∷◌, ◌++◌, length, map, Vec, Global, refl, sym, ap, ◌∙◌, arith}
use Rattle.std.specs.Prelude.{◌==◌, slice_index_or}
use Rattle.std.proofs.lemmas.List.{flat_map_more}
use Rattle.std.proofs.lemmas.List.Elements.{filter-append}
use Rattle.std.proofs.lemmas.Option.{get_or_from_slice_get, slice_get_within}
use Rattle.script_text.specs.declared.script.Command.{Command}
use Rattle.script_text.specs.declared.script.Script.{Script}
use Rattle.script_beside.specs.Begins.{own, IsMost}
use Rattle.script_beside.specs.Dealt.{share_commands, IsDealt}
use Rattle.script_beside.specs.Joining.{later}
use Rattle.script_beside.specs.Lists.{AreEmptyLists, HaveOwn, AreOwn, AreBehind, AreShares}

-- no lines further down
pub later_nothing : (commands : List Command) → map (later 0) commands ≡ commands
later_nothing [] = refl
later_nothing (c ∷ commands) =
    let line : c.line + 0 ≡ c.line = omega arith in
    ap (λ (n : ℕ). record c { line = n } ∷ map (later 0) commands) line ∙ ap (λ (l : List Command). c ∷ l) (later_nothing commands)

-- empty lists that were given commands
pub given_all : (count : ℕ) (commands : List Command) (before after : List (Vec Command Global)) → AreEmptyLists count before
    → HaveOwn commands before after → AreOwn count commands after
given_all count commands before after none have =
    let same = have.many in record {
      many = have.many ∙ none.many;
      each = λ n d lt.
          have.each n d (omega (arith, lt, same))
          ∙ ap (λ (l : List Command). l ++ own n commands) (none.each n d (omega (arith, lt, same)));
    }

-- shares with nothing in them
pub no_shares : (count : ℕ) (shares : List (Vec (Vec Command Global) Global)) → AreEmptyLists count shares → AreShares count [] shares
no_shares count shares none = record {
  many = none.many;
  each = λ n d lt. ap (λ (l : List (Vec Command Global)). share_commands l) (none.each n d lt);
}

-- an item of a list that is not empty
pub some_item : {X : Type 0} (xs : List X) (n : ℕ) → n < length xs → X
some_item [] n lt = absurd (let e : ⊥ = omega (arith, lt) in e)
some_item (x ∷ xs) n lt = x

commands_behind : (pieces : List (Vec Command Global)) (piece : Vec Command Global) →
    share_commands (pieces ++ piece ∷ []) ≡ share_commands pieces ++ piece.items
commands_behind pieces piece = sym (flat_map_more (λ (p : Vec Command Global). p.items) [] pieces piece)

-- lists that were put behind shares
pub more_shares : (count : ℕ) (commands more : List Command) (lists : List (Vec Command Global))
    (before after : List (Vec (Vec Command Global) Global)) → AreShares count commands before → AreOwn count more lists
    → AreBehind lists before after → AreShares count (commands ++ more) after
more_shares count commands more lists before after shares owns behind =
    let same = behind.many in
    let one = shares.many in
    let other = owns.many in record {
      many = behind.many ∙ shares.many;
      each = λ n d lt.
          let in_lists : n < length lists = omega (arith, lt, same, one, other) in
          let in_before : n < length before = omega (arith, lt, same) in
          let e = some_item lists n in_lists in
          ap (λ (l : List (Vec Command Global)). share_commands l) (behind.each n d e in_lists in_before)
          ∙ (commands_behind (slice_index_or before n d).items (slice_index_or lists n e)
          ∙ (ap (λ (l : List Command). l ++ (slice_index_or lists n e).items) (shares.each n d in_before)
          ∙ (ap (λ (l : List Command). own n commands ++ l) (owns.each n e in_lists)
          ∙ sym (filter-append (λ (c : Command). c.client == n) commands more))));
    }

-- shares in which are all commands of a script
pub all_dealt : (script header : Script) (shares : Vec (Vec (Vec Command Global) Global) Global) (begins : ℕ) → script ≡ record header { commands = script.commands }
    → header.commands ≡ [] → AreShares (length script.clients) script.commands shares.items
    → IsMost (length script.clients) script.commands begins → IsDealt script (record { header = header; shares = shares; begins = begins })
all_dealt script header shares begins same none are most = record {
  header = same;
  without = none;
  begins = most;
  many = are.many;
  each = λ n share at.
      ap (λ (s : Vec (Vec Command Global) Global). share_commands s.items) (sym (get_or_from_slice_get shares.items n share share at))
      ∙ are.each n share (slice_get_within shares.items n share at);
}
