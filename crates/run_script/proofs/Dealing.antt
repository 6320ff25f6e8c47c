-- How clients get ready to be served.
use Rattle.std.proofs.Common.{◌≡◌, ℕ, ◌+◌, ◌<◌, ◌≤◌, List, [], ◌∷◌, ◌++◌, ◌^◌, length, map, take, drop, zip, get_or, Global, Vec, ap, refl, sym, subst, ◌∙◌, arith, length-append}
use Rattle.std.proofs.lemmas.List.{map_push, take_all, take_more, take-append-drop}
use Rattle.std.proofs.lemmas.List.Concat.{flat_map-append}
use Rattle.std.proofs.lemmas.List.Elements.{All-push}
use Rattle.std.proofs.lemmas.Slice.Zip.{firsts-zip, seconds-zip}
use Rattle.script_text.specs.declared.script.Command.{Command}
use Rattle.script_text.specs.declared.script.Object.{Object}
use Rattle.script_beside.specs.Dealt.{share_commands}
use Rattle.log_client.specs.declared.client.Client.{Client}
use Rattle.run_script.specs.declared.serving.served.Served.{Served}
use Rattle.run_script.specs.Dealing.{AreFewCommands, AreIdle, IsIdle}
use Rattle.run_script.proofs.EndsShown.{flat_more}

abbrev Share : Type 0
Share = Vec (Vec Command Global) Global

-- one more client is idle
pub idle_more : (objects : List Object) (pairs : List (Client × Share)) (old new : List Served)
    (x : Served) → AreIdle objects (map (λ p. p.0) pairs) (map (λ p. p.1) pairs) old → IsIdle objects x → new ≡ old ++ x ∷ []
    → AreIdle objects (map (λ p. p.0) (pairs ++ (x.client, x.commands) ∷ [])) (map (λ p. p.1) (pairs ++ (x.client, x.commands) ∷ [])) new
idle_more objects pairs old new x was is same =
    let pair : Client × Share = (x.client, x.commands) in
    subst (AreIdle objects (map (λ p. p.0) (pairs ++ pair ∷ [])) (map (λ p. p.1) (pairs ++ pair ∷ []))) (sym same) (record {
      clients_are = map_push (λ (y : Served). y.client) old x
          ∙ (ap (λ (l : List Client). l ++ x.client ∷ []) was.clients_are
          ∙ sym (map_push (λ (p : Client × Share). p.0) pairs pair));
      shares_are = map_push (λ (y : Served). y.commands) old x
          ∙ (ap (λ (l : List Share). l ++ x.commands ∷ []) was.shares_are
          ∙ sym (map_push (λ (p : Client × Share). p.1) pairs pair));
      idle = All-push (IsIdle objects) old x was.idle is;
    })

-- one piece more
pub counted_more : (pieces : List (Vec Command Global)) (n count more : ℕ) (piece : Vec Command Global) → n < length pieces
    → piece ≡ get_or pieces n piece → count ≡ length (share_commands (take n pieces)) → more ≡ count + length piece.items
    → more ≡ length (share_commands (take (n + 1) pieces))
counted_more pieces n count more piece lt at was is =
    let here : share_commands (take (n + 1) pieces) ≡ share_commands (take n pieces) ++ piece.items =
    ap share_commands (take_more pieces n piece lt)
    ∙ (ap (λ (p : Vec Command Global). share_commands (take n pieces ++ p ∷ [])) (sym at)
    ∙ flat_more (λ (p : Vec Command Global). p.items) (take n pieces) piece) in
    let long = ap length here in
    let parts = length-append (share_commands (take n pieces)) piece.items in
    omega (arith, is, was, long, parts)

-- so many pieces, and the next, have no more commands than all
pub few_counted : (pieces : List (Vec Command Global)) (n count : ℕ) (piece : Vec Command Global) → AreFewCommands pieces → n < length pieces
    → piece ≡ get_or pieces n piece → count ≡ length (share_commands (take n pieces)) → count + length piece.items < 2 ^ 15
few_counted pieces n count piece few lt at was =
    let here = counted_more pieces n count (count + length piece.items) piece lt at was refl in
    let less = parts_few pieces (n + 1) in
    omega (arith, few, here, less) where
      parts_few : (l : List (Vec Command Global)) (k : ℕ) → length (share_commands (take k l)) ≤ length (share_commands l)
      parts_few l k =
          let all = ap (λ (m : List (Vec Command Global)). length (share_commands m)) (take-append-drop k l) in
          let both = ap length (flat_map-append (λ (p : Vec Command Global). p.items) (take k l) (drop k l)) in
          let long = length-append (share_commands (take k l)) (share_commands (drop k l)) in
          omega (arith, all, both, long)

-- all pieces
pub counted_all : (pieces : List (Vec Command Global)) (n count : ℕ) → length pieces ≤ n
    → count ≡ length (share_commands (take n pieces)) → count ≡ length (share_commands pieces)
counted_all pieces n count long is =
    is ∙ ap (λ (l : List (Vec Command Global)). length (share_commands l)) (take_all n pieces long)

-- clients and shares beside one another
pub idle_zip : (objects : List Object) (clients : List Client) (shares : List Share) (pairs : List (Client × Share))
    (served : List Served) → length shares ≡ length clients → pairs ≡ zip clients shares
    → AreIdle objects (map (λ p. p.0) pairs) (map (λ p. p.1) pairs) served → AreIdle objects clients shares served
idle_zip objects clients shares pairs served long is idle =
    subst (λ (l : List Client). AreIdle objects l shares served)
    (ap (map (λ (p : Client × Share). p.0)) is ∙ firsts-zip clients shares long)
    (subst (λ (l : List Share). AreIdle objects (map (λ p. p.0) pairs) l served)
    (ap (map (λ (p : Client × Share). p.1)) is ∙ seconds-zip clients shares long) idle)
