use Rattle.std.proofs.Common.{◌≡◌, ◌<◌, [], ◌∷◌, List, sym, subst, ℕ, length, arith}
use Rattle.std.specs.List.{All}
use Rattle.std.proofs.lemmas.Result.{IfOk-weaker}
use Rattle.log_node.specs.Sets.{members}
use Rattle.log_node.specs.declared.ids.Colours.{Colours}
use Rattle.world_laws.specs.Worlds.{World}
use Rattle.world_code.specs.WorldView.{world_of}
use Rattle.script_text.specs.declared.script.Command.{Command}
use Rattle.report_text.specs.declared.report.Answer.{Answer}
use Rattle.script_meaning.specs.Appends.{appended, appended_one, appended_several}
use Rattle.script_in_order.specs.Doing.{DoneBy}
use Rattle.script_in_order.proofs.appends.append.Goals as goal

one : (command : Command) (colours : Colours) (text : List ℕ) (colour : ℕ) (w new : World) (answer : Answer)
    → members colours ≡ colour ∷ []
    → DoneBy (λ grants state. appended_one grants state command text colour) command w new answer []
    → DoneBy (λ grants state. appended grants state command colours text (members colours)) command w new answer []
one command colours text colour w new answer is d =
    subst (λ (l : List ℕ). DoneBy (λ grants state. appended grants state command colours text l) command w new answer [])
    (sym is) (record { grants = d.grants; begun = d.begun; is = d.is })

several : (command : Command) (colours : Colours) (text : List ℕ) (w new : World) (answer : Answer)
    → (l : List ℕ) → 1 < length l
    → DoneBy (λ grants state. appended_several grants state command colours text) command w new answer []
    → DoneBy (λ grants state. appended grants state command colours text l) command w new answer []
several command colours text w new answer [] many d = absurd (let f : ⊥ = omega (arith, many) in f)
several command colours text w new answer (c ∷ []) many d = absurd (let f : ⊥ = omega (arith, many) in f)
several command colours text w new answer (c ∷ e ∷ l) many d = record { grants = d.grants; begun = d.begun; is = d.is }

pub append_one-requires-clause-within : goal.append_one-requires-clause-within
append_one-requires-clause-within c =
    let all : All (λ k. k < c.args.world.now.shape.colours) (c.only_member.result ∷ []) =
    subst (λ (l : List ℕ). All (λ k. k < c.args.world.now.shape.colours) l) c.only_member.ensures c.requires.within in
    all 0 0 (omega arith)

pub append_several-requires-clause-many : goal.append_several-requires-clause-many
append_several-requires-clause-many c = let many = c.requires.many.many in omega (arith, many)

pub returns-then-count-eq1-clause-ok : goal.returns-then-count-eq1-clause-ok
returns-then-count-eq1-clause-ok c =
    let command = c.args.command.now in
    let w = world_of c.args.world.now in
    let new = world_of c.append_one.new.world in
    IfOk-weaker c.append_one.result
    (λ answer. DoneBy (λ grants state. appended_one grants state command c.args.text.now c.only_member.result) command w
    new answer [])
    (λ answer. DoneBy (λ grants state. appended grants state command c.args.colours c.args.text.now
    (members c.args.colours)) command w new answer [])
    (λ answer d. one command c.args.colours c.args.text.now c.only_member.result w new answer c.only_member.ensures d)
    c.append_one.ensures.ok

pub returns-else-count-eq1-clause-ok : goal.returns-else-count-eq1-clause-ok
returns-else-count-eq1-clause-ok c =
    let command = c.args.command.now in
    let w = world_of c.args.world.now in
    let new = world_of c.append_several.new.world in
    IfOk-weaker c.append_several.result
    (λ answer. DoneBy (λ grants state. appended_several grants state command c.args.colours c.args.text.now) command w new
    answer [])
    (λ answer. DoneBy (λ grants state. appended grants state command c.args.colours c.args.text.now
    (members c.args.colours)) command w new answer [])
    (λ answer d. several command c.args.colours c.args.text.now w new answer (members c.args.colours)
    (let many = c.requires.many.many in omega (arith, many)) d)
    c.append_several.ensures.ok
