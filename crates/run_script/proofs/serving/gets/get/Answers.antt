use Rattle.std.proofs.Common.{ℕ, List, refl, ap, sym, subst, ◌∙◌, arith}
use Rattle.script_text.specs.declared.script.Kind.TheVariants as kinds
use Rattle.script_text.specs.declared.commands.What.TheVariants as whats
use Rattle.atomic_map.proofs.CallerLemmas.{map_later as atomic_later}
use Rattle.run_script.specs.declared.serving.opened.Opened.TheVariants as opened
use Rattle.run_script.specs.Opened.{IsOpenedOf, kind_opened}
use Rattle.run_script.proofs.GivingGets.{gives_causal_get, gives_map_get}
use Rattle.run_script.proofs.serving.gets.get.Goals as goal

pub get-get-requires-clause-map : goal.get-get-requires-clause-map
get-get-requires-clause-map g c κs within = (subst (IsOpenedOf c.args.client.now) c.in-Map.is c.requires.kept).0

pub returns-in-Map-clause-stays : goal.returns-in-Map-clause-stays
returns-in-Map-clause-stays g c =
    let e = c.get-get.ensures in
    let is = subst (IsOpenedOf c.args.client.now) c.in-Map.is c.requires.kept in (
      ap (λ (home : ℕ). kinds.Map home c.get-get.new.self.colours) e.same.0
          ∙ (ap (λ (colours : List ℕ). kinds.Map c.in-Map.single.home colours) e.same.1 ∙ ap kind_opened (sym c.in-Map.is)),
      (
        e.map,
        atomic_later c.reads_go_on.ensures c.args.store.now c.args.client.now c.get-get.new.client e.client
            c.in-Map.several c.requires.client is.1,
        is.2 ∙ sym e.same.0,
        is.3 ∙ sym e.same.1,
      ),
    )

pub returns-in-Map-clause-gives : goal.returns-in-Map-clause-gives
returns-in-Map-clause-gives g c =
    let e = c.get-get.ensures in
    let is = subst (IsOpenedOf c.args.client.now) c.in-Map.is c.requires.kept in
    gives_map_get c.args.store.now c.args.client.now c.get-get.new.client e.client c.args.opened.now
    (opened.Map c.get-get.new.self c.in-Map.several) (returns-in-Map-clause-stays g c).0 c.got.result
    (λ (object : ℕ). whats.Get object c.args.key) c.args.key (λ object. record { uses = refl; gets = refl }) c.in-Map.single.home
    c.in-Map.single.colours c.get-get.result (ap kind_opened c.in-Map.is) c.got.ensures is.0.colours e.idle e.away e.ok e.err

pub get-get-requires-in-Causal-clause-map : goal.get-get-requires-in-Causal-clause-map
get-get-requires-in-Causal-clause-map g c κs within = subst (IsOpenedOf c.args.client.now) c.in-Causal.is c.requires.kept

pub returns-in-Causal-clause-stays : goal.returns-in-Causal-clause-stays
returns-in-Causal-clause-stays g c = (
  ap (λ (colour : ℕ). kinds.Causal colour) c.get-get-in-Causal.ensures.same ∙ ap kind_opened (sym c.in-Causal.is),
  c.get-get-in-Causal.ensures.map,
)

pub returns-in-Causal-clause-gives : goal.returns-in-Causal-clause-gives
returns-in-Causal-clause-gives g c =
    let e = c.get-get-in-Causal.ensures in
    let is = subst (IsOpenedOf c.args.client.now) c.in-Causal.is c.requires.kept in
    let few = is.few in
    gives_causal_get c.args.store.now c.args.client.now c.get-get-in-Causal.new.client e.client c.args.opened.now
    (opened.Causal c.get-get-in-Causal.new.self) (returns-in-Causal-clause-stays g c).0 c.got_many.result
    (λ (object : ℕ). whats.Get object c.args.key) c.args.key (λ object. record { uses = refl; gets = refl }) c.in-Causal.map.colour
    c.get-get-in-Causal.result (ap kind_opened c.in-Causal.is) c.got_many.ensures (omega (arith, few)) e.idle e.ok e.err
