use Rattle.std.proofs.Common.{[], ◌∷◌, ap, sym, subst, ◌∙◌}
use Rattle.log_node.specs.Sets.{members}
use Rattle.log_node.proofs.CallerLemmas.{members-one}
use Rattle.object_form.specs.Forms.{form_text}
use Rattle.log_client.specs.Appends.{AreColoursOf}
use Rattle.log_client.proofs.Object.ColourSets.{one_of_store}
use Rattle.log_client.proofs.Object.ObjectAppends.{stands_in_one, stands_not_one}
use Rattle.log_client.proofs.client.Client.append_form_to.Goals as goal

pub append_form-requires-clause-colours : goal.append_form-requires-clause-colours
append_form-requires-clause-colours g c κs within =
    subst (AreColoursOf c.args.store.now) (sym c.of.ensures)
    (one_of_store c.args.store.now c.args.colour c.requires.colour c.requires.few)

pub returns-clause-ok : goal.returns-clause-ok
returns-clause-ok g c =
    stands_in_one c.args.store.now c.args.self.now c.append_form.new.self (members c.of.result) (c.args.colour ∷ [])
    (form_text c.args.form) c.append_form.result (ap members c.of.ensures ∙ members-one c.args.colour c.requires.few)
    c.append_form.ensures.ok

pub returns-clause-err : goal.returns-clause-err
returns-clause-err g c =
    stands_not_one c.args.store.now c.args.self.now c.append_form.new.self (members c.of.result) (c.args.colour ∷ [])
    (form_text c.args.form) c.append_form.result (ap members c.of.ensures ∙ members-one c.args.colour c.requires.few)
    c.append_form.ensures.err
