use Rattle.std.proofs.Common.{refl}
use Rattle.region_pull.proofs.Steps.{goes_on, gave_alone, pulled, held_asked, held_pulled}
use Rattle.region_pull.proofs.pulling.pull.Goals as goal

pub returns-in-Ok-bring-clause-from_hold : goal.returns-in-Ok-bring-clause-from_hold
returns-in-Ok-bring-clause-from_hold g c =
    goes_on c.args.from.now c.args.colour c.args.from_hold.now c.ask.new.from_hold c.bring.new.from_hold
    c.in-Ok.ensures.from_hold c.in-Ok-bring.ensures.from_hold.goes

pub returns-in-Ok-bring-clause-to_hold : goal.returns-in-Ok-bring-clause-to_hold
returns-in-Ok-bring-clause-to_hold g c =
    goes_on c.args.to.now c.args.colour c.args.to_hold.now c.ask.new.to_hold c.bring.new.to_hold
    c.in-Ok.ensures.to_hold c.in-Ok-bring.ensures.to_hold

pub returns-in-Ok-bring-clause-ok : goal.returns-in-Ok-bring-clause-ok
returns-in-Ok-bring-clause-ok g c =
    let e = c.in-Ok.ensures in
    let f = c.in-Ok-bring.ensures in
    pulled c.args.from.now c.args.to.now c.args.colour c.args.from_hold.now c.ask.new.from_hold c.bring.new.from_hold
    c.args.to_hold.now c.ask.new.to_hold c.bring.new.to_hold e.from_hold e.to_hold e.looks f.from_hold c.in-Ok.give c.in-Ok.lined
    e.ok (record { nodes = c.in-Ok-bring.nodes; give = c.in-Ok.give; carry = c.in-Ok-bring.carry }) refl f.ok

pub returns-in-Ok-bring-clause-held : goal.returns-in-Ok-bring-clause-held
returns-in-Ok-bring-clause-held g c =
    let e = c.in-Ok.ensures in
    let f = c.in-Ok-bring.ensures in
    let from_goes = goes_on c.args.from.now c.args.colour c.args.from_hold.now c.ask.new.from_hold c.bring.new.from_hold
    e.from_hold f.from_hold.goes in
    let to_goes = goes_on c.args.to.now c.args.colour c.args.to_hold.now c.ask.new.to_hold c.bring.new.to_hold
    e.to_hold f.to_hold in
    let p = pulled c.args.from.now c.args.to.now c.args.colour c.args.from_hold.now c.ask.new.from_hold c.bring.new.from_hold
    c.args.to_hold.now c.ask.new.to_hold c.bring.new.to_hold e.from_hold e.to_hold e.looks f.from_hold c.in-Ok.give c.in-Ok.lined
    e.ok (record { nodes = c.in-Ok-bring.nodes; give = c.in-Ok.give; carry = c.in-Ok-bring.carry }) refl f.ok in
    held_pulled c.args.from.now c.args.to.now c.args.colour c.args.from_hold.now c.bring.new.from_hold c.args.to_hold.now
    c.bring.new.to_hold c.requires.store from_goes to_goes
    (record { nodes = c.in-Ok-bring.nodes; give = c.in-Ok.give; carry = c.in-Ok-bring.carry }) p

pub returns-in-Err-bring-clause-from_hold : goal.returns-in-Err-bring-clause-from_hold
returns-in-Err-bring-clause-from_hold g c =
    goes_on c.args.from.now c.args.colour c.args.from_hold.now c.ask.new.from_hold c.bring.new.from_hold
    c.in-Ok.ensures.from_hold c.in-Err-bring.ensures.from_hold.goes

pub returns-in-Err-bring-clause-to_hold : goal.returns-in-Err-bring-clause-to_hold
returns-in-Err-bring-clause-to_hold g c =
    goes_on c.args.to.now c.args.colour c.args.to_hold.now c.ask.new.to_hold c.bring.new.to_hold
    c.in-Ok.ensures.to_hold c.in-Err-bring.ensures.to_hold

pub returns-in-Err-bring-clause-err : goal.returns-in-Err-bring-clause-err
returns-in-Err-bring-clause-err g c =
    let e = c.in-Ok.ensures in
    let f = c.in-Err-bring.ensures in
    gave_alone c.args.from.now c.args.to.now c.args.colour c.args.from_hold.now c.ask.new.from_hold c.bring.new.from_hold
    c.args.to_hold.now c.ask.new.to_hold c.bring.new.to_hold e.from_hold e.to_hold e.looks f.from_hold c.in-Ok.give c.in-Ok.lined
    e.ok f.err

pub returns-in-Err-bring-clause-held : goal.returns-in-Err-bring-clause-held
returns-in-Err-bring-clause-held g c =
    let e = c.in-Ok.ensures in
    let f = c.in-Err-bring.ensures in
    let r = gave_alone c.args.from.now c.args.to.now c.args.colour c.args.from_hold.now c.ask.new.from_hold c.bring.new.from_hold
    c.args.to_hold.now c.ask.new.to_hold c.bring.new.to_hold e.from_hold e.to_hold e.looks f.from_hold c.in-Ok.give c.in-Ok.lined
    e.ok f.err in
    held_asked c.args.from.now c.args.to.now c.args.colour c.args.from_hold.now c.bring.new.from_hold c.args.to_hold.now
    c.bring.new.to_hold c.requires.store
    (goes_on c.args.from.now c.args.colour c.args.from_hold.now c.ask.new.from_hold c.bring.new.from_hold
    e.from_hold f.from_hold.goes)
    (goes_on c.args.to.now c.args.colour c.args.to_hold.now c.ask.new.to_hold c.bring.new.to_hold e.to_hold f.to_hold)
    r.0.0 r.0.2

pub returns-in-Err-clause-held : goal.returns-in-Err-clause-held
returns-in-Err-clause-held g c =
    let e = c.in-Err.ensures in
    held_asked c.args.from.now c.args.to.now c.args.colour c.args.from_hold.now c.ask.new.from_hold c.args.to_hold.now
    c.ask.new.to_hold c.requires.store e.from_hold e.to_hold e.err.0 e.err.2
