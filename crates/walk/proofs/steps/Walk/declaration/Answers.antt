use Rattle.std.proofs.Common.{refl, ap, ◌∙◌}
use Rattle.rules.specs.Cells.{type_kind}
use Rattle.walk.proofs.Refusals.{passed_on, moved, no_check, held, failed, told}
use Rattle.std.proofs.lemmas.Bool.{ltb-true}
use Rattle.walk.proofs.Slots.{kind_is, new_is}
use Rattle.walk.proofs.Declares.{declaration_refused, declaration_more}
use Rattle.walk.proofs.steps.Walk.declaration.Goals as goal

pub returns-in_err-need-clause-walks : goal.returns-in_err-need-clause-walks
returns-in_err-need-clause-walks c =
    let past = c.next-name.ensures.past in
    let new = rw (c.is_new.ensures, past.numbers, new_is c.args.text.now c.args.self.now.memory.now c.args.count c.next-name.result) at c.in_err-need.ensures in
    rw (passed_on _ c.from_residual.ensures.1, past.numbers)
    (moved _ _ _ _ _, declaration_refused (record { sees = c.next-name.ensures.cell; skip = past.step; found = refl; other = failed _ _ _ _ _ new; room = no_check _ _ _ }))

pub returns-in_err-need-2-clause-walks : goal.returns-in_err-need-2-clause-walks
returns-in_err-need-2-clause-walks c =
    let past = c.next-name.ensures.past in
    let new = rw (c.is_new.ensures, past.numbers, new_is c.args.text.now c.args.self.now.memory.now c.args.count c.next-name.result) at c.in_ok-need.ensures in
    rw (passed_on _ c.from_residual-in_err-need-2.ensures.1, past.numbers)
    (moved _ _ _ _ _, declaration_refused (record { sees = c.next-name.ensures.cell; skip = past.step; found = refl; other = held _ _ _ _ new; room = failed _ _ _ _ _ c.in_err-need-2.ensures }))

pub returns-clause-walks : goal.returns-clause-walks
returns-clause-walks c =
    let past = c.next-name.ensures.past in
    let new = rw (c.is_new.ensures, past.numbers, new_is c.args.text.now c.args.self.now.memory.now c.args.count c.next-name.result) at c.in_ok-need.ensures in
    let kind = kind_is _ ∙ ap type_kind c.type_of-kind.ensures in
    declaration_more (record { sees = c.next-name.ensures.cell; skip = past.step; found = refl; other = held _ _ _ _ new; room = held _ _ _ _ c.in_ok-need-2.ensures })
    (rw (c.number_of.ensures ∙ kind, past.numbers) at c.enter.ensures) (rw kind at c.initial.ensures.walks)

pub returns-clause-few : goal.returns-clause-few
returns-clause-few c = λ ok. ltb-true _ _ (told _ _ _ c.in_ok-need-2.ensures)
