use Rattle.std.proofs.Common.{arith}
use Rattle.sheet_reader.proofs.Order.{wants_bad, wants_few, want_bad, text_behind, below_good}
use Rattle.sheet_reader.proofs.reader.read_wants.Goals as goal

pub returns-in_default : goal.returns-in_default
returns-in_default c = wants_bad _ _ _ c.requires (rw c.in_default.is at c.count_line.ensures)

pub overflow_add-result-in-Err-2 : goal.overflow_add-result-in-Err-2
overflow_add-result-in-Err-2 c =
    let wants = rw c.in-Some.is at c.count_line.ensures in
    omega (arith, wants_few _ _ _ c.requires _ _ wants, c.requires.few, c.in-Err.ensures.most)

pub overflow_add-result-in-Ok : goal.overflow_add-result-in-Ok
overflow_add-result-in-Ok c =
    let wants = rw c.in-Some.is at c.count_line.ensures in
    omega (arith, wants_few _ _ _ c.requires _ _ wants, c.requires.few)

pub overflow_add-result-in-Ok-2 : goal.overflow_add-result-in-Ok-2
overflow_add-result-in-Ok-2 c =
    let wants = rw c.in-Some.is at c.count_line.ensures in
    omega (arith, wants_few _ _ _ c.requires _ _ wants, c.requires.few)

pub returns-in-Err : goal.returns-in-Err
returns-in-Err c = want_bad _ _ _ c.requires _ _ (rw c.in-Some.is at c.count_line.ensures) _ c.in-Err.ensures

pub returns-in-Ok : goal.returns-in-Ok
returns-in-Ok c = text_behind _ _ _ c.requires _ _ (rw c.in-Some.is at c.count_line.ensures) _ c.in-Ok.ensures c.if-end-sheet.true

pub returns-in-Ok-2 : goal.returns-in-Ok-2
returns-in-Ok-2 c = below_good _ _ _ c.requires _ _ (rw c.in-Some.is at c.count_line.ensures) _ c.in-Ok.ensures c.if-end-sheet.false
