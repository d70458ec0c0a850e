-- Each line in its order, the first that is not as described.
use Rattle.sheet_loose.proofs.Order.{tape_bad, head_bad, turn_bad, rule_after, rule_bad, files_bad, top_good}
use Rattle.sheet_loose.proofs.read_top.Goals as goal

pub returns-in_default : goal.returns-in_default
returns-in_default c = tape_bad _ (rw c.in_default.is at c.tape_line.ensures)

pub returns-in_default-number_line : goal.returns-in_default-number_line
returns-in_default-number_line c =
    let named = rw c.in-Some.is at c.tape_line.ensures in
    head_bad _ _ named.0 (rw c.in_default-number_line.is at c.number_line.ensures)

pub returns-in_default-turn_line : goal.returns-in_default-turn_line
returns-in_default-turn_line c =
    let named = rw c.in-Some.is at c.tape_line.ensures in
    let head = rw c.in-Some-number_line.is at c.number_line.ensures in
    turn_bad _ _ named.0 _ head.0 (rw c.in_default-turn_line.is at c.turn_line.ensures)

pub returns-in_default-rule_line : goal.returns-in_default-rule_line
returns-in_default-rule_line c =
    let named = rw c.in-Some.is at c.tape_line.ensures in
    let head = rw c.in-Some-number_line.is at c.number_line.ensures in
    let turn = rw c.in-Some-turn_line.is at c.turn_line.ensures in
    rule_bad _ _ named.0 _ head.0 _ _ turn (rw c.in_default-rule_line.is at c.rule_line.ensures)

pub returns-in_default-number_line-2 : goal.returns-in_default-number_line-2
returns-in_default-number_line-2 c =
    let named = rw c.in-Some.is at c.tape_line.ensures in
    let head = rw c.in-Some-number_line.is at c.number_line.ensures in
    let turn = rw c.in-Some-turn_line.is at c.turn_line.ensures in
    let rule = rw c.in-Some-rule_line.is at c.rule_line.ensures in
    files_bad _ _ named.0 _ head.0 _ _ turn _ _ rule (rw c.in_default-number_line-2.is at c.number_line-2.ensures)

pub overflow_sub-result : goal.overflow_sub-result
overflow_sub-result c =
    let named = rw c.in-Some.is at c.tape_line.ensures in
    let head = rw c.in-Some-number_line.is at c.number_line.ensures in
    let turn = rw c.in-Some-turn_line.is at c.turn_line.ensures in
    rule_after _ _ named.0 _ head.0 _ _ turn

pub returns : goal.returns
returns c =
    let named = rw c.in-Some.is at c.tape_line.ensures in
    let head = rw c.in-Some-number_line.is at c.number_line.ensures in
    let turn = rw c.in-Some-turn_line.is at c.turn_line.ensures in
    let rule = rw c.in-Some-rule_line.is at c.rule_line.ensures in
    let files = rw c.in-Some-number_line-2.is at c.number_line-2.ensures in
    top_good _ _ named.0 _ head.0 _ _ turn _ _ rule _ _ files
