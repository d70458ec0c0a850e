-- Each line in its order, the first that is not as described.
use Rattle.sheet_reader.proofs.Order.{tape_bad, head_bad, turn_bad, rule_bad, files_bad, top_good}
use Rattle.sheet_reader.proofs.reader.read_top.Goals as goal

pub returns-in_default : goal.returns-in_default
returns-in_default c = tape_bad _ (rw c.in_default.is at c.tape_line.ensures)

pub returns-in_default-number_line : goal.returns-in_default-number_line
returns-in_default-number_line c =
    let named = rw c.in-Some.is at c.tape_line.ensures in
    head_bad _ _ _ named (rw c.in_default-number_line.is at c.number_line.ensures)

pub returns-in_default-turn_line : goal.returns-in_default-turn_line
returns-in_default-turn_line c =
    let named = rw c.in-Some.is at c.tape_line.ensures in
    let head = rw c.in-Some-number_line.is at c.number_line.ensures in
    turn_bad _ _ _ named _ _ head (rw c.in_default-turn_line.is at c.turn_line.ensures)

pub returns-in_default-rule_line : goal.returns-in_default-rule_line
returns-in_default-rule_line c =
    let named = rw c.in-Some.is at c.tape_line.ensures in
    let head = rw c.in-Some-number_line.is at c.number_line.ensures in
    let turn = rw c.in-Some-turn_line.is at c.turn_line.ensures in
    rule_bad _ _ _ named _ _ head _ _ turn (rw c.in_default-rule_line.is at c.rule_line.ensures)

pub returns-in_default-count_line : goal.returns-in_default-count_line
returns-in_default-count_line c =
    let named = rw c.in-Some.is at c.tape_line.ensures in
    let head = rw c.in-Some-number_line.is at c.number_line.ensures in
    let turn = rw c.in-Some-turn_line.is at c.turn_line.ensures in
    let rule = rw c.in-Some-rule_line.is at c.rule_line.ensures in
    files_bad _ _ _ named _ _ head _ _ turn _ _ rule (rw c.in_default-count_line.is at c.count_line.ensures)

pub returns : goal.returns
returns c =
    let named = rw c.in-Some.is at c.tape_line.ensures in
    let head = rw c.in-Some-number_line.is at c.number_line.ensures in
    let turn = rw c.in-Some-turn_line.is at c.turn_line.ensures in
    let rule = rw c.in-Some-rule_line.is at c.rule_line.ensures in
    let files = rw c.in-Some-count_line.is at c.count_line.ensures in
    top_good _ _ _ named _ _ head _ _ turn _ _ rule _ _ files
