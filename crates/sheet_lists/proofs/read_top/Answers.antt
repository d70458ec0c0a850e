-- Each line in its order, the first that is not as described.
use Rattle.sheet_writer.specs.PlanSheet.{sum_key, reads_key, finish_key, end_key}
use Rattle.sheet_lists.proofs.Passing.{tape_bad, tape_good, number_bad, number_good, detours_bad, detours_over, detours_good}
use Rattle.sheet_lists.proofs.read_top.Goals as goal

pub returns-in_default : goal.returns-in_default
returns-in_default c = tape_bad _ (rw c.in_default.is at c.tape_line.ensures)

pub returns-in_default-number_line : goal.returns-in_default-number_line
returns-in_default-number_line c =
    let r1 = tape_good _ _ (rw c.in-Some.is at c.tape_line.ensures).0 in
    number_bad _ 1 sum_key _ _ r1 (rw c.in_default-number_line.is at c.number_line.ensures)

pub returns-in_default-number_line-2 : goal.returns-in_default-number_line-2
returns-in_default-number_line-2 c =
    let r1 = tape_good _ _ (rw c.in-Some.is at c.tape_line.ensures).0 in
    let r2 = number_good _ 1 sum_key _ _ r1 _ _ (rw c.in-Some-number_line.is at c.number_line.ensures) in
    number_bad _ 2 reads_key _ _ r2 (rw c.in_default-number_line-2.is at c.number_line-2.ensures)

pub returns-in_default-number_line-3 : goal.returns-in_default-number_line-3
returns-in_default-number_line-3 c =
    let r1 = tape_good _ _ (rw c.in-Some.is at c.tape_line.ensures).0 in
    let r2 = number_good _ 1 sum_key _ _ r1 _ _ (rw c.in-Some-number_line.is at c.number_line.ensures) in
    let r3 = number_good _ 2 reads_key _ _ r2 _ _ (rw c.in-Some-number_line-2.is at c.number_line-2.ensures) in
    number_bad _ 3 finish_key _ _ r3 (rw c.in_default-number_line-3.is at c.number_line-3.ensures)

pub returns-in_default-number_line-4 : goal.returns-in_default-number_line-4
returns-in_default-number_line-4 c =
    let r1 = tape_good _ _ (rw c.in-Some.is at c.tape_line.ensures).0 in
    let r2 = number_good _ 1 sum_key _ _ r1 _ _ (rw c.in-Some-number_line.is at c.number_line.ensures) in
    let r3 = number_good _ 2 reads_key _ _ r2 _ _ (rw c.in-Some-number_line-2.is at c.number_line-2.ensures) in
    let r4 = number_good _ 3 finish_key _ _ r3 _ _ (rw c.in-Some-number_line-3.is at c.number_line-3.ensures) in
    number_bad _ 4 end_key _ _ r4 (rw c.in_default-number_line-4.is at c.number_line-4.ensures)

pub returns-in_default-number_line-5 : goal.returns-in_default-number_line-5
returns-in_default-number_line-5 c =
    let r1 = tape_good _ _ (rw c.in-Some.is at c.tape_line.ensures).0 in
    let r2 = number_good _ 1 sum_key _ _ r1 _ _ (rw c.in-Some-number_line.is at c.number_line.ensures) in
    let r3 = number_good _ 2 reads_key _ _ r2 _ _ (rw c.in-Some-number_line-2.is at c.number_line-2.ensures) in
    let r4 = number_good _ 3 finish_key _ _ r3 _ _ (rw c.in-Some-number_line-3.is at c.number_line-3.ensures) in
    let r5 = number_good _ 4 end_key _ _ r4 _ _ (rw c.in-Some-number_line-4.is at c.number_line-4.ensures) in
    detours_bad _ _ r5 (rw c.in_default-number_line-5.is at c.number_line-5.ensures)

pub returns-then-detours-gt-MOST_DETOURS : goal.returns-then-detours-gt-MOST_DETOURS
returns-then-detours-gt-MOST_DETOURS c =
    let r1 = tape_good _ _ (rw c.in-Some.is at c.tape_line.ensures).0 in
    let r2 = number_good _ 1 sum_key _ _ r1 _ _ (rw c.in-Some-number_line.is at c.number_line.ensures) in
    let r3 = number_good _ 2 reads_key _ _ r2 _ _ (rw c.in-Some-number_line-2.is at c.number_line-2.ensures) in
    let r4 = number_good _ 3 finish_key _ _ r3 _ _ (rw c.in-Some-number_line-3.is at c.number_line-3.ensures) in
    let r5 = number_good _ 4 end_key _ _ r4 _ _ (rw c.in-Some-number_line-4.is at c.number_line-4.ensures) in
    detours_over _ _ r5 _ _ (rw c.in-Some-number_line-5.is at c.number_line-5.ensures) c.if-detours-gt-MOST_DETOURS.true

pub returns : goal.returns
returns c =
    let r1 = tape_good _ _ (rw c.in-Some.is at c.tape_line.ensures).0 in
    let r2 = number_good _ 1 sum_key _ _ r1 _ _ (rw c.in-Some-number_line.is at c.number_line.ensures) in
    let r3 = number_good _ 2 reads_key _ _ r2 _ _ (rw c.in-Some-number_line-2.is at c.number_line-2.ensures) in
    let r4 = number_good _ 3 finish_key _ _ r3 _ _ (rw c.in-Some-number_line-3.is at c.number_line-3.ensures) in
    let r5 = number_good _ 4 end_key _ _ r4 _ _ (rw c.in-Some-number_line-4.is at c.number_line-4.ensures) in
    detours_good _ _ r5 _ _ (rw c.in-Some-number_line-5.is at c.number_line-5.ensures) c.if-detours-gt-MOST_DETOURS.false
