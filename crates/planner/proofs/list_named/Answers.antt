-- The engine lists the joined table, and the list is written by first files.
use mathlib.Core.Path.{refl, sym, ap, ◌∙◌}
use native.Mathlib.Omega.{arith}
use Prim.Native.Nat.{◌≤◌}
use lib.ListN.{length, take}
use lib.Seq.{length-take-le}
use Rattle.std.specs.Prelude.{ℕ, List, ◌≡◌}
use Rattle.std.proofs.lemmas.Result.{err_from_is_err_and}
use Rattle.engine_stops.specs.Private.{count_up}
use Rattle.engine_stops.proofs.Table.{count_length}
use Rattle.planner.proofs.Naming.{count_part, stops_fit, named_refused, froms_nameable, tos_nameable, named_listed}
use Rattle.planner.proofs.list_named.Goals as goal

-- A part of at most 64 entries lies in a row of 64.
part_in : (k n m : ℕ) → k ≤ 64 → n ≡ m → m ≡ 64 → k ≤ n
part_in k n m h e f = omega arith

counted : (k : ℕ) (row : List ℕ) → k ≤ 64 → row ≡ count_up 1 64 → take k row ≡ count_up 1 k
counted k row few is = ap (take k) is ∙ count_part 1 64 k few

pub slice_bounds-numbers-end : goal.slice_bounds-numbers-end
slice_bounds-numbers-end c = part_in _ _ _ (stops_fit _ _ _ _ _ _ _ c.requires.holds) (ap length c.count_up.ensures) (count_length 1 64)

pub slice_bounds-list-end : goal.slice_bounds-list-end
slice_bounds-list-end c = sym (length-take-le _ _ (part_in _ _ _ (stops_fit _ _ _ _ _ _ _ c.requires.holds) (ap length c.count_up.ensures) (count_length 1 64)))

pub returns-in_err-n : goal.returns-in_err-n
returns-in_err-n c =
    let p = err_from_is_err_and c.from_residual.result c.from_residual.ensures.1 in
    let numbers = counted _ _ (stops_fit _ _ _ _ _ _ _ c.requires.holds) c.count_up.ensures in
    λ r h. rw (p.1, p.2) (named_refused r _ _ _ _ _ _ h _ _ _ _ numbers c.in_err-n.ensures _ refl)

pub name_files-requires : goal.name_files-requires
name_files-requires c =
    let numbers = counted _ _ (stops_fit _ _ _ _ _ _ _ c.requires.holds) c.count_up.ensures in
    let n = froms_nameable _ _ _ _ _ _ _ c.requires.holds _ _ _ _ numbers c.in_ok-n.ensures _ refl in
    record { entries_in_bounds = n.long; by_index = n.each }

pub name_files-requires-2 : goal.name_files-requires-2
name_files-requires-2 c =
    let numbers = counted _ _ (stops_fit _ _ _ _ _ _ _ c.requires.holds) c.count_up.ensures in
    let n = tos_nameable _ _ _ _ _ _ _ c.requires.holds _ _ _ _ numbers c.in_ok-n.ensures _ refl in
    record { entries_in_bounds = n.long; by_index = n.each }

pub returns : goal.returns
returns c =
    let numbers = counted _ _ (stops_fit _ _ _ _ _ _ _ c.requires.holds) c.count_up.ensures in
    λ r h. named_listed r _ _ _ _ _ _ h _ _ _ _ numbers c.in_ok-n.ensures _ refl _ _ c.name_files.ensures c.name_files-2.ensures
