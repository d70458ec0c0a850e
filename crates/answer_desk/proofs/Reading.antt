-- What an event's line holds, by what the line readers find.
use Prim.Native.Nat.{ℕ}
use mathlib.Core.Path.{◌≡◌}
use mathlib.Core.Bool.{true, false}
use mathlib.Core.List.{List}
use Rattle.std.proofs.Common.{Some, None}
use Rattle.text_lines.specs.declared.PairLine.{PairLine}
use Rattle.text_lines.specs.declared.TripleLine.{TripleLine}
use Rattle.text_lines.specs.Lines.{line_of, is_pair_line, first_in, second_in, is_triple_line, middle_in, third_in}
use Rattle.text_lines.specs.Found.{PairLineFound, TripleLineFound}
use Rattle.answer_desk.specs.declared.Event.{Event}
use Rattle.answer_desk.specs.Events.{filing_key, withdraw_key, board_key, pair_event_of, event_of}

module _ (event : List ℕ) where
  pub withdraw_found : (l : PairLine) → PairLineFound withdraw_key event 0 (Some l) → Some (Event.Withdraw l.first l.second) ≡ pair_event_of (line_of event)
  unfolding pair_event_of
  withdraw_found l p =
      let good : is_pair_line withdraw_key (line_of event) ≡ true = p.passed.good in
      let first : l.first ≡ first_in withdraw_key (line_of event) = p.left in
      let second : l.second ≡ second_in withdraw_key (line_of event) = p.right in
      rw (good, first, second)

  pub board_found : PairLineFound withdraw_key event 0 None → (l : PairLine) → PairLineFound board_key event 0 (Some l) → Some (Event.Board l.first l.second) ≡ pair_event_of (line_of event)
  unfolding pair_event_of
  board_found other l p =
      let no : is_pair_line withdraw_key (line_of event) ≡ false = other in
      let good : is_pair_line board_key (line_of event) ≡ true = p.passed.good in
      let first : l.first ≡ first_in board_key (line_of event) = p.left in
      let second : l.second ≡ second_in board_key (line_of event) = p.right in
      rw (no, good, first, second)

  pub none_found : PairLineFound withdraw_key event 0 None → PairLineFound board_key event 0 None → None ≡ pair_event_of (line_of event)
  unfolding pair_event_of
  none_found other bad =
      let no : is_pair_line withdraw_key (line_of event) ≡ false = other in
      let neither : is_pair_line board_key (line_of event) ≡ false = bad in
      rw (no, neither)

  -- Three numbers behind `file=`, or the others.
  pub file_found : (l : TripleLine) → TripleLineFound filing_key event 0 (Some l) → Some (Event.File l.first l.second l.third) ≡ event_of (line_of event)
  unfolding event_of
  file_found l p =
      let good : is_triple_line filing_key (line_of event) ≡ true = p.passed.good in
      let first : l.first ≡ first_in filing_key (line_of event) = p.left in
      let second : l.second ≡ middle_in filing_key (line_of event) = p.middle in
      let third : l.third ≡ third_in filing_key (line_of event) = p.right in
      rw (good, first, second, third)

  pub other_found : TripleLineFound filing_key event 0 None → event_of (line_of event) ≡ pair_event_of (line_of event)
  unfolding event_of
  other_found none =
      let bad : is_triple_line filing_key (line_of event) ≡ false = none in
      rw bad
