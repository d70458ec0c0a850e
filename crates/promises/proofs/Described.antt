-- What the lines of a loose sheet are that is as described.
use Prim.Native.Nat.{ℕ, suc, ◌+◌}
use mathlib.Core.Path.{◌≡◌}
use mathlib.Core.Bool.{true}
use mathlib.Core.List.{List, [], ◌∷◌}
use native.Mathlib.Omega.{arith}
use Rattle.text_bytes.specs.Text.{is_empty}
use Rattle.text_lines.specs.Lines.{line_of, line_after, is_number_line}
use Rattle.sheet_reader.specs.Lines.{head_key, files_key, wants_key, is_tape_line, is_turn_line, is_rule_line}
use Rattle.sheet_reader.specs.Sheet.{unless}
use Rattle.sheet_loose.specs.Loose.{loose_files, loose_wants_text, loose_wants, loose_end, first_bad_loose_top, first_bad_loose_below, first_bad_loose}
use Rattle.promises.proofs.Again.{none_more, line_good}

pub record Described (text : List ℕ) : Type 0 where
  pub tape : is_tape_line (line_after 0 text) ≡ true
  pub head : is_number_line head_key (line_after 1 text) ≡ true
  pub turn : is_turn_line (line_after 2 text) ≡ true
  pub rule : is_rule_line (line_after 3 text) ≡ true
  pub files : is_number_line files_key (line_after 4 text) ≡ true
  pub wants : is_number_line wants_key (line_of (loose_wants_text text)) ≡ true
  pub end : is_empty (loose_end text) ≡ true

module _ (text : List ℕ) (good : first_bad_loose text ≡ 0) where
  abbrev end_on : List ℕ
  end_on = unless (is_empty (loose_end text)) (loose_files text + loose_wants text + 7) ∷ []

  abbrev rule-on : List ℕ
  rule-on = unless (is_rule_line (line_after 3 text)) 4 ∷ unless (is_number_line files_key (line_after 4 text)) 5 ∷ []

  pub described : Described text
  unfolding first_bad_loose first_bad_loose_top first_bad_loose_below
  described =
      let both = none_more (first_bad_loose_top text) (first_bad_loose_below text ∷ []) good in
      let below = (none_more (first_bad_loose_below text) [] both.1).0 in
      let a = none_more (unless (is_tape_line (line_after 0 text)) 1) (unless (is_number_line head_key (line_after 1 text)) 2 ∷ unless (is_turn_line (line_after 2 text)) 3 ∷ rule-on) both.0 in
      let b = none_more (unless (is_number_line head_key (line_after 1 text)) 2) (unless (is_turn_line (line_after 2 text)) 3 ∷ rule-on) a.1 in
      let c = none_more (unless (is_turn_line (line_after 2 text)) 3) rule-on b.1 in
      let d = none_more (unless (is_rule_line (line_after 3 text)) 4) (unless (is_number_line files_key (line_after 4 text)) 5 ∷ []) c.1 in
      let e = none_more (unless (is_number_line files_key (line_after 4 text)) 5) [] d.1 in
      let f = none_more (unless (is_number_line wants_key (line_of (loose_wants_text text))) (loose_files text + 6)) end_on below in
      let g = none_more (unless (is_empty (loose_end text)) (loose_files text + loose_wants text + 7)) [] f.1 in
      let six : loose_files text + 6 ≡ suc (loose_files text + 5) = omega arith in
      let seven : loose_files text + loose_wants text + 7 ≡ suc (loose_files text + loose_wants text + 6) = omega arith in
      record {
        tape = line_good (is_tape_line (line_after 0 text)) 0 a.0;
        head = line_good (is_number_line head_key (line_after 1 text)) 1 b.0;
        turn = line_good (is_turn_line (line_after 2 text)) 2 c.0;
        rule = line_good (is_rule_line (line_after 3 text)) 3 d.0;
        files = line_good (is_number_line files_key (line_after 4 text)) 4 e.0;
        wants = line_good (is_number_line wants_key (line_of (loose_wants_text text))) (loose_files text + 5) (rw six at f.0);
        end = line_good (is_empty (loose_end text)) (loose_files text + loose_wants text + 6) (rw seven at g.0);
      }
