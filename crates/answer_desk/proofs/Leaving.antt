-- Who leaves by a boarding that is accepted, and the text by their places.
use Prim.Native.Nat.{ℕ, ◌+◌, ◌*◌, ◌≤◌, min}
use mathlib.Core.Path.{◌≡◌, sym, ap, ◌∙◌, subst}
use mathlib.Core.Bool.{false, true≢false}
use mathlib.Core.Logic.{⊎_elim}
use mathlib.Core.List.{List, ◌++◌, map, append_assoc}
use native.Mathlib.Omega.{arith}
use native.Mathlib.Decide.{dec_lt}
use lib.ListN.{length, take, drop, length-map}
use lib.Seq.{take_all}
use Rattle.refusals.specs.Refusals.{is_refusal}
use Rattle.refusals.proofs.Verdicts.{refuses}
use Rattle.runs.proofs.Search.{true_or_false}
use Rattle.planner.specs.Rows.{Rows}
use Rattle.text_pages.specs.Printing.{pair_lines, Wrote}
use Rattle.text_pages.proofs.Pages.{wrote_both, wrote_within}
use Rattle.sheet_writer.specs.PlanSheet.{detour_key}
use Rattle.desk_tickets.specs.declared.Ticket.{Ticket}
use Rattle.desk_tickets.specs.WaitingTable.{all_places, places, waiting, records_verdict, Sound}
use Rattle.desk_tickets.proofs.Storing.{accepted_sound}
use Rattle.desk_boardings.specs.declared.Boarding.{Boarding}
use Rattle.desk_boardings.specs.declared.Boarded.{Boarded}
use Rattle.desk_boardings.specs.declared.BoardedRow.{BoardedRow}
use Rattle.desk_boardings.specs.Boarders.{share_one, share_two}
use Rattle.desk_boardings.specs.Boardings.{Tape, Boards, taken_of}
use Rattle.desk_boardings.proofs.Who.{share_within, shares_fit, front_one, front_two}
use Rattle.answer_desk.specs.declared.Reads.{Reads}
use Rattle.answer_desk.specs.Answers.{most_text, closed_lines, boarded_top, boarded_text}
use Rattle.answer_desk.specs.Private.{places_text, Leaving}
use Rattle.answer_desk.proofs.Looking.{closed_both}

-- The length of a table that is a field of a struct.
pub unmapped : (X Y : Type 0) (f : X → Y) (l : List X) (n : ℕ) → length (map f l) ≡ n → length l ≡ n
unmapped X Y f l n p = sym (length-map l f) ∙ p

take_few : (n : ℕ) (xs : List ℕ) → length xs ≡ 8 → take (min n 8) xs ≡ take n xs
take_few n xs l =
    elim (dec_lt n 8) [
      | yes h ↦ ap (λ m. take m xs) (let e : min n 8 ≡ n = omega arith in e)
      | no h ↦ take_all (min n 8) xs (omega arith) ∙ sym (take_all n xs (omega arith))
    ]

-- The text by the places is the text by the boarders.
pub same_text : (row : List Ticket) (b : Boarded) (froms tos : List ℕ) (reads : Reads) → length froms ≡ 8 → length tos ≡ 8 → Leaving row b → places_text row b froms tos reads ≡ boarded_text row b froms tos reads
unfolding places_text boarded_text
same_text row b froms tos reads f t l =
    rw (take_few b.answer.detours froms f, take_few b.answer.detours tos t, l.who, closed_both reads (take b.taken.one (drop 0 row)) (take b.taken.two (drop places row)), append_assoc)

-- Who boards from a sound row.
module _ (len : ℕ) (tape : Tape) (row : List Ticket) (all : length row ≡ all_places) (b : Boarding) (before : Rows) (r : BoardedRow) (after : Rows) (boards : Boards len tape row b before r after) where
  accepts : is_refusal r.boarded.answer.refusal ≡ false → refuses (records_verdict len row b.lasts) ≡ false
  accepts e =
      ⊎_elim
      (λ h. absurd (true≢false (sym h ∙ sym (ap (λ x. is_refusal x.boarded.answer.refusal) (boards.refused h).says) ∙ e)))
      (λ h. h)
      (true_or_false (refuses (records_verdict len row b.lasts)))

  module _ (e : is_refusal r.boarded.answer.refusal ≡ false) where
    sound : Sound b.lasts (waiting 1 row) (waiting 2 row) row
    sound = accepted_sound len row b.lasts all (accepts e)

    taken_is : r.boarded.taken ≡ taken_of row
    taken_is = ap (λ x. x.boarded.taken) (boards.planned (accepts e)).says ∙ rw e

    one_is : r.boarded.taken.one ≡ share_one row
    one_is = ap (λ x. x.one) taken_is

    two_is : r.boarded.taken.two ≡ share_two row
    two_is = ap (λ x. x.two) taken_is

    pub who_leaves : Leaving row r.boarded
    who_leaves =
        let a = length (waiting 1 row) in
        let c = length (waiting 2 row) in
        record {
          one = rw one_is (omega (arith, shares_fit a c));
          two = rw two_is (omega (arith, shares_fit a c));
          who = rw (one_is, two_is, front_one b.lasts (waiting 1 row) (waiting 2 row) row sound (share_one row) (share_within a c), front_two b.lasts (waiting 1 row) (waiting 2 row) row sound (share_two row) (share_within c a));
        }

-- The first lines, the detours and the tickets, one behind the other.
pub places_wrote : (row : List Ticket) (b : Boarded) (froms tos : List ℕ) (reads : Reads) (n : ℕ) → n ≡ min b.answer.detours 8 → b.taken.one ≤ 8 → b.taken.two ≤ 8
    → (page page₁ page₂ page₃ page₄ : List ℕ) (at₁ at₂ at₃ at₄ : ℕ)
    → Wrote page 0 (boarded_top b.taken b.answer) 157 page₁ at₁
    → Wrote page₁ at₁ (pair_lines detour_key (take n froms) (take n tos)) (n * 49) page₂ at₂
    → Wrote page₂ at₂ (closed_lines reads (take b.taken.one (drop 0 row))) (b.taken.one * 133) page₃ at₃
    → Wrote page₃ at₃ (closed_lines reads (take b.taken.two (drop places row))) (b.taken.two * 133) page₄ at₄
    → Wrote page 0 (places_text row b froms tos reads) most_text page₄ at₄
unfolding places_text
places_wrote row b froms tos reads n e one two page page₁ page₂ page₃ page₄ at₁ at₂ at₃ at₄ p q r s =
    let w = wrote_both (wrote_both (wrote_both p q) r) s in
    wrote_within
    (subst (λ m. Wrote page 0
    (boarded_top b.taken b.answer ++ pair_lines detour_key (take m froms) (take m tos) ++ closed_lines reads (take b.taken.one (drop 0 row)) ++ closed_lines reads (take b.taken.two (drop places row)))
    (157 + n * 49 + b.taken.one * 133 + b.taken.two * 133) page₄ at₄) e w)
    most_text (omega (arith, e))

pub boarded_wrote : (row : List Ticket) (b : Boarded) (froms tos : List ℕ) (reads : Reads) → length froms ≡ 8 → length tos ≡ 8 → Leaving row b → (page page' : List ℕ) (n : ℕ)
    → Wrote page 0 (places_text row b froms tos reads) most_text page' n → Wrote page 0 (boarded_text row b froms tos reads) most_text page' n
boarded_wrote row b froms tos reads f t l page page' n w = subst (λ x. Wrote page 0 x most_text page' n) (same_text row b froms tos reads f t l) w
