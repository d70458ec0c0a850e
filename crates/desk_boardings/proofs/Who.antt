-- Who boards from a sound row: at most eight, the first of each office; and their wants, as the code gathers them.
use Prim.Native.Nat.{ℕ, ◌+◌, ◌-◌, ◌≤◌, ◌<◌}
use mathlib.Core.Path.{◌≡◌, refl, sym, ap, ◌∙◌}
use mathlib.Core.Bool.{true, not, ◌&&◌}
use mathlib.Core.List.{List, []}
use native.Mathlib.Omega.{arith}
use native.Mathlib.Decide.{dec_lt}
use lib.Dec.{eqb, leb}
use lib.ListN.{length, get_or, take, drop, get_or-append, get_or-eq_default}
use lib.Seq.{take-append-le, drop_at, get_or-append-add}
use borrow.Author.Tests.{leb-true}
use Rattle.runs.specs.Run.{most_files}
use Rattle.desk_tickets.specs.declared.Ticket.{Ticket}
use Rattle.desk_tickets.specs.declared.Lasts.{Lasts}
use Rattle.desk_tickets.specs.WaitingTable.{places, all_places, most_count, no_ticket, is_ticket, up_to, waiting, placed, row_of, row_without, Waits, Sound}
use Rattle.desk_tickets.proofs.Sound.{and_true_both}
use Rattle.desk_tickets.proofs.Placed.{placed_at, placed_long, sound_without}
use Rattle.desk_tickets.proofs.Storing.{accepted_sound}
use Rattle.desk_boardings.specs.declared.Taken.{Taken}
use Rattle.desk_boardings.specs.declared.Wants.{Wants}
use Rattle.desk_boardings.specs.Boarders.{Want, most_boarders, share, share_one, share_two, row_staying, with_wants, wants_of}
use Rattle.desk_boardings.specs.Boardings.{taken_of, want_rows}
use Rattle.desk_boardings.specs.Private.{HoldsWants, HoldsSome, SoundRow}
use Rattle.desk_boardings.proofs.Loops.{with_appended}

pub share_within : (mine others : ℕ) → share mine others ≤ mine
share_within mine others = omega arith

pub shares_fit : (a b : ℕ) → share a b + share b a ≤ most_boarders
shares_fit a b = omega arith

-- A ticket's count is at most 128; an empty place's is 0.
count_small : (office last : ℕ) (t : Ticket) → is_ticket office last t ≡ true → t.count ≤ most_count
count_small office last t e =
    let a = (and_true_both (eqb t.office office && up_to most_files t.file && up_to most_count t.count) (up_to last t.number) e).0 in
    let c = (and_true_both (eqb t.office office && up_to most_files t.file) (up_to most_count t.count) a).1 in
    leb-true t.count most_count (and_true_both (not (eqb t.count 0)) (leb t.count most_count) c).1

waits_small : (office last : ℕ) (ts : List Ticket) → Waits office last ts → (i : ℕ) → (get_or ts i no_ticket).count ≤ most_count
waits_small office last ts w i =
    elim (dec_lt i (length ts)) [ yes h ↦ count_small office last (get_or ts i no_ticket) (w.each i h) | no n ↦ rw (get_or-eq_default ts no_ticket (let h : length ts ≤ i = omega arith in h)) (omega arith) ]

module _ (l : Lasts) (ones twos row : List Ticket) (s : Sound l ones twos row) where
  pub counts_small : (i : ℕ) → i < all_places → (get_or row i no_ticket).count ≤ most_count
  counts_small i b = rw s.is (elim (dec_lt i places) [ yes h ↦ first h | no n ↦ second (i - places) (omega arith) ])
    where
      first : i < places → (get_or (row_of ones twos) i no_ticket).count ≤ most_count
      first h = rw (get_or-append (placed ones) (placed twos) no_ticket i (rw (placed_long ones s.one.few) h), placed_at ones i) (waits_small 1 l.one ones s.one i)

      second : (j : ℕ) → i ≡ places + j → (get_or (row_of ones twos) i no_ticket).count ≤ most_count
      second j e =
          let at : get_or (row_of ones twos) i no_ticket ≡ get_or twos j no_ticket =
          ap (λ k. get_or (row_of ones twos) k no_ticket) (e ∙ ap (λ k. k + j) (sym (placed_long ones s.one.few)))
          ∙ get_or-append-add (placed ones) (placed twos) j no_ticket ∙ placed_at twos j in
          rw at (waits_small 2 l.two twos s.two j)

  pub front_one : (a : ℕ) → a ≤ length ones → take a (drop 0 row) ≡ take a ones
  front_one a few =
      ap (take a) s.is ∙ take-append-le a (placed ones) (placed twos) (rw (placed_long ones s.one.few) (omega (arith, s.one.few)))
      ∙ take-append-le a ones (lib.ListN.replicate (places - length ones) no_ticket) few

  pub front_two : (b : ℕ) → b ≤ length twos → take b (drop places row) ≡ take b twos
  front_two b few =
      ap (λ r. take b (drop places r)) s.is ∙ ap (take b) (drop_at (placed ones) (placed twos) places (placed_long ones s.one.few))
      ∙ take-append-le b twos (lib.ListN.replicate (places - length twos) no_ticket) few

-- The code's two calls.
module _ (row : List Ticket) (all : length row ≡ all_places) (accepts : SoundRow row) (taken : Taken) (is : taken ≡ taken_of row) where
  pub sound : Sound accepts.lasts (waiting 1 row) (waiting 2 row) row
  sound = accepted_sound accepts.len row accepts.lasts all accepts.accepts

  one_is : taken.one ≡ share_one row
  one_is = ap (λ t. t.one) is

  two_is : taken.two ≡ share_two row
  two_is = ap (λ t. t.two) is

  pub few : taken.one + taken.two ≤ most_boarders
  few = rw (one_is, two_is) (shares_fit (length (waiting 1 row)) (length (waiting 2 row)))

  pub one_there : taken.one ≤ length (waiting 1 row)
  one_there = rw one_is (share_within (length (waiting 1 row)) (length (waiting 2 row)))

  pub two_there : taken.two ≤ length (waiting 2 row)
  two_there = rw two_is (share_within (length (waiting 2 row)) (length (waiting 1 row)))

  none_held : HoldsWants (taken.two + taken.one) (want_rows []) []
  none_held = record { is = refl; few = omega (arith, few); reads = omega (arith, few) }

  module _ (ones : Wants) (first : (m : ℕ) (ws : List Want) → HoldsWants (m + taken.one) (want_rows []) ws → HoldsWants m ones (with_wants ws (take taken.one (drop 0 row)))) where
    ones_held : HoldsWants taken.two ones (with_wants [] (take taken.one (drop 0 row)))
    ones_held = first taken.two [] none_held

    pub second_held : HoldsSome taken.two ones
    second_held = record { wants = with_wants [] (take taken.one (drop 0 row)); holds = ones_held }

    pub all_held : (r : Wants) → ((m : ℕ) (ws : List Want) → HoldsWants (m + taken.two) ones ws → HoldsWants m r (with_wants ws (take taken.two (drop places row)))) → r ≡ want_rows (wants_of row)
    unfolding wants_of
    all_held r second =
        let none : 0 + taken.two ≡ taken.two = omega arith in
        let h = second 0 (with_wants [] (take taken.one (drop 0 row))) (rw none ones_held) in
        h.is
        ∙ ap want_rows
        (ap (λ ts. with_wants (with_wants [] ts) (take taken.two (drop places row))) (front_one accepts.lasts (waiting 1 row) (waiting 2 row) row sound taken.one one_there)
        ∙ ap (λ ts. with_wants (with_wants [] (take taken.one (waiting 1 row))) ts) (front_two accepts.lasts (waiting 1 row) (waiting 2 row) row sound taken.two two_there)
        ∙ ap (λ a. with_wants (with_wants [] (take a (waiting 1 row))) (take taken.two (waiting 2 row))) one_is
        ∙ ap (λ b. with_wants (with_wants [] (take (share_one row) (waiting 1 row))) (take b (waiting 2 row))) two_is
        ∙ sym (with_appended [] (take (share_one row) (waiting 1 row)) (take (share_two row) (waiting 2 row))))

  pub staying : row_without taken.one taken.two row ≡ row_staying row
  staying =
      ap (λ t. row_without t.one t.two row) is
      ∙ sound_without (share_one row) (share_two row) accepts.lasts (waiting 1 row) (waiting 2 row) row sound
