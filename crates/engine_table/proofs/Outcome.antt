-- From the list that is written to the engine's answer: the list is the least, and each row is what it should be.
use Prim.Native.Nat.{ℕ, ◌+◌, ◌-◌, ◌≤◌, ◌<◌}
use mathlib.Core.Path.{◌≡◌, refl, sym, ap, ◌∙◌}
use mathlib.Core.Bool.{false}
use mathlib.Core.Logic.{by_cases}
use mathlib.Core.List.{List, [], ◌∷◌, ◌++◌, map}
use native.Mathlib.Omega.{arith}
use native.Mathlib.Decide.{dec_lt}
use lib.ListN.{length, get_or, take, drop, replicate, length-append, length-replicate, length-drop, get_or-replicate, get_or-append, take-append-drop}
use lib.Seq.{ext_get_or, get_or-append-add, get_or-drop, length-take-le}
use Rattle.std.specs.Prelude.{Ok}
use Rattle.refusals.specs.Refusals.{is_refusal}
use Rattle.runs.specs.Run.{Run, Stop, stops_of, total, most_reads}
use Rattle.runs.specs.Alone.{lone_stops}
use Rattle.runs.specs.AnyHead.{pulled, judge_any_of, lifted_head, lifted}
use Rattle.runs.specs.Lists.{Detour, list_of}
use Rattle.runs.proofs.Entries.{length_list}
use Rattle.runs.proofs.AnyHead.{pulled_length, accepted_any}
use Rattle.runs.proofs.Alone.{plain_length}
use Rattle.runs.proofs.Stops.{run_sound}
use Rattle.least.proofs.LeastList.{least_list_none, least_list_some}
use Rattle.least.proofs.LeastAny.{least_any}
use Rattle.engine_table.specs.Listing.{IsListed, list_rows, room_size}
use Rattle.engine_table.specs.Private.{AnyRun, Judged, Written, Beyond, ListWritten, list_at, table_size}
use Rattle.engine_table.proofs.Facts.{stops_length}
use Rattle.engine_table.proofs.MetRows.{counts_even}
use Rattle.least.specs.Recurrence.{least_list}

-- Nothing is written.
pub list_none_written : (list : List Detour) (froms tos : List ℕ) → list ≡ [] → ListWritten list 0 froms tos froms tos
unfolding list_of
list_none_written list froms tos e =
    record { fits_from = omega arith; fits_to = omega arith; entries = sym e; later_from = refl; later_to = refl }

pub list_same_written : (l l' : List Detour) (n : ℕ) (froms tos froms' tos' : List ℕ) → l ≡ l' → ListWritten l n froms tos froms' tos' → ListWritten l' n froms tos froms' tos'
list_same_written l l' n froms tos froms' tos' e w =
    record { fits_from = w.fits_from; fits_to = w.fits_to; entries = w.entries ∙ e; later_from = w.later_from; later_to = w.later_to }

no_stops : (turn : ℕ) (stops : List Stop) → length stops ≡ 0 → least_list turn stops ≡ []
no_stops turn [] e = least_list_none turn
no_stops turn (s ∷ stops) e = absurd (omega arith)

pub least_of_none : (starts lengths numbers counts : List ℕ) (head turn reads : ℕ) → AnyRun starts lengths numbers counts head turn reads
    → length numbers ≡ 0 → least_list turn (pulled head (lone_stops starts lengths numbers counts)) ≡ []
least_of_none starts lengths numbers counts head turn reads r e =
    no_stops turn (pulled head (lone_stops starts lengths numbers counts))
    (pulled_length head (lone_stops starts lengths numbers counts) ∙ plain_length starts lengths numbers counts (counts_even starts lengths numbers counts head turn reads r) ∙ e)

module _ (starts lengths numbers counts : List ℕ) (turn reads : ℕ) (j : Judged starts lengths numbers counts turn reads) where
  pub least_of_some : (length numbers ≡ 0 → ⊥) → list_at (lone_stops starts lengths numbers counts) turn 0 (length numbers - 1) 0 ≡ least_list turn (lone_stops starts lengths numbers counts)
  least_of_some n =
      sym (least_list_some turn (length numbers - 1) (lone_stops starts lengths numbers counts) (omega (arith, stops_length starts lengths numbers counts turn reads j)))

-- A list in two rows has its starts in one and its ends in the other.
starts_in_row : (xs ys : List ℕ) → length xs ≡ length ys → map (λ d. d.from) (list_of xs ys) ≡ xs
unfolding list_of
starts_in_row [] ys e = refl
starts_in_row (x ∷ xs) [] e = absurd (omega arith)
starts_in_row (x ∷ xs) (y ∷ ys) e = ap (λ l. x ∷ l) (starts_in_row xs ys (omega arith))

ends_in_row : (xs ys : List ℕ) → length xs ≡ length ys → map (λ d. d.to) (list_of xs ys) ≡ ys
unfolding list_of
ends_in_row [] [] e = refl
ends_in_row [] (y ∷ ys) e = absurd (omega arith)
ends_in_row (x ∷ xs) [] e = absurd (omega arith)
ends_in_row (x ∷ xs) (y ∷ ys) e = ap (λ l. y ∷ l) (ends_in_row xs ys (omega arith))

module _ (list : List Detour) (n : ℕ) (froms tos froms' tos' : List ℕ) (w : ListWritten list n froms tos froms' tos') where
  even : length (take n froms') ≡ length (take n tos')
  even = length-take-le n froms' w.fits_from ∙ sym (length-take-le n tos' w.fits_to)

  list_long : length list ≡ n
  list_long = sym (ap length w.entries) ∙ length_list (take n froms') (take n tos') even ∙ length-take-le n froms' w.fits_from

  froms_after : froms' ≡ map (λ d. d.from) list ++ drop (length list) froms
  froms_after =
      rw (list_long, ← w.later_from, ← w.entries, starts_in_row (take n froms') (take n tos') even)
      (sym (take-append-drop n froms'))

  tos_after : tos' ≡ map (λ d. d.to) list ++ drop (length list) tos
  tos_after =
      rw (list_long, ← w.later_to, ← w.entries, ends_in_row (take n froms') (take n tos') even)
      (sym (take-append-drop n tos'))

-- What fitted before the list was found fits after it.
pub still_fits : (t size : ℕ) (xs ys : List ℕ) → t ≡ size → Beyond size xs ys → size ≤ length xs → 0 + t ≤ length ys
still_fits t size xs ys e b h = omega (arith, e, b.same, h)

-- Zero in the first words, all later words as they were.
room_after : (size : ℕ) (xs ys zs : List ℕ) → size ≤ length xs → Beyond size xs ys → Written 0 size (λ s. 0) ys zs → zs ≡ replicate size 0 ++ drop size xs
room_after size xs ys zs h b w = ext_get_or 0 zs (replicate size 0 ++ drop size xs) same each
  where
    same : length zs ≡ length (replicate size 0 ++ drop size xs)
    same = omega (arith, w.kept.same, b.same, length-append (replicate size 0) (drop size xs), length-replicate {A = ℕ} size 0, length-drop size xs)

    zero_word : (i : ℕ) → i < size → get_or zs i 0 ≡ get_or (replicate size 0 ++ drop size xs) i 0
    zero_word i l =
        let e : 0 + i ≡ i = omega arith in
        (rw e at (w.words i l)) ∙ sym (get_or-append (replicate size 0) (drop size xs) 0 i (omega (arith, length-replicate {A = ℕ} size 0)) ∙ get_or-replicate {A = ℕ} size i 0 0 l)

    later_word : (i : ℕ) → size ≤ i → get_or zs i 0 ≡ get_or (replicate size 0 ++ drop size xs) i 0
    later_word i l =
        let e : length {A = ℕ} (replicate size 0) + (i - size) ≡ i = omega (arith, length-replicate {A = ℕ} size 0) in
        let f : size + (i - size) ≡ i = omega arith in
        let far = get_or-append-add (replicate size 0) (drop size xs) (i - size) 0 ∙ get_or-drop size xs (i - size) 0 in
        let there : get_or (replicate size 0 ++ drop size xs) i 0 ≡ get_or xs i 0 = rw (e, f) at far in
        w.kept.above i (omega arith) ∙ b.later i l ∙ sym there

    each : (i : ℕ) → i < length zs → get_or zs i 0 ≡ get_or (replicate size 0 ++ drop size xs) i 0
    each i l = by_cases (dec_lt i size) (λ m. zero_word i m) (λ m. later_word i (omega arith))

-- The list is written and the room is zeroed.
module _ (r : Run) (reads : ℕ) (froms tos room : List ℕ) (accepts : is_refusal (judge_any_of r).refusal ≡ false) (whole : reads ≡ total r.counts) where
  pub listed_so : (n : ℕ) (froms' tos' room₁ room' : List ℕ) → table_size (length r.numbers) reads ≤ length room
      → ListWritten (least_list r.turn (pulled r.head (stops_of r))) n froms tos froms' tos'
      → Beyond (table_size (length r.numbers) reads) room room₁ → Written 0 (table_size (length r.numbers) reads) (λ s. 0) room₁ room'
      → IsListed r (list_rows froms tos room) (Ok n) (list_rows froms' tos' room')
  listed_so n froms' tos' room₁ room' big w b z =
      record {
        list = list;
        least = least_any r.turn r.head (lifted_head r.head) (stops_of r) (run_sound (lifted r) (accepted_any r accepts).run);
        says = ap Ok (sym (list_long list n froms tos froms' tos' w));
        rows = rows_are (froms_after list n froms tos froms' tos' w) (tos_after list n froms tos froms' tos' w) room_is;
      }
    where
      list : List Detour
      list = least_list r.turn (pulled r.head (stops_of r))

      size_is : table_size (length r.numbers) reads ≡ room_size r
      size_is = rw whole

      room_is : room' ≡ replicate (room_size r) 0 ++ drop (room_size r) room
      room_is = rw size_is at (room_after (table_size (length r.numbers) reads) room room₁ room' big b z)

      rows_are : {a a' b b' c c' : List ℕ} → a ≡ a' → b ≡ b' → c ≡ c' → list_rows a b c ≡ list_rows a' b' c'
      rows_are e f g = rw (e, f, g)

-- What an accepted run's table comes to fits a word.
module _ (r : Run) (accepts : is_refusal (judge_any_of r).refusal ≡ false) where
  pub reads_small : total r.counts ≤ most_reads
  reads_small = (accepted_any r accepts).run.wants.reads
