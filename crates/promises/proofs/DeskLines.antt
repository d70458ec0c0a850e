-- Each ticket that boards has its want: adding a want puts its file among the numbers, and takes none away.
use Prim.Native.Nat.{ℕ, zero, suc, ◌<◌}
use mathlib.Core.Path.{◌≡◌, refl, sym, ap, ◌∙◌}
use mathlib.Core.Bool.{Bool, true, false, cond}
use mathlib.Core.Logic.{⊎_elim}
use mathlib.Core.List.{List, [], ◌∷◌, ◌++◌}
use native.Mathlib.Omega.{arith}
use lib.Dec.{eqb}
use lib.ListN.{length, get_or}
use borrow.Author.Tests.{lt-ltb, le-ltb, eq-eqb, ne_eqb, eqb-true}
use Rattle.refusals.specs.Refusals.{is_refusal}
use Rattle.runs.proofs.Search.{true_or_false}
use Rattle.planner.specs.Rows.{Rows}
use Rattle.desk_tickets.specs.declared.Ticket.{Ticket}
use Rattle.desk_tickets.specs.WaitingTable.{no_ticket}
use Rattle.desk_boardings.specs.declared.Boarding.{Boarding}
use Rattle.desk_boardings.specs.declared.BoardedRow.{BoardedRow}
use Rattle.desk_boardings.specs.Boarders.{Want, want_of, add_want, with_wants, wants_of, file_numbers, boarders}
use Rattle.desk_boardings.specs.Boardings.{Tape, eight, Boards}
use Rattle.desk_boardings.proofs.Adding.{by_order}
use Rattle.answer_desk.specs.Answers.{place_in}
use Rattle.promises.proofs.DeskSteps.{board_accepted}
use Rattle.promises.specs.DeskLines.{TicketsHaveWants}

-- A file stands among some numbers.
abbrev Among : ℕ → List ℕ → Type 0
Among f ns = place_in f ns < length ns

among_first : (f n : ℕ) (ns : List ℕ) → n ≡ f → Among f (n ∷ ns)
unfolding place_in
among_first f n ns e = rw (eq-eqb n f e) (omega arith)

among_later : (f n : ℕ) (ns : List ℕ) → Among f ns → Among f (n ∷ ns)
unfolding place_in
among_later f n ns h = by_test (eqb n f)
  where
    by_test : (b : Bool) → cond b 0 (suc (place_in f ns)) < suc (length ns)
    by_test true = omega arith
    by_test false = omega (arith, h)

-- Where one number is put before others, or they stay, what stood among those behind it still does.
among_behind : (f n : ℕ) (ns ms : List ℕ) → (Among f ns → Among f ms) → Among f (n ∷ ns) → Among f (n ∷ ms)
unfolding place_in
among_behind f n ns ms keeps h =
    ⊎_elim
    (λ (e : eqb n f ≡ true). among_first f n ms (eqb-true n f e))
    (λ (e : eqb n f ≡ false). among_later f n ms (keeps (let z = rw e at h in omega (arith, z))))
    (true_or_false (eqb n f))

added : (w : Want) (ws : List Want) → Among w.file (file_numbers (add_want w ws))
unfolding add_want
added w [] = among_first w.file w.file [] refl
added w (x ∷ xs) =
    by_order (Among w.file (file_numbers (add_want w (x ∷ xs)))) w.file x.file
    (λ l. rw (lt-ltb w.file x.file l) (among_first w.file w.file (x.file ∷ file_numbers xs) refl))
    (λ e. rw (le-ltb w.file x.file (omega arith), eq-eqb w.file x.file e) (among_first w.file x.file (file_numbers xs) (sym e)))
    (λ g. rw (le-ltb w.file x.file (omega arith), ne_eqb w.file x.file (λ e. omega arith)) (among_later w.file x.file (file_numbers (add_want w xs)) (added w xs)))

kept : (f : ℕ) (w : Want) (ws : List Want) → Among f (file_numbers ws) → Among f (file_numbers (add_want w ws))
unfolding add_want
kept f w [] h = among_later f w.file [] h
kept f w (x ∷ xs) h =
    by_order (Among f (file_numbers (add_want w (x ∷ xs)))) w.file x.file
    (λ l. rw (lt-ltb w.file x.file l) (among_later f w.file (x.file ∷ file_numbers xs) h))
    (λ e. rw (le-ltb w.file x.file (omega arith), eq-eqb w.file x.file e) h)
    (λ g. rw (le-ltb w.file x.file (omega arith), ne_eqb w.file x.file (λ e. omega arith)) (among_behind f x.file (file_numbers xs) (file_numbers (add_want w xs)) (kept f w xs) h))

-- One ticket after the other.
all_kept : (f : ℕ) (ts : List Ticket) (ws : List Want) → Among f (file_numbers ws) → Among f (file_numbers (with_wants ws ts))
unfolding with_wants
all_kept f [] ws h = h
all_kept f (t ∷ ts) ws h = all_kept f ts (add_want (want_of t) ws) (kept f (want_of t) ws h)

pub each_added : (ts : List Ticket) (ws : List Want) (i : ℕ) → i < length ts → Among (get_or ts i no_ticket).file (file_numbers (with_wants ws ts))
unfolding with_wants
each_added [] ws i l = absurd (omega arith)
each_added (t ∷ ts) ws zero l = all_kept t.file ts (add_want (want_of t) ws) (added (want_of t) ws)
each_added (t ∷ ts) ws (suc i) l = each_added ts (add_want (want_of t) ws) i (omega arith)

-- What stands at the place of a file, and that further numbers do not move it.
pub there : (f : ℕ) (ns : List ℕ) → Among f ns → get_or ns (place_in f ns) 0 ≡ f
unfolding place_in
there f [] h = absurd (omega arith)
there f (n ∷ ns) h =
    ⊎_elim
    (λ (e : eqb n f ≡ true). rw e (eqb-true n f e))
    (λ (e : eqb n f ≡ false). rw e (there f ns (let z = rw e at h in omega (arith, z))))
    (true_or_false (eqb n f))

pub not_moved : (f : ℕ) (ns ms : List ℕ) → Among f ns → place_in f (ns ++ ms) ≡ place_in f ns
unfolding place_in
not_moved f [] ms h = absurd (omega arith)
not_moved f (n ∷ ns) ms h =
    ⊎_elim
    (λ (e : eqb n f ≡ true). rw e)
    (λ (e : eqb n f ≡ false). rw e (ap suc (not_moved f ns ms (let z = rw e at h in omega (arith, z)))))
    (true_or_false (eqb n f))

-- The numbers that an accepted boarding tells: those of the wants, and zeros.
module _ (len : ℕ) (tape : Tape) (row : List Ticket) (b : Boarding) (before after : Rows) (r : BoardedRow) (boards : Boards len tape row b before r after) (e : is_refusal r.boarded.answer.refusal ≡ false) where
  pub numbers_told : r.boarded.wants.numbers ≡ eight (file_numbers (wants_of row))
  numbers_told = ap (λ (x : BoardedRow). x.boarded.wants.numbers) (boards.planned (board_accepted len tape row b before after r boards e)).says ∙ rw e

pub tickets_have_wants : TicketsHaveWants
unfolding wants_of
tickets_have_wants len tape row b before after r i boards accepts l =
    let f = (get_or (boarders row) i no_ticket).file in
    let ns = file_numbers (wants_of row) in
    let h : Among f ns = each_added (boarders row) [] i l in
    let place : place_in f r.boarded.wants.numbers ≡ place_in f ns = ap (place_in f) (numbers_told len tape row b before after r boards (ap is_refusal accepts)) ∙ not_moved f ns _ h in
    record { want = place_in f ns; among = h; file = there f ns h; line = rw place }
