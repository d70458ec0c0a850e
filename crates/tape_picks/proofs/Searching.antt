-- The rows handed over, by line: of an index that cannot be read nothing, of one that can what each line comes to.
use Prim.Native.Nat.{ℕ, zero, suc, ◌≤◌, ◌<◌}
use mathlib.Core.Path.{◌≡◌, refl, ap, ◌∙◌, subst}
use mathlib.Core.Bool.{Bool, true, false, cond}
use mathlib.Core.List.{List, ◌++◌}
use native.Mathlib.Omega.{arith}
use lib.ListN.{length, get_or, take, drop, replicate, length-replicate}
use Rattle.text_lines.specs.Lines.{each_of}
use Rattle.text_paths.specs.Rows.{PathsRead}
use Rattle.text_order.specs.Order.{line_at}
use Rattle.tape_markup.specs.Tree.{is_balanced, tree_of}
use Rattle.tape_files.specs.Index.{every, is_good_extent, index_files}
use Rattle.tape_picks.specs.declared.Tape.{Tape}
use Rattle.tape_picks.specs.declared.Pick.{Pick}
use Rattle.tape_picks.specs.Picks.{asked_pick, is_readable, lines_asked, answered_row, FilesFound}
use Rattle.tape_picks.specs.Private.{pick_in, AllFit, ListHeld, NoneNoted, pick_at, Gathered, Searched}
use Rattle.tape_picks.proofs.Asking.{taken_each, LinesFit, lines_fit, rows_same}

-- Rows of zeros: nothing is noted in them.
abbrev pub zeros : ℕ → List ℕ
zeros n = replicate n 0

zero_entry : (n i : ℕ) → get_or (zeros n) i 0 ≡ 0
zero_entry zero i = refl
zero_entry (suc n) zero = refl
zero_entry (suc n) (suc i) = zero_entry n i

pub zeros_long : (n : ℕ) → length (zeros n) ≡ n
zeros_long n = length-replicate n 0

pub zeros_none : (n count : ℕ) (order : List ℕ) → NoneNoted order count (pick_in (zeros n) (zeros n) (zeros n))
zeros_none n count order k l = rw (zero_entry n (get_or order k 0))

pub zeros_fit : (n count : ℕ) → count ≤ n → AllFit count (zeros n) (zeros n) (zeros n)
zeros_fit n count l = let e = zeros_long n in (omega arith, (omega arith, omega arith))

pub kept_fit : (n count : ℕ) (row : List ℕ) → length row ≡ length (zeros n) → count ≤ n → count ≤ length row
kept_fit n count row k l = let e = zeros_long n in omega arith

module _ (tape : Tape) (index list from to : List ℕ) (count : ℕ) (states starts ends : List ℕ) where
  pub search_bad : false ≡ every (every is_good_extent) (index_files (tree_of index)) → Searched tape index list from to count states starts ends false states starts ends
  unfolding each_of
  search_bad e = record { judged = e; state = refl; start = refl; end = refl }

  module _ (order : List ℕ) (held : ListHeld list from to order count) (noted firsts lasts : List ℕ) (fit : AllFit count noted firsts lasts)
      (g : Gathered tape index list from to order count true (pick_in noted firsts lasts)) where
    by_line : (i : ℕ) → i < count → pick_in noted firsts lasts i ≡ pick_at tape index (line_at list from to i)
    by_line i l =
        let f = held.lines.found i l in
        subst (λ (x : ℕ). pick_in noted firsts lasts x ≡ pick_at tape index (line_at list from to x)) f.2 (g.notes refl f.0 f.1)

    handed : (value : ℕ → ℕ) (row given after : List ℕ) → count ≤ length given → ((i : ℕ) → i < count → get_or given i 0 ≡ value i) → after ≡ take count given ++ drop count row → after ≡ answered_row value count row
    handed value row given after l same e = e ∙ ap (λ (l : List ℕ). l ++ drop count row) (taken_each given value count l same)

    pub search_good : (states' starts' ends' : List ℕ) → states' ≡ take count noted ++ drop count states → starts' ≡ take count firsts ++ drop count starts → ends' ≡ take count lasts ++ drop count ends
        → Searched tape index list from to count states starts ends true states' starts' ends'
    search_good states' starts' ends' a b d =
        record {
          judged = g.judged;
          state = handed (λ i. (pick_at tape index (line_at list from to i)).state) states noted states' fit.0 (λ i l. ap (λ (p : Pick). p.state) (by_line i l)) a;
          start = handed (λ i. (pick_at tape index (line_at list from to i)).start) starts firsts starts' fit.1.0 (λ i l. ap (λ (p : Pick). p.start) (by_line i l)) b;
          end = handed (λ i. (pick_at tape index (line_at list from to i)).end) ends lasts ends' fit.1.1 (λ i l. ap (λ (p : Pick). p.end) (by_line i l)) d;
        }

-- The whole: an index that is not balanced, and one that is.
pub asked_fit : (list : List ℕ) (states starts ends count : ℕ) → count ≡ lines_asked list states starts ends → LinesFit list states starts ends count
asked_fit list states starts ends count e = rw e (lines_fit list states starts ends)

module _ (tape : Tape) (index list states starts ends : List ℕ) where
  pub found_none : false ≡ is_balanced index → FilesFound tape index list states starts ends false states starts ends
  unfolding is_readable each_of
  found_none e = record { judged = rw (← e); state = refl; start = refl; end = refl }

  module _ (balanced : true ≡ is_balanced index) (count : ℕ) (is : count ≡ lines_asked list (length states) (length starts) (length ends)) (first second : List ℕ) (wide : length first ≡ 1024)
      (wide' : length second ≡ 1024) (from to : List ℕ) (read : PathsRead list count first second from to) where
    fits : LinesFit list (length states) (length starts) (length ends) count
    fits = asked_fit list (length states) (length starts) (length ends) count is

    by_path : (part : Pick → ℕ) (good : Bool) (row after : List ℕ) → after ≡ answered_row (λ i. part (pick_at tape index (line_at list from to i))) (cond good count 0) row
        → after ≡ answered_row (λ i. part (asked_pick tape index list i)) (cond good (lines_asked list (length states) (length starts) (length ends)) 0) row
    by_path part good row after e =
        e
        ∙ rows_same list count fits.none fits.few first second wide wide' from to read tape index part good row
        ∙ ap (λ (n : ℕ). answered_row (λ i. part (asked_pick tape index list i)) (cond good n 0) row) is

    pub found_all : (good : Bool) (states' starts' ends' : List ℕ) → Searched tape index list from to count states starts ends good states' starts' ends'
        → FilesFound tape index list states starts ends good states' starts' ends'
    unfolding is_readable
    found_all good states' starts' ends' s =
        record {
          judged = s.judged ∙ rw (← balanced);
          state = by_path (λ p. p.state) good states states' s.state;
          start = by_path (λ p. p.start) good starts starts' s.start;
          end = by_path (λ p. p.end) good ends ends' s.end;
        }
