-- The lines that are asked for: how many, where their paths stand, in which order; and rows by line.
use Prim.Native.Nat.{ℕ, zero, suc, ◌-◌, ◌≤◌, ◌<◌, min}
use mathlib.Core.Path.{◌≡◌, refl, ap, sym, ◌∙◌}
use mathlib.Core.Bool.{Bool, true, false, cond, not, ◌&&◌, ◌||◌, true≢false, false≢true}
use mathlib.Core.List.{List, [], ◌∷◌, ◌++◌}
use mathlib.Core.Logic.{by_cases}
use native.Mathlib.Omega.{arith}
use native.Mathlib.Decide.{dec_lt}
use lib.ListN.{length, get_or, take, drop, length-append, length-drop, get_or-append}
use lib.Seq.{take-suc, get_or-append_seam}
use lib.Dec.{eqb, ltb, leb}
use borrow.Author.Tests.{ltb-false, leb-true, lt-leb, le-leb, not-true, not-false}
use Rattle.std.specs.Prelude.{Result}
use Rattle.std.specs.Result.{is_err}
use Rattle.refusals.specs.declared.Refusal.TheVariants.{BadLine, TooManyReads}
use Rattle.refusals.specs.declared.Verdict.{Verdict}
use Rattle.refusals.specs.Refusals.{checked, is_refusal, refuse_if, refuse_at, first_of, one_more, first_where}
use Rattle.text_bytes.specs.Text.{line_feed, has, before, behind}
use Rattle.text_bytes.proofs.Bytes.{and_true_both}
use Rattle.text_lines.specs.Lines.{line_of, after_lines, line_after, first_bad_of, each_of, held_in}
use Rattle.text_lines.proofs.Filling.{length_each}
use Rattle.text_paths.specs.Paths.{names_from, slashes_of, asked_path, is_asked, line_count, path_after, most_lines, paths_verdict}
use Rattle.text_paths.specs.Rows.{path_start, path_end, paths_filled, PathsRead}
use Rattle.text_paths.proofs.Positions.{path_stands}
use Rattle.text_order.specs.Order.{line_at}
use Rattle.text_order.specs.Rows.{lines_in_order, order_filled}
use Rattle.text_order.specs.Promises.{LinesOrdered}
use Rattle.text_order.proofs.Sorted.{lines_stand_in_order}
use Rattle.tape_picks.specs.declared.Tape.{Tape}
use Rattle.tape_picks.specs.declared.Pick.{Pick}
use Rattle.tape_picks.specs.Picks.{asked_pick, answered_row, lines_asked}
use Rattle.tape_picks.specs.Private.{OrderHeld, ListHeld, pick_at}

-- A row of values, entry by entry.
each_value : (value : ℕ → ℕ) (n i : ℕ) → i < n → get_or (each_of value n) i 0 ≡ value i
unfolding each_of
each_value value zero i l = absurd (omega arith)
each_value value (suc n) i l = by_cases (dec_lt i n) (λ d. get_or-append (each_of value n) (value n ∷ []) 0 i (rw (length_each value n) d) ∙ each_value value n i d) last
  where
    last : (i < n → ⊥) → get_or (each_of value n ++ (value n ∷ [])) i 0 ≡ value i
    last d =
        let e : i ≡ length (each_of value n) = rw (length_each value n) (omega arith) in
        let s : n ≡ i = omega arith in
        ap (λ (k : ℕ). get_or (each_of value n ++ (value n ∷ [])) k 0) e ∙ get_or-append_seam (each_of value n) (value n) [] 0 ∙ ap value s

each_same : (value other : ℕ → ℕ) (n : ℕ) → ((i : ℕ) → i < n → value i ≡ other i) → each_of value n ≡ each_of other n
unfolding each_of
each_same value other zero same = refl
each_same value other (suc n) same = rw (each_same value other n (λ i l. same i (omega arith)), same n (omega arith))

pub taken_each : (row : List ℕ) (value : ℕ → ℕ) (n : ℕ) → n ≤ length row → ((i : ℕ) → i < n → get_or row i 0 ≡ value i) → take n row ≡ each_of value n
unfolding each_of
taken_each row value zero l same = refl
taken_each row value (suc n) l same = take-suc row n 0 l ∙ rw (taken_each row value n (omega arith) (λ i m. same i (omega arith)), same n (omega arith))

-- No line before is bad.
none_bad : (bad : ℕ → Bool) (n : ℕ) → first_where bad n ≡ 0 → (i : ℕ) → i < n → bad i ≡ false
unfolding first_where
none_bad bad zero e i l = absurd (omega arith)
none_bad bad (suc n) e i l = go (first_where bad n) (bad n) refl refl e (none_bad bad n)
  where
    go : (first : ℕ) (t : Bool) → first_where bad n ≡ first → bad n ≡ t → one_more first t n ≡ 0 → (first_where bad n ≡ 0 → (i : ℕ) → i < n → bad i ≡ false) → bad i ≡ false
    go zero true f b o rest = absurd (omega arith)
    go zero false f b o rest = by_cases (dec_lt i n) (λ d. rest f i d) (λ d. let s : i ≡ n = omega arith in ap bad s ∙ b)
    go (suc first) t f b o rest = absurd (omega arith)

-- A path is shorter than its list.
before_less : (c : ℕ) (text : List ℕ) → has c text ≡ true → length (before c text) < length text
unfolding has before
before_less c [] e = absurd (false≢true e)
before_less c (b ∷ text) e = go (eqb b c) e (before_less c text)
  where
    go : (t : Bool) → (t || has c text) ≡ true → (has c text ≡ true → length (before c text) < length text) → length (cond t [] (b ∷ before c text)) < suc (length text)
    go true h rest = omega arith
    go false h rest = let l = rest h in omega arith

line_less : (text : List ℕ) → 0 < length (line_of text) → length (line_of text) < length text
unfolding line_of
line_less text = go (has line_feed text) refl
  where
    go : (t : Bool) → has line_feed text ≡ t → 0 < length (cond t (before line_feed text) []) → length (cond t (before line_feed text) []) < length text
    go true h l = before_less line_feed text h
    go false h l = absurd (omega arith)

behind_short : (c : ℕ) (text : List ℕ) → length (behind c text) ≤ length text
unfolding behind
behind_short c [] = omega arith
behind_short c (b ∷ text) = go (eqb b c) (behind_short c text)
  where
    go : (t : Bool) → length (behind c text) ≤ length text → length (cond t text (behind c text)) ≤ suc (length text)
    go true l = omega arith
    go false l = omega arith

after_short : (i : ℕ) (text : List ℕ) → length (after_lines i text) ≤ length text
unfolding after_lines
after_short zero text = omega arith
after_short (suc i) text = omega (arith, behind_short line_feed (after_lines i text), after_short i text)

path_some : (line : List ℕ) → is_asked line ≡ true → 0 < length (asked_path line)
unfolding is_asked names_from
path_some line e = go (asked_path line) e
  where
    go : (path : List ℕ) → names_from false path ≡ true → 0 < length path
    go [] h = absurd (false≢true h)
    go (b ∷ path) h = omega arith

asked_size : (line : List ℕ) → length (asked_path line) ≡ length line - slashes_of line
unfolding asked_path
asked_size line = length-drop (slashes_of line) line

path_short : (list : List ℕ) (i : ℕ) → is_asked (line_after i list) ≡ true → length (path_after i list) < length list
path_short list i e =
    let some = path_some (line_after i list) e in
    let size = asked_size (line_after i list) in
    let less = line_less (after_lines i list) (omega arith) in
    let after = after_short i list in
    omega arith

path_size : (list : List ℕ) (i : ℕ) → length (path_after i list) ≡ path_end list i - path_start list i
unfolding path_start path_end
path_size list i = let size = asked_size (line_after i list) in omega arith

-- The lines that are asked for are all of an accepted list, or none.
accepted_list : (list : List ℕ) → is_refusal (paths_verdict list).refusal ≡ false → (first_bad_of is_asked (line_count list) list ≡ 0) × (line_count list ≤ 1024)
unfolding paths_verdict
accepted_list list = go (first_bad_of is_asked (line_count list) list) (ltb most_lines (line_count list)) refl refl
  where
    go : (first : ℕ) (t : Bool) → first_bad_of is_asked (line_count list) list ≡ first → ltb most_lines (line_count list) ≡ t
        → is_refusal (first_of (refuse_at first BadLine ∷ refuse_if t TooManyReads ∷ [])).refusal ≡ false → (first_bad_of is_asked (line_count list) list ≡ 0) × (line_count list ≤ 1024)
    go zero true f h e = absurd (true≢false e)
    go zero false f h e = (f, ltb-false most_lines (line_count list) h)
    go (suc first) t f h e = absurd (true≢false e)

pub record LinesFit (list : List ℕ) (states starts ends count : ℕ) : Type 0 where
  pub none : first_bad_of is_asked count list ≡ 0
  pub few : count ≤ 1024
  pub rows : (count ≤ states) × (count ≤ starts) × (count ≤ ends)

pub lines_fit : (list : List ℕ) (states starts ends : ℕ) → LinesFit list states starts ends (lines_asked list states starts ends)
unfolding lines_asked first_bad_of first_where
lines_fit list states starts ends =
    go (not (is_refusal (paths_verdict list).refusal) && leb (line_count list) states && leb (line_count list) starts && leb (line_count list) ends) refl
  where
    go : (t : Bool) → (not (is_refusal (paths_verdict list).refusal) && leb (line_count list) states && leb (line_count list) starts && leb (line_count list) ends) ≡ t
        → LinesFit list states starts ends (cond t (line_count list) 0)
    go true e =
        let three = and_true_both _ _ e in
        let two = and_true_both _ _ three.0 in
        let one = and_true_both _ _ two.0 in
        let good = accepted_list list (not-true (is_refusal (paths_verdict list).refusal) one.0) in
        record { none = good.0; few = good.1; rows = (leb-true (line_count list) states one.1, leb-true (line_count list) starts two.1, leb-true (line_count list) ends three.1) }
    go false e = record { none = refl; few = omega arith; rows = (omega arith, omega arith, omega arith) }

-- What is answered to a list is an error where its verdict refuses.
pub list_says : (list : List ℕ) (r : Result Unit Verdict) → r ≡ checked (paths_verdict list) → is_err r ≡ is_refusal (paths_verdict list).refusal
list_says list r e = go (is_refusal (paths_verdict list).refusal) refl
  where
    go : (b : Bool) → is_refusal (paths_verdict list).refusal ≡ b → is_err r ≡ is_refusal (paths_verdict list).refusal
    go true h = rw (e, h) refl
    go false h = rw (e, h) refl

-- The same as they are counted.
module _ (list : List ℕ) (states starts ends : ℕ) where
  pub asked_refused : is_refusal (paths_verdict list).refusal ≡ true → (0 ≡ lines_asked list states starts ends) × (0 ≤ 1024)
  unfolding lines_asked
  asked_refused e = (rw e, omega arith)

  module _ (good : is_refusal (paths_verdict list).refusal ≡ false) (count : ℕ) (is : count ≡ line_count list) where
    pub asked_no_state : states < count → (0 ≡ lines_asked list states starts ends) × (0 ≤ 1024)
    unfolding lines_asked
    asked_no_state l = (rw (good, lt-leb (line_count list) states (omega arith)), omega arith)

    pub asked_no_start : count ≤ states → starts < count → (0 ≡ lines_asked list states starts ends) × (0 ≤ 1024)
    unfolding lines_asked
    asked_no_start a l = (rw (good, le-leb (line_count list) states (omega arith), lt-leb (line_count list) starts (omega arith)), omega arith)

    pub asked_no_end : count ≤ states → count ≤ starts → ends < count → (0 ≡ lines_asked list states starts ends) × (0 ≤ 1024)
    unfolding lines_asked
    asked_no_end a b l =
        (rw (good, le-leb (line_count list) states (omega arith), le-leb (line_count list) starts (omega arith), lt-leb (line_count list) ends (omega arith)), omega arith)

    pub asked_all : count ≤ states → count ≤ starts → count ≤ ends → (count ≡ lines_asked list states starts ends) × (count ≤ 1024)
    unfolding lines_asked
    asked_all a b d =
        let few = (accepted_list list good).1 in
        (is ∙ rw (good, le-leb (line_count list) states (omega arith), le-leb (line_count list) starts (omega arith), le-leb (line_count list) ends (omega arith)), omega arith)

-- Where the paths stand, and in which order.
module _ (list : List ℕ) (count : ℕ) (none : first_bad_of is_asked count list ≡ 0) (few : count ≤ 1024) (zeros zeros' : List ℕ) (wide : length zeros ≡ 1024) (wide' : length zeros' ≡ 1024)
    (from to : List ℕ) (read : PathsRead list count zeros zeros' from to) where
  all_filled : paths_filled list count zeros zeros' ≡ count
  unfolding paths_filled
  all_filled = let h : held_in count zeros zeros' ≡ count = omega arith in rw (h, none)

  start_is : (i : ℕ) → i < count → get_or from i 0 ≡ path_start list i
  start_is i l =
      rw (read.left, all_filled)
      (get_or-append (each_of (path_start list) count) (drop count zeros) 0 i (rw (length_each (path_start list) count) l) ∙ each_value (path_start list) count i l)

  end_is : (i : ℕ) → i < count → get_or to i 0 ≡ path_end list i
  end_is i l =
      rw (read.right, all_filled)
      (get_or-append (each_of (path_end list) count) (drop count zeros') 0 i (rw (length_each (path_end list) count) l) ∙ each_value (path_end list) count i l)

  pub line_is : (i : ℕ) → i < count → line_at list from to i ≡ path_after i list
  line_is i l = rw (start_is i l, end_is i l) (path_stands list i)

  asked_line : (i : ℕ) → i < count → is_asked (line_after i list) ≡ true
  unfolding first_bad_of
  asked_line i l = not-false (is_asked (line_after i list)) (none_bad (λ k. not (is_asked (line_after k list))) count none i l)

  row_long_here : (value : ℕ → ℕ) (row : List ℕ) → count ≤ length (each_of value count ++ row)
  row_long_here value row = rw (length-append (each_of value count) row, length_each value count) (omega arith)

  module _ (small : length list < 18446744073709551616) (places : List ℕ) (wide'' : length places ≡ 1024) (order : List ℕ) (filled : order ≡ order_filled list from to count places) where
    abbrev lines : List ℕ
    lines = lines_in_order (line_at list from to) count

    stand : LinesOrdered (line_at list from to) count lines
    stand = lines_stand_in_order (line_at list from to) count

    order_is : order ≡ lines ++ drop count places
    order_is = let e : min count (length places) ≡ count = omega arith in filled ∙ rw e

    place_is : (k : ℕ) → k < count → get_or order k 0 ≡ get_or lines k 0
    place_is k l = rw order_is (get_or-append lines (drop count places) 0 k (rw stand.long l))

    order_held_here : OrderHeld order count
    order_held_here =
        record {
          room = rw (order_is, length-append lines (drop count places), stand.long) (omega arith);
          within = λ k l. rw (place_is k l) (stand.below k l);
          apart = apart;
          found = λ i l. let f = stand.found i l in (f.0, f.1, place_is f.0 f.1 ∙ f.2);
        }
      where
        apart : (j k : ℕ) → j < count → k < count → get_or order j 0 ≡ get_or order k 0 → j ≡ k
        apart j k a b e =
            let s : get_or lines j 0 ≡ get_or lines k 0 = sym (place_is j a) ∙ e ∙ place_is k b in
            by_cases (dec_lt j k) (λ d. absurd (stand.once j k d b s)) (λ d. by_cases (dec_lt k j) (λ f. absurd (stand.once k j f a (sym s))) (λ f. omega arith))

    pub list_held : ListHeld list from to order count
    list_held =
        record {
          sorted = λ i j a b. rw (place_is i (omega arith), place_is j b) (stand.sorted i j a b);
          lines = order_held_here;
          rows = (rw (read.left, all_filled) (row_long_here (path_start list) (drop count zeros)), rw (read.right, all_filled) (row_long_here (path_end list) (drop count zeros')));
          long = λ k l. let w = order_held_here.within k l in rw (line_is (get_or order k 0) w, start_is (get_or order k 0) w, end_is (get_or order k 0) w) (path_size list (get_or order k 0));
          short = λ k l.
              let w = order_held_here.within k l in
              let p = path_short list (get_or order k 0) (asked_line (get_or order k 0) w) in
              rw (line_is (get_or order k 0) w) (omega arith);
        }

  -- The rows by line, of the list's paths.
  module _ (tape : Tape) (index : List ℕ) where
    line_pick : (i : ℕ) → i < count → pick_at tape index (line_at list from to i) ≡ asked_pick tape index list i
    unfolding asked_pick
    line_pick i l = ap (pick_at tape index) (line_is i l)

    pub rows_same : (part : Pick → ℕ) (good : Bool) (row : List ℕ)
        → answered_row (λ i. part (pick_at tape index (line_at list from to i))) (cond good count 0) row ≡ answered_row (λ i. part (asked_pick tape index list i)) (cond good count 0) row
    unfolding each_of
    rows_same part true row =
        ap (λ (l : List ℕ). l ++ drop count row) (each_same (λ i. part (pick_at tape index (line_at list from to i))) (λ i. part (asked_pick tape index list i)) count (λ i l. ap part (line_pick i l)))
    rows_same part false row = refl
