-- Lines at a byte of a text: the test of a reader, as a line behind no other; neighbours that overlap, one pair behind the other; a file put in among others.
use Prim.Native.Nat.{ℕ, zero, suc, ◌+◌, ◌-◌, ◌*◌, ◌≤◌, ◌<◌}
use mathlib.Core.Path.{◌≡◌, refl, sym, ap, ◌∙◌}
use mathlib.Core.Bool.{Bool, true, false, ◌||◌, true≢false}
use mathlib.Core.Logic.{◌⊎◌, inl, inr, ⊎_elim, by_cases}
use mathlib.Core.List.{List, [], ◌∷◌, ◌++◌}
use native.Mathlib.Omega.{arith}
use native.Mathlib.Decide.{dec_lt}
use lib.ListN.{length, get_or, take, drop, length-append, length-take, length-drop, get_or-append}
use lib.Seq.{length-take-le, get_or-append-add, get_or-take, get_or-drop}
use lib.Dec.{ltb}
use borrow.Author.Tests.{ltb-true, ltb-false}
use Rattle.runs.proofs.Search.{true_or_false}
use Rattle.text_bytes.specs.Text.{line_feed, has, behind, starts_with, is_text}
use Rattle.text_bytes.proofs.Bytes.{and_true_both}
use Rattle.text_bytes.proofs.Split.{behind_here}
use Rattle.text_bytes.proofs.Decimals.{has_append}
use Rattle.std.specs.Prelude.{Option, Some, None}
use Rattle.text_lines.specs.Lines.{line_of, after_lines, value_text}
use Rattle.text_lines.specs.Found.{Passed}
use Rattle.sheet_reader.specs.Lines.{tape_key, turn_key, rule_key, sweep_text, least_text, is_tape_line, is_turn_line, is_rule_line, names_sweep, turn_with}
use Rattle.tape_ranges.specs.declared.File.{File}
use Rattle.tape_ranges.specs.declared.Tally.{Tally}
use Rattle.tape_ranges.specs.Ranges.{is_far, place_for, put_at, put_row, kept_tally, kept_row, ranges_from, neighbour_overlap}
use Rattle.demands.specs.Lines.{Stands, Name, Number, NumberOrNothing, RuleName}
use Rattle.demands.specs.SheetLines.{PriceText}
use Rattle.demands.proofs.Tests.{Tells, tells_below, tells_not, tells_either, tells_both, tells_reworded, tells_holds}
use Rattle.demands.proofs.Canonical.{number_text}
use Rattle.demands.proofs.Lines.{name_flat, nothing_flat, number_some, tells_tape, tells_turn, tells_rule}
use Rattle.demands.proofs.SheetLines.{value_read}
use Rattle.promises.specs.CallersLines.{StandsAt, NoLineAt, TurnLineIsRead, RuleLineIsRead, TapeLineIsRead, NeighboursOverlap, OverlapIsTold, CanBeKept, PlaceAmong, PutIn, FileTold, FileIsKept}

-- A key without LF, and kinds of values without LF: a line stands at a byte just where it is the first of what follows.
module _ (key : List ℕ) (plain : has line_feed key ≡ false) (Kind : List ℕ → Type 0) (flat : (v : List ℕ) → Kind v → has line_feed v ≡ false) (text : List ℕ) (at : ℕ) where
  as_first : (next : ℕ) → StandsAt key Kind text at next → Stands key Kind (drop at text) 0
  unfolding after_lines
  as_first next s = record { value = s.value; rest = drop next text; is = s.is; kind = s.kind }

  rest_read : (s : Stands key Kind (drop at text) 0) → behind line_feed (drop at text) ≡ s.rest
  unfolding after_lines
  rest_read s =
      let none : has line_feed (key ++ s.value) ≡ false = has_append line_feed key s.value ∙ rw (plain, flat s.value s.kind) refl in
      ap (behind line_feed) s.is ∙ behind_here line_feed (key ++ s.value) s.rest none

  first_at : (test : List ℕ → Bool) (next : ℕ) (Said : List ℕ → Type 0) → Passed test text at next → (s : Stands key Kind (drop at text) 0) → Said s.value → StandsAt key Said text at next
  unfolding after_lines
  first_at test next Said p s said =
      record { value = s.value; is = s.is ∙ ap (λ t. key ++ s.value ++ (line_feed ∷ t)) (sym (p.rest ∙ rest_read s)); within = p.within; kind = said }

  none_at_here : (b : Bool) → Tells b (Stands key Kind (drop at text) 0) → b ≡ false → NoLineAt key Kind text at
  none_at_here b t e next s = t.when_false e (as_first next s)

rule_flat : (value : List ℕ) → RuleName value → has line_feed value ≡ false
unfolding has
rule_flat value (inl e) = rw e
rule_flat value (inr e) = rw e

-- The price of a turn, and the rule.
module _ (text : List ℕ) (at : ℕ) where
  abbrev there : List ℕ
  there = drop at text

  price_read : (s : Stands turn_key NumberOrNothing there 0) → PriceText (turn_with 12000 (line_of there)) s.value
  unfolding turn_with has after_lines
  price_read s =
      let is : value_text turn_key (line_of there) ≡ s.value = value_read turn_key refl there 0 NumberOrNothing s (nothing_flat s.value s.kind) in
      ⊎_elim
      (λ (e : s.value ≡ []). inl (e, rw (is, e)))
      (λ (n : Number s.value). inr (rw (is, number_some s.value n) (sym (number_text s.value n))))
      s.kind

  -- The rule's name decides what is said of it.
  rule_said : (s : Stands rule_key RuleName there 0) → is_rule_line (line_of there) ≡ true
      → ((s.value ≡ sweep_text) × (names_sweep (line_of there) ≡ true)) ⊎ ((s.value ≡ least_text) × (names_sweep (line_of there) ≡ false))
  unfolding is_rule_line names_sweep has after_lines starts_with
  rule_said s good =
      let begins = (and_true_both (starts_with rule_key (line_of there)) (is_text sweep_text (value_text rule_key (line_of there)) || is_text least_text (value_text rule_key (line_of there))) good).0 in
      let is : value_text rule_key (line_of there) ≡ s.value = value_read rule_key refl there 0 RuleName s (rule_flat s.value s.kind) in
      ⊎_elim
      (λ (e : s.value ≡ sweep_text). inl (e, rw begins (ap (is_text sweep_text) (is ∙ e))))
      (λ (e : s.value ≡ least_text). inr (e, rw begins (ap (is_text sweep_text) (is ∙ e))))
      s.kind

pub turn_line_is_read : TurnLineIsRead
unfolding has after_lines
turn_line_is_read text at (Some line) h =
    let s = (tells_turn (drop at text) 0).when_true h.0.good in
    first_at turn_key refl NumberOrNothing nothing_flat text at is_turn_line line.next _ h.0 s (s.kind, rw h.1 (price_read text at s))
turn_line_is_read text at None h = none_at_here turn_key refl NumberOrNothing nothing_flat text at (is_turn_line (line_of (drop at text))) (tells_turn (drop at text) 0) h

pub rule_line_is_read : RuleLineIsRead
unfolding has after_lines
rule_line_is_read text at (Some line) h =
    let s = (tells_rule (drop at text) 0).when_true h.0.good in
    first_at rule_key refl RuleName rule_flat text at is_rule_line line.next _ h.0 s (rw h.1 (rule_said text at s h.0.good))
rule_line_is_read text at None h = none_at_here rule_key refl RuleName rule_flat text at (is_rule_line (line_of (drop at text))) (tells_rule (drop at text) 0) h

pub tape_line_is_read : TapeLineIsRead
unfolding has after_lines
tape_line_is_read text (Some line) h =
    let s = (tells_tape text 0).when_true h.0.good in
    let is : value_text tape_key (line_of text) ≡ s.value = value_read tape_key refl text 0 Name s (name_flat s.value s.kind) in
    let long : length (take (line.end - 5) (drop 5 text)) ≡ length s.value = ap length (h.1.name ∙ is) in
    first_at tape_key refl Name name_flat text 0 is_tape_line line.next _ h.0 s
    (s.kind, omega (arith, long, length-take (line.end - 5) (drop 5 text), length-drop 5 text, h.1.ordered, h.1.within))
tape_line_is_read text None h = none_at_here tape_key refl Name name_flat text 0 (is_tape_line (line_of text)) (tells_tape text 0) h

-- Neighbours.
one_on : (s l : ℕ) (starts lengths : List ℕ) → NeighboursOverlap starts lengths → NeighboursOverlap (s ∷ starts) (l ∷ lengths)
one_on s l starts lengths n = record { earlier = suc n.earlier; first = omega (arith, n.first); second = omega (arith, n.second); over = n.over }

tells_overlap : (starts lengths : List ℕ) → Tells (neighbour_overlap (ranges_from starts lengths)) (NeighboursOverlap starts lengths)
unfolding neighbour_overlap ranges_from
tells_overlap [] lengths = record { when_true = λ e. absurd (true≢false (sym e)); when_false = λ e n. omega (arith, n.first) }
tells_overlap (s ∷ starts) [] = record { when_true = λ e. absurd (true≢false (sym e)); when_false = λ e n. omega (arith, n.second) }
tells_overlap (s ∷ []) (l ∷ lengths) = record { when_true = λ e. absurd (true≢false (sym e)); when_false = λ e n. omega (arith, n.first) }
tells_overlap (s ∷ (t ∷ starts)) (l ∷ []) = record { when_true = λ e. absurd (true≢false (sym e)); when_false = λ e n. omega (arith, n.second) }
tells_overlap (s ∷ (t ∷ starts)) (l ∷ (m ∷ lengths)) =
    tells_reworded there back (tells_either (ltb t (s + l)) _ (tells_below t (s + l)) (tells_overlap (t ∷ starts) (m ∷ lengths)))
  where
    there : (t < s + l) ⊎ NeighboursOverlap (t ∷ starts) (m ∷ lengths) → NeighboursOverlap (s ∷ (t ∷ starts)) (l ∷ (m ∷ lengths))
    there (inl h) = record { earlier = 0; first = omega arith; second = omega arith; over = omega (arith, h) }
    there (inr n) = one_on s l (t ∷ starts) (m ∷ lengths) n

    at_place : (j : ℕ) → suc j < length (s ∷ (t ∷ starts)) → suc j < length (l ∷ (m ∷ lengths)) → get_or (s ∷ (t ∷ starts)) (suc j) 0 < get_or (s ∷ (t ∷ starts)) j 0 + get_or (l ∷ (m ∷ lengths)) j 0
        → (t < s + l) ⊎ NeighboursOverlap (t ∷ starts) (m ∷ lengths)
    at_place zero a b h = inl h
    at_place (suc j) a b h = inr (record { earlier = j; first = omega arith; second = omega arith; over = omega (arith, h) })

    back : NeighboursOverlap (s ∷ (t ∷ starts)) (l ∷ (m ∷ lengths)) → (t < s + l) ⊎ NeighboursOverlap (t ∷ starts) (m ∷ lengths)
    back n = at_place n.earlier n.first n.second n.over

pub overlap_is_told : OverlapIsTold
overlap_is_told starts lengths = let t = tells_overlap starts lengths in (t.when_true, tells_holds _ t)

-- A value put in among entries, with others behind them.
module _ (value : ℕ) (ys : List ℕ) where
  put_before_here : (at : ℕ) (xs : List ℕ) (i : ℕ) → at ≤ length xs → i < at → get_or (put_at at value xs ++ ys) i 0 ≡ get_or xs i 0
  unfolding put_at
  put_before_here zero xs i l h = absurd (omega arith)
  put_before_here (suc at) [] i l h = absurd (omega arith)
  put_before_here (suc at) (x ∷ xs) zero l h = refl
  put_before_here (suc at) (x ∷ xs) (suc i) l h = put_before_here at xs i (omega arith) (omega arith)

  put_here_here : (at : ℕ) (xs : List ℕ) → at ≤ length xs → get_or (put_at at value xs ++ ys) at 0 ≡ value
  unfolding put_at
  put_here_here zero xs l = refl
  put_here_here (suc at) [] l = absurd (omega arith)
  put_here_here (suc at) (x ∷ xs) l = put_here_here at xs (omega arith)

  put_moved : (at : ℕ) (xs : List ℕ) (i : ℕ) → at ≤ i → i < length xs → get_or (put_at at value xs ++ ys) (suc i) 0 ≡ get_or xs i 0
  unfolding put_at
  put_moved zero xs i l h = get_or-append xs ys 0 i h
  put_moved (suc at) [] i l h = absurd (omega arith)
  put_moved (suc at) (x ∷ xs) zero l h = absurd (omega arith)
  put_moved (suc at) (x ∷ xs) (suc i) l h = put_moved at xs i (omega arith) (omega arith)

put_long : (at value : ℕ) (xs : List ℕ) → length (put_at at value xs) ≡ suc (length xs)
unfolding put_at
put_long zero value xs = refl
put_long (suc at) value [] = refl
put_long (suc at) value (x ∷ xs) = ap suc (put_long at value xs)

put_in : (kept place value : ℕ) (row : List ℕ) → place ≤ kept → kept < length row → PutIn kept place value row (put_row kept place value row)
unfolding put_row
put_in kept place value row l room =
    let front = take kept row in
    let rest = drop (suc kept) row in
    let long : length front ≡ kept = length-take-le kept row (omega arith) in
    let put : length (put_at place value front) ≡ suc kept = put_long place value front ∙ ap suc long in
    record {
      long = omega (arith, length-append (put_at place value front) rest, put, length-drop (suc kept) row, room);
      before = λ i h. put_before_here value rest place front i (omega (arith, long)) h ∙ get_or-take kept row i 0 (omega arith);
      here = put_here_here value rest place front (omega (arith, long));
      moved = λ i h m. put_moved value rest place front i h (omega (arith, long)) ∙ get_or-take kept row i 0 m;
      behind = λ i h.
          let far : length (put_at place value front) + (i - suc kept) ≡ i = omega (arith, put) in
          let on : suc kept + (i - suc kept) ≡ i = omega arith in
          ap (λ k. get_or (put_at place value front ++ rest) k 0) (sym far) ∙ get_or-append-add (put_at place value front) rest (i - suc kept) 0
          ∙ get_or-drop (suc kept) row (i - suc kept) 0 ∙ ap (λ k. get_or row k 0) on;
    }

-- The place of a start among entries.
record Among (start : ℕ) (xs : List ℕ) (place : ℕ) : Type 0 where
  within : place ≤ length xs
  earlier : (i : ℕ) → i < place → get_or xs i 0 ≤ start
  later : place < length xs → start < get_or xs place 0

-- One entry more in front, no later than the start.
among_on : (start x : ℕ) (xs : List ℕ) (place : ℕ) → x ≤ start → Among start xs place → Among start (x ∷ xs) (suc place)
among_on start x xs place le a = record { within = omega (arith, a.within); earlier = each; later = λ h. a.later (omega arith) }
  where
    each : (i : ℕ) → i < suc place → get_or (x ∷ xs) i 0 ≤ start
    each zero h = le
    each (suc i) h = a.earlier i (omega arith)

among : (start : ℕ) (xs : List ℕ) → Among start xs (place_for start xs)
unfolding place_for
among start [] = record { within = omega arith; earlier = λ i h. absurd (omega arith); later = λ h. absurd (omega arith) }
among start (x ∷ xs) =
    ⊎_elim
    (λ (e : ltb start x ≡ true). rw e (record { within = omega arith; earlier = λ i h. absurd (omega arith); later = λ h. ltb-true start x e }))
    (λ (e : ltb start x ≡ false). rw e (among_on start x xs (place_for start xs) (ltb-false start x e) (among start xs)))
    (true_or_false (ltb start x))

place_among : (kept start : ℕ) (starts : List ℕ) → kept < length starts → PlaceAmong kept start starts (place_for start (take kept starts))
place_among kept start starts room =
    let a = among start (take kept starts) in
    let long : length (take kept starts) ≡ kept = length-take-le kept starts (omega arith) in
    record {
      within = omega (arith, a.within, long);
      earlier = λ i h. rw (get_or-take kept starts i 0 (omega (arith, h, a.within, long))) at (a.earlier i h);
      later = λ h. rw (get_or-take kept starts (place_for start (take kept starts)) 0 h) at (a.later (omega (arith, h, long)));
    }

-- Whether a file is far is whether it cannot be kept.
module _ (tally : Tally) (f : File) (size : ℕ) (starts lengths : List ℕ) where
  abbrev start : ℕ
  start = f.block * size + f.offset

  tells_far : Tells (is_far tally f size starts lengths) (CanBeKept tally start f.count starts lengths → ⊥)
  tells_far =
      tells_reworded
      (⊎_elim (λ h c. omega (arith, h, c.near)) (λ n c. n (c.first, c.second)))
      (λ n. by_cases (dec_lt 1099511627776 (start + f.count)) inl (λ h. inr (λ b. n (record { near = omega (arith, h); first = b.0; second = b.1 }))))
      (tells_either (ltb 1099511627776 (start + f.count)) _ (tells_below 1099511627776 (start + f.count))
      (tells_not _ (tells_both (ltb tally.kept (length starts)) (ltb tally.kept (length lengths)) (tells_below _ _) (tells_below _ _))))

  not_far : CanBeKept tally start f.count starts lengths → is_far tally f size starts lengths ≡ false
  not_far c = ⊎_elim (λ t. absurd (tells_far.when_true t c)) (λ e. e) (true_or_false (is_far tally f size starts lengths))

  file_told : FileTold tally start f.count starts lengths (kept_tally tally f size starts lengths) (kept_row tally f size starts lengths start starts) (kept_row tally f size starts lengths f.count lengths)
  unfolding kept_tally kept_row
  file_told =
      record {
        kept = λ c.
            let p = place_among tally.kept start starts c.first in
            rw (not_far c)
            (record {
              place = place_for start (take tally.kept starts);
              among = p;
              left = put_in tally.kept _ start starts p.within c.first;
              right = put_in tally.kept _ f.count lengths p.within c.second;
              counted = rw (or_none_here tally.far, one_more tally.kept) refl;
            });
        far = λ n. rw (tells_holds _ tells_far n) (record { left = refl; right = refl; told = rw (or_some tally.far) refl });
      }
    where
      or_none_here : (b : Bool) → (b || false) ≡ b
      or_none_here true = refl
      or_none_here false = refl

      or_some : (b : Bool) → (b || true) ≡ true
      or_some true = refl
      or_some false = refl

      one_more : (n : ℕ) → n + 1 ≡ suc n
      one_more n = omega arith

pub file_is_kept : FileIsKept
file_is_kept tally f size starts lengths = file_told tally f size starts lengths
