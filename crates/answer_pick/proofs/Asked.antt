-- What three rows say of the lines of a list, and what the lines ask for: the same, line by line.
use Prim.Native.Nat.{ℕ, zero, suc, ◌<◌}
use mathlib.Core.Path.{◌≡◌, refl, ap, sym, ◌∙◌}
use mathlib.Core.Bool.{Bool, true, false, cond, not, ◌&&◌, ◌||◌}
use mathlib.Core.List.{List, [], ◌∷◌, ◌++◌}
use native.Mathlib.Omega.{arith}
use lib.ListN.{length, get_or, take, drop}
use lib.Seq.{take_at}
use lib.Dec.{eqb, ltb}
use borrow.Author.Tests.{ne_eqb, eqb-true, le-leb, not-false}
use Rattle.refusals.specs.declared.OwnRefusal.TheVariants.{UnknownPath, NoBytes}
use Rattle.refusals.specs.declared.Refusal.TheVariants.{FarFile}
use Rattle.refusals.specs.Refusals.{first_where, number_of, own_number_of}
use Rattle.refusals.proofs.Verdicts.{refuses}
use Rattle.runs.specs.Run.{last_place}
use Rattle.runs.proofs.Search.{first_zero}
use Rattle.text_lines.specs.Lines.{each_of}
use Rattle.text_lines.proofs.Filling.{length_each}
use Rattle.text_paths.specs.Paths.{line_count, path_after, paths_verdict}
use Rattle.tape_markup.specs.Tree.{tree_of}
use Rattle.tape_files.specs.NamedFiles.{NamedFile, named_files}
use Rattle.tape_picks.specs.declared.Tape.{Tape}
use Rattle.tape_picks.specs.Picks.{files_named, file_span, has_no_bytes, pick_of, asked_pick, lines_asked, lines_answered, FilesFound}
use Rattle.sheet_picks.proofs.Stands.{each_at, lines_few}
use Rattle.answer_pick.specs.declared.lines.Test.{Test}
use Rattle.answer_pick.specs.Picks.{asked_files, first_span, asked_span, is_unknown, is_without, is_too_far, refused_at, first_refused, first_line, line_checks}
use Rattle.answer_pick.specs.Private.{is_bad, first_bad, row_checks}

-- What the files of a path come to.
unknown_state : (tape : Tape) (files : List NamedFile) → is_bad Test.Unknown (pick_of tape files).state ≡ not (eqb (length files) 1)
unfolding pick_of
unknown_state tape [] = refl
unknown_state tape (f ∷ []) = go (has_no_bytes (file_span tape f))
  where
    go : (b : Bool) → is_bad Test.Unknown (cond b 3 1) ≡ false
    go true = refl
    go false = refl
unknown_state tape (f ∷ g ∷ files) = sym (rw (ne_eqb (suc (suc (length files))) 1 (λ e. omega arith)))

module _ (tape : Tape) where
  one_state : (files : List NamedFile) → not (eqb (length files) 1) ≡ false → is_bad Test.NoBytes (pick_of tape files).state ≡ has_no_bytes (first_span tape files)
  unfolding pick_of
  one_state [] n = absurd (mathlib.Core.Bool.true≢false n)
  one_state (f ∷ []) n = go (has_no_bytes (file_span tape f))
    where
      go : (b : Bool) → is_bad Test.NoBytes (cond b 3 1) ≡ b
      go true = refl
      go false = refl
  one_state (f ∷ g ∷ files) n = absurd (omega (arith, eqb-true (suc (suc (length files))) 1 (not-false (eqb (suc (suc (length files))) 1) n)))

  one_start_here : (files : List NamedFile) → not (eqb (length files) 1) ≡ false → (pick_of tape files).start ≡ (first_span tape files).start
  unfolding pick_of
  one_start_here [] n = absurd (mathlib.Core.Bool.true≢false n)
  one_start_here (f ∷ []) n = refl
  one_start_here (f ∷ g ∷ files) n = absurd (omega (arith, eqb-true (suc (suc (length files))) 1 (not-false (eqb (suc (suc (length files))) 1) n)))

  one_end : (files : List NamedFile) → not (eqb (length files) 1) ≡ false → (pick_of tape files).end ≡ (first_span tape files).end
  unfolding pick_of
  one_end [] n = absurd (mathlib.Core.Bool.true≢false n)
  one_end (f ∷ []) n = refl
  one_end (f ∷ g ∷ files) n = absurd (omega (arith, eqb-true (suc (suc (length files))) 1 (not-false (eqb (suc (suc (length files))) 1) n)))

-- Tests and values that agree on so many lines.
first_same : (a b : ℕ → Bool) (n : ℕ) → ((i : ℕ) → i < n → a i ≡ b i) → first_where a n ≡ first_where b n
unfolding first_where
first_same a b zero e = refl
first_same a b (suc n) e = rw (first_same a b n (λ i l. e i (omega arith)), e n (omega arith))

each_same : (a b : ℕ → ℕ) (n : ℕ) → ((i : ℕ) → i < n → a i ≡ b i) → each_of a n ≡ each_of b n
unfolding each_of
each_same a b zero e = refl
each_same a b (suc n) e = rw (each_same a b n (λ i l. e i (omega arith)), e n (omega arith))

bad_each : (test : Test) (value : ℕ → ℕ) (n : ℕ) → first_bad test (each_of value n) ≡ first_where (λ i. is_bad test (value i)) n
bad_each test value n =
    rw (length_each value n) (first_same (λ i. is_bad test (get_or (each_of value n) i 0)) (λ i. is_bad test (value i)) n (λ i l. ap (is_bad test) (each_at value n i l)))

-- The rows' checks are those of the lines.
module _ (tape : Tape) (index list : List ℕ) where
  abbrev states : List ℕ
  states = each_of (λ i. (asked_pick tape index list i).state) (line_count list)

  abbrev starts : List ℕ
  starts = each_of (λ i. (asked_pick tape index list i).start) (line_count list)

  abbrev ends : List ℕ
  ends = each_of (λ i. (asked_pick tape index list i).end) (line_count list)

  unknown_at : (i : ℕ) → is_bad Test.Unknown (asked_pick tape index list i).state ≡ is_unknown index list i
  unfolding asked_pick asked_files
  unknown_at i = unknown_state tape (files_named (path_after i list) (named_files (tree_of index)))

  unknown_same : first_bad Test.Unknown states ≡ first_line (is_unknown index list) list
  unknown_same =
      bad_each Test.Unknown (λ i. (asked_pick tape index list i).state) (line_count list)
      ∙ first_same (λ i. is_bad Test.Unknown (asked_pick tape index list i).state) (is_unknown index list) (line_count list) (λ i l. unknown_at i)

  module _ (known : first_line (is_unknown index list) list ≡ 0) where
    known_at : (i : ℕ) → i < line_count list → is_unknown index list i ≡ false
    known_at i l = first_zero (is_unknown index list) (line_count list) known i l

    without_at : (i : ℕ) → i < line_count list → is_bad Test.NoBytes (asked_pick tape index list i).state ≡ is_without tape index list i
    unfolding asked_pick asked_span asked_files
    without_at i l = one_state tape (files_named (path_after i list) (named_files (tree_of index))) (known_at i l)

    start_at_here : (i : ℕ) → i < line_count list → (asked_pick tape index list i).start ≡ (asked_span tape index list i).start
    unfolding asked_pick asked_span asked_files
    start_at_here i l = one_start_here tape (files_named (path_after i list) (named_files (tree_of index))) (known_at i l)

    end_at_here : (i : ℕ) → i < line_count list → (asked_pick tape index list i).end ≡ (asked_span tape index list i).end
    unfolding asked_pick asked_span asked_files
    end_at_here i l = one_end tape (files_named (path_after i list) (named_files (tree_of index))) (known_at i l)

    pub starts_same : starts ≡ each_of (λ i. (asked_span tape index list i).start) (line_count list)
    starts_same = each_same (λ i. (asked_pick tape index list i).start) (λ i. (asked_span tape index list i).start) (line_count list) start_at_here

    pub ends_same : ends ≡ each_of (λ i. (asked_span tape index list i).end) (line_count list)
    ends_same = each_same (λ i. (asked_pick tape index list i).end) (λ i. (asked_span tape index list i).end) (line_count list) end_at_here

    without_same : first_bad Test.NoBytes states ≡ first_line (is_without tape index list) list
    without_same =
        bad_each Test.NoBytes (λ i. (asked_pick tape index list i).state) (line_count list)
        ∙ first_same (λ i. is_bad Test.NoBytes (asked_pick tape index list i).state) (is_without tape index list) (line_count list) without_at

    far_same : first_bad Test.Far ends ≡ first_line (is_too_far tape index list) list
    far_same =
        bad_each Test.Far (λ i. (asked_pick tape index list i).end) (line_count list)
        ∙ first_same (λ i. is_bad Test.Far (asked_pick tape index list i).end) (is_too_far tape index list) (line_count list) (λ i l. ap (λ e. ltb last_place e) (end_at_here i l))

  pub checks_same : row_checks states ends ≡ line_checks tape index list
  unfolding line_checks
  checks_same = go (first_line (is_unknown index list) list) refl
    where
      go : (n : ℕ) → first_line (is_unknown index list) list ≡ n → row_checks states ends
          ≡ first_refused
          (refused_at (first_line (is_unknown index list) list) (own_number_of UnknownPath)
          ∷ refused_at (first_line (is_without tape index list) list) (own_number_of NoBytes)
          ∷ refused_at (first_line (is_too_far tape index list) list) (number_of FarFile)
          ∷ [])
      go zero e = rw (unknown_same, without_same e, far_same e)
      go (suc n) e = rw (unknown_same, e)

  -- No line is unknown where the checks accept.
  pub checks_known : (line_checks tape index list).number ≡ 0 → first_line (is_unknown index list) list ≡ 0
  unfolding line_checks
  checks_known e = go (first_line (is_unknown index list) list) refl
    where
      go : (n : ℕ) → first_line (is_unknown index list) list ≡ n → first_line (is_unknown index list) list ≡ 0
      go zero h = h
      go (suc n) h = absurd (omega (arith, rw h at e))

-- The rows that were filled.
module _ (tape : Tape) (index list states₀ starts₀ ends₀ : List ℕ) (a : length states₀ ≡ 1024) (b : length starts₀ ≡ 1024) (d : length ends₀ ≡ 1024)
    (v : refuses (paths_verdict list) ≡ false) (states' starts' ends' : List ℕ) (p : FilesFound tape index list states₀ starts₀ ends₀ true states' starts' ends') where
  all_answered : lines_answered true list states₀ starts₀ ends₀ ≡ line_count list
  unfolding lines_asked
  all_answered =
      let l = lines_few list v in
      rw (v, le-leb (line_count list) (length states₀) (omega arith), le-leb (line_count list) (length starts₀) (omega arith), le-leb (line_count list) (length ends₀) (omega arith))

  row_is : (value : ℕ → ℕ) (row₀ row : List ℕ) → row ≡ each_of value (lines_answered true list states₀ starts₀ ends₀) ++ drop (lines_answered true list states₀ starts₀ ends₀) row₀
      → take (line_count list) row ≡ each_of value (line_count list)
  row_is value row₀ row e =
      rw (e, all_answered) (take_at (each_of value (line_count list)) (drop (line_count list) row₀) (line_count list) (length_each value (line_count list)))

  pub states_are : take (line_count list) states' ≡ each_of (λ i. (asked_pick tape index list i).state) (line_count list)
  states_are = row_is (λ i. (asked_pick tape index list i).state) states₀ states' p.state

  pub starts_are : take (line_count list) starts' ≡ each_of (λ i. (asked_pick tape index list i).start) (line_count list)
  starts_are = row_is (λ i. (asked_pick tape index list i).start) starts₀ starts' p.start

  pub ends_are : take (line_count list) ends' ≡ each_of (λ i. (asked_pick tape index list i).end) (line_count list)
  ends_are = row_is (λ i. (asked_pick tape index list i).end) ends₀ ends' p.end
