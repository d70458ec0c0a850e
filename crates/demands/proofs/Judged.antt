-- Rows 1 to 7 of the refusal table: the judging of a run finds the first that applies.
-- The head's condition comes after those of the table and the wants, so these are good by then.
use Prim.Native.Nat.{ℕ, ◌≤◌, ◌<◌}
use mathlib.Core.Path.{◌≡◌, refl, sym, ap, ◌∙◌}
use mathlib.Core.Logic.{◌⊎◌, inl, inr, ⊎_elim, ◌↔◌}
use mathlib.Core.Bool.{Bool, true, false, not, ◌||◌, true≢false}
use mathlib.Core.List.{List, [], ◌∷◌}
use native.Mathlib.Omega.{arith}
use lib.ListN.{length}
use lib.Dec.{ltb, eqb}
use Rattle.refusals.specs.declared.Refusal.{Refusal}
use Rattle.refusals.specs.declared.Refusal.TheVariants.{FileRows, BadFile, WantRows, BadWant, TooManyReads, TurnPrice, HeadPlace}
use Rattle.refusals.specs.declared.Verdict.{Verdict}
use Rattle.refusals.specs.Refusals.{number_of, is_refusal, accepted, refuse_if, refuse_at, first_of, first_where}
use Rattle.runs.specs.Run.{Run, most_files, most_wants, most_reads, last_place, highest_turn, total, stops_of}
use Rattle.runs.specs.Judging.{right_end}
use Rattle.runs.specs.Judging.{bad_file, bad_want, table_checks, wants_checks, head_checks, judge_of}
use Rattle.refusals.proofs.Verdicts.{refuses, first_refuses, first_passes, none_refuses}
use Rattle.runs.proofs.Judged.{GoodTable, GoodWants, accepted_table, accepted_wants}
use Rattle.demands.specs.RefusalTable.{FirstBad, FileIsBad, WantIsBad, RunApplies, NothingApplies, SomeApplies}
use Rattle.demands.specs.Judged.{run_order, JudgedByTheTable}
use Rattle.demands.proofs.Tests.{tells_below, tells_either}
use Rattle.demands.proofs.Checks.{Decides, decides_if, decides_at, decides_reworded, Finds, finds_none, finds_first, first_of_joined, both_pass, AllRefuse, refused_iff}
use Rattle.demands.proofs.Conditions.{WantedBeyond, rows_unfit, table_rows_unfit, file_is_bad, want_is_bad, head_left_of_end}

-- What each row of the table says, taken back from the condition.
module _ (r : Run) where
  file_rows_only : (p : ℕ) → RunApplies r FileRows p → (p ≡ 0) × ((most_files < length r.starts) ⊎ ((length r.starts ≡ length r.lengths → ⊥) ⊎ (length r.starts ≡ length r.aggregates → ⊥)))
  file_rows_only p (RunApplies.file_rows h) = (refl, h)

  bad_file_only : (p : ℕ) → RunApplies r BadFile p → FirstBad (FileIsBad r) (length r.starts) p
  bad_file_only p (RunApplies.bad_file h) = h

  pub want_rows_only : (p : ℕ) → RunApplies r WantRows p → (p ≡ 0) × ((most_wants < length r.numbers) ⊎ (length r.numbers ≡ length r.counts → ⊥))
  want_rows_only p (RunApplies.want_rows h) = (refl, h)

  bad_want_only : (p : ℕ) → RunApplies r BadWant p → FirstBad (WantIsBad r) (length r.numbers) p
  bad_want_only p (RunApplies.bad_want h) = h

  many_reads_only : (p : ℕ) → RunApplies r TooManyReads p → (p ≡ 0) × (most_reads < total r.counts)
  many_reads_only p (RunApplies.many_reads h) = (refl, h)

  turn_price_only : (p : ℕ) → RunApplies r TurnPrice p → (p ≡ 0) × (highest_turn < r.turn)
  turn_price_only p (RunApplies.turn_price h) = (refl, h)

  head_place_only : (p : ℕ) → RunApplies r HeadPlace p → (p ≡ 0) × ((last_place < r.head) ⊎ WantedBeyond r)
  head_place_only p (RunApplies.head_far h) = (refl, inl h)
  head_place_only p (RunApplies.head_near {f} a w h) = (refl, inr (record { which = f; file = a; wanted = w; beyond = h }))

  only_head_place : (p : ℕ) → (p ≡ 0) × ((last_place < r.head) ⊎ WantedBeyond r) → RunApplies r HeadPlace p
  only_head_place p h = rw h.0 (⊎_elim RunApplies.head_far (λ b. RunApplies.head_near b.file b.wanted b.beyond) h.1)

  -- They are the numbers 1 to 7.
  pub run_small : {k : Refusal} {p : ℕ} → RunApplies r k p → number_of k ≤ 7
  run_small (RunApplies.file_rows h) = omega arith
  run_small (RunApplies.bad_file h) = omega arith
  run_small (RunApplies.want_rows h) = omega arith
  run_small (RunApplies.bad_want h) = omega arith
  run_small (RunApplies.many_reads h) = omega arith
  run_small (RunApplies.turn_price h) = omega arith
  run_small (RunApplies.head_far h) = omega arith
  run_small (RunApplies.head_near a w h) = omega arith

-- The checks of the table, the wants and the turn price at the front of a row find the first of 1 to 6 that applies, and then what the others find.
module _ (r : Run) (applies : Refusal → ℕ → Type 0) (there : (k : Refusal) (p : ℕ) → number_of k ≤ 6 → RunApplies r k p → applies k p)
    (back : (k : Refusal) (p : ℕ) → number_of k ≤ 6 → applies k p → RunApplies r k p) where
  of_run_here : (k : Refusal) {v : Verdict} {A : ℕ → Type 0} → number_of k ≤ 6 → ((p : ℕ) → A p → RunApplies r k p) → ((p : ℕ) → RunApplies r k p → A p)
      → Decides k A v → Decides k (applies k) v
  of_run_here k l on off d = decides_reworded (λ p h. there k p l (on p h)) (λ p h. off p (back k p l h)) d

  pub table_finds : (rest : List Refusal) (vs : List Verdict) → (refuses (first_of (table_checks r.starts r.lengths r.aggregates)) ≡ false → Finds applies rest (first_of vs))
      → Finds applies (FileRows ∷ BadFile ∷ rest) (first_of (first_of (table_checks r.starts r.lengths r.aggregates) ∷ vs))
  table_finds rest vs others =
      let first = refuse_if (ltb most_files (length r.starts) || not (eqb (length r.starts) (length r.lengths)) || not (eqb (length r.starts) (length r.aggregates))) FileRows in
      let second = refuse_at (first_where (bad_file r.starts r.lengths r.aggregates) (length r.starts)) BadFile in
      rw
      (first_of_joined (table_checks r.starts r.lengths r.aggregates) vs)
      (finds_first applies (second ∷ vs) refl (of_run_here FileRows (omega arith) (λ p h. rw h.0 (RunApplies.file_rows h.1)) (file_rows_only r) (decides_if _ FileRows (table_rows_unfit (length r.starts) (length r.lengths) (length r.aggregates))))
      (λ a. finds_first applies vs refl (of_run_here BadFile (omega arith) (λ p h. RunApplies.bad_file h) (bad_file_only r) (decides_at (bad_file r.starts r.lengths r.aggregates) (FileIsBad r) (length r.starts) (file_is_bad r) BadFile))
      (λ b. others (both_pass first (second ∷ []) a (both_pass second [] b refl)))))

  pub wants_find : (rest : List Refusal) (vs : List Verdict) → (refuses (first_of (wants_checks (length r.starts) r.numbers r.counts)) ≡ false → Finds applies rest (first_of vs))
      → Finds applies (WantRows ∷ BadWant ∷ TooManyReads ∷ rest) (first_of (first_of (wants_checks (length r.starts) r.numbers r.counts) ∷ vs))
  wants_find rest vs others =
      let first = refuse_if (ltb most_wants (length r.numbers) || not (eqb (length r.numbers) (length r.counts))) WantRows in
      let second = refuse_at (first_where (bad_want (length r.starts) r.numbers r.counts) (length r.numbers)) BadWant in
      let third = refuse_if (ltb most_reads (total r.counts)) TooManyReads in
      rw
      (first_of_joined (wants_checks (length r.starts) r.numbers r.counts) vs)
      (finds_first applies (second ∷ third ∷ vs) refl (of_run_here WantRows (omega arith) (λ p h. rw h.0 (RunApplies.want_rows h.1)) (want_rows_only r) (decides_if _ WantRows (rows_unfit most_wants (length r.numbers) (length r.counts))))
      (λ a. finds_first applies (third ∷ vs) refl
      (of_run_here BadWant (omega arith) (λ p h. RunApplies.bad_want h) (bad_want_only r) (decides_at (bad_want (length r.starts) r.numbers r.counts) (WantIsBad r) (length r.numbers) (want_is_bad r) BadWant))
      (λ b. finds_first applies vs refl (of_run_here TooManyReads (omega arith) (λ p h. rw h.0 (RunApplies.many_reads h.1)) (many_reads_only r) (decides_if _ TooManyReads (tells_below most_reads (total r.counts))))
      (λ c. others (both_pass first (second ∷ third ∷ []) a (both_pass second (third ∷ []) b (both_pass third [] c refl)))))))

  pub turn_finds : (second : Verdict) (rest : List Refusal) (vs : List Verdict) → Decides HeadPlace (applies HeadPlace) second
      → (refuses (first_of (refuse_if (ltb highest_turn r.turn) TurnPrice ∷ second ∷ [])) ≡ false → Finds applies rest (first_of vs))
      → Finds applies (TurnPrice ∷ HeadPlace ∷ rest) (first_of (first_of (refuse_if (ltb highest_turn r.turn) TurnPrice ∷ second ∷ []) ∷ vs))
  turn_finds second rest vs head others =
      let first = refuse_if (ltb highest_turn r.turn) TurnPrice in
      rw
      (first_of_joined (first ∷ second ∷ []) vs)
      (finds_first applies (second ∷ vs) refl (of_run_here TurnPrice (omega arith) (λ p h. rw h.0 (RunApplies.turn_price h.1)) (turn_price_only r) (decides_if _ TurnPrice (tells_below highest_turn r.turn)))
      (λ a. finds_first applies vs refl head
      (λ b. others (both_pass first (second ∷ []) a (both_pass second [] b refl)))))

-- With 7 after them.
module _ (r : Run) (applies : Refusal → ℕ → Type 0) (there : (k : Refusal) (p : ℕ) → RunApplies r k p → applies k p)
    (back : (k : Refusal) (p : ℕ) → number_of k ≤ 7 → applies k p → RunApplies r k p) where
  sooner : (k : Refusal) (p : ℕ) → number_of k ≤ 6 → RunApplies r k p → applies k p
  sooner k p l h = there k p h

  sooner_back : (k : Refusal) (p : ℕ) → number_of k ≤ 6 → applies k p → RunApplies r k p
  sooner_back k p l h = back k p (omega arith) h

  head_decides_here : GoodTable r.starts r.lengths r.aggregates → GoodWants (length r.starts) r.numbers r.counts
      → Decides HeadPlace (applies HeadPlace) (refuse_if (ltb last_place r.head || ltb r.head (right_end (stops_of r))) HeadPlace)
  head_decides_here files wants =
      decides_reworded (λ p h. there HeadPlace p (only_head_place r p h)) (λ p h. head_place_only r p (back HeadPlace p (omega arith) h)) (decides_if _ HeadPlace
      (tells_either (ltb last_place r.head) (ltb r.head (right_end (stops_of r))) (tells_below last_place r.head) (head_left_of_end r files wants)))

  pub run_finds : (rest : List Refusal) (vs : List Verdict) → (refuses (judge_of r) ≡ false → Finds applies rest (first_of vs))
      → Finds applies (FileRows ∷ BadFile ∷ WantRows ∷ BadWant ∷ TooManyReads ∷ TurnPrice ∷ HeadPlace ∷ rest) (first_of (judge_of r ∷ vs))
  unfolding judge_of
  run_finds rest vs others =
      let table = first_of (table_checks r.starts r.lengths r.aggregates) in
      let wants = first_of (wants_checks (length r.starts) r.numbers r.counts) in
      let head = first_of (head_checks r.turn r.head (right_end (stops_of r))) in
      rw
      (first_of_joined (table ∷ wants ∷ head ∷ []) vs)
      (table_finds r applies sooner sooner_back (WantRows ∷ BadWant ∷ TooManyReads ∷ TurnPrice ∷ HeadPlace ∷ rest) (wants ∷ head ∷ vs)
      (λ a. wants_find r applies sooner sooner_back (TurnPrice ∷ HeadPlace ∷ rest) (head ∷ vs)
      (λ b. turn_finds r applies sooner sooner_back (refuse_if (ltb last_place r.head || ltb r.head (right_end (stops_of r))) HeadPlace) rest vs
      (head_decides_here (accepted_table r.starts r.lengths r.aggregates a) (accepted_wants (length r.starts) r.numbers r.counts b))
      (λ c. others (both_pass table (wants ∷ head ∷ []) a (both_pass wants (head ∷ []) b (both_pass head [] c refl)))))))

-- A check that finds the first of an order passes where none of the order applies.
pub none_found : (applies : Refusal → ℕ → Type 0) {order : List Refusal} (v : Verdict) → Finds applies order (first_of (v ∷ [])) → AllRefuse order → (SomeApplies applies order → ⊥) → refuses v ≡ false
none_found applies {order} v finds all none = go (refuses v) refl
  where
    go : (b : Bool) → refuses v ≡ b → refuses v ≡ false
    go true e =
        let found : Finds applies order v = rw (← first_refuses v [] e) at finds in
        absurd (none ((refused_iff applies found all).0 (λ k. true≢false (sym e ∙ ap is_refusal k))))
    go false e = e

-- A run is accepted if and only if nothing of 1 to 7 applies to it.
module _ (r : Run) where
  pub none_of_run : (order : List Refusal) → NothingApplies r → SomeApplies (RunApplies r) order → ⊥
  none_of_run [] n s = s
  none_of_run (k ∷ order) n s = ⊎_elim (λ h. n k h.0 h.1) (none_of_run order n) s

  pub some_of_run : (k : Refusal) (p : ℕ) → RunApplies r k p → SomeApplies (RunApplies r) run_order
  some_of_run k p (RunApplies.file_rows h) = inl (0, RunApplies.file_rows h)
  some_of_run k p (RunApplies.bad_file h) = inr (inl (p, RunApplies.bad_file h))
  some_of_run k p (RunApplies.want_rows h) = inr (inr (inl (0, RunApplies.want_rows h)))
  some_of_run k p (RunApplies.bad_want h) = inr (inr (inr (inl (p, RunApplies.bad_want h))))
  some_of_run k p (RunApplies.many_reads h) = inr (inr (inr (inr (inl (0, RunApplies.many_reads h)))))
  some_of_run k p (RunApplies.turn_price h) = inr (inr (inr (inr (inr (inl (0, RunApplies.turn_price h))))))
  some_of_run k p (RunApplies.head_far h) = inr (inr (inr (inr (inr (inr (inl (0, RunApplies.head_far h)))))))
  some_of_run k p (RunApplies.head_near a w h) = inr (inr (inr (inr (inr (inr (inl (0, RunApplies.head_near a w h)))))))

  judged_finds : Finds (RunApplies r) run_order (first_of (judge_of r ∷ []))
  judged_finds = run_finds r (RunApplies r) (λ k p h. h) (λ k p l h. h) [] [] (λ a. finds_none (RunApplies r))

  all_refuse : AllRefuse run_order
  all_refuse = (refl, (refl, (refl, (refl, (refl, (refl, (refl, tt)))))))

  pub nothing_judged : NothingApplies r → refuses (judge_of r) ≡ false
  nothing_judged n = none_found (RunApplies r) (judge_of r) judged_finds all_refuse (none_of_run run_order n)

  pub judged_nothing : refuses (judge_of r) ≡ false → NothingApplies r
  judged_nothing e k p h =
      let found : Finds (RunApplies r) run_order accepted = rw (first_passes (judge_of r) [] e) at judged_finds in
      (refused_iff (RunApplies r) found all_refuse).1 (some_of_run k p h) refl

  pub accepted_iff : NothingApplies r ↔ (refuses (judge_of r) ≡ false)
  accepted_iff = (nothing_judged, judged_nothing)

  -- Its verdict is acceptance, place 0 included.
  pub judged_accepted : refuses (judge_of r) ≡ false → judge_of r ≡ accepted
  unfolding judge_of
  judged_accepted e =
      none_refuses (first_of (table_checks r.starts r.lengths r.aggregates) ∷ first_of (wants_checks (length r.starts) r.numbers r.counts) ∷ first_of (head_checks r.turn r.head (right_end (stops_of r))) ∷ []) e

  -- The same of its table of files alone, with 1 and 2.
  abbrev table : Verdict
  table = first_of (table_checks r.starts r.lengths r.aggregates)

  table_found_here : Finds (RunApplies r) (FileRows ∷ BadFile ∷ []) (first_of (table ∷ []))
  table_found_here = table_finds r (RunApplies r) (λ k p l h. h) (λ k p l h. h) [] [] (λ a. finds_none (RunApplies r))

  pub table_judged : ((p : ℕ) → RunApplies r FileRows p → ⊥) → ((p : ℕ) → RunApplies r BadFile p → ⊥) → refuses table ≡ false
  table_judged rows files = none_found (RunApplies r) table table_found_here (refl, (refl, tt)) (⊎_elim (λ h. rows h.0 h.1) (⊎_elim (λ h. files h.0 h.1) (λ s. s)))

  pub judged_table : refuses table ≡ false → ((p : ℕ) → RunApplies r FileRows p → ⊥) × ((p : ℕ) → RunApplies r BadFile p → ⊥)
  judged_table e =
      let found : Finds (RunApplies r) (FileRows ∷ BadFile ∷ []) accepted = rw (first_passes table [] e) at table_found_here in
      let none : SomeApplies (RunApplies r) (FileRows ∷ BadFile ∷ []) → ⊥ = λ s. (refused_iff (RunApplies r) found (refl, (refl, tt))).1 s refl in
      (λ p h. none (inl (p, h)), λ p h. none (inr (inl (p, h))))

-- The verdict itself is the first that applies.
pub judged_by_the_table : JudgedByTheTable
judged_by_the_table r = go (refuses (judge_of r)) refl
  where
    go : (b : Bool) → refuses (judge_of r) ≡ b → Finds (RunApplies r) run_order (judge_of r)
    go true e = rw (← first_refuses (judge_of r) [] e) at (judged_finds r)
    go false e = rw (judged_accepted r e) (rw (first_passes (judge_of r) [] e) at (judged_finds r))
