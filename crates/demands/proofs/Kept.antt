-- A table with files left out: it is in order where the larger one is, wants are good in both or in none, and the stops of good wants are the same but
-- for their names.
use Prim.Native.Nat.{ℕ, zero, suc, ◌-◌, ◌≤◌, ◌<◌}
use mathlib.Core.Path.{◌≡◌, refl, sym, ap, ◌∙◌}
use mathlib.Core.Bool.{Bool, false, not, ◌||◌}
use mathlib.Core.Logic.{inl, inr, ⊎_elim, by_cases}
use mathlib.Core.List.{List, [], ◌∷◌, map}
use native.Mathlib.Omega.{arith}
use native.Mathlib.Decide.{dec_lt}
use lib.ListN.{length, get_or, length-map}
use lib.Dec.{leb, ltb, eqb}
use borrow.Author.Tests.{ltb-false, le-ltb, lt-ltb}
use Rattle.refusals.specs.declared.Refusal.TheVariants.{FileRows, BadFile, WantRows, BadWant, TooManyReads}
use Rattle.refusals.specs.declared.Verdict.{Verdict}
use Rattle.refusals.specs.Refusals.{refuse_if, refuse_at, first_of, first_where}
use Rattle.refusals.proofs.Verdicts.{refuses}
use Rattle.runs.specs.Run.{Run, Stop, most_aggregates, most_wants, most_reads, total, first_member, last_member, first_file, end_at, stop_of, want_stops, want_stops_of, stops_of, joined}
use Rattle.runs.specs.Judging.{returns, bad_want, table_checks, wants_checks}
use Rattle.runs.proofs.Search.{or_false_both, first_same}
use Rattle.runs.proofs.Accepted.{GoodFile}
use Rattle.runs.proofs.Table.{table_file, end_before_start}
use Rattle.runs.proofs.Members.{first_below, last_above, last_within_lem, member_first, same_last, between_first}
use Rattle.runs.proofs.Numbers.{same_number_first, same_first_number}
use Rattle.runs.proofs.Judged.{GoodTable, accepted_table}
use Rattle.demands.specs.RefusalTable.{IsFile, Together, Returns, FileIsBad, RunApplies, end_of_file}
use Rattle.demands.specs.Unwanted.{LeavesOut, TableInOrder}
use Rattle.demands.proofs.Conditions.{together_first, first_together}
use Rattle.demands.proofs.Judged.{table_judged}
use Rattle.demands.proofs.Renamed.{old_up, old_back, old_one, old_above, old_some, old_at, eqb_old, leb_old, renamedStop, allRenamed, joined_renamed}

-- The number of the first file of a file's aggregate is the next after the first member's index.
first_file_is : (aggregates : List ℕ) (f : ℕ) → 0 < f → first_file aggregates f ≡ suc (first_member aggregates (f - 1))
first_file_is aggregates zero l = absurd (omega arith)
first_file_is aggregates (suc i) l = let e : suc i - 1 ≡ i = omega arith in rw e refl

abbrev stop_with : ℕ → ℕ → ℕ → ℕ → Stop
stop_with f s e c = record { file = f; start = s; end = e; count = c }

stop_is : {f f' s s' e e' : ℕ} (c : ℕ) → f ≡ f' → s ≡ s' → e ≡ e' → stop_with f s e c ≡ stop_with f' s' e' c
stop_is c p q t = rw (p, q, t) refl

one_of_four : {a a' b b' c c' : Bool} (d : Bool) → a ≡ a' → b ≡ b' → c ≡ c' → (a || b || c || d) ≡ (a' || b' || c' || d)
one_of_four d p q t = rw (p, q, t) refl

back : (n : ℕ) → suc n - 1 ≡ n
back n = omega arith

-- In a good table the first and the last of a file's aggregate lie together with it.
first_with : (r : Run) → GoodTable r.starts r.lengths r.aggregates → (g : ℕ) → IsFile r g → Together r (suc (first_member r.aggregates (g - 1))) g
first_with r files g b =
    first_together r files (suc (first_member r.aggregates (g - 1))) g (omega arith) b.least
    (ap (first_member r.aggregates) (back (first_member r.aggregates (g - 1)))
    ∙ member_first r.aggregates (g - 1) (first_member r.aggregates (g - 1)) (omega arith) (omega (arith, first_below r.aggregates (g - 1), last_above r.aggregates (g - 1))))

last_with_it : (r : Run) → GoodTable r.starts r.lengths r.aggregates → (g : ℕ) → IsFile r g → Together r (suc (last_member r.aggregates (g - 1))) g
last_with_it r files g b =
    first_together r files (suc (last_member r.aggregates (g - 1))) g (omega arith) b.least
    (ap (first_member r.aggregates) (back (last_member r.aggregates (g - 1)))
    ∙ member_first r.aggregates (g - 1) (last_member r.aggregates (g - 1)) (omega (arith, first_below r.aggregates (g - 1), last_above r.aggregates (g - 1))) (omega arith))

-- And none that does is sooner than the first, or later than the last.
no_sooner : (r : Run) → GoodTable r.starts r.lengths r.aggregates → (h g : ℕ) → IsFile r h → IsFile r g → Together r h g → suc (first_member r.aggregates (g - 1)) ≤ h
no_sooner r files h g b c t = omega (arith, together_first r files h g b c t, first_below r.aggregates (h - 1), b.least)

no_later_lem : (r : Run) → GoodTable r.starts r.lengths r.aggregates → (h g : ℕ) → IsFile r h → IsFile r g → Together r h g → h ≤ suc (last_member r.aggregates (g - 1))
no_later_lem r files h g b c t =
    omega (arith, same_last r.aggregates (h - 1) (g - 1) (together_first r files h g b c t), last_above r.aggregates (h - 1), b.least)

module _ (old : ℕ → ℕ) (more less : Run) (out : LeavesOut old more less) (order : TableInOrder more) where
  pub more_passes : refuses (first_of (table_checks more.starts more.lengths more.aggregates)) ≡ false
  more_passes = table_judged more order.rows order.files

  pub good : GoodTable more.starts more.lengths more.aggregates
  good = accepted_table more.starts more.lengths more.aggregates more_passes

  -- The file at an index of the smaller table, in the larger one.
  record SameAt (i : ℕ) : Type 0 where
    least : 0 < old (suc i)
    within : old (suc i) - 1 < length more.starts
    start : get_or more.starts (old (suc i) - 1) 0 ≡ get_or less.starts i 0
    span : get_or more.lengths (old (suc i) - 1) 0 ≡ get_or less.lengths i 0
    aggregate : get_or more.aggregates (old (suc i) - 1) 0 ≡ get_or less.aggregates i 0

  same_at : (i : ℕ) → i < length less.starts → SameAt i
  same_at i l =
      let up : suc i - 1 ≡ i = omega arith in
      let s = out.same (suc i) (record { least = omega arith; most = omega arith }) in
      record {
        least = s.file.least;
        within = omega (arith, s.file.least, s.file.most);
        start = rw up at s.start;
        span = rw up at s.span;
        aggregate = rw up at s.aggregate;
      }

  -- What follows for each file of the smaller table.
  module _ (i : ℕ) (l : i < length less.starts) where
    here : SameAt i
    here = same_at i l

    file : GoodFile more.starts more.lengths (old (suc i) - 1)
    file = table_file more.starts more.lengths good.table (old (suc i) - 1) here.within

    before : (j : ℕ) → j < i → old (suc j) - 1 < old (suc i) - 1
    before j b = omega (arith, (same_at j (omega arith)).least, out.names.rises (suc j) (suc i) (omega arith))

    has_length : get_or less.lengths i 0 ≡ 0 → ⊥
    has_length e = omega (arith, file.long, here.span)

    no_overlap : ((j : ℕ) × (i ≡ suc j) × (get_or less.starts i 0 < end_of_file less (suc j))) → ⊥
    no_overlap h =
        let up : suc h.0 - 1 ≡ h.0 = omega arith in
        let b : h.0 < i = omega (arith, h.1) in
        let t = same_at h.0 (omega arith) in
        let past : get_or less.starts i 0 < end_at less.starts less.lengths h.0 = rw up at h.2 in
        omega (
          arith,
          past,
          end_before_start more.starts more.lengths good.table (old (suc h.0) - 1) (old (suc i) - 1) (before h.0 b) here.within,
          t.start,
          t.span,
          here.start,
        )

    ends_on_tape : 1099511627776 < end_of_file less (suc i) → ⊥
    ends_on_tape h =
        let up : suc i - 1 ≡ i = omega arith in
        let past : 1099511627776 < end_at less.starts less.lengths i = rw up at h in
        omega (arith, past, file.ends, here.start, here.span)

    number_fits : 4096 < get_or less.aggregates i 0 → ⊥
    number_fits h =
        let both = or_false_both (ltb most_aggregates (get_or more.aggregates (old (suc i) - 1) 0)) (returns more.aggregates (old (suc i) - 1)) (good.numbers (old (suc i) - 1) here.within) in
        omega (arith, ltb-false most_aggregates (get_or more.aggregates (old (suc i) - 1) 0) both.0, here.aggregate)

    -- A number that is met again is that of every file between.
    number_stays : Returns less i → ⊥
    number_stays h =
        let k = h.left.0 in
        let below : k < i = omega (arith, h.left.1) in
        let j = h.met.0 in
        let first = same_at j (omega (arith, h.met.1)) in
        let middle = same_at k (omega arith) in
        let a = more.aggregates in
        let some : 0 < get_or a (old (suc i) - 1) 0 = omega (arith, here.aggregate, h.numbered) in
        let ends = same_number_first a (length more.starts) good.numbers (old (suc j) - 1) (old (suc i) - 1) first.within here.within (first.aggregate ∙ h.met.2 ∙ sym here.aggregate) some in
        let up : old (suc j) - 1 ≤ old (suc k) - 1 = omega (arith, old_up old out.names (suc j) (suc k) (omega (arith, h.met.1, h.left.1))) in
        let between = between_first a (old (suc j) - 1) (old (suc k) - 1) (old (suc i) - 1) up (omega (arith, before k below)) ends in
        ⊎_elim
        (λ (e : old (suc k) - 1 ≡ old (suc i) - 1). omega (arith, before k below))
        (λ s. h.left.2 (sym middle.aggregate ∙ s.0 ∙ here.aggregate))
        (same_first_number a (old (suc k) - 1) (old (suc i) - 1) (between ∙ ends))

    file_fine : FileIsBad less i → ⊥
    file_fine bad = ⊎_elim (⊎_elim has_length (⊎_elim no_overlap ends_on_tape)) (⊎_elim number_fits number_stays) bad

  few_files_here : 4096 < length less.starts → ⊥
  few_files_here h =
      omega (
        arith,
        old_above old out.names (length less.starts),
        (out.same (length less.starts) (record { least = omega arith; most = omega arith })).file.most,
        good.few,
      )

  rows_fit : (p : ℕ) → RunApplies less FileRows p → ⊥
  rows_fit p (RunApplies.file_rows h) = ⊎_elim few_files_here (⊎_elim (λ n. n out.rows) (λ n. n out.numbered)) h

  files_fine : (p : ℕ) → RunApplies less BadFile p → ⊥
  files_fine p (RunApplies.bad_file h) = file_fine h.index h.within h.here

  pub less_passes : refuses (first_of (table_checks less.starts less.lengths less.aggregates)) ≡ false
  less_passes = table_judged less rows_fit files_fine

  pub good' : GoodTable less.starts less.lengths less.aggregates
  good' = accepted_table less.starts less.lengths less.aggregates less_passes

  -- The wants.
  number_at : (i : ℕ) → get_or more.numbers i 0 ≡ old (get_or less.numbers i 0)
  number_at i = ap (λ ns. get_or ns i 0) out.numbers ∙ old_at old out.names less.numbers i

  pub as_many : length more.numbers ≡ length less.numbers
  as_many = ap length out.numbers ∙ length-map less.numbers old

  -- A file of the larger table that lies together with a wanted one is a file of the smaller.
  found : (i : ℕ) → i < length less.numbers → (g : ℕ) → IsFile more g → Together more g (old (get_or less.numbers i 0)) → (f : ℕ) × IsFile less f × (old f ≡ g)
  found i l g a t = out.kept g a (record { want = i; within = omega (arith, as_many); together = rw (number_at i) t })

  -- A want's file is in both tables or in none.
  past_both : (i : ℕ) → i < length less.numbers → length less.starts < get_or less.numbers i 0 → length more.starts < old (get_or less.numbers i 0)
  past_both i l h =
      by_cases (dec_lt (length more.starts) (old (get_or less.numbers i 0)))
      (λ y. y)
      (λ n.
      let f = get_or less.numbers i 0 in
      let k = found i l (old f) (record { least = old_some old out.names f (omega arith); most = omega arith }) (inl refl) in
      absurd (omega (arith, old_one old out.names k.0 f k.2, k.1.most)))

  in_both : (i : ℕ) → i < length less.numbers → ltb (length more.starts) (old (get_or less.numbers i 0)) ≡ ltb (length less.starts) (get_or less.numbers i 0)
  in_both i l =
      let f = get_or less.numbers i 0 in
      by_cases (dec_lt (length less.starts) f)
      (λ h. lt-ltb (length more.starts) (old f) (past_both i l h) ∙ sym (lt-ltb (length less.starts) f h))
      (λ h. le-ltb (length more.starts) (old f) (inside h) ∙ sym (le-ltb (length less.starts) f (omega arith)))
    where
      inside : ¬ (length less.starts < get_or less.numbers i 0) → old (get_or less.numbers i 0) ≤ length more.starts
      inside h =
          by_cases (dec_lt 0 (get_or less.numbers i 0))
          (λ p. (out.same (get_or less.numbers i 0) (record { least = p; most = omega arith })).file.most)
          (λ n. let z : get_or less.numbers i 0 ≡ 0 = omega arith in rw z (omega (arith, out.names.none)))

  tested : (i low low' : ℕ) → i < length less.numbers → low ≡ old low' → (c : Bool)
      → (eqb (get_or more.numbers i 0) 0 || ltb (length more.starts) (get_or more.numbers i 0) || leb (get_or more.numbers i 0) low || c)
      ≡ (eqb (get_or less.numbers i 0) 0 || ltb (length less.starts) (get_or less.numbers i 0) || leb (get_or less.numbers i 0) low' || c)
  tested i low low' l e c =
      let f = get_or less.numbers i 0 in
      one_of_four c
      (ap (λ n. eqb n 0) (number_at i) ∙ ap (eqb (old f)) (sym out.names.none) ∙ eqb_old old out.names f 0)
      (ap (ltb (length more.starts)) (number_at i) ∙ in_both i l)
      (ap (λ n. leb n low) (number_at i) ∙ ap (leb (old f)) e ∙ leb_old old out.names f low')

  want_same : (i : ℕ) → i < length less.numbers → bad_want (length more.starts) more.numbers more.counts i ≡ bad_want (length less.starts) less.numbers less.counts i
  want_same zero l =
      ap (λ cs. eqb (get_or more.numbers 0 0) 0 || ltb (length more.starts) (get_or more.numbers 0 0) || leb (get_or more.numbers 0 0) 0 || eqb (get_or cs 0 0) 0) out.counts
      ∙ tested 0 0 0 l (sym out.names.none) (eqb (get_or less.counts 0 0) 0)
  want_same (suc i) l =
      ap (λ cs. eqb (get_or more.numbers (suc i) 0) 0 || ltb (length more.starts) (get_or more.numbers (suc i) 0) || leb (get_or more.numbers (suc i) 0) (get_or more.numbers i 0) || eqb (get_or cs (suc i) 0) 0) out.counts
      ∙ tested (suc i) (get_or more.numbers i 0) (get_or less.numbers i 0) l (number_at i) (eqb (get_or less.counts (suc i) 0) 0)

  abbrev checksWith : ℕ → ℕ → ℕ → ℕ → List Verdict
  checksWith n m p c = refuse_if (ltb most_wants n || not (eqb n m)) WantRows ∷ refuse_at p BadWant ∷ refuse_if (ltb most_reads c) TooManyReads ∷ []

  pub wants_same : wants_checks (length more.starts) more.numbers more.counts ≡ wants_checks (length less.starts) less.numbers less.counts
  wants_same =
      let bad = bad_want (length more.starts) more.numbers more.counts in
      let bad' = bad_want (length less.starts) less.numbers less.counts in
      ap (λ n. checksWith n (length more.counts) (first_where bad n) (total more.counts)) as_many
      ∙ ap (λ p. checksWith (length less.numbers) (length more.counts) p (total more.counts)) (first_same bad bad' (length less.numbers) want_same)
      ∙ ap (λ cs. checksWith (length less.numbers) (length cs) (first_where bad' (length less.numbers)) (total cs)) out.counts

  -- Files that lie together do so in both.
  together_up : (f g : ℕ) → IsFile less f → IsFile less g → Together less f g → Together more (old f) (old g)
  together_up f g a b t =
      ⊎_elim (λ e. inl (ap old e)) (λ h. inr ((out.same f a).aggregate ∙ h.0 ∙ sym (out.same g b).aggregate, omega (arith, h.1, (out.same g b).aggregate))) t

  together_down : (f g : ℕ) → IsFile less f → IsFile less g → Together more (old f) (old g) → Together less f g
  together_down f g a b t =
      ⊎_elim (λ e. inl (old_one old out.names f g e)) (λ h. inr (sym (out.same f a).aggregate ∙ h.0 ∙ (out.same g b).aggregate, omega (arith, h.1, (out.same g b).aggregate))) t

  -- The stop of a want: the first and the last file of its aggregate are the same in both.
  module _ (i : ℕ) (l : i < length less.numbers) (f : ℕ) (is : get_or less.numbers i 0 ≡ f) (a : IsFile less f) where
    in_more : IsFile more (old f)
    in_more = (out.same f a).file

    with_want : (g : ℕ) → IsFile more g → Together more g (old f) → (h : ℕ) × IsFile less h × (old h ≡ g)
    with_want g b t = found i l g b (rw is t)

    abbrev first : ℕ
    first = suc (first_member less.aggregates (f - 1))

    abbrev last : ℕ
    last = suc (last_member less.aggregates (f - 1))

    first_here_here : IsFile less first
    first_here_here = record { least = omega arith; most = omega (arith, first_below less.aggregates (f - 1), a.least, a.most) }

    last_here : IsFile less last
    last_here = record { least = omega arith; most = omega (arith, last_within_lem less.aggregates (f - 1) (omega (arith, a.least, a.most, good'.rows)), good'.rows) }

    first_same_file : suc (first_member more.aggregates (old f - 1)) ≡ old first
    first_same_file =
        let there = suc (first_member more.aggregates (old f - 1)) in
        let b : IsFile more there = record { least = omega arith; most = omega (arith, first_below more.aggregates (old f - 1), in_more.least, in_more.most) } in
        let t = first_with more good (old f) in_more in
        let k = with_want there b t in
        let up = no_sooner more good (old first) (old f) (out.same first first_here_here).file in_more (together_up first f first_here_here a (first_with less good' f a)) in
        let t' : Together more (old k.0) (old f) = rw k.2 t in
        let down = no_sooner less good' k.0 f k.1 a (together_down k.0 f k.1 a t') in
        let back-up = old_back old out.names k.0 first (omega (arith, k.2, up)) in
        let e : k.0 ≡ first = omega (arith, down, back-up) in
        sym k.2 ∙ ap old e

    last_same_file : suc (last_member more.aggregates (old f - 1)) ≡ old last
    last_same_file =
        let there = suc (last_member more.aggregates (old f - 1)) in
        let b : IsFile more there = record { least = omega arith; most = omega (arith, last_within_lem more.aggregates (old f - 1) (omega (arith, in_more.least, in_more.most, good.rows)), good.rows) } in
        let t = last_with_it more good (old f) in_more in
        let k = with_want there b t in
        let up = no_later_lem more good (old last) (old f) (out.same last last_here).file in_more (together_up last f last_here a (last_with_it less good' f a)) in
        let t' : Together more (old k.0) (old f) = rw k.2 t in
        let down = no_later_lem less good' k.0 f k.1 a (together_down k.0 f k.1 a t') in
        let back-up = old_back old out.names last k.0 (omega (arith, k.2, up)) in
        let e : k.0 ≡ last = omega (arith, down, back-up) in
        sym k.2 ∙ ap old e

    stop_same_here : (c : ℕ) → stop_of more.starts more.lengths more.aggregates (old f) c ≡ renamedStop old out.names (stop_of less.starts less.lengths less.aggregates f c)
    stop_same_here c =
        let s = out.same first first_here_here in
        let t = out.same last last_here in
        let at : first_member more.aggregates (old f - 1) ≡ old first - 1 = omega (arith, first_same_file) in
        let to : last_member more.aggregates (old f - 1) ≡ old last - 1 = omega (arith, last_same_file) in
        let ends : end_at more.starts more.lengths (old last - 1) ≡ end_at less.starts less.lengths (last - 1) = omega (arith, t.start, t.span) in
        stop_is c
        (first_file_is more.aggregates (old f) in_more.least ∙ first_same_file ∙ ap old (sym (first_file_is less.aggregates f a.least)))
        (ap (λ n. get_or more.starts n 0) at ∙ s.start ∙ ap (λ n. get_or less.starts n 0) (back (first_member less.aggregates (f - 1))))
        (ap (end_at more.starts more.lengths) to ∙ ends ∙ ap (end_at less.starts less.lengths) (back (last_member less.aggregates (f - 1))))

  -- The stops of wants that name files.
  module _ (named : (i : ℕ) → i < length less.numbers → IsFile less (get_or less.numbers i 0)) where
    each_renamed : (ns cs : List ℕ) → ((i : ℕ) → i < length ns → (c : ℕ) → stop_of more.starts more.lengths more.aggregates (old (get_or ns i 0)) c ≡ renamedStop old out.names (stop_of less.starts less.lengths less.aggregates (get_or ns i 0) c))
        → want_stops more.starts more.lengths more.aggregates (map old ns) cs ≡ allRenamed old out.names (want_stops less.starts less.lengths less.aggregates ns cs)
    unfolding want_stops
    each_renamed [] cs each = refl
    each_renamed (n ∷ ns) [] each = refl
    each_renamed (n ∷ ns) (c ∷ cs) each = rw (each 0 (omega arith) c, each_renamed ns cs (λ i l. each (suc i) (omega arith)))

    pub wants_renamed : want_stops_of more ≡ allRenamed old out.names (want_stops_of less)
    wants_renamed =
        rw (out.numbers, out.counts)
        (each_renamed less.numbers less.counts (λ i l c. stop_same_here i l (get_or less.numbers i 0) refl (named i l) c))

    pub stops_renamed : stops_of more ≡ allRenamed old out.names (stops_of less)
    stops_renamed = ap joined wants_renamed ∙ joined_renamed old out.names (want_stops_of less)
