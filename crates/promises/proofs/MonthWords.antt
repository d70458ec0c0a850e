-- Whatever a month's input is, every number of the month is a word: at most 1,000 runs, each with small figures, a time and a file below 2 to the 64.
use Prim.Native.Nat.{ℕ, zero, suc, ◌+◌, ◌*◌, ◌^◌, ◌≤◌, ◌<◌}
use mathlib.Core.Path.{◌≡◌, refl, ap, sym, ◌∙◌, subst}
use mathlib.Core.Bool.{Bool, true, false, cond}
use mathlib.Core.Logic.{⊎_elim}
use mathlib.Core.List.{List, [], ◌∷◌, map}
use native.Mathlib.Omega.{arith}
use lib.ListN.{length, get_or, set, length-set}
use lib.Dec.{ltb}
use Rattle.refusals.specs.Refusals.{number_of, is_refusal}
use Rattle.refusals.proofs.Verdicts.{refuses}
use Rattle.runs.specs.Run.{Run}
use Rattle.runs.specs.Lists.{Detour, list_of}
use Rattle.runs.proofs.Search.{true_or_false}
use Rattle.walk.specs.Price.{priced_times}
use Rattle.engine_stops.proofs.Halves.{list_of_halves}
use Rattle.text_bytes.specs.Text.{is_empty}
use Rattle.sheet_reader.specs.Sheet.{sheet_run, sheet_name}
use Rattle.sheet_writer.proofs.RoundTrip.{SmallRow}
use Rattle.sheet_lists.proofs.RoundTrip.{plan_small}
use Rattle.answer_plan.specs.Recall.{run_checks, recall_verdict}
use Rattle.answer_outcome.specs.declared.Outcome.{Outcome}
use Rattle.answer_outcome.specs.declared.Longest.{Longest}
use Rattle.answer_outcome.specs.Outcomes.{longer, longest_from, longest_of, refused_outcome, planned_outcome, OutcomeOf}
use Rattle.answer_outcome.proofs.Bounds.{Small}
use Rattle.answer_month.specs.declared.Month.{Month}
use Rattle.answer_month.specs.Month.{empty_month, refused_with, with_refused, with_totals, with_longest, added, added_all}
use Rattle.answer_month.specs.Parts.{input_verdict}
use Rattle.promises.specs.Months.{Every, Outcomes, how_many_runs, is_accepted_run, of_accepted, in_all, is_refused_by, is_whole, sheet_in, behind_sheet, divided}
use Rattle.promises.specs.Lengths.{MonthsAreInWords}
use Rattle.promises.proofs.Checks.{rows_accepted}
use Rattle.promises.proofs.MonthTotals.{every_map, outcomes_small}
use Rattle.promises.proofs.MonthInput.{part_by_part}
use Rattle.promises.proofs.Lengths.{run_judges, run_checks_near, sheet_passes}

-- The longest of some words is a word, and so is its file.
longest_word : (most : Longest) (files times : List ℕ) → (most.time < 2 ^ 64) × (most.file < 2 ^ 64) → SmallRow files → SmallRow times
    → ((longest_from most files times).time < 2 ^ 64) × ((longest_from most files times).file < 2 ^ 64)
unfolding longest_from
longest_word most [] times w f t = w
longest_word most (file ∷ files) [] w f t = w
longest_word most (file ∷ files) (time ∷ times) w f t =
    longest_word (longer most file time) files times (go (ltb most.time time)) (λ i l. f (suc i) (omega arith)) (λ i l. t (suc i) (omega arith))
  where
    go : (b : Bool) → ((cond b (record { time = time; file = file }) most).time < 2 ^ 64) × ((cond b (record { time = time; file = file }) most).file < 2 ^ 64)
    go true = (t 0 (omega arith), f 0 (omega arith))
    go false = w

abbrev TimeIsWord : Outcome → Type 0
TimeIsWord o = (o.time < 2 ^ 64) × (o.file < 2 ^ 64)

outcome_word : (sheet : List ℕ) (o : Outcome) → OutcomeOf sheet o → TimeIsWord o
unfolding refused_outcome planned_outcome
outcome_word sheet o p =
    ⊎_elim
    (λ (e : refuses (recall_verdict sheet) ≡ true). subst TimeIsWord (sym (p.refused e)) (omega arith, omega arith))
    (λ (e : refuses (recall_verdict sheet) ≡ false).
    let q = p.planned e in
    let run = sheet_run sheet in
    let good = sheet_passes run_checks run_judges run_checks_near sheet e in
    let small = plan_small run (map (λ d. d.from) q.list) (map (λ d. d.to) q.list) good.1 (rows_accepted (sheet_name sheet) run q.list q.least) in
    let times : SmallRow (priced_times run q.list) = subst (λ l. SmallRow (priced_times run l)) (list_of_halves q.list) small.times in
    subst TimeIsWord (sym q.says) (longest_word (record { time = 0; file = 0 }) run.numbers (priced_times run q.list) (omega arith, omega arith) small.numbers times))
    (true_or_false (refuses (recall_verdict sheet)))

-- What stays so from run to run.
record Held (m : Month) : Type 0 where
  many : length m.refused ≡ 32
  letters : length m.tape ≡ 16
  word : (m.time < 2 ^ 64) × (m.file < 2 ^ 64)

abbrev Fine : Outcome → Type 0
Fine o = Small o × TimeIsWord o

held_on : (m : Month) (o : Outcome) → Fine o → Held m → Held (added m o)
unfolding added with_refused with_totals with_longest
held_on m o f h = go (is_refusal o.refusal) (ltb m.time o.time) refl refl
  where
    go : (b c : Bool) → is_refusal o.refusal ≡ b → ltb m.time o.time ≡ c → Held (added m o)
    go true c e g = rw e (record { many = length-set m.refused (number_of o.refusal) _ ∙ h.many; letters = h.letters; word = h.word })
    go false true e g = rw (e, g) (record { many = h.many; letters = f.0.tape; word = f.1 })
    go false false e g = rw (e, g) (record { many = h.many; letters = h.letters; word = h.word })

held_all : (m : Month) (runs : List Outcome) → Every Fine runs → Held m → Held (added_all m runs)
unfolding added_all
held_all m [] f h = h
held_all m (o ∷ runs) f h = held_all (added m o) runs f.1 (held_on m o f.0 h)

-- Sums and numbers of at most so many runs.
in_all_few : (figure : Outcome → ℕ) (runs : List Outcome) → Every (λ o. figure o < 2 ^ 52) runs → in_all figure runs ≤ length runs * 2 ^ 52
unfolding in_all
in_all_few figure [] f = omega arith
in_all_few figure (o ∷ runs) f = go (is_refusal o.refusal) refl (in_all_few figure runs f.1)
  where
    go : (b : Bool) → is_refusal o.refusal ≡ b → in_all figure runs ≤ length runs * 2 ^ 52 → in_all figure (o ∷ runs) ≤ length (o ∷ runs) * 2 ^ 52
    go true e rest = rw e (omega (arith, rest))
    go false e rest = rw e (omega (arith, rest, f.0))

many_few : (test : Outcome → Bool) (runs : List Outcome) → how_many_runs test runs ≤ length runs
unfolding how_many_runs
many_few test [] = omega arith
many_few test (o ∷ runs) = go (test o) (many_few test runs)
  where
    go : (b : Bool) → how_many_runs test runs ≤ length runs → cond b 1 0 + how_many_runs test runs ≤ length (o ∷ runs)
    go true rest = omega (arith, rest)
    go false rest = omega (arith, rest)

divided_few : (n : ℕ) (input : List ℕ) → length (divided n input).sheets ≤ n
unfolding divided
divided_few zero input = omega arith
divided_few (suc n) input = go (is_empty input) (is_whole input) refl refl (divided_few n (behind_sheet input))
  where
    go : (b c : Bool) → is_empty input ≡ b → is_whole input ≡ c → length (divided n (behind_sheet input)).sheets ≤ n → length (divided (suc n) input).sheets ≤ suc n
    go true c e f rest = rw e (omega arith)
    go false true e f rest = rw (e, f) (omega (arith, rest))
    go false false e f rest = rw (e, f) (omega arith)

each_fine : (sheets : List (List ℕ)) (runs : List Outcome) → Outcomes sheets runs → Every TimeIsWord runs
each_fine [] [] o = tt
each_fine [] (r ∷ runs) o = absurd o
each_fine (s ∷ sheets) [] o = absurd o
each_fine (s ∷ sheets) (r ∷ runs) o = (outcome_word s r o.0, each_fine sheets runs o.1)

both_fine : (runs : List Outcome) → Every Small runs → Every TimeIsWord runs → Every Fine runs
both_fine [] a b = tt
both_fine (r ∷ runs) a b = ((a.0, b.0), both_fine runs a.1 b.1)

pub months_are_in_words : MonthsAreInWords
unfolding input_verdict
months_are_in_words input m good h =
    let is = part_by_part input m good h in
    let runs = is.runs in
    let small = outcomes_small (divided 1000 input).sheets runs is.outcomes in
    let few = divided_few 1000 input in
    let kept : Held m = subst Held (sym is.month) (held_all empty_month runs (both_fine runs small.0 (each_fine (divided 1000 input).sheets runs is.outcomes)) (record { many = refl; letters = refl; word = (omega arith, omega arith) })) in
    record {
      accepted = omega (arith, is.figures.accepted, many_few is_accepted_run runs, small.1, few);
      many = omega (arith, kept.many);
      refused = λ i l. omega (arith, is.figures.refused i, many_few (is_refused_by i) runs, small.1, few);
      reads = omega (arith, is.figures.reads, in_all_few (λ r. r.reads) runs (every_map (λ o s. omega (arith, s.reads)) runs small.0), small.1, few);
      sum = omega (arith, is.figures.sum, in_all_few (λ r. r.sum) runs (every_map (λ o s. s.sum) runs small.0), small.1, few);
      saved = omega (arith, is.figures.saved, in_all_few (λ r. r.saved) runs (every_map (λ o s. s.saved) runs small.0), small.1, few);
      time = kept.word.0;
      file = kept.word.1;
      letters = omega (arith, kept.letters);
      place = go good refl;
    }
  where
    go : (b : Bool) → good ≡ b → (input_verdict m good).place < 2 ^ 64
    go true e = rw e (omega arith)
    go false e = omega (arith, ap (λ v. v.place) ((part_by_part input m good h).place e), divided_few 1000 input)
