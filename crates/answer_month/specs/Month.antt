-- The figures of a month, with one sheet's outcome more. Every total is below 2 to the 64: one that would not be stays as it is, and `over` says so.
use Rattle.std.specs.Prelude.{ℕ, ◌+◌, ◌^◌, Bool, false, cond, ◌||◌, List, [], ◌∷◌, get_or, replicate, set, ltb, leb}
use Rattle.refusals.specs.Refusals.{number_of, is_refusal}
use Rattle.answer_outcome.specs.declared.Outcome.{Outcome}
use Rattle.answer_month.specs.declared.Month.{Month}

abbrev pub too_large : ℕ → ℕ → Bool
too_large total more = leb (2 ^ 64) (total + more)

unfoldable pub grown : ℕ → ℕ → ℕ
grown total more = cond (too_large total more) total (total + more)

-- No sheets.
abbrev pub empty_month : Month
empty_month =
    record {
      sheets = 0;
      accepted = 0;
      refused = replicate 32 0;
      reads = 0;
      sum = 0;
      saved = 0;
      time = 0;
      file = 0;
      letters = 0;
      tape = replicate 16 0;
      over = false;
    }

-- The runs refused with a number.
abbrev pub refused_with : Month → ℕ → ℕ
refused_with m n = get_or m.refused n 0

-- A run refused with a number: one more of its kind.
abbrev pub over_refused : Month → ℕ → Bool
over_refused m runs = m.over || (too_large m.sheets 1 || too_large runs 1)

unfoldable pub with_refused : Month → ℕ → Month
with_refused m n =
    record {
      sheets = grown m.sheets 1;
      accepted = m.accepted;
      refused = set m.refused n (grown (refused_with m n) 1);
      reads = m.reads;
      sum = m.sum;
      saved = m.saved;
      time = m.time;
      file = m.file;
      letters = m.letters;
      tape = m.tape;
      over = over_refused m (refused_with m n);
    }

-- A run accepted: one more, its reads, its sum and what its plan saves.
abbrev pub over_totals : Month → Outcome → Bool
over_totals m o =
    m.over
    || (((too_large m.sheets 1 || too_large m.accepted 1) || (too_large m.reads o.reads || too_large m.sum o.sum))
    || too_large m.saved o.saved)

unfoldable pub with_totals : Month → Outcome → Month
with_totals m o =
    record {
      sheets = grown m.sheets 1;
      accepted = grown m.accepted 1;
      refused = m.refused;
      reads = grown m.reads o.reads;
      sum = grown m.sum o.sum;
      saved = grown m.saved o.saved;
      time = m.time;
      file = m.file;
      letters = m.letters;
      tape = m.tape;
      over = over_totals m o;
    }

-- Its longest time, with file and tape, where it is longer than the longest so far: of equal ones the first stays.
abbrev pub named_by : Month → Outcome → Month
named_by m o =
    record {
      sheets = m.sheets;
      accepted = m.accepted;
      refused = m.refused;
      reads = m.reads;
      sum = m.sum;
      saved = m.saved;
      time = o.time;
      file = o.file;
      letters = o.letters;
      tape = o.tape;
      over = m.over;
    }

unfoldable pub with_longest : Month → Outcome → Month
with_longest m o = cond (ltb m.time o.time) (named_by m o) m

-- One outcome more.
unfoldable pub added : Month → Outcome → Month
added m o = cond (is_refusal o.refusal) (with_refused m (number_of o.refusal)) (with_longest (with_totals m o) o)

-- Several, in their order.
unfoldable pub added_all : Month → List Outcome → Month
added_all m [] = m
added_all m (o ∷ os) = added_all (added m o) os
