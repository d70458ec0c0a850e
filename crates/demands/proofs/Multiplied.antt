-- Wants whose reads are c times those of others, file by file: of accepted runs they are wants of the same files, and each count is c times as large.
use Prim.Native.Nat.{ℕ, suc, ◌*◌, ◌≤◌, ◌<◌}
use mathlib.Core.Path.{◌≡◌, refl, sym, ap, ◌∙◌}
use mathlib.Core.Logic.{by_cases}
use mathlib.Core.List.{List, [], ◌∷◌, map}
use native.Mathlib.Omega.{arith}
use native.Mathlib.Decide.{dec_lt}
use native.Mathlib.Nat.{mul-le-mul}
use lib.ListN.{length, get_or}
use borrow.Author.Tests.{eq-eqb, ne_eqb}
use Rattle.runs.specs.Run.{Run}
use Rattle.runs.proofs.Judged.{GoodRun, accepted_run}
use Rattle.least.specs.Wants.{reads_of_file}
use Rattle.demands.specs.Offices.{MultipliedWants}
use Rattle.demands.proofs.Judged.{nothing_judged}

-- Wants whose numbers rise from above a bound, each at least once.
abbrev Above : ℕ → List ℕ → List ℕ → Type 0
Above low [] [] = Unit {0}
Above low [] (c ∷ cs) = ⊥
Above low (n ∷ ns) [] = ⊥
Above low (n ∷ ns) (c ∷ cs) = (low < n) × (0 < c) × Above n ns cs

above_from : (low : ℕ) (ns cs : List ℕ) → length ns ≡ length cs → (0 < length ns → low < get_or ns 0 0) → ((i : ℕ) → suc i < length ns → get_or ns i 0 < get_or ns (suc i) 0)
    → ((i : ℕ) → i < length ns → 0 < get_or cs i 0) → Above low ns cs
above_from low [] [] e first rise some = tt
above_from low [] (c ∷ cs) e first rise some = absurd (omega arith)
above_from low (n ∷ ns) [] e first rise some = absurd (omega arith)
above_from low (n ∷ ns) (c ∷ cs) e first rise some =
    (first (omega arith), some 0 (omega arith), above_from n ns cs (omega arith) (λ l. rise 0 (omega arith)) (λ i l. rise (suc i) (omega arith)) (λ i l. some (suc i) (omega arith)))

run_above : (r : Run) → GoodRun r → Above 0 r.numbers r.counts
run_above r good =
    above_from 0 r.numbers r.counts good.wants.equal (λ l. (good.wants.each 0 l).named)
    (λ i l. (good.wants.each (suc i) l).above) (λ i l. (good.wants.each i l).counted)

none_below : (low : ℕ) (ns cs : List ℕ) (f : ℕ) → Above low ns cs → f ≤ low → reads_of_file ns cs f ≡ 0
unfolding reads_of_file
none_below low [] cs f a l = refl
none_below low (n ∷ ns) [] f a l = refl
none_below low (n ∷ ns) (c ∷ cs) f a l =
    rw (ne_eqb n f (λ e. omega (arith, a.0))) (omega (arith, none_below n ns cs f a.2 (omega (arith, a.0))))

-- The first want's own reads.
first_reads : (low n c : ℕ) (ns cs : List ℕ) → Above low (n ∷ ns) (c ∷ cs) → reads_of_file (n ∷ ns) (c ∷ cs) n ≡ c
unfolding reads_of_file
first_reads low n c ns cs a = rw (eq-eqb n n refl) (omega (arith, none_below n ns cs n a.2 (omega arith)))

later_reads : (n c : ℕ) (ns cs : List ℕ) (f : ℕ) → (n ≡ f → ⊥) → reads_of_file (n ∷ ns) (c ∷ cs) f ≡ reads_of_file ns cs f
unfolding reads_of_file
later_reads n c ns cs f other = rw (ne_eqb n f other) (omega arith)

module _ (c : ℕ) (some : 1 ≤ c) where
  some_product : (d : ℕ) → 0 < d → 0 < c * d
  some_product d l = let m : 1 * 1 ≤ c * d = mul-le-mul some l in omega arith

  no_product : (d : ℕ) → d ≡ 0 → c * d ≡ 0
  no_product d e = rw e (omega arith)

  same_wants : (low : ℕ) (ns cs ms ds : List ℕ) → Above low ns cs → Above low ms ds → ((f : ℕ) → reads_of_file ns cs f ≡ c * reads_of_file ms ds f)
      → (ns ≡ ms) × (cs ≡ map (λ n. c * n) ds)
  same_wants low [] [] [] [] a b e = (refl, refl)
  same_wants low [] (x ∷ cs) ms ds a b e = absurd a
  same_wants low (n ∷ ns) [] ms ds a b e = absurd a
  same_wants low [] [] [] (d ∷ ds) a b e = absurd b
  same_wants low [] [] (m ∷ ms) [] a b e = absurd b
  same_wants low (n ∷ ns) (x ∷ cs) [] (d ∷ ds) a b e = absurd b
  same_wants low (n ∷ ns) (x ∷ cs) (m ∷ ms) [] a b e = absurd b
  same_wants low (n ∷ ns) (x ∷ cs) [] [] a b e =
      absurd (omega (arith, a.1, first_reads low n x ns cs a, e n, no_product (reads_of_file [] [] n) (none_below n [] [] n tt (omega arith))))
  same_wants low [] [] (m ∷ ms) (d ∷ ds) a b e =
      absurd (omega (arith, some_product (reads_of_file (m ∷ ms) (d ∷ ds) m) (omega (arith, first_reads low m d ms ds b, b.1)), e m, none_below m [] [] m tt (omega arith)))
  same_wants low (n ∷ ns) (x ∷ cs) (m ∷ ms) (d ∷ ds) a b e =
      by_cases (dec_lt n m)
      (λ l. absurd (omega (arith, a.1, first_reads low n x ns cs a, e n, no_product (reads_of_file (m ∷ ms) (d ∷ ds) n) (away m d ms ds n (λ q. omega arith) b l))))
      (λ h. by_cases (dec_lt m n)
      (λ l. absurd (omega (arith, some_product (reads_of_file (m ∷ ms) (d ∷ ds) m) (omega (arith, first_reads low m d ms ds b, b.1)), e m, away n x ns cs m (λ q. omega arith) a l)))
      (λ k. matched (omega arith) (λ q tails. same_wants n ns cs ms ds a.2 (rw (← q) at b.2) tails)))
    where
      -- A number left of the first is not wanted.
      away : (m d : ℕ) (ms ds : List ℕ) (f : ℕ) → (m ≡ f → ⊥) → Above low (m ∷ ms) (d ∷ ds) → f < m → reads_of_file (m ∷ ms) (d ∷ ds) f ≡ 0
      away m d ms ds f other b l = later_reads m d ms ds f other ∙ none_below m ms ds f b.2 (omega arith)

      matched : n ≡ m → (n ≡ m → ((f : ℕ) → reads_of_file ns cs f ≡ c * reads_of_file ms ds f) → (ns ≡ ms) × (cs ≡ map (λ k. c * k) ds))
          → (n ∷ ns ≡ m ∷ ms) × (x ∷ cs ≡ map (λ k. c * k) (d ∷ ds))
      matched q later =
          let head-count : x ≡ c * d = sym (first_reads low n x ns cs a) ∙ e n ∙ ap (λ k. c * k) (ap (reads_of_file (m ∷ ms) (d ∷ ds)) q ∙ first_reads low m d ms ds b) in
          let rest = later q tails in
          (rw (q, rest.0), rw (head-count, rest.1))
        where
          tails : (f : ℕ) → reads_of_file ns cs f ≡ c * reads_of_file ms ds f
          tails f =
              by_cases (dec_lt n f)
              (λ l. sym (later_reads n x ns cs f (λ z. omega arith)) ∙ e f ∙ ap (λ k. c * k) (later_reads m d ms ds f (λ z. omega arith)))
              (λ h. none_below n ns cs f a.2 (omega arith) ∙ sym (no_product (reads_of_file ms ds f) (none_below m ms ds f b.2 (omega arith))))

pub multiplied_wants : MultipliedWants
multiplied_wants c many r some nothing nothing' over =
    same_wants c some 0 many.numbers many.counts r.numbers r.counts
    (run_above many (accepted_run many (nothing_judged many nothing)))
    (run_above r (accepted_run r (nothing_judged r nothing')))
    over.reads
