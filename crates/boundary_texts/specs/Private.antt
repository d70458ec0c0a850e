-- For the functions that make a code and tell the lengths. No public contract cites this file.
use Rattle.std.specs.Prelude.{ℕ, ◌≡◌, cond, List, ◌∷◌, drop}
use Rattle.refusals.specs.declared.Verdict.{Verdict}
use Rattle.refusals.specs.Refusals.{is_refusal}
use Rattle.sheet_writer.specs.declared.Written.{Written}
use Rattle.answer_mend.specs.declared.Mended.{Mended}
use Rattle.boundary.specs.Boundary.{code_of}

-- The verdict in what was written, and in what was mended.
abbrev pub written_verdict : Written → Verdict
written_verdict w = record { refusal = w.refusal; place = w.place }

abbrev pub mended_verdict : Mended → Verdict
mended_verdict m = record { refusal = m.refusal; place = m.place }

-- The code, and the lengths in the first words unless it is a refusal's.
pub record Told (v : Verdict) (bytes : ℕ) (sizes : List ℕ) (code : ℕ) (sizes' : List ℕ) : Type 0 where
  pub says : code ≡ code_of v
  pub sizes_are : sizes' ≡ cond (is_refusal v.refusal) sizes (bytes ∷ drop 1 sizes)

pub record BothTold (v : Verdict) (bytes noted : ℕ) (sizes : List ℕ) (code : ℕ) (sizes' : List ℕ) : Type 0 where
  pub says : code ≡ code_of v
  pub sizes_are : sizes' ≡ cond (is_refusal v.refusal) sizes (bytes ∷ noted ∷ drop 2 sizes)
