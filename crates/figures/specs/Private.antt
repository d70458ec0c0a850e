-- Contracts of private functions.
use Rattle.std.specs.Prelude.{ℕ, ◌≡◌, false, List}
use Rattle.refusals.specs.Refusals.{is_refusal}
use Rattle.runs.specs.Run.{Run, stops_of}
use Rattle.runs.specs.Judging.{judge_of}
use Rattle.runs.specs.Lists.{list_verdict}
use Rattle.runs.specs.AnyHead.{judge_any_of, list_verdict_any}

-- A run and a list that are accepted.
pub record Priceable (r : Run) (froms tos : List ℕ) : Type 0 where
  pub run : is_refusal (judge_of r).refusal ≡ false
  pub list : is_refusal (list_verdict (stops_of r) froms tos).refusal ≡ false

-- The same for a head anywhere.
pub record PriceableAny (r : Run) (froms tos : List ℕ) : Type 0 where
  pub run : is_refusal (judge_any_of r).refusal ≡ false
  pub list : is_refusal (list_verdict_any r.head (stops_of r) froms tos).refusal ≡ false
