-- Where no file lies in an aggregate, the verdict and the stops are what they were.
use Prim.Native.Nat.{ℕ}
use mathlib.Core.List.{List}
use lib.ListN.{length}
use Rattle.runs.specs.Alone.{alone_of}
use Rattle.runs.proofs.Judged.{accepted_run}
use Rattle.runs.proofs.Alone.{alone_wants, alone_stops, alone_judged}
use Rattle.demands.specs.Alone.{AloneAsBefore}
use Rattle.demands.proofs.Judged.{nothing_judged}

pub alone_as_before : AloneAsBefore
alone_as_before starts lengths numbers counts head turn =
    let judged = alone_judged starts lengths numbers counts head turn in
    record {
      verdict = judged;
      stops = λ n.
          let alone = alone_of starts lengths numbers counts head turn in
          let good = accepted_run alone (nothing_judged alone n) in
          (alone_stops starts lengths numbers counts head turn (length starts) good.wants, alone_wants (length starts) starts lengths numbers counts);
    }
