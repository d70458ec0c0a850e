-- The plan sheet of the least list, line by line; for a head anywhere by the demands' legs and by what they call least, both ways.
use Prim.Native.Nat.{ℕ}
use mathlib.Core.Path.{◌≡◌, refl, sym, ap, ◌∙◌}
use mathlib.Core.Bool.{false}
use mathlib.Core.List.{List, [], ◌∷◌, ◌++◌, map}
use Rattle.refusals.proofs.Verdicts.{refuses}
use Rattle.runs.specs.Run.{Run, total, stops_of, want_stops_of}
use Rattle.runs.specs.Lists.{Detour}
use Rattle.runs.specs.AnyHead.{judge_any_of}
use Rattle.runs.proofs.AnyHead.{accepted_any}
use Rattle.walk.specs.declared.Answer.{Answer}
use Rattle.walk.specs.Walk.{head_at, times_of, legs_for}
use Rattle.walk.specs.Detours.{legs_of}
use Rattle.walk.specs.Price.{priced_answer, priced_times, priced_legs}
use Rattle.walk.specs.AnyHead.{run_legs, priced_any_answer}
use Rattle.engine_stops.proofs.Halves.{list_of_halves}
use Rattle.text_bytes.specs.Text.{bytes}
use Rattle.text_pages.specs.Printing.{pair_line, pair_lines, triple_line, triple_lines}
use Rattle.sheet_writer.specs.PlanSheet.{plan_top, plan_lines, plan_text}
use Rattle.sheet_writer.specs.AnyHead.{plan_any_text}
use Rattle.answer_plan.specs.Recall.{PlanOf}
use Rattle.answer_any.specs.AnyRun.{PlanAnyOf}
use Rattle.demands.proofs.AnyJudged.{judged_nothing_any}
use Rattle.demands.proofs.AnyLegs.{legs_made}
use Rattle.demands.proofs.AnyHead.{legs_are_one, least_any_means}
use Rattle.demands.proofs.AnySums.{least_walk_is_least}
use Rattle.promises.specs.Texts.{pairs_on, triples_on}
use Rattle.promises.specs.PlanLines.{walk_sheet, PlanPrinted, PlanAnyPrinted}

-- Lines of pairs and triples.
pub pairs_on_lem : (key firsts seconds : List ℕ) → pair_lines key firsts seconds ≡ pairs_on key firsts seconds
unfolding pair_lines
pairs_on_lem key [] seconds = refl
pairs_on_lem key (a ∷ firsts) [] = refl
pairs_on_lem key (a ∷ firsts) (b ∷ seconds) = ap (λ t. pair_line key a b ++ t) (pairs_on_lem key firsts seconds)

pub triples_on_lem : (key firsts seconds thirds : List ℕ) → triple_lines key firsts seconds thirds ≡ triples_on key firsts seconds thirds
unfolding triple_lines
triples_on_lem key [] seconds thirds = refl
triples_on_lem key (a ∷ firsts) [] thirds = refl
triples_on_lem key (a ∷ firsts) (b ∷ seconds) [] = refl
triples_on_lem key (a ∷ firsts) (b ∷ seconds) (c ∷ thirds) = ap (λ t. triple_line key a b c ++ t) (triples_on_lem key firsts seconds thirds)

module _ (name : List ℕ) (r : Run) (list : List Detour) where
  abbrev froms : List ℕ
  froms = map (λ d. d.from) list

  abbrev tos : List ℕ
  tos = map (λ d. d.to) list

  -- Its lines, from the contracts' and by the answer of a walk.
  as_lines : (answer : Answer) (times legs : List ℕ) → plan_lines name (total r.counts) answer froms tos r.numbers times legs
      ≡ plan_top name (total r.counts) answer ++ pairs_on (bytes "detour=") froms tos ++ triples_on (bytes "time=") r.numbers times legs
  unfolding plan_lines
  as_lines answer times legs =
      ap (λ t. plan_top name (total r.counts) answer ++ t ++ triple_lines (bytes "time=") r.numbers times legs) (pairs_on_lem (bytes "detour=") froms tos)
      ∙ ap (λ t. plan_top name (total r.counts) answer ++ pairs_on (bytes "detour=") froms tos ++ t) (triples_on_lem (bytes "time=") r.numbers times legs)

  pub plan_text_is : plan_text name r froms tos ≡ walk_sheet name r list (legs_of (stops_of r) list)
  unfolding plan_text plan_top priced_answer priced_times priced_legs
  plan_text_is =
      ap (λ (l : List Detour). plan_lines name (total r.counts) (priced_answer r l) froms tos r.numbers (priced_times r l) (priced_legs r l)) (list_of_halves list)
      ∙ as_lines (priced_answer r list) (priced_times r list) (priced_legs r list)

  pub any_text_is : plan_any_text name r froms tos ≡ walk_sheet name r list (run_legs r list)
  unfolding plan_any_text plan_top priced_any_answer
  any_text_is =
      ap
      (λ (l : List Detour). plan_lines name (total r.counts) (priced_any_answer r l) froms tos r.numbers (times_of r.turn (head_at r.head) (run_legs r l) (want_stops_of r)) (legs_for (run_legs r l) (want_stops_of r)))
      (list_of_halves list)
      ∙ as_lines (priced_any_answer r list) (times_of r.turn (head_at r.head) (run_legs r list) (want_stops_of r)) (legs_for (run_legs r list) (want_stops_of r))

pub plan_printed : (name : List ℕ) (r : Run) (text : List ℕ) → PlanOf name r text → PlanPrinted name r text
plan_printed name r text p = record { list = p.list; least = p.least; whole = p.says ∙ plan_text_is name r p.list }

module _ (name : List ℕ) (r : Run) (judged : refuses (judge_any_of r) ≡ false) (text : List ℕ) where
  pub plan_any_printed : PlanAnyOf name r text → PlanAnyPrinted name r text
  plan_any_printed p =
      let made = legs_made r (accepted_any r judged) p.list p.least.formed in
      record {
        list = p.list;
        legs = run_legs r p.list;
        made = made;
        least = least_any_means r (judged_nothing_any r judged) p.list p.least (run_legs r p.list) made;
        whole = p.says ∙ any_text_is name r p.list;
      }

  pub plan_any_back : PlanAnyPrinted name r text → PlanAnyOf name r text
  plan_any_back p =
      let nothing = judged_nothing_any r judged in
      record {
        list = p.list;
        least = least_walk_is_least r nothing p.list p.legs p.made p.least;
        says = p.whole ∙ ap (walk_sheet name r p.list) (legs_are_one r nothing p.list p.least.formed p.legs p.made) ∙ sym (any_text_is name r p.list);
      }
