-- Whatever answer_buys answers other than 7 and 9, the answer for any run is the same, byte for byte, in as much room.
use Prim.Native.Nat.{ℕ, ◌≤◌}
use mathlib.Core.Path.{◌≡◌, ap, ◌∙◌}
use mathlib.Core.Bool.{false}
use mathlib.Core.List.{List}
use lib.ListN.{length}
use Rattle.refusals.specs.declared.Refusal.TheVariants.{HeadPlace, ShortRoom}
use Rattle.refusals.proofs.Verdicts.{refuses}
use Rattle.runs.specs.Run.{stops_of}
use Rattle.runs.proofs.Stops.{accepted_sound}
use Rattle.least.proofs.LeastAny.{least_any_same}
use Rattle.sheet_reader.specs.Sheet.{sheet_run, sheet_name}
use Rattle.sheet_figures.proofs.Figures.{text_same}
use Rattle.answer_plan.specs.Recall.{room_words, recall_verdict}
use Rattle.answer_any.specs.AnyRun.{any_verdict}
use Rattle.answer_any.proofs.Same.{verdict_same, accepts}
use Rattle.answer_buys.specs.Buys.{BuysText, SheetBought}
use Rattle.answer_buys.proofs.Determined.{buys_determined}
use Rattle.answer_buys_any.specs.AnyBuys.{BuysAnyOf, SheetBoughtAny}

module _ (sheet : List ℕ) (words : ℕ) (enough : room_words ≤ words) (place : (recall_verdict sheet).refusal ≡ HeadPlace → ⊥) (room : (recall_verdict sheet).refusal ≡ ShortRoom → ⊥) where
  -- The least list from where the head stands is 01's, and so is its figure sheet.
  figures_same_here : refuses (recall_verdict sheet) ≡ false → (text : List ℕ) → BuysAnyOf (sheet_name sheet) (sheet_run sheet) text → BuysText (sheet_name sheet) (sheet_run sheet) text
  figures_same_here e text p =
      let run = sheet_run sheet in
      let judged = accepts sheet words enough place room e in
      record {
        list = p.list;
        least = least_any_same run.turn run.head (stops_of run) (accepted_sound run judged) p.list p.least;
        says = p.says ∙ text_same (sheet_name sheet) run judged _ _;
      }

  pub bought_same : (row lent : List ℕ) (n n' : ℕ) (row' row'' lent' : List ℕ) → length lent ≡ words → SheetBought sheet row n row' → SheetBoughtAny sheet row lent n' row'' lent' → (n ≡ n') × (row' ≡ row'')
  bought_same row lent n n' row' row'' lent' is p q =
      let g = q.given in
      let v-is : any_verdict (length lent) sheet ≡ recall_verdict sheet = rw is (verdict_same sheet words enough place room) in
      let other : SheetBought sheet row n' row'' =
      record {
        text = g.text;
        answers =
            record {
              refused = λ e. rw v-is at (g.answers.refused (ap refuses v-is ∙ e));
              figured = λ e. figures_same_here e g.text (g.answers.planned (ap refuses v-is ∙ e));
            };
        bytes = g.bytes;
        left = g.left;
      } in
      buys_determined sheet row n n' row' row'' p other
