-- The whole answer of `check`: where the line that differs starts in both texts, and each line of the answer.
use Prim.Native.Nat.{ℕ, suc, ◌+◌, ◌-◌}
use mathlib.Core.Path.{◌≡◌, refl, ap, sym, ◌∙◌, subst}
use mathlib.Core.Bool.{Bool, true, false, true≢false}
use mathlib.Core.Logic.{⊎_elim}
use mathlib.Core.List.{List, [], ◌∷◌, ◌++◌, append_assoc, append-nil}
use native.Mathlib.Omega.{arith}
use lib.ListN.{length, drop, length-append}
use lib.Dec.{eqb}
use borrow.Author.Tests.{eq-eqb, eqb-true}
use Rattle.refusals.specs.declared.Refusal.TheVariants.{BadEntry}
use Rattle.refusals.proofs.Verdicts.{refuses, all_accept}
use Rattle.runs.specs.Run.{Run, stops_of}
use Rattle.runs.specs.Lists.{Detour, list_of}
use Rattle.runs.specs.AnyHead.{judge_any_of, first_bad_entry_any, list_verdict_any}
use Rattle.runs.proofs.Search.{true_or_false, or_false_both}
use Rattle.runs.proofs.AnyHead.{accepted_any}
use Rattle.walk.specs.AnyHead.{priced_any_answer}
use Rattle.least.specs.AnyHead.{LeastAny}
use Rattle.least.proofs.LeastAny.{least_any_unique}
use Rattle.text_bytes.specs.Text.{bytes, line_feed, has, behind, is_text, decimal}
use Rattle.text_lines.specs.Lines.{line_of, after_lines, line_after}
use Rattle.text_pages.specs.Printing.{line}
use Rattle.sheet_reader.specs.Sheet.{sheet_run, sheet_name}
use Rattle.sheet_writer.specs.AnyHead.{plan_any_text}
use Rattle.sheet_writer.proofs.Reread.{after_front}
use Rattle.sheet_lists.specs.Form.{plan_froms, plan_tos}
use Rattle.sheet_lists.proofs.AnyTrip.{any_none}
use Rattle.answer_check.specs.declared.Difference.{Difference}
use Rattle.answer_check.specs.RunRules.{head_anywhere}
use Rattle.answer_check.specs.Checking.{formed_yes, walk_no, least_no, found_key, expected_key, differ_from, first_difference, walk_line, difference_lines, same_list, least_line, verdict_lines, check_text}
use Rattle.answer_check.proofs.Checked.{entry_bad}
use Rattle.demands.specs.RefusalTable.{FirstBad}
use Rattle.demands.specs.AnyHead.{EntryIsBadAny, ListIsBadAny}
use Rattle.demands.proofs.Checks.{Decides, refused, passed}
use Rattle.demands.proofs.Letters.{text_same, same_text}
use Rattle.demands.proofs.AnyJudged.{decides_list_any}
use Rattle.demands.proofs.AnyHead.{is_formed_any}
use Rattle.promises.specs.Checks.{Larger, FirstDiffers, FormedFor}
use Rattle.promises.specs.CheckWhole.{LeastLine, least, larger, VerdictText, unformed, the_walk, another, CheckPrintsAll}
use Rattle.promises.proofs.Differs.{first_differs}
use Rattle.promises.proofs.Checks.{put_whole, even_plan, list_same, same_list_lem}
use Rattle.promises.proofs.InputLengths.{check_passes, check_fits}

-- Where the line that is named starts: so many lines and so many bytes behind where the search began, in both texts.
record Reached (l start : ℕ) (a b : List ℕ) (d : Difference) : Type 0 where
  many : ℕ
  size : ℕ
  is : d.line ≡ l + many
  at : d.start ≡ start + size
  left : drop size a ≡ after_lines many a
  right : drop size b ≡ after_lines many b

here : (l start : ℕ) (a b : List ℕ) → Reached l start a b (record { line = l; start = start })
unfolding after_lines
here l start a b = record { many = 0; size = 0; is = omega arith; at = omega arith; left = refl; right = refl }

-- Behind a part without LF and an LF.
behind_here : (u rest : List ℕ) → has line_feed u ≡ false → behind line_feed (u ++ (line_feed ∷ rest)) ≡ rest
unfolding has behind
behind_here [] rest e = refl
behind_here (c ∷ u) rest e = let both = or_false_both (eqb c line_feed) (has line_feed u) e in rw both.0 (behind_here u rest both.1)

drop_here : (u : List ℕ) (x : ℕ) (rest : List ℕ) (k : ℕ) → drop (suc (length u + k)) (u ++ (x ∷ rest)) ≡ drop k rest
drop_here [] x rest k = let e : length {A = ℕ} [] + k ≡ k = omega arith in ap (λ m. drop m rest) e
drop_here (c ∷ u) x rest k = let e : length (c ∷ u) + k ≡ suc (length u + k) = omega arith in ap (λ m. drop m (u ++ (x ∷ rest))) e ∙ drop_here u x rest k

flat_more : (u : List ℕ) (x : ℕ) → has line_feed u ≡ false → eqb x line_feed ≡ false → has line_feed (u ++ (x ∷ [])) ≡ false
unfolding has
flat_more [] x e f = rw f
flat_more (c ∷ u) x e f = let both = or_false_both (eqb c line_feed) (has line_feed u) e in rw both.0 (flat_more u x both.1 f)

past_line : (u a b : List ℕ) (l start at : ℕ) (d : Difference) → has line_feed u ≡ false → at ≡ start + length u → Reached (suc l) (suc at) a b d → Reached l start (u ++ (line_feed ∷ a)) (u ++ (line_feed ∷ b)) d
past_line u a b l start at d flat e r =
    record {
      many = suc r.many;
      size = suc (length u + r.size);
      is = omega (arith, r.is);
      at = omega (arith, r.at, e);
      left = drop_here u line_feed a r.size ∙ r.left ∙ sym (after_front r.many (u ++ (line_feed ∷ a)) ∙ ap (after_lines r.many) (behind_here u a flat));
      right = drop_here u line_feed b r.size ∙ r.right ∙ sym (after_front r.many (u ++ (line_feed ∷ b)) ∙ ap (after_lines r.many) (behind_here u b flat));
    }

reached : (u a b : List ℕ) (l start at : ℕ) → has line_feed u ≡ false → at ≡ start + length u → Reached l start (u ++ a) (u ++ b) (differ_from l start at a b)
unfolding differ_from has
reached u [] b l start at flat e = here l start (u ++ []) (u ++ b)
reached u (x ∷ a) [] l start at flat e = here l start (u ++ (x ∷ a)) (u ++ [])
reached u (x ∷ a) (y ∷ b) l start at flat e =
    go (eqb x y) (eqb x line_feed) refl refl (reached [] a b (suc l) (suc at) (suc at) refl (omega arith)) (λ f. reached (u ++ (x ∷ [])) a b l start (suc at) (flat_more u x flat f) (omega (arith, e, length-append u (x ∷ []))))
  where
    go : (s t : Bool) → eqb x y ≡ s → eqb x line_feed ≡ t → Reached (suc l) (suc at) a b (differ_from (suc l) (suc at) (suc at) a b)
        → (eqb x line_feed ≡ false → Reached l start ((u ++ (x ∷ [])) ++ a) ((u ++ (x ∷ [])) ++ b) (differ_from l start (suc at) a b))
        → Reached l start (u ++ (x ∷ a)) (u ++ (y ∷ b)) (differ_from l start at (x ∷ a) (y ∷ b))
    go true true f g next more =
        let x-is = eqb-true x line_feed g in
        let y-is : y ≡ line_feed = sym (eqb-true x y f) ∙ x-is in
        rw (f, g, x-is, y-is) (past_line u a b l start at _ flat e next)
    go true false f g next more =
        let y-is : x ≡ y = eqb-true x y f in
        let both = more g in
        rw (f, g, ← y-is, ← append_assoc u (x ∷ []) a, ← append_assoc u (x ∷ []) b) both
    go false t f g next more = rw f (here l start (u ++ (x ∷ a)) (u ++ (y ∷ b)))

-- The lines of a verdict, in other groups.
regrouped : (y w d f m k a e b : List ℕ) → y ++ (w ++ d ++ f) ++ m ++ ((k ++ a ++ f) ++ (e ++ b ++ f)) ≡ (y ++ w) ++ d ++ f ++ m ++ k ++ a ++ (f ++ e) ++ b ++ f
regrouped y w d f m k a e b = simp append_assoc

-- So the two lines are those with that number.
module _ (plan expected : List ℕ) (n : ℕ) (is : (first_difference plan expected).line ≡ suc n) where
  both : Reached 1 0 plan expected (first_difference plan expected)
  unfolding has
  both = reached [] plan expected 1 0 0 refl refl

  number : both.many ≡ n
  number = omega (arith, both.is, is)

  start : (first_difference plan expected).start ≡ both.size
  start = omega (arith, both.at)

  found_line : line_of (drop (first_difference plan expected).start plan) ≡ line_after n plan
  found_line = ap (λ k. line_of (drop k plan)) start ∙ ap line_of both.left ∙ ap (λ m. line_after m plan) number

  expected_line : line_of (drop (first_difference plan expected).start expected) ≡ line_after n expected
  expected_line = ap (λ k. line_of (drop k expected)) start ∙ ap line_of both.right ∙ ap (λ m. line_after m expected) number

-- The first entry that breaks a rule, of rows of one length.
first_entry : (run : Run) → refuses (judge_any_of run) ≡ false → (froms tos : List ℕ) → length froms ≡ length tos → refuses (list_verdict_any run.head (stops_of run) froms tos) ≡ true
    → FirstBad (EntryIsBadAny run froms tos) (length froms) (first_bad_entry_any run.head (stops_of run) (list_of froms tos))
first_entry run passes froms tos even e = go (decides_list_any run (accepted_any run passes) froms tos)
  where
    go : Decides BadEntry (ListIsBadAny run froms tos) (list_verdict_any run.head (stops_of run) froms tos) → FirstBad (EntryIsBadAny run froms tos) (length froms) (first_bad_entry_any run.head (stops_of run) (list_of froms tos))
    go (refused p is h) =
        let place : p ≡ first_bad_entry_any run.head (stops_of run) (list_of froms tos) = sym (ap (λ v. v.place) is) ∙ (entry_bad run froms tos even e).0 in
        ⊎_elim (λ z. absurd (z.1 even)) (λ b. subst (FirstBad (EntryIsBadAny run froms tos) (length froms)) place b.1) h
    go (passed is n) = absurd (true≢false (sym e ∙ ap refuses is))

module _ (name : List ℕ) (run : Run) (passes : refuses (judge_any_of run) ≡ false) (plan froms tos : List ℕ) (even : length froms ≡ length tos) (list : List Detour) (best : LeastAny run list) where
  abbrev expected : List ℕ
  expected = plan_any_text name run froms tos

  abbrev own : List Detour
  own = list_of froms tos

  least_line_here : FormedFor run froms tos → LeastLine run own (least_line head_anywhere run froms tos list)
  unfolding least_line priced_any_answer
  least_line_here w =
      ⊎_elim
      (λ (e : same_list froms tos list ≡ true). rw e (least (subst (LeastAny run) (sym (list_same froms tos even list e)) best)))
      (λ (e : same_list froms tos list ≡ false).
      let other : LeastAny run own → ⊥ = λ l. true≢false (sym (same_list_lem froms tos even list (least_any_unique run.turn run.head (stops_of run) own list l best)) ∙ e) in
      let more : Larger run own ((priced_any_answer run own).sum - (priced_any_answer run list).sum) = record { least = list; is = best; sum = omega (arith, best.smallest own w) } in
      rw e (subst (LeastLine run own) (sym (append_assoc least_no (decimal ((priced_any_answer run own).sum - (priced_any_answer run list).sum)) (line_feed ∷ [])) ∙ append_assoc least_no (decimal ((priced_any_answer run own).sum - (priced_any_answer run list).sum)) (line_feed ∷ [])) (larger other more)))
      (true_or_false (same_list froms tos list))

  same_lines : is_text expected plan ≡ true → verdict_lines head_anywhere plan expected run froms tos list ≡ bytes "formed=yes\nwalk=yes\n" ++ least_line head_anywhere run froms tos list
  unfolding verdict_lines walk_line difference_lines
  same_lines e = rw e (append-nil _)

  other_lines : (n : ℕ) → (first_difference plan expected).line ≡ suc n → is_text expected plan ≡ false
      → verdict_lines head_anywhere plan expected run froms tos list
      ≡ bytes "formed=yes\nwalk=no," ++ decimal (suc n) ++ bytes "\n" ++ least_line head_anywhere run froms tos list
      ++ bytes "found=" ++ line_after n plan ++ bytes "\nexpected=" ++ line_after n expected ++ bytes "\n"
  unfolding verdict_lines walk_line difference_lines
  other_lines n is e =
      rw (e, found_line plan expected n is, expected_line plan expected n is, is)
      (regrouped formed_yes walk_no (decimal (suc n)) (line_feed ∷ []) (least_line head_anywhere run froms tos list) found_key (line_after n plan) expected_key (line_after n expected))

  formed_text_here : FormedFor run froms tos → VerdictText name run plan froms tos (verdict_lines head_anywhere plan expected run froms tos list)
  formed_text_here w =
      let obeys = is_formed_any run (accepted_any run passes) own w in
      ⊎_elim
      (λ (e : is_text expected plan ≡ true). subst (VerdictText name run plan froms tos) (sym (same_lines e)) (the_walk obeys (text_same expected plan e) (least_line_here w)))
      (λ (e : is_text expected plan ≡ false).
      let d = first_differs plan expected (λ q. true≢false (sym (same_text expected plan q) ∙ e)) in
      subst (VerdictText name run plan froms tos) (sym (other_lines d.before d.next e)) (another obeys (subst (FirstDiffers plan expected) d.next d) (least_line_here w)))
      (true_or_false (is_text expected plan))

  abbrev bad : ℕ
  bad = first_bad_entry_any run.head (stops_of run) own

  not_formed : eqb bad 0 ≡ false → refuses (list_verdict_any run.head (stops_of run) froms tos) ≡ true
  not_formed e =
      ⊎_elim (λ t. t)
      (λ (f : refuses (list_verdict_any run.head (stops_of run) froms tos) ≡ false). absurd (true≢false (sym (eq-eqb bad 0 (any_none run froms tos passes f)) ∙ e)))
      (true_or_false (refuses (list_verdict_any run.head (stops_of run) froms tos)))

  pub whole_text : VerdictText name run plan froms tos (check_text head_anywhere name run plan froms tos list)
  unfolding check_text
  whole_text =
      ⊎_elim
      (λ (e : eqb bad 0 ≡ true). rw e (formed_text_here (eqb-true bad 0 e)))
      (λ (e : eqb bad 0 ≡ false). rw e (unformed (first_entry run passes froms tos even (not_formed e))))
      (true_or_false (eqb bad 0))

pub check_prints_all : CheckPrintsAll
check_prints_all sheet plan row room n row' room' c wide e =
    let g = c.given in
    let v = g.answers.checked e in
    let few = check_fits (length room) sheet plan g.text g.answers in
    let good = check_passes (length room) sheet plan e in
    let whole = whole_text (sheet_name sheet) (sheet_run sheet) good.1 plan (plan_froms plan) (plan_tos plan) (even_plan plan) v.list v.least in
    subst (VerdictText (sheet_name sheet) (sheet_run sheet) plan (plan_froms plan) (plan_tos plan))
    (sym (put_whole g.text row n row' g.holds.bytes g.holds.left (omega (arith, few.0)) ∙ v.says)) whole
