use Rattle.std.proofs.Common.{rules}
use Rattle.text_lines.proofs.Passing.{never_bad}
use Rattle.sheet_reader.proofs.Rows.{filling_none₃, filled₃, triple_filled}
use Rattle.sheet_reader.proofs.reader.fill_triple.Goals as goal

pub loop-i-init : goal.loop-i-init
loop-i-init c = filling_none₃ _ _ _ _ _ _ _ c.requires

pub returns-in_default : goal.returns-in_default
returns-in_default c = absurd (never_bad _ _ _ _ _ _ c.loop-i.invariant.seen (search rules) c.requires.none c.in_default.ensures)

pub loop-i-preserved : goal.loop-i-preserved
loop-i-preserved c = triple_filled _ _ _ _ _ _ _ c.requires _ _ _ _ _ c.loop-i.invariant (search rules) _ _ _ _ c.in-Some.ensures

pub returns : goal.returns
returns c = let all = filled₃ _ _ _ _ _ _ _ c.requires _ _ _ _ _ c.loop-i.invariant (search rules) in record { firsts_after = all.0; seconds_after = all.1.0; thirds_after = all.1.1 }
