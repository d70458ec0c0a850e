-- The four lines above, then the want lines.
use borrow.Author.Rules.{rules}
use native.Mathlib.Omega.{arith}
use Rattle.answer_mend.proofs.Texts.{above_few, room₂, room₃, room₄, fates_room, changes_put}
use Rattle.answer_mend.proofs.pages.put_changes.Goals as goal

pub overflow_add-above : goal.overflow_add-above
overflow_add-above c =
    let few = above_few c.args.page.now _ _ _ _ _ c.requires.writable c.requires.page_len in search rules

pub put_if-rule_at-requires-clause-at_in_bounds : goal.put_if-rule_at-requires-clause-at_in_bounds
put_if-rule_at-requires-clause-at_in_bounds c = omega (arith, c.requires.page_len)

pub put_if-files_at-requires-clause-at_in_bounds : goal.put_if-files_at-requires-clause-at_in_bounds
put_if-files_at-requires-clause-at_in_bounds c =
    room₂ c.args.page.now _ _ _ _ _ c.requires.writable c.requires.page_len c.put_if-rule_at.ensures c.put_if-rule_at.auto.page

pub put_if-wants_at-requires-clause-at_in_bounds : goal.put_if-wants_at-requires-clause-at_in_bounds
put_if-wants_at-requires-clause-at_in_bounds c =
    room₃ c.args.page.now _ _ _ _ _ c.requires.writable c.requires.page_len c.put_if-rule_at.ensures c.put_if-rule_at.auto.page c.put_if-files_at.ensures c.put_if-files_at.auto.page

pub put_if-fates_at-requires-clause-at_in_bounds : goal.put_if-fates_at-requires-clause-at_in_bounds
put_if-fates_at-requires-clause-at_in_bounds c =
    room₄ c.args.page.now _ _ _ _ _ c.requires.writable c.requires.page_len c.put_if-rule_at.ensures c.put_if-rule_at.auto.page c.put_if-files_at.ensures c.put_if-files_at.auto.page
    c.put_if-wants_at.ensures c.put_if-wants_at.auto.page

pub put_fates-requires : goal.put_fates-requires
put_fates-requires c =
    let room = fates_room c.args.page.now _ _ _ _ _ c.requires.writable c.requires.page_len c.put_if-rule_at.ensures c.put_if-rule_at.auto.page c.put_if-files_at.ensures c.put_if-files_at.auto.page
    c.put_if-wants_at.ensures c.put_if-wants_at.auto.page c.put_if-fates_at.ensures c.put_if-fates_at.auto.page in
    record { wanted_len = room.0; above_bound = room.1.0; wanted_in_bounds = room.1.1 }

pub returns : goal.returns
returns c =
    changes_put c.args.page.now _ _ _ _ _ c.requires.writable c.requires.page_len c.put_if-rule_at.ensures c.put_if-rule_at.auto.page c.put_if-files_at.ensures c.put_if-files_at.auto.page
    c.put_if-wants_at.ensures c.put_if-wants_at.auto.page c.put_if-fates_at.ensures c.put_if-fates_at.auto.page c.put_fates.ensures
