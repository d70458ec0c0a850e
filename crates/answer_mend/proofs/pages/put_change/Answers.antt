use Rattle.answer_mend.proofs.Texts.{change_put}
use Rattle.answer_mend.proofs.pages.put_change.Goals as goal

pub returns : goal.returns
returns c =
    change_put _ _ _ c.args.word.now _ _ _ _ _ _ c.requires.word_len_bound c.requires.at_in_bounds c.put-number_at.ensures c.put_number-word_at.ensures c.put_line.ensures
