-- Key, pair and comma, one behind the other.
use Rattle.sheet_picks.proofs.Laying.{head_put}
use Rattle.sheet_picks.proofs.names.put_head.Goals as goal

pub returns : goal.returns
returns c =
    head_put _ _ c.requires c.put-pair_at.ensures c.put_pair-comma_at.ensures c.put.ensures
