use Rattle.std.proofs.Common.{ℕ, arith, ◌∙◌}
use Rattle.std.proofs.Math.Seq.{length-take-le}
use Rattle.std.proofs.Math.ListN.{length-replicate}
use Rattle.answer_desk.proofs.Rehearsing.{rehearsed}
use Rattle.answer_desk.proofs.rehearse.Goals as goal

pub returns : goal.returns
returns c =
    rehearsed _ _ c.args.day c.args.boarding _ _ c.board_now-told.result _ _ c.args.words c.board_now-told.ensures
    (length-take-le c.min-n.result c.empty_room-room.result (omega arith) ∙ c.min-n.ensures) (length-replicate {A = ℕ} 2677 0)
