use Rattle.std.proofs.Common.{ap, ◌∙◌}
use Rattle.tape_picks.specs.Private.{named_range}
use Rattle.tape_picks.proofs.Extents.{inside_place}
use Rattle.tape_picks.proofs.walk.met_file.Goals as goal

pub returns : goal.returns
returns c =
    record {
      after = c.read_file-read.result.next;
      walked = rw c.moved.ensures;
      left = c.read_file-read.ensures.1;
      range = c.named_range-range.ensures ∙ ap (λ f. named_range c.args.list.now c.args.starts.now c.args.ends.now c.args.order.now c.args.range f) (inside_place _ _ c.requires);
      file = c.read_file-read.ensures.0;
    }
