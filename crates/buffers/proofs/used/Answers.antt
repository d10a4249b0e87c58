-- `used` gives `used_of`, the smaller number; and that many are at the start.
use Rattle.std.proofs.Common.{◌≤◌, length, arith, sym, ◌∙◌}
use Rattle.buffers.proofs.Laws.{used_is_min}
use Rattle.buffers.proofs.used.Goals as goal
use lib.Seq.{length-take-le}

pub returns : goal.returns
returns g c =
    let least : c.min.result ≤ length c.args.buf.now = omega arith in
    record {
      same = c.min.ensures ∙ used_is_min c.args.n c.args.buf.now;
      counts = (least, sym (length-take-le _ c.args.buf.now least));
    }
