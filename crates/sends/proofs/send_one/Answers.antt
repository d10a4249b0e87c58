-- `send_one` is the list of one entry: what its port answers, and, where it takes it, the run from there.
use mathlib.Core.Path.{refl}
use Rattle.ports.proofs.AnsweredLaws.{refusal_some}
use Rattle.units.proofs.RunLaws.{told_ran}
use Rattle.sends.proofs.SendLaws.{sent_not, sent_one}
use Rattle.sends.proofs.send_one.Goals as goal

pub returns-in-Err : goal.returns-in-Err
returns-in-Err c = rw c.number.ensures (sent_not _ _ c.in-Err.ensures (refusal_some _))

pub returns : goal.returns
returns c = sent_one _ _ c.in-Ok.ensures refl (told_ran c.told-q.ensures c.run.ensures)
