-- `run_event` is `runs_of`: the same test, and then the run or the runs.
use Rattle.replaying.proofs.EventLaws.{units_run_law, idle_run}
use Rattle.replaying.proofs.run_event.Goals as goal

pub returns-in-Ok : goal.returns-in-Ok
returns-in-Ok c = units_run_law _ _ c.if-e-lt-IDLE_MARK.true c.in-Ok.ensures

pub returns-in-Err : goal.returns-in-Err
returns-in-Err c = units_run_law _ _ c.if-e-lt-IDLE_MARK.true c.in-Err.ensures

pub returns : goal.returns
returns c = idle_run _ _ c.if-e-lt-IDLE_MARK.false c.finish.ensures
