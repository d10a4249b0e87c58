-- `run` refuses an unsound set and a wrong length, in this order, and else runs.
use Rattle.std.proofs.lemmas.Result.{err_from_is_err_and}
use Rattle.units.proofs.RunLaws.{run_refuses, run_runs}
use Rattle.units.proofs.run.Goals as goal

pub returns-in_err-accepted : goal.returns-in_err-accepted
returns-in_err-accepted c =
    let p = err_from_is_err_and c.from_residual.result c.from_residual.ensures.1 in
    rw (p.1, p.2) (run_refuses _ _ c.in_err-accepted.ensures)

pub returns : goal.returns
returns c = run_runs _ _ c.in_ok-accepted.ensures c.run_on.ensures
