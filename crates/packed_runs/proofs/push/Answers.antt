-- `packed_runs::push` meets its contract: the returns that write are the laws of Pushed.
use Prim.Native.Nat.{◌-◌}
use native.Mathlib.Omega.{arith}
use Rattle.packed_runs.proofs.Words.{at_total}
use Rattle.packed_runs.proofs.Pushing.{pushed_more, pushed_put}
use Rattle.packed_runs.proofs.push.Goals as goal
use Rattle.packed_runs.proofs.push.Goals.{else-n-gt0-via-then-n-gt0+else-into-n, else-n-gt0-via-else-n-gt0}

pub overflow_add-into : goal.overflow_add-into
overflow_add-into c =
    let a = c.args in
    omega (arith, at_total a.into.now 0 a.n (a.n - 1) (omega arith) (omega arith), c.requires.1)

pub returns-then-into-n : goal.returns-then-into-n
returns-then-into-n c =
    pushed_more _ _ _ _ c.requires.0 (omega (arith, c.if-n-gt0.true)) c.if-into-n.true

pub returns : goal.returns
returns c =
    pushed_put _ _ _ _ c.requires.0 (omega (arith, c.if-size-eq0.false)) c.requires.2
    (elim c.else-n-gt0.branch [
      | else-n-gt0-via-then-n-gt0+else-into-n w ↦ λ _ e. w.if-into-n.false e
      | else-n-gt0-via-else-n-gt0 w ↦ λ l _. absurd (omega arith)
    ])
