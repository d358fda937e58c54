-- `slicing_core::devices::rising` meets its contract. The loop's invariant: the rows left rise from `last` on exactly if all rows rise.
use mathlib.Core.Path.{sym, ◌∙◌}
use mathlib.Core.Bool.{true≢false}
use native.Mathlib.Omega.{arith}
use Rattle.slicing.specs.Limits.{max_capacity}
use Rattle.slicing.proofs.Limits.{outside_false, within_limits}
use Rattle.slicing_core.proofs.DeviceRows.{rising_row, row_rising}
use Rattle.slicing_core.proofs.devices.rising.Goals as goal
use Rattle.slicing_core.proofs.devices.rising.Goals.{then-id-last-via-then-id-last, then-id-last-via-else-id-last+then-id-gt-MAX_ID, then-id-last-via-else-id-last+else-id-gt-MAX_ID+then-outside}

pub returns-then-id-last : goal.returns-then-id-last
returns-then-id-last c h =
    let args = c.args in
    let pass = c.loop-i in
    let row = rising_row pass.last args.ids.now args.capacities.now pass.i args.n c.loop-i-test.true (pass.invariant.1 h) in
    elim c.then-id-last.branch [
      | then-id-last-via-then-id-last w ↦ omega (arith, row.0.above)
      | then-id-last-via-else-id-last+then-id-gt-MAX_ID w ↦ omega (arith, row.0.known)
      | then-id-last-via-else-id-last+else-id-gt-MAX_ID+then-outside w ↦
          true≢false (sym w.if-outside.true ∙ w.outside.ensures ∙ within_limits max_capacity _ row.0.some row.0.most)
    ]

pub loop-i-preserved : goal.loop-i-preserved
loop-i-preserved c =
    let args = c.args in
    let pass = c.loop-i in
    let l = c.loop-i-test.true in
    let sized = outside_false max_capacity _ (sym c.outside.ensures ∙ c.if-outside.false) in (
      λ h. pass.invariant.0 (row_rising _ _ _ _ _ l
          (record { above = c.if-id-last.false; known = c.if-id-gt-MAX_ID.false; some = sized.0; most = sized.1 }) h),
      λ h. (rising_row pass.last args.ids.now args.capacities.now pass.i args.n l (pass.invariant.1 h)).1,
    )
