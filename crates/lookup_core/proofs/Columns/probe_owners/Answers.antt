-- `lookup_core::Columns::probe_owners` meets its contract. The loop's invariant: the owners chosen stand in the list, then zeros, and the probing
-- from probe `t` on is the whole probing.
use mathlib.Core.Path.{◌≡◌, sym, ap, ◌∙◌}
use mathlib.Core.List.{List}
use Prim.Native.Nat.{ℕ}
use Rattle.lookup_core.specs.Halving.{owner_found, clamped}
use Rattle.lookup_core.specs.Probes.{point_of}
use Rattle.lookup_core.specs.Probing.{owner_of}
use Rattle.lookup_core.proofs.ProbeSteps.{probing_start, probing_again, probing_more, probing_last, probing_end}
use Rattle.lookup_core.proofs.Columns.probe_owners.Goals as goal
use Rattle.lookup_core.proofs.Columns.probe_owners.Goals.{then-not-chosen+else-found-k, else-not-chosen}

-- the owner that was found is that of probe t
probed : (s o : List ℕ) (n R block t : ℕ) {p d : ℕ} → d ≡ owner_found s o (clamped n) p → p ≡ point_of block t R → d ≡ owner_of s o n R block t
probed s o n R block t e q = e ∙ ap (owner_found s o (clamped n)) q

pub loop-t-init : goal.loop-t-init
loop-t-init c =
    probing_start _ _ _ _ _ _ c.requires.0 c.requires.1

pub returns-then-found-k : goal.returns-then-found-k
returns-then-found-k c =
    probing_last _ _ _ _ _ _ _ _ _ c.loop-t.invariant _ (probed _ _ _ _ _ _ c.owner_found-owner.ensures.value c.probe_point.ensures)
    c.loop-t-test.true (sym c.chosen.ensures ∙ c.if-not-chosen.true) c.if-found-k.true

pub loop-t-preserved : goal.loop-t-preserved
loop-t-preserved c =
    elim c.if-not-chosen.branch [
      | then-not-chosen+else-found-k w ↦
          rw (w.list-is, w.found-is)
          (probing_more _ _ _ _ _ _ _ _ _ c.loop-t.invariant _ (probed _ _ _ _ _ _ c.owner_found-owner.ensures.value c.probe_point.ensures)
          c.loop-t-test.true (sym c.chosen.ensures ∙ w.if-not-chosen.true) w.if-found-k.false)
      | else-not-chosen w ↦
          rw (w.list-is, w.found-is)
          (probing_again _ _ _ _ _ _ _ _ _ c.loop-t.invariant _ (probed _ _ _ _ _ _ c.owner_found-owner.ensures.value c.probe_point.ensures)
          c.loop-t-test.true (sym c.chosen.ensures ∙ w.if-not-chosen.false))
    ]

pub returns : goal.returns
returns c =
    probing_end _ _ _ _ _ _ _ _ _ c.loop-t.invariant c.loop-t-test.false
