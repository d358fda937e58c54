-- The loop of `new_table`: what it keeps, and its step.
--
--   Joined turns t table count i      of t turns, i were passed; the table holds their new owners in so many coalesced runs
--
-- Joined: joined_push (what `push` asks), joined_step, joined_end
use mathlib.Core.Path.{◌≡◌, refl, sym, ap, ◌∙◌}
use mathlib.Core.List.{List, [], ◌++◌, append_assoc, append-nil}
use Prim.Native.Nat.{ℕ, ◌+◌, ◌-◌, ◌/◌, ◌%◌, ◌^◌, ◌≤◌, ◌<◌, min}
use native.Mathlib.Omega.{arith}
use lib.Dec.{eqb}
use lib.ListN.{length, replicate, length-append}
use borrow.Author.Tests.{eqb-true, eq-eqb}
use Rattle.slicing.specs.Runs.{Run, total, expand, relabel, coalesce, Coalesced}
use Rattle.slicing.specs.SixSteps.{new}
use Rattle.slicing.proofs.Runs.{length_expand, total_relabel, coalesce_unique}
use Rattle.slicing_core.specs.Rows.{at}
use Rattle.packed_runs.specs.Words.{room, runs, turns_of}
use Rattle.packed_runs.specs.Stages.{Held, Pushed}
use Rattle.packed_runs.proofs.Words.{runs_step, runs_end}

-- the new owners of the turns from i on
abbrev owners_left : List ℕ → ℕ → ℕ → List (Run ℕ)
owners_left turns t i = relabel new (turns_of turns i (t - i))

pub record Joined (turns : List ℕ) (t : ℕ) (table : List ℕ) (count i : ℕ) : Type 0 where
  pub passed : i ≤ t
  pub few : count ≤ i
  pub size : length table ≡ room
  pub coalesced : Coalesced eqb (runs table 0 count)
  pub points : expand (runs table 0 count) ++ expand (owners_left turns t i) ≡ expand (relabel new (turns_of turns 0 t))

module _ {turns : List ℕ} {t : ℕ} {table : List ℕ} {count i : ℕ} (j : Joined turns t table count i) where
  pub joined_end : t ≤ i → runs table 0 count ≡ coalesce eqb (relabel new (turns_of turns 0 t))
  joined_end h =
      let e : owners_left turns t i ≡ [] = rw (runs_end turns i t h) in
      sym (coalesce_unique eqb eqb-true (λ x. eq-eqb x x refl) (relabel new (turns_of turns 0 t)) (runs table 0 count) j.coalesced
      (sym (rw e at j.points) ∙ append-nil (expand (runs table 0 count))))

  module _ (h : i < t) where
    pub joined_push : (x : ℕ) → x < 65536 → t ≤ room → total (runs turns 0 t) < 2 ^ 48
        → Held table count (min 1 (at turns i / 65536)) × (total (runs table 0 count) + at turns i / 65536 < 2 ^ 48) × (x < 65536)
    joined_push x l b s = (
      record { size = j.size; fits = omega (arith, j.few); coalesced = j.coalesced },
      omega (arith, simp (length-append, length_expand, total_relabel) at (ap length j.points), ap total (runs_step turns i t h)),
      l,
    )

    pub joined_step : {table' : List ℕ} {count' : ℕ} → Pushed table count (at turns i / 65536) (at turns i % 65536 % 256) table' count'
        → Joined turns t table' count' (i + 1)
    joined_step {table'} {count'} p = record {
      passed = omega arith;
      few = omega (arith, p.most, j.few);
      size = p.size;
      coalesced = p.coalesced;
      points =
          rw (p.points, append_assoc (expand (runs table 0 count)) (replicate (at turns i / 65536) (at turns i % 65536 % 256)) (expand (owners_left turns t (i + 1))))
          (rw (runs_step turns i t h) at j.points);
    }
