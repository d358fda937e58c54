-- What the probing for copies promises on lent arrays.
--
--   owner_of s o n R block t     the owner of the point of probe t
--   ProbesAnswered ..                   the probing is the rules', over these owners
use Rattle.std.specs.Prelude.{◌≡◌, List, ◌++◌, ℕ, ◌-◌, ◌≤◌, length, replicate}
use Rattle.lookup_core.specs.declared.ProbeAnswer.{ProbeAnswer}
use Rattle.lookup_core.specs.Halving.{owner_found, clamped}
use Rattle.lookup_core.specs.Probes.{point_of, choose}

abbrev pub owner_of : List ℕ → List ℕ → ℕ → ℕ → ℕ → ℕ → ℕ
owner_of s o n R block t = owner_found s o (clamped n) (point_of block t R)

pub record ProbesAnswered (s o : List ℕ) (n R block k : ℕ) (r : ProbeAnswer) : Type 0 where
  pub owners : r.owners ≡ (choose (owner_of s o n R block) k).owners ++ replicate (8 - r.found) 0
  pub found : r.found ≡ length (choose (owner_of s o n R block) k).owners
  pub probes : r.probes ≡ (choose (owner_of s o n R block) k).probes
  pub most : r.found ≤ k
