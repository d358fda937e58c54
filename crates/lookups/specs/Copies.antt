-- The copies of a block as the rules have them. Renders document 01, 'Points and copies' and the rows of 'Where a call stops'
-- that concern them.
--
--   Outcome           the refusal number or 0, eight places, the probes made
--   copies_of o n k    the outcome for k copies where n devices are present and o t owns the point of probe t
use Rattle.std.specs.Prelude.{cond, List, ◌++◌, ℕ, ◌-◌, eqb, ltb, length, replicate}
use Rattle.slicing.specs.Limits.{outside}
use Rattle.lookup_core.specs.Probes.{Chosen, choose, max_probes}

pub record Outcome : Type 0 where
  pub number : ℕ
  pub owners : List ℕ
  pub probes : ℕ

-- 'Each returns its number and zeros, except that 12 returns 256 tries.'
abbrev pub refusal : ℕ → ℕ → Outcome
refusal x n = record { number = x; owners = replicate 8 0; probes = n }

-- 'The answer is eight places, the owners in that order and then zeros, and the count of tries that it made.'
abbrev pub answer : Chosen → Outcome
answer c = record { number = 0; owners = c.owners ++ replicate (8 - length c.owners) 0; probes = c.probes }

abbrev pub copies_of : (ℕ → ℕ) → ℕ → ℕ → Outcome
copies_of o n k =
    cond (outside 8 k) (refusal 11 0)
    (cond (eqb n 0) (refusal 10 0)
    (cond (ltb (length (choose o k).owners) k) (refusal 12 max_probes)
    (answer (choose o k))))
