-- What a call on lent places leaves.
--
--   Answer        the refusal number or 0, and the places of the answer afterwards
--   zeros k a     the first k places 0, the others as they were
use Rattle.std.specs.Prelude.{List, ◌++◌, ℕ, drop, replicate}

pub record Answer : Type 0 where
  pub number : ℕ
  pub places : List ℕ

-- 'one refusal number of document 01 with zeros'
abbrev pub zeros : ℕ → List ℕ → List ℕ
zeros k a = replicate k 0 ++ drop k a
