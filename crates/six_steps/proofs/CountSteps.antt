-- The moves of turns, counted.
--
--   moved w      whether the turn in the run w changes its owner
--
-- moved: count_turns (the turns that do are the moves)
use mathlib.Core.Path.{◌≡◌, refl}
use mathlib.Core.Bool.{Bool, true, false, cond, not}
use mathlib.Core.List.{List, ◌∷◌}
use Prim.Native.Nat.{ℕ, zero, suc, ◌+◌, ◌/◌, ◌%◌, ◌≤◌, ◌<◌}
use native.Mathlib.Omega.{arith}
use lib.Dec.{eqb}
use lib.ListN.{length, take, drop}
use lib.Seq.{drop-cons}
use Rattle.std.specs.List.{count_by}
use Rattle.std.proofs.lemmas.List.Sums.{sum_by-cons}
use Rattle.slicing.specs.SixSteps.{Move, move, moves_from}
use Rattle.slicing_core.specs.Rows.{at}
use Rattle.packed_runs.specs.Words.{turns_of}

abbrev pub moved : ℕ → Bool
moved w = not (eqb (w % 65536 / 256) (w % 65536 % 256))

-- of n turns from place i on, the first of them at point p
count_left : (turns : List ℕ) (i n p : ℕ) → i + n ≤ length turns → count_by moved (take n (drop i turns)) ≡ length (moves_from p (turns_of turns i n))
count_left turns i zero p h = refl
count_left turns i (suc n) p h =
    let b : i < length turns = omega arith in
    rw (
      drop-cons turns i 0,
      sum_by-cons (λ w. cond (moved w) 1 0) (at turns i) (take n (drop (suc i) turns)),
      count_left turns (suc i) n (p + at turns i / 65536) (omega arith),
    )
    (go (eqb (at turns i % 65536 / 256) (at turns i % 65536 % 256)))
  where
    later : List Move
    later = moves_from (p + at turns i / 65536) (turns_of turns (suc i) n)

    go : (same : Bool) → cond (not same) 1 0 + length later
        ≡ length (cond same later (move p (at turns i / 65536) (at turns i % 65536 / 256) (at turns i % 65536 % 256) ∷ later))
    go true = omega arith
    go false = omega arith

pub count_turns : (turns : List ℕ) (t : ℕ) → t ≤ length turns → count_by moved (take t turns) ≡ length (moves_from 0 (turns_of turns 0 t))
count_turns turns t h = count_left turns 0 t 0 (omega arith)
