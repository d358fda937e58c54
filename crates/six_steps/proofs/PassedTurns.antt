-- Turns passed one by one by a loop that takes their moves, and the turns that are left.
--
--   moves_left turns t p i       the moves of the turns from i on, of t, the first of them at point p
--   moves_all turns t            the moves of all t turns
--   Passed turns t ms start i   of t turns, i were passed, up to the point `start`; ms are their moves
--
-- Passed: passed_none, passed_on (a turn that changes nothing), passed_more, passed_end; passed_points (those of a turn are no more than are
-- left), passed_length, passed_room (of one move more)
use mathlib.Core.Path.{◌≡◌, sym, ap, ◌∙◌}
use mathlib.Core.Bool.{cond}
use mathlib.Core.List.{List, [], ◌∷◌, ◌++◌, append_assoc, append-nil}
use Prim.Native.Nat.{ℕ, ◌+◌, ◌-◌, ◌/◌, ◌%◌, ◌≤◌, ◌<◌}
use native.Mathlib.Omega.{arith}
use native.Mathlib.Nat.{sub-zero}
use lib.Dec.{eqb}
use lib.ListN.{length, length-append}
use borrow.Author.Tests.{eq-eqb, ne_eqb}
use Rattle.slicing.specs.Runs.{total}
use Rattle.slicing.specs.SixSteps.{Move, move, moves_from}
use Rattle.slicing_core.specs.Rows.{at}
use Rattle.packed_runs.specs.Words.{runs, turns_of}
use Rattle.packed_runs.proofs.Words.{runs_step, runs_end}

abbrev moves_left : List ℕ → ℕ → ℕ → ℕ → List Move
moves_left turns t p i = moves_from p (turns_of turns i (t - i))

abbrev pub moves_all : List ℕ → ℕ → List Move
moves_all turns t = moves_from 0 (turns_of turns 0 t)

pub record Passed (turns : List ℕ) (t : ℕ) (ms : List Move) (start i : ℕ) : Type 0 where
  pub found : ms ++ moves_left turns t start i ≡ moves_all turns t
  pub points : start + total (runs turns i (t - i)) ≡ total (runs turns 0 t)

pub passed_none : (turns : List ℕ) (t : ℕ) → Passed turns t [] 0 0
passed_none turns t = record { found = rw sub-zero; points = rw sub-zero (omega arith) }

module _ {turns : List ℕ} {t : ℕ} {ms : List Move} {start i : ℕ} (w : Passed turns t ms start i) where
  pub passed_end : t ≤ i → ms ≡ moves_all turns t
  passed_end h =
      let none : moves_left turns t start i ≡ [] = rw (runs_end turns i t h) in
      sym (append-nil ms) ∙ sym (ap (λ later. ms ++ later) none) ∙ w.found

  pub passed_length : length ms + length (moves_left turns t start i) ≡ length (moves_all turns t)
  passed_length = omega (arith, length-append ms (moves_left turns t start i), ap length w.found)

  module _ (h : i < t) where
    abbrev size : ℕ
    size = at turns i / 65536

    abbrev turn : ℕ
    turn = at turns i % 65536

    abbrev later : List Move
    later = moves_left turns t (start + size) (i + 1)

    abbrev moved : Move
    moved = move start size (turn / 256) (turn % 256)

    left_step : moves_left turns t start i ≡ cond (eqb (turn / 256) (turn % 256)) later (moved ∷ later)
    left_step = rw (runs_step turns i t h)

    points_step : start + size + total (runs turns (i + 1) (t - (i + 1))) ≡ total (runs turns 0 t)
    points_step = omega (arith, w.points, ap total (runs_step turns i t h))

    pub passed_points : start + size ≤ total (runs turns 0 t)
    passed_points = omega (arith, points_step)

    pub passed_on : turn / 256 ≡ turn % 256 → Passed turns t ms (start + size) (i + 1)
    passed_on same =
        let e : moves_left turns t start i ≡ later = left_step ∙ rw (eq-eqb (turn / 256) (turn % 256) same) in
        record { found = sym (ap (λ left. ms ++ left) e) ∙ w.found; points = points_step }

    module _ (differ : turn / 256 ≡ turn % 256 → ⊥) where
      one_more : moves_left turns t start i ≡ moved ∷ later
      one_more = left_step ∙ rw (ne_eqb (turn / 256) (turn % 256) differ)

      pub passed_room : length ms + 1 ≤ length (moves_all turns t)
      passed_room = omega (arith, passed_length, ap length one_more)

      pub passed_more : Passed turns t (ms ++ (moved ∷ [])) (start + size) (i + 1)
      passed_more =
          record {
            found = append_assoc ms (moved ∷ []) later ∙ sym (ap (λ left. ms ++ left) one_more) ∙ w.found;
            points = points_step;
          }
