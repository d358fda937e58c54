-- The loop of `write_moves`: what it keeps, and its steps.
--
--   Listed turns t names lent list count start i     of t turns, i were passed; their moves, so many, stand in front of the list,
--                                                    and behind them what was lent; turn i begins at point `start`
--
-- Listed: listed_on (a turn that changes nothing), listed_more; listed_size (the list's length stays), listed_room (for one move more)
use mathlib.Core.Path.{◌≡◌, ap, ◌∙◌}
use mathlib.Core.List.{List, [], ◌∷◌, ◌++◌, map, append_assoc, map-append}
use Prim.Native.Nat.{ℕ, ◌+◌, ◌*◌, ◌/◌, ◌%◌, ◌≤◌, ◌<◌}
use native.Mathlib.Omega.{arith}
use lib.ListN.{length, take, drop, length-append, length-map, length-drop}
use lib.Seq.{take_at}
use Rattle.std.proofs.lemmas.Slice.{drop-append-drop}
use Rattle.slicing.specs.SixSteps.{Move}
use Rattle.slicing_core.specs.Rows.{at}
use Rattle.six_steps.proofs.PassedTurns.{moves_all, Passed, passed_on, passed_more, passed_length, passed_room}
use Rattle.six_steps.proofs.Renaming.{move_as}
use Rattle.flat_moves.specs.FlatMoves.{flat}
use Rattle.flat_moves.proofs.FlatLists.{flat_append, length_flat}

-- the numbers of moves, by the ids that name the rows
abbrev numbers_of : List ℕ → List Move → List ℕ
numbers_of names ms = flat (map (move_as (at names)) ms)

pub record Listed (turns : List ℕ) (t : ℕ) (names lent list : List ℕ) (count start i : ℕ) : Type 0 where
  pub moves : List Move
  pub passed : Passed turns t moves start i
  pub counted : length moves ≡ count
  pub written : list ≡ numbers_of names moves ++ drop (4 * count) lent

module _ {turns : List ℕ} {t : ℕ} {names lent list : List ℕ} {count start i : ℕ} (w : Listed turns t names lent list count start i) where
  front : length (numbers_of names w.moves) ≡ 4 * count
  front = omega (arith, length_flat (map (move_as (at names)) w.moves), length-map w.moves (move_as (at names)), w.counted)

  pub listed_size : 4 * length (moves_all turns t) ≤ length lent → length list ≡ length lent
  listed_size fits =
      omega (
        arith,
        ap length w.written,
        length-append (numbers_of names w.moves) (drop (4 * count) lent),
        front,
        length-drop (4 * count) lent,
        passed_length w.passed,
        w.counted,
      )

  module _ (h : i < t) where
    abbrev size : ℕ
    size = at turns i / 65536

    abbrev turn : ℕ
    turn = at turns i % 65536

    pub listed_on : turn / 256 ≡ turn % 256 → Listed turns t names lent list count (start + size) (i + 1)
    listed_on same = record { moves = _; passed = passed_on w.passed h same; counted = w.counted; written = w.written }

    module _ (differ : turn / 256 ≡ turn % 256 → ⊥) where
      pub listed_room : 4 * length (moves_all turns t) ≤ length lent → 4 * count + 4 ≤ length list
      listed_room fits = omega (arith, listed_size fits, passed_room w.passed h differ, w.counted)

      pub listed_more : {after : List ℕ}
          → after ≡ take (4 * count) list ++ (start ∷ size ∷ at names (turn / 256) ∷ at names (turn % 256) ∷ []) ++ drop (4 * count + 4) list
          → Listed turns t names lent after (count + 1) (start + size) (i + 1)
      listed_more e =
          let four : 4 * (count + 1) ≡ 4 * count + 4 = omega arith in
          record {
            moves = _;
            passed = passed_more w.passed h differ;
            counted = length-append w.moves (_ ∷ []) ∙ ap (λ n. n + 1) w.counted;
            written =
                e ∙ rw (w.written, take_at _ _ (4 * count) front, drop-append-drop (4 * count) lent _ (4 * count + 4) (omega arith) front, four, map-append, flat_append, append_assoc);
          }
