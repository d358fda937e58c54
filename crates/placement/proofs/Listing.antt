-- The loop of `write_moves`: what it keeps, and its steps.
--
--   rows_by names ms                                  the moves ms as rows of the list, their owners named
--   Listed turns t names lent list count start i      of t turns, i were passed; their moves, so many, stand in front of the list,
--                                                     and behind them what was lent; turn i begins at point `start`
--
-- a list: put_back
-- Listed: listed_none, listed_as (of an equal list), listed_on (a turn that changes nothing), listed_more, listed_end;
-- listed_size (the list's length stays), listed_room (for one move more), listed_points (of a turn, which are no more than are left)
use mathlib.Core.Path.{◌≡◌, refl, sym, ap, ◌∙◌}
use mathlib.Core.List.{List, [], ◌∷◌, ◌++◌, map, map-append, append_assoc}
use Prim.Native.Nat.{ℕ, ◌+◌, ◌/◌, ◌%◌, ◌≤◌, ◌<◌}
use native.Mathlib.Omega.{arith}
use native.Mathlib.Numerals.{add-one}
use lib.ListN.{length, drop, set, get_or, length-append, length-map, length-drop}
use lib.Seq.{take_at, set_split}
use Rattle.std.proofs.lemmas.List.{set-get_or}
use Rattle.std.proofs.lemmas.Slice.{drop-append-drop}
use Rattle.slicing.specs.Runs.{total}
use Rattle.slicing.specs.SixSteps as Rules
use Rattle.slicing_core.specs.Rows.{at}
use Rattle.packed_runs.specs.Words.{runs}
use Rattle.six_steps.proofs.PassedTurns.{moves_all, Passed, passed_none, passed_on, passed_more, passed_end, passed_points, passed_length, passed_room}
use Rattle.six_steps.proofs.Renaming.{move_as}
use Rattle.placement.specs.Promises.{row_of}
use Rattle.placement.specs.declared.Move.{Move}

abbrev rows_by : List ℕ → List Rules.Move → List Move
rows_by names ms = map row_of (map (move_as (at names)) ms)

-- one row more behind n of them
set_next : (xs lent : List Move) (n : ℕ) (row : Move) → length xs ≡ n → n < length (xs ++ drop n lent)
    → set (xs ++ drop n lent) n row ≡ xs ++ row ∷ drop (n + 1) lent
set_next xs lent n row e h =
    set_split (xs ++ drop n lent) n row h
    ∙ rw (take_at xs (drop n lent) n e, ← add-one n, drop-append-drop n lent xs (n + 1) (omega arith) e)

pub record Listed (turns : List ℕ) (t : ℕ) (names : List ℕ) (lent list : List Move) (count start i : ℕ) : Type 0 where
  pub moves : List Rules.Move
  pub passed : Passed turns t moves start i
  pub counted : length moves ≡ count
  pub written : list ≡ rows_by names moves ++ drop count lent

pub listed_none : (turns : List ℕ) (t : ℕ) (names : List ℕ) (lent : List Move) → Listed turns t names lent lent 0 0 0
listed_none turns t names lent = record { moves = []; passed = passed_none turns t; counted = refl; written = refl }

-- a move put back where it stands
pub put_back : (list : List Move) (i : ℕ) (d : Move)
    → set list i (record { start = (get_or list i d).start; length = (get_or list i d).length; from = (get_or list i d).from; to = (get_or list i d).to }) ≡ list
put_back list i d = set-get_or list i d

pub listed_as : {turns : List ℕ} {t : ℕ} {names : List ℕ} {lent list list' : List Move} {count start i : ℕ} → list' ≡ list
    → Listed turns t names lent list count start i → Listed turns t names lent list' count start i
listed_as e w = rw e w

module _ {turns : List ℕ} {t : ℕ} {names : List ℕ} {lent list : List Move} {count start i : ℕ} (w : Listed turns t names lent list count start i) where
  front : length (rows_by names w.moves) ≡ count
  front = length-map (map (move_as (at names)) w.moves) row_of ∙ length-map w.moves (move_as (at names)) ∙ w.counted

  pub listed_end : t ≤ i → list ≡ rows_by names (moves_all turns t) ++ drop (length (moves_all turns t)) lent
  listed_end h =
      w.written ∙ ap (λ n. rows_by names w.moves ++ drop n lent) (sym w.counted)
      ∙ ap (λ ms. rows_by names ms ++ drop (length ms) lent) (passed_end w.passed h)

  pub listed_size : length (moves_all turns t) ≤ length lent → length list ≡ length lent
  listed_size fits =
      omega (
        arith,
        ap length w.written,
        length-append (rows_by names w.moves) (drop count lent),
        front,
        length-drop count lent,
        passed_length w.passed,
        w.counted,
      )

  module _ (h : i < t) where
    abbrev size : ℕ
    size = at turns i / 65536

    abbrev turn : ℕ
    turn = at turns i % 65536

    pub listed_points : start + size ≤ total (runs turns 0 t)
    listed_points = passed_points w.passed h

    pub listed_on : turn / 256 ≡ turn % 256 → Listed turns t names lent list count (start + size) (i + 1)
    listed_on same = record { moves = _; passed = passed_on w.passed h same; counted = w.counted; written = w.written }

    abbrev row : Move
    row = record { start = start; length = size; from = at names (turn / 256); to = at names (turn % 256) }

    module _ (differ : turn / 256 ≡ turn % 256 → ⊥) (fits : length (moves_all turns t) ≤ length lent) where
      pub listed_room : count < length list
      listed_room = omega (arith, listed_size fits, passed_room w.passed h differ, w.counted)

      pub listed_more : Listed turns t names lent (set list count row) (count + 1) (start + size) (i + 1)
      listed_more =
          record {
            moves = _;
            passed = passed_more w.passed h differ;
            counted = length-append w.moves (_ ∷ []) ∙ ap (λ n. n + 1) w.counted;
            written =
                ap (λ (l : List Move). set l count row) w.written
                ∙ set_next (rows_by names w.moves) lent count row front (omega (arith, listed_room, ap length w.written))
                ∙ sym (rw (map-append, map-append, append_assoc));
          }
