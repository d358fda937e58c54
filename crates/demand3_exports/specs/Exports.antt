-- Lists of the exported changes, for demand 3: a pool is the bytes of its image, and each call gets the image that the last accepted one
-- wrote.
--
--   Exported              a call with its buffers, and the number and the buffers that it left
--   image_after xs e       the image for the next call: what an accepted call wrote, else the one that there was
--   image_left xs es       the image after the calls
--   Kept xs es            each call got that image, from xs on, and kept its promise
--   step_of xs e           the call as a step of demand 3, as its buffers hold it
--   ledger_after b xs es   the ledger after the calls
use Rattle.std.specs.Prelude.{cond, List, [], ◌∷◌, map, ℕ, eqb, take}
use Rattle.slicing.specs.Changes.{Change}
use Rattle.slicing.specs.Ledger.{Ledger}
use Rattle.slicing_core.specs.Rows.{at}
use Rattle.flat_moves.specs.FlatMoves.{moves_in}
use Rattle.image_bytes.specs.RowBytes.{pool_in}
use Rattle.placement.specs.Promises.{row_of}
use Rattle.image_changes.specs.Promises.{Moved, Changed}
use Rattle.demand3.specs.CallLists.{Step, feed_step}

pub record Exported : Type 0 where
  pub change : Change
  -- the buffer for the new image, the list of moves and the places of the answer, as lent
  pub next : List ℕ
  pub list : List ℕ
  pub answer : List ℕ
  -- the number, and the three afterwards
  pub left : Moved

-- the first number of the answer is the length of the image written
abbrev pub image_after : List ℕ → Exported → List ℕ
image_after xs e = cond (eqb e.left.number 0) (take (at e.left.answer 0) e.left.image) xs

abbrev pub image_left : List ℕ → List Exported → List ℕ
image_left xs [] = xs
image_left xs (e ∷ es) = image_left (image_after xs e) es

-- `Changed` is the promise of gorvyts_add, _remove and _resize
abbrev pub Kept : List ℕ → List Exported → Type 0
Kept xs [] = Unit {0}
Kept xs (e ∷ es) = Changed xs e.change e.next e.list e.answer e.left × Kept (image_after xs e) es

-- 'the refusal number or 0, and the moves written': the moves of a list of numbers, the moved points and the number of moves of the
-- answer, and the pool whose arrays hold the rows of the image
abbrev pub step_of : List ℕ → Exported → Step
step_of xs e = record {
  change = e.change;
  lent = map row_of (moves_in e.list);
  answer = record {
    refusal = e.left.number;
    moved = at e.left.answer 1;
    count = at e.left.answer 2;
    pool = pool_in (image_after xs e);
  };
  after = map row_of (moves_in e.left.list);
}

abbrev pub ledger_after : Ledger → List ℕ → List Exported → Ledger
ledger_after b xs [] = b
ledger_after b xs (e ∷ es) = ledger_after (feed_step b (step_of xs e)) (image_after xs e) es
