-- Demand 3 of a list of exported changes, on what the calls answered and left in their buffers.
--
--   Opening R M xs b        the image xs was written by an accepted call for a fresh pool, or was accepted by a check; the ledger begins as b
--   Claim R xs b e          what holds of one call: xs the image and b the ledger before it
--   ExportedDemand3 R M xs b es    what holds of the list es, from the image xs and the ledger b on
use Rattle.std.specs.Prelude.{◌≡◌, List, [], ◌∷◌, ◌++◌, ℕ, ◌*◌, ◌≤◌, ◌<◌, length, take, drop}
use Rattle.slicing.specs.Changes.{change}
use Rattle.slicing.specs.Ledger.{Ledger, blank}
use Rattle.slicing_core.specs.Rows.{at}
use Rattle.flat_moves.specs.FlatMoves.{moves_in}
use Rattle.image_numbers.specs.Format.{image_of, range_in, limit_in, state_in, Image}
use Rattle.image_bytes.specs.RowBytes.{pool_in}
use Rattle.image_making.specs.Promises.{Stored, FreshStored, Checked}
use Rattle.demand3.specs.CallLists.{feed_step}
use Rattle.demand3.specs.Demand3.{Agreement}
use Rattle.demand3.specs.Demand3 as Calls
use Rattle.demand3.specs.ImageLedger.{ledger_in}
use Rattle.demand3_exports.specs.Exports.{Exported, image_after, step_of}

-- 'The list starts from a fresh pool of any R and M, or from one with the R, M, devices and intervals listed in an image that the
-- image read accepts.'
pub data Opening : ℕ → ℕ → List ℕ → Ledger → Type 0 where
  fresh_image : {R M : ℕ} (buffer answer : List ℕ) (r : Stored) → FreshStored R M buffer answer r → r.number ≡ 0
      → Opening R M (take (at r.answer 0) r.image) blank
  checked_image : {xs : List ℕ} {r : ℕ} → Checked xs r → r ≡ 0 → Opening (range_in xs) (limit_in xs) xs (ledger_in xs)

-- one call e: xs the image and b the ledger before it
pub record Claim (R : ℕ) (xs : List ℕ) (b : Ledger) (e : Exported) : Type 0 where
  -- any number but 17: demand 3's claim, on the numbers in the buffers
  pub claim : (e.left.number ≡ 17 → ⊥) → Calls.Claim R (pool_in xs) b (feed_step b (step_of xs e)) (step_of xs e)
  -- 17: fewer than three places for the answer, or the rules accept the change and the new image does not fit
  pub few : length e.answer < 3 → e.left.number ≡ 17
  pub short : 3 ≤ length e.answer → e.left.number ≡ 17
      → let o = change (state_in xs) (moves_in e.list) e.change in (o.number ≡ 0) × (length e.next < length (image_of o.state))
  -- 'Pool and buffers keep every value', 'its number and zeros'
  pub image : 1 ≤ e.left.number → e.left.image ≡ e.next
  pub list : 1 ≤ e.left.number → e.left.list ≡ e.list
  pub zeros : 1 ≤ e.left.number → 3 ≤ length e.answer → e.left.answer ≡ 0 ∷ 0 ∷ 0 ∷ drop 3 e.answer
  pub no_places : length e.answer < 3 → e.left.answer ≡ e.answer
  -- accepted: the image written and its length; 'Bytes past a written image stay', 'List places after them stay'
  pub stored : e.left.number ≡ 0 → at e.left.answer 0 ≡ length (image_after xs e)
  pub fits : e.left.number ≡ 0 → length (image_after xs e) ≤ length e.next
  pub rest : e.left.number ≡ 0 → e.left.image ≡ image_after xs e ++ drop (length (image_after xs e)) e.next
  pub list_rest : e.left.number ≡ 0
      → drop (4 * at e.left.answer 2) e.left.list ≡ drop (4 * at e.left.answer 2) e.list
  pub answer_rest : e.left.number ≡ 0 → drop 3 e.left.answer ≡ drop 3 e.answer

-- every image handed to a call is one that a check accepts, and it and the ledger agree
abbrev pub ExportedDemand3 : ℕ → ℕ → List ℕ → Ledger → List Exported → Type 0
ExportedDemand3 R M xs b [] = Image xs × Agreement R M (pool_in xs) b
ExportedDemand3 R M xs b (e ∷ es) =
    Image xs × Agreement R M (pool_in xs) b × Claim R xs b e × ExportedDemand3 R M (image_after xs e) (feed_step b (step_of xs e)) es
