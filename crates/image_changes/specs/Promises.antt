-- What a change of the pool that an image describes promises. The new pool is left as the bytes of its image, the moves as flat numbers.
--
--   Moved, unmoved, moved_as   what a change leaves; where it is refused; from the state that its image gives
--   Changed xs k b l a r      r is what the change k of the image xs leaves of the buffer b, the list l and the places a of the answer
use Rattle.std.specs.Prelude.{◌≡◌, cond, List, ◌∷◌, ◌++◌, ℕ, ◌*◌, ◌≤◌, ◌<◌, ltb, length, drop}
use Rattle.slicing.specs.Changes.{State, Change, change}
use Rattle.slicing.specs.Claims.{written}
use Rattle.image_numbers.specs.Format.{image_of}
use Rattle.images.specs.OnImages.{OnImage}
use Rattle.flat_moves.specs.FlatMoves.{moves_in, flat}

-- the number, the buffer for the new image, the list of moves and the places of the answer, all afterwards
pub record Moved : Type 0 where
  pub number : ℕ
  pub image : List ℕ
  pub list : List ℕ
  pub answer : List ℕ

-- a refusal's number and zeros; buffer and list stay
abbrev pub unmoved : ℕ → List ℕ → List ℕ → List ℕ → Moved
unmoved n b l a = record { number = n; image = b; list = l; answer = 0 ∷ 0 ∷ 0 ∷ drop 3 a }

-- the rules' outcome: the new image and its length, the moves, the moved points and the number of moves; 17 where the new image
-- does not fit
abbrev pub moved_as : Change → List ℕ → List ℕ → List ℕ → State → Moved
moved_as k b l a s =
    let o = change s (moves_in l) k in
    let i = image_of o.state in
    cond (ltb 0 o.number) (unmoved o.number b l a)
    (cond (ltb (length b) (length i)) (unmoved 17 b l a)
    (record { number = 0; image = i ++ drop (length i) b; list = flat (written o) ++ drop (4 * o.count) l; answer = length i ∷ o.moved ∷ o.count ∷ drop 3 a }))

pub record Changed (xs : List ℕ) (k : Change) (b l a : List ℕ) (r : Moved) : Type 0 where
  pub short : length a < 3 → r ≡ record { number = 17; image = b; list = l; answer = a }
  pub room : 3 ≤ length a → OnImage xs (λ n. unmoved n b l a) (moved_as k b l a) r
