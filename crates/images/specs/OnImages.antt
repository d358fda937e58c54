-- Calls on the pool that an image describes.
--
--   OnImage xs f g r        r answers a call on the image xs: f of 14, 15 or 16, or g of the state that it gives
use Rattle.std.specs.Prelude.{◌≡◌, true, false, List, ℕ}
use Rattle.slicing.specs.Changes.{State}
use Rattle.image_numbers.specs.Format.{version, version_in, state_in, marked, Sound, Image}

-- 'Image read: 14: under 19 bytes, or another mark; 15: another version; 16: any other fault'
pub data OnImage {A : Type 0} (xs : List ℕ) (refused : ℕ → A) (done : State → A) (r : A) : Type 0 where
  unmarked : marked xs ≡ false → r ≡ refused 14 → OnImage xs refused done r
  versioned : marked xs ≡ true → (version_in xs ≡ version → ⊥) → r ≡ refused 15 → OnImage xs refused done r
  faulty : marked xs ≡ true → version_in xs ≡ version → (Sound xs → ⊥) → r ≡ refused 16 → OnImage xs refused done r
  accepted : Image xs → r ≡ done (state_in xs) → OnImage xs refused done r
