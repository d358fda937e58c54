-- Which way the moves of an accepted call go. Renders document 02, Wish 4.
--
--   AllTo d ms         every move of ms goes to d
--   AllFrom d ms       every move of ms comes from d
--   Directed k ms      the moves of the call k go its way
use Rattle.std.specs.Prelude.{◌≡◌, List, ◌⊎◌, ℕ, ◌<◌, length}
use Rattle.slicing.specs.Changes.{Change, add, remove, resize}
use Rattle.slicing.specs.Claims.{move_at}
use Rattle.slicing.specs.SixSteps.{Move}

abbrev pub AllTo : ℕ → List Move → Type 0
AllTo d ms = (i : ℕ) → i < length ms → (move_at ms i).to ≡ d

abbrev pub AllFrom : ℕ → List Move → Type 0
AllFrom d ms = (i : ℕ) → i < length ms → (move_at ms i).from ≡ d

-- 'An add must move points only to the new disk, a removal only from the old one, a resize only to or from the one named.'
abbrev pub Directed : Change → List Move → Type 0
Directed (add d c) ms = AllTo d ms
Directed (remove d) ms = AllFrom d ms
Directed (resize d c) ms = AllTo d ms ⊎ AllFrom d ms
