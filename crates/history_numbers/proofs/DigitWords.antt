-- Digits and the number that they spell: what the loop of `digits` keeps.
--   Spelling w value i     the first i bytes of the word w are digits, and spell `value`; the rest decides
--
-- answers: no_number, same_number (that a number was read, or none)
use mathlib.Core.Path.{◌≡◌}
use mathlib.Core.List.{List}
use Prim.Native.Nat.{ℕ, ◌^◌, ◌≤◌, ◌<◌}
use native.Mathlib.Omega.{arith}
use lib.ListN.{length, drop}
use Rattle.std.specs.Prelude.{Some, None}
use Rattle.history_numbers.specs.Text.{all_digits, spelled}

-- ---- answers

pub no_number : (n : ℕ) → None ≡ Some n → ⊥
no_number n e = let z : ◌≡◌ {A = ℕ} 0 1 = cc in omega arith

pub same_number : (m n : ℕ) → Some m ≡ Some n → m ≡ n
same_number m n e = cc

-- ---- the loop

pub record Spelling (w : List ℕ) (value i : ℕ) : Type 0 where
  pub within : i ≤ length w
  pub valid : all_digits (drop i w) ≡ all_digits w
  pub rest : spelled value (drop i w) ≡ spelled 0 w
  pub small : value < 10 ^ i
