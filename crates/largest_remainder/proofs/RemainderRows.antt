-- The parts of a share by largest remainder on rows of devices.
--
-- rank: rank_step (a loop over the rows), rank_rows (it is the rules')
-- share: floor_most, share_more, share_same, rows_shares
use mathlib.Core.Path.{◌≡◌, refl}
use mathlib.Core.List.{List}
use Prim.Native.Nat.{ℕ, zero, suc, ◌+◌, ◌*◌, ◌-◌, ◌%◌, ◌≤◌, ◌<◌}
use native.Mathlib.Nat.{div-le_self, le_trans}
use native.Mathlib.Numerals.{add-one}
use native.Mathlib.Omega.{arith}
use borrow.Author.Tests.{lt-ltb, le-ltb}
use Rattle.slicing.specs.Devices.{Device, device, capacities}
use Rattle.slicing.specs.Dues.{leftover}
use Rattle.slicing.specs.LargestRemainder.{before, share, shares_of, largest_remainder}
use Rattle.slicing.specs.LargestRemainder as Rule
use Rattle.slicing.specs.Limits.{max_range, max_capacity}
use Rattle.slicing.specs.Runs.{one}
use Rattle.slicing.proofs.Lex.{lex}
use Rattle.slicing.proofs.Limits.{product_size}
use Rattle.slicing_core.specs.Rows.{at, rows, device_rows}
use Rattle.shares.specs.Dues.{Floored}
use Rattle.largest_remainder.specs.Remainders.{Remained, rank}

-- ---- the rank

pub rank_step : (rems ids : List ℕ) (p i n : ℕ) → i < n
    → rank rems ids p i (n - i) ≡ one (lex (at rems i) (at ids i) (at rems p) (at ids p)) + rank rems ids p (i + 1) (n - (i + 1))
rank_step rems ids p i n h =
    let e : n - i ≡ suc (n - (i + 1)) = omega arith in
    rw (e, add-one i)

rank_rows : (R C : ℕ) (ids caps rems : List ℕ) (p i m : ℕ) → at rems p ≡ R * at caps p % C → ((k : ℕ) → k < i + m → at rems k ≡ R * at caps k % C)
    → rank rems ids p i m ≡ Rule.rank (before R C) (device_rows ids caps i m) (device (at ids p) (at caps p))
rank_rows R C ids caps rems p i zero e h = refl
rank_rows R C ids caps rems p i (suc m) e h =
    rw (rank_rows R C ids caps rems p (suc i) m e (λ k l. h k (omega arith)), h i (omega arith), e)

-- ---- the share of the device at place p

module _ {R n left C : ℕ} {ids caps fl rs : List ℕ} (e : C ≡ capacities (device_rows ids caps 0 n)) (f : Floored R ids caps n C fl left)
    (d : Remained R caps n C rs) (p : ℕ) (l : p < n) where
  pub floor_most : R ≤ max_range → at caps p ≤ max_capacity → at fl p ≤ 68719476736000000
  floor_most h c = rw (f.floored p l) (le_trans (div-le_self (R * at caps p) C) (product_size h c))

  ranked : rank rs ids p 0 n ≡ Rule.rank (before R C) (device_rows ids caps 0 n) (device (at ids p) (at caps p))
  ranked = rank_rows R C ids caps rs p 0 n (d.remained p l) (λ k m. d.remained k (omega arith))

  over : left ≡ leftover R C (device_rows ids caps 0 n)
  over = omega (arith, f.rest)

  pub share_more : rank rs ids p 0 n < left → at fl p + 1 ≡ share R (device_rows ids caps 0 n) (device (at ids p) (at caps p))
  share_more h = rw (f.floored p l, ← e, ← ranked, ← over, lt-ltb (rank rs ids p 0 n) left h)

  pub share_same : left ≤ rank rs ids p 0 n → at fl p ≡ share R (device_rows ids caps 0 n) (device (at ids p) (at caps p))
  share_same h = rw (f.floored p l, ← e, ← ranked, ← over, le-ltb (rank rs ids p 0 n) left h) (omega arith)

rows_shares_of : (R : ℕ) (ds : List Device) (r ids caps : List ℕ) (i m : ℕ)
    → ((k : ℕ) → k < i + m → at r k ≡ share R ds (device (at ids k) (at caps k))) → rows r ids i m ≡ shares_of R ds (device_rows ids caps i m)
rows_shares_of R ds r ids caps i zero h = refl
rows_shares_of R ds r ids caps i (suc m) h = rw (h i (omega arith), rows_shares_of R ds r ids caps (suc i) m (λ k l. h k (omega arith)))

pub rows_shares : (R : ℕ) (r ids caps : List ℕ) (n : ℕ)
    → ((k : ℕ) → k < n → at r k ≡ share R (device_rows ids caps 0 n) (device (at ids k) (at caps k)))
    → rows r ids 0 n ≡ largest_remainder R (device_rows ids caps 0 n)
unfolding largest_remainder
rows_shares R r ids caps n h = rows_shares_of R (device_rows ids caps 0 n) r ids caps 0 n (λ k l. h k (omega arith))
