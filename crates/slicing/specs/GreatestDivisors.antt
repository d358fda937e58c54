-- Shares by greatest divisors, the rule of Jefferson, word for word. Renders document 02, Wish 4. R is the range.
--
--   e over i               a quotient: the capacity of e divided by i, i at least 1
--   before q r             whether q goes before r
--   up_to n p               how many of 1, 2, .., n have p
--   ahead n e q            how many of the first n quotients of e go before q
--   rank n ds q            how many of the first n quotients of all the devices ds go before q
--   among n R ds e         how many of the first n quotients of e are among the first R
--   share R ds e           the share of e
--   greatest_divisors R ds  the share of each device, in the order of ds
use Rattle.std.specs.Prelude.{Bool, ◌&&◌, ◌||◌, List, [], ◌∷◌, ℕ, zero, suc, ◌+◌, ◌*◌, eqb, ltb}
use Rattle.slicing.specs.Devices.{Device}
use Rattle.slicing.specs.Runs.{Run, ◌of◌, one}

-- 'Form the quotients c divided by 1, 2, 3 and so on for every device.'
infix 60 ◌over◌
pub data Quotient : Type 0 where
  ◌over◌ : Device → ℕ → Quotient

-- 'Order them from the largest, equal ones by lower id, and round none: c divided by i is above d divided by j where c × j is above d × i.'
abbrev pub before : Quotient → Quotient → Bool
before (e over i) (f over j) =
    ltb (f.capacity * i) (e.capacity * j) || (eqb (f.capacity * i) (e.capacity * j) && ltb e.id f.id)

abbrev pub up_to : ℕ → (ℕ → Bool) → ℕ
up_to zero p = 0
up_to (suc n) p = one (p (suc n)) + up_to n p

abbrev pub ahead : ℕ → Device → Quotient → ℕ
ahead n e q = up_to n (λ j. before (e over j) q)

abbrev pub rank : ℕ → List Device → Quotient → ℕ
rank n [] q = 0
rank n (e ∷ ds) q = ahead n e q + rank n ds q

abbrev pub among : ℕ → ℕ → List Device → Device → ℕ
among n R ds e = up_to n (λ i. ltb (rank n ds (e over i)) R)

-- 'A device's share is how many of its quotients are among the first R.' R quotients of each device are formed: the share is the same with
-- any more of them (the law share-further).
abbrev pub share : ℕ → List Device → Device → ℕ
share R ds e = among R R ds e

abbrev pub shares_of : ℕ → List Device → List Device → List (Run ℕ)
shares_of R ds [] = []
shares_of R ds (e ∷ es) = (share R ds e of e.id) ∷ shares_of R ds es

unfoldable pub greatest_divisors : ℕ → List Device → List (Run ℕ)
greatest_divisors R ds = shares_of R ds ds
