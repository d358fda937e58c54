-- The rule in force, to be computed: `shares` is `computed` as a function, so that whatever is said of a rule and computed for `computed` holds
-- for `shares`.
--
--   rising a ds        whether the devices are within their limits, and their ids rise from above a
--   computed R ds      the shares of such devices by the executable form, of any others by the literal one
-- Laws: rising_true, shares_computed.
use mathlib.Core.Path.{◌≡◌, refl, sym, fun_ext}
use mathlib.Core.Bool.{Bool, true, false, cond, ◌&&◌, false≢true}
use mathlib.Core.List.{List, [], ◌∷◌}
use Prim.Native.Nat.{ℕ}
use native.Mathlib.Omega.{arith}
use lib.Dec.{leb, ltb}
use borrow.Author.Tests.{ltb-true, leb-true}
use Rattle.slicing.specs.Devices.{Device, Rising}
use Rattle.slicing.specs.GreatestDivisors.{greatest_divisors}
use Rattle.slicing.specs.Limits.{max_id, max_capacity}
use Rattle.slicing.specs.LowerQuota.{lower_quota}
use Rattle.slicing.specs.ShareRule.{Rule, shares}
use Rattle.slicing.proofs.LowerQuota.{lower_quota_greatest_divisors}

abbrev pub rising : ℕ → List Device → Bool
rising a [] = true
rising a (e ∷ ds) = ltb a e.id && (leb e.id max_id && (leb 1 e.capacity && (leb e.capacity max_capacity && rising e.id ds)))

rising_true : (a : ℕ) (ds : List Device) → rising a ds ≡ true → Rising a ds
rising_true a [] h = tt
rising_true a (e ∷ ds) h = go (ltb a e.id) (leb e.id max_id) (leb 1 e.capacity) (leb e.capacity max_capacity) refl refl refl refl h (rising_true e.id ds)
  where
    go : (p q r t : Bool) → ltb a e.id ≡ p → leb e.id max_id ≡ q → leb 1 e.capacity ≡ r → leb e.capacity max_capacity ≡ t
        → p && (q && (r && (t && rising e.id ds))) ≡ true → (rising e.id ds ≡ true → Rising e.id ds) → Rising a (e ∷ ds)
    go true true true true w x y z k rest = (
      record {
        above = ltb-true a e.id w;
        known = leb-true e.id max_id x;
        some = leb-true 1 e.capacity y;
        most = leb-true e.capacity max_capacity z;
      },
      rest k,
    )
    go true true true false w x y z k rest = absurd (false≢true k)
    go true true false t w x y z k rest = absurd (false≢true k)
    go true false r t w x y z k rest = absurd (false≢true k)
    go false q r t w x y z k rest = absurd (false≢true k)

-- the literal rule, not to be unfolded elsewhere: a case of no pool stands still, in place of counting quotients
pub literal : Rule
literal R ds = greatest_divisors R ds

-- who computes with `computed` need not name the executable form
unfoldable pub computed : Rule
unfolding lower_quota
computed R [] = []
computed R (e ∷ ds) = cond (rising 0 (e ∷ ds)) (lower_quota R (e ∷ ds)) (literal R (e ∷ ds))

at : (R : ℕ) (ds : List Device) → shares R ds ≡ computed R ds
unfolding shares computed literal
at R [] = refl
at R (e ∷ ds) = go (rising 0 (e ∷ ds)) refl
  where
    go : (t : Bool) → rising 0 (e ∷ ds) ≡ t → greatest_divisors R (e ∷ ds) ≡ cond t (lower_quota R (e ∷ ds)) (literal R (e ∷ ds))
    go true k = sym (lower_quota_greatest_divisors R (e ∷ ds) (rising_true 0 (e ∷ ds) k) (omega arith))
    go false k = refl

pub shares_computed : shares ≡ computed
shares_computed = fun_ext (λ R. fun_ext (λ ds. at R ds))
