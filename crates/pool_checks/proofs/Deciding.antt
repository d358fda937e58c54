-- Laws of a Bool that says whether a fact holds.
--
-- Decides: decides_leb, decides_eqb (a comparison), decides_iff (two facts that follow from each other)
use mathlib.Core.Path.{◌≡◌, refl}
use mathlib.Core.Bool.{Bool, true, false}
use Prim.Native.Nat.{ℕ, ◌≤◌}
use native.Mathlib.Omega.{arith}
use lib.Dec.{leb, eqb}
use borrow.Author.Tests.{leb-true, leb-false, eqb-true, eqb-false}
use Rattle.slicing_core.specs.Stages.{Decides}

pub decides_leb : {P : Type 0} (m n : ℕ) → (P → m ≤ n) → (m ≤ n → P) → Decides (leb m n) P
decides_leb {P} m n g f = pick (leb m n) refl
  where
    pick : (b : Bool) → leb m n ≡ b → Decides b P
    pick true e = f (leb-true m n e)
    pick false e = λ p. omega (arith, g p, leb-false m n e)

pub decides_eqb : {P : Type 0} (m n : ℕ) → (P → m ≡ n) → (m ≡ n → P) → Decides (eqb m n) P
decides_eqb {P} m n g f = pick (eqb m n) refl
  where
    pick : (b : Bool) → eqb m n ≡ b → Decides b P
    pick true e = f (eqb-true m n e)
    pick false e = λ p. eqb-false m n e (g p)

pub decides_iff : {P Q : Type 0} (b : Bool) → (P → Q) → (Q → P) → Decides b P → Decides b Q
decides_iff true f g d = f d
decides_iff false f g d = λ q. d (g q)
