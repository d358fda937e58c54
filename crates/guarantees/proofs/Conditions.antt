-- The rules' tests from conditions in plain terms.
--
--   Inside k x        x lies within 1 to k
--   Decided P         P, or not P
--   Says u n x        the reply u has the number n and the value x
-- replies: says
-- outside: inside_false, inside_true; two_inside, two_outside (of two numbers); one_decided, two_decided
-- present: listed_present, unlisted_absent; length_devices
use mathlib.Core.Path.{◌≡◌, refl, sym, ap, ◌∙◌}
use mathlib.Core.Bool.{Bool, true, false, ◌||◌, true≢false}
use Prim.Native.Nat.{ℕ, ◌≤◌}
use native.Mathlib.Omega.{arith}
use lib.ListN.{length}
use Rattle.slicing.specs.Devices.{present}
use Rattle.slicing.specs.Limits.{outside}
use Rattle.refusals.specs.Replies.{Reply}
use Rattle.slicing.proofs.Limits.{or_false, outside_false, within_limits}
use Rattle.slicing_core.proofs.DeviceRows.{position_present, present_without}
use Rattle.slicing_core.proofs.Rows.{length_device_rows}
use Rattle.pools.specs.Pools.{state_of}
use Rattle.pools.specs.declared.Pool.{Pool}
use Rattle.demand3.specs.Points.{Listed}

abbrev pub Inside : ℕ → ℕ → Type 0
Inside k x = (1 ≤ x) × (x ≤ k)

not_true : (t : Bool) → (t ≡ false → ⊥) → t ≡ true
not_true true h = refl
not_true false h = absurd (h refl)

pub inside_false : (k x : ℕ) → Inside k x → outside k x ≡ false
inside_false k x i = within_limits k x i.0 i.1

pub inside_true : (k x : ℕ) → (Inside k x → ⊥) → outside k x ≡ true
inside_true k x h = not_true (outside k x) (λ e. h (outside_false k x e))

module _ (k x l y : ℕ) where
  pub two_inside : Inside k x → Inside l y → outside k x || outside l y ≡ false
  two_inside i j = rw (inside_false k x i, inside_false l y j)

  pub two_outside : (Inside k x → Inside l y → ⊥) → outside k x || outside l y ≡ true
  two_outside h =
      not_true (outside k x || outside l y)
      (λ e. let t = or_false (outside k x) (outside l y) e in h (outside_false k x t.0) (outside_false l y t.1))

abbrev pub Says : Reply → ℕ → ℕ → Type 0
Says u n x = (u.number ≡ n) × (u.value ≡ x)

pub says : {u : Reply} {n x : ℕ} → u ≡ record { number = n; value = x } → Says u n x
says e = (ap (λ w. w.number) e, ap (λ w. w.value) e)

pub data Decided (P : Type 0) : Type 0 where
  within : P → Decided P
  without : (P → ⊥) → Decided P

pub one_decided : (k x : ℕ) → Decided (Inside k x)
one_decided k x = go (outside k x) refl
  where
    go : (t : Bool) → outside k x ≡ t → Decided (Inside k x)
    go true e = without (λ i. true≢false (sym e ∙ inside_false k x i))
    go false e = within (outside_false k x e)

pub two_decided : (k x l y : ℕ) → Decided (Inside k x × Inside l y)
two_decided k x l y = go (outside k x || outside l y) refl
  where
    go : (t : Bool) → outside k x || outside l y ≡ t → Decided (Inside k x × Inside l y)
    go true e = without (λ i. true≢false (sym e ∙ two_inside k x l y i.0 i.1))
    go false e = let t = or_false (outside k x) (outside l y) e in within (outside_false k x t.0, outside_false l y t.1)

module _ (p : Pool) where
  pub listed_present : (d : ℕ) → Listed p d → present d (state_of p).devices ≡ true
  unfolding state_of
  listed_present d l = position_present p.ids p.capacities p.devices d l.place l.below l.id

  pub unlisted_absent : (d : ℕ) → (Listed p d → ⊥) → present d (state_of p).devices ≡ false
  unfolding state_of
  unlisted_absent d h =
      present_without p.ids p.capacities d 0 p.devices (λ k l b e. h (record { place = k; below = omega (arith, b); id = sym e }))

  pub length_devices : length (state_of p).devices ≡ p.devices
  unfolding state_of
  length_devices = length_device_rows p.ids p.capacities 0 p.devices
