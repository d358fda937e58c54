-- Settled runs: no device's next quotient goes before one that has its point. Their points are the shares of their total.
--
--   holders rs       the devices of the runs, in order
--   points x         the points of a run
--   last x           the last quotient of a device that has its point
--   Positive rs      every device has a capacity
--   Settled rs       no next quotient goes before a last one
-- runs: in_same (one run for an id), points_total
-- rank: rank_least, rank_most, rank_less; ahead: ahead_in, ahead_out
-- Laws: share_points (of one device), shares_part, shares_points (of all).
use mathlib.Core.Path.{◌≡◌, refl, sym, ap, ◌∙◌}
use mathlib.Core.Bool.{Bool, true, false}
use mathlib.Core.List.Memᴰ
use mathlib.Core.List.{List, [], ◌∷◌, map, Memᴰ}
use Prim.Native.Nat.{ℕ, suc, ◌≤◌, ◌<◌}
use native.Mathlib.Omega.{arith}
use native.Mathlib.Nat.{le_refl}
use lib.Dec.{eqb, ltb}
use borrow.Author.Tests.{lt-ltb, le-ltb, eqb-true, eqb-false}
use Rattle.slicing.specs.Devices.{Device, ids}
use Rattle.slicing.specs.GreatestDivisors.{Quotient, ◌over◌, before, ahead, rank, share, shares_of}
use Rattle.slicing.specs.LowerQuota.{next, holder}
use Rattle.slicing.specs.Runs.{Run, ◌of◌, total, relabel}
use Rattle.slicing.proofs.Counting.{Distinct}
use Rattle.slicing.proofs.Devices.{member_first}
use Rattle.slicing.proofs.Quotients.{before_weaken, before_own, before_total, up_to_most, up_to_least, ahead_own}

abbrev pub holders : List (Run Device) → List Device
holders rs = map holder rs

abbrev pub points : Run Device → ℕ
points (s of e) = s

abbrev pub last : Run Device → Quotient
last (s of e) = e over s

abbrev pub Positive : List (Run Device) → Type 0
Positive rs = (x : Run Device) → Memᴰ x rs → 1 ≤ (holder x).capacity

abbrev pub Settled : List (Run Device) → Type 0
Settled rs = (x y : Run Device) → Memᴰ x rs → Memᴰ y rs → before (next x) (last y) ≡ false

pub in_same : {x y : Run Device} (rs : List (Run Device)) → Distinct (ids (holders rs)) → Memᴰ x rs → Memᴰ y rs
    → (holder x).id ≡ (holder y).id → x ≡ y
in_same {x = x} {y = y} [] u x5 _ k = elim x5 [ ]
in_same (z ∷ rs) u (Memᴰ.head p) (Memᴰ.head q) k = p ∙ sym q
in_same {x} {y} (z ∷ rs) u (Memᴰ.head p) (Memᴰ.tail n) k =
    absurd (member_first (holder z) (holders rs) u (holder y) (Memᴰ.map holder n) (sym k ∙ ap (λ w. (holder w).id) p))
in_same {x} {y} (z ∷ rs) u (Memᴰ.tail m) (Memᴰ.head q) k =
    absurd (member_first (holder z) (holders rs) u (holder x) (Memᴰ.map holder m) (k ∙ ap (λ w. (holder w).id) q))
in_same (z ∷ rs) u (Memᴰ.tail m) (Memᴰ.tail n) k = in_same rs (λ d. omega (arith, u d)) m n k

points_total : {x : Run Device} {rs : List (Run Device)} → Memᴰ x rs → points x ≤ total rs
points_total (Memᴰ.head {x = s of e} p) = omega (arith, ap points p)
points_total (Memᴰ.tail {x = s of e} m) = omega (arith, points_total m)

module _ (n : ℕ) (q : Quotient) where
  rank_least : (rs : List (Run Device)) → ((x : Run Device) → Memᴰ x rs → points x ≤ ahead n (holder x) q) → total rs ≤ rank n (holders rs) q
  rank_least [] h = omega arith
  rank_least ((s of e) ∷ rs) h = omega (arith, h (s of e) (Memᴰ.head refl), rank_least rs (λ x m. h x (Memᴰ.tail m)))

  rank_most : (rs : List (Run Device)) → ((x : Run Device) → Memᴰ x rs → ahead n (holder x) q ≤ points x) → rank n (holders rs) q ≤ total rs
  rank_most [] h = omega arith
  rank_most ((s of e) ∷ rs) h = omega (arith, h (s of e) (Memᴰ.head refl), rank_most rs (λ x m. h x (Memᴰ.tail m)))

  rank_less : {y : Run Device} (rs : List (Run Device)) → ((x : Run Device) → Memᴰ x rs → ahead n (holder x) q ≤ points x)
      → Memᴰ y rs → ahead n (holder y) q < points y → rank n (holders rs) q < total rs
  rank_less {y = y} [] h x3 l = elim x3 [ ]
  rank_less ((s of e) ∷ rs) h (Memᴰ.head p) l =
      omega (arith, ap points p, ap (λ z. ahead n (holder z) q) p, rank_most rs (λ x m. h x (Memᴰ.tail m)))
  rank_less ((s of e) ∷ rs) h (Memᴰ.tail m) l =
      omega (arith, h (s of e) (Memᴰ.head refl), rank_less rs (λ x k. h x (Memᴰ.tail k)) m l)

module _ (rs : List (Run Device)) (u : Distinct (ids (holders rs))) (some : Positive rs) (settled : Settled rs) where
  -- what has a point is among the first
  ahead_in : (f : Device) (t i : ℕ) → Memᴰ (t of f) rs → i < t → (x : Run Device) → Memᴰ x rs → ahead (total rs) (holder x) (f over suc i) ≤ points x
  ahead_in f t i m l (s of e) n =
      up_to_most (total rs) s (λ j. before (e over j) (f over suc i))
      (λ j k.
      before_weaken e.id e.capacity e.capacity f.id f.capacity f.capacity (suc s) (suc j) t (suc i) (le_refl e.capacity)
      (le_refl f.capacity) (omega arith) (omega arith) (settled (s of e) (t of f) n m))

  -- and what has none is not
  ahead_out : (f : Device) (t i : ℕ) → Memᴰ (t of f) rs → t ≤ i → (x : Run Device) → Memᴰ x rs → points x ≤ ahead (total rs) (holder x) (f over suc i)
  ahead_out f t i m l (s of e) n =
      up_to_least (total rs) s (λ j. before (e over j) (f over suc i)) (points_total n) (λ j k. go j k (eqb e.id f.id) refl)
    where
      go : (j : ℕ) → j < s → (b : Bool) → eqb e.id f.id ≡ b → before (e over suc j) (f over suc i) ≡ true
      go j k true x =
          let p = in_same rs u n m (eqb-true e.id f.id x) in
          ap (λ z. before (e over suc j) (holder z over suc i)) (sym p) ∙ before_own e (suc j) (suc i) (some (s of e) n) (omega (arith, ap points p))
      go j k false x =
          before_total e f (suc j) (suc i) (eqb-false e.id f.id x)
          (before_weaken f.id f.capacity f.capacity e.id e.capacity e.capacity (suc t) (suc i) s (suc j) (le_refl f.capacity)
          (le_refl e.capacity) (omega arith) (omega arith) (settled (t of f) (s of e) m n))

  pub share_points : (x : Run Device) → Memᴰ x rs → share (total rs) (holders rs) (holder x) ≡ points x
  share_points (t of f) m =
      omega (
        arith,
        up_to_most (total rs) t (λ i. ltb (rank (total rs) (holders rs) (f over i)) (total rs))
            (λ i l.
            le-ltb (rank (total rs) (holders rs) (f over suc i)) (total rs) (rank_least (total rs) (f over suc i) rs (ahead_out f t i m l))),
        up_to_least (total rs) t (λ i. ltb (rank (total rs) (holders rs) (f over i)) (total rs)) (points_total m)
            (λ i l.
            lt-ltb (rank (total rs) (holders rs) (f over suc i)) (total rs)
            (rank_less (total rs) (f over suc i) rs (ahead_in f t i m l) m
            (omega (arith, ahead_own (total rs) f i (some (t of f) m) (omega (arith, points_total m)))))),
      )

  shares_part : (es : List (Run Device)) → ((x : Run Device) → Memᴰ x es → Memᴰ x rs)
      → relabel (λ e. e.id) es ≡ shares_of (total rs) (holders rs) (holders es)
  shares_part [] sub = refl
  shares_part ((s of e) ∷ es) sub =
      rw (share_points (s of e) (sub (s of e) (Memᴰ.head refl)), shares_part es (λ x m. sub x (Memᴰ.tail m)))

  pub shares_points : relabel (λ e. e.id) rs ≡ shares_of (total rs) (holders rs) (holders rs)
  shares_points = shares_part rs (λ x m. m)
