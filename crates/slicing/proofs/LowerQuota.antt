-- The executable shares are the literal ones.
--
--   Given R C k ds rs     what holds of the devices ds after k points: rs are theirs, the sum, each from floor to floor + k, Settled
-- next: next_trans, next_asym, next_irrefl
-- lead: lead_in, lead_first, lead_best (no next quotient goes before its own)
-- start: floor_settled, start_holders, start_total, start_in; raise: raise_each, raise_holders, raise_total
-- Given: given_start, given_give, given_give_all
-- allotted: allotted_given, allotted_total, allotted_distinct, allotted_in, share_allotted
-- Laws: lower_quota_greatest_divisors (the executable shares are the literal ones), total_greatest_divisors (they sum to R), share_floor, share_ceiling (a share lies from floor to below floor + n).
use mathlib.Core.Path.{◌≡◌, refl, sym, ap, ap₂, ◌∙◌, subst}
use mathlib.Core.Bool.{Bool, true, false, cond}
use mathlib.Core.List.Memᴰ
use mathlib.Core.List.{List, [], ◌∷◌, map, Memᴰ}
use mathlib.Core.Logic.{◌⊎◌, inl, inr}
use Prim.Native.Nat.{ℕ, zero, suc, ◌+◌, ◌*◌, ◌≤◌, ◌<◌}
use native.Mathlib.Omega.{arith}
use native.Mathlib.Nat.{le_refl, zero-add, add-zero, div-add-mod, mod-lt, mul-le-mul_left, mul-lt-mul_of_pos_left, lt_of_mul-lt-mul_left}
use lib.Dec.{eqb}
use lib.ListN.{length}
use borrow.Author.Tests.{eqb-true}
use Rattle.slicing.specs.Devices.{Device, ids, capacities, Rising}
use Rattle.slicing.specs.Dues.{floor, floors, leftover}
use Rattle.slicing.specs.GreatestDivisors.{◌over◌, before, share, shares_of, greatest_divisors}
use Rattle.slicing.specs.LowerQuota.{start, next, lead, holder, raise, give, give_all, allotted, lower_quota}
use Rattle.slicing.specs.Runs.{Run, ◌of◌, one, total, count}
use Rattle.slicing.proofs.Counting.{Distinct}
use Rattle.slicing.proofs.Devices.{rising_distinct, rising_capacities, member_count}
use Rattle.slicing.proofs.Dues.{floors_le, leftover_less}
use Rattle.slicing.proofs.Quotients.{before_weaken, before_trans, before_asym, before_own_not, before_more, one_most}
use Rattle.slicing.proofs.Runs.{total_relabel}
use Rattle.slicing.proofs.Settled.{holders, points, last, Positive, Settled, in_same, share_points, shares_points}

-- ---- the lead

next_trans : (x y z : Run Device) → 1 ≤ (holder x).capacity → 1 ≤ (holder y).capacity → 1 ≤ (holder z).capacity
    → before (next x) (next y) ≡ false → before (next y) (next z) ≡ false → before (next x) (next z) ≡ false
next_trans (s of d) (t of e) (r of f) a b c p q = before_trans d e f (suc s) (suc t) (suc r) a b c p q

next_asym : (x y : Run Device) → before (next x) (next y) ≡ true → before (next y) (next x) ≡ false
next_asym (s of d) (t of e) p = before_asym d e (suc s) (suc t) p

next_irrefl : (x : Run Device) → before (next x) (next x) ≡ false
next_irrefl (s of e) = before_own_not e (suc s) (suc s) (le_refl (suc s))

lead_in : (x : Run Device) (rs : List (Run Device)) → Memᴰ (lead x rs) (x ∷ rs)
lead_in x [] = Memᴰ.head refl
lead_in x (y ∷ rs) = go (before (next y) (next x)) (λ z. lead_in z rs)
  where
    keep : Memᴰ (lead x rs) (x ∷ rs) → Memᴰ (lead x rs) (x ∷ y ∷ rs)
    keep (Memᴰ.head p) = Memᴰ.head p
    keep (Memᴰ.tail m) = Memᴰ.tail (Memᴰ.tail m)

    go : (t : Bool) → ((z : Run Device) → Memᴰ (lead z rs) (z ∷ rs)) → Memᴰ (lead (cond t y x) rs) (x ∷ y ∷ rs)
    go true ih = Memᴰ.tail (ih y)
    go false ih = keep (ih x)

-- what does not go before x, and what is listed, does not go before the lead
lead_first : (x : Run Device) (rs : List (Run Device)) → 1 ≤ (holder x).capacity → Positive rs → (v : Run Device) → 1 ≤ (holder v).capacity
    → (before (next v) (next x) ≡ false) ⊎ Memᴰ v rs → before (next v) (next (lead x rs)) ≡ false
lead_first x [] hx some v hv (inr x7) = elim x7 [ ]
lead_first x [] hx some v hv (inl h) = h
lead_first x (z ∷ rs) hx some v hv q =
    go (before (next z) (next x)) refl q (λ w hw. lead_first w rs hw (λ y m. some y (Memᴰ.tail m)) v hv)
  where
    Rest : Run Device → Type 0
    Rest w = 1 ≤ (holder w).capacity → (before (next v) (next w) ≡ false) ⊎ Memᴰ v rs → before (next v) (next (lead w rs)) ≡ false

    hz : 1 ≤ (holder z).capacity
    hz = some z (Memᴰ.head refl)

    go : (t : Bool) → before (next z) (next x) ≡ t → (before (next v) (next x) ≡ false) ⊎ Memᴰ v (z ∷ rs) → ((w : Run Device) → Rest w)
        → before (next v) (next (lead (cond t z x) rs)) ≡ false
    go true b (inl h) ih = ih z hz (inl (next_trans v x z hv hx hz h (next_asym z x b)))
    go true b (inr (Memᴰ.head p)) ih = ih z hz (inl (ap (λ y. before (next y) (next z)) p ∙ next_irrefl z))
    go true b (inr (Memᴰ.tail m)) ih = ih z hz (inr m)
    go false b (inl h) ih = ih x hx (inl h)
    go false b (inr (Memᴰ.head p)) ih = ih x hx (inl (ap (λ y. before (next y) (next x)) p ∙ b))
    go false b (inr (Memᴰ.tail m)) ih = ih x hx (inr m)

lead_best : (x : Run Device) (rs : List (Run Device)) → Positive (x ∷ rs) → (v : Run Device) → Memᴰ v (x ∷ rs) → before (next v) (next (lead x rs)) ≡ false
lead_best x rs some v m = lead_first x rs (some x (Memᴰ.head refl)) (λ y n. some y (Memᴰ.tail n)) v (some v m) (go m)
  where
    go : Memᴰ v (x ∷ rs) → (before (next v) (next x) ≡ false) ⊎ Memᴰ v rs
    go (Memᴰ.head p) = inl (ap (λ y. before (next y) (next x)) p ∙ next_irrefl x)
    go (Memᴰ.tail n) = inr n

-- ---- the points given one by one

record Given (R C k : ℕ) (ds : List Device) (rs : List (Run Device)) : Type 0 where
  devices : holders rs ≡ ds
  sum : total rs ≡ floors R C ds + k
  some : Positive rs
  low : (x : Run Device) → Memᴰ x rs → floor R C (holder x) ≤ points x
  high : (x : Run Device) → Memᴰ x rs → points x ≤ floor R C (holder x) + k
  settled : Settled rs

start_holders : (R C : ℕ) (ds : List Device) → holders (start R C ds) ≡ ds
start_holders R C [] = refl
start_holders R C (e ∷ ds) = ap (λ l. e ∷ l) (start_holders R C ds)

start_total : (R C : ℕ) (ds : List Device) → total (start R C ds) ≡ floors R C ds
start_total R C [] = refl
start_total R C (e ∷ ds) = omega (arith, start_total R C ds)

start_in : {x : Run Device} (R C a : ℕ) (ds : List Device) → Rising a ds → Memᴰ x (start R C ds)
    → (points x ≡ floor R C (holder x)) × (1 ≤ (holder x).capacity)
start_in R C a [] h x3 = elim x3 [ ]
start_in R C a (e ∷ ds) h (Memᴰ.head p) = rw p (refl, h.0.some)
start_in R C a (e ∷ ds) h (Memᴰ.tail m) = start_in R C e.id ds h.1 m

-- quotients up to the lower quota are at least C / R, and those past it are less
floor_settled : (R C : ℕ) → 1 ≤ C → (e f : Device) → 1 ≤ f.capacity → before (e over suc (floor R C e)) (f over floor R C f) ≡ false
floor_settled R C h e f l = before_more e f (suc (floor R C e)) (floor R C f) (lt_of_mul-lt-mul_left C less)
  where
    below : R * e.capacity < C * suc (floor R C e)
    below = omega (arith, div-add-mod (R * e.capacity) C, mod-lt (R * e.capacity) h)

    less : C * (e.capacity * floor R C f) < C * (f.capacity * suc (floor R C e))
    less =
        omega (
          arith,
          mul-lt-mul_of_pos_left {k = f.capacity} below l,
          mul-le-mul_left e.capacity (let z : C * floor R C f ≤ R * f.capacity = omega (arith, div-add-mod (R * f.capacity) C) in z),
        )

given_start : (R C a : ℕ) (ds : List Device) → 1 ≤ C → Rising a ds → Given R C 0 ds (start R C ds)
given_start R C a ds h r =
    record {
      devices = start_holders R C ds;
      sum = omega (arith, start_total R C ds);
      some = λ x m. (at x m).1;
      low = λ x m. omega (arith, (at x m).0);
      high = λ x m. omega (arith, (at x m).0);
      settled = settled;
    }
  where
    at : (x : Run Device) → Memᴰ x (start R C ds) → (points x ≡ floor R C (holder x)) × (1 ≤ (holder x).capacity)
    at x = start_in R C a ds r

    settled : Settled (start R C ds)
    settled (s of e) (t of f) m n =
        ap₂ (λ i j. before (e over suc i) (f over j)) (at (s of e) m).0 (at (t of f) n).0 ∙ floor_settled R C h e f (at (t of f) n).1

-- what holds of each run raised holds of the raised runs
raise_each : (d : ℕ) (rs : List (Run Device)) (P : Run Device → Type 0) → ((x : Run Device) → Memᴰ x rs → P (raise d x))
    → (y : Run Device) → Memᴰ y (map (raise d) rs) → P y
raise_each d rs P h y m = let r = Memᴰ.of_map (raise d) rs m in subst P r.2 (h r.0 r.1)

raise_holders : (d : ℕ) (rs : List (Run Device)) → holders (map (raise d) rs) ≡ holders rs
raise_holders d [] = refl
raise_holders d ((s of e) ∷ rs) = ap (λ l. e ∷ l) (raise_holders d rs)

raise_total : (d : ℕ) (rs : List (Run Device)) → total (map (raise d) rs) ≡ total rs + count d (ids (holders rs))
raise_total d [] = refl
raise_total d ((s of e) ∷ rs) = omega (arith, raise_total d rs)

given_give : (R C k : ℕ) (ds : List Device) (rs : List (Run Device)) → Distinct (ids ds) → 1 ≤ length ds → Given R C k ds rs → Given R C (suc k) ds (give rs)
given_give R C k ds [] u h g = absurd (omega (arith, ap length g.devices))
given_give R C k ds (x ∷ rs) u h g =
    record {
      devices = raise_holders d (x ∷ rs) ∙ g.devices;
      sum = omega (arith, g.sum, raise_total d (x ∷ rs), once);
      some = raise_each d (x ∷ rs) (λ y. 1 ≤ (holder y).capacity) some;
      low = raise_each d (x ∷ rs) (λ y. floor R C (holder y) ≤ points y) low;
      high = raise_each d (x ∷ rs) (λ y. points y ≤ floor R C (holder y) + suc k) high;
      settled =
          λ y z m n. raise_each d (x ∷ rs) (λ a. before (next a) (last z) ≡ false)
          (λ a i. raise_each d (x ∷ rs) (λ b. before (next (raise d a)) (last b) ≡ false) (λ b j. settled a b i j) z n) y m;
    }
  where
    d : ℕ
    d = (holder (lead x rs)).id

    v : Distinct (ids (holders (x ∷ rs)))
    v = subst (λ l. Distinct (ids l)) (sym g.devices) u

    once : count d (ids (holders (x ∷ rs))) ≡ 1
    once = omega (arith, v d, member_count (Memᴰ.map holder (lead_in x rs)))

    some : (y : Run Device) → Memᴰ y (x ∷ rs) → 1 ≤ (holder (raise d y)).capacity
    some (s of e) m = g.some (s of e) m

    low : (y : Run Device) → Memᴰ y (x ∷ rs) → floor R C (holder (raise d y)) ≤ points (raise d y)
    low (s of e) m = omega (arith, g.low (s of e) m)

    high : (y : Run Device) → Memᴰ y (x ∷ rs) → points (raise d y) ≤ floor R C (holder (raise d y)) + suc k
    high (s of e) m = omega (arith, g.high (s of e) m, one_most (eqb d e.id))

    settled : (y z : Run Device) → Memᴰ y (x ∷ rs) → Memᴰ z (x ∷ rs) → before (next (raise d y)) (last (raise d z)) ≡ false
    settled (s of e) (t of f) m n = go (eqb d f.id) refl
      where
        -- a point more for e, and the last quotient of f at j
        weak : (j j' : ℕ) → j' ≤ j → before (e over suc s) (f over j) ≡ false → before (e over suc (s + one (eqb d e.id))) (f over j') ≡ false
        weak j j' l =
            before_weaken e.id e.capacity e.capacity f.id f.capacity f.capacity (suc s) (suc (s + one (eqb d e.id))) j j'
            (le_refl e.capacity) (le_refl f.capacity) (omega arith) l

        go : (b : Bool) → eqb d f.id ≡ b → before (e over suc (s + one (eqb d e.id))) (f over (t + one b)) ≡ false
        go true w =
            weak (suc t) (t + one true) (omega arith)
            (ap (λ z. before (e over suc s) (next z)) (sym (in_same (x ∷ rs) v (lead_in x rs) n (eqb-true d f.id w)))
            ∙ lead_best x rs g.some (s of e) m)
        go false w = weak t (t + one false) (omega arith) (g.settled (s of e) (t of f) m n)

given_give_all : (R C j k : ℕ) (ds : List Device) (rs : List (Run Device)) → Distinct (ids ds) → 1 ≤ length ds → Given R C k ds rs → Given R C (j + k) ds (give_all j rs)
given_give_all R C zero k ds rs u h g = rw zero-add g
given_give_all R C (suc j) k ds rs u h g =
    let e : suc j + k ≡ j + suc k = omega arith in
    rw e (given_give_all R C j (suc k) ds (give rs) u h (given_give R C k ds rs u h g))

module _ (R : ℕ) (ds : List Device) (r : Rising 0 ds) (h : 1 ≤ length ds) where
  allotted_given : Given R (capacities ds) (leftover R (capacities ds) ds) ds (allotted R ds)
  allotted_given =
      rw add-zero at
      (given_give_all R (capacities ds) (leftover R (capacities ds) ds) 0 ds (start R (capacities ds) ds) (rising_distinct 0 ds r) h
      (given_start R (capacities ds) 0 ds (omega (arith, rising_capacities 0 ds r)) r))

  allotted_total : total (allotted R ds) ≡ R
  allotted_total = omega (arith, allotted_given.sum, floors_le R ds (omega (arith, rising_capacities 0 ds r)))

  allotted_distinct : Distinct (ids (holders (allotted R ds)))
  allotted_distinct = subst (λ l. Distinct (ids l)) (sym allotted_given.devices) (rising_distinct 0 ds r)

  pub lower_quota_greatest_divisors : lower_quota R ds ≡ greatest_divisors R ds
  unfolding lower_quota greatest_divisors
  lower_quota_greatest_divisors =
      shares_points (allotted R ds) allotted_distinct allotted_given.some allotted_given.settled ∙ ap₂ (λ n l. shares_of n l l) allotted_total allotted_given.devices

  pub total_greatest_divisors : total (greatest_divisors R ds) ≡ R
  unfolding lower_quota
  total_greatest_divisors =
      ap total (sym lower_quota_greatest_divisors) ∙ total_relabel (λ e. e.id) (allotted R ds) ∙ allotted_total

  -- the run of a device
  allotted_in : (e : Device) → Memᴰ e ds → (x : Run Device) × Memᴰ x (allotted R ds) × (holder x ≡ e)
  allotted_in e m = Memᴰ.of_map holder (allotted R ds) (subst (λ l. Memᴰ e l) (sym allotted_given.devices) m)

  share_allotted : (x : Run Device) → Memᴰ x (allotted R ds) → share R ds (holder x) ≡ points x
  share_allotted x m =
      ap₂ (λ n l. share n l (holder x)) (sym allotted_total) (sym allotted_given.devices) ∙ share_points (allotted R ds) allotted_distinct allotted_given.some allotted_given.settled x m

  pub share_floor : (e : Device) → Memᴰ e ds → floor R (capacities ds) e ≤ share R ds e
  share_floor e m =
      let y = allotted_in e m in
      subst (λ f. floor R (capacities ds) f ≤ share R ds f) y.2 (omega (arith, share_allotted y.0 y.1, allotted_given.low y.0 y.1))

  pub share_ceiling : (e : Device) → Memᴰ e ds → share R ds e < floor R (capacities ds) e + length ds
  share_ceiling e m =
      let y = allotted_in e m in
      let c : 1 ≤ capacities ds = omega (arith, rising_capacities 0 ds r) in
      subst (λ f. share R ds f < floor R (capacities ds) f + length ds) y.2
      (omega (arith, share_allotted y.0 y.1, allotted_given.high y.0 y.1, leftover_less R ds c h))
