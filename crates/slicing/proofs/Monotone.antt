-- The literal shares when the devices change: no rank falls where a device comes or grows, so no other share grows.
--
-- rank: rank_insert, rank_delete, rank_update (a capacity raised), rank_own (for the quotients of that device itself)
-- share: share_le
-- owned: owned_le, owned_insert, owned_delete, owned_other (than the one updated), owned_own
-- Laws: insert_greatest_divisors, delete_greatest_divisors, update_greatest_divisors (another device), own_greatest_divisors.
use mathlib.Core.Path.{◌≡◌, refl, sym, ap, ◌∙◌}
use mathlib.Core.Bool.{Bool, true, false, cond}
use mathlib.Core.List.{List, [], ◌∷◌}
use Prim.Native.Nat.{ℕ, suc, ◌+◌, ◌*◌, ◌≤◌}
use native.Mathlib.Omega.{arith}
use native.Mathlib.Nat.{le_refl}
use lib.Dec.{eqb, ltb}
use borrow.Author.Tests.{ltb-false, le-ltb, eqb-true, ne_eqb}
use Rattle.slicing.specs.Devices.{Device, device, insert, delete, update}
use Rattle.slicing.specs.GreatestDivisors.{Quotient, ◌over◌, before, ahead, rank, share, shares_of, greatest_divisors}
use Rattle.slicing.specs.Runs.{one, owned}
use Rattle.slicing.proofs.Quotients.{before_own_le, up_to_le, ahead_le}

module _ (n : ℕ) where
  rank_insert : (d c : ℕ) (ds : List Device) (q : Quotient) → rank n ds q ≤ rank n (insert d c ds) q
  rank_insert d c [] q = omega arith
  rank_insert d c (e ∷ ds) q = go (ltb d e.id) (rank_insert d c ds q)
    where
      go : (t : Bool) → rank n ds q ≤ rank n (insert d c ds) q
          → ahead n e q + rank n ds q ≤ rank n (cond t (device d c ∷ e ∷ ds) (e ∷ insert d c ds)) q
      go true ih = omega arith
      go false ih = omega arith

  rank_delete : (d : ℕ) (ds : List Device) (q : Quotient) → rank n (delete d ds) q ≤ rank n ds q
  rank_delete d [] q = omega arith
  rank_delete d (e ∷ ds) q = go (eqb d e.id) (rank_delete d ds q)
    where
      go : (t : Bool) → rank n (delete d ds) q ≤ rank n ds q → rank n (cond t (delete d ds) (e ∷ delete d ds)) q ≤ ahead n e q + rank n ds q
      go true ih = omega arith
      go false ih = omega arith

  rank_update : (d b c : ℕ) → b ≤ c → (ds : List Device) (f : Device) (i : ℕ) → rank n (update d b ds) (f over i) ≤ rank n (update d c ds) (f over i)
  rank_update d b c l [] f i = omega arith
  rank_update d b c l (e ∷ ds) f i =
      omega (
        arith,
        ahead_le n e.id (cond (eqb d e.id) b e.capacity) (cond (eqb d e.id) c e.capacity) f.id f.capacity f.capacity i
            (go (eqb d e.id)) (le_refl f.capacity),
        rank_update d b c l ds f i,
      )
    where
      go : (t : Bool) → cond t b e.capacity ≤ cond t c e.capacity
      go true = l
      go false = le_refl e.capacity

  rank_own : (d b c : ℕ) → 1 ≤ b → b ≤ c → (ds : List Device) (i : ℕ)
      → rank n (update d c ds) (device d c over i) ≤ rank n (update d b ds) (device d b over i)
  rank_own d b c h l [] i = omega arith
  rank_own d b c h l (e ∷ ds) i = go (eqb d e.id) refl (rank_own d b c h l ds i)
    where
      own : ahead n (device d c) (device d c over i) ≤ ahead n (device d b) (device d b over i)
      own =
          up_to_le n (λ j. before (device d c over j) (device d c over i)) (λ j. before (device d b over j) (device d b over i))
          (λ j k. before_own_le d b c i (suc j) h k)

      go : (t : Bool) → eqb d e.id ≡ t → rank n (update d c ds) (device d c over i) ≤ rank n (update d b ds) (device d b over i)
          → ahead n (device e.id (cond t c e.capacity)) (device d c over i) + rank n (update d c ds) (device d c over i)
          ≤ ahead n (device e.id (cond t b e.capacity)) (device d b over i) + rank n (update d b ds) (device d b over i)
      go true k ih =
          omega (
            arith,
            ap (λ z. ahead n (device z c) (device d c over i)) (eqb-true d e.id k),
            ap (λ z. ahead n (device z b) (device d b over i)) (eqb-true d e.id k),
            own,
          )
      go false k ih = omega (arith, ahead_le n e.id e.capacity e.capacity d c b i (le_refl e.capacity) l)

share_le : (R : ℕ) (ds es : List Device) (e f : Device) → ((i : ℕ) → rank R ds (e over i) ≤ rank R es (f over i)) → share R es f ≤ share R ds e
share_le R ds es e f h =
    up_to_le R (λ i. ltb (rank R es (f over i)) R) (λ i. ltb (rank R ds (e over i)) R)
    (λ i k. le-ltb (rank R es (f over suc i)) R (omega (arith, h (suc i), ltb-false (rank R ds (e over suc i)) R k)))

-- ---- the shares by id

module _ (R x : ℕ) (D D' : List Device) where
  owned_le : ((e : Device) → share R D e ≤ share R D' e) → (es : List Device) → owned x (shares_of R D es) ≤ owned x (shares_of R D' es)
  owned_le h [] = omega arith
  owned_le h (e ∷ es) = go (eqb x e.id) (owned_le h es)
    where
      go : (t : Bool) → owned x (shares_of R D es) ≤ owned x (shares_of R D' es)
          → one t * share R D e + owned x (shares_of R D es) ≤ one t * share R D' e + owned x (shares_of R D' es)
      go true ih = omega (arith, h e)
      go false ih = omega arith

  -- another device than the one updated
  owned_other : (d b c : ℕ) → (x ≡ d → ⊥) → ((e : Device) → share R D e ≤ share R D' e) → (es : List Device)
      → owned x (shares_of R D (update d b es)) ≤ owned x (shares_of R D' (update d c es))
  owned_other d b c n h [] = omega arith
  owned_other d b c n h (e ∷ es) = go (eqb d e.id) refl (owned_other d b c n h es)
    where
      go : (t : Bool) → eqb d e.id ≡ t → owned x (shares_of R D (update d b es)) ≤ owned x (shares_of R D' (update d c es))
          → one (eqb x e.id) * share R D (device e.id (cond t b e.capacity)) + owned x (shares_of R D (update d b es))
          ≤ one (eqb x e.id) * share R D' (device e.id (cond t c e.capacity)) + owned x (shares_of R D' (update d c es))
      go true k ih = rw (ne_eqb x e.id (λ w. n (w ∙ sym (eqb-true d e.id k)))) (omega arith)
      go false k ih = step (eqb x e.id)
        where
          step : (t : Bool) → one t * share R D e + owned x (shares_of R D (update d b es)) ≤ one t * share R D' e + owned x (shares_of R D' (update d c es))
          step true = omega (arith, h e)
          step false = omega arith

  -- the one updated
  owned_own : (b c : ℕ) → share R D (device x b) ≤ share R D' (device x c) → (es : List Device)
      → owned x (shares_of R D (update x b es)) ≤ owned x (shares_of R D' (update x c es))
  owned_own b c h [] = omega arith
  owned_own b c h (e ∷ es) = go (eqb x e.id) refl (owned_own b c h es)
    where
      go : (t : Bool) → eqb x e.id ≡ t → owned x (shares_of R D (update x b es)) ≤ owned x (shares_of R D' (update x c es))
          → one t * share R D (device e.id (cond t b e.capacity)) + owned x (shares_of R D (update x b es))
          ≤ one t * share R D' (device e.id (cond t c e.capacity)) + owned x (shares_of R D' (update x c es))
      go true k ih =
          omega (
            arith,
            h,
            ap (λ z. share R D (device z b)) (eqb-true x e.id k),
            ap (λ z. share R D' (device z c)) (eqb-true x e.id k),
          )
      go false k ih = omega arith

owned_insert : (R x d c : ℕ) (D es : List Device) → (x ≡ d → ⊥) → owned x (shares_of R D (insert d c es)) ≡ owned x (shares_of R D es)
owned_insert R x d c D [] n = rw (ne_eqb x d n) (omega arith)
owned_insert R x d c D (e ∷ es) n = go (ltb d e.id) (owned_insert R x d c D es n)
  where
    go : (t : Bool) → owned x (shares_of R D (insert d c es)) ≡ owned x (shares_of R D es)
        → owned x (shares_of R D (cond t (device d c ∷ e ∷ es) (e ∷ insert d c es))) ≡ owned x (shares_of R D (e ∷ es))
    go true ih = rw (ne_eqb x d n) (omega arith)
    go false ih = omega arith

owned_delete : (R x d : ℕ) (D es : List Device) → (x ≡ d → ⊥) → owned x (shares_of R D (delete d es)) ≡ owned x (shares_of R D es)
owned_delete R x d D [] n = refl
owned_delete R x d D (e ∷ es) n = go (eqb d e.id) refl (owned_delete R x d D es n)
  where
    go : (t : Bool) → eqb d e.id ≡ t → owned x (shares_of R D (delete d es)) ≡ owned x (shares_of R D es)
        → owned x (shares_of R D (cond t (delete d es) (e ∷ delete d es))) ≡ owned x (shares_of R D (e ∷ es))
    go true k ih = rw (ne_eqb x e.id (λ w. n (w ∙ sym (eqb-true d e.id k)))) (omega arith)
    go false k ih = omega arith

-- ---- the laws

pub insert_greatest_divisors : (R x d c : ℕ) (ds : List Device) → (x ≡ d → ⊥)
    → owned x (greatest_divisors R (insert d c ds)) ≤ owned x (greatest_divisors R ds)
unfolding greatest_divisors
insert_greatest_divisors R x d c ds n =
    omega (
      arith,
      owned_insert R x d c (insert d c ds) ds n,
      owned_le R x (insert d c ds) ds (λ e. share_le R ds (insert d c ds) e e (λ i. rank_insert R d c ds (e over i))) ds,
    )

pub delete_greatest_divisors : (R x d : ℕ) (ds : List Device) → (x ≡ d → ⊥)
    → owned x (greatest_divisors R ds) ≤ owned x (greatest_divisors R (delete d ds))
unfolding greatest_divisors
delete_greatest_divisors R x d ds n =
    omega (
      arith,
      owned_delete R x d (delete d ds) ds n,
      owned_le R x ds (delete d ds) (λ e. share_le R (delete d ds) ds e e (λ i. rank_delete R d ds (e over i))) ds,
    )

pub update_greatest_divisors : (R x d b c : ℕ) (ds : List Device) → (x ≡ d → ⊥) → b ≤ c
    → owned x (greatest_divisors R (update d c ds)) ≤ owned x (greatest_divisors R (update d b ds))
unfolding greatest_divisors
update_greatest_divisors R x d b c ds n l =
    owned_other R x (update d c ds) (update d b ds) d c b n
    (λ e. share_le R (update d b ds) (update d c ds) e e (λ i. rank_update R d b c l ds e i)) ds

pub own_greatest_divisors : (R d b c : ℕ) (ds : List Device) → 1 ≤ b → b ≤ c
    → owned d (greatest_divisors R (update d b ds)) ≤ owned d (greatest_divisors R (update d c ds))
unfolding greatest_divisors
own_greatest_divisors R d b c ds h l =
    owned_own R d (update d b ds) (update d c ds) b c
    (share_le R (update d c ds) (update d b ds) (device d c) (device d b) (λ i. rank_own R d b c h l ds i)) ds
