-- The search by halving finds the interval that holds a point.
--
--   Holds s n x r     start r is not above x, and the next one is
-- halve: halve_holds
-- tables: starts_rise, owner_at_place, owner_found_table
use mathlib.Core.Path.{◌≡◌, refl, sym, ap, ◌∙◌}
use mathlib.Core.Bool.{Bool, true, false, cond}
use mathlib.Core.List.{List}
use Prim.Native.Nat.{ℕ, zero, suc, ◌+◌, ◌-◌, ◌/◌, ◌≤◌, ◌<◌}
use native.Mathlib.Omega.{arith}
use lib.Dec.{eqb, leb, ltb}
use borrow.Author.Tests.{ltb-true, ltb-false, leb-true, leb-false, lt-ltb, le-ltb, eqb-true, eqb-false, ne_eqb}
use Rattle.slicing.specs.Runs.{owner_at, Coalesced}
use Rattle.slicing_core.specs.Rows.{at, table_rows}
use Rattle.lookup_core.specs.Halving.{halve, owner_found}

pub record Holds (s : List ℕ) (n x r : ℕ) : Type 0 where
  pub place : r < n
  pub low : at s r ≤ x
  pub high : r + 1 < n → x < at s (r + 1)

pub halve_holds : (s : List ℕ) (x n f lo hi : ℕ) → lo < hi → hi ≤ n → hi - lo ≤ f → at s lo ≤ x → (hi < n → x < at s hi) → Holds s n x (halve s x f lo hi)
halve_holds s x n zero lo hi a b c d e = absurd (omega arith)
halve_holds s x n (suc f) lo hi a b c d e =
    outer (ltb (lo + 1) hi) refl
    (λ l g. halve_holds s x n f ((lo + hi) / 2) hi (omega arith) b (omega arith) g e)
    (λ l g. halve_holds s x n f lo ((lo + hi) / 2) (omega arith) (omega arith) (omega arith) d (λ h. g))
  where
    m : ℕ
    m = (lo + hi) / 2

    inner : (t : Bool) → leb (at s m) x ≡ t → (at s m ≤ x → Holds s n x (halve s x f m hi)) → (x < at s m → Holds s n x (halve s x f lo m))
        → Holds s n x (cond t (halve s x f m hi) (halve s x f lo m))
    inner true h up down = up (leb-true (at s m) x h)
    inner false h up down = down (leb-false (at s m) x h)

    outer : (t : Bool) → ltb (lo + 1) hi ≡ t → (lo + 1 < hi → at s m ≤ x → Holds s n x (halve s x f m hi))
        → (lo + 1 < hi → x < at s m → Holds s n x (halve s x f lo m))
        → Holds s n x (cond t (cond (leb (at s m) x) (halve s x f m hi) (halve s x f lo m)) lo)
    outer true h up down = inner (leb (at s m) x) refl (up (ltb-true (lo + 1) hi h)) (down (ltb-true (lo + 1) hi h))
    outer false h up down =
        let k : hi ≡ lo + 1 = omega (arith, ltb-false (lo + 1) hi h) in
        record { place = omega arith; low = d; high = λ l. rw k at (e (omega arith)) }

-- ---- tables

-- the starts of intervals that are not empty rise, up to R
pub starts_rise : (p o : List ℕ) (R i n j : ℕ) → Coalesced eqb (table_rows p o R i (suc n)) → i ≤ j → j < i + suc n → (at p i ≤ at p j) × (at p j < R)
starts_rise p o R i zero j h a b =
    let e : i ≡ j = omega arith in
    let s : at p i ≡ at p j = ap (at p) e in
    (omega arith, omega (arith, h.0))
starts_rise p o R i (suc n) j h a b = go (eqb i j) refl (λ l. starts_rise p o R (suc i) n j h.2 l (omega arith)) (starts_rise p o R (suc i) n (suc i) h.2 (omega arith) (omega arith))
  where
    go : (t : Bool) → eqb i j ≡ t → (suc i ≤ j → (at p (suc i) ≤ at p j) × (at p j < R)) → (at p (suc i) ≤ at p (suc i)) × (at p (suc i) < R)
        → (at p i ≤ at p j) × (at p j < R)
    go true e ih next =
        let s : at p i ≡ at p j = ap (at p) (eqb-true i j e) in
        (omega arith, omega (arith, h.0, next.1))
    go false e ih next =
        let r : (at p (suc i) ≤ at p j) × (at p j < R) = ih (omega (arith, eqb-false i j e)) in
        (omega (arith, h.0, r.0), r.1)

pub owner_at_place : (p o : List ℕ) (R i n x r : ℕ) → Coalesced eqb (table_rows p o R i (suc n)) → x < R → i ≤ r → r < i + suc n → at p r ≤ x
    → (r + 1 < i + suc n → x < at p (r + 1)) → owner_at (table_rows p o R i (suc n)) (x - at p i) ≡ at o r
owner_at_place p o R i zero x r h u a b low high =
    let e : i ≡ r = omega arith in
    let s : at p i ≡ at p r = ap (at p) e in
    rw (lt-ltb (x - at p i) (R - at p i) (omega arith)) (ap (at o) e)
owner_at_place p o R i (suc n) x r h u a b low high =
    go (eqb i r) refl (λ l. owner_at_place p o R (suc i) n x r h.2 u l (omega arith) low (λ m. high (omega arith)))
  where
    go : (t : Bool) → eqb i r ≡ t → (suc i ≤ r → owner_at (table_rows p o R (suc i) (suc n)) (x - at p (suc i)) ≡ at o r)
        → cond (ltb (x - at p i) (at p (suc i) - at p i)) (at o i) (owner_at (table_rows p o R (suc i) (suc n)) (x - at p i - (at p (suc i) - at p i))) ≡ at o r
    go true e ih =
        let k : i ≡ r = eqb-true i r e in
        let s : at p i ≡ at p r = ap (at p) k in
        let j : r + 1 ≡ suc i = omega arith in
        let l : x < at p (suc i) = rw j at (high (omega arith)) in
        rw (lt-ltb (x - at p i) (at p (suc i) - at p i) (omega arith)) (ap (at o) k)
    go false e ih =
        let l : suc i ≤ r = omega (arith, eqb-false i r e) in
        let s : at p (suc i) ≤ at p r = (starts_rise p o R (suc i) n r h.2 l (omega arith)).0 in
        let d : x - at p i - (at p (suc i) - at p i) ≡ x - at p (suc i) = omega (arith, h.0) in
        rw (le-ltb (x - at p i) (at p (suc i) - at p i) (omega arith), d) (ih l)

-- 'each point lies in exactly one interval': the owner that halving finds is the table's
pub owner_found_table : (p o : List ℕ) (R n x : ℕ) → 1 ≤ n → Coalesced eqb (table_rows p o R 0 n) → at p 0 ≡ 0 → x < R
    → owner_found p o n x ≡ owner_at (table_rows p o R 0 n) x
unfolding owner_found
owner_found_table p o R zero x l h z u = absurd (omega arith)
owner_found_table p o R (suc n) x l h z u =
    let r : Holds p (suc n) x (halve p x (suc n) 0 (suc n)) =
    halve_holds p x (suc n) (suc n) 0 (suc n) (omega arith) (omega arith) (omega arith) (omega (arith, z)) (λ k. absurd (omega arith)) in
    let e : x - at p 0 ≡ x = omega (arith, z) in
    rw (ne_eqb (suc n) 0 (λ k. omega arith))
    (sym (owner_at_place p o R 0 n x (halve p x (suc n) 0 (suc n)) h u (omega arith) (omega (arith, r.place)) r.low (λ k. r.high (omega arith)))
    ∙ ap (owner_at (table_rows p o R 0 (suc n))) e)
