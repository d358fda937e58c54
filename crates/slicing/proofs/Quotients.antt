-- Quotients: their order, and how many go before one.
--
-- before, where it does not hold: before_weaken (further down, or other capacities), before_more, before_trans, before_asym, before_own_not,
--   before_own_le (the order of a device's own quotients is that of their divisors, whatever its capacity)
-- before, where it holds: before_own, before_total (of two ids one goes first)
-- up_to: one_most, up_to_le, up_to_same, up_to_more, up_to_all (no count past n where nothing past n has p), up_to_bound, up_to_most, up_to_least
-- ahead: ahead_le (other capacities), ahead_own
-- Law: share_further (a share is the same with any more quotients formed; by ahead_further, rank_more, rank_in, rank_further).
use mathlib.Core.Path.{◌≡◌, refl, sym, ap, ◌∙◌}
use mathlib.Core.Bool.{Bool, true, false, not, false≢true}
use mathlib.Core.List.{List, [], ◌∷◌, Memᴰ}
use Prim.Native.Nat.{ℕ, zero, suc, ◌+◌, ◌*◌, ◌≤◌, ◌<◌}
use native.Mathlib.Omega.{arith}
use native.Mathlib.Nat.{le_refl, mul-le-mul, mul-le-mul_left, mul-lt-mul_of_pos_left, le_of_mul-le-mul_left, eq_of_mul-eq-mul_left}
use lib.Dec.{ltb}
use borrow.Author.Tests.{ltb-true, ltb-false, le-ltb}
use Rattle.slicing.specs.Devices.{Device, device}
use Rattle.slicing.specs.GreatestDivisors.{Quotient, ◌over◌, before, up_to, ahead, rank, among, share}
use Rattle.slicing.specs.Runs.{one}
use Rattle.slicing.proofs.Lex.{lex_more, lex_not, lex_false, lex_asym, lex_total, ltb_iff}

-- ---- before

pub before_weaken : (d a a' g b b' i i' j j' : ℕ) → a' ≤ a → b ≤ b' → i ≤ i' → j' ≤ j
    → before (device d a over i) (device g b over j) ≡ false → before (device d a' over i') (device g b' over j') ≡ false
before_weaken d a a' g b b' i i' j j' ha hb hi hj h =
    let k = lex_false (a * j) d (b * i) g h in
    let l : a' * j' ≤ a * j = mul-le-mul ha hj in
    let m : b * i ≤ b' * i' = mul-le-mul hb hi in
    lex_not (a' * j') d (b' * i') g (omega arith) (λ w. k.1 (omega arith))

pub before_more : (d e : Device) (i j : ℕ) → d.capacity * j < e.capacity * i → before (d over i) (e over j) ≡ false
before_more d e i j h = lex_not (d.capacity * j) d.id (e.capacity * i) e.id (omega arith) (λ w. omega arith)

pub before_trans : (d e f : Device) (i j k : ℕ) → 1 ≤ d.capacity → 1 ≤ e.capacity → 1 ≤ f.capacity
    → before (d over i) (e over j) ≡ false → before (e over j) (f over k) ≡ false → before (d over i) (f over k) ≡ false
before_trans d e f i j k hd he hf p q =
    lex_not (a * k) d.id (c * i) f.id (le_of_mul-le-mul_left {k = b} le he)
    (λ w. ids (ap (λ z. b * z) w))
  where
    a : ℕ
    a = d.capacity

    b : ℕ
    b = e.capacity

    c : ℕ
    c = f.capacity

    x : (a * j ≤ b * i) × (b * i ≡ a * j → e.id ≤ d.id)
    x = lex_false (a * j) d.id (b * i) e.id p

    y : (b * k ≤ c * j) × (c * j ≡ b * k → f.id ≤ e.id)
    y = lex_false (b * k) e.id (c * j) f.id q

    le : b * (a * k) ≤ b * (c * i)
    le = omega (arith, mul-le-mul_left c x.0, mul-le-mul_left a y.0)

    ids : b * (c * i) ≡ b * (a * k) → f.id ≤ d.id
    ids w =
        let l = mul-le-mul_left c x.0 in
        let m = mul-le-mul_left a y.0 in
        let u : b * i ≡ a * j = eq_of_mul-eq-mul_left c hf (b * i) (a * j) (omega arith) in
        let v : c * j ≡ b * k = eq_of_mul-eq-mul_left a hd (c * j) (b * k) (omega arith) in
        omega (arith, x.1 u, y.1 v)

pub before_asym : (d e : Device) (i j : ℕ) → before (d over i) (e over j) ≡ true → before (e over j) (d over i) ≡ false
before_asym d e i j h = lex_asym (d.capacity * j) d.id (e.capacity * i) e.id h

pub before_own : (e : Device) (i j : ℕ) → 1 ≤ e.capacity → i < j → before (e over i) (e over j) ≡ true
before_own e i j h l = lex_more (e.capacity * j) e.id (e.capacity * i) e.id (mul-lt-mul_of_pos_left l h)

pub before_own_not : (e : Device) (i j : ℕ) → j ≤ i → before (e over i) (e over j) ≡ false
before_own_not e i j l =
    lex_not (e.capacity * j) e.id (e.capacity * i) e.id (mul-le-mul_left e.capacity l) (λ w. omega arith)

pub before_own_le : (d b c i j : ℕ) → 1 ≤ b → before (device d b over j) (device d b over i) ≡ false → before (device d c over j) (device d c over i) ≡ false
before_own_le d b c i j h k =
    before_own_not (device d c) j i (le_of_mul-le-mul_left {k = b} (lex_false (b * i) d (b * j) d k).0 h)

pub before_total : (d e : Device) (i j : ℕ) → (d.id ≡ e.id → ⊥) → before (e over j) (d over i) ≡ false → before (d over i) (e over j) ≡ true
before_total d e i j h k = lex_total (d.capacity * j) d.id (e.capacity * i) e.id h ∙ ap not k

-- ---- up_to

pub one_most : (t : Bool) → one t ≤ 1
one_most true = omega arith
one_most false = omega arith

pub up_to_le : (n : ℕ) (p q : ℕ → Bool) → ((i : ℕ) → q (suc i) ≡ false → p (suc i) ≡ false) → up_to n p ≤ up_to n q
up_to_le zero p q h = omega arith
up_to_le (suc n) p q h = go (p (suc n)) (q (suc n)) (h n) (up_to_le n p q h)
  where
    go : (a b : Bool) → (b ≡ false → a ≡ false) → up_to n p ≤ up_to n q → one a + up_to n p ≤ one b + up_to n q
    go true true k ih = omega arith
    go true false k ih = absurd (false≢true (sym (k refl)))
    go false true k ih = omega arith
    go false false k ih = omega arith

pub up_to_same : (n : ℕ) (p q : ℕ → Bool) → ((i : ℕ) → p (suc i) ≡ q (suc i)) → up_to n p ≡ up_to n q
up_to_same zero p q h = refl
up_to_same (suc n) p q h = rw (h n, up_to_same n p q h)

pub up_to_more : (n m : ℕ) (p : ℕ → Bool) → n ≤ m → up_to n p ≤ up_to m p
up_to_more n zero p h = omega (arith, ap (λ k. up_to k p) (let e : n ≡ 0 = omega arith in e))
up_to_more n (suc m) p h = go (ltb m n) refl (up_to_more n m p)
  where
    go : (t : Bool) → ltb m n ≡ t → (n ≤ m → up_to n p ≤ up_to m p) → up_to n p ≤ one (p (suc m)) + up_to m p
    go true x ih = let e : n ≡ suc m = omega (arith, ltb-true m n x) in omega (arith, ap (λ k. up_to k p) e)
    go false x ih = omega (arith, ih (ltb-false m n x))

pub up_to_all : (n m : ℕ) (p : ℕ → Bool) → n ≤ m → ((i : ℕ) → n ≤ i → p (suc i) ≡ false) → up_to m p ≡ up_to n p
up_to_all n zero p l h = ap (λ k. up_to k p) (let e : 0 ≡ n = omega arith in e)
up_to_all n (suc m) p l h = go (ltb m n) refl (λ k. up_to_all n m p k h)
  where
    go : (t : Bool) → ltb m n ≡ t → (n ≤ m → up_to m p ≡ up_to n p) → one (p (suc m)) + up_to m p ≡ up_to n p
    go true x ih = let e : n ≡ suc m = omega (arith, ltb-true m n x) in omega (arith, ap (λ k. up_to k p) e)
    go false x ih = omega (arith, ap one (h m (ltb-false m n x)), ih (ltb-false m n x))

up_to_bound : (n : ℕ) (p : ℕ → Bool) → up_to n p ≤ n
up_to_bound zero p = omega arith
up_to_bound (suc n) p = omega (arith, one_most (p (suc n)), up_to_bound n p)

pub up_to_most : (n k : ℕ) (p : ℕ → Bool) → ((i : ℕ) → k ≤ i → p (suc i) ≡ false) → up_to n p ≤ k
up_to_most zero k p h = omega arith
up_to_most (suc n) k p h = go (ltb n k) refl (up_to_most n k p h)
  where
    go : (t : Bool) → ltb n k ≡ t → up_to n p ≤ k → one (p (suc n)) + up_to n p ≤ k
    go true x ih = omega (arith, ltb-true n k x, up_to_bound (suc n) p)
    go false x ih = omega (arith, ap one (h n (ltb-false n k x)))

pub up_to_least : (n k : ℕ) (p : ℕ → Bool) → k ≤ n → ((i : ℕ) → i < k → p (suc i) ≡ true) → k ≤ up_to n p
up_to_least zero k p l h = omega arith
up_to_least (suc n) k p l h = go (ltb n k) refl (λ m j. up_to_least n m p j)
  where
    go : (t : Bool) → ltb n k ≡ t → ((m : ℕ) → m ≤ n → ((i : ℕ) → i < m → p (suc i) ≡ true) → m ≤ up_to n p) → k ≤ one (p (suc n)) + up_to n p
    go true x ih =
        let e : n < k = ltb-true n k x in
        omega (arith, ap one (h n e), ih n (omega arith) (λ i z. h i (omega arith)))
    go false x ih = omega (arith, ih k (ltb-false n k x) h)

-- ---- ahead

pub ahead_le : (n d a a' g b b' i : ℕ) → a ≤ a' → b' ≤ b → ahead n (device d a) (device g b over i) ≤ ahead n (device d a') (device g b' over i)
ahead_le n d a a' g b b' i ha hb =
    up_to_le n (λ j. before (device d a over j) (device g b over i)) (λ j. before (device d a' over j) (device g b' over i))
    (λ j h. before_weaken d a' a g b' b (suc j) (suc j) i i ha hb (le_refl (suc j)) (le_refl i) h)

pub ahead_own : (n : ℕ) (e : Device) (i : ℕ) → 1 ≤ e.capacity → i ≤ n → ahead n e (e over suc i) ≡ i
ahead_own n e i h l =
    omega (
      arith,
      up_to_most n i (λ j. before (e over j) (e over suc i)) (λ j k. before_own_not e (suc j) (suc i) (omega arith)),
      up_to_least n i (λ j. before (e over j) (e over suc i)) l (λ j k. before_own e (suc j) (suc i) h (omega arith)),
    )

-- ---- more quotients formed

-- where not all of the first n go before q, none past them does
ahead_further : (n m : ℕ) (e : Device) (q : Quotient) → n ≤ m → ahead n e q < n → ahead m e q ≡ ahead n e q
ahead_further n m e (f over i) l h =
    up_to_all n m (λ j. before (e over j) (f over i)) l (λ j k. go j k (before (e over suc j) (f over i)) refl)
  where
    go : (j : ℕ) → n ≤ j → (t : Bool) → before (e over suc j) (f over i) ≡ t → t ≡ false
    go j k false x = refl
    go j k true x = absurd (omega (arith, h, up_to_least n n (λ j. before (e over j) (f over i)) (le_refl n) (λ z y. all z y (before (e over suc z) (f over i)) refl)))
      where
        all : (z : ℕ) → z < n → (t : Bool) → before (e over suc z) (f over i) ≡ t → t ≡ true
        all z y true w = refl
        all z y false w =
            sym (before_weaken e.id e.capacity e.capacity f.id f.capacity f.capacity (suc z) (suc j) i i
            (le_refl e.capacity) (le_refl f.capacity) (omega arith) (le_refl i) w) ∙ x

rank_more : (n m : ℕ) (ds : List Device) (q : Quotient) → n ≤ m → rank n ds q ≤ rank m ds q
rank_more n m [] q l = omega arith
rank_more n m (e ∷ ds) q l = omega (arith, up_to_more n m (λ j. before (e over j) q) l, rank_more n m ds q l)

pub rank_in : (n : ℕ) {e : Device} {ds : List Device} (q : Quotient) → Memᴰ e ds → ahead n e q ≤ rank n ds q
rank_in n q (Memᴰ.head p) = rw p (omega arith)
rank_in n q (Memᴰ.tail m) = omega (arith, rank_in n q m)

rank_further : (n m R : ℕ) (ds : List Device) (q : Quotient) → n ≤ m → R ≤ n → rank n ds q < R → rank m ds q ≡ rank n ds q
rank_further n m R [] q l k h = refl
rank_further n m R (e ∷ ds) q l k h =
    rw (ahead_further n m e q l (omega arith), rank_further n m R ds q l k (omega arith))

pub share_further : (n R : ℕ) (ds : List Device) (e : Device) → Memᴰ e ds → 1 ≤ e.capacity → R ≤ n → among n R ds e ≡ share R ds e
share_further n R ds e m h l =
    up_to_all R n (λ i. ltb (rank n ds (e over i)) R) l past
    ∙ up_to_same R (λ i. ltb (rank n ds (e over i)) R) (λ i. ltb (rank R ds (e over i)) R) (λ i. first (e over suc i))
  where
    first : (q : Quotient) → ltb (rank n ds q) R ≡ ltb (rank R ds q) R
    first q =
        ltb_iff (rank n ds q) R (rank R ds q) R (λ a. omega (arith, rank_more R n ds q l))
        (λ a. omega (arith, rank_further R n R ds q l (le_refl R) a))

    past : (i : ℕ) → R ≤ i → ltb (rank n ds (e over suc i)) R ≡ false
    past i k =
        le-ltb (rank n ds (e over suc i)) R
        (omega (arith, rank_in n (e over suc i) m, up_to_least n R (λ j. before (e over j) (e over suc i)) l (λ j y. before_own e (suc j) (suc i) h (omega arith))))
