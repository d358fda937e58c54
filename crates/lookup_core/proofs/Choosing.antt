-- The probing for copies: what a reader expects of the owners that it chooses.
--
--   firsts o n           the different owners of the first n probes, in the order of the probes
-- firsts: firsts_distinct, firsts_owner
-- choose: choose_firsts (the first k different owners in probe order), choose_distinct, choose_prefix (copies of k begin with copies
--   of k - 1)
use mathlib.Core.Path.{◌≡◌, refl, sym, ap, ◌∙◌}
use mathlib.Core.Bool.{Bool, true, false, cond, ◌||◌, true≢false}
use mathlib.Core.List.{List, [], ◌∷◌, ◌++◌}
use Prim.Native.Nat.{ℕ, zero, suc, ◌+◌, ◌≤◌, ◌<◌}
use native.Mathlib.Omega.{arith}
use lib.Dec.{eqb, leb}
use lib.ListN.{length, take, length-append}
use lib.Seq.{take_all, take-append-le, take-take}
use borrow.Author.Tests.{leb-true, leb-false, eqb-true}
use Rattle.slicing.specs.Runs.{one, count}
use Rattle.slicing.proofs.Counting.{Distinct, count_append}
use Rattle.lookup_core.specs.Probes.{member, choose_from, choose, max_probes}

-- an owner not met yet comes behind those met
abbrev pub met : ℕ → List ℕ → List ℕ
met d cs = cond (member d cs) cs (cs ++ d ∷ [])

abbrev pub firsts : (ℕ → ℕ) → ℕ → List ℕ
firsts o zero = []
firsts o (suc n) = met (o n) (firsts o n)

member_count : (d : ℕ) (cs : List ℕ) → member d cs ≡ false → count d cs ≡ 0
member_count d [] h = refl
member_count d (e ∷ cs) h = go (eqb d e) refl h (member_count d cs)
  where
    go : (t : Bool) → eqb d e ≡ t → t || member d cs ≡ false → (member d cs ≡ false → count d cs ≡ 0) → one t + count d cs ≡ 0
    go true e h ih = absurd (true≢false h)
    go false e h ih = omega (arith, ih h)

distinct_met : (d : ℕ) (cs : List ℕ) → Distinct cs → Distinct (met d cs)
distinct_met d cs u = go (member d cs) refl
  where
    go : (t : Bool) → member d cs ≡ t → Distinct (cond t cs (cs ++ d ∷ []))
    go true e f = u f
    go false e f = step (eqb f d) refl
      where
        step : (b : Bool) → eqb f d ≡ b → count f (cs ++ d ∷ []) ≤ 1
        step true k =
            omega (arith, count_append f cs (d ∷ []), ap one k, member_count d cs e, ap (λ z. count z cs) (eqb-true f d k))
        step false k = omega (arith, count_append f cs (d ∷ []), ap one k, u f)

-- chosen owners are different from each other
pub firsts_distinct : (o : ℕ → ℕ) (n : ℕ) → Distinct (firsts o n)
firsts_distinct o zero d = omega arith
firsts_distinct o (suc n) d = distinct_met (o n) (firsts o n) (firsts_distinct o n) d

-- an owner of one of the first n probes
pub record Probed (o : ℕ → ℕ) (n d : ℕ) : Type 0 where
  pub probe : ℕ
  pub early : probe < n
  pub owner : o probe ≡ d

-- .. and each is the owner of a probe
pub firsts_owner : (o : ℕ → ℕ) (n d : ℕ) → 1 ≤ count d (firsts o n) → Probed o n d
firsts_owner o zero d h = absurd (omega arith)
firsts_owner o (suc n) d h = go (member (o n) (firsts o n)) h (firsts_owner o n d)
  where
    later : Probed o n d → Probed o (suc n) d
    later r = record { probe = r.probe; early = omega (arith, r.early); owner = r.owner }

    go : (t : Bool) → 1 ≤ count d (cond t (firsts o n) (firsts o n ++ o n ∷ [])) → (1 ≤ count d (firsts o n) → Probed o n d) → Probed o (suc n) d
    go true k ih = later (ih k)
    go false k ih = step (eqb d (o n)) refl
      where
        step : (b : Bool) → eqb d (o n) ≡ b → Probed o (suc n) d
        step true e = record { probe = n; early = omega arith; owner = sym (eqb-true d (o n) e) }
        step false e = later (ih (omega (arith, count_append d (firsts o n) (o n ∷ []), ap one e)))

-- ---- the probing

-- the owners met stay at the front as more probes come
take_firsts : (o : ℕ → ℕ) (k n : ℕ) → k ≤ length (firsts o n) → take k (firsts o (suc n)) ≡ take k (firsts o n)
take_firsts o k n l = go (member (o n) (firsts o n))
  where
    go : (t : Bool) → take k (cond t (firsts o n) (firsts o n ++ o n ∷ [])) ≡ take k (firsts o n)
    go true = refl
    go false = take-append-le k (firsts o n) (o n ∷ []) l

length_firsts : (o : ℕ → ℕ) (k n : ℕ) → k ≤ length (firsts o n) → k ≤ length (firsts o (suc n))
length_firsts o k n l = go (member (o n) (firsts o n))
  where
    go : (t : Bool) → k ≤ length (cond t (firsts o n) (firsts o n ++ o n ∷ []))
    go true = l
    go false = omega (arith, length-append (firsts o n) (o n ∷ []))

kept_firsts : (o : ℕ → ℕ) (k n m : ℕ) → k ≤ length (firsts o n) → take k (firsts o (n + m)) ≡ take k (firsts o n)
kept_firsts o k n zero l = let e : n + 0 ≡ n = omega arith in rw e
kept_firsts o k n (suc m) l =
    let e : n + suc m ≡ suc n + m = omega arith in
    rw e (kept_firsts o k (suc n) m (length_firsts o k n l) ∙ take_firsts o k n l)

choose_from_lem : (o : ℕ → ℕ) (k n t : ℕ) → length (firsts o t) < k → (choose_from o k n t (firsts o t)).owners ≡ take k (firsts o (t + n))
choose_from_lem o k zero t l =
    let e : t + 0 ≡ t = omega arith in
    rw e (sym (take_all k (firsts o t) (omega arith)))
choose_from_lem o k (suc n) t l =
    let e : t + suc n ≡ suc t + n = omega arith in
    rw e (go (member (o t) (firsts o t)) refl (choose_from_lem o k n (suc t)))
  where
    cs : List ℕ
    cs = firsts o t

    ds : List ℕ
    ds = firsts o t ++ o t ∷ []

    size : length (firsts o t ++ o t ∷ []) ≡ suc (length (firsts o t))
    size = omega (arith, length-append (firsts o t) (o t ∷ []))

    go : (b : Bool) → member (o t) (firsts o t) ≡ b
        → (length (firsts o (suc t)) < k → (choose_from o k n (suc t) (firsts o (suc t))).owners ≡ take k (firsts o (suc t + n)))
        → (cond b (choose_from o k n (suc t) cs) (cond (leb k (suc (length cs))) (record { owners = ds; probes = suc t }) (choose_from o k n (suc t) ds))).owners
        ≡ take k (firsts o (suc t + n))
    go true h ih =
        let f : firsts o (suc t) ≡ cs = rw h in
        rw f at (ih (omega (arith, ap length f)))
    go false h ih = step (leb k (suc (length cs))) refl
      where
        f : firsts o (suc t) ≡ firsts o t ++ o t ∷ []
        f = rw h

        step : (b : Bool) → leb k (suc (length cs)) ≡ b
            → (cond b (record { owners = ds; probes = suc t }) (choose_from o k n (suc t) ds)).owners ≡ take k (firsts o (suc t + n))
        step true e =
            sym (kept_firsts o k (suc t) n (omega (arith, ap length f, size, leb-true k (suc (length cs)) e)) ∙ ap (take k) f
            ∙ take_all k ds (omega (arith, size)))
        step false e = rw f at (ih (omega (arith, ap length f, size, leb-false k (suc (length cs)) e)))

-- with enough probes the answer is the first k different owners in probe order, else all that there are
pub choose_firsts : (o : ℕ → ℕ) (k : ℕ) → 1 ≤ k → (choose o k).owners ≡ take k (firsts o max_probes)
unfolding choose
choose_firsts o k l = choose_from_lem o k max_probes 0 (omega arith)

pub choose_distinct : (o : ℕ → ℕ) (k : ℕ) → 1 ≤ k → Distinct (choose o k).owners
choose_distinct o k l d = rw (choose_firsts o k l) (omega (arith, count_take d k (firsts o max_probes), firsts_distinct o max_probes d))
  where
    count_take : (d k : ℕ) (xs : List ℕ) → count d (take k xs) ≤ count d xs
    count_take d zero xs = omega arith
    count_take d (suc k) [] = omega arith
    count_take d (suc k) (x ∷ xs) = omega (arith, count_take d k xs)

-- copies of k begin with copies of k - 1
pub choose_prefix : (o : ℕ → ℕ) (k : ℕ) → 1 ≤ k → take k (choose o (suc k)).owners ≡ (choose o k).owners
choose_prefix o k l =
    rw (choose_firsts o (suc k) (omega arith), choose_firsts o k l) (take-take k (suc k) (firsts o max_probes) (omega arith))
