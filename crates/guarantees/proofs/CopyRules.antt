-- Where the rules stop a lookup of copies, and what they find, by plain conditions: a line for each row of document 01's table 'Where a call stops' that
-- concerns copies. o t owns the point of probe t, n devices are present. The 2 of a pool that is not valid comes before them: Lookups.antt `copies-invalid`.
--
--   NoCopies o n k x t    the lookup of k copies is refused with x after t probes
--   HasCopies o n k       it is accepted
--   chosen o k            the outcome then: the first k different owners in probe order and then zeros, and the probes
-- Laws: no_copies, has_copies (the rules' outcome); copies_known (every lookup is refused or accepted so); no_copies_number, length_owners
use mathlib.Core.Path.{◌≡◌, refl, ap, ◌∙◌}
use mathlib.Core.Bool.{Bool, true, false}
use mathlib.Core.List.{◌++◌}
use Prim.Native.Nat.{ℕ, zero, suc, ◌-◌, ◌≤◌, ◌<◌, min}
use native.Mathlib.Omega.{arith}
use lib.Dec.{eqb, ltb}
use lib.ListN.{length, take, replicate, length-take, length-append, length-replicate}
use borrow.Author.Tests.{lt-ltb, le-ltb, ltb-true, ltb-false, eq-eqb, ne_eqb, eqb-true, eqb-false}
use Rattle.lookup_core.specs.Probes.{choose}
use Rattle.lookup_core.proofs.Choosing.{firsts, choose_firsts}
use Rattle.lookups.specs.Copies.{Outcome, refusal, copies_of}
use Rattle.guarantees.proofs.Conditions.{Inside, inside_false, inside_true, Decided, within, without, one_decided}

pub data NoCopies (o : ℕ → ℕ) (n k : ℕ) : ℕ → ℕ → Type 0 where
  -- k is 0 or above 8
  eleven : (Inside 8 k → ⊥) → NoCopies o n k 11 0
  -- no device
  ten : Inside 8 k → n ≡ 0 → NoCopies o n k 10 0
  -- fewer than k different owners in 256 tries: 256 tries are counted
  twelve : Inside 8 k → 1 ≤ n → length (firsts o 256) < k → NoCopies o n k 12 256

pub record HasCopies (o : ℕ → ℕ) (n k : ℕ) : Type 0 where
  pub asked : Inside 8 k
  pub some : 1 ≤ n
  pub enough : k ≤ length (firsts o 256)

abbrev pub chosen : (ℕ → ℕ) → ℕ → Outcome
chosen o k = record { number = 0; owners = take k (firsts o 256) ++ replicate (8 - k) 0; probes = (choose o k).probes }

module _ (o : ℕ → ℕ) (n k : ℕ) where
  size : 1 ≤ k → length (choose o k).owners ≡ min k (length (firsts o 256))
  size l = ap length (choose_firsts o k l) ∙ length-take k (firsts o 256)

  pub no_copies : {x t : ℕ} → NoCopies o n k x t → copies_of o n k ≡ refusal x t
  no_copies (eleven h) = rw (inside_true 8 k h)
  no_copies (ten i h) = rw (inside_false 8 k i, eq-eqb n 0 h)
  no_copies (twelve i l h) =
      rw (
        inside_false 8 k i,
        ne_eqb n 0 (λ z. omega (arith, z, l)),
        lt-ltb (length (choose o k).owners) k (omega (arith, size i.0)),
      )

  pub has_copies : HasCopies o n k → copies_of o n k ≡ chosen o k
  has_copies h =
      let m : length (choose o k).owners ≡ k = omega (arith, size h.asked.0, h.enough) in
      rw (
        inside_false 8 k h.asked,
        ne_eqb n 0 (λ z. omega (arith, z, h.some)),
        le-ltb (length (choose o k).owners) k (omega (arith, m)),
        m,
        choose_firsts o k h.asked.0,
      )

pub no_copies_number : {o : ℕ → ℕ} {n k x t : ℕ} → NoCopies o n k x t → x ≡ 0 → ⊥
no_copies_number (eleven h) e = omega (arith, e)
no_copies_number (ten i h) e = omega (arith, e)
no_copies_number (twelve i l h) e = omega (arith, e)

-- ---- there is no other outcome

pub data Known (o : ℕ → ℕ) (n k : ℕ) : Type 0 where
  missing : {x t : ℕ} → NoCopies o n k x t → Known o n k
  found : HasCopies o n k → Known o n k

above : (n : ℕ) → (n ≡ 0 → ⊥) → 1 ≤ n
above zero h = absurd (h refl)
above (suc n) h = omega arith

module _ (o : ℕ → ℕ) (n k : ℕ) where
  pub copies_known : Known o n k
  copies_known = go (one_decided 8 k) (eqb n 0) refl (ltb (length (firsts o 256)) k) refl
    where
      go : Decided (Inside 8 k) → (t : Bool) → eqb n 0 ≡ t → (u : Bool) → ltb (length (firsts o 256)) k ≡ u → Known o n k
      go (without h) t e u f = missing (eleven h)
      go (within i) true e u f = missing (ten i (eqb-true n 0 e))
      go (within i) false e true f = missing (twelve i (above n (eqb-false n 0 e)) (ltb-true (length (firsts o 256)) k f))
      go (within i) false e false f =
          found (record { asked = i; some = above n (eqb-false n 0 e); enough = ltb-false (length (firsts o 256)) k f })

  -- eight places
  pub length_owners : length (copies_of o n k).owners ≡ 8
  length_owners = go copies_known
    where
      go : Known o n k → length (copies_of o n k).owners ≡ 8
      go (missing h) = ap (λ u. length u.owners) (no_copies o n k h)
      go (found h) =
          ap (λ u. length u.owners) (has_copies o n k h)
          ∙ omega (
            arith,
            length-append (take k (firsts o 256)) (replicate (8 - k) 0),
            length-take k (firsts o 256),
            length-replicate {A = ℕ} (8 - k) 0,
            h.enough,
            h.asked.1,
          )
