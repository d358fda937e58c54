-- Rows of three numbers, written behind one another.
--
-- devices: length_devices_with, devices_put (a device behind those that are done)
-- intervals: length_intervals_as, intervals_put (an interval behind those that are done)
use mathlib.Core.Path.{◌≡◌, refl, ap, ◌∙◌}
use mathlib.Core.List.{List, [], ◌∷◌, ◌++◌}
use Prim.Native.Nat.{ℕ, zero, suc, ◌+◌, ◌*◌, ◌/◌, ◌%◌}
use native.Mathlib.Omega.{arith}
use native.Mathlib.Nat.{suc-add, add-zero, zero-add}
use lib.ListN.{length, take, drop}
use Rattle.slicing.specs.Devices.{Device}
use Rattle.slicing.specs.Runs.{Run, ◌of◌, total, relabel, intervals}
use Rattle.slicing_core.specs.Rows.{at, device_rows}
use Rattle.slicing_core.proofs.Fronts.{front_put}
use Rattle.slicing_core.proofs.Rows.{length_device_rows}
use Rattle.packed_runs.specs.Words.{runs}
use Rattle.opened.proofs.RowNames.{length_relabel, length_runs}
use Rattle.image_rows.specs.Promises.{devices_with, intervals_as}

-- a row behind i rows
row_put : (before done done' row after after' : List ℕ) (i : ℕ) → length done ≡ 3 * i → done' ≡ done ++ row → after ≡ done ++ drop (3 * i) before
    → after' ≡ take (3 * i) after ++ row ++ drop (3 * i + 3) after → after' ≡ done' ++ drop (3 * (i + 1)) before
row_put before done done' row after after' i l d e f =
    let n : 3 * i + 3 ≡ 3 * (i + 1) = omega arith in
    front_put before done row after after' (3 * i) 3 l e f ∙ rw (d, n)

-- ---- devices

pub length_devices_with : (f : ℕ → ℕ) (ds : List Device) → length (devices_with f ds) ≡ 3 * length ds
length_devices_with f [] = refl
length_devices_with f (e ∷ ds) = omega (arith, length_devices_with f ds)

devices_with_snoc : (f : ℕ → ℕ) (d c : List ℕ) (i n : ℕ)
    → devices_with f (device_rows d c i (n + 1)) ≡ devices_with f (device_rows d c i n) ++ (at d (i + n) ∷ at c (i + n) ∷ f (at d (i + n)) ∷ [])
devices_with_snoc f d c i zero = rw (add-zero i)
devices_with_snoc f d c i (suc n) =
    let e : i + suc n ≡ suc i + n = omega arith in
    rw (suc-add n 1, e) (ap (λ r. at d i ∷ at c i ∷ f (at d i) ∷ r) (devices_with_snoc f d c (suc i) n))

pub devices_put : (f : ℕ → ℕ) (d c before after after' : List ℕ) (i x : ℕ) → x ≡ f (at d i)
    → after ≡ devices_with f (device_rows d c 0 i) ++ drop (3 * i) before
    → after' ≡ take (3 * i) after ++ (at d i ∷ at c i ∷ x ∷ []) ++ drop (3 * i + 3) after
    → after' ≡ devices_with f (device_rows d c 0 (i + 1)) ++ drop (3 * (i + 1)) before
devices_put f d c before after after' i x e =
    let done : List ℕ = devices_with f (device_rows d c 0 i) in
    let size : length done ≡ 3 * i = length_devices_with f (device_rows d c 0 i) ∙ ap (λ n. 3 * n) (length_device_rows d c 0 i) in
    row_put before done (devices_with f (device_rows d c 0 (i + 1))) (at d i ∷ at c i ∷ x ∷ []) after after' i size
    (devices_with_snoc f d c 0 i ∙ rw (zero-add i, e))

-- ---- intervals

pub length_intervals_as : (p : ℕ) (rs : List (Run ℕ)) → length (intervals_as (intervals p rs)) ≡ 3 * length rs
length_intervals_as p [] = refl
length_intervals_as p ((n of d) ∷ rs) = omega (arith, length_intervals_as (p + n) rs)

intervals_as_snoc : (f : ℕ → ℕ) (xs : List ℕ) (p i n : ℕ)
    → intervals_as (intervals p (relabel f (runs xs i (n + 1))))
    ≡ intervals_as (intervals p (relabel f (runs xs i n))) ++ ((p + total (runs xs i n)) ∷ at xs (i + n) / 65536 ∷ f (at xs (i + n) % 65536) ∷ [])
intervals_as_snoc f xs p i zero = rw (add-zero i, add-zero p)
intervals_as_snoc f xs p i (suc n) =
    let e : i + suc n ≡ suc i + n = omega arith in
    let s : ℕ = at xs i / 65536 in
    let t : p + (s + total (runs xs (suc i) n)) ≡ p + s + total (runs xs (suc i) n) = omega arith in
    rw (suc-add n 1, e, t) (ap (λ r. p ∷ s ∷ f (at xs i % 65536) ∷ r) (intervals_as_snoc f xs (p + s) (suc i) n))

pub intervals_put : (f : ℕ → ℕ) (xs before after after' : List ℕ) (i start : ℕ) → start ≡ total (runs xs 0 i)
    → after ≡ intervals_as (intervals 0 (relabel f (runs xs 0 i))) ++ drop (3 * i) before
    → after' ≡ take (3 * i) after ++ (start ∷ at xs i / 65536 ∷ f (at xs i % 65536) ∷ []) ++ drop (3 * i + 3) after
    → after' ≡ intervals_as (intervals 0 (relabel f (runs xs 0 (i + 1)))) ++ drop (3 * (i + 1)) before
intervals_put f xs before after after' i start e =
    let done : List (Run ℕ) = relabel f (runs xs 0 i) in
    let size : length (intervals_as (intervals 0 done)) ≡ 3 * i =
    length_intervals_as 0 done ∙ ap (λ n. 3 * n) (length_relabel f (runs xs 0 i) ∙ length_runs xs 0 i) in
    row_put before (intervals_as (intervals 0 done)) (intervals_as (intervals 0 (relabel f (runs xs 0 (i + 1)))))
    (start ∷ at xs i / 65536 ∷ f (at xs i % 65536) ∷ []) after after' i size
    (intervals_as_snoc f xs 0 0 i ∙ rw (zero-add i, zero-add (total (runs xs 0 i)), e))
