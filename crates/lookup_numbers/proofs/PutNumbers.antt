-- Numbers put into their places.
--
-- owners_put (an owner more), owners_all (all eight)
-- put_row (a row of ten numbers), put_zeros (the row of a refusal)
use mathlib.Core.Path.{◌≡◌, refl, sym, ap, ◌∙◌}
use mathlib.Core.List.{List, [], ◌∷◌, ◌++◌}
use Prim.Native.Nat.{ℕ, ◌+◌, ◌≤◌, ◌<◌}
use native.Mathlib.Numerals.{add-one}
use native.Mathlib.Omega.{arith}
use lib.ListN.{length, set, get_or, take, drop, replicate}
use lib.Seq.{take_all, drop-cons, set_at, paste, paste-suc}

pub owners_put : (before owners row : List ℕ) (i d : ℕ) → length owners ≡ 8 → 10 ≤ length before → i < 8 → d ≡ get_or owners i 0
    → row ≡ paste before 1 owners i → set row (i + 1) d ≡ paste before 1 owners (i + 1)
owners_put before owners row i d l h b e f =
    let p : i + 1 ≡ 1 + i = omega arith in
    rw (f, e) (ap (λ j. set (paste before 1 owners i) j (get_or owners i 0)) p
    ∙ paste-suc before 1 owners i 0 (omega arith) (omega arith)
    ∙ ap (paste before 1 owners) (sym (add-one i)))

pub owners_all : (before owners row : List ℕ) (i : ℕ) → length owners ≡ 8 → i ≡ 8 → row ≡ paste before 1 owners i
    → row ≡ take 1 before ++ owners ++ drop 9 before
owners_all before owners row i l e f = f ∙ rw (e, take_all 8 owners (omega arith))

-- a number, eight owners and the probes
pub put_row : (row owners row' : List ℕ) (n p : ℕ) → length owners ≡ 8 → 10 ≤ length row
    → row' ≡ take 1 (set row 0 n) ++ owners ++ drop 9 (set row 0 n) → set row' 9 p ≡ n ∷ owners ++ p ∷ drop 10 row
put_row [] owners row' n p e h f = absurd (omega arith)
put_row (x ∷ row) owners row' n p e h f =
    ap (λ ys. set ys 9 p) f ∙ ap (λ ys. set ((n ∷ owners) ++ ys) 9 p) (drop-cons row 8 0 (omega arith))
    ∙ set_at (n ∷ owners) _ (drop 9 row) p 9 (omega arith)

pub put_zeros : (row row' : List ℕ) (n : ℕ) → 10 ≤ length row → row' ≡ take 1 (set row 0 n) ++ replicate 8 0 ++ drop 9 (set row 0 n)
    → set row' 9 0 ≡ n ∷ replicate 9 0 ++ drop 10 row
put_zeros row row' n h f = put_row row (replicate 8 0) row' n 0 refl h f
