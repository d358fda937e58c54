-- A buffer that is written from the front on: what is done, and the rest as it was.
--
-- front_put (numbers behind those that are done), part_put (numbers in the rest, lent as a part), part_room (the room in it)
use mathlib.Core.Path.{◌≡◌, sym, ap, ◌∙◌, subst}
use mathlib.Core.List.{List, [], ◌++◌, append_assoc, append-nil}
use Prim.Native.Nat.{ℕ, ◌+◌, ◌-◌, ◌≤◌}
use native.Mathlib.Omega.{arith}
use lib.ListN.{length, take, drop, length-take, length-drop, drop_of_length-le}
use lib.Seq.{take_at, drop_at, take_all, drop-append-add, drop-drop}
use borrow.Rule.Slice.PartMut.{same_len_mid}

-- k numbers put at place i, behind what is done
pub front_put : (before done xs after after' : List ℕ) (i k : ℕ) → length done ≡ i → after ≡ done ++ drop i before
    → after' ≡ take i after ++ xs ++ drop (i + k) after → after' ≡ (done ++ xs) ++ drop (i + k) before
front_put before done xs after after' i k l e f =
    f ∙ rw (e, take_at done (drop i before) i l, skip)
  where
    skip : drop (i + k) (done ++ drop i before) ≡ drop (i + k) before
    skip =
        subst (λ (j : ℕ). drop (j + k) (done ++ drop i before) ≡ drop (i + k) before) l
        (drop-append-add done (drop i before) k ∙ drop-drop k i before)

-- k numbers written into the rest of a buffer from place i on, behind what is done
pub part_put : (before done xs after part : List ℕ) (i k : ℕ) → length done ≡ i → after ≡ done ++ drop i before
    → part ≡ xs ++ drop k (take (length after - i) (drop i after))
    → take i after ++ (part ++ drop (length after - i) (drop i after)) ≡ (done ++ xs) ++ drop (i + k) before
part_put before done xs after part i k l e f =
    let none : drop (length after - i) (drop i after) ≡ [] = drop_of_length-le (drop i after) {i = length after - i} (omega (arith, length-drop i after)) in
    let all : take (length after - i) (drop i after) ≡ drop i after = take_all (length after - i) (drop i after) (omega (arith, length-drop i after)) in
    let rest : drop i after ≡ drop i before = ap (drop i) e ∙ drop_at done (drop i before) i l in
    let front : take i after ≡ done = ap (take i) e ∙ take_at done (drop i before) i l in
    rw (none, append-nil, front, f, all, rest, drop-drop k i before) (sym (append_assoc done xs (drop (i + k) before)))

-- the room that is left then
pub part_room : (after part : List ℕ) (i end k : ℕ) → i ≤ length after → length part ≡ length (take (length after - i) (drop i after))
    → end + k ≤ length after → let next = take i after ++ (part ++ drop (length after - i) (drop i after)) in
    k ≤ length (take (length next - end) (drop end next))
part_room after part i end k h l e =
    let next : List ℕ = take i after ++ (part ++ drop (length after - i) (drop i after)) in
    let same : length next ≡ length after = same_len_mid i (length after - i) after part l in
    omega (arith, length-take (length next - end) (drop end next), length-drop end next)
