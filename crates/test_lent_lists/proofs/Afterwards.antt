-- What a change on a list of its own promises, from the list that was lent and the list that came back.
--     lends_front      the list afterwards is what came back, and the places that were not lent
use mathlib.Core.Path.{◌≡◌, sym, ◌∙◌, ap, subst}
use Prim.Native.Nat.{ℕ, ◌≤◌, min}
use native.Mathlib.Omega.{arith}
use mathlib.Core.List.{List, ◌++◌}
use lib.ListN.{length, take, drop, replicate, length-replicate}
use lib.Seq.{length-take-le, take_at}
use Rattle.calls.specs.declared.Call.{Call}
use Rattle.placement.specs.declared.ChangeAnswer.{ChangeAnswer}
use Rattle.pools.specs.declared.Pool.{Pool}
use Rattle.calls.specs.Calls.{change_of}
use Rattle.slicing.specs.Changes.{Change}
use Rattle.packed_runs.specs.Words.{room}
use Rattle.placement.specs.Promises.{Changed}
use Rattle.placement.specs.declared.Move.{Move}
use Rattle.test_lent_lists.specs.Promises.{blanks, Lends}

-- the list that came back is the first part of the whole
back : {p : Pool} {k : Change} {r : ChangeAnswer} (m n size : ℕ) (blank : Move) (xs zs : List Move) → xs ≡ replicate size blank → n ≡ min m size
    → length zs ≡ length (take n xs) → Changed p (take n xs) k r zs → Changed p (take (min m size) (replicate size blank)) k r (take (min m size) (zs ++ drop n xs))
back {p} {k} {r} m n size blank xs zs e count l h =
    let long : n ≤ length xs = omega (arith, ap length e, length-replicate size blank) in
    let front : length zs ≡ n = l ∙ length-take-le n xs long in
    rw (← e, ← count, take_at zs (drop n xs) n front) h

pub lends_front : {p : Pool} {c : Call} (k : Call) {places n : ℕ} {xs zs : List Move} {r : ChangeAnswer} → c ≡ k → xs ≡ blanks → n ≡ min places room
    → length zs ≡ length (take n xs) → Changed p (take n xs) (change_of k) r zs
    → Lends p (change_of c) places (record { answer = r; list = zs ++ drop n xs })
lends_front {p} k {places} {n} {xs} {zs} {r} e blank count l h =
    subst (λ (x : Call). Lends p (change_of x) places (record { answer = r; list = zs ++ drop n xs })) (sym e)
    (record { changed = back places n room (record { start = 7; length = 7; from = 7; to = 7 }) xs zs blank count l h })
