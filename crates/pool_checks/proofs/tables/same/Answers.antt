-- `pool_checks::tables::same` meets its contract: two lists of one length are equal where their numbers are, at each place.
use mathlib.Core.Path.{◌≡◌, refl, ap}
use mathlib.Core.Bool.{Bool, true, false, false≢true}
use mathlib.Core.List.{List}
use Prim.Native.Nat.{ℕ, ◌≤◌, ◌<◌}
use native.Mathlib.Omega.{arith}
use lib.ListN.{length, get_or, take}
use Rattle.std.proofs.Common.{rules, tests}
use Rattle.std.specs.Bool as Tests
use Rattle.std.proofs.lemmas.Grind.{same_number_lists}
use Rattle.std.proofs.lemmas.Iterator.{YieldsList-from_slice, YieldsList-from_zip, same_from_all}
use Rattle.std.proofs.lemmas.List.{get_or-take, length-take}
use Rattle.slicing_core.specs.Rows.{at}
use Rattle.slicing_core.specs.Stages.{Decides}
use Rattle.pool_checks.proofs.tables.same.Goals as goal

same_parts : (xs ys : List ℕ) (n : ℕ) → n ≤ length xs → n ≤ length ys → (b : Bool) → Tests.Decides b (take n xs ≡ take n ys)
    → Decides b ((i : ℕ) → i < n → at xs i ≡ at ys i)
same_parts xs ys n l m true e =
    λ i h. rw (get_or-take n xs i 0 h, get_or-take n ys i 0 h) at (ap (λ zs. get_or zs i 0) (e.0 refl))
same_parts xs ys n l m false e =
    λ f.
    let few : length (take n xs) ≡ n = omega (arith, length-take n xs) in
    false≢true (e.1 (same_number_lists (take n xs) (take n ys) (omega (arith, few, length-take n ys))
    (λ k h. rw (get_or-take n xs k 0 (omega (arith, few)), get_or-take n ys k 0 (omega (arith, few))) (f k (omega (arith, few))))))

pub returns : goal.returns
returns c =
    let has = c.args.has.now in
    let due = c.args.due.now in
    same_parts has due c.args.n (omega (arith, c.requires, c.told-has)) (omega (arith, c.requires, c.told-due)) c.all.result
    (same_from_all c.all.new.self _ _ _ _ c.all.ensures.ran (YieldsList-from_zip (YieldsList-from_slice _ (grind arith)) (YieldsList-from_slice _ (grind arith))) (search rules)
    (λ x q k. search (rules, tests)) (λ x q k. search (rules, tests)))
