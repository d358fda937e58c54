-- The examples of document 01, 'Marked for proof', on what the calls answer: K1 to K4 of `history::capacity`, K5 of `valid_pools::share`, K12 of
-- `lookups::point`. K6 to K11 are those of the rules, whose outcomes the changes answer (Changes.antt).
-- Document 01's example of a history, of `history::transcript`: example_printed_lem, empty_printed, unfinished_printed_lem.
use mathlib.Core.Path.{◌≡◌, ap, ◌∙◌}
use mathlib.Core.List.{List, [], ◌∷◌, ◌++◌}
use Prim.Native.Nat.{ℕ, ◌≤◌}
use native.Mathlib.Omega.{arith}
use lib.ListN.{length, get_or, drop}
use borrow.Author.Tests.{le-ltb}
use Rattle.std.specs.Prelude.{Result, Ok, Err}
use Rattle.refusals.specs.declared.Refusal.{Refusal}
use Rattle.refusals.specs.declared.Refusal.TheVariants.{Shapeless, Outside}
use Rattle.sha1_blocks.specs.Fips180.{bytes, digest}
use Rattle.slicing.specs.Changes.{fresh, add, remove, resize}
use Rattle.slicing.specs.Claims.{written}
use Rattle.slicing.specs.Devices.{device}
use Rattle.slicing.specs.Runs.{◌of◌}
use Rattle.slicing.specs.ShareRule.{shares}
use Rattle.slicing.specs.SixSteps.{move}
use Rattle.slicing.proofs.Cases.{after, next, three_devices}
use Rattle.pools.specs.Pools.{state_of, ValidPool}
use Rattle.valid_pools.specs.Promises.{Shared}
use Rattle.pools.specs.declared.Pool.{Pool}
use Rattle.lookup_core.specs.Probes.{point_of, scaled}
use Rattle.lookups.specs.Promises.{Located}
use Rattle.history_numbers.specs.Capacities.{CapacityRead}
use Rattle.history.specs.Promises.{Transcribed}
use Rattle.history.proofs.Examples as Examples
use Rattle.marked.proofs.Marked.{marked}
use Rattle.guarantees.proofs.Lookups.{point_inside}

-- ---- capacities

-- `3.2` is 3,200
pub K1 : (r : Result ℕ Refusal) → CapacityRead (0x33 ∷ 0x2e ∷ 0x32 ∷ []) r → r ≡ Ok 3200
K1 r k = k.answer ∙ marked.K1

-- `3,2` and `3.2e` give 1
pub K2 : (r s : Result ℕ Refusal) → CapacityRead (0x33 ∷ 0x2c ∷ 0x32 ∷ []) r → CapacityRead (0x33 ∷ 0x2e ∷ 0x32 ∷ 0x65 ∷ []) s
    → (r ≡ Err Shapeless) × (s ≡ Err Shapeless)
K2 r s k l = (k.answer ∙ marked.K2.0, l.answer ∙ marked.K2.1)

-- `0.000` gives 2
pub K3 : (r : Result ℕ Refusal) → CapacityRead (0x30 ∷ 0x2e ∷ 0x30 ∷ 0x30 ∷ 0x30 ∷ []) r → r ≡ Err Outside
K3 r k = k.answer ∙ marked.K3

-- `16000.000` is 16,000,000; `16000.001` gives 2 (Wish 1)
pub K4 : (r s : Result ℕ Refusal) → CapacityRead (0x31 ∷ 0x36 ∷ 0x30 ∷ 0x30 ∷ 0x30 ∷ 0x2e ∷ 0x30 ∷ 0x30 ∷ 0x30 ∷ []) r
    → CapacityRead (0x31 ∷ 0x36 ∷ 0x30 ∷ 0x30 ∷ 0x30 ∷ 0x2e ∷ 0x30 ∷ 0x30 ∷ 0x31 ∷ []) s → (r ≡ Ok 16000000) × (s ≡ Err Outside)
K4 r s k l = (k.answer ∙ marked.K4.0, l.answer ∙ marked.K4.1)

-- ---- shares

-- R = 100, three equal: shares 34, 33, 33
pub K5 : (p : Pool) → ValidPool p → (state_of p).range ≡ 100 → (state_of p).devices ≡ three_devices
    → (r s t : Result ℕ Refusal) → Shared p 1 r → Shared p 2 s → Shared p 3 t → (r ≡ Ok 34) × (s ≡ Ok 33) × (t ≡ Ok 33)
K5 p v e f r s t k l m =
    let a = marked.K5 in
    (k.valid v ∙ rw (e, f, a), l.valid v ∙ rw (e, f, a), m.valid v ∙ rw (e, f, a))

-- ---- changes: the pool after changes, each with a list of 16 places, and the outcome of one more (`after`, `next` of slicing proofs/Cases.antt)

-- after line 4 it is 0–33 to device 1, 34–66 to 3, 67–99 to 2
pub K6 : (after (fresh 100 16) (add 1 1000 ∷ add 2 1000 ∷ add 3 1000 ∷ [])).table ≡ (34 of 1) ∷ (33 of 3) ∷ (33 of 2) ∷ []
K6 = marked.K6

-- after line 6 it is 0–33 to 1, 34–66 to 3, 67–82 to 1, 83–99 to 3
pub K7 : (next (fresh 100 16) (add 1 1000 ∷ add 2 1000 ∷ add 3 1000 ∷ []) (remove 2)).state.table ≡ (34 of 1) ∷ (33 of 3) ∷ (16 of 1) ∷ (17 of 3) ∷ []
K7 = marked.K7

-- the table that is printed after line 7
pub K8 : (next (fresh 100 16) (add 1 1000 ∷ add 2 1000 ∷ add 3 1000 ∷ remove 2 ∷ []) (resize 3 3000)).state.table
    ≡ (9 of 1) ∷ (58 of 3) ∷ (16 of 1) ∷ (17 of 3) ∷ []
K8 = marked.K8

-- R = 100, M = 1: a second add of equal capacity gives 8; M = 2 accepts it
pub K9 : ((next (fresh 100 1) (add 1 1000 ∷ []) (add 2 1000)).number ≡ 8) × ((next (fresh 100 2) (add 1 1000 ∷ []) (add 2 1000)).number ≡ 0)
K9 = marked.K9

-- R = 1, M = 1: a second add of equal capacity and higher id is accepted and moves nothing; with a lower id it moves point 0
pub K10 : ((next (fresh 1 1) (add 5 1000 ∷ []) (add 6 1000)).number ≡ 0) × (written (next (fresh 1 1) (add 5 1000 ∷ []) (add 6 1000)) ≡ [])
    × ((next (fresh 1 1) (add 5 1000 ∷ []) (add 4 1000)).number ≡ 0) × (written (next (fresh 1 1) (add 5 1000 ∷ []) (add 4 1000)) ≡ move 0 1 5 4 ∷ [])
K10 = marked.K10

-- R = 10, capacities 0.143, 0.857, then 0.030: shares 1, 9 stay 1, 9, the new disk gets 0, and nothing moves (Wish 4)
pub K11 : (shares 10 (device 1 143 ∷ device 2 857 ∷ []) ≡ (1 of 1) ∷ (9 of 2) ∷ [])
    × (shares 10 (device 1 143 ∷ device 2 857 ∷ device 3 30 ∷ []) ≡ (1 of 1) ∷ (9 of 2) ∷ (0 of 3) ∷ [])
    × ((next (fresh 10 16) (add 1 143 ∷ add 2 857 ∷ []) (add 3 30)).number ≡ 0)
    × (written (next (fresh 10 16) (add 1 143 ∷ add 2 857 ∷ []) (add 3 30)) ≡ [])
K11 = marked.K11

-- ---- points

-- the first word of the digest of the twelve bytes
abbrev pub hashed : ℕ → ℕ → ℕ
hashed block t = get_or (digest (bytes 8 block ++ bytes 4 t)) 0 0

-- R = 100: h = 2,147,483,648 is point 50, h = 4,294,967,295 is 99
pub K12 : (block t : ℕ) (r : Result ℕ Refusal) → t ≤ 255 → Located block t 100 r
    → (hashed block t ≡ 2147483648 → r ≡ Ok 50) × (hashed block t ≡ 4294967295 → r ≡ Ok 99)
unfolding point_of
K12 block t r l k =
    let a = (point_inside block t 100 r k l (omega arith, omega arith)).0 in (
      (λ h. a ∙ ap (λ y. Ok y) (ap (λ x. scaled x 100) h ∙ marked.K12.0)),
      (λ h. a ∙ ap (λ y. Ok y) (ap (λ x. scaled x 100) h ∙ marked.K12.1)),
    )

-- ---- the example of document 01, 'History text'

-- range 100 16, add 1 1.000, add 2 1, add 3 1.0, add 3 3,2, remove 2, resize 3 3
abbrev pub example_text : List ℕ
example_text =
    0x72 ∷ 0x61 ∷ 0x6e ∷ 0x67 ∷ 0x65 ∷ 0x20 ∷ 0x31 ∷ 0x30 ∷ 0x30 ∷ 0x20 ∷ 0x31 ∷ 0x36 ∷ 0x0a ∷
    0x61 ∷ 0x64 ∷ 0x64 ∷ 0x20 ∷ 0x31 ∷ 0x20 ∷ 0x31 ∷ 0x2e ∷ 0x30 ∷ 0x30 ∷ 0x30 ∷ 0x0a ∷
    0x61 ∷ 0x64 ∷ 0x64 ∷ 0x20 ∷ 0x32 ∷ 0x20 ∷ 0x31 ∷ 0x0a ∷
    0x61 ∷ 0x64 ∷ 0x64 ∷ 0x20 ∷ 0x33 ∷ 0x20 ∷ 0x31 ∷ 0x2e ∷ 0x30 ∷ 0x0a ∷
    0x61 ∷ 0x64 ∷ 0x64 ∷ 0x20 ∷ 0x33 ∷ 0x20 ∷ 0x33 ∷ 0x2c ∷ 0x32 ∷ 0x0a ∷
    0x72 ∷ 0x65 ∷ 0x6d ∷ 0x6f ∷ 0x76 ∷ 0x65 ∷ 0x20 ∷ 0x32 ∷ 0x0a ∷
    0x72 ∷ 0x65 ∷ 0x73 ∷ 0x69 ∷ 0x7a ∷ 0x65 ∷ 0x20 ∷ 0x33 ∷ 0x20 ∷ 0x33 ∷ 0x0a ∷ []

-- 1 0 0 0, 2 0 0 0, 3 0 50 1, 4 0 33 2, 5 1 0 0, 6 0 33 2, 7 0 25 1, table, 0 9 1, 9 58 3, 67 16 1, 83 17 3
abbrev pub example_printed : List ℕ
example_printed =
    0x31 ∷ 0x20 ∷ 0x30 ∷ 0x20 ∷ 0x30 ∷ 0x20 ∷ 0x30 ∷ 0x0a ∷
    0x32 ∷ 0x20 ∷ 0x30 ∷ 0x20 ∷ 0x30 ∷ 0x20 ∷ 0x30 ∷ 0x0a ∷
    0x33 ∷ 0x20 ∷ 0x30 ∷ 0x20 ∷ 0x35 ∷ 0x30 ∷ 0x20 ∷ 0x31 ∷ 0x0a ∷
    0x34 ∷ 0x20 ∷ 0x30 ∷ 0x20 ∷ 0x33 ∷ 0x33 ∷ 0x20 ∷ 0x32 ∷ 0x0a ∷
    0x35 ∷ 0x20 ∷ 0x31 ∷ 0x20 ∷ 0x30 ∷ 0x20 ∷ 0x30 ∷ 0x0a ∷
    0x36 ∷ 0x20 ∷ 0x30 ∷ 0x20 ∷ 0x33 ∷ 0x33 ∷ 0x20 ∷ 0x32 ∷ 0x0a ∷
    0x37 ∷ 0x20 ∷ 0x30 ∷ 0x20 ∷ 0x32 ∷ 0x35 ∷ 0x20 ∷ 0x31 ∷ 0x0a ∷
    0x74 ∷ 0x61 ∷ 0x62 ∷ 0x6c ∷ 0x65 ∷ 0x0a ∷
    0x30 ∷ 0x20 ∷ 0x39 ∷ 0x20 ∷ 0x31 ∷ 0x0a ∷
    0x39 ∷ 0x20 ∷ 0x35 ∷ 0x38 ∷ 0x20 ∷ 0x33 ∷ 0x0a ∷
    0x36 ∷ 0x37 ∷ 0x20 ∷ 0x31 ∷ 0x36 ∷ 0x20 ∷ 0x31 ∷ 0x0a ∷
    0x38 ∷ 0x33 ∷ 0x20 ∷ 0x31 ∷ 0x37 ∷ 0x20 ∷ 0x33 ∷ 0x0a ∷ []

-- 'Empty input prints `table` alone.'
abbrev pub table_printed : List ℕ
table_printed = 0x74 ∷ 0x61 ∷ 0x62 ∷ 0x6c ∷ 0x65 ∷ 0x0a ∷ []

-- 'A last line with no line end is a line and is refused with 1': range 5 1, and add 1 1 with no line end
abbrev pub unfinished_text : List ℕ
unfinished_text =
    0x72 ∷ 0x61 ∷ 0x6e ∷ 0x67 ∷ 0x65 ∷ 0x20 ∷ 0x35 ∷ 0x20 ∷ 0x31 ∷ 0x0a ∷
    0x61 ∷ 0x64 ∷ 0x64 ∷ 0x20 ∷ 0x31 ∷ 0x20 ∷ 0x31 ∷ []

-- 1 0 0 0, 2 1 0 0, table
abbrev pub unfinished_printed : List ℕ
unfinished_printed =
    0x31 ∷ 0x20 ∷ 0x30 ∷ 0x20 ∷ 0x30 ∷ 0x20 ∷ 0x30 ∷ 0x0a ∷
    0x32 ∷ 0x20 ∷ 0x31 ∷ 0x20 ∷ 0x30 ∷ 0x20 ∷ 0x30 ∷ 0x0a ∷
    0x74 ∷ 0x61 ∷ 0x62 ∷ 0x6c ∷ 0x65 ∷ 0x0a ∷ []

module _ (before : List ℕ) (r : Result ℕ Refusal) (after : List ℕ) (l : 3145728 ≤ length before) where
  pub example_printed_lem : Transcribed example_text before r after → (r ≡ Ok 95) × (after ≡ example_printed ++ drop 95 before)
  example_printed_lem k =
      let e = le-ltb (length before) 3145728 l in
      (k.answer ∙ rw (e, Examples.printed), k.buffer ∙ rw (e, Examples.printed))

  pub empty_printed : Transcribed [] before r after → (r ≡ Ok 6) × (after ≡ table_printed ++ drop 6 before)
  empty_printed k =
      let e = le-ltb (length before) 3145728 l in
      (k.answer ∙ rw (e, Examples.none), k.buffer ∙ rw (e, Examples.none))

  pub unfinished_printed_lem : Transcribed unfinished_text before r after → (r ≡ Ok 22) × (after ≡ unfinished_printed ++ drop 22 before)
  unfinished_printed_lem k =
      let e = le-ltb (length before) 3145728 l in
      (k.answer ∙ rw (e, Examples.unfinished), k.buffer ∙ rw (e, Examples.unfinished))
