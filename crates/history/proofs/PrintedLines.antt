-- How many lines are printed: one for each line of a text, one for `table`, one for each interval.
--
-- numbers: line_ends_decimal, line_ends_spaced (digits and spaces are no line ends), fields_spaced, line_ends_fields (a printed line has
-- one line end, its last byte)
-- lines: line_ends_lines, line_ends_table, line_ends_replay, line_ends_replayed
use mathlib.Core.Path.{◌≡◌, refl, sym, ap, ◌∙◌}
use mathlib.Core.Bool.{Bool, true, false, cond}
use mathlib.Core.List.{List, [], ◌∷◌, ◌++◌, append_assoc}
use Prim.Native.Nat.{ℕ, zero, suc, ◌+◌, ◌/◌, ◌%◌}
use native.Mathlib.Omega.{arith}
use lib.Dec.{ltb}
use lib.ListN.{length}
use borrow.Author.Tests.{ne_eqb}
use Rattle.slicing.specs.Runs.{Interval, intervals}
use Rattle.slicing.specs.Changes.{State}
use Rattle.slicing.proofs.Counting.{count_append}
use Rattle.history_lines.specs.Lines.{line_in}
use Rattle.history_numbers.specs.Text.{line_end, space, zero_digit, split}
use Rattle.history_printing.specs.Printing.{digits, decimal, fields, printed_rows}
use Rattle.history_steps.specs.Steps.{Reading, start, Result, applied}
use Rattle.history.specs.Histories.{all_but_last, line_ends, line_count, read_all, pool_after, spaced, printed_lines}
use Rattle.history.specs.Replay.{printed_table, replay, replayed}
use Rattle.history.proofs.ReplayLaws.{replay_cons}

-- ---- numbers

digit_byte : (d : ℕ) → line_ends ((zero_digit + d) ∷ []) ≡ 0
digit_byte d = rw (ne_eqb line_end (zero_digit + d) (λ e. omega (arith, e)))

line_ends_digits : (k n : ℕ) → line_ends (digits k n) ≡ 0
line_ends_digits zero n = refl
line_ends_digits (suc k) n = go (ltb n 10) (line_ends_digits k (n / 10))
  where
    go : (t : Bool) → line_ends (digits k (n / 10)) ≡ 0
        → line_ends (cond t ((zero_digit + n) ∷ []) (digits k (n / 10) ++ (zero_digit + n % 10) ∷ [])) ≡ 0
    go true e = digit_byte n
    go false e =
        omega (arith, count_append line_end (digits k (n / 10)) ((zero_digit + n % 10) ∷ []), e, digit_byte (n % 10))

pub line_ends_decimal : (n : ℕ) → line_ends (decimal n) ≡ 0
unfolding decimal
line_ends_decimal n = line_ends_digits 20 n

pub line_ends_spaced : (ns : List ℕ) → line_ends (spaced ns) ≡ 0
line_ends_spaced [] = refl
line_ends_spaced (n ∷ []) = line_ends_decimal n
line_ends_spaced (n ∷ m ∷ ns) =
    omega (arith, count_append line_end (decimal n) (space ∷ spaced (m ∷ ns)), line_ends_decimal n, line_ends_spaced (m ∷ ns))

pub fields_spaced : (ns : List ℕ) → fields ns ≡ spaced ns ++ line_end ∷ []
fields_spaced [] = refl
fields_spaced (n ∷ []) = refl
fields_spaced (n ∷ m ∷ ns) =
    ap (λ r. decimal n ++ space ∷ r) (fields_spaced (m ∷ ns)) ∙ sym (append_assoc (decimal n) (space ∷ spaced (m ∷ ns)) (line_end ∷ []))

pub line_ends_fields : (ns : List ℕ) → line_ends (fields ns) ≡ 1
line_ends_fields ns =
    ap line_ends (fields_spaced ns) ∙ count_append line_end (spaced ns) (line_end ∷ []) ∙ ap (λ n. n + 1) (line_ends_spaced ns)

-- ---- lines

-- a line is printed, and then what follows
pub line_ends_then : (ns xs : List ℕ) → line_ends (fields ns ++ xs) ≡ suc (line_ends xs)
line_ends_then ns xs = omega (arith, count_append line_end (fields ns) xs, line_ends_fields ns)

line_ends_rows : (is : List Interval) → line_ends (printed_rows is) ≡ length is
line_ends_rows [] = refl
line_ends_rows (i ∷ is) = line_ends_then (i.start ∷ i.size ∷ i.owner ∷ []) (printed_rows is) ∙ ap suc (line_ends_rows is)

pub line_ends_table : (s : State) → line_ends (printed_table s) ≡ 1 + length (intervals 0 s.table)
line_ends_table s = omega (arith, line_ends_rows (intervals 0 s.table))

pub line_ends_lines : (h : Reading) (n : ℕ) (ps : List (List ℕ)) → line_ends (printed_lines h n ps) ≡ length ps
line_ends_lines h n [] = refl
line_ends_lines h n (p ∷ ps) =
    line_ends_then (n ∷ r.number ∷ r.moved ∷ r.count ∷ []) (printed_lines r.after (suc n) ps) ∙ ap suc (line_ends_lines r.after (suc n) ps)
  where
    r : Result
    r = applied h (line_in p)

pub line_ends_replay : (h : Reading) (n : ℕ) (ps : List (List ℕ))
    → line_ends (replay h n ps) ≡ line_count ps + 1 + length (intervals 0 (read_all h (all_but_last ps)).pool.table)
line_ends_replay h n [] = omega (arith, line_ends_table h.pool)
line_ends_replay h n ([] ∷ []) = omega (arith, line_ends_table h.pool)
line_ends_replay h n ((b ∷ p) ∷ []) = omega (arith, line_ends_then (n ∷ 1 ∷ 0 ∷ 0 ∷ []) (printed_table h.pool), line_ends_table h.pool)
line_ends_replay h n (p ∷ q ∷ ps) =
    omega (
      arith,
      ap line_ends (replay_cons h n p (q ∷ ps) (omega arith)),
      line_ends_then (n ∷ r.number ∷ r.moved ∷ r.count ∷ []) (replay r.after (suc n) (q ∷ ps)),
      line_ends_replay r.after (suc n) (q ∷ ps),
    )
  where
    r : Result
    r = applied h (line_in p)

pub line_ends_replayed : (xs : List ℕ) → line_ends (replayed xs) ≡ line_count (split line_end xs) + 1 + length (intervals 0 (pool_after xs).table)
unfolding replayed
line_ends_replayed xs = line_ends_replay start 1 (split line_end xs)
