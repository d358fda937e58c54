-- Numbers as `slices` prints them. Renders document 01, 'History text'.
--
--   digits k n          the decimal digits of a number, at most k
--   decimal n           the decimal digits of a number
--   fields ns           a printed line of numbers
--   printed_rows is      what is printed of the intervals of a table
use Rattle.std.specs.Prelude.{cond, List, [], ◌∷◌, ◌++◌, ℕ, zero, suc, ◌+◌, ◌/◌, ◌%◌, ltb}
use Rattle.slicing.specs.Runs.{Interval}
use Rattle.history_numbers.specs.Text.{line_end, space, zero_digit}

-- at most k digits
abbrev pub digits : ℕ → ℕ → List ℕ
digits zero n = []
digits (suc k) n = let high = digits k (n / 10) in cond (ltb n 10) ((zero_digit + n) ∷ []) (high ++ (zero_digit + n % 10) ∷ [])

-- 'fields in decimal'
unfoldable pub decimal : ℕ → List ℕ
decimal n = digits 20 n

-- 'with one space between', 'Printed lines end in 0A too'
abbrev pub fields : List ℕ → List ℕ
fields [] = line_end ∷ []
fields (n ∷ []) = decimal n ++ line_end ∷ []
fields (n ∷ m ∷ ns) = decimal n ++ space ∷ fields (m ∷ ns)

-- 'start, length and owner of each interval'
abbrev pub printed_rows : List Interval → List ℕ
printed_rows [] = []
printed_rows (i ∷ is) = fields (i.start ∷ i.size ∷ i.owner ∷ []) ++ printed_rows is
