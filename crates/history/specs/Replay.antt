-- The replay of a history. Renders document 01, 'History text'.
--
--   printed_line, printed_table    what `slices` prints of a line, of a table
--   replay h n ps       what it prints of the parts ps of a text, the first being line n
--   replayed, transcript xs   what it prints of a text, at most 65,536 bytes long or any
use Rattle.std.specs.Prelude.{cond, List, [], ◌∷◌, ◌++◌, ℕ, suc, ltb, length}
use Rattle.slicing.specs.Changes.{State}
use Rattle.slicing.specs.Runs.{intervals}
use Rattle.history_numbers.specs.Text.{line_end, split}
use Rattle.history_lines.specs.Lines.{line_in}
use Rattle.history_printing.specs.Printing.{fields, printed_rows}
use Rattle.history_steps.specs.Steps.{Reading, start, Result, refusal, applied}

-- 'Each line gives: line number, refusal number or 0, moved points, number of moves.'
abbrev pub printed_line : ℕ → Result → List ℕ
printed_line n r = fields (n ∷ r.number ∷ r.moved ∷ r.count ∷ [])

-- 'Then comes `table`'
abbrev pub printed_table : State → List ℕ
printed_table s = 0x74 ∷ 0x61 ∷ 0x62 ∷ 0x6c ∷ 0x65 ∷ line_end ∷ printed_rows (intervals 0 s.table)

-- 'A refused line changes nothing and reading goes on. A last line with no line end is a line and is refused with 1.' The last part
-- is what stands behind the last line end
abbrev pub replay : Reading → ℕ → List (List ℕ) → List ℕ
replay h n [] = printed_table h.pool
replay h n ([] ∷ []) = printed_table h.pool
replay h n ((b ∷ p) ∷ []) = printed_line n (refusal h 1) ++ printed_table h.pool
replay h n (p ∷ q ∷ ps) =
    let r = applied h (line_in p) in
    let rest = replay r.after (suc n) (q ∷ ps) in
    printed_line n r ++ rest

-- 'The program `slices` reads at most 65,536 bytes of history; for more it prints only `too long`.'
abbrev pub max_text : ℕ
max_text = 65536

abbrev pub too_long : List ℕ
too_long = 0x74 ∷ 0x6f ∷ 0x6f ∷ 0x20 ∷ 0x6c ∷ 0x6f ∷ 0x6e ∷ 0x67 ∷ line_end ∷ []

unfoldable pub replayed : List ℕ → List ℕ
replayed xs = replay start 1 (split line_end xs)

unfoldable pub transcript : List ℕ → List ℕ
transcript xs = cond (ltb max_text (length xs)) too_long (replayed xs)
