-- Where a text is cut: how the code finds the parts.
--
--   part_at xs n    the line of the text xs from place n on: what it says, and where the next one starts
use Rattle.std.specs.Prelude.{cond, List, ℕ, ◌+◌, Err, ltb, length, take, drop}
use Rattle.refusals.specs.declared.Refusal.TheVariants.{Shapeless}
use Rattle.history_lines.specs.declared.lines.Part.{Part}
use Rattle.history_lines.specs.Lines.{line_in}
use Rattle.history_numbers.specs.Cuts.{cut_at}
use Rattle.history_numbers.specs.Text.{line_end}

-- the line of a text from place n on. 'A last line with no line end is a line and is refused with 1.'
abbrev pub part_at : List ℕ → ℕ → Part
part_at xs n =
    let rest = drop n xs in
    let end = cut_at line_end rest in
    cond (ltb end (length rest)) (record { said = line_in (take end rest); next = n + end + 1 }) (record { said = Err Shapeless; next = length xs })
