-- One line of a text after another: `part_at`.
--
--   rest_at, end_at xs n         the text from place n on, and where its first line ends in it
--   ended_part, unended_part xs n    the line with a line end behind it, and the one without
--
-- part_cases                 a part is one of the two
-- part_fits                  what it says is within its limits
-- part_refused               the number that refuses it is at most 2
-- part_above, part_within    the next one starts behind its place, within the text
use mathlib.Core.Path.{◌≡◌, refl, sym, subst}
use mathlib.Core.Bool.{Bool, true, false, cond}
use mathlib.Core.List.{List}
use Prim.Native.Nat.{ℕ, ◌+◌, ◌≤◌, ◌<◌}
use native.Mathlib.Omega.{arith}
use lib.Dec.{ltb}
use lib.ListN.{length, take, drop, length-drop}
use borrow.Author.Tests.{ltb-true, ltb-false}
use Rattle.std.specs.Prelude.{Err}
use Rattle.refusals.specs.Replies.{number}
use Rattle.refusals.specs.declared.Refusal.{Refusal}
use Rattle.refusals.specs.declared.Refusal.TheVariants.{Shapeless}
use Rattle.history_lines.specs.declared.lines.Part.{Part}
use Rattle.history_numbers.specs.Cuts.{cut_at}
use Rattle.history_lines.specs.Cuts.{part_at}
use Rattle.history_lines.specs.Lines.{line_in}
use Rattle.history_numbers.specs.Text.{line_end}
use Rattle.history_lines.proofs.LineLimits.{Fits, shapeless, line_in_fits}
use Rattle.history_numbers.proofs.Splitting.{cut_at_below}

module _ (xs : List ℕ) (n : ℕ) where
  abbrev pub rest_at : List ℕ
  rest_at = drop n xs

  abbrev pub end_at : ℕ
  end_at = cut_at line_end rest_at

  abbrev pub ended_part : Part
  ended_part = record { said = line_in (take end_at rest_at); next = n + end_at + 1 }

  abbrev pub unended_part : Part
  unended_part = record { said = Err Shapeless; next = length xs }

  module _ (p : Part) (q : p ≡ part_at xs n) where
    pub part_cases : (P : Part → Type 0) → (end_at < length rest_at → P ended_part) → (end_at ≡ length rest_at → P unended_part) → P p
    part_cases P f g = subst P (sym q) (go (ltb end_at (length rest_at)) refl)
      where
        go : (t : Bool) → ltb end_at (length rest_at) ≡ t → P (cond t ended_part unended_part)
        go true e = f (ltb-true end_at (length rest_at) e)
        go false e = g (omega (arith, ltb-false end_at (length rest_at) e, cut_at_below line_end rest_at))

    pub part_fits : Fits p.said
    part_fits = part_cases (λ k. Fits k.said) (λ b. line_in_fits (take end_at rest_at)) (λ b. shapeless)

    pub part_refused : (e : Refusal) → p.said ≡ Err e → number e ≤ 2
    part_refused e q = (subst Fits q part_fits).1

    module _ (l : n < length xs) where
      pub part_above : n < p.next
      part_above = part_cases (λ k. n < k.next) (λ b. omega arith) (λ b. l)

      pub part_within : p.next ≤ length xs
      part_within = part_cases (λ k. k.next ≤ length xs) (λ b. omega (arith, length-drop n xs)) (λ b. omega arith)
