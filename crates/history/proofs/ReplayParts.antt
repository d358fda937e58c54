-- The replay, and the reading, of one line of a text after another.
--
-- replay_part, read_all_part: from a line's place on they are the line's and then those of the rest
use mathlib.Core.Path.{◌≡◌, sym, ap, ◌∙◌, refl}
use mathlib.Core.List.{List, [], ◌∷◌, ◌++◌}
use Prim.Native.Nat.{ℕ, suc, ◌+◌, ◌≤◌, ◌<◌}
use native.Mathlib.Omega.{arith}
use lib.ListN.{length, take, drop, length-drop, drop_of_length-le}
use lib.Seq.{drop-drop}
use Rattle.history_lines.specs.declared.lines.Part.{Part}
use Rattle.history_lines.specs.Cuts.{part_at}
use Rattle.history_numbers.specs.Text.{line_end, split}
use Rattle.history_numbers.proofs.Splitting.{split_whole, split_cut}
use Rattle.history_lines.proofs.TextParts.{rest_at, end_at, ended_part, part_cases}
use Rattle.history_steps.specs.Steps.{Reading, refusal, applied}
use Rattle.history.specs.Histories.{all_but_last, lines_of, read_all}
use Rattle.history.specs.Replay.{printed_line, printed_table, replay}
use Rattle.history.proofs.ReplayLaws.{replay_cons}
use Rattle.history.proofs.TextLines.{parts_some, all_but_last_cons}

module _ (xs : List ℕ) (n : ℕ) (p : Part) (q : p ≡ part_at xs n) (l : n < length xs) where
  abbrev rest : List ℕ
  rest = rest_at xs n

  abbrev end : ℕ
  end = end_at xs n

  abbrev ended : Part
  ended = ended_part xs n

  -- the text behind a line, and behind one with no line end
  behind : drop (end + 1) rest ≡ drop (n + end + 1) xs
  behind = let e : n + (end + 1) ≡ n + end + 1 = omega arith in drop-drop (end + 1) n xs ∙ ap (λ i. drop i xs) e

  nothing : [] ≡ drop (length xs) xs
  nothing = sym (drop_of_length-le xs {i = length xs} (omega arith))

  pub replay_part : (h : Reading) (m : ℕ) → let r = applied h p.said in
      replay h m (split line_end (drop n xs)) ≡ printed_line m r ++ replay r.after (suc m) (split line_end (drop p.next xs))
  replay_part h m =
      part_cases xs n p q
      (λ k. replay h m (split line_end rest) ≡ printed_line m (applied h k.said) ++ replay (applied h k.said).after (suc m) (split line_end (drop k.next xs)))
      (λ b. ap (replay h m) (split_cut line_end rest b)
      ∙ replay_cons h m (take end rest) (split line_end (drop (end + 1) rest)) (parts_some line_end (drop (end + 1) rest))
      ∙ ap (λ ys. printed_line m (applied h ended.said) ++ replay (applied h ended.said).after (suc m) (split line_end ys)) behind)
      (λ b. ap (replay h m) (split_whole line_end rest b) ∙ last rest (omega (arith, length-drop n xs))
      ∙ ap (λ ys. printed_line m (refusal h 1) ++ replay h (suc m) (split line_end ys)) nothing)
    where
      last : (ys : List ℕ) → 1 ≤ length ys → replay h m (ys ∷ []) ≡ printed_line m (refusal h 1) ++ printed_table h.pool
      last [] k = absurd (omega arith)
      last (y ∷ ys) k = refl

  pub read_all_part : (h : Reading) → read_all h (lines_of (drop n xs)) ≡ read_all (applied h p.said).after (lines_of (drop p.next xs))
  read_all_part h =
      part_cases xs n p q (λ k. read_all h (lines_of rest) ≡ read_all (applied h k.said).after (lines_of (drop k.next xs)))
      (λ b. ap (read_all h)
      (ap all_but_last (split_cut line_end rest b)
      ∙ all_but_last_cons (take end rest) (split line_end (drop (end + 1) rest)) (parts_some line_end (drop (end + 1) rest)))
      ∙ ap (λ ys. read_all (applied h ended.said).after (lines_of ys)) behind)
      (λ b. ap (λ ps. read_all h (all_but_last ps)) (split_whole line_end rest b) ∙ ap (λ ys. read_all h (lines_of ys)) nothing)
