-- The pool that a text leaves: the invariant of `pool_after`, and its steps.
--
--   Leaving text h from     the reading h and the lines from place `from` on leave what the text leaves
--
-- leaving_none, leaving_step
use mathlib.Core.Path.{◌≡◌, sym, ap, ◌∙◌}
use mathlib.Core.List.{List}
use Prim.Native.Nat.{ℕ, ◌<◌}
use lib.ListN.{length, drop}
use Rattle.history_lines.specs.declared.lines.Part.{Part}
use Rattle.history_lines.specs.Cuts.{part_at}
use Rattle.history_steps.specs.Steps.{Reading, start, applied}
use Rattle.history.specs.Histories.{lines_of, read_all}
use Rattle.history.proofs.ReplayParts.{read_all_part}

module _ (text : List ℕ) where
  pub record Leaving (h : Reading) (from : ℕ) : Type 0 where
    pub left : read_all h (lines_of (drop from text)) ≡ read_all start (lines_of text)

  pub leaving_none : (h : Reading) → h ≡ start → Leaving h 0
  leaving_none h e = record { left = ap (λ (g : Reading). read_all g (lines_of text)) e }

  module _ {h : Reading} {from : ℕ} (w : Leaving h from) where
    pub leaving_step : (p : Part) → p ≡ part_at text from → from < length text → (h' : Reading) → h' ≡ (applied h p.said).after → Leaving h' p.next
    leaving_step p e l h' g = record {
      left = ap (λ (k : Reading). read_all k (lines_of (drop p.next text))) g ∙ sym (read_all_part text from p e l h) ∙ w.left;
    }
