-- Document 01's example, and what is around it: the definitions computed.
--
--   replay_by rule ..   a replay under a share rule, to be computed with the executable form of that in force (replay_computed)
--   example        the text of document 01's example
--   printed        what `slices` prints of it
--   unfinished     a last line with no line end
--   none           an empty text
use mathlib.Core.Path.{◌≡◌, refl, ap, ◌∙◌}
use mathlib.Core.Bool.{cond}
use mathlib.Core.List.{List, [], ◌∷◌, ◌++◌}
use Prim.Native.Nat.{ℕ, suc}
use Rattle.std.specs.Prelude.{Ok, Err}
use Rattle.std.specs.Prelude as Prelude
use Rattle.refusals.specs.declared.Refusal.{Refusal}
use Rattle.slicing.specs.Changes.{add, remove, resize, change_by, change}
use Rattle.slicing.specs.ShareRule.{Rule, shares}
use Rattle.slicing.specs.SixSteps.{turns}
use Rattle.slicing.proofs.Computing.{computed, shares_computed}
use Rattle.history_lines.specs.Lines.{line_in}
use Rattle.history_numbers.specs.Text.{line_end, split, number_in, capacity_in}
use Rattle.history_printing.specs.Printing.{decimal}
use Rattle.history_lines.specs.declared.lines.HistoryLine.{HistoryLine}
use Rattle.history_lines.specs.declared.lines.HistoryLine.TheVariants.{Range, Add, Remove, Resize}
use Rattle.history_steps.specs.Steps.{Reading, start, Result, refusal, places, result_of, applied}
use Rattle.history.specs.Replay.{printed_line, printed_table, replay, replayed, transcript}

-- a line and a replay under a share rule: those of the rule in force are `applied` and `replay`
abbrev applied_by : Rule → Reading → Prelude.Result HistoryLine Refusal → Result
applied_by rule h (Err e) = applied h (Err e)
applied_by rule h (Ok (Range R M)) = applied h (Ok (Range R M))
applied_by rule h (Ok (Add d c)) = cond h.begun (result_of (change_by rule h.pool places (add d c))) (refusal h 3)
applied_by rule h (Ok (Remove d)) = cond h.begun (result_of (change_by rule h.pool places (remove d))) (refusal h 3)
applied_by rule h (Ok (Resize d c)) = cond h.begun (result_of (change_by rule h.pool places (resize d c))) (refusal h 3)

applied_shares : (h : Reading) (l : Prelude.Result HistoryLine Refusal) → applied h l ≡ applied_by shares h l
unfolding change
applied_shares h (Err e) = refl
applied_shares h (Ok (Range R M)) = refl
applied_shares h (Ok (Add d c)) = refl
applied_shares h (Ok (Remove d)) = refl
applied_shares h (Ok (Resize d c)) = refl

abbrev replay_by : Rule → Reading → ℕ → List (List ℕ) → List ℕ
replay_by rule h n [] = printed_table h.pool
replay_by rule h n (p ∷ []) = replay h n (p ∷ [])
replay_by rule h n (p ∷ q ∷ ps) =
    let r = applied_by rule h (line_in p) in
    printed_line n r ++ replay_by rule r.after (suc n) (q ∷ ps)

replay_shares : (h : Reading) (n : ℕ) (ps : List (List ℕ)) → replay h n ps ≡ replay_by shares h n ps
replay_shares h n [] = refl
replay_shares h n (p ∷ []) = refl
replay_shares h n (p ∷ q ∷ ps) =
    rw (applied_shares h (line_in p), replay_shares (applied_by shares h (line_in p)).after (suc n) (q ∷ ps))

replay_computed : (h : Reading) (n : ℕ) (ps : List (List ℕ)) → replay h n ps ≡ replay_by computed h n ps
replay_computed h n ps = replay_shares h n ps ∙ ap (λ rule. replay_by rule h n ps) shares_computed

abbrev pub example : List ℕ
example =
    114 ∷ 97 ∷ 110 ∷ 103 ∷ 101 ∷ 32 ∷ 49 ∷ 48 ∷ 48 ∷ 32 ∷ 49 ∷ 54 ∷ 10 ∷
    97 ∷ 100 ∷ 100 ∷ 32 ∷ 49 ∷ 32 ∷ 49 ∷ 46 ∷ 48 ∷ 48 ∷ 48 ∷ 10 ∷
    97 ∷ 100 ∷ 100 ∷ 32 ∷ 50 ∷ 32 ∷ 49 ∷ 10 ∷
    97 ∷ 100 ∷ 100 ∷ 32 ∷ 51 ∷ 32 ∷ 49 ∷ 46 ∷ 48 ∷ 10 ∷
    97 ∷ 100 ∷ 100 ∷ 32 ∷ 51 ∷ 32 ∷ 51 ∷ 44 ∷ 50 ∷ 10 ∷
    114 ∷ 101 ∷ 109 ∷ 111 ∷ 118 ∷ 101 ∷ 32 ∷ 50 ∷ 10 ∷
    114 ∷ 101 ∷ 115 ∷ 105 ∷ 122 ∷ 101 ∷ 32 ∷ 51 ∷ 32 ∷ 51 ∷ 10 ∷ []

pub printed : transcript example
    ≡ 49 ∷ 32 ∷ 48 ∷ 32 ∷ 48 ∷ 32 ∷ 48 ∷ 10 ∷
    50 ∷ 32 ∷ 48 ∷ 32 ∷ 48 ∷ 32 ∷ 48 ∷ 10 ∷
    51 ∷ 32 ∷ 48 ∷ 32 ∷ 53 ∷ 48 ∷ 32 ∷ 49 ∷ 10 ∷
    52 ∷ 32 ∷ 48 ∷ 32 ∷ 51 ∷ 51 ∷ 32 ∷ 50 ∷ 10 ∷
    53 ∷ 32 ∷ 49 ∷ 32 ∷ 48 ∷ 32 ∷ 48 ∷ 10 ∷
    54 ∷ 32 ∷ 48 ∷ 32 ∷ 51 ∷ 51 ∷ 32 ∷ 50 ∷ 10 ∷
    55 ∷ 32 ∷ 48 ∷ 32 ∷ 50 ∷ 53 ∷ 32 ∷ 49 ∷ 10 ∷
    116 ∷ 97 ∷ 98 ∷ 108 ∷ 101 ∷ 10 ∷
    48 ∷ 32 ∷ 57 ∷ 32 ∷ 49 ∷ 10 ∷
    57 ∷ 32 ∷ 53 ∷ 56 ∷ 32 ∷ 51 ∷ 10 ∷
    54 ∷ 55 ∷ 32 ∷ 49 ∷ 54 ∷ 32 ∷ 49 ∷ 10 ∷
    56 ∷ 51 ∷ 32 ∷ 49 ∷ 55 ∷ 32 ∷ 51 ∷ 10 ∷ []
unfolding transcript replayed line_in number_in capacity_in decimal turns computed
printed = replay_computed start 1 (split line_end example)

-- 'add 1 1' without a line end
pub unfinished : transcript (114 ∷ 97 ∷ 110 ∷ 103 ∷ 101 ∷ 32 ∷ 53 ∷ 32 ∷ 49 ∷ 10 ∷ 97 ∷ 100 ∷ 100 ∷ 32 ∷ 49 ∷ 32 ∷ 49 ∷ [])
    ≡ 49 ∷ 32 ∷ 48 ∷ 32 ∷ 48 ∷ 32 ∷ 48 ∷ 10 ∷
    50 ∷ 32 ∷ 49 ∷ 32 ∷ 48 ∷ 32 ∷ 48 ∷ 10 ∷
    116 ∷ 97 ∷ 98 ∷ 108 ∷ 101 ∷ 10 ∷ []
unfolding transcript replayed line_in number_in capacity_in decimal change
unfinished = refl

pub none : transcript [] ≡ 116 ∷ 97 ∷ 98 ∷ 108 ∷ 101 ∷ 10 ∷ []
unfolding transcript replayed
none = refl
