-- The lines of a text.
--
-- parts: parts_some (a text has a part), split_join (two texts with the byte between), split_length
-- lines: all_but_last_cons, lines_ended, lines_join, parts_join, parts_complete, complete_join (texts that end in a line end), parts_last (any text)
-- the text of lines: text_lines (a text is its lines and what stands behind the last line end), lines_whole (no line has a line end in
-- it), lines_text_of (such lines are the lines of their text)
-- their number: lines_length (as many complete lines as line ends), line_count_text, line_count_complete
use mathlib.Core.Path.{◌≡◌, refl, sym, ap, ap₂, ◌∙◌, subst}
use mathlib.Core.Bool.{Bool, true, false, cond}
use mathlib.Core.List.{List, [], ◌∷◌, ◌++◌, append_assoc, append-nil}
use Prim.Native.Nat.{ℕ, suc, ◌+◌, ◌≤◌}
use native.Mathlib.Omega.{arith}
use lib.Dec.{eqb}
use lib.ListN.{length, length-append}
use borrow.Author.Tests.{eqb-true, eq-eqb}
use Rattle.slicing.specs.Runs.{one, count}
use Rattle.slicing.proofs.Counting.{eqb_sym}
use Rattle.history_numbers.specs.Text.{line_end, before, split}
use Rattle.history.specs.Histories.{all_but_last, last_of, lines_of, text_of, Complete, nothing, ended, line_ends, Whole, some, line_count}

-- ---- parts

before_some : (b : ℕ) (ps : List (List ℕ)) → 1 ≤ length (before b ps)
before_some b [] = omega arith
before_some b (p ∷ ps) = omega arith

before_join : (b : ℕ) (ps qs : List (List ℕ)) → 1 ≤ length ps → before b (ps ++ qs) ≡ before b ps ++ qs
before_join b [] qs h = absurd (omega arith)
before_join b (p ∷ ps) qs h = refl

pub parts_some : (s : ℕ) (xs : List ℕ) → 1 ≤ length (split s xs)
parts_some s [] = omega arith
parts_some s (b ∷ bs) = go (eqb b s)
  where
    go : (t : Bool) → 1 ≤ length (cond t ([] ∷ split s bs) (before b (split s bs)))
    go true = omega arith
    go false = before_some b (split s bs)

pub split_join : (s : ℕ) (xs ys : List ℕ) → split s (xs ++ s ∷ ys) ≡ split s xs ++ split s ys
split_join s [] ys = rw (eq-eqb s s refl)
split_join s (b ∷ bs) ys = go (eqb b s) (split_join s bs ys)
  where
    go : (t : Bool) → split s (bs ++ s ∷ ys) ≡ split s bs ++ split s ys
        → cond t ([] ∷ split s (bs ++ s ∷ ys)) (before b (split s (bs ++ s ∷ ys))) ≡ cond t ([] ∷ split s bs) (before b (split s bs)) ++ split s ys
    go true e = ap (λ ps. [] ∷ ps) e
    go false e = ap (before b) e ∙ before_join b (split s bs) (split s ys) (parts_some s bs)

before_length : (b : ℕ) (ps : List (List ℕ)) → 1 ≤ length ps → length (before b ps) ≡ length ps
before_length b [] l = absurd (omega arith)
before_length b (p ∷ ps) l = refl

split_length : (s : ℕ) (xs : List ℕ) → length (split s xs) ≡ suc (count s xs)
split_length s [] = refl
split_length s (b ∷ bs) = rw (eqb_sym s b) (go (eqb b s) (split_length s bs))
  where
    go : (t : Bool) → length (split s bs) ≡ suc (count s bs)
        → length (cond t ([] ∷ split s bs) (before b (split s bs))) ≡ suc (one t + count s bs)
    go true e = omega (arith, e)
    go false e = omega (arith, e, before_length b (split s bs) (parts_some s bs))

-- ---- lines

pub all_but_last_cons : (p : List ℕ) (ps : List (List ℕ)) → 1 ≤ length ps → all_but_last (p ∷ ps) ≡ p ∷ all_but_last ps
all_but_last_cons p [] h = absurd (omega arith)
all_but_last_cons p (q ∷ ps) h = refl

all_but_last_join : (ps qs : List (List ℕ)) → 1 ≤ length qs → all_but_last (ps ++ qs) ≡ ps ++ all_but_last qs
all_but_last_join [] qs h = refl
all_but_last_join (p ∷ ps) qs h =
    all_but_last_cons p (ps ++ qs) (omega (arith, length-append ps qs)) ∙ ap (λ r. p ∷ r) (all_but_last_join ps qs h)

pub lines_ended : (xs : List ℕ) → lines_of (xs ++ line_end ∷ []) ≡ split line_end xs
lines_ended xs =
    ap all_but_last (split_join line_end xs []) ∙ all_but_last_join (split line_end xs) ([] ∷ []) (omega arith) ∙ append-nil (split line_end xs)

pub parts_join : (xs ys : List ℕ) → Complete xs → split line_end (xs ++ ys) ≡ lines_of xs ++ split line_end ys
parts_join xs ys nothing = refl
parts_join xs ys (ended zs) =
    ap (split line_end) (append_assoc zs (line_end ∷ []) ys) ∙ split_join line_end zs ys
    ∙ ap (λ ps. ps ++ split line_end ys) (sym (lines_ended zs))

pub lines_join : (xs ys : List ℕ) → Complete xs → lines_of (xs ++ ys) ≡ lines_of xs ++ lines_of ys
lines_join xs ys c = ap all_but_last (parts_join xs ys c) ∙ all_but_last_join (lines_of xs) (split line_end ys) (parts_some line_end ys)

pub parts_complete : (xs : List ℕ) → Complete xs → split line_end xs ≡ lines_of xs ++ [] ∷ []
parts_complete xs c = ap (split line_end) (sym (append-nil xs)) ∙ parts_join xs [] c

parts_back : (ps : List (List ℕ)) → 1 ≤ length ps → ps ≡ all_but_last ps ++ last_of ps ∷ []
parts_back [] l = absurd (omega arith)
parts_back (p ∷ []) l = refl
parts_back (p ∷ q ∷ ps) l = ap (λ qs. p ∷ qs) (parts_back (q ∷ ps) (omega arith))

pub parts_last : (xs : List ℕ) → split line_end xs ≡ lines_of xs ++ last_of (split line_end xs) ∷ []
parts_last xs = parts_back (split line_end xs) (parts_some line_end xs)

pub complete_join : (xs ys : List ℕ) → Complete xs → Complete ys → Complete (xs ++ ys)
complete_join xs ys c nothing = subst Complete (sym (append-nil xs)) c
complete_join xs ys c (ended zs) = subst Complete (append_assoc xs zs (line_end ∷ [])) (ended (xs ++ zs))

-- ---- the text of lines

-- parts as a text
abbrev together : List (List ℕ) → List ℕ
together ps = text_of (all_but_last ps) ++ last_of ps

together_empty : (ps : List (List ℕ)) → 1 ≤ length ps → together ([] ∷ ps) ≡ line_end ∷ together ps
together_empty [] l = absurd (omega arith)
together_empty (p ∷ ps) l = refl

together_before : (b : ℕ) (ps : List (List ℕ)) → 1 ≤ length ps → together (before b ps) ≡ b ∷ together ps
together_before b [] l = absurd (omega arith)
together_before b (p ∷ []) l = refl
together_before b (p ∷ q ∷ ps) l = refl

pub text_lines : (xs : List ℕ) → text_of (lines_of xs) ++ last_of (split line_end xs) ≡ xs
text_lines [] = refl
text_lines (b ∷ bs) = go (eqb b line_end) refl (text_lines bs)
  where
    go : (t : Bool) → eqb b line_end ≡ t → together (split line_end bs) ≡ bs
        → together (cond t ([] ∷ split line_end bs) (before b (split line_end bs))) ≡ b ∷ bs
    go true e r = together_empty (split line_end bs) (parts_some line_end bs) ∙ ap₂ (λ y ys. y ∷ ys) (sym (eqb-true b line_end e)) r
    go false e r = together_before b (split line_end bs) (parts_some line_end bs) ∙ ap (λ ys. b ∷ ys) r

before_whole : (b : ℕ) (ps : List (List ℕ)) → eqb line_end b ≡ false → Whole ps → Whole (before b ps)
before_whole b [] e w = (omega (arith, ap one e), tt)
before_whole b (p ∷ ps) e w = (omega (arith, ap one e, w.0), w.1)

parts_whole : (xs : List ℕ) → Whole (split line_end xs)
parts_whole [] = (refl, tt)
parts_whole (b ∷ bs) = go (eqb b line_end) refl (parts_whole bs)
  where
    go : (t : Bool) → eqb b line_end ≡ t → Whole (split line_end bs) → Whole (cond t ([] ∷ split line_end bs) (before b (split line_end bs)))
    go true e w = (refl, w)
    go false e w = before_whole b (split line_end bs) (eqb_sym line_end b ∙ e) w

all_but_last_whole : (ps : List (List ℕ)) → Whole ps → Whole (all_but_last ps)
all_but_last_whole [] w = tt
all_but_last_whole (p ∷ []) w = tt
all_but_last_whole (p ∷ q ∷ ps) w = (w.0, all_but_last_whole (q ∷ ps) w.1)

pub lines_whole : (xs : List ℕ) → Whole (lines_of xs)
lines_whole xs = all_but_last_whole (split line_end xs) (parts_whole xs)

split_whole : (xs : List ℕ) → line_ends xs ≡ 0 → split line_end xs ≡ xs ∷ []
split_whole [] e = refl
split_whole (b ∷ bs) e = rw (eqb_sym b line_end) (go (eqb line_end b) e (split_whole bs (omega arith)))
  where
    go : (t : Bool) → one t + line_ends bs ≡ 0 → split line_end bs ≡ bs ∷ [] → cond t ([] ∷ split line_end bs) (before b (split line_end bs)) ≡ (b ∷ bs) ∷ []
    go true z r = absurd (omega (arith, z))
    go false z r = ap (before b) r

pub lines_text_of : (ps : List (List ℕ)) → Whole ps → lines_of (text_of ps) ≡ ps
lines_text_of [] w = refl
lines_text_of (p ∷ ps) w =
    ap all_but_last (split_join line_end p (text_of ps) ∙ ap (λ qs. qs ++ split line_end (text_of ps)) (split_whole p w.0))
    ∙ all_but_last_cons p (split line_end (text_of ps)) (parts_some line_end (text_of ps)) ∙ ap (λ qs. p ∷ qs) (lines_text_of ps w.1)

-- ---- their number

all_but_last_length : (ps : List (List ℕ)) → 1 ≤ length ps → suc (length (all_but_last ps)) ≡ length ps
all_but_last_length [] l = absurd (omega arith)
all_but_last_length (p ∷ []) l = refl
all_but_last_length (p ∷ q ∷ ps) l = ap suc (all_but_last_length (q ∷ ps) (omega arith))

-- a text has as many complete lines as line ends
pub lines_length : (xs : List ℕ) → length (lines_of xs) ≡ line_ends xs
lines_length xs = omega (arith, all_but_last_length (split line_end xs) (parts_some line_end xs), split_length line_end xs)

-- a last line with no line end is one more
pub line_count_text : (xs : List ℕ) → line_count (split line_end xs) ≡ line_ends xs + some (last_of (split line_end xs))
line_count_text xs = ap (λ n. n + some (last_of (split line_end xs))) (lines_length xs)

last_of_snoc : (ps : List (List ℕ)) → last_of (ps ++ [] ∷ []) ≡ []
last_of_snoc [] = refl
last_of_snoc (p ∷ []) = refl
last_of_snoc (p ∷ q ∷ ps) = last_of_snoc (q ∷ ps)

pub line_count_complete : (xs : List ℕ) → Complete xs → line_count (split line_end xs) ≡ line_ends xs
line_count_complete xs c =
    omega (arith, line_count_text xs, ap some (ap last_of (parts_complete xs c) ∙ last_of_snoc (lines_of xs)))
