-- Laws of where a text is cut, and of its parts.
--
--   Found s xs n           n is what `find` promises of the byte s in xs
--   behind xs n            what stands behind the place n of xs, as the code makes that part
--   Cut s xs n ys          xs is cut at n, before its end, and ys stands behind
--
-- cut_at: cut_at_below (at most the length), cut_found (what `position` answers)
-- split: split_whole (no such byte), split_cut (at the first such byte), split_some (at least one part)
-- parts: part_back (a part of a slice from a place on); cut_made, found_whole, cut_split
use mathlib.Core.Path.{◌≡◌, refl, sym, ap, ◌∙◌}
use mathlib.Core.Bool.{Bool, true, false, cond}
use mathlib.Core.List.{List, [], ◌∷◌}
use Prim.Native.Nat.{ℕ, suc, ◌+◌, ◌-◌, ◌≤◌, ◌<◌}
use native.Mathlib.Omega.{arith}
use native.Mathlib.Numerals.{add-one}
use lib.Dec.{eqb, ltb}
use lib.ListN.{length, take, drop, length-drop}
use lib.Seq.{take_all}
use borrow.Author.Tests.{ltb-false}
use Rattle.std.proofs.Common.{Option, Some, None, unwrap_or}
use Rattle.std.specs.List.{position_or_len}
use Rattle.std.proofs.lemmas.List.Recursion.{is_position_or_len}
use Rattle.history_numbers.specs.Cuts.{cut_at}
use Rattle.history_numbers.specs.Text.{before, split}

-- ---- cut_at

pub cut_at_below : (s : ℕ) (xs : List ℕ) → cut_at s xs ≤ length xs
cut_at_below s [] = omega arith
cut_at_below s (b ∷ bs) = go (eqb b s) refl (cut_at_below s bs)
  where
    go : (t : Bool) → eqb b s ≡ t → cut_at s bs ≤ length bs → cut_at s (b ∷ bs) ≤ suc (length bs)
    go true e h = rw e (omega arith)
    go false e h = rw e (omega arith)

-- what `position` answers, and the length where it finds none
pub cut_found : (s : ℕ) (xs : List ℕ) (r : Option ℕ) (n : ℕ)
    → r ≡ cond (ltb (position_or_len (λ b. eqb b s) xs) (length xs)) (Some (position_or_len (λ b. eqb b s) xs)) None
    → n ≡ unwrap_or r (length xs) → (n ≡ cut_at s xs) × (n ≤ length xs)
cut_found s xs r n e u = rw (u, e, ← same) (go (ltb (cut_at s xs) (length xs)) refl)
  where
    one_more : (k : ℕ) → suc k ≡ 1 + k
    one_more k = omega arith

    same : cut_at s xs ≡ position_or_len (λ b. eqb b s) xs
    same = is_position_or_len (cut_at s) (λ b. eqb b s) refl (λ b bs. ap (cond (eqb b s) 0) (one_more (cut_at s bs))) xs

    go : (t : Bool) → ltb (cut_at s xs) (length xs) ≡ t
        → (unwrap_or (cond t (Some (cut_at s xs)) None) (length xs) ≡ cut_at s xs) × (unwrap_or (cond t (Some (cut_at s xs)) None) (length xs) ≤ length xs)
    go true e = (refl, cut_at_below s xs)
    go false e = (omega (arith, ltb-false (cut_at s xs) (length xs) e, cut_at_below s xs), omega arith)

-- ---- split

pub split_whole : (s : ℕ) (xs : List ℕ) → cut_at s xs ≡ length xs → split s xs ≡ xs ∷ []
split_whole s [] h = refl
split_whole s (b ∷ bs) h = go (eqb b s) refl (split_whole s bs)
  where
    go : (t : Bool) → eqb b s ≡ t → (cut_at s bs ≡ length bs → split s bs ≡ bs ∷ []) → split s (b ∷ bs) ≡ (b ∷ bs) ∷ []
    go true e r = absurd (omega (arith, rw e at h))
    go false e r = rw (e, r (omega (arith, rw e at h)))

pub split_cut : (s : ℕ) (xs : List ℕ) → cut_at s xs < length xs
    → split s xs ≡ take (cut_at s xs) xs ∷ split s (drop (cut_at s xs + 1) xs)
split_cut s [] h = absurd (omega arith)
split_cut s (b ∷ bs) h = go (eqb b s) refl (split_cut s bs)
  where
    go : (t : Bool) → eqb b s ≡ t → (cut_at s bs < length bs → split s bs ≡ take (cut_at s bs) bs ∷ split s (drop (cut_at s bs + 1) bs))
        → split s (b ∷ bs) ≡ take (cut_at s (b ∷ bs)) (b ∷ bs) ∷ split s (drop (cut_at s (b ∷ bs) + 1) (b ∷ bs))
    go true e r = rw e
    go false e r = rw (e, r (omega (arith, rw e at h)), add-one (suc (cut_at s bs)), add-one (cut_at s bs))

before_some : (b : ℕ) (ps : List (List ℕ)) → before b ps ≡ [] → ⊥
before_some b [] e = omega (arith, ap length e)
before_some b (p ∷ ps) e = omega (arith, ap length e)

pub split_some : (s : ℕ) (xs : List ℕ) → split s xs ≡ [] → ⊥
split_some s [] h = omega (arith, ap length h)
split_some s (b ∷ bs) h = go (eqb b s) refl
  where
    go : (t : Bool) → eqb b s ≡ t → ⊥
    go true e = omega (arith, ap length (rw e at h))
    go false e = before_some b (split s bs) (rw e at h)

-- ---- parts as the code makes them

pub part_back : (n : ℕ) (xs : List ℕ) → take (length xs - n) (drop n xs) ≡ drop n xs
part_back n xs = take_all (length xs - n) (drop n xs) (omega (arith, length-drop n xs))

abbrev pub behind : List ℕ → ℕ → List ℕ
behind xs n = take (length xs - (n + 1)) (drop (n + 1) xs)

module _ (s : ℕ) (xs : List ℕ) (n : ℕ) where
  abbrev pub Found : Type 0
  Found = (n ≡ cut_at s xs) × (n ≤ length xs)

  pub record Cut (ys : List ℕ) : Type 0 where
    pub found : Found
    pub inside : n ≡ length xs → ⊥
    pub rest : ys ≡ drop (n + 1) xs

  pub cut_made : Found → (n ≡ length xs → ⊥) → Cut (behind xs n)
  cut_made f e = record { found = f; inside = e; rest = part_back (n + 1) xs }

  pub found_whole : Found → n ≡ length xs → split s xs ≡ xs ∷ []
  found_whole f e = split_whole s xs (sym f.0 ∙ e)

  pub cut_split : (ys : List ℕ) → Cut ys → split s xs ≡ take n xs ∷ split s ys
  cut_split ys c =
      let h : n < length xs = omega (arith, c.found.1, c.inside) in
      rw c.rest (rw (← c.found.0) at (split_cut s xs (rw c.found.0 at h)))
