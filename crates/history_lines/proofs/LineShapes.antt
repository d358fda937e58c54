-- Laws of the lines of a history: what the functions that read a line need.
--
-- same: same_length (texts of two lengths), same_told (what `==` on slices answered)
-- words: three_none (a first word that is none of the three); line_one, line_remove, line_two, line_three, line_four (by the number of words); line_read (what a line says is its reply)
use mathlib.Core.Path.{◌≡◌, refl, sym, ap, ◌∙◌}
use mathlib.Core.Bool.{Bool, true, false, ◌&&◌}
use mathlib.Core.List.{List, [], ◌∷◌}
use Prim.Native.Nat.{ℕ, suc}
use lib.Dec.{eqb}
use lib.ListN.{length, take}
use Rattle.std.specs.Prelude.{Result, Err}
use Rattle.std.specs.Cmp.Lexicographic.{pointwise}
use Rattle.refusals.specs.declared.Refusal.{Refusal}
use Rattle.refusals.specs.declared.Refusal.TheVariants.{Shapeless}
use Rattle.history_numbers.specs.Text.{space, split, number_in}
use Rattle.history_lines.specs.Lines.{line_reply, same, range_word, add_word, remove_word, resize_word, remove_line, three_words, line_of, line_in, LineRead}
use Rattle.history_lines.specs.declared.lines.HistoryLine.{HistoryLine}
use Rattle.history_numbers.proofs.NumberWords.{and_false}
use Rattle.history_numbers.proofs.Splitting.{split_some, Found, behind, cut_made, found_whole, cut_split}

-- ---- same

pub same_length : (a b : List ℕ) → (length a ≡ length b → ⊥) → same a b ≡ false
same_length [] [] h = absurd (h refl)
same_length [] (y ∷ ys) h = refl
same_length (x ∷ xs) [] h = refl
same_length (x ∷ xs) (y ∷ ys) h = rw (same_length xs ys (λ e. h (ap suc e))) (and_false (eqb x y))

-- `==` on slices compares as `same` does
same_eq : (a b : List ℕ) → same a b ≡ pointwise eqb a b
same_eq [] [] = refl
same_eq [] (y ∷ ys) = refl
same_eq (x ∷ xs) [] = refl
same_eq (x ∷ xs) (y ∷ ys) = ap (λ r. eqb x y && r) (same_eq xs ys)

-- what it answered of a text k and the word w, which stands in the slice b
pub same_told : (k w : List ℕ) {b : List ℕ} {r t : Bool} → r ≡ pointwise eqb k b → b ≡ w → r ≡ t → same k w ≡ t
same_told k w e f g = same_eq k w ∙ sym (rw f at e) ∙ g

-- ---- words

pub three_none : (k a b : List ℕ) → same k range_word ≡ false → same k add_word ≡ false → same k resize_word ≡ false → Err Shapeless ≡ three_words k a b
three_none k a b e f g = rw (e, f, g)

line_of_more : (k a b : List ℕ) (ps : List (List ℕ)) → (ps ≡ [] → ⊥) → line_of (k ∷ a ∷ b ∷ ps) ≡ Err Shapeless
line_of_more k a b [] h = absurd (h refl)
line_of_more k a b (p ∷ ps) h = refl

module _ (xs : List ℕ) (n : ℕ) (f : Found space xs n) where
  pub line_one : n ≡ length xs → Err Shapeless ≡ line_in xs
  unfolding line_in
  line_one e = rw (found_whole space xs n f e)

  -- a second word, and the text behind it
  module _ (i : n ≡ length xs → ⊥) (m : ℕ) (g : Found space (behind xs n) m) where
    abbrev ys : List ℕ
    ys = behind xs n

    cut : split space xs ≡ take n xs ∷ split space ys
    cut = cut_split space xs n ys (cut_made space xs n f i)

    module _ (e : m ≡ length ys) where
      pub line_remove : same (take n xs) remove_word ≡ true → remove_line (number_in ys) ≡ line_in xs
      unfolding line_in
      line_remove h = rw (cut, found_whole space ys m g e, h)

      pub line_two : same (take n xs) remove_word ≡ false → Err Shapeless ≡ line_in xs
      unfolding line_in
      line_two h = rw (cut, found_whole space ys m g e, h)

    module _ (j : m ≡ length ys → ⊥) (o : ℕ) (h : Found space (behind ys m) o) where
      abbrev zs : List ℕ
      zs = behind ys m

      cut_twice : split space xs ≡ take n xs ∷ take m ys ∷ split space zs
      cut_twice = cut ∙ ap (λ ps. take n xs ∷ ps) (cut_split space ys m zs (cut_made space ys m g j))

      pub line_three : o ≡ length zs → three_words (take n xs) (take m ys) zs ≡ line_in xs
      unfolding line_in
      line_three e = rw (cut_twice, found_whole space zs o h e)

      pub line_four : (o ≡ length zs → ⊥) → Err Shapeless ≡ line_in xs
      unfolding line_in
      line_four e =
          let rest : List ℕ = behind zs o in
          rw (cut_twice, cut_split space zs o rest (cut_made space zs o h e))
          (sym (line_of_more (take n xs) (take m ys) (take o zs) (split space rest) (split_some space rest)))

pub line_read : {xs : List ℕ} {r : Result HistoryLine Refusal} → r ≡ line_in xs → LineRead xs r
line_read e = record { answer = e; reply = ap line_reply e }
