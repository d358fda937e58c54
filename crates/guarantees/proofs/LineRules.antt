-- What a line of a history says, by plain conditions: a line for each shape, and for each way to miss one.
--
--   words xs              the words of the line xs
--   Shapes xs l           it is of one of the four shapes, its numbers are within their limits, and it says l
--   Far xs                it is of a shape, and a number is outside its limits
--   Shapeless xs          it is of none of the four shapes
-- Laws: shaped, far_two, shapeless_one (what `line_in` gives); line_known (every line is one of these)
use mathlib.Core.Path.{◌≡◌, refl, sym, ap, ap₂, ◌∙◌}
use mathlib.Core.Bool.{Bool, true, false, false≢true, ◌&&◌}
use mathlib.Core.List.{List, [], ◌∷◌}
use Prim.Native.Nat.{ℕ}
use lib.Dec.{eqb}
use borrow.Author.Tests.{eqb-true, eq-eqb}
use Rattle.std.specs.Prelude.{Option, Some, None, Ok, Err}
use Rattle.refusals.specs.declared.Refusal.TheVariants as Refusals
use Rattle.history_lines.specs.Lines.{same, line_in}
use Rattle.history_numbers.specs.Text.{split, number_in, capacity_in}
use Rattle.history_lines.specs.declared.lines.HistoryLine.{HistoryLine}
use Rattle.history_lines.specs.declared.lines.HistoryLine.TheVariants.{Range, Add, Remove, Resize}
use Rattle.guarantees.proofs.Conditions.{Inside, inside_false, inside_true, two_inside, two_outside, Decided, within, without, one_decided, two_decided}

-- the four first words
abbrev pub range_bytes : List ℕ
range_bytes = 0x72 ∷ 0x61 ∷ 0x6e ∷ 0x67 ∷ 0x65 ∷ []

abbrev pub add_bytes : List ℕ
add_bytes = 0x61 ∷ 0x64 ∷ 0x64 ∷ []

abbrev pub remove_bytes : List ℕ
remove_bytes = 0x72 ∷ 0x65 ∷ 0x6d ∷ 0x6f ∷ 0x76 ∷ 0x65 ∷ []

abbrev pub resize_bytes : List ℕ
resize_bytes = 0x72 ∷ 0x65 ∷ 0x73 ∷ 0x69 ∷ 0x7a ∷ 0x65 ∷ []

-- the words of a line, with one space, 20 hexadecimal, between
abbrev pub words : List ℕ → List (List ℕ)
words xs = split 0x20 xs

pub data Shapes (xs : List ℕ) : HistoryLine → Type 0 where
  range_line : {a b : List ℕ} {R M : ℕ} → words xs ≡ range_bytes ∷ a ∷ b ∷ [] → number_in a ≡ Some R → number_in b ≡ Some M
      → Inside 4294967296 R → Inside 4096 M → Shapes xs (Range R M)
  add_line : {a b : List ℕ} {d c : ℕ} → words xs ≡ add_bytes ∷ a ∷ b ∷ [] → number_in a ≡ Some d → capacity_in b ≡ Some c
      → Inside 65535 d → Inside 16000000 c → Shapes xs (Add d c)
  remove_line_lem : {a : List ℕ} {d : ℕ} → words xs ≡ remove_bytes ∷ a ∷ [] → number_in a ≡ Some d → Inside 65535 d → Shapes xs (Remove d)
  resize_line : {a b : List ℕ} {d c : ℕ} → words xs ≡ resize_bytes ∷ a ∷ b ∷ [] → number_in a ≡ Some d → capacity_in b ≡ Some c
      → Inside 65535 d → Inside 16000000 c → Shapes xs (Resize d c)

pub data Far (xs : List ℕ) : Type 0 where
  range_far : {a b : List ℕ} {R M : ℕ} → words xs ≡ range_bytes ∷ a ∷ b ∷ [] → number_in a ≡ Some R → number_in b ≡ Some M
      → (Inside 4294967296 R → Inside 4096 M → ⊥) → Far xs
  add_far : {a b : List ℕ} {d c : ℕ} → words xs ≡ add_bytes ∷ a ∷ b ∷ [] → number_in a ≡ Some d → capacity_in b ≡ Some c
      → (Inside 65535 d → Inside 16000000 c → ⊥) → Far xs
  remove_far : {a : List ℕ} {d : ℕ} → words xs ≡ remove_bytes ∷ a ∷ [] → number_in a ≡ Some d → (Inside 65535 d → ⊥) → Far xs
  resize_far : {a b : List ℕ} {d c : ℕ} → words xs ≡ resize_bytes ∷ a ∷ b ∷ [] → number_in a ≡ Some d → capacity_in b ≡ Some c
      → (Inside 65535 d → Inside 16000000 c → ⊥) → Far xs

pub data Shapeless (xs : List ℕ) : Type 0 where
  -- no word, one, or more than three
  no_words : words xs ≡ [] → Shapeless xs
  one_word : {k : List ℕ} → words xs ≡ k ∷ [] → Shapeless xs
  more_words : {k a b c : List ℕ} {ws : List (List ℕ)} → words xs ≡ k ∷ a ∷ b ∷ c ∷ ws → Shapeless xs
  -- another first word
  two_words : {k a : List ℕ} → words xs ≡ k ∷ a ∷ [] → (k ≡ remove_bytes → ⊥) → Shapeless xs
  three_words_lem : {k a b : List ℕ} → words xs ≡ k ∷ a ∷ b ∷ [] → (k ≡ range_bytes → ⊥) → (k ≡ add_bytes → ⊥) → (k ≡ resize_bytes → ⊥)
      → Shapeless xs
  -- a word that is no number, or no capacity
  range_first : {a b : List ℕ} → words xs ≡ range_bytes ∷ a ∷ b ∷ [] → number_in a ≡ None → Shapeless xs
  range_second : {a b : List ℕ} {R : ℕ} → words xs ≡ range_bytes ∷ a ∷ b ∷ [] → number_in a ≡ Some R → number_in b ≡ None → Shapeless xs
  add_first : {a b : List ℕ} → words xs ≡ add_bytes ∷ a ∷ b ∷ [] → number_in a ≡ None → Shapeless xs
  add_second : {a b : List ℕ} {d : ℕ} → words xs ≡ add_bytes ∷ a ∷ b ∷ [] → number_in a ≡ Some d → capacity_in b ≡ None → Shapeless xs
  remove_only : {a : List ℕ} → words xs ≡ remove_bytes ∷ a ∷ [] → number_in a ≡ None → Shapeless xs
  resize_first : {a b : List ℕ} → words xs ≡ resize_bytes ∷ a ∷ b ∷ [] → number_in a ≡ None → Shapeless xs
  resize_second : {a b : List ℕ} {d : ℕ} → words xs ≡ resize_bytes ∷ a ∷ b ∷ [] → number_in a ≡ Some d → capacity_in b ≡ None
      → Shapeless xs

-- ---- what the line says

same_equal : (k l : List ℕ) → same k l ≡ true → k ≡ l
same_equal [] [] h = refl
same_equal [] (y ∷ ys) h = absurd (false≢true h)
same_equal (x ∷ xs) [] h = absurd (false≢true h)
same_equal (x ∷ xs) (y ∷ ys) h = go (eqb x y) refl (same xs ys) (same_equal xs ys) h
  where
    go : (t : Bool) → eqb x y ≡ t → (u : Bool) → (u ≡ true → xs ≡ ys) → t && u ≡ true → x ∷ xs ≡ y ∷ ys
    go true e true f g = ap₂ (λ z zs. z ∷ zs) (eqb-true x y e) (f refl)
    go true e false f g = absurd (false≢true g)
    go false e u f g = absurd (false≢true g)

same_self : (k : List ℕ) → same k k ≡ true
same_self [] = refl
same_self (x ∷ xs) = rw (eq-eqb x x refl, same_self xs)

-- whether a word is another
same_decided : (k l : List ℕ) → Decided (k ≡ l)
same_decided k l = go (same k l) refl
  where
    go : (t : Bool) → same k l ≡ t → Decided (k ≡ l)
    go true e = within (same_equal k l e)
    go false e = without (λ z. false≢true (sym e ∙ ap (same k) (sym z) ∙ same_self k))

same_other : (k l : List ℕ) → (k ≡ l → ⊥) → same k l ≡ false
same_other k l h = go (same k l) refl
  where
    go : (t : Bool) → same k l ≡ t → t ≡ false
    go true e = absurd (h (same_equal k l e))
    go false e = refl

module _ (xs : List ℕ) where
  pub shaped : {l : HistoryLine} → Shapes xs l → line_in xs ≡ Ok l
  unfolding line_in
  shaped (range_line {R = R} {M = M} w a b i j) = rw (w, a, b, two_inside 4294967296 R 4096 M i j)
  shaped (add_line {d = d} {c = c} w a b i j) = rw (w, a, b, two_inside 65535 d 16000000 c i j)
  shaped (remove_line_lem {d = d} w a i) = rw (w, a, inside_false 65535 d i)
  shaped (resize_line {d = d} {c = c} w a b i j) = rw (w, a, b, two_inside 65535 d 16000000 c i j)

  pub far_two : Far xs → line_in xs ≡ Err Refusals.Outside
  unfolding line_in
  far_two (range_far {R = R} {M = M} w a b h) = rw (w, a, b, two_outside 4294967296 R 4096 M h)
  far_two (add_far {d = d} {c = c} w a b h) = rw (w, a, b, two_outside 65535 d 16000000 c h)
  far_two (remove_far {d = d} w a h) = rw (w, a, inside_true 65535 d h)
  far_two (resize_far {d = d} {c = c} w a b h) = rw (w, a, b, two_outside 65535 d 16000000 c h)

  pub shapeless_one : Shapeless xs → line_in xs ≡ Err Refusals.Shapeless
  unfolding line_in
  shapeless_one (no_words w) = rw w
  shapeless_one (one_word w) = rw w
  shapeless_one (more_words w) = rw w
  shapeless_one (two_words {k = k} w e) = rw (w, same_other k remove_bytes e)
  shapeless_one (three_words_lem {k = k} w e f g) = rw (w, same_other k range_bytes e, same_other k add_bytes f, same_other k resize_bytes g)
  shapeless_one (range_first w a) = rw (w, a)
  shapeless_one (range_second w a b) = rw (w, a, b)
  shapeless_one (add_first w a) = rw (w, a)
  shapeless_one (add_second w a b) = rw (w, a, b)
  shapeless_one (remove_only w a) = rw (w, a)
  shapeless_one (resize_first w a) = rw (w, a)
  shapeless_one (resize_second w a b) = rw (w, a, b)

-- ---- there is no other line

pub data Known (xs : List ℕ) : Type 0 where
  shapeless : Shapeless xs → Known xs
  far : Far xs → Known xs
  said : {l : HistoryLine} → Shapes xs l → Known xs

module _ (xs : List ℕ) where
  known_range : (a b : List ℕ) → words xs ≡ range_bytes ∷ a ∷ b ∷ [] → (p : Option ℕ) → number_in a ≡ p → (q : Option ℕ) → number_in b ≡ q → Known xs
  known_range a b w None e q f = shapeless (range_first w e)
  known_range a b w (Some R) e None f = shapeless (range_second w e f)
  known_range a b w (Some R) e (Some M) f = go (two_decided 4294967296 R 4096 M)
    where
      go : Decided (Inside 4294967296 R × Inside 4096 M) → Known xs
      go (within h) = said (range_line w e f h.0 h.1)
      go (without h) = far (range_far w e f (λ i j. h (i, j)))

  known_add : (a b : List ℕ) → words xs ≡ add_bytes ∷ a ∷ b ∷ [] → (p : Option ℕ) → number_in a ≡ p → (q : Option ℕ) → capacity_in b ≡ q → Known xs
  known_add a b w None e q f = shapeless (add_first w e)
  known_add a b w (Some d) e None f = shapeless (add_second w e f)
  known_add a b w (Some d) e (Some c) f = go (two_decided 65535 d 16000000 c)
    where
      go : Decided (Inside 65535 d × Inside 16000000 c) → Known xs
      go (within h) = said (add_line w e f h.0 h.1)
      go (without h) = far (add_far w e f (λ i j. h (i, j)))

  known_resize : (a b : List ℕ) → words xs ≡ resize_bytes ∷ a ∷ b ∷ [] → (p : Option ℕ) → number_in a ≡ p → (q : Option ℕ) → capacity_in b ≡ q → Known xs
  known_resize a b w None e q f = shapeless (resize_first w e)
  known_resize a b w (Some d) e None f = shapeless (resize_second w e f)
  known_resize a b w (Some d) e (Some c) f = go (two_decided 65535 d 16000000 c)
    where
      go : Decided (Inside 65535 d × Inside 16000000 c) → Known xs
      go (within h) = said (resize_line w e f h.0 h.1)
      go (without h) = far (resize_far w e f (λ i j. h (i, j)))

  known_remove : (a : List ℕ) → words xs ≡ remove_bytes ∷ a ∷ [] → (p : Option ℕ) → number_in a ≡ p → Known xs
  known_remove a w None e = shapeless (remove_only w e)
  known_remove a w (Some d) e = go (one_decided 65535 d)
    where
      go : Decided (Inside 65535 d) → Known xs
      go (within h) = said (remove_line_lem w e h)
      go (without h) = far (remove_far w e h)

  known_two : (k a : List ℕ) → words xs ≡ k ∷ a ∷ [] → Decided (k ≡ remove_bytes) → Known xs
  known_two k a w (within e) = known_remove a (w ∙ ap (λ z. z ∷ a ∷ []) e) (number_in a) refl
  known_two k a w (without h) = shapeless (two_words w h)

  known_three : (k a b : List ℕ) → words xs ≡ k ∷ a ∷ b ∷ [] → Decided (k ≡ range_bytes) → Decided (k ≡ add_bytes) → Decided (k ≡ resize_bytes) → Known xs
  known_three k a b w (within e) f g = known_range a b (w ∙ ap (λ z. z ∷ a ∷ b ∷ []) e) (number_in a) refl (number_in b) refl
  known_three k a b w (without h) (within e) g = known_add a b (w ∙ ap (λ z. z ∷ a ∷ b ∷ []) e) (number_in a) refl (capacity_in b) refl
  known_three k a b w (without h) (without i) (within e) = known_resize a b (w ∙ ap (λ z. z ∷ a ∷ b ∷ []) e) (number_in a) refl (capacity_in b) refl
  known_three k a b w (without h) (without i) (without j) = shapeless (three_words_lem w h i j)

  pub line_known : Known xs
  line_known = go (words xs) refl
    where
      go : (ws : List (List ℕ)) → words xs ≡ ws → Known xs
      go [] w = shapeless (no_words w)
      go (k ∷ []) w = shapeless (one_word w)
      go (k ∷ a ∷ []) w = known_two k a w (same_decided k remove_bytes)
      go (k ∷ a ∷ b ∷ []) w = known_three k a b w (same_decided k range_bytes) (same_decided k add_bytes) (same_decided k resize_bytes)
      go (k ∷ a ∷ b ∷ c ∷ ws) w = shapeless (more_words w)
