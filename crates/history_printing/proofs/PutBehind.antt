-- Bytes put into a buffer at a place: what stands there before and behind is as it was.
--
--   Put b i xs b'       b' is b with xs put at place i
--   put_byte (one byte), put_behind (bytes behind bytes), put_none, put_same (the same bytes), put_room (the buffer's length)
--   Written b i xs b' j     the same, and j is the place behind xs
--   written_behind (bytes behind bytes), length_end (the length of a field), length_three, length_four (of a line of so many)
--   fields_left ns          the numbers of a line that are still to be written
--   Line                    a line of which the first i numbers are written; line_none, line_room, line_more, line_all
use mathlib.Core.Path.{◌≡◌, refl, sym, ap, ◌∙◌, subst}
use mathlib.Core.List.{List, [], ◌∷◌, ◌++◌, append_assoc, append-nil}
use Prim.Native.Nat.{ℕ, suc, ◌+◌, ◌≤◌, ◌<◌}
use native.Mathlib.Omega.{arith}
use native.Mathlib.Nat.{add-zero}
use native.Mathlib.Numerals.{add-one}
use lib.ListN.{length, get_or, set, take, drop, length-append, length-take, length-drop, take-append-drop}
use lib.Seq.{append_snoc, set_split, drop-cons}
use Rattle.std.proofs.lemmas.List.{drop_all}
use Rattle.slicing_core.proofs.Fronts.{front_put}
use Rattle.history_numbers.specs.Text.{line_end, space}
use Rattle.history_printing.specs.Printing.{decimal, fields}

abbrev pub Put : List ℕ → ℕ → List ℕ → List ℕ → Type 0
Put b i xs b' = b' ≡ take i b ++ xs ++ drop (i + length xs) b

pub put_none : (b : List ℕ) (i : ℕ) → Put b i [] b
put_none b i = sym (rw (add-zero, append-nil) (take-append-drop i b))

pub put_byte : (b : List ℕ) (i x : ℕ) → i < length b → Put b i (x ∷ []) (set b i x)
put_byte b i x h = set_split b i x h ∙ sym (append_snoc (take i b) x (drop (i + 1) b) ∙ rw add-one)

-- ys behind xs
pub put_behind : (b b' b'' xs ys : List ℕ) (i j : ℕ) → i ≤ length b → j ≡ i + length xs → Put b i xs b' → Put b' j ys b'' → Put b i (xs ++ ys) b''
put_behind b b' b'' xs ys i j h e p p' =
    let n : length (take i b) ≡ i = omega (arith, length-take i b) in
    let m : length (take i b ++ xs) ≡ j = omega (arith, length-append (take i b) xs) in
    let d : j + length ys ≡ i + length (xs ++ ys) = omega (arith, length-append xs ys) in
    let first : b' ≡ (take i b ++ xs) ++ drop j b = p ∙ rw (sym e) in
    let second = front_put b (take i b ++ xs) ys b' b'' j (length ys) m first p' in
    second ∙ rw (d, append_assoc (take i b) xs ys)

pub put_same : (b b' xs ys : List ℕ) (i : ℕ) → xs ≡ ys → Put b i xs b' → Put b i ys b'
put_same b b' xs ys i e p = subst (λ zs. Put b i zs b') e p

pub put_room : (b b' xs : List ℕ) (i : ℕ) → i + length xs ≤ length b → Put b i xs b' → length b' ≡ length b
put_room b b' xs i h p =
    omega (
      arith,
      ap length p,
      length-append (take i b ++ xs) (drop (i + length xs) b),
      length-append (take i b) xs,
      length-take i b,
      length-drop (i + length xs) b,
    )

-- ---- fields

abbrev pub Written : List ℕ → ℕ → List ℕ → List ℕ → ℕ → Type 0
Written b i xs b' j = (j ≡ i + length xs) × Put b i xs b'

pub length_end : (n e : ℕ) → length (decimal n ++ e ∷ []) ≡ length (decimal n) + 1
length_end n e = length-append (decimal n) (e ∷ [])

written_behind : (b b' b'' xs ys : List ℕ) (i j k : ℕ) → i ≤ length b → Written b i xs b' j → Written b' j ys b'' k → Written b i (xs ++ ys) b'' k
written_behind b b' b'' xs ys i j k h w v = (omega (arith, w.0, v.0, length-append xs ys), put_behind b b' b'' xs ys i j h w.0 w.1 v.1)

-- ---- the loop that writes a line

-- the line's numbers ns that are still to be written: of none, nothing
abbrev pub fields_left : List ℕ → List ℕ
fields_left [] = []
fields_left (n ∷ ns) = fields (n ∷ ns)

fields_first : (n e : ℕ) (ns : List ℕ) → (0 < length ns → e ≡ space) → (length ns ≡ 0 → e ≡ line_end)
    → (decimal n ++ e ∷ []) ++ fields_left ns ≡ fields (n ∷ ns)
fields_first n e [] f g = append-nil (decimal n ++ e ∷ []) ∙ ap (λ x. decimal n ++ x ∷ []) (g refl)
fields_first n e (m ∷ ns) f g = append_assoc (decimal n) (e ∷ []) (fields (m ∷ ns)) ∙ ap (λ x. decimal n ++ x ∷ fields (m ∷ ns)) (f (omega arith))

fields_none : (i : ℕ) (ns : List ℕ) → length ns ≤ i → fields_left (drop i ns) ≡ []
fields_none i ns h = rw (drop_all i ns h)

fields_all : (ns : List ℕ) → 1 ≤ length ns → fields_left ns ≡ fields ns
fields_all [] h = absurd (omega arith)
fields_all (n ∷ ns) h = refl

pub record Line (before : List ℕ) (place : ℕ) (ns after : List ℕ) (last i : ℕ) : Type 0 where
  pub room : last + length (fields_left (drop i ns)) ≤ length after
  pub same : length after ≡ length before
  pub rest : (b : List ℕ) (j : ℕ) → Written after last (fields_left (drop i ns)) b j → Written before place (fields_left ns) b j

pub line_none : (before : List ℕ) (place : ℕ) (ns : List ℕ) → 1 ≤ length ns → place + length (fields ns) ≤ length before → Line before place ns before place 0
line_none before place ns h l = record { room = omega (arith, ap length (fields_all ns h)); same = refl; rest = λ b j w. w }

-- the length of a line of numbers
length_fields_more : (n m : ℕ) (ns : List ℕ) → length (fields (n ∷ m ∷ ns)) ≡ length (decimal n) + 1 + length (fields (m ∷ ns))
length_fields_more n m ns = omega (arith, length-append (decimal n) (space ∷ fields (m ∷ ns)))

pub length_three : (a b c : ℕ) → length (fields (a ∷ b ∷ c ∷ [])) ≡ length (decimal a) + length (decimal b) + length (decimal c) + 3
length_three a b c = omega (arith, length_fields_more a b (c ∷ []), length_fields_more b c [], length_end c line_end)

pub length_four : (a b c d : ℕ)
    → length (fields (a ∷ b ∷ c ∷ d ∷ [])) ≡ length (decimal a) + length (decimal b) + length (decimal c) + length (decimal d) + 4
length_four a b c d = omega (arith, length_fields_more a b (c ∷ d ∷ []), length_three b c d)

-- room for one number more
fields_least : (n : ℕ) (ns : List ℕ) → length (decimal n) + 1 ≤ length (fields (n ∷ ns))
fields_least n [] = omega (arith, length_end n line_end)
fields_least n (m ∷ ns) = omega (arith, length-append (decimal n) (space ∷ fields (m ∷ ns)))

pub line_room : (before : List ℕ) (place : ℕ) (ns after : List ℕ) (last i : ℕ) → i < length ns → Line before place ns after last i
    → last + length (decimal (get_or ns i 0)) + 1 ≤ length after
line_room before place ns after last i h l =
    omega (arith, l.room, ap (λ xs. length (fields_left xs)) (drop-cons ns i 0 h), fields_least (get_or ns i 0) (drop (suc i) ns))

-- one number more, and the byte e behind it
module _ (before : List ℕ) (place : ℕ) (ns after : List ℕ) (last i e : ℕ) (h : i < length ns) (f : i + 1 < length ns → e ≡ space)
    (g : length ns ≤ i + 1 → e ≡ line_end) (l : Line before place ns after last i) where
  abbrev field : List ℕ
  field = decimal (get_or ns i 0) ++ e ∷ []

  first : field ++ fields_left (drop (i + 1) ns) ≡ fields_left (drop i ns)
  first =
      fields_first (get_or ns i 0) e (drop (i + 1) ns) (λ k. f (omega (arith, length-drop (i + 1) ns))) (λ k. g (omega (arith, length-drop (i + 1) ns)))
      ∙ sym (ap fields_left (drop-cons ns i 0 h ∙ ap (λ k. get_or ns i 0 ∷ drop k ns) (sym (add-one i))))

  field_room : last + length field + length (fields_left (drop (i + 1) ns)) ≤ length after
  field_room = omega (arith, l.room, ap length first, length-append field (fields_left (drop (i + 1) ns)))

  pub line_more : (after' : List ℕ) (last' : ℕ) → Written after last field after' last' → Line before place ns after' last' (i + 1)
  line_more after' last' w =
      let same : length after' ≡ length after = put_room after after' field last (omega (arith, field_room)) w.1 in
      record {
        room = omega (arith, field_room, w.0, same);
        same = same ∙ l.same;
        rest = λ b j v. l.rest b j (subst (λ xs. Written after last xs b j) first (written_behind after after' b field _ last last' j (omega (arith, field_room)) w v));
      }

pub line_all : (before : List ℕ) (place : ℕ) (ns after : List ℕ) (last i : ℕ) → 1 ≤ length ns → length ns ≤ i → Line before place ns after last i
    → Written before place (fields ns) after last
line_all before place ns after last i h e l =
    let none : Written after last [] after last = (omega arith, put_none after last) in
    let left : Written after last (fields_left (drop i ns)) after last = rw (fields_none i ns e) none in
    rw (fields_all ns h) at (l.rest after last left)
