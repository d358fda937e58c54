-- The loop of `fill`: what it keeps, and its steps.
--
--   Filling ts p n pieces queue turns count i j     where the filling stands, before piece i and row j of the queue: the turns written and
--                                                   the filling of what is left are the turns ts
--
-- labels: turn_join, turn_self, differ_turn, coalesced_turn
-- given: given_none, given_whole, given_part
-- Filling: filling_none, filling_more (a row of the queue is left while a taken piece is), filling_push and filling_turn
-- (what `push` asks), filling_empty, filling_kept, filling_whole, filling_part, filling_end
use mathlib.Core.Path.{◌≡◌, refl, sym, ap, ◌∙◌}
use mathlib.Core.Bool.{Bool, true, false, ◌&&◌}
use mathlib.Core.List.{List, [], ◌∷◌, ◌++◌, map, map-append, append_assoc, append-nil}
use Prim.Native.Nat.{ℕ, ◌+◌, ◌-◌, ◌*◌, ◌^◌, ◌/◌, ◌%◌, ◌≤◌, ◌<◌, min}
use native.Mathlib.Omega.{arith}
use native.Mathlib.Nat.{sub-zero}
use lib.Dec.{eqb, ltb}
use lib.ListN.{length, set, replicate, length-set}
use borrow.Author.Tests.{eqb-true, eqb-false, ltb-true, ltb-false, lt-ltb, le-ltb}
use Rattle.slicing.specs.Runs.{Run, ◌of◌, total, expand, relabel, coalesce, Differs, Coalesced}
use Rattle.slicing.specs.SixSteps.{Piece, kept, taken, Turn, ◌⟶◌, same_turn, fill}
use Rattle.slicing.proofs.Runs.{map_replicate, expand_relabel, coalesce_unique}
use Rattle.slicing.proofs.Moves.{same_turn_lem, self_turn}
use Rattle.slicing.proofs.Walk.{takens}
use Rattle.slicing_core.specs.Rows.{at}
use Rattle.slicing_core.proofs.Points.{given, take_replicate, drop_replicate, expand_fill}
use Rattle.packed_runs.specs.Words.{room, runs, piece_of, turn_of, pieces_of, turns_of, Labelled}
use Rattle.packed_runs.specs.Stages.{Held, Pushed}
use Rattle.packed_runs.proofs.Words.{less_size, less_label, runs_step, runs_end, runs_first_write, labelled_set}
use Rattle.packed_runs.proofs.Pushing.{pushed_total}

-- ---- labels

turn_join : (d e : ℕ) → e < 256 → turn_of (d * 256 + e) ≡ (d ⟶ e)
turn_join d e h =
    let a : (d * 256 + e) / 256 ≡ d = omega arith in
    let b : (d * 256 + e) % 256 ≡ e = omega arith in
    rw (a, b)

turn_self : (d : ℕ) → d < 256 → turn_of (d * 257) ≡ (d ⟶ d)
turn_self d h =
    let a : d * 257 / 256 ≡ d = omega arith in
    let b : d * 257 % 256 ≡ d = omega arith in
    rw (a, b)

-- numbers that differ are turns that differ
differ_turn : (x y : ℕ) → eqb x y ≡ false → same_turn (turn_of x) (turn_of y) ≡ false
differ_turn x y h = go (eqb (x / 256) (y / 256)) (eqb (x % 256) (y % 256)) refl refl
  where
    go : (i j : Bool) → eqb (x / 256) (y / 256) ≡ i → eqb (x % 256) (y % 256) ≡ j → i && j ≡ false
    go true true e f =
        let a : x / 256 ≡ y / 256 = eqb-true (x / 256) (y / 256) e in
        let b : x % 256 ≡ y % 256 = eqb-true (x % 256) (y % 256) f in
        absurd (eqb-false x y h (omega arith))
    go true false e f = refl
    go false j e f = refl

coalesced_turn : (rs : List (Run ℕ)) → Coalesced eqb rs → Coalesced same_turn (relabel turn_of rs)
coalesced_turn [] h = tt
coalesced_turn ((n of x) ∷ rs) h = (h.0, differs rs h.1, coalesced_turn rs h.2)
  where
    differs : (rs : List (Run ℕ)) → Differs eqb x rs → Differs same_turn (turn_of x) (relabel turn_of rs)
    differs [] k = tt
    differs ((m of y) ∷ rs) k = differ_turn x y k

-- ---- a filling, one step at a time

-- an empty piece
given_none : (m : Piece) (ps : List (Run Piece)) (xs : List ℕ) → given ((0 of m) ∷ ps) xs ≡ given ps xs
given_none (kept d) ps xs = refl
given_none (taken d) ps xs = refl

takens_none : (m : Piece) (ps : List (Run Piece)) → total (takens ((0 of m) ∷ ps)) ≡ total (takens ps)
takens_none (kept d) ps = refl
takens_none (taken d) ps = omega arith

-- the first row of the queue gets all that it needs
given_whole : (d e n m : ℕ) (ps : List (Run Piece)) (xs : List ℕ) → m ≤ n
    → given ((n of taken d) ∷ ps) (replicate m e ++ xs) ≡ replicate m (d ⟶ e) ++ given ((n - m of taken d) ∷ ps) xs
given_whole d e n m ps xs h =
    let s : min n m ≡ m = omega arith in
    let z : m - n ≡ 0 = omega arith in
    rw (take_replicate n m e xs, drop_replicate n m e xs, s, z, map-append, map_replicate, append_assoc)

-- it gets the whole piece
given_part : (d e n m : ℕ) (ps : List (Run Piece)) (xs : List ℕ) → n ≤ m
    → given ((n of taken d) ∷ ps) (replicate m e ++ xs) ≡ replicate n (d ⟶ e) ++ given ps (replicate (m - n) e ++ xs)
given_part d e n m ps xs h =
    let s : min n m ≡ n = omega arith in
    let z : n - m ≡ 0 = omega arith in
    rw (take_replicate n m e xs, drop_replicate n m e xs, s, z, map-append, map_replicate, append-nil)

-- ---- what the loop keeps

module _ (ts : List (Run Turn)) (p n : ℕ) where
  pub record Filling (pieces queue turns : List ℕ) (count i j : ℕ) : Type 0 where
    pub piece_size : length pieces ≡ room
    pub queue_size : length queue ≡ 256
    pub size : length turns ≡ room
    pub coalesced : Coalesced eqb (runs turns 0 count)
    pub points : map turn_of (expand (runs turns 0 count)) ++ given (pieces_of pieces i (p - i)) (expand (runs queue j (n - j))) ≡ expand ts
    pub enough : total (takens (pieces_of pieces i (p - i))) ≤ total (runs queue j (n - j))
    pub small : total (runs turns 0 count) + total (runs pieces i (p - i)) < 2 ^ 48
    pub fits : count + (p - i) + (n - j) ≤ p + n
    pub passed : i ≤ p
    pub used : j ≤ n
    pub marked : Labelled 512 pieces p
    pub queued : Labelled 256 queue n

pub filling_none : (pieces queue turns : List ℕ) (p n : ℕ) → length pieces ≡ room → length queue ≡ 256 → length turns ≡ room
    → Labelled 512 pieces p → Labelled 256 queue n → total (takens (pieces_of pieces 0 p)) ≤ total (runs queue 0 n) → total (runs pieces 0 p) < 2 ^ 48
    → Filling (fill (pieces_of pieces 0 p) (runs queue 0 n)) p n pieces queue turns 0 0 0
filling_none pieces queue turns p n a b c d e f g = record {
  piece_size = a;
  queue_size = b;
  size = c;
  coalesced = tt;
  points = rw (sub-zero p, sub-zero n) (sym (expand_fill (pieces_of pieces 0 p) (runs queue 0 n)));
  enough = rw (sub-zero p, sub-zero n) f;
  small = rw (sub-zero p) (omega arith);
  fits = omega arith;
  passed = omega arith;
  used = omega arith;
  marked = d;
  queued = e;
}

module _ {ts : List (Run Turn)} {p n : ℕ} {pieces queue turns : List ℕ} {count i j : ℕ} (w : Filling ts p n pieces queue turns count i j) where
  pub filling_end : p ≤ i → turns_of turns 0 count ≡ coalesce same_turn ts
  filling_end h =
      sym
      (coalesce_unique same_turn same_turn_lem self_turn ts (turns_of turns 0 count) (coalesced_turn (runs turns 0 count) w.coalesced)
      (sym (expand_relabel turn_of (runs turns 0 count) ∙ (rw (runs_end pieces i p h, append-nil) at w.points))))

  -- k points with the turn x are written
  step : {turns' : List ℕ} {count' k x : ℕ} (pieces' queue' : List ℕ) (i' j' : ℕ) → Pushed turns count k x turns' count'
      → given (pieces_of pieces i (p - i)) (expand (runs queue j (n - j)))
      ≡ replicate k (turn_of x) ++ given (pieces_of pieces' i' (p - i')) (expand (runs queue' j' (n - j')))
      → total (takens (pieces_of pieces' i' (p - i'))) ≤ total (runs queue' j' (n - j'))
      → total (runs pieces i (p - i)) ≡ k + total (runs pieces' i' (p - i'))
      → length pieces' ≡ room → length queue' ≡ 256 → i' ≤ p → j' ≤ n → p - i' + (n - j') + 1 ≤ p - i + (n - j)
      → Labelled 512 pieces' p → Labelled 256 queue' n → Filling ts p n pieces' queue' turns' count' i' j'
  step {turns'} {count'} {k} {x} pieces' queue' i' j' u g e s a b c d f m q = record {
    piece_size = a;
    queue_size = b;
    size = u.size;
    coalesced = u.coalesced;
    points = rw (u.points, map-append, map_replicate, append_assoc) (rw g at w.points);
    enough = e;
    small = omega (arith, w.small, pushed_total u);
    fits = omega (arith, w.fits, u.most);
    passed = c;
    used = d;
    marked = m;
    queued = q;
  }

  module _ (h : i < p) where
    abbrev size : ℕ
    size = at pieces i / 65536

    abbrev label : ℕ
    label = at pieces i % 65536

    abbrev need : ℕ
    need = at queue j / 65536

    abbrev row : ℕ
    row = at queue j % 65536

    piece_here : (m : Piece) → piece_of label ≡ m → pieces_of pieces i (p - i) ≡ (size of m) ∷ pieces_of pieces (i + 1) (p - (i + 1))
    piece_here m e = rw (runs_step pieces i p h, e)

    -- what `push` asks
    pub filling_push : p + n ≤ room → (k x : ℕ) → k ≤ size → x < 65536
        → Held turns count (min 1 k) × (total (runs turns 0 count) + k < 2 ^ 48) × (x < 65536)
    filling_push b k x l m = (
      record { size = w.size; fits = omega (arith, w.fits); coalesced = w.coalesced },
      omega (arith, w.small, ap total (runs_step pieces i p h)),
      m,
    )

    pub filling_empty : size ≡ 0 → Filling ts p n pieces queue turns count (i + 1) j
    filling_empty z = record {
      piece_size = w.piece_size;
      queue_size = w.queue_size;
      size = w.size;
      coalesced = w.coalesced;
      points = rw (piece_here (piece_of label) refl, z, given_none) at w.points;
      enough = omega (arith, takens_none (piece_of label) (pieces_of pieces (i + 1) (p - (i + 1))), rw (piece_here (piece_of label) refl, z) at w.enough);
      small = omega (arith, w.small, ap total (runs_step pieces i p h));
      fits = omega (arith, w.fits);
      passed = omega arith;
      used = w.used;
      marked = w.marked;
      queued = w.queued;
    }

    pub filling_kept : {turns' : List ℕ} {count' : ℕ} → label < 256 → Pushed turns count size (label * 257) turns' count'
        → Filling ts p n pieces queue turns' count' (i + 1) j
    filling_kept b u =
        let e = piece_here (kept label) (rw (lt-ltb label 256 b)) in
        step pieces queue (i + 1) j u (rw (e, turn_self label b)) (rw e at w.enough) (ap total (runs_step pieces i p h)) w.piece_size w.queue_size
        (omega arith) w.used (omega arith) w.marked w.queued

    module _ (b : 256 ≤ label) where
      abbrev old : ℕ
      old = label - 256

      mark_here : piece_of label ≡ taken old
      mark_here = rw (le-ltb label 256 b)

      enough_here : size + total (takens (pieces_of pieces (i + 1) (p - (i + 1)))) ≤ total (runs queue j (n - j))
      enough_here = rw (piece_here (taken old) mark_here) at w.enough

      -- a row of the queue is left while a taken piece is
      pub filling_more : (size ≡ 0 → ⊥) → j < n
      filling_more z = go (ltb j n) refl
        where
          go : (t : Bool) → ltb j n ≡ t → j < n
          go true e = ltb-true j n e
          go false e =
              let k : n ≤ j = ltb-false j n e in
              absurd (z (omega (arith, rw (runs_end queue j n k) at enough_here)))

      module _ (l : j < n) where
        pub label_fits : old * 256 + row < 65536
        label_fits = omega (arith, w.marked i h, w.queued j l)

        -- what `push` asks of the turns of a taken piece
        pub filling_turn : p + n ≤ room → (k : ℕ) → k ≤ size
            → Held turns count (min 1 k) × (total (runs turns 0 count) + k < 2 ^ 48) × (old * 256 + row < 65536)
        filling_turn c k d = filling_push c k (old * 256 + row) d label_fits

        turn_here : turn_of (old * 256 + row) ≡ (old ⟶ row)
        turn_here = turn_join old row (w.queued j l)

        -- the row gets all that it needs
        pub filling_whole : {turns' : List ℕ} {count' : ℕ} → p ≤ room → need < size → Pushed turns count need (old * 256 + row) turns' count'
            → Filling ts p n (set pieces i (at pieces i - need * 65536)) queue turns' count' i (j + 1)
        filling_whole c f u =
            step pieces' queue i (j + 1) u
            (rw (piece_here (taken old) mark_here, runs_step queue j n l, cut_marks, turn_here)
            (given_whole old row size need (pieces_of pieces (i + 1) (p - (i + 1))) (expand (runs queue (j + 1) (n - (j + 1)))) (omega arith)))
            (rw cut_marks (omega (arith, rw (runs_step queue j n l) at enough_here)))
            (omega (arith, ap total (runs_step pieces i p h), ap total cut_runs))
            (length-set pieces i (at pieces i - need * 65536) ∙ w.piece_size) w.queue_size w.passed (omega (arith, l)) (omega (arith, l))
            (labelled_set 512 pieces p i (at pieces i - need * 65536) (omega (arith, w.piece_size)) (less_label (at pieces i) need (omega arith)) w.marked)
            w.queued
          where
            pieces' : List ℕ
            pieces' = set pieces i (at pieces i - need * 65536)

            cut_runs : runs pieces' i (p - i) ≡ (size - need of label) ∷ runs pieces (i + 1) (p - (i + 1))
            cut_runs =
                runs_first_write pieces i p (at pieces i - need * 65536) h (omega (arith, w.piece_size))
                ∙ rw (less_size (at pieces i) need (omega arith), less_label (at pieces i) need (omega arith))

            cut_marks : pieces_of pieces' i (p - i) ≡ (size - need of taken old) ∷ pieces_of pieces (i + 1) (p - (i + 1))
            cut_marks = rw (cut_runs, mark_here)

        -- it gets the whole piece
        pub filling_part : {turns' : List ℕ} {count' : ℕ} → n ≤ 256 → size ≤ need → Pushed turns count size (old * 256 + row) turns' count'
            → Filling ts p n pieces (set queue j (at queue j - size * 65536)) turns' count' (i + 1) j
        filling_part c f u =
            step pieces queue' (i + 1) j u
            (rw (piece_here (taken old) mark_here, runs_step queue j n l, cut_runs, turn_here)
            (given_part old row size need (pieces_of pieces (i + 1) (p - (i + 1))) (expand (runs queue (j + 1) (n - (j + 1)))) (omega arith)))
            (rw cut_runs (omega (arith, rw (runs_step queue j n l) at enough_here)))
            (ap total (runs_step pieces i p h))
            w.piece_size (length-set queue j (at queue j - size * 65536) ∙ w.queue_size) (omega arith) w.used (omega arith) w.marked
            (labelled_set 256 queue n j (at queue j - size * 65536) (omega (arith, l, w.queue_size)) (less_label (at queue j) size (omega arith)) w.queued)
          where
            queue' : List ℕ
            queue' = set queue j (at queue j - size * 65536)

            cut_runs : runs queue' j (n - j) ≡ (need - size of row) ∷ runs queue (j + 1) (n - (j + 1))
            cut_runs =
                runs_first_write queue j n (at queue j - size * 65536) l (omega (arith, l, w.queue_size))
                ∙ rw (less_size (at queue j) size (omega arith), less_label (at queue j) size (omega arith))
