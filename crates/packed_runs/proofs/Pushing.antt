-- Laws of a run put behind others.
--
-- Put: put_more, put_marks
-- Pushed: pushed_more, pushed_put (the two ways in which push writes), pushed_total
use mathlib.Core.Path.{◌≡◌, refl, ap, ◌∙◌}
use mathlib.Core.List.{List, [], ◌∷◌, ◌++◌, append_assoc}
use Prim.Native.Nat.{ℕ, zero, suc, ◌+◌, ◌-◌, ◌*◌, ◌/◌, ◌%◌, ◌≤◌, ◌<◌, min}
use native.Mathlib.Omega.{arith}
use lib.Dec.{eqb}
use lib.ListN.{length, set, length-append, length-replicate, length-set}
use borrow.Author.Tests.{ne_eqb}
use Rattle.slicing.specs.Runs.{Run, ◌of◌, total, relabel, Coalesced}
use Rattle.slicing.specs.SixSteps.{Piece}
use Rattle.slicing.proofs.Runs.{length_expand, relabel_append}
use Rattle.slicing_core.specs.Rows.{at}
use Rattle.slicing_core.proofs.Pushing.{expand_put, expand_more, coalesced_more, coalesced_put}
use Rattle.packed_runs.specs.Words.{room, runs, piece_of, pieces_of, present}
use Rattle.packed_runs.specs.Stages.{Put, Held, Pushed}
use Rattle.packed_runs.proofs.Words.{word_size, word_label, more_size, more_label, runs_write, runs_last, runs_last_write, labelled_put}

-- ---- put

module _ (xs : List ℕ) (n k x : ℕ) (size : length xs ≡ room) where
  pub put_more : (k ≡ 0 → ⊥) → n + min 1 k ≤ room → x < 65536 → Put xs n k x (set xs n (k * 65536 + x)) (n + 1)
  put_more p f l = record {
    size = length-set xs n (k * 65536 + x) ∙ size;
    all = rw (runs_write xs n (k * 65536 + x) (omega arith), word_size k x l, word_label k x l) (there k p);
    most = omega arith;
    labels = λ j h m. labelled_put j xs n (k * 65536 + x) (omega arith) (rw (word_label k x l) h) m;
  }
    where
      there : (k : ℕ) → (k ≡ 0 → ⊥) → runs xs 0 n ++ ((k of x) ∷ []) ≡ runs xs 0 n ++ present ((k of x) ∷ [])
      there zero p = absurd (p refl)
      there (suc k) p = refl

-- a put as a step of a list of pieces
pub put_marks : {xs ys : List ℕ} {n k x m : ℕ} (y : Piece) (rs : List (Run Piece)) → Put xs n k x ys m → piece_of x ≡ y
    → pieces_of ys 0 m ++ present rs ≡ pieces_of xs 0 n ++ present ((k of y) ∷ rs)
put_marks {xs} {ys} {n} {k} {x} {m} y rs p e =
    rw (p.all, relabel_append, append_assoc) (ap (λ r. pieces_of xs 0 n ++ r) (go k))
  where
    go : (k : ℕ) → relabel piece_of (present ((k of x) ∷ [])) ++ present rs ≡ present ((k of y) ∷ rs)
    go zero = refl
    go (suc k) = rw e

-- ---- push

module _ (xs : List ℕ) (n k x : ℕ) (held : Held xs n (min 1 k)) where
  pub pushed_more : 1 ≤ n → at xs (n - 1) % 65536 ≡ x → Pushed xs n k x (set xs (n - 1) (at xs (n - 1) + k * 65536)) n
  pushed_more b e = record {
    size = length-set xs (n - 1) (at xs (n - 1) + k * 65536) ∙ held.size;
    coalesced = rw joined (coalesced_more eqb (runs xs 0 (n - 1)) (at xs (n - 1) / 65536) k (at xs (n - 1) % 65536) (rw (runs_last xs n b) at held.coalesced));
    points = rw (joined, runs_last xs n b, ← e) (expand_more (runs xs 0 (n - 1)) (at xs (n - 1) / 65536) k (at xs (n - 1) % 65536));
    most = omega arith;
  }
    where
      joined : runs (set xs (n - 1) (at xs (n - 1) + k * 65536)) 0 n ≡ runs xs 0 (n - 1) ++ ((at xs (n - 1) / 65536 + k of at xs (n - 1) % 65536) ∷ [])
      joined =
          runs_last_write xs n (at xs (n - 1) + k * 65536) b (omega (arith, held.size, held.fits))
          ∙ rw (more_size (at xs (n - 1)) k, more_label (at xs (n - 1)) k)

  pub pushed_put : 1 ≤ k → x < 65536 → (1 ≤ n → at xs (n - 1) % 65536 ≡ x → ⊥) → Pushed xs n k x (set xs n (k * 65536 + x)) (n + 1)
  pushed_put p l d = record {
    size = length-set xs n (k * 65536 + x) ∙ held.size;
    coalesced = rw put (apart n refl);
    points = rw put (expand_put (runs xs 0 n) k x);
    most = omega arith;
  }
    where
      put : runs (set xs n (k * 65536 + x)) 0 (n + 1) ≡ runs xs 0 n ++ ((k of x) ∷ [])
      put = runs_write xs n (k * 65536 + x) (omega (arith, held.size, held.fits)) ∙ rw (word_size k x l, word_label k x l)

      apart : (m : ℕ) → n ≡ m → Coalesced eqb (runs xs 0 n ++ ((k of x) ∷ []))
      apart zero z = rw z (p, tt, tt)
      apart (suc m) z =
          let b : 1 ≤ n = omega arith in
          rw (runs_last xs n b, append_assoc)
          (coalesced_put eqb (runs xs 0 (n - 1)) (at xs (n - 1) / 65536) k (at xs (n - 1) % 65536) x (rw (runs_last xs n b) at held.coalesced) p
          (ne_eqb _ _ (d b)))

pub pushed_total : {xs ys : List ℕ} {n k x m : ℕ} → Pushed xs n k x ys m → total (runs ys 0 m) ≡ total (runs xs 0 n) + k
pushed_total {xs} {ys} {n} {k} {x} {m} p = simp (length-append, length_expand, length-replicate) at (ap length p.points)
