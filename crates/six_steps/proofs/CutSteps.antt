-- The loop of `cut`: what it keeps, and its step.
--
--   Cutting ps table q release pieces count i flag touch     where the cutting stands, before interval i: the pieces written and
--                                                            those of the walk from there on are the pieces ps that are not empty
--
-- Cutting: cutting_pass (an interval whose owner has nothing to release), cutting_step
use mathlib.Core.Path.{◌≡◌, ◌∙◌, fun_ext}
use mathlib.Core.Bool.{Bool, false}
use mathlib.Core.List.{List, ◌∷◌, ◌++◌}
use Prim.Native.Nat.{ℕ, ◌+◌, ◌-◌, ◌*◌, ◌/◌, ◌%◌, ◌≤◌, ◌<◌}
use native.Mathlib.Omega.{arith}
use lib.Dec.{eqb}
use lib.ListN.{length, set, length-set}
use borrow.Author.Tests.{lt-ltb, le-ltb, eq-eqb}
use Rattle.slicing.specs.Runs.{Run, ◌of◌, one}
use Rattle.slicing.specs.SixSteps.{Piece, kept, taken, less, walk}
use Rattle.slicing_core.specs.Rows.{at}
use Rattle.slicing_core.specs.Stages.{side, CutTo}
use Rattle.slicing_core.specs.declared.cuts.Cut.{Cut}
use Rattle.slicing_core.proofs.Cutting.{cut_to_pieces, walk_cut}
use Rattle.packed_runs.specs.Words.{room, runs, piece_of, pieces_of, present, Labelled}
use Rattle.packed_runs.specs.Stages.{Put}
use Rattle.packed_runs.proofs.Words.{runs_step}
use Rattle.packed_runs.proofs.Pushing.{put_marks}

mark_kept : (d : ℕ) → d < 256 → piece_of d ≡ kept d
mark_kept d h = rw (lt-ltb d 256 h)

mark_taken : (d : ℕ) → piece_of (d + 256) ≡ taken d
mark_taken d =
    let e : d + 256 - 256 ≡ d = omega arith in
    rw (le-ltb (d + 256) 256 (omega arith), e)

module _ (ps : List (Run Piece)) (table : List ℕ) (q : ℕ) where
  pub record Cutting (release pieces : List ℕ) (count i : ℕ) (flag touch : Bool) : Type 0 where
    pub owed : length release ≡ 256
    pub size : length pieces ≡ room
    pub all : pieces_of pieces 0 count ++ present (walk (at release) (side flag) touch (runs table i (q - i))) ≡ present ps
    pub few : count ≤ 2 * i
    pub passed : i ≤ q
    pub labels : Labelled 512 pieces count

-- an interval whose owner has nothing to release
pub cutting_pass : {ps : List (Run Piece)} {table release pieces pieces' : List ℕ} {q count i m : ℕ} {flag touch : Bool}
    → Cutting ps table q release pieces count i flag touch → i < q → at table i % 65536 < 256 → at release (at table i % 65536) ≡ 0
    → Put pieces count (at table i / 65536) (at table i % 65536) pieces' m → Cutting ps table q release pieces' m (i + 1) flag false
cutting_pass {ps} {table} {release} {pieces} {pieces'} {q} {count} {i} {m} {flag} {touch} w h b z p =
    let d = at table i % 65536 in
    let later = walk (at release) (side flag) false (runs table (i + 1) (q - (i + 1))) in
    record {
      owed = w.owed;
      size = p.size;
      all = put_marks (kept d) ((0 of taken d) ∷ (0 of kept d) ∷ later) p (mark_kept d b) ∙ (rw (runs_step table i q h, eq-eqb (at release d) 0 z, less_none (at release) d) at w.all);
      few = omega (arith, w.few, p.most);
      passed = omega arith;
      labels = p.labels 512 (omega arith) w.labels;
    }
  where
    less_none : (r : ℕ → ℕ) (d : ℕ) → less r d 0 ≡ r
    less_none r d = fun_ext (λ e. go (r e) (one (eqb e d)))
      where
        go : (x t : ℕ) → x - t * 0 ≡ x
        go x t = omega arith

module _ {ps : List (Run Piece)} {table release pieces : List ℕ} {q count i : ℕ} {flag touch : Bool} {c : Cut}
    (w : Cutting ps table q release pieces count i flag touch) (h : i < q) (few : q ≤ 4096) (b : at table i % 65536 < 256)
    (t : CutTo (at release (at table i % 65536)) (at table i / 65536) (side flag) touch c) where
  abbrev d : ℕ
  d = at table i % 65536

  abbrev release' : List ℕ
  release' = set release d (at release d - c.gap)

  abbrev later : List (Run Piece)
  later = walk (at release') (side c.flag) c.touch (runs table (i + 1) (q - (i + 1)))

  walk_open : walk (at release) (side flag) touch (runs table i (q - i)) ≡ (c.front of kept d) ∷ (c.gap of taken d) ∷ (c.back of kept d) ∷ later
  walk_open =
      rw (runs_step table i q h)
      (walk_cut release flag touch (at table i / 65536) d c (runs table (i + 1) (q - (i + 1))) t (omega (arith, w.owed)))

  pub cutting_step : {pieces1 pieces2 pieces3 : List ℕ} {m1 m2 m3 : ℕ} → Put pieces count c.front d pieces1 m1
      → Put pieces1 m1 c.gap (d + 256) pieces2 m2 → Put pieces2 m2 c.back d pieces3 m3
      → Cutting ps table q release' pieces3 m3 (i + 1) c.flag c.touch
  cutting_step {pieces1} {pieces2} {pieces3} {m1} {m2} {m3} p1 p2 p3 = record {
    owed = length-set release d (at release d - c.gap) ∙ w.owed;
    size = p3.size;
    all =
        put_marks (kept d) later p3 (mark_kept d b)
        ∙ put_marks (taken d) ((c.back of kept d) ∷ later) p2 (mark_taken d)
        ∙ put_marks (kept d) ((c.gap of taken d) ∷ (c.back of kept d) ∷ later) p1 (mark_kept d b)
        ∙ (rw walk_open at w.all);
    few = omega (arith, w.few, p1.most, p2.most, p3.most, cut_to_pieces t);
    passed = omega arith;
    labels = p3.labels 512 (omega arith) (p2.labels 512 (omega arith) (p1.labels 512 (omega arith) w.labels));
  }
