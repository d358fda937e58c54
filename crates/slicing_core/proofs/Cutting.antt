-- Laws of a cut.
--
-- CutTo: cut_to_whole, cut_to_gap, cut_to_pieces (at most two pieces have points)
-- walk: less_set, walk_cut (an interval's pieces, and the walk that goes on with what is left to release)
use mathlib.Core.Path.{◌≡◌, refl, fun_ext}
use mathlib.Core.Bool.{Bool, true, false}
use mathlib.Core.List.{List, ◌∷◌}
use Prim.Native.Nat.{ℕ, ◌+◌, ◌-◌, ◌*◌, ◌≤◌, ◌<◌, min}
use native.Mathlib.Omega.{arith}
use lib.Dec.{eqb, leb}
use lib.ListN.{length, set}
use lib.Seq.{get_or-set_same, get_or-set_other}
use borrow.Author.Tests.{eqb-true, eqb-false}
use Rattle.slicing.specs.Runs.{Run, ◌of◌, one}
use Rattle.slicing.specs.SixSteps.{Side, start, end, cut, cut_by, kept, taken, less, walk}
use Rattle.slicing.proofs.Walk.{cut_whole, cut_gap}
use Rattle.slicing_core.specs.Rows.{at}
use Rattle.slicing_core.specs.declared.cuts.Cut.{Cut}
use Rattle.slicing_core.specs.Stages.{side, CutTo}

cut_pieces : (r n : ℕ) (flag : Side) (touch : Bool)
    → min 1 (cut r n flag touch).front + min 1 (cut r n flag touch).gap + min 1 (cut r n flag touch).back ≤ 2
cut_pieces r n flag touch = go (eqb r 0) (leb n r) touch flag
  where
    go : (a b c : Bool) (f : Side) → min 1 (cut_by r n a b c f).front + min 1 (cut_by r n a b c f).gap + min 1 (cut_by r n a b c f).back ≤ 2
    go true b c f = omega arith
    go false true c f = omega arith
    go false false true f = omega arith
    go false false false start = omega arith
    go false false false end = omega arith

module _ {r n : ℕ} {flag : Side} {touch : Bool} {c : Cut} (t : CutTo r n flag touch c) where
  pub cut_to_whole : c.front + c.gap + c.back ≡ n
  cut_to_whole = rw (t.front, t.gap, t.back) (cut_whole r n flag touch)

  pub cut_to_gap : c.gap ≤ r
  cut_to_gap = omega (arith, t.gap, cut_gap r n flag touch)

  pub cut_to_pieces : min 1 c.front + min 1 c.gap + min 1 c.back ≤ 2
  cut_to_pieces = rw (t.front, t.gap, t.back) (cut_pieces r n flag touch)

less_set : (release : List ℕ) (d k : ℕ) → d < length release → at (set release d (at release d - k)) ≡ less (at release) d k
less_set release d k h = fun_ext (λ e. go e (eqb e d) refl)
  where
    go : (e : ℕ) (t : Bool) → eqb e d ≡ t → at (set release d (at release d - k)) e ≡ at release e - one t * k
    go e true f =
        let x : e ≡ d = eqb-true e d f in
        rw (x, get_or-set_same release d (at release d - k) 0 h) (omega arith)
    go e false f = rw (get_or-set_other release d e (at release d - k) 0 (eqb-false e d f)) (omega arith)

pub walk_cut : (release : List ℕ) (flag touch : Bool) (n d : ℕ) (c : Cut) (rs : List (Run ℕ))
    → CutTo (at release d) n (side flag) touch c → d < length release
    → walk (at release) (side flag) touch ((n of d) ∷ rs)
    ≡ (c.front of kept d) ∷ (c.gap of taken d) ∷ (c.back of kept d)
    ∷ walk (at (set release d (at release d - c.gap))) (side c.flag) c.touch rs
walk_cut release flag touch n d c rs t h = rw (less_set release d c.gap h, t.front, t.gap, t.back, t.flag, t.touch)
