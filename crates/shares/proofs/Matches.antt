-- Matches played in a tournament.
--
-- Ahead: ahead_own, ahead_trans
-- First: first_leaf, first_match (the winner of a match)
-- Tree: tree_leaves, tree_close; tree_small (who plays a match), tree_play (its winner is stored); tree_raise (a row has a point more); root_row,
--   root_ahead (the row at the root is ahead of all)
use mathlib.Core.Path.{◌≡◌, sym, ap, ◌∙◌, subst}
use mathlib.Core.List.{List}
use mathlib.Core.Logic.{inl, inr}
use Prim.Native.Nat.{ℕ, suc, ◌+◌, ◌*◌, ◌-◌, ◌/◌, ◌≤◌, ◌<◌}
use native.Mathlib.Decide.{ℕ_discrete}
use native.Mathlib.Nat.{le_refl}
use native.Mathlib.Omega.{arith}
use lib.ListN.{length, set, length-set}
use lib.Seq.{get_or-set_same, get_or-set_other}
use Rattle.slicing.specs.Devices.{device}
use Rattle.slicing.proofs.Quotients.{before_weaken, before_trans, before_own_not}
use Rattle.slicing_core.specs.Rows.{at}
use Rattle.shares.specs.Tournament.{Ahead, Small, Ready, Won, Leaves, Above, here, First, Tree, Tournament, Raised}
use Rattle.shares.proofs.Nodes.{above_up, above_next, above_down, above_leaf, above_root}

module _ (p caps : List ℕ) where
  -- ---- rows ahead of others

  ahead_own : (i : ℕ) → Ahead p caps i i
  ahead_own i = before_own_not (device i (at caps i)) (suc (at p i)) (suc (at p i)) (le_refl (suc (at p i)))

  -- ---- the row that goes first

  first_leaf : {n k r : ℕ} → n ≤ k → r < n → Above k (n + r) → First p caps n k r
  first_leaf {n} {k} {r} a l b = record {
    row = l;
    below = b;
    ahead = λ i m h. let e : i ≡ r = omega (arith, above_leaf a (omega arith) b, above_leaf a (omega arith) h) in rw e (ahead_own r);
  }

  module _ {n : ℕ} (ready : Ready p caps n) where
    ahead_trans : (i j k : ℕ) → i < n → j < n → k < n → Ahead p caps i j → Ahead p caps j k → Ahead p caps i k
    ahead_trans i j k a b c g h =
        before_trans (device k (at caps k)) (device j (at caps j)) (device i (at caps i)) (suc (at p k)) (suc (at p j)) (suc (at p i))
        (ready.small k c).least (ready.small j b).least (ready.small i a).least h g

    first_match : {k a b r : ℕ} → k < n → First p caps n (2 * k) a → First p caps n (2 * k + 1) b → Won p caps a b r → First p caps n k r
    first_match {k} {a} {b} {r} l f g w = record {
      row = row;
      below = elim w.either [
        | inl e ↦ rw e (up (2 * k) a (omega arith) f.below)
        | inr e ↦ rw e (up (2 * k + 1) b (omega arith) g.below)
      ];
      ahead = λ i m h. elim (above_down h) [
        | inl e ↦ absurd (omega arith)
        | inr (inl x) ↦ ahead_trans r a i row f.row m w.first (f.ahead i m x)
        | inr (inr x) ↦ ahead_trans r b i row g.row m w.second (g.ahead i m x)
      ];
    }
      where
        row : r < n
        row = elim w.either [ inl e ↦ omega (arith, f.row) | inr e ↦ omega (arith, g.row) ]

        up : (j i : ℕ) → j / 2 ≡ k → Above j (n + i) → Above k (n + i)
        up j i e h = rw (← e) (above_up h)

-- ---- trees

module _ {p caps tree : List ℕ} {n : ℕ} where
  pub tree_leaves : Leaves n tree → (Open : ℕ → Type 0) → ((k : ℕ) → k < n → Open k) → Tree p caps n Open tree
  tree_leaves h Open o = record { size = h.size; first = λ k b s f. first k s (λ l. f (o k l)) }
    where
      first : (k : ℕ) → k < n + n → (k < n → ⊥) → First p caps n k (at tree k)
      first k s f =
          let e : n + (k - n) ≡ k = omega (arith, f) in
          let r : at tree k ≡ k - n = ap (at tree) (sym e) ∙ h.leaf (k - n) (omega arith) in
          rw r (first_leaf p caps (omega (arith, f)) (omega arith) (here (sym e)))

  pub tree_close : {Open : ℕ → Type 0} → Tree p caps n Open tree → ((k : ℕ) → 1 ≤ k → Open k → ⊥) → Tournament p caps n tree
  tree_close t o = record { size = t.size; first = λ k b s f. t.first k b s (o k b) }

  -- the match of node k, where no node past k is open
  module _ {Open : ℕ → Type 0} (ready : Ready p caps n) (t : Tree p caps n Open tree) (k : ℕ) (b : 1 ≤ k) (s : k < n)
      (f : (j : ℕ) → Open j → j ≤ k) where
    past : (j : ℕ) → k < j → j < n + n → First p caps n j (at tree j)
    past j c d = t.first j (omega arith) d (λ h. omega (arith, f j h))

    pub tree_small : Small p caps (at tree (2 * k)) × Small p caps (at tree (2 * k + 1))
    tree_small =
        (ready.small _ (past (2 * k) (omega arith) (omega arith)).row, ready.small _ (past (2 * k + 1) (omega arith) (omega arith)).row)

    pub tree_play : (r : ℕ) → Won p caps (at tree (2 * k)) (at tree (2 * k + 1)) r → (Open' : ℕ → Type 0)
        → ((j : ℕ) → (j ≡ k → ⊥) → Open j → Open' j) → Tree p caps n Open' (set tree k r)
    tree_play r w Open' o = record {
      size = length-set tree k r ∙ t.size;
      first = λ j c d u. elim (ℕ_discrete j k) [
        | yes e ↦ rw (e, get_or-set_same tree k r 0 (omega (arith, t.size, ready.most)))
            (first_match p caps ready s (past (2 * k) (omega arith) (omega arith)) (past (2 * k + 1) (omega arith) (omega arith)) w)
        | no e ↦ rw (get_or-set_other tree k j r 0 e) (t.first j c d (λ h. u (o j e h)))
      ];
    }

  module _ (t : Tournament p caps n tree) where
    -- a point more for row w: where another row goes first, that one still does
    pub tree_raise : {w : ℕ} → w < n → w < length p → Raised (set p w (at p w + 1)) caps n w tree
    tree_raise {w} l z = (l, record { size = t.size; first = λ k b s o. go k s o (t.first k b s (λ x. x)) })
      where
        more : (i : ℕ) → at p i ≤ at (set p w (at p w + 1)) i
        more i =
            elim (ℕ_discrete i w) [
              | yes e ↦ rw e (omega (arith, get_or-set_same p w (at p w + 1) 0 z))
              | no d ↦ omega (arith, get_or-set_other p w i (at p w + 1) 0 d)
            ]

        go : (k : ℕ) → k < n + n → (Above k ((n + w) / 2) → ⊥) → First p caps n k (at tree k) → First (set p w (at p w + 1)) caps n k (at tree k)
        go k s o f =
            elim (ℕ_discrete (at tree k) w) [
              | yes e ↦
                  let d : k < n → ⊥ = λ x. o (above_next (λ y. omega arith) (subst (λ i. Above k (n + i)) e f.below)) in
                  first_leaf (set p w (at p w + 1)) caps (omega (arith, d)) f.row f.below
              | no d ↦ record {
                row = f.row;
                below = f.below;
                ahead = λ i m h.
                    rw (get_or-set_other p w (at tree k) (at p w + 1) 0 d)
                    (before_weaken i (at caps i) (at caps i) (at tree k) (at caps (at tree k)) (at caps (at tree k))
                    (suc (at p i)) (suc (at (set p w (at p w + 1)) i)) (suc (at p (at tree k))) (suc (at p (at tree k)))
                    (omega arith) (omega arith) (omega (arith, more i)) (omega arith) (f.ahead i m h));
              }
            ]

    pub root_row : 1 ≤ n → at tree 1 < n
    root_row s = (t.first 1 (omega arith) (omega arith) (λ x. x)).row

    pub root_ahead : (i : ℕ) → i < n → Ahead p caps (at tree 1) i
    root_ahead i l = (t.first 1 (omega arith) (omega arith) (λ x. x)).ahead i l (above_root (n + i) (n + i) (omega arith) (omega arith))
