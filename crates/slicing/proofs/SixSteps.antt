-- The six steps: from a table in which each device has what `has` lists, to one in which each has what `due` lists.
--
--   Balanced table has due      what the six steps start from
--   release   owned_takens, total_takens     the walk releases exactly the reductions
--   fill      owned_needs, total_needs       the filling gives exactly the needs
--   owners    expand_old, total_turns        the old owners are the table's
--   shares    owned_new, owned_new_table      the new table has exactly the new shares
--   moved     changing_turns                 the points that change number the sum of all reductions
use mathlib.Core.Path.{◌≡◌, refl, sym, ap, ◌∙◌}
use mathlib.Core.Bool.{Bool, true, false}
use mathlib.Core.List.{List, [], ◌∷◌, ◌++◌}
use Prim.Native.Nat.{ℕ, ◌+◌, ◌-◌, ◌*◌, ◌≤◌}
use native.Mathlib.Omega.{arith}
use lib.Dec.{eqb}
use lib.ListN.{length}
use borrow.Author.Tests.{eqb-true, eq-eqb, ne_eqb}
use Rattle.slicing.specs.Runs.{Run, ◌of◌, one, total, owned, expand, count, relabel}
use Rattle.slicing.specs.SixSteps.{release, needs, reductions, end, Piece, walk, old, new, turns, new_table}
use Rattle.slicing.proofs.Counting.{sum_of, Distinct, sum_eq}
use Rattle.slicing.proofs.Filling.{changing, expand_old_fill, owned_new_fill, changing_fill}
use Rattle.slicing.proofs.Runs.{owners, length_expand, count_expand, owned_append, owned_absent, total_append, total_owned, sum_owned, total_relabel, owned_coalesce}
use Rattle.slicing.proofs.Walk.{holder, takens, owned_holder, expand_walk, owned_takens_walk}

pub record Balanced (table has due : List (Run ℕ)) : Type 0 where
  pub has_once : Distinct (owners has)
  pub due_once : Distinct (owners due)
  pub held : (d : ℕ) → owned d table ≡ owned d has
  pub same : total has ≡ total due

owners_needs : (has due : List (Run ℕ)) → owners (needs has due) ≡ owners due
owners_needs has [] = refl
owners_needs has ((t of d) ∷ due) = ap (λ l. d ∷ l) (owners_needs has due)

owned_needs_of : (d : ℕ) (has due : List (Run ℕ)) → Distinct (owners due) → owned d (needs has due) ≡ owned d due - owned d has
owned_needs_of d has [] u = omega arith
owned_needs_of d has ((t of e) ∷ due) u = go (eqb d e) refl (owned_needs_of d has due (λ f. omega (arith, u f)))
  where
    go : (b : Bool) → eqb d e ≡ b → owned d (needs has due) ≡ owned d due - owned d has
        → one b * (t - owned e has) + owned d (needs has due) ≡ one b * t + owned d due - owned d has
    go true k ih =
        let z : count d (owners due) ≡ 0 = omega (arith, u d, ap one k) in
        omega (
          arith,
          ap (λ f. owned f has) (eqb-true d e k),
          owned_absent d due z,
          owned_absent d (needs has due) (ap (count d) (owners_needs has due) ∙ z),
        )
    go false k ih = omega arith

-- the sum of all reductions, over the devices that have something
pub sum_reductions : (has due : List (Run ℕ)) → Distinct (owners has)
    → reductions has due ≡ sum_of (λ d. owned d has - owned d due) (owners has)
sum_reductions [] due u = refl
sum_reductions ((s of d) ∷ has) due u =
    omega (
      arith,
      ap one (eq-eqb d d refl),
      first,
      sum_reductions has due (λ e. omega (arith, u e)),
      sum_eq (λ e. owned e has - owned e due) (λ e. owned e ((s of d) ∷ has) - owned e due) (owners has) others,
    )
  where
    gone : count d (owners has) ≡ 0
    gone = omega (arith, u d, ap one (eq-eqb d d refl))

    first : owned d ((s of d) ∷ has) ≡ s
    first = rw (eq-eqb d d refl) (omega (arith, owned_absent d has gone))

    others : (e : ℕ) → 1 ≤ count e (owners has) → owned e has - owned e due ≡ owned e ((s of d) ∷ has) - owned e due
    others e k = rw (ne_eqb e d (λ p. omega (arith, gone, ap (λ z. count z (owners has)) p))) (omega arith)

module _ (table has due : List (Run ℕ)) (h : Balanced table has due) where
  abbrev pieces : List (Run Piece)
  pieces = walk (release has due) end false table

  -- the walk releases exactly the reductions
  pub owned_takens : (d : ℕ) → owned d (takens pieces) ≡ owned d has - owned d due
  owned_takens d = omega (arith, owned_takens_walk d (release has due) end false table, h.held d)

  -- the filling gives exactly the needs
  pub owned_needs : (d : ℕ) → owned d (needs has due) ≡ owned d due - owned d has
  owned_needs d = owned_needs_of d has due h.due_once

  pub total_takens : total (takens pieces) ≡ reductions has due
  total_takens =
      sym (sum_owned (owners has) (takens pieces) h.has_once (λ d z. omega (arith, owned_takens d, owned_absent d has z)))
      ∙ sum_eq (λ d. owned d (takens pieces)) (λ d. owned d has - owned d due) (owners has) (λ d k. owned_takens d)
      ∙ sym (sum_reductions has due h.has_once)

  -- what goes out comes in
  pub total_needs : total (takens pieces) ≡ total (needs has due)
  total_needs =
      omega (
        arith,
        h.same,
        total_append (takens pieces) due,
        total_append (needs has due) has,
        total_owned (takens pieces ++ due) (needs has due ++ has)
            (λ d. omega (arith, owned_append d (takens pieces) due, owned_append d (needs has due) has, owned_takens d, owned_needs d)),
      )

  pub expand_old : expand (relabel old (turns table has due)) ≡ expand table
  unfolding turns
  expand_old = expand_old_fill pieces (needs has due) (omega (arith, total_needs)) ∙ expand_walk (release has due) end false table

  pub total_turns : total (turns table has due) ≡ total table
  total_turns =
      sym (total_relabel old (turns table has due))
      ∙ sym (length_expand (relabel old (turns table has due)))
      ∙ ap length expand_old
      ∙ length_expand table

  -- each device has what it is to have
  pub owned_new : (d : ℕ) → owned d (relabel new (turns table has due)) ≡ owned d due
  unfolding turns
  owned_new d =
      omega (
        arith,
        owned_new_fill d pieces (needs has due) total_needs,
        owned_needs d,
        owned_takens d,
        owned_holder d pieces,
        count_expand d (relabel holder pieces),
        ap (count d) (expand_walk (release has due) end false table),
        count_expand d table,
        h.held d,
      )

  pub owned_new_table : (d : ℕ) → owned d (new_table (turns table has due)) ≡ owned d due
  owned_new_table d = owned_coalesce d (relabel new (turns table has due)) ∙ owned_new d

  pub changing_turns : changing (turns table has due) ≡ reductions has due
  unfolding turns
  changing_turns =
      changing_fill pieces (needs has due) (omega (arith, total_needs)) (λ d k. omega (arith, owned_takens d, owned_needs d)) ∙ total_takens
