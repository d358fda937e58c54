-- Laws of arrays that are filled from the rows, with zeros behind: what the loops of `starts_of` and `owners_of` need.
--
-- padded: padded_store (one number more)
-- starts_of: starts_of_snoc, length_starts_of
-- owners_of: owners_of_snoc, length_owners_of
use mathlib.Core.Path.{◌≡◌, refl, sym, ap, ◌∙◌}
use mathlib.Core.List.{List, [], ◌∷◌, ◌++◌}
use Prim.Native.Nat.{ℕ, suc, ◌+◌, ◌-◌, ◌<◌}
use native.Mathlib.Omega.{arith}
use native.Mathlib.Nat.{add-zero, add_assoc}
use lib.ListN.{length, set, replicate, length-append}
use lib.Seq.{append_snoc, set_at}
use Rattle.slicing.specs.Runs.{Run, ◌of◌, total}
use Rattle.pools.specs.Pools.{padded, starts_of, owners_of}

pub padded_store : (n i : ℕ) (xs : List ℕ) (v : ℕ) → length xs ≡ i → i < n → set (padded n xs) i v ≡ padded n (xs ++ (v ∷ []))
padded_store n i xs v e h =
    let rest : List ℕ = replicate (n - length (xs ++ (v ∷ []))) 0 in
    let m : n - length xs ≡ suc (n - length (xs ++ (v ∷ []))) = omega (arith, length-append xs (v ∷ [])) in
    rw m (set_at xs 0 rest v i e ∙ sym (append_snoc xs v rest))

-- ---- starts_of

pub starts_of_snoc : (p : ℕ) (rs : List (Run ℕ)) (n d : ℕ) → starts_of p (rs ++ ((n of d) ∷ [])) ≡ starts_of p rs ++ ((p + total rs) ∷ [])
starts_of_snoc p [] n d = rw add-zero
starts_of_snoc p ((m of e) ∷ rs) n d = rw (starts_of_snoc (p + m) rs n d, add_assoc)

pub length_starts_of : (p : ℕ) (rs : List (Run ℕ)) → length (starts_of p rs) ≡ length rs
length_starts_of p [] = refl
length_starts_of p ((m of e) ∷ rs) = ap suc (length_starts_of (p + m) rs)

-- ---- owners_of

pub owners_of_snoc : (rs : List (Run ℕ)) (n d : ℕ) → owners_of (rs ++ ((n of d) ∷ [])) ≡ owners_of rs ++ (d ∷ [])
owners_of_snoc [] n d = refl
owners_of_snoc ((m of e) ∷ rs) n d = rw (owners_of_snoc rs n d)

pub length_owners_of : (rs : List (Run ℕ)) → length (owners_of rs) ≡ length rs
length_owners_of [] = refl
length_owners_of ((m of e) ∷ rs) = ap suc (length_owners_of rs)
