-- An array in a local, taken apart into the row of its elements, and given up.
--     array_open       the local's cell, with what the array owns at its machine value  ⊢  the row of its elements
--     array_shut       the row  ⊢  room for the local
-- Assumes `Logic`. T has one MIR type.
use mathlib.Core.Path.{◌≡◌, refl}
use Prim.Native.Nat.{ℕ}
use mathlib.Core.List.{List, [], ◌∷◌}
use lib.ListN.{length}
use seplogic.Ra.Ura.{Ura}
use base.Fraction.{full_share}
use mir.Raw.{raw as raw_ty}
use mir.Syntax.{Ty, ty_array}
use mir.Val.{Val}
use base.Logic.{ent, sep}
use base.Fml.{fsep, fat, froom}
use types.Logic.{Logic, sem}
use types.Kit.{‵, ◌$◌, ◌∵◌, !, qed, move, use1, drop, rewrite, fsplit, fjoin, fpick, fpack, feq_i, done}
use types.Share.{arr_parts}
use denote.RattleType.{RattleType}
use denote.Laws.{Is, shows}
use denote.Memory.{cell_at, lone, part_at, shares, part_of}
use denote.Array.{Array, array_val}
use denote.ArrayMemory.{Single, Array-apart, Array-whole}
use denote.Index.{row}
use denote.Steps.{peeks}

module _ {M : Type 1} {𝓤 : Ura M} (𝓛 : Logic 𝓤) (R : RattleType) (one : Single R.mir) (n l : ℕ) where
  open 𝓛 use {H}

  abbrev τ : Ty
  τ = ty_array (lone R.mir) n

  pub array_open : (xs : List R.Denot) (v : Val) → ent 𝓤 (sep 𝓤 (H.at full_share τ l 0 v) (sem 𝓛 ((Array R n).own_val xs (v ∷ [])))) (sem 𝓛 (row R full_share xs l 0))
  unfolding part_of
  array_open xs v =
      qed 𝓛 (‵ (fat full_share τ l 0 v) ∷ ‵ ((Array R n).own_val xs (v ∷ [])) ∷ []) ∵ use1 𝓛 (‵ (fat full_share (raw_ty τ) l 0 v)) (𝓛.laws.at_raw full_share τ l 0 v) $ fjoin ! $
      fpack ! (List Val) (λ us. fsep (cell_at full_share (Array R n).mir us l 0) ((Array R n).own_val xs us)) (v ∷ []) $
      use1 𝓛 (‵ ((arr_parts (shares R) n).part full_share xs l 0)) (Array-apart 𝓛 R full_share one n xs l 0) $ fsplit ! $ drop ! $ done !

  pub array_shut : (xs : List R.Denot) → length xs ≡ n → ent 𝓤 (sem 𝓛 (row R full_share xs l 0)) (H.room τ l 0)
  unfolding part_of
  array_shut xs e =
      qed 𝓛 (‵ (row R full_share xs l 0) ∷ []) ∵ feq_i ! ℕ (length xs) n e $ fjoin ! $
      use1 𝓛 (‵ (part_at (Array R n) full_share xs l 0)) (Array-whole 𝓛 R full_share n xs l 0) $ fpick ! (λ vs. fsplit ! $ move ! (1 ∷ []) $ peeks ! (Array R n) (Is (Array R n)) (shows 𝓛 (Array R n)) xs vs (λ p.
      drop ! $ rewrite ! 0 (λ (us : List Val). ‵ (cell_at full_share (Array R n).mir us l 0)) p.1.0.0 refl $
      use1 𝓛 (‵ (fat full_share τ l 0 (array_val p.0))) (𝓛.laws.raw_at full_share τ l 0 (array_val p.0)) $ use1 𝓛 (‵ (froom τ l 0)) (𝓛.laws.at_room τ l 0 (array_val p.0)) $ done !))
