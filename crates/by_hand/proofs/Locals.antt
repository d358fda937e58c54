-- The locals of a walk: in its context, each with its cell and what frees it, and in its environment.
--     free τ l Γ       there is room for the local.        held τ l v Γ     it holds v
--     holds cs         locals that hold values.            named cs         their places in the environment
--     at               a local that an equation finds in the environment
--     turn n           the first n entries of the context go behind the rest
--     leave1, leaves cs    a local that holds a value is freed, and a list of them
-- Assumes `Logic`.
use mathlib.Core.Path.{◌≡◌, refl, sym, ap, subst}
use Prim.Native.Nat.{ℕ, zero, suc}
use mathlib.Core.List.{List, [], ◌∷◌, ◌++◌}
use seplogic.Ra.Ura.{Ura}
use base.Fraction.{full_share}
use mir.Syntax.{Ty, Step as PStep, place}
use mir.Val.{Val}
use base.Logic.{ent, sep, via, comm∗}
use base.Fml.{fat, froom, fdies}
use prog.Wp.{Env, Spot, spot_of, walk}
use types.Logic.{Logic}
use types.Kit.{Item, ‵, ⋆, ++⊢, ⊢++, Goal, frees, Step, step, ◌$◌, by}
use types.Run.{Walks, Finds, forget, free1}

module _ {M : Type 1} {𝓤 : Ura M} where
  abbrev pub free : Ty → ℕ → List (Item 𝓤) → List (Item 𝓤)
  free τ l Γ = ‵ (froom τ l 0) ∷ ‵ (fdies τ l) ∷ Γ

  abbrev pub held : Ty → ℕ → Val → List (Item 𝓤) → List (Item 𝓤)
  held τ l v Γ = ‵ (fat full_share τ l 0 v) ∷ ‵ (fdies τ l) ∷ Γ

  abbrev pub holds : List ((Ty × ℕ) × Val) → List (Item 𝓤)
  holds [] = []
  holds (c ∷ cs) = held c.0.0 c.0.1 c.1 (holds cs)

  -- the first n entries, and the rest
  abbrev front : ℕ → List (Item 𝓤) → List (Item 𝓤)
  front zero Γ = []
  front (suc n) [] = []
  front (suc n) (i ∷ Γ) = i ∷ front n Γ

  abbrev back : ℕ → List (Item 𝓤) → List (Item 𝓤)
  back zero Γ = Γ
  back (suc n) [] = []
  back (suc n) (i ∷ Γ) = back n Γ

  in_two : (n : ℕ) (Γ : List (Item 𝓤)) → front n Γ ++ back n Γ ≡ Γ
  in_two zero Γ = refl
  in_two (suc n) [] = refl
  in_two (suc n) (i ∷ Γ) = ap (λ Δ. i ∷ Δ) (in_two n Γ)

abbrev pub named : List ((Ty × ℕ) × Val) → List (Ty × ℕ)
named [] = []
named (c ∷ cs) = c.0 ∷ named cs

module _ {M : Type 1} {𝓤 : Ura M} {𝓛 : Logic 𝓤} {K : Type 0} where
  open 𝓛 use {H}

  pub at : K → {Γ : List (Item 𝓤)} {E : Env 𝓤 H} {i : ℕ} {st : List PStep} {sp to : Spot 𝓤 H} → spot_of 𝓤 H E i ≡ sp → Walks K 𝓛 Γ E sp st to → Finds K 𝓛 Γ E (place i st) to
  at t {Γ} {E} {i} {st} {sp} {to} e w = record { go = λ Kt h. subst (λ (s : Spot 𝓤 H). ent 𝓤 (⋆ 𝓛 Γ) (walk 𝓤 H E s st Kt)) (sym e) (w.go Kt h) }

  pub turn : K → (n : ℕ) {Γ : List (Item 𝓤)} {G : Goal 𝓤 H} → Step K 𝓛 (back n Γ ++ front n Γ) G Γ G
  turn t n {Γ} = step (λ s. by t
      (via 𝓤 (sep 𝓤 (⋆ 𝓛 (front n Γ)) (⋆ 𝓛 (back n Γ)))
      (subst (λ (Δ : List (Item 𝓤)). ent 𝓤 (⋆ 𝓛 Δ) (sep 𝓤 (⋆ 𝓛 (front n Γ)) (⋆ 𝓛 (back n Γ)))) (in_two n Γ) (⊢++ 𝓛 (front n Γ) (back n Γ)))
      (via 𝓤 (sep 𝓤 (⋆ 𝓛 (back n Γ)) (⋆ 𝓛 (front n Γ))) (comm∗ 𝓤 (⋆ 𝓛 (front n Γ)) (⋆ 𝓛 (back n Γ)))
      (via 𝓤 (⋆ 𝓛 (back n Γ ++ front n Γ)) (++⊢ 𝓛 (back n Γ) (front n Γ)) s.prf))))

  pub leave1 : K → {Γ : List (Item 𝓤)} {τ : Ty} {l : ℕ} {v : Val} {E : Env 𝓤 H} {G : Goal 𝓤 H} → Step K 𝓛 Γ (frees E G) (held τ l v Γ) (frees ((τ, l) ∷ E) G)
  leave1 t = step (λ s. forget t 0 refl $ free1 t $ s)

  pub leaves : K → (cs : List ((Ty × ℕ) × Val)) {Γ : List (Item 𝓤)} {E : Env 𝓤 H} {G : Goal 𝓤 H} → Step K 𝓛 Γ (frees E G) (holds cs ++ Γ) (frees (named cs ++ E) G)
  leaves t [] = step (λ s. s)
  leaves t (c ∷ cs) = step (λ s. leave1 t $ leaves t cs $ s)
