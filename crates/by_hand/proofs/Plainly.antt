-- A call of a function that takes and returns plain data, as one step of a walk: what the parameters own is made for the call, of their relations, and what comes back is the result's relation and the fact that the `ensures` states.
--     calls_plain      fm known x g alive makes are requires φ says operands k
--         x            what the callee's triple binds: ((κs, qs, bounds, a, vss)), `(tt, tt, tt, a, vss)` where it has no lifetime.        g    its ghost value, `tt`
--         alive        `id⊢ 𝓤 (emp 𝓤)` where it has no lifetime
--         makes, are   for each parameter, that its relation makes what it owns (`LL.makes`, `EL.makes`, `uint_Makes`), and the relation at the value passed
--         requires     `id⊢ 𝓤 (emp 𝓤)` where there is none
--         φ, says      the fact that the `ensures` states of the result: `λ r ws. id⊢ 𝓤 _`
--         k            what is left, at the result r, its machine value v, the fact, and r's relation
-- Assumes `Logic`, and that the table of calls is monotone under a frame.
use mathlib.Core.List.{List, [], ◌∷◌}
use seplogic.Ra.Ura.{Ura}
use mir.Syntax.{Callee, Place, Body, Opd as Operand, seq, call}
use mir.Val.{Val}
use base.Logic.{ent, emp, ex_e, snd∗, via, id⊢}
use prog.Wp.{Env, Calls, Loops}
use types.Logic.{Logic, sem}
use sound.WpLaws.{FmC}
use contract.Monad.{fact}
use types.Kit.{Item, ‵, raw, ◌⊛◌, some, later, Seq, Post, runs, lands, ◌$◌, ◌∵◌, !, qed, by, move, drop, use0, use1, split, join, pick, frame, await}
use types.Run.{Opds}
use denote.RattleType.{owns}
use denote.Laws.{Is, Ises, Are, Makess, owns_make, shows}
use denote.Signature.{type_at, types_at}
use denote.Steps.{heard, peeks}
use denote.Triple.Statement.{Contract, Triple}
use denote.Triple.Call.{calls_at}
use denote.Triple.Bound.{Bound, passed}
use denote.Triple.Clauses.{Ended, Clauses, Lasts, at_exit, lasts, ensured, closing}
use denote.Triple.Entry.{Res, alive}
use denote.Triple.Spec.{triple_of}

module _ {M : Type 1} {𝓤 : Ura M} {𝓛 : Logic 𝓤} {K : Type 0} {Γ : List (Item 𝓤)} {E : Env 𝓤 𝓛.H} {C : Calls 𝓤 𝓛.H} {Λ : Loops 𝓤 𝓛.H} {q : Post 𝓤 𝓛.H} {f : Callee} {xs : List Operand} {d : Place} {rest : Body} where
  open 𝓛 use {H}

  pub calls_plain : K → FmC 𝓤 H 𝓛.laws C → (T : Ended) (c : Clauses 𝓤 T) → Triple 𝓤 (C f) (triple_of 𝓛 T.signature (closing 𝓛 T c)) → (x : Bound 𝓛 T.signature) (g : (c x.0 x.3).ghost)
      → ent 𝓤 (emp 𝓤) (alive 𝓛 T.signature x.0 x.1)
      → Makess 𝓛 (types_at T.signature.params x.0) (Ises (types_at T.signature.params x.0)) → Are (types_at T.signature.params x.0) (Ises (types_at T.signature.params x.0)) x.3 x.4
      → ent 𝓤 (emp 𝓤) ((c x.0 x.3).requires g)
      → (φ : Res T.signature x.0 → Type 0) → ((r : Res T.signature x.0) (ws : Lasts T x.0 x.3) → ent 𝓤 ((c x.0 x.3).ensures g r (at_exit T x.0 x.3 ws)) (fact 𝓤 (φ r)))
      → Opds K 𝓛 (raw ((triple_of 𝓛 T.signature (closing 𝓛 T c)).pre (x, g)) ∷ Γ) E xs (passed 𝓛 T.signature x)
      → ((r : Res T.signature x.0) (v : Val) → φ r → Is (type_at T.signature.result x.0) r (v ∷ []) → Seq K 𝓛 Γ (lands C Λ E d v rest q))
      → Seq K 𝓛 Γ (runs C Λ E (seq (call f xs d) rest) q)
  calls_plain t fm T c known x g al mk are req φ says os k =
      use0 𝓛 (raw (Callee.pre (x, g))) goes $ calls_at t fm Callee known (x, g) os (λ v.
      use1 𝓛 (later (some (λ (r : Res T.signature x.0). (raw (alive 𝓛 T.signature x.0 x.1) ⊛ ‵ ((type_at T.signature.result x.0).own_val r (v ∷ []))) ⊛ raw (ensured 𝓛 T c x.0 x.3 g r)))) (id⊢ 𝓤 _) $ await t tt $ pick t (λ r.
      split t $ move t (1 ∷ []) $ use1 𝓛 (raw (fact 𝓤 (φ r))) (said r) $ heard t (φ r) (λ e. split t $ drop t $
      peeks t (type_at T.signature.result x.0) (Is (type_at T.signature.result x.0)) (shows 𝓛 (type_at T.signature.result x.0)) r (v ∷ []) (λ is. drop t $ k r v e is))))
    where
      Callee : Contract 𝓤
      Callee = triple_of 𝓛 T.signature (closing 𝓛 T c)

      goes : ent 𝓤 (emp 𝓤) (Callee.pre (x, g))
      goes =
          qed 𝓛 [] ∵ use0 𝓛 (‵ (owns (types_at T.signature.params x.0) x.3 x.4)) (owns_make 𝓛 (types_at T.signature.params x.0) (Ises (types_at T.signature.params x.0)) mk x.3 x.4 are) $
          use0 𝓛 (raw (alive 𝓛 T.signature x.0 x.1)) al $ join ! $ frame ! $ by ! req

      said : (r : Res T.signature x.0) → ent 𝓤 (ensured 𝓛 T c x.0 x.3 g r) (fact 𝓤 (φ r))
      said r = ex_e 𝓤 _ (λ ws. via 𝓤 ((c x.0 x.3).ensures g r (at_exit T x.0 x.3 ws)) (snd∗ 𝓤 (sem 𝓛 (lasts T x.0 x.3 ws)) ((c x.0 x.3).ensures g r (at_exit T x.0 x.3 ws))) (says r ws))
