-- What a call on an image answers, from what the read of the image answered.
--
-- on_image_refused (a refused read gives its number), on_image_valid (an accepted read gives a valid pool), on_image_accepted (and that
-- of the image's state); on_image_number (the number of a read); on_image_from (what is made of another answer on the same image)
use mathlib.Core.Path.{◌≡◌, ap, ◌∙◌}
use mathlib.Core.List.{List}
use Prim.Native.Nat.{ℕ, ◌≤◌, ◌<◌}
use native.Mathlib.Omega.{arith}
use Rattle.slicing.specs.Changes.{State}
use Rattle.pools.specs.Pools.{state_of, ValidPool}
use Rattle.pools.specs.declared.PoolAnswer.{PoolAnswer}
use Rattle.image_numbers.specs.Format.{state_in}
use Rattle.images.specs.Promises.{ReadAs, unmarked, versioned, faulty, accepted}
use Rattle.images.proofs.RoundTrips.{read_accepted, accepted_state, accepted_valid}
use Rattle.images.specs.OnImages as Calls
use Rattle.images.specs.OnImages.{OnImage}

module _ {A : Type 0} (xs : List ℕ) (f : ℕ → A) (g : State → A) (r : A) (made : PoolAnswer) where
  pub on_image_refused : ReadAs xs made → 0 < made.refusal → r ≡ f made.refusal → OnImage xs f g r
  on_image_refused (unmarked h e) z k = Calls.unmarked h (k ∙ ap f (ap (λ a. a.refusal) e))
  on_image_refused (versioned h v e) z k = Calls.versioned h v (k ∙ ap f (ap (λ a. a.refusal) e))
  on_image_refused (faulty h v s e) z k = Calls.faulty h v s (k ∙ ap f (ap (λ a. a.refusal) e))
  on_image_refused (accepted i e) z k = absurd (omega (arith, z, ap (λ a. a.refusal) e))

  pub on_image_accepted : ReadAs xs made → made.refusal ≤ 0 → r ≡ g (state_of made.pool) → OnImage xs f g r
  on_image_accepted a z k =
      let n : made.refusal ≡ 0 = omega (arith, z) in
      Calls.accepted (read_accepted xs made a n).image (k ∙ ap g (accepted_state xs made a n))

module _ (xs : List ℕ) (made : PoolAnswer) (a : ReadAs xs made) (z : made.refusal ≤ 0) where
  pub on_image_valid : ValidPool made.pool
  on_image_valid = accepted_valid xs made a (omega (arith, z))

pub on_image_number : (xs : List ℕ) (made : PoolAnswer) → ReadAs xs made → OnImage xs (λ n. n) (λ s. 0) made.refusal
on_image_number xs made (unmarked h e) = Calls.unmarked h (ap (λ a. a.refusal) e)
on_image_number xs made (versioned h v e) = Calls.versioned h v (ap (λ a. a.refusal) e)
on_image_number xs made (faulty h v s e) = Calls.faulty h v s (ap (λ a. a.refusal) e)
on_image_number xs made (accepted i e) = Calls.accepted i (ap (λ a. a.refusal) e)

module _ {A B : Type 0} {xs : List ℕ} {f : ℕ → A} {g : State → A} {r : A} (h : A → B) (u : ℕ → B) (v : State → B)
    (refused : (n : ℕ) → 0 < n → h (f n) ≡ u n) (done : (s : State) → h (g s) ≡ v s) where
  pub on_image_from : OnImage xs f g r → OnImage xs u v (h r)
  on_image_from (Calls.unmarked m e) = Calls.unmarked m (ap h e ∙ refused 14 (omega arith))
  on_image_from (Calls.versioned m w e) = Calls.versioned m w (ap h e ∙ refused 15 (omega arith))
  on_image_from (Calls.faulty m w s e) = Calls.faulty m w s (ap h e ∙ refused 16 (omega arith))
  on_image_from (Calls.accepted i e) = Calls.accepted i (ap h e ∙ done (state_in xs))
