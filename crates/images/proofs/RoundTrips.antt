-- Read and write together, on what the calls answer.
--
--   read_accepted     an accepted image is one, and the pool is that of its state
--   image_accepted    the image of a valid pool is read as that pool
--   accepted_state, accepted_valid, accepted_image    what is read is the image of a valid pool
--   read_written_front    an accepted image, written into any buffer with room for it, gives the same bytes; those behind stay
--   read_written      into a buffer of its length: the buffer is the image
--   written_front     what an accepted write puts in front is the image, of the length that it answers
--   written_read_front    a valid pool, written into any buffer and read from as many bytes as the write answers, gives the same pool
--   written_read      a buffer with room for its image is enough
--   images_differ     two valid pools with one image are one
use mathlib.Core.Path.{◌≡◌, refl, sym, ap, ◌∙◌, subst}
use mathlib.Core.Bool.{Bool, true, false, false≢true}
use mathlib.Core.List.{List, ◌++◌, append-nil}
use Prim.Native.Nat.{ℕ, ◌≤◌}
use native.Mathlib.Omega.{arith}
use lib.Dec.{ltb}
use lib.ListN.{length, take, drop, drop_of_length-le}
use lib.Seq.{take_at}
use borrow.Author.Tests.{le-ltb}
use Rattle.pools.specs.Pools.{state_of, pool_of, ValidPool}
use Rattle.pools.specs.declared.Pool.{Pool}
use Rattle.pools.specs.declared.PoolAnswer.{PoolAnswer}
use Rattle.pools.proofs.PoolLaws.{state_of_pool_of, valid_pool_pool_of}
use Rattle.image_numbers.specs.Format.{image_of, state_in, Image}
use Rattle.images.specs.Promises.{ReadAs, unmarked, versioned, faulty, accepted, WrittenAs}
use Rattle.std.specs.Prelude.{Result, Ok, Err}
use Rattle.refusals.specs.declared.Refusal.{Refusal}
use Rattle.refusals.specs.declared.Refusal.TheVariants.{ShortBuffer}
use Rattle.image_numbers.proofs.ByteNumbers.{Bytes}
use Rattle.images.proofs.ImageLaws.{image_of_state_in, state_in_image_of, image_image_of, image_of_injective}

pub record Accepted (xs : List ℕ) (r : PoolAnswer) : Type 0 where
  pub image : Image xs
  pub pool : r.pool ≡ pool_of (state_in xs)

pub read_accepted : (xs : List ℕ) (r : PoolAnswer) → ReadAs xs r → r.refusal ≡ 0 → Accepted xs r
read_accepted xs r (unmarked h e) z = absurd (omega (arith, z, ap (λ a. a.refusal) e))
read_accepted xs r (versioned h v e) z = absurd (omega (arith, z, ap (λ a. a.refusal) e))
read_accepted xs r (faulty h v s e) z = absurd (omega (arith, z, ap (λ a. a.refusal) e))
read_accepted xs r (accepted i e) z = record { image = i; pool = ap (λ a. a.pool) e }

-- an image is read as its state's pool
pub image_read : (xs : List ℕ) (r : PoolAnswer) → ReadAs xs r → Image xs → r ≡ record { refusal = 0; pool = pool_of (state_in xs) }
image_read xs r (unmarked h e) i = absurd (false≢true (sym h ∙ i.first))
image_read xs r (versioned h v e) i = absurd (v i.second)
image_read xs r (faulty h v s e) i = absurd (s i.sound)
image_read xs r (accepted j e) i = e

pub image_accepted : (p : Pool) → ValidPool p → (r : PoolAnswer) → ReadAs (image_of (state_of p)) r → r ≡ record { refusal = 0; pool = p }
image_accepted p v r a =
    image_read (image_of (state_of p)) r a (image_image_of (state_of p) v.valid)
    ∙ ap (λ (q : Pool). record { refusal = 0; pool = q }) (ap pool_of (state_in_image_of (state_of p) v.valid) ∙ v.same)

module _ (xs : List ℕ) (r : PoolAnswer) (a : ReadAs xs r) (z : r.refusal ≡ 0) where
  found : Accepted xs r
  found = read_accepted xs r a z

  pub accepted_state : state_of r.pool ≡ state_in xs
  accepted_state = ap state_of found.pool ∙ state_of_pool_of (state_in xs) found.image.sound.valid

  pub accepted_valid : ValidPool r.pool
  accepted_valid = subst ValidPool (sym found.pool) (valid_pool_pool_of (state_in xs) found.image.sound.valid)

-- the elements of a slice of bytes are below 256
module _ (xs : List ℕ) (b : Bytes xs) (r : PoolAnswer) (a : ReadAs xs r) (z : r.refusal ≡ 0) where
  pub accepted_image : image_of (state_of r.pool) ≡ xs
  accepted_image = ap image_of (accepted_state xs r a z) ∙ image_of_state_in xs b (read_accepted xs r a z).image

  pub read_written_front : (buffer : List ℕ) → length xs ≤ length buffer → (w : Result ℕ Refusal) (after : List ℕ) → WrittenAs r.pool buffer w after
      → (w ≡ Ok (length xs)) × (after ≡ xs ++ drop (length xs) buffer)
  read_written_front buffer l w after h =
      let k = h.valid (accepted_valid xs r a z) in
      let e = le-ltb (length buffer) (length xs) l in
      (k.0 ∙ rw (accepted_image, e), k.1 ∙ rw (accepted_image, e))

  pub read_written : (buffer : List ℕ) → length buffer ≡ length xs → (w : Result ℕ Refusal) (after : List ℕ) → WrittenAs r.pool buffer w after
      → (w ≡ Ok (length xs)) × (after ≡ xs)
  read_written buffer l w after h =
      let k = read_written_front buffer (omega arith) w after h in
      (k.0, k.1 ∙ rw (drop_of_length-le buffer {i = length xs} (omega arith), append-nil))

module _ (p : Pool) (v : ValidPool p) (buffer : List ℕ) (w : Result ℕ Refusal) (after : List ℕ) (h : WrittenAs p buffer w after) where
  abbrev image : List ℕ
  image = image_of (state_of p)

  pub written_front : (n : ℕ) → w ≡ Ok n → take n after ≡ image
  written_front n e = go (ltb (length buffer) (length image)) refl
    where
      go : (b : Bool) → ltb (length buffer) (length image) ≡ b → take n after ≡ image
      go true t = absurd (let f : Err ShortBuffer ≡ Ok n = sym ((h.valid v).0 ∙ rw t) ∙ e in let z : ◌≡◌ {A = ℕ} 0 1 = cc in omega arith)
      go false t =
          let f : Ok (length image) ≡ Ok n = sym ((h.valid v).0 ∙ rw t) ∙ e in
          let s : length image ≡ n = cc in
          ap (take n) ((h.valid v).1 ∙ rw t) ∙ take_at image (drop (length image) buffer) n s

  pub written_read_front : (n : ℕ) → w ≡ Ok n → (r : PoolAnswer) → ReadAs (take n after) r → r ≡ record { refusal = 0; pool = p }
  written_read_front n e r a = image_accepted p v r (subst (λ (xs : List ℕ). ReadAs xs r) (written_front n e) a)

  pub written_read : length image ≤ length buffer → (r : PoolAnswer) → ReadAs (take (length image) after) r
      → (w ≡ Ok (length image)) × (r ≡ record { refusal = 0; pool = p })
  written_read l r a =
      let e : w ≡ Ok (length image) = (h.valid v).0 ∙ rw (le-ltb (length buffer) (length image) l) in
      (e, written_read_front (length image) e r a)

pub images_differ : (p q : Pool) → ValidPool p → ValidPool q → image_of (state_of p) ≡ image_of (state_of q) → p ≡ q
images_differ p q v w e = sym v.same ∙ ap pool_of (image_of_injective (state_of p) (state_of q) v.valid w.valid e) ∙ w.same
