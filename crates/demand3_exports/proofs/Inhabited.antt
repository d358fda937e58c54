-- The hypotheses of demand 3 are met: every call for a fresh pool within the limits, with room for the image and its length, and every image
-- are an opening, and from every opening every list of calls, with any arguments and any buffers, is answered.
--
--   fresh_left, fresh_kept, opens_fresh    what the call for a fresh pool leaves; all that keep its promise open a list
--   opens_image                           every image does
--   Asked, asked_of es                     the arguments of calls
--   Played xs cs                          calls cs answered from the image xs on
--   played                                from every opening
use mathlib.Core.Path.{◌≡◌, refl, sym, ap, ◌∙◌}
use mathlib.Core.Bool.{Bool, false, cond, ◌||◌}
use mathlib.Core.List.{List, [], ◌∷◌, ◌++◌}
use Prim.Native.Nat.{ℕ, ◌≤◌}
use native.Mathlib.Omega.{arith}
use lib.Dec.{ltb}
use lib.ListN.{length, take, drop}
use borrow.Author.Tests.{lt-ltb, le-ltb}
use Rattle.slicing.specs.Changes.{fresh, Change}
use Rattle.slicing.specs.Ledger.{Ledger, blank}
use Rattle.slicing.specs.Limits.{max_range, max_limit, outside}
use Rattle.slicing_core.specs.Rows.{at}
use Rattle.image_numbers.specs.Format.{head_size, image_of, range_in, limit_in, state_in, Image}
use Rattle.image_bytes.specs.RowBytes.{pool_in}
use Rattle.image_numbers.proofs.ImageSizes.{length_image_of}
use Rattle.images.specs.OnImages.{accepted}
use Rattle.image_changes.specs.Promises.{Moved, moved_as, Changed}
use Rattle.image_making.specs.Promises.{Stored, FreshStored}
use Rattle.demand3.specs.CallLists.{feed_step}
use Rattle.demand3.specs.ImageLedger.{ledger_in}
use Rattle.demand3.proofs.Demand3.{Ready, ready}
use Rattle.demand3.proofs.Inhabited.{inside}
use Rattle.demand3_exports.specs.Exports.{Exported, image_after, Kept, step_of}
use Rattle.demand3_exports.specs.ExportedDemand3.{Opening, fresh_image, checked_image}
use Rattle.demand3_exports.proofs.ExportedDemand3.{Done, done, Opened, opening_calls}

-- ---- openings

abbrev pub fresh_left : ℕ → ℕ → List ℕ → List ℕ → Stored
fresh_left R M buffer answer = record {
  number = 0;
  image = image_of (fresh R M) ++ drop (length (image_of (fresh R M))) buffer;
  answer = length (image_of (fresh R M)) ∷ drop 1 answer;
}

module _ (R M : ℕ) (a : 1 ≤ R) (b : R ≤ max_range) (c : 1 ≤ M) (d : M ≤ max_limit) (buffer answer : List ℕ) (l : head_size ≤ length buffer)
    (n : 1 ≤ length answer) where
  pub fresh_kept : FreshStored R M buffer answer (fresh_left R M buffer answer)
  fresh_kept =
      let e : outside max_range R || outside max_limit M ≡ false = rw (inside max_range R a b, inside max_limit M c d) in
      let f : ltb (length buffer) (length (image_of (fresh R M))) ≡ false =
      le-ltb (length buffer) (length (image_of (fresh R M))) (omega (arith, l, length_image_of (fresh R M))) in
      rw (le-ltb (length answer) 1 n, e, f)

  pub opens_fresh : (r : Stored) → FreshStored R M buffer answer r → Opening R M (take (at r.answer 0) r.image) blank
  opens_fresh r f = fresh_image buffer answer r f (ap (λ (s : Stored). s.number) (f ∙ sym fresh_kept))

pub opens_image : (xs : List ℕ) → Image xs → Opening (range_in xs) (limit_in xs) xs (ledger_in xs)
opens_image xs i = checked_image (accepted i refl) refl

-- ---- lists

pub record Asked : Type 0 where
  pub change : Change
  pub next : List ℕ
  pub list : List ℕ
  pub answer : List ℕ

abbrev pub asked_of : List Exported → List Asked
asked_of [] = []
asked_of (e ∷ es) = record { change = e.change; next = e.next; list = e.list; answer = e.answer } ∷ asked_of es

pub record Played (xs : List ℕ) (cs : List Asked) : Type 0 where
  pub calls : List Exported
  pub asked : asked_of calls ≡ cs
  pub kept : Kept xs calls

abbrev left_of : List ℕ → Asked → Moved
left_of xs c =
    cond (ltb (length c.answer) 3) (record { number = 17; image = c.next; list = c.list; answer = c.answer })
    (moved_as c.change c.next c.list c.answer (state_in xs))

changed_left : (xs : List ℕ) → Image xs → (c : Asked) → Changed xs c.change c.next c.list c.answer (left_of xs c)
changed_left xs i c = record {
  short = λ l. ap (λ (t : Bool). cond t few many) (lt-ltb (length c.answer) 3 l);
  room = λ l. accepted i (ap (λ (t : Bool). cond t few many) (le-ltb (length c.answer) 3 l));
}
  where
    few : Moved
    few = record { number = 17; image = c.next; list = c.list; answer = c.answer }

    many : Moved
    many = moved_as c.change c.next c.list c.answer (state_in xs)

played_from : (R M : ℕ) (xs : List ℕ) (b : Ledger) → Image xs → Ready R M (pool_in xs) b → (cs : List Asked) → Played xs cs
played_from R M xs b i g [] = record { calls = []; asked = refl; kept = tt }
played_from R M xs b i g (c ∷ cs) =
    let e : Exported = record { change = c.change; next = c.next; list = c.list; answer = c.answer; left = left_of xs c } in
    let k = changed_left xs i c in
    let d : Done R M xs b e = done R M xs b i g c.change c.next c.list c.answer (left_of xs c) k in
    let r : Played (image_after xs e) cs = played_from R M (image_after xs e) (feed_step b (step_of xs e)) d.image d.ready cs in
    record { calls = e ∷ r.calls; asked = ap (λ (l : List Asked). c ∷ l) r.asked; kept = (k, r.kept) }

pub played : (R M : ℕ) (xs : List ℕ) (b : Ledger) → Opening R M xs b → (cs : List Asked) → Played xs cs
played R M xs b s cs =
    let o : Opened R M xs b = opening_calls R M xs b s in played_from R M xs b o.image (ready R M (pool_in xs) b o.opening) cs
