-- Demand 3 holds of every list of exported changes that kept their promises, from every image that a list may start from.
-- specs/ExportedDemand3.antt has the statement.
--
--   Done R M xs b e    what one call leaves: an image, a pool and a ledger that are ready for the next call, and the claim
--   done               of every call that kept its promise
--   opening_calls      an opening is an image, and its rows are an opening of demand 3
--   demand3_exports    the theorem
use mathlib.Core.Path.{◌≡◌, refl, sym, ap, ◌∙◌, subst}
use mathlib.Core.Bool.{Bool, true, false, cond, ◌||◌, false≢true}
use mathlib.Core.List.{List, [], ◌∷◌, ◌++◌}
use Prim.Native.Nat.{ℕ, ◌*◌, ◌≤◌, ◌<◌}
use native.Mathlib.Omega.{arith}
use lib.Dec.{ltb}
use lib.ListN.{length, take, drop}
use lib.Seq.{take-append_seam, drop_at}
use borrow.Author.Tests.{ne_eqb, ltb-true, ltb-false}
use Rattle.slicing.specs.Changes.{fresh, Change, Outcome, change}
use Rattle.slicing.specs.Claims.{written}
use Rattle.slicing.specs.Ledger.{Ledger, blank}
use Rattle.slicing.specs.Limits.{max_range, max_limit, outside}
use Rattle.slicing.specs.Validity.{Valid}
use Rattle.slicing.proofs.Limits.{or_false, outside_false}
use Rattle.slicing.proofs.Claims.{valid_fresh}
use Rattle.slicing_core.specs.Rows.{at}
use Rattle.pools.specs.Pools.{pool_of}
use Rattle.flat_moves.specs.FlatMoves.{moves_in, flat}
use Rattle.pools.specs.declared.Pool.{Pool}
use Rattle.flat_moves.proofs.FlatLists.{length_flat}
use Rattle.placement.specs.Promises as Lists
use Rattle.image_numbers.specs.Format.{image_of, range_in, limit_in, state_in, Image}
use Rattle.images.specs.Promises as Images
use Rattle.image_bytes.specs.RowBytes.{pool_in}
use Rattle.images.proofs.ImageLaws.{image_image_of}
use Rattle.images.proofs.PoolsRead.{pool_of_state_in}
use Rattle.images.specs.OnImages.{OnImage, unmarked, versioned, faulty, accepted}
use Rattle.image_making.specs.Promises.{Checked, Stored, unstored, FreshStored}
use Rattle.image_changes.specs.Promises.{Moved, unmoved, moved_as, Changed}
use Rattle.demand3.specs.CallLists.{feed_step}
use Rattle.demand3.specs.ImageLedger.{ledger_in}
use Rattle.demand3.specs.Openings as Calls
use Rattle.demand3.proofs.Demand3.{Ready, ready, ready_step, claim_step}
use Rattle.demand3.proofs.Inhabited as Starts
use Rattle.demand3.proofs.Tables.{agreement_pool}
use Rattle.placement.proofs.Changes.{length_written}
use Rattle.demand3_exports.specs.Exports.{Exported, image_after, Kept, step_of}
use Rattle.demand3_exports.specs.ExportedDemand3.{Opening, fresh_image, checked_image, Claim, ExportedDemand3}
use Rattle.demand3_exports.proofs.Steps.{number_change, pool_in_image_of, changed_step, refused_answer, outcome_valid, accepted_answer}

pub record Done (R M : ℕ) (xs : List ℕ) (b : Ledger) (e : Exported) : Type 0 where
  pub image : Image (image_after xs e)
  pub ready : Ready R M (pool_in (image_after xs e)) (feed_step b (step_of xs e))
  pub claim : Claim R xs b e

pub image_after_refused : (xs : List ℕ) (e : Exported) → 1 ≤ e.left.number → image_after xs e ≡ xs
image_after_refused xs e n =
    ap (λ (t : Bool). cond t (take (at e.left.answer 0) e.left.image) xs) (ne_eqb e.left.number 0 (λ z. omega (arith, n, z)))

-- ---- one call

module _ (R M : ℕ) (xs : List ℕ) (b : Ledger) (i : Image xs) (g : Ready R M (pool_in xs) b) (k : Change) (next list answer : List ℕ) where
  abbrev call : Moved → Exported
  call r = record { change = k; next = next; list = list; answer = answer; left = r }

  abbrev o : Outcome
  o = change (state_in xs) (moves_in list) k

  abbrev new : List ℕ
  new = image_of o.state

  few_places : length answer < 3 → Done R M xs b (call (record { number = 17; image = next; list = list; answer = answer }))
  few_places h = record {
    image = i;
    ready = g;
    claim = record {
      claim = λ n. absurd (n refl);
      few = λ l. refl;
      short = λ l z. absurd (omega (arith, h, l));
      image = λ n. refl;
      list = λ n. refl;
      zeros = λ n l. absurd (omega (arith, h, l));
      no_places = λ l. refl;
      stored = λ z. absurd (omega (arith, z));
      rest = λ z. absurd (omega (arith, z));
      fits = λ z. absurd (omega (arith, z));
      list_rest = λ z. absurd (omega (arith, z));
      answer_rest = λ z. absurd (omega (arith, z));
    };
  }

  no_room : 3 ≤ length answer → o.number ≡ 0 → length next < length new → Done R M xs b (call (unmoved 17 next list answer))
  no_room h e f = record {
    image = i;
    ready = g;
    claim = record {
      claim = λ n. absurd (n refl);
      few = λ l. refl;
      short = λ l z. (e, f);
      image = λ n. refl;
      list = λ n. refl;
      zeros = λ n l. refl;
      no_places = λ l. absurd (omega (arith, h, l));
      stored = λ z. absurd (omega (arith, z));
      rest = λ z. absurd (omega (arith, z));
      fits = λ z. absurd (omega (arith, z));
      list_rest = λ z. absurd (omega (arith, z));
      answer_rest = λ z. absurd (omega (arith, z));
    };
  }

  refused : 3 ≤ length answer → 1 ≤ o.number → Done R M xs b (call (unmoved o.number next list answer))
  refused h n = record {
    image = subst Image (sym same) i;
    ready = ready_step R M (pool_in xs) b g (step_of xs e) kept;
    claim = record {
      claim = λ u. claim_step R M (pool_in xs) b g (step_of xs e) kept;
      few = λ l. absurd (omega (arith, h, l));
      short = λ l z. absurd (omega (arith, z, number_change (state_in xs) (moves_in list) k));
      image = λ u. refl;
      list = λ u. refl;
      zeros = λ u l. refl;
      no_places = λ l. absurd (omega (arith, h, l));
      stored = λ z. absurd (omega (arith, n, z));
      rest = λ z. absurd (omega (arith, n, z));
      fits = λ z. absurd (omega (arith, n, z));
      list_rest = λ z. absurd (omega (arith, n, z));
      answer_rest = λ z. absurd (omega (arith, n, z));
    };
  }
    where
      e : Exported
      e = call (unmoved o.number next list answer)

      same : image_after xs e ≡ xs
      same = image_after_refused xs e n

      kept : Lists.Changed (pool_in xs) (step_of xs e).lent k (step_of xs e).answer (step_of xs e).after
      kept = changed_step xs i k list _ _ (refused_answer xs i k list (image_after xs e) same n)

  done_call : 3 ≤ length answer → o.number ≡ 0 → length new ≤ length next
      → Done R M xs b
      (call (record {
        number = 0;
        image = new ++ drop (length new) next;
        list = flat (written o) ++ drop (4 * o.count) list;
        answer = length new ∷ o.moved ∷ o.count ∷ drop 3 answer;
      }))
  done_call h z f = record {
    image = subst Image (sym same) (image_image_of o.state valid);
    ready = ready_step R M (pool_in xs) b g (step_of xs e) kept;
    claim = record {
      claim = λ u. claim_step R M (pool_in xs) b g (step_of xs e) kept;
      few = λ l. absurd (omega (arith, h, l));
      short = λ l y. absurd (omega (arith, y));
      image = λ u. absurd (omega (arith, u));
      list = λ u. absurd (omega (arith, u));
      zeros = λ u l. absurd (omega (arith, u));
      no_places = λ l. absurd (omega (arith, h, l));
      stored = λ y. ap length (sym same);
      rest = λ y. ap (λ (ys : List ℕ). ys ++ drop (length ys) next) (sym same);
      fits = λ y. omega (arith, f, ap length same);
      list_rest = λ y. drop_at (flat (written o)) (drop (4 * o.count) list) (4 * o.count) numbers;
      answer_rest = λ y. refl;
    };
  }
    where
      e : Exported
      e = call (record {
        number = 0;
        image = new ++ drop (length new) next;
        list = flat (written o) ++ drop (4 * o.count) list;
        answer = length new ∷ o.moved ∷ o.count ∷ drop 3 answer;
      })

      valid : Valid o.state
      valid = outcome_valid xs i k list

      numbers : length (flat (written o)) ≡ 4 * o.count
      numbers = length_flat (written o) ∙ ap (λ (n : ℕ). 4 * n) (length_written (state_in xs) i.sound.valid (moves_in list) k)

      same : image_after xs e ≡ new
      same = take-append_seam new (drop (length new) next)

      kept : Lists.Changed (pool_in xs) (step_of xs e).lent k (step_of xs e).answer (step_of xs e).after
      kept = changed_step xs i k list _ _ (accepted_answer xs i k list (image_after xs e) same z)

  moved : 3 ≤ length answer → Done R M xs b (call (moved_as k next list answer (state_in xs)))
  moved h = go (ltb 0 o.number) (ltb (length next) (length new)) refl refl
    where
      go : (t u : Bool) → ltb 0 o.number ≡ t → ltb (length next) (length new) ≡ u
          → Done R M xs b
          (call (cond t (unmoved o.number next list answer)
          (cond u (unmoved 17 next list answer)
          (record {
            number = 0;
            image = new ++ drop (length new) next;
            list = flat (written o) ++ drop (4 * o.count) list;
            answer = length new ∷ o.moved ∷ o.count ∷ drop 3 answer;
          }))))
      go true u p q = refused h (ltb-true 0 o.number p)
      go false true p q = no_room h (omega (arith, ltb-false 0 o.number p)) (ltb-true (length next) (length new) q)
      go false false p q = done_call h (omega (arith, ltb-false 0 o.number p)) (ltb-false (length next) (length new) q)

  on_image : (r : Moved) → 3 ≤ length answer → OnImage xs (λ n. unmoved n next list answer) (moved_as k next list answer) r → Done R M xs b (call r)
  on_image r h (unmarked f e) = absurd (false≢true (sym f ∙ i.first))
  on_image r h (versioned f v e) = absurd (v i.second)
  on_image r h (faulty f v s e) = absurd (s i.sound)
  on_image r h (accepted j e) = subst (λ (m : Moved). Done R M xs b (call m)) (sym e) (moved h)

  pub done : (r : Moved) → Changed xs k next list answer r → Done R M xs b (call r)
  done r c = go (ltb (length answer) 3) refl
    where
      go : (t : Bool) → ltb (length answer) 3 ≡ t → Done R M xs b (call r)
      go true e =
          let l : length answer < 3 = ltb-true (length answer) 3 e in
          subst (λ (m : Moved). Done R M xs b (call m)) (sym (c.short l)) (few_places l)
      go false e = let l : 3 ≤ length answer = ltb-false (length answer) 3 e in on_image r l (c.room l)

-- ---- the start

pub record Opened (R M : ℕ) (xs : List ℕ) (b : Ledger) : Type 0 where
  pub image : Image xs
  pub opening : Calls.Opening R M (pool_in xs) b

opened_fresh : (R M : ℕ) (buffer answer : List ℕ) (r : Stored) → FreshStored R M buffer answer r → r.number ≡ 0
    → Opened R M (take (at r.answer 0) r.image) blank
opened_fresh R M buffer answer r f z =
    go (ltb (length answer) 1) (outside max_range R || outside max_limit M) (ltb (length buffer) (length (image_of (fresh R M)))) refl f
  where
    go : (t u v : Bool) → outside max_range R || outside max_limit M ≡ u
        → r
        ≡ cond t (record { number = 17; image = buffer; answer = answer })
        (cond u (unstored 2 buffer answer)
        (cond v (unstored 17 buffer answer)
        (record {
          number = 0;
          image = image_of (fresh R M) ++ drop (length (image_of (fresh R M))) buffer;
          answer = length (image_of (fresh R M)) ∷ drop 1 answer;
        })))
        → Opened R M (take (at r.answer 0) r.image) blank
    go true u v h e = absurd (omega (arith, z, ap (λ (s : Stored). s.number) e))
    go false true v h e = absurd (omega (arith, z, ap (λ (s : Stored). s.number) e))
    go false false true h e = absurd (omega (arith, z, ap (λ (s : Stored). s.number) e))
    go false false false h e =
        let d = or_false (outside max_range R) (outside max_limit M) h in
        let s = outside_false max_range R d.0 in
        let l = outside_false max_limit M d.1 in
        let w : Valid (fresh R M) = valid_fresh R M s.0 s.1 l.0 l.1 in
        let q : image_of (fresh R M) ≡ take (at r.answer 0) r.image =
        sym (ap (λ (s : Stored). take (at s.answer 0) s.image) e
        ∙ take-append_seam (image_of (fresh R M)) (drop (length (image_of (fresh R M))) buffer)) in
        subst (λ (xs : List ℕ). Opened R M xs blank) q
        (record {
          image = image_image_of (fresh R M) w;
          opening = subst (λ (p : Pool). Calls.Opening R M p blank) (sym (pool_in_image_of (fresh R M) w))
              (Starts.opens_fresh R M s.0 s.1 l.0 l.1);
        })

opened_checked : (xs : List ℕ) (r : ℕ) → Checked xs r → r ≡ 0 → Opened (range_in xs) (limit_in xs) xs (ledger_in xs)
opened_checked xs r (unmarked h e) z = absurd (omega (arith, z, e))
opened_checked xs r (versioned h v e) z = absurd (omega (arith, z, e))
opened_checked xs r (faulty h v s e) z = absurd (omega (arith, z, e))
opened_checked xs r (accepted i e) z = record {
  image = i;
  opening = subst (λ (p : Pool). Calls.Opening (range_in xs) (limit_in xs) p (ledger_in xs)) (pool_of_state_in xs i.sound.valid)
      (Calls.image_pool {r = record { refusal = 0; pool = pool_of (state_in xs) }} (Images.accepted i refl) refl);
}

pub opening_calls : (R M : ℕ) (xs : List ℕ) (b : Ledger) → Opening R M xs b → Opened R M xs b
opening_calls R M xs b (fresh_image buffer answer r f z) = opened_fresh R M buffer answer r f z
opening_calls R M xs b (checked_image {r = r} c z) = opened_checked xs r c z

-- ---- the whole list

exports_from : (R M : ℕ) (es : List Exported) (xs : List ℕ) (b : Ledger) → Image xs → Ready R M (pool_in xs) b → Kept xs es
    → ExportedDemand3 R M xs b es
exports_from R M [] xs b i g k = (i, agreement_pool R M (pool_in xs) b g.valid g.agrees)
exports_from R M (e ∷ es) xs b i g k =
    let d : Done R M xs b e = done R M xs b i g e.change e.next e.list e.answer e.left k.0 in (
      i,
      agreement_pool R M (pool_in xs) b g.valid g.agrees,
      d.claim,
      exports_from R M es (image_after xs e) (feed_step b (step_of xs e)) d.image d.ready k.1,
    )

pub demand3_exports : (R M : ℕ) (xs : List ℕ) (b : Ledger) → Opening R M xs b → (es : List Exported) → Kept xs es → ExportedDemand3 R M xs b es
demand3_exports R M xs b s es k =
    let o : Opened R M xs b = opening_calls R M xs b s in exports_from R M es xs b o.image (ready R M (pool_in xs) b o.opening) k
