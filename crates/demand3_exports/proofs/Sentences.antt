-- What demand 3 says of the exported changes, in a caller's words: numbers, bytes, points, owners and counts. e is any call of any list, from
-- any opening. Each sentence follows from the fields of `ExportedDemand3` alone. With any number but 17 a call is one of demand 3's, and
-- every sentence of demand 3 holds of it; those that matter most to a caller are said again, on the image's rows.
--
--   Facts R M was old e    what `ExportedDemand3` says of a call e: was the image and old the ledger before it
--   facts_at               it holds of every call of a list, us before it and vs after it
--   end_checked, end_owner, end_share     the image that a list leaves
--   is, new, ms            the image for the next call, the ledger after e, the moves written
--   images                 got_checked, left_checked, range_and_limit
--   refused calls          refused_stays, refused_zeros, few_places, seventeen_means, seventeen_when
--   other calls            calls, as_the_rules, listed_moves
--   accepted calls         image_written, image_rest, list_rest_lem, answer_rest_lem
--   owners and shares      one_owner, exact_share
--   which way moves go     add_only_to, remove_only_from, resize_one_way
--   a call that found one  moved_count, owners_of_moves, moves_alone, no_other_fewer
use mathlib.Core.Path.{◌≡◌, refl, sym, ap, ◌∙◌}
use mathlib.Core.Bool.{Bool, true, false, not, false≢true}
use mathlib.Core.List.{List, [], ◌∷◌, ◌++◌, map}
use mathlib.Core.Logic.{◌⊎◌}
use Prim.Native.Nat.{ℕ, zero, suc, ◌*◌, ◌≤◌, ◌<◌}
use native.Mathlib.Omega.{arith}
use lib.Dec.{eqb}
use lib.ListN.{length, take, drop, get_or-append}
use lib.Seq.{drop-append_seam}
use borrow.Author.Tests.{eqb-true, eqb-false}
use Rattle.slicing.specs.Changes.{add, remove, resize, Outcome, change}
use Rattle.slicing.specs.Claims as Rules
use Rattle.slicing.specs.Ledger.{Ledger, feed}
use Rattle.slicing.specs.ShareRule.{share_of}
use Rattle.slicing.specs.SixSteps.{points}
use Rattle.slicing.specs.SixSteps as Six
use Rattle.slicing_core.specs.Rows.{at}
use Rattle.slicing_core.proofs.Rows.{length_device_rows}
use Rattle.pools.specs.Pools.{state_of, pool_of}
use Rattle.flat_moves.specs.FlatMoves.{moves_in}
use Rattle.pools.proofs.PoolLaws.{state_of_pool_of, length_table_rows}
use Rattle.placement.specs.Promises.{move_of, row_of}
use Rattle.image_numbers.specs.Format.{image_of, range_in, limit_in, devices_in, intervals_in, ids_in, capacities_in, starts_in, owners_in, state_in, Image}
use Rattle.image_bytes.specs.RowBytes.{pool_in}
use Rattle.image_numbers.proofs.ImageSizes.{length_image_of}
use Rattle.images.proofs.PoolsRead.{state_of_pool_in}
use Rattle.images.specs.OnImages.{unmarked, versioned, faulty, accepted}
use Rattle.image_making.specs.Promises.{Checked}
use Rattle.demand3.specs.CallLists.{written, feed_step}
use Rattle.demand3.specs.Demand3.{Agreement, Rival}
use Rattle.demand3.specs.Points.{count_of, InMove, in_moves, move_at, holds}
use Rattle.demand3.proofs.Sentences as Calls
use Rattle.demand3_exports.specs.Exports.{Exported, image_after, image_left, Kept, step_of, ledger_after}
use Rattle.demand3_exports.specs.ExportedDemand3.{Opening, Claim, ExportedDemand3}
use Rattle.demand3_exports.proofs.Steps.{same_outcome, outcome_valid}
use Rattle.demand3_exports.proofs.ExportedDemand3.{image_after_refused, demand3_exports}

-- ---- laws of images and lists

checked_zero : (xs : List ℕ) → Image xs → (r : ℕ) → Checked xs r → r ≡ 0
checked_zero xs i r (unmarked h e) = absurd (false≢true (sym h ∙ i.first))
checked_zero xs i r (versioned h v e) = absurd (v i.second)
checked_zero xs i r (faulty h v s e) = absurd (s i.sound)
checked_zero xs i r (accepted j e) = e

-- an image is as long as that of its state
length_image : (xs : List ℕ) → Image xs → length xs ≡ length (image_of (state_in xs))
unfolding state_in
length_image xs i =
    omega (
      arith,
      i.sound.exact,
      length_image_of (state_in xs),
      length_device_rows (ids_in xs) (capacities_in xs) 0 (devices_in xs),
      length_table_rows (starts_in xs) (owners_in xs) (range_in xs) 0 (intervals_in xs),
    )

take_rows : (n : ℕ) (ms : List Six.Move) → map move_of (take n (map row_of ms)) ≡ take n ms
take_rows zero ms = refl
take_rows (suc n) [] = refl
take_rows (suc n) (m ∷ ms) = ap (λ (l : List Six.Move). m ∷ l) (take_rows n ms)

-- ---- the claim about a call of a list, and what holds before and after it

pub record Facts (R M : ℕ) (was : List ℕ) (old : Ledger) (e : Exported) : Type 0 where
  pub got : Image was
  pub agreed : Agreement R M (pool_in was) old
  pub claim : Claim R was old e
  pub left : Image (image_after was e)
  pub agrees : Agreement R M (pool_in (image_after was e)) (feed_step old (step_of was e))

agreement_at : (R M : ℕ) (es : List Exported) (xs : List ℕ) (b : Ledger) → ExportedDemand3 R M xs b es → Image xs × Agreement R M (pool_in xs) b
agreement_at R M [] xs b d = d
agreement_at R M (e ∷ es) xs b d = (d.0, d.1)

facts_in : (R M : ℕ) (us : List Exported) (e : Exported) (vs : List Exported) (xs : List ℕ) (b : Ledger) → ExportedDemand3 R M xs b (us ++ e ∷ vs)
    → Facts R M (image_left xs us) (ledger_after b xs us) e
facts_in R M [] e vs xs b d =
    let n = agreement_at R M vs (image_after xs e) (feed_step b (step_of xs e)) d.3 in
    record { got = d.0; agreed = d.1; claim = d.2; left = n.0; agrees = n.1 }
facts_in R M (u ∷ us) e vs xs b d = facts_in R M us e vs (image_after xs u) (feed_step b (step_of xs u)) d.3

end_in : (R M : ℕ) (es : List Exported) (xs : List ℕ) (b : Ledger) → ExportedDemand3 R M xs b es
    → Image (image_left xs es) × Agreement R M (pool_in (image_left xs es)) (ledger_after b xs es)
end_in R M [] xs b d = d
end_in R M (e ∷ es) xs b d = end_in R M es (image_after xs e) (feed_step b (step_of xs e)) d.3

pub facts_at : (R M : ℕ) (xs : List ℕ) (b : Ledger) → Opening R M xs b → (us : List Exported) (e : Exported) (vs : List Exported)
    → Kept xs (us ++ e ∷ vs) → Facts R M (image_left xs us) (ledger_after b xs us) e
facts_at R M xs b s us e vs k = facts_in R M us e vs xs b (demand3_exports R M xs b s (us ++ e ∷ vs) k)

-- ---- the image that a list leaves, after no call too

module _ (R M : ℕ) (xs : List ℕ) (b : Ledger) (s : Opening R M xs b) (es : List Exported) (k : Kept xs es) where
  end : Image (image_left xs es) × Agreement R M (pool_in (image_left xs es)) (ledger_after b xs es)
  end = end_in R M es xs b (demand3_exports R M xs b s es k)

  pub end_checked : (r : ℕ) → Checked (image_left xs es) r → r ≡ 0
  end_checked = checked_zero (image_left xs es) end.0

  pub end_owner : 1 ≤ length (ledger_after b xs es).entries → (x : ℕ) → x < R → (d : ℕ)
      → holds (pool_in (image_left xs es)) d x ≡ eqb d ((ledger_after b xs es).owner x)
  end_owner = Calls.one_owner R M (pool_in (image_left xs es)) (ledger_after b xs es) end.1

  pub end_share : 1 ≤ length (ledger_after b xs es).entries → (d : ℕ)
      → count_of (holds (pool_in (image_left xs es)) d) R ≡ share_of R (ledger_after b xs es).entries d
  end_share = Calls.exact_share R M (pool_in (image_left xs es)) (ledger_after b xs es) end.1

-- ---- a call of a list

module _ (R M : ℕ) (was : List ℕ) (old : Ledger) (e : Exported) (facts : Facts R M was old e) where
  abbrev is : List ℕ
  is = image_after was e

  abbrev new : Ledger
  new = feed_step old (step_of was e)

  abbrev ms : List Six.Move
  ms = written (step_of was e)

  abbrev o : Outcome
  o = change (state_in was) (moves_in e.list) e.change

  claim : Claim R was old e
  claim = facts.claim

  -- ---- images

  -- the image that a call gets and the one for the next call are accepted by the check
  pub got_checked : (r : ℕ) → Checked was r → r ≡ 0
  got_checked = checked_zero was facts.got

  pub left_checked : (r : ℕ) → Checked is r → r ≡ 0
  left_checked = checked_zero is facts.left

  -- 'After every call the pool's R and M are those of the start': in the bytes
  pub range_and_limit : (range_in is ≡ R) × (limit_in is ≡ M)
  unfolding pool_in
  range_and_limit = (facts.agrees.range, facts.agrees.limit)

  -- ---- refused calls

  -- 'A refused call changes nothing in it', and 'Pool and buffers keep every value'
  pub refused_stays : 1 ≤ e.left.number → (e.left.image ≡ e.next) × (e.left.list ≡ e.list) × (is ≡ was) × (new ≡ old)
  refused_stays n = (claim.image n, claim.list n, image_after_refused was e n, go e.left.number n)
    where
      go : (n : ℕ) → 1 ≤ n → feed old e.change n ms ≡ old
      go zero l = absurd (omega arith)
      go (suc n) l = refl

  -- 'its number and zeros': in the first three places
  pub refused_zeros : 1 ≤ e.left.number → 3 ≤ length e.answer
      → (at e.left.answer 0 ≡ 0) × (at e.left.answer 1 ≡ 0) × (at e.left.answer 2 ≡ 0)
      × ((j : ℕ) → 3 ≤ j → at e.left.answer j ≡ at e.answer j)
  refused_zeros n l =
      let z = claim.zeros n l in (
        ap (λ (a : List ℕ). at a 0) z,
        ap (λ (a : List ℕ). at a 1) z,
        ap (λ (a : List ℕ). at a 2) z,
        λ j h. Calls.same_behind 3 e.left.answer e.answer (ap (drop 3) z) j 0 h,
      )

  -- '17: buffer too short': without three places for the answer,
  pub few_places : length e.answer < 3 → (e.left.number ≡ 17) × (e.left.answer ≡ e.answer)
  few_places l = (claim.few l, claim.no_places l)

  -- and else exactly where the rules accept the change and its image does not fit
  pub seventeen_means : 3 ≤ length e.answer → e.left.number ≡ 17 → (o.number ≡ 0) × (length e.next < length (image_of o.state))
  seventeen_means = claim.short

  -- ---- calls that are not answered with 17

  pub calls : (e.left.number ≡ 17 → ⊥) → Calls.Facts R M (pool_in was) old (step_of was e)
  calls n = record { agreed = facts.agreed; claim = claim.claim n; agrees = facts.agrees }

  -- 'Each call's refusal number or 0, its table and its moves in their order are those that One change and Where a call stops give.'
  pub as_the_rules : (e.left.number ≡ 17 → ⊥)
      → (e.left.number ≡ o.number) × (state_in is ≡ o.state) × (ms ≡ Rules.written o)
      × (at e.left.answer 1 ≡ o.moved) × (at e.left.answer 2 ≡ o.count)
  as_the_rules n =
      let r = Calls.as_the_rules R M (pool_in was) old (step_of was e) (calls n) in
      let q = same_outcome was facts.got e.change e.list in (
        r.0 ∙ ap (λ (u : Outcome). u.number) q,
        sym (state_of_pool_in is) ∙ ap state_of r.1 ∙ ap (λ (u : Outcome). state_of (pool_of u.state)) q
            ∙ state_of_pool_of o.state (outcome_valid was facts.got e.change e.list),
        r.2 ∙ ap Rules.written q,
        r.3 ∙ ap (λ (u : Outcome). u.moved) q,
        (claim.claim n).rules.count ∙ ap (λ (u : Outcome). u.count) q,
      )

  pub seventeen_when : o.number ≡ 0 → length e.next < length (image_of o.state) → e.left.number ≡ 17
  seventeen_when z l = go (eqb e.left.number 17) refl
    where
      go : (t : Bool) → eqb e.left.number 17 ≡ t → e.left.number ≡ 17
      go true q = eqb-true e.left.number 17 q
      go false q =
          let r = as_the_rules (eqb-false e.left.number 17 q) in
          absurd (omega (arith, l, claim.fits (r.0 ∙ z), length_image is facts.left ∙ ap (λ s. length (image_of s)) r.1))

  -- the moves written are the first in the list, four numbers each, as many as the answer says
  pub listed_moves : ms ≡ take (at e.left.answer 2) (moves_in e.left.list)
  listed_moves = take_rows (at e.left.answer 2) (moves_in e.left.list)

  -- ---- accepted calls

  module _ (z : e.left.number ≡ 0) where
    other : e.left.number ≡ 17 → ⊥
    other y = omega (arith, z, y)

    -- the new image stands in the buffer from the first byte on, and the answer has its length
    pub image_written : (at e.left.answer 0 ≡ length is) × (length is ≤ length e.next)
        × ((j : ℕ) → j < length is → at e.left.image j ≡ at is j)
    image_written = (
      claim.stored z,
      claim.fits z,
      λ j l. ap (λ (xs : List ℕ). at xs j) (claim.rest z) ∙ get_or-append is (drop (length is) e.next) 0 j l,
    )

    -- 'Bytes past a written image stay.'
    pub image_rest : (j : ℕ) → length is ≤ j → at e.left.image j ≡ at e.next j
    image_rest j l =
        Calls.same_behind (length is) e.left.image e.next
        (ap (drop (length is)) (claim.rest z) ∙ drop-append_seam is (drop (length is) e.next)) j 0 l

    -- 'List places after them stay.'
    pub list_rest_lem : (j : ℕ) → 4 * at e.left.answer 2 ≤ j → at e.left.list j ≡ at e.list j
    list_rest_lem j l = Calls.same_behind (4 * at e.left.answer 2) e.left.list e.list (claim.list_rest z) j 0 l

    pub answer_rest_lem : (j : ℕ) → 3 ≤ j → at e.left.answer j ≡ at e.answer j
    answer_rest_lem j l = Calls.same_behind 3 e.left.answer e.answer (claim.answer_rest z) j 0 l

    -- 'An add must move points only to the new disk, a removal only from the old one, a resize only to or from the one named.'
    pub add_only_to : (d c : ℕ) → (step_of was e).change ≡ add d c → (i : ℕ) → i < length ms → (move_at ms i).to ≡ d
    add_only_to d c q = Calls.add_only_to R M (pool_in was) old (step_of was e) (calls other) d c q z

    pub remove_only_from : (d : ℕ) → (step_of was e).change ≡ remove d → (i : ℕ) → i < length ms → (move_at ms i).from ≡ d
    remove_only_from d q = Calls.remove_only_from R M (pool_in was) old (step_of was e) (calls other) d q z

    pub resize_one_way : (d c : ℕ) → (step_of was e).change ≡ resize d c
        → ((i : ℕ) → i < length ms → (move_at ms i).to ≡ d) ⊎ ((i : ℕ) → i < length ms → (move_at ms i).from ≡ d)
    resize_one_way d c q = Calls.resize_one_way R M (pool_in was) old (step_of was e) (calls other) d c q z

    -- ---- that found an entry

    module _ (n : 1 ≤ length old.entries) where
      -- 'The moved count equals the number of points in the moves': those whose owner changed, and the sum of the moves' lengths
      pub moved_count : (at e.left.answer 1 ≡ count_of (λ x. not (eqb (old.owner x) (new.owner x))) R)
          × (at e.left.answer 1 ≡ count_of (in_moves ms) R) × (at e.left.answer 1 ≡ points ms)
      moved_count = Calls.moved_count R M (pool_in was) old (step_of was e) (calls other) z n

      -- 'for each point in a move the book named that move's old owner before the call': by the rows of the images before and after it
      pub owners_of_moves : (i x : ℕ) → i < length ms → InMove (move_at ms i) x
          → (holds (pool_in was) (move_at ms i).from x ≡ true) × (holds (pool_in is) (move_at ms i).to x ≡ true)
      owners_of_moves = Calls.owners_of_moves R M (pool_in was) old (step_of was e) (calls other) z n

      -- 'the listed moves alone turn old owners into new'
      pub moves_alone : (x : ℕ) → x < R → (d : ℕ) → in_moves ms x ≡ false → holds (pool_in is) d x ≡ holds (pool_in was) d x
      moves_alone = Calls.moves_alone R M (pool_in was) old (step_of was e) (calls other) z n

      -- no other way of giving out the points moves fewer
      pub no_other_fewer : (rival : ℕ → ℕ) → Rival R new.entries rival
          → at e.left.answer 1 ≤ count_of (λ x. not (eqb (old.owner x) (rival x))) R
      no_other_fewer rival r = ((claim.claim other).movement z n).least rival r

  -- ---- owners and shares, by the rows of the image for the next call

  -- 'While the book has an entry, each point lies in exactly one interval of the table, whose owner is the one in the book'
  pub one_owner : 1 ≤ length new.entries → (x : ℕ) → x < R → (d : ℕ) → holds (pool_in is) d x ≡ eqb d (new.owner x)
  one_owner = Calls.one_owner R M (pool_in is) new facts.agrees

  -- every device exactly its share, counted by points
  pub exact_share : 1 ≤ length new.entries → (d : ℕ) → count_of (holds (pool_in is) d) R ≡ share_of R new.entries d
  exact_share = Calls.exact_share R M (pool_in is) new facts.agrees
