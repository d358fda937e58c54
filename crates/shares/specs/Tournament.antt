-- A tournament of n rows in an array of nodes: what the functions of `tournament` ask and promise. No id is read: rows stand by rising id, so
-- a row's number stands for its id.
--
--   next_of p caps i             the next quotient of row i, which has the points that p has of it
--   Ahead p caps i j            the next quotient of row j does not go before that of row i
--   Small p caps i              row i is a place of the arrays, and its numbers are within their limits
--   Ready p caps n              there are from 1 to 256 rows, and all are small
--   Won p caps a b r            of the rows a and b, r goes first
--   Leaves n tree               node n + i is row i
--   Above k m                   node k is reached from node m by halving
--   First p caps n k r          of the rows with node k above their leaf, r goes first
--   Tree p caps n Open tree     at each node that is not open stands the row that goes first there
--   Tournament p caps n tree    no node is open
--   Raised p caps n w tree      only the nodes above the leaf of row w are
use Rattle.std.specs.Prelude.{◌≡◌, false, List, ◌⊎◌, ℕ, suc, ◌+◌, ◌/◌, ◌≤◌, ◌<◌, length}
use Rattle.slicing.specs.Devices.{device}
use Rattle.slicing.specs.GreatestDivisors.{Quotient, ◌over◌, before}
use Rattle.slicing.specs.Limits.{max_range, max_capacity}
use Rattle.slicing_core.specs.Rows.{at}

abbrev pub next_of : List ℕ → List ℕ → ℕ → Quotient
next_of p caps i = device i (at caps i) over suc (at p i)

abbrev pub Ahead : List ℕ → List ℕ → ℕ → ℕ → Type 0
Ahead p caps i j = before (next_of p caps j) (next_of p caps i) ≡ false

pub record Small (p caps : List ℕ) (i : ℕ) : Type 0 where
  pub place : i < 256
  pub least : 1 ≤ at caps i
  pub most : at caps i ≤ max_capacity
  pub points : at p i ≤ max_range

pub record Ready (p caps : List ℕ) (n : ℕ) : Type 0 where
  pub some : 1 ≤ n
  pub most : n ≤ 256
  pub small : (i : ℕ) → i < n → Small p caps i

pub record Won (p caps : List ℕ) (a b r : ℕ) : Type 0 where
  pub either : (r ≡ a) ⊎ (r ≡ b)
  pub first : Ahead p caps r a
  pub second : Ahead p caps r b

pub record Leaves (n : ℕ) (tree : List ℕ) : Type 0 where
  pub size : length tree ≡ 512
  pub leaf : (i : ℕ) → i < n → at tree (n + i) ≡ i

pub data Above (k : ℕ) : ℕ → Type 0 where
  here : {m : ℕ} → k ≡ m → Above k m
  half : {m : ℕ} → Above k (m / 2) → Above k m

pub record First (p caps : List ℕ) (n k r : ℕ) : Type 0 where
  pub row : r < n
  pub below : Above k (n + r)
  pub ahead : (i : ℕ) → i < n → Above k (n + i) → Ahead p caps r i

pub record Tree (p caps : List ℕ) (n : ℕ) (Open : ℕ → Type 0) (tree : List ℕ) : Type 0 where
  pub size : length tree ≡ 512
  pub first : (k : ℕ) → 1 ≤ k → k < n + n → (Open k → ⊥) → First p caps n k (at tree k)

abbrev pub Tournament : List ℕ → List ℕ → ℕ → List ℕ → Type 0
Tournament p caps n tree = Tree p caps n (λ k. ⊥) tree

abbrev pub Raised : List ℕ → List ℕ → ℕ → ℕ → List ℕ → Type 0
Raised p caps n w tree = (w < n) × Tree p caps n (λ k. Above k ((n + w) / 2)) tree
