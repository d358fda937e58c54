-- Bytes at the start of a list, counted.
--
--   IsPrefixLen n xs    xs has n bytes at its start: it has as many, and `&xs[..n]` has n
use Rattle.std.specs.Prelude.{◌≡◌, ℕ, ◌≤◌, List, length, take}

abbrev pub IsPrefixLen : ℕ → List ℕ → Type 0
IsPrefixLen n xs = (n ≤ length xs) × (n ≡ length (take n xs))
