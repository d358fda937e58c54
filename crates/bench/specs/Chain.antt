-- What the export of this crate promises.
--
--   chain n   the first word of the last of n digests, each of a message that has the word before in it; 0 for none
use Rattle.std.specs.Prelude.{◌++◌, ℕ, zero, suc, get_or}
use Rattle.sha1_blocks.specs.Fips180.{bytes, digest}

unfoldable pub chain : ℕ → ℕ
chain zero = 0
chain (suc n) = get_or (digest (bytes 8 n ++ bytes 4 (chain n))) 0 0
