-- Rows as they come and go.
--
--   raised p x      the row that row x becomes where a row comes in at p
--   lowered p x     the row that row x becomes where row p goes
--   Named f w v     the run v is the run w with f of its row
use Rattle.std.specs.Prelude.{◌≡◌, cond, ℕ, ◌+◌, ◌-◌, ◌/◌, ◌%◌, ltb}

abbrev pub raised : ℕ → ℕ → ℕ
raised p x = cond (ltb x p) x (x + 1)

abbrev pub lowered : ℕ → ℕ → ℕ
lowered p x = cond (ltb p x) (x - 1) x

abbrev pub Named : (ℕ → ℕ) → ℕ → ℕ → Type 0
Named f w v = (v / 65536 ≡ w / 65536) × (v % 65536 ≡ f (w % 65536))
