-- The counters (document 01's tally).
--
--   most           the largest number that they show
--   counted c n    the counters after an accepted lookup that made n probes
use Rattle.std.specs.Prelude.{ℕ, ◌+◌, min}
use Rattle.lookups.specs.declared.Counters.{Counters}

-- 'both numbers are 32 bits and stay at 4,294,967,295'
abbrev pub most : ℕ
most = 4294967295

-- 'adds 1 lookup and those tries for each accepted lookup of copies'
abbrev pub counted : Counters → ℕ → Counters
counted c n = record { lookups = min (c.lookups + 1) most; probes = min (c.probes + n) most }
