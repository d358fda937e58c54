-- Calls for a change, as the rules take them.
--
--   change_of call     the rules' change that a call asks for
use Rattle.slicing.specs.Changes.{Change, add, remove, resize}
use Rattle.calls.specs.declared.Call.{Call}
use Rattle.calls.specs.declared.Call.TheVariants.{Add, Remove, Resize}

-- the rules' change that a call asks for
abbrev pub change_of : Call → Change
change_of (Add d c) = add d c
change_of (Remove d) = remove d
change_of (Resize d c) = resize d c
