-- Objects that no row counts for go at the end of a line.
use Rattle.std.specs.Prelude.{Bool, true, false, List, [], ◌∷◌, map, ◌==◌, ◌||◌}
use Rattle.lpc_base.specs.Rows.{which}
use Rattle.lpc_model.specs.World.{ObjectName, World}
use Rattle.lpc_model.specs.Found.{object_names, pointer_count}
use Rattle.lpc_model.specs.Basics.{Accepts, Basic, Cuts, Dies, DropsHandle, DropsOwned, DropsViewsOf, Empties, Frees, Joins, Leaves, LetsGo, SetsDebug, SetsException, Steps, Takes, TakesConnect, Unmaps, Unregisters, Wakes, Withdraws, ◌▹◌}

-- no row counts for the object
abbrev pub is_unheld : World → ObjectName → Bool
is_unheld w o = pointer_count w o == 0

-- the objects that no row counts for
abbrev pub unheld : World → List ObjectName
unheld w = which (is_unheld w) (object_names w)

-- they go
abbrev pub free_unheld : Steps
free_unheld w = map Frees (unheld w)

-- and then those that only they counted for: a connection port of closed ports alone
unfoldable pub sweep : Steps
sweep = free_unheld ▹ free_unheld

-- a step takes a row away that may count for an object, or what in it counts: an accept takes what the connect offered,
-- a join the other end that a port had
abbrev pub loosens : Basic → Bool
loosens (Wakes who call status fields) = true
loosens (Dies who status) = true
loosens (Accepts who a) = true
loosens (Leaves who) = true
loosens (LetsGo pid) = true
loosens (SetsDebug pid b) = true
loosens (SetsException pid b) = true
loosens (Takes q) = true
loosens (TakesConnect q) = true
loosens (Withdraws who) = true
loosens (Empties q) = true
loosens (Unregisters who b) = true
loosens (Joins client server context) = true
loosens (Cuts b) = true
loosens (Frees o) = true
loosens (DropsHandle pid value) = true
loosens (Unmaps pid base) = true
loosens (DropsViewsOf pid) = true
loosens (DropsOwned b) = true
loosens b = false

-- one of the steps does, or one before them did
abbrev pub loosened : Bool → List Basic → Bool
loosened before [] = before
loosened before (b ∷ bs) = loosened (loosens b || before) bs
