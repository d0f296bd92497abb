use Rattle.std.proofs.Common.{rules, ◌≡◌, ℕ, Bool, true, false, cond, Some, None, ap, sym, ◌∙◌}
use Rattle.lpc_base.specs.Rows.{has}
use Rattle.lpc_model.specs.Found.{fits_as, waits_as}
use Rattle.lpc_message.specs.declared.message.ClientId.{ClientId}
use Rattle.lpc_model.specs.World.{World}
use Rattle.lpc_base.specs.declared.birth.Birth.{Birth}
use Rattle.lpc_rows.specs.Lawful.{are_single}
use Rattle.lpc_rows.specs.Names.{name_of}
use Rattle.lpc_rows.specs.Ready.{waiter}
use Rattle.lpc_steps.proofs.Fits as fits
use Rattle.lpc_rows.proofs.Finds as finds
use Rattle.lpc_steps.proofs.fitting.fitted.Goals as goal

found_as : (w : World) (port : Birth) (client : ClientId) (identifier : ℕ) → are_single w.waits ≡ true → has (waits_as client.thread) w.waits ≡ true → (b : Bool) → b ≡ fits_as w port client identifier (waiter w client.thread) → finds.IsFound w (fits_as w port client identifier) (cond b (Some client.thread) None)
found_as w port client identifier one there b is =
    finds.found_wait w (fits_as w port client identifier) (cond b (Some client.thread) None) one (fits.fit_off w port client identifier)
    (ap (λ b. cond b (Some client.thread) None) is ∙ fits.fitting w port client identifier one there)

pub returns-then-not-is_waiting-clause-found : goal.returns-then-not-is_waiting-clause-found
returns-then-not-is_waiting-clause-found c =
    (finds.found_wait c.args.world.now.rows (fits_as c.args.world.now.rows (name_of c.args.world.now.births.ports c.args.port) c.args.client c.args.identifier) None c.is_waiting.ensures.single (fits.fit_off c.args.world.now.rows (name_of c.args.world.now.births.ports c.args.port) c.args.client c.args.identifier)
    (fits.fits_none c.args.world.now.rows (name_of c.args.world.now.births.ports c.args.port) c.args.client c.args.identifier (sym c.is_waiting.ensures.waits ∙ search (rules, c.if-not-is_waiting.true)))).found

pub returns-then-fits-clause-found : goal.returns-then-fits-clause-found
returns-then-fits-clause-found c =
    (found_as c.args.world.now.rows (name_of c.args.world.now.births.ports c.args.port) c.args.client c.args.identifier c.is_waiting.ensures.single (sym c.is_waiting.ensures.waits ∙ search (rules, c.if-not-is_waiting.false)) true (sym c.if-fits.true ∙ c.fits.ensures)).found

pub returns-then-fits-clause-idle : goal.returns-then-fits-clause-idle
returns-then-fits-clause-idle c =
    (found_as c.args.world.now.rows (name_of c.args.world.now.births.ports c.args.port) c.args.client c.args.identifier c.is_waiting.ensures.single (sym c.is_waiting.ensures.waits ∙ search (rules, c.if-not-is_waiting.false)) true (sym c.if-fits.true ∙ c.fits.ensures)).idle

pub returns-then-fits-clause-left : goal.returns-then-fits-clause-left
returns-then-fits-clause-left c = c.is_waiting.ensures.own.left c.args.client.thread (returns-then-fits-clause-idle c)

pub returns-else-fits-clause-found : goal.returns-else-fits-clause-found
returns-else-fits-clause-found c =
    (found_as c.args.world.now.rows (name_of c.args.world.now.births.ports c.args.port) c.args.client c.args.identifier c.is_waiting.ensures.single (sym c.is_waiting.ensures.waits ∙ search (rules, c.if-not-is_waiting.false)) false (sym c.if-fits.false ∙ c.fits.ensures)).found
