use Rattle.std.proofs.Common.{refl}
use Rattle.lpc_procs.proofs.Tables.{roomier}
use Rattle.lpc_procs.proofs.procs.Procs.reserve.Goals as goal

pub invariant_of-self-in_err-reserve-4 : goal.invariant_of-self-in_err-reserve-4
invariant_of-self-in_err-reserve-4 c = rw (c.reserve-3.ensures.entries, c.promise.ensures, c.promise-2.ensures, c.promise-3.ensures, c.promise-4.ensures) (roomier c.self.invariant c.reserve.new.self c.reserve-4.new.self c.reserve-2.new.self c.self.inside.thread_names c.reserve.ensures.kept c.reserve-4.ensures.kept c.reserve-2.ensures.kept refl)

pub invariant_of-self-in_err-reserve-5 : goal.invariant_of-self-in_err-reserve-5
invariant_of-self-in_err-reserve-5 c = rw (c.reserve-3.ensures.entries, c.promise.ensures, c.promise-2.ensures, c.promise-3.ensures, c.promise-4.ensures) (roomier c.self.invariant c.reserve.new.self c.reserve-4.new.self c.reserve-2.new.self c.reserve-5.new.self c.reserve.ensures.kept c.reserve-4.ensures.kept c.reserve-2.ensures.kept c.reserve-5.ensures.kept)

pub invariant_of-self-2 : goal.invariant_of-self-2
invariant_of-self-2 c = rw (c.reserve-3.ensures.entries, c.promise.ensures, c.promise-2.ensures, c.promise-3.ensures, c.promise-4.ensures, c.reserve-6.ensures.entries) (roomier c.self.invariant c.reserve.new.self c.reserve-4.new.self c.reserve-2.new.self c.reserve-5.new.self c.reserve.ensures.kept c.reserve-4.ensures.kept c.reserve-2.ensures.kept c.reserve-5.ensures.kept)
