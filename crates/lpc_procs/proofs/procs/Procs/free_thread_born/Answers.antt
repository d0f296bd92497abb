use Rattle.std.proofs.Common.{◌≡◌, true, false, sym, ap, ◌∙◌, arith}
use Rattle.lpc_base.specs.Rows.{has, without}
use Rattle.lpc_base.proofs.RowWords.{has_none-without_first, without-none}
use Rattle.lpc_procs.specs.Procs.{Table, is_life, is_thread_born}
use Rattle.lpc_procs.proofs.Gone.{fewer-first, unfound-first, without-again}
use Rattle.lpc_procs.proofs.procs.Procs.free_thread_born.Goals as goal

pub loop-birth-smaller : goal.loop-birth-smaller
loop-birth-smaller c =
    let test = is_thread_born c.args.birth in
    let some : has test c.loop-birth.self.threads ≡ true = sym c.lose_thread_born.ensures.went ∙ c.loop-birth-test.true in
    let gone = ap (λ (s : Table). s.threads) c.lose_thread_born.ensures.table in
    rw gone (omega (arith, fewer-first test c.loop-birth.self.threads some))

pub loop-birth-preserved : goal.loop-birth-preserved
loop-birth-preserved c =
    let test = is_thread_born c.args.birth in
    let some : has test c.loop-birth.self.threads ≡ true = sym c.lose_thread_born.ensures.went ∙ c.loop-birth-test.true in
    let gone = ap (λ (s : Table). s.threads) c.lose_thread_born.ensures.table in
    record {
      left = ap (without test) gone ∙ without-again test c.loop-birth.self.threads ∙ c.loop-birth.invariant.left;
      same = c.lose_thread_born.ensures.table ∙ (λ i. record (c.loop-birth.invariant.same i) { threads = sym gone i; thread_room = c.lose_thread_born.new.self.thread_room });
      room = omega (arith, c.loop-birth.invariant.room, c.lose_thread_born.ensures.room);
      most = omega (arith, c.loop-birth.invariant.most, c.lose_thread_born.ensures.most);
      ended = rw gone (has_none-without_first (is_life c.args.birth) test c.loop-birth.self.threads c.loop-birth.invariant.ended);
    }

pub returns-clause-table : goal.returns-clause-table
returns-clause-table c =
    let test = is_thread_born c.args.birth in
    let none : has test c.loop-birth.self.threads ≡ false = sym c.lose_thread_born.ensures.went ∙ c.loop-birth-test.false in
    let gone = ap (λ (s : Table). s.threads) c.lose_thread_born.ensures.table ∙ unfound-first test c.loop-birth.self.threads none ∙ sym (without-none test c.loop-birth.self.threads none) ∙ c.loop-birth.invariant.left in
    c.lose_thread_born.ensures.table ∙ (λ i. record (c.loop-birth.invariant.same i) { threads = (sym (ap (λ (s : Table). s.threads) c.lose_thread_born.ensures.table) ∙ gone) i; thread_room = c.lose_thread_born.new.self.thread_room })

pub returns-clause-most : goal.returns-clause-most
returns-clause-most c = omega (arith, c.loop-birth.invariant.most, c.lose_thread_born.ensures.most)
