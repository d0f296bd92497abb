use Rattle.std.proofs.Common.{◌+◌, ◌*◌, ap, arith, length, refl, sym, ◌∙◌}
use Rattle.std.proofs.lemmas.List.{length-map}
use Rattle.lpc_base.specs.Rows.{count}
use Rattle.lpc_rows.specs.Kept.{is_alive}
use Rattle.lpc_rows.specs.Shown.{shown_thread}
use Rattle.lpc_rows.proofs.Readings as readings
use Rattle.lpc_machine.proofs.reading.room_needed.Goals as goal

pub overflow_mul-result : goal.overflow_mul-result
overflow_mul-result c = omega (arith, c.alive.ensures.bound, c.procs.ensures.few, ap length c.procs.ensures.threads ∙ length-map c.procs.result.now.threads shown_thread)

pub overflow_add-result : goal.overflow_add-result
overflow_add-result c = omega (arith, c.alive.ensures.bound, c.procs.ensures.few, ap length c.procs.ensures.threads ∙ length-map c.procs.result.now.threads shown_thread)

pub returns : goal.returns
returns c =
    let alive = ap (count is_alive) c.procs.ensures.threads ∙ readings.count-shown shown_thread (λ t. t.live) is_alive (λ t. refl) c.procs.result.now.threads in
    ap (λ k. 3 * k + 1) (c.alive.ensures.count ∙ sym alive)
