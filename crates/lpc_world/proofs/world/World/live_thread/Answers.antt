use Rattle.std.proofs.Common.{◌≡◌, ℕ, List, true, Option, Some, None, option_map, refl, sym, subst, ◌∙◌}
use Rattle.std.specs.Prelude.{IfSome, ◌==◌}
use Rattle.std.proofs.lemmas.Bool.{and_parts}
use Rattle.lpc_base.specs.Rows.{every, first, has}
use Rattle.lpc_base.proofs.RowWords.{first-passes}
use Rattle.lpc_model.specs.Found.{is_live_thread, is_process, is_table, live_thread}
use Rattle.lpc_model.specs.World.{ThreadRow, World}
use Rattle.lpc_procs.specs.declared.rows.Caller.{Caller}
use Rattle.lpc_rows.specs.Callers.{as_caller}
use Rattle.lpc_rows.specs.Kept.{rows_by}
use Rattle.lpc_rows.specs.Lawful.{is_housed}
use Rattle.lpc_rows.specs.Shown.{tables_of}
use Rattle.lpc_rows.proofs.Callers.{live-called}
use Rattle.lpc_rows.proofs.Finds as finds
use Rattle.lpc_world.proofs.world.World.live_thread.Goals as goal

-- a live thread's process has a table of handles
has_table : (w : World) (tid : ℕ) (o : Option Caller) → every (is_housed w) w.threads ≡ true → option_map as_caller (live_thread w tid) ≡ o → IfSome o (λ k. has (is_table k.process) w.handles ≡ true)
has_table w tid o all found = subst (λ p. IfSome p (λ k. has (is_table k.process) w.handles ≡ true)) found (by (live_thread w tid) refl)
  where
    by : (t : Option ThreadRow) → live_thread w tid ≡ t → IfSome (option_map as_caller t) (λ k. has (is_table k.process) w.handles ≡ true)
    by None at = tt
    by (Some t) at = (finds.is_caller w tid t all at).table

live-of : (tid : ℕ) (t : ThreadRow) (ts : List ThreadRow) → first (is_live_thread tid) ts ≡ Some t → t.live ≡ true
live-of tid t ts at = (and_parts (t.number == tid) t.live (first-passes (is_live_thread tid) ts t at)).1

-- and stands
has_process : (w : World) (tid : ℕ) (o : Option Caller) → every (is_housed w) w.threads ≡ true → option_map as_caller (live_thread w tid) ≡ o → IfSome o (λ k. has (is_process k.process) w.processes ≡ true)
has_process w tid o all found = subst (λ p. IfSome p (λ k. has (is_process k.process) w.processes ≡ true)) found (by (live_thread w tid) refl)
  where
    by : (t : Option ThreadRow) → live_thread w tid ≡ t → IfSome (option_map as_caller t) (λ k. has (is_process k.process) w.processes ≡ true)
    by None at = tt
    by (Some t) at = (finds.housed_first w (is_live_thread tid) t (live-of tid t w.threads at) all at).0

pub returns-clause-row : goal.returns-clause-row
returns-clause-row c = rw (← c.self.view_is, c.live_row.ensures.row) (sym (live-called c.args.tid c.self.inside.procs.threads))

pub returns-clause-table : goal.returns-clause-table
returns-clause-table c =
    let w : World = rows_by (tables_of c.self.inside.procs c.self.inside.parts.items c.self.inside.ports c.self.inside.waits c.self.inside.names c.self.inside.sections c.self.inside.tokens c.self.inside.token_names c.self.inside.marks) in
    rw (← c.self.view_is) (has_table w c.args.tid c.live_row.result c.self.invariant.kept.lawful.housed (live-called c.args.tid c.self.inside.procs.threads ∙ sym c.live_row.ensures.row))

pub returns-clause-process : goal.returns-clause-process
returns-clause-process c =
    let w : World = rows_by (tables_of c.self.inside.procs c.self.inside.parts.items c.self.inside.ports c.self.inside.waits c.self.inside.names c.self.inside.sections c.self.inside.tokens c.self.inside.token_names c.self.inside.marks) in
    rw (← c.self.view_is) (has_process w c.args.tid c.live_row.result c.self.invariant.kept.lawful.housed (live-called c.args.tid c.self.inside.procs.threads ∙ sym c.live_row.ensures.row))
