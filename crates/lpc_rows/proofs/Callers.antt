-- The thread that makes a call, as the table of threads tells it and as the definitions have it.
use Rattle.std.proofs.Common.{◌≡◌, ℕ, List, map, true, Some, option_map, refl, ap, subst, ◌∙◌}
use Rattle.lpc_base.specs.Rows.{every, first, has}
use Rattle.lpc_base.proofs.RowMaps.{mapped-twice}
use Rattle.lpc_model.specs.World.{World}
use Rattle.lpc_model.specs.Found.{is_live_thread, is_process, is_table, is_thread, live_thread}
use Rattle.lpc_procs.specs.Callers.{caller_of}
use Rattle.lpc_procs.specs.Procs as procs
use Rattle.lpc_procs.specs.declared.rows.Caller.{Caller}
use Rattle.lpc_procs.specs.declared.rows.ThreadRow.{ThreadRow}
use Rattle.lpc_rows.specs.Callers.{as_caller}
use Rattle.lpc_rows.specs.Clauses.{thread_row}
use Rattle.lpc_rows.specs.Lawful.{are_single_threads, is_housed}
use Rattle.lpc_rows.specs.Ready.{caller}
use Rattle.lpc_rows.specs.Shown.{shown_thread}
use Rattle.lpc_rows.proofs.Drawn.{live-found}
use Rattle.lpc_rows.proofs.Finds as finds
use Rattle.lpc_rows.proofs.Readings.{Holds, first-shown, holds}

-- a live thread of the table is the definitions' one
pub live-called : (tid : ℕ) (ts : List ThreadRow) → option_map as_caller (first (is_live_thread tid) (map shown_thread ts)) ≡ option_map caller_of (first (procs.is_live_thread tid) ts)
live-called tid ts =
    ap (option_map as_caller) (first-shown shown_thread (procs.is_live_thread tid) (is_live_thread tid) (λ t. refl) ts)
    ∙ mapped-twice shown_thread as_caller (first (procs.is_live_thread tid) ts)

-- what is known of the caller of a call
pub record IsCalled (w : World) (tid : ℕ) (c : Caller) : Type 0 where
  pub row : c ≡ as_caller (caller w tid)
  pub number : c.number ≡ tid
  pub found : option_map as_caller (thread_row w c.number) ≡ Some c
  pub whole : thread_row w tid ≡ Some (caller w tid)
  pub there : has (is_thread tid) w.threads ≡ true
  pub process : has (is_process c.process) w.processes ≡ true
  pub table : has (is_table c.process) w.handles ≡ true

pub is_called : (w : World) (tid : ℕ) (c : Caller) → every (is_housed w) w.threads ≡ true → are_single_threads w.threads ≡ true → option_map as_caller (live_thread w tid) ≡ Some c → IsCalled w tid c
is_called w tid c housed single is = called (holds as_caller (live_thread w tid) c is)
  where
    called : Holds as_caller (live_thread w tid) c → IsCalled w tid c
    called h =
        let it = finds.is_caller w tid h.row housed h.found in
        let own = live-found tid w.threads h.row single it.number h.found in
        subst (IsCalled w tid) h.is (record {
          row = ap as_caller it.caller_is;
          number = it.number;
          found = ap (option_map as_caller) own;
          whole = subst (λ n. thread_row w n ≡ Some (caller w tid)) it.number (own ∙ ap Some it.caller_is);
          there = it.there;
          process = it.process;
          table = it.table;
        })
