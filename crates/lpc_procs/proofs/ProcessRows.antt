-- A process's row changes, and keeps its number and its name.
use Rattle.std.proofs.Common.{◌≡◌, ℕ, List, true, map, refl, ap, ◌∙◌}
use Rattle.std.specs.Prelude.{◌==◌}
use Rattle.lpc_base.specs.Rows.{change, count, has}
use Rattle.lpc_base.proofs.Differ.{differ-change}
use Rattle.lpc_base.proofs.RowMaps.{change-map, unseen-change}
use Rattle.lpc_base.proofs.RowWords.{every-change, every-true}
use Rattle.lpc_procs.specs.declared.rows.Counted.{Counted}
use Rattle.lpc_procs.specs.declared.rows.ProcessRow.{ProcessRow}
use Rattle.lpc_procs.specs.declared.rows.ThreadRow.{ThreadRow}
use Rattle.lpc_procs.specs.declared.rows.UsedThread.{UsedThread}
use Rattle.lpc_procs.specs.Kept.{AreKept, has_number, is_counted, is_low, is_used_row, process_name, process_rows}
use Rattle.lpc_procs.specs.Procs.{is_process, lives_in}

abbrev number : Counted → ℕ
number p = p.row.number

-- a process with its row changed
abbrev pub with_row : (ProcessRow → ProcessRow) → Counted → Counted
with_row f p = record p { row = f p.row }

-- a change that keeps numbers, names and makers
pub record KeepsNames (f : ProcessRow → ProcessRow) : Type 0 where
  pub number : (p : ProcessRow) → (f p).number ≡ p.number
  pub birth : (p : ProcessRow) → (f p).birth ≡ p.birth
  pub maker : (p : ProcessRow) → (f p).maker ≡ p.maker

-- the rows, those of a number changed
pub row-changed : (f : ProcessRow → ProcessRow) (pid : ℕ) (ps : List Counted) → process_rows (change (has_number pid) (with_row f) ps) ≡ change (is_process pid) f (process_rows ps)
row-changed f pid ps = change-map (λ (q : Counted). q.row) (λ q. true) (has_number pid) (is_process pid) (λ q _. refl) (with_row f) f (λ q _. refl) ps (every-true ps)

module _ (f : ProcessRow → ProcessRow) (keeps : KeepsNames f) (pid : ℕ) (ps : List Counted) (ts : List ThreadRow) (ns : List ℕ) (us : List UsedThread) (alive registered : ℕ) (kept : AreKept ps ts ns us alive registered) where
  -- what the table keeps
  pub kept-row : AreKept (change (has_number pid) (with_row f) ps) ts ns us alive registered
  kept-row = record {
    rows = kept.rows;
    counts = every-change (is_counted ts) (has_number pid) (with_row f) (λ q h. ap (λ n. q.live == count (lives_in n) ts) (keeps.number q.row) ∙ h) ps kept.counts;
    apart = differ-change number (has_number pid) (with_row f) (λ q. keeps.number q.row) ps kept.apart;
    processes_low = every-change (is_low 2147483648) (has_number pid) (with_row f) (λ q h. rw (keeps.number q.row) h) ps kept.processes_low;
    owners = kept.owners;
    processes_used = every-change (is_used_row ns) (has_number pid) (with_row f) (λ q h. ap (λ n. has (λ m. m == n) ns) (keeps.number q.row) ∙ h) ps kept.processes_used;
    limited = kept.limited;
    living = kept.living;
    told = kept.told;
  }

  pub names-same : map process_name (change (has_number pid) (with_row f) ps) ≡ map process_name ps
  names-same = unseen-change process_name (has_number pid) (with_row f) (λ q. λ j. (keeps.number q.row j, keeps.birth q.row j)) ps
