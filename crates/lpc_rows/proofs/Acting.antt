-- A thread acts for a client, or with the token of its process again; and the tokens that it and its process have.
use Rattle.std.proofs.Common.{◌≡◌, ◌+◌, ℕ, true, Option, Some, None, option_map, is_some, length, refl, ap, sym, subst, ◌∙◌}
use Rattle.std.proofs.lemmas.Option.{same_Some}
use Rattle.lpc_base.specs.Rows.{first, has}
use Rattle.lpc_base.proofs.RowMaps.{change-map}
use Rattle.lpc_base.proofs.RowWords.{every-change, every-true}
use Rattle.lpc_model.specs.Basics as basics
use Rattle.lpc_model.specs.Basics.{Acts, basic}
use Rattle.lpc_model.specs.Found.{is_live_thread, is_process, is_thread, live_thread, token_in, token_of}
use Rattle.lpc_model.specs.World as model
use Rattle.lpc_model.specs.World.{Impersonation, Token, World}
use Rattle.lpc_procs.specs.Procs as procs
use Rattle.lpc_procs.specs.declared.rows.ProcessRow.{ProcessRow}
use Rattle.lpc_procs.specs.declared.rows.ThreadRow.{ThreadRow}
use Rattle.lpc_rows.specs.Kept.{registered_ports, rows_by}
use Rattle.lpc_rows.specs.Lawful.{AreBornIn, AreLawful, draws_at_most, has_named_ports}
use Rattle.lpc_rows.specs.Ready.{caller, thread_in}
use Rattle.lpc_rows.specs.Shown.{Births, Tables, births_of, shown_by, shown_process, shown_thread}
use Rattle.lpc_rows.proofs.Marked as marked
use Rattle.lpc_rows.proofs.Born as born
use Rattle.lpc_rows.proofs.Changes as changes
use Rattle.lpc_rows.proofs.Drawn as drawn
use Rattle.lpc_rows.proofs.Lawful as lawful
use Rattle.lpc_rows.proofs.Readings.{first-shown}
use Rattle.lpc_rows.proofs.Registered.{registered-change}
use Rattle.lpc_rows.proofs.Steps.{first_thread}

module _ (it : Tables) (calls made : ℕ) (is : AreLawful it calls made) where
  abbrev n : Births
  n = births_of it

  abbrev rows : World
  rows = rows_by it

  abbrev acting : ℕ → Option Impersonation → Tables
  acting who own = record it { procs = procs.with_thread it.procs who (procs.acting own) }

  pub acts : (who : ℕ) (own : Option Impersonation) → shown_by n (acting who own) ≡ basic rows (Acts who own)
  acts who own = rw (change-map shown_thread (λ _. true) (procs.is_thread who) (is_thread who) (λ row _. refl) (procs.acting own) (basics.acting own) (λ row _. refl) it.procs.threads (every-true it.procs.threads)) refl

  pub acting-lawful : (who : ℕ) (own : Option Impersonation) → AreLawful (acting who own) calls made
  acting-lawful who own = record {
    named = changes.threaded it is.named _;
    lawful = rw (acts who own) (lawful.lawful-changed (basics.acting own) (λ t. refl) (λ t. refl) (λ t. refl) (λ t. refl) rows calls made it.waits.spare it.ports.message_room who is.lawful (every-change (draws_at_most (made + 1)) (is_thread who) (basics.acting own) (λ t there. there) rows.threads is.lawful.draws));
    counted = is.counted;
    registered = every-change (has_named_ports n) (procs.is_thread who) (procs.acting own) (λ t all. all) it.procs.threads is.registered;
    heard = is.heard;
    marked = marked.marked-thread (procs.acting own) (λ t. refl) who it.procs.threads it.waits.rows it.ports.messages it.marks is.marked;
    mapped = is.mapped;
    headed = is.headed;
    drawn = rw (acts who own) (drawn.drawn-by (basics.acting own) (λ t. refl) (λ b t h. h) rows who is.drawn);
    born = subst AreBornIn (sym (acts who own)) (born.born-by (basics.acting own) (λ t. refl) (λ t. refl) (λ b t h. h) rows.processes rows.threads rows.used_processes rows.used_threads who is.born);
    promised = is.promised;
  }

  -- as many ports are registered
  pub acting-owed : (who : ℕ) (own : Option Impersonation) → length (registered_ports (shown_by n (acting who own))) ≡ length (registered_ports rows)
  acting-owed who own = ap (λ (v : World). length (registered_ports v)) (acts who own) ∙ ap length (registered-change (basics.acting own) (λ t. refl) who rows.threads)

-- the token of a process, as the table has it
pub token_is : (it : Tables) (pid : ℕ) (token : Token) → option_map (λ (p : ProcessRow). p.token) (first (procs.is_process pid) it.procs.processes) ≡ Some token → token_of (rows_by it) pid ≡ token
token_is it pid token is = ap token_in (first-shown shown_process (procs.is_process pid) (is_process pid) (λ p. refl) it.procs.processes) ∙ by (first (procs.is_process pid) it.procs.processes) is
  where
    by : (o : Option ProcessRow) → option_map (λ (p : ProcessRow). p.token) o ≡ Some token → token_in (option_map shown_process o) ≡ token
    by None is = absurd (cc)
    by (Some p) is = same_Some p.token token is

-- a live thread is found
pub live_is : (w : World) (tid : ℕ) → has (is_live_thread tid) w.threads ≡ true → live_thread w tid ≡ Some (caller w tid)
unfolding caller
live_is w tid live = by (live_thread w tid) live
  where
    by : (o : Option model.ThreadRow) → is_some o ≡ true → o ≡ Some (thread_in o)
    by None live = absurd (cc)
    by (Some t) live = refl

-- the token as which it acts for a client, as the table has it
pub own_is : (it : Tables) (calls made : ℕ) → AreLawful it calls made → (who : ℕ) (o : Option Impersonation) → has (is_live_thread who) (rows_by it).threads ≡ true → option_map (λ (t : ThreadRow). t.own) (first (procs.is_thread who) it.procs.threads) ≡ Some o
    → let t = caller (rows_by it) who in t.own ≡ o
own_is it calls made is who o live at =
    let found = drawn.live-first who (rows_by it).threads (caller (rows_by it) who) is.drawn.threads_single (live_is (rows_by it) who live) in
    by (first (procs.is_thread who) it.procs.threads) (caller (rows_by it) who) at (sym (first_thread it calls made is who) ∙ found)
  where
    by : (p : Option ThreadRow) (t : model.ThreadRow) → option_map (λ (r : ThreadRow). r.own) p ≡ Some o → option_map shown_thread p ≡ Some t → t.own ≡ o
    by None t at found = absurd (cc)
    by (Some p) t at found = sym (ap (λ (r : model.ThreadRow). r.own) (same_Some (shown_thread p) t found)) ∙ same_Some p.own o at
