-- What a request allows its server, by the port on which it was sent and the thread that waits for its reply.
use Rattle.std.proofs.Common.{◌≡◌, ℕ, Option, Some, None, option_map, refl, ap, sym, ◌∙◌}
use Rattle.std.specs.Prelude.{option_and_then}
use Rattle.lpc_base.specs.declared.birth.Birth.{Birth}
use Rattle.lpc_model.specs.Found.{live_thread, port_row}
use Rattle.lpc_model.specs.Impersonation.{allowed, allowed_by}
use Rattle.lpc_model.specs.World.{Impersonation, PortRow, Security, ThreadRow, WaitRow, World}
use Rattle.lpc_procs.specs.declared.rows.Caller.{Caller}
use Rattle.lpc_rows.specs.Callers.{as_caller}
use Rattle.lpc_rows.specs.Ready.{caller, thread_in}

module _ (w : World) (x : WaitRow) (tid : ℕ) (own : x.thread ≡ tid) where
  abbrev by_thread : Option ThreadRow → PortRow → Option Impersonation
  by_thread o p = option_and_then (allowed w p.security) o

  no_thread : (o : Option ThreadRow) → None ≡ option_map as_caller o → o ≡ None
  no_thread None is = refl
  no_thread (Some t) is = absurd (cc)

  nothing : (o : Option PortRow) → None ≡ option_and_then (by_thread None) o
  nothing None = refl
  nothing (Some p) = refl

  -- a thread that doesn't live allows nothing
  pub none_lives : None ≡ option_map as_caller (live_thread w tid) → None ≡ allowed_by w x
  none_lives none =
      nothing (port_row w x.port)
      ∙ ap (λ o. option_and_then (by_thread o) (port_row w x.port)) (sym (ap (live_thread w) own ∙ no_thread (live_thread w tid) none))

  -- one that lives allows what its port does
  pub by_port : (c : Caller) → Some c ≡ option_map as_caller (live_thread w tid) → (b : Birth) → x.port ≡ b → (p : PortRow) → port_row w b ≡ Some p → (s : Security) → p.security ≡ s → allowed w s (caller w tid) ≡ allowed_by w x
  unfolding caller
  by_port c lives b at p found s is = of_row (live_thread w tid) lives refl
    where
      of_row : (o : Option ThreadRow) → Some c ≡ option_map as_caller o → live_thread w tid ≡ o → allowed w s (thread_in (live_thread w tid)) ≡ allowed_by w x
      of_row None lives e = absurd (cc)
      of_row (Some t) lives e =
          ap (λ o. allowed w s (thread_in o)) e
          ∙ ap (λ (z : Security). allowed w z t) (sym is)
          ∙ sym (ap (λ (a : Birth). option_and_then (by_thread (live_thread w x.thread)) (port_row w a)) at
          ∙ ap (λ o. option_and_then (by_thread (live_thread w x.thread)) o) found
          ∙ ap (λ n. by_thread (live_thread w n) p) own
          ∙ ap (λ o. by_thread o p) e)
