-- A thread, a process or a section that no row counts for may go ahead of the sweep: the sweep leaves the same world.
use Rattle.std.proofs.Common.{◌≡◌, ◌+◌, ◌∙◌, Bool, true, false, refl, sym, ap, subst, arith}
use Rattle.std.specs.Prelude.{◌==◌, ◌&&◌, ◌||◌}
use Rattle.lpc_base.specs.Rows.{count, has, without}
use Rattle.lpc_base.proofs.Births.{birth-same}
use Rattle.lpc_model.specs.World.{Birth, ObjectName, PortRow, ProcessRow, SectionRow, ThreadRow, World, TokenRow}
use Rattle.lpc_model.specs.Found.{all_views, handle_count, is_connected_to, is_content, is_made_on, is_owned_by, is_paired_to, is_section, is_sent_on, port_name, process_name, same_birth, section_name, thread_name, is_token, token_name, all_registrations, event_ports}
use Rattle.lpc_model.specs.Basics.{Frees, basic, world_after}
use Rattle.lpc_model.specs.Sweep.{is_unheld, sweep}
use Rattle.lpc_model.proofs.Sound.Frees.{freed-registrations}
use Rattle.lpc_model.proofs.Held.Ports.{without-same, without-twice}
use Rattle.lpc_model.proofs.Held.Lives.{has-apart, same-process, same-thread}
use Rattle.lpc_model.proofs.Held.FreedPort.{goes_section, known-twice, passed, rows-same, sweep-passes, without-after}
use Rattle.lpc_model.proofs.Held.Events.{freed-events}
use Rattle.lpc_model.specs.Left.{HasLivingPorts}

-- as many rows count for each thread and each process, where the row of an object goes that no row counts for
module _ (w : World) (o : ObjectName) (none : is_unheld w o ≡ true) where
  abbrev once : World
  once = basic w (Frees o)

  thread-alike : (b : Birth) → is_unheld w (thread_name b) ≡ is_unheld once (thread_name b)
  thread-alike b = ap (λ n. n == 0) (sym (same-thread w o b none))

  process-alike : (b : Birth) → is_unheld w (process_name b) ≡ is_unheld once (process_name b)
  process-alike b = ap (λ n. n == 0) (sym (same-process w o b none))

-- and for each port, where that is a thread or a process
port-aside : (w : World) (b c : Birth) → is_unheld w (thread_name c) ≡ true → is_unheld w (port_name b) ≡ is_unheld (basic w (Frees (thread_name c))) (port_name b)
port-aside w b c none =
    ap (λ rs. (handle_count w (port_name b) + (count (is_paired_to b) w.ports + (count (is_connected_to b) w.ports + (count (is_sent_on b) w.messages + (count (is_made_on b) w.waits + (count (same_birth b) rs + (count (is_owned_by b) (all_views w) + count (same_birth b) (event_ports w)))))))) == 0)
    (sym (freed-registrations w (thread_name c) none))

process-aside : (w : World) (b c : Birth) → HasLivingPorts w → is_unheld w (process_name c) ≡ true → is_unheld w (port_name b) ≡ is_unheld (basic w (Frees (process_name c))) (port_name b)
process-aside w b c e none =
    ap (λ rs. (handle_count w (port_name b) + (count (is_paired_to b) w.ports + (count (is_connected_to b) w.ports + (count (is_sent_on b) w.messages + (count (is_made_on b) w.waits + (count (same_birth b) (all_registrations w) + (count (is_owned_by b) (all_views w) + count (same_birth b) rs))))))) == 0)
    (sym (freed-events w (process_name c) none e))

module _ (w : World) (b : Birth) where
  pub thread_first : is_unheld w (thread_name b) ≡ true → world_after (basic w (Frees (thread_name b))) (sweep (basic w (Frees (thread_name b)))) ≡ world_after w (sweep w)
  thread_first none =
      let once = basic w (Frees (thread_name b)) in
      let goes = λ (t : ThreadRow). is_unheld w (thread_name t.birth) in
      sweep-passes once
      ∙ ap passed (rows-same w _ _ _ _ _ _ _ _ _ _ _ _
      (without-same (λ (p : ProcessRow). is_unheld once (process_name p.birth)) (λ p. is_unheld w (process_name p.birth)) (λ p. process-alike w (thread_name b) none p.birth) w.processes)
      (without-same (λ (t : ThreadRow). is_unheld once (thread_name t.birth)) goes (λ t. thread-alike w (thread_name b) none t.birth) once.threads ∙ without-after (λ (t : ThreadRow). same_birth t.birth b) goes (λ t is. subst (λ c. is_unheld w (thread_name c) ≡ true) (sym (birth-same t.birth b is)) none) w.threads)
      (without-same (λ (p : PortRow). is_unheld once (port_name p.birth)) (λ p. is_unheld w (port_name p.birth)) (λ p. port-aside w p.birth b none) w.ports)
      refl
      refl
      refl)
      ∙ sym (sweep-passes w)

  pub process_first : HasLivingPorts w → is_unheld w (process_name b) ≡ true → world_after (basic w (Frees (process_name b))) (sweep (basic w (Frees (process_name b)))) ≡ world_after w (sweep w)
  process_first e none =
      let once = basic w (Frees (process_name b)) in
      let goes = λ (p : ProcessRow). is_unheld w (process_name p.birth) in
      sweep-passes once
      ∙ ap passed (rows-same w _ _ _ _ _ _ _ _ _ _ _ _
      (without-same (λ (p : ProcessRow). is_unheld once (process_name p.birth)) goes (λ p. process-alike w (process_name b) none p.birth) once.processes ∙ without-after (λ (p : ProcessRow). same_birth p.birth b) goes (λ p is. subst (λ c. is_unheld w (process_name c) ≡ true) (sym (birth-same p.birth b is)) none) w.processes)
      (without-same (λ (t : ThreadRow). is_unheld once (thread_name t.birth)) (λ t. is_unheld w (thread_name t.birth)) (λ t. thread-alike w (process_name b) none t.birth) w.threads)
      (without-same (λ (p : PortRow). is_unheld once (port_name p.birth)) (λ p. is_unheld w (port_name p.birth)) (λ p. process-aside w p.birth b e none) w.ports)
      refl
      refl
      refl)
      ∙ sym (sweep-passes w)

  -- so with a token
  pub token_first : is_unheld w (token_name b) ≡ true → world_after (basic w (Frees (token_name b))) (sweep (basic w (Frees (token_name b)))) ≡ world_after w (sweep w)
  token_first none =
      let once = basic w (Frees (token_name b)) in
      sweep-passes once
      ∙ ap passed (rows-same w _ _ _ _ _ _ _ _ _ _ _ _ refl refl refl refl refl
      (without-after (is_token b) (λ (t : TokenRow). is_unheld w (token_name t.birth)) (λ t is. subst (λ c. is_unheld w (token_name c) ≡ true) (sym (birth-same t.birth b is)) none) w.tokens))
      ∙ sym (sweep-passes w)

  -- so with a section, whose bytes go with it
  pub section_first : has (is_section b) w.sections ≡ true → is_unheld w (section_name b) ≡ true → world_after (basic w (Frees (section_name b))) (sweep (basic w (Frees (section_name b)))) ≡ world_after w (sweep w)
  section_first stands none =
      let once = basic w (Frees (section_name b)) in
      sweep-passes once
      ∙ ap passed (rows-same w _ _ _ _ _ _ _ _ _ _ _ _ refl refl refl
      (without-after (is_section b) (λ (s : SectionRow). is_unheld w (section_name s.birth)) (λ s is. its-own s.birth is) w.sections)
      (known-twice (without (is_content b)) (without (λ c. goes_section once c.section)) (without (λ c. goes_section w c.section)) (without-twice (is_content b) (λ c. goes_section once c.section) (λ c. goes_section w c.section) (λ c. goes c.section)) w.contents) refl)
      ∙ sym (sweep-passes w)
    where
      its-own : (c : Birth) → same_birth c b ≡ true → is_unheld w (section_name c) ≡ true
      its-own c is = subst (λ d. is_unheld w (section_name d) ≡ true) (sym (birth-same c b is)) none

      left : (c : Birth) → same_birth c b ≡ false → has (is_section c) (without (is_section b) w.sections) ≡ has (is_section c) w.sections
      left c off = has-apart (is_section c) (is_section b) (λ s is. subst (λ d. same_birth d b ≡ false) (sym (birth-same s.birth c is)) off) w.sections

      goes : (c : Birth) → goes_section w c ≡ (same_birth c b || goes_section (basic w (Frees (section_name b))) c)
      goes c = at (same_birth c b) refl
        where
          both : (x y : Bool) → x ≡ true → y ≡ true → (x && y) ≡ true
          both x y one two = grind arith

          at : (k : Bool) → same_birth c b ≡ k → goes_section w c ≡ (k || goes_section (basic w (Frees (section_name b))) c)
          at true is = both _ _ (subst (λ d. has (is_section d) w.sections ≡ true) (sym (birth-same c b is)) stands) (its-own c is)
          at false off = ap (λ h. h && is_unheld w (section_name c)) (sym (left c off))
