-- The room that each changing call leaves.
use Rattle.std.proofs.Common.{◌≡◌, ℕ, ◌+◌, ◌-◌, ◌<◌, ◌≤◌, List, [], ◌∷◌, ◌++◌, Bool, true, false, cond, length, min, Some, ap, arith}
use Rattle.std.proofs.lemmas.List.{length_push}
use Rattle.lpc_base.specs.declared.birth.Birth.{Birth}
use Rattle.lpc_base.specs.Rows.{count, each, first, has, without, without_first}
use Rattle.lpc_base.proofs.Differ.{length-ended}
use Rattle.lpc_base.proofs.RowWords.{count-push}
use Rattle.lpc_base.proofs.Bools.{at-most-one}
use Rattle.lpc_model.specs.World.{World, MessageRow, PortRow, ThreadRow, WaitRow}
use Rattle.lpc_model.specs.Basics.{left_by}
use Rattle.lpc_model.specs.Closings.{is_closed_post}
use Rattle.lpc_model.specs.Found.{is_queued, waits_as}
use Rattle.lpc_rows.specs.Kept.{HandleRoom, Room, Roomy, is_alive, is_asking, is_room, owed_messages, owed_waits, registered_ports, room_in}
use Rattle.lpc_rows.specs.Lawful.{are_single}
use Rattle.lpc_rows.specs.OwedClosings.{closing_places}
use Rattle.lpc_rows.proofs.Lawful.{owed-port, owed-taken, owed-withdrawn}
use Rattle.lpc_rows.proofs.Registered.{registered-push}

-- the room by its numbers
abbrev pub room : ℕ → ℕ → ℕ → ℕ → List HandleRoom → ℕ → ℕ → ℕ → ℕ → ℕ → ℕ → World → List HandleRoom → Room
room marks tokens token_names sections views processes threads waits messages ports names w handles = record {
  processes = processes;
  threads = threads;
  waits = min (waits - owed_waits w) (marks - count is_alive w.threads);
  messages = messages - owed_messages w;
  ports = ports;
  names = names;
  sections = sections;
  tokens = tokens;
  token_names = token_names;
  handles = handles;
  views = views;
}

-- a room for handles more, behind the others
pub handles_more : (rooms : List HandleRoom) (r : HandleRoom) (pid : ℕ) → room_in (first (is_room pid) rooms) ≤ room_in (first (is_room pid) (rooms ++ r ∷ []))
handles_more [] r pid = grind arith
handles_more (s ∷ rooms) r pid = grind (arith, handles_more rooms r pid)

module _ (j y z s : ℕ) (vs : List HandleRoom) (a b c d e g : ℕ) (w : World) (hs : List HandleRoom) where
  pub room_threads : (ts : List ThreadRow) → count is_alive ts ≡ count is_alive w.threads → each (λ t. t.registrations) ts ≡ registered_ports w → Roomy (room j y z s vs a b c d e g w hs) (room j y z s vs a b c d e g (record w { threads = ts }) hs)
  room_threads ts same kept = let owed = ap length kept in record {
    for_processes = omega arith;
    for_threads = omega arith;
    for_waits = omega (arith, same);
    for_messages = omega (arith, same, owed);
    for_ports = omega arith;
    for_names = omega arith;
    for_sections = omega arith;
    for_tokens = omega arith;
    for_token_names = omega arith;
    for_handles = λ pid. omega arith;
    for_views = λ pid. omega arith;
  }

  pub room_process : (v : World) (less : ℕ) (r q : HandleRoom) → v.threads ≡ w.threads → v.waits ≡ w.waits → v.messages ≡ w.messages → v.ports ≡ w.ports → a ≤ less + 1
      → Roomy (room j y z s vs a b c d e g w hs) (record (room j y z s (vs ++ q ∷ []) less b c d e g v (hs ++ r ∷ [])) { processes = less + 1 })
  room_process v less r q ts ws ms ps le = rw (ts, ws, ms, ps) (record {
    for_processes = le;
    for_threads = omega arith;
    for_waits = omega arith;
    for_messages = omega arith;
    for_ports = omega arith;
    for_names = omega arith;
    for_sections = omega arith;
    for_tokens = omega arith;
    for_token_names = omega arith;
    for_handles = handles_more hs r;
    for_views = handles_more vs q;
  })

  pub room_thread : (v : World) (t : ThreadRow) → t.registrations ≡ [] → v.threads ≡ w.threads ++ t ∷ [] → v.waits ≡ w.waits → v.messages ≡ w.messages → v.ports ≡ w.ports
      → let after = room j y z s vs a (b - 1) c d e g v hs in Roomy (room j y z s vs a b c d e g w hs) (record after { threads = after.threads + 1; waits = after.waits + 1; messages = after.messages + 1 })
  room_thread v t none ts ws ms ps = rw (ts, ws, ms, ps) (let more = count-push is_alive w.threads t in let one = at-most-one (is_alive t) in let owed = ap length (registered-push w.threads t none) in record {
    for_processes = omega arith;
    for_threads = omega arith;
    for_waits = omega (arith, more, one);
    for_messages = omega (arith, more, one, owed);
    for_ports = omega arith;
    for_names = omega arith;
    for_sections = omega arith;
    for_tokens = omega arith;
    for_token_names = omega arith;
    for_handles = λ pid. omega arith;
    for_views = λ pid. omega arith;
  })

  pub room_port : (p : PortRow) → let after = room j y z s vs a b c d (e - 1) g (record w { ports = w.ports ++ p ∷ [] }) hs in Roomy (room j y z s vs a b c d e g w hs) (record after { ports = after.ports + 1; messages = after.messages + closing_places p.kind })
  room_port p = let more = owed-port w p in record {
    for_processes = omega arith;
    for_threads = omega arith;
    for_waits = omega arith;
    for_messages = omega (arith, more);
    for_ports = omega arith;
    for_names = omega arith;
    for_sections = omega arith;
    for_tokens = omega arith;
    for_token_names = omega arith;
    for_handles = λ pid. omega arith;
    for_views = λ pid. omega arith;
  }

  pub room_enter : (m : MessageRow) → let after = room j y z s vs a b c (d - 1) e g (record w { messages = w.messages ++ m ∷ [] }) hs in Roomy (room j y z s vs a b c d e g w hs) (record after { messages = after.messages + 1 })
  room_enter m =
      let asked = count-push is_asking w.messages m in
      let told = count-push is_closed_post w.messages m in
      record {
        for_processes = omega arith;
        for_threads = omega arith;
        for_waits = omega arith;
        for_messages = omega (arith, asked, told);
        for_ports = omega arith;
        for_names = omega arith;
        for_sections = omega arith;
        for_tokens = omega arith;
        for_token_names = omega arith;
        for_handles = λ pid. omega arith;
        for_views = λ pid. omega arith;
      }

  pub room_take : (q : Birth) (m : MessageRow) → first (is_queued q) w.messages ≡ Some m → Roomy (room j y z s vs a b c d e g w hs) (room j y z s vs a b c (d + 1) e g (record w { messages = without_first (is_queued q) w.messages }) hs)
  room_take q m at =
      let less = owed-taken (is_queued q) w m at in
      record {
        for_processes = omega arith;
        for_threads = omega arith;
        for_waits = omega arith;
        for_messages = omega (arith, less);
        for_ports = omega arith;
        for_names = omega arith;
        for_sections = omega arith;
        for_tokens = omega arith;
        for_token_names = omega arith;
        for_handles = λ pid. omega arith;
        for_views = λ pid. omega arith;
      }

  pub room_withdraw : (p : MessageRow → Bool) → Roomy (room j y z s vs a b c d e g w hs) (room j y z s vs a b c (d + count p w.messages) e g (record w { messages = without p w.messages }) hs)
  room_withdraw p = let less = owed-withdrawn p w in record {
    for_processes = omega arith;
    for_threads = omega arith;
    for_waits = omega arith;
    for_messages = omega (arith, less);
    for_ports = omega arith;
    for_names = omega arith;
    for_sections = omega arith;
    for_tokens = omega arith;
    for_token_names = omega arith;
    for_handles = λ pid. omega arith;
    for_views = λ pid. omega arith;
  }

  pub room_wait : (x : WaitRow) → length w.waits < count is_alive w.threads → Roomy (room j y z s vs a b c d e g w hs) (room j y z s vs a b (c - 1) d e g (record w { waits = w.waits ++ x ∷ [] }) hs)
  room_wait x place =
      let more = length_push w.waits x in
      record {
        for_processes = omega arith;
        for_threads = omega arith;
        for_waits = omega (arith, more, place);
        for_messages = omega arith;
        for_ports = omega arith;
        for_names = omega arith;
        for_sections = omega arith;
        for_tokens = omega arith;
        for_token_names = omega arith;
        for_handles = λ pid. omega arith;
        for_views = λ pid. omega arith;
      }

  pub room_end : (who : ℕ) → are_single w.waits ≡ true → Roomy (room j y z s vs a b c d e g w hs) (room j y z s vs a b (cond (has (waits_as who) w.waits) (c + 1) c) d e g (left_by who w) hs)
  room_end who one =
      let less = length-ended (λ (x : WaitRow). x.thread) who w.waits one in
      record {
        for_processes = omega arith;
        for_threads = omega arith;
        for_waits = let more = ended (has (waits_as who) w.waits) (length (without (waits_as who) w.waits)) less in omega (arith, more);
        for_messages = omega arith;
        for_ports = omega arith;
        for_names = omega arith;
        for_sections = omega arith;
        for_tokens = omega arith;
        for_token_names = omega arith;
        for_handles = λ pid. omega arith;
        for_views = λ pid. omega arith;
      }
    where
      ended : (q : Bool) (m : ℕ) → m + cond q 1 0 ≡ length w.waits → c - (count is_alive w.threads - length w.waits) ≤ cond q (c + 1) c - (count is_alive w.threads - m)
      ended true m eq = omega (arith, eq)
      ended false m eq = omega (arith, eq)

  pub room_keep : (xs : List WaitRow) → length xs ≡ length w.waits → Roomy (room j y z s vs a b c d e g w hs) (room j y z s vs a b c d e g (record w { waits = xs }) hs)
  room_keep xs long = record {
    for_processes = omega arith;
    for_threads = omega arith;
    for_waits = omega (arith, long);
    for_messages = omega arith;
    for_ports = omega arith;
    for_names = omega arith;
    for_sections = omega arith;
    for_tokens = omega arith;
    for_token_names = omega arith;
    for_handles = λ pid. omega arith;
    for_views = λ pid. omega arith;
  }

  pub room_more : (a' b' c' d' e' g' : ℕ) → a ≤ a' → b ≤ b' → c ≤ c' → d ≤ d' → e ≤ e' → g ≤ g' → Roomy (room j y z s vs a b c d e g w hs) (room j y z s vs a' b' c' d' e' g' w hs)
  room_more a' b' c' d' e' g' la lb lc ld le lg = record {
    for_processes = la;
    for_threads = lb;
    for_waits = omega (arith, lc);
    for_messages = omega (arith, ld);
    for_ports = le;
    for_names = lg;
    for_sections = omega arith;
    for_tokens = omega arith;
    for_token_names = omega arith;
    for_handles = λ pid. omega arith;
    for_views = λ pid. omega arith;
  }

  -- more room for waits, and for marks with them
  pub room_waits : (k c' : ℕ) → j ≤ k → c ≤ c' → Roomy (room j y z s vs a b c d e g w hs) (room k y z s vs a b c' d e g w hs)
  room_waits k c' marks waits = record {
    for_processes = omega arith;
    for_threads = omega arith;
    for_waits = omega (arith, marks, waits);
    for_messages = omega arith;
    for_ports = omega arith;
    for_names = omega arith;
    for_sections = omega arith;
    for_tokens = omega arith;
    for_token_names = omega arith;
    for_handles = λ pid. omega arith;
    for_views = λ pid. omega arith;
  }

-- one place less of each of two rooms
pub min_less : (a b less left : ℕ) → 0 < min a b → less ≡ a - 1 → left + 1 ≡ b → min a b ≤ min less left + 1
min_less a b less left some one two = rw one (omega (arith, two, some))

-- no room is lost where nothing changes, nor by one change behind another
pub roomy_same : (a : Room) → Roomy a a
roomy_same a = record {
  for_processes = omega arith;
  for_threads = omega arith;
  for_waits = omega arith;
  for_messages = omega arith;
  for_ports = omega arith;
  for_names = omega arith;
  for_sections = omega arith;
  for_tokens = omega arith;
  for_token_names = omega arith;
  for_handles = λ pid. omega arith;
  for_views = λ pid. omega arith;
}

pub roomy_then : (a b c : Room) → Roomy a b → Roomy b c → Roomy a c
roomy_then a b c one two = record {
  for_processes = omega (arith, one.for_processes, two.for_processes);
  for_threads = omega (arith, one.for_threads, two.for_threads);
  for_waits = omega (arith, one.for_waits, two.for_waits);
  for_messages = omega (arith, one.for_messages, two.for_messages);
  for_ports = omega (arith, one.for_ports, two.for_ports);
  for_names = omega (arith, one.for_names, two.for_names);
  for_sections = omega (arith, one.for_sections, two.for_sections);
  for_tokens = omega (arith, one.for_tokens, two.for_tokens);
  for_token_names = omega (arith, one.for_token_names, two.for_token_names);
  for_handles = λ pid. omega (arith, one.for_handles pid, two.for_handles pid);
  for_views = λ pid. omega (arith, one.for_views pid, two.for_views pid);
}
