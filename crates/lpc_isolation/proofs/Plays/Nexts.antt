-- What each line keeps, in a run in which a group is a circle of c.
use Rattle.lpc_model.specs.Creation.{unused_test}
use Rattle.lpc_isolation.proofs.Calls.Services.{lawful}
use Rattle.lpc_isolation.proofs.Calls.Laws.{at-most}
use Rattle.std.proofs.Common.{◌≡◌, ℕ, List, [], ◌∷◌, Bool, true, false, Option, Some, None, refl, sym, subst}
use Rattle.std.proofs.lemmas.Bool.{and_from}
use Rattle.std.specs.Prelude.{◌||◌, Result, Ok, Err, is_some}
use Rattle.lpc_base.specs.Rows.{has}
use Rattle.lpc_base.specs.declared.status.Status.{Status}
use Rattle.lpc_model.specs.World.{Birth, ThreadRow, WaitRow, World, Token}
use Rattle.lpc_model.specs.Found.{is_used_thread, live_thread, wait_of, was_process, was_thread, named_token}
use Rattle.lpc_model.specs.Basics.{AddsThread, Basic, Binds, used, world_after, NamesToken}
use Rattle.lpc_model.specs.Named.{free_name, spelled_name}
use Rattle.lpc_model.specs.Refusal.{refuse_if}
use Rattle.lpc_base.specs.declared.status.TheConstants.{OBJECT_NAME_COLLISION}
use Rattle.lpc_model.specs.declared.entry.Word.{Word}
use Rattle.lpc_model.specs.declared.entry.Word.TheVariants.{Boot, Dir, Link, Thread}
use Rattle.lpc_model.specs.declared.entry.Word.TheVariants as word
use Rattle.lpc_names.specs.Walk.{LinkTo, Stands}
use Rattle.lpc_names.specs.declared.names.Found.TheVariants.{Directory}
use Rattle.lpc_model.specs.Lines.{ScriptCall, ScriptLine, boot, dir, link, run, thread, token, ResidentLine, of_resident}
use Rattle.lpc_model.specs.Machine.{boot_line, dir_line, directed, directive_birth, link_line, live_test, name_of_call, new_thread, settled, thread_count_test, thread_line, thread_test, unused_thread_test, boot_token, token_line, boot_steps, own_steps}
use Rattle.lpc_isolation.proofs.Gone.Served.{served, own_served_step}
use Rattle.lpc_model.proofs.Calls.Holding.{Holds, bind_holds, holds_any, holds_ok, not_refused}
use Rattle.lpc_model.specs.Circle.{Group}
use Rattle.lpc_isolation.proofs.Views.Alone.{HasFineRows}
use Rattle.lpc_isolation.proofs.Rows.Fair.{are_fair, run-fair, together-of}
use Rattle.lpc_base.proofs.RowWords.{every-push}
use Rattle.lpc_base.proofs.Bools.{first-true, second-off, second-true}
use Rattle.lpc_model.specs.Words.{is_id}
use Rattle.lpc_model.specs.Grammar.{has_call_ids, has_ids}
use Rattle.lpc_isolation.proofs.Rows.Asked.{Asked}
use Rattle.lpc_isolation.proofs.Rows.Ids.{Numbered, of_number}
use Rattle.lpc_isolation.proofs.Rows.Paths.{are_paths, run-paths}
use Rattle.lpc_isolation.proofs.Plays.Lines.{OnceUsed}
use Rattle.lpc_isolation.proofs.Calls.Lines.{busy, called, nobody}
use Rattle.lpc_isolation.proofs.Each.Instances.{At}
use Rattle.lpc_isolation.proofs.Rows.Bound.{OnceBound, once-bound, seen-names}
use Rattle.lpc_isolation.proofs.Rows.Bindings.{free-unbound}
use Rattle.lpc_isolation.proofs.Rows.NamesKept.{bound-call}
use Rattle.lpc_isolation.proofs.Plays.Directives.{boot-directs, dir-directs, link-directs, thread-directs, token-directs}
use Rattle.lpc_isolation.proofs.Plays.Stands.{Kept, State, Stood, ready-at}
use Rattle.lpc_isolation.proofs.Memory.Knows.{known_queue}
use Rattle.lpc_isolation.proofs.Each.Creates.{id-most}

-- the two tests of a number
unused-number : (w : World) (tid pid : ℕ) → Holds (λ (u : Unit {0}). was_thread w tid ≡ false) (thread_test w tid pid)
unused-number w tid pid = bind_holds (live_test w pid) _ (λ u. was_thread w tid ≡ false) (λ _ _.
    bind_holds (unused_thread_test w tid) _ (λ u. was_thread w tid ≡ false) (λ u is. holds_any (was_thread w tid ≡ false) (not_refused (was_thread w tid) OBJECT_NAME_COLLISION u is) (thread_count_test w pid)))

boot-next : (m : Group) (c : ℕ) (w : World) (pid tid : ℕ) (name : Option (List ℕ)) → has_ids (boot pid tid name) ≡ true → Kept m c w → Holds (λ bs. Kept m c (world_after w bs)) (boot_line w pid tid name)
unfolding boot_line
boot-next m c w pid tid name ids n = bind_holds (boot_token w name) _ (λ bs. Kept m c (world_after w bs)) (λ content _.
    bind_holds (unused_test w pid tid) _ (λ bs. Kept m c (world_after w bs)) (λ (u : Unit {0}) is. booted content (not_refused (was_process w pid || was_thread w tid) OBJECT_NAME_COLLISION u is)))
  where
    booted : (content : Token) → (was_process w pid || was_thread w tid) ≡ false → Kept m c (world_after w (boot_steps pid tid content))
    booted content unused =
        let new : has (is_used_thread tid) w.used_threads ≡ false = second-off (was_process w pid) (was_thread w tid) unused in
        record {
          fair = run-fair m c w (boot_steps pid tid content) (rw (new, together-of m pid pid refl) refl) n.fair;
          once = λ t. at-most t w.used_threads (used (new_thread tid pid (directive_birth tid pid))) new (n.once t);
          names = n.names;
          paths = n.paths;
          numbered = every-push of_number w.used_threads (used (new_thread tid pid (directive_birth tid pid))) n.numbered (and_from _ _ (id-most pid (first-true (is_id pid) (is_id tid) ids)) (id-most tid (second-true (is_id pid) (is_id tid) ids)));
          asked = record { sorts = n.asked.sorts; own = n.asked.own; one = n.asked.one; marked = n.asked.marked };
        }

token-next : (m : Group) (c : ℕ) (w : World) (name : List ℕ) (content : Token) → Kept m c w → Holds (λ bs. Kept m c (world_after w bs)) (token_line w name content)
unfolding token_line
token-next m c w name content n = bind_holds (refuse_if (is_some (named_token w name)) OBJECT_NAME_COLLISION) _ (λ bs. Kept m c (world_after w bs)) (λ _ _. record { fair = run-fair m c w (NamesToken (record { name = name; token = content }) ∷ []) refl n.fair; once = n.once; names = n.names; paths = n.paths; numbered = n.numbered; asked = record { sorts = n.asked.sorts; own = n.asked.own; one = n.asked.one; marked = n.asked.marked } })

thread-holds : (m : Group) (c : ℕ) (w : World) (tid pid : ℕ) → has_ids (thread tid pid) ≡ true → Kept m c w → Holds (λ bs. Kept m c (world_after w bs)) (thread_line w tid pid)
unfolding thread_line
thread-holds m c w tid pid ids n = bind_holds (thread_test w tid pid) _ (λ bs. Kept m c (world_after w bs)) (λ u is.
    let new : has (is_used_thread tid) w.used_threads ≡ false = holds_ok (λ _. was_thread w tid ≡ false) (thread_test w tid pid) u (unused-number w tid pid) is in
    record {
      fair = run-fair m c w (AddsThread (new_thread tid pid (directive_birth tid pid)) ∷ []) (rw (new, together-of m pid pid refl) refl) n.fair;
      once = λ t. at-most t w.used_threads (used (new_thread tid pid (directive_birth tid pid))) new (n.once t);
      names = n.names;
      paths = n.paths;
      numbered = every-push of_number w.used_threads (used (new_thread tid pid (directive_birth tid pid))) n.numbered (and_from _ _ (id-most pid (second-true _ _ ids)) (id-most tid (first-true _ _ ids)));
      asked = record { sorts = n.asked.sorts; own = n.asked.own; one = n.asked.one; marked = n.asked.marked };
    })

thread-next : (m : Group) (c : ℕ) (w : World) (tid pid : ℕ) → has_ids (thread tid pid) ≡ true → Kept m c w → (r : Result (List Basic) Status) → thread_line w tid pid ≡ r → Kept m c (world_after w (directed Thread r))
thread-next m c w tid pid ids n (Err s) is = n
thread-next m c w tid pid ids n (Ok bs) is = holds_ok (λ bs. Kept m c (world_after w bs)) (thread_line w tid pid) bs (thread-holds m c w tid pid ids n) is

dir-next : (m : Group) (c : ℕ) (w : World) (text : List ℕ) → Kept m c w → Holds (λ bs. Kept m c (world_after w bs)) (dir_line w text)
unfolding dir_line
dir-next m c w text n = bind_holds (free_name w text) _ (λ bs. Kept m c (world_after w bs)) (λ path is. record { fair = run-fair m c w (Binds path (Stands Directory) ∷ []) refl n.fair; once = n.once; names = once-bound w.bindings path (Stands Directory) n.names (free-unbound w text path is); paths = n.paths; numbered = n.numbered; asked = record { sorts = n.asked.sorts; own = n.asked.own; one = n.asked.one; marked = n.asked.marked } })

link-next : (m : Group) (c : ℕ) (w : World) (text target : List ℕ) → Kept m c w → Holds (λ bs. Kept m c (world_after w bs)) (link_line w text target)
unfolding link_line
link-next m c w text target n = bind_holds (spelled_name target) _ (λ bs. Kept m c (world_after w bs)) (λ to _. bind_holds (free_name w text) _ (λ bs. Kept m c (world_after w bs)) (λ path is. record { fair = run-fair m c w (Binds path (LinkTo to) ∷ []) refl n.fair; once = n.once; names = once-bound w.bindings path (LinkTo to) n.names (free-unbound w text path is); paths = n.paths; numbered = n.numbered; asked = record { sorts = n.asked.sorts; own = n.asked.own; one = n.asked.one; marked = n.asked.marked } }))

directed-next : (m : Group) (c : ℕ) (w : World) (name : Word) (r : Result (List Basic) Status) → Kept m c w → Holds (λ bs. Kept m c (world_after w bs)) r → Kept m c (world_after w (directed name r))
directed-next m c w name (Ok bs) n h = h
directed-next m c w name (Err s) n h = n

ok-next : (m : Group) (c : ℕ) (w : World) (by : ThreadRow) (known : List ℕ → Birth) (call : ScriptCall) (t : Result (List Basic) Status) → has_call_ids call ≡ true → At m c w by known → Kept m c w → served w by call ≡ t → HasFineRows m c (world_after w (settled by (name_of_call call) t)) → Kept m c (world_after w (settled by (name_of_call call) t))
ok-next m c w by known call (Err s) ids a n is fine = n
ok-next m c w by known call (Ok bs) ids a n is fine = record {
  fair = run-fair m c w bs (holds_ok (λ bs. HasFineRows m c (world_after w bs) → are_fair m c w bs ≡ true) (served w by call) bs ((lawful call).fair m c w by known a) is fine) n.fair;
  once = holds_ok (λ bs. OnceUsed (world_after w bs)) (served w by call) bs ((lawful call).once m c w by known a n.once) is;
  names = holds_ok (λ bs. OnceBound (world_after w bs).bindings) (served w by call) bs (bound-call m c w by known call a) is;
  paths = run-paths w bs (holds_ok (λ bs. are_paths w bs ≡ true) (served w by call) bs ((lawful call).paths m c w by known a n.paths) is) n.paths;
  numbered = holds_ok (λ bs. Numbered (world_after w bs)) (served w by call) bs ((lawful call).numbered m c w by known a ids n.numbered) is;
  asked = holds_ok (λ bs. Asked (world_after w bs)) (served w by call) bs ((lawful call).asked m c w by known a n.asked) is;
}

run-next : (m : Group) (c : ℕ) (w : World) (s : State) (tid : ℕ) (call : ScriptCall) → has_call_ids call ≡ true → m c ≡ true → Stood m c w s → HasFineRows m c w → HasFineRows m c (own_served_step w (run tid call)).world → Kept m c (own_served_step w (run tid call)).world
run-next m c w s tid call ids c_in st fine next = at (live_thread w tid) refl
  where
    ready : (by : ThreadRow) → live_thread w tid ≡ Some by → (o : Option WaitRow) → wait_of w tid ≡ o → Kept m c (own_served_step w (run tid call)).world
    ready by live (Some x) waits = subst (λ bs. Kept m c (world_after w bs)) (sym (busy w tid call by x live waits)) st.kept
    ready by live None idle =
        let is = called w tid call by live idle in
        subst (λ bs. Kept m c (world_after w bs)) (sym is)
        (ok-next m c w by (known_queue s.memo) call (served w by call) ids (ready-at m c w s tid by c_in st fine live idle) st.kept refl (subst (λ bs. HasFineRows m c (world_after w bs)) is next))

    at : (o : Option ThreadRow) → live_thread w tid ≡ o → Kept m c (own_served_step w (run tid call)).world
    at None none = subst (λ bs. Kept m c (world_after w bs)) (sym (nobody w tid call none)) st.kept
    at (Some by) live = ready by live (wait_of w tid) refl

resident-next : (m : Group) (c : ℕ) (w : World) (tid : ℕ) (what : ResidentLine) (had : Bool) → Kept m c w → Kept m c (own_served_step w (of_resident tid what had)).world
unfolding own_steps
resident-next m c w tid what had n = n

pub line-next : (m : Group) (c : ℕ) (w : World) (s : State) (line : ScriptLine) → has_ids line ≡ true → m c ≡ true → Stood m c w s → HasFineRows m c w → HasFineRows m c (own_served_step w line).world → Kept m c (own_served_step w line).world
line-next m c w s (run tid call) ids c_in st fine next = run-next m c w s tid call (second-true (is_id tid) _ ids) c_in st fine next
line-next m c w s (boot pid tid name) ids c_in st fine next = subst (λ bs. Kept m c (world_after w bs)) (sym (boot-directs m w pid tid name).is) (directed-next m c w Boot (boot_line w pid tid name) st.kept (boot-next m c w pid tid name ids st.kept))
line-next m c w s (token name content) ids c_in st fine next = subst (λ bs. Kept m c (world_after w bs)) (sym (token-directs m w name content).is) (directed-next m c w word.Token (token_line w name content) st.kept (token-next m c w name content st.kept))
line-next m c w s (thread tid pid) ids c_in st fine next = subst (λ bs. Kept m c (world_after w bs)) (sym (thread-directs m w tid pid).is) (thread-next m c w tid pid ids st.kept (thread_line w tid pid) refl)
line-next m c w s (of_resident tid what had) ids c_in st fine next = resident-next m c w tid what had st.kept
line-next m c w s (dir path) ids c_in st fine next = subst (λ bs. Kept m c (world_after w bs)) (sym (dir-directs m w path (seen-names m w.bindings st.kept.names)).is) (directed-next m c w Dir (dir_line w path) st.kept (dir-next m c w path st.kept))
line-next m c w s (link path target) ids c_in st fine next = subst (λ bs. Kept m c (world_after w bs)) (sym (link-directs m w path target (seen-names m w.bindings st.kept.names)).is) (directed-next m c w Link (link_line w path target) st.kept (link-next m c w path target st.kept))
