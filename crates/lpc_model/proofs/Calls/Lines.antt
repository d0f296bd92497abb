-- What holds of the steps of each line, where it holds of each outcome of a call, of each directive, and of what is only told.
use Rattle.lpc_base.proofs.Bools.{first-off, second-off}
use Rattle.lpc_base.specs.Rows.{every}
use Rattle.lpc_base.specs.declared.status.TheConstants.{OBJECT_NAME_COLLISION, SUCCESS}
use Rattle.lpc_model.proofs.Calls.Creating.{tested-further}
use Rattle.lpc_model.proofs.Calls.Holding.{bind_holds, directed_holds, holds_ok, not_refused, settled_holds}
use Rattle.lpc_model.proofs.Calls.Outcomes.{Outcomes, service-does}
use Rattle.lpc_model.proofs.Calls.Usable.{CanCall, can-call, live-number}
use Rattle.lpc_model.specs.Basics.{AddsProcess, AddsThread, Basic, Binds, NamesToken, Tells, world_after}
use Rattle.lpc_model.specs.Found.{is_live, live_thread, named_token, wait_of, was_process, was_thread}
use Rattle.lpc_model.specs.Lines.{ScriptCall, ScriptLine, boot, dir, link, run, thread, token, ResidentLine, hosts, moves, of_resident}
use Rattle.lpc_model.specs.Machine.{boot_line, boot_steps, boot_token, token_line, dir_line, directive_birth, link_line, name_of_call, new_process, new_thread, ready_steps, service_of, thread_line, thread_steps, thread_test, unused_test, own_steps, idle_entry, resident_entry}
use Rattle.lpc_model.specs.Named.{free_name, spelled_name}
use Rattle.lpc_model.specs.Refusal.{refuse_if}
use Rattle.lpc_model.specs.SoundWaits.{HasShutConnects, IsSoundWorld}
use Rattle.lpc_model.specs.World.{Birth, Node, Path, ThreadRow, Token, TokenName, WaitRow, World}
use Rattle.lpc_model.specs.declared.entry.Entry.{Entry}
use Rattle.lpc_model.specs.declared.entry.Entry.TheVariants as entry
use Rattle.lpc_model.specs.declared.entry.Word.TheVariants as word
use Rattle.lpc_names.specs.Walk.{LinkTo, Stands}
use Rattle.lpc_names.specs.declared.names.Found.TheVariants.{Directory}
use Rattle.std.proofs.Common.{Bool, List, None, Option, Some, [], false, refl, subst, sym, true, ℕ, ◌∷◌, ◌≡◌}
use Rattle.std.specs.Prelude.{Ok, is_some, ◌||◌}

-- an entry that shows nothing but a status
abbrev pub shows_status : Entry → Bool
shows_status (entry.Answer who call status []) = true
shows_status (entry.Directive named status) = true
shows_status (entry.Busy who) = true
shows_status (entry.NoThread who) = true
shows_status e = false

-- what is told of a resident is such an entry
idle-shows : (tid : ℕ) (o : Option ThreadRow) (had : Bool) → shows_status (idle_entry tid o had) ≡ true
idle-shows tid None had = refl
idle-shows tid (Some t) false = refl
idle-shows tid (Some t) true = refl

pub resident-shows : (w : World) (tid : ℕ) (what : ResidentLine) (had : Bool) → shows_status (resident_entry w tid what had) ≡ true
unfolding resident_entry
resident-shows w tid (hosts kind handle) had = refl
resident-shows w tid moves had = idle-shows tid (live_thread w tid) had

-- nothing is known of the world before
abbrev pub AnyWorld : World → Type 0
AnyWorld w = Unit {0}

-- no connect waits on an open port, and C is known besides
abbrev pub Shut : (World → Type 0) → World → Type 0
Shut C w = HasShutConnects w × C w

-- a thread calls, in a world of which C is known besides
pub record IsCalled (C : World → Type 0) (w : World) (by : ThreadRow) : Type 0 where
  pub can : CanCall w by
  pub sound : IsSoundWorld w
  pub known : C w

-- A law on the steps of a line, where C is known of the world before it.
pub record LineLaw (C : World → Type 0) (P : ScriptLine → World → List Basic → Type 0) : Type 0 where
  -- a line that is refused, or can't be run
  pub tells : (line : ScriptLine) (w : World) (e : Entry) → shows_status e ≡ true → P line w (Tells e ∷ [])
  pub calls : (by : ThreadRow) (w : World) → IsCalled C w by → Outcomes w by (λ call. P (run by.number call) w)
  pub boots : (w : World) (pid tid : ℕ) (name : Option (List ℕ)) (content : Token) → was_process w pid ≡ false → was_thread w tid ≡ false → IsSoundWorld w → C w → P (boot pid tid name) w (Tells (entry.Directive word.Boot SUCCESS) ∷ boot_steps pid tid content)
  pub threads : (w : World) (tid pid : ℕ) → is_live w pid ≡ true → was_thread w tid ≡ false → IsSoundWorld w → C w → P (thread tid pid) w (Tells (entry.Directive word.Thread SUCCESS) ∷ AddsThread (new_thread tid pid (directive_birth tid pid)) ∷ [])
  pub names : (w : World) (name : List ℕ) (content : Token) → C w → P (token name content) w (Tells (entry.Directive word.Token SUCCESS) ∷ NamesToken (record { name = name; token = content }) ∷ [])
  pub dirs : (w : World) (text : List ℕ) (path : Path) → free_name w text ≡ Ok path → C w → P (dir text) w (Tells (entry.Directive word.Dir SUCCESS) ∷ Binds path (Stands Directory) ∷ [])
  pub links : (w : World) (text target : List ℕ) (path to : Path) → free_name w text ≡ Ok path → C w → P (link text target) w (Tells (entry.Directive word.Link SUCCESS) ∷ Binds path (LinkTo to) ∷ [])

module _ (C : World → Type 0) (P : ScriptLine → World → List Basic → Type 0) (k : LineLaw C P) (w : World) (s : IsSoundWorld w) (more : C w) where
  ready-does : (by : ThreadRow) (call : ScriptCall) (o : Option WaitRow) → live_thread w by.number ≡ Some by → wait_of w by.number ≡ o → P (run by.number call) w (ready_steps by call o w)
  ready-does by call (Some x) live busy = k.tells (run by.number call) w _ refl
  ready-does by call None live idle =
      settled_holds (P (run by.number call) w) by (name_of_call call) (service_of w by call)
      (service-does w by (λ call. P (run by.number call) w) (k.calls by w (record { can = can-call w by.number by live idle s; sound = s; known = more })) call)
      (λ e _. k.tells (run by.number call) w _ refl)

  thread-does : (tid : ℕ) (call : ScriptCall) (o : Option ThreadRow) → live_thread w tid ≡ o → P (run tid call) w (thread_steps tid call o w)
  thread-does tid call None none = k.tells (run tid call) w _ refl
  thread-does tid call (Some by) live =
      let own : by.number ≡ tid = live-number w tid by live in
      let at : live_thread w by.number ≡ Some by = subst (λ n. live_thread w n ≡ Some by) (sym own) live in
      subst (λ n. P (run n call) w (ready_steps by call (wait_of w n) w)) own (ready-does by call (wait_of w by.number) at refl)

  -- what a law says of the lines, before the world settles
  pub line-does : (line : ScriptLine) → P line w (own_steps line w)
  unfolding own_steps boot_line token_line thread_line dir_line link_line
  line-does (boot pid tid name) =
      let Q : List Basic → Type 0 = P (boot pid tid name) w in
      directed_holds Q word.Boot (boot_line w pid tid name)
      (bind_holds (boot_token w name) _ (λ bs. Q (Tells (entry.Directive word.Boot SUCCESS) ∷ bs)) (λ content _.
      bind_holds (unused_test w pid tid) _ (λ bs. Q (Tells (entry.Directive word.Boot SUCCESS) ∷ bs)) (λ u is.
      let neither = not_refused (was_process w pid || was_thread w tid) OBJECT_NAME_COLLISION u is in
      k.boots w pid tid name content (first-off (was_process w pid) (was_thread w tid) neither) (second-off (was_process w pid) (was_thread w tid) neither) s more)))
      (λ e. k.tells (boot pid tid name) w _ refl)
  line-does (token name content) =
      let Q : List Basic → Type 0 = P (token name content) w in
      directed_holds Q word.Token (token_line w name content)
      (bind_holds (refuse_if (is_some (named_token w name)) OBJECT_NAME_COLLISION) _ (λ bs. Q (Tells (entry.Directive word.Token SUCCESS) ∷ bs)) (λ _ _. k.names w name content more))
      (λ e. k.tells (token name content) w _ refl)
  line-does (thread tid pid) =
      let Q : List Basic → Type 0 = P (thread tid pid) w in
      directed_holds Q word.Thread (thread_line w tid pid)
      (bind_holds (thread_test w tid pid) _ (λ bs. Q (Tells (entry.Directive word.Thread SUCCESS) ∷ bs)) (λ u is.
      let found = holds_ok (λ _. (is_live w pid ≡ true) × (was_thread w tid ≡ false)) (thread_test w tid pid) u (tested-further w tid pid) is in
      k.threads w tid pid found.0 found.1 s more))
      (λ e. k.tells (thread tid pid) w _ refl)
  line-does (dir text) =
      let Q : List Basic → Type 0 = P (dir text) w in
      directed_holds Q word.Dir (dir_line w text)
      (bind_holds (free_name w text) _ (λ bs. Q (Tells (entry.Directive word.Dir SUCCESS) ∷ bs)) (λ path free. k.dirs w text path free more))
      (λ e. k.tells (dir text) w _ refl)
  line-does (link text target) =
      let Q : List Basic → Type 0 = P (link text target) w in
      directed_holds Q word.Link (link_line w text target)
      (bind_holds (spelled_name target) _ (λ bs. Q (Tells (entry.Directive word.Link SUCCESS) ∷ bs)) (λ to _.
      bind_holds (free_name w text) _ (λ bs. Q (Tells (entry.Directive word.Link SUCCESS) ∷ bs)) (λ path free. k.links w text target path to free more)))
      (λ e. k.tells (link text target) w _ refl)
  line-does (of_resident tid what had) = k.tells (of_resident tid what had) w _ (resident-shows w tid what had)
  line-does (run tid call) = thread-does tid call (live_thread w tid) refl

-- Laws that steps keep which pass a test
-- the steps of directives pass a test
pub record PassDirectives (p : Basic → Bool) : Type 0 where
  pub tells : (e : Entry) → p (Tells e) ≡ true
  pub processes : (pid : ℕ) (birth : Birth) (content : Token) → p (AddsProcess (new_process pid None birth content)) ≡ true
  pub threads : (tid pid : ℕ) (birth : Birth) → p (AddsThread (new_thread tid pid birth)) ≡ true
  pub binds : (path : Path) (node : Node Birth) → p (Binds path node) ≡ true
  pub names : (n : TokenName) → p (NamesToken n) ≡ true

pub passing-lines : (C : World → Type 0) (P : World → List Basic → Type 0) (p : World → Basic → Bool) → ((w : World) (bs : List Basic) → every (p w) bs ≡ true → P w bs) → ((w : World) → PassDirectives (p w)) → ((by : ThreadRow) (w : World) → IsCalled C w by → Outcomes w by (λ _. P w)) → LineLaw C (λ _. P)
passing-lines C P p holds passes calls = record {
  tells = λ line w e _. holds w _ (let d = passes w in let one = d.tells e in rw one refl);
  calls = calls;
  boots = λ w pid tid name content new unused s more. holds w _ (let d = passes w in rw (d.tells (entry.Directive word.Boot SUCCESS), d.processes pid (directive_birth pid pid) content, d.threads tid pid (directive_birth tid pid)) refl);
  threads = λ w tid pid live unused s more. holds w _ (let d = passes w in rw (d.tells (entry.Directive word.Thread SUCCESS), d.threads tid pid (directive_birth tid pid)) refl);
  names = λ w name content more. holds w _ (let d = passes w in rw (d.tells (entry.Directive word.Token SUCCESS), d.names (record { name = name; token = content })) refl);
  dirs = λ w text path free more. holds w _ (let d = passes w in rw (d.tells (entry.Directive word.Dir SUCCESS), d.binds path (Stands Directory)) refl);
  links = λ w text target path to free more. holds w _ (let d = passes w in rw (d.tells (entry.Directive word.Link SUCCESS), d.binds path (LinkTo to)) refl);
}

-- Laws that are kept
abbrev pub Keep : (World → Type 0) → World → List Basic → Type 0
Keep Q w bs = Q w → Q (world_after w bs)
