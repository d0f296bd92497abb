-- Whom a thread's number is of stays, and each thread's number was used.
use Rattle.std.proofs.Common.{◌≡◌, ℕ, Bool, true, List, [], ◌∷◌, ◌++◌, Option, Some, None, refl, subst, is_some, option_map}
use Rattle.lpc_base.specs.Rows.{every, first, has}
use Rattle.lpc_base.proofs.Bools.{first-true, same-number}
use Rattle.lpc_base.proofs.RowMaps.{every-first}
use Rattle.lpc_base.proofs.RowWords.{every-change, every-more, every-push, every-without, first-passes, has-kept, has-push}
use Rattle.std.proofs.lemmas.Bool.{eqb-true}
use Rattle.lpc_base.specs.declared.birth.Birth.{Birth}
use Rattle.lpc_model.specs.declared.entry.ObjectKind.{ObjectKind}
use Rattle.lpc_model.specs.declared.entry.ObjectKind.TheVariants as kind
use Rattle.lpc_model.specs.World.{ThreadRow, UsedThread, World, no_rows}
use Rattle.lpc_model.specs.Found.{is_live_thread, is_thread, is_used_thread, live_thread}
use Rattle.lpc_model.specs.Basics.{Basic, Accepts, Acts, AddsHandle, AddsProcess, AddsSection, AddsThread, AddsToken, Awaits, Binds, Completes, Cuts, Dies, DrawsIdentifier, DrawsOrdinal, DropsHandle, DropsOwned, Dooms, DropsViewsOf, Empties, Enters, Frees, Joins, Leaves, LetsGo, Makes, Maps, Marks, NamesToken, Receives, Registers, Secures, SetsDebug, SetsException, Takes, TakesConnect, Tells, Unbinds, Unmaps, Unregisters, Wakes, Withdraws, Writes, acting, basic, ended, past_identifier, past_ordinal, registering, unregistering, used, world_after}
use Rattle.lpc_model.specs.Circle.{owner}
use Rattle.lpc_isolation.proofs.Each.Creates.{kept-owner}

-- the number of a thread was used
abbrev pub is_numbered : List UsedThread → ThreadRow → Bool
is_numbered us t = has (is_used_thread t.number) us

abbrev pub Numbers : World → Type 0
Numbers w = every (is_numbered w.used_threads) w.threads ≡ true

freed-numbers : (w : World) (k : ObjectKind) (b : Birth) → Numbers w → Numbers (basic w (Frees (record { kind = k; birth = b })))
freed-numbers w kind.Port b n = n
freed-numbers w kind.Section b n = n
freed-numbers w kind.Token b n = n
freed-numbers w kind.Process b n = n
freed-numbers w kind.Thread b n = every-without (is_numbered w.used_threads) _ w.threads n

numbers-basic : (w : World) (b : Basic) → Numbers w → Numbers (basic w b)
numbers-basic w (Tells e) n = n
numbers-basic w (Wakes who call status fields) n = n
numbers-basic w (Awaits x) n = n
numbers-basic w (Receives who queue) n = n
numbers-basic w (Accepts who a) n = n
numbers-basic w (Dies who status) n = every-change (is_numbered w.used_threads) (is_thread who) ended (λ t is. is) w.threads n
numbers-basic w (Enters m) n = n
numbers-basic w (Takes q) n = n
numbers-basic w (TakesConnect q) n = n
numbers-basic w (Withdraws who) n = n
numbers-basic w (Empties q) n = n
numbers-basic w (DrawsIdentifier who) n = every-change (is_numbered w.used_threads) (is_thread who) past_identifier (λ t is. is) w.threads n
numbers-basic w (DrawsOrdinal who) n = every-change (is_numbered w.used_threads) (is_thread who) past_ordinal (λ t is. is) w.threads n
numbers-basic w (Registers who b) n = every-change (is_numbered w.used_threads) (is_thread who) (registering b) (λ t is. is) w.threads n
numbers-basic w (Unregisters who b) n = every-change (is_numbered w.used_threads) (is_thread who) (unregistering b) (λ t is. is) w.threads n
numbers-basic w (AddsProcess p) n = n
numbers-basic w (AddsThread t) n =
    every-push (is_numbered (w.used_threads ++ used t ∷ [])) w.threads t
    (every-more (is_numbered w.used_threads) (is_numbered (w.used_threads ++ used t ∷ [])) (λ x is. has-kept (is_used_thread x.number) w.used_threads (used t) is) w.threads n)
    (has-push (is_used_thread t.number) w.used_threads (used t) (same-number t.number))
numbers-basic w (Makes p) n = n
numbers-basic w (Joins client server context) n = n
numbers-basic w (Completes b) n = n
numbers-basic w (Cuts b) n = n
numbers-basic w (Frees o) n = freed-numbers w o.kind o.birth n
numbers-basic w (Binds path node) n = n
numbers-basic w (Unbinds b) n = n
numbers-basic w (AddsHandle pid h) n = n
numbers-basic w (DropsHandle pid value) n = n
numbers-basic w (AddsSection s) n = n
numbers-basic w (Writes b place new) n = n
numbers-basic w (Maps pid v) n = n
numbers-basic w (Unmaps pid base) n = n
numbers-basic w (DropsViewsOf pid) n = n
numbers-basic w (DropsOwned b) n = n
numbers-basic w (Secures b s) n = n
numbers-basic w (Acts who own) n = every-change (is_numbered w.used_threads) (is_thread who) (acting own) (λ t is. is) w.threads n
numbers-basic w (AddsToken t) n = n
numbers-basic w (NamesToken named) n = n
numbers-basic w (Marks who) n = n
numbers-basic w (Leaves who) n = n
numbers-basic w (SetsDebug pid b) n = n
numbers-basic w (SetsException pid b) n = n
numbers-basic w (LetsGo pid) n = n
numbers-basic w (Dooms pid code) n = n

pub numbers-after : (w : World) (bs : List Basic) → Numbers w → Numbers (world_after w bs)
numbers-after w [] n = n
numbers-after w (b ∷ bs) n = numbers-after (basic w b) bs (numbers-basic w b n)

pub numbers_none : Numbers no_rows
numbers_none = refl

-- so whom a live thread is of is known
some-owner : (o : Option UsedThread) → is_some o ≡ true → is_some (option_map (λ (u : UsedThread). u.process) o) ≡ true
some-owner None is = absurd (cc)
some-owner (Some u) is = refl

pub live-has-owner : (w : World) (tid : ℕ) → Numbers w → is_some (live_thread w tid) ≡ true → is_some (owner w tid) ≡ true
live-has-owner w tid n live = at (live_thread w tid) refl live
  where
    at : (o : Option ThreadRow) → live_thread w tid ≡ o → is_some o ≡ true → is_some (owner w tid) ≡ true
    at None none is = absurd (cc)
    at (Some t) some is =
        let passes : is_live_thread tid t ≡ true = first-passes (is_live_thread tid) w.threads t some in
        let number : t.number ≡ tid = eqb-true t.number tid (first-true _ _ passes) in
        let known : has (is_used_thread t.number) w.used_threads ≡ true = every-first (is_numbered w.used_threads) (is_live_thread tid) w.threads t n some in
        some-owner (first (is_used_thread tid) w.used_threads) (subst (λ i. has (is_used_thread i) w.used_threads ≡ true) number known)

-- Owners
freed-owner : (w : World) (k : ObjectKind) (b : Birth) (tid pid : ℕ) → owner w tid ≡ Some pid → owner (basic w (Frees (record { kind = k; birth = b }))) tid ≡ Some pid
freed-owner w kind.Port b tid pid is = is
freed-owner w kind.Section b tid pid is = is
freed-owner w kind.Token b tid pid is = is
freed-owner w kind.Process b tid pid is = is
freed-owner w kind.Thread b tid pid is = is

owner-basic : (w : World) (b : Basic) (tid pid : ℕ) → owner w tid ≡ Some pid → owner (basic w b) tid ≡ Some pid
owner-basic w (Tells e) tid pid is = is
owner-basic w (Wakes who call status fields) tid pid is = is
owner-basic w (Awaits x) tid pid is = is
owner-basic w (Receives who queue) tid pid is = is
owner-basic w (Accepts who a) tid pid is = is
owner-basic w (Dies who status) tid pid is = is
owner-basic w (Enters m) tid pid is = is
owner-basic w (Takes q) tid pid is = is
owner-basic w (TakesConnect q) tid pid is = is
owner-basic w (Withdraws who) tid pid is = is
owner-basic w (Empties q) tid pid is = is
owner-basic w (DrawsIdentifier who) tid pid is = is
owner-basic w (DrawsOrdinal who) tid pid is = is
owner-basic w (Registers who b) tid pid is = is
owner-basic w (Unregisters who b) tid pid is = is
owner-basic w (AddsProcess p) tid pid is = is
owner-basic w (AddsThread t) tid pid is = kept-owner w.used_threads (used t) tid pid is
owner-basic w (Makes p) tid pid is = is
owner-basic w (Joins client server context) tid pid is = is
owner-basic w (Completes b) tid pid is = is
owner-basic w (Cuts b) tid pid is = is
owner-basic w (Frees o) tid pid is = freed-owner w o.kind o.birth tid pid is
owner-basic w (Binds path node) tid pid is = is
owner-basic w (Unbinds b) tid pid is = is
owner-basic w (AddsHandle of_process h) tid pid is = is
owner-basic w (DropsHandle of_process value) tid pid is = is
owner-basic w (AddsSection s) tid pid is = is
owner-basic w (Writes b place new) tid pid is = is
owner-basic w (Maps of_process v) tid pid is = is
owner-basic w (Unmaps of_process base) tid pid is = is
owner-basic w (DropsViewsOf of_process) tid pid is = is
owner-basic w (DropsOwned b) tid pid is = is
owner-basic w (Secures b s) tid pid is = is
owner-basic w (Acts who own) tid pid is = is
owner-basic w (AddsToken t) tid pid is = is
owner-basic w (NamesToken n) tid pid is = is
owner-basic w (Marks who) tid pid is = is
owner-basic w (Leaves who) tid pid is = is
owner-basic w (SetsDebug of_process b) tid pid is = is
owner-basic w (SetsException of_process b) tid pid is = is
owner-basic w (LetsGo of_process) tid pid is = is
owner-basic w (Dooms of_process code) tid pid is = is

pub owner-after : (w : World) (bs : List Basic) (tid pid : ℕ) → owner w tid ≡ Some pid → owner (world_after w bs) tid ≡ Some pid
owner-after w [] tid pid is = is
owner-after w (b ∷ bs) tid pid is = owner-after (basic w b) bs tid pid (owner-basic w b tid pid is)
