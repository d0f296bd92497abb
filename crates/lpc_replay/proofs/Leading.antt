-- Where what rows name stands, handles lead to rows.
use Rattle.std.proofs.Common.{◌≡◌, refl, sym, subst, ℕ, Bool, true, false, not, Option, Some, None, is_some, Result, Ok, Err, arith}
use Rattle.std.proofs.lemmas.Bool.{eqb-true}
use Rattle.lpc_base.specs.declared.status.Status.{Status}
use Rattle.lpc_base.specs.declared.status.TheConstants.{ACCESS_DENIED, INVALID_HANDLE, OBJECT_TYPE_MISMATCH}
use Rattle.lpc_model.specs.declared.entry.ObjectKind.{ObjectKind}
use Rattle.lpc_model.specs.declared.entry.ObjectKind.TheVariants as kind
use Rattle.lpc_model.specs.declared.line.ProcArg.TheVariants.{By}
use Rattle.lpc_model.specs.Found.{handle_at, is_born_process, is_born_thread, port_row, same_kind, section_row, token_row}
use Rattle.lpc_model.specs.Impersonation.{TOKEN_RIGHT, token_test}
use Rattle.lpc_model.specs.Memory.{section_test}
use Rattle.lpc_model.specs.Refusal.{found_or, refuse_if}
use Rattle.lpc_model.specs.Standing.{NamesWhatStands, names_object, stands_as}
use Rattle.lpc_model.specs.Targets.{LIFE_RIGHT, process_target, thread_target}
use Rattle.lpc_model.specs.Tests.{PORT_RIGHT, includes, object_test, own_handle, port_test}
use Rattle.lpc_model.specs.Then.{◌>>=◌}
use Rattle.lpc_model.specs.World.{Birth, ThreadRow, World}
use Rattle.lpc_base.specs.Rows.{first}
use Rattle.lpc_model.proofs.Calls.Acts.{found-object}
use Rattle.lpc_model.proofs.Calls.Holding.{Holds, bind_holds, found_ok, not_refused}
use Rattle.lpc_replay.specs.Leading.{LeadsToRows, RefusesAlike}

same-kind : (a b : ObjectKind) → same_kind a b ≡ true → a ≡ b
same-kind kind.Port kind.Port is = refl
same-kind kind.Section kind.Section is = refl
same-kind kind.Token kind.Token is = refl
same-kind kind.Process kind.Process is = refl
same-kind kind.Thread kind.Thread is = refl
same-kind kind.Port kind.Section is = absurd (cc)
same-kind kind.Port kind.Token is = absurd (cc)
same-kind kind.Port kind.Process is = absurd (cc)
same-kind kind.Port kind.Thread is = absurd (cc)
same-kind kind.Section kind.Port is = absurd (cc)
same-kind kind.Section kind.Token is = absurd (cc)
same-kind kind.Section kind.Process is = absurd (cc)
same-kind kind.Section kind.Thread is = absurd (cc)
same-kind kind.Token kind.Port is = absurd (cc)
same-kind kind.Token kind.Section is = absurd (cc)
same-kind kind.Token kind.Process is = absurd (cc)
same-kind kind.Token kind.Thread is = absurd (cc)
same-kind kind.Process kind.Port is = absurd (cc)
same-kind kind.Process kind.Section is = absurd (cc)
same-kind kind.Process kind.Token is = absurd (cc)
same-kind kind.Process kind.Thread is = absurd (cc)
same-kind kind.Thread kind.Port is = absurd (cc)
same-kind kind.Thread kind.Section is = absurd (cc)
same-kind kind.Thread kind.Token is = absurd (cc)
same-kind kind.Thread kind.Process is = absurd (cc)

-- what follows a test is always found where the test finds nothing but what has a row
alike : {A B : Type 0} (test : Result Birth Status) (row : Birth → Option A) (f : A → B) (s : Status) → Holds (λ b. is_some (row b) ≡ true) test → (test >>= (λ b. found_or (row b) INVALID_HANDLE >>= (λ x. Ok (f x)))) ≡ Err s → test ≡ Err s
alike {A} {B} (Ok b) row f s holds is = of (row b) holds is
  where
    of : (o : Option A) → is_some o ≡ true → (found_or o INVALID_HANDLE >>= (λ x. Ok (f x))) ≡ Err s → Ok b ≡ Err s
    of None some is = absurd (cc)
    of (Some x) some is = absurd (cc)
alike (Err e) row f s holds is = let same : e ≡ s = cc in rw same refl

alone : {A : Type 0} (test : Result Birth Status) (row : Birth → Option A) (s : Status) → Holds (λ b. is_some (row b) ≡ true) test → (test >>= (λ b. found_or (row b) INVALID_HANDLE)) ≡ Err s → test ≡ Err s
alone {A} (Ok b) row s holds is = of (row b) holds is
  where
    of : (o : Option A) → is_some o ≡ true → found_or o INVALID_HANDLE ≡ Err s → Ok b ≡ Err s
    of None some is = absurd (cc)
    of (Some x) some is = absurd (cc)
alone (Err e) row s holds is = let same : e ≡ s = cc in rw same refl

module _ (w : World) (n : NamesWhatStands w) (by : ThreadRow) where
  -- what a handle names stands
  stands : (k : ObjectKind) (right handle : ℕ) → Holds (λ b. stands_as w k b ≡ true) (object_test w by k right handle)
  stands k right handle =
      let P : Birth → Type 0 = λ b. stands_as w k b ≡ true in
      bind_holds (own_handle w by handle) _ P (λ h at.
      bind_holds (refuse_if (not (same_kind h.object.kind k)) OBJECT_TYPE_MISMATCH) _ P (λ u same.
      bind_holds (refuse_if (not (includes h.access right)) ACCESS_DENIED) _ P (λ _ _.
      let off = not_refused (not (same_kind h.object.kind k)) OBJECT_TYPE_MISMATCH u same in
      let named : names_object w h ≡ true = found-object w by.process handle h (found_ok (handle_at w by.process handle) INVALID_HANDLE h at) n.handles in
      subst (λ kind. stands_as w kind h.object.birth ≡ true) (same-kind h.object.kind k (grind (arith, off))) named)))

pub leads : (w : World) → NamesWhatStands w → LeadsToRows w
leads w n = record {
  ports = λ by handle s is. alone (object_test w by kind.Port PORT_RIGHT handle) (port_row w) s (stands w n by kind.Port PORT_RIGHT handle) is;
  threads = λ by handle s is. alone (object_test w by kind.Thread LIFE_RIGHT handle) (λ b. first (is_born_thread b) w.threads) s (stands w n by kind.Thread LIFE_RIGHT handle) is;
  processes = λ by handle s is. alike (object_test w by kind.Process LIFE_RIGHT handle) (λ b. first (is_born_process b) w.processes) (λ p. p.number) s (stands w n by kind.Process LIFE_RIGHT handle) is;
  tokens = λ by handle s is. alone (object_test w by kind.Token TOKEN_RIGHT handle) (token_row w) s (stands w n by kind.Token TOKEN_RIGHT handle) is;
  sections = λ by rights handle s is. alone (object_test w by kind.Section rights handle) (section_row w) s (stands w n by kind.Section rights handle) is;
}
