-- A refusal's status is no success.
use Rattle.std.proofs.Common.{Bool, List, false, refl, subst, true, ℕ, ◌≡◌}
use Rattle.std.specs.Prelude.{Err, None, Ok, Option, Result, Some, is_some, length, map, nat_le, nat_lt, not, ◌%◌, ◌==◌}
use Rattle.lpc_base.specs.Views.{least_base, passes_section}
use Rattle.lpc_base.specs.declared.birth.Birth.{Birth}
use Rattle.lpc_base.specs.declared.limits.TheConstants.{MESSAGE_LIMIT, PAGE_SIZE, VIEW_LIMIT}
use Rattle.lpc_base.specs.declared.status.Status.{Status}
use Rattle.lpc_base.specs.declared.status.TheConstants.{ACCESS_DENIED, INVALID_HANDLE, INVALID_PARAMETER, INVALID_VIEW_SIZE, MAPPED_ALIGNMENT, OBJECT_TYPE_MISMATCH, PORT_MESSAGE_TOO_LONG, QUOTA_EXCEEDED, SECTION_PROTECTION}
use Rattle.lpc_message.specs.Layout.{fault_of, header_of}
use Rattle.lpc_model.specs.Found.{handle_at, port_row, same_kind, section_row, views_of}
use Rattle.lpc_model.specs.Memory.{SECTION_MAP_WRITE, base_test, section_test, size_test, view_count_test}
use Rattle.lpc_model.specs.Message.{message_test}
use Rattle.lpc_model.specs.Offers.{Wanted, if_given, offer_test, view_test, wanted_test}
use Rattle.lpc_model.specs.Refusal.{found_or, refuse_if}
use Rattle.lpc_model.specs.Tests.{PORT_RIGHT, includes, object_test, own_handle, port_test}
use Rattle.lpc_model.specs.Then.{◌>>=◌}
use Rattle.lpc_model.specs.World.{Offer, PortRow, SectionRow, ThreadRow, ViewRow, World}
use Rattle.lpc_model.specs.declared.entry.ObjectKind.TheVariants as kind
use Rattle.lpc_model.specs.declared.entry.ObjectKind.{ObjectKind}
use Rattle.lpc_model.specs.declared.line.ViewWord.{ViewWord}
use Rattle.lpc_model.specs.declared.message.Message.{Message}

-- a property of what wasn't refused, and a refusal's status is no success
abbrev pub Ends : {A : Type 0} → (A → Type 0) → Result A Status → Type 0
Ends P (Ok x) = P x
Ends P (Err s) = not (s.0 == 0) ≡ true

abbrev pub Fails : {A : Type 0} → Result A Status → Type 0
Fails r = Ends (λ _. Unit {0}) r

pub bind_ends : {A B : Type 0} (r : Result A Status) (f : A → Result B Status) (P : B → Type 0) → Fails r → ((x : A) → r ≡ Ok x → Ends P (f x)) → Ends P (r >>= f)
bind_ends (Ok x) f P e h = h x refl
bind_ends (Err s) f P e h = e

pub found_fails : {A : Type 0} (o : Option A) (s : Status) → not (s.0 == 0) ≡ true → Fails (found_or o s)
found_fails None s e = e
found_fails (Some x) s e = tt

pub refuse_fails : (b : Bool) (s : Status) → not (s.0 == 0) ≡ true → Fails (refuse_if b s)
refuse_fails true s e = e
refuse_fails false s e = tt

object_fails : (w : World) (by : ThreadRow) (kind : ObjectKind) (rights handle : ℕ) → Fails (object_test w by kind rights handle)
object_fails w by kind rights handle =
    let P : Birth → Type 0 = λ _. Unit {0} in
    bind_ends (own_handle w by handle) _ P (found_fails (handle_at w by.process handle) INVALID_HANDLE refl) (λ h _.
    bind_ends (refuse_if (not (same_kind h.object.kind kind)) OBJECT_TYPE_MISMATCH) _ P (refuse_fails _ OBJECT_TYPE_MISMATCH refl) (λ _ _.
    bind_ends (refuse_if (not (includes h.access rights)) ACCESS_DENIED) _ P (refuse_fails _ ACCESS_DENIED refl) (λ _ _. tt)))

pub port_fails : (w : World) (by : ThreadRow) (handle : ℕ) → Fails (port_test w by handle)
port_fails w by handle =
    bind_ends (object_test w by kind.Port PORT_RIGHT handle) _ (λ (port : PortRow). Unit {0}) (object_fails w by kind.Port PORT_RIGHT handle) (λ birth _.
    found_fails (port_row w birth) INVALID_HANDLE refl)

pub message_fails : (bytes : List ℕ) → Fails (message_test bytes)
unfolding message_test
message_fails bytes =
    let P : Message → Type 0 = λ _. Unit {0} in
    bind_ends (refuse_if (is_some (fault_of bytes)) INVALID_PARAMETER) _ P (refuse_fails _ INVALID_PARAMETER refl) (λ _ _.
    bind_ends (refuse_if (nat_lt MESSAGE_LIMIT (header_of bytes).message_size) PORT_MESSAGE_TOO_LONG) _ P (refuse_fails _ PORT_MESSAGE_TOO_LONG refl) (λ _ _. tt))

pub fails_with : {A : Type 0} (r : Result A Status) (s : Status) → Fails r → r ≡ Err s → not (s.0 == 0) ≡ true
fails_with (Ok x) s h is = absurd (cc)
fails_with (Err e) s h is = let same : e ≡ s = cc in subst (λ (z : Status). not (z.0 == 0) ≡ true) same h

-- What a connect offers
-- what is given is tested, and where nothing is given nothing fails
pub given_fails : {A B : Type 0} (test : A → Result B Status) (o : Option A) → ((x : A) → Fails (test x)) → Fails (if_given test o)
given_fails test None fails = tt
given_fails test (Some x) fails = bind_ends (test x) _ (λ _. Unit {0}) (fails x) (λ _ _. tt)

section_fails : (w : World) (by : ThreadRow) (rights handle : ℕ) → Fails (section_test w by rights handle)
section_fails w by rights handle =
    bind_ends (object_test w by kind.Section rights handle) _ (λ (s : SectionRow). Unit {0}) (object_fails w by kind.Section rights handle) (λ birth _.
    found_fails (section_row w birth) INVALID_HANDLE refl)

pub wanted_fails : (w : World) (by : ThreadRow) (word : ViewWord) → Fails (wanted_test w by word)
wanted_fails w by word =
    bind_ends (section_test w by SECTION_MAP_WRITE word.handle) _ (λ (v : Wanted). Unit {0}) (section_fails w by SECTION_MAP_WRITE word.handle) (λ _ _. tt)

size_fails : (s : SectionRow) (offset size : ℕ) → Fails (size_test s offset size)
size_fails s offset size =
    bind_ends (refuse_if (passes_section s.size offset size) INVALID_VIEW_SIZE) _ (λ (n : ℕ). Unit {0}) (refuse_fails _ INVALID_VIEW_SIZE refl) (λ _ _. tt)

pub offer_fails : (v : Wanted) → Fails (offer_test v)
offer_fails v =
    let P : Offer → Type 0 = λ _. Unit {0} in
    bind_ends (refuse_if (not (v.offset % PAGE_SIZE == 0)) MAPPED_ALIGNMENT) _ P (refuse_fails _ MAPPED_ALIGNMENT refl) (λ _ _.
    bind_ends (refuse_if (not v.section.writable) SECTION_PROTECTION) _ P (refuse_fails _ SECTION_PROTECTION refl) (λ _ _.
    bind_ends (size_test v.section v.offset v.size) _ P (size_fails v.section v.offset v.size) (λ _ _. tt)))

base_fails : (w : World) (pid size : ℕ) → Fails (base_test w pid size)
base_fails w pid size =
    bind_ends (view_count_test w pid) _ (λ (n : ℕ). Unit {0}) (refuse_fails (nat_le VIEW_LIMIT (length (views_of w pid))) QUOTA_EXCEEDED refl) (λ _ _.
    found_fails (least_base (map (λ v. (v.base, v.size)) (views_of w pid)) size) QUOTA_EXCEEDED refl)

pub view_fails : (w : World) (pid : ℕ) (port : Birth) (o : Offer) → Fails (view_test w pid port o)
view_fails w pid port o = bind_ends (base_test w pid o.size) _ (λ (v : ViewRow). Unit {0}) (base_fails w pid o.size) (λ _ _. tt)
