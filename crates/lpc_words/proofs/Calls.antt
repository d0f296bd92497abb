-- The names of calls as the words that a text begins with.
use Rattle.std.proofs.Common.{◌≡◌, ℕ, ◌<◌, ◌+◌, ◌-◌, Bool, true, false, List, [], ◌∷◌, ◌∙◌, length, take, drop, get_or, eqb, refl, ap, sym, arith}
use Rattle.std.specs.Prelude.{not, nat_eq, Some}
use Rattle.std.specs.List.{list_all, starts_with}
use Rattle.std.proofs.lemmas.Bool.Decides.{Decides-eqb}
use Rattle.std.proofs.lemmas.List.{get_or-take}
use Rattle.std.proofs.lemmas.List.Folds.{list_all_at}
use Rattle.std.proofs.lemmas.Slice.Eq.{starts_is}
use Rattle.std.proofs.Math.Seq.{take-append_seam, take-length}
use Rattle.lpc_model.specs.Grammar.{call_named}
use Rattle.lpc_model.specs.Text.{call_text}
use Rattle.lpc_model.specs.Words.{words}
use Rattle.lpc_model.specs.declared.entry.CallName.{CallName}
use Rattle.lpc_model.specs.declared.entry.CallName.TheVariants.{NtCreatePort, NtConnectPort, NtListenPort, NtAcceptConnectPort, NtCompleteConnectPort, NtRequestPort, NtRequestWaitReplyPort, NtReplyPort, NtReplyWaitReceivePort, NtRegisterThreadTerminatePort, NtClose, NtDuplicateObject, NtQueryObject, NtCreateProcess, NtCreateThread, NtTerminateThread, NtTerminateProcess, NtCreateSection, NtMapViewOfSection, NtUnmapViewOfSection, NtReadVirtualMemory, NtWriteVirtualMemory, NtReadRequestData, NtWriteRequestData, NtImpersonateClientOfPort, NtSetInformationThread, NtOpenThreadToken, NtOpenProcessToken, NtQueryInformationToken, NtSetInformationProcess, Raise}
use Rattle.lpc_words.proofs.Parts.{parts_end, parts_here, word_alone, word_here}

-- a call is found by its name
pub call_named_text : (call : CallName) → call_named (call_text call) ≡ Some call
unfolding call_named
call_named_text NtCreatePort = refl
call_named_text NtConnectPort = refl
call_named_text NtListenPort = refl
call_named_text NtAcceptConnectPort = refl
call_named_text NtCompleteConnectPort = refl
call_named_text NtRequestPort = refl
call_named_text NtRequestWaitReplyPort = refl
call_named_text NtReplyPort = refl
call_named_text NtReplyWaitReceivePort = refl
call_named_text NtRegisterThreadTerminatePort = refl
call_named_text NtClose = refl
call_named_text NtDuplicateObject = refl
call_named_text NtQueryObject = refl
call_named_text NtCreateProcess = refl
call_named_text NtCreateThread = refl
call_named_text NtTerminateThread = refl
call_named_text NtTerminateProcess = refl
call_named_text NtCreateSection = refl
call_named_text NtMapViewOfSection = refl
call_named_text NtUnmapViewOfSection = refl
call_named_text NtReadVirtualMemory = refl
call_named_text NtWriteVirtualMemory = refl
call_named_text NtReadRequestData = refl
call_named_text NtWriteRequestData = refl
call_named_text NtImpersonateClientOfPort = refl
call_named_text NtSetInformationThread = refl
call_named_text NtOpenThreadToken = refl
call_named_text NtOpenProcessToken = refl
call_named_text NtQueryInformationToken = refl
call_named_text NtSetInformationProcess = refl
call_named_text Raise = refl

-- a byte that is no space
abbrev pub is_dense : ℕ → Bool
is_dense b = not (eqb b 32)

-- a word that stands alone: it has a byte, and no space
pub record IsDense (word : List ℕ) : Type 0 where
  pub some : 0 < length word
  pub dense : list_all is_dense word ≡ true

pub call_dense : (call : CallName) → IsDense (call_text call)
call_dense NtCreatePort = record { some = omega arith; dense = refl }
call_dense NtConnectPort = record { some = omega arith; dense = refl }
call_dense NtListenPort = record { some = omega arith; dense = refl }
call_dense NtAcceptConnectPort = record { some = omega arith; dense = refl }
call_dense NtCompleteConnectPort = record { some = omega arith; dense = refl }
call_dense NtRequestPort = record { some = omega arith; dense = refl }
call_dense NtRequestWaitReplyPort = record { some = omega arith; dense = refl }
call_dense NtReplyPort = record { some = omega arith; dense = refl }
call_dense NtReplyWaitReceivePort = record { some = omega arith; dense = refl }
call_dense NtRegisterThreadTerminatePort = record { some = omega arith; dense = refl }
call_dense NtClose = record { some = omega arith; dense = refl }
call_dense NtDuplicateObject = record { some = omega arith; dense = refl }
call_dense NtQueryObject = record { some = omega arith; dense = refl }
call_dense NtCreateProcess = record { some = omega arith; dense = refl }
call_dense NtCreateThread = record { some = omega arith; dense = refl }
call_dense NtTerminateThread = record { some = omega arith; dense = refl }
call_dense NtTerminateProcess = record { some = omega arith; dense = refl }
call_dense NtCreateSection = record { some = omega arith; dense = refl }
call_dense NtMapViewOfSection = record { some = omega arith; dense = refl }
call_dense NtUnmapViewOfSection = record { some = omega arith; dense = refl }
call_dense NtReadVirtualMemory = record { some = omega arith; dense = refl }
call_dense NtWriteVirtualMemory = record { some = omega arith; dense = refl }
call_dense NtReadRequestData = record { some = omega arith; dense = refl }
call_dense NtWriteRequestData = record { some = omega arith; dense = refl }
call_dense NtImpersonateClientOfPort = record { some = omega arith; dense = refl }
call_dense NtSetInformationThread = record { some = omega arith; dense = refl }
call_dense NtOpenThreadToken = record { some = omega arith; dense = refl }
call_dense NtOpenProcessToken = record { some = omega arith; dense = refl }
call_dense NtQueryInformationToken = record { some = omega arith; dense = refl }
call_dense NtSetInformationProcess = record { some = omega arith; dense = refl }
call_dense Raise = record { some = omega arith; dense = refl }

-- what a text begins with
pub begun_with : (text name : List ℕ) → starts_with nat_eq text name ≡ true → take (length name) text ≡ name
begun_with text name begins =
    let parted = (starts_is Decides-eqb text name true (sym begins)).0 refl in
    ap (take (length name)) parted ∙ take-append_seam name _

-- no byte of a text is a space, as far as it begins with such a word
dense_front : (text word : List ℕ) → IsDense word → take (length word) text ≡ word → (k : ℕ) → k < length word → get_or text k 0 ≡ 32 → ⊥
dense_front text word is front k lt e =
    let here : get_or word k 0 ≡ 32 = rw front at (get_or-take (length word) text k 0 lt) ∙ e in
    let fails : is_dense (get_or word k 0) ≡ false = rw here refl in
    let not_all = list_all_at is_dense word k 0 lt fails in
    cc

-- such a word in front of a space is the first word
pub word_in_front : (text word : List ℕ) → IsDense word → take (length word) text ≡ word → length word < length text → get_or text (length word) 0 ≡ 32 → words text ≡ word ∷ words (take (length text - (length word + 1)) (drop (length word + 1) text))
word_in_front text word is front inside at =
    let none = dense_front text word is front in
    let parted = rw front at (parts_here 32 text (length word) inside at none) in
    word_here text word _ (omega arith) (none 0 is.some) parted

-- and where it is the whole text the only one
pub word_is_all : (text word : List ℕ) → IsDense word → text ≡ word → words text ≡ word ∷ words []
word_is_all text word is all = rw all (word_alone word is.some (dense_front word word is (take-length word) 0 is.some) (parts_end 32 word (dense_front word word is (take-length word))))
