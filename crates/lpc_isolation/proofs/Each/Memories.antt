-- NtReadVirtualMemory and NtWriteVirtualMemory in a view: c's own views are seen as they are, and it reads the bytes that are known.
use Rattle.std.proofs.Common.{◌≡◌, ℕ, List, [], Bool, true, not, Option, Some, None, refl, ap, sym, subst, ◌∙◌, arith}
use Rattle.std.specs.Prelude.{◌==◌, ◌||◌, length, Ok, option_map}
use Rattle.lpc_base.specs.Rows.{first, which}
use Rattle.lpc_base.specs.declared.status.TheConstants.{ACCESS_VIOLATION, INVALID_PARAMETER}
use Rattle.lpc_base.proofs.RowMaps.{every-first}
use Rattle.lpc_base.proofs.Births.{birth-same}
use Rattle.lpc_base.proofs.Bools.{first-true, same-number}
use Rattle.lpc_model.specs.World.{Birth, ContentRow, Contents, Known, ThreadRow, Unknown, ViewRow, World}
use Rattle.lpc_model.specs.Found.{bytes_in, content_of, holds_range, is_content, view_holding, views_of}
use Rattle.lpc_model.specs.Basics.{in_known}
use Rattle.lpc_model.specs.Refusal.{found_or, refuse_if}
use Rattle.lpc_model.specs.Then.{◌>>=◌}
use Rattle.lpc_model.specs.Memory.{is_transfer, memory_test, nt_read_virtual_memory, nt_write_virtual_memory, read_steps}
use Rattle.lpc_model.specs.Lines.{read_virtual_memory, write_virtual_memory}
use Rattle.lpc_model.specs.Circle.{Group}
use Rattle.lpc_model.proofs.Calls.Holding.{holds_ok}
use Rattle.lpc_model.proofs.Views.Tables.{views-among}
use Rattle.lpc_isolation.proofs.Calls.Calm.{Calm, answers_alike}
use Rattle.lpc_isolation.proofs.Calls.Deeds.{memory-held}
use Rattle.lpc_isolation.proofs.Views.Places.{holding-view}
use Rattle.lpc_isolation.proofs.Each.Refuses.{Refuses, bind, found, if_refuses}
use Rattle.lpc_isolation.proofs.Gone.Served.{served}
use Rattle.lpc_isolation.proofs.Gone.Thin.{Alive, Closed, content_alive, thin, view_closed}
use Rattle.lpc_isolation.proofs.Rows.Fair.{Fair, is_fair_view, views-fair}
use Rattle.lpc_isolation.proofs.Views.Bytes.{Right, held_bytes}
use Rattle.lpc_isolation.proofs.Views.Filters.{first-inside}
use Rattle.lpc_isolation.proofs.Views.Seen.{bind-same}
use Rattle.lpc_isolation.proofs.Views.View.{seen_view, view}

-- c's views are seen as they are
c-view : (m : Group) (c pid : ℕ) (v : ViewRow) → is_fair_view m c pid v ≡ true → pid ≡ c → seen_view m v ≡ v
c-view m c pid v fair mine =
    let is : (pid == c) ≡ true = ap (λ n. n == c) mine ∙ same-number c in
    let inside : m v.section.process ≡ true = last (pid == c) (m v.section.process) is (first-true _ _ fair) in rw inside refl
  where
    last : (a b : Bool) → a ≡ true → (not a || b) ≡ true → b ≡ true
    last a b is it = grind arith

memory-view : (m : Group) (c : ℕ) (w : World) (by : ThreadRow) (address n : ℕ) → Fair m c w → m c ≡ true → by.process ≡ c → memory_test (view m w) by address n ≡ memory_test w by address n
memory-view m c w by address n f c_in mine =
    rw (holding-view m w by.process address n (ap m mine ∙ c_in)) (bind-same (refuse_if (not (is_transfer n)) INVALID_PARAMETER) _ _ (λ _ _. at (view_holding w by.process address n) refl))
  where
    at : (o : Option ViewRow) → view_holding w by.process address n ≡ o → found_or (option_map (seen_view m) o) ACCESS_VIOLATION ≡ found_or o ACCESS_VIOLATION
    at None none = refl
    at (Some v) some = ap (λ v. Ok v) (c-view m c by.process v (every-first (is_fair_view m c by.process) (holds_range address n) (views_of w by.process) v (views-fair m c w by.process f) some) mine)

same-write : (m : Group) (c : ℕ) (w : World) (by : ThreadRow) (address : ℕ) (new : List ℕ) → Fair m c w → m c ≡ true → by.process ≡ c → nt_write_virtual_memory (view m w) by address new ≡ nt_write_virtual_memory w by address new
unfolding nt_write_virtual_memory
same-write m c w by address new f c_in mine = rw (memory-view m c w by address (length new) f c_in mine) refl

-- The bytes that a section holds
abbrev bytes_held : Option (List ℕ) → List ℕ
bytes_held None = []
bytes_held (Some bytes) = bytes

held-of : (k : Contents) (b : Birth) → content_of k b ≡ bytes_held (held_bytes k b)
held-of Unknown b = refl
held-of (Known rows) b = at (first (is_content b) rows)
  where
    at : (o : Option ContentRow) → bytes_in o ≡ bytes_held (option_map (λ (c : ContentRow). c.bytes) o)
    at None = refl
    at (Some c) = refl

pub same-content : (k w : Contents) (b : Birth) → held_bytes k b ≡ held_bytes w b → content_of k b ≡ content_of w b
same-content k w b same = held-of k b ∙ ap bytes_held same ∙ sym (held-of w b)

-- a read is answered by the bytes that are known
same-read : (m : Group) (c : ℕ) (w : World) (by : ThreadRow) (k : Contents) (address n : ℕ) → Fair m c w → m c ≡ true → by.process ≡ c → Right c k w → nt_read_virtual_memory (record (view m w) { contents = k }) by address n ≡ nt_read_virtual_memory w by address n
unfolding nt_read_virtual_memory
same-read m c w by k address n f c_in mine right =
    ap (λ r. r >>= (λ v. Ok (read_steps k by address n v))) (memory-view m c w by address n f c_in mine)
    ∙ bind-same (memory_test w by address n) _ _ (λ v at.
    let held : view_holding w by.process address n ≡ Some v = holds_ok (λ v. view_holding w by.process address n ≡ Some v) (memory_test w by address n) v (memory-held w by address n) at in
    let bytes : content_of k v.section ≡ content_of w.contents v.section
    = same-content k w.contents v.section (right (holds_range address n) v (subst (λ pid. view_holding w pid address n ≡ Some v) mine held)) in
    rw bytes refl)

-- Refusals
memory-refuses : (w : World) (by : ThreadRow) (address n : ℕ) → Refuses (memory_test w by address n)
memory-refuses w by address n = bind (refuse_if (not (is_transfer n)) INVALID_PARAMETER) _ (if_refuses (not (is_transfer n)) INVALID_PARAMETER refl) (λ _. found (view_holding w by.process address n) ACCESS_VIOLATION refl)

refuses-read : (w : World) (by : ThreadRow) (address n : ℕ) → Refuses (nt_read_virtual_memory w by address n)
unfolding nt_read_virtual_memory
refuses-read w by address n = bind (memory_test w by address n) _ (memory-refuses w by address n) (λ v. tt)

refuses-write : (w : World) (by : ThreadRow) (address : ℕ) (new : List ℕ) → Refuses (nt_write_virtual_memory w by address new)
unfolding nt_write_virtual_memory
refuses-write w by address new = bind (memory_test w by address (length new)) _ (memory-refuses w by address (length new)) (λ v. bind (refuse_if (not v.writable) ACCESS_VIOLATION) _ (if_refuses (not v.writable) ACCESS_VIOLATION refl) (λ _. tt))

-- Where rows have gone
pub content-thin : (k : Alive) (b : Birth) (c : Contents) → k.sections b ≡ true → content_of (in_known (which (content_alive k)) c) b ≡ content_of c b
content-thin k b Unknown live = refl
content-thin k b (Known rows) live = ap bytes_in (first-inside (content_alive k) (is_content b) (λ c is. ap k.sections (birth-same c.section b is) ∙ live) rows)

alike-read : (k : Alive) (u : World) (by : ThreadRow) (address n : ℕ) → Closed k u → served (thin k u) by (read_virtual_memory address n) ≡ served u by (read_virtual_memory address n)
unfolding nt_read_virtual_memory
alike-read k u by address n c = bind-same (memory_test u by address n) _ _ (λ v at.
    let held : view_holding u by.process address n ≡ Some v = holds_ok (λ v. view_holding u by.process address n ≡ Some v) (memory_test u by address n) v (memory-held u by address n) at in
    let live : k.sections v.section ≡ true = first-true _ _ (every-first (view_closed k) (holds_range address n) (views_of u by.process) v (views-among (view_closed k) by.process u.views c.views) held) in
    rw (content-thin k v.section u.contents live) refl)

alike-write : (k : Alive) (u : World) (by : ThreadRow) (address : ℕ) (new : List ℕ) → served (thin k u) by (write_virtual_memory address new) ≡ served u by (write_virtual_memory address new)
unfolding nt_write_virtual_memory
alike-write k u by address new = refl

pub read-calm : (address n : ℕ) → Calm (read_virtual_memory address n)
read-calm address n = record {
  refuses = λ w by. refuses-read w by address n;
  members = answers_alike refl (λ m c w by known k a mine fine reads. same-read m c w by k address n a.fair a.c_in mine reads.views);
  alike = λ k u by live s ports c. alike-read k u by address n c;
}

pub write-calm : (address : ℕ) (new : List ℕ) → Calm (write_virtual_memory address new)
write-calm address new = record {
  refuses = λ w by. refuses-write w by address new;
  members = answers_alike refl (λ m c w by known k a mine fine reads. same-write m c w by address new a.fair a.c_in mine);
  alike = λ k u by live s ports c. alike-write k u by address new;
}
