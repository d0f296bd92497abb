-- What a table has isn't past the most that it may have, where it has what it had.
use Rattle.std.proofs.Common.{◌≡◌, ◌≤◌, ◌+◌, ℕ, zero, suc, arith, refl, subst, sym}
use Rattle.std.specs.Prelude.{max}
use Rattle.std.proofs.Math.Nat.{le-max_left}
use Rattle.lpc_rows.specs.Capacity.{Capacity, KeepsPlaces, KeepsViewPlaces, handle_places, view_places}
use Rattle.lpc_rows.specs.Kept.{Kept}
use Rattle.lpc_machine.specs.Growth.{most_of, most_handles, most_messages, most_ports, most_processes, most_sections, most_threads, most_tokens, most_views, most_waits}

-- what a table had isn't past what it may have
had_within : (n had other : ℕ) → had ≤ most_of n had (max had other)
had_within zero had other = omega arith
had_within (suc n) had other = le-max_left had other

stays_within : (n had other has : ℕ) → has ≡ had → has ≤ most_of n had (max had other)
stays_within n had other has is = subst (λ k. k ≤ most_of n had (max had other)) (sym is) (had_within n had other)

pub processes_within : (w : Kept) (n has : ℕ) → has ≡ w.capacity.processes → has ≤ most_processes w n
processes_within w n has is = stays_within n w.capacity.processes _ has is

pub threads_within : (w : Kept) (n has : ℕ) → has ≡ w.capacity.threads → has ≤ most_threads w n
threads_within w n has is = stays_within n w.capacity.threads _ has is

pub waits_within : (w : Kept) (n has : ℕ) → has ≡ w.capacity.waits → has ≤ most_waits w n
waits_within w n has is = stays_within n w.capacity.waits _ has is

pub messages_within : (w : Kept) (n has : ℕ) → has ≡ w.capacity.messages → has ≤ most_messages w n
messages_within w n has is = stays_within n w.capacity.messages _ has is

pub ports_within : (w : Kept) (n has : ℕ) → has ≡ w.capacity.ports → has ≤ most_ports w n
ports_within w n has is = stays_within n w.capacity.ports _ has is

pub sections_within : (w : Kept) (n has : ℕ) → has ≡ w.capacity.sections → has ≤ most_sections w n
sections_within w n has is = stays_within n w.capacity.sections _ has is

pub tokens_within : (w : Kept) (n has : ℕ) → has ≡ w.capacity.tokens → has ≤ most_tokens w n
tokens_within w n has is = stays_within n w.capacity.tokens _ has is

pub handles_within : (w : Kept) (n pid : ℕ) (new : Capacity) → KeepsPlaces w.capacity new → handle_places new pid ≤ most_handles w pid n
handles_within w n pid new keeps = stays_within n (handle_places w.capacity pid) _ (handle_places new pid) (keeps pid)

pub same_handles_within : (w : Kept) (n pid : ℕ) (new : Capacity) → new.handles ≡ w.capacity.handles → handle_places new pid ≤ most_handles w pid n
same_handles_within w n pid new is = stays_within n (handle_places w.capacity pid) _ (handle_places new pid) (rw is refl)

pub views_within : (w : Kept) (n : ℕ) (new : Capacity) → KeepsViewPlaces w.capacity new → (pid : ℕ) → view_places new pid ≤ most_views w pid n
views_within w n new keeps pid = stays_within n (view_places w.capacity pid) _ (view_places new pid) (keeps pid)

pub same_views_within : (w : Kept) (n : ℕ) (new : Capacity) → new.views ≡ w.capacity.views → (pid : ℕ) → view_places new pid ≤ most_views w pid n
same_views_within w n new is pid = stays_within n (view_places w.capacity pid) _ (view_places new pid) (rw is refl)

-- behind a sweep: what a table had, with the rows that stood, and what it has, with those that stand
pub swept_within : (had asked swept stood standing bare most : ℕ) → asked ≤ most → had ≡ asked → swept + standing ≤ had + stood → stood ≡ bare → swept + standing ≤ most + bare
swept_within had asked swept stood standing bare most within same less is = omega (arith, within, same, less, is)
