-- Steps by which rows go and messages enter queues: what they keep.
use Rattle.std.proofs.Common.{◌≡◌, ◌≤◌, ℕ, List, [], ◌∷◌, Bool, true, false, refl, sym, ◌∙◌, arith}
use Rattle.std.proofs.lemmas.Bool.{and_from}
use Rattle.lpc_base.specs.Rows.{count, every, has, without}
use Rattle.lpc_base.proofs.RowWords.{every-more, every-without, has_none-without}
use Rattle.lpc_base.proofs.Bools.{first-true, second-true}
use Rattle.lpc_model.specs.World.{Birth, MessageRow, WaitRow, World}
use Rattle.lpc_model.specs.Found.{is_own_of, is_queued, same_birth, waits_as}
use Rattle.lpc_model.specs.Basics.{Basic, Cuts, DropsHandle, DropsViewsOf, Empties, Enters, Takes, TakesConnect, Unbinds, Wakes, Withdraws, basic, world_after, Dies, Unregisters, DropsOwned, Marks, LetsGo}
use Rattle.lpc_model.specs.Entering.{takes}
use Rattle.lpc_model.specs.Circle.{Group}
use Rattle.lpc_model.proofs.Steps.Rows.{count-less}
use Rattle.lpc_isolation.proofs.Views.Alone.{HasFineRows}
use Rattle.lpc_isolation.proofs.Views.View.{of_birth}
use Rattle.lpc_isolation.proofs.Views.Basics.{are_ours}
use Rattle.lpc_isolation.proofs.Rows.Fair.{Fair, are_fair, run-fair}
use Rattle.lpc_isolation.proofs.Each.Enter.{Patient, is_patient}
use Rattle.lpc_isolation.proofs.Views.Apart.{Owned, is_owned}
use Rattle.lpc_isolation.proofs.Rows.Paths.{Paths, are_paths, run-paths}
use Rattle.lpc_isolation.proofs.Rows.Clients.{Clients, cut-clients, is_client_wait}
use Rattle.lpc_isolation.proofs.Rows.Sent.{are_sent, none-sent, sends_none}
use Rattle.lpc_isolation.proofs.Rows.Asked.{Asked}
use Rattle.lpc_isolation.proofs.Calls.Serves.{is_calm, is_orderly}
use Rattle.lpc_isolation.proofs.Memory.Heard.{Heard}
use Rattle.lpc_isolation.proofs.Memory.Knows.{are_known}
use Rattle.lpc_isolation.proofs.Gone.Fine.{makes_fine, run-fine}

-- no wait begins, nothing is received, and no port, thread or name comes
abbrev pub is_mild : Basic → Bool
is_mild (Wakes who call status fields) = true
is_mild (Withdraws who) = true
is_mild (Marks who) = true
is_mild (LetsGo pid) = true
is_mild (Empties q) = true
is_mild (Unbinds b) = true
is_mild (Cuts b) = true
is_mild (DropsHandle pid value) = true
is_mild (Enters x) = true
is_mild (Takes q) = true
is_mild (TakesConnect q) = true
is_mild (Dies who status) = true
is_mild (Unregisters who b) = true
is_mild (DropsViewsOf pid) = true
is_mild (DropsOwned b) = true
is_mild b = false

abbrev pub AreMild : List Basic → Type 0
AreMild bs = every is_mild bs ≡ true

mild-calm : (who : ℕ) (b : Basic) → is_mild b ≡ true → is_calm who b ≡ true
mild-calm who (Wakes a call status fields) is = refl
mild-calm who (Withdraws a) is = refl
mild-calm who (Marks a) is = refl
mild-calm who (LetsGo pid) is = refl
mild-calm who (Empties q) is = refl
mild-calm who (Unbinds b) is = refl
mild-calm who (Cuts b) is = refl
mild-calm who (DropsHandle pid value) is = refl
mild-calm who (Enters x) is = refl
mild-calm who (Takes q) is = refl
mild-calm who (TakesConnect q) is = refl
mild-calm who (Dies a status) is = refl
mild-calm who (Unregisters a b) is = refl
mild-calm who (DropsViewsOf pid) is = refl
mild-calm who (DropsOwned b) is = refl
mild-calm who b is = absurd (cc)

pub mild-orderly : (bs : List Basic) → AreMild bs → is_orderly bs ≡ true
mild-orderly [] is = refl
mild-orderly (Wakes who call status fields ∷ bs) is = and_from _ _ (every-more is_mild (is_calm who) (mild-calm who) bs is) (mild-orderly bs is)
mild-orderly (Withdraws a ∷ bs) is = mild-orderly bs is
mild-orderly (Marks a ∷ bs) is = mild-orderly bs is
mild-orderly (LetsGo pid ∷ bs) is = mild-orderly bs is
mild-orderly (Empties q ∷ bs) is = mild-orderly bs is
mild-orderly (Unbinds b ∷ bs) is = mild-orderly bs is
mild-orderly (Cuts b ∷ bs) is = mild-orderly bs is
mild-orderly (DropsHandle pid value ∷ bs) is = mild-orderly bs is
mild-orderly (Enters x ∷ bs) is = mild-orderly bs is
mild-orderly (Takes q ∷ bs) is = mild-orderly bs is
mild-orderly (TakesConnect q ∷ bs) is = mild-orderly bs is
mild-orderly (Dies a status ∷ bs) is = mild-orderly bs is
mild-orderly (Unregisters a b ∷ bs) is = mild-orderly bs is
mild-orderly (DropsViewsOf pid ∷ bs) is = mild-orderly bs is
mild-orderly (DropsOwned b ∷ bs) is = mild-orderly bs is
mild-orderly (b ∷ bs) is = absurd (cc)

pub mild-fine : (m : Group) (c : ℕ) (b : Basic) → is_mild b ≡ true → makes_fine m c b ≡ true
mild-fine m c (Wakes a call status fields) is = refl
mild-fine m c (Withdraws a) is = refl
mild-fine m c (Marks a) is = refl
mild-fine m c (LetsGo pid) is = refl
mild-fine m c (Empties q) is = refl
mild-fine m c (Unbinds b) is = refl
mild-fine m c (Cuts b) is = refl
mild-fine m c (DropsHandle pid value) is = refl
mild-fine m c (Enters x) is = refl
mild-fine m c (Takes q) is = refl
mild-fine m c (TakesConnect q) is = refl
mild-fine m c (Dies a status) is = refl
mild-fine m c (Unregisters a b) is = refl
mild-fine m c (DropsViewsOf pid) is = refl
mild-fine m c (DropsOwned b) is = refl
mild-fine m c b is = absurd (cc)

pub mild-paths : (w : World) (bs : List Basic) → AreMild bs → are_paths w bs ≡ true
mild-paths w [] is = refl
mild-paths w (Wakes a call status fields ∷ bs) is = mild-paths (basic w (Wakes a call status fields)) bs is
mild-paths w (Withdraws a ∷ bs) is = mild-paths (basic w (Withdraws a)) bs is
mild-paths w (Marks a ∷ bs) is = mild-paths (basic w (Marks a)) bs is
mild-paths w (LetsGo pid ∷ bs) is = mild-paths (basic w (LetsGo pid)) bs is
mild-paths w (Empties q ∷ bs) is = mild-paths (basic w (Empties q)) bs is
mild-paths w (Unbinds b ∷ bs) is = mild-paths (basic w (Unbinds b)) bs is
mild-paths w (Cuts b ∷ bs) is = mild-paths (basic w (Cuts b)) bs is
mild-paths w (DropsHandle pid value ∷ bs) is = mild-paths (basic w (DropsHandle pid value)) bs is
mild-paths w (Enters x ∷ bs) is = mild-paths (basic w (Enters x)) bs is
mild-paths w (Takes q ∷ bs) is = mild-paths (basic w (Takes q)) bs is
mild-paths w (TakesConnect q ∷ bs) is = mild-paths (basic w (TakesConnect q)) bs is
mild-paths w (Dies a status ∷ bs) is = mild-paths (basic w (Dies a status)) bs is
mild-paths w (Unregisters a b ∷ bs) is = mild-paths (basic w (Unregisters a b)) bs is
mild-paths w (DropsViewsOf pid ∷ bs) is = mild-paths (basic w (DropsViewsOf pid)) bs is
mild-paths w (DropsOwned b ∷ bs) is = mild-paths (basic w (DropsOwned b)) bs is
mild-paths w (b ∷ bs) is = absurd (cc)

pub mild-known : (m : Group) (memo : List Heard) (w : World) (bs : List Basic) → AreMild bs → are_known m memo w bs ≡ true
mild-known m memo w [] is = refl
mild-known m memo w (Wakes a call status fields ∷ bs) is = mild-known m memo (basic w (Wakes a call status fields)) bs is
mild-known m memo w (Withdraws a ∷ bs) is = mild-known m memo (basic w (Withdraws a)) bs is
mild-known m memo w (Marks a ∷ bs) is = mild-known m memo (basic w (Marks a)) bs is
mild-known m memo w (LetsGo pid ∷ bs) is = mild-known m memo (basic w (LetsGo pid)) bs is
mild-known m memo w (Empties q ∷ bs) is = mild-known m memo (basic w (Empties q)) bs is
mild-known m memo w (Unbinds b ∷ bs) is = mild-known m memo (basic w (Unbinds b)) bs is
mild-known m memo w (Cuts b ∷ bs) is = mild-known m memo (basic w (Cuts b)) bs is
mild-known m memo w (DropsHandle pid value ∷ bs) is = mild-known m memo (basic w (DropsHandle pid value)) bs is
mild-known m memo w (Enters x ∷ bs) is = mild-known m memo (basic w (Enters x)) bs is
mild-known m memo w (Takes q ∷ bs) is = mild-known m memo (basic w (Takes q)) bs is
mild-known m memo w (TakesConnect q ∷ bs) is = mild-known m memo (basic w (TakesConnect q)) bs is
mild-known m memo w (Dies a status ∷ bs) is = mild-known m memo (basic w (Dies a status)) bs is
mild-known m memo w (Unregisters a b ∷ bs) is = mild-known m memo (basic w (Unregisters a b)) bs is
mild-known m memo w (DropsViewsOf pid ∷ bs) is = mild-known m memo (basic w (DropsViewsOf pid)) bs is
mild-known m memo w (DropsOwned b ∷ bs) is = mild-known m memo (basic w (DropsOwned b)) bs is
mild-known m memo w (b ∷ bs) is = absurd (cc)

-- Steps by which rows go alone; of a port alone it is cut off
abbrev pub is_loss : Birth → Basic → Bool
is_loss b (Wakes who call status fields) = true
is_loss b (Withdraws who) = true
is_loss b (Marks who) = true
is_loss b (Empties q) = true
is_loss b (Unbinds x) = true
is_loss b (Cuts x) = same_birth x b
is_loss b (DropsHandle pid value) = true
is_loss b (Dies who status) = true
is_loss b (DropsOwned x) = true
is_loss b step = false

abbrev pub AreLosses : Birth → List Basic → Type 0
AreLosses b bs = every (is_loss b) bs ≡ true

loss-mild : (b : Birth) (x : Basic) → is_loss b x ≡ true → is_mild x ≡ true
loss-mild b (Wakes a call status fields) is = refl
loss-mild b (Withdraws a) is = refl
loss-mild b (Marks a) is = refl
loss-mild b (Empties q) is = refl
loss-mild b (Unbinds x) is = refl
loss-mild b (Cuts x) is = refl
loss-mild b (DropsHandle pid value) is = refl
loss-mild b (Dies who status) is = refl
loss-mild b (DropsOwned x) is = refl
loss-mild b x is = absurd (cc)

pub losses-mild : (b : Birth) (bs : List Basic) → AreLosses b bs → AreMild bs
losses-mild b bs is = every-more (is_loss b) is_mild (loss-mild b) bs is

loss-none : (b : Birth) (x : Basic) → is_loss b x ≡ true → sends_none x ≡ true
loss-none b (Wakes a call status fields) is = refl
loss-none b (Withdraws a) is = refl
loss-none b (Marks a) is = refl
loss-none b (Empties q) is = refl
loss-none b (Unbinds x) is = refl
loss-none b (Cuts x) is = refl
loss-none b (DropsHandle pid value) is = refl
loss-none b (Dies who status) is = refl
loss-none b (DropsOwned x) is = refl
loss-none b x is = absurd (cc)

pub losses-sent : (b : Birth) (w : World) (bs : List Basic) → AreLosses b bs → are_sent w bs ≡ true
losses-sent b w bs is = none-sent w bs (every-more (is_loss b) sends_none (loss-none b) bs is)

pub losses-fair : (m : Group) (c : ℕ) (b : Birth) (w : World) (bs : List Basic) → AreLosses b bs → are_fair m c w bs ≡ true
losses-fair m c b w [] is = refl
losses-fair m c b w (Wakes a call status fields ∷ bs) is = losses-fair m c b (basic w (Wakes a call status fields)) bs is
losses-fair m c b w (Withdraws a ∷ bs) is = losses-fair m c b (basic w (Withdraws a)) bs is
losses-fair m c b w (Marks a ∷ bs) is = losses-fair m c b (basic w (Marks a)) bs is
losses-fair m c b w (Empties q ∷ bs) is = losses-fair m c b (basic w (Empties q)) bs is
losses-fair m c b w (Unbinds x ∷ bs) is = losses-fair m c b (basic w (Unbinds x)) bs is
losses-fair m c b w (Cuts x ∷ bs) is = losses-fair m c b (basic w (Cuts x)) bs (second-true _ _ is)
losses-fair m c b w (DropsHandle pid value ∷ bs) is = losses-fair m c b (basic w (DropsHandle pid value)) bs is
losses-fair m c b w (Dies who status ∷ bs) is = losses-fair m c b (basic w (Dies who status)) bs is
losses-fair m c b w (DropsOwned x ∷ bs) is = losses-fair m c b (basic w (DropsOwned x)) bs is
losses-fair m c b w (x ∷ bs) is = absurd (cc)

-- steps that mark no event
abbrev pub no_mark : Basic → Bool
no_mark (Marks who) = false
no_mark b = true

pub losses-ours : (m : Group) (b : Birth) (w : World) (bs : List Basic) → m b.process ≡ true → AreLosses b bs → every no_mark bs ≡ true → are_ours m w bs ≡ true
losses-ours m b w [] inside is un = refl
losses-ours m b w (Wakes a call status fields ∷ bs) inside is un = losses-ours m b (basic w (Wakes a call status fields)) bs inside is un
losses-ours m b w (Withdraws a ∷ bs) inside is un = losses-ours m b (basic w (Withdraws a)) bs inside is un
losses-ours m b w (Empties q ∷ bs) inside is un = losses-ours m b (basic w (Empties q)) bs inside is un
losses-ours m b w (Unbinds x ∷ bs) inside is un = losses-ours m b (basic w (Unbinds x)) bs inside is un
losses-ours m b w (Cuts x ∷ bs) inside is un = rw (of_birth m x b (first-true _ _ is), inside) (losses-ours m b (basic w (Cuts x)) bs inside (second-true _ _ is) un)
losses-ours m b w (DropsHandle pid value ∷ bs) inside is un = losses-ours m b (basic w (DropsHandle pid value)) bs inside is un
losses-ours m b w (Dies who status ∷ bs) inside is un = losses-ours m b (basic w (Dies who status)) bs inside is un
losses-ours m b w (DropsOwned x ∷ bs) inside is un = losses-ours m b (basic w (DropsOwned x)) bs inside is un
losses-ours m b w (x ∷ bs) inside is un = absurd (cc)

losses-owned : (u : World) (b : Birth) (w : World) (bs : List Basic) → AreLosses b bs → Owned u w → Owned u (world_after w bs)
losses-owned u b w [] is o = o
losses-owned u b w (Wakes who call status fields ∷ bs) is o = losses-owned u b (basic w (Wakes who call status fields)) bs is (every-without (is_owned u) (waits_as who) w.waits o)
losses-owned u b w (Withdraws a ∷ bs) is o = losses-owned u b (basic w (Withdraws a)) bs is o
losses-owned u b w (Marks a ∷ bs) is o = losses-owned u b (basic w (Marks a)) bs is o
losses-owned u b w (Empties q ∷ bs) is o = losses-owned u b (basic w (Empties q)) bs is o
losses-owned u b w (Unbinds x ∷ bs) is o = losses-owned u b (basic w (Unbinds x)) bs is o
losses-owned u b w (Cuts x ∷ bs) is o = losses-owned u b (basic w (Cuts x)) bs (second-true _ _ is) o
losses-owned u b w (DropsHandle pid value ∷ bs) is o = losses-owned u b (basic w (DropsHandle pid value)) bs is o
losses-owned u b w (Dies who status ∷ bs) is o = losses-owned u b (basic w (Dies who status)) bs is (every-without (is_owned u) (waits_as who) w.waits o)
losses-owned u b w (DropsOwned x ∷ bs) is o = losses-owned u b (basic w (DropsOwned x)) bs is o
losses-owned u b w (x ∷ bs) is o = absurd (cc)

less-patient : (w : World) (test : MessageRow → Bool) (ws : List WaitRow) → every (is_patient w) ws ≡ true → every (is_patient (record w { messages = without test w.messages })) ws ≡ true
less-patient w test ws all = every-more (is_patient w) (is_patient (record w { messages = without test w.messages })) (λ x is. at x (has (λ z. takes z x) w.messages) refl is) ws all
  where
    at : (x : WaitRow) (b : Bool) → has (λ z. takes z x) w.messages ≡ b → is_patient w x ≡ true → is_patient (record w { messages = without test w.messages }) x ≡ true
    at x true come is = grind arith
    at x false none is = rw (has_none-without (λ z. takes z x) test w.messages none) (grind arith)

losses-patient : (b : Birth) (w : World) (bs : List Basic) → AreLosses b bs → Patient w → Patient (world_after w bs)
losses-patient b w [] is p = p
losses-patient b w (Wakes who call status fields ∷ bs) is p = losses-patient b (basic w (Wakes who call status fields)) bs is (every-without (is_patient w) (waits_as who) w.waits p)
losses-patient b w (Withdraws a ∷ bs) is p = losses-patient b (basic w (Withdraws a)) bs is (less-patient w (is_own_of a) w.waits p)
losses-patient b w (Marks a ∷ bs) is p = losses-patient b (basic w (Marks a)) bs is p
losses-patient b w (Empties q ∷ bs) is p = losses-patient b (basic w (Empties q)) bs is (less-patient w (is_queued q) w.waits p)
losses-patient b w (Unbinds x ∷ bs) is p = losses-patient b (basic w (Unbinds x)) bs is p
losses-patient b w (Cuts x ∷ bs) is p = losses-patient b (basic w (Cuts x)) bs (second-true _ _ is) p
losses-patient b w (DropsHandle pid value ∷ bs) is p = losses-patient b (basic w (DropsHandle pid value)) bs is p
losses-patient b w (Dies who status ∷ bs) is p = losses-patient b (basic w (Dies who status)) bs is (every-without (is_patient w) (waits_as who) w.waits p)
losses-patient b w (DropsOwned x ∷ bs) is p = losses-patient b (basic w (DropsOwned x)) bs is p
losses-patient b w (x ∷ bs) is p = absurd (cc)

abbrev pub Once : World → Type 0
Once w = (tid : ℕ) → count (waits_as tid) w.waits ≤ 1

losses-once : (b : Birth) (w : World) (bs : List Basic) → AreLosses b bs → Once w → Once (world_after w bs)
losses-once b w [] is o = o
losses-once b w (Wakes who call status fields ∷ bs) is o = losses-once b (basic w (Wakes who call status fields)) bs is (λ tid. count-less (waits_as tid) (waits_as who) w.waits 1 (o tid))
losses-once b w (Withdraws a ∷ bs) is o = losses-once b (basic w (Withdraws a)) bs is o
losses-once b w (Marks a ∷ bs) is o = losses-once b (basic w (Marks a)) bs is o
losses-once b w (Empties q ∷ bs) is o = losses-once b (basic w (Empties q)) bs is o
losses-once b w (Unbinds x ∷ bs) is o = losses-once b (basic w (Unbinds x)) bs is o
losses-once b w (Cuts x ∷ bs) is o = losses-once b (basic w (Cuts x)) bs (second-true _ _ is) o
losses-once b w (DropsHandle pid value ∷ bs) is o = losses-once b (basic w (DropsHandle pid value)) bs is o
losses-once b w (Dies who status ∷ bs) is o = losses-once b (basic w (Dies who status)) bs is (λ tid. count-less (waits_as tid) (waits_as who) w.waits 1 (o tid))
losses-once b w (DropsOwned x ∷ bs) is o = losses-once b (basic w (DropsOwned x)) bs is o
losses-once b w (x ∷ bs) is o = absurd (cc)

losses-clients : (b : Birth) (w : World) (bs : List Basic) → AreLosses b bs → Clients w → Clients (world_after w bs)
losses-clients b w [] is k = k
losses-clients b w (Wakes who call status fields ∷ bs) is k = losses-clients b (basic w (Wakes who call status fields)) bs is (every-without (is_client_wait w) (waits_as who) w.waits k)
losses-clients b w (Withdraws a ∷ bs) is k = losses-clients b (basic w (Withdraws a)) bs is k
losses-clients b w (Marks a ∷ bs) is k = losses-clients b (basic w (Marks a)) bs is k
losses-clients b w (Empties q ∷ bs) is k = losses-clients b (basic w (Empties q)) bs is k
losses-clients b w (Unbinds x ∷ bs) is k = losses-clients b (basic w (Unbinds x)) bs is k
losses-clients b w (Cuts x ∷ bs) is k = losses-clients b (basic w (Cuts x)) bs (second-true _ _ is) (cut-clients w x k)
losses-clients b w (DropsHandle pid value ∷ bs) is k = losses-clients b (basic w (DropsHandle pid value)) bs is k
losses-clients b w (Dies who status ∷ bs) is k = losses-clients b (basic w (Dies who status)) bs is (every-without (is_client_wait w) (waits_as who) w.waits k)
losses-clients b w (DropsOwned x ∷ bs) is k = losses-clients b (basic w (DropsOwned x)) bs is k
losses-clients b w (x ∷ bs) is k = absurd (cc)

losses-used : (b : Birth) (w : World) (bs : List Basic) → AreLosses b bs → (world_after w bs).used_threads ≡ w.used_threads
losses-used b w [] is = refl
losses-used b w (Wakes who call status fields ∷ bs) is = losses-used b (basic w (Wakes who call status fields)) bs is
losses-used b w (Withdraws a ∷ bs) is = losses-used b (basic w (Withdraws a)) bs is
losses-used b w (Marks a ∷ bs) is = losses-used b (basic w (Marks a)) bs is
losses-used b w (Empties q ∷ bs) is = losses-used b (basic w (Empties q)) bs is
losses-used b w (Unbinds x ∷ bs) is = losses-used b (basic w (Unbinds x)) bs is
losses-used b w (Cuts x ∷ bs) is = losses-used b (basic w (Cuts x)) bs (second-true _ _ is)
losses-used b w (DropsHandle pid value ∷ bs) is = losses-used b (basic w (DropsHandle pid value)) bs is
losses-used b w (Dies who status ∷ bs) is = losses-used b (basic w (Dies who status)) bs is
losses-used b w (DropsOwned x ∷ bs) is = losses-used b (basic w (DropsOwned x)) bs is
losses-used b w (x ∷ bs) is = absurd (cc)

-- What is known of each world while a port is closed
pub record Sure (m : Group) (c : ℕ) (u w : World) : Type 0 where
  pub c_in : m c ≡ true
  pub used : u.used_threads ≡ w.used_threads
  pub fair : Fair m c w
  pub fine : HasFineRows m c w
  pub owned : Owned u w
  pub patient : Patient w
  pub once : Once w
  pub paths : Paths w
  pub clients : Clients w
  pub asked : Asked w

pub sure-losses : (m : Group) (c : ℕ) (u : World) (b : Birth) (w : World) (bs : List Basic) → AreLosses b bs → Sure m c u w → Asked (world_after w bs) → Sure m c u (world_after w bs)
sure-losses m c u b w bs is s a = record {
  c_in = s.c_in;
  used = s.used ∙ sym (losses-used b w bs is);
  fair = run-fair m c w bs (losses-fair m c b w bs is) s.fair;
  fine = run-fine m c w bs (every-more is_mild (makes_fine m c) (mild-fine m c) bs (losses-mild b bs is)) s.fine;
  owned = losses-owned u b w bs is s.owned;
  patient = losses-patient b w bs is s.patient;
  once = losses-once b w bs is s.once;
  paths = run-paths w bs (mild-paths w bs (losses-mild b bs is)) s.paths;
  clients = losses-clients b w bs is s.clients;
  asked = a;
}
