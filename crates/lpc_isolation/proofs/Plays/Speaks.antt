-- A call tells its caller something first, but for an exception that nothing handles: then its process is to end.
use Rattle.std.proofs.Common.{◌≡◌, ℕ, List, [], ◌∷◌, Bool, true, Some, refl}
use Rattle.lpc_model.specs.World.{ThreadRow, World}
use Rattle.lpc_model.specs.Found.{live_thread}
use Rattle.lpc_model.specs.Basics.{Basic, Dooms}
use Rattle.lpc_model.specs.Death.{end_threads}
use Rattle.lpc_model.specs.Lines.{ScriptLine, raise, run, set_information_process}
use Rattle.lpc_model.proofs.Calls.Lines.{AnyWorld, IsCalled, LineLaw}
use Rattle.lpc_model.proofs.Calls.Outcomes.{Outcomes, end_call}
use Rattle.lpc_model.proofs.Calls.Raising.{set-passes}
use Rattle.lpc_isolation.proofs.Calls.Doomed.{ended}
use Rattle.lpc_isolation.proofs.Closings.Mild.{AreMild}
use Rattle.lpc_isolation.proofs.Each.Listens.{tells_some}
use Rattle.lpc_isolation.proofs.Endings.Threads.{ends-mild}
use Rattle.lpc_isolation.proofs.Gone.Served.{own_served}
use Rattle.lpc_isolation.proofs.Gone.ServedLines.{served-line}
use Rattle.lpc_isolation.proofs.Rows.Firm.{Firm}

pub data Speaks (line : ScriptLine) (w : World) (bs : List Basic) : Type 0 where
  speaks : tells_some bs ≡ true → Speaks line w bs
  fails : (by : ThreadRow) (code : ℕ) (handled : Bool) → live_thread w by.number ≡ Some by → line ≡ run by.number (raise code handled) → bs ≡ Dooms by.process code ∷ [] → Speaks line w bs

mild-speaks : (bs : List Basic) → AreMild bs → tells_some bs ≡ true
mild-speaks [] is = refl
mild-speaks (Dooms pid code ∷ bs) is = absurd (cc)
mild-speaks (b ∷ bs) is = refl

speaks-calls : (by : ThreadRow) (w : World) → IsCalled AnyWorld w by → Outcomes w by (λ call. Speaks (run by.number call) w)
speaks-calls by w is = record {
  creates = λ dacl. speaks refl;
  founds = λ name dacl path free. speaks refl;
  connects = λ name quality view bytes offer own connection is. speaks refl;
  listens = λ handle port x is at. speaks refl;
  awaits_connect = λ handle port is at. speaks refl;
  refuses = λ context bytes view a at. speaks refl;
  accepts = λ context bytes view offer a views is. speaks refl;
  completes = λ handle r at. speaks refl;
  sends = λ handle bytes x at. speaks refl;
  asks = λ handle bytes x at. speaks refl;
  replies = λ handle bytes p b x at read fits. speaks refl;
  receives = λ handle bytes a p q replied x is first. speaks refl;
  awaits_message = λ handle bytes a p q replied is first. speaks refl;
  registers = λ handle port at off few. speaks refl;
  repeats = λ handle port at on. speaks refl;
  closes = λ handle r at. speaks refl;
  duplicates = λ handle access r at. speaks refl;
  queries = λ handle r at. speaks refl;
  spawns = λ pid tid new unused. speaks refl;
  starts = λ target tid pid at live unused. speaks refl;
  makes_section = λ size prot is. speaks refl;
  maps_view = λ handle offset size prot s rounded base is. speaks refl;
  unmaps_view = λ address v at. speaks refl;
  reads_memory = λ address n v at. speaks refl;
  writes_memory = λ address new v at may. speaks refl;
  reads_range = λ handle bytes index n d at. speaks refl;
  writes_range = λ handle bytes index new d at may. speaks refl;
  impersonates = λ handle bytes own is. speaks refl;
  reverts = λ class. speaks refl;
  opens_own = λ own at. speaks refl;
  opens_primary = speaks refl;
  asks_token = λ handle class t field at told. speaks refl;
  sets = λ target class handle pid port at found live. set-passes (λ bs. tells_some bs ≡ true → Speaks (run by.number (set_information_process target class handle)) w bs) by class pid port.birth speaks speaks (set-passes (λ bs. tells_some bs ≡ true) by class pid port.birth refl refl);
  handles = λ code handled. speaks refl;
  hears = λ code handled h is. speaks refl;
  fails = λ code handled. fails by code handled (let can = is.can in can.lives) refl refl;
  ends = λ call name own pid code ts doomed. ended (Speaks (run by.number (end_call call)) w) by name own pid code ts w (λ _. speaks (mild-speaks (end_threads pid code ts w) (ends-mild pid code ts w))) (λ _. speaks refl);
}

speaks-lines : LineLaw AnyWorld Speaks
speaks-lines = record {
  tells = λ line w e is. speaks refl;
  calls = speaks-calls;
  boots = λ w pid tid name content new unused s more. speaks refl;
  threads = λ w tid pid live unused s more. speaks refl;
  names = λ w name content more. speaks refl;
  dirs = λ w text path free more. speaks refl;
  links = λ w text target path to free more. speaks refl;
}

pub line-speaks : (w : World) (line : ScriptLine) → Firm w → Speaks line w (own_served line w)
line-speaks w line f = served-line AnyWorld Speaks speaks-lines w f.sound tt (λ line e. speaks refl) line
