-- The views of connections: what a connect or its answer offers, and where the views lie in both processes.
use Rattle.std.specs.Prelude.{ℕ, ◌%◌, ◌==◌, ◌++◌, not, true, List, [], ◌∷◌, Option, None, Some, option_map, Result, Ok}
use Rattle.lpc_base.specs.Rows.{given}
use Rattle.lpc_base.specs.declared.limits.TheConstants.{PAGE_SIZE}
use Rattle.lpc_base.specs.declared.status.Status.{Status}
use Rattle.lpc_base.specs.declared.status.TheConstants.{MAPPED_ALIGNMENT, SECTION_PROTECTION}
use Rattle.lpc_model.specs.Refusal.{refuse_if}
use Rattle.lpc_model.specs.Then.{◌>>=◌}
use Rattle.lpc_model.specs.World.{Acceptance, Birth, Offer, SectionRow, ThreadRow, ViewRow, WaitRow, World}
use Rattle.lpc_model.specs.Found.{offer_of}
use Rattle.lpc_model.specs.Basics.{Basic, Maps, world_after}
use Rattle.lpc_model.specs.Lines.{ViewWord}
use Rattle.lpc_model.specs.Memory.{SECTION_MAP_WRITE, base_test, section_test, size_test}
use Rattle.lpc_model.specs.Tests.{next_birth}

-- a test of what is given; nothing is found where nothing is given
abbrev pub if_given : {A B : Type 0} → (A → Result B Status) → Option A → Result (Option B) Status
if_given test None = Ok None
if_given test (Some x) = do
  found ← test x
  Ok (Some found)

-- Offers
-- what a view word wants to be seen: a section, from an offset on, and so many bytes, or where that is 0 all up to its end
pub record Wanted : Type 0 where
  pub section : SectionRow
  pub offset : ℕ
  pub size : ℕ

-- the section that the word's handle names, which is to be written
abbrev pub wanted_test : World → ThreadRow → ViewWord → Result Wanted Status
wanted_test w by word = do
  s ← section_test w by SECTION_MAP_WRITE word.handle
  Ok (record { section = s; offset = word.offset; size = word.size })

-- what is offered then: an offset that is no whole page, a section that may not be written, a view that would pass it
abbrev pub offer_test : Wanted → Result Offer Status
offer_test v = do
  _ ← refuse_if (not (v.offset % PAGE_SIZE == 0)) MAPPED_ALIGNMENT
  _ ← refuse_if (not v.section.writable) SECTION_PROTECTION
  size ← size_test v.section v.offset v.size
  Ok (record { section = v.section.birth; offset = v.offset; size = size })

-- the size of what is offered, 0 where nothing is
abbrev pub offered_size : Option Offer → ℕ
offered_size None = 0
offered_size (Some o) = o.size

-- Views
-- a view of what is offered, which a port owns and through which it is written
abbrev pub offered_view : Birth → Offer → ℕ → ViewRow
offered_view port o base = record {
  base = base;
  size = o.size;
  section = o.section;
  offset = o.offset;
  writable = true;
  owner = Some port;
}

-- such a view of a process: too many views, no free place
abbrev pub view_test : World → ℕ → Birth → Offer → Result ViewRow Status
view_test w pid port o = do
  base ← base_test w pid o.size
  Ok (offered_view port o base)

-- the process gets the view
abbrev pub mapped : ℕ → Option ViewRow → List Basic
mapped pid view = given view (λ v. Maps pid v ∷ [])

abbrev pub base_of : Option ViewRow → Option ℕ
base_of view = option_map (λ v. v.base) view

abbrev pub size_of_view : Option ViewRow → Option ℕ
size_of_view view = option_map (λ v. v.size) view

-- The views of a connection: that of the server's offer in the server's own process, that of the client's offer there,
-- and that of the server's offer in the client's process.
pub record SharedViews : Type 0 where
  pub own : Option ViewRow
  pub theirs : Option ViewRow
  pub across : Option ViewRow

-- the server's process gets the two views that the server port owns, and the client's the one that its client port owns
abbrev pub server_views : ThreadRow → Option ViewRow → Option ViewRow → List Basic
server_views by own theirs = mapped by.process own ++ mapped by.process theirs

abbrev pub shared_steps : ThreadRow → WaitRow → SharedViews → List Basic
shared_steps by x v = server_views by v.own v.theirs ++ mapped x.process v.across

-- each view has its place beside those that stand and those that are mapped before it
abbrev pub shared_test : World → ThreadRow → WaitRow → Option Offer → Result SharedViews Status
shared_test w by x offer = do
  own ← if_given (view_test w by.process (next_birth by)) offer
  theirs ← if_given (view_test (world_after w (mapped by.process own)) by.process (next_birth by)) (offer_of x)
  across ← if_given (view_test (world_after w (server_views by own theirs)) x.process x.port) offer
  Ok (record { own = own; theirs = theirs; across = across })

-- what the client is told of them when the connection is completed, with the bytes of the answer
abbrev pub acceptance : List ℕ → SharedViews → Acceptance
acceptance reply v =
    record { reply = reply; target = base_of v.theirs; vbase = base_of v.across; vsize = size_of_view v.across }
