-- The views of a connection that is accepted: what the tests find, where the views may lie, and the room that they need.
use Rattle.std.specs.Prelude.{◌≡◌, ℕ, ◌+◌, ◌≤◌, ◌==◌, ◌++◌, ◌||◌, Bool, false, true, List, [], length, map, nat_lt, Option, Some, is_some, option_to_list, Result, Ok, Err, IfOk, IfSome, if◌then◌else◌}
use Rattle.lpc_base.specs.Rows.{has}
use Rattle.lpc_base.specs.declared.birth.Birth.{Birth}
use Rattle.lpc_base.specs.declared.status.Status.{Status}
use Rattle.lpc_connect.specs.declared.accept.Sharing.{Sharing}
use Rattle.lpc_connect.specs.Room.{lacks_port_room}
use Rattle.lpc_model.specs.Connect.{ConnectAnswer, answer_test}
use Rattle.lpc_model.specs.Found.{is_table, offer_of}
use Rattle.lpc_model.specs.declared.line.ViewWord.{ViewWord}
use Rattle.lpc_model.specs.Offers as model
use Rattle.lpc_model.specs.Tests.{next_birth}
use Rattle.lpc_model.specs.World.{ThreadRow, WaitRow, World}
use Rattle.lpc_rows.specs.Capacity.{Capacity, view_places}
use Rattle.lpc_rows.specs.Clauses.{Answers, base_beside, is_of_section}
use Rattle.lpc_rows.specs.Kept.{Kept, view_room}
use Rattle.lpc_rows.specs.Names.{stands}
use Rattle.lpc_rows.specs.Ready.{waiter}
use Rattle.lpc_slots.specs.declared.Key.{Key}
use Rattle.lpc_steps.specs.Offers.{offer_shown, views_owned}
use Rattle.lpc_views.specs.Views.{is_placed}
use Rattle.lpc_views.specs.declared.view.View.{View}
use Rattle.lpc_waits.specs.declared.Offer.{Offer}

-- the views as they go with the two ports
abbrev pub shown_sharing : Kept → Birth → Birth → Sharing → model.SharedViews
shown_sharing w server client v = record {
  own = views_owned w server v.own;
  theirs = views_owned w server v.theirs;
  across = views_owned w client v.across;
}

-- what the tests of the views find, for the connect of a thread
abbrev pub SharesAs : Kept → ThreadRow → ℕ → Option Offer → Result Sharing Status → Type 0
SharesAs w by tid offer result =
    let x : WaitRow = waiter w.rows tid in
    Answers result (shown_sharing w (next_birth by) x.port) (model.shared_test w.rows by x (offer_shown w offer))

-- a view has its place in a process beside further ones, which aren't mapped
pub record CanLieBeside (w : Kept) (pid : ℕ) (others : List (View Key)) (view : View Key) : Type 0 where
  pub section : stands w.births.sections view.section ≡ true
  pub part : is_of_section w view ≡ true
  pub placed : is_placed view ≡ true
  pub base : base_beside w pid others view.size ≡ Some view.base

-- the process of the thread that waits has a table of handles
abbrev pub HasClientTable : World → ℕ → Type 0
HasClientTable w tid = let x = waiter w tid in has (is_table x.process) w.handles ≡ true

-- each process that has a table of handles has one of views
abbrev pub HasSpaces : World → Type 0
HasSpaces w = map (λ t. t.process) w.views ≡ map (λ t. t.process) w.handles

-- there is a view for what the caller offers in each process, and one for what the client offers
pub record AreGiven (offered : Bool) (x : WaitRow) (v : Sharing) : Type 0 where
  pub own : is_some v.own ≡ offered
  pub theirs : is_some v.theirs ≡ is_some (offer_of x)
  pub across : is_some v.across ≡ offered

-- those in the caller's process, and those of them that lie in the client's too
abbrev pub views_here : Sharing → List (View Key)
views_here v = option_to_list v.own ++ option_to_list v.theirs

abbrev pub views_there : Kept → ℕ → ℕ → Sharing → List (View Key)
views_there w pid tid v = let x = waiter w.rows tid in if x.process == pid then views_here v else []

-- each view has its place beside those that are mapped before it
pub record CanShare (w : Kept) (pid tid : ℕ) (v : Sharing) : Type 0 where
  pub own : IfSome v.own (CanLieBeside w pid [])
  pub theirs : IfSome v.theirs (CanLieBeside w pid (option_to_list v.own))
  pub across : let x = waiter w.rows tid in IfSome v.across (CanLieBeside w x.process (views_there w pid tid v))

-- Room
-- how many views are to be mapped into the client's process
abbrev pub count_there : Kept → ℕ → ℕ → Sharing → ℕ
count_there w pid tid v = length (views_there w pid tid v ++ option_to_list v.across)

-- there is room for all of them; there isn't
pub record HasSharedRoom (w : Kept) (pid tid : ℕ) (v : Sharing) : Type 0 where
  pub here : length (views_here v) ≤ view_room w.room pid
  pub there : let x = waiter w.rows tid in count_there w pid tid v ≤ view_room w.room x.process

abbrev pub lacks_shared_room : Kept → ℕ → ℕ → Sharing → Bool
lacks_shared_room w pid tid v =
    let x = waiter w.rows tid in
    nat_lt (view_room w.room pid) (length (views_here v)) || nat_lt (view_room w.room x.process) (count_there w pid tid v)

-- the same by what both sides offer: one view more for each in the caller's process, and one in the client's
abbrev pub one_if : {A : Type 0} → Option A → ℕ
one_if o = length (option_to_list o)

abbrev pub lacks_offered_room : Kept → ThreadRow → WaitRow → Option ViewWord → Bool
lacks_offered_room w by x view =
    let here = one_if view + one_if (offer_of x) in
    let there = if x.process == by.process then here + one_if view else one_if view in
    nat_lt (view_room w.room by.process) here || nat_lt (view_room w.room x.process) there

abbrev pub lacks_answer_room : Kept → ThreadRow → Option ViewWord → Result ConnectAnswer Status → Bool
lacks_answer_room w by view (Err s) = false
lacks_answer_room w by view (Ok a) = lacks_offered_room w by a.wait view

-- without memory there is no room for a server port, for its handle, or for the views of a connection
abbrev pub lacks_accept_room : Kept → ThreadRow → List ℕ → Option ViewWord → Bool
lacks_accept_room w by bytes view = lacks_port_room w by || lacks_answer_room w by view (answer_test w.rows by bytes)

-- Memory
-- the tables of views of all processes but two have the memory that they had
abbrev pub KeepsSharedPlaces : ℕ → ℕ → Capacity → Capacity → Type 0
KeepsSharedPlaces pid client old new =
    (other : ℕ) → (other == pid) ≡ false → (other == client) ≡ false → view_places new other ≡ view_places old other

-- those two are the process of a caller and that of the client whose connect its message answers
abbrev pub KeepsUnansweredPlaces : Kept → Kept → ThreadRow → List ℕ → Type 0
KeepsUnansweredPlaces old new by bytes =
    IfOk (answer_test old.rows by bytes) (λ a. KeepsSharedPlaces by.process a.wait.process old.capacity new.capacity)
