-- Where there is no room for the views of a connection, there is none for what both sides offer.
use Rattle.std.proofs.Common.{◌≡◌, ℕ, ◌+◌, List, [], ◌++◌, Bool, true, false, cond, length, Option, Some, None, refl, sym, ◌∙◌}
use Rattle.std.specs.Prelude.{◌==◌, ◌||◌, Ok, is_some, option_to_list}
use Rattle.std.proofs.lemmas.List.{length-append}
use Rattle.lpc_connect.specs.Calls.{answer_with}
use Rattle.lpc_connect.specs.Room.{lacks_port_room}
use Rattle.lpc_connect.specs.Sharing.{AreGiven, lacks_accept_room, lacks_offered_room, lacks_shared_room, one_if, views_here}
use Rattle.lpc_connect.specs.declared.accept.Sharing.{Sharing}
use Rattle.lpc_model.specs.Connect.{answer_test}
use Rattle.lpc_model.specs.Found.{offer_of}
use Rattle.lpc_model.specs.declared.line.ViewWord.{ViewWord}
use Rattle.lpc_model.specs.declared.message.Message.{Message}
use Rattle.lpc_model.specs.World.{ThreadRow, WaitRow}
use Rattle.lpc_rows.specs.Kept.{Kept, Room}
use Rattle.lpc_rows.specs.Ready.{waiter}

-- two options of which both are there, or neither, count as many
same-count : {A B : Type 0} (o : Option A) (p : Option B) → is_some o ≡ is_some p → one_if o ≡ one_if p
same-count None None same = refl
same-count None (Some b) same = absurd (cc)
same-count (Some a) None same = absurd (cc)
same-count (Some a) (Some b) same = refl

module _ (x : WaitRow) (view : Option ViewWord) (v : Sharing) (given : AreGiven (is_some view) x v) where
  abbrev offered : ℕ
  offered = one_if view + one_if (offer_of x)

  here-count : length (views_here v) ≡ offered
  here-count = length-append (option_to_list v.own) (option_to_list v.theirs) ∙ (λ i. same-count v.own view given.own i + same-count v.theirs (offer_of x) given.theirs i)

  there-count : (both : Bool) → length (cond both (views_here v) [] ++ option_to_list v.across) ≡ cond both (offered + one_if view) (one_if view)
  there-count true = length-append (views_here v) (option_to_list v.across) ∙ (λ i. here-count i + same-count v.across view given.across i)
  there-count false = same-count v.across view given.across

either : (a b : Bool) → b ≡ true → (a || b) ≡ true
either true b is = refl
either false b is = is

pub lacks-offered : (w u : Kept) (by : ThreadRow) (pid tid : ℕ) (bytes : List ℕ) (view : Option ViewWord) (m : Message) (v : Sharing) → answer_test w.rows by bytes ≡ Ok (answer_with w.rows tid m) → AreGiven (is_some view) (waiter w.rows tid) v
    → u.rows ≡ w.rows → (let r : Room = u.room in r.views ≡ w.room.views) → pid ≡ by.process → lacks_shared_room u pid tid v ≡ true → lacks_accept_room w by bytes view ≡ true
lacks-offered w u by pid tid bytes view m v found given rows room caller lacks =
    let x : WaitRow = waiter w.rows tid in
    let all : lacks_shared_room u pid tid v ≡ lacks_offered_room w by x view =
    rw (rows, room, caller, here-count x view v given, there-count x view v given (x.process == by.process)) refl in
    rw (found) (either (lacks_port_room w by) (lacks_offered_room w by x view) (sym all ∙ lacks))
