-- Calls that make and join ports keep ports linked: such a port is new, and a connect is to one that names nothing.
use Rattle.lpc_base.proofs.Births.{birth-same}
use Rattle.lpc_base.proofs.RowMaps.{every-both, every-first, every-none}
use Rattle.lpc_base.proofs.RowWords.{every-more, every-push, first-passes}
use Rattle.lpc_base.specs.Rows.{every, first, has, passes}
use Rattle.lpc_base.specs.declared.port_kind.PortKind.{PortKind}
use Rattle.lpc_base.specs.declared.port_kind.PortKind.TheVariants.{Connection, Unnamed}
use Rattle.lpc_model.proofs.Calls.Holding.{Holds}
use Rattle.lpc_model.proofs.Linked.Joins.{joined-linked}
use Rattle.lpc_model.proofs.Linked.Steps.{is_plain, is_steady, linked-same, made-found, made-linked, plain-all, push-passes, steady-plain}
use Rattle.lpc_model.proofs.Steps.Rows.{has-off}
use Rattle.lpc_model.proofs.Sound.Connect.{names-offered}
use Rattle.lpc_model.proofs.Sound.Worlds.{by_kind}
use Rattle.lpc_model.proofs.Steps.Steady.{AreSteady, steady-enter}
use Rattle.lpc_model.proofs.Calls.Usable.{CanCall}
use Rattle.lpc_model.specs.Basics.{AddsHandle, Awaits, Basic, Binds, DrawsIdentifier, DrawsOrdinal, Makes, basic, world_after}
use Rattle.lpc_model.specs.Connect.{client_port, connect_wait, connection_request, create_steps, named_steps, names_connect, new_port, server_port, unnamed_steps, accept_start}
use Rattle.lpc_model.specs.Entering.{enter, row_of}
use Rattle.lpc_model.specs.Found.{free_handle, is_offered, is_port, port_name, port_row, same_birth, waits_as}
use Rattle.lpc_model.specs.Linked.{IsLinked, is_lone_offer, is_root_port, is_unjoined, leads_to_root, names_nothing}
use Rattle.lpc_model.specs.Named.{as_status, named_port, port_found}
use Rattle.lpc_model.specs.SoundWaits.{IsSoundWorld, can_stay_sound, is_past}
use Rattle.lpc_model.specs.Tests.{PORT_ACCESS, handle_row, next_birth}
use Rattle.lpc_model.specs.Then.{◌>>=◌}
use Rattle.lpc_model.specs.World.{Bindings, Birth, Message, Path, PortRow, ThreadRow, WaitRow, World, Offer}
use Rattle.lpc_names.proofs.Bound.{nameless-is-not-found}
use Rattle.lpc_names.specs.Binding.{has_name}
use Rattle.lpc_names.specs.Walk.{LinkTo, Stands, lookup}
use Rattle.lpc_names.specs.declared.fault.NameFault.{NameFault}
use Rattle.lpc_names.specs.declared.names.Found.{Found}
use Rattle.lpc_names.specs.declared.names.Found.TheVariants.{Directory, Item}
use Rattle.std.proofs.Common.{Bool, List, None, Option, Some, [], arith, false, not, refl, subst, true, ℕ, ◌∷◌, ◌≡◌}
use Rattle.std.proofs.Math.Bool.{or-true}
use Rattle.std.proofs.lemmas.Bool.{and_from, false_from_ne_true}
use Rattle.std.proofs.lemmas.Bool.Decides.{nat_tests}
use Rattle.std.specs.Prelude.{Err, Ok, Result, is_some, ◌&&◌, ◌==◌, ◌||◌}
use Rattle.lpc_model.specs.Offers.{SharedViews, acceptance}
use Rattle.lpc_model.proofs.Calls.Sharing.{connect_begun}

-- each step is plain
abbrev pub ArePlain : List Basic → Type 0
ArePlain bs = every is_plain bs ≡ true

-- steady steps are plain
pub steady-all : (w : World) (bs : List Basic) → AreSteady bs → IsLinked w → IsLinked (world_after w bs)
steady-all w bs steady l = plain-all w bs (every-more is_steady is_plain steady-plain bs steady) l

-- Ports that are made
-- no port has the birth of what a thread makes next
new-apart : (by : ThreadRow) (p : PortRow) → is_past p by ≡ true → not (is_port (next_birth by) p) ≡ true
new-apart by p is = grind (arith, nat_tests)

pub unmade : (w : World) (by : ThreadRow) → CanCall w by → IsSoundWorld w → has (is_port (next_birth by)) w.ports ≡ false
unmade w by c s = has-off (is_port (next_birth by)) w.ports (every-more (λ p. is_past p by) (λ p. not (is_port (next_birth by) p)) (new-apart by) w.ports (s.ordinals by.number by c.lives))

-- NtCreatePort
-- what a new port needs holds once its maker has drawn the ordinal
created-linked : (w : World) (by : ThreadRow) (kind : PortKind) → CanCall w by → IsSoundWorld w → IsLinked w → IsLinked (basic (basic w (DrawsOrdinal by.number)) (Makes (new_port (next_birth by) kind)))
created-linked w by kind c s l =
    made-linked (basic w (DrawsOrdinal by.number)) (new_port (next_birth by) kind) (unmade w by c s) refl refl (plain-all w (DrawsOrdinal by.number ∷ []) refl l)

bound-linked : (w : World) (path : Path) (port : Birth) → is_root_port w port ≡ true → IsLinked w → IsLinked (basic w (Binds path (Stands (Item port))))
bound-linked w path port is l = linked-same w (basic w (Binds path (Stands (Item port)))) refl (λ all. all) (λ all. every-push (λ b. leads_to_root w b.1) w.bindings (path, Stands (Item port)) all is) l

pub unnamed-linked : (w : World) (by : ThreadRow) → CanCall w by → IsSoundWorld w → IsLinked w → IsLinked (world_after w (create_steps by (unnamed_steps (next_birth by)) (free_handle w by.process)))
unnamed-linked w by c s l = plain-all _ (AddsHandle by.process (handle_row (free_handle w by.process) (port_name (next_birth by)) PORT_ACCESS) ∷ []) refl (created-linked w by Unnamed c s l)

pub named-linked : (w : World) (by : ThreadRow) (path : Path) → CanCall w by → IsSoundWorld w → IsLinked w → IsLinked (world_after w (create_steps by (named_steps (next_birth by) path) (free_handle w by.process)))
named-linked w by path c s l =
    let port = new_port (next_birth by) Connection in
    let drawn = basic w (DrawsOrdinal by.number) in
    let found = made-found drawn port (unmade w by c s) in
    let ends : is_root_port (basic drawn (Makes port)) (next_birth by) ≡ true = rw found refl in
    plain-all _ (AddsHandle by.process (handle_row (free_handle w by.process) (port_name (next_birth by)) PORT_ACCESS) ∷ []) refl
    (bound-linked (basic drawn (Makes port)) path (next_birth by) ends (created-linked w by Connection c s l))

-- NtConnectPort
-- a name leads to a port that names nothing
unnamed : (w : World) (bindings : Bindings Birth) → every (λ b. leads_to_root w b.1) bindings ≡ true → (port : Birth) → has_name (λ other _. not (is_root_port w other)) port bindings ≡ false
unnamed w [] ends port = refl
unnamed w ((path, LinkTo target) ∷ rest) ends port = unnamed w rest ends port
unnamed w ((path, Stands Directory) ∷ rest) ends port = unnamed w rest ends port
unnamed w ((path, Stands (Item other)) ∷ rest) ends port = grind (arith, unnamed w rest)

pub name-ends : (w : World) (text : List ℕ) → IsLinked w → Holds (λ port. is_root_port w port ≡ true) (named_port w text)
name-ends w text l = at (lookup w.bindings text) refl
  where
    at : (r : Result (Found Birth) NameFault) → lookup w.bindings text ≡ r → Holds (λ port. is_root_port w port ≡ true) (as_status r >>= port_found)
    at (Err fault) is = tt
    at (Ok Directory) is = tt
    at (Ok (Item port)) is =
        let closed = nameless-is-not-found (λ other _. not (is_root_port w other)) port port w.bindings text (unnamed w w.bindings l.targets port) is in grind arith

offered-linked : (w : World) (x : WaitRow) → is_lone_offer w x ≡ true → IsLinked w → IsLinked (basic w (Awaits x))
offered-linked w x is l = linked-same w (basic w (Awaits x)) refl (λ all. every-push (is_lone_offer w) w.waits x all is) (λ all. all) l

pub connected-linked : (w : World) (by : ThreadRow) (connection : Birth) (offer : Option Offer) (bytes : List ℕ) → CanCall w by → is_root_port w connection ≡ true → IsSoundWorld w → IsLinked w → (let m = connection_request by offer bytes in let u = world_after w (connect_begun by connection offer m) in IsLinked (world_after u (enter (row_of connection (client_port by connection) m) u)))
connected-linked w by connection offer bytes c ends s l =
    let m = connection_request by offer bytes in
    let port = client_port by connection in
    let x = connect_wait by connection offer m in
    let drawn = basic (basic w (DrawsIdentifier by.number)) (DrawsOrdinal by.number) in
    let made = basic drawn (Makes port) in
    let new = unmade w by c s in
    let t = made-linked drawn port new refl ends (plain-all w (DrawsIdentifier by.number ∷ DrawsOrdinal by.number ∷ []) refl l) in
    let found = made-found drawn port new in
    let lone : passes (port_row made (next_birth by)) is_unjoined ≡ true = rw found refl in
    let alone : is_lone_offer made x ≡ true = and_from (is_root_port made connection) (passes (port_row made (next_birth by)) is_unjoined) (push-passes drawn port connection names_nothing ends) lone in
    steady-all (basic made (Awaits x)) (enter (row_of connection port m) (world_after w (connect_begun by connection offer m))) (steady-enter (row_of connection port m) (world_after w (connect_begun by connection offer m))) (offered-linked made x alone t)

-- NtAcceptConnectPort
-- other connects wait elsewhere
elsewhere : (w : World) (by : ThreadRow) (x y : WaitRow) → (x.port.maker == x.thread) ≡ true → can_stay_sound w y ≡ true → not (waits_as by.number y) ≡ true → (waits_as x.thread y || (not (is_offered y) || (not (same_birth y.port x.port) && not (same_birth y.port (next_birth by))))) ≡ true
elsewhere w by x y own = by_kind (λ y. can_stay_sound w y ≡ true → not (waits_as by.number y) ≡ true → (waits_as x.thread y || (not (is_offered y) || (not (same_birth y.port x.port) && not (same_birth y.port (next_birth by))))) ≡ true)
    (λ y m is off. or-true _) (λ y is off. or-true _) (λ y is off. or-true _) (λ y m offer is off. grind (arith, nat_tests)) (λ y m r is off. or-true _) (λ y r is off. or-true _) y

pub lone-parts : (w : World) (x : WaitRow) → is_offered x ≡ true → is_lone_offer w x ≡ true → (is_root_port w x.queue ≡ true) × (passes (port_row w x.port) is_unjoined ≡ true)
lone-parts w x of lone = (one _ _ _ of lone, two _ _ _ of lone)
  where
    one : (o a b : Bool) → o ≡ true → (not o || (a && b)) ≡ true → a ≡ true
    one o a b is all = grind arith

    two : (o a b : Bool) → o ≡ true → (not o || (a && b)) ≡ true → b ≡ true
    two o a b is all = grind arith

offered-own : (w : World) (x : WaitRow) → is_offered x ≡ true → can_stay_sound w x ≡ true → (x.port.maker == x.thread) ≡ true
offered-own w = by_kind (λ x. is_offered x ≡ true → can_stay_sound w x ≡ true → (x.port.maker == x.thread) ≡ true) (λ x m of is. absurd (cc)) (λ x of is. absurd (cc)) (λ x of is. absurd (cc)) (λ x m offer of is. grind arith) (λ x m r of is. absurd (cc)) (λ x r of is. absurd (cc))

standing-apart : (w : World) (c b : Birth) → passes (port_row w c) is_unjoined ≡ true → has (is_port b) w.ports ≡ false → same_birth c b ≡ false
standing-apart w c b is none = false_from_ne_true (same_birth c b) (λ same. let here = subst (λ d. has (is_port d) w.ports ≡ true) (birth-same c b same) (stands (port_row w c) is) in cc)
  where
    stands : (o : Option PortRow) → passes o is_unjoined ≡ true → is_some o ≡ true
    stands None is = absurd (cc)
    stands (Some p) is = refl

pub accepted-linked : (w : World) (by : ThreadRow) (context value : ℕ) (views : SharedViews) (m : Message) (x : WaitRow) → first (names_connect w by m) w.waits ≡ Some x → CanCall w by → IsSoundWorld w → IsLinked w → IsLinked (world_after w (accept_start by context value (record { message = m; wait = x }) views))
accepted-linked w by context value views m x at c s l =
    let of = names-offered w by m x (first-passes (names_connect w by m) w.waits x at) in
    let lone = lone-parts w x of (every-first (is_lone_offer w) (names_connect w by m) w.waits x l.offers at) in
    let own = offered-own w x of (every-first (can_stay_sound w) (names_connect w by m) w.waits x s.stay at) in
    let server = next_birth by in
    let port = server_port server x.queue in
    let drawn = basic w (DrawsOrdinal by.number) in
    let new = unmade w by c s in
    let made = basic drawn (Makes port) in
    let t = made-linked drawn port new refl lone.0 (plain-all w (DrawsOrdinal by.number ∷ []) refl l) in
    let held = basic made (AddsHandle by.process (handle_row value (port_name server) PORT_ACCESS)) in
    let u = plain-all made (AddsHandle by.process (handle_row value (port_name server) PORT_ACCESS) ∷ []) refl t in
    let found = made-found drawn port new in
    let server_row : passes (port_row made server) is_unjoined ≡ true = rw found refl in
    joined-linked held x.port server context x.thread (acceptance m.body views) (record {
      client_row = push-passes drawn port x.port is_unjoined lone.1;
      server_row = server_row;
      apart = standing-apart w x.port server lone.1 new;
      others = every-both (can_stay_sound w) (λ y. not (waits_as by.number y)) _ (λ y is off. elsewhere w by x y own is off) w.waits s.stay (every-none (waits_as by.number) w.waits c.idle);
    }) u
