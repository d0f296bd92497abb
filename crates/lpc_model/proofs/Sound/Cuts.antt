-- A connection that is cut, once what needs it has ended, keeps a world's waits sound.
use Rattle.std.proofs.Common.{◌≡◌, List, [], ◌∷◌, ◌++◌, Bool, map, true, false, cond, not, Option, Some, None, refl, sym, subst, arith, ℕ}
use Rattle.std.specs.Prelude.{◌&&◌, ◌||◌, ◌==◌}
use Rattle.std.proofs.lemmas.Bool.{and_from}
use Rattle.lpc_base.specs.Rows.{change, each, every, has, passes, which, without}
use Rattle.lpc_base.proofs.RowWords.{every-change, every-more, every-without, first-passes, has-change, has_none-without}
use Rattle.lpc_base.proofs.RowMaps.{every-both, every-change_to}
use Rattle.lpc_base.proofs.Births.{birth-same, birth-self, births-apart}
use Rattle.lpc_base.proofs.Bools.{first-off, first-true, second-off, second-true}
use Rattle.lpc_model.specs.World.{Birth, PortRow, Receive, ViewTable, WaitRow, World, Event}
use Rattle.lpc_model.specs.Found.{is_accepted, is_client_port, is_open, is_port, is_server_port, is_the, pair_of, port_row, same_birth, waits_as, is_made_on, is_mark, is_marked}
use Rattle.lpc_model.specs.Basics.{Cuts, basic, cut, is_end_of, without_owned, world_after, left_by}
use Rattle.lpc_model.specs.Tests.{is_client}
use Rattle.lpc_model.specs.Close.{end_accepted, is_accepted_across, is_across, is_event_across, is_event_on, is_receive_across, is_receiver, is_request_across, is_request_on}
use Rattle.lpc_model.specs.Connect.{is_accepted_on}
use Rattle.lpc_model.specs.SoundWaits.{IsSoundWorld, has_come, is_sound_connect, waiter_of, is_awaited, is_connect_on, is_joined, lacks_connects, is_answerable, is_sound_request}
use Rattle.lpc_model.proofs.Steps.Rows.{count-less, every-left, first-change, first-map, has-without}
use Rattle.lpc_model.proofs.Calls.Usable.{by_port_kind}
use Rattle.lpc_model.proofs.Sound.Pairs.{IsTied, awaited-kept, cut-awaited, lacks-parts, on-kept, tied, tied-of}
use Rattle.lpc_model.proofs.Sound.Ties.{same-port}
use Rattle.lpc_model.proofs.Sound.Worlds.{WaitOnce, by_kind, is_sure, sound-from, sound-memory, sure-waits, exempt, is_sure_event}
use Rattle.lpc_model.proofs.Sound.Ports.{order-mapped}
use Rattle.lpc_model.proofs.Sound.Less.{failing-apart, passing-shares, shares}
use Rattle.lpc_model.proofs.Steps.InTurn.{after-append}
use Rattle.lpc_model.proofs.Sound.Basics.{still-marked}

-- Waits without those of some rows
abbrev pub rest : List WaitRow → List WaitRow → List WaitRow
rest [] ws = ws
rest (x ∷ xs) ws = rest xs (without (waits_as x.thread) ws)

-- tables of views without those of the client ports of some waits
abbrev pub disowned : List WaitRow → List ViewTable → List ViewTable
disowned [] ts = ts
disowned (x ∷ xs) ts = disowned xs (map (without_owned x.port) ts)

-- marks without those of some rows
abbrev pub rest_marks : List WaitRow → List ℕ → List ℕ
rest_marks [] ns = ns
rest_marks (x ∷ xs) ns = rest_marks xs (without (is_mark x.thread) ns)

pub ended-world : (xs : List WaitRow) (w : World) → world_after w (each end_accepted xs) ≡ record w { waits = rest xs w.waits; marks = rest_marks xs w.marks; views = disowned xs w.views }
ended-world [] w = refl
ended-world (x ∷ xs) w = ended-world xs (record (left_by x.thread w) { views = map (without_owned x.port) w.views })

-- the marks of other rows stay
pub still-rest : (y : WaitRow) (xs : List WaitRow) (ns : List ℕ) → not (shares xs y) ≡ true → has (is_mark y.thread) ns ≡ true → has (is_mark y.thread) (rest_marks xs ns) ≡ true
still-rest y [] ns off is = is
still-rest y (x ∷ xs) ns off is =
    let here : not (waits_as x.thread y) ≡ true = grind arith in
    let later : not (shares xs y) ≡ true = grind arith in
    still-rest y xs (without (is_mark x.thread) ns) later (still-marked x.thread y ns here is)

pub every-rest : (f : WaitRow → Bool) (xs ws : List WaitRow) → every f ws ≡ true → every f (rest xs ws) ≡ true
every-rest f [] ws all = all
every-rest f (x ∷ xs) ws all = every-rest f xs (without (waits_as x.thread) ws) (every-without f (waits_as x.thread) ws all)

once-rest : (xs ws : List WaitRow) → WaitOnce ws → WaitOnce (rest xs ws)
once-rest [] ws once = once
once-rest (x ∷ xs) ws once = once-rest xs (without (waits_as x.thread) ws) (λ tid. count-less (waits_as tid) (waits_as x.thread) ws 1 (once tid))

none-rest : (p : WaitRow → Bool) (xs ws : List WaitRow) → has p ws ≡ false → has p (rest xs ws) ≡ false
none-rest p [] ws none = none
none-rest p (x ∷ xs) ws none = none-rest p xs (without (waits_as x.thread) ws) (has_none-without p (waits_as x.thread) ws none)

first-parts : (p : WaitRow → Bool) (x : WaitRow) (xs : List WaitRow) (y : WaitRow) → (not (p y) || not (shares (x ∷ xs) y)) ≡ true → (not (waits_as x.thread y) || not (p y)) ≡ true
first-parts p x xs y is = grind arith

later-parts : (p : WaitRow → Bool) (x : WaitRow) (xs : List WaitRow) (y : WaitRow) → (not (p y) || not (shares (x ∷ xs) y)) ≡ true → (not (p y) || not (shares xs y)) ≡ true
later-parts p x xs y is = grind arith

has-rest : (p : WaitRow → Bool) (xs ws : List WaitRow) → every (λ y. not (p y) || not (shares xs y)) ws ≡ true → has p ws ≡ true → has p (rest xs ws) ≡ true
has-rest p [] ws apart is = is
has-rest p (x ∷ xs) ws apart is =
    has-rest p xs (without (waits_as x.thread) ws)
    (every-without (λ y. not (p y) || not (shares xs y)) (waits_as x.thread) ws (every-more _ _ (later-parts p x xs) ws apart))
    (has-without p (waits_as x.thread) ws (every-more _ _ (first-parts p x xs) ws apart) is)

pub rest-ends : (xs ws : List WaitRow) → every (λ y. not (shares xs y)) (rest xs ws) ≡ true
rest-ends [] ws = none-shares ws
  where
    none-shares : (ws : List WaitRow) → every (λ y. not (shares [] y)) ws ≡ true
    none-shares [] = refl
    none-shares (y ∷ ys) = none-shares ys
rest-ends (x ∷ xs) ws =
    every-both (λ y. not (waits_as x.thread y)) (λ y. not (shares xs y)) (λ y. not (shares (x ∷ xs) y)) (λ y one two. grind arith) (rest xs (without (waits_as x.thread) ws)) (every-rest _ xs (without (waits_as x.thread) ws) (every-left (waits_as x.thread) ws)) (rest-ends xs (without (waits_as x.thread) ws))

-- Ports behind the cut
pub cut-birth : (c : Bool) (p : PortRow) → let q : PortRow = cond c (cut p) p in q.birth ≡ p.birth
cut-birth true p = refl
cut-birth false p = refl

pub cut-row : (w : World) (b c : Birth) (p : PortRow) → port_row w c ≡ Some p → port_row (basic w (Cuts b)) c ≡ Some (cond (is_end_of b p) (cut p) p)
cut-row w b c p at =
    first-map (is_port c) (λ p. cond (is_end_of b p) (cut p) p) (λ p. same-port c p (cond (is_end_of b p) (cut p) p) (cut-birth (is_end_of b p) p)) w.ports p at

pub no-row : (w : World) (b c : Birth) → port_row w c ≡ None → port_row (basic w (Cuts b)) c ≡ None
no-row w b c none = rw (first-change (is_port c) (is_end_of b) cut (λ p. refl) w.ports, none) refl

-- a port that is neither the one that is cut nor its other end stands as it was
pub same-row : (w : World) (b c : Birth) → same_birth c b ≡ false → is_the b (pair_of w c) ≡ false → port_row (basic w (Cuts b)) c ≡ port_row w c
same-row w b c apart off = at (port_row w c) refl
  where
    at : (o : Option PortRow) → port_row w c ≡ o → port_row (basic w (Cuts b)) c ≡ o
    at None none = no-row w b c none
    at (Some p) here =
        let other = subst (λ d. same_birth d b ≡ false) (sym (birth-same p.birth c (first-passes (is_port c) w.ports p here))) apart in
        let unpaired : is_the b p.pair ≡ false = rw here at off in
        rw (cut-row w b c p here, other, unpaired) refl

-- Waits behind the cut
-- what is known of each wait: nothing that needs the pair is left
abbrev pub is_free_of : World → Birth → WaitRow → Bool
is_free_of w b x =
    not (is_receiver b x) && (not (is_request_on b x) && (not (is_request_across b w x) && (not (is_receive_across b w x) && (not (is_event_on b w x) && not (is_event_across b w x)))))

-- a receive there waits on no client port
joined-cut : (p : PortRow) → is_client_port p ≡ false → is_joined (cut p) ≡ true
joined-cut = by_port_kind (λ p. is_client_port p ≡ false → is_joined (cut p) ≡ true) (λ p off. refl) (λ p off. refl) (λ p off. absurd (cc)) (λ p off. refl)

receive-joined : (w : World) (b c : Birth) → same_birth c b ≡ false → (is_the b (pair_of w c) && passes (port_row w c) is_client_port) ≡ false → passes (port_row w c) is_joined ≡ true → passes (port_row (basic w (Cuts b)) c) is_joined ≡ true
receive-joined w b c apart off is = at (port_row w c) refl
  where
    here : (p : PortRow) (own paired : Bool) → own ≡ false → (paired && is_client_port p) ≡ false → is_joined p ≡ true → let q : PortRow = cond (own || paired) (cut p) p in is_joined q ≡ true
    here p true paired never off is = absurd (cc)
    here p false true never off is = joined-cut p off
    here p false false never off is = is

    at : (o : Option PortRow) → port_row w c ≡ o → passes (port_row (basic w (Cuts b)) c) is_joined ≡ true
    at None none = let never : false ≡ true = rw none at is in absurd (cc)
    at (Some p) row =
        let other = subst (λ d. same_birth d b ≡ false) (sym (birth-same p.birth c (first-passes (is_port c) w.ports p row))) apart in
        let was : is_joined p ≡ true = rw row at is in
        let off' : (is_the b p.pair && is_client_port p) ≡ false = rw row at off in
        let still = here p (is_port b p) (is_the b p.pair) other off' was in
        rw (cut-row w b c p row) still

-- the parts of what is known
receive-parts : (c o q h j i z : Bool) → (j ≡ true → i ≡ true) → ((c && (o && (q && (not h && j)))) && z) ≡ true → ((c && (o && (q && (not h && i)))) && z) ≡ true
receive-parts c o q h j i z still is = grind (arith, still)

stands-parts : (c s h g m : Bool) → (h ≡ true → g ≡ true) → ((c && s) && (h && m)) ≡ true → ((c && s) && (g && m)) ≡ true
stands-parts c s h g m still is = grind (arith, still)

served-parts : (c s t h g m : Bool) → t ≡ s → (h ≡ true → g ≡ true) → ((c && s) && (h && m)) ≡ true → ((c && t) && (g && m)) ≡ true
served-parts c s t h g m same still is = grind (arith, still)

free-event : (m d x : Bool) → ((true && (true && (true && (true && (not (not m && d) && not (not m && x)))))) && true) ≡ true → (not (not m && d) && not (not m && x)) ≡ true
free-event m d x is = grind arith

client-alone : (w : World) (b : Birth) (x : WaitRow) → is_marked w x ≡ true → is_sure_event w x ≡ true → is_sure_event (basic w (Cuts b)) x ≡ true
client-alone w b x m is = parts (is_client w (waiter_of x)) (is_marked w x) (is_sound_request w x) (is_answerable w x) (is_sound_request (basic w (Cuts b)) x) (is_answerable (basic w (Cuts b)) x) m is
  where
    parts : (c m s a t d : Bool) → m ≡ true → ((c && (m || s)) && (m || a)) ≡ true → ((c && (m || t)) && (m || d)) ≡ true
    parts c m s a t d one is = grind arith

event-cut : (w : World) (b : Birth) (x : WaitRow) (made : Bool) → is_made_on b x ≡ made → (across : Bool) → is_across w b x ≡ across → (m : Bool) → is_marked w x ≡ m → (not (not m && made) && not (not m && across)) ≡ true → is_sure_event w x ≡ true → is_sure_event (basic w (Cuts b)) x ≡ true
event-cut w b x made one across two true three free is = client-alone w b x three is
event-cut w b x made one across two false three free is =
    let apart : same_birth x.port b ≡ false = grind arith in
    let off : is_the b (pair_of w x.port) ≡ false = grind arith in
    rw (same-row w b x.port apart off) is

cut-sure : (w : World) (b : Birth) (x : WaitRow) → is_sure w x ≡ true → (is_free_of w b x && not (is_accepted_across b w x)) ≡ true → is_sure (basic w (Cuts b)) x ≡ true
cut-sure w b =
    let v = basic w (Cuts b) in
    let stands = λ (x : WaitRow) (is : has (is_port x.port) w.ports ≡ true). subst (λ h. h ≡ true) (sym (has-change (is_port x.port) (is_end_of b) cut (λ p. refl) w.ports)) is in
    by_kind (λ x. is_sure w x ≡ true → (is_free_of w b x && not (is_accepted_across b w x)) ≡ true → is_sure v x ≡ true)
    (λ x m is free.
    let made : same_birth x.port b ≡ false = grind arith in
    let across : is_the b (pair_of w x.port) ≡ false = grind arith in
    rw (same-row w b x.port made across) is)
    (λ x is free.
    let made : same_birth x.port b ≡ false = grind arith in
    let across : (is_the b (pair_of w x.port) && passes (port_row w x.port) is_client_port) ≡ false = grind arith in
    receive-parts (is_client w (waiter_of x)) (is_open w x.port) (is_open w x.queue) (has_come w (record x { kind = Receive })) (passes (port_row w x.port) is_joined) (passes (port_row v x.port) is_joined) true (receive-joined w b x.port made across) is)
    (λ x is free. is)
    (λ x m offer is free. stands-parts (is_client w (waiter_of x)) (is_sound_connect w x) (has (is_port x.port) w.ports) (has (is_port x.port) v.ports) (x.port.maker == x.thread) (stands x) is)
    (λ x m reply is free.
    let made : same_birth x.port b ≡ false = grind arith in
    let across : is_the b (pair_of w x.port) ≡ false = grind arith in
    let same : passes (pair_of v x.port) (is_open w) ≡ passes (pair_of w x.port) (is_open w) = rw (same-row w b x.port made across) refl in
    served-parts (is_client w (waiter_of x)) (passes (pair_of w x.port) (is_open w)) (passes (pair_of v x.port) (is_open w)) (has (is_port x.port) w.ports) (has (is_port x.port) v.ports) (x.port.maker == x.thread) same (stands x) is)
    (λ x r is free. event-cut w b x (is_made_on b x) refl (is_across w b x) refl (is_marked w x) refl (free-event (is_marked w x) (is_made_on b x) (is_across w b x) free) is)

-- Connections behind the cut
the-same : (a b : Birth) (o : Option Birth) → is_the a o ≡ true → is_the b o ≡ true → same_birth a b ≡ true
the-same a b None one two = absurd (cc)
the-same a b (Some c) one two = let same : a ≡ c = birth-same a c one in let other : b ≡ c = birth-same b c two in rw (same, other) (birth-self c)

-- the other end of an awaited connection that isn't cut isn't cut either
pub other-end : (w : World) (b : Birth) (p : PortRow) (c : Birth) → is_end_of b p ≡ false → p.pair ≡ Some c → is_the p.birth (pair_of w c) ≡ true → (same_birth c b ≡ false) × (is_the b (pair_of w c) ≡ false)
other-end w b p c off some back = (apart, at (is_the b (pair_of w c)) refl)
  where
    unpaired : is_the b p.pair ≡ false
    unpaired = second-off (is_port b p) (is_the b p.pair) off

    apart : same_birth c b ≡ false
    apart = let one : same_birth b c ≡ false = rw some at unpaired in births-apart b c one

    at : (x : Bool) → is_the b (pair_of w c) ≡ x → x ≡ false
    at true is =
        let same = the-same p.birth b (pair_of w c) back is in
        let never = first-off (is_port b p) (is_the b p.pair) off in absurd (cc)
    at false is = refl

-- an accepted connect stays where it has nothing to do with the cut
still-waits : (w : World) (b c : Birth) → same_birth c b ≡ false → is_the b (pair_of w c) ≡ false → WaitOnce w.waits → has (is_accepted_on c) w.waits ≡ true → has (is_accepted_on c) (rest (which (is_accepted_across b w) w.waits) w.waits) ≡ true
still-waits w b c apart off once is =
    let xs = which (is_accepted_across b w) w.waits in
    has-rest (is_accepted_on c) xs w.waits (every-more (λ y. is_accepted_across b w y || not (shares xs y)) (λ y. not (is_accepted_on c y) || not (shares xs y)) (λ y one. at y (is_accepted_on c y) refl one) w.waits (failing-apart (is_accepted_across b w) w.waits once)) is
  where
    parts : (a m n s : Bool) → m ≡ false → n ≡ false → ((a && (m || n)) || not s) ≡ true → not s ≡ true
    parts a m n s one two is = grind arith

    at : (y : WaitRow) (o : Bool) → is_accepted_on c y ≡ o → (is_accepted_across b w y || not (shares (which (is_accepted_across b w) w.waits) y)) ≡ true → (not o || not (shares (which (is_accepted_across b w) w.waits) y)) ≡ true
    at y false on one = refl
    at y true on one =
        let same = birth-same y.port c (second-true (is_accepted y) (same_birth y.port c) on) in
        let made : same_birth y.port b ≡ false = subst (λ d. same_birth d b ≡ false) (sym same) apart in
        let across : is_the b (pair_of w y.port) ≡ false = subst (λ d. is_the b (pair_of w d) ≡ false) (sym same) off in
        parts (is_accepted y) (same_birth y.port b) (is_the b (pair_of w y.port)) (shares (which (is_accepted_across b w) w.waits) y) made across one

tied-cut : (w : World) (b : Birth) → WaitOnce w.waits → IsTied w.ports w.waits → IsTied (change (is_end_of b) cut w.ports) (rest (which (is_accepted_across b w) w.waits) w.waits)
tied-cut w b once t =
    let xs = which (is_accepted_across b w) w.waits in
    let before = tied w.ports w.waits in
    let after = tied (change (is_end_of b) cut w.ports) (rest xs w.waits) in
    record {
      pairs = every-change_to (is_awaited before) (is_awaited after) (is_end_of b) cut (λ p was is. cut-awaited after (cut p) refl)
          (λ p was off. awaited-kept before after p (λ c some _ on.
          let ends = other-end w b p c off some (second-true (has (is_accepted_on c) w.waits) _ on) in
          on-kept before after p.birth c (still-waits w b c ends.0 ends.1 once) (λ is. rw (same-row w b c ends.0 ends.1) is) on) was) w.ports t.pairs;
      servers = every-change (lacks_connects after) (is_end_of b) cut (λ p is. is) w.ports (every-more (lacks_connects before) (lacks_connects after) (λ p. lacks-parts (is_server_port p) (has (is_connect_on p.birth) w.waits) (has (is_connect_on p.birth) (rest xs w.waits)) (none-rest (is_connect_on p.birth) xs w.waits)) w.ports t.servers);
    }

-- The cut
-- accepted connects end, and the port and its other end are parted
abbrev pub parted : World → Birth → World
parted w b =
    let xs = which (is_accepted_across b w) w.waits in
    record w {
      waits = rest xs w.waits;
      ports = change (is_end_of b) cut w.ports;
      marks = rest_marks xs w.marks;
      views = disowned xs w.views;
    }

pub parted-world : (w : World) (b : Birth) → world_after w (each end_accepted (which (is_accepted_across b w) w.waits) ++ Cuts b ∷ []) ≡ parted w b
parted-world w b =
    let xs = which (is_accepted_across b w) w.waits in
    rw (after-append w (each end_accepted xs) (Cuts b ∷ []), ended-world xs w) refl

-- no accepted connect on the port or across is left
pub none-accepted : (w : World) (b : Birth) → every (λ y. not (is_accepted_across b w y)) (parted w b).waits ≡ true
none-accepted w b =
    let xs = which (is_accepted_across b w) w.waits in
    every-both (λ y. not (is_accepted_across b w y) || shares xs y) (λ y. not (shares xs y)) (λ y. not (is_accepted_across b w y)) (λ y one two. parts _ _ one two) (rest xs w.waits) (every-rest _ xs w.waits (passing-shares (is_accepted_across b w) w.waits)) (rest-ends xs w.waits)
  where
    parts : (t s : Bool) → (not t || s) ≡ true → not s ≡ true → not t ≡ true
    parts t s one two = grind arith

parted-sure : (w : World) (b : Birth) (x : WaitRow) → is_sure (basic w (Cuts b)) x ≡ true → not (shares (which (is_accepted_across b w) w.waits) x) ≡ true → is_sure (parted w b) x ≡ true
parted-sure w b =
    let xs = which (is_accepted_across b w) w.waits in
    let v = basic w (Cuts b) in
    let u = parted w b in
    by_kind (λ x. is_sure v x ≡ true → not (shares xs x) ≡ true → is_sure u x ≡ true) (λ x m is off. is) (λ x is off. is) (λ x is off. is) (λ x m offer is off. is) (λ x m reply is off. is)
    (λ x r is off. exempt v u x x (λ one. one) (still-rest (record x { kind = Event r }) xs w.marks off) (λ one. one) is)

pub sound-parted : (w : World) (b : Birth) → every (is_free_of w b) w.waits ≡ true → IsSoundWorld w → IsSoundWorld (parted w b)
sound-parted w b free s =
    let xs = which (is_accepted_across b w) w.waits in
    let u : World = record w { waits = rest xs w.waits; ports = change (is_end_of b) cut w.ports; marks = rest_marks xs w.marks } in
    sound-memory u _ _ (disowned xs w.views) (sound-from u (every-both (is_sure (basic w (Cuts b))) (λ y. not (shares xs y)) (is_sure u) (parted-sure w b) (rest xs w.waits) (every-both (λ y. is_sure w y && is_free_of w b y) (λ y. not (is_accepted_across b w y)) (is_sure (basic w (Cuts b))) (λ y one two. cut-sure w b y (first-true _ _ one) (and_from _ _ (second-true _ _ one) two)) (rest xs w.waits)
    (every-rest _ xs w.waits (every-both (is_sure w) (is_free_of w b) (λ y. is_sure w y && is_free_of w b y) (λ y one two. and_from _ _ one two) w.waits (sure-waits w s) free)) (none-accepted w b)) (rest-ends xs w.waits))
    (once-rest xs w.waits s.once) (order-mapped w (λ p. cond (is_end_of b p) (cut p) p) (λ p. cut-birth (is_end_of b p) p) s) (tied-cut w b s.once (tied-of w s)))
