-- What steps tell of closings, and what they close.
use Rattle.std.proofs.Common.{◌≡◌, ◌≤◌, ◌∙◌, ℕ, List, [], ◌∷◌, ◌++◌, Bool, true, false, cond, not, Option, Some, None, refl, subst, sym, ap, arith, append-nil, append_assoc}
use Rattle.std.proofs.lemmas.Bool.{and_from}
use Rattle.std.specs.Prelude.{◌&&◌, option_and_then, option_map}
use Rattle.lpc_base.specs.Rows.{change, count, each, every, given, when, which}
use Rattle.lpc_base.proofs.RowWords.{every-more, first-passes}
use Rattle.lpc_base.proofs.Bools.{first-true, second-true}
use Rattle.lpc_base.specs.declared.status.TheConstants.{PORT_DISCONNECTED}
use Rattle.lpc_model.specs.World.{Birth, Creator, HandleRow, HandleTable, MessageRow, PortRow, World}
use Rattle.lpc_model.specs.Found.{handle_at, if_open, is_client_port, is_connect, is_port, is_table, port_row}
use Rattle.lpc_model.specs.Basics.{AddsHandle, Awaits, Basic, Cuts, DropsHandle, DropsOwned, Empties, Enters, Receives, Takes, TakesConnect, Unbinds, Wakes, Withdraws, basic, cut, is_end_of, posted, posts_of, world_after, Marks}
use Rattle.lpc_model.specs.Entering.{enter, received_steps}
use Rattle.lpc_model.specs.Sweep.{sweep}
use Rattle.lpc_model.specs.Closings.{closes, is_closed_post, closing_posts, closings_posted, shuts}
use Rattle.lpc_model.specs.Close.{close_handle, close_port, closed_row, cut_pair, drop_name, empty_queue, end_receives, end_request, end_requests, is_last, is_receiver, is_request_on, post_closed, server_of, closing_post, wake, is_event_on, mark_event, mark_events}
use Rattle.lpc_model.specs.SoundWaits.{IsSoundWorld}
use Rattle.lpc_model.proofs.Sound.Cuts.{cut-row, no-row}
use Rattle.lpc_model.proofs.Steps.Closing.{close-pass, ends-pass, pair-pass, queue-pass, stage_five, stage_four, stage_one, stage_three, stage_two, takes_away, stage_marked}
use Rattle.lpc_model.proofs.Sound.Closing.{close-shut, five-shut}
use Rattle.lpc_model.proofs.Sound.Close.{last-shuts, shut-found}
use Rattle.lpc_model.proofs.Steps.Sweep.{sweep_every}
use Rattle.lpc_model.proofs.Calls.Taking.{is_taking, taken_at_once, taking-entered, taking-receipt}

-- Calm steps
-- no handle goes by a step; it tells of no closed port
abbrev pub is_dropless : Basic → Bool
is_dropless (DropsHandle pid value) = false
is_dropless b = true

abbrev pub is_mute : Basic → Bool
is_mute (Enters m) = not (is_closed_post m)
is_mute b = true

abbrev pub is_calm : Basic → Bool
is_calm b = is_dropless b && is_mute b

abbrev pub AreCalm : List Basic → Type 0
AreCalm bs = every is_calm bs ≡ true

-- nor does it give a handle, or let a connect begin to wait
abbrev pub is_hushed : Basic → Bool
is_hushed (Awaits x) = not (is_connect x)
is_hushed (AddsHandle pid h) = false
is_hushed b = is_calm b

abbrev pub AreHushed : List Basic → Type 0
AreHushed bs = every is_hushed bs ≡ true

hushed-calm : (b : Basic) → is_hushed b ≡ true → is_calm b ≡ true
hushed-calm (Awaits x) is = refl
hushed-calm (AddsHandle pid h) is = absurd (cc)
hushed-calm b is = is

pub calm-all : (bs : List Basic) → AreHushed bs → AreCalm bs
calm-all bs all = every-more is_hushed is_calm hushed-calm bs all

pub dropless-basic : (w : World) (b : Basic) → is_dropless b ≡ true → closes w b ≡ []
dropless-basic w (DropsHandle pid value) is = absurd (cc)
dropless-basic w b is = refl

mute-basic : (b : Basic) → is_mute b ≡ true → which is_closed_post (posted b) ≡ []
mute-basic (Enters m) is = grind arith
mute-basic b is = refl

pub which-append : {X : Type 0} (p : X → Bool) (xs ys : List X) → which p (xs ++ ys) ≡ which p xs ++ which p ys
which-append p [] ys = refl
which-append p (x ∷ xs) ys = grind (arith, which-append p xs ys)

calm-posts : (bs : List Basic) → AreCalm bs → which is_closed_post (posts_of bs) ≡ []
calm-posts [] all = refl
calm-posts (b ∷ bs) all =
    let here = first-true (is_calm b) (every is_calm bs) all in
    let later = second-true (is_calm b) (every is_calm bs) all in
    rw (which-append is_closed_post (posted b) (posts_of bs), mute-basic b (second-true (is_dropless b) (is_mute b) here)) (calm-posts bs later)

-- what is told of closings behind steps
pub told-append : (w : World) (xs ys : List Basic) → closings_posted w (xs ++ ys) ≡ closings_posted w xs ++ closings_posted (world_after w xs) ys
told-append w [] ys = refl
told-append w (x ∷ xs) ys =
    ap (λ ms. each (closing_posts w) (closes w x) ++ ms) (told-append (basic w x) xs ys) ∙ sym (append_assoc (each (closing_posts w) (closes w x)) (closings_posted (basic w x) xs) (closings_posted (world_after (basic w x) xs) ys))

pub told-none : (w : World) (bs : List Basic) → every is_dropless bs ≡ true → closings_posted w bs ≡ []
told-none w [] all = refl
told-none w (b ∷ bs) all =
    let here = first-true (is_dropless b) (every is_dropless bs) all in
    let later = second-true (is_dropless b) (every is_dropless bs) all in
    rw (dropless-basic w b here) (told-none (basic w b) bs later)

pub told-before : (w : World) (xs ys : List Basic) → every is_dropless ys ≡ true → closings_posted w (xs ++ ys) ≡ closings_posted w xs
told-before w xs ys all = told-append w xs ys ∙ (ap (λ ms. closings_posted w xs ++ ms) (told-none (world_after w xs) ys all) ∙ append-nil (closings_posted w xs))

told-behind : (w : World) (xs ys : List Basic) → every is_dropless xs ≡ true → closings_posted w (xs ++ ys) ≡ closings_posted (world_after w xs) ys
told-behind w xs ys all = told-append w xs ys ∙ ap (λ ms. ms ++ closings_posted (world_after w xs) ys) (told-none w xs all)

calm-dropless : (bs : List Basic) → AreCalm bs → every is_dropless bs ≡ true
calm-dropless bs all = every-more is_calm is_dropless (λ b is. first-true (is_dropless b) (is_mute b) is) bs all

-- rows that go close nothing
pub sweep-dropless : (w : World) → every is_dropless (sweep w) ≡ true
sweep-dropless = sweep_every is_dropless (λ _. refl)

-- Messages that enter
taking-hushed : (b : Basic) → is_taking b ≡ true → is_hushed b ≡ true
taking-hushed (Takes queue) is = refl
taking-hushed (TakesConnect queue) is = refl
taking-hushed (Receives who queue) is = refl
taking-hushed (Wakes who call status fields) is = refl
taking-hushed b is = absurd (cc)

pub hushed-receipt : (m : MessageRow) → AreHushed (received_steps m)
hushed-receipt m = every-more is_taking is_hushed taking-hushed (received_steps m) (taking-receipt m)

hushed-taken : (m : MessageRow) (w : World) → AreHushed (taken_at_once m w)
hushed-taken m w = every-more is_taking is_hushed taking-hushed (taken_at_once m w) (taking-entered m w)

pub hushed-enter : (m : MessageRow) (w : World) → not (is_closed_post m) ≡ true → AreHushed (enter m w)
hushed-enter m w off = and_from _ _ off (hushed-taken m w)

-- A port that is closed
-- behind calm steps
pub posts-append : (xs ys : List Basic) → posts_of (xs ++ ys) ≡ posts_of xs ++ posts_of ys
posts-append [] ys = refl
posts-append (x ∷ xs) ys = rw (posts-append xs ys) (sym (assoc (posted x) (posts_of xs) (posts_of ys)))
  where
    assoc : (xs bs cs : List MessageRow) → (xs ++ bs) ++ cs ≡ xs ++ (bs ++ cs)
    assoc [] bs cs = refl
    assoc (a ∷ xs) bs cs = grind (arith, assoc xs bs cs)

posts-behind : (xs ys : List Basic) → AreCalm xs → which is_closed_post (posts_of (xs ++ ys)) ≡ which is_closed_post (posts_of ys)
posts-behind xs ys calm = rw (posts-append xs ys, which-append is_closed_post (posts_of xs) (posts_of ys), calm-posts xs calm) refl

-- and before steps that post nothing
posts-before : (xs ys : List Basic) → posts_of ys ≡ [] → which is_closed_post (posts_of (xs ++ ys)) ≡ which is_closed_post (posts_of xs)
posts-before xs ys none = rw (posts-append xs ys, none) (ap (which is_closed_post) (append-nil (posts_of xs)))

-- what takes rows away is calm
away-calm : (x : Basic) → takes_away x ≡ true → is_calm x ≡ true
away-calm (Wakes who call status fields) is = refl
away-calm (Withdraws who) is = refl
away-calm (Empties q) is = refl
away-calm (Unbinds b) is = refl
away-calm (DropsOwned b) is = refl
away-calm (Marks who) is = refl
away-calm x is = absurd (cc)

-- what is posted at last, in the world behind the cut
posted-row : (w : World) (p : PortRow) (queue : Birth) (o : Option Creator) → which is_closed_post (posts_of (given (option_map (closed_row p queue) o) (λ m. enter m w))) ≡ given (option_map (closed_row p queue) o) (λ m. m ∷ [])
posted-row w p queue None = refl
posted-row w p queue (Some by) =
    let m = closed_row p queue by in
    let none = calm-posts (taken_at_once m w) (calm-all (taken_at_once m w) (hushed-taken m w)) in rw none refl

posted-given : (w : World) (p : PortRow) (o : Option Birth) → which is_closed_post (posts_of (given (option_and_then (λ queue. option_map (closed_row p queue) p.creator) o) (λ m. enter m w)))
    ≡ given (option_and_then (λ queue. option_map (closed_row p queue) p.creator) o) (λ m. m ∷ [])
posted-given w p None = refl
posted-given w p (Some queue) = posted-row w p queue p.creator

-- which is told as it was before the port was cut
same-server : (w v : World) (p : PortRow) → v.handles ≡ w.handles → server_of v (cut p) ≡ server_of w p
same-server w v p same = at (cond (is_client_port p && p.completed) p.connection None)
  where
    at : (o : Option Birth) → if_open v o ≡ if_open w o
    at None = refl
    at (Some b) = rw same refl

same-told : (w v : World) (p : PortRow) → v.handles ≡ w.handles → given (closing_post v (cut p)) (λ m. m ∷ []) ≡ given (closing_post w p) (λ m. m ∷ [])
same-told w v p same = rw (same-server w v p same) refl

end-own : (b : Birth) (p : PortRow) → is_port b p ≡ true → cond (is_end_of b p) (cut p) p ≡ cut p
end-own b p own = rw own refl

posted-told : (w v : World) (b : Birth) → v.handles ≡ w.handles → v.ports ≡ change (is_end_of b) cut w.ports → which is_closed_post (posts_of (post_closed b v)) ≡ closing_posts w b
posted-told w v b handles ports = at (port_row w b) refl
  where
    row : port_row v b ≡ port_row (basic w (Cuts b)) b
    row = rw ports refl

    at : (o : Option PortRow) → port_row w b ≡ o → which is_closed_post (posts_of (post_closed b v)) ≡ given o (λ p. given (closing_post w p) (λ m. m ∷ []))
    at None none = rw (row, no-row w b b none) refl
    at (Some p) here =
        let own = first-passes (is_port b) w.ports p here in
        let cut_here : port_row v b ≡ Some (cut p) = row ∙ cut-row w b b p here ∙ ap Some (end-own b p own) in
        rw cut_here (posted-given v (cut p) (server_of v (cut p)) ∙ same-told w v p handles)

close-told : (w : World) (b : Birth) → IsSoundWorld w → which is_closed_post (posts_of (close_port b w)) ≡ closing_posts w b
unfolding close_port
close-told w b s =
    let t = five-shut w b s in
    let seven : List Basic = DropsOwned b ∷ [] in
    let six = post_closed b (stage_five w b) ++ seven in
    let five = cut_pair b (stage_four w b) ++ six in
    let four = empty_queue b (stage_marked w b) ++ five in
    let marks = mark_events b (stage_three w b) ++ four in
    let three = end_requests b (stage_two w b) ++ marks in
    let two = end_receives b (stage_one w b) ++ three in
    posts-behind (drop_name b w) two refl
    ∙ posts-behind (end_receives b (stage_one w b)) three (ends-pass is_calm away-calm (λ w. is_receiver b) (wake PORT_DISCONNECTED) (λ x. refl) (stage_one w b))
    ∙ posts-behind (end_requests b (stage_two w b)) marks (ends-pass is_calm away-calm (λ w. is_request_on b) (end_request PORT_DISCONNECTED) (λ x. refl) (stage_two w b))
    ∙ posts-behind (mark_events b (stage_three w b)) four (ends-pass is_calm away-calm (is_event_on b) mark_event (λ x. refl) (stage_three w b))
    ∙ posts-behind (empty_queue b (stage_marked w b)) five (queue-pass is_calm away-calm b (stage_marked w b))
    ∙ posts-behind (cut_pair b (stage_four w b)) six (pair-pass is_calm away-calm b (stage_four w b) refl)
    ∙ posts-before (post_closed b (stage_five w b)) seven refl
    ∙ posted-told w (stage_five w b) b t.handles t.ports

-- and no handle goes on the way
away-dropless : (x : Basic) → takes_away x ≡ true → is_dropless x ≡ true
away-dropless x is = first-true (is_dropless x) (is_mute x) (away-calm x is)

posted-dropless : (b : Birth) (w : World) → every is_dropless (post_closed b w) ≡ true
posted-dropless b w = at (port_row w b)
  where
    by_creator : (p : PortRow) (queue : Birth) (o : Option Creator) → every is_dropless (given (option_map (closed_row p queue) o) (λ m. enter m w)) ≡ true
    by_creator p queue None = refl
    by_creator p queue (Some by) = let m = closed_row p queue by in calm-dropless (taken_at_once m w) (calm-all (taken_at_once m w) (hushed-taken m w))

    queued : (p : PortRow) (o : Option Birth) → every is_dropless (given (option_and_then (λ queue. option_map (closed_row p queue) p.creator) o) (λ m. enter m w)) ≡ true
    queued p None = refl
    queued p (Some queue) = by_creator p queue p.creator

    at : (o : Option PortRow) → every is_dropless (given o (λ p. given (closing_post w p) (λ m. enter m w))) ≡ true
    at None = refl
    at (Some p) = queued p (server_of w p)

pub close-dropless : (w : World) (b : Birth) → every is_dropless (close_port b w) ≡ true
close-dropless w b = close-pass is_dropless away-dropless b w refl (posted-dropless b (stage_five w b))

-- Lists of steps
-- what steps tell of closings is what they close
abbrev pub TellsClosings : World → List Basic → Type 0
TellsClosings w bs = which is_closed_post (posts_of bs) ≡ closings_posted w bs

pub calm-tells : (w : World) (bs : List Basic) → AreCalm bs → TellsClosings w bs
calm-tells w bs calm = rw (told-none w bs (calm-dropless bs calm)) (calm-posts bs calm)

pub tells-append : (w : World) (xs ys : List Basic) → TellsClosings w xs → TellsClosings (world_after w xs) ys → TellsClosings w (xs ++ ys)
tells-append w xs ys one two =
    ap (which is_closed_post) (posts-append xs ys) ∙ (which-append is_closed_post (posts_of xs) (posts_of ys) ∙ (ap (λ ms. ms ++ which is_closed_post (posts_of ys)) one
    ∙ (ap (λ ms. closings_posted w xs ++ ms) two ∙ sym (told-append w xs ys))))

-- NtClose
pub same-last : (w v : World) (r : HandleRow) → v.handles ≡ w.handles → is_last r v ≡ is_last r w
same-last w v r same = rw same refl

-- what is told of a port is the same once it is cut
told-shut : (w v : World) (b : Birth) → v.handles ≡ w.handles → v.ports ≡ change (is_end_of b) cut w.ports → closing_posts v b ≡ closing_posts w b
told-shut w v b handles ports = at (port_row w b) refl
  where
    row : port_row v b ≡ port_row (basic w (Cuts b)) b
    row = rw ports refl

    at : (o : Option PortRow) → port_row w b ≡ o → closing_posts v b ≡ given o (λ p. given (closing_post w p) (λ m. m ∷ []))
    at None none = rw (row, no-row w b b none) refl
    at (Some p) here =
        let own = first-passes (is_port b) w.ports p here in
        let cut_here : port_row v b ≡ Some (cut p) = row ∙ cut-row w b b p here ∙ ap Some (end-own b p own) in
        rw cut_here (same-told w v p handles)

pub handle-tells : (w : World) (pid : ℕ) (r : HandleRow) → handle_at w pid r.value ≡ Some r → IsSoundWorld w → TellsClosings w (close_handle pid r w)
handle-tells w pid r at s = by_last (is_last r w) refl
  where
    dropped : (v : World) (last : Bool) → v.handles ≡ w.handles → is_last r w ≡ last → closings_posted v (DropsHandle pid r.value ∷ []) ≡ each (closing_posts v) (when last (r.object.birth ∷ []))
    dropped v last same is =
        let one = subst (λ (hs : List HandleTable). count (is_table pid) hs ≤ 1) (sym same) (s.tables pid) in
        let here = shut-found w v pid r same at in
        let test : shuts v (basic v (DropsHandle pid r.value)) r ≡ last = last-shuts v pid r one here ∙ (same-last w v r same ∙ is) in
        let closed : closes v (DropsHandle pid r.value) ≡ when last (r.object.birth ∷ []) = rw (here, test) refl in
        append-nil (each (closing_posts v) (closes v (DropsHandle pid r.value))) ∙ ap (each (closing_posts v)) closed

    by_last : (last : Bool) → is_last r w ≡ last → TellsClosings w (when last (close_port r.object.birth w) ++ DropsHandle pid r.value ∷ [])
    by_last true is =
        let b = r.object.birth in
        let bs = close_port b w in
        let v = world_after w bs in
        let shut = close-shut w b s in
        let posts : which is_closed_post (posts_of (bs ++ DropsHandle pid r.value ∷ [])) ≡ closing_posts w b = rw (posts-append bs (DropsHandle pid r.value ∷ []), append-nil (posts_of bs)) (close-told w b s) in
        let closed : closings_posted w (bs ++ DropsHandle pid r.value ∷ []) ≡ closing_posts w b =
        told-behind w bs (DropsHandle pid r.value ∷ []) (close-dropless w b) ∙ (dropped v true shut.handles is ∙ (append-nil (closing_posts v b) ∙ told-shut w v b shut.handles shut.ports)) in
        posts ∙ sym closed
    by_last false off = sym (dropped w false refl off)
