-- What a closing leaves in queues: no message stands in the queue of the port that is closed.
use Rattle.std.proofs.Common.{◌≡◌, List, [], ◌∷◌, ◌++◌, Bool, true, false, not, Option, Some, None, refl, sym, subst, arith}
use Rattle.std.proofs.lemmas.Bool.{and_from}
use Rattle.std.specs.Prelude.{◌&&◌, is_none, option_and_then, option_map, if◌then◌else◌}
use Rattle.lpc_base.specs.Rows.{every, first, given, without_first, passes}
use Rattle.lpc_base.proofs.RowWords.{every-push}
use Rattle.lpc_base.proofs.RowMaps.{every-both, every-first, every-without_first}
use Rattle.lpc_base.proofs.Births.{birth-same}
use Rattle.lpc_base.specs.declared.status.TheConstants.{SUCCESS}
use Rattle.lpc_model.specs.World.{Birth, Creator, MessageRow, PortRow, WaitRow, World}
use Rattle.lpc_model.specs.Found.{is_client_port, is_open, is_port, is_queued, is_queued_connect, is_the, port_row, same_birth}
use Rattle.lpc_model.specs.Basics.{Cuts, world_after}
use Rattle.lpc_model.specs.Entering.{enter, given_steps, shown, takes, woken}
use Rattle.lpc_model.specs.Close.{close_port, closed_row, post_closed, server_of, closing_post}
use Rattle.lpc_model.specs.Linked.{IsLinked, is_root_port, is_lone_offer, is_rooted, leads_to_root, names_nothing, passes_or_none}
use Rattle.lpc_model.specs.SoundWaits.{IsSoundWorld}
use Rattle.lpc_model.proofs.Calls.Usable.{if-open, if-same}
use Rattle.lpc_model.proofs.Sound.Worlds.{by_kind}
use Rattle.lpc_model.proofs.Sound.Closing.{five-shut, posted-less}
use Rattle.lpc_model.proofs.Steps.Closing.{behind, closed-is, cut-is, emptied-uncut, fewer-uncut, stage_five, uncut}
use Rattle.lpc_model.proofs.Linked.Steps.{linked-same, plain-all}

-- ports are linked behind the fifth step
pub five-linked : (w : World) (b : Birth) → IsLinked w → IsLinked (stage_five w b)
five-linked w b l =
    let less = fewer-uncut w b in
    let before = linked-same w (uncut w b) less.ports (less.waits (is_lone_offer w)) (less.bindings (λ b. leads_to_root w b.1)) l in
    subst IsLinked (sym (cut-is w b)) (plain-all (uncut w b) (Cuts b ∷ []) refl before)

-- The queue to which a closing is told
-- it is open, and isn't that of the port itself
pub told-open : (w : World) (p : PortRow) (q : Birth) → server_of w p ≡ Some q → is_open w q ≡ true
told-open w p q at = if-open w (if is_client_port p && p.completed then p.connection else None) q at

only-if : (c : Bool) (o : Option Birth) (q : Birth) → is_the q (if c then o else None) ≡ true → is_the q o ≡ true
only-if true o q is = is
only-if false o q is = absurd (cc)

end-apart : (w : World) (b q : Birth) (p : PortRow) → port_row w b ≡ Some p → is_the q p.connection ≡ true → is_root_port w q ≡ true → same_birth q b ≡ false
end-apart w b q p row its ends = at (same_birth q b) refl
  where
    never : (o n : Option Birth) → is_the q n ≡ true → (is_none o && is_none n) ≡ true → false ≡ true
    never o None is both = is
    never None (Some d) is both = both
    never (Some c) (Some d) is both = both

    at : (k : Bool) → same_birth q b ≡ k → k ≡ false
    at false is = refl
    at true is =
        let found : port_row w q ≡ Some p = subst (λ c. port_row w c ≡ Some p) (sym (birth-same q b is)) row in
        let nothing : names_nothing p ≡ true = rw found at ends in
        let no = never p.pair p.connection its nothing in absurd (cc)

pub told-apart : (w : World) (b q : Birth) (p : PortRow) → IsLinked w → port_row w b ≡ Some p → server_of w p ≡ Some q → same_birth q b ≡ false
told-apart w b q p l row at =
    let its = only-if (is_client_port p && p.completed) p.connection q (if-same w (if is_client_port p && p.completed then p.connection else None) q at) in
    end-apart w b q p row its (rooted-end p.connection its (every-first (is_rooted w) (is_port b) w.ports p l.rooted row))
  where
    rooted-end : (o : Option Birth) → is_the q o ≡ true → passes_or_none o (is_root_port w) ≡ true → is_root_port w q ≡ true
    rooted-end None is all = absurd (cc)
    rooted-end (Some c) is all = subst (λ d. is_root_port w d ≡ true) (sym (birth-same q c is)) all

-- What is posted
abbrev messages_behind : World → MessageRow → Option WaitRow → List MessageRow
messages_behind w m o = (world_after (record w { messages = w.messages ++ m ∷ [] }) (given o (λ x. given_steps x m ++ woken SUCCESS (shown x m) x ∷ []))).messages

-- what is told enters at the end of its queue, and may be taken at once
module _ (Q : List MessageRow → Type 0) (keeps : (test : MessageRow → Bool) (ms : List MessageRow) → Q ms → Q (without_first test ms)) where
  posted-given : (w : World) (p : PortRow) (q : Birth) (by : Creator) (o : Option WaitRow) → Q (w.messages ++ closed_row p q by ∷ []) → Q (messages_behind w (closed_row p q by) o)
  posted-given w p q by None all = all
  posted-given w p q by (Some x) all =
      let m = closed_row p q by in
      let ms = w.messages ++ m ∷ [] in
      by_kind (λ x. Q (messages_behind w m (Some x)))
      (λ x r. keeps (is_queued q) ms all)
      (λ x. keeps (is_queued q) ms all)
      (λ x. keeps (is_queued_connect q) ms all)
      (λ x r offer. keeps (is_queued q) ms all)
      (λ x r reply. keeps (is_queued q) ms all)
      (λ x r. keeps (is_queued q) ms all) x

  pub posted-messages : (b : Birth) (w : World) → Q w.messages → ((p : PortRow) (q : Birth) (by : Creator) → port_row w b ≡ Some p → server_of w p ≡ Some q → Q (w.messages ++ closed_row p q by ∷ [])) → Q (behind (post_closed b) w).messages
  posted-messages b w all new = at (port_row w b) refl
    where
      by_creator : (p : PortRow) (q : Birth) (o : Option Creator) → ((by : Creator) → Q (w.messages ++ closed_row p q by ∷ [])) → Q (world_after w (given (option_map (closed_row p q) o) (λ m. enter m w))).messages
      by_creator p q None passes = all
      by_creator p q (Some by) passes = posted-given w p q by (first (takes (closed_row p q by)) w.waits) (passes by)

      queued : (p : PortRow) (o : Option Birth) → ((q : Birth) (by : Creator) → o ≡ Some q → Q (w.messages ++ closed_row p q by ∷ [])) → Q (world_after w (given (option_and_then (λ q. option_map (closed_row p q) p.creator) o) (λ m. enter m w))).messages
      queued p None passes = all
      queued p (Some q) passes = by_creator p q p.creator (λ by. passes q by refl)

      at : (o : Option PortRow) → port_row w b ≡ o → Q (world_after w (given o (λ p. given (closing_post w p) (λ m. enter m w)))).messages
      at None row = all
      at (Some p) row = queued p (server_of w p) (λ q by found. new p q by row found)

-- what passes still does, where what is told passes
pub posted-pass : (f : MessageRow → Bool) (b : Birth) (w : World) → every f w.messages ≡ true → ((p : PortRow) (q : Birth) (by : Creator) → port_row w b ≡ Some p → server_of w p ≡ Some q → f (closed_row p q by) ≡ true) → every f (behind (post_closed b) w).messages ≡ true
posted-pass f b w all new = posted-messages (λ ms. every f ms ≡ true) (every-without_first f) b w all (λ p q by row at. every-push f w.messages (closed_row p q by) all (new p q by row at))

-- All steps
not-parts : (a b : Bool) → a ≡ true → b ≡ false → (a && not b) ≡ true
not-parts a b one two = grind arith

-- each message stands in the queue of a port that is open and isn't the one that is closed
abbrev pub is_elsewhere : World → Birth → MessageRow → Bool
is_elsewhere w b m = is_open w m.queue && not (is_queued b m)

pub closed-messages : (w : World) (b : Birth) → IsSoundWorld w → IsLinked w → every (λ m. is_open w m.queue) w.messages ≡ true → every (is_elsewhere w b) (world_after w (close_port b w)).messages ≡ true
closed-messages w b s l all =
    let five = stage_five w b in
    let shut = five-shut w b s in
    let less = fewer-uncut w b in
    let before : every (is_elsewhere w b) (uncut w b).messages ≡ true = every-both (λ m. is_open w m.queue) (λ m. not (is_queued b m)) (is_elsewhere w b) (λ m one two. and_from _ _ one two) (uncut w b).messages (less.messages (λ m. is_open w m.queue) all) (emptied-uncut w b) in
    let cut : every (is_elsewhere w b) five.messages ≡ true = subst (λ (v : World). every (is_elsewhere w b) v.messages ≡ true) (sym (cut-is w b)) before in
    subst (λ (v : World). every (is_elsewhere w b) v.messages ≡ true) (sym (closed-is w b))
    (posted-pass (is_elsewhere w b) b five cut (λ p q by row at. not-parts (is_open w q) (same_birth q b) (subst (λ hs. is_open (record w { handles = hs }) q ≡ true) shut.handles (told-open five p q at)) (told-apart five b q p (five-linked w b l) row at)))

-- what holds of each wait still does
pub closed-waits : (w : World) (b : Birth) → IsSoundWorld w → (f : WaitRow → Bool) → every f w.waits ≡ true → every f (world_after w (close_port b w)).waits ≡ true
closed-waits w b s f all =
    let five = stage_five w b in
    let shut = five-shut w b s in
    let less = fewer-uncut w b in
    let cut : every f five.waits ≡ true = subst (λ (v : World). every f v.waits ≡ true) (sym (cut-is w b)) (less.waits f all) in
    let posted = posted-less five b shut.sound in
    subst (λ (v : World). every f v.waits ≡ true) (sym (closed-is w b)) (posted.waits f cut)
