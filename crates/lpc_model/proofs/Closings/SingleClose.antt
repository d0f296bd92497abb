-- A closing tells of itself once, and the port that is closed isn't open behind it.
use Rattle.std.proofs.Common.{◌≡◌, ◌∙◌, ℕ, ◌+◌, ◌≤◌, List, [], ◌∷◌, ◌++◌, Bool, true, false, cond, not, Some, refl, sym, subst, arith}
use Rattle.std.specs.Prelude.{◌&&◌}
use Rattle.lpc_base.specs.Rows.{count, has, when}
use Rattle.lpc_base.proofs.RowWords.{count-none, count-push, every-more, every-not, first-passes}
use Rattle.lpc_base.proofs.Births.{birth-same}
use Rattle.lpc_base.proofs.Bools.{first-true}
use Rattle.lpc_model.specs.World.{Birth, Creator, HandleRow, HandleTable, PortRow, World}
use Rattle.lpc_model.specs.Found.{handle_at, is_open, is_port, port_row, same_birth}
use Rattle.lpc_model.specs.Basics.{Cuts, DropsHandle, basic, world_after}
use Rattle.lpc_model.specs.Close.{close_handle, close_port, closed_row, is_last, post_closed}
use Rattle.lpc_model.specs.SoundWaits.{IsSoundWorld, is_connect_on}
use Rattle.lpc_model.specs.SingleClosings.{HasSingleClosings, is_closing_of, is_shut}
use Rattle.lpc_model.proofs.Steps.Rows.{has-off}
use Rattle.lpc_model.proofs.Sound.Less.{IsLess}
use Rattle.lpc_model.proofs.Sound.Closing.{five-shut, posted-less}
use Rattle.lpc_model.proofs.Sound.Close.{last-closes, shut-found}
use Rattle.lpc_model.proofs.Steps.Closing.{behind, closed-is, cut-is, fewer-uncut, stage_five, uncut}
use Rattle.lpc_model.proofs.Queues.Closing.{posted-messages, posted-pass}
use Rattle.lpc_model.proofs.Closings.Single.{dropped-shut, dropped-untold, fewer-untold, first-once, hushed-all, open-unconnected, open-untold, tells-more, tells_shut, waits-more, waits_shut}
use Rattle.lpc_model.proofs.Steps.InTurn.{after-append}

five-untold : (w : World) (b : Birth) → HasSingleClosings w → HasSingleClosings (stage_five w b)
five-untold w b u = subst HasSingleClosings (sym (cut-is w b)) (hushed-all (uncut w b) (Cuts b ∷ []) refl (fewer-untold w (uncut w b) (fewer-uncut w b) u))

-- the last handle of a port that is closed
module _ (w : World) (pid : ℕ) (r : HandleRow) (at : handle_at w pid r.value ≡ Some r) (last : is_last r w ≡ true) (s : IsSoundWorld w) (u : HasSingleClosings w) where
  abbrev closing : Birth
  closing = r.object.birth

  abbrev five : World
  five = stage_five w closing

  abbrev closed : World
  closed = behind (post_closed closing) five

  abbrev dropped : World
  dropped = basic closed (DropsHandle pid r.value)

  told : HasSingleClosings five
  told = five-untold w closing u

  less : IsLess five closed
  less = let shut = five-shut w closing s in posted-less five closing shut.sound

  handles_are : closed.handles ≡ w.handles
  handles_are = let shut = five-shut w closing s in less.handles ∙ shut.handles

  -- it is open up to the step by which the handle goes
  opens : (is_open closed closing ≡ true) × (is_open dropped closing ≡ false)
  opens = last-closes closed pid r (less.sound.tables pid) (shut-found w closed pid r handles_are at) (rw handles_are last)

  opens_five : is_open five closing ≡ true
  opens_five = subst (λ (hs : List HandleTable). is_open (record w { handles = hs }) closing ≡ true) less.handles opens.0

  stays_shut : (b : Birth) → is_open five b ≡ false → is_open dropped b ≡ false
  stays_shut b off = dropped-shut closed pid r.value b (subst (λ (hs : List HandleTable). is_open (record w { handles = hs }) b ≡ false) (sym less.handles) off)

  no_connect : (b : Birth) → has (is_connect_on b) five.waits ≡ false → has (is_connect_on b) dropped.waits ≡ false
  no_connect b none = has-off (is_connect_on b) closed.waits (less.waits (λ x. not (is_connect_on b x)) (every-not (is_connect_on b) five.waits none))

  -- so what is told names a port that is shut
  row_is : (p : PortRow) → port_row five closing ≡ Some p → p.birth ≡ closing
  row_is p row = birth-same p.birth closing (first-passes (is_port closing) five.ports p row)

  its_shut : is_shut dropped closing ≡ true
  its_shut = both (is_open dropped closing) (has (is_connect_on closing) dropped.waits) opens.1 (no_connect closing (has-off (is_connect_on closing) five.waits (open-unconnected five closing told opens_five)))
    where
      both : (a b : Bool) → a ≡ false → b ≡ false → (not a && not b) ≡ true
      both a b one two = grind arith

  tells_of : (p : PortRow) (q : Birth) (by : Creator) → port_row five closing ≡ Some p → tells_shut dropped (closed_row p q by) ≡ true
  tells_of p q by row = subst (λ b. is_shut dropped b ≡ true) (sym (row_is p row)) its_shut

  -- and no other message tells of it
  told_once : (b : Birth) (p : PortRow) (q : Birth) (by : Creator) → port_row five closing ≡ Some p → count (is_closing_of b) (five.messages ++ closed_row p q by ∷ []) ≤ 1
  told_once b p q by row = of (same_birth p.birth b) refl
    where
      sum : (n k : ℕ) (c : Bool) → k ≡ n + cond c 1 0 → (c ≡ true → n ≡ 0) → n ≤ 1 → k ≤ 1
      sum n k true is none few = omega (arith, is, none refl)
      sum n k false is none few = omega (arith, is, few)

      none : is_closing_of b (closed_row p q by) ≡ true → count (is_closing_of b) five.messages ≡ 0
      none is =
          let same : closing ≡ b = sym (row_is p row) ∙ birth-same p.birth b (first-true (same_birth p.birth b) _ is) in
          subst (λ c. count (is_closing_of c) five.messages ≡ 0) same (count-none (is_closing_of closing) five.messages (has-off (is_closing_of closing) five.messages (open-untold five closing told opens_five)))

      of : (k : Bool) → same_birth p.birth b ≡ k → count (is_closing_of b) (five.messages ++ closed_row p q by ∷ []) ≤ 1
      of k is = sum (count (is_closing_of b) five.messages) _ (is_closing_of b (closed_row p q by)) (count-push (is_closing_of b) five.messages (closed_row p q by)) none (told.once b)

  last-untold : HasSingleClosings dropped
  last-untold = record {
    closed = posted-pass (tells_shut dropped) closing five (every-more (tells_shut five) (tells_shut dropped) (λ m. tells-more five dropped m (stays_shut m.sender) (no_connect m.sender)) five.messages told.closed) (λ p q by row found. tells_of p q by row);
    once = λ b. posted-messages (λ ms. count (is_closing_of b) ms ≤ 1) (first-once (is_closing_of b)) closing five (told.once b) (λ p q by row found. told_once b p q by row);
    connects = every-more (waits_shut five) (waits_shut dropped) (λ x. waits-more five dropped x (stays_shut x.port)) closed.waits (less.waits (waits_shut five) told.connects);
  }

pub handle-untold : (w : World) (pid : ℕ) (r : HandleRow) → handle_at w pid r.value ≡ Some r → IsSoundWorld w → HasSingleClosings w → HasSingleClosings (world_after w (close_handle pid r w))
handle-untold w pid r at s u = by_last (is_last r w) refl
  where
    by_last : (last : Bool) → is_last r w ≡ last → HasSingleClosings (world_after w (when last (close_port r.object.birth w) ++ DropsHandle pid r.value ∷ []))
    by_last true is =
        let b = r.object.birth in
        let bs = close_port b w in
        let same : world_after w (bs ++ DropsHandle pid r.value ∷ []) ≡ basic (world_after w bs) (DropsHandle pid r.value) = after-append w bs (DropsHandle pid r.value ∷ []) in
        let last = last-untold w pid r at is s u in
        subst HasSingleClosings (sym same) (subst (λ (v : World). HasSingleClosings (basic v (DropsHandle pid r.value))) (sym (closed-is w b)) (record { closed = last.closed; once = last.once; connects = last.connects }))
    by_last false more = dropped-untold w pid r.value u
