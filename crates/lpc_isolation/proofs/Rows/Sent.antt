-- A message that was sent on a client port stands in the queue of its connection port: so in each world of a run.
use Rattle.std.proofs.Common.{◌≡◌, ℕ, List, [], ◌∷◌, ◌++◌, Bool, true, false, not, map, Option, Some, None, refl, ◌∙◌}
use Rattle.std.proofs.lemmas.Bool.{and_from}
use Rattle.std.specs.Prelude.{◌&&◌, ◌||◌, if◌then◌else◌}
use Rattle.lpc_base.specs.Rows.{every, passes}
use Rattle.lpc_base.proofs.RowWords.{every-more, every-push, every-without, first-kept}
use Rattle.lpc_base.proofs.RowMaps.{every-without_first}
use Rattle.lpc_base.proofs.Bools.{first-true, second-true}
use Rattle.lpc_isolation.proofs.Rows.Paths.{joined-same}
use Rattle.lpc_model.specs.World.{Birth, MessageRow, PortRow, World}
use Rattle.lpc_model.specs.Found.{is_client_port, is_own_of, is_port, is_queued, is_queued_connect, is_the, port_row}
use Rattle.lpc_model.specs.Basics.{Basic, Completes, Cuts, Empties, Enters, Frees, Joins, Makes, Takes, TakesConnect, Withdraws, basic, completed, cut, is_end_of, joined, world_after, Secures, secured}
use Rattle.lpc_model.proofs.Steps.Rows.{first-map}

abbrev pub leads_home : Birth → PortRow → Bool
leads_home q p = not (is_client_port p) || is_the q p.connection

abbrev pub is_sent_home : World → MessageRow → Bool
is_sent_home w x = passes (port_row w x.sender) (leads_home x.queue)

abbrev pub Sent : World → Type 0
Sent w = every (is_sent_home w) w.messages ≡ true

-- what a step must be, so that it stays so
abbrev pub keeps_sent : World → Basic → Bool
keeps_sent w (Enters x) = is_sent_home w x
keeps_sent w (Frees o) = false
keeps_sent w b = true

abbrev pub are_sent : World → List Basic → Bool
are_sent w [] = true
are_sent w (b ∷ bs) = keeps_sent w b && are_sent (basic w b) bs

-- ports that are changed are as they were made
mapped-home : (w : World) (f : PortRow → PortRow) → ((b : Birth) (p : PortRow) → is_port b (f p) ≡ is_port b p) → ((q : Birth) (p : PortRow) → leads_home q (f p) ≡ leads_home q p) → (x : MessageRow) → is_sent_home w x ≡ true → is_sent_home (record w { ports = map f w.ports }) x ≡ true
mapped-home w f same leads x is = at (port_row w x.sender) refl
  where
    at : (o : Option PortRow) → port_row w x.sender ≡ o → is_sent_home (record w { ports = map f w.ports }) x ≡ true
    at None none = let never : false ≡ true = rw none at is in absurd (cc)
    at (Some p) some = let home : leads_home x.queue p ≡ true = rw some at is in rw (first-map (is_port x.sender) f (same x.sender) w.ports p some) (leads x.queue p ∙ home)

made-home : (w : World) (p : PortRow) (x : MessageRow) → is_sent_home w x ≡ true → is_sent_home (basic w (Makes p)) x ≡ true
made-home w p x is = at (port_row w x.sender) refl
  where
    at : (o : Option PortRow) → port_row w x.sender ≡ o → is_sent_home (basic w (Makes p)) x ≡ true
    at None none = let never : false ≡ true = rw none at is in absurd (cc)
    at (Some r) some = let home : leads_home x.queue r ≡ true = rw some at is in rw (first-kept (is_port x.sender) w.ports p r some) home

joined-home : (client server : Birth) (context : ℕ) (q : Birth) (p : PortRow) → leads_home q (joined client server context p) ≡ leads_home q p
joined-home client server context q p = at (is_port client p) (is_port server p) refl refl
  where
    at : (x y : Bool) → is_port client p ≡ x → is_port server p ≡ y → leads_home q (joined client server context p) ≡ leads_home q p
    at true y is it = rw is refl
    at false true is it = rw (is, it) refl
    at false false is it = rw (is, it) refl

changed-port : (s : PortRow → Bool) (f : PortRow → PortRow) → ((b : Birth) (p : PortRow) → is_port b (f p) ≡ is_port b p) → (b : Birth) (p : PortRow) → is_port b (if s p then f p else p) ≡ is_port b p
changed-port s f same b p = at (s p)
  where
    at : (e : Bool) → is_port b (if e then f p else p) ≡ is_port b p
    at true = same b p
    at false = refl

changed-home : (s : PortRow → Bool) (f : PortRow → PortRow) → ((q : Birth) (p : PortRow) → leads_home q (f p) ≡ leads_home q p) → (q : Birth) (p : PortRow) → leads_home q (if s p then f p else p) ≡ leads_home q p
changed-home s f same q p = at (s p)
  where
    at : (e : Bool) → leads_home q (if e then f p else p) ≡ leads_home q p
    at true = same q p
    at false = refl

pub basic-sent : (w : World) (b : Basic) → keeps_sent w b ≡ true → Sent w → Sent (basic w b)
basic-sent w (Enters x) ok all = every-push (is_sent_home w) w.messages x all ok
basic-sent w (Makes p) ok all = every-more (is_sent_home w) (is_sent_home (basic w (Makes p))) (made-home w p) w.messages all
basic-sent w (Joins client server context) ok all = every-more (is_sent_home w) (is_sent_home (basic w (Joins client server context))) (mapped-home w (joined client server context) (joined-same client server context) (joined-home client server context)) w.messages all
basic-sent w (Completes b) ok all = every-more (is_sent_home w) (is_sent_home (basic w (Completes b))) (mapped-home w (λ p. if is_port b p then completed p else p) (changed-port (is_port b) completed (λ d p. refl)) (changed-home (is_port b) completed (λ q p. refl))) w.messages all
basic-sent w (Secures b s) ok all = every-more (is_sent_home w) (is_sent_home (basic w (Secures b s))) (mapped-home w (λ p. if is_port b p then (secured s) p else p) (changed-port (is_port b) (secured s) (λ d p. refl)) (changed-home (is_port b) (secured s) (λ q p. refl))) w.messages all
basic-sent w (Cuts b) ok all = every-more (is_sent_home w) (is_sent_home (basic w (Cuts b))) (mapped-home w (λ p. if is_end_of b p then cut p else p) (changed-port (is_end_of b) cut (λ d p. refl)) (changed-home (is_end_of b) cut (λ q p. refl))) w.messages all
basic-sent w (Takes q) ok all = every-without_first (is_sent_home w) (is_queued q) w.messages all
basic-sent w (TakesConnect q) ok all = every-without_first (is_sent_home w) (is_queued_connect q) w.messages all
basic-sent w (Withdraws who) ok all = every-without (is_sent_home w) (is_own_of who) w.messages all
basic-sent w (Empties q) ok all = every-without (is_sent_home w) (is_queued q) w.messages all
basic-sent w (Frees o) ok all = absurd (cc)
basic-sent w b ok all = all

pub run-sent : (w : World) (bs : List Basic) → are_sent w bs ≡ true → Sent w → Sent (world_after w bs)
run-sent w [] ok all = all
run-sent w (b ∷ bs) ok all = run-sent (basic w b) bs (second-true _ _ ok) (basic-sent w b (first-true _ _ ok) all)

pub append-sent : (w : World) (bs cs : List Basic) → are_sent w bs ≡ true → are_sent (world_after w bs) cs ≡ true → are_sent w (bs ++ cs) ≡ true
append-sent w [] cs one two = two
append-sent w (b ∷ bs) cs one two = and_from _ _ (first-true _ _ one) (append-sent (basic w b) bs cs (second-true _ _ one) two)

-- steps that send nothing
abbrev pub sends_none : Basic → Bool
sends_none (Enters x) = false
sends_none (Frees o) = false
sends_none b = true

none-step : (w : World) (b : Basic) → sends_none b ≡ true → keeps_sent w b ≡ true
none-step w (Enters x) ok = absurd (cc)
none-step w (Frees o) ok = absurd (cc)
none-step w b ok = refl

pub none-sent : (w : World) (bs : List Basic) → every sends_none bs ≡ true → are_sent w bs ≡ true
none-sent w [] ok = refl
none-sent w (b ∷ bs) ok = and_from _ _ (none-step w b (first-true _ _ ok)) (none-sent (basic w b) bs (second-true _ _ ok))
