-- No connect waits on a server port.
use Rattle.std.proofs.Common.{◌≡◌, List, [], ◌∷◌, Bool, true, false, not, refl, sym, subst, arith}
use Rattle.std.proofs.lemmas.Bool.{and_from}
use Rattle.std.specs.Prelude.{◌&&◌, ◌||◌}
use Rattle.lpc_base.specs.Rows.{every, has}
use Rattle.lpc_base.proofs.RowWords.{every-change, every-more}
use Rattle.lpc_base.proofs.Births.{birth-same, birth-self}
use Rattle.lpc_model.specs.World.{Birth, PortRow, WaitRow, World}
use Rattle.lpc_model.specs.Found.{is_connect, is_port, is_server_port}
use Rattle.lpc_model.specs.Basics.{Cuts, basic, cut, is_end_of}
use Rattle.lpc_model.specs.SoundWaits.{IsSoundWorld, is_connect_on, lacks_connects}
use Rattle.lpc_isolation.proofs.Rows.Fair.{is_no_server_at}

-- the port of a connect is no server port
abbrev pub is_client_wait : World → WaitRow → Bool
is_client_wait w x = not (is_connect x) || every (is_no_server_at x.port) w.ports

abbrev pub Clients : World → Type 0
Clients w = every (is_client_wait w) w.waits ≡ true

pub no-servers : (w : World) (b : Birth) → every (lacks_connects w) w.ports ≡ true → has (is_connect_on b) w.waits ≡ true → every (is_no_server_at b) w.ports ≡ true
no-servers w b servers waits = every-more (lacks_connects w) (is_no_server_at b) (λ p lacks. at p (is_port b p) refl lacks) w.ports servers
  where
    at : (p : PortRow) (e : Bool) → is_port b p ≡ e → lacks_connects w p ≡ true → not (e && is_server_port p) ≡ true
    at p true is lacks =
        let same : p.birth ≡ b = birth-same p.birth b is in
        let there : has (is_connect_on p.birth) w.waits ≡ true = subst (λ b. has (is_connect_on b) w.waits ≡ true) (sym same) waits in
        grind arith
    at p false is lacks = refl

-- in a world with sound waits
has-later : {X : Type 0} (p : X → Bool) (x : X) (xs : List X) → has p xs ≡ true → has p (x ∷ xs) ≡ true
has-later p x xs there = at (p x) refl
  where
    at : (e : Bool) → p x ≡ e → has p (x ∷ xs) ≡ true
    at true is = rw is refl
    at false off = rw off there

pub sound-clients : (w : World) → IsSoundWorld w → Clients w
sound-clients w s = each-one w.waits (λ b there. there)
  where
    each-one : (xs : List WaitRow) → ((b : Birth) → has (is_connect_on b) xs ≡ true → has (is_connect_on b) w.waits ≡ true) → every (is_client_wait w) xs ≡ true
    each-one [] within = refl
    each-one (x ∷ xs) within = and_from _ _ (at (is_connect x) refl) (each-one xs (λ b there. within b (has-later (is_connect_on b) x xs there)))
      where
        at : (e : Bool) → is_connect x ≡ e → is_client_wait w x ≡ true
        at true is =
            let here : has (is_connect_on x.port) (x ∷ xs) ≡ true = rw (is, birth-self x.port) refl in
            rw is (no-servers w x.port s.servers (within x.port here))
        at false off = rw off refl

-- and behind a cut
pub cut-clients : (w : World) (b : Birth) → Clients w → Clients (basic w (Cuts b))
cut-clients w b all = every-more (is_client_wait w) (is_client_wait (basic w (Cuts b))) (λ x is. at x (is_connect x) refl is) w.waits all
  where
    at : (x : WaitRow) (e : Bool) → is_connect x ≡ e → is_client_wait w x ≡ true → is_client_wait (basic w (Cuts b)) x ≡ true
    at x true on is =
        let none : every (is_no_server_at x.port) w.ports ≡ true = rw on at is in
        rw on (every-change (is_no_server_at x.port) (is_end_of b) cut (λ p is. is) w.ports none)
    at x false off is = rw off refl
