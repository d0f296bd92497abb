-- The messages that tell of a port's closing, which are no more than the client ports of its birth.
use Rattle.std.proofs.Common.{◌≡◌, ◌+◌, ◌≤◌, List, [], ◌∷◌, ◌++◌, Bool, true, false, map, cond, refl, subst, arith}
use Rattle.std.specs.Prelude.{◌&&◌, ◌||◌, not}
use Rattle.std.proofs.lemmas.Bool.Decides.{nat_tests}
use Rattle.std.proofs.lemmas.Bool.{and_parts}
use Rattle.lpc_base.specs.declared.birth.Birth.{Birth}
use Rattle.lpc_base.specs.Rows.{count, has, without, without_first}
use Rattle.lpc_base.proofs.RowWords.{count-fewer, count-has, count-left, count-none, count-push, has_none-more}
use Rattle.lpc_base.proofs.Births.{birth-same, birth-self}
use Rattle.lpc_model.specs.World.{MessageRow, PortRow, World}
use Rattle.lpc_model.specs.declared.message.Message.{Message}
use Rattle.lpc_model.specs.Message.{asks, tells_closing}
use Rattle.lpc_model.specs.Closings.{is_closed_post}
use Rattle.lpc_model.specs.Found.{is_client_port, is_port, is_sent_on, same_birth}
use Rattle.lpc_model.specs.SingleClosings.{is_closing_of}
use Rattle.lpc_rows.specs.OwedClosings.{TellsOnce, is_client_of, is_owed}
use Rattle.lpc_rows.proofs.OwnMessages.{count-less, count-one_less}

-- What each change of the messages and ports leaves: of each birth, the messages that tell of its closing are no more
-- than its client ports
abbrev pub AreTold : List MessageRow → List PortRow → Type 0
AreTold ms ps = (b : Birth) → count (is_closing_of b) ms ≤ count (is_client_of b) ps

-- A message that asks tells of no closing
pub asks_no_closing : (m : Message) → asks m ≡ true → tells_closing m ≡ false
asks_no_closing m is = grind (arith, nat_tests)

pub asks_once : (w : World) (m : Message) (b : Birth) → asks m ≡ true → TellsOnce w m b
asks_once w m b is tells = let none = asks_no_closing m is in absurd (cc)

pub one-place : (m : Message) → cond (asks m) 1 0 + cond (tells_closing m) 1 0 ≡ cond (is_owed m) 1 0
one-place m = elim (asks m) as (λ a. asks m ≡ a → cond a 1 0 + cond (tells_closing m) 1 0 ≡ cond (a || tells_closing m) 1 0) [
  | true ↦ λ is. rw (asks_no_closing m is) refl
  | false ↦ λ off. omega arith
] refl

pub told-take : (q : MessageRow → Bool) (ms : List MessageRow) (ps : List PortRow) → AreTold ms ps → AreTold (without_first q ms) ps
told-take q ms ps told = λ b. grind (arith, told b, count-fewer (is_closing_of b) q ms)

pub told-withdraw : (q : MessageRow → Bool) (ms : List MessageRow) (ps : List PortRow) → AreTold ms ps → AreTold (without q ms) ps
told-withdraw q ms ps told = λ b. grind (arith, told b, count-left (is_closing_of b) q ms)

-- a port is made
pub told-make : (p : PortRow) (ms : List MessageRow) (ps : List PortRow) → AreTold ms ps → AreTold ms (ps ++ p ∷ [])
told-make p ms ps told = λ b. grind (arith, told b, count-push (is_client_of b) ps p)

-- ports are changed, each keeping its birth and its kind
pub told-map : (k : PortRow → PortRow) → ((p : PortRow) → (k p).birth ≡ p.birth) → ((p : PortRow) → (k p).kind ≡ p.kind) → (ms : List MessageRow) (ps : List PortRow) → AreTold ms ps → AreTold ms (map k ps)
told-map k same kinds ms ps told = λ b. grind (arith, told b, mapped b ps)
  where
    mapped : (b : Birth) (qs : List PortRow) → count (is_client_of b) (map k qs) ≡ count (is_client_of b) qs
    mapped b [] = refl
    mapped b (p ∷ qs) =
        let one : is_client_of b (k p) ≡ is_client_of b p = rw (same p, kinds p) refl in
        grind (arith, one, mapped b qs)

-- a port goes of which no message tells
pub told-free : (c : Birth) (ms : List MessageRow) (ps : List PortRow) → has (is_sent_on c) ms ≡ false → AreTold ms ps → AreTold ms (without (is_port c) ps)
told-free c ms ps none told = λ b. elim (same_birth c b) as (λ s. same_birth c b ≡ s → count (is_closing_of b) ms ≤ count (is_client_of b) (without (is_port c) ps)) [
  | true ↦ λ here. subst (λ d. count (is_closing_of d) ms ≤ count (is_client_of d) (without (is_port c) ps)) (birth-same c b here)
      (grind (arith, count-none (is_closing_of c) ms (has_none-more (is_sent_on c) (is_closing_of c) (λ m off. grind arith) ms none)))
  | false ↦ λ other. grind (arith, told b, kept b other ps)
] refl
  where
    apart : (b : Birth) → same_birth c b ≡ false → (p : PortRow) → is_client_of b p ≡ true → is_port c p ≡ false
    apart b other p is = elim (is_port c p) as (λ s. is_port c p ≡ s → s ≡ false) [
      | true ↦ λ here.
          let to_c : p.birth ≡ c = birth-same p.birth c here in
          let to_b : same_birth p.birth b ≡ true = (and_parts (is_port b p) (is_client_port p) is).0 in
          let yes : same_birth c b ≡ true = subst (λ d. same_birth d b ≡ true) to_c to_b in
          absurd (cc)
      | false ↦ λ off. refl
    ] refl

    kept : (b : Birth) → same_birth c b ≡ false → (qs : List PortRow) → count (is_client_of b) (without (is_port c) qs) ≡ count (is_client_of b) qs
    kept b other [] = refl
    kept b other (p ∷ qs) = elim (is_client_of b p) as (λ s. is_client_of b p ≡ s → count (is_client_of b) (without (is_port c) (p ∷ qs)) ≡ count (is_client_of b) (p ∷ qs)) [
      | true ↦ λ is. grind (arith, is, apart b other p is, kept b other qs)
      | false ↦ λ off. grind (arith, off, kept b other qs)
    ] refl

-- a message enters which tells of a closing that none told yet
pub told-enter : (m : MessageRow) (ms : List MessageRow) (ps : List PortRow) → (is_closed_post m ≡ true → (has (is_client_of m.sender) ps && not (has (is_closing_of m.sender) ms)) ≡ true)
    → AreTold ms ps → AreTold (ms ++ m ∷ []) ps
told-enter m ms ps once told = λ b. elim (is_closing_of b m) as (λ c. is_closing_of b m ≡ c → count (is_closing_of b) (ms ++ m ∷ []) ≤ count (is_client_of b) ps) [
  | true ↦ λ here.
      let of_b = and_parts (is_sent_on b m) (is_closed_post m) here in
      let untold : (has (is_client_of b) ps && not (has (is_closing_of b) ms)) ≡ true =
      subst (λ c. (has (is_client_of c) ps && not (has (is_closing_of c) ms)) ≡ true) (birth-same m.sender b of_b.0) (once of_b.1) in
      grind (arith, here, and_parts (has (is_client_of b) ps) (not (has (is_closing_of b) ms)) untold, count-has (is_client_of b) ps, count-none (is_closing_of b) ms, count-push (is_closing_of b) ms m)
  | false ↦ λ off. grind (arith, off, told b, count-push (is_closing_of b) ms m)
] refl

-- so the messages that tell of closings are no more than the client ports
pub closings-fit : (ps : List PortRow) (ms : List MessageRow) → AreTold ms ps → count is_closed_post ms ≤ count is_client_port ps
closings-fit [] ms told = none ms told
  where
    none : (ys : List MessageRow) → AreTold ys [] → count is_closed_post ys ≤ 0
    none [] all = grind arith
    none (y ∷ ys) all = grind (arith, birth-self y.sender, all y.sender, none ys (λ b. grind (arith, all b)))
closings-fit (p ∷ ps) ms told = elim (is_client_port p) as (λ c. is_client_port p ≡ c → count is_closed_post ms ≤ count is_client_port (p ∷ ps)) [
  | true ↦ λ client. grind (arith, client, closings-fit ps (without_first (is_closing_of p.birth) ms) (rest client), count-one_less is_closed_post (is_closing_of p.birth) ms)
  | false ↦ λ off. grind (arith, off, closings-fit ps ms (λ b. grind (arith, off, told b)))
] refl
  where
    rest : is_client_port p ≡ true → AreTold (without_first (is_closing_of p.birth) ms) ps
    rest client = λ b. elim (same_birth p.birth b) as (λ s. same_birth p.birth b ≡ s → count (is_closing_of b) (without_first (is_closing_of p.birth) ms) ≤ count (is_client_of b) ps) [
      | true ↦ λ here. subst (λ c. count (is_closing_of c) (without_first (is_closing_of p.birth) ms) ≤ count (is_client_of c) ps) (birth-same p.birth b here)
          (count-less (is_closing_of p.birth) (count (is_client_of p.birth) ps) ms (at_own client))
      | false ↦ λ other. grind (arith, other, told b, count-fewer (is_closing_of b) (is_closing_of p.birth) ms)
    ] refl
      where
        at_own : is_client_port p ≡ true → count (is_closing_of p.birth) ms ≤ count (is_client_of p.birth) ps + 1
        at_own is = grind (arith, is, birth-self p.birth, told p.birth)
