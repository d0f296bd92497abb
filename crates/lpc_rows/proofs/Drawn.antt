-- What is drawn is no port's birth yet.
use Rattle.std.proofs.Common.{◌≡◌, ℕ, List, [], ◌∷◌, ◌++◌, Bool, true, false, not, Option, Some, None, refl, ap, sym, subst, ◌∙◌, arith}
use Rattle.std.specs.Prelude.{nat_lt, ◌==◌, ◌||◌}
use Rattle.std.proofs.lemmas.Bool.{eqb-true}
use Rattle.std.proofs.lemmas.Bool.Decides.{nat_tests}
use Rattle.lpc_base.specs.declared.birth.Birth.{Birth}
use Rattle.lpc_base.specs.Rows.{change, every, first, has, without}
use Rattle.lpc_base.proofs.Differ.{differ-change, differ-push, differ-without, rest-none}
use Rattle.lpc_base.proofs.RowMaps.{every-first}
use Rattle.lpc_base.proofs.RowWords.{every-change, every-more, every-push, every-unless, every-without, first-passes, has-kept, has-push, has_none-more}
use Rattle.lpc_base.proofs.Births.{birth-same}
use Rattle.lpc_model.specs.Basics.{past_identifier, past_ordinal}
use Rattle.lpc_model.specs.Found.{is_live_thread, is_port, is_section, is_thread, is_token}
use Rattle.lpc_model.specs.Tests.{next_birth}
use Rattle.lpc_model.specs.World.{Contents, World, PortRow, SectionRow, ThreadRow, TokenRow, UsedThread}
use Rattle.lpc_rows.specs.Lawful.{AreDrawn, are_single_threads, drew, drew_own, is_noted, was_drawn}

pub same-drawn : (w v : World) → v.threads ≡ w.threads → v.used_threads ≡ w.used_threads → v.ports ≡ w.ports → v.sections ≡ w.sections → v.tokens ≡ w.tokens → AreDrawn w → AreDrawn v
same-drawn w v ts us ps ss ks h = record { threads_single = rw ts h.threads_single; threads_noted = rw (ts, us) h.threads_noted; ports_drawn = rw (ts, us, ps) h.ports_drawn; sections_drawn = rw (ts, us, ss) h.sections_drawn; tokens_drawn = rw (ts, us, ks) h.tokens_drawn }

abbrev number : ThreadRow → ℕ
number t = t.number

-- What was drawn
drawn-of : (used : List UsedThread) (ts : List ThreadRow) (b : Birth) → has (λ u. u.number == b.maker) used ≡ true → every (drew_own b) ts ≡ true → was_drawn used ts b ≡ true
drawn-of used ts b one two = rw (one, two) refl

drawn-used : (used : List UsedThread) (ts : List ThreadRow) (b : Birth) → was_drawn used ts b ≡ true → has (λ u. u.number == b.maker) used ≡ true
drawn-used used ts b was = grind arith

drawn-all : (used : List UsedThread) (ts : List ThreadRow) (b : Birth) → was_drawn used ts b ≡ true → every (drew_own b) ts ≡ true
drawn-all used ts b was = grind arith

-- the ports' births stay drawn
ports-drawn : (used vused : List UsedThread) (ts vs : List ThreadRow) (ps : List PortRow) → ((b : Birth) → was_drawn used ts b ≡ true → was_drawn vused vs b ≡ true) → every (λ p. was_drawn used ts p.birth) ps ≡ true → every (λ p. was_drawn vused vs p.birth) ps ≡ true
ports-drawn used vused ts vs ps more all = every-more (λ p. was_drawn used ts p.birth) (λ p. was_drawn vused vs p.birth) (λ p was. more p.birth was) ps all

-- so do the sections'
sections-drawn : (used vused : List UsedThread) (ts vs : List ThreadRow) (ss : List SectionRow) → ((b : Birth) → was_drawn used ts b ≡ true → was_drawn vused vs b ≡ true) → every (λ s. was_drawn used ts s.birth) ss ≡ true → every (λ s. was_drawn vused vs s.birth) ss ≡ true
sections-drawn used vused ts vs ss more all = every-more (λ s. was_drawn used ts s.birth) (λ s. was_drawn vused vs s.birth) (λ s was. more s.birth was) ss all

-- and the tokens'
tokens-drawn : (used vused : List UsedThread) (ts vs : List ThreadRow) (ss : List TokenRow) → ((b : Birth) → was_drawn used ts b ≡ true → was_drawn vused vs b ≡ true) → every (λ s. was_drawn used ts s.birth) ss ≡ true → every (λ s. was_drawn vused vs s.birth) ss ≡ true
tokens-drawn used vused ts vs ss more all = every-more (λ s. was_drawn used ts s.birth) (λ s. was_drawn vused vs s.birth) (λ s was. more s.birth was) ss all

-- a thread that draws keeps its number, and what it has drawn
module _ (f : ThreadRow → ThreadRow) (same : (t : ThreadRow) → (f t).number ≡ t.number) (more : (b : Birth) (t : ThreadRow) → drew_own b t ≡ true → drew_own b (f t) ≡ true) where
  pub was-drawn-by : (used : List UsedThread) (who : ℕ) (ts : List ThreadRow) (b : Birth) → was_drawn used ts b ≡ true → was_drawn used (change (is_thread who) f ts) b ≡ true
  was-drawn-by used who ts b was = drawn-of used _ b (drawn-used used ts b was) (every-change (drew_own b) (is_thread who) f (more b) ts (drawn-all used ts b was))

  pub drawn-by : (w : World) (who : ℕ) → AreDrawn w → AreDrawn (record w { threads = change (is_thread who) f w.threads })
  drawn-by w who h = record {
    threads_single = differ-change number (is_thread who) f same w.threads h.threads_single;
    threads_noted = every-change (is_noted w.used_threads) (is_thread who) f (λ t there. rw (same t) there) w.threads h.threads_noted;
    ports_drawn = ports-drawn w.used_threads w.used_threads w.threads (change (is_thread who) f w.threads) w.ports (was-drawn-by w.used_threads who w.threads) h.ports_drawn;
    sections_drawn = sections-drawn w.used_threads w.used_threads w.threads (change (is_thread who) f w.threads) w.sections (was-drawn-by w.used_threads who w.threads) h.sections_drawn;
    tokens_drawn = tokens-drawn w.used_threads w.used_threads w.threads (change (is_thread who) f w.threads) w.tokens (was-drawn-by w.used_threads who w.threads) h.tokens_drawn;
  }

pub more-identifier : (b : Birth) (t : ThreadRow) → drew_own b t ≡ true → drew_own b (past_identifier t) ≡ true
more-identifier b t h = h

pub more-ordinal : (b : Birth) (t : ThreadRow) → drew_own b t ≡ true → drew_own b (past_ordinal t) ≡ true
more-ordinal b t h = grind (arith, nat_tests)

pub drawn-identifier : (w : World) (who : ℕ) → AreDrawn w → AreDrawn (record w { threads = change (is_thread who) past_identifier w.threads })
drawn-identifier w who h = drawn-by past_identifier (λ t. refl) more-identifier w who h

pub drawn-ordinal : (w : World) (who : ℕ) → AreDrawn w → AreDrawn (record w { threads = change (is_thread who) past_ordinal w.threads })
drawn-ordinal w who h = drawn-by past_ordinal (λ t. refl) more-ordinal w who h

-- a number that was never used is no row's
pub unnoted : {X : Type 0} (number : X → ℕ) (used : ℕ → Bool) (n : ℕ) (xs : List X) → every (λ x. used (number x)) xs ≡ true → used n ≡ false → has (λ x. number x == n) xs ≡ false
unnoted number used n [] all none = refl
unnoted number used n (x ∷ xs) all none =
    elim (number x == n) as (λ b. (number x == n) ≡ b → has (λ y. number y == n) (x ∷ xs) ≡ false) [
      | true ↦ λ here.
          let own : used (number x) ≡ true = grind arith in
          let yes : used n ≡ true = subst (λ m. used m ≡ true) (eqb-true (number x) n here) own in
          absurd (cc)
      | false ↦ λ off. let rest = unnoted number used n xs (grind arith) none in rw (off, rest) refl
    ] refl

-- a thread more, whose number was never used
module _ (used : List UsedThread) (ts : List ThreadRow) (t : ThreadRow) (u : UsedThread) (new : has (λ x. x.number == t.number) used ≡ false) where
  other-maker : (b : Birth) → has (λ x. x.number == b.maker) used ≡ true → drew_own b t ≡ true
  other-maker b was = elim (t.number == b.maker) as (λ c. (t.number == b.maker) ≡ c → (not c || nat_lt b.ordinal t.next_ordinal) ≡ true) [
    | true ↦ λ here.
        let yes : has (λ x. x.number == t.number) used ≡ true = subst (λ n. has (λ x. x.number == n) used ≡ true) (sym (eqb-true t.number b.maker here)) was in
        absurd (cc)
    | false ↦ λ off. refl
  ] refl

  pub was-drawn-push : (b : Birth) → was_drawn used ts b ≡ true → was_drawn (used ++ u ∷ []) (ts ++ t ∷ []) b ≡ true
  was-drawn-push b was =
      let by = drawn-used used ts b was in
      drawn-of (used ++ u ∷ []) _ b (has-kept (λ x. x.number == b.maker) used u by) (every-push (drew_own b) ts t (drawn-all used ts b was) (other-maker b by))

pub drawn-thread : (w : World) (t : ThreadRow) (u : UsedThread) → u.number ≡ t.number → has (λ x. x.number == t.number) w.used_threads ≡ false → AreDrawn w → AreDrawn (record w { threads = w.threads ++ t ∷ []; used_threads = w.used_threads ++ u ∷ [] })
drawn-thread w t u same new h = record {
  threads_single = differ-push number w.threads t h.threads_single (unnoted number (λ n. has (λ x. x.number == n) w.used_threads) t.number w.threads h.threads_noted new);
  threads_noted = every-push (is_noted (w.used_threads ++ u ∷ [])) w.threads t
      (every-more (is_noted w.used_threads) (is_noted (w.used_threads ++ u ∷ [])) (λ x there. has-kept (λ y. y.number == x.number) w.used_threads u there) w.threads h.threads_noted)
      (has-push (λ y. y.number == t.number) w.used_threads u (rw same (grind (arith, nat_tests))));
  ports_drawn = ports-drawn w.used_threads (w.used_threads ++ u ∷ []) w.threads (w.threads ++ t ∷ []) w.ports (was-drawn-push w.used_threads w.threads t u new) h.ports_drawn;
  sections_drawn = sections-drawn w.used_threads (w.used_threads ++ u ∷ []) w.threads (w.threads ++ t ∷ []) w.sections (was-drawn-push w.used_threads w.threads t u new) h.sections_drawn;
  tokens_drawn = tokens-drawn w.used_threads (w.used_threads ++ u ∷ []) w.threads (w.threads ++ t ∷ []) w.tokens (was-drawn-push w.used_threads w.threads t u new) h.tokens_drawn;
}

-- threads less
pub was-drawn-less : (used : List UsedThread) (goes : ThreadRow → Bool) (ts : List ThreadRow) (b : Birth) → was_drawn used ts b ≡ true → was_drawn used (without goes ts) b ≡ true
was-drawn-less used goes ts b was = drawn-of used _ b (drawn-used used ts b was) (every-without (drew_own b) goes ts (drawn-all used ts b was))

pub drawn-less : (w : World) (goes : ThreadRow → Bool) → AreDrawn w → AreDrawn (record w { threads = without goes w.threads })
drawn-less w goes h = record {
  threads_single = differ-without number goes w.threads h.threads_single;
  threads_noted = every-without (is_noted w.used_threads) goes w.threads h.threads_noted;
  ports_drawn = ports-drawn w.used_threads w.used_threads w.threads (without goes w.threads) w.ports (was-drawn-less w.used_threads goes w.threads) h.ports_drawn;
  sections_drawn = sections-drawn w.used_threads w.used_threads w.threads (without goes w.threads) w.sections (was-drawn-less w.used_threads goes w.threads) h.sections_drawn;
  tokens_drawn = tokens-drawn w.used_threads w.used_threads w.threads (without goes w.threads) w.tokens (was-drawn-less w.used_threads goes w.threads) h.tokens_drawn;
}

-- what a thread of the table drew was drawn
drew-used : (used : List UsedThread) (b : Birth) (ts : List ThreadRow) → every (is_noted used) ts ≡ true → has (drew b) ts ≡ true → has (λ u. u.number == b.maker) used ≡ true
drew-used used b [] all there = absurd (cc)
drew-used used b (t ∷ ts) all there =
    elim (t.number == b.maker) as (λ c. (t.number == b.maker) ≡ c → has (λ u. u.number == b.maker) used ≡ true) [
      | true ↦ λ here.
          let noted : is_noted used t ≡ true = grind arith in
          subst (λ n. has (λ u. u.number == n) used ≡ true) (eqb-true t.number b.maker here) noted
      | false ↦ λ off. drew-used used b ts (grind arith) (grind arith)
    ] refl

drew-kept : (b : Birth) (ts : List ThreadRow) → has (is_thread b.maker) ts ≡ false → has (drew b) ts ≡ false
drew-kept b ts none = has_none-more (is_thread b.maker) (drew b) (λ t off. rw off refl) ts none

drew-all : (b : Birth) (ts : List ThreadRow) → are_single_threads ts ≡ true → has (drew b) ts ≡ true → every (drew_own b) ts ≡ true
drew-all b [] one there = refl
drew-all b (t ∷ ts) one there =
    elim (t.number == b.maker) as (λ c. (t.number == b.maker) ≡ c → every (drew_own b) (t ∷ ts) ≡ true) [
      | true ↦ λ here.
          let none = rest-none number t ts b.maker one (eqb-true t.number b.maker here) in
          let off = drew-kept b ts none in
          let own : drew_own b t ≡ true = grind (arith, off) in
          let rest = every-unless (is_thread b.maker) (λ x. nat_lt b.ordinal x.next_ordinal) ts none in
          rw (own, rest) refl
      | false ↦ λ off.
          let rest = drew-all b ts (grind arith) (grind arith) in
          rw (off, rest) refl
    ] refl

pub drew-drawn : (w : World) (b : Birth) → has (drew b) w.threads ≡ true → AreDrawn w → was_drawn w.used_threads w.threads b ≡ true
drew-drawn w b there h = drawn-of w.used_threads w.threads b (drew-used w.used_threads b w.threads h.threads_noted there) (drew-all b w.threads h.threads_single there)

-- a port more, whose birth was drawn
pub drawn-port : (w : World) (p : PortRow) → has (drew p.birth) w.threads ≡ true → AreDrawn w → AreDrawn (record w { ports = w.ports ++ p ∷ [] })
drawn-port w p there h = record {
  threads_single = h.threads_single;
  threads_noted = h.threads_noted;
  ports_drawn = every-push (λ q. was_drawn w.used_threads w.threads q.birth) w.ports p h.ports_drawn (drew-drawn w p.birth there h);
  sections_drawn = h.sections_drawn;
  tokens_drawn = h.tokens_drawn;
}

-- a section more, whose birth was drawn; or one less
pub drawn-section : (w : World) (s : SectionRow) (contents : Contents) → has (drew s.birth) w.threads ≡ true → AreDrawn w → AreDrawn (record w { sections = w.sections ++ s ∷ []; contents = contents })
drawn-section w s contents there h = record {
  threads_single = h.threads_single;
  threads_noted = h.threads_noted;
  ports_drawn = h.ports_drawn;
  sections_drawn = every-push (λ q. was_drawn w.used_threads w.threads q.birth) w.sections s h.sections_drawn (drew-drawn w s.birth there h);
  tokens_drawn = h.tokens_drawn;
}

pub drawn-freed : (w : World) (p : SectionRow → Bool) (contents : Contents) → AreDrawn w → AreDrawn (record w { sections = without p w.sections; contents = contents })
drawn-freed w p contents h = record {
  threads_single = h.threads_single;
  threads_noted = h.threads_noted;
  ports_drawn = h.ports_drawn;
  sections_drawn = every-without (λ q. was_drawn w.used_threads w.threads q.birth) p w.sections h.sections_drawn;
  tokens_drawn = h.tokens_drawn;
}

-- a token more, whose birth was drawn; or one less
pub drawn-token : (w : World) (k : TokenRow) → has (drew k.birth) w.threads ≡ true → AreDrawn w → AreDrawn (record w { tokens = w.tokens ++ k ∷ [] })
drawn-token w k there h = record {
  threads_single = h.threads_single;
  threads_noted = h.threads_noted;
  ports_drawn = h.ports_drawn;
  sections_drawn = h.sections_drawn;
  tokens_drawn = every-push (λ q. was_drawn w.used_threads w.threads q.birth) w.tokens k h.tokens_drawn (drew-drawn w k.birth there h);
}

pub drawn-token_freed : (w : World) (p : TokenRow → Bool) → AreDrawn w → AreDrawn (record w { tokens = without p w.tokens })
drawn-token_freed w p h = record {
  threads_single = h.threads_single;
  threads_noted = h.threads_noted;
  ports_drawn = h.ports_drawn;
  sections_drawn = h.sections_drawn;
  tokens_drawn = every-without (λ q. was_drawn w.used_threads w.threads q.birth) p w.tokens h.tokens_drawn;
}

-- what a thread draws next it has not drawn, and so no port has it
pub not-drawn : (t : ThreadRow) → drew_own (next_birth t) t ≡ false
not-drawn t = grind (arith, nat_tests)

pub fresh-birth : (w : World) (tid : ℕ) (t : ThreadRow) → AreDrawn w → first (is_thread tid) w.threads ≡ Some t → t.number ≡ tid → first (is_port (next_birth t)) w.ports ≡ None
fresh-birth w tid t h is own = by_port (first (is_port (next_birth t)) w.ports) refl
  where
    by_port : (o : Option PortRow) → first (is_port (next_birth t)) w.ports ≡ o → o ≡ None
    by_port None at = refl
    by_port (Some p) at =
        let same : p.birth ≡ next_birth t = birth-same p.birth (next_birth t) (first-passes (is_port (next_birth t)) w.ports p at) in
        let was : was_drawn w.used_threads w.threads p.birth ≡ true = every-first (λ q. was_drawn w.used_threads w.threads q.birth) (is_port (next_birth t)) w.ports p h.ports_drawn at in
        let all : every (drew_own (next_birth t)) w.threads ≡ true = subst (λ b. every (drew_own b) w.threads ≡ true) same (drawn-all w.used_threads w.threads p.birth was) in
        let yes : drew_own (next_birth t) t ≡ true = every-first (drew_own (next_birth t)) (is_thread tid) w.threads t all is in
        let no = not-drawn t in
        absurd (cc)

pub fresh-section : (w : World) (tid : ℕ) (t : ThreadRow) → AreDrawn w → first (is_thread tid) w.threads ≡ Some t → t.number ≡ tid → first (is_section (next_birth t)) w.sections ≡ None
fresh-section w tid t h is own = by_section (first (is_section (next_birth t)) w.sections) refl
  where
    by_section : (o : Option SectionRow) → first (is_section (next_birth t)) w.sections ≡ o → o ≡ None
    by_section None at = refl
    by_section (Some s) at =
        let same : s.birth ≡ next_birth t = birth-same s.birth (next_birth t) (first-passes (is_section (next_birth t)) w.sections s at) in
        let was : was_drawn w.used_threads w.threads s.birth ≡ true = every-first (λ q. was_drawn w.used_threads w.threads q.birth) (is_section (next_birth t)) w.sections s h.sections_drawn at in
        let all : every (drew_own (next_birth t)) w.threads ≡ true = subst (λ b. every (drew_own b) w.threads ≡ true) same (drawn-all w.used_threads w.threads s.birth was) in
        let yes : drew_own (next_birth t) t ≡ true = every-first (drew_own (next_birth t)) (is_thread tid) w.threads t all is in
        let no = not-drawn t in
        absurd (cc)

pub fresh-token : (w : World) (tid : ℕ) (t : ThreadRow) → AreDrawn w → first (is_thread tid) w.threads ≡ Some t → t.number ≡ tid → first (is_token (next_birth t)) w.tokens ≡ None
fresh-token w tid t h is own = by_token (first (is_token (next_birth t)) w.tokens) refl
  where
    by_token : (o : Option TokenRow) → first (is_token (next_birth t)) w.tokens ≡ o → o ≡ None
    by_token None at = refl
    by_token (Some k) at =
        let same : k.birth ≡ next_birth t = birth-same k.birth (next_birth t) (first-passes (is_token (next_birth t)) w.tokens k at) in
        let was : was_drawn w.used_threads w.threads k.birth ≡ true = every-first (λ q. was_drawn w.used_threads w.threads q.birth) (is_token (next_birth t)) w.tokens k h.tokens_drawn at in
        let all : every (drew_own (next_birth t)) w.threads ≡ true = subst (λ b. every (drew_own b) w.threads ≡ true) same (drawn-all w.used_threads w.threads k.birth was) in
        let yes : drew_own (next_birth t) t ≡ true = every-first (drew_own (next_birth t)) (is_thread tid) w.threads t all is in
        let no = not-drawn t in
        absurd (cc)

-- after the draw the thread has drawn it
pub now-drawn : (tid : ℕ) (ts : List ThreadRow) (t : ThreadRow) → first (is_thread tid) ts ≡ Some t → has (drew (next_birth t)) (change (is_thread tid) past_ordinal ts) ≡ true
now-drawn tid [] t is = cc
now-drawn tid (x ∷ xs) t is =
    elim (x.number == tid) as (λ c. (x.number == tid) ≡ c → has (drew (next_birth t)) (change (is_thread tid) past_ordinal (x ∷ xs)) ≡ true) [
      | true ↦ λ here.
          let same : x ≡ t = grind arith in
          let P : ThreadRow → Type 0 = λ y. drew (next_birth t) (past_ordinal y) ≡ true in
          let own : drew (next_birth t) (past_ordinal x) ≡ true = subst P (sym same) (grind (arith, nat_tests)) in
          grind (arith, own)
      | false ↦ λ off. grind (arith, now-drawn tid xs t)
    ] refl

-- where no two threads have one number, the live thread of a number is the thread of the number
pub live-first : (tid : ℕ) (ts : List ThreadRow) (t : ThreadRow) → are_single_threads ts ≡ true → first (is_live_thread tid) ts ≡ Some t → first (is_thread tid) ts ≡ Some t
live-first tid [] t one is = cc
live-first tid (x ∷ xs) t one is =
    elim (x.number == tid) as (λ c. (x.number == tid) ≡ c → first (is_thread tid) (x ∷ xs) ≡ Some t) [
      | true ↦ λ here.
          let own : x.number ≡ tid = eqb-true x.number tid here in
          let none = rest-none number x xs tid one own in
          grind (arith, none-live tid xs none)
      | false ↦ λ off. grind (arith, live-first tid xs t)
    ] refl
  where
    none-live : (tid : ℕ) (ts : List ThreadRow) → has (is_thread tid) ts ≡ false → first (is_live_thread tid) ts ≡ None
    none-live tid [] none = refl
    none-live tid (y ∷ ys) none = grind (arith, none-live tid ys)

-- and so the row of its own number
pub live-found : (tid : ℕ) (ts : List ThreadRow) (t : ThreadRow) → are_single_threads ts ≡ true → t.number ≡ tid → first (is_live_thread tid) ts ≡ Some t → first (is_thread t.number) ts ≡ Some t
live-found tid ts t one number is = ap (λ n. first (is_thread n) ts) number ∙ live-first tid ts t one is
