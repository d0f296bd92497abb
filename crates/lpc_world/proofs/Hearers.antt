-- Processes that go, or whose debug port and exception port change: the ports that were told of their exceptions are
-- suspected.
use Rattle.std.proofs.Common.{Bool, cond, List, [], ◌∷◌, ◌++◌, ap, arith, false, not, refl, true, ℕ, ◌+◌, ◌≡◌, ◌≤◌, subst, sym, ◌∙◌, Option, Some, None}
use Rattle.std.specs.Prelude.{◌||◌, ◌==◌, IfSome, is_some, option_map}
use Rattle.std.proofs.lemmas.Bool.Decides.{nat_tests}
use Rattle.lpc_base.specs.Rows.{change, count, differ_by, each, every, first, has, without}
use Rattle.lpc_base.proofs.Births.{birth-turned}
use Rattle.lpc_base.proofs.Bools.{first-true, second-true}
use Rattle.lpc_base.proofs.Differ.{own-rows, rest-differ, rest-none}
use Rattle.lpc_base.proofs.RowWords.{count-append, count-none, every-unless, first-passes}
use Rattle.lpc_model.specs.World.{Birth, ProcessRow, World}
use Rattle.lpc_model.specs.World as model
use Rattle.lpc_model.specs.Found.{event_ports_of, is_born_process, is_process, is_the, listed, same_birth}
use Rattle.lpc_model.specs.Raise.{event_port_of}
use Rattle.lpc_model.proofs.Steps.Rows.{lone}
use Rattle.lpc_slots.specs.declared.Key.{Key}
use Rattle.lpc_rows.specs.Lawful.{are_single_processes}
use Rattle.lpc_rows.specs.Names.{Names, name_of, some_stands, stands}
use Rattle.lpc_rows.specs.Suspects.{AreSuspected, SuspectTable, suspecting_some}
use Rattle.lpc_rows.proofs.Claims.{processes-keep}
use Rattle.lpc_rows.proofs.Suspected.{adds-two, covers}
use Rattle.lpc_world.specs.Suspected.{AreHearers}

-- What the rows give together
sums : (a b c d n m : ℕ) → n ≡ a + b → m ≡ c + d → a ≡ 0 → b ≤ d → n ≤ m
sums a b c d n m one two none back = omega (arith, one, two, none, back)

alike : (a b d n m : ℕ) → n ≡ a + b → m ≡ a + d → b ≤ d → n ≤ m
alike a b d n m one two back = omega (arith, one, two, back)

none : {X Y : Type 0} (p : Y → Bool) (f : X → List Y) (x : X) → (not true || not (has p (f x))) ≡ true → count p (f x) ≡ 0
none p f x off = count-none p (f x) (flip _ off)
  where
    flip : (c : Bool) → not c ≡ true → c ≡ false
    flip true is = absurd (cc)
    flip false is = refl

-- of rows that change, and gave nothing that passes
pub each-changed : {X Y : Type 0} (p : Y → Bool) (f : X → List Y) (test : X → Bool) (g : X → X) (xs : List X) → every (λ x. not (test x) || not (has p (f x))) xs ≡ true → count p (each f xs) ≤ count p (each f (change test g xs))
each-changed p f test g [] off = omega arith
each-changed p f test g (x ∷ xs) off = at (test x) refl (first-true _ _ off) (each-changed p f test g xs (second-true _ _ off))
  where
    at : (c : Bool) → test x ≡ c → (not c || not (has p (f x))) ≡ true → count p (each f xs) ≤ count p (each f (change test g xs)) → count p (each f (x ∷ xs)) ≤ count p (each f (cond c (g x) x ∷ change test g xs))
    at true is off rest = sums _ _ _ _ _ _ (count-append p (f x) (each f xs)) (count-append p (f (g x)) (each f (change test g xs))) (none p f x off) rest
    at false is off rest = alike _ _ _ _ _ (count-append p (f x) (each f xs)) (count-append p (f x) (each f (change test g xs))) rest

-- of rows that go
pub each-left : {X Y : Type 0} (p : Y → Bool) (f : X → List Y) (test : X → Bool) (xs : List X) → every (λ x. not (test x) || not (has p (f x))) xs ≡ true → count p (each f xs) ≤ count p (each f (without test xs))
each-left p f test [] off = omega arith
each-left p f test (x ∷ xs) off = at (test x) refl (first-true _ _ off) (each-left p f test xs (second-true _ _ off))
  where
    gone : (a b d n : ℕ) → n ≡ a + b → a ≡ 0 → b ≤ d → n ≤ d
    gone a b d n one none back = omega (arith, one, none, back)

    at : (c : Bool) → test x ≡ c → (not c || not (has p (f x))) ≡ true → count p (each f xs) ≤ count p (each f (without test xs)) → count p (each f (x ∷ xs)) ≤ count p (each f (without test (x ∷ xs)))
    at true is off rest = rw (is) (gone _ _ _ _ (count-append p (f x) (each f xs)) (none p f x off) rest)
    at false is off rest = rw (is) (alike _ _ _ _ _ (count-append p (f x) (each f xs)) (count-append p (f x) (each f (without test xs))) rest)

-- the row of a number is the one that is found, where no two rows have one
pub own-first : {X : Type 0} (number : X → ℕ) (p : X → Bool) (xs : List X) (x : X) → differ_by number xs ≡ true → first p xs ≡ Some x → first (λ y. number y == number x) xs ≡ Some x
own-first number p [] x one found = absurd (cc)
own-first number p (y ∷ ys) x one found = at (p y) refl found (λ later. own-first number p ys x (rest-differ number y ys one) later)
  where
    at : (c : Bool) → p y ≡ c → cond c (Some y) (first p ys) ≡ Some x → (first p ys ≡ Some x → first (λ z. number z == number x) ys ≡ Some x) → first (λ z. number z == number x) (y ∷ ys) ≡ Some x
    at true here found rest =
        let same : y ≡ x = cc in
        let own : (number x == number x) ≡ true = grind (arith, nat_tests) in
        subst (λ z. first (λ v. number v == number x) (z ∷ ys) ≡ Some x) (sym same) (rw (own) refl)
    at false off found rest = other (number y == number x) refl (rest found)
      where
        other : (c : Bool) → (number y == number x) ≡ c → first (λ z. number z == number x) ys ≡ Some x → first (λ z. number z == number x) (y ∷ ys) ≡ Some x
        other false away later = rw (away) later
        other true is later =
            let equal : number y ≡ number x = grind (arith, nat_tests, is) in
            let off : has (λ z. number z == number x) ys ≡ false = rest-none number y ys (number x) one equal in
            let there : has (λ z. number z == number x) ys ≡ true = ap is_some later in
            absurd (grind (arith, off, there))

pub the-covered : (n : Names) (o : Option Key) (b : Birth) → is_the b (option_map (name_of n) o) ≡ covers n o b
the-covered n None b = refl
the-covered n (Some key) b = birth-turned b (name_of n key)

-- no port that isn't suspected is told of the exceptions of the process
module _ (w : World) (n : Names) (s : SuspectTable) (old : AreSuspected w n s) where
  neither : (b : Birth) (d e : Option Birth) → is_the b d ≡ false → is_the b e ≡ false → not (has (same_birth b) (listed d ++ listed e)) ≡ true
  neither b None None one two = refl
  neither b None (Some e) one two = grind (arith, two)
  neither b (Some d) None one two = grind (arith, one)
  neither b (Some d) (Some e) one two = grind (arith, one, two)

  deaf : (b : Birth) (p : ProcessRow) (one two : Option Key) → AreHearers n (Some p) one two → covers n one b ≡ false → covers n two b ≡ false → not (has (same_birth b) (event_ports_of p)) ≡ true
  deaf b p one two are off away = neither b p.debug_port p.exception_port (ap (is_the b) (sym are.debug) ∙ (the-covered n one b ∙ off)) (ap (is_the b) (sym are.exception) ∙ (the-covered n two b ∙ away))

  -- a process changes, that of a number
  pub retold-to : (v : World) (pid : ℕ) (f : ProcessRow → ProcessRow) (one two : Option Key) → are_single_processes w.processes ≡ true → AreHearers n (first (is_process pid) w.processes) one two
      → v ≡ record w { processes = change (is_process pid) f w.processes } → AreSuspected v n (suspecting_some two (suspecting_some one s))
  retold-to v pid f one two single are is =
      subst (λ (u : World). AreSuspected u n (suspecting_some two (suspecting_some one s))) (sym is)
      (adds-two w (record w { processes = change (is_process pid) f w.processes }) n s one two are.debug_stands are.exception_stands (λ b there. there)
      (λ b off away. processes-keep w b (change (is_process pid) f w.processes) (each-changed (same_birth b) event_ports_of (is_process pid) f w.processes (apart b off away (first (is_process pid) w.processes) refl are))) old)
    where
      apart : (b : Birth) → covers n one b ≡ false → covers n two b ≡ false → (o : Option ProcessRow) → first (is_process pid) w.processes ≡ o → AreHearers n o one two → every (λ (p : ProcessRow). not (is_process pid p) || not (has (same_birth b) (event_ports_of p))) w.processes ≡ true
      apart b off away None found are = every-unless (is_process pid) (λ (p : ProcessRow). not (has (same_birth b) (event_ports_of p))) w.processes (ap is_some found)
      apart b off away (Some p) found are = own-rows (λ (p : ProcessRow). p.number) (λ (p : ProcessRow). not (has (same_birth b) (event_ports_of p))) pid w.processes p single found (deaf b p one two are off away)

  -- the process with a birth goes
  pub unmade-to : (v : World) (c : Birth) (one two : Option Key) → count (is_born_process c) w.processes ≤ 1 → AreHearers n (first (is_born_process c) w.processes) one two
      → v ≡ record w { processes = without (is_born_process c) w.processes } → AreSuspected v n (suspecting_some two (suspecting_some one s))
  unmade-to v c one two single are is =
      subst (λ (u : World). AreSuspected u n (suspecting_some two (suspecting_some one s))) (sym is)
      (adds-two w (record w { processes = without (is_born_process c) w.processes }) n s one two are.debug_stands are.exception_stands (λ b there. there)
      (λ b off away. processes-keep w b (without (is_born_process c) w.processes) (each-left (same_birth b) event_ports_of (is_born_process c) w.processes (apart b off away (first (is_born_process c) w.processes) refl are))) old)
    where
      apart : (b : Birth) → covers n one b ≡ false → covers n two b ≡ false → (o : Option ProcessRow) → first (is_born_process c) w.processes ≡ o → AreHearers n o one two → every (λ (p : ProcessRow). not (is_born_process c p) || not (has (same_birth b) (event_ports_of p))) w.processes ≡ true
      apart b off away None found are = every-unless (is_born_process c) (λ (p : ProcessRow). not (has (same_birth b) (event_ports_of p))) w.processes (ap is_some found)
      apart b off away (Some p) found are = lone (is_born_process c) (λ (p : ProcessRow). not (has (same_birth b) (event_ports_of p))) (is_born_process c) w.processes p single found (first-passes (is_born_process c) w.processes p found) (deaf b p one two are off away)

-- What is found of them
-- by the number of a process
pub hearers-of : (w : World) (n : Names) (pid : ℕ) (one two : Option Key) → option_map (name_of n) one ≡ event_port_of w pid model.FirstDebug → option_map (name_of n) two ≡ event_port_of w pid model.LastException
    → IfSome one (λ key. stands n key ≡ true) → IfSome two (λ key. stands n key ≡ true) → AreHearers n (first (is_process pid) w.processes) one two
hearers-of w n pid one two debug exception there here = record { debug = debug; exception = exception; debug_stands = all one there; exception_stands = all two here }
  where
    all : (o : Option Key) → IfSome o (λ key. stands n key ≡ true) → some_stands n o ≡ true
    all None is = refl
    all (Some key) is = is

-- by the birth of one
module _ (w : World) (c : Birth) (single : are_single_processes w.processes ≡ true) where
  pub born-number : (pid : ℕ) → Some pid ≡ option_map (λ (p : ProcessRow). p.number) (first (is_born_process c) w.processes) → first (is_process pid) w.processes ≡ first (is_born_process c) w.processes
  born-number pid at = by (first (is_born_process c) w.processes) refl at
    where
      by : (o : Option ProcessRow) → first (is_born_process c) w.processes ≡ o → Some pid ≡ option_map (λ (p : ProcessRow). p.number) o → first (is_process pid) w.processes ≡ first (is_born_process c) w.processes
      by None found at = absurd (cc)
      by (Some p) found at =
          let number : p.number ≡ pid = cc in
          subst (λ k. first (is_process k) w.processes ≡ Some p) number (own-first (λ (q : ProcessRow). q.number) (is_born_process c) w.processes p single found) ∙ sym found

  pub born-there : (pid : ℕ) → Some pid ≡ option_map (λ (p : ProcessRow). p.number) (first (is_born_process c) w.processes) → has (is_process pid) w.processes ≡ true
  born-there pid at = ap is_some (born-number pid at) ∙ some (first (is_born_process c) w.processes) at
    where
      some : (o : Option ProcessRow) → Some pid ≡ option_map (λ (p : ProcessRow). p.number) o → is_some o ≡ true
      some None at = absurd (cc)
      some (Some p) at = refl

  pub hearers-born : (n : Names) (pid : ℕ) (one two : Option Key) → Some pid ≡ option_map (λ (p : ProcessRow). p.number) (first (is_born_process c) w.processes) → AreHearers n (first (is_process pid) w.processes) one two → AreHearers n (first (is_born_process c) w.processes) one two
  hearers-born n pid one two at are = subst (λ (o : Option ProcessRow). AreHearers n o one two) (born-number pid at) are

  pub hearers-none : (n : Names) → None ≡ option_map (λ (p : ProcessRow). p.number) (first (is_born_process c) w.processes) → AreHearers n (first (is_born_process c) w.processes) None None
  hearers-none n at = by (first (is_born_process c) w.processes) at
    where
      by : (o : Option ProcessRow) → None ≡ option_map (λ (p : ProcessRow). p.number) o → AreHearers n o None None
      by None at = record { debug = refl; exception = refl; debug_stands = refl; exception_stands = refl }
      by (Some p) at = absurd (cc)
