-- The ports that threads registered: what each change of threads and ports leaves of them.
use Rattle.std.proofs.Common.{◌≡◌, ◌+◌, ◌≤◌, ◌∙◌, ℕ, List, [], ◌∷◌, ◌++◌, Bool, true, false, cond, length, map, refl, ap, sym, subst, arith}
use Rattle.std.proofs.lemmas.List.{length-append, length-map, map-append}
use Rattle.lpc_base.specs.Rows.{change, count, each, every, has, when, without}
use Rattle.lpc_base.proofs.RowWords.{count-append, count-bound, every-more}
use Rattle.lpc_model.specs.World.{Birth, ThreadRow}
use Rattle.lpc_model.specs.Found.{is_thread, registered_by, same_birth}
use Rattle.lpc_model.proofs.Steps.Rows.{has-append}
use Rattle.lpc_procs.specs.Procs.{has_registered, is_of_birth, live_registrations, registered_live}
use Rattle.lpc_procs.specs.declared.rows.ThreadRow as procs
use Rattle.lpc_procs.specs.declared.rows.Registration.{Registration}
use Rattle.lpc_slots.specs.Table.{is_key}
use Rattle.lpc_slots.specs.declared.Key.{Key}
use Rattle.lpc_slots.proofs.Keys.{key_is}
use Rattle.lpc_rows.specs.Lawful.{has_named_ports, is_under_name}
use Rattle.lpc_rows.specs.Names.{KeepsNames, KeepsOthers, name_of}
use Rattle.lpc_rows.specs.Shown.{Births, shown_thread}

abbrev pub registrations : ThreadRow → List Birth
registrations t = t.registrations

-- a thread is changed that keeps them
pub registered-change : (f : ThreadRow → ThreadRow) → ((t : ThreadRow) → (f t).registrations ≡ t.registrations) → (who : ℕ) (ts : List ThreadRow) → each registrations (change (is_thread who) f ts) ≡ each registrations ts
registered-change f same who [] = refl
registered-change f same who (t ∷ ts) =
    let one : (cond (is_thread who t) (f t) t).registrations ≡ t.registrations = elim (is_thread who t) as (λ b. (cond b (f t) t).registrations ≡ t.registrations) [ true ↦ same t | false ↦ refl ] in
    rw (one, registered-change f same who ts) refl

-- a thread comes that has none
pub registered-push : (ts : List ThreadRow) (t : ThreadRow) → t.registrations ≡ [] → each registrations (ts ++ t ∷ []) ≡ each registrations ts
registered-push [] t none = rw none refl
registered-push (s ∷ ts) t none = rw (registered-push ts t none) refl

-- threads go
pub registered-less_threads : (goes : ThreadRow → Bool) (ts : List ThreadRow) → length (each registrations (without goes ts)) ≤ length (each registrations ts)
registered-less_threads goes [] = omega arith
registered-less_threads goes (t ∷ ts) =
    let rest = registered-less_threads goes ts in
    let long = length-append t.registrations (each registrations ts) in
    elim (goes t) as (λ c. goes t ≡ c → length (each registrations (without goes (t ∷ ts))) ≤ length (each registrations (t ∷ ts))) [
      | true ↦ λ gone. rw gone (omega (arith, rest, long))
      | false ↦ λ stays. rw stays (let left = length-append t.registrations (each registrations (without goes ts)) in omega (arith, rest, long, left))
    ] refl

-- Their ports stand under their names where all do that stood
module _ (n m : Births) (keeps : KeepsNames n.ports m.ports) where
  pub under-name : (r : Registration) → is_under_name n r ≡ true → is_under_name m r ≡ true
  under-name r there = rw (keeps.there r.port (grind arith), keeps.name r.port (grind arith)) (grind arith)

  pub registered-more : (ts : List procs.ThreadRow) → every (has_named_ports n) ts ≡ true → every (has_named_ports m) ts ≡ true
  registered-more ts all = every-more (has_named_ports n) (has_named_ports m) (λ t there. every-more (is_under_name n) (is_under_name m) under-name t.registered.items there) ts all

-- and where a port goes that no thread registered
module _ (n m : Births) (key : Key) (keeps : KeepsOthers key n.ports m.ports) where
  abbrev b : Birth
  b = name_of n.ports key

  under-other : (r : Registration) → is_under_name n r ≡ true → same_birth b r.birth ≡ false → is_under_name m r ≡ true
  under-other r there off = elim (is_key r.port key) as (λ c. is_key r.port key ≡ c → is_under_name m r ≡ true) [
    | true ↦ λ here.
        let named : same_birth (name_of n.ports r.port) r.birth ≡ true = grind arith in
        let own : same_birth b r.birth ≡ true = subst (λ k. same_birth (name_of n.ports k) r.birth ≡ true) (key_is r.port key here) named in
        absurd (cc)
    | false ↦ λ other. rw (keeps.there r.port other (grind arith), keeps.name r.port other (grind arith)) (grind arith)
  ] refl

  pub unders-other : (rs : List Registration) → every (is_under_name n) rs ≡ true → has (same_birth b) (map (λ (r : Registration). r.birth) rs) ≡ false → every (is_under_name m) rs ≡ true
  unders-other [] all off = refl
  unders-other (r ∷ rs) all off = grind (arith, under-other r, unders-other rs)

  pub registered-less : (ts : List procs.ThreadRow) → every (has_named_ports n) ts ≡ true → has (same_birth b) (each registrations (map shown_thread ts)) ≡ false → every (has_named_ports m) ts ≡ true
  registered-less [] all off = refl
  registered-less (t ∷ ts) all off =
      let parts = has-append (same_birth b) (shown_thread t).registrations (each registrations (map shown_thread ts)) in
      grind (arith, parts, unders-other t.registered.items, registered-less ts)

-- the registrations of live threads are no more than all
pub live-few : (p : Birth → Bool) (ts : List ThreadRow) → count p (each registered_by ts) ≤ length (each registrations ts)
live-few p [] = omega arith
live-few p (t ∷ ts) =
    let rest = live-few p ts in
    let long = length-append t.registrations (each registrations ts) in
    at t.live refl rest long
  where
    at : (live : Bool) → t.live ≡ live → count p (each registered_by ts) ≤ length (each registrations ts) → length (t.registrations ++ each registrations ts) ≡ length t.registrations + length (each registrations ts)
        → count p (each registered_by (t ∷ ts)) ≤ length (each registrations (t ∷ ts))
    at true is rest long = rw is (omega (arith, rest, long, count-append p t.registrations (each registered_by ts), count-bound p t.registrations))
    at false is rest long = rw is (omega (arith, rest, long))

-- The table's registrations are those of the definitions
pub registered-shown : (ts : List procs.ThreadRow) → each registrations (map shown_thread ts) ≡ map (λ (r : Registration). r.birth) (each (λ (t : procs.ThreadRow). t.registered.items) ts)
registered-shown [] = refl
registered-shown (t ∷ ts) = ap (λ bs. (shown_thread t).registrations ++ bs) (registered-shown ts) ∙ sym (map-append (λ (r : Registration). r.birth) t.registered.items (each (λ (u : procs.ThreadRow). u.registered.items) ts))

-- as many, and as many of a birth
pub registered-many : (ts : List procs.ThreadRow) → length (each registrations (map shown_thread ts)) ≡ length (each (λ (t : procs.ThreadRow). t.registered.items) ts)
registered-many ts = ap length (registered-shown ts) ∙ length-map (each (λ (t : procs.ThreadRow). t.registered.items) ts) (λ (r : Registration). r.birth)

pub births-registered : (b : Birth) (rs : List Registration) → has (same_birth b) (map (λ (r : Registration). r.birth) rs) ≡ has (is_of_birth b) rs
births-registered b [] = refl
births-registered b (r ∷ rs) = grind (arith, births-registered b rs)

pub registered-names : (b : Birth) (ts : List procs.ThreadRow) → has (same_birth b) (each registrations (map shown_thread ts)) ≡ has (has_registered b) ts
registered-names b [] = refl
registered-names b (t ∷ ts) = has-append (same_birth b) (shown_thread t).registrations (each registrations (map shown_thread ts)) ∙ grind (arith, births-registered b t.registered.items, registered-names b ts)

pub live-counted : (b : Birth) (ts : List procs.ThreadRow) → count (same_birth b) (each registered_by (map shown_thread ts)) ≡ count (is_of_birth b) (live_registrations ts)
live-counted b [] = refl
live-counted b (t ∷ ts) =
    count-append (same_birth b) (registered_by (shown_thread t)) (each registered_by (map shown_thread ts))
    ∙ grind (arith, one t.live t.registered.items, live-counted b ts, count-append (is_of_birth b) (registered_live t) (live_registrations ts))
  where
    many : (rs : List Registration) → count (same_birth b) (map (λ (r : Registration). r.birth) rs) ≡ count (is_of_birth b) rs
    many [] = refl
    many (r ∷ rs) = grind (arith, many rs)

    one : (live : Bool) (rs : List Registration) → count (same_birth b) (when live (map (λ (r : Registration). r.birth) rs)) ≡ count (is_of_birth b) (when live rs)
    one true rs = many rs
    one false rs = refl
