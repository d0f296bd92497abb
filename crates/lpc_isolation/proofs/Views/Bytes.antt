-- The bytes of sections: what steps do to them, and what of them is known from the inputs.
use Rattle.lpc_base.proofs.RowWords.{first-kept}
use Rattle.lpc_model.specs.Memory.{place_in}
use Rattle.std.proofs.Common.{◌≡◌, ℕ, List, [], ◌∷◌, ◌++◌, Bool, true, false, not, Option, Some, None, refl, ap, sym, subst, ◌∙◌, arith, ◌+◌}
use Rattle.std.specs.Prelude.{◌==◌, ◌||◌, option_map, ◌-◌}
use Rattle.std.proofs.lemmas.Bool.{false_from_ne_true, not-true}
use Rattle.lpc_base.specs.Rows.{change, first, has, which, without}
use Rattle.lpc_base.proofs.RowMaps.{every-first}
use Rattle.lpc_base.proofs.Bools.{first-true, same-number, second-true}
use Rattle.lpc_base.proofs.Births.{birth-same, birth-self}
use Rattle.lpc_model.specs.declared.entry.ObjectKind.{ObjectKind}
use Rattle.lpc_model.specs.declared.entry.ObjectKind.TheVariants as kind
use Rattle.lpc_model.specs.World.{Birth, ContentRow, Contents, Known, SectionRow, Unknown, ViewRow, World}
use Rattle.lpc_model.specs.Found.{is_content, same_birth, views_of}
use Rattle.lpc_model.specs.Basics.{AddsSection, Basic, Frees, Writes, basic, freed, in_known, world_after, written, zeros, overwritten}
use Rattle.lpc_model.specs.Circle.{Group, HasInnerViews, Whose, is_inner_view, is_write_of}
use Rattle.lpc_isolation.proofs.Views.Alone.{WritesOuter}
use Rattle.lpc_isolation.proofs.Views.Filters.{first-push_off}
use Rattle.lpc_isolation.proofs.Views.View.{of_birth, hidden_section, seen_view}
use Rattle.lpc_isolation.proofs.Views.Apart.{are_apart, is_apart}
use Rattle.lpc_isolation.proofs.Rows.Fair.{Fair, is_fair_view, views-fair}

-- What steps do to bytes
abbrev freed_bytes : Contents → ObjectKind → Birth → Contents
freed_bytes k kind.Port b = k
freed_bytes k kind.Section b = in_known (without (is_content b)) k
freed_bytes k kind.Token b = k
freed_bytes k kind.Process b = k
freed_bytes k kind.Thread b = k

abbrev pub contents_step : Contents → Basic → Contents
contents_step k (AddsSection s) = in_known (λ rows. rows ++ zeros s ∷ []) k
contents_step k (Writes b place new) = in_known (change (is_content b) (written place new)) k
contents_step k (Frees o) = freed_bytes k o.kind o.birth
contents_step k b = k

abbrev pub contents_after : Contents → List Basic → Contents
contents_after k [] = k
contents_after k (b ∷ bs) = contents_after (contents_step k b) bs

freed-bytes : (w : World) (s : ObjectKind) (b : Birth) → (freed w s b).contents ≡ freed_bytes w.contents s b
freed-bytes w kind.Port b = refl
freed-bytes w kind.Section b = refl
freed-bytes w kind.Token b = refl
freed-bytes w kind.Process b = refl
freed-bytes w kind.Thread b = refl

step-contents : (w : World) (b : Basic) → (basic w b).contents ≡ contents_step w.contents b
step-contents w (AddsSection s) = refl
step-contents w (Writes b place new) = refl
step-contents w (Frees o) = freed-bytes w o.kind o.birth
step-contents w b = refl

run-contents : (w : World) (bs : List Basic) → (world_after w bs).contents ≡ contents_after w.contents bs
run-contents w [] = refl
run-contents w (b ∷ bs) = run-contents (basic w b) bs ∙ ap (λ k. contents_after k bs) (step-contents w b)

-- the steps that change bytes
abbrev pub is_byte_step : Basic → Bool
is_byte_step (AddsSection s) = true
is_byte_step (Writes b place new) = true
is_byte_step (Frees o) = true
is_byte_step b = false

step-which : (k : Contents) (b : Basic) (bs : List Basic) → contents_after k (which is_byte_step (b ∷ bs)) ≡ contents_after (contents_step k b) (which is_byte_step bs)
step-which k (AddsSection s) bs = refl
step-which k (Writes b place new) bs = refl
step-which k (Frees o) bs = refl
step-which k b bs = refl

which-contents : (k : Contents) (bs : List Basic) → contents_after k bs ≡ contents_after k (which is_byte_step bs)
which-contents k [] = refl
which-contents k (b ∷ bs) = which-contents (contents_step k b) bs ∙ sym (step-which k b bs)

-- what steps do to bytes, by those that change them
pub steps-bytes : (w : World) (bs ws : List Basic) → which is_byte_step bs ≡ ws → (world_after w bs).contents ≡ contents_after w.contents ws
steps-bytes w bs ws is = run-contents w bs ∙ which-contents w.contents bs ∙ ap (contents_after w.contents) is

-- What is known of bytes
-- the bytes of a section, none where no row has them
abbrev pub held_bytes : Contents → Birth → Option (List ℕ)
held_bytes Unknown b = None
held_bytes (Known rows) b = option_map (λ (c : ContentRow). c.bytes) (first (is_content b) rows)

abbrev pub is_known : Contents → Bool
is_known Unknown = false
is_known (Known rows) = true

-- Two contents agree on members' sections that are outer at no moment. Rows are compared and not bytes, since what is written
-- behind no row and behind an empty one differs.
abbrev pub Agree : Group → (Birth → Bool) → Contents → Contents → Type 0
Agree m outer k w = (is_known k ≡ true) × (is_known w ≡ true) × ((b : Birth) → m b.process ≡ true → outer b ≡ false → held_bytes k b ≡ held_bytes w b)

-- the bytes of each section that a view of c's shows are those of the world
abbrev pub Right : ℕ → Contents → World → Type 0
Right c k w = (test : ViewRow → Bool) (v : ViewRow) → first test (views_of w c) ≡ Some v → held_bytes k v.section ≡ held_bytes w.contents v.section

known-in : (f : List ContentRow → List ContentRow) (k : Contents) → is_known (in_known f k) ≡ is_known k
known-in f Unknown = refl
known-in f (Known rows) = refl

-- bytes of another section
add-else : (k : Contents) (s : SectionRow) (d : Birth) → same_birth s.birth d ≡ false → held_bytes (contents_step k (AddsSection s)) d ≡ held_bytes k d
add-else Unknown s d off = refl
add-else (Known rows) s d off = ap (option_map (λ (c : ContentRow). c.bytes)) (first-push_off (is_content d) rows (zeros s) off)

change-else : (b d : Birth) (f : ContentRow → ContentRow) → ((c : ContentRow) → (f c).section ≡ c.section) → same_birth b d ≡ false → (cs : List ContentRow) → first (is_content d) (change (is_content b) f cs) ≡ first (is_content d) cs
change-else b d f same off [] = refl
change-else b d f same off (c ∷ cs) = at (is_content b c) (is_content d c) refl refl (change-else b d f same off cs)
  where
    at : (x y : Bool) → is_content b c ≡ x → is_content d c ≡ y → first (is_content d) (change (is_content b) f cs) ≡ first (is_content d) cs → first (is_content d) (change (is_content b) f (c ∷ cs)) ≡ first (is_content d) (c ∷ cs)
    at true true one two rest =
        let same : b ≡ d = sym (birth-same c.section b one) ∙ birth-same c.section d two in
        let it : same_birth b d ≡ true = subst (λ d. same_birth b d ≡ true) same (birth-self b) in absurd (cc)
    at true false one two rest = rw (one, ap (λ s. same_birth s d) (same c), two) rest
    at false true one two rest = rw (one, two) refl
    at false false one two rest = rw (one, two) rest

write-else : (k : Contents) (b d : Birth) (place : ℕ) (new : List ℕ) → same_birth b d ≡ false → held_bytes (contents_step k (Writes b place new)) d ≡ held_bytes k d
write-else Unknown b d place new off = refl
write-else (Known rows) b d place new off = ap (option_map (λ (c : ContentRow). c.bytes)) (change-else b d (written place new) (λ c. refl) off rows)

-- bytes of an outer section
pub agree-outer : (m : Group) (outer : Birth → Bool) (k w : Contents) (s : Birth) (place : ℕ) (new : List ℕ) → outer s ≡ true → Agree m outer k w → Agree m outer k (contents_step w (Writes s place new))
agree-outer m outer k w s place new is_outer a = (
  a.0,
  known-in (change (is_content s) (written place new)) w ∙ a.1,
  λ b inside off.
      let other : same_birth s b ≡ false = false_from_ne_true (same_birth s b) (λ is. let same : outer s ≡ outer b = ap outer (birth-same s b is) in cc) in
      a.2 b inside off ∙ sym (write-else w s b place new other),
)

-- An outsider's steps
-- they make sections of outsiders, and write outer ones
step-outside : (m : Group) (c : ℕ) (u : World) (d : Whose) (outer : Birth → Bool) (k : Contents) (w : World) (b : Basic) → is_apart m c u d w b ≡ true → ((s : Birth) → is_write_of s b ≡ true → outer s ≡ true) → Agree m outer k w.contents → Agree m outer k (contents_step w.contents b)
step-outside m c u d outer k w (AddsSection s) apart writes a =
    let out : m s.birth.process ≡ false = not-true (m s.birth.process) apart in (
      a.0,
      known-in (λ rows. rows ++ zeros s ∷ []) w.contents ∙ a.1,
      λ b inside off.
          let other : same_birth s.birth b ≡ false = false_from_ne_true (same_birth s.birth b) (λ is. let same : m s.birth.process ≡ m b.process = of_birth m s.birth b is in cc) in
          a.2 b inside off ∙ sym (add-else w.contents s b other),
    )
step-outside m c u d outer k w (Writes s place new) apart writes a = agree-outer m outer k w.contents s place new (writes s (birth-self s)) a
step-outside m c u d outer k w (Frees o) apart writes a = absurd (cc)
step-outside m c u d outer k w b apart writes a = a

has-here : (s : Birth) (b : Basic) (bs : List Basic) → is_write_of s b ≡ true → has (is_write_of s) (b ∷ bs) ≡ true
has-here s b bs is = rw is refl

has-later : (s : Birth) (b : Basic) (bs : List Basic) → has (is_write_of s) bs ≡ true → has (is_write_of s) (b ∷ bs) ≡ true
has-later s b bs is = at (is_write_of s b) refl
  where
    at : (e : Bool) → is_write_of s b ≡ e → has (is_write_of s) (b ∷ bs) ≡ true
    at true here = rw here refl
    at false off = rw off is

pub agree-outside : (m : Group) (c : ℕ) (u : World) (d : Whose) (outer : Birth → Bool) (k : Contents) (w : World) (bs : List Basic) → are_apart m c u d w bs ≡ true → WritesOuter outer bs → Agree m outer k w.contents → Agree m outer k (world_after w bs).contents
agree-outside m c u d outer k w [] apart writes a = a
agree-outside m c u d outer k w (b ∷ bs) apart writes a =
    agree-outside m c u d outer k (basic w b) bs (second-true _ _ apart) (λ s is. writes s (has-later s b bs is))
    (subst (Agree m outer k) (sym (step-contents w b)) (step-outside m c u d outer k w b (first-true _ _ (first-true _ _ apart)) (λ s is. writes s (has-here s b bs is)) a))

-- A member's steps
pushed : {X Y : Type 0} (p : X → Bool) (f : X → Y) (xs ys : List X) (z : X) → option_map f (first p xs) ≡ option_map f (first p ys) → option_map f (first p (xs ++ z ∷ [])) ≡ option_map f (first p (ys ++ z ∷ []))
pushed {X} {Y} p f xs ys z same = by (first p xs) (first p ys) refl refl same
  where
    by : (a b : Option X) → first p xs ≡ a → first p ys ≡ b → option_map f a ≡ option_map f b → option_map f (first p (xs ++ z ∷ [])) ≡ option_map f (first p (ys ++ z ∷ []))
    by None None one two same = ap (option_map f) (behind xs one ∙ sym (behind ys two))
      where
        behind : (xs : List X) → first p xs ≡ None → first p (xs ++ z ∷ []) ≡ first p (z ∷ [])
        behind [] none = refl
        behind (x ∷ xs) none = grind (arith, behind xs)
    by None (Some y) one two same = absurd (cc)
    by (Some x) None one two same = absurd (cc)
    by (Some x) (Some y) one two same = ap (option_map f) (first-kept p xs z x one) ∙ same ∙ sym (ap (option_map f) (first-kept p ys z y two))

add-same : (k w : Contents) (s : SectionRow) (d : Birth) → is_known k ≡ true → is_known w ≡ true → held_bytes k d ≡ held_bytes w d → held_bytes (contents_step k (AddsSection s)) d ≡ held_bytes (contents_step w (AddsSection s)) d
add-same Unknown w s d one two same = absurd (cc)
add-same (Known rows) Unknown s d one two same = absurd (cc)
add-same (Known rows) (Known others) s d one two same = pushed (is_content d) (λ (c : ContentRow). c.bytes) rows others (zeros s) same

change-here : (b : Birth) (f : ContentRow → ContentRow) → ((c : ContentRow) → (f c).section ≡ c.section) → (cs : List ContentRow) → first (is_content b) (change (is_content b) f cs) ≡ option_map f (first (is_content b) cs)
change-here b f same [] = refl
change-here b f same (c ∷ cs) = at (is_content b c) refl (change-here b f same cs)
  where
    at : (x : Bool) → is_content b c ≡ x → first (is_content b) (change (is_content b) f cs) ≡ option_map f (first (is_content b) cs) → first (is_content b) (change (is_content b) f (c ∷ cs)) ≡ option_map f (first (is_content b) (c ∷ cs))
    at true is rest = rw (is, ap (λ s. same_birth s b) (same c), is) refl
    at false off rest = rw (off, off) rest

bytes-written : (place : ℕ) (new : List ℕ) (o : Option ContentRow) → option_map (λ (c : ContentRow). c.bytes) (option_map (written place new) o) ≡ option_map (overwritten place new) (option_map (λ (c : ContentRow). c.bytes) o)
bytes-written place new None = refl
bytes-written place new (Some c) = refl

write-here : (k : Contents) (b : Birth) (place : ℕ) (new : List ℕ) → held_bytes (contents_step k (Writes b place new)) b ≡ option_map (overwritten place new) (held_bytes k b)
write-here Unknown b place new = refl
write-here (Known rows) b place new = ap (option_map (λ (c : ContentRow). c.bytes)) (change-here b (written place new) (λ c. refl) rows) ∙ bytes-written place new (first (is_content b) rows)

write-same : (k w : Contents) (b d : Birth) (place : ℕ) (new : List ℕ) → held_bytes k d ≡ held_bytes w d → held_bytes (contents_step k (Writes b place new)) d ≡ held_bytes (contents_step w (Writes b place new)) d
write-same k w b d place new same = at (same_birth b d) refl
  where
    at : (e : Bool) → same_birth b d ≡ e → held_bytes (contents_step k (Writes b place new)) d ≡ held_bytes (contents_step w (Writes b place new)) d
    at true is =
        let it : b ≡ d = birth-same b d is in
        subst (λ b. held_bytes (contents_step k (Writes b place new)) d ≡ held_bytes (contents_step w (Writes b place new)) d) (sym it)
        (write-here k d place new ∙ ap (option_map (overwritten place new)) same ∙ sym (write-here w d place new))
    at false off = write-else k b d place new off ∙ same ∙ sym (write-else w b d place new off)

-- a section that is made, in both
pub agree-add : (m : Group) (outer : Birth → Bool) (k w : Contents) (s : SectionRow) → Agree m outer k w → Agree m outer (contents_step k (AddsSection s)) (contents_step w (AddsSection s))
agree-add m outer k w s a = (
  known-in (λ rows. rows ++ zeros s ∷ []) k ∙ a.0,
  known-in (λ rows. rows ++ zeros s ∷ []) w ∙ a.1,
  λ d inside off. add-same k w s d a.0 a.1 (a.2 d inside off),
)

-- bytes that are written in both: of one section, or of an outsider's each
pub agree-write : (m : Group) (outer : Birth → Bool) (k w : Contents) (b d : Birth) (place other : ℕ) (new : List ℕ)
    → ((s : Birth) → m s.process ≡ true → held_bytes k s ≡ held_bytes w s → held_bytes (contents_step k (Writes b place new)) s ≡ held_bytes (contents_step w (Writes d other new)) s)
    → Agree m outer k w → Agree m outer (contents_step k (Writes b place new)) (contents_step w (Writes d other new))
agree-write m outer k w b d place other new same a = (
  known-in (change (is_content b) (written place new)) k ∙ a.0,
  known-in (change (is_content d) (written other new)) w ∙ a.1,
  λ s inside off. same s inside (a.2 s inside off),
)

-- as a view shows it
pub agree-seen : (m : Group) (outer : Birth → Bool) (k w : Contents) (v : ViewRow) (address : ℕ) (new : List ℕ) → Agree m outer k w → Agree m outer (contents_step k (Writes (seen_view m v).section (place_in (seen_view m v) address) new)) (contents_step w (Writes v.section (place_in v address) new))
agree-seen m outer k w v address new a = agree-write m outer k w (seen_view m v).section v.section (place_in (seen_view m v) address) (place_in v address) new (λ s inside same. at (m v.section.process) refl s inside same) a
  where
    at : (e : Bool) → m v.section.process ≡ e → (s : Birth) → m s.process ≡ true → held_bytes k s ≡ held_bytes w s → held_bytes (contents_step k (Writes (seen_view m v).section (place_in (seen_view m v) address) new)) s ≡ held_bytes (contents_step w (Writes v.section (place_in v address) new)) s
    at true is s inside same = rw is (write-same k w v.section s (place_in v address) new same)
    at false out s inside same =
        let other : (b : Birth) → m b.process ≡ false → same_birth b s ≡ false = λ b off. false_from_ne_true (same_birth b s) (λ is. let same : m b.process ≡ m s.process = of_birth m b s is in cc) in
        rw out (write-else k (hidden_section v.section) s (0 + (address - v.base)) new (other (hidden_section v.section) out) ∙ same ∙ sym (write-else w v.section s (place_in v address) new (other v.section out)))

-- What c reads
pub agree-right : (m : Group) (c : ℕ) (outer : Birth → Bool) (w : World) (k : Contents) → m c ≡ true → Fair m c w → HasInnerViews c outer w → Agree m outer k w.contents → Right c k w
agree-right m c outer w k c_in f inner a test v at =
    let section : m v.section.process ≡ true = last (c == c) (m v.section.process) (same-number c) (first-true _ _ (every-first (is_fair_view m c c) test (views_of w c) v (views-fair m c w c f) at)) in
    let off : outer v.section ≡ false = not-true (outer v.section) (every-first (is_inner_view outer) test (views_of w c) v inner at) in
    a.2 v.section section off
  where
    last : (a b : Bool) → a ≡ true → (not a || b) ≡ true → b ≡ true
    last a b is it = grind arith
