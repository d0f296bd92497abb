-- How many sections and tokens are held, after a handle or a view came or went.
use Rattle.std.proofs.Common.{◌≡◌, ◌+◌, ◌-◌, ◌||◌, ◌&&◌, ℕ, Bool, true, false, not, List, Option, Some, None, [], ◌∷◌, refl, sym, ap, subst, ◌∙◌, arith}
use Rattle.std.specs.Prelude.{IfSome, if◌then◌else◌, nat_lt}
use Rattle.std.proofs.lemmas.Option.{same_Some}
use Rattle.std.proofs.lemmas.Bool.Decides.{nat_tests}
use Rattle.lpc_base.specs.Rows.{count}
use Rattle.lpc_homes.specs.Counts.{AreAllCounted, Counted, Gains, GainsViews, Loses, LosesViews, count_in, one_for}
use Rattle.lpc_homes.specs.Held.{AreSoMany, is_held_section, is_held_token}
use Rattle.lpc_homes.specs.Numbered.{AreNumbered, Grows, Shrinks, is_counted, is_numbered, is_section, is_token, total}
use Rattle.lpc_homes.specs.Parts.{all_views}
use Rattle.lpc_homes.specs.declared.held.Held.{Held}
use Rattle.lpc_homes.specs.declared.object.Object.{Object}
use Rattle.lpc_homes.specs.declared.object.Object.TheVariants as kinds
use Rattle.lpc_homes.specs.declared.parts.Part.{Part}
use Rattle.lpc_homes.proofs.Counted.{named_counted}
use Rattle.lpc_homes.proofs.Many.{as_many, none_pass, one_comes, one_goes}
use Rattle.lpc_homes.proofs.Taken.{count-one}
use Rattle.lpc_homes.proofs.Viewed.{seen_counted}
use Rattle.lpc_slots.proofs.Keys.{key_is, key_turned}
use Rattle.lpc_slots.specs.Table.{is_key}
use Rattle.lpc_slots.specs.declared.Key.{Key}
use Rattle.lpc_views.specs.Views.{shows}
use Rattle.lpc_views.specs.declared.view.View.{View}

-- a key that has some
abbrev on : (Key → ℕ) → Key → Bool
on t key = nat_lt 0 (t key)

-- The number of the keys that have some
module _ (t u : Key → ℕ) (old new : Option ℕ) where
  -- no key has more or fewer
  pub still : ((k : Key) → u k ≡ t k) → Grows false old new → IfSome old (AreSoMany (on t)) → IfSome new (AreSoMany (on u))
  still same grows many = by old new grows many
    where
      by : (o n : Option ℕ) → Grows false o n → IfSome o (AreSoMany (on t)) → IfSome n (AreSoMany (on u))
      by o None grows many = tt
      by None (Some n) grows many = absurd (cc)
      by (Some m) (Some n) grows many =
          let is : m ≡ n = omega (arith, same_Some _ n grows) in
          rw (← is) (as_many (on t) (on u) m many (λ k. ap (nat_lt 0) (same k)))

  -- one key has one more: if it had none
  pub risen : (x : Key) (first : Bool) → ((k : Key) → u k ≡ t k + (if is_key x k then 1 else 0)) → first ≡ not (nat_lt 0 (t x)) → Grows first old new → IfSome old (AreSoMany (on t)) → IfSome new (AreSoMany (on u))
  risen x first more is grows many = by first old new is grows many
    where
      at : (k : Key) (b : Bool) → is_key x k ≡ b → on u k ≡ (is_key k x || on t k)
      at k b here = grind (arith, nat_tests, more k, here, key_turned x k)

      by : (b : Bool) (o n : Option ℕ) → b ≡ not (nat_lt 0 (t x)) → Grows b o n → IfSome o (AreSoMany (on t)) → IfSome n (AreSoMany (on u))
      by b o None is grows many = tt
      by b None (Some n) is grows many = absurd (cc)
      by true (Some m) (Some n) is grows many =
          let same : m + 1 ≡ n = omega (arith, same_Some _ n grows) in
          rw (← same) (one_comes (on t) (on u) m many x (grind (arith, is)) (λ k. at k (is_key x k) refl))
      by false (Some m) (Some n) is grows many =
          let same : m ≡ n = omega (arith, same_Some _ n grows) in
          rw (← same) (as_many (on t) (on u) m many (λ k. at k (is_key x k) refl ∙ had k (is_key k x) refl))
        where
          had : (k : Key) (b : Bool) → is_key k x ≡ b → (is_key k x || on t k) ≡ on t k
          had k true here = let held : on t k ≡ true = ap (on t) (key_is k x here) ∙ grind (arith, is) in grind (arith, here, held)
          had k false off = ap (λ b. b || on t k) off

  -- one key has one less: if it has none then
  pub fallen : (x : Key) (last : Bool) → ((k : Key) → u k + (if is_key x k then 1 else 0) ≡ t k) → last ≡ not (nat_lt 0 (u x)) → Shrinks last old new → IfSome old (AreSoMany (on t)) → IfSome new (AreSoMany (on u))
  fallen x last less is shrinks many = by last old new is shrinks many
    where
      self : is_key x x ≡ true
      self = grind arith

      had : on t x ≡ true
      had = grind (arith, nat_tests, less x, self)

      by : (b : Bool) (o n : Option ℕ) → b ≡ not (nat_lt 0 (u x)) → Shrinks b o n → IfSome o (AreSoMany (on t)) → IfSome n (AreSoMany (on u))
      by b o None is shrinks many = tt
      by b None (Some n) is shrinks many = absurd (cc)
      by true (Some m) (Some n) is shrinks many =
          let same : m - 1 ≡ n = omega (arith, same_Some _ n shrinks) in
          rw (← same) (one_goes (on t) (on u) m many x had (λ k. at k (is_key k x) refl))
        where
          at : (k : Key) (b : Bool) → is_key k x ≡ b → on u k ≡ (not (is_key k x) && on t k)
          at k true here = let none : on u k ≡ false = ap (on u) (key_is k x here) ∙ grind (arith, is) in grind (arith, here, none)
          at k false off = grind (arith, nat_tests, less k, off, key_turned x k)
      by false (Some m) (Some n) is shrinks many =
          let same : m ≡ n = omega (arith, same_Some _ n shrinks) in
          rw (← same) (as_many (on t) (on u) m many (λ k. at k (is_key k x) refl))
        where
          at : (k : Key) (b : Bool) → is_key k x ≡ b → on u k ≡ on t k
          at k true here =
              let has : on u k ≡ true = ap (on u) (key_is k x here) ∙ grind (arith, is) in
              let held : on t k ≡ true = ap (on t) (key_is k x here) ∙ had in
              has ∙ sym held
          at k false off = grind (arith, nat_tests, less k, off, key_turned x k)

-- What a call makes of a number
grows-same : (o : Option ℕ) → Grows false o o
grows-same None = tt
grows-same (Some m) = ap Some (omega arith)

shrinks-same : (o : Option ℕ) → Shrinks false o o
shrinks-same None = tt
shrinks-same (Some m) = ap Some (omega arith)

pub grows-first : (a first : Bool) (o n : Option ℕ) → first ≡ true → Grows a o n → Grows (a && first) o n
grows-first true first o n is grows = subst (λ b. Grows b o n) (sym is) grows
grows-first false first o n is grows = grows

pub grows-not : (a first : Bool) (o : Option ℕ) → first ≡ false → Grows (a && first) o o
grows-not true first o is = subst (λ b. Grows b o o) (sym is) (grows-same o)
grows-not false first o is = grows-same o

pub shrinks-last : (a last : Bool) (o n : Option ℕ) → last ≡ true → Shrinks a o n → Shrinks (a && last) o n
shrinks-last true last o n is shrinks = subst (λ b. Shrinks b o n) (sym is) shrinks
shrinks-last false last o n is shrinks = shrinks

pub shrinks-not : (a last : Bool) (o : Option ℕ) → last ≡ false → Shrinks (a && last) o o
shrinks-not true last o is = subst (λ b. Shrinks b o o) (sym is) (shrinks-same o)
shrinks-not false last o is = shrinks-same o

-- One handle or view more, or less, of a section or token
pub record Rises (x : Object) (h v h2 v2 : Counted) : Type 0 where
  pub handles : h.whole ≡ true
  pub views : v.whole ≡ true
  pub sections : (k : Key) → total h2 v2 (kinds.Section k) ≡ total h v (kinds.Section k) + one_for (kinds.Section k) x
  pub tokens : (k : Key) → total h2 v2 (kinds.Token k) ≡ total h v (kinds.Token k) + one_for (kinds.Token k) x

pub record Falls (x : Object) (h v h2 v2 : Counted) : Type 0 where
  pub handles : h.whole ≡ true
  pub views : v.whole ≡ true
  pub sections : (k : Key) → total h2 v2 (kinds.Section k) + one_for (kinds.Section k) x ≡ total h v (kinds.Section k)
  pub tokens : (k : Key) → total h2 v2 (kinds.Token k) + one_for (kinds.Token k) x ≡ total h v (kinds.Token k)

module _ (h v h2 v2 : Counted) where
  pub handle-rises : (x : Object) → v.whole ≡ true → Gains x h h2 → v2 ≡ v → Rises x h v h2 v2
  handle-rises x seen g same = record {
    handles = g.whole;
    views = seen;
    sections = λ k. omega (arith, g.counts (kinds.Section k), ap (λ (c : Counted). count_in c.entries (kinds.Section k)) same);
    tokens = λ k. omega (arith, g.counts (kinds.Token k), ap (λ (c : Counted). count_in c.entries (kinds.Token k)) same);
  }

  pub handle-falls : (x : Object) → v.whole ≡ true → Loses x h h2 → v2 ≡ v → Falls x h v h2 v2
  handle-falls x seen g same = record {
    handles = g.whole;
    views = seen;
    sections = λ k. omega (arith, g.counts (kinds.Section k), ap (λ (c : Counted). count_in c.entries (kinds.Section k)) same);
    tokens = λ k. omega (arith, g.counts (kinds.Token k), ap (λ (c : Counted). count_in c.entries (kinds.Token k)) same);
  }

  pub view-rises : (view : View Key) → h.whole ≡ true → GainsViews (view ∷ []) v v2 → h2 ≡ h → Rises (kinds.Section view.section) h v h2 v2
  view-rises view named g same = record {
    handles = named;
    views = g.whole;
    sections = λ k. omega (arith, g.counts (kinds.Section k), count-one (shows k) view, ap (λ (c : Counted). count_in c.entries (kinds.Section k)) same);
    tokens = λ k. omega (arith, g.counts (kinds.Token k), ap (λ (c : Counted). count_in c.entries (kinds.Token k)) same);
  }

  pub view-falls : (view : View Key) → h.whole ≡ true → LosesViews (view ∷ []) v v2 → h2 ≡ h → Falls (kinds.Section view.section) h v h2 v2
  view-falls view named g same = record {
    handles = named;
    views = g.whole;
    sections = λ k. omega (arith, g.counts (kinds.Section k), count-one (shows k) view, ap (λ (c : Counted). count_in c.entries (kinds.Section k)) same);
    tokens = λ k. omega (arith, g.counts (kinds.Token k), ap (λ (c : Counted). count_in c.entries (kinds.Token k)) same);
  }

  abbrev before : (Key → Object) → Key → ℕ
  before make k = total h v (make k)

  abbrev after : (Key → Object) → Key → ℕ
  after make k = total h2 v2 (make k)

  sections-came : (x : Object) (first : Bool) (old new : Option ℕ) → Rises x h v h2 v2 → first ≡ (is_numbered x && not (is_counted h v x)) → Grows (is_section x && first) old new
      → IfSome old (AreSoMany (on (before kinds.Section))) → IfSome new (AreSoMany (on (after kinds.Section)))
  sections-came (kinds.Port a) first old new r is grows many = still (before kinds.Section) (after kinds.Section) old new (λ k. omega (arith, r.sections k)) grows many
  sections-came (kinds.Process a) first old new r is grows many = still (before kinds.Section) (after kinds.Section) old new (λ k. omega (arith, r.sections k)) grows many
  sections-came (kinds.Thread a) first old new r is grows many = still (before kinds.Section) (after kinds.Section) old new (λ k. omega (arith, r.sections k)) grows many
  sections-came (kinds.Section a) first old new r is grows many = risen (before kinds.Section) (after kinds.Section) old new a first r.sections is grows many
  sections-came (kinds.Token a) first old new r is grows many = still (before kinds.Section) (after kinds.Section) old new (λ k. omega (arith, r.sections k)) grows many

  tokens-came : (x : Object) (first : Bool) (old new : Option ℕ) → Rises x h v h2 v2 → first ≡ (is_numbered x && not (is_counted h v x)) → Grows (is_token x && first) old new
      → IfSome old (AreSoMany (on (before kinds.Token))) → IfSome new (AreSoMany (on (after kinds.Token)))
  tokens-came (kinds.Port a) first old new r is grows many = still (before kinds.Token) (after kinds.Token) old new (λ k. omega (arith, r.tokens k)) grows many
  tokens-came (kinds.Process a) first old new r is grows many = still (before kinds.Token) (after kinds.Token) old new (λ k. omega (arith, r.tokens k)) grows many
  tokens-came (kinds.Thread a) first old new r is grows many = still (before kinds.Token) (after kinds.Token) old new (λ k. omega (arith, r.tokens k)) grows many
  tokens-came (kinds.Section a) first old new r is grows many = still (before kinds.Token) (after kinds.Token) old new (λ k. omega (arith, r.tokens k)) grows many
  tokens-came (kinds.Token a) first old new r is grows many = risen (before kinds.Token) (after kinds.Token) old new a first r.tokens is grows many

  still-less : (t u : Key → ℕ) (old new : Option ℕ) → ((k : Key) → u k ≡ t k) → Shrinks false old new → IfSome old (AreSoMany (on t)) → IfSome new (AreSoMany (on u))
  still-less t u old new same shrinks many = still t u old new same (turn old new shrinks) many
    where
      turn : (o n : Option ℕ) → Shrinks false o n → Grows false o n
      turn o None s = tt
      turn None (Some n) s = absurd (cc)
      turn (Some m) (Some n) s = let is : m ≡ n = omega (arith, same_Some _ n s) in ap Some (omega (arith, is))

  sections-went : (x : Object) (last : Bool) (old new : Option ℕ) → Falls x h v h2 v2 → last ≡ (is_numbered x && not (is_counted h2 v2 x)) → Shrinks (is_section x && last) old new
      → IfSome old (AreSoMany (on (before kinds.Section))) → IfSome new (AreSoMany (on (after kinds.Section)))
  sections-went (kinds.Port a) last old new r is shrinks many = still-less (before kinds.Section) (after kinds.Section) old new (λ k. omega (arith, r.sections k)) shrinks many
  sections-went (kinds.Process a) last old new r is shrinks many = still-less (before kinds.Section) (after kinds.Section) old new (λ k. omega (arith, r.sections k)) shrinks many
  sections-went (kinds.Thread a) last old new r is shrinks many = still-less (before kinds.Section) (after kinds.Section) old new (λ k. omega (arith, r.sections k)) shrinks many
  sections-went (kinds.Section a) last old new r is shrinks many = fallen (before kinds.Section) (after kinds.Section) old new a last r.sections is shrinks many
  sections-went (kinds.Token a) last old new r is shrinks many = still-less (before kinds.Section) (after kinds.Section) old new (λ k. omega (arith, r.sections k)) shrinks many

  tokens-went : (x : Object) (last : Bool) (old new : Option ℕ) → Falls x h v h2 v2 → last ≡ (is_numbered x && not (is_counted h2 v2 x)) → Shrinks (is_token x && last) old new
      → IfSome old (AreSoMany (on (before kinds.Token))) → IfSome new (AreSoMany (on (after kinds.Token)))
  tokens-went (kinds.Port a) last old new r is shrinks many = still-less (before kinds.Token) (after kinds.Token) old new (λ k. omega (arith, r.tokens k)) shrinks many
  tokens-went (kinds.Process a) last old new r is shrinks many = still-less (before kinds.Token) (after kinds.Token) old new (λ k. omega (arith, r.tokens k)) shrinks many
  tokens-went (kinds.Thread a) last old new r is shrinks many = still-less (before kinds.Token) (after kinds.Token) old new (λ k. omega (arith, r.tokens k)) shrinks many
  tokens-went (kinds.Section a) last old new r is shrinks many = still-less (before kinds.Token) (after kinds.Token) old new (λ k. omega (arith, r.tokens k)) shrinks many
  tokens-went (kinds.Token a) last old new r is shrinks many = fallen (before kinds.Token) (after kinds.Token) old new a last r.tokens is shrinks many

  -- what came is numbered, and so is what went
  pub came : (x : Object) (first : Bool) (old new : Held) → AreNumbered h v old → (h2.whole ≡ true → v2.whole ≡ true → Rises x h v h2 v2) → (h.whole ≡ true → v.whole ≡ true → first ≡ (is_numbered x && not (is_counted h v x)))
      → Grows (is_section x && first) old.sections new.sections → Grows (is_token x && first) old.tokens new.tokens → AreNumbered h2 v2 new
  came x first old new numbered rises is of_sections of_tokens = record {
    sections = λ named seen. let r = rises named seen in sections-came x first old.sections new.sections r (is r.handles r.views) of_sections (numbered.sections r.handles r.views);
    tokens = λ named seen. let r = rises named seen in tokens-came x first old.tokens new.tokens r (is r.handles r.views) of_tokens (numbered.tokens r.handles r.views);
  }

  pub went : (x : Object) (last : Bool) (old new : Held) → AreNumbered h v old → (h2.whole ≡ true → v2.whole ≡ true → Falls x h v h2 v2) → (h2.whole ≡ true → v2.whole ≡ true → last ≡ (is_numbered x && not (is_counted h2 v2 x)))
      → Shrinks (is_section x && last) old.sections new.sections → Shrinks (is_token x && last) old.tokens new.tokens → AreNumbered h2 v2 new
  went x last old new numbered falls is of_sections of_tokens = record {
    sections = λ named seen. let r = falls named seen in sections-went x last old.sections new.sections r (is named seen) of_sections (numbered.sections r.handles r.views);
    tokens = λ named seen. let r = falls named seen in tokens-went x last old.tokens new.tokens r (is named seen) of_tokens (numbered.tokens r.handles r.views);
  }

-- nothing is held before anything was counted
pub none_held : (h v : Counted) → h.entries ≡ [] → v.entries ≡ [] → AreNumbered h v (record { sections = Some 0; tokens = Some 0 })
none_held h v no_handles no_views = record {
  sections = λ named seen. none_pass (on (λ k. total h v (kinds.Section k))) (λ k. rw (no_handles, no_views) refl);
  tokens = λ named seen. none_pass (on (λ k. total h v (kinds.Token k))) (λ k. rw (no_handles, no_views) refl);
}

-- What is told
module _ (parts : List Part) (places : List ℕ) (h v : Counted) (counted : AreAllCounted parts places h v) where
  section-held : h.whole ≡ true → v.whole ≡ true → (k : Key) → is_held_section parts k ≡ is_counted h v (kinds.Section k)
  section-held named seen k =
      let handles = counted.of_handles.counted named (kinds.Section k) in
      let views = counted.of_views.counted seen (kinds.Section k) in
      grind (arith, nat_tests, handles, views, named_counted (kinds.Section k) parts, seen_counted (shows k) parts)

  none-seen : (views : List (View Key)) → count (λ (view : View Key). false) views ≡ 0
  none-seen [] = refl
  none-seen (x ∷ views) = none-seen views

  token-held : h.whole ≡ true → v.whole ≡ true → (k : Key) → is_held_token parts k ≡ is_counted h v (kinds.Token k)
  token-held named seen k =
      let handles = counted.of_handles.counted named (kinds.Token k) in
      let views = counted.of_views.counted seen (kinds.Token k) ∙ none-seen (all_views parts) in
      grind (arith, nat_tests, handles, views, named_counted (kinds.Token k) parts)

  pub sections_told : (r : Option ℕ) → IfSome r (λ n. h.whole ≡ true) → IfSome r (λ n. v.whole ≡ true) → IfSome r (AreSoMany (λ k. is_counted h v (kinds.Section k))) → IfSome r (AreSoMany (is_held_section parts))
  sections_told None named seen many = tt
  sections_told (Some n) named seen many = as_many (λ k. is_counted h v (kinds.Section k)) (is_held_section parts) n many (section-held named seen)

  pub tokens_told : (r : Option ℕ) → IfSome r (λ n. h.whole ≡ true) → IfSome r (λ n. v.whole ≡ true) → IfSome r (AreSoMany (λ k. is_counted h v (kinds.Token k))) → IfSome r (AreSoMany (is_held_token parts))
  tokens_told None named seen many = tt
  tokens_told (Some n) named seen many = as_many (λ k. is_counted h v (kinds.Token k)) (is_held_token parts) n many (token-held named seen)
