-- Facts on what a source or a sink tells, one after the other.
use Rattle.std.proofs.Common.{◌≡◌, ℕ, subst, List, [], ◌++◌, take, drop, refl, sym, ◌∙◌, append_assoc}
use Rattle.std.specs.Prelude.{Option, Some, None}
use Rattle.std.proofs.lemmas.List.{append-nil, take-append-drop}
use Rattle.lpc_base.specs.Streams.{Told}
use Rattle.lpc_replay.specs.Sending.{IsFront, SentBut}

pub told_then : (a b c : Option (List ℕ)) (P Q R : List ℕ → List ℕ → Type 0) → ((x y z : List ℕ) → P x y → Q y z → R x z) → Told a b P → Told b c Q → Told a c R
told_then None None c P Q R f p q = q
told_then None (Some y) c P Q R f p q = cc
told_then (Some x) None c P Q R f p q = absurd p
told_then (Some x) (Some y) None P Q R f p q = absurd q
told_then (Some x) (Some y) (Some z) P Q R f p q = f x y z p q

pub told_weaker : (a b : Option (List ℕ)) (P R : List ℕ → List ℕ → Type 0) → ((x y : List ℕ) → P x y → R x y) → Told a b P → Told a b R
told_weaker None b P R f p = p
told_weaker (Some x) None P R f p = absurd p
told_weaker (Some x) (Some y) P R f p = f x y p

pub told_same : (a b : Option (List ℕ)) (P : List ℕ → List ℕ → Type 0) → ((x : List ℕ) → P x x) → b ≡ a → Told a b P
told_same None b P f e = e
told_same (Some x) None P f e = cc
told_same (Some x) (Some y) P f e = let e' : x ≡ y = cc in let F : List ℕ → Type 0 = λ z. P x z in subst F e' (f x)

pub sent_more : (bytes rest : List ℕ) (n : ℕ) (a b c : Option (List ℕ)) → Told a b (SentBut bytes rest) → Told b c (λ old new. new ≡ old ++ take n rest) → Told a c (SentBut bytes (drop n rest))
sent_more bytes rest n a b c p q = told_then a b c _ _ _
    (λ x y z s t. (s.0 ++ take n rest, s.1 ∙ rw (append_assoc, take-append-drop) refl, t ∙ rw (s.2, append_assoc) refl)) p q

-- nothing is still to be sent
pub sent_all : (a b : Option (List ℕ)) (all rest : List ℕ) → rest ≡ [] → Told a b (SentBut all rest) → Told a b (λ old new. new ≡ old ++ all)
sent_all a b all rest e p = told_weaker a b (SentBut all rest) (λ old new. new ≡ old ++ all)
    (λ x y s. let whole : all ≡ s.0 = rw (e, append-nil s.0) at s.1 in rw whole s.2) p

-- the rest begins with what is sent next
pub sent_on : (a b c : Option (List ℕ)) (all rest text more : List ℕ) → Told a b (SentBut all rest) → Told b c (λ old new. new ≡ old ++ text) → rest ≡ text ++ more → Told a c (SentBut all more)
sent_on a b c all rest text more p q e = told_then a b c (SentBut all rest) (λ old new. new ≡ old ++ text) (SentBut all more)
    (λ x y z s t. (s.0 ++ text, s.1 ∙ rw (e, append_assoc) refl, t ∙ rw (s.2, append_assoc) refl)) p q

-- the last text is sent
pub sent_last : (a b c : Option (List ℕ)) (all last : List ℕ) → Told a b (SentBut all last) → Told b c (λ old new. new ≡ old ++ last) → Told a c (λ old new. new ≡ old ++ all)
sent_last a b c all last p q = sent_all a c all [] refl (sent_on a b c all last last [] p q (sym (append-nil last)))

-- no byte is sent
pub front_none : (a : Option (List ℕ)) (all : List ℕ) → Told a a (IsFront all)
front_none a all = told_same a a (IsFront all) (λ x. (all, ([], refl, sym (append-nil x)))) refl

-- a part is sent
pub front_but : (a b : Option (List ℕ)) (all rest : List ℕ) → Told a b (SentBut all rest) → Told a b (IsFront all)
front_but a b all rest p = told_weaker a b (SentBut all rest) (IsFront all) (λ x y s. (rest, s)) p

-- all is sent
pub front_all : (a b : Option (List ℕ)) (all : List ℕ) → Told a b (λ old new. new ≡ old ++ all) → Told a b (IsFront all)
front_all a b all p = told_weaker a b (λ old new. new ≡ old ++ all) (IsFront all) (λ x y is. ([], (all, sym (append-nil all), is))) p

-- the rest begins with what is sent next, a front of it at least
pub front_on : (a b c : Option (List ℕ)) (all rest text more : List ℕ) → Told a b (SentBut all rest) → Told b c (IsFront text) → rest ≡ text ++ more → Told a c (IsFront all)
front_on a b c all rest text more p q e = told_then a b c (SentBut all rest) (IsFront text) (IsFront all)
    (λ x y z s t. (t.0 ++ more, (s.0 ++ t.1.0, s.1 ∙ rw (e, t.1.1) (simp append_assoc), t.1.2 ∙ rw (s.2, append_assoc) refl))) p q

pub front_last : (a b c : Option (List ℕ)) (all last : List ℕ) → Told a b (SentBut all last) → Told b c (IsFront last) → Told a c (IsFront all)
front_last a b c all last p q = front_on a b c all last last [] p q (sym (append-nil last))
