-- Behind an exception that nothing handles, its process ends: what is told first is that one of its threads has died.
use Rattle.std.proofs.Common.{◌≡◌, ℕ, zero, suc, List, [], ◌∷◌, ◌++◌, Bool, true, false, cond, not, Option, Some, None, refl, ap, sym, subst, ◌∙◌}
use Rattle.std.specs.Prelude.{◌&&◌, ◌||◌, ◌==◌, option_map}
use Rattle.std.proofs.lemmas.Bool.{and_from, eqb-true, not-true}
use Rattle.lpc_base.specs.Rows.{change, every, has, passes, which}
use Rattle.lpc_base.specs.declared.status.Status.{Status}
use Rattle.lpc_base.proofs.Bools.{first-true, or-last, second-true}
use Rattle.lpc_model.specs.World.{ProcessRow, ThreadRow, World}
use Rattle.lpc_model.specs.Found.{is_live, is_process, live_threads, lives_in}
use Rattle.lpc_model.specs.Basics.{Basic, Dooms, basic, doomed, entries_of, first_code, world_after}
use Rattle.lpc_model.specs.Death.{code_status, end_threads}
use Rattle.lpc_model.specs.Settle.{IsSettled, and_then_on, doomed_processes, end_doomed, is_doomed, least, most_turns, settle, turn_by, turns}
use Rattle.lpc_model.specs.Circle.{Group, Item, Whose, owner}
use Rattle.lpc_isolation.proofs.Closings.Ends.{every-passing}
use Rattle.lpc_isolation.proofs.Endings.Settled.{least-holds}
use Rattle.lpc_isolation.proofs.Plays.Housed.{has_house}
use Rattle.lpc_isolation.proofs.Plays.Lines.{accepts, next_entry}
use Rattle.lpc_isolation.proofs.Plays.Play.{told_inputs, told_items}

-- every thread of the process is of a member other than c
abbrev pub is_others : World → ℕ → ThreadRow → Bool
is_others u pid t = not (lives_in pid t) || passes (owner u t.number) (λ q. q == pid)

module _ (m : Group) (c : ℕ) (u : World) (d : Whose) (w : World) (pid code : ℕ) (s : IsSettled w) (live : is_live w pid ≡ true) (house : has_house w pid ≡ true) (inside : m pid ≡ true) (other : (pid == c) ≡ false) (owned : every (is_others u pid) w.threads ≡ true) where
  abbrev v : World
  v = basic w (Dooms pid code)

  -- the process is the one that is to end
  alone-doomed : (ps : List ProcessRow) → every (λ p. not (is_doomed w p)) ps ≡ true → every (λ p. p.number == pid) (which (is_doomed v) (change (is_process pid) (doomed code) ps)) ≡ true
  alone-doomed [] all = refl
  alone-doomed (p ∷ ps) all = at (is_process pid p) refl (alone-doomed ps (second-true (not (is_doomed w p)) _ all))
    where
      rest : List ProcessRow
      rest = which (is_doomed v) (change (is_process pid) (doomed code) ps)

      more : (b : Bool) (q : ProcessRow) → (q.number == pid) ≡ true → every (λ p. p.number == pid) rest ≡ true → every (λ p. p.number == pid) (cond b (q ∷ rest) rest) ≡ true
      more true q own all = and_from _ _ own all
      more false q own all = all

      at : (b : Bool) → is_process pid p ≡ b → every (λ p. p.number == pid) rest ≡ true → every (λ p. p.number == pid) (which (is_doomed v) (change (is_process pid) (doomed code) (p ∷ ps))) ≡ true
      at true its all' = rw its (more (is_doomed v (doomed code p)) (doomed code p) its all')
      at false off all' = rw (off, not-true (is_doomed w p) (first-true _ _ all)) all'

  doomed-own : every (λ p. p.number == pid) (doomed_processes v) ≡ true
  doomed-own = alone-doomed w.processes s.doomed

  -- and it is doomed, so that something is due
  some-doomed : (ps : List ProcessRow) → has (is_process pid) ps ≡ true → every (λ p. not (is_doomed v p)) (change (is_process pid) (doomed code) ps) ≡ true → ⊥
  some-doomed [] is all = cc
  some-doomed (p ∷ ps) is all = at (is_process pid p) refl is all (some-doomed ps)
    where
      at : (b : Bool) → is_process pid p ≡ b → has (is_process pid) (p ∷ ps) ≡ true → every (λ p. not (is_doomed v p)) (change (is_process pid) (doomed code) (p ∷ ps)) ≡ true → (has (is_process pid) ps ≡ true → every (λ p. not (is_doomed v p)) (change (is_process pid) (doomed code) ps) ≡ true → ⊥) → ⊥
      at true its is all rest =
          let here : every (λ p. not (is_doomed v p)) (doomed code p ∷ change (is_process pid) (doomed code) ps) ≡ true = rw its at all in
          let lives : is_live w p.number ≡ true = subst (λ n. is_live w n ≡ true) (sym (eqb-true p.number pid its)) live in
          let never : not (true && is_live w p.number) ≡ true = first-true _ _ here in
          let no : not (true && true) ≡ true = rw lives at never in
          cc
      at false off is all rest =
          let here : every (λ p. not (is_doomed v p)) (p ∷ change (is_process pid) (doomed code) ps) ≡ true = rw off at all in
          rest (let later : has (is_process pid) ps ≡ true = rw off at is in later) (second-true (not (is_doomed v p)) _ here)

  unsettled : IsSettled v → ⊥
  unsettled t = some-doomed w.processes house t.doomed

  -- what the threads tell
  abbrev Tells_death : List Basic → Type 0
  Tells_death bs = (is : List Item) → accepts (next_entry (told_items (told_inputs m c u d (entries_of bs)) ++ is)) ≡ true

  ends-told : (status : Status) (ts : List ThreadRow) → every (λ t. passes (owner u t.number) (λ q. q == pid)) ts ≡ true → (ts ≡ [] → ⊥) → (later : List Basic) → Tells_death (end_threads pid status ts v ++ later)
  unfolding end_threads
  ends-told status [] all some later is = absurd (some refl)
  ends-told status (t ∷ ts) all some later is = let own : owner u t.number ≡ Some pid = at (owner u t.number) refl (first-true _ _ all) in rw (own, inside, other) refl
    where
      at : (o : Option ℕ) → owner u t.number ≡ o → passes o (λ q. q == pid) ≡ true → owner u t.number ≡ Some pid
      at None none is = absurd (cc)
      at (Some q) some is = some ∙ ap (λ n. Some n) (eqb-true q pid is)

  live-some : live_threads w pid ≡ [] → ⊥
  live-some none = at w.threads live none
    where
      at : (ts : List ThreadRow) → has (lives_in pid) ts ≡ true → which (lives_in pid) ts ≡ [] → ⊥
      at [] is none = cc
      at (t ∷ ts) is none = one (lives_in pid t) refl is none (at ts)
        where
          one : (b : Bool) → lives_in pid t ≡ b → has (lives_in pid) (t ∷ ts) ≡ true → which (lives_in pid) (t ∷ ts) ≡ [] → (has (lives_in pid) ts ≡ true → which (lives_in pid) ts ≡ [] → ⊥) → ⊥
          one true its is none rest = let more : t ∷ which (lives_in pid) ts ≡ [] = rw its at none in cc
          one false off is none rest = rest (let later : has (lives_in pid) ts ≡ true = rw off at is in later) (let less : which (lives_in pid) ts ≡ [] = rw off at none in less)

  doomed-told : (p : ProcessRow) → (p.number == pid) ≡ true → (later : List Basic) → Tells_death (end_doomed p v ++ later)
  unfolding end_doomed
  doomed-told p own later =
      let number : p.number ≡ pid = eqb-true p.number pid own in
      let status : Status = code_status (first_code 0 p.doom) in
      subst (λ n. Tells_death (end_threads n status (live_threads v n) v ++ later)) (sym number)
      (ends-told status (live_threads w pid) (every-passing (is_others u pid) (lives_in pid) (λ t. passes (owner u t.number) (λ q. q == pid)) (λ t either lives. or-last (lives_in pid t) (passes (owner u t.number) (λ q. q == pid)) lives either) w.threads owned) live-some later)

  turns-told : (n : ℕ) → IsSettled (world_after v (turns n v)) → Tells_death (turns n v)
  turns-told zero t = absurd (unsettled t)
  turns-told (suc n) t = at v.marks s.marks (least (doomed_processes v)) refl t
    where
      at : (ms : List ℕ) → ms ≡ [] → (o : Option ProcessRow) → least (doomed_processes v) ≡ o → IsSettled (world_after v (and_then_on v (turn_by v ms) (turns n))) → Tells_death (and_then_on v (turn_by v ms) (turns n))
      at (tid ∷ ms) none o is t = absurd (cc)
      at [] none None is t = absurd (unsettled (let quiet : IsSettled (world_after v (and_then_on v (option_map (λ p. end_doomed p v) None) (turns n))) = subst (λ o. IsSettled (world_after v (and_then_on v (option_map (λ p. end_doomed p v) o) (turns n)))) is t in quiet))
      at [] none (Some p) is t =
          subst (λ o. Tells_death (and_then_on v (option_map (λ p. end_doomed p v) o) (turns n))) (sym is)
          (doomed-told p (least-holds (λ p. p.number == pid) (doomed_processes v) p doomed-own is) (turns n (world_after v (end_doomed p v))))

  pub settle-told : IsSettled (world_after v (settle v)) → (is : List Item) → accepts (next_entry (told_items (told_inputs m c u d (entries_of (settle v))) ++ is)) ≡ true
  unfolding settle
  settle-told t is = turns-told (most_turns v) t is
