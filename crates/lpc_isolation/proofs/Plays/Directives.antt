-- A directive's line, in a play.
use Rattle.lpc_model.specs.Refusal.{refuse_if, found_or}
use Rattle.std.proofs.Common.{◌≡◌, ℕ, List, [], ◌∷◌, ◌++◌, Bool, true, false, cond, not, map, None, refl, ap, sym, subst, ◌∙◌, Option, Some}
use Rattle.std.proofs.Math.Bool.{and-false}
use Rattle.std.specs.Prelude.{◌&&◌, ◌||◌, ◌==◌, nat_le, Result, Ok, Err, is_some}
use Rattle.lpc_base.specs.declared.status.Status.{Status}
use Rattle.lpc_base.specs.declared.status.TheConstants.{INVALID_CID, OBJECT_NAME_COLLISION, QUOTA_EXCEEDED, SUCCESS, OBJECT_NAME_NOT_FOUND}
use Rattle.lpc_model.specs.declared.entry.Entry.{Entry}
use Rattle.lpc_model.specs.declared.entry.Entry.TheVariants as entry
use Rattle.lpc_model.specs.declared.entry.Word.{Word}
use Rattle.lpc_model.specs.declared.entry.Word.TheVariants as word
use Rattle.lpc_model.specs.World.{Path, World, Token}
use Rattle.lpc_model.specs.Basics.{AddsProcess, AddsThread, Basic, Binds, basic, entries_of, world_after, NamesToken}
use Rattle.lpc_model.specs.Lines.{ScriptLine, boot, dir, link, run, thread, token, of_resident}
use Rattle.lpc_model.specs.Machine.{boot_line, dir_line, directed, directive_birth, link_line, new_process, new_thread, live_test, own_steps, thread_line, thread_test, unused_test, unused_thread_test, boot_token, token_line, boot_steps}
use Rattle.lpc_isolation.proofs.Gone.Served.{own_served_step, own_served}
use Rattle.lpc_model.specs.Named.{as_status, free_name, spelled_name}
use Rattle.lpc_model.specs.Found.{is_live, live_count, was_process, was_thread, named_token}
use Rattle.lpc_base.specs.declared.limits.TheConstants.{THREAD_LIMIT}
use Rattle.lpc_names.specs.Path.{spelled}
use Rattle.lpc_model.proofs.Calls.Holding.{Holds, bind_holds}
use Rattle.lpc_names.specs.Walk.{LinkTo, Stands, free_path}
use Rattle.lpc_names.specs.declared.fault.NameFault.{NameFault}
use Rattle.lpc_names.specs.declared.names.Found.TheVariants.{Directory}
use Rattle.lpc_model.specs.Circle.{is_turn, Everyone, Group, Item, Nobody, Of, Ran, Told, Whose, is_seen, item_of, full_items, line_whose, told_event, gave_event, given_in}
use Rattle.lpc_isolation.proofs.Views.Alone.{alone}
use Rattle.lpc_isolation.proofs.Gone.Bare.{own_line_events}
use Rattle.lpc_isolation.proofs.Views.View.{view}
use Rattle.lpc_isolation.proofs.Views.Basics.{basic-unseen, run-ours}
use Rattle.lpc_base.specs.Rows.{every}
use Rattle.lpc_isolation.proofs.Views.Apart.{absorb_all, c_seen}
use Rattle.lpc_isolation.proofs.Views.Callers.{on_ok}
use Rattle.lpc_isolation.proofs.Rows.Names.{SeenNames, free-view}
use Rattle.lpc_isolation.proofs.Each.Refuses.{Refuses, bind, if_refuses, named, found}
use Rattle.lpc_isolation.proofs.Plays.Play.{own_told_at, told_inputs, told_items}
use Rattle.lpc_isolation.proofs.Plays.Lines.{is_done, next_entry}

-- what a directive does in a view, and what c sees of it, by the status that it was told
abbrev pub succeeds : Entry → Bool
succeeds (entry.Directive w status) = status.0 == SUCCESS.0
succeeds (entry.Answer who call status fields) = false
succeeds (entry.Waits who call fields) = false
succeeds (entry.Wakes who call status fields) = false
succeeds (entry.Busy who) = false
succeeds (entry.NoThread who) = false
succeeds (entry.Died who status) = false

abbrev pub effect : World → ScriptLine → List Basic
effect v (boot pid tid name) = on_ok (boot_token v name) (boot_steps pid tid)
effect v (token name content) = NamesToken (record { name = name; token = content }) ∷ []
effect v (thread tid pid) = AddsThread (new_thread tid pid (directive_birth tid pid)) ∷ []
effect v (dir path) = on_ok (free_name v path) (λ p. Binds p (Stands Directory) ∷ [])
effect v (link path target) = on_ok (spelled_name target) (λ to. on_ok (free_name v path) (λ p. Binds p (LinkTo to) ∷ []))
effect v (of_resident tid what had) = []
effect v (run tid call) = []

abbrev pub directive_turn : World → ScriptLine → List Item → List Basic
directive_turn v line is = cond (succeeds (next_entry is)) (effect v line) []

abbrev pub directive_shown : ℕ → World → ScriptLine → List Item → List Item
directive_shown c v line is = cond (is_seen (alone c) (line_whose v line)) (Ran line ∷ Told (next_entry is) ∷ []) []

-- what each directive owes
pub record Directs (m : Group) (w : World) (line : ScriptLine) (name : Word) (d : Whose) (r : Result (List Basic) Status) : Type 0 where
  pub is : own_served line w ≡ directed name r
  pub whose : (v : World) → line_whose v line ≡ d
  pub plain : is_turn name ≡ false
  pub silent : Holds (λ bs. entries_of bs ≡ []) r
  pub gives : Holds (λ bs. given_in bs ≡ []) r
  pub refuses : Refuses r
  pub seen : is_seen m d ≡ true → Holds (λ bs. view m (world_after w bs) ≡ world_after (view m w) (effect (view m w) line)) r
  pub hidden : is_seen m d ≡ false → Holds (λ bs. view m (world_after w bs) ≡ view m w) r

-- the line's one entry
abbrev status_of : Result (List Basic) Status → Status
status_of (Ok bs) = SUCCESS
status_of (Err s) = s

abbrev world_of : World → Result (List Basic) Status → World
world_of w (Ok bs) = world_after w bs
world_of w (Err s) = w

directed-world : (w : World) (name : Word) (r : Result (List Basic) Status) → world_after w (directed name r) ≡ world_of w r
directed-world w name (Ok bs) = refl
directed-world w name (Err s) = refl

directed-entries : (name : Word) (r : Result (List Basic) Status) → Holds (λ bs. entries_of bs ≡ []) r → entries_of (directed name r) ≡ entry.Directive name (status_of r) ∷ []
directed-entries name (Ok bs) none = ap (λ es. entry.Directive name SUCCESS ∷ es) none
directed-entries name (Err s) none = refl

directed-gives : (name : Word) (r : Result (List Basic) Status) → Holds (λ bs. given_in bs ≡ []) r → given_in (directed name r) ≡ []
directed-gives name (Ok bs) none = none
directed-gives name (Err s) none = refl

told-directive : (m : Group) (c : ℕ) (u : World) (d : Whose) (name : Word) (status : Status) → is_turn name ≡ false → told_inputs m c u d (entry.Directive name status ∷ []) ≡ cond (is_seen m d) (entry.Directive name status ∷ []) []
told-directive m c u (Of pid) name status plain = rw (plain, and-false (pid == c)) (at (m pid))
  where
    at : (b : Bool) → ◌≡◌ {A = List Entry} (cond (b && true) (entry.Directive name status ∷ []) []) (cond b (entry.Directive name status ∷ []) [])
    at true = refl
    at false = refl
told-directive m c u Everyone name status plain = refl
told-directive m c u Nobody name status plain = refl

-- what is told of it, and what c sees
directive-told : (m : Group) (c : ℕ) (w : World) (line : ScriptLine) (name : Word) (d : Whose) (r : Result (List Basic) Status) → Directs m w line name d r → own_told_at m c w line ≡ cond (is_seen m d) (entry.Directive name (status_of r) ∷ []) []
directive-told m c w line name d r o =
    ap (λ d. told_inputs m c (own_served_step w line).world d (own_served_step w line).entries) (o.whose w)
    ∙ ap (λ es. told_inputs m c (own_served_step w line).world d es) (ap entries_of o.is ∙ directed-entries name r o.silent)
    ∙ told-directive m c (own_served_step w line).world d name (status_of r) o.plain

directive-items : (m : Group) (c : ℕ) (w : World) (line : ScriptLine) (name : Word) (d : Whose) (r : Result (List Basic) Status) → Directs m w line name d r → full_items (alone c) (own_line_events w line) ≡ cond (is_seen (alone c) d) (Ran line ∷ Told (entry.Directive name (status_of r)) ∷ []) []
directive-items m c w line name d r o =
    ap (λ d. full_items (alone c) (record { whose = d; item = Ran line } ∷ (map (told_event (own_served_step w line).world d) (own_served_step w line).entries ++ map (gave_event d) (given_in (own_served line w))))) (o.whose w)
    ∙ ap (λ es. full_items (alone c) (record { whose = d; item = Ran line } ∷ (map (told_event (own_served_step w line).world d) es ++ map (gave_event d) (given_in (own_served line w))))) (ap entries_of o.is ∙ directed-entries name r o.silent)
    ∙ ap (λ gs. full_items (alone c) (record { whose = d; item = Ran line } ∷ (map (told_event (own_served_step w line).world d) (entry.Directive name (status_of r) ∷ []) ++ map (gave_event d) gs))) (ap given_in o.is ∙ directed-gives name r o.gives)
    ∙ at (is_seen (alone c) d)
  where
    at : (b : Bool) → map item_of (cond b (record { whose = d; item = Ran line } ∷ cond b (told_event (own_served_step w line).world d (entry.Directive name (status_of r)) ∷ []) []) (cond b (told_event (own_served_step w line).world d (entry.Directive name (status_of r)) ∷ []) [])) ≡ cond b (Ran line ∷ Told (entry.Directive name (status_of r)) ∷ []) []
    at true = refl
    at false = refl

directive-world : (m : Group) (w : World) (line : ScriptLine) (name : Word) (d : Whose) (r : Result (List Basic) Status) → Directs m w line name d r → (own_served_step w line).world ≡ world_of w r
directive-world m w line name d r o = ap (world_after w) o.is ∙ directed-world w name r

-- hidden, where it is an outsider's
pub directive-hidden : (m : Group) (c : ℕ) (w : World) (line : ScriptLine) (name : Word) (d : Whose) (r : Result (List Basic) Status) → m c ≡ true → Directs m w line name d r → is_seen m d ≡ false
    → (view m (own_served_step w line).world ≡ absorb_all (view m w) (own_told_at m c w line)) × (full_items (alone c) (own_line_events w line) ≡ [])
directive-hidden m c w line name d r c_in o out = (
  ap (view m) (directive-world m w line name d r o) ∙ world r (o.hidden out)
      ∙ sym (ap (absorb_all (view m w)) (directive-told m c w line name d r o ∙ ap (λ b. cond b (entry.Directive name (status_of r) ∷ []) []) out)),
  directive-items m c w line name d r o ∙ ap (λ b. cond b (Ran line ∷ Told (entry.Directive name (status_of r)) ∷ []) []) (c_seen m c d c_in out),
)
  where
    world : (r : Result (List Basic) Status) → Holds (λ bs. view m (world_after w bs) ≡ view m w) r → view m (world_of w r) ≡ view m w
    world (Ok bs) h = h
    world (Err s) h = refl

-- visible, where it is a member's or everyone's
pub directive-visible : (m : Group) (c : ℕ) (w : World) (line : ScriptLine) (name : Word) (d : Whose) (r : Result (List Basic) Status) (is : List Item) → Directs m w line name d r → is_seen m d ≡ true
    → (view m (own_served_step w line).world ≡ world_after (view m w) (directive_turn (view m w) line (told_items (own_told_at m c w line) ++ is)))
    × (full_items (alone c) (own_line_events w line) ≡ directive_shown c (view m w) line (told_items (own_told_at m c w line) ++ is))
directive-visible m c w line name d r is o seen =
    subst (λ es. (view m (own_served_step w line).world ≡ world_after (view m w) (directive_turn (view m w) line (told_items es ++ is))) × (full_items (alone c) (own_line_events w line) ≡ directive_shown c (view m w) line (told_items es ++ is))) (sym told) (
      ap (view m) (directive-world m w line name d r o) ∙ world r o.refuses (o.seen seen),
      directive-items m c w line name d r o ∙ ap (λ d. cond (is_seen (alone c) d) (Ran line ∷ Told (entry.Directive name (status_of r)) ∷ []) []) (sym (o.whose (view m w))),
    )
  where
    told : own_told_at m c w line ≡ entry.Directive name (status_of r) ∷ []
    told = directive-told m c w line name d r o ∙ ap (λ b. cond b (entry.Directive name (status_of r) ∷ []) []) seen

    world : (r : Result (List Basic) Status) → Refuses r → Holds (λ bs. view m (world_after w bs) ≡ world_after (view m w) (effect (view m w) line)) r → view m (world_of w r) ≡ world_after (view m w) (cond ((status_of r).0 == SUCCESS.0) (effect (view m w) line) [])
    world (Ok bs) f h = h
    world (Err s) f h = rw f refl

-- it wakes none
pub directive-done : (m : Group) (w : World) (line : ScriptLine) (name : Word) (d : Whose) (r : Result (List Basic) Status) → Directs m w line name d r → (v : World) → every (is_done v) (own_served_step w line).entries ≡ true
directive-done m w line name d r o v = ap (every (is_done v)) (ap entries_of o.is ∙ directed-entries name r o.silent)

-- Each directive
found-token : (w : World) (name : Option (List ℕ)) → Refuses (boot_token w name)
found-token w None = tt
found-token w (Some name) = bind (found_or (named_token w name) OBJECT_NAME_NOT_FOUND) _ (found (named_token w name) OBJECT_NAME_NOT_FOUND refl) (λ _. tt)

-- all views show the names of all tokens
same-token : (m : Group) (w : World) (name : Option (List ℕ)) → boot_token (view m w) name ≡ boot_token w name
same-token m w None = refl
same-token m w (Some name) = refl

pub boot-directs : (m : Group) (w : World) (pid tid : ℕ) (name : Option (List ℕ)) → Directs m w (boot pid tid name) word.Boot (Of pid) (boot_line w pid tid name)
unfolding own_steps boot_line
boot-directs m w pid tid name = record {
  is = refl;
  whose = λ v. refl;
  plain = refl;
  silent = bind_holds (boot_token w name) _ (λ bs. entries_of bs ≡ []) (λ _ _. bind_holds (unused_test w pid tid) _ (λ bs. entries_of bs ≡ []) (λ _ _. refl));
  gives = bind_holds (boot_token w name) _ (λ bs. given_in bs ≡ []) (λ _ _. bind_holds (unused_test w pid tid) _ (λ bs. given_in bs ≡ []) (λ _ _. refl));
  refuses = bind (boot_token w name) _ (found-token w name) (λ _. bind (unused_test w pid tid) _ (if_refuses (was_process w pid || was_thread w tid) OBJECT_NAME_COLLISION refl) (λ _. tt));
  seen = λ is.
      let P : List Basic → Type 0 = λ bs. view m (world_after w bs) ≡ world_after (view m w) (effect (view m w) (boot pid tid name)) in
      bind_holds (boot_token w name) _ P (λ content at. bind_holds (unused_test w pid tid) _ P (λ _ _.
      subst (λ r. view m (world_after w (boot_steps pid tid content)) ≡ world_after (view m w) (on_ok r (boot_steps pid tid))) (sym (same-token m w name ∙ at)) (run-ours m w (boot_steps pid tid content) (rw is refl))));
  hidden = λ out. bind_holds (boot_token w name) _ (λ bs. view m (world_after w bs) ≡ view m w) (λ content _. bind_holds (unused_test w pid tid) _ (λ bs. view m (world_after w bs) ≡ view m w) (λ _ _.
      basic-unseen m (basic w (AddsProcess (new_process pid None (directive_birth pid pid) content))) (AddsThread (new_thread tid pid (directive_birth tid pid))) out refl ∙ basic-unseen m w (AddsProcess (new_process pid None (directive_birth pid pid) content)) out refl));
}

pub token-directs : (m : Group) (w : World) (name : List ℕ) (content : Token) → Directs m w (token name content) word.Token Everyone (token_line w name content)
unfolding own_steps token_line
token-directs m w name content = record {
  is = refl;
  whose = λ v. refl;
  plain = refl;
  silent = bind_holds (refuse_if (is_some (named_token w name)) OBJECT_NAME_COLLISION) _ (λ bs. entries_of bs ≡ []) (λ _ _. refl);
  gives = bind_holds (refuse_if (is_some (named_token w name)) OBJECT_NAME_COLLISION) _ (λ bs. given_in bs ≡ []) (λ _ _. refl);
  refuses = bind (refuse_if (is_some (named_token w name)) OBJECT_NAME_COLLISION) _ (if_refuses (is_some (named_token w name)) OBJECT_NAME_COLLISION refl) (λ _. tt);
  seen = λ is. bind_holds (refuse_if (is_some (named_token w name)) OBJECT_NAME_COLLISION) _ (λ bs. view m (world_after w bs) ≡ world_after (view m w) (effect (view m w) (token name content))) (λ _ _. run-ours m w (NamesToken (record { name = name; token = content }) ∷ []) refl);
  hidden = λ out. absurd (cc);
}

pub thread-directs : (m : Group) (w : World) (tid pid : ℕ) → Directs m w (thread tid pid) word.Thread (Of pid) (thread_line w tid pid)
unfolding own_steps thread_line
thread-directs m w tid pid = record {
  is = refl;
  whose = λ v. refl;
  plain = refl;
  silent = bind_holds (thread_test w tid pid) _ (λ bs. entries_of bs ≡ []) (λ _ _. refl);
  gives = bind_holds (thread_test w tid pid) _ (λ bs. given_in bs ≡ []) (λ _ _. refl);
  refuses = bind (thread_test w tid pid) _ (bind (live_test w pid) _ (if_refuses (not (is_live w pid)) INVALID_CID refl) (λ _. bind (unused_thread_test w tid) _ (if_refuses (was_thread w tid) OBJECT_NAME_COLLISION refl) (λ _. if_refuses (nat_le THREAD_LIMIT (live_count w pid)) QUOTA_EXCEEDED refl))) (λ _. tt);
  seen = λ is. bind_holds (thread_test w tid pid) _ (λ bs. view m (world_after w bs) ≡ world_after (view m w) (effect (view m w) (thread tid pid))) (λ _ _. run-ours m w (effect w (thread tid pid)) (rw is refl));
  hidden = λ out. bind_holds (thread_test w tid pid) _ (λ bs. view m (world_after w bs) ≡ view m w) (λ _ _. basic-unseen m w (AddsThread (new_thread tid pid (directive_birth tid pid))) out refl);
}

free-named : (m : Group) (w : World) (text : List ℕ) (path : Path) → SeenNames m w.bindings → free_name w text ≡ Ok path → free_name (view m w) text ≡ Ok path
free-named m w text path s is = at (free_path w.bindings text) refl is
  where
    at : (r : Result Path NameFault) → free_path w.bindings text ≡ r → as_status r ≡ Ok path → free_name (view m w) text ≡ Ok path
    at (Err f) r is = absurd (cc)
    at (Ok p) r is = rw (free-view m w.bindings text p s r) is

pub dir-directs : (m : Group) (w : World) (text : List ℕ) → SeenNames m w.bindings → Directs m w (dir text) word.Dir Everyone (dir_line w text)
unfolding own_steps dir_line
dir-directs m w text s = record {
  is = refl;
  whose = λ v. refl;
  plain = refl;
  silent = bind_holds (free_name w text) _ (λ bs. entries_of bs ≡ []) (λ _ _. refl);
  gives = bind_holds (free_name w text) _ (λ bs. given_in bs ≡ []) (λ _ _. refl);
  refuses = bind (free_name w text) _ (named (free_path w.bindings text)) (λ _. tt);
  seen = λ is. bind_holds (free_name w text) _ (λ bs. view m (world_after w bs) ≡ world_after (view m w) (effect (view m w) (dir text))) (λ path at.
      rw (free-named m w text path s at) (run-ours m w (Binds path (Stands Directory) ∷ []) refl));
  hidden = λ out. absurd (cc);
}

pub link-directs : (m : Group) (w : World) (text target : List ℕ) → SeenNames m w.bindings → Directs m w (link text target) word.Link Everyone (link_line w text target)
unfolding own_steps link_line
link-directs m w text target s = record {
  is = refl;
  whose = λ v. refl;
  plain = refl;
  silent = bind_holds (spelled_name target) _ (λ bs. entries_of bs ≡ []) (λ to _. bind_holds (free_name w text) _ (λ bs. entries_of bs ≡ []) (λ _ _. refl));
  gives = bind_holds (spelled_name target) _ (λ bs. given_in bs ≡ []) (λ to _. bind_holds (free_name w text) _ (λ bs. given_in bs ≡ []) (λ _ _. refl));
  refuses = bind (spelled_name target) _ (named (spelled target)) (λ to. bind (free_name w text) _ (named (free_path w.bindings text)) (λ _. tt));
  seen = λ is. bind_holds (spelled_name target) _ (λ bs. view m (world_after w bs) ≡ world_after (view m w) (effect (view m w) (link text target))) (λ to to_at.
      bind_holds (free_name w text) _ (λ bs. view m (world_after w bs) ≡ world_after (view m w) (effect (view m w) (link text target))) (λ path at.
      rw (to_at, free-named m w text path s at) (run-ours m w (Binds path (LinkTo to) ∷ []) refl)));
  hidden = λ out. absurd (cc);
}
