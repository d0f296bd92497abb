-- What comes from other processes leaves the requests of one as they are.
use Rattle.std.proofs.Common.{◌≡◌, ◌++◌, ◌∙◌, ◌∷◌, Bool, List, [], ap, arith, cond, false, fold, inl, inr, refl, sym, true, ℕ}
use Rattle.std.specs.Prelude.{◌==◌}
use Rattle.std.proofs.lemmas.Bool.{cases_Bool}
use Rattle.std.proofs.lemmas.Bool.Decides.{nat_tests}
use Rattle.std.proofs.lemmas.List.{append-nil}
use Rattle.std.proofs.lemmas.List.Elements.{filter-append}
use Rattle.lpc_base.specs.Rows.{first, which}
use Rattle.lpc_base.proofs.RowWords.{which-without}
use Rattle.lpc_subsys.specs.Clients.{History, is_of, reply_after, with_request, without_client}
use Rattle.lpc_subsys.specs.Laws.{Event, OthersDontShow, after_event, asks, events_of, joins, leaves, process_of}
use Rattle.lpc_subsys.specs.Requests.{Request}

which-request : (p q : ℕ) (request : Request) (all : List History) → which (is_of p) (with_request q request all) ≡ with_request q request (which (is_of p) all)
which-request p q request [] = refl
which-request p q request (history ∷ all) = grind (arith, which-request p q request all)

-- an event of the process itself
own-event : (p : ℕ) (all : List History) (event : Event) → (process_of event == p) ≡ true → which (is_of p) (after_event all event) ≡ after_event (which (is_of p) all) event
own-event p all (joins q) own =
    filter-append (is_of p) all (record { process = q; requests = [] } ∷ [])
    ∙ ap (λ (b : Bool). which (is_of p) all ++ cond b (record { process = q; requests = [] } ∷ []) []) own
own-event p all (asks q request) own = which-request p q request all
own-event p all (leaves q) own = which-without (is_of p) (is_of q) all

-- an event of another one
other-request : (p q : ℕ) (request : Request) → (q == p) ≡ false → (all : List History) → which (is_of p) (with_request q request all) ≡ which (is_of p) all
other-request p q request off [] = refl
other-request p q request off (history ∷ all) = grind (arith, nat_tests, other-request p q request off all)

other-leaves : (p q : ℕ) → (q == p) ≡ false → (all : List History) → which (is_of p) (without_client q all) ≡ which (is_of p) all
other-leaves p q off [] = refl
other-leaves p q off (history ∷ all) = grind (arith, nat_tests, other-leaves p q off all)

other-event : (p : ℕ) (all : List History) (event : Event) → (process_of event == p) ≡ false → which (is_of p) (after_event all event) ≡ which (is_of p) all
other-event p all (joins q) off =
    filter-append (is_of p) all (record { process = q; requests = [] } ∷ [])
    ∙ ap (λ (b : Bool). which (is_of p) all ++ cond b (record { process = q; requests = [] } ∷ []) []) off
    ∙ append-nil (which (is_of p) all)
other-event p all (asks q request) off = other-request p q request off all
other-event p all (leaves q) off = other-leaves p q off all

-- all events
own-events : (p : ℕ) (all : List History) (events : List Event) → which (is_of p) (fold after_event all events) ≡ fold after_event (which (is_of p) all) (events_of p events)
own-events p all [] = refl
own-events p all (event ∷ events) =
    own-events p (after_event all event) events
    ∙ elim (cases_Bool (process_of event == p)) [
      | inl own ↦
          ap (λ (rows : List History). fold after_event rows (events_of p events)) (own-event p all event own)
          ∙ sym (ap (λ (b : Bool). fold after_event (which (is_of p) all) (cond b (event ∷ events_of p events) (events_of p events))) own)
      | inr off ↦
          ap (λ (rows : List History). fold after_event rows (events_of p events)) (other-event p all event off)
          ∙ sym (ap (λ (b : Bool). fold after_event (which (is_of p) all) (cond b (event ∷ events_of p events) (events_of p events))) off)
    ]

first-which : (p : ℕ) (all : List History) → first (is_of p) all ≡ first (is_of p) (which (is_of p) all)
first-which p [] = refl
first-which p (history ∷ all) = grind (arith, first-which p all)

which-once : (p : ℕ) (events : List Event) (all : List History) → which (is_of p) (fold after_event all (events_of p events)) ≡ fold after_event (which (is_of p) all) (events_of p events)
which-once p [] all = refl
which-once p (event ∷ events) all =
    elim (cases_Bool (process_of event == p)) [
      | inl own ↦
          ap (λ (b : Bool). which (is_of p) (fold after_event all (cond b (event ∷ events_of p events) (events_of p events)))) own
          ∙ which-once p events (after_event all event)
          ∙ ap (λ (rows : List History). fold after_event rows (events_of p events)) (own-event p all event own)
          ∙ sym (ap (λ (b : Bool). fold after_event (which (is_of p) all) (cond b (event ∷ events_of p events) (events_of p events))) own)
      | inr off ↦
          ap (λ (b : Bool). which (is_of p) (fold after_event all (cond b (event ∷ events_of p events) (events_of p events)))) off
          ∙ which-once p events all
          ∙ sym (ap (λ (b : Bool). fold after_event (which (is_of p) all) (cond b (event ∷ events_of p events) (events_of p events))) off)
    ]

pub others-dont-show : OthersDontShow
others-dont-show events process request =
    ap (λ o. reply_after o request)
    (first-which process (fold after_event [] events)
    ∙ ap (first (is_of process)) (own-events process [] events ∙ sym (which-once process events []))
    ∙ sym (first-which process (fold after_event [] (events_of process events))))
