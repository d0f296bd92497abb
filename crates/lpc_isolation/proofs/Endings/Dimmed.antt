-- Waits that end early or late leave the same, but for marks, where no step of theirs comes in between.
use Rattle.std.proofs.Common.{◌≡◌, ℕ, List, [], ◌∷◌, ◌++◌, Bool, true, not, refl, ap, sym, ◌∙◌}
use Rattle.lpc_base.specs.Rows.{every, without}
use Rattle.lpc_base.proofs.Bools.{first-true, second-true}
use Rattle.lpc_base.proofs.RowWords.{which-without}
use Rattle.lpc_model.specs.declared.entry.Entry.{Entry}
use Rattle.lpc_model.specs.declared.entry.Entry.TheVariants as entry
use Rattle.lpc_model.specs.declared.entry.ObjectKind.{ObjectKind}
use Rattle.lpc_model.specs.declared.entry.ObjectKind.TheVariants as kind
use Rattle.lpc_model.specs.World.{Birth, World}
use Rattle.lpc_model.specs.Found.{is_mark, waits_as, waits_at}
use Rattle.lpc_model.specs.Basics.{Accepts, Awaits, Basic, Dies, Frees, Leaves, Marks, Receives, Wakes, accepted, basic, left_by, received, world_after}
use Rattle.lpc_isolation.proofs.Views.Apart.{absorb, absorb_all}
use Rattle.lpc_isolation.proofs.Views.Filters.{kept-change, kept-push}

-- a world without its marks
abbrev pub dimmed : World → World
dimmed w = record w { marks = [] }

dim-freed : (w : World) (k : ObjectKind) (b : Birth) → dimmed (basic w (Frees (record { kind = k; birth = b }))) ≡ dimmed (basic (dimmed w) (Frees (record { kind = k; birth = b })))
dim-freed w kind.Port b = refl
dim-freed w kind.Section b = refl
dim-freed w kind.Token b = refl
dim-freed w kind.Process b = refl
dim-freed w kind.Thread b = refl

dim-basic : (w : World) (b : Basic) → dimmed (basic w b) ≡ dimmed (basic (dimmed w) b)
dim-basic w (Frees n) = dim-freed w n.kind n.birth
dim-basic w b = refl

same-basic : (w v : World) (b : Basic) → dimmed w ≡ dimmed v → dimmed (basic w b) ≡ dimmed (basic v b)
same-basic w v b same = dim-basic w b ∙ ap (λ u. dimmed (basic u b)) same ∙ sym (dim-basic v b)

pub same-run : (w v : World) (bs : List Basic) → dimmed w ≡ dimmed v → dimmed (world_after w bs) ≡ dimmed (world_after v bs)
same-run w v [] same = same
same-run w v (b ∷ bs) same = same-run (basic w b) (basic v b) bs (same-basic w v b same)

same-absorb : (w v : World) (e : Entry) → dimmed w ≡ dimmed v → dimmed (absorb w e) ≡ dimmed (absorb v e)
same-absorb w v (entry.Wakes who call status fields) same = same-basic w v (Wakes who call status fields) same
same-absorb w v (entry.Answer who call status fields) same = same
same-absorb w v (entry.Waits who call fields) same = same
same-absorb w v (entry.Busy who) same = same
same-absorb w v (entry.NoThread who) same = same
same-absorb w v (entry.Died who status) same = same
same-absorb w v (entry.Directive name status) same = same

pub same-absorbed : (w v : World) (es : List Entry) → dimmed w ≡ dimmed v → dimmed (absorb_all w es) ≡ dimmed (absorb_all v es)
same-absorbed w v [] same = same
same-absorbed w v (e ∷ es) same = same-absorbed (absorb w e) (absorb v e) es (same-absorb w v e same)

-- A wait ends before steps, or behind them
abbrev pub begins_none : ℕ → Basic → Bool
begins_none who (Awaits x) = not (waits_as who x)
begins_none who b = true

left-freed : (who : ℕ) (w : World) (k : ObjectKind) (b : Birth) → dimmed (basic (left_by who w) (Frees (record { kind = k; birth = b }))) ≡ dimmed (left_by who (basic w (Frees (record { kind = k; birth = b }))))
left-freed who w kind.Port b = refl
left-freed who w kind.Section b = refl
left-freed who w kind.Token b = refl
left-freed who w kind.Process b = refl
left-freed who w kind.Thread b = refl

left-basic : (who : ℕ) (w : World) (b : Basic) → begins_none who b ≡ true → dimmed (basic (left_by who w) b) ≡ dimmed (left_by who (basic w b))
left-basic who w (Wakes n call status fields) ok = ap (λ xs. record w { waits = xs; marks = [] }) (which-without (λ x. not (waits_as n x)) (waits_as who) w.waits)
left-basic who w (Leaves n) ok = ap (λ xs. record w { waits = xs; marks = [] }) (which-without (λ x. not (waits_as n x)) (waits_as who) w.waits)
left-basic who w (Dies n status) ok = ap (λ xs. record (basic w (Dies n status)) { waits = xs; marks = [] }) (which-without (λ x. not (waits_as n x)) (waits_as who) w.waits)
left-basic who w (Awaits x) ok = ap (λ xs. record w { waits = xs; marks = [] }) (sym (kept-push (λ y. not (waits_as who y)) w.waits x ok))
left-basic who w (Receives n queue) ok = ap (λ xs. record w { waits = xs; marks = [] }) (sym (kept-change (λ x. not (waits_as who x)) (waits_at n queue) received (λ x. refl) w.waits))
left-basic who w (Accepts n a) ok = ap (λ xs. record w { waits = xs; marks = [] }) (sym (kept-change (λ x. not (waits_as who x)) (waits_as n) (accepted a) (λ x. refl) w.waits))
left-basic who w (Frees n) ok = left-freed who w n.kind n.birth
left-basic who w b ok = refl

left-run : (who : ℕ) (w : World) (bs : List Basic) → every (begins_none who) bs ≡ true → dimmed (world_after (left_by who w) bs) ≡ dimmed (left_by who (world_after w bs))
left-run who w [] ok = refl
left-run who w (b ∷ bs) ok =
    same-run (basic (left_by who w) b) (left_by who (basic w b)) bs (left-basic who w b (first-true _ _ ok))
    ∙ left-run who (basic w b) bs (second-true (begins_none who b) _ ok)

-- and so do the waits of whom entries tell
abbrev pub unbegun : List Basic → Entry → Bool
unbegun bs (entry.Wakes who call status fields) = every (begins_none who) bs
unbegun bs (entry.Answer who call status fields) = true
unbegun bs (entry.Waits who call fields) = true
unbegun bs (entry.Busy who) = true
unbegun bs (entry.NoThread who) = true
unbegun bs (entry.Died who status) = true
unbegun bs (entry.Directive name status) = true

absorb-run : (w : World) (e : Entry) (bs : List Basic) → unbegun bs e ≡ true → dimmed (world_after (absorb w e) bs) ≡ dimmed (absorb (world_after w bs) e)
absorb-run w (entry.Wakes who call status fields) bs ok = left-run who w bs ok
absorb-run w (entry.Answer who call status fields) bs ok = refl
absorb-run w (entry.Waits who call fields) bs ok = refl
absorb-run w (entry.Busy who) bs ok = refl
absorb-run w (entry.NoThread who) bs ok = refl
absorb-run w (entry.Died who status) bs ok = refl
absorb-run w (entry.Directive name status) bs ok = refl

pub absorbed-run : (w : World) (es : List Entry) (bs : List Basic) → every (unbegun bs) es ≡ true → dimmed (world_after (absorb_all w es) bs) ≡ dimmed (absorb_all (world_after w bs) es)
absorbed-run w [] bs ok = refl
absorbed-run w (e ∷ es) bs ok =
    absorbed-run (absorb w e) es bs (second-true (unbegun bs e) _ ok)
    ∙ same-absorbed (world_after (absorb w e) bs) (absorb (world_after w bs) e) es (absorb-run w e bs (first-true _ _ ok))

-- Entries in either order
absorb-swap : (w : World) (e f : Entry) → absorb (absorb w e) f ≡ absorb (absorb w f) e
absorb-swap w (entry.Wakes who call status fields) (entry.Wakes n call' status' fields') =
    ap (λ xs. record w { waits = xs; marks = without (is_mark n) (without (is_mark who) w.marks) }) (which-without (λ x. not (waits_as n x)) (waits_as who) w.waits)
    ∙ ap (λ ms. record w { waits = without (waits_as who) (without (waits_as n) w.waits); marks = ms }) (which-without (λ k. not (is_mark n k)) (is_mark who) w.marks)
absorb-swap w (entry.Wakes who call status fields) (entry.Answer n call' status' fields') = refl
absorb-swap w (entry.Wakes who call status fields) (entry.Waits n call' fields') = refl
absorb-swap w (entry.Wakes who call status fields) (entry.Busy n) = refl
absorb-swap w (entry.Wakes who call status fields) (entry.NoThread n) = refl
absorb-swap w (entry.Wakes who call status fields) (entry.Died n status') = refl
absorb-swap w (entry.Wakes who call status fields) (entry.Directive name status') = refl
absorb-swap w (entry.Answer who call status fields) f = refl
absorb-swap w (entry.Waits who call fields) f = refl
absorb-swap w (entry.Busy who) f = refl
absorb-swap w (entry.NoThread who) f = refl
absorb-swap w (entry.Died who status) f = refl
absorb-swap w (entry.Directive name status) f = refl

absorb-last : (w : World) (e : Entry) (es : List Entry) → absorb_all (absorb w e) es ≡ absorb (absorb_all w es) e
absorb-last w e [] = refl
absorb-last w e (f ∷ es) = ap (λ v. absorb_all v es) (absorb-swap w e f) ∙ absorb-last (absorb w f) e es

pub absorbed-swap : (w : World) (es fs : List Entry) → absorb_all (absorb_all w es) fs ≡ absorb_all (absorb_all w fs) es
absorbed-swap w [] fs = refl
absorbed-swap w (e ∷ es) fs = absorbed-swap (absorb w e) es fs ∙ ap (λ v. absorb_all v es) (absorb-last w e fs)

-- Marks follow from marks
abbrev marks_by : List ℕ → Basic → List ℕ
marks_by ms (Wakes who call status fields) = without (is_mark who) ms
marks_by ms (Leaves who) = without (is_mark who) ms
marks_by ms (Dies who status) = without (is_mark who) ms
marks_by ms (Marks who) = ms ++ who ∷ []
marks_by ms b = ms

marks-freed : (w : World) (k : ObjectKind) (b : Birth) → (basic w (Frees (record { kind = k; birth = b }))).marks ≡ w.marks
marks-freed w kind.Port b = refl
marks-freed w kind.Section b = refl
marks-freed w kind.Token b = refl
marks-freed w kind.Process b = refl
marks-freed w kind.Thread b = refl

marks-basic : (w : World) (b : Basic) → (basic w b).marks ≡ marks_by w.marks b
marks-basic w (Frees n) = marks-freed w n.kind n.birth
marks-basic w b = refl

pub marks-run : (w v : World) (bs : List Basic) → w.marks ≡ v.marks → (world_after w bs).marks ≡ (world_after v bs).marks
marks-run w v [] same = same
marks-run w v (b ∷ bs) same = marks-run (basic w b) (basic v b) bs (marks-basic w b ∙ ap (λ ms. marks_by ms b) same ∙ sym (marks-basic v b))
