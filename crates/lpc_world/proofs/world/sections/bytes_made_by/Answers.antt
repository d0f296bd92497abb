use Rattle.std.proofs.Common.{◌≡◌, ◌+◌, ℕ, Bool, true, false, List, ◌∷◌, Some, cond, drop, length, map, slice_get, ap, sym, ◌∙◌, arith}
use Rattle.std.specs.Prelude.{◌==◌}
use Rattle.std.proofs.lemmas.List.Sums.{sum-map, sum_by-cons}
use Rattle.std.proofs.lemmas.Bool.Decides.{nat_tests}
use Rattle.std.specs.List.{sum}
use Rattle.lpc_base.specs.Rows.{which}
use Rattle.lpc_base.specs.declared.birth.Birth.{Birth}
use Rattle.lpc_model.specs.Memory.{is_section_of}
use Rattle.lpc_model.specs.World as model
use Rattle.lpc_rows.specs.Shown.{shown_section}
use Rattle.lpc_sections.specs.Sections.{SectionRow}
use Rattle.lpc_slots.proofs.Walk.{drop_row}
use Rattle.lpc_slots.specs.Table.{listed}
use Rattle.lpc_slots.specs.declared.Key.{Key}
use Rattle.lpc_world.proofs.world.sections.bytes_made_by.Goals as goal
use Rattle.lpc_world.proofs.world.sections.bytes_made_by.Goals.{then-birth-pid, else-birth-pid}

abbrev load_in : ℕ → List (Key × SectionRow) → ℕ
load_in pid rows = sum (map (λ s. s.size) (which (is_section_of pid) (map shown_section rows)))

-- the bytes of the section at a place, and those of the sections behind it
load_on : (pid : ℕ) (rows : List (Key × SectionRow)) (place : ℕ) (row : Key × SectionRow) → slice_get rows place ≡ Some row → load_in pid (drop place rows) ≡ cond (row.1.birth.process == pid) (length row.1.bytes) 0 + load_in pid (drop (place + 1) rows)
load_on pid rows place row here = ap (load_in pid) (drop_row rows place row here) ∙ by (row.1.birth.process == pid)
  where
    rest : List model.SectionRow
    rest = which (is_section_of pid) (map shown_section (drop (place + 1) rows))

    by : (b : Bool) → sum (map (λ s. s.size) (cond b (shown_section row ∷ rest) rest)) ≡ cond b (length row.1.bytes) 0 + sum (map (λ s. s.size) rest)
    by true = sum-map (λ (s : model.SectionRow). s.size) (shown_section row ∷ rest) ∙ sum_by-cons (λ (s : model.SectionRow). s.size) (shown_section row) rest ∙ ap (λ k. length row.1.bytes + k) (sym (sum-map (λ (s : model.SectionRow). s.size) rest))
    by false = omega arith

same_number : (m n : ℕ) → m ≡ n → (m == n) ≡ true
same_number m n is = grind (arith, nat_tests)

other_number : (m n : ℕ) → (m ≡ n → ⊥) → (m == n) ≡ false
other_number m n off = grind (arith, nat_tests)

pub overflow_add-bytes : goal.overflow_add-bytes
overflow_add-bytes c = omega (arith, c.loop-place.invariant.most, c.loop-place-test.true, c.count-place-end.ensures.most, c.requires.few, c.size.ensures.pages.most)

pub loop-place-preserved : goal.loop-place-preserved
loop-place-preserved c =
    let further = load_on c.args.pid (listed c.args.sections.now) c.loop-place.place (c.row.result.0, c.row.result.1.now) c.row.ensures in
    let sum = c.loop-place.invariant.sum in
    let most = c.loop-place.invariant.most in
    let own = ap (λ (b : Birth). b.process == c.args.pid) (sym c.birth.ensures) in
    let here = λ (b : Bool). cond b (length c.row.result.1.now.bytes) 0 in
    elim c.if-birth-pid.branch [
      | then-birth-pid w ↦ record { sum = omega (arith, sum, further, w.bytes-is, w.size.ensures.size, ap here (own ∙ same_number c.birth.result.process c.args.pid w.if-birth-pid.true)); most = omega (arith, most, w.bytes-is, w.size.ensures.pages.most) }
      | else-birth-pid w ↦ record { sum = omega (arith, sum, further, w.bytes-is, ap here (own ∙ other_number c.birth.result.process c.args.pid w.if-birth-pid.false)); most = omega (arith, most, w.bytes-is) }
    ]
