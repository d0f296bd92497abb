use Rattle.std.proofs.Common.{sym, ◌∙◌}
use Rattle.std.specs.Prelude.{codes}
use Rattle.lpc_sid.specs.declared.sid.Sid.{Sid}
use Rattle.lpc_sid.proofs.Spelled.{Spelled, spelled_utf8, front_cut, no_front, no_cut, no_authority, no_numbers, all_parts, read_back, none_read, not_utf8, same_text}
use Rattle.lpc_sid.proofs.sid.Sid.read.Goals as goal

pub returns-in_err-text-clause-value : goal.returns-in_err-text-clause-value
returns-in_err-text-clause-value c =
    let none = λ (sid : Sid) (spelled : Spelled c.args.text.now sid). not_utf8 _ _ _ c.from_utf8.result c.in_err-text.ensures.value c.from_utf8.ensures.cases (spelled_utf8 c.args.text.now sid spelled) in
    c.from_residual.ensures ∙ sym (none_read c.args.text.now none)

pub returns-in_err-text-clause-none : goal.returns-in_err-text-clause-none
returns-in_err-text-clause-none c =
    let none = λ (sid : Sid) (spelled : Spelled c.args.text.now sid). not_utf8 _ _ _ c.from_utf8.result c.in_err-text.ensures.value c.from_utf8.ensures.cases (spelled_utf8 c.args.text.now sid spelled) in
    rw c.from_residual.ensures (λ sid form is. none sid (record { form = form; is = is }))

pub returns-in_err-strip_prefix-clause-value : goal.returns-in_err-strip_prefix-clause-value
returns-in_err-strip_prefix-clause-value c =
    let text = same_text _ _ _ c.from_utf8.result c.in_ok-text.text c.in_ok-text.ensures.value c.from_utf8.ensures.cases in
    let none = no_front c.args.text.now c.in_ok-text.text.now (codes "S-1-") text c.in_err-strip_prefix.ensures.cases in
    c.from_residual-in_err-strip_prefix.ensures ∙ sym (none_read c.args.text.now none)

pub returns-in_err-strip_prefix-clause-none : goal.returns-in_err-strip_prefix-clause-none
returns-in_err-strip_prefix-clause-none c =
    let text = same_text _ _ _ c.from_utf8.result c.in_ok-text.text c.in_ok-text.ensures.value c.from_utf8.ensures.cases in
    let none = no_front c.args.text.now c.in_ok-text.text.now (codes "S-1-") text c.in_err-strip_prefix.ensures.cases in
    rw c.from_residual-in_err-strip_prefix.ensures (λ sid form is. none sid (record { form = form; is = is }))

pub returns-in_err-authority-clause-value : goal.returns-in_err-authority-clause-value
returns-in_err-authority-clause-value c =
    let text = same_text _ _ _ c.from_utf8.result c.in_ok-text.text c.in_ok-text.ensures.value c.from_utf8.ensures.cases in
    let found = c.in_ok-strip_prefix.ensures.cases in
    let front = front_cut c.in_ok-text.text.now c.in_ok-strip_prefix.field-0.now found.0 found.1 found.2 in
    let none = no_cut c.args.text.now c.in_ok-text.text.now c.in_ok-strip_prefix.field-0.now text front c.in_err-authority.ensures.cases in
    c.from_residual-in_err-authority.ensures ∙ sym (none_read c.args.text.now none)

pub returns-in_err-authority-clause-none : goal.returns-in_err-authority-clause-none
returns-in_err-authority-clause-none c =
    let text = same_text _ _ _ c.from_utf8.result c.in_ok-text.text c.in_ok-text.ensures.value c.from_utf8.ensures.cases in
    let found = c.in_ok-strip_prefix.ensures.cases in
    let front = front_cut c.in_ok-text.text.now c.in_ok-strip_prefix.field-0.now found.0 found.1 found.2 in
    let none = no_cut c.args.text.now c.in_ok-text.text.now c.in_ok-strip_prefix.field-0.now text front c.in_err-authority.ensures.cases in
    rw c.from_residual-in_err-authority.ensures (λ sid form is. none sid (record { form = form; is = is }))

pub returns-in_err-authority-2-clause-value : goal.returns-in_err-authority-2-clause-value
returns-in_err-authority-2-clause-value c =
    let text = same_text _ _ _ c.from_utf8.result c.in_ok-text.text c.in_ok-text.ensures.value c.from_utf8.ensures.cases in
    let found = c.in_ok-strip_prefix.ensures.cases in
    let front = front_cut c.in_ok-text.text.now c.in_ok-strip_prefix.field-0.now found.0 found.1 found.2 in
    let none = no_authority c.args.text.now c.in_ok-text.text.now c.in_ok-strip_prefix.field-0.now text c.in_ok-authority.authority c.in_ok-authority.subs front c.in_ok-authority.ensures.cases c.in_err-authority-2.ensures in
    c.from_residual-in_err-authority-2.ensures ∙ sym (none_read c.args.text.now none)

pub returns-in_err-authority-2-clause-none : goal.returns-in_err-authority-2-clause-none
returns-in_err-authority-2-clause-none c =
    let text = same_text _ _ _ c.from_utf8.result c.in_ok-text.text c.in_ok-text.ensures.value c.from_utf8.ensures.cases in
    let found = c.in_ok-strip_prefix.ensures.cases in
    let front = front_cut c.in_ok-text.text.now c.in_ok-strip_prefix.field-0.now found.0 found.1 found.2 in
    let none = no_authority c.args.text.now c.in_ok-text.text.now c.in_ok-strip_prefix.field-0.now text c.in_ok-authority.authority c.in_ok-authority.subs front c.in_ok-authority.ensures.cases c.in_err-authority-2.ensures in
    rw c.from_residual-in_err-authority-2.ensures (λ sid form is. none sid (record { form = form; is = is }))

pub returns-in_err-subs-clause-value : goal.returns-in_err-subs-clause-value
returns-in_err-subs-clause-value c =
    let text = same_text _ _ _ c.from_utf8.result c.in_ok-text.text c.in_ok-text.ensures.value c.from_utf8.ensures.cases in
    let found = c.in_ok-strip_prefix.ensures.cases in
    let front = front_cut c.in_ok-text.text.now c.in_ok-strip_prefix.field-0.now found.0 found.1 found.2 in
    let none = no_numbers c.args.text.now c.in_ok-text.text.now c.in_ok-strip_prefix.field-0.now text c.in_ok-authority.authority c.in_ok-authority.subs front c.in_ok-authority.ensures.cases c.in_err-subs.ensures in
    c.from_residual-in_err-subs.ensures ∙ sym (none_read c.args.text.now none)

pub returns-in_err-subs-clause-none : goal.returns-in_err-subs-clause-none
returns-in_err-subs-clause-none c =
    let text = same_text _ _ _ c.from_utf8.result c.in_ok-text.text c.in_ok-text.ensures.value c.from_utf8.ensures.cases in
    let found = c.in_ok-strip_prefix.ensures.cases in
    let front = front_cut c.in_ok-text.text.now c.in_ok-strip_prefix.field-0.now found.0 found.1 found.2 in
    let none = no_numbers c.args.text.now c.in_ok-text.text.now c.in_ok-strip_prefix.field-0.now text c.in_ok-authority.authority c.in_ok-authority.subs front c.in_ok-authority.ensures.cases c.in_err-subs.ensures in
    rw c.from_residual-in_err-subs.ensures (λ sid form is. none sid (record { form = form; is = is }))

pub returns-clause-value : goal.returns-clause-value
returns-clause-value c =
    let text = same_text _ _ _ c.from_utf8.result c.in_ok-text.text c.in_ok-text.ensures.value c.from_utf8.ensures.cases in
    let found = c.in_ok-strip_prefix.ensures.cases in
    let front = front_cut c.in_ok-text.text.now c.in_ok-strip_prefix.field-0.now found.0 found.1 found.2 in
    let spelled = all_parts c.args.text.now c.in_ok-text.text.now c.in_ok-strip_prefix.field-0.now text c.in_ok-authority.authority c.in_ok-authority.subs front c.in_ok-authority.ensures.cases (record { authority = c.in_ok-authority-2.authority; subs = c.in_ok-subs.subs }) (record { authority = c.in_ok-authority-2.ensures.1; subs = c.in_ok-subs.ensures.1 }) c.in_ok-authority-2.ensures.0 c.in_ok-subs.ensures.0 in
    sym (read_back c.args.text.now _ spelled)

pub returns-clause-spelling : goal.returns-clause-spelling
returns-clause-spelling c =
    let text = same_text _ _ _ c.from_utf8.result c.in_ok-text.text c.in_ok-text.ensures.value c.from_utf8.ensures.cases in
    let found = c.in_ok-strip_prefix.ensures.cases in
    let front = front_cut c.in_ok-text.text.now c.in_ok-strip_prefix.field-0.now found.0 found.1 found.2 in
    let spelled = all_parts c.args.text.now c.in_ok-text.text.now c.in_ok-strip_prefix.field-0.now text c.in_ok-authority.authority c.in_ok-authority.subs front c.in_ok-authority.ensures.cases (record { authority = c.in_ok-authority-2.authority; subs = c.in_ok-subs.subs }) (record { authority = c.in_ok-authority-2.ensures.1; subs = c.in_ok-subs.ensures.1 }) c.in_ok-authority-2.ensures.0 c.in_ok-subs.ensures.0 in
    spelled.is

pub returns-clause-form : goal.returns-clause-form
returns-clause-form c =
    let text = same_text _ _ _ c.from_utf8.result c.in_ok-text.text c.in_ok-text.ensures.value c.from_utf8.ensures.cases in
    let found = c.in_ok-strip_prefix.ensures.cases in
    let front = front_cut c.in_ok-text.text.now c.in_ok-strip_prefix.field-0.now found.0 found.1 found.2 in
    let spelled = all_parts c.args.text.now c.in_ok-text.text.now c.in_ok-strip_prefix.field-0.now text c.in_ok-authority.authority c.in_ok-authority.subs front c.in_ok-authority.ensures.cases (record { authority = c.in_ok-authority-2.authority; subs = c.in_ok-subs.subs }) (record { authority = c.in_ok-authority-2.ensures.1; subs = c.in_ok-subs.ensures.1 }) c.in_ok-authority-2.ensures.0 c.in_ok-subs.ensures.0 in
    spelled.form
