use Rattle.std.proofs.Common.{rules, ◌≡◌, sym, ap, ◌∙◌, ◌++◌, ℕ, ◌+◌, ◌<◌, ◌≤◌, List, get_or, length, take, take_all, vec_capacity}
use Rattle.std.proofs.lemmas.List.Folds.{flat_map-map, length-flat_map-take}
use Rattle.lpc_model.specs.Listed.{Aside, shown_entry}
use Rattle.lpc_model.specs.Text.{entries_text, entry_text}
use Rattle.lpc_model.specs.declared.entry.Entry.{Entry}
use Rattle.lpc_transcript.specs.Printing.{LacksRoom, aside_of, gathered, line_of, lines_of}
use Rattle.lpc_transcript.proofs.Placed.{part_lacks, whole_lacks}
use Rattle.lpc_transcript.proofs.text.put_entries.Goals as goal

-- the text of the entries before one, and its own, are no longer than that of all
no_longer : (line : ℕ) (aside : Aside) (entries : List Entry) (at : ℕ) (entry : Entry) → at < length entries → entry ≡ get_or entries at entry → length (lines_of line aside (take at entries)) + length (line_of line aside entry) ≤ length (lines_of line aside entries)
unfolding entries_text
no_longer line aside entries at entry below is =
    let all = rw (sym is) at (length-flat_map-take (λ e. entry_text line (shown_entry aside e)) entries at entry below) in
    simp flat_map-map all

pub returns-in_err-end-clause-wanting : goal.returns-in_err-end-clause-wanting
returns-in_err-end-clause-wanting c =
    let aside = aside_of c.args.read.now c.args.groups.now in
    let more = no_longer c.args.line aside c.args.entries.now c.loop-entry.entry-index c.entry-item.result c.loop-entry-test.true c.entry-item.is in
    let lacks : LacksRoom c.args.into.now (lines_of c.args.line aside c.args.entries.now) =
    part_lacks (vec_capacity c.loop-entry.into) (vec_capacity c.args.into.now) (gathered c.loop-entry.into c.loop-entry.buffer c.loop-entry.end) c.args.into.now.items (lines_of c.args.line aside (take c.loop-entry.entry-index c.args.entries.now)) (line_of c.args.line aside c.entry-item.result) (lines_of c.args.line aside c.args.entries.now)
    c.loop-entry.invariant.text c.loop-entry.invariant.room c.in_err-end.ensures.wanting more in
    search (rules, lacks)

pub returns-clause-wanting : goal.returns-clause-wanting
returns-clause-wanting c =
    let aside = aside_of c.args.read.now c.args.groups.now in
    let all : take c.loop-entry.entry-index c.args.entries.now ≡ c.args.entries.now = take_all _ _ c.loop-entry-test.false in
    let text = c.loop-entry.invariant.text ∙ ap (λ entries. c.args.into.now.items ++ lines_of c.args.line aside entries) all in
    whole_lacks c.args.into.now c.loop-entry.into (take c.loop-entry.end c.loop-entry.buffer) (lines_of c.args.line aside c.args.entries.now) c.put.result
    text c.loop-entry.invariant.room c.put.ensures.wanting
