use Rattle.std.proofs.Common.{◌≡◌, ◌<◌, length, take, arith, refl, sym, ◌∙◌}
use Rattle.std.proofs.lemmas.List.{take_all}
use Rattle.lpc_model.specs.Text.{call_text}
use Rattle.lpc_words.proofs.Calls.{begun_with, call_dense, word_in_front, word_is_all}
use Rattle.lpc_words.proofs.names.behind_name.Goals as goal

pub returns-then-end-text-clause-words : goal.returns-then-end-text-clause-words
returns-then-end-text-clause-words c =
    let name = c.name-name.ensures in
    let front : take (length (call_text c.args.call)) c.args.text.now ≡ call_text c.args.call = rw name at (begun_with c.args.text.now c.name-name.result.now (sym c.if-not-starts_with.ensures.value)) in
    let all : take (length (call_text c.args.call)) c.args.text.now ≡ c.args.text.now = take_all _ _ (let same = rw name at c.if-end-text.true in omega arith) in
    word_is_all c.args.text.now (call_text c.args.call) (call_dense c.args.call) (sym all ∙ front)

pub returns-clause-words : goal.returns-clause-words
returns-clause-words c =
    let name = c.name-name.ensures in
    let front : take (length (call_text c.args.call)) c.args.text.now ≡ call_text c.args.call = rw name at (begun_with c.args.text.now c.name-name.result.now (sym c.if-not-starts_with.ensures.value)) in
    let most = c.if-not-starts_with.ensures.bound refl in
    let short : length c.name-name.result.now < length c.args.text.now = grind arith in
    let inside : length (call_text c.args.call) < length c.args.text.now = rw name at short in
    rw name (word_in_front c.args.text.now (call_text c.args.call) (call_dense c.args.call) front inside (rw name at c.if-text-end-ne32.false))
