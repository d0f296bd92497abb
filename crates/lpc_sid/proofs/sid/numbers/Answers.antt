use Rattle.std.proofs.Common.{◌∙◌, ◌≡◌, lit<}
use Rattle.std.specs.Prelude.{Result, Ok, Err, None, Some, OnErr}
use Rattle.std.specs.Result.{result_ok}
use Rattle.std.proofs.lemmas.Iterator.Consumers.{YieldsList-at, YieldsList-turn, YieldsList-end}
use Rattle.std.proofs.lemmas.List.{length-map}
use Rattle.std.proofs.lemmas.Iterator.Splits.{YieldsList-from_str_split}
use Rattle.lpc_sid.proofs.Numbers.{no_other, too_many}
use Rattle.lpc_sid.proofs.sid.numbers.Goals as goal

when_full : {E : Type 0} (P : Type 0) (r : Result Unit E) → None ≡ result_ok r → OnErr r P → P
when_full P (Ok u) is full = let e : None ≡ Some u = is in absurd cc
when_full P (Err e) is full = full

pub returns-in_err-number : goal.returns-in_err-number
returns-in_err-number c =
    let road = YieldsList-at c.into_iter-part-iterator.ensures.into_iter_gives (YieldsList-from_str_split 45 c.args.text.now (lit< tt) c.split-part-items.ensures.text c.split-part-items.ensures.has_more c.split-part-items.ensures.pattern) in
    let here = YieldsList-turn road c.loop-part.yielded c.loop-part.part-iterator c.loop-part.yielded_by c.next.result c.next.new.self c.in-Some.part c.in-Some.is c.next.ensures.steps in
    rw c.from_residual.ensures (λ ns words is. no_other ns _ _ _ words is here c.in_err-number.ensures)

pub returns-in_err-ok : goal.returns-in_err-ok
returns-in_err-ok c =
    let road = YieldsList-at c.into_iter-part-iterator.ensures.into_iter_gives (YieldsList-from_str_split 45 c.args.text.now (lit< tt) c.split-part-items.ensures.text c.split-part-items.ensures.has_more c.split-part-items.ensures.pattern) in
    let here = YieldsList-turn road c.loop-part.yielded c.loop-part.part-iterator c.loop-part.yielded_by c.next.result c.next.new.self c.in-Some.part c.in-Some.is c.next.ensures.steps in
    let full = when_full _ _ c.in_err-ok.ensures.value c.try_push.ensures.full in
    rw c.from_residual-in_err-ok.ensures (λ ns words is. too_many ns c.loop-part.list.items _ _ words is c.loop-part.invariant.text (simp length-map here.0) full)

pub returns : goal.returns
returns c =
    let road = YieldsList-at c.into_iter-part-iterator.ensures.into_iter_gives (YieldsList-from_str_split 45 c.args.text.now (lit< tt) c.split-part-items.ensures.text c.split-part-items.ensures.has_more c.split-part-items.ensures.pattern) in
    let end = YieldsList-end road c.loop-part.yielded c.loop-part.part-iterator c.loop-part.yielded_by c.next.result c.next.new.self c.in-None.is c.next.ensures.steps in
    (c.loop-part.invariant.words, c.loop-part.invariant.text ∙ end.0)
